-- How many pages a round may still come to, and how many removed leaves are ahead.
use Rattle.progress.proofs.Words.{◌≡◌, ◌<◌, ◌≤◌, ◌+◌, ◌*◌, ℕ, zero, suc, Bool, true, false, refl, sym, ap, ◌∙◌, arith, Contains, is_below, is_removed, level_in, LivePage, reaches, IsBelow, Key}
use Rattle.progress.proofs.Words.{or_left, or_right, not, ◌&&◌, ◌||◌, ◌==◌, either, not_true, below_not, below_upto, not_below, upto_refl}
use Rattle.progress.proofs.Tallies.{itself}
use Rattle.std.proofs.lemmas.Bool.{not_from_false, or_from, eqb-true}
use Rattle.base_page.proofs.KeyLaws.{and_both, and_left, and_right}
use Rattle.progress.proofs.rounds.Counts.{any, any_in, any_of, has_number, many, many_more, many_none, many_up, many_within, numbers, numbers_length}
use Rattle.progress.proofs.rounds.Pages.{On, Standing, chain_on, low_of, same_pid}

or_cases : {G : Type 0} (b c : Bool) → (b || c) ≡ true → (b ≡ true → G) → (c ≡ true → G) → G
or_cases true c e f g = f refl
or_cases false c e f g = g e

module _ (w : Standing) where
  is_there : ℕ → ℕ → Bool
  is_there level pid = any (λ (page : LivePage). page.pid == pid) (w.tree.pages level)

  -- whether the page of the PID is of a level below this one
  is_under : ℕ → ℕ → Bool
  is_under zero pid = false
  is_under (suc level) pid = is_there level pid || is_under level pid

  -- whether it is of this level, and begins at or above the key
  is_ahead : ℕ → Key → ℕ → Bool
  is_ahead level low pid = any (λ (page : LivePage). (page.pid == pid) && not (is_below (low_of page) low)) (w.tree.pages level)

  -- how many pages are below a level, and on it from a key on; with one more for each level, where a removed page may be read before one goes round it
  pub under_all : ℕ → ℕ
  under_all level = many (is_under level) (numbers w.limits.pids) + level

  pub left_from : ℕ → Key → ℕ
  left_from level low = many (λ pid. is_under level pid || is_ahead level low pid) (numbers w.limits.pids) + level

  -- a page below a level is of another level
  not_under : (level : ℕ) (page : LivePage) (high : ℕ) → On w high page → level ≤ high → is_under level page.pid ≡ false
  unfolding is_under is_there
  not_under zero page high on le = refl
  not_under (suc level) page high on le = or_from (is_there level page.pid) (is_under level page.pid) not_there (not_under level page high on (omega (arith, le)))
    where
      not_there : is_there level page.pid ≡ false
      not_there = either (is_there level page.pid)
          (λ so.
          let f = any_of (λ (q : LivePage). q.pid == page.pid) (w.tree.pages level) so in
          let same : f.0 ≡ page = same_pid w f.0 page (chain_on w level f.0 f.1) (chain_on w high page on) (eqb-true f.0.pid page.pid f.2) in
          let one = (w.tree.each level f.0 f.1).level_is in
          let two = (w.tree.each high page on).level_is in
          let levels : level ≡ high = sym one ∙ ap (λ (q : LivePage). level_in q.chain) same ∙ two in
          absurd (omega (arith, le, levels)))
          (λ off. off)

  -- a page isn't ahead of a key above it
  not_ahead : (level : ℕ) (page : LivePage) (low : Key) → On w level page → IsBelow (low_of page) low → is_ahead level low page.pid ≡ false
  unfolding is_ahead
  not_ahead level page low on less = either (is_ahead level low page.pid)
      (λ so.
      let f = any_of (λ (q : LivePage). (q.pid == page.pid) && not (is_below (low_of q) low)) (w.tree.pages level) so in
      let pids = and_left (f.0.pid == page.pid) (not (is_below (low_of f.0) low)) f.2 in
      let up = not_true (is_below (low_of f.0) low) (and_right (f.0.pid == page.pid) (not (is_below (low_of f.0) low)) f.2) in
      let same : f.0 ≡ page = same_pid w f.0 page (chain_on w level f.0 f.1) (chain_on w level page on) (eqb-true f.0.pid page.pid pids) in
      absurd (not_below (low_of page) low less (rw (← same) up)))
      (λ off. off)

  ahead_itself : (level : ℕ) (page : LivePage) → On w level page → is_ahead level (low_of page) page.pid ≡ true
  unfolding is_ahead
  ahead_itself level page on = any_in (λ (q : LivePage). (q.pid == page.pid) && not (is_below (low_of q) (low_of page))) (w.tree.pages level) page on
      (and_both (page.pid == page.pid) (not (is_below (low_of page) (low_of page))) (itself page.pid) (not_from_false (is_below (low_of page) (low_of page)) (upto_refl (low_of page))))

  is_number : (level : ℕ) (page : LivePage) → On w level page → Contains (numbers w.limits.pids) page.pid
  is_number level page on = has_number w.limits.pids page.pid (w.tree.each level page on).pid

  -- to the right fewer are left
  pub left_less : (level : ℕ) (page : LivePage) (low : Key) → On w level page → IsBelow (low_of page) low → left_from level low < left_from level (low_of page)
  unfolding left_from is_ahead
  left_less level page low on less =
      let more = many_more (λ pid. is_under level pid || is_ahead level low pid) (λ pid. is_under level pid || is_ahead level (low_of page) pid) (numbers w.limits.pids) page.pid
      (λ pid among so. more_ahead pid so)
      (is_number level page on)
      (or_from (is_under level page.pid) (is_ahead level low page.pid) (not_under level page level on (omega arith)) (not_ahead level page low on less))
      (or_right (is_under level page.pid) (is_ahead level (low_of page) page.pid) (ahead_itself level page on))
      in
      omega (arith, more)
    where
      more_ahead : (pid : ℕ) → (is_under level pid || is_ahead level low pid) ≡ true → (is_under level pid || is_ahead level (low_of page) pid) ≡ true
      more_ahead pid so = or_cases (is_under level pid) (is_ahead level low pid) so
          (λ here. or_left (is_under level pid) (is_ahead level (low_of page) pid) here)
          (λ here.
          let f = any_of (λ (q : LivePage). (q.pid == pid) && not (is_below (low_of q) low)) (w.tree.pages level) here in
          let pids = and_left (f.0.pid == pid) (not (is_below (low_of f.0) low)) f.2 in
          let up = not_true (is_below (low_of f.0) low) (and_right (f.0.pid == pid) (not (is_below (low_of f.0) low)) f.2) in
          or_right (is_under level pid) (is_ahead level (low_of page) pid)
          (any_in (λ (q : LivePage). (q.pid == pid) && not (is_below (low_of q) (low_of page))) (w.tree.pages level) f.0 f.1
          (and_both (f.0.pid == pid) (not (is_below (low_of f.0) (low_of page))) pids
          (not_from_false (is_below (low_of f.0) (low_of page)) (below_not (low_of page) (low_of f.0) (below_upto (low_of page) low (low_of f.0) less up))))))

  -- below a page fewer are left
  pub left_more : (level : ℕ) (page : LivePage) → On w level page → under_all level < left_from level (low_of page)
  unfolding left_from under_all
  left_more level page on =
      let more = many_more (is_under level) (λ pid. is_under level pid || is_ahead level (low_of page) pid) (numbers w.limits.pids) page.pid
      (λ pid among so. or_left (is_under level pid) (is_ahead level (low_of page) pid) so)
      (is_number level page on)
      (not_under level page level on (omega arith))
      (or_right (is_under level page.pid) (is_ahead level (low_of page) page.pid) (ahead_itself level page on))
      in
      omega (arith, more)

  pub left_some : (level : ℕ) (page : LivePage) → On w level page → 0 < left_from level (low_of page)
  left_some level page on = let more = left_more level page on in omega (arith, more)

  pub left_within : (level : ℕ) (low : Key) → left_from level low < under_all (suc level)
  unfolding left_from under_all is_under is_there is_ahead
  left_within level low =
      let up = many_up (λ pid. is_under level pid || is_ahead level low pid) (is_under (suc level)) (numbers w.limits.pids) (λ pid among so. or_cases (is_under level pid) (is_ahead level low pid) so
      (λ here. or_right (is_there level pid) (is_under level pid) here)
      (λ here.
      let f = any_of (λ (q : LivePage). (q.pid == pid) && not (is_below (low_of q) low)) (w.tree.pages level) here in
      or_left (is_there level pid) (is_under level pid) (any_in (λ (q : LivePage). q.pid == pid) (w.tree.pages level) f.0 f.1 (and_left (f.0.pid == pid) (not (is_below (low_of f.0) low)) f.2))))
      in
      omega (arith, up)

  -- there are no more than PIDs, and levels
  pub left_few : (level : ℕ) (low : Key) → left_from level low ≤ w.limits.pids + level
  unfolding left_from
  left_few level low = let few = many_within (λ pid. is_under level pid || is_ahead level low pid) (numbers w.limits.pids) in let all = numbers_length w.limits.pids in omega (arith, few, all)

  pub under_few : (level : ℕ) → under_all level ≤ w.limits.pids + level
  unfolding under_all
  under_few level = let few = many_within (is_under level) (numbers w.limits.pids) in let all = numbers_length w.limits.pids in omega (arith, few, all)

  -- those below a level are fewer than those below the next one
  pub under_less : (level : ℕ) → under_all level < under_all (suc level)
  unfolding under_all is_under
  under_less level = let up = many_up (is_under level) (is_under (suc level)) (numbers w.limits.pids) (λ pid among so. or_right (is_there level pid) (is_under level pid) so) in omega (arith, up)

  -- those below a level, and on it from a key on
  pub left_over : (level : ℕ) (low : Key) → under_all level ≤ left_from level low
  unfolding left_from under_all
  left_over level low =
      let up = many_up (is_under level) (λ pid. is_under level pid || is_ahead level low pid) (numbers w.limits.pids) (λ pid among so. or_left (is_under level pid) (is_ahead level low pid) so) in
      omega (arith, up)

  pub level_under : (level : ℕ) → level ≤ under_all level
  unfolding under_all
  level_under level = omega arith

  -- whether a leaf is removed and begins above one key, and at or below another
  abbrev pub is_between : Key → Key → LivePage → Bool
  is_between key low page = is_removed page.chain && (is_below low (low_of page) && reaches key (low_of page))

  -- how many are
  abbrev pub removed_after : Key → Key → ℕ
  removed_after key low = many (is_between key low) (w.tree.pages 0)

  pub between : (key low : Key) (page : LivePage) → is_between key low page ≡ true → (is_removed page.chain ≡ true) × IsBelow low (low_of page) × (reaches key (low_of page) ≡ true)
  between key low page e =
      let rest = and_right (is_removed page.chain) (is_below low (low_of page) && reaches key (low_of page)) e in (
        and_left (is_removed page.chain) (is_below low (low_of page) && reaches key (low_of page)) e,
        and_left (is_below low (low_of page))
            (reaches key (low_of page)) rest,
        and_right (is_below low (low_of page)) (reaches key (low_of page)) rest,
      )

  pub is_one : (key low : Key) (page : LivePage) → is_removed page.chain ≡ true → IsBelow low (low_of page) → reaches key (low_of page) ≡ true → is_between key low page ≡ true
  is_one key low page gone after pass =
      and_both (is_removed page.chain) (is_below low (low_of page) && reaches key (low_of page)) gone (and_both (is_below low (low_of page)) (reaches key (low_of page)) after pass)

  -- how many leaves are removed
  abbrev pub all_removed : ℕ
  all_removed = many (λ (leaf : LivePage). is_removed leaf.chain) (w.tree.pages 0)

  pub after_few : (key low : Key) → removed_after key low ≤ all_removed
  after_few key low = many_up (is_between key low) (λ (leaf : LivePage). is_removed leaf.chain) (w.tree.pages 0) (λ leaf on so. (between key low leaf so).0)

  -- after a removed leaf there is one fewer than before it
  pub fewer_after : (key low : Key) (page : LivePage) → On w 0 page → is_removed page.chain ≡ true → IsBelow low (low_of page)
      → reaches key (low_of page) ≡ true → removed_after key (low_of page) < removed_after key low
  fewer_after key low page on gone after pass = many_more (is_between key (low_of page)) (is_between key low) (w.tree.pages 0) page
      (λ q on_q e. let b = between key (low_of page) q e in is_one key low q b.0 (below_upto low (low_of page) (low_of q) after (below_not (low_of page) (low_of q) b.1)) b.2)
      on
      (either (is_between key (low_of page) page) (λ so. let b = between key (low_of page) page so in absurd (not_below (low_of page) (low_of page) b.1 (upto_refl (low_of page)))) (λ off. off))
      (is_one key low page gone after pass)

  pub none_after : (key low : Key) → ((page : LivePage) → On w 0 page → IsBelow low (low_of page) → reaches key (low_of page) ≡ true → is_removed page.chain ≡ false) → removed_after key low ≡ 0
  none_after key low clear = many_none (is_between key low) (w.tree.pages 0)
      (λ q on. either (is_between key low q) (λ so. let b = between key low q so in let clash : true ≡ false = sym b.0 ∙ clear q on b.1 b.2 in absurd (cc)) (λ off. off))

  -- how many steps a round takes at most: the read of slot 0, and 14 for each page
  abbrev pub one_round : ℕ
  one_round = suc (14 * (w.limits.pids + w.tree.top))

  -- how many so many rounds take
  abbrev pub times : ℕ → ℕ
  times zero = 0
  times (suc n) = one_round + times n

  pub times_up : (m n : ℕ) → m ≤ n → times m ≤ times n
  times_up zero n le = omega arith
  times_up (suc m) zero le = absurd (omega (arith, le))
  times_up (suc m) (suc n) le = let rest = times_up m n (omega (arith, le)) in omega (arith, rest)
