-- A removed page whose held term stands above it, and the page to the left of it.
use Rattle.progress.proofs.Words.{◌≡◌, ◌≢◌, ℕ, suc, Bool, true, false, Option, None, Some, refl, sym, ap, subst, ◌∙◌, IsTrue, Child, content_in, covers, high_in, is_removed, low_in, right_in}
use Rattle.progress.proofs.Words.{LivePage, Version, StaysLeft, precedes, Key, IsPageOn, is_below, IfSome, covers_to, upto_both, upto_refl}
use Rattle.std.specs.Prelude.{IsFalse}
use Rattle.structure_changes.specs.Merges.{CanMerge}
use Rattle.structure_changes.specs.Sizes.{HasFewDeltas, HasMergeRoom}
use Rattle.structure_changes.specs.Unterms.{CanUnterm}
use Rattle.progress.proofs.rounds.Leaves.{joint}
use Rattle.progress.proofs.rounds.Pages.{On, Standing, Under, chain_on, live, low_of, one_child, same_pid, some_of}
use Rattle.progress.proofs.meetings.Gone.{few_gone, unheld_items}

module _ (w : Standing) where
  -- A removed page of a level, at the key, of which a page above has the held term.
  pub record IsHeld (pid : ℕ) (key : Key) (level : ℕ) : Type 0 where
    pub page : LivePage
    pub is_pid : page.pid ≡ pid
    pub begins : low_of page ≡ key
    pub stands : IsPageOn w.limits w.memory level page
    pub gone : is_removed page.chain ≡ true
    pub above : LivePage
    pub on : On w (suc level) above
    pub term : content_in above.chain key ≡ Some (Child pid true)

  pub held_under : (way : Key → Bool) (above : Option Version) (level : ℕ) (page : LivePage) → IsPageOn w.limits w.memory level page → Under w way above level page
      → IsHeld page.pid (low_of page) level
  held_under way above level page stands u = record { page = page; is_pid = refl; begins = refl; stands = stands; gone = u.gone; above = live u.over; on = u.on; term = u.term }

  -- the page that has the held term is the one above on the way to the left of it
  above_same : (pid : ℕ) (key : Key) (level : ℕ) (h : IsHeld pid key level) (over : LivePage) → On w (suc level) over → StaysLeft (precedes key) over.chain
      → precedes key (low_of over) ≡ true → over ≡ h.above
  above_same pid key level h over on stays pass =
      let l = w.tree.left level pid h.above key h.on h.term in
      let in_above = (w.tree.child level l.1 h.above l.0 false h.on l.2.has).0 in
      let here = (w.tree.child level pid h.above key true h.on h.term).0 in
      let first : IsTrue (covers over.chain (low_of over)) = covers_to over.chain (low_of over) (record { low = upto_refl (low_of over); high = w.tree.spans (suc level) over on }) in
      joint w (suc level) (low_of over) l.0 key over h.above on h.on pass l.2.passing first stays in_above here

  pub term_in : (pid : ℕ) (key : Key) (level : ℕ) → IsHeld pid key level → (over : LivePage) → On w (suc level) over → StaysLeft (precedes key) over.chain
      → precedes key (low_of over) ≡ true → content_in over.chain key ≡ Some (Child pid true)
  term_in pid key level h over on stays pass = rw (above_same pid key level h over on stays pass) h.term

  -- on its level no removed page is on the way to the left of it
  pub none_under : (pid : ℕ) (key : Key) (level : ℕ) → IsHeld pid key level → (page : LivePage) (above : Option Version) → Under w (precedes key) above level page
      → precedes key (low_of page) ≡ true → ⊥
  none_under pid key level h page above u pass =
      let l = w.tree.left level pid h.above key h.on h.term in
      let in_over = (w.tree.child level page.pid (live u.over) (low_of page) true u.on u.term).0 in
      let in_above = (w.tree.child level l.1 h.above l.0 false h.on l.2.has).0 in
      let here = (w.tree.child level pid h.above key true h.on h.term).0 in
      let same : live u.over ≡ h.above = joint w (suc level) (low_of page) l.0 key (live u.over) h.above u.on h.on pass l.2.passing in_over u.stays in_above here in
      let term : content_in h.above.chain (low_of page) ≡ Some (Child page.pid true) = rw (← same) u.term in
      let left : content_in u.over.chain l.0 ≡ Some (Child l.1 false) = subst (λ (p : LivePage). content_in p.chain l.0 ≡ Some (Child l.1 false)) (sym same) l.2.has in
      let one = l.2.greatest (low_of page) pass (some_of _ _ term) in
      let two = u.greatest l.0 l.2.passing (some_of _ _ left) in
      let is : low_of page ≡ l.0 = upto_both (low_of page) l.0 one two in
      let clash : true ≡ false = (one_child (content_in h.above.chain (low_of page)) page.pid l.1 true false term (rw is l.2.has)).1 in
      cc

  -- the page stands as it was read
  same_page_as : (pid : ℕ) (key : Key) (level : ℕ) (h : IsHeld pid key level) (page : LivePage) (other : ℕ) → IsPageOn w.limits w.memory other page → page.pid ≡ pid → page ≡ h.page
  same_page_as pid key level h page other stands e = same_pid w page h.page stands.stands h.stands.stands (e ∙ sym h.is_pid)

  -- a page that has it as its right may get what it has
  pub may_merge : (pid : ℕ) (key : Key) (level : ℕ) → IsHeld pid key level → (left removed : Version) → On w level (live left) → is_removed left.chain ≡ false
      → right_in left.chain ≡ Some pid → HasFewDeltas left.chain → HasMergeRoom left.chain
      → IsPageOn w.limits w.memory level (live removed) → removed.pid ≡ pid → CanMerge left removed
  may_merge pid key level h left removed on alive is_right short roomy stands is =
      let r = w.tree.right level (live left) pid on is_right in
      let here : live removed ≡ h.page = same_page_as pid key level h (live removed) level stands is in
      let next : r.0 ≡ live removed = same_pid w r.0 (live removed) (chain_on w level r.0 r.1) stands.stands (r.2 ∙ sym is) in
      let on_removed : On w level (live removed) = rw (← next) r.1 in
      let gone : is_removed removed.chain ≡ true = ap (λ (p : LivePage). is_removed p.chain) here ∙ h.gone in
      record {
        alive = alive;
        next_to = record { right = is_right ∙ ap Some (sym is); high = r.3 ∙ ap (λ (p : LivePage). Some (low_in p.chain)) next };
        gone = gone;
        level = stands.level_is ∙ sym (w.tree.each level (live left) on).level_is;
        few = few_gone removed.chain stands.fits.fitted gone;
        unheld = unheld_items removed.chain stands.fits.fitted (w.tree.unheld level (live removed) on_removed gone);
        short = short;
        roomy = roomy;
      }

  -- and one that has it to its right no more lets the term go
  pub may_unterm : (pid : ℕ) (key : Key) (level : ℕ) → IsHeld pid key level → (parent left removed : Version) → is_removed parent.chain ≡ false → HasFewDeltas parent.chain
      → content_in parent.chain key ≡ Some (Child pid true) → is_removed left.chain ≡ false → precedes key (low_in left.chain) ≡ true → StaysLeft (precedes key) left.chain
      → right_in left.chain ≢ Some pid → (other : ℕ) → IsPageOn w.limits w.memory other (live removed) → removed.pid ≡ pid → CanUnterm parent left removed
  may_unterm pid key level h parent left removed standing short term alive pass stays apart other stands is =
      let here : live removed ≡ h.page = same_page_as pid key level h (live removed) other stands is in
      let low : low_in removed.chain ≡ key = ap low_of here ∙ h.begins in
      record {
        standing = standing;
        alive = alive;
        above = rw low pass;
        within = inner (high_in left.chain) low (λ high e. stays.off high e);
        apart = λ next. apart (next.right ∙ ap Some is);
        held = ap (content_in parent.chain) low ∙ term ∙ ap (λ (n : ℕ). Some (Child n true)) (sym is);
        short = short;
        gone = ap (λ (p : LivePage). is_removed p.chain) here ∙ h.gone;
      }
    where
      inner : (end : Option Key) → low_in removed.chain ≡ key → ((high : Key) → end ≡ Some high → precedes key high ≡ false) → IfSome end (λ high. IsFalse (is_below high (low_in removed.chain)))
      inner None low off = tt
      inner (Some high) low off = rw low (off high refl)
