-- From page to page: what a step of a visit leaves, and that a page that is named by the one just read was not read before.
use Rattle.std.proofs.Common.{◌≡◌, ◌≢◌, ◌<◌, ◌++◌, ◌||◌, ◌&&◌, not, ◌==◌, inl, inr, ◌⊎◌, ℕ, zero, suc, List, [], ◌∷◌, Bool, true, false, Some, None, refl, sym, ap, ◌∙◌, arith}
use Rattle.round_model.proofs.Words.{IsTrue, if◌then◌else◌, AllByRecursion, is_lt, eq-eqb, eqb_tells, same_Some, Limits, is_below, Record, replaced_at, next_row, is_removed, level_in}
use Rattle.round_model.proofs.Words.{low_in, IsFitted, FitsRow, IsReadWhole, SaysOf, Knowledge, learn, learn_slot, IsUnread, Recalled, Walk, is_lower, is_removal, recall, trail}
use Rattle.round_model.proofs.Words.{Version, NamesAt}
use Rattle.std.proofs.lemmas.Cmp.{tied_itself, nat_list_cmp_total}
use Rattle.bw_model.specs.declared.step.Step.TheVariants as step
use Rattle.bw_model.specs.declared.step.Answer.TheVariants as answer
use Rattle.base_page.proofs.KeyLaws.{below_from, below-trans}
use Rattle.round_model.specs.Visits.{Slot, Row, Arrives, MayVisit, Visit, at, to_page}
use Rattle.round_model.specs.Walks.{AreRecalled, HasArrived, IsAmongPids, IsExpected, IsNamedAt, IsOnWay, IsPast, IsPastAt}
use Rattle.round_model.proofs.Holding.{has_read, named_row, named_slot, next_read, next_slot, past_row, past_slot, read_more}
use Rattle.round_model.proofs.Meeting.{kept_push, removed_push}
use Rattle.round_model.proofs.PageLaws.{spans}
use Rattle.round_model.proofs.Removals.{level_noted, lower_removes, removal_is_at, told_more}
use Rattle.round_model.proofs.Visiting.{arrives_at, begins_chain, goes_on}
use Rattle.round_model.proofs.WayLaws.{named_within}

-- the order of places

pub not_itself : (a : List ℕ) → IsTrue (is_below a a) → ⊥
not_itself a h = let e : is_below a a ≡ false = ap is_lt (tied_itself nat_list_cmp_total a) in cc

pub trans : (a b c : List ℕ) → IsTrue (is_below a b) → IsTrue (is_below b c) → IsTrue (is_below a c)
trans a b c h i = ap is_lt (below-trans a b c (below_from a b h) (below_from b c i))

-- one place is past the next
abbrev pub Descends : ℕ → List ℕ → ℕ → List ℕ → Type 0
Descends level low new_level new_low = IsPastAt new_level new_low level low

pub descends : (chain : List Record) (page level : ℕ) (low : List ℕ) → IsFitted chain → NamesAt chain page level low → Descends (level_in chain) (low_in chain) level low
descends chain page level low fit h = elim h [
  | inl right ↦ inr (right.1, spans chain low fit right.2)
  | inr child ↦ inl (let e = child.1 in omega arith)
]

pub past_on : (level new_level other_level : ℕ) (low new_low other_low : List ℕ) → Descends level low new_level new_low
    → IsPastAt level low other_level other_low → IsPastAt new_level new_low other_level other_low
past_on level new_level other_level low new_low other_low d p = elim d [
  | inl lower ↦ elim p [ inl higher ↦ inl (omega (arith, lower, higher)) | inr beside ↦ inl (let e = beside.0 in omega (arith, lower)) ]
  | inr right ↦ elim p [ inl higher ↦ inl (let e = right.0 in omega (arith, higher)) | inr beside ↦ inr (beside.0 ∙ right.0, trans other_low low new_low beside.1 right.1) ]
]

-- a page that is past a place isn't at the place
pub never_there : (level other_level : ℕ) (low other_low : List ℕ) → IsPastAt level low other_level other_low → other_level ≡ level → other_low ≡ low → ⊥
never_there level other_level low other_low p e i = elim p [
  | inl higher ↦ omega (arith, e, higher)
  | inr beside ↦ not_itself low (rw i at beside.1)
]

-- what is said of a page is so
pub told_of : (naming : List Record) (page : ℕ) (chain : List Record) (level : ℕ) (low : List ℕ) → SaysOf naming page chain → NamesAt naming page level low
    → (level_in chain ≡ level) × (low_in chain ≡ low)
told_of naming page chain level low says h = elim h [
  | inl right ↦ (let so = says.right right.0 in (so.0 ∙ right.1, same_Some _ _ (sym so.1 ∙ right.2)))
  | inr child ↦ says.child level low child.0 child.1 child.2 child.3
]

or_false : (b : Bool) → b ≡ (b || false)
or_false true = refl
or_false false = refl

-- where the round has gone on from the last removal that it read, all that it has visited since counts
settled : (removed passed : Bool) (visited : List ℕ) → removed ≡ (passed || false) → (if removed && not passed then [] else visited) ≡ visited
settled true true visited e = refl
settled true false visited e = cc
settled false passed visited e = refl

pub trail_on : (walk : Walk) (chain : List Record) → walk.removed ≡ (walk.passed || is_removed chain) → is_removed chain ≡ false → trail walk ≡ walk.visited
trail_on walk chain tells alive = settled walk.removed walk.passed walk.visited (rw alive at tells)

-- steps of a visit

module _ (limits : Limits) (k : Knowledge) (r : Recalled) (visit : Visit) (level : ℕ) (low : List ℕ) (earlier : List ℕ) where
  slot_roots : (page n : ℕ) → 0 < page → (learn_slot page n k).read.roots ≡ k.read.roots
  slot_roots zero n some = absurd (omega (arith, some))
  slot_roots (suc page) zero some = refl
  slot_roots (suc page) (suc n) some = refl

  recall_slot : (page n : ℕ) → 0 < page
      → recall r (step.Slot page) (answer.Number n) ≡ record r { heads = replaced_at page (Some n) r.heads; walk = record r.walk { visited = page ∷ trail r.walk; passed = r.walk.removed } }
  recall_slot zero n some = absurd (omega (arith, some))
  recall_slot (suc page) n some = refl

  -- slots that are recalled as they are known
  head_here : (page n : ℕ) → 0 < page → 0 < n → replaced_at page (Some n) r.heads page ≡ (learn_slot page n k).read.heads page
  head_here zero n some linked = absurd (omega (arith, some))
  head_here (suc page) zero some linked = absurd (omega (arith, linked))
  head_here (suc page) (suc n) some linked = let e : (suc page == suc page) ≡ true = eq-eqb (suc page) (suc page) refl in rw e refl

  head_other : (page n other : ℕ) → other ≢ page → r.heads other ≡ k.read.heads other → replaced_at page (Some n) r.heads other ≡ (learn_slot page n k).read.heads other
  head_other zero n other apart h = elim (eqb_tells other zero) [ inl same ↦ absurd (apart same.1) | inr differs ↦ rw differs.0 h ]
  head_other (suc page) zero other apart h = elim (eqb_tells other (suc page)) [ inl same ↦ absurd (apart same.1) | inr differs ↦ rw differs.0 h ]
  head_other (suc page) (suc n) other apart h = elim (eqb_tells other (suc page)) [ inl same ↦ absurd (apart same.1) | inr differs ↦ rw differs.0 h ]

  heads_others : (page n : ℕ) (others : List ℕ) → IsUnread page others → AreRecalled k r others
      → AllByRecursion (λ other. replaced_at page (Some n) r.heads other ≡ (learn_slot page n k).read.heads other) others
  heads_others page n [] new h = tt
  heads_others page n (other ∷ others) new h = (head_other page n other (λ e. new.0 (sym e)) h.0, heads_others page n others new.1 h.1)

  recalled_slot : (page n : ℕ) → 0 < page → 0 < n → (others : List ℕ) → IsUnread page others → AreRecalled k r others
      → AllByRecursion (λ other. replaced_at page (Some n) r.heads other ≡ (learn_slot page n k).read.heads other) (page ∷ others)
  recalled_slot page n some linked others new h = (head_here page n some linked, heads_others page n others new h)

  expected_slot : (page n : ℕ) → 0 < page → IsExpected limits k page level low earlier → IsExpected limits (learn_slot page n k) page level low earlier
  expected_slot page n some h = elim h [
    | inl root ↦ inl (rw (slot_roots page n some) root.0, root.1, root.2)
    | inr (inl named) ↦ inr (inl (named_slot limits k page n level low named))
    | inr (inr next) ↦ inr (inr (next_slot limits k page n level low next))
  ]

  pub on_slot : (row : ℕ) → 0 < row → row < visit.limits.rows → IsOnWay limits k r (at visit Slot) level low earlier
      → IsOnWay limits (learn k (step.Slot visit.pid) (answer.Number row)) (recall r (step.Slot visit.pid) (answer.Number row)) (record visit { part = []; state = Row row row }) level low earlier
  on_slot row linked few h = rw (recall_slot visit.pid row h.shows.page) (record {
    shows = begins_chain k visit row linked few h.shows;
    same = h.same;
    bare = tt;
    visited = ap (λ (pages : List ℕ). visit.pid ∷ pages) h.visited;
    recalled = recalled_slot visit.pid row h.shows.page linked earlier h.distinct.2 h.recalled;
    expected = expected_slot visit.pid row h.shows.page h.expected;
    distinct = h.distinct;
    past = past_slot k visit.pid row level low earlier h.distinct.2 h.past;
    rooted = h.rooted;
    removed = or_false r.walk.removed;
    lowest = λ gone none. let clash : true ≡ false = sym gone ∙ none in cc;
    kept = λ page none. absurd none;
  })

  module _ (row : ℕ) (content : Record) (fits : FitsRow limits k row content) where
    abbrev now : Knowledge
    now = learn k (step.Row row) (answer.Content content)

    abbrev walked : Recalled
    walked = recall r (step.Row row) (answer.Content content)

    expected_row : (page : ℕ) → IsExpected limits k page level low earlier → IsExpected limits now page level low earlier
    expected_row page h = elim h [
      | inl root ↦ inl root
      | inr (inl named) ↦ inr (inl (named_row k row content fits.same limits page level low named))
      | inr (inr next) ↦ inr (inr (next_read k row content fits.same limits page level low next))
    ]

    pub on_row : (head under : ℕ) → next_row content ≡ Some under → IsOnWay limits k r (at visit (Row head row)) level low earlier
        → IsOnWay limits now walked (record visit { part = visit.part ++ content ∷ []; state = Row head under }) level low earlier
    on_row head under more h = record {
      shows = goes_on k visit head row content under more h.shows (rw (← h.same) at fits);
      same = h.same;
      bare = tt;
      visited = h.visited;
      recalled = h.recalled;
      expected = expected_row visit.pid h.expected;
      distinct = h.distinct;
      past = past_row k row content fits.same level low earlier h.past;
      rooted = h.rooted;
      removed = ap (λ (b : Bool). is_removal content || b) h.removed ∙ told_more (is_removal content) (is_lower content r.walk) r.walk.passed (is_removed visit.part) (lower_removes content r.walk)
          ∙ ap (λ (b : Bool). (if is_lower content r.walk then false else r.walk.passed) || b) (sym (removed_push k.read.seen visit.part head row content h.shows.stands.seen));
      lowest = level_noted r.walk visit.part content h.lowest;
      kept = kept_push visit.part r.walk.records content h.kept;
    }

    module _ (version : Version) (pid : version.pid ≡ visit.pid) (made : version.chain ≡ visit.part ++ content ∷ []) where
      where_it_is : IsReadWhole limits k version.pid version.chain → IsExpected limits k visit.pid level low earlier
          → (low_in version.chain ≡ low) × ((earlier ≡ []) ⊎ (level_in version.chain ≡ level))
      where_it_is whole e = elim e [
        | inl root ↦ (whole.root (rw pid root.0) ∙ sym root.1, inl root.2)
        | inr (inl named) ↦
            let so = told_of named.naming.chain version.pid version.chain level low
            (whole.named named.naming.pid named.naming.head (has_read named.in_hand.seen named.alive)) (rw pid named.names) in
            (so.1, inr so.0)
        | inr (inr next) ↦
            let b = next.beyond in
            let says = whole.beside next.left.pid next.left.head (has_read next.in_hand.seen next.alive)
            (record { removed = b.removed; row = b.row; chain = b.chain; right = b.right; order = b.order; read = b.read; gone = b.gone; named = rw pid b.named })
            in
            let so = told_of b.chain version.pid version.chain level low says (rw pid next.names) in
            (so.1, inr so.0)
      ]

      pub on_base : next_row content ≡ None → IsOnWay limits k r (at visit (Row version.head row)) level low earlier → HasArrived limits k now walked version level low earlier
      on_base last h =
          let arrived : Arrives k now (at visit (Row version.head row)) version = arrives_at k visit row content version pid made last h.shows (rw (← h.same) at fits) in
          let whole : IsReadWhole limits k version.pid version.chain = rw h.same at arrived.whole in
          let here = where_it_is whole h.expected in
          record {
            visit = at visit (Row version.head row);
            same = h.same;
            arrives = arrived;
            more = read_more k row content fits.same;
            is_low = here.0;
            is_level = here.1;
            visited = rw pid h.visited;
            recalled = rw pid h.recalled;
            distinct = rw pid h.distinct;
            past = h.past;
            rooted = h.rooted;
            removed =
                ap (λ (b : Bool). is_removal content || b) h.removed ∙ told_more (is_removal content) (is_lower content r.walk) r.walk.passed (is_removed visit.part) (lower_removes content r.walk)
                ∙ ap (λ (b : Bool). (if is_lower content r.walk then false else r.walk.passed) || b)
                (sym (removed_push k.read.seen visit.part version.head row content h.shows.stands.seen) ∙ ap is_removed (sym made));
            lowest = λ gone none. removal_is_at version.chain walked.walk.level arrived.in_hand.sound.is_chain.fitted (rw made (level_noted r.walk visit.part content h.lowest gone none));
            kept = rw made (kept_push visit.part r.walk.records content h.kept);
          }

-- a place to which the page just read descends: all that was read is past it
module _ (limits : Limits) (k now : Knowledge) (r : Recalled) (version : Version) (was_level : ℕ) (was_low : List ℕ) (earlier : List ℕ)
    (h : HasArrived limits k now r version was_level was_low earlier) (level : ℕ) (low : List ℕ)
    (on : Descends (level_in version.chain) (low_in version.chain) level low) where
  abbrev here : List Record
  here = version.chain

  past_among : (others : List ℕ) → level_in here ≡ was_level → AllByRecursion (IsPast k was_level was_low) others → AllByRecursion (IsPast now level low) others
  past_among [] is past = tt
  past_among (other ∷ others) is past =
      let more = h.more other past.0.head past.0.chain past.0.in_slot past.0.read in
      let before : IsPastAt (level_in here) (low_in here) (level_in past.0.chain) (low_in past.0.chain) = rw (is, h.is_low) past.0.past in (
        record {
          head = past.0.head;
          chain = past.0.chain;
          in_slot = more.0;
          read = more.1;
          past = past_on (level_in here) level (level_in past.0.chain)
              (low_in here) low (low_in past.0.chain) on before;
        },
        past_among others is past.1,
      )

  itself_past : IsPast now level low version.pid
  itself_past = record { head = version.head; chain = here; in_slot = h.arrives.in_hand.seen.head; read = h.arrives.in_hand.seen.read; past = on }

  pub all_past : AllByRecursion (IsPast now level low) (version.pid ∷ earlier)
  all_past = (itself_past, elim h.is_level [ inl first ↦ rw first tt | inr is ↦ past_among earlier is h.past ])

-- the page that is named by the one just read

module _ (limits : Limits) (k now : Knowledge) (r : Recalled) (version : Version) (was_level : ℕ) (was_low : List ℕ) (earlier : List ℕ)
    (h : HasArrived limits k now r version was_level was_low earlier) (page level : ℕ) (low : List ℕ) (names : NamesAt version.chain page level low)
    (alive : is_removed version.chain ≡ false) where
  abbrev chain : List Record
  chain = version.chain

  fit : IsFitted chain
  fit = h.arrives.in_hand.sound.is_chain.fitted

  on : Descends (level_in chain) (low_in chain) level low
  on = descends chain page level low fit names

  -- it isn't the page itself
  apart : page ≢ version.pid
  apart e =
      let so = told_of chain version.pid chain level low (h.arrives.in_hand.sound.own alive) (rw e at names) in
      never_there level (level_in chain) low (low_in chain) on so.0 so.1

  -- nor one that was read before it
  apart_past : (other : ℕ) → IsPast k was_level was_low other → (level_in chain ≡ was_level) → page ≢ other
  apart_past other past is e =
      let so = told_of chain other past.chain level low (h.arrives.whole.names alive other past.head past.chain past.in_slot past.read) (rw e at names) in
      let before : IsPastAt (level_in chain) (low_in chain) (level_in past.chain) (low_in past.chain) = rw (is, h.is_low) past.past in
      never_there level (level_in past.chain) low (low_in past.chain) (past_on (level_in chain) level (level_in past.chain) (low_in chain) low (low_in past.chain) on before) so.0 so.1

  new_among : (others : List ℕ) → level_in chain ≡ was_level → AllByRecursion (IsPast k was_level was_low) others → IsUnread page others
  new_among [] is past = tt
  new_among (other ∷ others) is past = (apart_past other past.0 is, new_among others is past.1)

  pub is_new : IsUnread page (version.pid ∷ earlier)
  is_new = (apart, elim h.is_level [ inl first ↦ rw first tt | inr is ↦ new_among earlier is h.past ])

  pub is_page : (0 < page) × (page < limits.pids)
  is_page = named_within limits chain page level low (rw h.same at (h.arrives.in_hand.sound.names alive)) names

  named : IsNamedAt limits now page level low
  named = record { naming = version; in_hand = rw (← h.same) h.arrives.in_hand; alive = alive; apart = λ e. apart (sym e); names = names }

  may : MayVisit now page
  may = inr (record {
    other = version.pid;
    row = version.head;
    basis = record { head = h.arrives.in_hand.seen.head; chain = chain; read = h.arrives.in_hand.seen.read; alive = alive };
    named = elim names [ inl right ↦ inl right.0 | inr child ↦ inr (inl (level, low, child.0, child.1, child.2, child.3)) ];
  })

  pub onward : IsOnWay limits now r (to_page limits page) level low (version.pid ∷ earlier)
  onward = record {
    shows = record { inside = h.arrives.inside; page = is_page.0; below = is_page.1; head = tt; stands = may };
    same = refl;
    bare = refl;
    visited = trail_on r.walk chain h.removed alive ∙ h.visited;
    recalled = h.recalled;
    expected = inr (inl named);
    distinct = (is_page.0, is_page.1, is_new, h.distinct);
    past = all_past limits k now r version was_level was_low earlier h level low on;
    rooted = h.rooted;
    removed = tt;
    lowest = tt;
    kept = λ other none. absurd none;
  }

-- what was read in this round is recalled as it is known
pub recalled_head : (k : Knowledge) (r : Recalled) (pages : List ℕ) (page row : ℕ) → AreRecalled k r pages → IsAmongPids page pages → k.read.heads page ≡ Some row → r.heads page ≡ Some row
recalled_head k r [] page row h among e = absurd among
recalled_head k r (other ∷ pages) page row h among e = elim among [
  | inl here ↦ rw here (h.0 ∙ sym (ap k.read.heads here) ∙ e)
  | inr there ↦ recalled_head k r pages page row h.1 there e
]
