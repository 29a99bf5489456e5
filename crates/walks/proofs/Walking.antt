-- Walks that go on, and what they show.
use Rattle.walks.proofs.Words.{AllByRecursion, Bool, Contains, Contains-append_cases, Contains-append_left, Contains-append_right, Entry, Finishes, IsPageOf}
use Rattle.walks.proofs.Words.{IsPageShown, IsWalk, Less, List, None, Operation, Option, PairsAscend, Reply, Some, StartsWith, TellMap, WalkedPage, and_both}
use Rattle.walks.proofs.Words.{and_left, and_right, ap, append-nil, append_assoc, arith, below-trans, below_from, below_reach, either, end_under, false, inl}
use Rattle.walks.proofs.Words.{inr, is_below, is_lt, is_under, key_cmp, length, not, not_true, page_operation, pairs_shown, place_under, refl, subst, sym, true}
use Rattle.walks.proofs.Words.{ℕ, [], ◌++◌, ◌+◌, ◌<◌, ◌∙◌, ◌∷◌, ◌≡◌, ◌≤◌}
use Rattle.std.specs.List.Sorted.{IsStrictlySortedBy}
use Rattle.traces.proofs.Pushes.{slice_get-append_left, slice_get_below, slice_get_kept}
use Rattle.walks.proofs.Cuts.{Pair, below_bound, keys}

-- a page of a run is one of each longer run
pub finish_stays : (run rest : List Entry) (operation : Operation) (n : ℕ) (answered : Reply) → Finishes run operation n answered → Finishes (run ++ rest) operation n answered
finish_stays run rest operation n answered (step, told, own) = (
  step,
  told,
  record {
    begun = own.begun;
    entry = slice_get_kept run rest n _ own.entry;
    not_ended = λ later c after before at.
        let within : n < length run = slice_get_below run n _ own.entry in
        own.not_ended later c after before (sym (slice_get-append_left run rest later (omega arith)) ∙ at);
  },
)

pub page_stays : (run later : List Entry) (bound : Option (List ℕ)) (page : WalkedPage) → StartsWith later run → IsPageOf run bound page → IsPageOf later bound page
page_stays run later bound page (rest, more) is = rw more (record {
  begins = slice_get_kept run rest page.begun _ is.begins;
  items = is.items;
  high = is.high;
  ends = finish_stays run rest (page_operation page) page.done _ is.ends;
  next = is.next;
  pairs = is.pairs;
})

pub walk_stays : (run later : List Entry) (bound at : Option (List ℕ)) (since : ℕ) (pages : List WalkedPage) (to : Option (List ℕ)) (till : ℕ)
    → StartsWith later run → IsWalk run bound at since pages to till → IsWalk later bound at since pages to till
walk_stays run later bound at since [] to till more walk = walk
walk_stays run later bound at since (page ∷ pages) to till more walk =
    (walk.0, walk.1, page_stays run later bound page more walk.2, walk_stays run later bound page.next (page.done + 1) pages to till more walk.3)

-- a walk takes its time
pub walk_lasts : (run : List Entry) (bound at : Option (List ℕ)) (since : ℕ) (pages : List WalkedPage) (to : Option (List ℕ)) (till : ℕ) → IsWalk run bound at since pages to till → since ≤ till
walk_lasts run bound at since [] to till walk = walk.1
walk_lasts run bound at since (page ∷ pages) to till walk =
    let rest = walk_lasts run bound page.next (page.done + 1) pages to till walk.3 in let begun = walk.1 in let ends = walk.2.ends.2.begun in omega arith

walk_from : (run : List Entry) (bound at : Option (List ℕ)) (early since : ℕ) (pages : List WalkedPage) (to : Option (List ℕ)) (till : ℕ) → early ≤ since
    → IsWalk run bound at since pages to till → IsWalk run bound at early pages to till
walk_from run bound at early since [] to till le walk = let then' = walk.1 in (walk.0, omega arith)
walk_from run bound at early since (page ∷ pages) to till le walk = let then' = walk.1 in (walk.0, omega arith, walk.2, walk.3)

-- a walk that goes on
pub walk_on : (run : List Entry) (bound at : Option (List ℕ)) (since : ℕ) (pages : List WalkedPage) (mid : Option (List ℕ)) (then' : ℕ) (more : List WalkedPage) (to : Option (List ℕ)) (till : ℕ)
    → IsWalk run bound at since pages mid then' → IsWalk run bound mid then' more to till → IsWalk run bound at since (pages ++ more) to till
walk_on run bound at since [] mid then' more to till walk rest = walk_from run bound at since then' more to till walk.1 (rw walk.0 at rest)
walk_on run bound at since (page ∷ pages) mid then' more to till walk rest = (walk.0, walk.1, walk.2, walk_on run bound page.next (page.done + 1) pages mid then' more to till walk.3 rest)

pub shown_on : (pages more : List WalkedPage) → pairs_shown (pages ++ more) ≡ pairs_shown pages ++ pairs_shown more
shown_on [] more = refl
shown_on (page ∷ pages) more = ap (λ rest. page.pairs ++ rest) (shown_on pages more) ∙ sym (append_assoc page.pairs (pairs_shown pages) (pairs_shown more))

-- ascending pairs above ascending pairs
pub sorted_on : (xs ys : List Pair) → PairsAscend xs → PairsAscend ys → ((x y : List ℕ) (v w : List ℕ) → Contains xs (x, v) → Contains ys (y, w) → key_cmp x y ≡ Less) → PairsAscend (xs ++ ys)
unfolding IsStrictlySortedBy
sorted_on [] ys one other apart = other
sorted_on (pair ∷ xs) ys one other apart = (
  above xs ys pair.0 one.0 (λ y w among. apart pair.0 y pair.1 w (0, omega arith, refl) among),
  sorted_on xs ys one.1 other (λ x y v w here there. apart x y v w (Contains-append_right (pair ∷ []) xs (x, v) here) there),
)
  where
    above_all : (key : List ℕ) (ys : List Pair) → ((y w : List ℕ) → Contains ys (y, w) → key_cmp key y ≡ Less) → AllByRecursion (λ other. key_cmp key other ≡ Less) (keys ys)
    above_all key [] h = tt
    above_all key (next ∷ ys) h = (h next.0 next.1 (0, omega arith, refl), above_all key ys (λ y w among. h y w (Contains-append_right (next ∷ []) ys (y, w) among)))

    above : (xs ys : List Pair) (key : List ℕ) → AllByRecursion (λ other. key_cmp key other ≡ Less) (keys xs)
        → ((y w : List ℕ) → Contains ys (y, w) → key_cmp key y ≡ Less) → AllByRecursion (λ other. key_cmp key other ≡ Less) (keys (xs ++ ys))
    above [] ys key own h = above_all key ys h
    above (next ∷ xs) ys key own h = (own.0, above xs ys key own.1 h)

pub none_in : {X : Type 0} (x : X) → Contains [] x → ⊥
none_in x (k, within, is) = omega arith

module _ (run : List Entry) (points : List Bool) where
  -- pairs up to a key, and pairs from there on
  join_tells : (since mid till : ℕ) (from next : List ℕ) (end : Option (List ℕ)) (xs ys : List Pair) → since ≤ mid → is_below from next ≡ true
      → ((key : List ℕ) → is_below key next ≡ true → is_under key end ≡ true)
      → TellMap run points since till from (Some next) xs → TellMap run points mid till next end ys → TellMap run points since till from end (xs ++ ys)
  join_tells since mid till from next end xs ys le ahead under one more = record {
    ascending = sorted_on xs ys one.ascending more.ascending (λ x y v w here there.
        below_reach x next y (below_from x next (and_right (not (is_below x from)) (is_below x next) (one.within x v here)))
        (not_true (is_below y next) (and_left (not (is_below y next)) (is_under y end) (more.within y w there))));
    within = λ key value among. elim (Contains-append_cases xs ys (key, value) among) [
      | inl here ↦ let in' = one.within key value here in and_both _ _ (and_left (not (is_below key from)) (is_below key next) in')
          (under key (and_right (not (is_below key from)) (is_below key next) in'))
      | inr there ↦ let in' = more.within key value there in and_both _ _
          (above_from key (not_true (is_below key next) (and_left (not (is_below key next)) (is_under key end) in')))
          (and_right (not (is_below key next)) (is_under key end) in')
    ];
    there = λ key in' has. either (is_below key next)
        (λ before. let at = one.there key (and_both _ _ (and_left (not (is_below key from)) (is_under key end) in') before) has in (at.0, Contains-append_left xs ys (key, at.0) at.1))
        (λ after. let at = more.there key (and_both _ _ (ap not after) (and_right (not (is_below key from)) (is_under key end) in'))
        (λ n late soon. has n (omega arith) soon) in (at.0, Contains-append_right xs ys (key, at.0) at.1));
    stays = λ key value in' has. either (is_below key next)
        (λ before. Contains-append_left xs ys (key, value) (one.stays key value (and_both _ _ (and_left (not (is_below key from)) (is_under key end) in') before) has))
        (λ after. Contains-append_right xs ys (key, value)
        (more.stays key value (and_both _ _ (ap not after) (and_right (not (is_below key from)) (is_under key end) in')) (λ n late soon. has n (omega arith) soon)));
    was = λ key value among. elim (Contains-append_cases xs ys (key, value) among) [
      | inl here ↦ one.was key value here
      | inr there ↦ let (n, late, soon, is) = more.was key value there in (n, omega arith, soon, is)
    ];
  }
    where
      above_from : (key : List ℕ) → is_below key next ≡ false → not (is_below key from) ≡ true
      above_from key out = either (is_below key from)
          (λ before. let through : is_below key next ≡ true = ap is_lt (below-trans key from next (below_from key from before) (below_from from next ahead)) in absurd (cc))
          (λ after. ap not after)

  module _ (bound : Option (List ℕ)) (shown : (page : WalkedPage) → IsPageOf run bound page → IsPageShown run points bound page) where
    one_tells : (page : WalkedPage) (since till : ℕ) → IsPageOf run bound page → since ≤ page.begun → page.done + 1 ≤ till
        → TellMap run points since till page.from (end_under bound page.next) page.pairs
    one_tells page since till is early late =
        let s = shown page is in let begun = s.own.2.1.begun in let done = s.within in record {
          ascending = s.pairs.ascending;
          within = λ key value among. ((s.pairs.exact key value).0 among).0;
          there = λ key in' has. let now = has s.step (omega arith) (omega arith) in (now.0, (s.pairs.exact key now.0).1 (in', now.1));
          stays = λ key value in' has. (s.pairs.exact key value).1 (in', has s.step (omega arith) (omega arith));
          was = λ key value among. (s.step, omega arith, omega arith, ((s.pairs.exact key value).0 among).1);
        }

    -- at its end a walk shows no more
    ended : (since : ℕ) (pages : List WalkedPage) (to : Option (List ℕ)) (till : ℕ) → IsWalk run bound None since pages to till → (pages ≡ []) × (to ≡ None)
    ended since [] to till walk = (refl, walk.0)
    ended since (page ∷ pages) to till walk = let none = walk.0 in cc

    -- where a page goes on is below the bound
    next_under : (page : WalkedPage) (next : List ℕ) → IsPageOf run bound page → page.next ≡ Some next → is_under next bound ≡ true
    next_under page next is goes = by_high is.high (sym is.next ∙ goes)
      where
        by_high : (high : Option (List ℕ)) → place_under bound high ≡ Some next → is_under next bound ≡ true
        by_high None e = cc
        by_high (Some high) e = either (is_under high bound)
            (λ within. let some : Some high ≡ Some next = rw within at e in let same : high ≡ next = cc in
            rw same at within)
            (λ past. let none : None ≡ Some next = rw past at e in absurd (cc))

    goes_ahead : (page : WalkedPage) (next : List ℕ) → IsPageOf run bound page → page.next ≡ Some next → is_below page.from next ≡ true
    goes_ahead page next is goes = rw goes at (shown page is).ahead

    -- a key below where the walk stands is below where it goes
    below_end : (from : List ℕ) (since : ℕ) (pages : List WalkedPage) (to : Option (List ℕ)) (till : ℕ) → is_under from bound ≡ true → IsWalk run bound (Some from) since pages to till
        → (key : List ℕ) → is_below key from ≡ true → is_under key (end_under bound to) ≡ true
    below_end from since [] to till under walk key below = rw walk.0 below
    below_end from since (page ∷ pages) to till under walk key below = go page.next refl (λ next up rest. below_end next (page.done + 1) pages to till up rest key)
      where
        same : from ≡ page.from
        same = let e = walk.0 in cc

        go : (next : Option (List ℕ)) → page.next ≡ next
            → ((next : List ℕ) → is_under next bound ≡ true → IsWalk run bound (Some next) (page.done + 1) pages to till → is_below key next ≡ true → is_under key (end_under bound to) ≡ true)
            → is_under key (end_under bound to) ≡ true
        go None goes more =
            let none = ended (page.done + 1) pages to till (rw goes at walk.3) in
            rw none.1 (below_bound bound key bound from under below)
        go (Some next) goes more =
            let ahead : is_below from next ≡ true = rw same (goes_ahead page next walk.2 goes) in
            more next (next_under page next walk.2 goes) (rw goes at walk.3)
            (ap is_lt (below-trans key from next (below_from key from below) (below_from from next ahead)))

    tell_none : (from : List ℕ) (since till : ℕ) → TellMap run points since till from (Some from) []
    unfolding IsStrictlySortedBy
    tell_none from since till = record {
      ascending = tt;
      within = λ key value among. absurd (none_in (key, value) among);
      there =
          λ key in' has. let out = not_true (is_below key from) (and_left (not (is_below key from)) (is_below key from) in') in let below = and_right
          (not (is_below key from)) (is_below key from) in' in absurd (cc);
      stays =
          λ key value in' has. let out = not_true (is_below key from) (and_left (not (is_below key from)) (is_below key from) in') in let below = and_right
          (not (is_below key from)) (is_below key from) in' in absurd (cc);
      was = λ key value among. absurd (none_in (key, value) among);
    }

    -- a walk tells of the map from where it began to where it stands
    pub walk_tells : (from : List ℕ) (since : ℕ) (pages : List WalkedPage) (to : Option (List ℕ)) (till : ℕ) → IsWalk run bound (Some from) since pages to till
        → TellMap run points since till from (end_under bound to) (pairs_shown pages)
    walk_tells from since [] to till walk = rw walk.0 (tell_none from since till)
    walk_tells from since (page ∷ pages) to till walk = go page.next refl (λ next rest. walk_tells next (page.done + 1) pages to till rest)
      where
        same : page.from ≡ from
        same = let e = walk.0 in cc

        lasts : page.done + 1 ≤ till
        lasts = walk_lasts run bound page.next (page.done + 1) pages to till walk.3

        one : TellMap run points since till from (end_under bound page.next) page.pairs
        one = rw same at (one_tells page since till walk.2 walk.1 lasts)

        go : (next : Option (List ℕ)) → page.next ≡ next
            → ((next : List ℕ) → IsWalk run bound (Some next) (page.done + 1) pages to till → TellMap run points (page.done + 1) till next (end_under bound to) (pairs_shown pages))
            → TellMap run points since till from (end_under bound to) (page.pairs ++ pairs_shown pages)
        go None goes more =
            let none = ended (page.done + 1) pages to till (rw goes at walk.3) in
            let here : TellMap run points since till from (end_under bound to) page.pairs = rw (goes ∙ sym none.1) at one in
            subst (TellMap run points since till from (end_under bound to)) (sym (ap (λ ps. page.pairs ++ pairs_shown ps) none.0 ∙ append-nil page.pairs)) here
        go (Some next) goes more =
            let rest = rw goes at walk.3 in
            let here : TellMap run points since till from (Some next) page.pairs = rw goes at one in
            let early = walk.1 in let begun = walk.2.ends.2.begun in
            join_tells since (page.done + 1) till from next (end_under bound to) page.pairs (pairs_shown pages) (omega arith)
            (rw same at (goes_ahead page next walk.2 goes))
            (below_end next (page.done + 1) pages to till (next_under page next walk.2 goes) rest) here (more next rest)
