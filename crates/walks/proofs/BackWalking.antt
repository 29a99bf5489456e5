-- Walks down the keys that go on, and what they show.
use Rattle.walks.proofs.Words.{BackPage, Bool, Contains-append_cases, Contains-append_left, Contains-append_right, Entry, IsBackOf, IsBackShown, List, None}
use Rattle.walks.proofs.Words.{Option, Some, StartsWith, after_is_above, and_both, and_left, and_right, ap, append-nil, append_assoc, arith, back_operation}
use Rattle.walks.proofs.Words.{begin_above, below_from, below_reach, either, false, inl, inr, is_below, is_lt, is_under, itself, key_after, not, not_true}
use Rattle.walks.proofs.Words.{place_from, refl, subst, sym, true, ℕ, [], ◌++◌, ◌+◌, ◌∙◌, ◌∷◌, ◌≡◌, ◌≤◌}
use Rattle.std.specs.Prelude.{IsTrue}
use Rattle.std.specs.List.Sorted.{IsStrictlySortedBy}
use Rattle.bw_model.specs.Bytes.{is_in_range}
use Rattle.traces.proofs.Pushes.{slice_get_kept}
use Rattle.walks.specs.BackWalks.{IsBackWalk, TellKeys, pairs_upward}
use Rattle.walks.proofs.BackCuts.{below_all, below_not, below_trans, upto_trans}
use Rattle.walks.proofs.Cuts.{Pair}
use Rattle.walks.proofs.Walking.{finish_stays, none_in, sorted_on}

-- a page of a run is one of each longer run
back_stays : (run later : List Entry) (low : List ℕ) (page : BackPage) → StartsWith later run → IsBackOf run low page → IsBackOf later low page
back_stays run later low page (rest, more) is = rw more (record {
  begins = slice_get_kept run rest page.begun _ is.begins;
  items = is.items;
  below = is.below;
  ends = finish_stays run rest (back_operation page) page.done _ is.ends;
  next = is.next;
  pairs = is.pairs;
})

pub back_walk_stays : (run later : List Entry) (low : List ℕ) (at : Option (List ℕ)) (since : ℕ) (pages : List BackPage) (to : Option (List ℕ)) (till : ℕ)
    → StartsWith later run → IsBackWalk run low at since pages to till → IsBackWalk later low at since pages to till
back_walk_stays run later low at since [] to till more walk = walk
back_walk_stays run later low at since (page ∷ pages) to till more walk =
    (walk.0, walk.1, back_stays run later low page more walk.2, back_walk_stays run later low page.next (page.done + 1) pages to till more walk.3)

-- a walk takes its time
back_walk_lasts : (run : List Entry) (low : List ℕ) (at : Option (List ℕ)) (since : ℕ) (pages : List BackPage) (to : Option (List ℕ)) (till : ℕ)
    → IsBackWalk run low at since pages to till → since ≤ till
back_walk_lasts run low at since [] to till walk = walk.1
back_walk_lasts run low at since (page ∷ pages) to till walk =
    let rest = back_walk_lasts run low page.next (page.done + 1) pages to till walk.3 in let begun = walk.1 in let ends = walk.2.ends.2.begun in omega arith

back_walk_from : (run : List Entry) (low : List ℕ) (at : Option (List ℕ)) (early since : ℕ) (pages : List BackPage) (to : Option (List ℕ)) (till : ℕ)
    → early ≤ since
    → IsBackWalk run low at since pages to till → IsBackWalk run low at early pages to till
back_walk_from run low at early since [] to till le walk = let then' = walk.1 in (walk.0, omega arith)
back_walk_from run low at early since (page ∷ pages) to till le walk = let then' = walk.1 in (walk.0, omega arith, walk.2, walk.3)

-- a walk that goes on
pub back_walk_on : (run : List Entry) (low : List ℕ) (at : Option (List ℕ)) (since : ℕ) (pages : List BackPage) (mid : Option (List ℕ)) (then' : ℕ)
    (more : List BackPage) (to : Option (List ℕ)) (till : ℕ) → IsBackWalk run low at since pages mid then' → IsBackWalk run low mid then' more to till
    → IsBackWalk run low at since (pages ++ more) to till
back_walk_on run low at since [] mid then' more to till walk rest =
    back_walk_from run low at since then' more to till walk.1 (rw walk.0 at rest)
back_walk_on run low at since (page ∷ pages) mid then' more to till walk rest =
    (walk.0, walk.1, walk.2, back_walk_on run low page.next (page.done + 1) pages mid then' more to till walk.3 rest)

pub upward_on : (pages more : List BackPage) → pairs_upward (pages ++ more) ≡ pairs_upward more ++ pairs_upward pages
upward_on [] more = sym (append-nil (pairs_upward more))
upward_on (page ∷ pages) more = ap (λ rest. rest ++ page.pairs) (upward_on pages more) ∙ append_assoc (pairs_upward more) (pairs_upward pages) page.pairs

-- what is up to a key is below the key's next list
upto_after : (key other : List ℕ) → is_below key other ≡ false → is_below other (key_after key) ≡ true
upto_after key other out = after_is_above key other ∙ ap not out

-- a key that isn't above one below another is below that other
reaches : (key next upto : List ℕ) → is_below key (key_after next) ≡ true → is_below next upto ≡ true → is_below key upto ≡ true
reaches key next upto below ahead =
    let out : is_below next key ≡ false = not_true (is_below next key) (sym (after_is_above next key) ∙ below) in
    either (is_below key upto) (λ is. is) (λ past. let over : is_below next key ≡ true = below_all next upto key ahead past in absurd (cc))

after_itself : (key : List ℕ) → is_below key (key_after key) ≡ true
after_itself key = upto_after key key (ap is_lt (itself key))

module _ (run : List Entry) (points : List Bool) where
  -- what pairs tell of a time they tell of each longer one
  tells_early : (since mid till : ℕ) (from : List ℕ) (end : Option (List ℕ)) (pairs : List Pair) → since ≤ mid
      → TellKeys run points mid till from end pairs → TellKeys run points since till from end pairs
  tells_early since mid till from end pairs le one = record {
    ascending = one.ascending;
    within = one.within;
    there = λ key short in' has. one.there key short in' (λ n late soon. has n (omega arith) soon);
    stays = λ key value short in' has. one.stays key value short in' (λ n late soon. has n (omega arith) soon);
    was = λ key value among. let (n, late, soon, is) = one.was key value among in (n, omega arith, soon, is);
  }

  -- pairs up to a key, and pairs from there on
  joined : (since till : ℕ) (from next : List ℕ) (end : Option (List ℕ)) (xs ys : List Pair) → is_below next from ≡ false
      → ((key : List ℕ) → is_below key next ≡ true → is_under key end ≡ true)
      → TellKeys run points since till from (Some next) xs → TellKeys run points since till next end ys → TellKeys run points since till from end (xs ++ ys)
  joined since till from next end xs ys ahead under one more = record {
    ascending = sorted_on xs ys one.ascending more.ascending (λ x y v w here there.
        below_reach x next y (below_from x next (and_right (not (is_below x from)) (is_below x next) (one.within x v here)))
        (not_true (is_below y next) (and_left (not (is_below y next)) (is_under y end) (more.within y w there))));
    within = λ key value among. elim (Contains-append_cases xs ys (key, value) among) [
      | inl here ↦ let in' = one.within key value here in and_both _ _ (and_left (not (is_below key from)) (is_below key next) in')
          (under key (and_right (not (is_below key from)) (is_below key next) in'))
      | inr there ↦ let in' = more.within key value there in and_both _ _
          (ap not (upto_trans from next key ahead (not_true (is_below key next) (and_left (not (is_below key next)) (is_under key end) in'))))
          (and_right (not (is_below key next)) (is_under key end) in')
    ];
    there = λ key short in' has. either (is_below key next)
        (λ before. let at = one.there key short (lower key in' before) has in (at.0, Contains-append_left xs ys (key, at.0) at.1))
        (λ after. let at = more.there key short (upper key in' after) has in (at.0, Contains-append_right xs ys (key, at.0) at.1));
    stays = λ key value short in' has. either (is_below key next)
        (λ before. Contains-append_left xs ys (key, value) (one.stays key value short (lower key in' before) has))
        (λ after. Contains-append_right xs ys (key, value) (more.stays key value short (upper key in' after) has));
    was = λ key value among. elim (Contains-append_cases xs ys (key, value) among) [
      | inl here ↦ one.was key value here
      | inr there ↦ more.was key value there
    ];
  }
    where
      lower : (key : List ℕ) → IsTrue (is_in_range from end key) → is_below key next ≡ true → IsTrue (is_in_range from (Some next) key)
      lower key in' before = and_both _ _ (and_left (not (is_below key from)) (is_under key end) in') before

      upper : (key : List ℕ) → IsTrue (is_in_range from end key) → is_below key next ≡ false → IsTrue (is_in_range next end key)
      upper key in' after = and_both _ _ (ap not after) (and_right (not (is_below key from)) (is_under key end) in')

  -- of no keys nothing is told
  tell_none : (from : List ℕ) (since till : ℕ) → TellKeys run points since till from (Some from) []
  unfolding IsStrictlySortedBy
  tell_none from since till = record {
    ascending = tt;
    within = λ key value among. absurd (none_in (key, value) among);
    there = λ key short in' has. absurd (none key in');
    stays = λ key value short in' has. absurd (none key in');
    was = λ key value among. absurd (none_in (key, value) among);
  }
    where
      none : (key : List ℕ) → IsTrue (is_in_range from (Some from) key) → ⊥
      none key in' =
          let out = not_true (is_below key from) (and_left (not (is_below key from)) (is_below key from) in') in
          let below = and_right (not (is_below key from)) (is_below key from) in' in cc

  module _ (low : List ℕ) (shown : (page : BackPage) → IsBackOf run low page → IsBackShown run points low page) where
    one_tells : (page : BackPage) (since till : ℕ) → IsBackOf run low page → since ≤ page.begun → page.done + 1 ≤ till
        → TellKeys run points since till (begin_above low page.next) (Some (key_after page.upto)) page.pairs
    one_tells page since till is early late =
        let s = shown page is in let begun = s.own.2.1.begun in let done = s.within in record {
          ascending = s.pairs.ascending;
          within = λ key value among. (s.pairs.only key value among).0;
          there = λ key short in' has. let now = has s.step (omega arith) (omega arith) in (now.0, s.pairs.all key now.0 short in' now.1);
          stays = λ key value short in' has. s.pairs.all key value short in' (has s.step (omega arith) (omega arith));
          was = λ key value among. (s.step, omega arith, omega arith, (s.pairs.only key value among).1);
        }

    -- at its end a walk shows no more
    ended : (since : ℕ) (pages : List BackPage) (to : Option (List ℕ)) (till : ℕ) → IsBackWalk run low None since pages to till → (pages ≡ []) × (to ≡ None)
    ended since [] to till walk = (refl, walk.0)
    ended since (page ∷ pages) to till walk = let none = walk.0 in cc

    -- where a page goes on isn't below the lowest key
    next_over : (page : BackPage) (next : List ℕ) → IsBackOf run low page → page.next ≡ Some next → is_below next low ≡ false
    next_over page next is goes = by_below is.below (sym is.next ∙ goes)
      where
        by_below : (below : Option (List ℕ)) → place_from low below ≡ Some next → is_below next low ≡ false
        by_below None e = cc
        by_below (Some key) e = either (is_below key low)
            (λ under. let none : None ≡ Some next = rw under at e in absurd (cc))
            (λ over. let some : Some key ≡ Some next = rw over at e in let same : key ≡ next = cc in
            rw same at over)

    goes_ahead : (page : BackPage) (next : List ℕ) → IsBackOf run low page → page.next ≡ Some next → is_below next page.upto ≡ true
    goes_ahead page next is goes = rw goes at (shown page is).ahead

    -- where the walk comes to begins at or below what follows the key at which it stands
    begins_below : (at : List ℕ) (since : ℕ) (pages : List BackPage) (to : Option (List ℕ)) (till : ℕ) → is_below at low ≡ false
        → IsBackWalk run low (Some at) since pages to till
        → is_below (key_after at) (begin_above low to) ≡ false
    begins_below at since [] to till over walk = rw walk.0 (ap is_lt (itself (key_after at)))
    begins_below at since (page ∷ pages) to till over walk = go page.next refl (λ next up rest. begins_below next (page.done + 1) pages to till up rest)
      where
        same : page.upto ≡ at
        same = let e = walk.0 in cc

        go : (next : Option (List ℕ)) → page.next ≡ next
            → ((next : List ℕ) → is_below next low ≡ false → IsBackWalk run low (Some next) (page.done + 1) pages to till
            → is_below (key_after next) (begin_above low to) ≡ false)
            → is_below (key_after at) (begin_above low to) ≡ false
        go None goes more =
            let none = ended (page.done + 1) pages to till (rw goes at walk.3) in
            rw none.1 (upto_trans low at (key_after at) over (below_not at (key_after at) (after_itself at)))
        go (Some next) goes more =
            let ahead : is_below next at ≡ true = rw same at (goes_ahead page next walk.2 goes) in
            let past : is_below (key_after at) (key_after next) ≡ false = after_is_above next (key_after at)
            ∙ ap not (below_trans next at (key_after at) ahead (after_itself at)) in
            upto_trans (begin_above low to) (key_after next) (key_after at)
            (more next (next_over page next walk.2 goes) (rw goes at walk.3)) past

    -- a walk tells of the map from where it stands up to where it began
    pub back_tells : (upto : List ℕ) (since : ℕ) (pages : List BackPage) (to : Option (List ℕ)) (till : ℕ) → IsBackWalk run low (Some upto) since pages to till
        → TellKeys run points since till (begin_above low to) (Some (key_after upto)) (pairs_upward pages)
    back_tells upto since [] to till walk =
        rw walk.0 (tell_none (key_after upto) since till)
    back_tells upto since (page ∷ pages) to till walk = go page.next refl (λ next rest. back_tells next (page.done + 1) pages to till rest)
      where
        same : page.upto ≡ upto
        same = let e = walk.0 in cc

        lasts : page.done + 1 ≤ till
        lasts = back_walk_lasts run low page.next (page.done + 1) pages to till walk.3

        one : TellKeys run points since till (begin_above low page.next) (Some (key_after upto)) page.pairs
        one = rw same at (one_tells page since till walk.2 walk.1 lasts)

        go : (next : Option (List ℕ)) → page.next ≡ next
            → ((next : List ℕ) → IsBackWalk run low (Some next) (page.done + 1) pages to till
            → TellKeys run points (page.done + 1) till (begin_above low to) (Some (key_after next)) (pairs_upward pages))
            → TellKeys run points since till (begin_above low to) (Some (key_after upto)) (pairs_upward pages ++ page.pairs)
        go None goes more =
            let none = ended (page.done + 1) pages to till (rw goes at walk.3) in
            let here : TellKeys run points since till (begin_above low to) (Some (key_after upto)) page.pairs =
            rw (goes ∙ sym none.1) at one in
            subst (TellKeys run points since till (begin_above low to) (Some (key_after upto))) (sym (ap (λ ps. pairs_upward ps ++ page.pairs) none.0)) here
        go (Some next) goes more =
            let rest = rw goes at walk.3 in
            let here : TellKeys run points since till (key_after next) (Some (key_after upto)) page.pairs =
            rw goes at one in
            let ahead : is_below next upto ≡ true = rw same at (goes_ahead page next walk.2 goes) in
            let early = walk.1 in let begun = walk.2.ends.2.begun in
            joined since till (begin_above low to) (key_after next) (Some (key_after upto)) (pairs_upward pages) page.pairs
            (begins_below next (page.done + 1) pages to till (next_over page next walk.2 goes) rest)
            (λ key below. upto_after upto key (below_not key upto (reaches key next upto below ahead)))
            (tells_early since (page.done + 1) till (begin_above low to) (Some (key_after next)) (pairs_upward pages) (omega arith) (more next rest)) here
