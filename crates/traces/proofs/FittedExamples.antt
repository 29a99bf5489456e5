-- Small chains whose records fit, and some that don't.
use Rattle.std.proofs.Common.{codes, ◌≡◌, ◌≢◌, ◌≤◌, ◌+◌, ℕ, List, [], ◌∷◌, Bool, true, false, Option, Some, None, refl, sym, ap, subst, ◌∙◌, arith}
use Rattle.std.specs.Prelude.{is_some, if◌then◌else◌, IsTrue, not, ◌&&◌}
use Rattle.std.specs.List.{AllByRecursion}
use Rattle.std.specs.List.Sorted.{IsStrictlySortedBy}
use Rattle.std.specs.Ordering.{is_eq, ordering_reverse}
use Rattle.std.specs.declared.cmp.Ordering.TheVariants.{Less, Greater}
use Rattle.std.proofs.lemmas.Cmp.{nat_list_cmp_total}
use Rattle.std.proofs.lemmas.List.Elements.{All-from_recursion}
use Rattle.bw_model.specs.Bytes.{key_cmp, is_below, is_in_range, is_under}
use Rattle.base_page.specs.declared.item.Content.{Content}
use Rattle.base_page.specs.declared.item.Content.TheVariants.{Value, Child}
use Rattle.base_page.specs.declared.item.Item.{Item}
use Rattle.base_page.specs.Pages.{Page, IsPage, AreItems, IsOfLevel, content_at}
use Rattle.base_page.specs.Rules.{IsFirstAt, is_held, IsRuled}
use Rattle.deltas.specs.declared.record.Record.{Record}
use Rattle.deltas.specs.declared.record.Record.TheVariants.{Base}
use Rattle.deltas.specs.Applies.{Applies}
use Rattle.deltas.specs.Spellable.{HasPid, IsPid, IsRow, IsSpellableLink, IsSpellablePage}
use Rattle.traces.specs.chain.Examples.{leaf, split, split_leaf, merge, merged_leaf, put_k07, delete, remove, leaf_chain, index, index_page, term, hold, unterm}
use Rattle.traces.specs.chain.Examples.{termed_page, held_page, untermed_page, index_chain, split_to_page_4, split_index, page_4, index_merge, merged_index}
use Rattle.traces.specs.chain.Examples.{hold_again, long_index, put_over_removal, put_outside, base_over_base, first_held, marked_base, unnamed_split}
use Rattle.traces.specs.chain.Fitted.{FitsOver, IsPageChain, Makes}
use Rattle.traces.proofs.FittedLaws.{by_order, first_spellable, found_first, fits_over, Makes-base, Makes-next}

abbrev k07 : List ℕ
k07 = codes "k07"

abbrev k08 : List ℕ
k08 = codes "k08"

abbrev k09 : List ℕ
k09 = codes "k09"

-- the key is this one, or another
by_key : {G : Type 0} (q k : List ℕ) → (q ≡ k → G) → (is_eq (key_cmp q k) ≡ false → G) → G
by_key q k same other = by_order q k
    (λ less. other (ap is_eq less))
    same
    (λ more. other (ap is_eq (nat_list_cmp_total.antisymm q k ∙ ap ordering_reverse more)))

-- a key above "k09" is not "k08"
not_08 : (q : List ℕ) → key_cmp k09 q ≡ Less → is_eq (key_cmp q k08) ≡ false
not_08 q more = by_key q k08 (λ is. let clash : key_cmp k09 k08 ≡ Less = rw is at more in absurd cc) (λ other. other)

above_09 : (q : List ℕ) → key_cmp k09 q ≡ Less → key_cmp q k09 ≡ Greater
above_09 q more = nat_list_cmp_total.antisymm q k09 ∙ ap ordering_reverse more

-- pages

of_leaf : (page : Page) → IsPage page → page.level ≡ 0 → is_some page.right ≡ is_some page.high → IsRuled page
of_leaf page is leaf ends = record { is_page = is; ends = ends; top = omega (arith, leaf); terms = λ index. absurd (omega (arith, leaf, index)) }

is_page : (page : Page) → IsTrue (is_under page.low page.high) → AreItems page.items
    → AllByRecursion (λ item. IsTrue (is_in_range page.low page.high item.key)) page.items
    → AllByRecursion (λ item. IsOfLevel page.level item.content) page.items → IsPage page
is_page page spans ordered within kinds = record {
  spans = spans;
  ordered = ordered;
  within = All-from_recursion
      (λ (item : Item). IsTrue (is_in_range page.low page.high item.key)) page.items within;
  kinds = All-from_recursion
      (λ (item : Item). IsOfLevel page.level item.content) page.items kinds;
}

abbrev item_07 : Item
item_07 = record { key = k07; content = Value (codes "v07") }

abbrev item_08 : Item
item_08 = record { key = k08; content = Value (codes "v08") }

abbrev item_09 : Item
item_09 = record { key = k09; content = Value (codes "w09") }

abbrev lower : Page
lower = record leaf { high = Some k09; right = Some 2; items = item_08 ∷ [] }

abbrev merged : Page
merged = record leaf { items = item_08 ∷ item_09 ∷ [] }

abbrev with_07 : Page
with_07 = record leaf { items = item_07 ∷ item_08 ∷ item_09 ∷ [] }

abbrev without_08 : Page
without_08 = record leaf { items = item_07 ∷ item_09 ∷ [] }

abbrev removed : Page
removed = record without_08 { removed = true }

ruled_leaf : IsRuled leaf
unfolding IsStrictlySortedBy
ruled_leaf = of_leaf leaf (is_page leaf refl (record { few = omega arith; ascending = ((refl, tt), (tt, tt)) }) (refl, (refl, tt)) (refl, (refl, tt))) refl refl

ruled_lower : IsRuled lower
unfolding IsStrictlySortedBy
ruled_lower = of_leaf lower (is_page lower refl (record { few = omega arith; ascending = (tt, tt) }) (refl, tt) (refl, tt)) refl refl

ruled_merged : IsRuled merged
unfolding IsStrictlySortedBy
ruled_merged = of_leaf merged (is_page merged refl (record { few = omega arith; ascending = ((refl, tt), (tt, tt)) }) (refl, (refl, tt)) (refl, (refl, tt))) refl refl

ruled_with_07 : IsRuled with_07
unfolding IsStrictlySortedBy
ruled_with_07 =
    of_leaf with_07 (is_page with_07 refl (record { few = omega arith; ascending = ((refl, (refl, tt)), ((refl, tt), (tt, tt))) }) (refl, (refl, (refl, tt))) (refl, (refl, (refl, tt)))) refl refl

ruled_without_08 : IsRuled without_08
unfolding IsStrictlySortedBy
ruled_without_08 = of_leaf without_08 (is_page without_08 refl (record { few = omega arith; ascending = ((refl, tt), (tt, tt)) }) (refl, (refl, tt)) (refl, (refl, tt))) refl refl

ruled_removed : IsRuled removed
ruled_removed = let rules = ruled_without_08 in of_leaf removed (record { spans = refl; ordered = rules.is_page.ordered; within = rules.is_page.within; kinds = rules.is_page.kinds }) refl refl

-- what a row can spell

not_empty : k09 ≢ []
not_empty e = cc

linked : (level next page : ℕ) → level ≤ 15 → IsRow next → IsPid page → IsSpellableLink level next k09 page
linked level next page top over names = record { top = top; over = over; above = not_empty; names = names }

pub stands_leaf : IsSpellablePage leaf
stands_leaf = record { ruled = ruled_leaf; alive = refl; right = tt; children = All-from_recursion (λ (item : Item). HasPid item.content) leaf.items (tt, (tt, tt)) }

abbrev upper : Page
upper = record { level = 0; low = k09; high = None; right = None; removed = false; items = item_09 ∷ [] }

stands_upper : IsSpellablePage upper
unfolding IsStrictlySortedBy
stands_upper = record {
  ruled = of_leaf upper (is_page upper refl (record { few = omega arith; ascending = (tt, tt) }) (refl, tt) (refl, tt)) refl refl;
  alive = refl;
  right = tt;
  children = All-from_recursion (λ (item : Item). HasPid item.content) upper.items (tt, tt);
}

-- what each record makes of the page under it
split_contents : (q : List ℕ) → content_at lower.items q ≡ (if not (is_below q k09) then None else content_at leaf.items q)
split_contents q = by_order q k09
    (λ less. rw less refl)
    (λ is. rw is refl)
    (λ more. rw (above_09 q more, not_08 q more) refl)

merge_contents : (q : List ℕ) → content_at merged.items q ≡ (if not (is_below q k09) && true then content_at (item_09 ∷ []) q else content_at lower.items q)
merge_contents q = by_order q k09
    (λ less. rw less refl)
    (λ is. rw is refl)
    (λ more. rw (above_09 q more, not_08 q more) refl)

delete_contents : (q : List ℕ) → content_at without_08.items q ≡ (if is_eq (key_cmp q k08) then None else content_at with_07.items q)
delete_contents q = by_key q k08
    (λ is. rw is refl)
    (λ other. rw other refl)

leaf_makes : Makes (Base leaf ∷ []) leaf
leaf_makes = Makes-base leaf ruled_leaf.is_page.ordered.ascending refl

split_applies : Applies leaf split lower
split_applies = record { ascending = ruled_lower.is_page.ordered.ascending; contents = split_contents; level = refl; low = refl; high = refl; right = refl; removed = refl }

split_makes : Makes (split ∷ Base leaf ∷ []) lower
split_makes = Makes-next (Base leaf ∷ []) split leaf lower leaf_makes split_applies

split_fits : FitsOver (Base leaf ∷ []) split
split_fits = fits_over (Base leaf ∷ []) split leaf lower refl (linked 0 11 2 (omega arith) (omega arith, omega arith) (omega arith, omega arith)) leaf_makes
    (record { alive = refl; level = refl; covered = refl; inner = refl })
    split_applies ruled_lower

merge_applies : Applies lower merge merged
merge_applies = record { ascending = ruled_merged.is_page.ordered.ascending; contents = merge_contents; level = refl; low = refl; high = refl; right = refl; removed = refl }

merge_makes : Makes (merge ∷ split_leaf) merged
merge_makes = Makes-next split_leaf merge lower merged split_makes merge_applies

merge_fits : FitsOver split_leaf merge
unfolding IsStrictlySortedBy
merge_fits = fits_over split_leaf merge lower merged refl ((omega arith, omega arith), not_empty, omega arith, stands_upper) split_makes
    (record {
      alive = refl;
      level = refl;
      meets = refl;
      merged = stands_upper.ruled.is_page;
      room = omega arith;
    })
    merge_applies ruled_merged

put_applies : Applies merged put_k07 with_07
put_applies = record { ascending = ruled_with_07.is_page.ordered.ascending; contents = λ q. refl; level = refl; low = refl; high = refl; right = refl; removed = refl }

put_makes : Makes (put_k07 ∷ merged_leaf) with_07
put_makes = Makes-next merged_leaf put_k07 merged with_07 merge_makes put_applies

put_fits : FitsOver merged_leaf put_k07
put_fits = fits_over merged_leaf put_k07 merged with_07 refl (omega arith, omega arith) merge_makes
    (record { alive = refl; leaf = refl; covered = refl; room = λ absent. omega arith })
    put_applies ruled_with_07

delete_applies : Applies with_07 delete without_08
delete_applies = record { ascending = ruled_without_08.is_page.ordered.ascending; contents = delete_contents; level = refl; low = refl; high = refl; right = refl; removed = refl }

delete_makes : Makes (delete ∷ put_k07 ∷ merged_leaf) without_08
delete_makes = Makes-next (put_k07 ∷ merged_leaf) delete with_07 without_08 put_makes delete_applies

delete_fits : FitsOver (put_k07 ∷ merged_leaf) delete
delete_fits = fits_over (put_k07 ∷ merged_leaf) delete with_07 without_08 refl (omega arith, omega arith) put_makes
    (record { alive = refl; leaf = refl; covered = refl })
    delete_applies ruled_without_08

remove_applies : Applies without_08 (remove 15) removed
remove_applies = record { ascending = ruled_removed.is_page.ordered.ascending; contents = λ q. refl; level = refl; low = refl; high = refl; right = refl; removed = refl }

remove_fits : FitsOver (delete ∷ put_k07 ∷ merged_leaf) (remove 15)
remove_fits = fits_over (delete ∷ put_k07 ∷ merged_leaf) (remove 15) without_08 removed refl (omega arith, (omega arith, omega arith)) delete_makes
    (record { alive = refl; level = refl; few = omega arith; inner = refl })
    remove_applies ruled_removed

pub leaf_chain_fits : IsPageChain leaf_chain
leaf_chain_fits = record {
  fitted = (remove_fits, (delete_fits, (put_fits, (merge_fits, (split_fits, (leaf, refl, stands_leaf))))));
  short = omega arith;
}

-- index pages: the first term alone, and with another

abbrev first : Item
first = record { key = []; content = Child 1 false }

abbrev both : ℕ → Bool → Page
both child held = record index { items = first ∷ record { key = k09; content = Child child held } ∷ [] }

pub ruled_index : IsRuled index
unfolding IsStrictlySortedBy
ruled_index = record {
  is_page = is_page index refl (record { few = omega arith; ascending = (tt, tt) }) (refl, tt) (omega arith, tt);
  ends = refl;
  top = omega arith;
  terms = λ above. record { first = (refl, refl); few = omega arith; apart = tt };
}

stands_index : IsSpellablePage index
stands_index = record { ruled = ruled_index; alive = refl; right = tt; children = All-from_recursion (λ (item : Item). HasPid item.content) index.items ((omega arith, omega arith), tt) }

held_few : (held : Bool) → (if held then 1 else 0) + 0 ≤ 3
held_few true = omega arith
held_few false = omega arith

ruled_both : (child : ℕ) (held : Bool) → IsRuled (both child held)
unfolding IsStrictlySortedBy
ruled_both child held = record {
  is_page = is_page (both child held) refl (record { few = omega arith; ascending = ((refl, tt), (tt, tt)) }) (refl, (refl, tt)) (omega arith, (omega arith, tt));
  ends = refl;
  top = omega arith;
  terms = λ above. record { first = (refl, refl); few = omega (arith, held_few held); apart = (λ h. absurd cc, tt) };
}

term_contents : (child : ℕ) (q : List ℕ) → content_at (both child false).items q ≡ (if is_eq (key_cmp q k09) then Some (Child child false) else content_at index.items q)
term_contents child q = by_key q k09
    (λ is. rw is refl)
    (λ other. rw other refl)

hold_contents : (child : ℕ) (q : List ℕ) → content_at (both child true).items q ≡ (if is_eq (key_cmp q k09) then Some (Child child true) else content_at (both child false).items q)
hold_contents child q = by_key q k09
    (λ is. rw is refl)
    (λ other. rw other refl)

unterm_contents : (q : List ℕ) → content_at index.items q ≡ (if is_eq (key_cmp q k09) then None else content_at (both 2 true).items q)
unterm_contents q = by_key q k09
    (λ is. rw is refl)
    (λ other. rw other refl)

term_applies : (next child : ℕ) → Applies index (term next child) (both child false)
term_applies next child = record { ascending = (ruled_both child false).is_page.ordered.ascending; contents = term_contents child; level = refl; low = refl; high = refl; right = refl; removed = refl }

term_fits : (under : List Record) (next child : ℕ) → IsRow next → IsPid child → Makes under index → FitsOver under (term next child)
term_fits under next child row pid makes = fits_over under (term next child) index (both child false) refl (omega arith, linked 1 next child (omega arith) row pid) makes
    (record { alive = refl; level = refl; index = omega arith; covered = refl; absent = refl; room = omega arith })
    (term_applies next child) (ruled_both child false)

index_makes : Makes index_page index
index_makes = Makes-base index ruled_index.is_page.ordered.ascending refl

term_makes : Makes termed_page (both 2 false)
term_makes = Makes-next index_page (term 4 2) index (both 2 false) index_makes (term_applies 4 2)

hold_applies : Applies (both 2 false) hold (both 2 true)
hold_applies = record { ascending = (ruled_both 2 true).is_page.ordered.ascending; contents = hold_contents 2; level = refl; low = refl; high = refl; right = refl; removed = refl }

hold_makes : Makes (hold ∷ termed_page) (both 2 true)
hold_makes = Makes-next termed_page hold (both 2 false) (both 2 true) term_makes hold_applies

hold_fits : FitsOver termed_page hold
hold_fits = fits_over termed_page hold (both 2 false) (both 2 true) refl (omega arith, linked 1 5 2 (omega arith) (omega arith, omega arith) (omega arith, omega arith)) term_makes
    (record { alive = refl; level = refl; there = refl })
    hold_applies (ruled_both 2 true)

unterm_applies : Applies (both 2 true) unterm index
unterm_applies = record { ascending = ruled_index.is_page.ordered.ascending; contents = unterm_contents; level = refl; low = refl; high = refl; right = refl; removed = refl }

unterm_makes : Makes (unterm ∷ held_page) index
unterm_makes = Makes-next held_page unterm (both 2 true) index hold_makes unterm_applies

unterm_fits : FitsOver held_page unterm
unterm_fits = fits_over held_page unterm (both 2 true) index refl (omega arith, linked 1 6 2 (omega arith) (omega arith, omega arith) (omega arith, omega arith)) hold_makes
    (record { alive = refl; level = refl; there = refl })
    unterm_applies ruled_index

pub index_chain_fits : IsPageChain index_chain
index_chain_fits = record {
  fitted = (
    term_fits untermed_page 7 3 (omega arith, omega arith) (omega arith, omega arith) unterm_makes,
    (unterm_fits, (hold_fits, (term_fits index_page 4 2 (omega arith, omega arith) (omega arith, omega arith) index_makes, (index, refl, stands_index)))),
  );
  short = omega arith;
}

-- the same page split, and merged back

above_first : (q : List ℕ) → key_cmp k09 q ≡ Less → is_eq (key_cmp q []) ≡ false
above_first q more = by_key q [] (λ is. let clash : key_cmp k09 [] ≡ Less = rw is at more in absurd cc) (λ other. other)

abbrev cut : Page
cut = record index { high = Some k09; right = Some 4 }

ruled_cut : IsRuled cut
unfolding IsStrictlySortedBy
ruled_cut = record {
  is_page = is_page cut refl (record { few = omega arith; ascending = (tt, tt) }) (refl, tt) (omega arith, tt);
  ends = refl;
  top = omega arith;
  terms = λ above. record { first = (refl, refl); few = omega arith; apart = tt };
}

cut_contents : (q : List ℕ) → content_at cut.items q ≡ (if not (is_below q k09) then None else content_at (both 3 false).items q)
cut_contents q = by_order q k09
    (λ less. rw less refl)
    (λ is. rw is refl)
    (λ more. rw (above_09 q more, above_first q more) refl)

merged_contents : (q : List ℕ) → content_at (both 5 false).items q ≡ (if not (is_below q k09) && true then content_at page_4.items q else content_at cut.items q)
merged_contents q = by_order q k09
    (λ less. rw less refl)
    (λ is. rw is refl)
    (λ more. rw (above_09 q more, above_first q more) refl)

stands_page_4 : IsSpellablePage page_4
unfolding IsStrictlySortedBy
stands_page_4 = record {
  ruled = record {
    is_page = is_page page_4 refl (record { few = omega arith; ascending = (tt, tt) }) (refl, tt) (omega arith, tt);
    ends = refl;
    top = omega arith;
    terms = λ above. record { first = (refl, refl); few = omega arith; apart = tt };
  };
  alive = refl;
  right = tt;
  children = All-from_recursion (λ (item : Item). HasPid item.content) page_4.items ((omega arith, omega arith), tt);
}

again_makes : Makes index_chain (both 3 false)
again_makes = Makes-next untermed_page (term 7 3) index (both 3 false) unterm_makes (term_applies 7 3)

cut_applies : Applies (both 3 false) split_to_page_4 cut
cut_applies = record { ascending = ruled_cut.is_page.ordered.ascending; contents = cut_contents; level = refl; low = refl; high = refl; right = refl; removed = refl }

cut_makes : Makes split_index cut
cut_makes = Makes-next index_chain split_to_page_4 (both 3 false) cut again_makes cut_applies

cut_fits : FitsOver index_chain split_to_page_4
cut_fits = fits_over index_chain split_to_page_4 (both 3 false) cut refl (linked 1 8 4 (omega arith) (omega arith, omega arith) (omega arith, omega arith)) again_makes
    (record { alive = refl; level = refl; covered = refl; inner = refl })
    cut_applies ruled_cut

back_applies : Applies cut index_merge (both 5 false)
back_applies = record { ascending = (ruled_both 5 false).is_page.ordered.ascending; contents = merged_contents; level = refl; low = refl; high = refl; right = refl; removed = refl }

back_makes : Makes merged_index (both 5 false)
back_makes = Makes-next split_index index_merge cut (both 5 false) cut_makes back_applies

back_fits : FitsOver split_index index_merge
back_fits = fits_over split_index index_merge cut (both 5 false) refl ((omega arith, omega arith), not_empty, omega arith, stands_page_4) cut_makes
    (record { alive = refl; level = refl; meets = refl; merged = stands_page_4.ruled.is_page; room = omega arith })
    back_applies (ruled_both 5 false)

held_again_fits : FitsOver merged_index hold_again
held_again_fits = fits_over merged_index hold_again (both 5 false) (both 5 true) refl (omega arith, linked 1 10 5 (omega arith) (omega arith, omega arith) (omega arith, omega arith)) back_makes
    (record { alive = refl; level = refl; there = refl })
    (record { ascending = (ruled_both 5 true).is_page.ordered.ascending; contents = hold_contents 5; level = refl; low = refl; high = refl; right = refl; removed = refl })
    (ruled_both 5 true)

pub long_index_fits : IsPageChain long_index
long_index_fits = record { fitted = (held_again_fits, (back_fits, (cut_fits, index_chain_fits.fitted))); short = omega arith }

pub split_index_fits : IsPageChain split_index
split_index_fits = record { fitted = (cut_fits, index_chain_fits.fitted); short = omega arith }

-- what doesn't fit

pub put_over_removal_unfit : ¬ IsPageChain put_over_removal
put_over_removal_unfit h =
    let over = h.fitted.0 in
    let marked : over.page.removed ≡ true = over.makes.removed in
    let alive : over.page.removed ≡ false = over.fits.alive in
    cc

pub put_outside_unfit : ¬ IsPageChain put_outside
put_outside_unfit h =
    let over = h.fitted.0 in
    let high : over.page.high ≡ Some k09 = over.makes.high in
    let inside : not (is_below k09 over.page.low) && is_under k09 (Some k09) ≡ true = rw high at over.fits.covered in
    let below : is_under k09 (Some k09) ≡ true = rw over.makes.low at inside in
    cc

pub base_over_base_unfit : ¬ IsPageChain base_over_base
base_over_base_unfit h = let none : false ≡ true = h.fitted.0.delta in cc

first_unheld : (items : List Item) (low : List ℕ) (content : Content) → IsFirstAt low items → content_at items low ≡ Some content → is_held content ≡ false
first_unheld [] low content first h = absurd first
first_unheld (item ∷ items) low content first h =
    let here : content_at (item ∷ items) low ≡ Some item.content = rw (← first.0) (found_first item items) in
    let same : Some item.content ≡ Some content = sym here ∙ h in
    let is : item.content ≡ content = cc in
    rw is at first.1

pub first_held_unfit : ¬ IsPageChain first_held
first_held_unfit h =
    let over = h.fitted.0 in
    let level : over.made.level ≡ 1 = over.makes_now.level in
    let low : over.made.low ≡ [] = over.makes_now.low in
    let terms = over.ruled.terms (omega (arith, level)) in
    let there : content_at over.made.items over.made.low ≡ Some (Child 1 true) = ap (content_at over.made.items) low ∙ over.makes_now.items.contents [] in
    let unheld : true ≡ false = first_unheld over.made.items over.made.low (Child 1 true) terms.first there in
    cc

pub marked_base_unfit : ¬ IsPageChain marked_base
marked_base_unfit h =
    let stands = first_spellable (Base (record leaf { removed = true })) [] h.fitted in
    let alive = stands.alive in
    cc

pub unnamed_split_unfit : ¬ IsPageChain unnamed_split
unnamed_split_unfit h = let named = h.fitted.0.spellable.names.0 in omega (arith, named)
