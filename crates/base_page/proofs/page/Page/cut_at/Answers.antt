use Rattle.std.proofs.Common.{◌≡◌, ◌<◌, ℕ, true, List, None, length, get_or, arith, ap, subst, sym, ◌∙◌}
use Rattle.std.specs.Prelude.{if◌then◌else◌}
use Rattle.bw_model.specs.Bytes.{is_below, is_under}
use Rattle.base_page.specs.declared.item.Item.{Item}
use Rattle.base_page.specs.Pages.{Page, IsPage, content_at}
use Rattle.base_page.specs.Places.{IsCut}
use Rattle.base_page.proofs.CutLaws.{IsCut-here, under_here, above_low, content_at-take, content_at-drop, IsPage-lower, IsPage-upper}
use Rattle.base_page.proofs.page.Page.cut_at.Goals as goal

-- The place is one of an item, and the items are cut there, at the separator.
cuts : {page now : Page} {place : ℕ} {slice : List Item} {item : Item} {key : List ℕ} → page ≡ now → (is : IsPage page)
    → slice ≡ page.items → item ≡ get_or slice place item → key ≡ (get_or slice place item).key → place < length now.items
    → (place < length page.items) × IsCut page.items key place × (is_under key page.high ≡ true)
cuts {page} {now} {place} {slice} {item} {key} same is slice_is here key_is below =
    let lt : place < length page.items = subst (λ (page : Page). place < length page.items) (sym same) below in
    let there : item ≡ get_or page.items place item = here ∙ ap (λ (xs : List Item). get_or xs place item) slice_is in
    let key_there : key ≡ item.key = key_is ∙ ap (λ (x : Item). x.key) (sym here) in
    (lt, IsCut-here page is place lt item there key key_there, under_here page is place lt item there key key_there)

pub invariant_of-lower : goal.invariant_of-lower
invariant_of-lower c =
    let (lt, cut, under) = cuts c.lower.view_is c.lower.invariant c.as_slice.ensures.items c.index-as_slice-place.is c.copied-separator.ensures c.requires.1 in
    rw c.split_off.ensures.front (IsPage-lower _ c.lower.invariant c.copied-separator.result c.args.place cut c.args.right
    (above_low _ c.lower.invariant c.copied-separator.result c.args.place c.requires.0 (omega (arith, lt)) cut))

pub invariant_of-upper : goal.invariant_of-upper
invariant_of-upper c =
    let (lt, cut, under) = cuts c.lower.view_is c.lower.invariant c.as_slice.ensures.items c.index-as_slice-place.is c.copied-separator.ensures c.requires.1 in
    rw (c.split_off.ensures.back, c.take.ensures.value, c.copied.ensures) (IsPage-upper _ c.lower.invariant c.copied-separator.result c.args.place cut under)

pub returns-clause-below : goal.returns-clause-below
returns-clause-below c q =
    let (lt, cut, under) = cuts c.lower.view_is c.lower.invariant c.as_slice.ensures.items c.index-as_slice-place.is c.copied-separator.ensures c.requires.1 in
    let there : content_at c.split_off.new.self q ≡ (if is_below q c.copied.result then content_at c.lower.inside.items q else None) = rw
    (c.split_off.ensures.front, c.copied.ensures) (content_at-take c.lower.inside.items c.copied-separator.result c.args.place cut q) in
    there ∙ ap (λ (page : Page). if is_below q c.copied.result then content_at page.items q else None) c.lower.view_is

pub returns-clause-above : goal.returns-clause-above
returns-clause-above c q =
    let (lt, cut, under) = cuts c.lower.view_is c.lower.invariant c.as_slice.ensures.items c.index-as_slice-place.is c.copied-separator.ensures c.requires.1 in
    let there : content_at c.split_off.result q ≡ (if is_below q c.copied.result then None else content_at c.lower.inside.items q) = rw
    (c.split_off.ensures.back, c.copied.ensures) (content_at-drop c.lower.inside.items c.copied-separator.result c.args.place cut q) in
    there ∙ ap (λ (page : Page). if is_below q c.copied.result then None else content_at page.items q) c.lower.view_is

pub returns-clause-pages : goal.returns-clause-pages
returns-clause-pages c = (invariant_of-lower c, invariant_of-upper c)
