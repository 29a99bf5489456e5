-- A removal fits its page.
use Rattle.structure_changes.proofs.Words.{◌≡◌, ◌≢◌, ◌≤◌, List, [], length, true, Some, refl, ◌∙◌, arith, IsTrue, is_below, Child, Page, content_at, IsRuled, Record, Remove, IsSpellable}
use Rattle.structure_changes.proofs.Words.{low_in, FitsOver, IsFitted, Makes, fits_over, ruled, Version}
use Rattle.deltas.specs.declared.record.Record.TheVariants as kind
use Rattle.deltas.specs.Fits.{FitsRemove}
use Rattle.structure_changes.specs.Removals.{CanRemove, IsRemovePlan, remove_of}
use Rattle.structure_changes.proofs.Places.{above_empty, above_low, held_inner, index_at, inside, made as made_of, not_empty, of_made, ruled_but}

remove_fits : (chain : List Record) (page : Page) (remove : Remove) → Makes chain page → IsRuled page → IsSpellable (kind.Remove remove) → FitsRemove page remove → FitsOver chain (kind.Remove remove)
remove_fits chain page remove makes rules spellable fit =
    fits_over chain (kind.Remove remove) page (record page { removed = true }) refl spellable makes fit
    (record { ascending = rules.is_page.ordered.ascending; contents = λ key. refl; level = refl; low = refl; high = refl; right = refl; removed = refl })
    (ruled_but true rules)

-- the plan of a removal is one that may be linked: a page whose term is held isn't the first of its level
pub planned : (parent page : Version) (made : Page) (remove : Remove) → IsFitted parent.chain → Makes page.chain made → IsRuled made → remove ≡ remove_of page
    → CanRemove parent page → IsRemovePlan parent page remove
planned parent page made remove fitted makes rules is can =
    let key = low_in page.chain in
    let (above, names) = made_of parent.chain fitted in
    let over = ruled parent.chain above fitted names in
    let there : content_at above.items key ≡ Some (Child page.pid true) = names.items.contents key ∙ can.held in
    let inner = held_inner above.low above.items key page.pid (over.terms (index_at above over key page.pid true there)).first there in
    let some : key ≢ [] = not_empty above.low key (above_low above key (inside above over key (Child page.pid true) there) inner) in
    let few = of_made page.chain made (λ items. length items ≤ 4) makes can.few in
    let low : IsTrue (is_below [] made.low) = rw makes.low (above_empty key some) in
    let fit : FitsRemove made (remove_of page) = record { alive = makes.removed ∙ can.alive; level = makes.level; few = few; inner = low } in
    record {
      can = can;
      is = is;
      fits = rw is (remove_fits page.chain made (remove_of page) makes rules (rw (← makes.level) rules.top, page.is_row) fit, (let short = can.short in omega (arith, short)));
    }
