-- What a row has of a page.
use Rattle.std.proofs.Common.{◌≡◌, ℕ, false, List, sym, ap, subst, ◌∙◌, arith}
use Rattle.std.specs.Prelude.{Option}
use Rattle.std.specs.List.{All}
use Rattle.base_page.specs.declared.item.Item.{Item}
use Rattle.base_page.specs.Pages.{Page}
use Rattle.base_page.specs.Rules.{IsRuled}
use Rattle.deltas.specs.declared.record.Record.{Record}
use Rattle.deltas.specs.declared.record.Record.TheVariants.{Base, Merge}
use Rattle.record_slots.specs.declared.row.Row.{Row}
use Rattle.record_slots.specs.Parts.{IsItem, AreItemsIn, IsRecordOf, IsRightIn, row_of, items_of}
use Rattle.record_slots.proofs.OneRow.{items_one}
use Rattle.record_slots.proofs.SpellingLaws.{counts, items_fit, right_one}

module _ (row : Row) (words : List ℕ) (items : List Item) (are : AreItemsIn row.level row.count words items) where
  -- no other items than those that are read
  only_items : (content : Record) → IsRecordOf row words content → items_of content ≡ items
  only_items content h =
      let each = subst (λ (one : Row). All (IsItem one.level) (items_of content)) h.are (items_fit content h.spellable h.short) in
      items_one row.level (items_of content) items each are.each (counts content ∙ ap (λ (one : Row). one.count) h.are ∙ sym are.counts) (h.items ∙ sym are.are)

  abbrev pub page_of : Option ℕ → Page
  page_of right = record { level = row.level; low = row.first; high = row.second; right = right; removed = false; items = items }

  -- where no page of these parts keeps the rules, no base and no merge has them
  module _ (unruled : (right : Option ℕ) → IsRightIn row.page right → IsRuled (page_of right) → ⊥) where
    pub no_base : row.kind ≡ 1 → (content : Record) → IsRecordOf row words content → ⊥
    no_base kind (Base page) h =
        let same = only_items (Base page) h in
        let e = h.are in
        unruled page.right (record { pid = h.spellable.right; is = ap (λ (one : Row). one.page) e })
        (subst IsRuled (λ i. record { level = (e i).level; low = (e i).first; high = (e i).second; right = page.right; removed = h.spellable.alive i; items = same i }) h.spellable.ruled)
    no_base kind content h = let k : (row_of content).kind ≡ row.kind = ap (λ (one : Row). one.kind) h.are in absurd (omega arith)

    pub no_merge : row.kind ≡ 8 → (content : Record) → IsRecordOf row words content → ⊥
    no_merge kind (Merge merge) h =
        let same = only_items (Merge merge) h in
        let e = h.are in
        unruled merge.right (record { pid = h.spellable.3.right; is = ap (λ (one : Row). one.page) e })
        (subst IsRuled (λ i. record { level = (e i).level; low = (e i).first; high = (e i).second; right = merge.right; removed = false; items = same i }) h.spellable.3.ruled)
    no_merge kind content h = let k : (row_of content).kind ≡ row.kind = ap (λ (one : Row). one.kind) h.are in absurd (omega arith)

pub only_right : (page : ℕ) (one other : Option ℕ) → IsRightIn page one → IsRightIn page other → one ≡ other
only_right page one other h g = right_one one other h.pid g.pid (h.is ∙ sym g.is)
