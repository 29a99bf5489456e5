use Rattle.std.proofs.Common.{◌≡◌, ◌≤◌, length, ap, sym, subst, ◌∙◌}
use Rattle.std.specs.Rc.{rc_slice_items}
use Rattle.deltas.specs.declared.record.Record.{Record}
use Rattle.record_slots.specs.Layout.{row_size}
use Rattle.record_slots.specs.Spells.{IsSpelling}
use Rattle.record_slots.proofs.SpellingLaws.{spelling_one}
use Rattle.row_search.proofs.Found.{unwrapped}
use Rattle.core_memory.specs.Shared.{record_of, whole}
use Rattle.core_memory.proofs.WholeRows.{few}
use Rattle.core_memory.proofs.shared.SharedRecord.record.Goals as goal

pub write_row-requires : goal.write_row-requires
write_row-requires g c =
    subst (λ words. length words ≤ row_size) (sym c.as_slice.ensures.value) (few (rc_slice_items c.self.inside.words) (record_of (rc_slice_items c.self.inside.words)) c.self.invariant)

pub returns : goal.returns
returns g c =
    let words = rc_slice_items c.self.inside.words in
    let row : c.write_row.new.row ≡ whole words = c.write_row.ensures ∙ ap whole c.as_slice.ensures.value in
    let found = unwrapped (λ (content : Record). IsSpelling content c.write_row.new.row) c.read_words.result c.unwrap.result c.unwrap.ensures c.read_words.ensures in
    spelling_one c.unwrap.result (record_of words) (whole words) (subst (IsSpelling c.unwrap.result) row found) c.self.invariant ∙ c.self.view_is
