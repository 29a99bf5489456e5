use Rattle.std.proofs.Common.{◌≡◌, ◌<◌, ◌/◌, ◌%◌, Bool, true, false, ℕ, List, get_or, refl, ap, ◌∙◌, arith}
use Rattle.std.specs.Prelude.{if◌then◌else◌}
use Rattle.deltas.specs.declared.record.Record.{Record}
use Rattle.record_slots.specs.Spelling.{words_of}
use Rattle.record_slots.specs.Spells.{HasSpelling}
use Rattle.record_slots.proofs.SpellingLaws.{row_spelled}
use Rattle.row_search.specs.Begins.{Begins}
use Rattle.compact_rows.specs.Seen.{seen}
use Rattle.compact_rows.specs.Spelling.{compact_words}
use Rattle.running_tree.proofs.taking.row_begins.Goals as goal

-- a row of either form begins so
module _ (content : Record) (spelt : HasSpelling content) (first : ℕ) where
  large : ((at : ℕ) → at < 512 → seen (compact_words content) at ≡ get_or (words_of content) at 0) → first ≡ get_or (compact_words content) 0 0 → Begins first content
  large are is =
      let header = are 0 (omega arith) in
      record { spelt = spelt; header = omega (arith, header, is); next = λ other. ap (λ n. n / 4294967296) is ∙ are 1 (omega arith) }

  small : first ≡ get_or (words_of content) 0 0 → Begins first content
  small is =
      let row = row_spelled (words_of content) content spelt in
      let header = row.header in
      let kind = row.is.kind in
      let level = row.is.level in
      let few = row.is.few in
      let form : first / 16777216 % 256 ≡ 2 = omega arith in
      record { spelt = spelt; header = ap (λ n. n % 16777216) is; next = λ other. absurd (other form) }

  either : ((at : ℕ) → at < 512 → seen (compact_words content) at ≡ get_or (words_of content) at 0) → (is_large : Bool)
      → first ≡ get_or (if is_large then compact_words content else words_of content) 0 0 → Begins first content
  either are true is = large are is
  either are false is = small is

pub returns : goal.returns
returns c content spelt is =
    either content spelt c.args.first
    (c.words_are_seen.ensures content (compact_words content)
    (record { spellable = spelt.spellable; short = spelt.short; room = c.records_have_room.ensures content spelt.spellable spelt.short; are = refl }))
    c.args.limits.now.is_large is
