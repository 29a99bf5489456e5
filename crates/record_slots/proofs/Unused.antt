-- The words behind those that a record uses.
use Rattle.std.proofs.Common.{◌≡◌, ◌≤◌, ◌+◌, ◌*◌, ◌-◌, ℕ, List, get_or, replicate, sym, ap, ◌∙◌, ⊎_elim, arith}
use Rattle.std.proofs.lemmas.Bool.{cases_lt}
use Rattle.std.proofs.lemmas.List.{get_or-drop, get_or-replicate, get_or_past, length-replicate}
use Rattle.deltas.specs.declared.record.Record.{Record}
use Rattle.record_slots.specs.Layout.{item_size, items_at}
use Rattle.record_slots.specs.Parts.{row_of}
use Rattle.record_slots.specs.Spelling.{words_left}
use Rattle.record_slots.specs.Spells.{IsSpelling}
use Rattle.record_slots.proofs.SpellingLaws.{row_spelled}

pub zeros_are : (n j : ℕ) → ◌≡◌ {A = ℕ} (get_or (replicate n 0) j 0) 0
zeros_are n j = ⊎_elim (λ below. get_or-replicate n j 0 0 below) (λ above. get_or_past (replicate n 0) j 0 (omega (arith, above, length-replicate {A = ℕ} n 0))) (cases_lt j n)

-- are 0
pub zero_behind : (words : List ℕ) (content : Record) → IsSpelling content words → (j : ℕ) → items_at + item_size * (row_of content).count ≤ j → get_or words j 0 ≡ 0
zero_behind words content spelled j above =
    let end : ℕ = items_at + item_size * (row_of content).count in
    let at : j ≡ end + (j - end) = omega (arith, above) in
    ap (λ k. get_or words k 0) at ∙ sym (get_or-drop end words (j - end) 0) ∙ ap (λ ws. get_or ws (j - end) 0) (row_spelled words content spelled).rest ∙
    zeros_are (words_left (row_of content).count) (j - end)
