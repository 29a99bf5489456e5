-- What is seen, by which word of the row it is.
use Rattle.compact_rows.proofs.Words.{◌≡◌, ◌==◌, ◌<◌, ◌≤◌, ◌+◌, ◌*◌, ◌-◌, ◌/◌, ◌%◌, ℕ, List, get_or, sym, ap, ◌∙◌, arith, if◌then◌else◌, ltb, ne_eqb, lt-ltb, le-ltb}
use Rattle.compact_rows.proofs.Words.{items_at, first_unit, first_length, first_seen, items_seen}
use Rattle.compact_rows.proofs.Words.{second_length, second_seen, seen}
use Rattle.record_slots.specs.Layout.{form_unit, this_form}
use Rattle.compact_rows.specs.Layout.{next_unit}
use Rattle.compact_rows.proofs.Parts.{four}
use Rattle.compact_rows.proofs.Texts.{if_false, if_true}

module _ (words : List ℕ) (at : ℕ) where
  abbrev last : ℕ
  last = if ltb at 21 then second_seen words (at - 13) else items_seen words (at - items_at)

  abbrev after : ℕ
  after = if at == 12 then second_length words else last

  abbrev first : ℕ
  first = if ltb at 12 then first_seen words (at - 4) else after

  past : 3 < at → seen words at ≡ first
  past high = four at (get_or words 0 0 % form_unit + form_unit * this_form.number) (get_or words 0 0 / next_unit) (get_or words 1 0 % first_unit) (first_length words) first high

  pub at_first : 3 < at → at < 12 → first_seen words (at - 4) ≡ seen words at
  at_first high low = sym (past high ∙ if_true (ltb at 12) (first_seen words (at - 4)) after (lt-ltb at 12 low))

  pub at_second : 12 < at → at < 21 → second_seen words (at - 13) ≡ seen words at
  at_second high low =
      sym (past (omega arith) ∙ if_false (ltb at 12) (first_seen words (at - 4)) after (le-ltb at 12 (omega arith))
      ∙ if_false (at == 12) (second_length words) last (ne_eqb at 12 (λ e. omega (arith, e, high)))
      ∙ if_true (ltb at 21) (second_seen words (at - 13)) (items_seen words (at - items_at)) (lt-ltb at 21 low))

  pub at_items : 21 ≤ at → items_seen words (at - items_at) ≡ seen words at
  at_items high =
      sym (past (omega arith) ∙ if_false (ltb at 12) (first_seen words (at - 4)) after (le-ltb at 12 (omega arith))
      ∙ if_false (at == 12) (second_length words) last (ne_eqb at 12 (λ e. omega (arith, e, high)))
      ∙ if_false (ltb at 21) (second_seen words (at - 13)) (items_seen words (at - items_at)) (le-ltb at 21 high))

-- a place that is known
pub at_number : (words : List ℕ) (at n x : ℕ) → at ≡ n → x ≡ seen words n → x ≡ seen words at
at_number words at n x same is = is ∙ ap (seen words) (sym same)
