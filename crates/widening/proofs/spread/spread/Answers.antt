use Rattle.std.proofs.Common.{◌≡◌, ◌++◌, ◌-◌, ℕ, List, Result, length, take, drop, subst, ap, ◌∙◌, arith, length-drop}
use Rattle.std.specs.Prelude.{IfOk}
use Rattle.std.proofs.lemmas.List.{take_all}
use Rattle.record_slots.specs.Layout.{first_at, row_size}
use Rattle.widening.specs.Spread.{fields, spread_fields}
use Rattle.widening.proofs.SpreadLaws.{spread_written}
use Rattle.widening.proofs.spread.spread.Goals as goal

pub returns : goal.returns
returns c =
    let words = c.args.words.now in
    let behind : List ℕ = drop first_at words in
    let behind_length : length behind ≡ length words - first_at = length-drop first_at words in
    let all : take 253 behind ≡ behind = take_all 253 behind (omega (arith, c.told-words)) in
    let pushed = c.push_fields.ensures ∙ ap (λ ws. c.push-3.new.self.items ++ spread_fields fields ws) all in
    let left = ap (λ n. row_size - n) c.len-left.ensures.value in
    let whole = spread_written words c.new-wide.result.items c.push.new.self.items c.push-2.new.self.items c.push-3.new.self.items c.push_fields.new.wide.items
    c.push_zeros.new.wide.items (row_size - c.len-left.result)
    c.told-words c.new-wide.ensures c.push.ensures.items c.push-2.ensures.items c.push-3.ensures.items pushed left c.push_zeros.ensures in
    let array : c.unwrap.result ≡ c.push_zeros.new.wide.items = subst (λ (r : Result (List ℕ) _). IfOk r (λ array. array ≡ c.push_zeros.new.wide.items)) c.unwrap.ensures c.into_inner.ensures.ok in
    array ∙ whole
