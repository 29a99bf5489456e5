use Rattle.compact_rows.proofs.Words.{◌∙◌, ℕ, ap, length, arith}
use Rattle.std.proofs.lemmas.List.{length-set, length-take-le}
use Rattle.compact_rows.proofs.compact_row.CompactRow.push.Goals as goal

pub invariant_of-self : goal.invariant_of-self
invariant_of-self c =
    let is = c.self.invariant in
    let long = is.long in
    let within = is.within in
    let count : ℕ = c.self.inside.count in
    let taken = length-take-le count c.self.inside.words (omega arith) in
    let written = ap length c.self.view_is in
    let room = c.requires in
    record { within = omega arith; long = length-set c.self.inside.words count c.args.word ∙ long }
