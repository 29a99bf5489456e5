use Rattle.std.proofs.Common.{◌≡◌, rules}
use Rattle.std.specs.Prelude.{decimal}
use Rattle.tree_picture.proofs.Ranges.{adds_then}
use Rattle.tree_picture.proofs.write.with_number.Goals as goal

pub returns : goal.returns
returns c =
    let same : c.as_bytes.result.now ≡ decimal c.args.number = search rules in
    adds_then _ _ _ _ _ c.add.ensures (rw same at c.add-2.ensures)
