-- A delete of a key that a leaf has in its range fits.
use Rattle.std.proofs.Common.{◌≡◌, ℕ, List, false, ◌∙◌}
use Rattle.std.specs.Prelude.{IsTrue}
use Rattle.deltas.specs.Spellable.{IsRow}
use Rattle.deltas.specs.declared.record.Record.{Record}
use Rattle.deltas.specs.declared.record.Record.TheVariants as kind
use Rattle.traces.specs.chain.Chains.{covers, is_removed, level_in}
use Rattle.traces.specs.chain.Fitted.{FitsOver, IsPageChain}
use Rattle.traces.proofs.FittedLaws.{ruled}
use Rattle.traces.proofs.Updated.{delete_fits}
use Rattle.structure_changes.proofs.Places.{made}

pub delete_over : (chain : List Record) (next : ℕ) (key : List ℕ) → IsPageChain chain → IsRow next → is_removed chain ≡ false → level_in chain ≡ 0 → IsTrue (covers chain key)
    → FitsOver chain (kind.Delete (record { next = next; key = key }))
delete_over chain next key is row alive leaf covered =
    let (now, makes) = made chain is.fitted in
    delete_fits chain now (record { next = next; key = key }) makes (ruled chain now is.fitted makes) row
    (record { alive = makes.removed ∙ alive; leaf = makes.level ∙ leaf; covered = rw (makes.low, makes.high) covered })
