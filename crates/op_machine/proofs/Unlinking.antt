-- What the end of a removed page's term needs.
use Rattle.op_machine.proofs.Words.{◌≡◌, ◌∙◌, ℕ, Option, Some, None, ap, sym, IfSome, Unterm, Knowledge, KeepsSparePage, Spares, HasSeen, Version, Seeks, Task}
use Rattle.deltas.specs.declared.record.Record.TheVariants as kind
use Rattle.structure_changes.specs.Unterms.{IsUntermPlan}

-- a page that was read isn't the spare one
not_spare : (k : Knowledge) (unterm : Unterm) (row : ℕ) (pid : Option ℕ) → k.read.heads unterm.child ≡ Some row → IfSome pid (λ pid. k.read.heads pid ≡ None) → KeepsSparePage (kind.Unterm unterm) pid
not_spare k unterm row None read unread = tt
not_spare k unterm row (Some pid) read unread = λ same. let e = sym read ∙ ap k.read.heads same ∙ unread in cc

pub keeps_spare : (task : Task) (spares : Spares) (k : Knowledge) (parent left removed : Version) (unterm : Unterm) → Seeks task spares k
    → IsUntermPlan parent left removed unterm → HasSeen k removed → KeepsSparePage (kind.Unterm unterm) spares.pid
keeps_spare task spares k parent left removed unterm seeks plan seen =
    let child : unterm.child ≡ removed.pid = ap (λ (u : Unterm). u.child) plan.is in
    not_spare k unterm removed.head spares.pid (ap k.read.heads child ∙ seen.head) seeks.unread
