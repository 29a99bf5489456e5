-- What an actor keeps between operations, and what comes into its limbo.
use Rattle.std.specs.Prelude.{◌≡◌, ◌<◌, ◌≤◌, ℕ, List, [], length, None, Some, MatchOption, ⊤}
use Rattle.tree_limits.specs.declared.limits.Limits.{Limits}
use Rattle.deltas.specs.Memory.{replaced_at}
use Rattle.deltas.specs.declared.record.Record.{Record}
use Rattle.deltas.specs.declared.record.Record.TheVariants.{Base, Unterm}
use Rattle.traces.specs.chain.Chains.{IsChainFrom, chain_rows}
use Rattle.traces.specs.discipline.Fitting.{AreOutOfLimbo}
use Rattle.traces.specs.discipline.Knowledge.{Absent, Unstamped, Knowledge, Limbos, taken_out}
use Rattle.epochs.specs.Limbo.{Limbo}
use Rattle.change_machine.specs.Spares.{Spares}
use Rattle.change_machine.specs.declared.change.End.{End}
use Rattle.change_machine.specs.declared.change.End.TheVariants.{Won}
use Rattle.structure_changes.specs.declared.plan.Plan.{Plan}
use Rattle.structure_changes.specs.declared.plan.Plan.TheVariants.{Install, Unlink}
use Rattle.op_parts.specs.declared.then.Then.{Then}
use Rattle.op_parts.specs.declared.then.Then.TheVariants as then
use Rattle.structure_changes.specs.declared.after.After.TheVariants as next
use Rattle.structure_changes.specs.declared.unlinked.Unlinked.{Unlinked}
use Rattle.sweep.specs.Kept.{empty_limbo}

-- what was taken and not linked, and what was taken out of the tree and is not freed
pub record Hand : Type 0 where
  pub spares : Spares
  pub limbo : Limbo

abbrev pub empty_hand : Limits → Hand
empty_hand limits = record {
  spares = record { pid = None; rows = [] };
  limbo = empty_limbo limits;
}

-- The rows are those of the chain that was read from this row on.
pub record AreRowsOf (k : Knowledge) (head : ℕ) (rows : List ℕ) : Type 0 where
  pub chain : List Record
  pub read : IsChainFrom k.read.seen head chain
  pub short : length chain ≤ 13
  pub are : rows ≡ chain_rows head chain

-- what a plan takes out of the tree: a base the chain under it, and the end of a removed page that page
abbrev pub IsTakenBy : Knowledge → Plan → Unlinked → Type 0
IsTakenBy k (Install pid head (Base page)) unlinked = AreRowsOf k head unlinked.rows.items × (unlinked.pid ≡ None)
IsTakenBy k (Unlink pid head unterm removal) unlinked = AreRowsOf k removal unlinked.rows.items × (unlinked.pid ≡ Some unterm.child)
IsTakenBy k plan unlinked = ⊥

-- any other plan takes nothing out; a page's term is taken out by an Unlink alone, which clears the page
abbrev pub TakesNothing : Plan → Type 0
TakesNothing (Install pid head (Base page)) = ⊥
TakesNothing (Install pid head (Unterm unterm)) = ⊥
TakesNothing (Unlink pid head unterm removal) = ⊥
TakesNothing plan = ⊤

-- The page was not in limbo, and is there then, with these rows.
pub record IsPageOut (limits : Limits) (limbo : Limbos) (rows : Limbos) (after : Limbos) (pid : ℕ) : Type 0 where
  pub some : 0 < pid
  pub below : pid < limits.pids
  pub absent : limbo.pids pid ≡ Absent
  pub is : after ≡ record rows { pids = replaced_at pid Unstamped limbo.pids }

-- What was taken out of the tree was in no limbo before, and all of it is in limbo after.
pub record GoesToLimbo (limits : Limits) (k : Knowledge) (unlinked : Unlinked) (after : Limbos) : Type 0 where
  pub head : ℕ
  pub rows_of : AreRowsOf k head unlinked.rows.items
  pub absent : AreOutOfLimbo limits k head
  pub page : MatchOption unlinked.pid
      (after ≡ record k.limbo { rows = taken_out k.read.seen head k.limbo.rows })
      (IsPageOut limits k.limbo (record k.limbo { rows = taken_out k.read.seen head k.limbo.rows }) after)

-- What is known to be in limbo once a change has ended: a change that has won may have taken something out.
abbrev pub Unlinks : Limits → Knowledge → End → Then → Limbos → Type 0
Unlinks limits k Won (then.After (next.Limbo unlinked)) after = GoesToLimbo limits k unlinked after
Unlinks limits k end then after = after ≡ k.limbo
