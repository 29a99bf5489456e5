-- What has gone out of the tree where a change has won, and that it may come into limbo.
use Rattle.std.specs.Prelude.{◌≡◌, ◌<◌, ◌≤◌, ℕ, List, length, Option, Some, None, MatchOption}
use Rattle.tree_limits.specs.declared.limits.Limits.{Limits}
use Rattle.deltas.specs.Memory.{replaced_at}
use Rattle.deltas.specs.declared.record.Record.{Record}
use Rattle.traces.specs.chain.Chains.{IsChainFrom, chain_rows}
use Rattle.traces.specs.discipline.Fitting.{AreOutOfLimbo}
use Rattle.traces.specs.discipline.Knowledge.{Absent, Unstamped, Knowledge, Limbos, taken_out}
use Rattle.epochs.specs.Limbo.{Limbo as LimboSeen}
use Rattle.change_machine.specs.declared.change.End.{End}
use Rattle.change_machine.specs.declared.change.End.TheVariants.{Won}
use Rattle.structure_changes.specs.declared.after.After.TheVariants.{Limbo}
use Rattle.structure_changes.specs.declared.unlinked.Unlinked.{Unlinked}
use Rattle.op_parts.specs.Hands.{IsPageOut, GoesToLimbo, Unlinks}
use Rattle.op_parts.specs.declared.then.Then.{Then}
use Rattle.op_parts.specs.declared.then.Then.TheVariants.{After}
use Rattle.sweep.specs.Kept.{AreKept}
use Rattle.sweep.specs.Taken.{IsTakenOut}

-- what has gone out where a change has won
pub gone : (limits : Limits) (k : Knowledge) (end : End) (then : Then) (unlinked : Unlinked) (after : Limbos) → end ≡ Won
    → then ≡ After (Limbo unlinked)
    → Unlinks limits k end then after → GoesToLimbo limits k unlinked after
gone limits k end then unlinked after won is h = rw (won, is) at h

-- What a change has taken out of the tree may come into limbo, by the laws of chains that go there.
module _ (limits : Limits) (actor : ℕ) (limbo : LimboSeen) (k : Knowledge) (kept : AreKept limits actor limbo k.limbo)
    (rows : (limits : Limits) (actor head : ℕ) (limbo : LimboSeen) (k : Knowledge) (chain : List Record) → AreKept limits actor limbo k.limbo
    → AreOutOfLimbo limits k head → IsChainFrom k.read.seen head chain → length chain ≤ 13
    → IsTakenOut limits actor limbo (chain_rows head chain) None (record k.limbo { rows = taken_out k.read.seen head k.limbo.rows }))
    (page : (limits : Limits) (actor head page : ℕ) (limbo : LimboSeen) (k : Knowledge) (chain : List Record) → AreKept limits actor limbo k.limbo
    → AreOutOfLimbo limits k head → IsChainFrom k.read.seen head chain → length chain ≤ 13
    → 0 < page → page < limits.pids → k.limbo.pids page ≡ Absent
    → IsTakenOut limits actor limbo (chain_rows head chain) (Some page)
    (record k.limbo { rows = taken_out k.read.seen head k.limbo.rows; pids = replaced_at page Unstamped k.limbo.pids })) where
  pub taken : (unlinked : Unlinked) (after : Limbos) → GoesToLimbo limits k unlinked after
      → IsTakenOut limits actor limbo unlinked.rows.items unlinked.pid after
  taken unlinked after out = by unlinked.pid out.page
    where
      by : (pid : Option ℕ)
          → MatchOption pid (after ≡ record k.limbo { rows = taken_out k.read.seen out.head k.limbo.rows })
          (IsPageOut limits k.limbo (record k.limbo { rows = taken_out k.read.seen out.head k.limbo.rows }) after)
          → IsTakenOut limits actor limbo unlinked.rows.items pid after
      by None is = rw (out.rows_of.are, is) (rows limits actor out.head limbo k out.rows_of.chain kept out.absent out.rows_of.read out.rows_of.short)
      by (Some pid) is =
          rw (out.rows_of.are, is.is)
          (page limits actor out.head pid limbo k out.rows_of.chain kept out.absent out.rows_of.read out.rows_of.short is.some is.below is.absent)
