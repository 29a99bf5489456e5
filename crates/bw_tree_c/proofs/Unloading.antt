-- What is told of a load that was called off.
use Rattle.std.proofs.Common.{List, arith, map}
use Rattle.bw_model.specs.declared.command.Reply.TheVariants as reply
use Rattle.running_tree.specs.Loaded.{IsStopped}
use Rattle.running_tree.specs.declared.called.Called.TheVariants as called
use Rattle.running_tree.specs.declared.filling.TheConstants.{LOAD_BUDGET}
use Rattle.bw_tree_c.specs.Loaded.{IsUnloaded, given_pair}
use Rattle.bw_tree_c.specs.declared.statuses.TheConstants.{FULL, SPENT}
use Rattle.bw_tree_c.specs.declared.c_types.Pair.{Pair}
use Rattle.tree_limits.specs.declared.limits.Limits.{Limits}

module _ (limits : Limits) (given : List Pair) where
  pub is_full : IsStopped limits (map given_pair given) LOAD_BUDGET (called.Done reply.Full) → IsUnloaded limits given FULL
  is_full stopped = record {
    not_done = λ e. absurd (omega (arith, e));
    not_limits = λ e. absurd (omega (arith, e));
    not_open = λ e. absurd (omega (arith, e));
    long = λ e. absurd (omega (arith, e));
    order = λ e. absurd (omega (arith, e));
    full = λ e. stopped;
    spent = λ e. absurd (omega (arith, e));
  }

  pub is_spent : IsStopped limits (map given_pair given) LOAD_BUDGET called.Spent → IsUnloaded limits given SPENT
  is_spent stopped = record {
    not_done = λ e. absurd (omega (arith, e));
    not_limits = λ e. absurd (omega (arith, e));
    not_open = λ e. absurd (omega (arith, e));
    long = λ e. absurd (omega (arith, e));
    order = λ e. absurd (omega (arith, e));
    full = λ e. absurd (omega (arith, e));
    spent = λ e. stopped;
  }
