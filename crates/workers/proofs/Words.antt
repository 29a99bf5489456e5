-- The words that the proofs of this crate share.
pub use Rattle.std.proofs.Common.{All, List, None, Some, [], ap, arith, false, flat_map, length, map, refl, rules, subst, suc, sym, true, zero, ℕ, ◌*◌, ◌++◌}
pub use Rattle.std.proofs.Common.{◌+◌, ◌<◌, ◌∙◌, ◌∷◌, ◌≡◌, ◌≤◌}
pub use Rattle.std.proofs.lemmas.Grind.{flat_map-append}
pub use Rattle.std.proofs.lemmas.List.{append-nil, append_assoc, length-append, length-map, map-append}
pub use Rattle.std.proofs.lemmas.List.Elements.{All-nil, All-push, All-weaker}
pub use Rattle.std.proofs.lemmas.Option.{same_Some}
pub use Rattle.std.specs.Prelude.{Bool, IsPermutation, slice_get, slice_index, slice_index_or, vec_len, zip}
pub use Rattle.std.specs.Vec.{vec_capacity}
pub use Rattle.bw_model.specs.declared.command.Command.{Command}
pub use Rattle.bw_model.specs.declared.command.Reply.{Reply}
pub use Rattle.running_tree.proofs.Going.{same_on, starts_on}
pub use Rattle.running_tree.specs.Seats.{Seat, unfinished_command}
pub use Rattle.running_tree.specs.Trees.{AreSeatsOf, IsSeatOf, Tree}
pub use Rattle.seats.proofs.Gathering.{there}
pub use Rattle.seats.proofs.Seeing.{index_is}
pub use Rattle.seats.proofs.Yielded.{all_here, all_yielded, one_yielded}
pub use Rattle.traces.proofs.Pushes.{slice_get_below}
pub use Rattle.workers.specs.Begun.{AreBegun, HaveComeBack, HaveJoined, IsToldBy}
pub use Rattle.workers.specs.Jobs.{AreResultsOf, IsResultOf, calls_told}
pub use Rattle.workers.specs.Worked.{AreIdle, GoesOn}
pub use Rattle.workers.specs.Working.{HasDone, HasRoom}
pub use Rattle.workers.specs.Works.{with_each_behind}
pub use Rattle.workers.specs.declared.job.Job.{Job}
pub use Rattle.workers.specs.declared.job.JobResult.{JobResult}
pub use Rattle.workers.specs.declared.worker.Worker.{Worker}
pub use mathlib.Core.Logic.{dite}
pub use native.Mathlib.Decide.{ℕ_discrete}
