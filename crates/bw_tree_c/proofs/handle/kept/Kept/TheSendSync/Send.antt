use mathlib.Core.List.{[]}
use base.Shift.{Keyless}
use denote.Param.Send.{IsSend, AllSend, owning_send, struct_send, sendable}
use denote.RawPtr.{Ptr}
use denote.Struct.Struct.{exits_of}
use denote.Struct.Owning.{shape, fields, to}
use Rattle.std.proofs.Common.{Option, Some, None}
use Rattle.std_alloc.proofs.SendSync.{quiet, seen}
use Rattle.bw_tree_c.specs.Kept.{maybe_lent}
use Rattle.bw_tree_c.specs.contracts.handle.shared.Shared.{the_row as B}
use Rattle.bw_tree_c.proofs.handle.shared.Shared.TheSendSync.{the_sync as shares}
use Rattle.bw_tree_c.specs.contracts.handle.kept.Kept.{the_row, the_type}

shown : (p : Ptr) (o : Option B.Denot) → Keyless (maybe_lent B p o)
shown p None = tt
shown p (Some x) = seen B shares p x []

pub send : IsSend the_row
send =
    let all : AllSend (fields the_type) = (search sendable, tt) in
    owning_send the_type all (λ d. shown d.at d.value) (λ k. quiet (to the_type) (exits_of k (fields the_type)) ((struct_send (shape the_type) all).leaving k))
