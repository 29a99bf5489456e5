-- A reply that goes by the value of its key isn't Full.
use Rattle.op_machine.proofs.Words.{◌≡◌, ◌≢◌, ℕ, Bool, true, false, List, Option, Some, None, ◌∙◌, if◌then◌else◌, bytes_eq, same_Some, Command, Add, Get}
use Rattle.op_machine.proofs.Words.{Insert, Upsert, Delete, DeleteIf, Swap}
use Rattle.op_machine.proofs.Words.{reply_of}
use Rattle.bw_model.specs.Numbers.{is_number}
use Rattle.bw_model.specs.declared.command.Reply.{Reply}
use Rattle.bw_model.specs.declared.command.Reply.TheVariants as kind

-- a test that replies either way
chosen_not_full : (b : Bool) (x y reply : Reply) → x ≢ kind.Full → y ≢ kind.Full → (if b then Some x else Some y) ≡ Some reply → reply ≢ kind.Full
chosen_not_full true x y reply no_x no_y e full = no_x (same_Some x reply e ∙ full)
chosen_not_full false x y reply no_x no_y e full = no_y (same_Some y reply e ∙ full)

pub not_full : (c : Command) (old : Option (List ℕ)) (reply : Reply) → reply_of c old ≡ Some reply → reply ≢ kind.Full
not_full (DeleteIf key expected) (Some before) reply e full =
    chosen_not_full (bytes_eq before expected) (kind.Deleted before) (kind.Differs before) reply (λ is. cc) (λ is. cc) e full
not_full (Swap key expected value) (Some before) reply e full = chosen_not_full (bytes_eq before expected) kind.Swapped (kind.Differs before) reply (λ is. cc) (λ is. cc) e full
not_full (Add key number) (Some before) reply e full =
    chosen_not_full (is_number before) (kind.Replaced before) (kind.Differs before) reply (λ is. cc) (λ is. cc) e full
not_full (Get key) None reply e full = cc
not_full (Insert key value) None reply e full = cc
not_full (Upsert key value) None reply e full = cc
not_full (Delete key) None reply e full = cc
not_full c old reply e full = cc
