-- The reply of a finished operation fits its command.
use Rattle.map_laws.proofs.Words.{Bool, Command, Entry, Finishes, Get, IsLinearized, IsOneHistory, IsOperation, IsTrue, IsTrueReply, Limits, List, None}
use Rattle.map_laws.proofs.Words.{Operation, Option, RepliesAtPoint, Reply, Seat, Some, Turn, answered_last, answered_snoc, ap, calls_in, calls_of, command_key}
use Rattle.map_laws.proofs.Words.{false, fits, if◌then◌else◌, inl, inr, is_writer, length, log_at, logged_value, map, refl, reply_of, same_Some, slice_get}
use Rattle.map_laws.proofs.Words.{slice_get-push, true, turn_of, unfinished_command, ℕ, [], ◌++◌, ◌∙◌, ◌∷◌, ◌≡◌}
use Rattle.std.specs.Str.{bytes_eq}
use Rattle.bw_model.specs.Numbers.{is_number}
use Rattle.bw_model.specs.declared.command.Command.TheVariants.{DeleteIf, Swap, Add, Page, Back, Tidy}
use Rattle.running_tree.specs.Calls.{IsCalled, IsResumed}
use Rattle.running_tree.specs.declared.called.Called.{Called}
use Rattle.map_laws.specs.Fits.{CameFitting}
use Rattle.bw_model.specs.declared.command.Reply.TheVariants as reply
use Rattle.running_tree.specs.declared.called.Called.TheVariants as called
use Rattle.map_laws.proofs.Asking.{Calls, last_unanswered}
use Rattle.map_laws.proofs.InOrder.{are_in_order, each_ended}

fits_as : (asked : Command) {one given : Reply} → Some one ≡ Some given → IsTrue (fits asked one) → IsTrue (fits asked given)
fits_as asked {one} {given} e fit = rw (← same_Some one given e) fit

-- what goes by a test
by_test : (asked : Command) (test : Bool) (one other given : Reply) → IsTrue (fits asked one) → IsTrue (fits asked other)
    → (if test then Some one else Some other) ≡ Some given → IsTrue (fits asked given)
by_test asked true one other given fit fit_other e = fits_as asked e fit
by_test asked false one other given fit fit_other e = fits_as asked e fit_other

-- what goes by the key's value
by_value : (asked : Command) (old : Option (List ℕ)) (given : Reply) → reply_of asked old ≡ Some given → IsTrue (fits asked given)
by_value (DeleteIf key expected) (Some old) given e = by_test (DeleteIf key expected) (bytes_eq old expected) (reply.Deleted old) (reply.Differs old) given refl refl e
by_value (Swap key expected value) (Some old) given e = by_test (Swap key expected value) (bytes_eq old expected) reply.Swapped (reply.Differs old) given refl refl e
by_value (Add key number) (Some old) given e = by_test (Add key number) (is_number old) (reply.Replaced old) (reply.Differs old) given refl refl e
by_value (Page from) old given e = absurd (cc)
by_value (Back upto) old given e = absurd (cc)
by_value (Tidy key) old given e = absurd (cc)
by_value asked None given e = fits_as asked e refl
by_value asked old given e = fits_as asked e refl

full : (asked : Command) → IsTrue (is_writer asked) → IsTrue (fits asked reply.Full)
full (Get key) is = cc
full other is = cc

module _ (limits : Limits) (run : List Entry) (points : List Bool) (operation : Operation) where
  abbrev FitsIts : Reply → Type 0
  FitsIts given = IsTrue (fits operation.command given)

  at_point : (given : Reply) → RepliesAtPoint limits run points operation given → FitsIts given
  at_point given (n, own, point, inl value) = by_value operation.command (logged_value (log_at run points n) (command_key operation.command)) given value
  at_point given (n, own, point, inr (inl page)) = rw (page.asks, page.is) refl
  at_point given (n, own, point, inr (inr page)) = rw (page.asks, page.is) refl

  -- a true reply fits
  pub true_fits : (given : Reply) → IsTrueReply limits run points operation given → FitsIts given
  true_fits reply.Full is = full operation.command is.0
  true_fits reply.Tidied is = rw is.asks refl
  true_fits other is = at_point other is

pub reply_fits : (limits : Limits) (turns : List Turn) (run : List Entry) → IsLinearized limits turns run → (operation : Operation) (done : ℕ) (given : Reply)
    → IsOperation run operation → Finishes run operation done given
    → IsTrue (fits operation.command given)
reply_fits limits turns run linear operation done given is ends = true_fits limits run linear.points operation given (linear.answered.each operation done given is ends)

pub call_fits : (limits : Limits) (turns : List Turn) (run : List Entry) → IsLinearized limits turns run → (actor place : ℕ) (asked : Command) (given : Reply)
    → slice_get (calls_of actor run) place ≡ Some (asked, Some given) → IsTrue (fits asked given)
call_fits limits turns run linear actor place asked given at =
    let (done, ended) = each_ended run actor 0 (calls_of actor run) place asked given (are_in_order limits [] run actor linear.run.run refl) at in
    reply_fits limits turns run linear (record { start = ended.begun.start; actor = actor; command = asked }) done given ended.begun.is ended.ends

-- the call that was made last
pub last_fits : (seat : Seat) (calls : Calls) (asked : Command) (given : Reply) → IsOneHistory seat.limits seat.seen → calls_in seat ≡ calls ++ (asked, Some given) ∷ [] → IsTrue (fits asked given)
last_fits seat calls asked given history is =
    call_fits seat.limits (map turn_of seat.seen) seat.seen history.linearized seat.actor (length calls) asked given
    (ap (λ (cs : Calls). slice_get cs (length calls)) is ∙ slice_get-push calls (asked, Some given))

pub called_fits : (old new : Seat) (asked : Command) (budget : ℕ) (came : Called) → IsOneHistory new.limits new.seen → IsCalled old asked budget came new → CameFitting asked came
called_fits old new asked budget (called.Done given) history is = last_fits new (calls_in old) asked given history is.calls
called_fits old new asked budget called.Spent history is = tt

pub resumed_fits : (old new : Seat) (asked : Command) (budget : ℕ) (came : Called) → IsOneHistory new.limits new.seen → unfinished_command old ≡ Some asked
    → IsResumed old budget came new → CameFitting asked came
resumed_fits old new asked budget (called.Done given) history has is =
    let (before, unanswered) = last_unanswered old.actor old.seen asked has in
    last_fits new before asked given history (is.calls ∙ ap (λ (cs : Calls). answered_last cs given) unanswered ∙ answered_snoc before asked None given)
resumed_fits old new asked budget called.Spent history has is = tt
