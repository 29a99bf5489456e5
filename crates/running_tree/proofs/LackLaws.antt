-- What an actor keeps of what ran out, along the entries of a run.
use Rattle.std.proofs.Common.{◌≡◌, ℕ, List, [], ◌∷◌, ◌++◌, Option, Some, None, refl, sym, ap, ◌∙◌, subst, eq-eqb}
use Rattle.std.specs.Prelude.{IsSome, true}
use Rattle.running_tree.proofs.Words.{fold, same_Some, Command, Reply, Answer, Done, StepOf, Leave, Record, Limits, Extends, is_entry_of, own_entries, Knowledge, knows, command_of}
use Rattle.running_tree.proofs.Words.{own_extends, own_push, Kind, command_left, knows_then, EndsWith, IsLacking}
use Rattle.std.proofs.lemmas.List.Sums.{fold-append}
use Rattle.bw_model.specs.declared.command.Reply.TheVariants.{Full}
use Rattle.traces.specs.declared.trace.Entry.{Entry}
use Rattle.traces.specs.declared.trace.Entry.TheVariants.{Begin, Step}
use Rattle.change_machine.specs.Taking.{AllFull}
use Rattle.change_machine.specs.declared.taking.Kind.TheVariants.{Pid, Row}
use Rattle.op_machine.specs.machine.Lacks.{HasLack, TellsLack}
use Rattle.running_tree.specs.LastReply.{KeepsLack, last_reply, reply_after}
use Rattle.running_tree.specs.Seats.{Seat, known_to}

last_pushed : (a : ℕ) (run : List Entry) (entry : Entry) → is_entry_of a entry ≡ true → last_reply a (run ++ entry ∷ []) ≡ reply_after (last_reply a run) entry
last_pushed a run entry own = ap (fold reply_after None) (own_push a run entry own) ∙ fold-append reply_after None (own_entries a run) (entry ∷ [])

last_extended : (a : ℕ) (seen run : List Entry) → Extends a seen run → last_reply a run ≡ last_reply a seen
last_extended a seen run extends = ap (fold reply_after None) (own_extends a seen run extends)

-- others have gone on
pub lack_extends : (limits : Limits) (a : ℕ) (seen run : List Entry) (lacks : Option Kind) → Extends a seen run → knows run a ≡ knows seen a → command_of run a ≡ command_of seen a
    → KeepsLack limits a seen lacks → KeepsLack limits a run lacks
lack_extends limits a seen run lacks extends known command h = record {
  told = subst (λ k. HasLack limits k (last_reply a run) None lacks) (sym known) (subst (λ o. HasLack limits (knows seen a) o None lacks) (sym (last_extended a seen run extends)) h.told);
  pending = λ busy. last_extended a seen run extends ∙ h.pending (subst IsSome command busy);
}

-- an operation begins
pub lack_begun : (limits : Limits) (a : ℕ) (run : List Entry) (command : Command) (lacks : Option Kind) → lacks ≡ None → KeepsLack limits a (run ++ Begin a command ∷ []) lacks
lack_begun limits a run command lacks is =
    let last : last_reply a (run ++ Begin a command ∷ []) ≡ None = last_pushed a run (Begin a command) (eq-eqb a a refl) in
    record { told = subst (λ o. HasLack limits (knows (run ++ Begin a command ∷ []) a) o None lacks) (sym last) is; pending = λ busy. last }

-- a leave keeps what was read as 0
full_then : (limits : Limits) (k : Knowledge) (told : Answer Record) (reply : Option Reply) (kind : Kind) → AllFull limits k.asked kind → AllFull limits (knows_then k Leave told reply).asked kind
full_then limits k told reply Pid all = all
full_then limits k told reply Row all = all

tells_then : (limits : Limits) (k : Knowledge) (told : Answer Record) (left : Option Reply) (reply : Reply) (lacks : Option Kind) → TellsLack limits k reply lacks
    → TellsLack limits (knows_then k Leave told left) reply lacks
tells_then limits k told left reply None h = h
tells_then limits k told left reply (Some kind) h = (h.0, full_then limits k told left kind h.1)

-- no command is none
never : {A : Type 0} (command : Option Command) → command ≡ None → IsSome command → A
never None is some = cc
never (Some command) is some = cc

module _ (limits : Limits) (a : ℕ) (seen run : List Entry) (asked : StepOf Record) (told : Answer Record) (old new : Option Kind)
    (extends : Extends a seen run) (busy : IsSome (command_of seen a)) (h : KeepsLack limits a seen old) where
  -- a step without a reply
  pub lack_on : HasLack limits (knows seen a) None old new → KeepsLack limits a (run ++ Step a asked told None ∷ []) new
  lack_on same =
      let last : last_reply a (run ++ Step a asked told None ∷ []) ≡ None = last_pushed a run (Step a asked told None) (eq-eqb a a refl) ∙ last_extended a seen run extends ∙ h.pending busy in
      let none : old ≡ None = subst (λ o. HasLack limits (knows seen a) o None old) (h.pending busy) h.told in
      record { told = subst (λ o. HasLack limits (knows (run ++ Step a asked told None ∷ []) a) o None new) (sym last) (same ∙ none); pending = λ then. last }

  -- the leave
  pub lack_left : (reply : Reply) → asked ≡ Leave → HasLack limits (knows seen a) (Some reply) old new
      → knows (run ++ Step a asked told (Some reply) ∷ []) a ≡ knows_then (knows seen a) asked told (Some reply) → command_of (run ++ Step a asked told (Some reply) ∷ []) a ≡ None
      → KeepsLack limits a (run ++ Step a asked told (Some reply) ∷ []) new
  lack_left reply leaves tells known command =
      let last : last_reply a (run ++ Step a asked told (Some reply) ∷ []) ≡ Some reply = last_pushed a run (Step a asked told (Some reply)) (eq-eqb a a refl) in
      let then : TellsLack limits (knows_then (knows seen a) asked told (Some reply)) reply new =
      subst (λ s. TellsLack limits (knows_then (knows seen a) s told (Some reply)) reply new) (sym leaves) (tells_then limits (knows seen a) told (Some reply) reply new tells) in
      record {
        told = subst (λ o. HasLack limits (knows (run ++ Step a asked told (Some reply) ∷ []) a) o None new) (sym last) (subst (λ k. TellsLack limits k reply new) (sym known) then);
        pending = λ then. never (command_of (run ++ Step a asked told (Some reply) ∷ []) a) command then;
      }

-- a step, with its reply, if it has one
pub lack_stepped : (limits : Limits) (a : ℕ) (seen run : List Entry) (asked : StepOf Record) (told : Answer Record) (reply : Option Reply) (old new : Option Kind) → Extends a seen run
    → IsSome (command_of seen a) → KeepsLack limits a seen old → HasLack limits (knows seen a) reply old new
    → ((given : Reply) → reply ≡ Some given → asked ≡ Leave) → knows (run ++ Step a asked told reply ∷ []) a ≡ knows_then (knows seen a) asked told reply
    → command_of (run ++ Step a asked told reply ∷ []) a ≡ command_left reply (command_of seen a)
    → KeepsLack limits a (run ++ Step a asked told reply ∷ []) new
lack_stepped limits a seen run asked told None old new extends busy h same leaves known command = lack_on limits a seen run asked told old new extends busy h same
lack_stepped limits a seen run asked told (Some reply) old new extends busy h tells leaves known command =
    lack_left limits a seen run asked told old new extends busy h reply (leaves reply refl) tells known command

-- what is kept is what the seat lacks
pub lacking : (seat : Seat) (lacks : Option Kind) → KeepsLack seat.limits seat.actor seat.seen lacks → IsLacking seat lacks
lacking seat lacks h = by (last_reply seat.actor seat.seen) lacks refl h.told
  where
    by : (last : Option Reply) (o : Option Kind) → last_reply seat.actor seat.seen ≡ last → HasLack seat.limits (known_to seat) last None o → IsLacking seat o
    by None None is none = λ full. let clash : None ≡ Some Full = sym is ∙ full in cc
    by None (Some kind) is none = cc
    by (Some reply) None is other = λ full. other (same_Some reply Full (sym is ∙ full))
    by (Some reply) (Some kind) is tells = (is ∙ ap Some tells.0, tells.1)

-- a call that is done has its reply last
pub ends_last : (seat : Seat) (reply : Reply) → EndsWith seat reply → last_reply seat.actor seat.seen ≡ Some reply
ends_last seat reply ends = ap (last_reply seat.actor) ends.1 ∙ last_pushed seat.actor ends.0 (Step seat.actor Leave Done (Some reply)) (eq-eqb seat.actor seat.actor refl)
