-- What a walk calls on a seat.
use Rattle.walks.proofs.Words.{Bool, Called, Command, Entry, IsRunOn, IsSame, List, None, Option, Reply, Seat, Some, StartsWith, WasIdle, ap, append-nil}
use Rattle.walks.proofs.Words.{append_assoc, commands_in, false, map, refl, starts_on, sym, true, unfinished_command, ℕ, [], ◌++◌, ◌∙◌, ◌∷◌, ◌≡◌}
use Rattle.std.proofs.lemmas.List.{map-append}
use Rattle.running_tree.specs.Calls.{answered_last, calls_in}
use Rattle.running_tree.specs.declared.called.Called.TheVariants as called

pub done_idle : (asked : Bool) (seat later : Seat) (wanted : Command) (budget : ℕ) (reply : Reply)
    → IsRunOn asked seat wanted budget (called.Done reply) later → (StartsWith later.seen seat.seen) × (unfinished_command later ≡ None)
done_idle false seat later wanted budget reply run = (run.grows, run.idle)
done_idle true seat later wanted budget reply run = (run.grows, run.idle)

pub spent_grows : (asked : Bool) (seat later : Seat) (wanted : Command) (budget : ℕ) → IsRunOn asked seat wanted budget called.Spent later
    → StartsWith later.seen seat.seen
spent_grows false seat later wanted budget run = run.grows
spent_grows true seat later wanted budget run = run.grows

-- an answer leaves the commands as they are
answered_commands : (calls : List (Command × Option Reply)) (reply : Reply) → map (λ call. call.0) (answered_last calls reply) ≡ map (λ call. call.0) calls
answered_commands [] reply = refl
answered_commands ((asked, before) ∷ []) reply = refl
answered_commands (first ∷ second ∷ rest) reply = ap (λ z. first.0 ∷ z) (answered_commands (second ∷ rest) reply)

-- The seat was called with the commands that it had been called with, and then with such commands of keys alone.
abbrev pub CallsOnly : (List ℕ → Command) → Seat → Seat → Type 0
CallsOnly make seat later = (keys : List (List ℕ)) × (commands_in later ≡ commands_in seat ++ map make keys)

module _ (make : List ℕ → Command) where
  pub no_call : (seat later : Seat) → commands_in later ≡ commands_in seat → CallsOnly make seat later
  no_call seat later same = ([], same ∙ sym (append-nil (commands_in seat)))

  one_call : (seat later : Seat) (key : List ℕ) (reply : Option Reply) → calls_in later ≡ calls_in seat ++ (make key, reply) ∷ [] → CallsOnly make seat later
  one_call seat later key reply more = (key ∷ [], ap (map (λ call. call.0)) more ∙ map-append (λ call. call.0) (calls_in seat) ((make key, reply) ∷ []))

  -- whatever a run for a page comes to
  pub calls_alone : (asked : Bool) (seat later : Seat) (key : List ℕ) (budget : ℕ) (answered : Called)
      → IsRunOn asked seat (make key) budget answered later → CallsOnly make seat later
  calls_alone false seat later key budget (called.Done reply) run = one_call seat later key (Some reply) run.calls
  calls_alone false seat later key budget called.Spent run = one_call seat later key None run.calls
  calls_alone true seat later key budget (called.Done reply) run = no_call seat later
      (ap (map (λ call. call.0)) run.calls ∙ answered_commands (calls_in seat) reply)
  calls_alone true seat later key budget called.Spent run = no_call seat later (ap (map (λ call. call.0)) run.calls)

  pub calls_on : (a b c : Seat) → CallsOnly make a b → CallsOnly make b c → CallsOnly make a c
  calls_on a b c one more = (
    one.0 ++ more.0,
    more.1 ∙ ap (λ z. z ++ map make more.0) one.1 ∙ append_assoc (commands_in a) (map make one.0) (map make more.0)
        ∙ ap (λ z. commands_in a ++ z) (sym (map-append make one.0 more.0)),
  )

-- a seat that has seen more was idle when it was idle
pub idle_still : (seat later : Seat) (early : List Entry) → IsSame seat later → StartsWith later.seen seat.seen → WasIdle seat early → WasIdle later early
idle_still seat later early same grows idle =
    (starts_on early seat.seen later.seen idle.0 grows, rw same.actor idle.1)
