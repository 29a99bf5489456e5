-- An operation that is done takes no step after its last one.
use Rattle.map_laws.proofs.Words.{Begin, Bool, Command, Entry, Finishes, IsOwnStep, IsRun, IsSome, Limits, List, None, Operation, Option, Reply, Some, Step, ap}
use Rattle.map_laws.proofs.Words.{arith, command_of, command_of-push, commands_after, dec_le, dite, drop, eq-eqb, if◌then◌else◌, length, refl, slice_get}
use Rattle.map_laws.proofs.Words.{slice_get_below, suc, sym, take, take-one, zero, ℕ, [], ◌++◌, ◌+◌, ◌<◌, ◌∙◌, ◌∷◌, ◌≡◌, ◌≤◌}
use Rattle.std.proofs.lemmas.List.{length-take-le, take-append-drop}
use lib.Seq.{take-take}
use Rattle.map_laws.proofs.Spans.{begun_since}

-- a finished operation takes no step after its last one
idle_then : (run : List Entry) (done actor : ℕ) (entry : Entry) (answer : Reply) → slice_get run done ≡ Some entry
    → ((commands : ℕ → Option Command) → commands_after commands entry actor ≡ None) → command_of (take (suc done) run) actor ≡ None
idle_then run done actor entry answer there ends =
    ap (λ es. command_of es actor) (take-one run done entry there) ∙ ap (λ commands. commands actor) (command_of-push (take done run) entry) ∙ ends (command_of (take done run))

-- a front of a longer front
front_of : {X : Type 0} (n m : ℕ) (xs : List X) → n ≤ m → take m xs ≡ take n xs ++ drop n (take m xs)
front_of n m xs le = sym (take-append-drop n (take m xs)) ∙ ap (λ front. front ++ drop n (take m xs)) (take-take n m xs le)

pub get-from_take : {X : Type 0} (k : ℕ) (xs : List X) (n : ℕ) (x : X) → slice_get (take k xs) n ≡ Some x → slice_get xs n ≡ Some x
get-from_take zero xs n x e = cc
get-from_take (suc k) [] n x e = cc
get-from_take (suc k) (y ∷ xs) zero x e = e
get-from_take (suc k) (y ∷ xs) (suc n) x e = get-from_take k xs n x e

pub some_of : {X : Type 0} (o : Option X) → IsSome o → (x : X) × (o ≡ Some x)
some_of None h = cc
some_of (Some x) h = (x, refl)

module _ (limits : Limits) (run : List Entry) (is_run : IsRun limits run) (operation : Operation) (done : ℕ) (answer : Reply) (ends : Finishes run operation done answer) where
  -- after its last step the actor has none
  none_then : command_of (take (suc done) run) operation.actor ≡ None
  none_then = idle_then run done operation.actor (Step operation.actor ends.0 ends.1 (Some answer)) answer ends.2.entry
      (λ commands. ap (λ (b : Bool). if b then None else commands operation.actor) (eq-eqb operation.actor operation.actor refl))

  long_then : length (take (suc done) run) ≡ suc done
  long_then = let below : done < length run = slice_get_below run done _ ends.2.entry in length-take-le (suc done) run (omega arith)

  no_step_after : (m : ℕ) → done < m → IsOwnStep run operation m → ⊥
  no_step_after m after (step, told, (given, own)) =
      let early : List Entry = take (suc done) run in
      let rest : List Entry = drop (suc done) (take m run) in
      let front : take m run ≡ early ++ rest = front_of (suc done) m run (omega arith) in
      let (c, has) = some_of (command_of (take m run) operation.actor) (is_run.each m (Step operation.actor step told given) own.entry).0 in
      let (place, begins) = begun_since early rest operation.actor c none_then (ap (λ es. command_of es operation.actor) (sym front) ∙ has) in
      let there : slice_get (take m run) (length early + place) ≡ Some (Begin operation.actor c) = ap (λ es. slice_get es (length early + place)) front ∙ begins in
      let short : length early + place < length (take m run) = slice_get_below (take m run) (length early + place) (Begin operation.actor c) there in
      let within : m < length run = slice_get_below run m _ own.entry in
      let whole : length (take m run) ≡ m = length-take-le m run (omega arith) in
      let long = long_then in let first = ends.2.begun in
      own.not_ended (length early + place) c (omega arith) (omega arith) (get-from_take m run (length early + place) (Begin operation.actor c) there)

  pub own_before : (m : ℕ) → IsOwnStep run operation m → m ≤ done
  own_before m own = dite (dec_le m done) (λ le. le) (λ gt. absurd (no_step_after m (omega arith) own))
