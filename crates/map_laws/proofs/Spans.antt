-- The operation that an actor has in hand: where it was begun.
use Rattle.map_laws.proofs.Words.{Begin, Command, Entry, List, None, Option, Some, Step, ap, arith, command_of, commands_after, either, eqb-false, eqb-true}
use Rattle.map_laws.proofs.Words.{fold, fold-append, inl, inr, length, refl, slice_get, suc, sym, zero, ℕ, [], ◌++◌, ◌+◌, ◌<◌, ◌==◌, ◌∙◌, ◌∷◌, ◌≡◌, ◌⊎◌}

-- It was begun at this place, and the actor begins nothing after that.
pub record IsOpenAt (run : List Entry) (actor : ℕ) (command : Command) (start : ℕ) : Type 0 where
  pub begins : slice_get run start ≡ Some (Begin actor command)
  pub last : (later : ℕ) (other : Command) → start < later → slice_get run later ≡ Some (Begin actor other) → ⊥

abbrev BeginsNothing : List Entry → ℕ → Type 0
BeginsNothing run actor = (place : ℕ) (other : Command) → slice_get run place ≡ Some (Begin actor other) → ⊥

-- it had the command before, or has begun it on the way
abbrev IsHeld : (ℕ → Option Command) → List Entry → ℕ → Command → Type 0
IsHeld commands run actor command = ((commands actor ≡ Some command) × BeginsNothing run actor) ⊎ ((start : ℕ) × IsOpenAt run actor command start)

nothing_more : (entry : Entry) (run : List Entry) (actor : ℕ) → ((other : Command) → entry ≡ Begin actor other → ⊥) → BeginsNothing run actor → BeginsNothing (entry ∷ run) actor
nothing_more entry run actor first rest zero other is = first other (cc)
nothing_more entry run actor first rest (suc place) other is = rest place other is

open_later : (entry : Entry) (run : List Entry) (actor : ℕ) (command : Command) (start : ℕ) → IsOpenAt run actor command start → IsOpenAt (entry ∷ run) actor command (suc start)
open_later entry run actor command start h = record {
  begins = h.begins;
  last = later;
}
  where
    later : (place : ℕ) (other : Command) → suc start < place → slice_get (entry ∷ run) place ≡ Some (Begin actor other) → ⊥
    later zero other after is = omega arith
    later (suc place) other after is = h.last place other (omega arith) is

open_here : (run : List Entry) (actor : ℕ) (command : Command) → BeginsNothing run actor → IsOpenAt (Begin actor command ∷ run) actor command 0
open_here run actor command nothing = record { begins = refl; last = later }
  where
    later : (place : ℕ) (other : Command) → 0 < place → slice_get (Begin actor command ∷ run) place ≡ Some (Begin actor other) → ⊥
    later zero other after is = omega arith
    later (suc place) other after is = nothing place other is

held : (commands : ℕ → Option Command) (run : List Entry) (actor : ℕ) (command : Command) → fold commands_after commands run actor ≡ Some command → IsHeld commands run actor command
held commands [] actor command is = inl (is, λ place other e. cc)
held commands (entry ∷ run) actor command is = elim (held (commands_after commands entry) run actor command is) [
  | inl before ↦ by_entry entry before.0 before.1
  | inr begun ↦ inr (suc begun.0, open_later entry run actor command begun.0 begun.1)
]
  where
    by_entry : (e : Entry) → commands_after commands e actor ≡ Some command → BeginsNothing run actor → IsHeld commands (e ∷ run) actor command
    by_entry (Begin other asked) has nothing = either (actor == other)
        (λ same.
        let who : actor ≡ other = eqb-true actor other same in
        let some : Some asked ≡ Some command = rw same at has in
        let what : asked ≡ command = cc in
        inr (0, rw (← who) (rw what (open_here run actor command nothing))))
        (λ apart.
        let kept : commands actor ≡ Some command = rw apart at has in
        let differs : actor ≡ other → ⊥ = eqb-false actor other apart in
        inl (kept, nothing_more (Begin other asked) run actor (λ more e. differs (cc)) nothing))
    by_entry (Step other step answer None) has nothing = inl (has, nothing_more (Step other step answer None) run actor (λ asked e. cc) nothing)
    by_entry (Step other step answer (Some reply)) has nothing = either (actor == other)
        (λ same. let none : None ≡ Some command = rw same at has in absurd (cc))
        (λ apart.
        let kept : commands actor ≡ Some command = rw apart at has in
        inl (kept, nothing_more (Step other step answer (Some reply)) run actor (λ asked e. cc) nothing))

-- what an actor has in hand it has begun
pub in_hand : (run : List Entry) (actor : ℕ) (command : Command) → command_of run actor ≡ Some command → (start : ℕ) × IsOpenAt run actor command start
in_hand run actor command is = elim (held (λ a. None) run actor command is) [ inl before ↦ absurd (let none = before.0 in cc) | inr begun ↦ begun ]

-- an entry of what comes after
after_get : {X : Type 0} (front back : List X) (place : ℕ) → slice_get (front ++ back) (length front + place) ≡ slice_get back place
after_get [] back place = let same : 0 + place ≡ place = omega arith in ap (slice_get back) same
after_get (x ∷ front) back place = let same : length (x ∷ front) + place ≡ suc (length front + place) = omega arith in ap (slice_get (x ∷ (front ++ back))) same ∙ after_get front back place

-- where the actor had none, it has begun it since
pub begun_since : (early rest : List Entry) (actor : ℕ) (command : Command) → command_of early actor ≡ None → command_of (early ++ rest) actor ≡ Some command
    → (place : ℕ) × (slice_get (early ++ rest) (length early + place) ≡ Some (Begin actor command))
begun_since early rest actor command none is = elim (held (command_of early) rest actor command (sym (ap (λ commands. commands actor) (fold-append commands_after (λ a. None) early rest)) ∙ is)) [
  | inl before ↦ absurd (let some = before.0 in cc)
  | inr begun ↦ (begun.0, after_get early rest begun.0 ∙ begun.1.begins)
]
