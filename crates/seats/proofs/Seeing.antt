-- Seats that see on, whatever others have done meanwhile.
use Rattle.std.proofs.Common.{◌≡◌, ◌<◌, ◌+◌, ◌++◌, ℕ, zero, suc, List, [], ◌∷◌, Some, ap, arith, length, refl, slice_set, subst, sym, ◌∙◌}
use Rattle.std.specs.Prelude.{slice_get, slice_index_or}
use Rattle.std.proofs.lemmas.Option.{same_Some}
use mathlib.Core.Logic.{dite}
use native.Mathlib.Decide.{ℕ_discrete}
use Rattle.std.proofs.lemmas.List.{append_assoc}
use Rattle.traces.specs.declared.trace.Entry.{Entry}
use Rattle.traces.specs.discipline.Disciplined.{Extends, own_entries}
use Rattle.traces.specs.trace.Trace.{command_of}
pub use Rattle.traces.proofs.Pushes.{slice_get_below}
use Rattle.traces.proofs.OwnEntries.{extends_self, others_append, own_extends}
use Rattle.tree_law.specs.Own.{OwnLasts}
use Rattle.running_tree.specs.Calls.{calls_along}
use Rattle.running_tree.specs.Notes.{HasHeeded, Note, note_of}
use Rattle.running_tree.specs.Runs.{StartsWith}
use Rattle.running_tree.specs.Seats.{Seat}
use Rattle.running_tree.proofs.Going.{same_on, same_self, starts_on}
use Rattle.seats.specs.Gathered.{SeesOn}

pub heeded : OwnLasts → (old new : Seat) (note : Note) → HasHeeded old note new → SeesOn old new
heeded own old new note h = record {
  same = h.same;
  extends = h.extends;
  calls = ap (λ n. calls_along [] (own_entries n new.seen)) h.same.actor ∙ ap (calls_along []) (own_extends old.actor old.seen new.seen h.extends);
  command = ap (λ n. command_of new.seen n) h.same.actor ∙ (own old.limits old.actor old.seen new.seen h.extends).command;
}

pub sees_self : (seat : Seat) → SeesOn seat seat
sees_self seat = record { same = same_self seat; extends = extends_self seat.actor seat.seen; calls = refl; command = refl }

extends_more : (actor : ℕ) (a b c : List Entry) → Extends actor a b → Extends actor b c → Extends actor a c
extends_more actor a b c g h = (g.0 ++ h.0, h.1 ∙ ap (λ z. z ++ h.0) g.1 ∙ append_assoc a g.0 h.0, others_append actor g.0 h.0 g.2 h.2)

pub sees_on : (a b c : Seat) → SeesOn a b → SeesOn b c → SeesOn a c
sees_on a b c g h = record {
  same = same_on a b c g.same h.same;
  extends = extends_more a.actor a.seen b.seen c.seen g.extends (subst (λ n. Extends n b.seen c.seen) g.same.actor h.extends);
  calls = h.calls ∙ g.calls;
  command = h.command ∙ g.command;
}

pub at_index : {X : Type 0} (xs : List X) (n : ℕ) (x : X) → n < length xs → x ≡ slice_index_or xs n x → slice_get xs n ≡ Some x
at_index [] n x lt e = absurd (omega (arith, lt))
at_index (y ∷ ys) zero x lt e = ap Some (sym e)
at_index (y ∷ ys) (suc n) x lt e = at_index ys n x (omega (arith, lt)) e

pub index_is : {X : Type 0} (xs : List X) (n : ℕ) (x d : X) → slice_get xs n ≡ Some x → slice_index_or xs n d ≡ x
index_is [] n x d e = cc
index_is (y ∷ ys) zero x d e = same_Some y x e
index_is (y ∷ ys) (suc n) x d e = index_is ys n x d e

-- what is put where it stands changes nothing
pub set_same : {X : Type 0} (xs : List X) (n : ℕ) (x : X) → slice_get xs n ≡ Some x → slice_set xs n x ≡ xs
set_same [] n x e = cc
set_same (y ∷ ys) zero x e = ap (λ z. z ∷ ys) (sym (same_Some y x e))
set_same (y ∷ ys) (suc n) x e = ap (λ z. y ∷ z) (set_same ys n x e)

pub get_one : {X : Type 0} (xs : List X) (n : ℕ) (x y : X) → slice_get xs n ≡ Some x → slice_get xs n ≡ Some y → x ≡ y
get_one xs n x y e f = cc

-- the seats before a place of a list have been seen
abbrev pub HasSeenBefore : List Seat → ℕ → Seat → Type 0
HasSeenBefore seats place one = (n : ℕ) (seat : Seat) → n < place → slice_get seats n ≡ Some seat → StartsWith one.seen seat.seen

-- and so has the one at the place, once its note is heeded
pub seen_one_more : (seats : List Seat) (place : ℕ) (old new at : Seat) → slice_get seats place ≡ Some at → HasHeeded old (note_of at) new
    → HasSeenBefore seats place old → HasSeenBefore seats (place + 1) new
seen_one_more seats place old new at there h before n seat below is = dite (ℕ_discrete n place)
    (λ same. subst (λ s. StartsWith new.seen s.seen) (get_one seats n at seat (ap (slice_get seats) same ∙ there) is) h.begins)
    (λ apart. starts_on seat.seen old.seen new.seen (before n seat (omega (arith, below, apart)) is) (h.extends.0, h.extends.1))
