-- Whether the seat in a slot that is out has an operation.
use Rattle.std.proofs.Common.{◌≡◌, ◌∷◌, ◌∙◌, ℕ, Bool, Box, Global, None, Some, ap, false, refl, subst, sym, true}
use Rattle.std.specs.Prelude.{IsSome, MatchBool, Option, is_none}
use Rattle.std.proofs.lemmas.Option.{same_Some}
use Rattle.atomic_table.specs.Table.{rest}
use Rattle.running_tree.specs.Seats.{Seat, unfinished_command}
use Rattle.running_tree.proofs.Resting.{has_none}
use Rattle.bw_tree_c.specs.Receipts.{SeatHand}
use Rattle.bw_tree_c.specs.Shutting.{IsBusyIn, IsIdleIn}
use Rattle.bw_tree_c.specs.Slots.{seat_in}
use Rattle.bw_tree_c.specs.declared.handle.slots.Inside.{Inside}
use Rattle.bw_tree_c.specs.declared.handle.slots.Inside.TheVariants as inside
use Rattle.bw_tree_c.specs.declared.place.Place.{Place}
use Rattle.bw_tree_c.proofs.Calling.{first_inside}

has_some : {X : Type 0} (o : Option X) → false ≡ is_none o → IsSome o
has_some None e = cc
has_some (Some x) e = refl

none_some : (P : Type 0) (s : Seat) → None ≡ Some s → P
none_some P s e = cc

pub no_seat : (x : Inside) → ((place : Box Place Global) → x ≡ inside.Seat place → ⊥) → seat_in x ≡ None
no_seat inside.Nothing none = refl
no_seat (inside.Seat place) none = absurd (none place refl)
no_seat (inside.Pairs pairs) none = refl
no_seat (inside.Whole whole) none = refl

module _ (slot : ℕ) (hand : SeatHand) (x : Inside) (here : hand.me.1 ≡ (slot, x) ∷ rest hand.me.1) where
  it_is : (y : Inside) → hand.me.1 ≡ (slot, y) ∷ rest hand.me.1 → x ≡ y
  it_is y is = ap first_inside (sym here ∙ is)

  pub idle_seat : (b : Bool) (s : Seat) → seat_in x ≡ Some s → b ≡ is_none (unfinished_command s) → MatchBool b (IsIdleIn slot hand) (IsBusyIn slot hand)
  idle_seat true s at is = λ y seat got has.
      subst (λ t. unfinished_command t ≡ None) (same_Some s seat (sym at ∙ ap seat_in (it_is y got) ∙ has)) (has_none (unfinished_command s) (sym is))
  idle_seat false s at is = (x, s, here, at, has_some (unfinished_command s) is)

  pub idle_none : (b : Bool) → seat_in x ≡ None → b ≡ true → MatchBool b (IsIdleIn slot hand) (IsBusyIn slot hand)
  idle_none true none is = λ y seat got has. none_some _ seat (sym none ∙ ap seat_in (it_is y got) ∙ has)
  idle_none false none is = cc
