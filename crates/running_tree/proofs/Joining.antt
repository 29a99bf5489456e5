-- The parts of seats that are joined.
use Rattle.std.proofs.Common.{◌≡◌, ℕ, zero, suc, List, [], ◌∷◌, ◌++◌, length, Some, refl, sym, ap, ◌∙◌, subst, arith, length-append}
use Rattle.running_tree.proofs.Words.{slice_get, Limits, Part, Idle, Each, part, Seat}
use Rattle.running_tree.specs.Trees.{AreSeatsOf, HasPartsOf, IsSeatOf, Tree}
use Rattle.traces.proofs.Pushes.{slice_get-push}

each_snoc : (P : Part → Type 0) (parts : List Part) (last : Part) → Each P parts → P last → Each P (parts ++ last ∷ [])
each_snoc P [] last each is = (is, tt)
each_snoc P (one ∷ parts) last each is = (each.0, each_snoc P parts last each.1 is)

get_front : {X : Type 0} (front : List X) (last : X) (n : ℕ) (x : X) → slice_get front n ≡ Some x → slice_get (front ++ last ∷ []) n ≡ Some x
get_front [] last n x e = cc
get_front (one ∷ front) last zero x e = e
get_front (one ∷ front) last (suc n) x e = get_front front last n x e

pub none_joined : (limits : Limits) → HasPartsOf limits [] []
none_joined limits = record { count = refl; idle = tt; each = λ n seat e. cc }

-- one more seat, which stood before those that are joined already
pub one_joined : (limits : Limits) (seat : Seat) (seats : List Seat) (parts : List Part) → HasPartsOf limits seats parts
    → HasPartsOf limits (seat ∷ seats) (parts ++ part limits seat.actor seat.seen Idle ∷ [])
one_joined limits seat seats parts has = record {
  count = length-append parts (part limits seat.actor seat.seen Idle ∷ []) ∙ (omega (arith, has.count));
  idle = each_snoc _ parts (part limits seat.actor seat.seen Idle) has.idle (refl, refl);
  each = each;
} where
  mine : Part
  mine = part limits seat.actor seat.seen Idle

  each : (n : ℕ) (one : Seat) → slice_get (seat ∷ seats) n ≡ Some one → (m : ℕ) × (slice_get (parts ++ mine ∷ []) m ≡ Some (part limits one.actor one.seen Idle))
  each zero one e = let same : seat ≡ one = cc in (length parts, slice_get-push parts mine ∙ ap (λ (s : Seat). Some (part limits s.actor s.seen Idle)) same)
  each (suc n) one e = let (m, at) = has.each n one e in (m, get_front parts mine m (part limits one.actor one.seen Idle) at)

get_middle : {X : Type 0} (front : List X) (one : X) (back : List X) → slice_get ((front ++ one ∷ []) ++ back) (length front) ≡ Some one
get_middle [] one back = refl
get_middle (first ∷ front) one back = get_middle front one back

-- the seat that was taken out last is one of the tree
pub is_one : (tree : Tree) (all rest done : List Seat) (seat : Seat) → AreSeatsOf tree all → all ≡ (rest ++ seat ∷ []) ++ done → IsSeatOf tree seat
is_one tree all rest done seat own whole = own (length rest) seat (ap (λ seats. slice_get seats (length rest)) whole ∙ get_middle rest seat done)

-- its part is put behind those of the others
pub puts_behind : (limits : Limits) (seat : Seat) (seats : List Seat) (before mine after : List Part) → HasPartsOf limits seats before
    → mine ≡ part seat.limits seat.actor seat.seen Idle ∷ [] → seat.limits ≡ limits → after ≡ before ++ mine
    → HasPartsOf limits (seat ∷ seats) after
puts_behind limits seat seats before mine after has is own grown =
    subst (HasPartsOf limits (seat ∷ seats)) (sym (grown ∙ ap (λ z. before ++ z) (is ∙ ap (λ z. part z seat.actor seat.seen Idle ∷ []) own))) (one_joined limits seat seats before has)
