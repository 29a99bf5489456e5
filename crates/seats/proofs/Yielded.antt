-- A loop over a vector yields its elements, each at its place, and has yielded all of them when it ends.
use Rattle.std.proofs.Common.{◌≡◌, ◌<◌, List, Option, Some, None, Vec, All, get_or, length, map-id, subst, sym, vec_len, ◌∙◌}
use Rattle.std.specs.Iterator.{Yields}
use Rattle.std.specs.Vec.Iter.{into_iter_items, into_iter_len, into_iter_steps}
use Rattle.std.specs.declared.vec.IntoIter.{IntoIter}
use Rattle.std.proofs.lemmas.Iterator.Adapters.{YieldsList-from_vec}
use Rattle.std.proofs.lemmas.Iterator.Consumers.{YieldsList-end, YieldsList-turn}
use Rattle.std.proofs.lemmas.List.Elements.{All-get_or}

-- at the end of the loop
pub all_yielded : {A Z : Type 0} (all : Vec A Z) (start here next : IntoIter A Z) (ones : List A) (last : Option A) → into_iter_items start ≡ all.items
    → into_iter_len start ≡ vec_len all → Yields into_iter_steps start ones here → last ≡ None → into_iter_steps here last next → ones ≡ all.items
all_yielded all start here next ones last items len before none steps =
    let end = YieldsList-end (YieldsList-from_vec {s = start} all.items items (len ∙ all.ok.0)) ones here before last next none steps in
    sym (map-id ones) ∙ end.0

-- in each turn
pub one_yielded : {A Z : Type 0} (all : Vec A Z) (start here next : IntoIter A Z) (ones : List A) (one : A) (turn : Option A)
    → into_iter_items start ≡ all.items → into_iter_len start ≡ vec_len all → Yields into_iter_steps start ones here → turn ≡ Some one
    → into_iter_steps here turn next
    → (length ones < length all.items) × (one ≡ get_or all.items (length ones) one)
one_yielded all start here next ones one turn items len before some steps =
    YieldsList-turn (YieldsList-from_vec {s = start} all.items items (len ∙ all.ok.0)) ones here before turn next one some steps

-- what holds of all elements holds of this turn's
pub all_here : {A : Type 0} (P : A → Type 0) (all ones : List A) (one : A) → (length ones < length all) × (one ≡ get_or all (length ones) one) → All P all → P one
all_here P all ones one turn each = subst P (sym turn.1) (All-get_or P all (length ones) one turn.0 each)
