-- Where an actor stands, one entry and one actor more.
use Rattle.std.proofs.Common.{◌≡◌, ◌≤◌, ◌<◌, ◌+◌, ◌++◌, ◌∷◌, [], ℕ, zero, suc, List, Option, Some, None, add-one, ap, arith, length, refl, sym, take, ◌^◌, ◌∙◌}
use Rattle.std.specs.Prelude.{codes, decimal, slice_get}
use Rattle.std.proofs.lemmas.Fmt.{length-decimal-le}
use Rattle.std.proofs.lemmas.Grind.{fold-append}
use Rattle.std.proofs.lemmas.List.{length-append}
use Rattle.traces.specs.declared.trace.Entry.{Entry}
use Rattle.tree_picture.specs.Adding.{Adds}
use Rattle.tree_picture.specs.Stands.{next_text, or_before, slot_read, slot_told, stand_text}

take_get : {X : Type 0} (xs : List X) (i : ℕ) (x : X) → slice_get xs i ≡ Some x → take (suc i) xs ≡ take i xs ++ x ∷ []
take_get [] i x e = cc
take_get (y ∷ xs) zero x e = let same : y ≡ x = cc in rw same refl
take_get {X} (y ∷ xs) (suc i) x e = ap (λ (ys : List X). y ∷ ys) (take_get xs i x e)

-- the slot that was read last before an entry more, by what that tells
pub read_next : (entries : List Entry) (n i : ℕ) (entry : Entry) (number : ℕ) (told : Option (Option ℕ)) → slot_read entries number ≡ slot_read (take n entries) number
    → n ≡ i + 1 → slice_get entries i ≡ Some entry → told ≡ slot_told entry number → slot_read entries number ≡ or_before (slot_read (take i entries) number) told
read_next entries n i entry number told so_far last is tells =
    so_far
    ∙ ap (λ (es : List Entry). slot_read es number) (ap (λ n. take n entries) (last ∙ add-one i) ∙ take_get entries i entry is)
    ∙ fold-append (λ (before : Option ℕ) (e : Entry). or_before before (slot_told e number)) None (take i entries) (entry ∷ [])
    ∙ sym (ap (or_before (slot_read (take i entries) number)) tells)

-- the words for the row that is read next are few
pub few_row : (row : ℕ) → row < 2 ^ 64 → length (next_text (Some row)) ≤ 31
few_row row small = omega (arith, length-append (codes ", next row ") (decimal row), length-decimal-le 20 row (omega arith) (omega (arith, small)) (omega (arith, small)))

-- the words for one have room
pub stand_fits : (actor : ℕ) (row : Option ℕ) (words : List ℕ) → length (next_text row) ≤ 31 → actor < 2 ^ 8 → Adds [] words (stand_text actor row) → words ≡ stand_text actor row
stand_fits actor row words short small adds =
    adds (omega (
      arith,
      length-append (codes "actor " ++ decimal actor) (next_text row),
      length-append (codes "actor ") (decimal actor),
      length-decimal-le 10 actor (omega arith) (omega (arith, small)) (omega (arith, small)),
      short,
    ))
