-- Laws of fields and numbers.
use Rattle.std.proofs.Common.{◌≡◌, ℕ, ◌+◌, ◌-◌, ◌*◌, ◌<◌, List, [], ◌∷◌, ◌++◌, length, take, drop, slice_index, refl, arith, Bool, true, false, cond, ◌==◌}
use Rattle.std.proofs.lemmas.List.{append-nil, drop_more, drop_all, take_all}
use Rattle.shell_lines.specs.Fields.{fields_of, onto_first}
use Rattle.shell_lines.specs.Number.{number_after, is_digit}

-- front goes before the first field
abbrev pub prepend : List ℕ → List (List ℕ) → List (List ℕ)
prepend front [] = front ∷ []
prepend front (field ∷ fields) = (front ++ field) ∷ fields

-- a text without a space is one field
pub one_field : (text : List ℕ) → prepend (take (length text) text) (fields_of (drop (length text) text)) ≡ text ∷ []
one_field text =
    let d : drop (length text) text ≡ [] = drop_all (length text) text (omega arith) in
    let t : take (length text) text ≡ text = take_all (length text) text (omega arith) in
    rw (d, t, append-nil) refl

-- one digit more
pub number_more : (text : List ℕ) (i m : ℕ) → i < length text → is_digit (slice_index text i) ≡ true
    → number_after m (drop i text) ≡ number_after (10 * m + (slice_index text i - 48)) (drop (i + 1) text)
number_more text i m h digit =
    let d : drop i text ≡ slice_index text i ∷ drop (i + 1) text = drop_more text i 0 h in
    rw (d, digit) refl

nothing_onto : (b : ℕ) (fs : List (List ℕ)) → prepend [] (onto_first b fs) ≡ onto_first b fs
nothing_onto b [] = refl
nothing_onto b (f ∷ fs) = refl

-- at the front of a text
pub prepend_none : (text : List ℕ) → prepend [] (fields_of text) ≡ fields_of text
prepend_none [] = refl
prepend_none (b ∷ bs) = at (b == 32)
  where
    at : (space : Bool) → prepend [] (cond space ([] ∷ fields_of bs) (onto_first b (fields_of bs))) ≡ cond space ([] ∷ fields_of bs) (onto_first b (fields_of bs))
    at true = refl
    at false = nothing_onto b (fields_of bs)
