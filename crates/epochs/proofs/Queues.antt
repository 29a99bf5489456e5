-- Entries move to the end of a run, but those that are taken out of it.
use Rattle.std.proofs.Common.{◌≡◌, ◌<◌, ◌≤◌, ◌+◌, ◌-◌, ◌/◌, ◌++◌, ◌∷◌, ℕ, suc, List, length, get_or, set, take, drop, Bool, true, false, eqb, refl, sym, ap, ◌∙◌, arith}
use Rattle.std.specs.Prelude.{◌&&◌}
use Rattle.std.proofs.lemmas.List.{drop_more, drop-set, get_or-take, take-take, take-set-le}
use Rattle.epochs.specs.declared.entry.Entry.{Entry}
use Rattle.epochs.specs.Limbo.{is_passed}
use Rattle.epochs.specs.Words.{without}

-- the entries from a place on
abbrev pub part : List Entry → ℕ → ℕ → List Entry
part entries end place = take (end - place) (drop place entries)

-- Of the entries from this place on those that stay stand at the end, and none before it was moved.
pub record IsMoved (before now : List Entry) (end word kept place : ℕ) : Type 0 where
  pub order : place ≤ kept
  pub within : kept ≤ end
  pub front : take place now ≡ take place before
  pub back : drop kept now ≡ without word (part before end place) ++ drop end before
  pub left : kept + length (without word (part before end place)) ≡ end

abbrev goes_with : ℕ → Entry → Bool
goes_with word entry = eqb (entry.number / 64) word && is_passed entry.stage

pub none_moved : (before : List Entry) (end word : ℕ) → IsMoved before before end word end end
none_moved before end word =
    let none : end - end ≡ 0 = omega arith in
    record { order = omega arith; within = omega arith; front = refl; back = rw none refl; left = rw none (omega arith) }

part_more : (before : List Entry) (end place : ℕ) (d : Entry) → place < end → end ≤ length before → part before end place ≡ get_or before place d ∷ part before end (place + 1)
part_more before end place d lt long =
    let more : end - place ≡ suc (end - (place + 1)) = omega (arith, lt) in
    rw (more, drop_more before place d (omega (arith, lt, long))) refl

module _ (before now : List Entry) (end word kept place : ℕ) (d : Entry) (moved : IsMoved before now end word kept (place + 1)) (long : end ≤ length before) where
  read_same : get_or now place d ≡ get_or before place d
  read_same =
      let lt : place < place + 1 = omega arith in
      sym (get_or-take (place + 1) now place d lt) ∙ ap (λ xs. get_or xs place d) moved.front ∙ get_or-take (place + 1) before place d lt

  front_same : take place now ≡ take place before
  front_same =
      let le : place ≤ place + 1 = omega arith in
      sym (take-take place (place + 1) now le) ∙ ap (λ xs. take place xs) moved.front ∙ take-take place (place + 1) before le

  here : place < end
  here = omega arith

  pub one_gone : goes_with word (get_or now place d) ≡ true → IsMoved before now end word kept place
  one_gone goes =
      let more = part_more before end place d here long in
      let gone : goes_with word (get_or before place d) ≡ true = rw read_same at goes in
      let same : without word (part before end place) ≡ without word (part before end (place + 1)) = rw (more, gone) refl in
      record { order = omega arith; within = moved.within; front = front_same; back = rw same moved.back; left = rw same moved.left }

  pub one_kept : length now ≡ length before → goes_with word (get_or now place d) ≡ false → IsMoved before (set now (kept - 1) (get_or now place d)) end word (kept - 1) place
  one_kept same_long goes =
      let more = part_more before end place d here long in
      let stays : goes_with word (get_or before place d) ≡ false = rw read_same at goes in
      let one : without word (part before end place) ≡ get_or before place d ∷ without word (part before end (place + 1)) = rw (more, stays) refl in
      let next : kept - 1 + 1 ≡ kept = omega arith in
      let lt : kept - 1 < length now = omega arith in
      record {
        order = omega arith;
        within = omega arith;
        front = take-set-le place now (kept - 1) (get_or now place d) (omega arith) ∙ front_same;
        back = drop-set now (kept - 1) (get_or now place d) lt ∙ rw (next, moved.back, one, read_same) refl;
        left = rw one (omega arith);
      }
