-- What an actor has read, and what it may link over that.
use Rattle.tree_law.proofs.Words.{refl, List, ℕ, ◌≡◌, Some, IsFalse, Record, IsChainFrom, right_in, is_removed, level_in, high_in, FitsOn, IsUnset, MayLink}
use Rattle.tree_law.proofs.Words.{MayRoot, MayAdd, HasRead, Knowledge, Ready, Written, root_a, a}
use Rattle.tree_law.proofs.runs.LinkFits.{root_fitted}

-- a page was read with its whole chain
abbrev pub whole : {k : Knowledge} {page row : ℕ} (chain : List Record) → IsChainFrom k.read.seen row chain → k.read.heads page ≡ Some row → IsFalse (is_removed chain) → HasRead k page row
whole chain read head alive = record { head = head; chain = chain; read = read; alive = alive }

-- a record is linked over it
pub adds : {actor : ℕ} {k : Knowledge} {page old new : ℕ} (basis : HasRead k page old) (content : Record) → k.own.rows new ≡ Written content
    → FitsOn basis.chain content → MayLink actor k page old basis.chain content → IsUnset k new → MayAdd actor k page old new
adds basis content placed fits due unset = record { basis = basis; content = content; placed = placed; fits = fits; due = due; unset = unset }

-- the root of the runs is put over the first leaf, once it was split
pub puts_root : {k : Knowledge} (basis : HasRead k 1 4) → level_in basis.chain ≡ 0 → right_in basis.chain ≡ Some 2 → high_in basis.chain ≡ Some a
    → k.own.pages 3 ≡ Ready 5 → k.own.rows 5 ≡ Written root_a → MayRoot k 1 3
puts_root {k} basis level right high ready base = record {
  row = 4;
  basis = basis;
  right = 2;
  is_right = right;
  separator = a;
  is_high = high;
  some = refl;
  base_row = 5;
  ready = ready;
  base = rw level base;
  ruled = rw level root_fitted;
}
