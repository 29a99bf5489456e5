-- What an actor has of its own.
use Rattle.tree_law.proofs.Words.{Option, ℕ, ◌≡◌, Record, IsOwn, IsOwnBase, Foreign, Taken, Written, OwnRow, Spare, Owner, OwnFits}

-- a row of its own is a spare of its own
pub own_spare : {a : ℕ} {o : Owner} (w : Option Record) (v : OwnRow) → OwnFits a o w v → IsOwn v → o ≡ Spare a
own_spare w Foreign h own = absurd own
own_spare w Taken h own = h
own_spare w (Written x) h own = h.0

pub own_base : (v : OwnRow) → IsOwnBase v → IsOwn v
own_base Foreign h = absurd h
own_base v h = tt
