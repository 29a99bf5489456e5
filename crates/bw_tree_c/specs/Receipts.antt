-- What a receipt has seen, and how that is kept.
use Rattle.std.specs.Prelude.{◌≡◌, ◌∷◌, [], List}
use Rattle.atomic_table.specs.Seated.{TableId}
use Rattle.atomic_table.specs.declared.shared.Seat.{Seat}
use Rattle.call_log.specs.declared.log.Knows.{Knows}
use denote.RattleType.{RattleType}
use Rattle.call_log.specs.contracts.log.Knows as knows
use Rattle.bw_tree_c.specs.contracts.handle.slots.Inside as inside
use Rattle.bw_tree_c.specs.declared.handle.slots.Inside.{Inside}

abbrev pub SeatHand : Type 0
SeatHand = Seat Inside (Knows Inside)

-- the type of what a hand of a handle knows
abbrev pub knows_row : RattleType
knows_row = knows.the_row inside.the_row

-- If these views are one, and of this table, the hand has it.
abbrev pub HasViewOf : TableId → List (Knows Inside) → TableId → SeatHand → Type 0
HasViewOf from views which hand = from ≡ which → (view : Knows Inside) → views ≡ view ∷ [] → hand.me.0 ≡ view
