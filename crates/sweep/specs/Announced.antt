-- What a sweep keeps of the epochs that other actors have announced.
use Rattle.std.specs.Prelude.{◌==◌, ℕ, suc, ltb, if◌then◌else◌}

-- Of so many others what they announced was read, and this is the least epoch of those that are inside, or 0 where all are outside. Who
-- has passed a stamp if all of them have is decided by that number alone.
pub record Announced : Type 0 where
  pub count : ℕ
  pub least : ℕ

abbrev pub none_yet : Announced
none_yet = record { count = 0; least = 0 }

-- the lesser of two announced epochs, where 0 is none
abbrev pub least_of : ℕ → ℕ → ℕ
least_of one other = if one == 0 then other else (if other == 0 then one else (if ltb other one then other else one))

-- with what the next actor announced
abbrev pub with_next : ℕ → Announced → Announced
with_next epoch announced = record { count = suc announced.count; least = least_of announced.least epoch }
