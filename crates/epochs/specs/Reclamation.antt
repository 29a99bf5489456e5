-- When what was taken out of the tree may be used again: the rule of epoch-based reclamation (Fraser, Practical lock-freedom,
-- 2004).
--
-- An actor announces an epoch that it has read before it enters, and 0 while it is outside. The stamp of an item is an epoch
-- that was read after the item was unlinked. Who entered in a later epoch entered after that, and found the item nowhere.
--
-- The discipline of all actors says the same of what an actor has read, one announced number after another
-- (traces/Discipline, `IsPassed`). This crate stands beside that one and can't name it.
use Rattle.std.specs.Prelude.{◌==◌, ◌||◌, ℕ, Bool, List, ltb}
use Rattle.std.specs.List.{list_all}

-- The actor that announces this number, as it was read after the stamp, holds no item with the stamp: it is outside, or
-- entered in a later epoch.
abbrev pub has_passed : ℕ → ℕ → Bool
has_passed stamp announced = (announced == 0) || ltb stamp announced

-- An item with this stamp may be freed where each other actor has passed it.
abbrev pub may_be_freed : ℕ → List ℕ → Bool
may_be_freed stamp announces = list_all (has_passed stamp) announces
