-- A small log.
use Rattle.std.specs.Prelude.{codes, List, [], ◌∷◌}
use Rattle.bw_model.specs.Log.{Update, set, unset}

-- "a" is set twice; "b" is set and unset
abbrev pub small_log : List Update
small_log = set 0 (codes "a") (codes "1") ∷ set 1 (codes "b") (codes "2") ∷ set 0 (codes "a") (codes "3") ∷ unset 1 (codes "b") ∷ []
