-- The pages of a scene by their PIDs, level by level and from left to right.
use Rattle.std.specs.Prelude.{ℕ, List, map}
use Rattle.std.specs.List.{flat_map}
use Rattle.traces.specs.chain.SideChain.{LivePage}

abbrev pub level_pids : List LivePage → List ℕ
level_pids pages = map (λ page. page.pid) pages

abbrev pub all_pids : List (List LivePage) → List ℕ
all_pids levels = flat_map level_pids levels
