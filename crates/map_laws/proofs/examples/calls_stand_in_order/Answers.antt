use Rattle.map_laws.proofs.Words.{Begin, Command, Done, Get, Leave, Some, arith, refl, slice_get, suc, zero, ℕ, ◌<◌, ◌≡◌, ◌≤◌}
use Rattle.std.proofs.Common.{codes}
use Rattle.running_tree.specs.Examples.{two_actors}
use Rattle.map_laws.proofs.examples.calls_stand_in_order.Goals as goal

-- between the begin of actor 0 and its Leave it begins nothing
nothing_between : (later : ℕ) (asked : Command) → 0 < later → later < 3 → slice_get two_actors later ≡ Some (Begin 0 asked) → ⊥
nothing_between zero asked after before at = omega arith
nothing_between (suc zero) asked after before at = cc
nothing_between (suc (suc zero)) asked after before at = cc
nothing_between (suc (suc (suc later))) asked after before at = omega arith

-- the first get of actor 0 is its only one
begun_once : (start : ℕ) → 1 ≤ start → slice_get two_actors start ≡ Some (Begin 0 (Get (codes "a"))) → ⊥
begun_once zero late at = omega arith
begun_once (suc (suc (suc (suc (suc (suc start)))))) late at = beyond start at
  where
    beyond : (place : ℕ) → slice_get two_actors (suc (suc (suc (suc (suc (suc place)))))) ≡ Some (Begin 0 (Get (codes "a"))) → ⊥
    beyond zero at = cc
    beyond (suc place) at = cc
begun_once other late at = cc

pub returns-clause-order : goal.returns-clause-order
returns-clause-order c = (
  3,
  record { begun = record { start = 0; late = omega arith; is = refl }; ends = (Leave, Done, record { begun = omega arith; entry = refl; not_ended = nothing_between }) },
  (record { start = 5; late = omega arith; is = refl }, refl),
)

pub returns-clause-turned : goal.returns-clause-turned
returns-clause-turned c = λ are. let none = are.1 in cc

pub returns-clause-early : goal.returns-clause-early
returns-clause-early c = λ are. begun_once are.1.begun.start are.1.begun.late are.1.begun.is
