-- Consolidations that are of use.
use Rattle.std.specs.Prelude.{◌≡◌, ◌<◌, suc, length, ⊤}
use Rattle.bw_model.specs.declared.step.Step.{Step as StepOf}
use Rattle.bw_model.specs.declared.step.Step.TheVariants.{Exchange}
use Rattle.base_page.specs.Pages.{Page}
use Rattle.deltas.specs.declared.record.Record.{Record}
use Rattle.deltas.specs.declared.record.Record.TheVariants.{Base}
use Rattle.traces.specs.discipline.Discipline.{HasRead}
use Rattle.traces.specs.discipline.Knowledge.{Written, Knowledge}

-- Over a page's chain that was read a base goes only where there are deltas.
abbrev pub IsUseful : Knowledge → StepOf Record → Type 0
IsUseful k (Exchange (suc page) (suc old) (suc new)) = (basis : HasRead k (suc page) (suc old)) (page' : Page) → k.own.rows (suc new) ≡ Written (Base page') → 1 < length basis.chain
IsUseful k step = ⊤
