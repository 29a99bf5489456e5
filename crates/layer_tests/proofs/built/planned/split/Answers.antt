use Rattle.std.proofs.Common.{◌≡◌, ℕ, List, Option, None, Some, ap, subst}
use Rattle.std.specs.Prelude.{IfSome, MatchOption}
use Rattle.deltas.specs.Spellable.{IsPid}
use Rattle.deltas.specs.declared.record.Record.{Record}
use Rattle.deltas.specs.declared.record.Record.TheVariants as kind
use Rattle.row_chain.specs.Placed.{PlacedChain}
use Rattle.traces.specs.discipline.Discipline.{FitsOn}
use Rattle.structure_changes.specs.Splits.{CanSplit, IsSplitPlan, split_to}
use Rattle.structure_changes.specs.Versions.{Version}
use Rattle.structure_changes.specs.declared.split.SplitPlan.{SplitPlan}
use Rattle.layer_tests.proofs.built.planned.split.Goals as goal

fits : (plan : Option SplitPlan) (page : Version) (chain : List Record) → page.chain ≡ chain → MatchOption plan (¬ CanSplit page) (IsSplitPlan page)
    → IfSome plan (λ plan. (right : ℕ) → IsPid right → FitsOn chain (kind.Split (split_to plan right)))
fits None page chain same is = tt
fits (Some plan) page chain same is = λ right pid. subst (λ (records : List Record). FitsOn records (kind.Split (split_to plan right))) same (is.fits right pid)

pub returns : goal.returns
returns g c = fits c.plan_split.result c.read-read.result.page c.args.page.now.chain (ap (λ (p : PlacedChain). p.records) c.read-read.ensures.chain) c.plan_split.ensures.plan
