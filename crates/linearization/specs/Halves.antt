-- Splits that leave items enough on both sides.
use Rattle.std.specs.Prelude.{◌≡◌, ◌≤◌, ◌+◌, ℕ, suc, List, length, ⊤}
use Rattle.bw_model.specs.declared.step.Step.{Step as StepOf}
use Rattle.bw_model.specs.declared.step.Step.TheVariants.{Exchange}
use Rattle.base_page.specs.Pages.{Page}
use Rattle.base_page.specs.declared.item.Item.{Item}
use Rattle.deltas.specs.declared.record.Record.{Record}
use Rattle.deltas.specs.declared.record.Record.TheVariants.{Base, Split}
use Rattle.deltas.specs.declared.record.Split.{Split as SplitOf}
use Rattle.traces.specs.chain.Chains.{IsItemsOf}
use Rattle.traces.specs.discipline.Discipline.{HasRead}
use Rattle.traces.specs.discipline.Knowledge.{Ready, Written, Knowledge}

-- Of the items that the chain decides these go to a new page: it has 7 at least, and so has the old one.
pub record AreHalves (chain : List Record) (above : List Item) : Type 0 where
  pub upper : 7 ≤ length above
  pub lower : (items : List Item) → IsItemsOf chain items → 7 + length above ≤ length items

-- Over a page's chain that was read a split goes only where it leaves items enough on both sides.
abbrev pub IsHalved : Knowledge → StepOf Record → Type 0
IsHalved k (Exchange (suc page) (suc old) (suc new)) = (basis : HasRead k (suc page) (suc old)) (split : SplitOf) (row : ℕ) (base : Page) → k.own.rows (suc new) ≡ Written (Split split)
    → k.own.pages split.page ≡ Ready row → k.own.rows row ≡ Written (Base base) → AreHalves basis.chain base.items
IsHalved k step = ⊤
