-- The base that comes in the place of a page's chain.
use Rattle.base_page.specs.Pages.{Page}
use Rattle.deltas.specs.declared.record.Record.TheVariants as kind
use Rattle.traces.specs.discipline.Discipline.{FitsOn, MayConsolidate}
use Rattle.structure_changes.specs.Versions.{Version}

-- The page may get the base, which has what the page has.
pub record IsBasePlan (page : Version) (base : Page) : Type 0 where
  pub may : MayConsolidate page.chain (kind.Base base)
  pub fits : FitsOn page.chain (kind.Base base)
