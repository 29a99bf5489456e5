use Rattle.std.proofs.Common.{◌≡◌, ◌<◌, ℕ, Bool, List, Some}
use Rattle.std.specs.Prelude.{slice_index_or}
use Rattle.base_page.specs.declared.item.Content.TheVariants.{Child}
use Rattle.traces.specs.chain.Chains.{content_in}
use Rattle.traces.specs.chain.SideChain.{LivePage}
use Rattle.tree_picture.proofs.links.term_for.Given as goal

abbrev pub invariant-loop-page : goal.invariant-loop-page
invariant-loop-page l = (place : ℕ) (d : LivePage) → place < l.page-index → (held : Bool) (key : List ℕ) → content_in (slice_index_or l.above place d).chain key ≡ Some (Child l.pid held) → ⊥
