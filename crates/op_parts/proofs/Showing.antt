-- A leaf's page shows what its chain decides.
use Rattle.std.proofs.Common.{ℕ, List, Option, ap, subst}
use Rattle.bw_model.specs.Bytes.{IsShort}
use Rattle.bw_model.specs.NextKeys.{key_before}
use Rattle.bw_model.specs.declared.command.Reply.TheVariants as reply
use Rattle.base_page.specs.Pages.{IsPage, Page}
use Rattle.base_page.specs.Shown.{pairs_shown}
use Rattle.base_page.specs.declared.page.shows.Direction.{Direction}
use Rattle.base_page.specs.declared.page.shows.Direction.TheVariants.{Forward, Backward}
use Rattle.deltas.specs.declared.record.Record.{Record}
use Rattle.traces.specs.chain.Fitted.{Makes}
use Rattle.row_chain.proofs.PairLaws.{pairs_in, pairs_upto}
use Rattle.op_parts.specs.ShortReplies.{ShowsChain, page_shown}

pub shows_chain : (d : Direction) (chain : List Record) (bound : List ℕ) (page : Page) → Makes chain page → IsPage page → IsShort page.low
    → ShowsChain chain d bound (page_shown d bound page)
shows_chain Forward chain bound page makes is short =
    (pairs_shown Forward bound page.items, pairs_in chain page bound makes is, ap (λ (high : Option (List ℕ)). reply.Page (pairs_shown Forward bound page.items) high) makes.high)
shows_chain Backward chain bound page makes is short = (
  pairs_shown Backward bound page.items,
  subst IsShort makes.low short,
  pairs_upto chain page bound makes is,
  ap (λ (low : List ℕ). reply.BackPage (pairs_shown Backward bound page.items) (key_before low)) makes.low,
)
