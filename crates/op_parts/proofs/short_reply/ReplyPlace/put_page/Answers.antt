use Rattle.std.proofs.Common.{subst}
use Rattle.bw_model.specs.Bytes.{IsShort}
use Rattle.op_parts.proofs.Showing.{shows_chain}
use Rattle.op_parts.proofs.short_reply.ReplyPlace.put_page.Goals as goal

pub returns-clause-page : goal.returns-clause-page
returns-clause-page g c = rw c.copied-self-inside.ensures (
    shows_chain c.args.direction c.args.leaf.now.records c.args.bound.now c.page_in.new.page c.page_in.ensures.makes c.page_in.ensures.ruled.is_page (subst IsShort c.low.ensures c.keeps_short.ensures)
    )
