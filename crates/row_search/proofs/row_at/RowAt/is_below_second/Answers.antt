use Rattle.std.proofs.Common.{sym, ◌∙◌}
use Rattle.record_slots.specs.Parts.{row_of}
use Rattle.row_search.proofs.RowTexts.{above_none, above_some}
use Rattle.row_search.proofs.row_at.RowAt.is_below_second.Goals as goal

pub returns-in-None-clause-under : goal.returns-in-None-clause-under
returns-in-None-clause-under g c = sym (above_none c.args.key.now (row_of c.args.self.now.content).second (sym c.in-None.is ∙ c.compare_second.ensures.compared))

pub returns-in-Some-clause-under : goal.returns-in-Some-clause-under
returns-in-Some-clause-under g c = c.is_gt.ensures ∙ sym (above_some c.args.key.now (row_of c.args.self.now.content).second c.in-Some.bound (sym c.in-Some.is ∙ c.compare_second.ensures.compared))
