use Rattle.row_chain.proofs.Words.{◌≡◌, refl, ◌∙◌, arith, Base}
use Rattle.std.proofs.Common.{false}
use Rattle.traces.proofs.FittedLaws.{stands}
use Rattle.row_chain.proofs.chain.Chain.consolidated.Goals as goal

pub returns-clause-base : goal.returns-clause-base
returns-clause-base g c =
    let makes = c.page_in.ensures.makes in
    let alive : c.page_in.new.page.removed ≡ false = makes.removed ∙ c.requires.alive in
    λ i. Base (record { level = makes.level i; low = makes.low i; high = makes.high i; right = makes.right i; removed = alive i; items = c.page_in.new.page.items })

pub returns-clause-stands : goal.returns-clause-stands
returns-clause-stands g c =
    let makes = c.page_in.ensures.makes in
    let alive : c.page_in.new.page.removed ≡ false = makes.removed ∙ c.requires.alive in
    record { fitted = (c.page_in.new.page, refl, stands c.args.self.now.records c.page_in.new.page c.keeps_rules.ensures.fitted makes alive); short = omega arith }
