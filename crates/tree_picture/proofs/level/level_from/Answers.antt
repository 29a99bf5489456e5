use Rattle.std.proofs.Common.{ap, length, sym, ◌≡◌, ◌∙◌, arith}
use Rattle.tree_limits.specs.declared.limits.Limits.{Limits}
use Rattle.tree_picture.proofs.Sides.{chain_at, is_more, no_front, page_last, page_more, pid_below}
use Rattle.tree_picture.proofs.level.level_from.Goals as goal

pub page_at-requires-clause-there : goal.page_at-requires-clause-there
page_at-requires-clause-there g c =
    let (number, has) = c.requires.stands in
    let below = pid_below _ _ number _ has _ _ _ (c.loop.invariant number has) in
    let same : c.args.table.now.limits.pids ≡ c.args.limits.now.pids = ap (λ (l : Limits). l.pids) c.requires.limits in
    omega (arith, below, same)

pub page_at-requires-clause-stands : goal.page_at-requires-clause-stands
page_at-requires-clause-stands g c =
    let (number, has) = c.requires.stands in
    chain_at _ _ number _ has _ _ _ (c.loop.invariant number has)

pub returns-in-None : goal.returns-in-None
returns-in-None g c = λ number has.
    c.in_ok-push.ensures.items ∙ page_last _ _ number _ has _ _ _ (c.loop.invariant number has) c.in_ok-page.page c.in_ok-page.ensures.pid
    c.in_ok-page.ensures.chain (sym c.right-right.ensures ∙ c.in-None.is)

pub loop-preserved : goal.loop-preserved
loop-preserved g c = λ number has.
    rw c.in_ok-push.ensures.items
    (page_more _ _ number _ has _ _ _ (c.loop.invariant number has) c.in_ok-page.page c.in_ok-page.ensures.pid c.in_ok-page.ensures.chain _ (sym c.right-right.ensures ∙ c.in-Some.is))

pub unreachable-requires : goal.unreachable-requires
unreachable-requires g c =
    let (number, has) = c.requires.stands in
    let more = is_more _ _ number _ has _ _ _ (c.loop.invariant number has) in
    omega (arith, more, c.loop-test.false)

pub loop-init : goal.loop-init
loop-init g c = λ number has. rw c.new-pages.ensures.items (no_front _ _ _ number has)

pub invariant_of-result : goal.invariant_of-result
invariant_of-result g c =
    let (number, has) = c.requires.stands in
    let whole = c.in_ok-push.ensures.items ∙ page_last _ _ number _ has _ _ _ (c.loop.invariant number has) c.in_ok-page.page c.in_ok-page.ensures.pid
    c.in_ok-page.ensures.chain (sym c.right-right.ensures ∙ c.in-None.is) in
    omega (arith, ap length whole, has.few, c.args.limits.now.allowed.few_pids)
