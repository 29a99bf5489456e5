use Rattle.std.proofs.Common.{◌≡◌, ap}
use Rattle.record_slots.specs.Small.{is_small}
use Rattle.record_slots.proofs.read.from_words.Goals as goal

pub returns-else-is_small : goal.returns-else-is_small
returns-else-is_small c content h =
    let same : content ≡ c.in_ok-content.content = c.spelling_is_one.ensures content c.in_ok-content.content c.args.words.now h.spelling c.in_ok-content.ensures in
    let small : is_small content ≡ is_small c.in_ok-content.content = ap is_small same in
    let told = c.is_small.ensures in
    let no = c.if-is_small.false in
    let yes = h.small in
    cc
