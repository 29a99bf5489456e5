use Rattle.std.proofs.Common.{arith}
use Rattle.walks.proofs.back_cursor.BackCursor.add_page.Goals as goal

pub add_reversed-requires : goal.add_reversed-requires
add_reversed-requires g c =
    let few = c.pairs.ensures.few in
    let room = c.in_ok-reserve.ensures.ok in
    omega (arith, few, room)

pub returns-in-Page-clause-next : goal.returns-in-Page-clause-next
returns-in-Page-clause-next g c = c.next-walk.ensures.next
