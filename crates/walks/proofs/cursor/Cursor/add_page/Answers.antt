use Rattle.std.proofs.Common.{arith}
use Rattle.walks.proofs.cursor.Cursor.add_page.Goals as goal

pub add-requires : goal.add-requires
add-requires g c =
    let few = c.pairs.ensures.few in
    let room = c.in_ok-reserve.ensures.ok in
    omega (arith, few, room)

pub returns-in-Page-clause-next : goal.returns-in-Page-clause-next
returns-in-Page-clause-next g c = c.next-walk.ensures.next
