use Rattle.std.proofs.Common.{◌≡◌, ◌+◌, false, true, take}
use Rattle.traces.specs.chain.Chains.{IsChainFrom, IsFront}
use Rattle.layer_tests.specs.Held.{page_record}
use Rattle.layer_tests.proofs.built.shelf.Shelf.fill.Given as goal

abbrev pub invariant-loop-record : goal.invariant-loop-record
invariant-loop-record l =
    (l.part ≡ record { head = l.page.head; records = take l.record-index l.page.chain })
    × (l.whole ≡ false → IsFront (page_record l.page) l.page.head (take l.record-index l.page.chain) l.row × (l.row + l.record-index ≡ l.page.head))
    × (l.whole ≡ true → IsChainFrom (page_record l.page) l.page.head (take l.record-index l.page.chain))
