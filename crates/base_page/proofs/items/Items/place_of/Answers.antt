use Rattle.std.proofs.Common.{rules}
use Rattle.std.proofs.lemmas.Fn.{always_returns_same}
use Rattle.bw_model.specs.Bytes.{key_cmp}
use Rattle.base_page.specs.declared.item.Item.{Item}
use Rattle.base_page.proofs.PlaceLaws.{searched}
use Rattle.base_page.proofs.items.Items.place_of.Goals as goal

-- the closure compares an item's key with the key, and the slice is the items
pub returns : goal.returns
returns c =
    let facts = c.binary_search_by.ensures in
    let found = facts.position (λ (item : Item). key_cmp item.key c.args.key.now) (always_returns_same _ _ _ (λ a r g called. search rules)) in
    rw (← c.self.view_is, ← c.as_slice.ensures.value)
    (searched c.as_slice.result.now (rw c.as_slice.ensures.value c.self.invariant.ascending) c.args.key.now c.binary_search_by.result facts.bound found)
