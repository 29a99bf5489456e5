-- The items that stand in a row.
use Rattle.std.specs.Prelude.{◌≡◌, ◌≤◌, ◌*◌, ◌/◌, ◌%◌, ℕ, List, length, slice_index, take, drop}
use Rattle.std.specs.List.{All}
use Rattle.base_page.specs.declared.item.Item.{Item}
use Rattle.base_page.specs.Pages.{IsAscending}
use Rattle.base_page.specs.declared.items.TheConstants.{MAX_ITEMS}
use Rattle.record_slots.specs.Spelling.{items_words}
use Rattle.record_slots.specs.declared.layout.TheConstants.{FIRST_ITEM, ITEM_UNIT, ITEM_WORDS, PART_LIMIT}
use Rattle.record_slots.specs.Spells.{IsShortItem}

-- The words of a row spell these items, which ascend.
pub record StandIn (words : List ℕ) (items : List Item) : Type 0 where
  pub count : slice_index words 0 / ITEM_UNIT % PART_LIMIT ≡ length items
  pub few : length items ≤ MAX_ITEMS
  pub short : All IsShortItem items
  pub are : items_words items ≡ take (ITEM_WORDS * length items) (drop FIRST_ITEM words)
  pub ascending : IsAscending items
