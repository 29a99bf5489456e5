pub mod Chains
pub mod Exactness
pub mod Firsts
pub mod Fitness
pub mod Frames
pub mod Kept
pub mod KeyOrder
pub mod LeafPlaces
pub mod Leaves
pub mod LevelPages
pub mod Levels
pub mod Mapping
pub mod Moments
pub mod Own
pub mod Puts
pub mod Rows
pub mod Sides
pub mod Relinked
pub mod Terms
pub use Chains.{chain_unique, front_of}
pub use Exactness.{is_indexed, below_top, root_indexed}
pub use Firsts.{first_stays, grows}
pub use Fitness.{opening_fitted, opening_unheld, fitted_after, unheld_after}
pub use Frames.{chain_stands, chain_decides, RowChange, row_own, row_same, PageChange, page_same, page_stage, page_link, page_gone, Change, kept_change, closed_kept, name_more, page_own, read_linked}
pub use Frames.{row_free, page_free}
pub use Kept.{placed_reached, reached_placed, chain_kept}
pub use KeyOrder.{by_key, not_self, covers_from, key_other, not_below, upto_same, under_trans, by_range, covers_to, upto_trans, below_not}
pub use LeafPlaces.{shows, shows_back, is_leaf}
pub use Levels.{indexed_first, indexed_push}
pub use Mapping.{map_of, slot_some, chain_at}
pub use Moments.{same_memory}
pub use Own.{own_spare, own_base}
pub use Puts.{none_if, false_if, by_equal, put_same, put_other, put_was, put_true, eqb_true, eqb_apart, decided, eqb_same, put_all}
pub use Rows.{chain_linked, chain_was, next_linked, rows_kept}
pub use Sides.{one_chain}
pub use Relinked.{in_level_as, right_page, same_page, placed_level, tree_kept, tree_merged, no_gap, level_kept, tree_relinked}
pub use Terms.{exact_moved, exact_going, exact_root, exact_fresh, exact_same}
