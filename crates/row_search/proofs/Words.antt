-- The words that the proofs of this crate share.
pub use Rattle.std.proofs.Common.{◌≡◌, length, take}
pub use Rattle.std.proofs.lemmas.Bool.{eqb-true, false_from_ne_true, cases_lt}
pub use Rattle.std.proofs.lemmas.List.{get_or-drop, drop-drop, get_or-take, take_all}
pub use Rattle.std.specs.Cmp.{nat_cmp_is}
pub use Rattle.std.specs.Cmp.Lexicographic.{slice_cmp}
pub use Rattle.std.specs.List.{AllWithin}
pub use Rattle.std.specs.Ordering.{is_eq, nat_cmp, ordering_then, is_gt}
pub use Rattle.std.specs.Prelude.{if◌then◌else◌, not, option_map}
pub use Rattle.std.specs.declared.cmp.Ordering.{Ordering}
pub use Rattle.std.specs.declared.cmp.Ordering.TheVariants.{Less, Equal, Greater}
pub use Rattle.base_page.proofs.ItemLaws.{IsAscending-from}
pub use Rattle.base_page.proofs.KeyLaws.{below, same}
pub use Rattle.base_page.proofs.PlaceLaws.{content_at_place, content_at_gap}
pub use Rattle.base_page.specs.Pages.{IsOfLevel, AreItems, child_in, IsAscending, Page}
pub use Rattle.base_page.specs.Places.{IsAt, IsGap}
pub use Rattle.base_page.specs.Rules.{is_held}
pub use Rattle.base_page.specs.declared.item.Content.{Content}
pub use Rattle.base_page.specs.declared.item.Content.TheVariants.{Value, Child}
pub use Rattle.base_page.specs.declared.item.Item.{Item}
pub use Rattle.bw_model.specs.Bytes.{IsShort, longest, key_cmp, is_under}
pub use Rattle.deltas.specs.Records.{right_after}
pub use Rattle.deltas.specs.Spellable.{IsPid, IsSpellable}
pub use Rattle.deltas.specs.declared.record.Record.{Record}
pub use Rattle.deltas.specs.declared.record.Record.TheVariants.{Base}
pub use Rattle.record_slots.proofs.ItemLaws.{first_words, behind_words}
pub use Rattle.record_slots.proofs.SpellingLaws.{counts, items_fit, items_spelled, row_spelled}
pub use Rattle.record_slots.proofs.TextLaws.{read_back}
pub use Rattle.record_slots.specs.Layout.{count_unit, field_size, first_at, held_mark, item_size, items_at, no_bound, part_limit, second_at, text_size, row_size}
pub use Rattle.record_slots.specs.Parts.{IsItem, row_of, items_of}
pub use Rattle.record_slots.specs.Spelling.{text_words, field_words, bound_words, content_words, item_words, items_words, words_of}
pub use Rattle.record_slots.specs.Spells.{IsShortContent, IsSpelling}
pub use Rattle.record_slots.specs.Texts.{bytes_of, IsText}
pub use Rattle.row_search.specs.Changes.{delete_of, put_of, split_of}
pub use Rattle.row_search.specs.Items.{is_term, items_said}
pub use Rattle.row_search.specs.Placed.{row_words_of}
pub use Rattle.row_search.specs.Reading.{text_in, field_in, item_in}
pub use Rattle.row_search.specs.Rows.{StandIn}
