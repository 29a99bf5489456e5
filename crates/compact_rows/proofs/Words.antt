-- The words that the proofs of this crate share.
pub use Rattle.base_page.specs.declared.item.Content.{Content}
pub use Rattle.base_page.specs.declared.item.Content.TheVariants.{Child, Value}
pub use Rattle.base_page.specs.declared.item.Item.{Item}
pub use Rattle.compact_rows.specs.Layout.{content_unit, first_unit, length_unit}
pub use Rattle.compact_rows.specs.Seen.{bound_size, code_at, code_number, code_tail, count_seen, first_length, first_seen, item_seen, items_seen, level_seen, place_seen, second_length}
pub use Rattle.compact_rows.specs.Seen.{second_seen, seen, text_seen, value_seen}
pub use Rattle.compact_rows.specs.Spelling.{bound_text, codes, compact_row, compact_words, content_text, first_word, heads, item_code, item_text, packed, second_word, texts, texts_at}
pub use Rattle.compact_rows.specs.Spelling.{words_for}
pub use Rattle.compact_rows.specs.Spells.{IsCompact}
pub use Rattle.deltas.specs.declared.record.Record.{Record}
pub use Rattle.record_slots.proofs.SpellingLaws.{counts, items_fit, parts_fit}
pub use Rattle.record_slots.specs.Layout.{item_size, items_at, part_limit}
pub use Rattle.record_slots.specs.Parts.{IsItem, IsRowOfParts, items_of, row_of}
pub use Rattle.record_slots.specs.Spelling.{big_endian, text_words, words_of}
pub use Rattle.record_slots.specs.Spells.{IsShortItem}
pub use Rattle.record_slots.specs.declared.row.Row.{Row}
pub use Rattle.std.proofs.Common.{Bool, List, [], ap, append_assoc, arith, drop, false, get_or, inl, inr, length, length-append, length-drop, refl, subst, suc, sym, true, zero, ℕ, ◌%◌, ◌*◌}
pub use Rattle.std.proofs.Common.{◌++◌, ◌+◌, ◌-◌, ◌/◌, ◌<◌, ◌==◌, ◌∙◌, ◌∷◌, ◌≡◌, ◌≤◌}
pub use Rattle.std.proofs.lemmas.Bool.{cases_lt, eq-eqb, le-ltb, lt-ltb, ne_eqb}
pub use Rattle.std.proofs.lemmas.List.{drop-drop, get_or_append_left}
pub use Rattle.std.proofs.lemmas.List.Elements.{All-head, All-tail}
pub use Rattle.std.specs.List.{All}
pub use Rattle.std.specs.Prelude.{if◌then◌else◌, ltb}
