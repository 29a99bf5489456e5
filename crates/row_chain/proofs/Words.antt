-- The words that the proofs of this crate share.
pub use Rattle.base_page.proofs.KeyLaws.{and_left, either}
pub use Rattle.base_page.proofs.PageLaws.{belongs}
pub use Rattle.base_page.specs.Pages.{AreItems, IsAscending, Page, content_at}
pub use Rattle.base_page.specs.Places.{IsGreatest}
pub use Rattle.base_page.specs.declared.item.Content.{Content}
pub use Rattle.base_page.specs.declared.item.Content.TheVariants.{Child}
pub use Rattle.base_page.specs.declared.item.Item.{Item}
pub use Rattle.bw_model.specs.Bytes.{is_below, is_under, key_cmp}
pub use Rattle.deltas.specs.Applies.{Applies}
pub use Rattle.deltas.specs.Fits.{FitsOnPage}
pub use Rattle.deltas.specs.Records.{content_said, names}
pub use Rattle.deltas.specs.Spellable.{IsSpellable}
pub use Rattle.deltas.specs.declared.record.Record.{Record}
pub use Rattle.deltas.specs.declared.record.Record.TheVariants.{Base, Delete, Hold, Put, Remove, Term, Unterm}
pub use Rattle.record_slots.specs.Parts.{items_of, row_of}
pub use Rattle.row_chain.specs.Placed.{PlacedChain, contents}
pub use Rattle.row_chain.specs.Walks.{IsGreatestKey, PassesUpTo, bound_under, count_under, is_above, is_left, is_named, is_taken}
pub use Rattle.row_search.specs.Items.{items_said}
pub use Rattle.row_search.specs.OneKey.{one_key}
pub use Rattle.row_search.specs.Placed.{PlacedRecord}
pub use Rattle.std.proofs.Common.{ap, arith, drop, drop-cons, get_or, length, map, refl, subst, suc, sym, take, true, zero, ◌++◌, ◌+◌, ◌-◌, ◌<◌, ◌∙◌, ◌∷◌, ◌≡◌, ◌≤◌}
pub use Rattle.std.proofs.lemmas.List.{drop_all, length-drop, take_all}
pub use Rattle.std.specs.List.{All, AllByRecursion, AllWithin}
pub use Rattle.std.specs.Ordering.{is_eq, is_lt}
pub use Rattle.std.specs.Prelude.{MatchOption, if◌then◌else◌, is_some, not, option_copied}
pub use Rattle.traces.proofs.FittedLaws.{page_of, ruled}
pub use Rattle.traces.specs.chain.Chains.{IsItemsOf, content_in, high_in, low_in}
pub use Rattle.traces.specs.chain.Fitted.{IsFitted, Makes}
