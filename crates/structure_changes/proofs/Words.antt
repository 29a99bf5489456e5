-- The words that the proofs of this crate share.
pub use Rattle.std.proofs.Common.{◌≡◌, ◌≤◌, List, [], ◌∷◌, length, Bool, true, false, refl, sym, ◌∙◌, subst, ◌≢◌, ◌<◌, ◌+◌, ◌/◌, ℕ, suc, drop, Some, None, ap, arith, ◌++◌, ◌⊎◌, inl, inr}
pub use Rattle.std.proofs.Common.{◌-◌, Option}
pub use Rattle.std.proofs.lemmas.Bool.{false≢true}
pub use Rattle.std.proofs.lemmas.Bool.Decides.{eqb_tells}
pub use Rattle.std.proofs.lemmas.List.Elements.{All-from_recursion, recursion_from_All, at_read}
pub use Rattle.std.proofs.lemmas.Option.{same_Some}
pub use Rattle.std.specs.List.{AllByRecursion, HoldsAt}
pub use Rattle.std.specs.List.Sorted.{IsStrictlySortedBy}
pub use Rattle.std.specs.Ordering.{is_lt, is_eq}
pub use Rattle.std.specs.Prelude.{IsTrue, if◌then◌else◌, not, is_some, MatchOption}
pub use Rattle.std.specs.declared.cmp.Ordering.TheVariants.{Less, Equal}
pub use Rattle.base_page.proofs.KeyLaws.{above, and_both, below_from, not_true, same}
pub use Rattle.base_page.specs.Pages.{Page, IsPage, IsOfLevel, content_at, IsAscending}
pub use Rattle.base_page.specs.Rules.{AreApart, AreTerms, IsFirstAt, IsRuled, held_count, is_held}
pub use Rattle.base_page.specs.declared.item.Content.{Content}
pub use Rattle.base_page.specs.declared.item.Content.TheVariants.{Value, Child}
pub use Rattle.base_page.specs.declared.item.Item.{Item}
pub use Rattle.bw_model.specs.Bytes.{is_below, is_in_range, is_under, key_cmp}
pub use Rattle.deltas.proofs.Replaced.{replaced_other}
pub use Rattle.deltas.specs.Memory.{Memory, replaced_at}
pub use Rattle.deltas.specs.Records.{next_row}
pub use Rattle.deltas.specs.Spellable.{HasPid, IsPid, IsSpellable, IsSpellablePage}
pub use Rattle.deltas.specs.declared.record.Hold.{Hold}
pub use Rattle.deltas.specs.declared.record.Merge.{Merge}
pub use Rattle.deltas.specs.declared.record.Record.{Record}
pub use Rattle.deltas.specs.declared.record.Remove.{Remove}
pub use Rattle.deltas.specs.declared.record.Term.{Term}
pub use Rattle.deltas.specs.declared.record.Unterm.{Unterm}
pub use Rattle.traces.proofs.FittedLaws.{items_unique, fits_over, made_children, made_right, ruled, ascends_after, by_order, lacks_first, page_of}
pub use Rattle.traces.specs.chain.Chains.{is_removed, low_in, content_in, high_in, level_in, right_in, IsChainFrom, IsChainOf, chain_rows, covers}
pub use Rattle.traces.specs.chain.Fitted.{FitsOver, IsFitted, Makes, IsPageChain}
pub use Rattle.traces.specs.chain.SideChain.{LivePage, IsSideChainFrom, IsWholeFrom}
pub use Rattle.structure_changes.specs.Holds.{HasFreeNeighbours, IsFreeBeside, IsHoldPlan}
pub use Rattle.structure_changes.specs.Linking.{HasLeaves, IsSpareRow, KeepsMap, with_link}
pub use Rattle.structure_changes.specs.Merges.{IsMergePlan, merge_of}
pub use Rattle.structure_changes.specs.Neighbours.{IsNextTo}
pub use Rattle.structure_changes.specs.Removals.{IsRemovePlan}
pub use Rattle.structure_changes.specs.Roots.{IsRootPlan}
pub use Rattle.structure_changes.specs.Sizes.{HasNoneHeld}
pub use Rattle.structure_changes.specs.Splits.{IsSplitPlan, split_to}
pub use Rattle.structure_changes.specs.Terms.{IsTermPlan}
pub use Rattle.structure_changes.specs.Unterms.{IsUntermPlan}
pub use Rattle.structure_changes.specs.Versions.{Version}
pub use Rattle.structure_changes.specs.declared.split.SplitPlan.{SplitPlan}
