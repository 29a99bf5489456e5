-- The words that the proofs of this crate share.
pub use Rattle.std.proofs.Common.{List, MatchOption, None, Option, Some, [], ap, append_assoc, arith, drop, false, get_or, inl, inr, length, option_copied}
pub use Rattle.std.proofs.Common.{refl, subst, suc, sym, take, true, zero, ℕ, ◌++◌, ◌+◌, ◌<◌, ◌∙◌, ◌∷◌, ◌≡◌, ◌≤◌}
pub use Rattle.std.proofs.lemmas.List.{length-append}
pub use Rattle.std.specs.List.{AllByRecursion, Contains}
pub use Rattle.std.specs.Prelude.{IsTrue}
pub use Rattle.tree_limits.specs.declared.limits.Limits.{Limits}
pub use Rattle.bw_model.specs.Bytes.{is_in_range, key_cmp}
pub use Rattle.traces.specs.chain.Chains.{content_in, high_in, low_in}
pub use Rattle.traces.specs.chain.Fitted.{Makes}
pub use Rattle.traces.specs.chain.SideChain.{IsSideChainFrom, IsWholeFrom, LivePage}
pub use Rattle.base_page.proofs.ItemLaws.{all-weaker}
pub use Rattle.base_page.specs.Pages.{Page}
pub use Rattle.base_page.specs.declared.item.Content.TheVariants.{Value}
pub use Rattle.deltas.specs.Memory.{Memory}
pub use Rattle.deltas.specs.declared.record.Record.{Record}
pub use Rattle.tree_law.proofs.shape.KeyOrder.{covers_to, upto_trans}
pub use Rattle.tree_law.specs.Keys.{Covers, IsUnder, IsUpTo, Key}
pub use Rattle.tree_law.specs.Leaves.{HasLeafPages, IsLeafPage}
pub use Rattle.listing.specs.Listed.{StandsAt, pairs_of}
