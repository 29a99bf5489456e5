-- The words that the proofs of this crate share.
pub use Rattle.std.proofs.Common.{Bool, IsTrue, Less, List, None, Option, Some, [], ap, append_assoc, arith, cond, drop, false, inl, inr, length, map, refl}
pub use Rattle.std.proofs.Common.{reverse, subst, suc, sym, take, true, zero, ℕ, ◌++◌, ◌+◌, ◌-◌, ◌<◌, ◌∙◌, ◌∷◌, ◌≡◌, ◌≤◌}
pub use Rattle.std.proofs.lemmas.Bool.{lt-ltb}
pub use Rattle.std.proofs.lemmas.List.{append-nil, length-append}
pub use Rattle.std.proofs.lemmas.List.Elements.{Contains-append_cases, Contains-append_left, Contains-append_right}
pub use Rattle.std.specs.List.{AllByRecursion, prefix_len}
pub use Rattle.std.specs.Ordering.{is_lt}
pub use Rattle.std.specs.Prelude.{Contains, if◌then◌else◌, nat_lt, not}
pub use Rattle.std.specs.Vec.{vec_capacity}
pub use Rattle.base_page.proofs.KeyLaws.{and_both, and_left, and_right, below-trans, below_from, below_reach, either, itself, not_true}
pub use Rattle.bw_model.proofs.NextKeyLaws.{after_is_above}
pub use Rattle.bw_model.specs.Bytes.{IsShort, is_below, is_under, key_cmp, longest}
pub use Rattle.bw_model.specs.Log.{logged_value}
pub use Rattle.bw_model.specs.NextKeys.{key_after, key_before}
pub use Rattle.bw_model.specs.Pairs.{ArePairsOf, IsPairsOf}
pub use Rattle.bw_model.specs.declared.command.Command.{Command}
pub use Rattle.bw_model.specs.declared.command.Reply.{Reply}
pub use Rattle.linearization.specs.Linearized.{IsLinearized}
pub use Rattle.linearization.specs.Operations.{Finishes, IsOwnStep, Operation}
pub use Rattle.linearization.specs.Points.{IsPoint, log_at}
pub use Rattle.map_laws.proofs.Ending.{own_before}
pub use Rattle.running_tree.proofs.Going.{same_on, starts_on}
pub use Rattle.running_tree.specs.Runs.{IsOneHistory, StartsWith}
pub use Rattle.running_tree.specs.Seats.{IsSame, Seat, unfinished_command}
pub use Rattle.running_tree.specs.declared.called.Called.{Called}
pub use Rattle.traces.specs.chain.Chains.{covers, high_in, low_in}
pub use Rattle.traces.specs.chain.SideChain.{LivePage}
pub use Rattle.traces.specs.declared.trace.Entry.{Entry}
pub use Rattle.traces.specs.declared.trace.Turn.{Turn}
pub use Rattle.traces.specs.trace.Trace.{memory_at}
pub use Rattle.tree_limits.specs.declared.limits.Limits.{Limits}
pub use Rattle.walks.specs.BackCursors.{BackCursor, HasShownBack, HasToldBack, HasWalkedBack, added_back, back_command}
pub use Rattle.walks.specs.BackPages.{AreKeyPairs, BackPage, IsBackOf, IsBackShown, back_operation, begin_above, pairs_from, place_from}
pub use Rattle.walks.specs.Cursors.{Cursor, HasShown, HasTold, HasWalked, IsRunOn, WasIdle, added_by, commands_in, cursor_command}
pub use Rattle.walks.specs.Neighbours.{above_in, above_rest, key_above}
pub use Rattle.walks.specs.Pages.{IsPageOf, IsPageShown, WalkedPage, end_under, page_operation, pairs_under, place_under}
pub use Rattle.walks.specs.Walks.{IsWalk, PairsAscend, TellMap, pairs_shown}
pub use Rattle.walks.specs.declared.cursor.Walk.{Walk}
