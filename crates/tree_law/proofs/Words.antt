-- The words that the proofs of this crate share.
pub use Rattle.std.proofs.Common.{false, ◌⊎◌, [], ap, refl, cond, ltb, Option, suc, None, List, true, inl, ◌≢◌, length, ◌++◌, ◌≤◌, inr, ◌∷◌, subst, sym, ℕ, ◌≡◌, Bool, zero, ◌∙◌, ◌<◌, arith}
pub use Rattle.std.proofs.Common.{Some, take, ◌+◌, ◌^◌, eqb, append_assoc, map, ⊎_elim, ◌==◌, drop, ◌*◌, lit<, ◌-◌}
pub use Rattle.std.proofs.Math.Bool.{and-false}
pub use Rattle.std.proofs.lemmas.Bool.{ltb-true, cases_lt, eqb-true, cases_Bool as decided}
pub use Rattle.std.proofs.lemmas.Bool.Decides.{nat_tests, eqb_tells}
pub use Rattle.std.proofs.lemmas.List.{append-nil}
pub use Rattle.std.proofs.lemmas.List.Elements.{All-weaker, All-from_recursion}
pub use Rattle.std.proofs.lemmas.List.Sums.{fold-append}
pub use Rattle.std.proofs.lemmas.Option.{same_Some}
pub use Rattle.std.specs.Int.{bit_at}
pub use Rattle.std.specs.List.{Contains, fold, All, count_by, AllByRecursion}
pub use Rattle.std.specs.List.Sorted.{IsStrictlyIncreasing}
pub use Rattle.std.specs.Option.{option_map}
pub use Rattle.std.specs.Ordering.{is_eq}
pub use Rattle.std.specs.Prelude.{slice_get, IsSome, IfSome, MatchOption, unwrap_or, IsFalse, if◌then◌else◌, IsTrue, ◌||◌, ◌&&◌, not, ⊤, slice_index_or, codes, ◌↔◌, slice_range, is_some}
pub use Rattle.std.specs.Str.{bytes_eq}
pub use Rattle.bw_model.specs.Bytes.{key_cmp, is_under, is_in_range, is_below}
pub use Rattle.bw_model.specs.Log.{Update, logged_value, set, unset}
pub use Rattle.bw_model.specs.Pairs.{ArePairsOf}
pub use Rattle.bw_model.specs.Replies.{update_of, command_key, reply_of}
pub use Rattle.tree_limits.specs.Words.{is_among}
pub use Rattle.bw_model.specs.declared.command.Command.{Command}
pub use Rattle.bw_model.specs.declared.command.Command.TheVariants.{Swap, Upsert, Insert}
pub use Rattle.bw_model.specs.declared.command.Reply.{Reply}
pub use Rattle.tree_limits.specs.declared.limits.Limits.{Limits}
pub use Rattle.bw_model.specs.declared.step.Answer.{Answer}
pub use Rattle.bw_model.specs.declared.step.Answer.TheVariants.{Whether, Content, Number, Done, Start}
pub use Rattle.bw_model.specs.declared.step.Link.{Link}
pub use Rattle.bw_model.specs.declared.step.Step.{Step as StepOf}
pub use Rattle.bw_model.specs.declared.step.Step.TheVariants.{ReuseRows, ReusePids, Leave, TakePid, Row, Place, TakeRow, Slot, Enter, Epoch, PidBits, Exchange, RowBits, Announce, Retire}
pub use Rattle.base_page.proofs.PageLaws.{IsPage-from, belongs}
pub use Rattle.base_page.specs.Pages.{empty_leaf, Page, content_at, IsPage, IsAscending}
pub use Rattle.base_page.specs.Rules.{IsRuled, held_count}
pub use Rattle.base_page.specs.declared.item.Content.{Content as ContentOf}
pub use Rattle.base_page.specs.declared.item.Content.TheVariants.{Child, Value}
pub use Rattle.base_page.specs.declared.item.Item.{Item}
pub use Rattle.deltas.specs.Applies.{Applies}
pub use Rattle.deltas.specs.Links.{record_link}
pub use Rattle.deltas.specs.Memory.{opening, Memory, replaced_at}
pub use Rattle.deltas.specs.Records.{next_row, names}
pub use Rattle.deltas.specs.Spellable.{IsSpellablePage, HasPid, IsSpellable}
pub use Rattle.deltas.specs.declared.record.Record.{Record}
pub use Rattle.deltas.specs.declared.record.Record.TheVariants.{Remove, Base, Hold, Split, Put, Delete, Merge, Term, Unterm}
pub use Rattle.deltas.specs.declared.record.Remove.{Remove as RemoveOf}
pub use Rattle.deltas.specs.declared.record.Split.{Split as SplitOf}
pub use Rattle.deltas.specs.declared.record.Unterm.{Unterm as UntermOf}
pub use Rattle.traces.proofs.ChainLaws.{IsChainFrom-unique, IsChainOf-unique}
pub use Rattle.traces.proofs.Pushes.{slice_get_below, slice_get_kept, slice_get-push_cases, slice_get-push, take-push, take-push_whole}
pub use Rattle.traces.proofs.RunLaws.{IsRun-push}
pub use Rattle.traces.proofs.TraceLaws.{TakesStep-push_cases, memory_of-push, command_of-push, memory_at-push, Happens-kept, Happens-push_cases, Happens-below}
pub use Rattle.traces.specs.chain.Chains.{IsChainOf, IsOnChain, chain_rows, IsChainFrom, content_in, right_in, low_in, is_removed, level_in, high_in, covers, IsFront, IsItemsOf}
pub use Rattle.traces.specs.discipline.Discipline.{MayReply, May, root_over, IsOwn, MayExchange, IsOwnBase, IsAllowed, FitsOn, chain_value, value_of, IsUnset, IsPassed, MayFree, MayLink}
pub use Rattle.traces.specs.discipline.Discipline.{MayRoot, MayAdd, base_from, HasRead, update_record, MayPost, IsMet, MayUpdate, LacksRoom, MayAnswer, WasStanding, NamesChild, MayUnterm}
pub use Rattle.traces.specs.discipline.Discipline.{MayHold, MayMerge, MaySplit, MayConsolidate, MayRemove}
pub use Rattle.traces.specs.discipline.Disciplined.{IsDisciplined, IsDisciplinedFrom, own_entries, is_entry_of}
pub use Rattle.traces.specs.chain.Fitted.{IsFitted, FitsOver, Makes}
pub use Rattle.traces.specs.discipline.Fitting.{Fits}
pub use Rattle.traces.specs.chain.HeldBack.{HoldsBack}
pub use Rattle.traces.specs.discipline.Knowledge.{after_begin, knows, Knowledge, knows_after, after_reply, Ready, learn, learnt_next, nothing, Foreign, Empty, OwnPage, Taken, Other, Gone}
pub use Rattle.traces.specs.discipline.Knowledge.{Written, after_filling, after_root, OwnRow, after_emptying, after_exchange, split_off, linked_over, forgotten, Unstamped, handed_page}
pub use Rattle.traces.specs.discipline.Knowledge.{is_on_walk, LimboMark, handed_over, Absent, Stamped, passed_by, with_stamp, Readings, set_page, taken_out, next_seen, rebuilt, Limbos}
pub use Rattle.traces.specs.discipline.Knowledge.{after_update, learn_head, after_clear}
pub use Rattle.traces.specs.discipline.Learnt.{ShowsRow}
pub use Rattle.traces.specs.discipline.Recalled.{recall, Recalled, blank, recalls_after, recalls, is_removal, cause_worth}
pub use Rattle.traces.specs.chain.SideChain.{LivePage, IsSideChainFrom}
pub use Rattle.traces.specs.trace.Steps.{IsAnswer, memory_after, IsWordOf}
pub use Rattle.traces.specs.trace.Trace.{memory_at, command_of, memory_of, IsStep, commands_after, turn_of, Happens}
pub use Rattle.traces.specs.chain.Unheld.{IsUnheld}
pub use Rattle.traces.specs.discipline.Useful.{IsUseful}
pub use Rattle.traces.specs.declared.trace.Entry.{Entry}
pub use Rattle.traces.specs.declared.trace.Entry.TheVariants.{Begin, Step}
pub use Rattle.linearization.proofs.Listed.{and_right, same_operation, and_left, all_below-at}
pub use Rattle.linearization.proofs.LogLaws.{log_of-push, log_at-push}
pub use Rattle.linearization.specs.Answered.{WasHeldBack, RepliesAt}
pub use Rattle.linearization.specs.Direct.{is_step_of, Links, IsExchangeOf, IsCause, TakesNone, IsDirect, IsTheStep, IsTake}
pub use Rattle.linearization.specs.Examples.{opening_leaf, small, put_a}
pub use Rattle.linearization.specs.Index.{IsLeftmost, IsRootLevel, Indexes, HasPhaseOfTerm}
pub use Rattle.linearization.specs.Linearized.{IsLinearized}
pub use Rattle.linearization.specs.Links.{link_without, link_of, Wins, Installs}
pub use Rattle.linearization.specs.Operations.{IsOperation, Operation, Finishes, IsOwnStep, TakesOwnStep}
pub use Rattle.linearization.specs.Phases.{indexed, free, IsInPhase, MovesPhase, removes, Phase, cleared, held, removed, merged, splits, merges, becomes_root, reuses, under_root, terms, holds}
pub use Rattle.linearization.specs.Phases.{unterms, owned}
pub use Rattle.linearization.specs.Points.{log_at, log_of, IsPoint}
pub use Rattle.linearization.specs.Quiet.{HasMapOf, IsQuiet}
pub use Rattle.linearization.specs.Reuse.{UnlinksPid, UnlinksRow, HandsPid, HandsRow}
pub use Rattle.linearization.specs.Readers.{IsOfUse, IsReading}
pub use Rattle.linearization.specs.Updates.{UpdatesAtLinks, IsUpdateLink, LinksUpdate}
pub use Rattle.tree_law.specs.AllLinks.{split_a, term_b, item_a, base_b, unterm_a, split_b, upper_a, deletion_a, merge_a, all_links, insert_a}
pub use Rattle.tree_law.specs.CursorPages.{right_term}
pub use Rattle.tree_law.specs.Direct.{Accounts, IsLast, Affords, IsDirectState, Recollects, Walks, StaysDirect}
pub use Rattle.tree_law.specs.Example.{takes_rows, root_a, a, hold_a, remove_a, enters}
pub use Rattle.tree_law.specs.Fitness.{AreFitted, AreUnheld, IsAdded}
pub use Rattle.tree_law.specs.HelpedSplit.{other_put, helped_term, helped_split}
pub use Rattle.tree_law.specs.Indexed.{IsFirst, HasMark, IsIndexed}
pub use Rattle.tree_law.specs.Keys.{Key, IsBelow, IsUpTo, Covers, IsUnder, put_key}
pub use Rattle.tree_law.specs.Limbos.{IsInLimbo}
pub use Rattle.tree_law.specs.Next.{IsReuse, IsMoved, After, Next, IsHomed, IsDue}
pub use Rattle.tree_law.specs.Owners.{Free, Linked, Owners, Reached, Spare, IsOut, IsLinked, Owner, OwnFits, LinkFits, HeadFits, OrderFits, InOrder, PageFits, IsChain, IsClosed, IsCleared}
pub use Rattle.tree_law.specs.Owners.{SpellsLog, Knows, leaf_map, SeenFits, ChainNames, OwnsPages, Forward, Owns}
pub use Rattle.tree_law.specs.Phase.{Nobody, Placed, Indexed, PageOwner, Cleared, Keeps, Fresh, rank, Removed, Held, Merged, Stage, rank_of, child_of, stage_removed, mark}
pub use Rattle.tree_law.specs.Phases.{Phased, LinkMoves, Exchanged}
pub use Rattle.tree_law.specs.Put.{put}
pub use Rattle.tree_law.specs.Removal.{removal}
pub use Rattle.tree_law.specs.Replies.{IsRepliedAt}
pub use Rattle.tree_law.specs.Shared.{shared_part, slot_in, row_in, Shared}
pub use Rattle.tree_law.specs.State.{IsReadyPage, Tells, operation_from, IsSearch, IsState, phase_of, IsInTree, IsUnended, IsAnsweredBy, IsMarked, HasFound, IsNamed}
pub use Rattle.tree_law.specs.Stood.{HaveStood, WasRead, WereRead, WasLeafWith, IsLeafWith}
pub use Rattle.tree_law.specs.Times.{Times, Timed, times_after, LimboFits, Outing, Holds, NamesSince, IsSince, HeldHead, out_after, is_linked, is_cleared, is_base, split_page}
pub use Rattle.tree_law.specs.TraceLaws.{Opens}
pub use Rattle.tree_law.specs.Tree.{IsTree, spec, HasSidePage, Level, IsOff, Off, SidePage, InPlace, IsPart, Exact, HasLevels}
pub use Rattle.tree_law.specs.TwoSplits.{upper_b, two_splits, second_split, first_split, upper_c, b}
pub use Rattle.base_page.proofs.KeyLaws.{same}
pub use Rattle.bw_model.specs.NextKeys.{key_before}
pub use Rattle.linearization.specs.Halves.{IsHalved}
pub use Rattle.linearization.specs.Progress.{ChangesTree, takes_number}
pub use Rattle.traces.proofs.FittedLaws.{found_first, page_of, ruled}
pub use Rattle.tree_law.specs.Changes.{IsWorth, from_low, is_alive, life, total}

-- what an actor knows is so, and what it holds was in the tree when it entered
abbrev pub KnowsBy : Owners → Shared → Knowledge → Option (List Update) → List (List Update) → Type 0
KnowsBy o m k point logs = Knows o m k.read.seen k.read.learnt k.read.roots k.read.heads k.read.before k.asked.linked point logs

abbrev pub HoldsBy : (ℕ → Option Record) → (ℕ → Option Outing) → (ℕ → Option Outing) → ℕ → Knowledge → Type 0
HoldsBy rows row_out page_out entered k = Holds rows row_out page_out entered k.inside k.read.seen k.read.learnt k.read.roots k.read.heads k.read.before k.asked.linked
