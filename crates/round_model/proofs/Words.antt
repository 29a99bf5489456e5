-- The words that the proofs of this crate share.
pub use Rattle.std.proofs.Common.{Some, refl, ◌≡◌, ◌<◌, ◌-◌, ◌⊎◌, inl, inr, ℕ, List, [], ◌∷◌, Bool, true, false, Option, None, sym, ap, ◌∙◌, arith, ◌≤◌, ◌+◌, ◌++◌, ◌||◌, zero, suc, length}
pub use Rattle.std.proofs.Common.{subst, ◌≢◌, ◌==◌, cond}
pub use Rattle.std.proofs.lemmas.Bool.{eq-eqb, eqb-true}
pub use Rattle.std.proofs.lemmas.Bool.Decides.{eqb_tells}
pub use Rattle.std.proofs.lemmas.Option.{IfSome_then, same_Some}
pub use Rattle.std.specs.List.{AllByRecursion}
pub use Rattle.std.specs.Ordering.{is_lt}
pub use Rattle.std.specs.Prelude.{is_some, IsTrue, MatchOption, IsFalse, if◌then◌else◌, IfSome, ⊤}
pub use Rattle.base_page.proofs.KeyLaws.{not_true}
pub use Rattle.base_page.specs.declared.item.Content.{Content}
pub use Rattle.base_page.specs.declared.item.Content.TheVariants.{Child}
pub use Rattle.bw_model.specs.Bytes.{is_below}
pub use Rattle.bw_model.specs.declared.step.Answer.{Answer}
pub use Rattle.deltas.specs.Memory.{replaced_at}
pub use Rattle.deltas.specs.Records.{next_row}
pub use Rattle.deltas.specs.declared.record.Record.{Record}
pub use Rattle.structure_changes.proofs.Places.{made}
pub use Rattle.structure_changes.specs.Readings.{IsAfter}
pub use Rattle.structure_changes.specs.Versions.{Version}
pub use Rattle.traces.specs.chain.Chains.{content_in, covers, high_in, level_in, low_in, right_in, is_removed, IsFront, IsChainFrom}
pub use Rattle.traces.specs.chain.Fitted.{IsFitted}
pub use Rattle.traces.specs.discipline.Discipline.{NamesChild, HasRead}
pub use Rattle.traces.specs.discipline.Fitting.{Fits, FitsRow, IsReadWhole, SaysOf}
pub use Rattle.traces.specs.discipline.Knowledge.{Knowledge, learn, learn_slot}
pub use Rattle.traces.specs.discipline.Recalled.{Recalled, recall, AnyNames, IsUnread, Walk, is_lower, is_removal, trail}
pub use Rattle.tree_limits.specs.declared.limits.Limits.{Limits}
pub use Rattle.round_model.specs.Machines.{IsTold}
pub use Rattle.round_model.specs.ReadLegs.{Leg, Down, Round, Past, above_of, below, has_met, level_on}
pub use Rattle.round_model.specs.Rounds.{Sees}
pub use Rattle.round_model.specs.Versions.{NamesPages, IsAlive, IsInHand, IsGone}
pub use Rattle.round_model.specs.Visits.{Slot, Row, Sight, Empty, Whole, to_page}
pub use Rattle.round_model.specs.Walks.{IsSeeking, reads_left_at, reads_left_in, with_walk, AreRemovalsAbove, IsRoundLast, IsUnderRemoval, IsUnderLast, HasArrived, IsAmongPids, IsOnWay}
pub use Rattle.round_model.specs.Walks.{IsPast, IsPastAt, IsReached}
pub use Rattle.round_model.specs.Ways.{LeadsDown, LeadsOn, LeadsRight, NamesAt, StaysLeft, reaches, precedes}
pub use Rattle.round_model.specs.WriteEnds.{DueChange, WriteEnd}
pub use Rattle.round_model.specs.WriteResponses.{IsHere, IsSplitFinished, TreatsWrite, EndsBy, writing}
pub use Rattle.round_model.specs.WriteRounds.{IsLosingTerm, IsMissing, KeepsToWrite, SeeksLeaf, is_cutting, write_way, IsBased, IsLeftOf, IsKept, VisitsToWrite, WriteRound, IsLed}
