-- The words that the proofs of this crate share.
pub use Rattle.bw_model.specs.declared.step.Answer.{Answer}
pub use Rattle.bw_model.specs.declared.step.Answer.TheVariants.{Content, Number}
pub use Rattle.deltas.specs.declared.record.Record.{Record}
pub use Rattle.round_model.proofs.WayLaws.{down_within}
pub use Rattle.round_model.specs.Machines.{IsTold, IsToldThere}
pub use Rattle.round_model.specs.ReadLegs.{Round, above_of}
pub use Rattle.round_model.specs.ReadRounds.{read_way}
pub use Rattle.round_model.specs.Rounds.{machine}
pub use Rattle.round_model.specs.WriteResponses.{writing}
pub use Rattle.rounds.specs.Descents.{PlacedDescent, sight_of}
pub use Rattle.rounds.specs.ReadRounds.{PlacedRead}
pub use Rattle.rounds.specs.WriteRounds.{PlacedWrite}
pub use Rattle.rounds.specs.declared.descents.SightKind.TheVariants.{More}
pub use Rattle.row_chain.specs.Placed.{PlacedChain}
pub use Rattle.std.proofs.Common.{List, None, Option, Some, ap, arith, false, inl, inr, refl, rules, sym, true, ℕ, ◌<◌, ◌∙◌, ◌≡◌}
pub use Rattle.std.specs.Option.{option_map}
pub use Rattle.std.specs.Prelude.{IsTrue, MatchOption}
pub use Rattle.structure_changes.specs.Reads.{IsReadPage}
pub use Rattle.structure_changes.specs.Versions.{Version}
pub use Rattle.traces.specs.chain.Chains.{content_in, level_in, low_in, right_in}
pub use Rattle.traces.specs.chain.Fitted.{IsFitted}
pub use Rattle.tree_limits.specs.declared.limits.Limits.{Limits}
