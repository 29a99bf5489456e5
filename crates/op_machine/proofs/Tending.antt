-- What is due at a small page may be linked.
use Rattle.op_machine.proofs.Words.{◌≡◌, ℕ, suc, List, [], ◌∷◌, Option, Some, None, true, false, inl, inr, refl, ap, sym, ◌∙◌, IfSome, Command, Limits, is_writer, Remove, is_removed}
use Rattle.op_machine.proofs.Words.{level_in, Knowledge, Recalled, IsAlive, Spares, Plan, HasSeen, Version, IsAtLeafBelow, IsRoundOf, MayBegin, Seeks, Task}
use Rattle.deltas.specs.declared.record.Hold.{Hold}
use Rattle.deltas.specs.declared.record.Record.TheVariants as kind
use Rattle.traces.specs.chain.Fitted.{IsPageChain}
use Rattle.round_model.specs.WriteRounds.{IsTendEnd, IsUpper, WriteRound}
use Rattle.change_machine.specs.Changes.{IsSpellablePlan, IsTarget, MayInstall}
use Rattle.structure_changes.specs.Holds.{IsHoldPlan}
use Rattle.structure_changes.specs.Plans.{head_of, slot_of}
use Rattle.structure_changes.specs.Removals.{IsRemovePlan}
use Rattle.structure_changes.specs.Upkeep.{IsUpkeep}
use Rattle.op_machine.specs.machine.Errands.{tends_of}
use Rattle.op_machine.specs.machine.RoundSteps.{IsOverLeaf}
use Rattle.op_machine.specs.machine.Upkeep.{IsUpkeepFor, tidies}
use Rattle.op_parts.specs.declared.then.Then.TheVariants.{After}
use Rattle.structure_changes.specs.declared.after.After.TheVariants.{Round}
use Rattle.op_machine.proofs.Plans.{over_page}

-- a round that tends small pages is one of a deletion or a tidying
tends_only : (errands : List (List ℕ)) (command : Command) → tends_of errands command ≡ true → tidies command ≡ true
tends_only [] command e = e
tends_only (key ∷ errands) command e = cc

module _ (task : Task) (spares : Spares) (k : Knowledge) (r : Recalled)
    (holds : (actor : ℕ) (k : Knowledge) (parent page : Version) (hold : Hold) → HasSeen k parent → is_removed parent.chain ≡ false → IsPageChain parent.chain →
    IsHoldPlan parent page hold → MayInstall actor k parent.pid parent.head (kind.Hold hold))
    (removes : (actor : ℕ) (k : Knowledge) (parent page : Version) (remove : Remove) → HasSeen k parent → is_removed parent.chain ≡ false → IsPageChain
    parent.chain → level_in parent.chain ≡ suc (level_in page.chain) → HasSeen k page → IsRemovePlan parent page remove → MayInstall actor k page.pid
    page.head (kind.Remove remove)) where
  begins : (parent page : Version) (plan : Plan) → Seeks task spares k → is_writer task.command ≡ true → tidies task.command ≡ true
      → IsAlive task.limits k r page → IsUpper task.limits k r page parent → IsUpkeep parent page plan → MayBegin task spares k r plan (After Round)
  begins parent page plan seeks writer tidy alive u h = elim h.due [
    | inl gone ↦ rw gone.is (record {
      seeks = seeks;
      writer = writer;
      may = record { inside = seeks.inside; links = removes task.actor k parent page gone.remove u.page.in_hand.seen u.page.alive u.page.in_hand.sound.is_chain u.up alive.in_hand.seen gone.due };
      keeps = tt;
      brings = (tt, tt, refl, tidy);
      useful = tt;
      split = tt;
      recalled = alive.recalled;
    })
    | inr held ↦ rw held.is (record {
      seeks = seeks;
      writer = writer;
      may = record { inside = seeks.inside; links = holds task.actor k parent page held.hold u.page.in_hand.seen u.page.alive u.page.in_hand.sound.is_chain held.due };
      keeps = tt;
      brings = (tt, tt, refl, tidy);
      useful = tt;
      split = tt;
      recalled = u.page.recalled;
    })
  ]

  -- at a small leaf, and at a small page on the way
  pub may_tend : (parent : Option Version) (leaf : Version) (plan : Plan) → IsUpkeepFor task.command parent leaf plan
      → IsAtLeafBelow task spares k r parent leaf → MayBegin task spares k r plan (After Round)
  may_tend None leaf plan h below = absurd h
  may_tend (Some parent) leaf plan h below = begins parent leaf plan below.at.seeks below.at.writer h.0 below.at.page below.above h.1

  pub may_tend_on_way : (round : WriteRound) (parent page : Version) (plan : Plan) → Seeks task spares k → is_writer task.command ≡ true → IsRoundOf task round
      → IsTendEnd round k r parent page plan → MayBegin task spares k r plan (After Round)
  may_tend_on_way round parent page plan seeks writer is ends =
      let tidy : tidies task.command ≡ true = tends_only task.errands task.command (sym (is.tends ends.seeks) ∙ ends.tends) in
      begins parent page plan seeks writer tidy (rw is.limits at ends.page) (rw is.limits at ends.above) ends.due

-- it names no number that has no place, and a row can spell it
pub plans_there : (limits : Limits) (k : Knowledge) (r : Recalled) (parent page : Version) (plan : Plan) → IsAlive limits k r page → IsAlive limits k r parent
    → IsUpkeep parent page plan → IsTarget limits plan × IsSpellablePlan plan
plans_there limits k r parent page plan alive above h = elim h.due [
  | inl gone ↦ rw gone.is (over_page limits k r page (kind.Remove gone.remove) alive (ap (λ (x : Remove). Some x.next) gone.due.is), gone.due.fits.0.spellable)
  | inr held ↦ rw held.is (over_page limits k r parent (kind.Hold held.hold) above (ap (λ (x : Hold). Some x.next) held.due.is), held.due.fits.0.spellable)
]

pub plans_for : (limits : Limits) (k : Knowledge) (r : Recalled) (command : Command) (parent : Option Version) (leaf : Version) (plan : Plan)
    → IsUpkeepFor command parent leaf plan → IsAlive limits k r leaf → IfSome parent (IsUpper limits k r leaf) → IsTarget limits plan × IsSpellablePlan plan
plans_for limits k r command None leaf plan h alive above = absurd h
plans_for limits k r command (Some parent) leaf plan h alive above = plans_there limits k r parent leaf plan alive above.page h.1

-- what is due at a small leaf is over it, or over the page above it
pub upkeep_over : (command : Command) (parent : Option Version) (leaf : Version) (plan : Plan) → IsUpkeepFor command parent leaf plan → IsOverLeaf parent leaf plan
upkeep_over command None leaf plan h = absurd h
upkeep_over command (Some parent) leaf plan h = elim h.1.due [
  | inl removes ↦ inl (ap slot_of removes.is, ap head_of removes.is)
  | inr holds ↦ inr (parent, refl, (ap slot_of holds.is, ap head_of holds.is))
]
