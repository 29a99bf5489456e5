use Rattle.rounds.proofs.Words.{rules, inl, inr, refl}
use Rattle.rounds.specs.ReadRounds.{IsOnLevelOf}
use Rattle.rounds.proofs.LegTurns.{is_off}
use Rattle.rounds.proofs.read_round.ReadRound.come_nearer.Goals as goal

pub returns-then-not-is_of_level-clause-treats : goal.returns-then-not-is_of_level-clause-treats
returns-then-not-is_of_level-clause-treats g c =
    let old = c.args.self.now in
    let not : ¬ IsOnLevelOf old.page old.met = search rules in
    inr (record { removed = old.met; leg = c.requires.round; off = is_off old.page old.met not })

pub returns-in-Some-clause-treats : goal.returns-in-Some-clause-treats
returns-in-Some-clause-treats g c =
    let old = c.args.self.now in
    let level : IsOnLevelOf old.page old.met = search rules in
    inr (inr (inr (inr
    (inr (inl (record {
      removed = old.met;
      left = record { leg = c.requires.round; alive = level.alive; same = level.same };
      next = c.in-Some.right;
      leads = c.in-Some.ensures.leads;
      goes = rw (← c.self.view_is, c.go_to.ensures) refl;
    }))))))
