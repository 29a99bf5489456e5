use Rattle.rounds.proofs.Turning.{denied}
use Rattle.rounds.proofs.write_round.WriteRound.settle_inside.Goals as goal

pub go_down-requires-clause-fine : goal.go_down-requires-clause-fine
go_down-requires-clause-fine g c =
    record {
      short = denied c.is_long-long.result _ c.is_long-long.ensures.1 c.if-long.false;
      narrow = λ splits. let on = rw (← c.self.view_is) at splits in let not = c.if-self.false in cc;
    }

pub go_down-requires-clause-idle : goal.go_down-requires-clause-idle
go_down-requires-clause-idle g c = λ parent tended. let on = rw (← c.self.view_is) at tended.tends in let not = c.if-self-2.false in cc
