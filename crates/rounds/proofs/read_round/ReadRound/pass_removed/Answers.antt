use Rattle.rounds.proofs.Words.{◌≡◌, Some, inl, inr, refl, ap, right_in, PlacedChain}
use Rattle.rounds.proofs.Turning.{denied, records_of}
use Rattle.rounds.proofs.read_round.ReadRound.pass_removed.Goals as goal

pub returns-in-Some-clause-treats : goal.returns-in-Some-clause-treats
returns-in-Some-clause-treats g c =
    let beside : right_in c.args.self.now.page.chain ≡ Some c.args.self.now.aside.pid = c.is_beside.ensures.beside.0 c.if-is_beside.true in
    let leads = rw (ap (λ (chain : PlacedChain). chain.records) c.chain.ensures) at c.in-Some.ensures.leads in
    rw (c.go_beyond.ensures.none, c.go_beyond.ensures.goes) (inr (inr (inl (record {
      removed = c.args.self.now.aside;
      left = record { plain = c.requires.can.plain; goal = refl; alive = c.requires.can.alive; ends = c.requires.ends };
      beside = beside;
      next = c.in-Some.right;
      leads = rw (← c.self.view_is) leads;
      goes = rw (← c.self.view_is) refl;
    }))))

pub returns-in-None-right_on_way-clause-treats : goal.returns-in-None-right_on_way-clause-treats
returns-in-None-right_on_way-clause-treats g c =
    let merged = denied c.is_beside.result _ c.is_beside.ensures.beside.1 c.if-is_beside.false in
    let stays = rw (records_of c.chain-2.ensures c.page.ensures) at c.in-None-right_on_way.ensures.leads in
    inr (record {
      is = refl;
      removed = c.args.self.now.aside;
      left = record
          { plain = c.requires.can.plain; goal = refl; alive = c.requires.can.alive; ends = c.requires.ends };
      merged = merged;
      stays = rw (← c.self.view_is)
          stays;
    })

pub returns-in-Some-right_on_way-clause-treats : goal.returns-in-Some-right_on_way-clause-treats
returns-in-Some-right_on_way-clause-treats g c =
    let merged = denied c.is_beside.result _ c.is_beside.ensures.beside.1 c.if-is_beside.false in
    let right = c.in-Some-right_on_way.right in
    let leads = rw (records_of c.chain-2.ensures c.page.ensures) at c.in-Some-right_on_way.ensures.leads in
    rw (c.go_beyond-in-Some-right_on_way.ensures.none, c.go_beyond-in-Some-right_on_way.ensures.goes) (inr (inr (inr (inl (record {
      removed = c.args.self.now.aside;
      left = record { plain = c.requires.can.plain; goal = refl; alive = c.requires.can.alive; ends = c.requires.ends };
      merged = merged;
      next = right;
      leads = rw (← c.self.view_is) leads;
      goes = rw (← c.self.view_is) refl;
    })))))
