use Rattle.rounds.proofs.Words.{◌≡◌, Some, true, inr, refl, rules, content_in, right_in}
use Rattle.std.proofs.Common.{◌≢◌}
use Rattle.base_page.specs.declared.item.Content.TheVariants.{Child}
use Rattle.rounds.proofs.write_round.WriteRound.end_left.Goals as goal

pub returns-clause-treats : goal.returns-clause-treats
returns-clause-treats g c =
    let old = c.args.self.now in
    let apart : right_in old.page.chain ≢ Some c.args.pid = λ e. search rules in
    let has : (old.round.parent ≡ Some old.parent) × (content_in old.parent.chain old.round.key ≡ Some (Child c.args.pid true)) = c.has_term.ensures.yes c.if-not-has_term.false in
    inr (inr (inr (record {
      pid = c.args.pid;
      left = c.requires.left;
      apart = apart;
      parent = old.parent;
      above = has.0;
      term = has.1;
      goes = rw (← c.self.view_is, c.go_to-2.ensures, c.go_to_unterm.ensures.kept, c.go_to_unterm.ensures.way) refl;
    })))

pub go_to-requires : goal.go_to-requires
go_to-requires g c = record { some = c.requires.some; below = rw (← c.self.view_is, ← c.go_to_merge.ensures.way) at c.requires.below }

pub go_to-requires-2 : goal.go_to-requires-2
go_to-requires-2 g c = record { some = c.requires.some; below = rw (← c.self.view_is, ← c.go_to_unterm.ensures.way) at c.requires.below }
