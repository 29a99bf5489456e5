use Rattle.std.proofs.Common.{◌∙◌, arith, inl, inr, subst, sym, ⊎_elim}
use Rattle.bw_tree_c.specs.Handles.{opened_in}
use Rattle.bw_tree_c.specs.Slots.{WaitsFrom}
use Rattle.bw_tree_c.proofs.Stopping.{begun_else, begun_to_end, begun_waits, pairs_not, whole_not}
use Rattle.bw_tree_c.proofs.handle.shared.Shared.close_pairs.Goals as goal

pub hand_over-requires-clause-closing : goal.hand_over-requires-clause-closing
hand_over-requires-clause-closing c = (
  c.args.since,
  c.requires,
  c.in-Ok.begun.inside,
  begun_to_end c.args.self.now c.args.since c.requires c.in-Ok.begun.inside c.in-Ok.begun.hand (c.in-Ok.ensures.begun c.requires) (λ e. pairs_not (sym c.in-Pairs.is ∙ e)),
)

pub hand_over-requires-clause-left : goal.hand_over-requires-clause-left
hand_over-requires-clause-left c = subst (WaitsFrom (opened_in c.args.self.now) c.in-Ok.begun.hand.me.0.log) c.in-Pairs.is
    (begun_waits c.args.self.now c.args.since c.requires c.in-Ok.begun.inside c.in-Ok.begun.hand (c.in-Ok.ensures.begun c.requires) (λ e. pairs_not (sym c.in-Pairs.is ∙ e)))

pub list-requires-clause-closing : goal.list-requires-clause-closing
list-requires-clause-closing c = (
  c.args.since,
  c.requires,
  c.in-Ok.begun.inside,
  begun_to_end c.args.self.now c.args.since c.requires c.in-Ok.begun.inside c.in-Ok.begun.hand (c.in-Ok.ensures.begun c.requires) (λ e. whole_not (sym c.in-Whole.is ∙ e)),
)

pub list-requires-clause-all : goal.list-requires-clause-all
list-requires-clause-all c = subst (WaitsFrom (opened_in c.args.self.now) c.in-Ok.begun.hand.me.0.log) c.in-Whole.is
    (begun_waits c.args.self.now c.args.since c.requires c.in-Ok.begun.inside c.in-Ok.begun.hand (c.in-Ok.ensures.begun c.requires) (λ e. whole_not (sym c.in-Whole.is ∙ e)))

pub end-requires : goal.end-requires
end-requires c = (
  c.args.since,
  c.requires,
  begun_else c.args.self.now c.args.since c.requires c.in-Ok.begun.inside c.in-Ok.begun.hand
      (c.in-Ok.ensures.begun c.requires) c.in_default.not-Pairs c.in_default.not-Whole,
)

pub returns-in-Err-clause-told : goal.returns-in-Err-clause-told
returns-in-Err-clause-told c = inr (⊎_elim (λ t. inr (inl t.0)) (λ t. inl t.0) c.in-Err.ensures.refused)

pub returns-in-Err-clause-ok : goal.returns-in-Err-clause-ok
returns-in-Err-clause-ok c = λ is. absurd (⊎_elim (λ t. let busy = t.0 in omega (arith, is, busy)) (λ t. let closed = t.0 in omega (arith, is, closed)) c.in-Err.ensures.refused)

pub returns-in-Err-clause-more : goal.returns-in-Err-clause-more
returns-in-Err-clause-more c = λ is. absurd (⊎_elim (λ t. let busy = t.0 in omega (arith, is, busy)) (λ t. let closed = t.0 in omega (arith, is, closed)) c.in-Err.ensures.refused)

pub returns-in-Err-clause-memory : goal.returns-in-Err-clause-memory
returns-in-Err-clause-memory c = λ is. absurd (⊎_elim (λ t. let busy = t.0 in omega (arith, is, busy)) (λ t. let closed = t.0 in omega (arith, is, closed)) c.in-Err.ensures.refused)

pub returns-in-Err-clause-unfinished : goal.returns-in-Err-clause-unfinished
returns-in-Err-clause-unfinished c = λ is. absurd (⊎_elim (λ t. let busy = t.0 in omega (arith, is, busy)) (λ t. let closed = t.0 in omega (arith, is, closed)) c.in-Err.ensures.refused)

pub returns-in-Err-clause-busy : goal.returns-in-Err-clause-busy
returns-in-Err-clause-busy c = λ is. ⊎_elim (λ t. t.1) (λ t. let closed = t.0 in absurd (omega (arith, is, closed))) c.in-Err.ensures.refused

pub returns-in-Err-clause-closed : goal.returns-in-Err-clause-closed
returns-in-Err-clause-closed c = λ is. ⊎_elim (λ t. let busy = t.0 in absurd (omega (arith, is, busy))) (λ t. t.1) c.in-Err.ensures.refused

pub returns-in-Pairs-clause-ok : goal.returns-in-Pairs-clause-ok
returns-in-Pairs-clause-ok c = λ is. c.hand_over.ensures.ok is c.args.since c.requires c.in-Ok.begun.inside
    (begun_to_end c.args.self.now c.args.since c.requires c.in-Ok.begun.inside c.in-Ok.begun.hand (c.in-Ok.ensures.begun c.requires) (λ e. pairs_not (sym c.in-Pairs.is ∙ e)))

pub returns-in-Pairs-clause-more : goal.returns-in-Pairs-clause-more
returns-in-Pairs-clause-more c = λ is. c.hand_over.ensures.more is c.args.since c.requires c.in-Ok.begun.inside
    (begun_to_end c.args.self.now c.args.since c.requires c.in-Ok.begun.inside c.in-Ok.begun.hand (c.in-Ok.ensures.begun c.requires) (λ e. pairs_not (sym c.in-Pairs.is ∙ e)))

pub returns-in-Whole-clause-ok : goal.returns-in-Whole-clause-ok
returns-in-Whole-clause-ok c = λ is. c.list.ensures.ok is c.args.since c.requires c.in-Ok.begun.inside
    (begun_to_end c.args.self.now c.args.since c.requires c.in-Ok.begun.inside c.in-Ok.begun.hand (c.in-Ok.ensures.begun c.requires) (λ e. whole_not (sym c.in-Whole.is ∙ e)))

pub returns-in-Whole-clause-more : goal.returns-in-Whole-clause-more
returns-in-Whole-clause-more c = λ is. c.list.ensures.more is c.args.since c.requires c.in-Ok.begun.inside
    (begun_to_end c.args.self.now c.args.since c.requires c.in-Ok.begun.inside c.in-Ok.begun.hand (c.in-Ok.ensures.begun c.requires) (λ e. whole_not (sym c.in-Whole.is ∙ e)))

pub returns-in-Whole-clause-memory : goal.returns-in-Whole-clause-memory
returns-in-Whole-clause-memory c = λ is. c.list.ensures.memory is c.args.since c.requires c.in-Ok.begun.inside
    (begun_to_end c.args.self.now c.args.since c.requires c.in-Ok.begun.inside c.in-Ok.begun.hand (c.in-Ok.ensures.begun c.requires) (λ e. whole_not (sym c.in-Whole.is ∙ e)))

pub returns-clause-ok : goal.returns-clause-ok
returns-clause-ok c = λ is. c.end.ensures.ok is c.args.since c.requires
    (begun_else c.args.self.now c.args.since c.requires c.in-Ok.begun.inside c.in-Ok.begun.hand (c.in-Ok.ensures.begun c.requires) c.in_default.not-Pairs c.in_default.not-Whole)

pub returns-clause-more : goal.returns-clause-more
returns-clause-more c = λ is. c.end.ensures.more is c.args.since c.requires
    (begun_else c.args.self.now c.args.since c.requires c.in-Ok.begun.inside c.in-Ok.begun.hand (c.in-Ok.ensures.begun c.requires) c.in_default.not-Pairs c.in_default.not-Whole)

pub returns-clause-memory : goal.returns-clause-memory
returns-clause-memory c = λ is. c.end.ensures.memory is c.args.since c.requires
    (begun_else c.args.self.now c.args.since c.requires c.in-Ok.begun.inside c.in-Ok.begun.hand (c.in-Ok.ensures.begun c.requires) c.in_default.not-Pairs c.in_default.not-Whole)

pub returns-clause-busy : goal.returns-clause-busy
returns-clause-busy c = λ is. c.end.ensures.busy is c.args.since c.requires
    (begun_else c.args.self.now c.args.since c.requires c.in-Ok.begun.inside c.in-Ok.begun.hand (c.in-Ok.ensures.begun c.requires) c.in_default.not-Pairs c.in_default.not-Whole)

pub returns-clause-unfinished : goal.returns-clause-unfinished
returns-clause-unfinished c = λ is. c.end.ensures.unfinished is c.args.since c.requires
    (begun_else c.args.self.now c.args.since c.requires c.in-Ok.begun.inside c.in-Ok.begun.hand (c.in-Ok.ensures.begun c.requires) c.in_default.not-Pairs c.in_default.not-Whole)
