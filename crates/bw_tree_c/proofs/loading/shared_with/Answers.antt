use Rattle.std.proofs.Common.{subst, ◌∙◌}
use Rattle.bw_model.specs.declared.command.Reply.TheVariants as reply
use Rattle.running_tree.specs.Loaded.{AreLoaded, IsStopped}
use Rattle.running_tree.specs.declared.called.Called.TheVariants as called
use Rattle.running_tree.specs.declared.filling.TheConstants.{LOAD_BUDGET}
use Rattle.bw_tree_c.proofs.Filling.{one_tree}
use Rattle.bw_tree_c.proofs.Unloading.{is_full, is_spent}
use Rattle.bw_tree_c.proofs.loading.shared_with.Goals as goal

pub shared_with_seats-requires-clause-one : goal.shared_with_seats-requires-clause-one
shared_with_seats-requires-clause-one c = one_tree c.in-Ok.opened.0 c.args.limits c.in-Ok.opened.1.items c.in-Ok.ensures.limits c.in-Ok.ensures.loaded.stand.count c.in-Ok.ensures.own

pub returns-in-Some-clause-ok : goal.returns-in-Some-clause-ok
returns-in-Some-clause-ok c = record {
  seats = c.in-Ok.opened.1.items;
  have = c.in-Some.ensures.items;
  loaded = record {
    tree = c.in-Ok.opened.0;
    limits = c.in-Ok.ensures.limits;
    loaded = subst (AreLoaded c.in-Ok.opened.0 c.in-Ok.opened.1.items) (c.as_slice.ensures.value ∙ c.in_ok-pairs.ensures.ok) c.in-Ok.ensures.loaded;
  };
}

pub returns-in-Err-Full-clause-err : goal.returns-in-Err-Full-clause-err
returns-in-Err-Full-clause-err c = is_full c.args.limits c.args.given.now
    (subst (λ pairs. IsStopped c.args.limits pairs LOAD_BUDGET (called.Done reply.Full)) (c.as_slice.ensures.value ∙ c.in_ok-pairs.ensures.ok)
    (c.in-Err-Full.ensures.full (cc (c.in-Err-Full.is, c.in-Err-Full.field-0-is))))

pub returns-in-Err-Spent-clause-err : goal.returns-in-Err-Spent-clause-err
returns-in-Err-Spent-clause-err c = is_spent c.args.limits c.args.given.now
    (subst (λ pairs. IsStopped c.args.limits pairs LOAD_BUDGET called.Spent) (c.as_slice.ensures.value ∙ c.in_ok-pairs.ensures.ok)
    (c.in-Err-Spent.ensures.spent (cc (c.in-Err-Spent.is, c.in-Err-Spent.field-0-is))))
