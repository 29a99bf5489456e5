use Rattle.std.proofs.Common.{◌∙◌, ℕ, Vec, ap, replicate, subst, sym}
use Rattle.atomic_table.specs.Table.{opening}
use Rattle.call_log.specs.Rule.{Holds, all_of}
use Rattle.call_log.proofs.Roster.{opens}
use Rattle.call_log.proofs.steps.opened.Goals as goal

pub new-requires : goal.new-requires
new-requires g c = subst (λ o. Holds g.P.Course.ends o (opening c.as_slice.result.now c.args.slots.items (all_of o))) (sym (ap (λ (v : Vec _ _). v.items) c.of-about.ensures))
    (opens g.P.Course.ends c.args.slots.items c.as_slice.result.now (c.as_slice.ensures.value ∙ c.in_ok-words.ensures ∙ ap (λ (n : ℕ). replicate {A = ℕ} n 0) (c.len.ensures ∙ c.args.slots.ok.0)))
