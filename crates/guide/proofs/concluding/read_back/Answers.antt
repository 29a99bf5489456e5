use Rattle.std.proofs.Common.{◌≡◌, ◌∙◌, List, ℕ, ap, subst, sym}
use Rattle.bw_model.specs.declared.command.Command.TheVariants.{Get, Upsert}
use Rattle.bw_model.specs.declared.command.Reply.TheVariants as reply
use Rattle.running_tree.specs.Calls.{IsDone}
use Rattle.seats.specs.Replies.{many}
use Rattle.guide.proofs.concluding.read_back.Goals as goal
use Rattle.guide.proofs.concluding.read_back.Goals.{In-Ok-reply}

-- the lookup tells what was set
told_value : (c : In-Ok-reply) → c.in-Ok-reply.told ≡ reply.Value c.args.value.now
told_value c =
    let history = c.reply-2.ensures.history c.in-Ok-reply.ensures.idle in
    let new = c.reply-2.new.seat in
    let one : new.limits.actors ≡ 1 = ap (λ limits. limits.actors) c.reply-2.ensures.own.limits ∙ c.requires.alone in
    let own = c.one_seat.ensures new.limits _ new.seen new.actor c.args.key.now one history.linearized in
    let set = subst (λ (z : List ℕ × List ℕ). IsDone c.args.seat.now (Upsert z.0 z.1) many c.in-Ok.set c.reply.new.seat) (λ i. (c.copied.ensures i, c.copied-2.ensures i)) c.in-Ok.ensures.done in
    let got = subst (λ (key : List ℕ). IsDone c.reply.new.seat (Get key) many c.in-Ok-reply.told new) c.copied-3.ensures c.in-Ok-reply.ensures.done in
    c.own_reads.ensures.seat c.args.seat.now c.reply.new.seat new c.args.key.now c.args.value.now _ many many c.in-Ok.set c.in-Ok-reply.told history own set got c.in_default-set.not-Full

pub unreachable-requires : goal.unreachable-requires
unreachable-requires c = c.in_default-told.not-Value c.args.value.now (told_value (goal.at.unreachable-requires c).In-Ok-reply)

pub returns-clause-read : goal.returns-clause-read
returns-clause-read c = same_value (sym c.in-Value.is ∙ told_value (goal.at.returns-clause-read c).In-Ok-reply)
  where
    same_value : {a b : List ℕ} → reply.Value a ≡ reply.Value b → a ≡ b
    same_value e = cc
