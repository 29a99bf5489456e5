use Rattle.std.proofs.Common.{◌≡◌, ◌++◌, ℕ, None, IfErr, IfOk, sym, ap, ◌∙◌, subst}
use Rattle.running_tree.proofs.Words.{Limits, Extends, command_of, Mine, calls_in, calls_of, HasLoaded, HasStopped, HaveUpserted, IsStoppedAt, IsOneHistory, Seat, LoadStop}
use Rattle.bw_model.specs.declared.command.Reply.TheVariants as reply
use Rattle.running_tree.specs.declared.called.Called.TheVariants as called
use Rattle.running_tree.specs.declared.called.LoadStop.TheVariants as stop
use Rattle.running_tree.specs.declared.filling.TheConstants.{LOAD_BUDGET}
use Rattle.running_tree.proofs.Filled.{are_loaded, is_stopped}
use Rattle.running_tree.proofs.Gathering.{AllExtend}
use Rattle.running_tree.proofs.loading.loaded.Goals as goal

pub returns-in-Err-Full-clause-err : goal.returns-in-Err-Full-clause-err
returns-in-Err-Full-clause-err g c =
    let limits : c.gathered-others.new.seat.limits ≡ c.args.tree.now.limits = c.gathered-others.ensures.same.limits ∙ c.load-load.ensures.same.limits ∙ ap (λ (s : Seat). s.limits) c.requires.first in
    let number : c.load-load.new.seat.actor ≡ 0 = c.load-load.ensures.same.actor ∙ ap (λ (s : Seat). s.actor) c.requires.first in
    let told : HasStopped c.args.first c.args.pairs.now LOAD_BUDGET c.in-Err-Full.field-0 c.load-load.new.seat = subst
    (λ r. IfErr r (λ why. HasStopped c.args.first c.args.pairs.now LOAD_BUDGET why c.load-load.new.seat)) c.in-Err-Full.is c.load-load.ensures.stopped
    in
    let is : c.in-Err-Full.field-0 ≡ stop.Full c.in-Err-Full.field-0-0 = cc c.in-Err-Full.field-0-is in
    is_stopped c.args.tree.now c.gathered-others.new.seat.seen c.args.pairs.now LOAD_BUDGET c.in-Err-Full.field-0-0 (called.Done reply.Full) c.load-load.new.seat
    (subst (λ (l : Limits). IsOneHistory l c.gathered-others.new.seat.seen) limits c.gathered-others.ensures.history)
    (subst (λ (m : Mine). AllExtend c.gathered-others.new.seat.seen m.0) c.requires.others c.gathered-others.ensures.each)
    (subst (λ (a : ℕ). Extends a c.load-load.new.seat.seen c.gathered-others.new.seat.seen) number c.gathered-others.ensures.extends)
    (subst (λ (s : Seat). IsStoppedAt s c.args.pairs.now LOAD_BUDGET c.in-Err-Full.field-0-0 (called.Done reply.Full) c.load-load.new.seat) c.requires.first
    (subst (λ (why : LoadStop). HasStopped c.args.first c.args.pairs.now LOAD_BUDGET why c.load-load.new.seat) is told))

pub returns-in-Err-Spent-clause-err : goal.returns-in-Err-Spent-clause-err
returns-in-Err-Spent-clause-err g c =
    let limits : c.gathered-others.new.seat.limits ≡ c.args.tree.now.limits = c.gathered-others.ensures.same.limits ∙ c.load-load.ensures.same.limits ∙ ap (λ (s : Seat). s.limits) c.requires.first in
    let number : c.load-load.new.seat.actor ≡ 0 = c.load-load.ensures.same.actor ∙ ap (λ (s : Seat). s.actor) c.requires.first in
    let told : HasStopped c.args.first c.args.pairs.now LOAD_BUDGET c.in-Err-Spent.field-0 c.load-load.new.seat = subst
    (λ r. IfErr r (λ why. HasStopped c.args.first c.args.pairs.now LOAD_BUDGET why c.load-load.new.seat)) c.in-Err-Spent.is c.load-load.ensures.stopped
    in
    let is : c.in-Err-Spent.field-0 ≡ stop.Spent c.in-Err-Spent.field-0-0 = cc c.in-Err-Spent.field-0-is in
    is_stopped c.args.tree.now c.gathered-others.new.seat.seen c.args.pairs.now LOAD_BUDGET c.in-Err-Spent.field-0-0 called.Spent c.load-load.new.seat
    (subst (λ (l : Limits). IsOneHistory l c.gathered-others.new.seat.seen) limits c.gathered-others.ensures.history)
    (subst (λ (m : Mine). AllExtend c.gathered-others.new.seat.seen m.0) c.requires.others c.gathered-others.ensures.each)
    (subst (λ (a : ℕ). Extends a c.load-load.new.seat.seen c.gathered-others.new.seat.seen) number c.gathered-others.ensures.extends)
    (subst (λ (s : Seat). IsStoppedAt s c.args.pairs.now LOAD_BUDGET c.in-Err-Spent.field-0-0 called.Spent c.load-load.new.seat) c.requires.first
    (subst (λ (why : LoadStop). HasStopped c.args.first c.args.pairs.now LOAD_BUDGET why c.load-load.new.seat) is told))

pub dealt_out-requires-clause-each : goal.dealt_out-requires-clause-each
dealt_out-requires-clause-each g c = subst (λ (m : Mine). AllExtend c.gathered-others.new.seat.seen m.0) c.requires.others c.gathered-others.ensures.each

pub returns-in-Ok-dealt_out-clause-loaded : goal.returns-in-Ok-dealt_out-clause-loaded
returns-in-Ok-dealt_out-clause-loaded g c =
    let limits : c.gathered-others.new.seat.limits ≡ c.args.tree.now.limits = c.gathered-others.ensures.same.limits ∙ c.load-load.ensures.same.limits ∙ ap (λ (s : Seat). s.limits) c.requires.first in
    let number : c.load-load.new.seat.actor ≡ 0 = c.load-load.ensures.same.actor ∙ ap (λ (s : Seat). s.actor) c.requires.first in
    let told : HasLoaded c.args.first c.args.pairs.now c.load-load.new.seat = subst
    (λ r. IfOk r (λ _. HasLoaded c.args.first c.args.pairs.now c.load-load.new.seat)) c.in-Ok.is c.load-load.ensures.loaded in
    let calls : calls_in c.load-load.new.seat ≡ told.made = told.calls ∙ ap (λ (s : Seat). calls_in s ++ told.made) c.requires.first in
    are_loaded c.own_lasts.ensures c.args.tree.now c.gathered-others.new.seat.seen c.in-Ok-dealt_out.seats.items c.args.pairs.now
    (subst (λ (l : Limits). IsOneHistory l c.gathered-others.new.seat.seen) limits c.gathered-others.ensures.history)
    (subst (λ (m : Mine). AllExtend c.gathered-others.new.seat.seen m.0) c.requires.others c.gathered-others.ensures.each)
    c.requires.ascend c.load-load.new.seat.seen
    (subst (λ (a : ℕ). Extends a c.load-load.new.seat.seen c.gathered-others.new.seat.seen) number c.gathered-others.ensures.extends)
    (subst (λ (a : ℕ). command_of c.load-load.new.seat.seen a ≡ None) number told.idle)
    (subst (λ (a : ℕ). HaveUpserted c.args.pairs.now (calls_of a c.load-load.new.seat.seen)) number (subst (HaveUpserted c.args.pairs.now) (sym calls) told.upserted))
    c.in-Ok-dealt_out.ensures
