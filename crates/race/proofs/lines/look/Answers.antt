use Rattle.std.proofs.Common.{[], ◌∷◌, ◌++◌, length, refl, ap, arith}
use Rattle.std.proofs.lemmas.List.{length-append}
use Rattle.race.proofs.Looking.{none_looked, more_looked, refused_line, last_looked, last_refused}
use Rattle.race.proofs.lines.look.Goals as goal

pub loop-line-init : goal.loop-line-init
loop-line-init c = ([], rw c.new-asked.ensures.items (none_looked _), refl, omega arith)

pub returns-in-Err-clause-refused : goal.returns-in-Err-clause-refused
returns-in-Err-clause-refused c =
    let inv = c.loop-line.invariant in
    let exact = c.lines_are_exact.ensures in
    refused_line exact.whole exact.last _ inv.0 _ _ _ _ _ _ _ inv.1 c.in-Some.ensures.0 c.in-Some.ensures.1 inv.2 c.in-Err.ensures.refused.0 c.in-Err.ensures.refused.1

pub loop-line-preserved : goal.loop-line-preserved
loop-line-preserved c =
    let inv = c.loop-line.invariant in
    let own = c.in_default-look_at.ensures.ok in
    let longer = length-append inv.0 (c.in-Some.line.now ∷ []) in
    let shorter = length-append c.in-Some.line.now (10 ∷ c.in-Some.behind.now) in
    let parts = ap length c.in-Some.ensures.1 in (
      inv.0 ++ c.in-Some.line.now ∷ [],
      rw own.2 (more_looked _ inv.0 _ _ _ _ own.0 inv.1 c.in-Some.ensures.0 c.in-Some.ensures.1 own.1),
      omega (arith, longer, inv.2),
      omega (arith, longer, shorter, parts, inv.3),
    )

pub returns-in-Err-look_at-clause-refused : goal.returns-in-Err-look_at-clause-refused
returns-in-Err-look_at-clause-refused c =
    let inv = c.loop-line.invariant in
    rw c.if-not-ended.false (last_refused c.lines_are_exact.ensures.last _ inv.0 _ _ _ _ inv.1 c.in_default.ensures inv.2 c.in-Err-look_at.ensures.refused.0 c.in-Err-look_at.ensures.refused.1)

pub returns-in-Ok-clause-ok : goal.returns-in-Ok-clause-ok
returns-in-Ok-clause-ok c =
    let inv = c.loop-line.invariant in
    let exact = c.lines_are_exact.ensures in
    let own = c.in-Ok.ensures.ok in
    rw (c.if-not-ended.false, own.2) (last_looked exact.whole exact.last _ inv.0 _ _ own.0 inv.1 c.in_default.ensures own.1)
