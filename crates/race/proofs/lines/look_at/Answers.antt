use Rattle.std.proofs.Common.{◌<◌, [], ◌∷◌, length, refl, sym, ◌∙◌, arith, inl, inr}
use Rattle.std.proofs.lemmas.List.{append-nil}
use Rattle.std.proofs.lemmas.Bool.{eqb-true, eqb-false}
use Rattle.race.proofs.Looking.{no_command, one_command}
use Rattle.race.proofs.lines.look_at.Goals as goal

pub returns-then-is_empty-clause-ok : goal.returns-then-is_empty-clause-ok
returns-then-is_empty-clause-ok c = ([], no_command _ (eqb-true _ _ (sym c.is_empty.ensures ∙ c.if-is_empty.true)), sym (append-nil _))

pub returns-in-Err-Malformed-clause-refused : goal.returns-in-Err-Malformed-clause-refused
returns-in-Err-Malformed-clause-refused c =
    let some : 0 < length c.args.line.now = omega (arith, eqb-false _ _ (sym c.is_empty.ensures ∙ c.if-is_empty.false)) in
    (some, inl (refl, c.in-Err-Malformed.ensures.malformed (cc c.in-Err-Malformed.field-0-is)))

pub returns-in-Err-TooLong-clause-refused : goal.returns-in-Err-TooLong-clause-refused
returns-in-Err-TooLong-clause-refused c =
    let some : 0 < length c.args.line.now = omega (arith, eqb-false _ _ (sym c.is_empty.ensures ∙ c.if-is_empty.false)) in
    let long = c.in-Err-TooLong.ensures.too_long (cc c.in-Err-TooLong.field-0-is) in
    (some, inr (inl (refl, long.0, long.1, long.2)))

pub returns-in-Ok-push-clause-ok : goal.returns-in-Ok-push-clause-ok
returns-in-Ok-push-clause-ok c =
    let some : 0 < length c.args.line.now = omega (arith, eqb-false _ _ (sym c.is_empty.ensures ∙ c.if-is_empty.false)) in
    (c.in-Ok.asks ∷ [], one_command _ c.in-Ok.asks some c.in-Ok.ensures.ok.0 c.in-Ok.ensures.ok.1, c.in-Ok-push.ensures.items)
