use Rattle.std.proofs.Common.{◌≡◌, ◌∙◌, [], ◌≤◌, ◌+◌, ◌*◌, ◌^◌, drop, slice_index, sym, true, arith}
use Rattle.std.proofs.lemmas.Bool.{eqb-false}
use Rattle.std.proofs.lemmas.Bool.Decides.{nat_tests}
use Rattle.std.proofs.lemmas.List.{drop_all}
use Rattle.shell_lines.specs.Number.{is_digit}
use Rattle.shell_lines.proofs.Numbers.{overflows, fits_all, not_below}
use Rattle.shell_lines.proofs.number.read_seed.Goals as goal

pub returns-in_default : goal.returns-in_default
returns-in_default c =
    let digit : is_digit (slice_index c.args.text.now c.loop-c.c-index) ≡ true = grind (arith, nat_tests, c.if-c-lt48.false, c.if-c-gt57.false) in
    let great : 2 ^ 64 ≤ c.loop-c.n * 10 = not_below _ _ c.in_default.ensures in
    sym (overflows c.args.text.now c.loop-c.c-index c.loop-c.n c.loop-c-test.true digit c.loop-c.invariant.0 (omega (arith, great)))

pub returns-in_default-checked_add : goal.returns-in_default-checked_add
returns-in_default-checked_add c =
    let digit : is_digit (slice_index c.args.text.now c.loop-c.c-index) ≡ true = grind (arith, nat_tests, c.if-c-lt48.false, c.if-c-gt57.false) in
    let great : 2 ^ 64 ≤ c.in-Some.tens + c.from.result = not_below _ _ c.in_default-checked_add.ensures in
    sym (overflows c.args.text.now c.loop-c.c-index c.loop-c.n c.loop-c-test.true digit c.loop-c.invariant.0 (omega (arith, great, c.in-Some.ensures, c.from.ensures)))

pub returns : goal.returns
returns c =
    let end : drop c.loop-c.c-index c.args.text.now ≡ [] = drop_all c.loop-c.c-index c.args.text.now c.loop-c-test.false in
    sym (fits_all c.args.text.now c.loop-c.n (eqb-false _ _ (sym c.is_empty.ensures ∙ c.if-is_empty.false)) c.loop-c.invariant.1 (sym (rw end at c.loop-c.invariant.0)))
