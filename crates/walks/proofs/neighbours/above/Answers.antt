use Rattle.walks.proofs.Words.{ap, arith, length, longest, sym, ◌∙◌, ◌≡◌}
use Rattle.walks.proofs.Neighbouring.{full_is, none_behind, raised_is, short_is}
use Rattle.walks.proofs.neighbours.above.Goals as goal

pub returns-then-front-lt-MAX_LENGTH : goal.returns-then-front-lt-MAX_LENGTH
returns-then-front-lt-MAX_LENGTH c =
    short_is c.as_slice-front.result.now c.copy_from_slice.new.self c.args.key.now c.first_of.result c.as_slice-front.ensures.bytes c.if-front-lt-MAX_LENGTH.true
    c.copy_from_slice.ensures.after c.first_of.ensures

pub loop-place-init : goal.loop-place-init
loop-place-init c =
    let fits = c.as_slice-front.ensures.fits in
    let full : length c.as_slice-front.result.now ≡ longest = omega (arith, fits, c.if-front-lt-MAX_LENGTH.false) in record {
      same = full_is c.as_slice-front.result.now c.copy_from_slice.new.self c.args.key.now c.as_slice-front.ensures.bytes full c.copy_from_slice.ensures.after;
      none = none_behind c.args.key.now (sym (ap length c.as_slice-front.ensures.bytes) ∙ full);
    }

pub returns-then-bytes-place-lt255 : goal.returns-then-bytes-place-lt255
returns-then-bytes-place-lt255 c =
    let fits = c.as_slice-front.ensures.fits in
    let full : length c.as_slice-front.result.now ≡ longest = omega (arith, fits, c.if-front-lt-MAX_LENGTH.false) in
    raised_is c.loop-place.bytes c.args.key.now c.first_of-then-bytes-place-lt255.result c.loop-place.place c.loop-place.invariant.same
    c.loop-place-test.true c.loop-place.auto.place (sym (ap length c.as_slice-front.ensures.bytes) ∙ full) c.loop-place.invariant.none
    c.if-bytes-place-lt255.true c.first_of-then-bytes-place-lt255.ensures
