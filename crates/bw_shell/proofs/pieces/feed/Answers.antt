use Rattle.std.proofs.Common.{ℕ, ◌+◌, ◌-◌, ◌<◌, ◌≤◌, ◌^◌, [], ◌∷◌, ◌++◌, length, refl, sym, ap, ◌∙◌, arith, get_or, Fits, w64}
use Rattle.byte_streams.proofs.Showing.{no_text, shows_then}
use Rattle.bw_shell.proofs.Feeding.{no_bytes, one_line, one_byte, stop_line, stop_long, stop_at, more_at, match_true, match_false}
use Rattle.std.proofs.lemmas.List.{append-nil, take_all}
use Rattle.std.proofs.lemmas.Option.{none-some}
use Rattle.bw_shell.proofs.pieces.feed.Goals as goal
use Rattle.bw_shell.proofs.pieces.feed.Goals.{then-b-eq10+in_default+else-has_failed, else-b-eq10+else-len-gt1024}

-- the size of a part in bytes is one that a value may have
size_fits : 1040 < 9223372036854775808
size_fits = omega arith

has_room : (n : ℕ) → n ≤ 1024 → n < 1025
has_room n short = omega arith

counted : (n first i len : ℕ) → n ≤ first + i → i ≤ len → n ≤ first + len
counted n first i len count end = omega arith

next_fits : (n first i len : ℕ) → n ≤ first + i → i < len → first + len < 2 ^ 64 → Fits w64 (n + 1)
next_fits n first i len count end fits = omega arith

fewer_left : (len i : ℕ) → i < len → len - (i + 1) < len - i
fewer_left len i end = omega arith

pub loop-b-init : goal.loop-b-init
loop-b-init g c = record {
  woven = ([], no_bytes _ _ _ c.requires.part, no_text _);
  sound = c.requires.sound;
  short = c.requires.short;
  count = omega arith;
}

pub returns-in-Some-clause-fed : goal.returns-in-Some-clause-fed
returns-in-Some-clause-fed g c =
    let inv = c.loop-b.invariant.woven in
    let told = c.in-Some.ensures in
    let said = rw c.as_slice.ensures.value at told.1 in (
      inv.0 ++ told.0,
      shows_then inv.2 told.2,
      stop_at _ _ _ _ c.loop-b.b-index 10 _ _ _ inv.0 _ told.0 _ c.loop-b-test.true c.if-b-eq10.true inv.1
          (stop_line _ _ _ _ _ _ told.0 _ inv.1.splits.open_end said),
    )

pub returns-then-has_failed-clause-fed : goal.returns-then-has_failed-clause-fed
returns-then-has_failed-clause-fed g c =
    let inv = c.loop-b.invariant.woven in
    let told = c.run_line.ensures in
    let said = rw (c.as_slice.ensures.value, c.in_default.is) at told.1 in
    let failed = sym c.has_failed.ensures ∙ c.if-has_failed.true in (
      inv.0 ++ told.0,
      shows_then inv.2 told.2,
      match_true _ _ _ failed
          (stop_at _ _ _ _ c.loop-b.b-index 10 _ _ _ inv.0 _ told.0 _ c.loop-b-test.true c.if-b-eq10.true inv.1
          (stop_line _ _ _ _ _ _ told.0 _ inv.1.splits.open_end said)),
    )

pub returns-then-len-gt1024-clause-fed : goal.returns-then-len-gt1024-clause-fed
returns-then-len-gt1024-clause-fed g c =
    let inv = c.loop-b.invariant.woven in
    let long : 1024 < length (c.loop-b.weaver.part.items ++ get_or c.args.bytes.now c.loop-b.b-index 0 ∷ []) =
    rw (sym c.push.ensures.items) (omega (arith, c.len.ensures.value)) in (
      inv.0 ++ [],
      rw append-nil inv.2,
      stop_at _ _ _ _ c.loop-b.b-index (get_or c.args.bytes.now c.loop-b.b-index 0) _ _ _ inv.0 _ _ _ c.loop-b-test.true refl inv.1
          (stop_long _ _ _ _ _ _ inv.1.splits.open_end c.if-b-eq10.false long),
    )

pub loop-b-preserved : goal.loop-b-preserved
loop-b-preserved g c =
    let inv = c.loop-b.invariant in
    elim c.if-b-eq10.branch [
      | then-b-eq10+in_default+else-has_failed w ↦
          let told = w.run_line.ensures in
          let said = rw (w.as_slice.ensures.value, w.in_default.is) at told.1 in
          let line = one_line _ _ _ _ told.0 inv.woven.1.splits.open_end said in
          rw (w.weaver-is, w.out-is) (record {
            woven = (
              inv.woven.0 ++ told.0,
              more_at _ _ _ _ c.loop-b.b-index 10 _ _ _ inv.woven.0 _ _ _ told.0 c.loop-b-test.true w.if-b-eq10.true inv.woven.1 (rw w.clear.ensures line),
              shows_then inv.woven.2 told.2,
            );
            sound = sym w.has_failed.ensures ∙ w.if-has_failed.false;
            short = omega (arith, ap length w.clear.ensures);
            count = omega arith;
          })
      | else-b-eq10+else-len-gt1024 w ↦
          let byte = one_byte _ _ _ (get_or c.args.bytes.now c.loop-b.b-index 0) inv.woven.1.splits.open_end w.if-b-eq10.false in
          rw (w.weaver-is, w.out-is) (record {
            woven = (
              inv.woven.0 ++ [],
              more_at _ _ _ _ c.loop-b.b-index _ _ _ _ inv.woven.0 _ _ _ [] c.loop-b-test.true refl inv.woven.1 (rw w.push.ensures.items byte),
              rw append-nil inv.woven.2,
            );
            sound = inv.sound;
            short = omega (arith, w.len.ensures.value);
            count = omega arith;
          })
    ]

pub bounds-bytes-b-index : goal.bounds-bytes-b-index
bounds-bytes-b-index g c = c.loop-b-test.true

pub as_slice-requires : goal.as_slice-requires
as_slice-requires g c = size_fits

pub run_line-requires : goal.run_line-requires
run_line-requires g c κs = λ within. within

pub has_failed-requires : goal.has_failed-requires
has_failed-requires g c κs = λ within. within

pub returns-in-Some-clause-short : goal.returns-in-Some-clause-short
returns-in-Some-clause-short g c = λ _. c.loop-b.invariant.short

pub returns-in-Some-clause-count : goal.returns-in-Some-clause-count
returns-in-Some-clause-count g c = counted _ _ _ _ c.loop-b.invariant.count c.loop-b.auto.b-index-end

pub returns-then-has_failed-clause-short : goal.returns-then-has_failed-clause-short
returns-then-has_failed-clause-short g c = λ _. c.loop-b.invariant.short

pub returns-then-has_failed-clause-count : goal.returns-then-has_failed-clause-count
returns-then-has_failed-clause-count g c = counted _ _ _ _ c.loop-b.invariant.count c.loop-b.auto.b-index-end

pub overflow_add-weaver : goal.overflow_add-weaver
overflow_add-weaver g c = next_fits _ _ _ _ c.loop-b.invariant.count c.loop-b-test.true c.requires.count

pub clear-requires : goal.clear-requires
clear-requires g c = size_fits

pub push-requires : goal.push-requires
push-requires g c = (size_fits, has_room _ c.loop-b.invariant.short)

pub len-requires : goal.len-requires
len-requires g c = size_fits

pub returns-then-len-gt1024-clause-short : goal.returns-then-len-gt1024-clause-short
returns-then-len-gt1024-clause-short g c = λ some. absurd (none-some _ (sym some))

pub returns-then-len-gt1024-clause-count : goal.returns-then-len-gt1024-clause-count
returns-then-len-gt1024-clause-count g c = counted _ _ _ _ c.loop-b.invariant.count c.loop-b.auto.b-index-end

pub loop-b-smaller : goal.loop-b-smaller
loop-b-smaller g c = fewer_left _ _ c.loop-b-test.true

pub returns-clause-fed : goal.returns-clause-fed
returns-clause-fed g c =
    let inv = c.loop-b.invariant in
    (inv.woven.0, inv.woven.2, match_false _ _ _ inv.sound (rw (take_all c.loop-b.b-index c.args.bytes.now c.loop-b-test.false) at inv.woven.1))

pub returns-clause-short : goal.returns-clause-short
returns-clause-short g c = λ _. c.loop-b.invariant.short

pub returns-clause-count : goal.returns-clause-count
returns-clause-count g c = counted _ _ _ _ c.loop-b.invariant.count c.loop-b.auto.b-index-end
