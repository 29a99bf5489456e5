use Rattle.std.proofs.Common.{◌≡◌, ℕ, ◌+◌, ◌<◌, [], ◌++◌, length, refl, sym, ap, ◌∙◌, arith, inl, inr}
use Rattle.std.proofs.lemmas.Bool.{eqb-true, eqb-false}
use Rattle.std.proofs.lemmas.List.{append-nil}
use Rattle.byte_streams.proofs.Showing.{no_text, shows_then, then_no_text, sound_before}
use Rattle.bw_shell.proofs.Feeding.{no_bytes, weaves_then, weaves_stops, weaves_end, either_by, end_whole, end_part, match_false_at}
use Rattle.bw_shell.proofs.Weaving.{no_items}
use Rattle.std.proofs.KnownBytes.{Consumes-nil, Consumes-trans, Consumes-kept}
use Rattle.bw_shell.proofs.whole.run.Goals as goal

fewer : (left before : ℕ) → left + 1 ≡ before → left < before
fewer left before is = omega arith

pub reads-init : goal.reads-init
reads-init g c = record {
  woven = ([], [], Consumes-nil _, rw (c.requires.first, c.requires.empty) (no_bytes 1 _ [] tt), no_text _);
  sound_in = c.requires.sound_in;
  sound_out = c.requires.sound_out;
  short = omega (arith, ap length c.requires.empty);
  count = omega arith;
}

pub returns-in-Some : goal.returns-in-Some
returns-in-Some g c =
    let inv = c.reads.invariant in
    let fed = c.in-Some.ensures.fed in
    record {
      taken = inv.woven.0 ++ c.split_at.result.0.now;
      text = inv.woven.1 ++ fed.0;
      reads = Consumes-trans _ _ _ _ _ inv.woven.2 (rw c.split_at.ensures.front c.in-Ok.ensures.bytes.0);
      says = inr (inr (c.in-Ok.ensures.fails ∙ inv.sound_in, inl refl, weaves_stops _ _ _ _ _ _ _ _ _ _ _ _ inv.woven.3 fed.2));
      shows = shows_then inv.woven.4 fed.1;
    }

pub returns-then-has_failed : goal.returns-then-has_failed
returns-then-has_failed g c =
    let inv = c.reads.invariant in
    let fed = c.feed.ensures.fed in
    let failed = sym c.has_failed.ensures ∙ c.if-has_failed.true in
    let after = rw c.in_default.is at fed.2 in
    let either = either_by _ _ _ _ c.finish.ensures.shows after in
    record {
      taken = inv.woven.0 ++ c.split_at.result.0.now;
      text = inv.woven.1 ++ fed.0;
      reads = Consumes-trans _ _ _ _ _ inv.woven.2 (rw c.split_at.ensures.front c.in-Ok.ensures.bytes.0);
      says = inr (inr (
        c.in-Ok.ensures.fails ∙ inv.sound_in,
        inr failed,
        elim either [
          | inl stops ↦ weaves_stops _ _ _ _ _ _ _ _ _ _ _ _ inv.woven.3 stops
          | inr more ↦ let end = weaves_end _ _ _ _ _ _ _ _ more in weaves_stops _ _ _ _ _ _ _ _ _ _ _ _ inv.woven.3 end
        ],
      ));
      shows = then_no_text (shows_then inv.woven.4 fed.1) c.finish.ensures.shows;
    }

pub reads-preserved : goal.reads-preserved
reads-preserved g c =
    let inv = c.reads.invariant in
    let fed = c.feed.ensures.fed in
    let sound = sym c.has_failed.ensures ∙ c.if-has_failed.false in
    let after = rw c.in_default.is at fed.2 in
    let more = match_false_at _ _ _ (sound_before c.finish.ensures.shows sound) after in
    record {
      woven = (
        inv.woven.0 ++ c.split_at.result.0.now,
        inv.woven.1 ++ fed.0,
        Consumes-trans _ _ _ _ _ inv.woven.2 (rw c.split_at.ensures.front c.in-Ok.ensures.bytes.0),
        weaves_then _ _ _ _ _ _ _ _ _ _ _ _ _ inv.woven.3 more,
        then_no_text (shows_then inv.woven.4 fed.1) c.finish.ensures.shows,
      );
      sound_in = c.in-Ok.ensures.fails ∙ inv.sound_in;
      sound_out = sound;
      short = c.feed.ensures.short c.in_default.is;
      count = omega (arith, c.feed.ensures.count, c.split_at.ensures.front_len, c.in-Ok.ensures.fewer, c.in-Ok.ensures.bound, inv.count);
    }

pub returns-then-is_empty : goal.returns-then-is_empty
returns-then-is_empty g c =
    let inv = c.reads.invariant in
    let none = no_items _ (eqb-true _ _ (sym c.is_empty.ensures ∙ c.if-is_empty.true)) in
    record {
      taken = inv.woven.0;
      text = inv.woven.1;
      reads = rw append-nil at (Consumes-trans _ _ _ _ _ inv.woven.2 (rw c.if-n-eq0.true at c.in-Ok.ensures.bytes.0));
      says = inl (c.in-Ok.ensures.fails ∙ inv.sound_in, c.in-Ok.ensures.bytes.1 c.if-n-eq0.true (omega arith), end_whole _ _ _ _ _ (rw none at inv.woven.3));
      shows = inv.woven.4;
    }

pub returns : goal.returns
returns g c =
    let inv = c.reads.invariant in
    let told = c.run_line.ensures in
    let some : 0 < length c.reads.weaver.part.items = omega (arith, eqb-false _ _ (sym c.is_empty.ensures ∙ c.if-is_empty.false)) in
    record {
      taken = inv.woven.0;
      text = inv.woven.1 ++ told.0;
      reads = rw append-nil at (Consumes-trans _ _ _ _ _ inv.woven.2 (rw c.if-n-eq0.true at c.in-Ok.ensures.bytes.0));
      says = inl (
        c.in-Ok.ensures.fails ∙ inv.sound_in,
        c.in-Ok.ensures.bytes.1 c.if-n-eq0.true (omega arith),
        end_part _ _ _ _ _ _ _ _ _ inv.woven.3 some (rw c.as_slice.ensures.value at told.1),
      );
      shows = shows_then inv.woven.4 told.2;
    }

pub returns-in-Err : goal.returns-in-Err
returns-in-Err g c =
    let inv = c.reads.invariant in
    record {
      taken = inv.woven.0;
      text = inv.woven.1;
      reads = Consumes-kept _ _ _ _ inv.woven.2 c.in-Err.ensures.bytes;
      says = inr (inl (c.in-Err.ensures.fails, refl, inv.woven.3.lines, c.reads.weaver.part.items, inv.woven.3.splits, inv.woven.3.says));
      shows = inv.woven.4;
    }

pub feed-requires-clause-part : goal.feed-requires-clause-part
feed-requires-clause-part g c = c.reads.invariant.woven.3.splits.open_end

pub feed-requires-clause-count : goal.feed-requires-clause-count
feed-requires-clause-count g c = omega (arith, c.split_at.ensures.front_len, c.in-Ok.ensures.fewer, c.in-Ok.ensures.bound, c.reads.invariant.count)

pub reads-smaller : goal.reads-smaller
reads-smaller g c = fewer _ _ c.in-Ok.ensures.fewer
