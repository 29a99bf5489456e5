use Rattle.std.proofs.Common.{Result, Ok, Err, subst, sym}
use Rattle.std.specs.Prelude.{IfErr, IsErr}
use Rattle.deltas.specs.declared.record.Record.{Record}
use Rattle.record_slots.specs.Spells.{HasTexts, IsSpelling}
use Rattle.record_slots.proofs.SpellingLaws.{spelling_one}
use Rattle.widening.specs.FirstForm.{IsFew, IsFirstSpelling}
use Rattle.widening.specs.Spread.{spread}
use Rattle.widening.proofs.WideLaws.{few_texts, narrowed, widened}
use Rattle.widening.proofs.rows.widen.Goals as goal

refused : {A E : Type 0} (result : Result A E) (none : Type 0) → IsErr result → none → IfErr result (λ fault. none)
refused (Ok a) none h n = tt
refused (Err e) none h n = n

pub returns-in_err-content-clause-refused : goal.returns-in_err-content-clause-refused
returns-in_err-content-clause-refused c =
    let words = c.args.words.now in
    refused c.from_residual.result ((content : Record) → IsFirstSpelling content words → ⊥) c.from_residual.ensures.0
    (λ content h. c.in_err-content.ensures content (record { spelling = subst (IsSpelling content) (sym c.spread-wide.ensures) (widened content words h); small = h.small }))

pub returns-then-is_narrow-clause-spelled : goal.returns-then-is_narrow-clause-spelled
returns-then-is_narrow-clause-spelled c =
    let words = c.args.words.now in
    let content = c.in_ok-content.content in (
      content,
      (
        narrowed content words c.told-words (subst (IsSpelling content) c.spread-wide.ensures c.in_ok-content.ensures.spelling)
            c.in_ok-content.ensures.small (c.is_narrow.ensures.0 c.if-is_narrow.true),
        c.in_ok-content.ensures.spelling,
      ),
    )

pub returns-else-is_narrow-clause-refused : goal.returns-else-is_narrow-clause-refused
returns-else-is_narrow-clause-refused c content h =
    let words = c.args.words.now in
    let found = c.in_ok-content.content in
    let same = spelling_one content found (spread words) (widened content words h) (subst (IsSpelling found) c.spread-wide.ensures c.in_ok-content.ensures.spelling) in
    let yes = c.is_narrow.ensures.1 (subst (HasTexts IsFew) same (few_texts content h.narrow)) in
    let no = c.if-is_narrow.false in
    cc
