use Rattle.std.proofs.Common.{◌≡◌, Bool, true, false, sym, ap, ◌∙◌, arith, refl, eq-eqb}
use Rattle.std.specs.Prelude.{is_some, not}
use mathlib.Core.Bool.{beq}
use Rattle.bw_model.specs.Bytes.{is_under}
use Rattle.record_slots.specs.Rules.{are_within, are_terms}
use Rattle.record_slots.proofs.RuleLaws.{all_within, terms_test, ruled_from}
use Rattle.record_slots.proofs.rules.keeps_rules.Goals as goal

same_flags : (a b : Bool) → not (beq a b) ≡ false → a ≡ b
same_flags true true h = refl
same_flags false false h = refl
same_flags true false h = cc
same_flags false true h = cc

pub returns-then-not-are_within : goal.returns-then-not-are_within
returns-then-not-are_within c =
    let no : are_within c.args.low.now c.args.high.now c.args.items.now ≡ false = ap (are_within c.args.low.now c.args.high.now)
    (sym c.as_slice-items.ensures.items) ∙ sym c.are_within.ensures ∙ c.if-not-are_within.true in
    (λ h. cc, λ ruled. let yes = all_within c.args.low.now c.args.high.now c.args.items.now ruled.is_page.within in sym no ∙ yes)

pub returns-then-level-eq0 : goal.returns-then-level-eq0
returns-then-level-eq0 c =
    let items = c.args.items.now in
    let same = c.as_slice-items.ensures.items in
    let ends : is_some c.args.right ≡ is_some c.args.high.now = sym c.is_some.ensures ∙ same_flags c.is_some.result c.is_some-2.result c.if-is_some.false ∙ c.is_some-2.ensures in
    let spans : is_under c.args.low.now c.args.high.now ≡ true = sym c.is_under.ensures ∙ c.if-not-is_under.false in
    let within : are_within c.args.low.now c.args.high.now items ≡ true = ap (are_within c.args.low.now c.args.high.now) (sym same) ∙ sym c.are_within.ensures ∙ c.if-not-are_within.false in (
      λ h. ruled_from c.args.level c.args.low.now c.args.high.now c.args.right items c.requires.ordered c.requires.kinds c.requires.top ends spans within
          (λ index. absurd (omega (arith, index, c.if-level-eq0.true))),
      λ ruled. eq-eqb c.args.level 0 c.if-level-eq0.true,
    )

pub returns-else-level-eq0 : goal.returns-else-level-eq0
returns-else-level-eq0 c =
    let items = c.args.items.now in
    let same = c.as_slice-items.ensures.items in
    let ends : is_some c.args.right ≡ is_some c.args.high.now = sym c.is_some.ensures ∙ same_flags c.is_some.result c.is_some-2.result c.if-is_some.false ∙ c.is_some-2.ensures in
    let spans : is_under c.args.low.now c.args.high.now ≡ true = sym c.is_under.ensures ∙ c.if-not-is_under.false in
    let within : are_within c.args.low.now c.args.high.now items ≡ true = ap (are_within c.args.low.now c.args.high.now) (sym same) ∙ sym c.are_within.ensures ∙ c.if-not-are_within.false in
    let answer : c.are_terms.result ≡ are_terms c.args.low.now items = c.are_terms.ensures ∙ ap (are_terms c.args.low.now) same in (
      λ h. ruled_from c.args.level c.args.low.now c.args.high.now c.args.right items c.requires.ordered c.requires.kinds c.requires.top ends spans within (λ index. sym answer ∙ h),
      λ ruled. answer ∙ terms_test c.args.low.now items (ruled.terms (omega (arith, c.if-level-eq0.false))),
    )
