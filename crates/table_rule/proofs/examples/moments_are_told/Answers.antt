use Rattle.table_rule.proofs.Words.{Entry, Idle, IsLater, Limits, List, Noted, Part, Some, alone, ap, cuts, get_elem?, joins, next, notes, part, refl, same}
use Rattle.table_rule.proofs.Words.{slice_get, some, some-injective, some-ne-none, suc, sym, zero, ℕ, [], ◌∙◌, ◌∷◌, ◌≡◌}
use Rattle.table_rule.specs.Examples.{apart, heeded, moment, noted, together}
use Rattle.table_rule.specs.Growing.{HasSeen}
use Rattle.table_rule.proofs.Later.{only, sees_on}
use Rattle.table_rule.proofs.examples.moments_are_told.Goals as goal

module _ (law : Limits → List Entry → Type 0) (limits : Limits) where
  is_cut : IsLater law (together limits) (apart limits)
  is_cut = next (together limits) (apart limits) same (cuts 0 (part limits 0 [] Idle ∷ part limits 1 [] Idle ∷ []) refl refl)

  is_noted : IsLater law (together limits) (noted limits)
  is_noted = next (apart limits) (noted limits) is_cut (notes 0 (alone limits 0 [] Idle) refl refl)

  is_heeded : IsLater law (together limits) (heeded limits)
  is_heeded = next (noted limits) (heeded limits) is_noted (joins 1 2 (alone limits 1 [] Idle) (part limits 0 [] Noted ∷ []) refl (λ e. cc) refl refl)

  first : HasSeen (apart limits).views 0 []
  first = record { id = 0; view = alone limits 0 [] Idle; at = refl; place = 0; part = part limits 0 [] Idle; there = refl; own = refl; saw = refl }

  of_view : (id : ℕ) (view : List Part) (place : ℕ) (one : Part) → get_elem? (alone limits 1 [] Idle ∷ []) id ≡ some view → slice_get view place ≡ Some one → one.actor ≡ 0 → ⊥
  of_view zero view place one at there own =
      let is : alone limits 1 [] Idle ≡ view = some-injective (alone limits 1 [] Idle) view at in
      let same_part : part limits 1 [] Idle ≡ one = only (part limits 1 [] Idle) one place (rw is there) in
      let one_is_none : 1 ≡ 0 = ap (λ (p : Part). p.actor) same_part ∙ own in cc
  of_view (suc id) view place one at there own = some-ne-none view (sym at)

  is_lost : IsLater law (apart limits) (moment (alone limits 1 [] Idle ∷ [])) → ⊥
  is_lost later =
      let kept = sees_on law (apart limits) (moment (alone limits 1 [] Idle ∷ [])) later 0 [] first in
      of_view kept.1.id kept.1.view kept.1.place kept.1.part kept.1.at kept.1.there kept.1.own

pub returns : goal.returns
returns g c = record { cut = is_cut g.P.Law.law; noted = is_noted g.P.Law.law; heeded = is_heeded g.P.Law.law; lost = is_lost g.P.Law.law }
