use Rattle.round_model.proofs.Words.{◌≡◌, inl, inr, None, sym, ap, ◌∙◌, Version, Sight, Empty, Whole, WriteRound, TreatsWrite, writing, Sees}
use Rattle.round_model.specs.Courses.{Seek, Merge, Unterm}
use Rattle.round_model.proofs.round_laws.left_rounds_stay.Goals as goal

treated : (old new : WriteRound) (version : Version) → TreatsWrite old version new None → new.goal ≡ Seek → old.goal ≡ Seek
treated old new version t is = elim t [
  | inl right ↦ sym (ap (λ (r : WriteRound). r.goal) right.goes) ∙ is
  | inr (inl down) ↦ sym (ap (λ (r : WriteRound). r.goal) down.goes) ∙ is
  | inr (inr (inl merge)) ↦ (let clash : Merge version ≡ Seek = sym (ap (λ (r : WriteRound). r.goal) merge.goes) ∙ is in cc)
  | inr (inr (inr cut)) ↦ (let clash : Unterm cut.parent version ≡ Seek = sym (ap (λ (r : WriteRound). r.goal) cut.goes) ∙ is in cc)
]

seen : (old new : WriteRound) (sight : Sight) → Sees writing old sight new None → new.goal ≡ Seek → old.goal ≡ Seek
seen old new Empty s is = cc
seen old new (Whole version) s is = treated old new version s is

pub returns : goal.returns
returns c = λ old new told responds is. elim responds [
  | inl way ↦ sym (ap (λ (r : WriteRound). r.goal) way.same) ∙ is
  | inr from ↦ seen old new from.sight from.sees is
]
