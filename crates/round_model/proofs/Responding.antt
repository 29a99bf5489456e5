-- What follows from what a round makes of an answer, by what it had asked for: slot 0, or the visit of a page.
use Rattle.round_model.proofs.Words.{◌≡◌, ◌∙◌, inl, inr, ℕ, Option, Some, None, refl, sym, ap, Answer, Record, Sight}
use Rattle.bw_model.specs.declared.step.Answer.TheVariants as answer
use Rattle.round_model.specs.Descents.{Descent, WayState, Root, Page}
use Rattle.round_model.specs.Rounds.{Responds, Rounds, Sees}
use Rattle.round_model.specs.Visits as page

-- a round that is gone to where it stands is the same
module _ {Round End : Type 0} (rounds : Rounds Round End) (stays : (round : Round) → rounds.at round (rounds.way round).state ≡ round) where
  gone_to : (old : Round) (state : WayState) → (rounds.way old).state ≡ state → old ≡ rounds.at old state
  gone_to old state e = sym (stays old) ∙ ap (rounds.at old) e

  -- the answer to the step wanted last is the one that the state was waiting for
  back : (old : Round) (P : Round → Answer Record → Type 0) (state : WayState) (told real : Answer Record) → (rounds.way old).state ≡ state → real ≡ told → P (rounds.at old state) told → P old real
  back old P state told real e i h = rw (i, gone_to old state e) h

  pub by_step : (P : Round → Answer Record → Round → Option End → Type 0) (old new : Round) (told : Answer Record) (result : Option End) → Responds rounds old told new result
      → ((root : ℕ) → P (rounds.at old Root) (answer.Number root) (rounds.at old (Page (page.to_page (rounds.way old).limits root))) None)
      → ((visit next : page.Visit) → page.Responds visit told next None → P (rounds.at old (Page visit)) told (rounds.at old (Page next)) None)
      → ((visit next : page.Visit) (sight : Sight) → page.Responds visit told next (Some sight) → Sees rounds (rounds.at old (Page visit)) sight new result → P
      (rounds.at old (Page visit)) told new result)
      → P old told new result
  by_step P old new told result responds starts visits finds = elim responds [
    | inl way ↦ elim way.on [
      | inl b ↦ back old (λ o x. P o x new result) Root (answer.Number b.root) told b.asked b.is (rw (way.none, way.same ∙ ap (λ (d : Descent). rounds.at old d.state) b.goes) (starts b.root))
      | inr b ↦ back old (λ o x. P o x new result) (Page b.visit) told told b.asked refl
          (rw (way.none, way.same ∙ ap (λ (d : Descent). rounds.at old d.state) b.goes) (visits b.visit b.next b.responds))
    ]
    | inr from ↦ back old (λ o x. P o x new result) (Page from.finds.visit) told told from.finds.asked refl
        (finds from.finds.visit from.finds.next from.sight from.finds.responds
        (rw (gone_to old (Page from.finds.visit) from.finds.asked) at from.sees))
  ]
