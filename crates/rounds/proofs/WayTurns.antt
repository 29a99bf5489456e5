-- Where a page ends, by whether its end is on the way.
use Rattle.rounds.proofs.Words.{◌≡◌, ◌<◌, ℕ, List, Option, Some, None, true, false, refl, sym, ap, ◌∙◌}
use Rattle.rounds.proofs.Words.{IsTrue, MatchOption, Record, content_in, level_in, right_in, IsFitted}
use Rattle.std.proofs.Common.{Bool}
use Rattle.std.specs.Prelude.{IsFalse, IsSome, not, ⊤}
use Rattle.base_page.specs.Places.{IsGreatestChild}
use Rattle.bw_model.specs.Bytes.{is_below, is_under}
use Rattle.traces.specs.chain.Chains.{high_in}
use Rattle.round_model.specs.Courses.{WriteGoal, Seek, Left, Merge, Unterm}
use Rattle.round_model.specs.Ways.{LeadsDown, LeadsRight, StaysLeft, passes}
use Rattle.round_model.specs.WriteRounds.{SeeksLeaf, ends_at, goes_left, write_way}
use Rattle.round_model.proofs.WayLaws.{goes_down, goes_right}

-- whether an end is on the way
abbrev pub EndsOn : (List ℕ → Bool) → Option (List ℕ) → Bool → Type 0
EndsOn way high on = MatchOption high (IsFalse on) (λ end. on ≡ way end)

-- a page that ends on the way leads to its right
pub leads_right : (way : List ℕ → Bool) (chain : List Record) (high : Option (List ℕ)) (on : Bool) (right : Option ℕ) → IsFitted chain → high_in chain ≡ high
    → EndsOn way high on → IsTrue on → right ≡ right_in chain
    → MatchOption right (StaysLeft way chain) (LeadsRight way chain)
leads_right way chain None on right fit at ends passing is = cc
leads_right way chain (Some end) on right fit at ends passing is = goes_right way chain end right fit at (sym ends ∙ passing) is

abbrev the_end : Option (List ℕ) → List ℕ → List ℕ
the_end None d = d
the_end (Some end) d = end

-- the other one doesn't
pub stays_left : (way : List ℕ → Bool) (chain : List Record) (high : Option (List ℕ)) (on : Bool) → high_in chain ≡ high → EndsOn way high on → IsFalse on → StaysLeft way chain
stays_left way chain None on at ends off = record { off = λ end is. let same = sym at ∙ is in cc }
stays_left way chain (Some high) on at ends off = record { off = λ end is. let same : high ≡ end = ap (λ (o : Option (List ℕ)). the_end o end) (sym at ∙ is) in ap way (sym same) ∙ sym ends ∙ off }

-- what is found of an index page that ends beyond the way: the child of its greatest term there
abbrev pub GoesInside : ℕ → (List ℕ → Bool) → List Record → Option ℕ → Type 0
GoesInside floor way chain found = MatchOption found ⊤ (λ child. (floor < level_in chain) × StaysLeft way chain × LeadsDown way chain child)

pub goes_inside : (key : List ℕ) (chain : List Record) → IsFitted chain → (found : Option ℕ)
    → MatchOption found ⊤ (IsGreatestChild (content_in chain) (λ q. not (is_below key q)))
    → (IsSome found → is_under key (high_in chain) ≡ true) → (IsSome found → 0 < level_in chain) → GoesInside 0 (passes false key) chain found
goes_inside key chain fit None greatest ends index = tt
goes_inside key chain fit (Some child) greatest ends index =
    let stays : StaysLeft (passes false key) chain = record { off = λ high is. ap not (rw is at (ends refl)) } in
    (index refl, stays, goes_down (passes false key) chain child fit greatest)

-- so a writer's round finds it that doesn't go to the left of a page
pub writes_inside : (goal : WriteGoal) (floor : ℕ) (key : List ℕ) (chain : List Record) (found : Option ℕ) → SeeksLeaf goal → goes_left goal ≡ false
    → GoesInside 0 (passes false key) chain found → GoesInside (ends_at goal floor) (write_way goal key) chain found
writes_inside Seek floor key chain found seeks right inside = inside
writes_inside (Left pid) floor key chain found seeks right inside = cc
writes_inside (Merge left) floor key chain found seeks right inside = absurd seeks
writes_inside (Unterm parent left) floor key chain found seeks right inside = absurd seeks
