-- To what a parent leads: where a round has gone aside, a change is due at the next page.
use Rattle.round_model.proofs.Words.{◌≡◌, ◌<◌, ◌⊎◌, inl, inr, ℕ, zero, suc, List, [], Bool, true, false, Option, Some, None, refl, sym, ap, ◌∙◌, arith, is_lt, Limits, is_below, Content}
use Rattle.round_model.proofs.Words.{Child, Record, content_in, covers, high_in, is_removed, level_in, low_in, IsFitted, Knowledge, Recalled, Version, HasArrived, IsSplitFinished}
use Rattle.std.specs.Prelude.{is_some, not, IfSome, IsTrue}
use Rattle.base_page.proofs.KeyLaws.{and_left, below_from, below_reach, by_order, not_true}
use Rattle.structure_changes.specs.Roots.{CanRoot}
use Rattle.structure_changes.specs.Terms.{CanPost}
use Rattle.round_model.specs.Ways.{LeadsRight, passes, reaches}
use Rattle.round_model.specs.WriteRounds.{HasGreatest, HasRoomAt, IsLed, IsLeftOf, IsNextToFirst, IsTermed}
use Rattle.round_model.proofs.Keeping.{LiesAbove, some_among}
use Rattle.round_model.proofs.PageLaws.{covered, spans}
use Rattle.round_model.proofs.Seeking.{hand}
use Rattle.round_model.proofs.Walking.{trans}
use Rattle.round_model.proofs.WayLaws.{in_range, negated}

-- what is on a way is below what is beyond it
off_above : (below : Bool) (key low high : List ℕ) → IsTrue (passes below key low) → passes below key high ≡ false → IsTrue (is_below low high)
off_above true key low high on off = ap is_lt (below_reach low key high (below_from low key on) off)
off_above false key low high on off = by_order low high
    (λ less. ap is_lt less)
    (λ same. let clash : true ≡ false = sym on ∙ ap (reaches key) same ∙ off in cc)
    (λ more. let clash : true ≡ false = sym (trans key high low (negated (is_below key high) off) (ap is_lt more)) ∙ not_true (is_below key low) on in cc)

-- between a low key in the range, and the end that is beyond the way, there is no term but the greatest on the way
room_at : (below : Bool) (key : List ℕ) (parent : Version) (pid : ℕ) (low next : List ℕ) → IsFitted parent.chain → HasGreatest (passes below key) parent pid low
    → IsTrue (is_below low next) → IsTrue (passes below key next) → HasRoomAt parent next
room_at below key parent pid low next fit h after on = record {
  short = h.short;
  roomy = h.roomy;
  covered = in_range (low_in parent.chain) (high_in parent.chain) next inside (λ high is. ap not (off_above below key next high on (h.stays.off high is)));
  absent = by_content (content_in parent.chain next) refl;
}
  where
    inside : is_below next (low_in parent.chain) ≡ false
    inside =
        let here : IsTrue (covers parent.chain low) = covered parent.chain low (Child pid h.held) fit h.greatest.has in
        by_test (is_below next (low_in parent.chain)) refl (not_true (is_below low (low_in parent.chain)) (and_left _ _ here))
      where
        by_test : (b : Bool) → is_below next (low_in parent.chain) ≡ b → is_below low (low_in parent.chain) ≡ false → is_below next (low_in parent.chain) ≡ false
        by_test false e from = e
        by_test true e from = let clash : true ≡ false = sym (trans low next (low_in parent.chain) after e) ∙ from in cc

    by_content : (o : Option Content) → content_in parent.chain next ≡ o → content_in parent.chain next ≡ None
    by_content None e = e
    by_content (Some content) e = let clash : true ≡ false = sym after ∙ h.greatest.greatest next on (ap is_some e) in cc

-- a page was read whole, which isn't removed
module _ (limits : Limits) (below : Bool) (key : List ℕ) (k now : Knowledge) (r : Recalled) (version : Version) (level : ℕ) (low : List ℕ) (earlier : List ℕ)
    (arrives : HasArrived limits k now r version level low earlier) (alive : is_removed version.chain ≡ false) where
  abbrev way : List ℕ → Bool
  way = passes below key

  abbrev chain : List Record
  chain = version.chain

  posts : (parent : Version) → LiesAbove limits now version earlier parent → HasRoomAt parent low → CanPost parent version
  posts parent over h = record {
    above = over.kept.alive;
    alive = alive;
    level = over.up;
    covered = rw arrives.is_low h.covered;
    absent = ap
        (content_in parent.chain) arrives.is_low ∙ h.absent;
    short = h.short;
    roomy = h.roomy;
  }

  roots : (left : Version) → IsNextToFirst left version.pid low → CanRoot left version
  roots left h = record { lowest = h.lowest; next_to = record { right = h.right; high = h.high ∙ ap Some (sym arrives.is_low) }; alive = alive; top = rw h.leaf (omega arith) }

  at_level : (left : Version) → IsLeftOf limits now low earlier left → level_in chain ≡ level
  at_level left beside = elim arrives.is_level [ inl none ↦ absurd (some_among left.pid earlier beside.kept.among none) | inr is ↦ is ]

  -- with a parent the page is the one to which it leads, and without one it is the first of the leaves
  pub termed : (parent left : Option Version) → IfSome parent (LiesAbove limits now version earlier) → IfSome left (IsLeftOf limits now low earlier)
      → IsLed way parent left version.pid level low → IsSplitFinished true parent left version → level_in chain ≡ 0 → IsTermed version parent
  termed (Some parent) None over beside led finished leaf = (led.short, (led.held, ap (content_in parent.chain) arrives.is_low ∙ led.greatest.has))
  termed (Some parent) (Some left) over beside led finished leaf = absurd (finished (posts parent over led))
  termed None None over beside led finished leaf = arrives.is_low ∙ led
  termed None (Some left) over beside led finished leaf = elim led [
    | inl index ↦ absurd (let is = at_level left beside in omega (arith, index, leaf, is))
    | inr next ↦ absurd (finished refl (roots left next))
  ]

  -- the round goes aside
  module _ (pid : ℕ) (leads : LeadsRight way chain pid) where
    span : IsTrue (is_below low leads.low)
    span = rw (← arrives.is_low) (spans chain leads.low (hand limits k now r version level low earlier arrives).sound.is_chain.fitted leads.is_high)

    beside_first : low ≡ [] → (n : ℕ) → level_in chain ≡ n → (0 < n) ⊎ IsNextToFirst version pid leads.low
    beside_first first zero is = inr (record { leaf = is; lowest = arrives.is_low ∙ first; right = leads.is_right; high = leads.is_high })
    beside_first first (suc n) is = inl (omega arith)

    pub led_aside : (parent left : Option Version) → IfSome parent (LiesAbove limits now version earlier) → IfSome left (IsLeftOf limits now low earlier)
        → IsLed way parent left version.pid level low → IsSplitFinished true parent left version → IsLed way parent (Some version) pid (level_in chain) leads.low
    led_aside (Some parent) None over beside led finished = room_at below key parent version.pid low leads.low over.kept.in_hand.sound.is_chain.fitted led span leads.on_way
    led_aside (Some parent) (Some left) over beside led finished = absurd (finished (posts parent over led))
    led_aside None None over beside led finished = beside_first led (level_in chain) refl
    led_aside None (Some left) over beside led finished = elim led [
      | inl index ↦ inl (let is = at_level left beside in omega (arith, index, is))
      | inr next ↦ absurd (finished refl (roots left next))
    ]
