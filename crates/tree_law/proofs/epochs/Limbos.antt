-- One more entry: what the limbos show, and what was freed by the rule.
use Rattle.tree_law.proofs.Words.{false, ◌⊎◌, ap, refl, cond, ltb, Option, suc, List, true, inl, length, ◌++◌, inr, ◌∷◌, ℕ, ◌≡◌, Bool, ◌∙◌, ◌<◌, arith, Some, eqb, ltb-true, eqb-true}
use Rattle.tree_law.proofs.Words.{◌||◌, Reply, Limits, Answer, Number, StepOf, Epoch, Announce, replaced_at, Record, slice_get_below, slice_get-push, TakesStep-push_cases, memory_at-push}
use Rattle.tree_law.proofs.Words.{IsPassed, Unstamped, LimboMark, Absent, Stamped, passed_by, with_stamp, IsStep, Entry, Step, UnlinksPid, UnlinksRow, IsInLimbo, []}
use Rattle.traces.proofs.TraceLaws.{TakesStep-kept}
use Rattle.linearization.specs.Reuse.{IsFreed}
use Rattle.tree_law.specs.Limbos.{WasTakenOut, IsPassedAt, IsStamped}
use Rattle.tree_law.proofs.trace.Owned.{pushed_length}
use Rattle.tree_law.proofs.shape.Puts.{by_equal}

module _ (entries : List Entry) (last : Entry) where
  abbrev longer : List Entry
  longer = entries ++ last ∷ []

  pushed : length longer ≡ suc (length entries)
  pushed = pushed_length entries last

  in_longer : (n : ℕ) → n < length entries → n < length longer
  in_longer n lt = let e = pushed in omega arith

  module _ (U U' : ℕ → Type 0) (H : StepOf Record → Answer Record → Type 0) (mono : (n : ℕ) → n < length entries → U n → U' n) where
    pub out_push : ((other : ℕ) (s : StepOf Record) (x : Answer Record) → IsStep last other s x → H s x → ⊥) → WasTakenOut entries U H → WasTakenOut longer U' H
    out_push calm h = record {
      at = h.at;
      below = in_longer h.at h.below;
      unlinked = mono h.at h.below h.unlinked;
      kept = λ between other s x lt t. elim (TakesStep-push_cases entries last between other s x t) [ inl before ↦ h.kept between other s x lt before | inr at ↦ calm other s x at.1 ];
    }

    passed_push : (a stamp epoch c : ℕ) → IsPassedAt entries a stamp epoch c → IsPassedAt longer a stamp epoch c
    passed_push a stamp epoch c h = record { at = h.at; after = h.after; value = h.value; took = TakesStep-kept entries last h.at a (Announce c) (Number h.value) h.took; gone = h.gone }

    pub stamped_push : (a epoch : ℕ) (passed : ℕ → Bool) → ((other : ℕ) (s : StepOf Record) (x : Answer Record) → IsStep last other s x → H s x → ⊥)
        → IsStamped entries a U H epoch passed → IsStamped longer a U' H epoch passed
    unfolding out_push
    stamped_push a epoch passed calm h = record {
      out = out_push calm h.out;
      at = h.at;
      after = h.after;
      below = in_longer h.at h.below;
      took = TakesStep-kept
          entries last h.at a Epoch (Number epoch) h.took;
      by = λ c e. passed_push a h.at epoch c (h.by c e);
    }

    pub limbo_push : (a : ℕ) (l : LimboMark) → ((l ≡ Absent → ⊥) → (other : ℕ) (s : StepOf Record) (x : Answer Record) → IsStep last other s x → H s x → ⊥)
        → IsInLimbo entries a U H l → IsInLimbo longer a U' H l
    limbo_push a Absent calm h = tt
    limbo_push a Unstamped calm h = out_push (calm (λ e. cc)) h
    limbo_push a (Stamped epoch passed) calm h = stamped_push a epoch passed (calm (λ e. cc)) h

    -- the actor reads the epoch
    pub stamped_now : (a epoch : ℕ) (r : Option Reply) → last ≡ Step a Epoch (Number epoch) r → (l : LimboMark)
        → ((l ≡ Absent → ⊥) → (other : ℕ) (s : StepOf Record) (x : Answer Record) → IsStep last other s x → H s x → ⊥) → IsInLimbo entries a U H l → IsInLimbo longer a U' H (with_stamp epoch l)
    unfolding out_push
    stamped_now a epoch r is Absent calm h = tt
    stamped_now a epoch r is Unstamped calm h = record {
      out = out_push (calm (λ e. cc)) h;
      at = length entries;
      after = h.below;
      below = (let e = pushed in omega arith);
      took = (r, slice_get-push entries last ∙ ap Some is);
      by = λ c e. absurd (cc);
    }
    stamped_now a epoch r is (Stamped e passed) calm h = stamped_push a e passed (calm (λ e. cc)) h

    -- the actor reads an announced epoch
    pub passed_now : (a c value : ℕ) (r : Option Reply) → last ≡ Step a (Announce c) (Number value) r → (l : LimboMark)
        → ((l ≡ Absent → ⊥) → (other : ℕ) (s : StepOf Record) (x : Answer Record) → IsStep last other s x → H s x → ⊥) → IsInLimbo entries a U H l
        → IsInLimbo longer a U' H (passed_by c value l)
    unfolding out_push stamped_push
    passed_now a c value r is Absent calm h = tt
    passed_now a c value r is Unstamped calm h = out_push (calm (λ e. cc)) h
    passed_now a c value r is (Stamped epoch passed) calm h = go (eqb value 0) (ltb epoch value) refl refl
      where
        old : IsStamped longer a U' H epoch passed
        old = stamped_push a epoch passed (calm (λ e. cc)) h

        on : (value ≡ 0) ⊎ (epoch < value) → IsStamped longer a U' H epoch (replaced_at c true passed)
        on gone = record {
          out = old.out;
          at = old.at;
          after = old.after;
          below = old.below;
          took = old.took;
          by = λ d. by_equal d c
              (λ i t. rw t λ e. record { at = length entries; after = h.below; value = value; took = rw i (r, slice_get-push entries last ∙ ap Some is); gone = gone })
              (λ ne t. rw t (old.by d));
        }

        go : (y z : Bool) → eqb value 0 ≡ y → ltb epoch value ≡ z → IsStamped longer a U' H epoch (cond (y || z) (replaced_at c true passed) passed)
        go true z i j = on (inl (eqb-true value 0 i))
        go false true i j = on (inr (ltb-true epoch value j))
        go false false i j = old

    -- what was freed before
    pub freed_push : (limits : Limits) (a n : ℕ) → n < length entries → IsFreed limits entries a n U H → IsFreed limits longer a n U' H
    freed_push limits a n lt h = record {
      unlinked_at = h.unlinked_at;
      stamped_at = h.stamped_at;
      stamp = h.stamp;
      unlinked = mono h.unlinked_at (let i = h.stamp_after in let j = h.stamp_before in omega arith) h.unlinked;
      stamp_after = h.stamp_after;
      stamped = TakesStep-kept entries last h.stamped_at a Epoch (Number h.stamp) h.stamped;
      stamp_before = h.stamp_before;
      passed = λ other below ne. let p = h.passed other below ne in (p.0, p.1, p.2, p.3, TakesStep-kept entries last p.0 a (Announce other) (Number p.1) p.4, p.5);
      kept =
          λ between other s x low high t. elim (TakesStep-push_cases entries last between other s x t)
          [ inl before ↦ h.kept between other s x low high before | inr at ↦ absurd (let i = at.0 in omega arith) ];
    }

    -- what is freed now
    pub freed_now : (limits : Limits) (a : ℕ) (l : LimboMark) → IsPassed limits a l → IsInLimbo entries a U H l → IsFreed limits longer a (length entries) U' H
    freed_now limits a l p h =
        let s : IsStamped entries a U H p.epoch p.passed = rw p.stamped at h in
        record {
          unlinked_at = s.out.at;
          stamped_at = s.at;
          stamp = p.epoch;
          unlinked = mono s.out.at s.out.below s.out.unlinked;
          stamp_after = s.after;
          stamped = TakesStep-kept entries last s.at a Epoch (Number p.epoch) s.took;
          stamp_before = s.below;
          passed =
              λ other below ne. let q = s.by other (p.all other below ne) in
              (q.at, q.value, q.after, slice_get_below entries q.at _ q.took.1, TakesStep-kept entries last q.at a (Announce other) (Number q.value) q.took, q.gone);
          kept =
              λ between other t x low high took. elim (TakesStep-push_cases entries last between other t x took)
              [ inl before ↦ s.out.kept between other t x low before | inr at ↦ absurd (let i = at.0 in omega arith) ];
        }

  -- what an exchange took out it took out in the pushed trace
  pub pid_longer : (limits : Limits) (a p n : ℕ) → n < length entries → UnlinksPid limits entries a p n → UnlinksPid limits longer a p n
  pid_longer limits a p n lt h = (h.0, h.1, TakesStep-kept entries last n a _ _ h.2)

  pub row_longer : (limits : Limits) (a q n : ℕ) → n < length entries → UnlinksRow limits entries a q n → UnlinksRow limits longer a q n
  row_longer limits a q n lt h = (
    h.0,
    h.1,
    h.2,
    h.3,
    TakesStep-kept entries last n a _ _ h.4,
    rw (memory_at-push limits entries (last ∷ []) n (omega arith)) h.5,
    h.6,
    λ on. h.7 (rw (memory_at-push limits entries (last ∷ []) (suc n) (omega arith)) at on),
  )
