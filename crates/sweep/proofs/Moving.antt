-- What an answer leaves a sweep in: what is known then.
use Rattle.sweep.proofs.Words.{◌≡◌, ◌<◌, ◌≤◌, ◌/◌, ◌^◌, inl, inr, ℕ, suc, List, [], ◌∷◌, eqb, Option, Some, None, Bool, true, false, refl, sym, ap, ◌∙◌, arith, if◌then◌else◌, list_any}
use Rattle.sweep.proofs.Words.{cases_Bool, cases_lt, and_parts, or_parts, Limits, Answer, Record, Entry, Stage, Unstamped, Stamped, Passed, Rows, Pids, Limbo, LimboList, all_restaged}
use Rattle.sweep.proofs.Words.{compared_with, stage_in, stage_of, stamped_by, HandsOn, may_go, without, State, Announced, none_yet, with_next, Agrees, AreKept, MOST_COMPARED, BeginsSweep}
use Rattle.sweep.proofs.Words.{Compares, Frees, Moves, Stamps, after_comparing, has_unstamped, IsSameSweep, Sweep}
use Rattle.std.proofs.Common.{IsFalse}
use Rattle.std.specs.Prelude.{IfSome}
use Rattle.bw_model.specs.declared.step.Answer.TheVariants as answer
use Rattle.bw_model.specs.declared.step.Step.TheVariants as step
use Rattle.traces.specs.discipline.Discipline.{IsPassed}
use Rattle.traces.specs.discipline.Fitting.{Fits}
use Rattle.traces.specs.discipline.Knowledge as known
use Rattle.traces.specs.discipline.Knowledge.{Knowledge, Limbos, after_freeing, learn}
use Rattle.tree_limits.specs.Words.{is_among}
use Rattle.epochs.specs.Limbo.{firsts_restaged, is_unstamped}
use Rattle.sweep.specs.declared.sweep.State.TheVariants as state
use Rattle.sweep.specs.Kept.{IsLimboOf}
use Rattle.sweep.specs.Moves.{state_if}
use Rattle.sweep.specs.Sweeps.{AreTold, LearnsOfLimbo, Shows, ShowsState, ShowsThen, Told, other_at, wanted_step, wanted_at}
use Rattle.sweep.proofs.Agreeing.{announced_agrees, announced_told, compared_agrees, may_free, stamped_agrees, stamped_told}
use Rattle.sweep.proofs.Stages.{first_stage, kept_stage, no_item, no_stage, passed_stage, restaged_stage}

-- what is shown by what follows, if anything does
abbrev pub ShowsNext : Limits → ℕ → Option State → Limbo → Knowledge → Type 0
ShowsNext limits actor None limbo k = AreKept limits actor limbo k.limbo
ShowsNext limits actor (Some next) limbo k = ShowsState limits actor next limbo k

-- ---- one list
module _ (limits : Limits) (actor : ℕ) (last : Option ℕ) (list : LimboList) (knows : ℕ → known.LimboMark) (agree : (n : ℕ) → Agrees limits actor last (stage_of list n) (knows n)) where
  -- what one reuse frees may be freed
  pub hands_passed : (word bits : ℕ) (now : LimboList) → HandsOn list word bits now → (n : ℕ) → is_among word bits n ≡ true → IsPassed limits actor (knows n)
  hands_passed word bits now hands n among =
      let may = and_parts (eqb (n / 64) word) (may_go list.entries n) (sym (hands.exact n) ∙ among) in
      let stage = passed_stage list.entries word n (rw hands.rest at (hands.gone n among)) may.1 in
      may_free limits actor stage.0 last (knows n) (rw stage.1 at (agree n))

  -- and the rest agrees once it is freed
  pub hands_agree : (word bits : ℕ) (now : LimboList) → HandsOn list word bits now → (n : ℕ) → Agrees limits actor last (stage_of now n) (after_freeing word bits knows n)
  hands_agree word bits now hands n = elim (is_among word bits n) as (λ b. is_among word bits n ≡ b → Agrees limits actor last (stage_of now n) (if b then known.Absent else knows n)) [
    | true ↦ λ among. rw (hands.rest, no_stage (without word list.entries) n (rw hands.rest at (hands.gone n among))) tt
    | false ↦ λ among. rw (hands.rest, kept_stage list.entries word n (sym (hands.exact n) ∙ among)) (agree n)
  ] refl

  pub same_agree : (now : LimboList) → now ≡ list → (n : ℕ) → Agrees limits actor last (stage_of now n) (knows n)
  same_agree now same n = rw same (agree n)

module _ (limits : Limits) (actor : ℕ) where
  hands_lists : (limbo now : Limbo) → IsLimboOf limits limbo → now.rows.limit ≡ limbo.rows.limit → now.pids.limit ≡ limbo.pids.limit → IsLimboOf limits now
  hands_lists limbo now lists rows pids = record { rows = rows ∙ lists.rows; pids = pids ∙ lists.pids }

  limit_of : (a b : LimboList) → a ≡ b → a.limit ≡ b.limit
  limit_of a b e = ap (λ (list : LimboList). list.limit) e

  pub frees_shows : (k : Knowledge) (limbo after : Limbo) (next : Option State) → AreKept limits actor limbo k.limbo → Frees limbo next after → ShowsNext limits actor next after k
  frees_shows k limbo after None kept frees = record {
    lists = hands_lists limbo after kept.lists (limit_of after.rows limbo.rows frees.0.rest) (limit_of after.pids limbo.pids frees.1.rest);
    rows = same_agree limits actor k.limbo.epoch limbo.rows k.limbo.rows kept.rows after.rows frees.0.rest;
    pids = same_agree limits actor k.limbo.epoch limbo.pids k.limbo.pids kept.pids after.pids frees.1.rest;
  }
  frees_shows k limbo after (Some (state.Reuse (Rows word bits))) kept frees = (
    hands_passed limits actor k.limbo.epoch limbo.rows k.limbo.rows kept.rows word bits after.rows frees.0,
    record {
      lists = hands_lists limbo after kept.lists (ap (λ (list : LimboList). list.limit) frees.0.rest) (limit_of after.pids limbo.pids frees.1);
      rows = hands_agree limits actor k.limbo.epoch limbo.rows k.limbo.rows kept.rows word bits after.rows frees.0;
      pids = same_agree limits actor k.limbo.epoch limbo.pids k.limbo.pids kept.pids after.pids frees.1;
    },
  )
  frees_shows k limbo after (Some (state.Reuse (Pids word bits))) kept frees = (
    hands_passed limits actor k.limbo.epoch limbo.pids k.limbo.pids kept.pids word bits after.pids frees.1,
    record {
      lists = hands_lists limbo after kept.lists (limit_of after.rows limbo.rows frees.0.rest) (ap (λ (list : LimboList). list.limit) frees.1.rest);
      rows = same_agree limits actor k.limbo.epoch limbo.rows k.limbo.rows kept.rows after.rows frees.0.rest;
      pids = hands_agree limits actor k.limbo.epoch limbo.pids k.limbo.pids kept.pids word bits after.pids frees.1;
    },
  )
  frees_shows k limbo after next kept frees = absurd frees

  all_kept : (announced : Announced) (limbo : Limbo) (now : Limbos) → actor < limits.actors → limits.actors ≤ suc announced.count
      → AreKept limits actor limbo now → AreTold actor announced limbo now → AreKept limits actor (all_restaged (compared_with (announced.least ∷ [])) limbo) now
  all_kept announced limbo now inside all kept told = record {
    lists = record { rows = kept.lists.rows; pids = kept.lists.pids };
    rows =
        λ row. rw (restaged_stage (compared_with (announced.least ∷ [])) limbo.rows.entries row)
        (compared_agrees limits actor now.epoch announced (stage_of limbo.rows row) (now.rows row) inside all (kept.rows row) (told.rows row));
    pids =
        λ pid. rw (restaged_stage (compared_with (announced.least ∷ [])) limbo.pids.entries pid)
        (compared_agrees limits actor now.epoch announced (stage_of limbo.pids pid) (now.pids pid) inside all (kept.pids pid) (told.pids pid));
  }

  first_kept : (most : ℕ) (announced : Announced) (limbo : Limbo) (now : Limbos) → actor < limits.actors → limits.actors ≤ suc announced.count
      → AreKept limits actor limbo now → AreTold actor announced limbo now → AreKept limits actor (firsts_restaged most (compared_with (announced.least ∷ [])) limbo) now
  first_kept most announced limbo now inside all kept told = record {
    lists = record { rows = kept.lists.rows; pids = kept.lists.pids };
    rows = λ row. elim (first_stage (compared_with (announced.least ∷ [])) most limbo.rows.entries row) [
      | inl changed ↦ rw changed (compared_agrees limits actor now.epoch announced (stage_of limbo.rows row) (now.rows row) inside all (kept.rows row) (told.rows row))
      | inr same ↦ rw same (kept.rows row)
    ];
    pids = λ pid. elim (first_stage (compared_with (announced.least ∷ [])) most limbo.pids.entries pid) [
      | inl changed ↦ rw changed (compared_agrees limits actor now.epoch announced (stage_of limbo.pids pid) (now.pids pid) inside all (kept.pids pid) (told.pids pid))
      | inr same ↦ rw same (kept.pids pid)
    ];
  }

  compared_kept : (announced : Announced) (limbo : Limbo) (now : Limbos) → actor < limits.actors → limits.actors ≤ suc announced.count
      → AreKept limits actor limbo now → AreTold actor announced limbo now → AreKept limits actor (after_comparing limits announced.least limbo) now
  compared_kept announced limbo now inside all kept told = elim limits.is_large as
      (λ b. AreKept limits actor (if b then firsts_restaged MOST_COMPARED (compared_with (announced.least ∷ [])) limbo else all_restaged (compared_with (announced.least ∷ [])) limbo) now) [
        | true ↦ first_kept MOST_COMPARED announced limbo now inside all kept told
        | false ↦ all_kept announced limbo now inside all kept told
      ]

  pub compares_shows : (k : Knowledge) (announced : Announced) (limbo after : Limbo) (next : Option State) → actor < limits.actors
      → AreKept limits actor limbo k.limbo → AreTold actor announced limbo k.limbo → Compares limits announced limbo next after
      → ShowsNext limits actor next after k
  compares_shows k announced limbo after next inside kept told compares = elim (cases_lt (suc announced.count) limits.actors) [
    | inl more ↦ let is = compares.reads more in rw (is.0, is.1) (kept, told)
    | inr all ↦ frees_shows k (after_comparing limits announced.least limbo) after next (compared_kept announced limbo k.limbo inside all kept told) (compares.frees all)
  ]

  -- ---- the epoch was read
  stamped_kept : (k : Knowledge) (epoch : ℕ) (limbo : Limbo) → IfSome k.limbo.epoch (λ before. before ≤ epoch) → AreKept limits actor limbo k.limbo
      → AreKept limits actor (all_restaged (stamped_by epoch) limbo) (learn k step.Epoch (answer.Number epoch)).limbo
  stamped_kept k epoch limbo later kept = record {
    lists = record { rows = kept.lists.rows; pids = kept.lists.pids };
    rows = λ row. rw (restaged_stage (stamped_by epoch) limbo.rows.entries row) (stamped_agrees limits actor epoch k.limbo.epoch (stage_of limbo.rows row) (k.limbo.rows row) later (kept.rows row));
    pids = λ pid. rw (restaged_stage (stamped_by epoch) limbo.pids.entries pid) (stamped_agrees limits actor epoch k.limbo.epoch (stage_of limbo.pids pid) (k.limbo.pids pid) later (kept.pids pid));
  }

  all_stamped : (now : Limbos) (epoch : ℕ) (limbo : Limbo) → AreTold actor none_yet (all_restaged (stamped_by epoch) limbo) now
  all_stamped now epoch limbo = record {
    rows = λ row. rw (restaged_stage (stamped_by epoch) limbo.rows.entries row) (stamped_told actor epoch (stage_of limbo.rows row) (now.rows row));
    pids = λ pid. rw (restaged_stage (stamped_by epoch) limbo.pids.entries pid) (stamped_told actor epoch (stage_of limbo.pids pid) (now.pids pid));
  }

  stamps_shows : (k : Knowledge) (epoch : ℕ) (limbo after : Limbo) (next : Option State) → actor < limits.actors
      → IfSome k.limbo.epoch (λ before. before ≤ epoch) → AreKept limits actor limbo k.limbo → Stamps limits epoch limbo next after
      → ShowsNext limits actor next after (learn k step.Epoch (answer.Number epoch))
  stamps_shows k epoch limbo after next inside later kept stamps =
      let now : Knowledge = learn k step.Epoch (answer.Number epoch) in
      let kept_now = stamped_kept k epoch limbo later kept in
      let told_now = all_stamped now.limbo epoch limbo in
      elim (cases_lt epoch (2 ^ 62)) [
        | inl below ↦ let is = stamps.retires below in rw (is.0, is.1) (kept_now, told_now)
        | inr last ↦ compares_shows now none_yet (all_restaged (stamped_by epoch) limbo) after next inside kept_now told_now (stamps.last last)
      ]

  -- ---- an announced epoch was read
  announced_kept : (k : Knowledge) (announced : Announced) (n : ℕ) (limbo : Limbo) → AreKept limits actor limbo k.limbo → AreTold actor announced limbo k.limbo
      → AreKept limits actor limbo (learn k (step.Announce (other_at actor announced.count)) (answer.Number n)).limbo × AreTold actor (with_next n announced)
      limbo (learn k (step.Announce (other_at actor announced.count)) (answer.Number n)).limbo
  announced_kept k announced n limbo kept told = (
    record {
      lists = kept.lists;
      rows = λ row. announced_agrees limits actor (other_at actor announced.count) n k.limbo.epoch (stage_of limbo.rows row) (k.limbo.rows row) (kept.rows row);
      pids = λ pid. announced_agrees limits actor (other_at actor announced.count) n k.limbo.epoch (stage_of limbo.pids pid) (k.limbo.pids pid) (kept.pids pid);
    },
    record {
      rows = λ row. announced_told limits actor n announced k.limbo.epoch (stage_of limbo.rows row) (k.limbo.rows row) (kept.rows row) (told.rows row);
      pids = λ pid. announced_told limits actor n announced k.limbo.epoch (stage_of limbo.pids pid) (k.limbo.pids pid) (kept.pids pid) (told.pids pid);
    },
  )

  -- ---- any answer
  pub moves_show : (k : Knowledge) (old : State) (told : Answer Record) (limbo after : Limbo) (next : Option State) → actor < limits.actors
      → Fits limits k (wanted_at actor old) told → ShowsState limits actor old limbo k → Moves limits old limbo told next after
      → ShowsNext limits actor next after (learn k (wanted_at actor old) told)
  moves_show k state.Epoch (answer.Number n) limbo after next inside fits shows moves = stamps_shows k n limbo after next inside fits.2 shows moves
  moves_show k (state.Retire epoch) told limbo after next inside fits shows moves = compares_shows k none_yet limbo after next inside shows.0 shows.1 moves
  moves_show k (state.Announce announced) (answer.Number n) limbo after next inside fits shows moves =
      let now = announced_kept k announced n limbo shows.0 shows.1 in
      compares_shows (learn k (step.Announce (other_at actor announced.count)) (answer.Number n)) (with_next n announced) limbo after next inside now.0 now.1 moves
  moves_show k (state.Reuse (Rows word bits)) told limbo after next inside fits shows moves = frees_shows (learn k (step.ReuseRows word bits) told) limbo after next shows.1 moves
  moves_show k (state.Reuse (Pids word bits)) told limbo after next inside fits shows moves = frees_shows (learn k (step.ReusePids word bits) told) limbo after next shows.1 moves
  moves_show k old told limbo after next inside fits shows moves = absurd fits

  -- nothing but the limbo is learnt
  pub only_limbo : (k : Knowledge) (old : State) (told : Answer Record) → Fits limits k (wanted_at actor old) told
      → learn k (wanted_at actor old) told ≡ record k { limbo = (learn k (wanted_at actor old) told).limbo }
  only_limbo k state.Epoch (answer.Number n) fits = refl
  only_limbo k (state.Retire epoch) told fits = refl
  only_limbo k (state.Announce announced) (answer.Number n) fits = refl
  only_limbo k (state.Reuse (Rows word bits)) told fits = refl
  only_limbo k (state.Reuse (Pids word bits)) told fits = refl
  only_limbo k old told fits = absurd fits

shown_then : (goes : Bool) (limits : Limits) (actor : ℕ) (next : State) (limbo : Limbo) (k : Knowledge) → IsFalse k.inside
    → ShowsNext limits actor (state_if goes next) limbo k → ShowsThen goes (record { limits = limits; actor = actor; state = next }) limbo k
shown_then true limits actor next limbo k outside h = record { outside = outside; stands = h }
shown_then false limits actor next limbo k outside h = record { outside = outside; kept = h }

pub follows : (old new : Sweep) (limbo after : Limbo) (told : Answer Record) (goes : Bool) → old.actor < old.limits.actors → IsSameSweep old new
    → Moves old.limits old.state limbo told (state_if goes new.state) after
    → (k : Knowledge) → Shows old limbo k → Fits old.limits k (wanted_step old) told → LearnsOfLimbo k (learn k (wanted_step old) told) new after goes
follows old new limbo after told goes inside same moves k shows fits = record {
  only = only_limbo old.limits old.actor k old.state told fits;
  shows =
      rw (same.limits, same.actor) (shown_then goes old.limits old.actor new.state after (learn k (wanted_step old) told)
      (let only = only_limbo old.limits old.actor k old.state told fits in ap (λ (k : Knowledge). k.inside) only ∙ shows.outside)
      (moves_show old.limits old.actor k old.state told limbo after (state_if goes new.state) inside fits shows.stands moves));
}

-- ---- the begin
-- all that has no stamp is found
has_stamp : (entries : List Entry) → list_any (λ (entry : Entry). is_unstamped entry.stage) entries ≡ false → (n : ℕ) → stage_in entries n ≡ Some Unstamped → ⊥
has_stamp [] stamped n is = cc
has_stamp (e ∷ es) stamped n is =
    let both = or_parts (is_unstamped e.stage) (list_any (λ (entry : Entry). is_unstamped entry.stage) es) stamped in
    elim (eqb e.number n) as (λ b. (if b then Some e.stage else stage_in es n) ≡ Some Unstamped → ⊥) [
      | true ↦ λ same. (let stage : e.stage ≡ Unstamped = cc in let h : true ≡ false = rw stage at both.0 in cc)
      | false ↦ has_stamp es both.1 n
    ] is

told_first : (actor : ℕ) (stage : Option Stage) (limbo : known.LimboMark) → (stage ≡ Some Unstamped → ⊥) → Told actor none_yet stage limbo
told_first actor (Some Unstamped) limbo stamped = absurd (stamped refl)
told_first actor (Some (Stamped stamp)) (known.Stamped epoch passed) stamped = λ has place lt. absurd (omega (arith, lt))
told_first actor (Some (Passed stamp)) (known.Stamped epoch passed) stamped = λ has place lt. absurd (omega (arith, lt))
told_first actor stage limbo stamped = tt

pub begins_show : (limits : Limits) (actor : ℕ) (limbo after : Limbo) (first : Option State) → actor < limits.actors → BeginsSweep limits limbo first after
    → (k : Knowledge) → AreKept limits actor limbo k.limbo → ShowsNext limits actor first after k
begins_show limits actor limbo after first inside begins k kept = elim (no_item limbo) [
  | inl empty ↦ let is = begins.empty empty in rw (is.0, is.1) kept
  | inr some ↦ elim (cases_Bool (has_unstamped limbo)) [
    | inl unstamped ↦ let is = begins.epoch unstamped in rw (is.0, is.1) kept
    | inr stamped ↦
        let both = or_parts (list_any (λ (entry : Entry). is_unstamped entry.stage) limbo.rows.entries) (list_any (λ (entry : Entry). is_unstamped entry.stage) limbo.pids.entries) stamped in
        compares_shows limits actor k none_yet limbo after first inside kept (record {
          rows = λ row. told_first actor (stage_of limbo.rows row) (k.limbo.rows row) (has_stamp limbo.rows.entries both.0 row);
          pids = λ pid. told_first actor (stage_of limbo.pids pid) (k.limbo.pids pid) (has_stamp limbo.pids.entries both.1 pid);
        }) (begins.stamped some stamped)
  ]
]
