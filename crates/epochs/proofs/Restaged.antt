-- The first entries get other stages.
use Rattle.std.proofs.Common.{◌≡◌, ◌<◌, ◌≤◌, ◌+◌, ◌-◌, ℕ, List, true, false, length, get_or, set, take, drop, refl, sym, ap, ◌∙◌, arith, inl, inr, length-append}
use Rattle.std.specs.Prelude.{if◌then◌else◌}
use Rattle.std.proofs.lemmas.Bool.{cases_Bool, cases_lt}
use Rattle.std.proofs.lemmas.List.{append-nil, drop_all, get_or-append_right, get_or-drop, get_or-map, get_or-take, get_or_append_left, get_or_default}
use Rattle.std.proofs.lemmas.List.{length-drop, length-map, length-take-le, take-append-drop, take_all}
use Rattle.std.proofs.lemmas.List.Edits.{map_over_more}
use Rattle.std.proofs.lemmas.List.Folds.{map_fixed}
use Rattle.epochs.specs.declared.entry.Entry.{Entry}
use Rattle.epochs.specs.declared.entry.Stage.{Stage}
use Rattle.epochs.specs.declared.entry.Stage.TheVariants.{Unstamped, Stamped, Passed}
use Rattle.epochs.specs.Limbo.{compared_with, first_restaged, is_passed, is_unstamped, with_stages, stamped_by}
use Rattle.epochs.specs.Queue.{AreLastUnstamped, AreStamped, IsKeptList, Queue}
use Rattle.epochs.specs.Reclamation.{may_be_freed}
use Rattle.epochs.proofs.Lists.{renewed_is_list}

abbrev pub with_stage : (Stage → Stage) → Entry → Entry
with_stage stage_after entry = record entry { stage = stage_after entry.stage }

-- ---- each entry of a list whose first ones were restaged
module _ (stage_after : Stage → Stage) (most : ℕ) (entries : List Entry) (few : most ≤ length entries) where
  front_long : length (with_stages stage_after (take most entries)) ≡ most
  front_long = length-map (take most entries) (with_stage stage_after) ∙ length-take-le most entries few

  pub first_long : length (first_restaged most stage_after entries) ≡ length entries
  first_long =
      let both = length-append (with_stages stage_after (take most entries)) (drop most entries) in
      let front = front_long in
      let back = length-drop most entries in
      omega (arith, both, front, back, few)

  pub at_front : (i : ℕ) (d : Entry) → i < most → get_or (first_restaged most stage_after entries) i d ≡ with_stage stage_after (get_or entries i d)
  at_front i d lt =
      let within : i < length (with_stages stage_after (take most entries)) = rw front_long lt in
      let short : i < length (take most entries) = rw (length-take-le most entries few) lt in
      get_or_append_left (with_stages stage_after (take most entries)) (drop most entries) d i within ∙ get_or-map (with_stage stage_after) (take most entries) i d
      d short ∙ ap (with_stage stage_after) (get_or-take most entries i d lt)

  pub at_back : (i : ℕ) (d : Entry) → most ≤ i → get_or (first_restaged most stage_after entries) i d ≡ get_or entries i d
  at_back i d le =
      let place : most + (i - most) ≡ i = omega (arith, le) in
      get_or-append_right (with_stages stage_after (take most entries)) (drop most entries) most i d front_long le ∙ get_or-drop most entries (i - most) d ∙ ap (λ k. get_or entries k d) place

  -- what no other stage changes stays
  pub stays : {X : Type 0} (P : Entry → X) → ((entry : Entry) → P (with_stage stage_after entry) ≡ P entry) → (i : ℕ) (d : Entry)
      → P (get_or (first_restaged most stage_after entries) i d) ≡ P (get_or entries i d)
  stays P same i d = elim (cases_lt i most) [
    | inl lt ↦ ap P (at_front i d lt) ∙ same (get_or entries i d)
    | inr le ↦ ap P (at_back i d le)
  ]

pub all_first : (stage_after : Stage → Stage) (entries : List Entry) (most : ℕ) → length entries ≤ most → first_restaged most stage_after entries ≡ with_stages stage_after entries
all_first stage_after entries most all = rw (take_all most entries all, drop_all most entries all) (append-nil (with_stages stage_after entries))

-- one entry more has its new stage
pub restaged_next : (stage_after : Stage → Stage) (before queue after : Queue) (place : ℕ) (stage : Stage) (d : Entry) → place < length before.entries
    → queue ≡ record before { entries = first_restaged place stage_after before.entries } → stage ≡ stage_after (get_or queue.entries place d).stage
    → after ≡ record queue { entries = set queue.entries place (record (get_or queue.entries place d) { stage = stage }) }
    → after ≡ record before { entries = first_restaged (place + 1) stage_after before.entries }
restaged_next stage_after before queue after place stage d lt was staged is =
    let entries : queue.entries ≡ first_restaged place stage_after before.entries = ap (λ (queue : Queue). queue.entries) was in
    let room : queue.room ≡ before.room = ap (λ (queue : Queue). queue.room) was in
    let few : place ≤ length before.entries = omega (arith, lt) in
    let long : length queue.entries ≡ length before.entries = ap length entries ∙ first_long stage_after place before.entries few in
    let next : set queue.entries place (with_stage stage_after (get_or queue.entries place d)) ≡ first_restaged (place + 1) stage_after before.entries = map_over_more
    (with_stage stage_after) before.entries queue.entries place (get_or queue.entries place d) lt entries
    (get_or_default queue.entries place d (get_or queue.entries place d) (rw long lt)) in
    is ∙ rw (staged, next, room) refl

-- ---- stamps
keeps_stamp : (epoch : ℕ) (stage : Stage) → is_unstamped stage ≡ false → stamped_by epoch stage ≡ stage
keeps_stamp epoch Unstamped stamped = cc
keeps_stamp epoch (Stamped stamp) stamped = refl
keeps_stamp epoch (Passed stamp) stamped = refl

has_stamp : (epoch : ℕ) (stage : Stage) → is_unstamped (stamped_by epoch stage) ≡ false
has_stamp epoch Unstamped = refl
has_stamp epoch stage = refl

stamped_passed : (epoch : ℕ) (stage : Stage) → is_passed (stamped_by epoch stage) ≡ is_passed stage
stamped_passed epoch Unstamped = refl
stamped_passed epoch stage = refl

-- what has a stamp keeps it
pub first_stamped : (epoch from : ℕ) (entries : List Entry) → from ≤ length entries → AreStamped (take from entries) → first_restaged from (stamped_by epoch) entries ≡ entries
first_stamped epoch from entries few stamped =
    let same : with_stages (stamped_by epoch) (take from entries) ≡ take from entries = map_fixed (with_stage (stamped_by epoch)) (take from entries)
    (λ i d lt. ap (λ (stage : Stage). record (get_or (take from entries) i d) { stage = stage }) (keeps_stamp epoch (get_or (take from entries) i d).stage (stamped i d lt)))
    in
    rw same (take-append-drop from entries)

-- All before an entry with a stamp have one.
pub stamped_before : (entries : List Entry) → AreLastUnstamped entries → (place : ℕ) (d : Entry) → place < length entries
    → is_unstamped (get_or entries place d).stage ≡ false → AreStamped (take (place + 1) entries)
stamped_before entries last place d lt stamped i e within =
    let before : i < place + 1 = rw (length-take-le (place + 1) entries (omega (arith, lt))) at within in
    rw (get_or-take (place + 1) entries i e before) (elim (cases_lt i place) [
      | inl earlier ↦ elim (cases_Bool (is_unstamped (get_or entries i e).stage)) [
        | inl unstamped ↦ absurd (let h : is_unstamped (get_or entries place e).stage ≡ true = last i place e earlier lt unstamped in let same : get_or entries
            place d ≡ get_or entries place e = get_or_default entries place d e lt in let k : is_unstamped (get_or entries place e).stage ≡ false = rw same at
            stamped in let z : true ≡ false = sym h ∙ k in cc)
        | inr has ↦ has
      ]
      | inr later ↦
          let at : i ≡ place = omega (arith, before, later) in
          rw (at, get_or_default entries place e d lt) stamped
    ])

-- ---- comparing
compared_unstamped : (announces : List ℕ) (stage : Stage) → is_unstamped (compared_with announces stage) ≡ is_unstamped stage
compared_unstamped announces Unstamped = refl
compared_unstamped announces (Stamped stamp) = elim (may_be_freed stamp announces) as (λ b. is_unstamped (if b then Passed stamp else Stamped stamp) ≡ false) [ true ↦ refl | false ↦ refl ]
compared_unstamped announces (Passed stamp) = elim (may_be_freed stamp announces) as (λ b. is_unstamped (if b then Passed stamp else Stamped stamp) ≡ false) [ true ↦ refl | false ↦ refl ]

-- ---- a list stays one
pub stamped_kept : (limit compared epoch : ℕ) (queue : Queue) → IsKeptList limit compared queue → IsKeptList limit compared (record queue { entries = with_stages (stamped_by epoch) queue.entries })
stamped_kept limit compared epoch queue kept = record {
  list = renewed_is_list (record { limit = limit; entries = queue.entries }) (with_stages stage queue.entries) long (λ i d lt. ap (λ (entry : Entry). entry.number) (at i d lt)) kept.list;
  room = kept.room;
  front = rw long kept.front;
  others = λ i d lt.
      let short : i < length (drop compared queue.entries) = (let a = length-drop compared (with_stages stage queue.entries) in let b = length-drop compared
      queue.entries in omega (arith, a, b, lt, long)) in
      let within : compared + i < length queue.entries = (let b = length-drop compared queue.entries in omega (arith, b, short)) in
      ap (λ (entry : Entry). is_passed entry.stage) (get_or-drop compared (with_stages stage queue.entries) i d ∙ at (compared + i) d within) ∙ stamped_passed
      epoch (get_or queue.entries (compared + i) d).stage ∙ ap (λ (entry : Entry). is_passed entry.stage) (sym (get_or-drop compared queue.entries i d)) ∙
      kept.others i d short;
  last = λ i j d before within.
      let lt : i < length queue.entries = omega (arith, before, within, long) in
      λ unstamped. absurd (let h : false ≡ true = sym (has_stamp epoch (get_or queue.entries i d).stage) ∙ ap (λ (entry : Entry). is_unstamped entry.stage) (sym (at i d lt)) ∙ unstamped in cc);
}
  where
    stage : Stage → Stage
    stage = stamped_by epoch

    long : length (with_stages stage queue.entries) ≡ length queue.entries
    long = length-map queue.entries (with_stage stage)

    at : (i : ℕ) (d : Entry) → i < length queue.entries → get_or (with_stages stage queue.entries) i d ≡ with_stage stage (get_or queue.entries i d)
    at i d lt = get_or-map (with_stage stage) queue.entries i d d lt

pub compared_kept : (limit compared most now : ℕ) (announces : List ℕ) (queue : Queue) → most ≤ length queue.entries → most ≤ now → compared ≤ now
    → now ≤ length queue.entries → IsKeptList limit compared queue
    → IsKeptList limit now (record queue { entries = first_restaged most (compared_with announces) queue.entries })
compared_kept limit compared most now announces queue few above over within kept = record {
  list = renewed_is_list (record { limit = limit; entries = queue.entries }) after long (λ i d lt. stays stage most queue.entries few (λ (entry : Entry). entry.number) (λ entry. refl) i d) kept.list;
  room = kept.room;
  front = rw long within;
  others = λ i d lt.
      let a = length-drop now after in
      let b = length-drop compared queue.entries in
      let short : now - compared + i < length (drop compared queue.entries) = omega (arith, a, b, lt, long, over) in
      let place : compared + (now - compared + i) ≡ now + i = omega (arith, over) in
      let same : get_or (drop now after) i d ≡ get_or (drop compared queue.entries) (now - compared + i) d = get_or-drop now after i d ∙ at_back stage most
      queue.entries few (now + i) d (omega (arith, above)) ∙ ap (λ k. get_or queue.entries k d) (sym place) ∙ sym
      (get_or-drop compared queue.entries (now - compared + i) d) in
      rw same (kept.others (now - compared + i) d short);
  last = λ i j d before lt unstamped.
      unstamped_same j d ∙ kept.last i j d before (rw long at lt) (sym (unstamped_same i d) ∙ unstamped);
}
  where
    stage : Stage → Stage
    stage = compared_with announces

    after : List Entry
    after = first_restaged most stage queue.entries

    long : length after ≡ length queue.entries
    long = first_long stage most queue.entries few

    unstamped_same : (i : ℕ) (d : Entry) → is_unstamped (get_or after i d).stage ≡ is_unstamped (get_or queue.entries i d).stage
    unstamped_same i d = stays stage most queue.entries few (λ (entry : Entry). is_unstamped entry.stage) (λ entry. compared_unstamped announces entry.stage) i d
