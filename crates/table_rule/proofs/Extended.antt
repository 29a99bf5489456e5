-- A step is taken right after the longest run.
use Rattle.table_rule.proofs.Words.{Answer, Begin, Bool, Command, Each, Entry, Extends, Idle, IsSeen, Limits, List, Mine, Moment, None, Noted, Option, Part}
use Rattle.table_rule.proofs.Words.{Reach, Record, Reply, Running, Some, StartsWith, Step, StepOf, TakesStep, Writing, ap, append-nil, append_assoc, arith}
use Rattle.table_rule.proofs.Words.{dite, entry_actor, eq-eqb, get_elem?, if◌then◌else◌, inl, inr, is_entry_of, length, length-append, own_entries, part, refl}
use Rattle.table_rule.proofs.Words.{seen_of, set, set_else, slice_get, some, steps, subst, suc, sym, true, ℕ, ℕ_discrete, [], ◌++◌, ◌+◌, ◌<◌, ◌∙◌, ◌∷◌, ◌≡◌}
use Rattle.table_rule.proofs.Words.{◌≢◌, ◌≤◌, ◌⊎◌}
use Rattle.traces.proofs.OwnEntries.{extends_on, own_append, own_extends}
use Rattle.table_rule.specs.Growing.{HasSat, HasSeen, StepsExtendTheLongest}
use Rattle.table_rule.proofs.Growing.{begun_by, cancel, fronts, sat_extends}
use Rattle.table_rule.proofs.Later.{on_set, only, turns_on}
use Rattle.table_rule.proofs.Longest.{in_view, in_views, longest_seen, stands_as, whole}
use Rattle.table_rule.proofs.Parts.{Stands, events, starts_on, with_events}
use Rattle.table_rule.proofs.Roster.{each_left, same_view, set_at}

-- how many of the entries are the actor's
abbrev many : ℕ → List Entry → ℕ
many actor run = length (own_entries actor run)

many_on : (actor : ℕ) (front back : List Entry) → many actor (front ++ back) ≡ many actor front + many actor back
many_on actor front back = ap length (own_append actor front back) ∙ length-append (own_entries actor front) (own_entries actor back)

many_same : (actor : ℕ) (seen run : List Entry) → Extends actor seen run → many actor run ≡ many actor seen
many_same actor seen run extends = ap length (own_extends actor seen run extends)

none_of : (entries : List Entry) → length entries ≡ 0 → entries ≡ []
none_of [] none = refl
none_of (entry ∷ entries) none = absurd (omega arith)

some_first : (actor : ℕ) (entry : Entry) (rest : List Entry) → is_entry_of actor entry ≡ true → 1 ≤ many actor (entry ∷ rest)
some_first actor entry rest own =
    let is : many actor (entry ∷ rest) ≡ suc (many actor rest) = ap (λ (b : Bool). length (if b then entry ∷ own_entries actor rest else own_entries actor rest)) own in omega arith

-- the first of a step's entries is its actor's
first_own : (actor : ℕ) (begun : Option Command) (step : StepOf Record) (answer : Answer Record) (reply : Option Reply) (entry : Entry) (rest : List Entry)
    → entry ∷ rest ≡ events actor begun step answer reply → is_entry_of actor entry ≡ true
first_own actor None step answer reply entry rest is = let same : entry ≡ Step actor step answer reply = cc in ap (is_entry_of actor) same ∙ eq-eqb actor actor refl
first_own actor (Some command) step answer reply entry rest is = let same : entry ≡ Begin actor command = cc in ap (is_entry_of actor) same ∙ eq-eqb actor actor refl

some_event : (actor : ℕ) (begun : Option Command) (step : StepOf Record) (answer : Answer Record) (reply : Option Reply) → 1 ≤ many actor (events actor begun step answer reply)
some_event actor None step answer reply = some_first actor (Step actor step answer reply) [] (eq-eqb actor actor refl)
some_event actor (Some command) step answer reply = some_first actor (Begin actor command) (Step actor step answer reply ∷ []) (eq-eqb actor actor refl)

-- two runs of which each begins the other
both_ways : (run other : List Entry) → StartsWith run other → StartsWith other run → run ≡ other
both_ways run other one two =
    let long = ap length one.1 ∙ length-append other one.0 in
    let long' = ap length two.1 ∙ length-append run two.0 in
    let none : one.0 ≡ [] = none_of one.0 (omega arith) in
    one.1 ∙ ap (λ (more : List Entry). other ++ more) none ∙ append-nil other

not_noted : (reach : Reach) → Stands reach → reach ≢ Noted
not_noted Idle stands e = cc
not_noted (Writing row first words) stands e = cc
not_noted Noted stands e = absurd stands

-- where an actor's seat is among the views, and what it has seen
pub record Seated (views : List (List Part)) (actor : ℕ) : Type 0 where
  pub id : ℕ
  pub view : List Part
  pub at : get_elem? views id ≡ some view
  pub place : ℕ
  pub part : Part
  pub there : slice_get view place ≡ Some part
  pub own : part.actor ≡ actor
  pub stands : part.reach ≢ Noted

sat_by : (views : List (List Part)) (actor : ℕ) (h : Seated views actor) → HasSat views actor h.part.seen
sat_by views actor h = record {
  saw = record { id = h.id; view = h.view; at = h.at; place = h.place; part = h.part; there = h.there; own = h.own; saw = refl };
  stands = h.stands;
}

module _ (limits : Limits) (law : Limits → List Entry → Type 0) (s t : Moment) (now : Running limits (law limits) s) (later : Running limits (law limits) t) (id : ℕ) (me me' : Mine)
    (at : get_elem? s.views id ≡ some me.0) (is : t.views ≡ set s.views id me'.0) (did : TakesStep law me me') where
  abbrev actor : ℕ
  actor = did.actor

  abbrev run : List Entry
  run = did.took.run

  abbrev new : List Entry
  new = events did.actor did.begun did.step did.answer did.reply

  abbrev mine : Part
  mine = part did.limits did.actor (seen_of me') Idle

  seated : (limits : Limits) (m : Moment) (h : Running limits (law limits) m) (b : ℕ) → b < limits.actors → Seated m.views b
  seated limits m h b below =
      let found = in_views b m.views (h.somewhere b below) in
      let seat = in_view b found.1 found.3 in
      let stood = stands_as b seat.1.actor seat.1.reach seat.3 in
      record { id = found.0; view = found.1; at = found.2; place = seat.0; part = seat.1; there = seat.2; own = stood.1; stands = not_noted seat.1.reach stood.0 }

  saw_old : Extends actor (seen_of me) now.run
  saw_old = sat_extends limits (law limits) s now actor (seen_of me) record {
    saw = record {
      id = id;
      view = me.0;
      at = at;
      place = 0;
      part = part did.limits did.actor (seen_of me) did.reach;
      there = ap (λ (m : Mine). slice_get m.0 0) did.sat;
      own = refl;
      saw = refl;
    };
    stands = did.stands;
  }

  here : get_elem? t.views id ≡ some me'.0
  here = ap (λ vs. get_elem? vs id) is ∙ set_at s.views id me.0 me'.0 at

  grown : seen_of me' ≡ run ++ new
  grown = did.took.grown ∙ with_events run did.actor did.begun did.step did.answer did.reply

  begins_later : StartsWith later.run (seen_of me')
  begins_later = begun_by limits (law limits) t later actor (seen_of me') record {
    id = id;
    view = me'.0;
    at = here;
    place = 0;
    part = mine;
    there = ap (λ (m : Mine). slice_get m.0 0) did.sits;
    own = refl;
    saw = refl;
  }

  -- a part of that view is the one
  is_mine : (b : ℕ) (h : Seated t.views b) → h.id ≡ id → mine ≡ h.part
  is_mine b h e =
      let view : me'.0 ≡ h.view = same_view t.views id h.id me'.0 h.view here h.at e in
      only mine h.part h.place (rw (← sym view ∙ ap (λ (m : Mine). m.0) did.sits) h.there)

  -- a part of another view is as it was
  was : (b : ℕ) (h : Seated t.views b) → h.id ≢ id → HasSat s.views b h.part.seen
  was b h ne = record {
    saw = record {
      id = h.id;
      view = h.view;
      at = sym (set_else s.views id h.id me'.0 ne) ∙ ap (λ vs. get_elem? vs h.id) (sym is) ∙ h.at;
      place = h.place;
      part = h.part;
      there = h.there;
      own = h.own;
      saw = refl;
    };
    stands = h.stands;
  }

  grows : StartsWith later.run now.run
  grows =
      let found : IsSeen s.views now.run = longest_seen limits (law limits) s now in
      let had : HasSeen s.views found.part.actor now.run =
      record { id = found.id; view = found.view; at = found.at; place = found.place; part = found.part; there = found.there; own = refl; saw = found.saw } in
      let kept = on_set s.views id me.0 me'.0 at (turns_on law me me' (steps did)) found.part.actor now.run had in
      starts_on now.run kept.0 later.run kept.2
      (begun_by limits (law limits) t later found.part.actor kept.0 (rw is kept.1))

  -- the run of the moment before has no more entries of the actor's than were seen
  no_more : (more : List Entry) → now.run ≡ run ++ more → 1 ≤ many actor more → ⊥
  no_more more e has =
      let one = many_same actor (seen_of me) now.run saw_old in
      let two = many_same actor (seen_of me) run did.took.extends in
      let sum = ap (many actor) e ∙ many_on actor run more in absurd (omega arith)

  is_longest : later.run ≡ seen_of me'
  is_longest =
      let all = whole limits later.run later.actors in
      let h : Seated t.views all.0 = seated limits t later all.0 all.1 in
      let saw : h.part.seen ≡ later.run = all.2 h.part.seen (sat_extends limits (law limits) t later all.0 h.part.seen (sat_by t.views all.0 h)) in
      dite (ℕ_discrete h.id id)
      (λ e. sym saw ∙ ap (λ (p : Part). p.seen) (sym (is_mine all.0 h e)))
      (λ ne.
      let old : StartsWith now.run later.run = subst (StartsWith now.run) saw (begun_by limits (law limits) s now all.0 h.part.seen (was all.0 h ne).saw) in
      let whole_old : now.run ≡ run ++ (new ++ (begins_later.0 ++ old.0)) =
      old.1 ∙ ap (λ (r : List Entry). r ++ old.0) (begins_later.1 ∙ ap (λ (r : List Entry). r ++ begins_later.0) grown)
      ∙ append_assoc (run ++ new) begins_later.0 old.0 ∙ append_assoc run new (begins_later.0 ++ old.0) in
      let sum = many_on actor new (begins_later.0 ++ old.0) in
      let one = some_event did.actor did.begun did.step did.answer did.reply in
      absurd (no_more (new ++ (begins_later.0 ++ old.0)) whole_old (omega arith)))

  one_run : now.run ++ grows.0 ≡ run ++ new
  one_run = sym grows.1 ∙ is_longest ∙ grown

  -- the step's run is no longer than that of the moment before
  no_longer : (x : List Entry) → run ≡ now.run ++ x → StartsWith now.run run
  no_longer x longer =
      let actors : Each (λ entry. entry_actor entry < limits.actors) (run ++ new) = subst (Each (λ entry. entry_actor entry < limits.actors)) (is_longest ∙ grown) later.actors in
      let all = whole limits run (each_left (λ entry. entry_actor entry < limits.actors) run new actors) in
      let h : Seated t.views all.0 = seated limits t later all.0 all.1 in
      dite (ℕ_discrete h.id id)
      (λ e.
      let own : actor ≡ all.0 = ap (λ (p : Part). p.actor) (is_mine all.0 h e) ∙ h.own in
      let saw : seen_of me ≡ run = all.2 (seen_of me) (rw (← own) did.took.extends) in
      subst (StartsWith now.run) saw (saw_old.0, saw_old.1))
      (λ ne.
      let extends : Extends all.0 h.part.seen now.run = sat_extends limits (law limits) s now all.0 h.part.seen (was all.0 h ne) in
      let extends' : Extends all.0 h.part.seen later.run = sat_extends limits (law limits) t later all.0 h.part.seen (sat_by t.views all.0 h) in
      let one = many_same all.0 h.part.seen now.run extends in
      let two = many_same all.0 h.part.seen later.run extends' in
      let whole_later : later.run ≡ (now.run ++ x) ++ new = is_longest ∙ grown ∙ ap (λ (r : List Entry). r ++ new) longer in
      let sum = ap (many all.0) whole_later ∙ many_on all.0 (now.run ++ x) new in
      let sum' = many_on all.0 now.run x in
      let none : own_entries all.0 x ≡ [] = none_of (own_entries all.0 x) (omega arith) in
      let extends_run : Extends all.0 h.part.seen run = subst (Extends all.0 h.part.seen) (sym longer) (extends_on all.0 h.part.seen now.run x none extends) in
      let saw : h.part.seen ≡ run = all.2 h.part.seen extends_run in
      subst (StartsWith now.run) saw (extends.0, extends.1))

  is_now : run ≡ now.run
  is_now = by (fronts now.run run grows.0 new one_run)
    where
      by : StartsWith run now.run ⊎ ((entry : Entry) × (behind : List Entry) × (now.run ≡ run ++ entry ∷ behind)) → run ≡ now.run
      by (inl goes) = both_ways run now.run goes (no_longer goes.0 goes.1)
      by (inr goes) =
          let entry : Entry = goes.0 in
          let behind : List Entry = goes.1 in
          let both : run ++ (entry ∷ (behind ++ grows.0)) ≡ run ++ new = sym (append_assoc run (entry ∷ behind) grows.0) ∙ ap (λ (r : List Entry). r ++ grows.0) (sym goes.2) ∙ one_run in
          let first : entry ∷ (behind ++ grows.0) ≡ new = cancel run (entry ∷ (behind ++ grows.0)) new both in
          absurd (no_more (entry ∷ behind) goes.2
          (some_first actor entry behind (first_own did.actor did.begun did.step did.answer did.reply entry (behind ++ grows.0) first)))

pub steps_extend : (limits : Limits) (law : Limits → List Entry → Type 0) → StepsExtendTheLongest limits law
steps_extend limits law s t now later id me me' at is did = (is_now limits law s t now later id me me' at is did, is_longest limits law s t now later id me me' at is did)
