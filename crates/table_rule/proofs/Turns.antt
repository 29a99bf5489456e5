-- One turn of one seat keeps the rule, and so does a step of its actor.
use Rattle.table_rule.proofs.Words.{Allows, Answer, BeginWithSteps, Command, Each, Entry, Event, Extends, ExtendsFor, Idle, IsAnswer, IsLawfulStep, IsSettled}
use Rattle.table_rule.proofs.Words.{IsSpelledRow, KnowsPlaceable, Limits, List, Mine, Noted, Option, Part, PartFits, Reach, ReachFits, Record, Reply, Running}
use Rattle.table_rule.proofs.Words.{SitsAt, Some, SpellsWhere, StartsWith, StepOf, Took, Writing, alone, ap, arith, at_set, entry_actor, everywhere}
use Rattle.table_rule.proofs.Words.{extends_self, get_elem?, get_or, keeps, knows, memory_after, memory_of, one_width, part, refl, row_at, seen_of, set}
use Rattle.table_rule.proofs.Words.{set-get_or, some, stepped, subst, sym, width_of, with_step, words_in, ℕ, [], ⊎_elim, ◌++◌, ◌+◌, ◌<◌, ◌∙◌, ◌∷◌, ◌≡◌, ◌≢◌}
use Rattle.std.proofs.Common.{length-set}
use Rattle.atomic_table.specs.Table.{State}
use Rattle.table_rule.proofs.Parts.{IsApart, Stands, actors_events, apart_ne, each_append, each_zip, extends_goes, goes_extends, events, others_events}
use Rattle.table_rule.proofs.Parts.{with_events, memory_stepped, settled_back, spells_views, starts_on, starts_self, times_alone, times_of_one, everywhere_set}
use Rattle.table_rule.proofs.Parts.{elsewhere, begins_on, begins_events}
use Rattle.traces.proofs.OwnEntries.{extends_on, knows_extends, knows_on}

abbrev pub TableState : Type 0
TableState = State (Unit {0}) (List Part)

abbrev actor_in : List Part → ℕ → ℕ
actor_in [] default = default
actor_in (part ∷ parts) default = part.actor

abbrev limits_in : List Part → Limits → Limits
limits_in [] default = default
limits_in (part ∷ parts) default = part.limits

abbrev reach_in : List Part → Reach
reach_in [] = Idle
reach_in (part ∷ parts) = part.reach

-- a seat of one actor is that of no other, and of one tree
pub same_actor : (limits limits' : Limits) (actor other : ℕ) (reach reach' : Reach) (me : Mine) → SitsAt limits actor reach me → SitsAt limits' other reach' me → actor ≡ other
same_actor limits limits' actor other reach reach' me is is' = ap (λ (z : Mine). actor_in z.0 actor) (sym is ∙ is')

pub same_limits : (limits limits' : Limits) (actor other : ℕ) (reach reach' : Reach) (me : Mine) → SitsAt limits actor reach me → SitsAt limits' other reach' me → limits ≡ limits'
same_limits limits limits' actor other reach reach' me is is' = ap (λ (z : Mine). limits_in z.0 limits) (sym is ∙ is')

-- What a play says of the one actor it says of each that the seat may be taken for.
pub at_each : (P : Limits → ℕ → Reach → Type 0) (limits : Limits) (actor : ℕ) (reach : Reach) (me : Mine) → SitsAt limits actor reach me → P limits actor reach
    → (limits' : Limits) (actor' : ℕ) (reach' : Reach) → SitsAt limits' actor' reach' me → P limits' actor' reach'
at_each P limits actor reach me is p limits' actor' reach' is' =
    let same : reach ≡ reach' = ap (λ (z : Mine). reach_in z.0) (sym is ∙ is') in
    rw (← same_limits limits limits' actor actor' reach reach' me is is', ← same_actor limits limits' actor actor' reach reach' me is is', ← same) p

module _ (limits : Limits) (law : Limits → List Entry → Type 0) where
  abbrev pub Rule : TableState → Type 0
  Rule = Running limits (law limits)

  -- what a seat that stands there has seen the longest run goes on from, and the actor knows no more after that
  module _ (s : TableState) (h : Rule s) (id actor : ℕ) (seen : List Entry) (reach : Reach) (stands : Stands reach) (there : get_elem? s.views id ≡ some (alone limits actor seen reach)) where
    pub fits_now : PartFits limits s.words h.run (part limits actor seen reach)
    fits_now = (h.each id (alone limits actor seen reach) there).0

    pub extends_now : Extends actor seen h.run
    extends_now = goes_extends reach actor seen h.run stands fits_now.extends

    pub knows_now : knows h.run actor ≡ knows seen actor
    knows_now = knows_extends actor seen h.run extends_now

  -- what a step of the actor leaves to each other actor
  pub record Spares (actor : ℕ) (words words' : List ℕ) (run run' : List Entry) : Type 0 where
    pub grows : StartsWith run' run
    pub extends : (other : ℕ) (seen : List Entry) → other ≢ actor → Extends other seen run → Extends other seen run'
    pub same : (other : ℕ) → other ≢ actor → knows run' other ≡ knows run other
    pub writes : (other row : ℕ) → other ≢ actor → KnowsPlaceable (knows run other) row → row < limits.rows → (j : ℕ) → j < width_of limits row
        → get_or words' (row_at limits row j) 0 ≡ get_or words (row_at limits row j) 0
    pub records : (other row : ℕ) → other ≢ actor → KnowsPlaceable (knows run other) row → (memory_of limits run').rows row ≡ (memory_of limits run).rows row

  spared : (actor other : ℕ) (words words' : List ℕ) (seen run run' : List Entry) (reach : Reach) → IsApart actor other reach
      → Spares actor words words' run run' → ExtendsFor reach other seen run → ReachFits limits words run other reach
      → ExtendsFor reach other seen run' × ReachFits limits words' run' other reach
  spared actor other words words' seen run run' Idle apart spares goes fits = (spares.extends other seen (apart_ne actor other apart) goes, tt)
  spared actor other words words' seen run run' (Writing row first written) apart spares goes fits =
      let ne = apart_ne actor other apart in
      let short = fits.short in
      let stay : (j : ℕ) → j < width_of limits row → get_or words' (row_at limits row j) 0 ≡ get_or words (row_at limits row j) 0 = spares.writes other row ne fits.may fits.there in
      let still : (memory_of limits run).rows row ≡ (memory_of limits run').rows row = sym (spares.records other row ne fits.may) in (
        spares.extends other seen ne goes,
        record {
          may = rw (spares.same other ne) fits.may;
          there = fits.there;
          short = fits.short;
          old = λ kind. fits.old kind ∙ ap (λ o. get_or (words_in limits o) 0 0) still;
          front = λ j below. stay (j + 1) (omega arith) ∙ fits.front j below;
          behind = λ kind j above small. stay j (let is = (one_width limits kind row).1 in omega (arith, is, small)) ∙ fits.behind kind j above small ∙ ap (λ o. get_or (words_in limits o) j 0) still;
        },
      )
  spared actor other words words' seen run run' Noted apart spares goes fits = (starts_on seen run run' goes spares.grows, tt)

  part_spared : (actor : ℕ) (words words' : List ℕ) (run run' : List Entry) → Spares actor words words' run run' → (p : Part) → IsApart actor p.actor p.reach
      → PartFits limits words run p → PartFits limits words' run' p
  part_spared actor words words' run run' spares p apart fits = let kept = spared actor p.actor words words' p.seen run run' p.reach apart spares fits.extends fits.reach in record {
    extends = kept.0;
    reach = kept.1;
    there = fits.there;
    own_limits = fits.own_limits;
  }

  -- a load leaves all words as they are, and where the seat was idle, and no more rows are settled
  pub spares_quiet : (actor i : ℕ) (words : List ℕ) (run : List Entry) → Spares actor words (set words i (get_or words i 0)) run run
  spares_quiet actor i words run = record {
    grows = starts_self run;
    extends = λ other seen ne x. x;
    same = λ other ne. refl;
    writes = λ other row ne may within j small. ap (λ (u : List ℕ). get_or u (row_at limits row j) 0) (set-get_or words i 0);
    records = λ other row ne may. refl;
  }

  pub spells_quiet : (s : TableState) (h : Rule s) (id actor : ℕ) (seen : List Entry) → get_elem? s.views id ≡ some (alone limits actor seen Idle) → (at : ℕ) (view : List Part)
      → SpellsWhere limits (set s.words at (get_or s.words at 0)) (memory_of limits h.run) (IsSettled (set s.views id view))
  spells_quiet s h id actor seen there at view = rw (set-get_or s.words at 0)
      (spells_views limits s.words (memory_of limits h.run) (IsSettled s.views) (IsSettled (set s.views id view))
      (λ other st. settled_back s.views id limits actor seen Idle view other there tt st) h.spells)

  -- one turn: the word i becomes x, and the one seat has a new view
  pub turn : (s : TableState) (h : Rule s) (id actor : ℕ) (seen : List Entry) (reach : Reach) → Stands reach → get_elem? s.views id ≡ some (alone limits actor seen reach)
      → (carried : List (ℕ × Unit {0})) (i x : ℕ) (run' seen' : List Entry) (reach' : Reach) → Stands reach' → law limits run'
      → Spares actor s.words (set s.words i x) h.run run' → Extends actor seen' run'
      → ((row : ℕ) (content : Record) → (memory_of limits run').rows row ≡ Some content → IsSpelledRow limits row content)
      → BeginWithSteps run' → Each (λ entry. entry_actor entry < limits.actors) run' → ReachFits limits (set s.words i x) run' actor reach'
      → SpellsWhere limits (set s.words i x) (memory_of limits run') (IsSettled (set s.views id (alone limits actor seen' reach')))
      → Rule (stepped s i x id carried (alone limits actor seen' reach') keeps)
  turn s h id actor seen reach stands at carried i x run' seen' reach' stands' legal spares extends kept begins actors fits spells = let one = times_alone
      limits actor seen reach stands in let mine = h.each id (alone limits actor seen reach) at in record {
        run = run';
        legal = legal;
        wide = length-set s.words i x ∙ h.wide;
        spells = spells;
        kept = kept;
        begins = begins;
        actors = actors;
        once = λ b. let same = moved b in let o = h.once b in omega arith;
        somewhere = λ b below. let same = moved b in let o = h.somewhere b below in omega arith;
        each = λ j view here. ⊎_elim
            (λ t. rw (← t.1)
            (record { extends = extends_goes reach' actor seen' run' extends; reach = fits; there = mine.0.there; own_limits = mine.0.own_limits }, tt))
            (λ t. each_zip (λ p. IsApart actor p.actor p.reach) (PartFits limits s.words h.run) (PartFits limits (set s.words i x) run') (part_spared actor s.words (set s.words i x) h.run run' spares)
            view (elsewhere s.views id j (alone limits actor seen reach) view actor h.once at (omega arith) t.1 t.0) (h.each j view t.1))
            (at_set s.views id j (alone limits actor seen' reach') view here);
      } where
        moved : (b : ℕ) → everywhere b (set s.views id (alone limits actor seen' reach')) ≡ everywhere b s.views
        moved b = let t = everywhere_set s.views id (alone limits actor seen reach) (alone limits actor seen' reach') b at in
            let before = times_of_one limits b actor seen reach stands in let after = times_of_one limits b actor seen' reach' stands' in omega arith

  -- what has to be shown of a step at one state
  pub record Ready (s : TableState) (h : Rule s) (id actor i x : ℕ) (begun : Option Command) (step : StepOf Record) (answer : Answer Record) (reply : Option Reply) : Type 0 where
    pub answered : IsAnswer (memory_of limits h.run) step answer
    pub spells : (view : List Part) → view ≡ alone limits actor (with_step h.run actor begun step answer reply) Idle
        → SpellsWhere limits (set s.words i x) (memory_after actor step (memory_of limits h.run)) (IsSettled (set s.views id view))
    pub kept : (row : ℕ) (content : Record) → (memory_after actor step (memory_of limits h.run)).rows row ≡ Some content → IsSpelledRow limits row content
    pub writes : (other row : ℕ) → other ≢ actor → KnowsPlaceable (knows h.run other) row → row < limits.rows → (j : ℕ) → j < width_of limits row
        → get_or (set s.words i x) (row_at limits row j) 0 ≡ get_or s.words (row_at limits row j) 0
    pub records : (other row : ℕ) → other ≢ actor → KnowsPlaceable (knows h.run other) row → (memory_after actor step (memory_of limits h.run)).rows row ≡ (memory_of limits h.run).rows row

  -- a step, and all that it can tell
  pub event_telling : (slots id actor : ℕ) (me : Mine) (reach : Reach) (i : ℕ) (f : ℕ → ℕ) (begun : Option Command) (step : StepOf Record) (reply : Option Reply) (then : ℕ → Mine → Type 0)
      → Stands reach → SitsAt limits actor reach me → IsLawfulStep law limits actor (seen_of me) begun step reply
      → ((s : TableState) (h : Rule s) → get_elem? s.views id ≡ some (alone limits actor (seen_of me) reach)
      → (answer : Answer Record) × Ready s h id actor i (f (get_or s.words i 0)) begun step answer reply
      × ((me' : Mine) → SitsAt limits actor Idle me' → Took law limits actor (seen_of me) begun step answer reply (seen_of me') → then (get_or s.words i 0) me'))
      → Allows Rule slots id me i f then
  event_telling slots id actor me reach i f begun step reply then stands is may ready s h _ at _ =
      let at' : get_elem? s.views id ≡ some (alone limits actor (seen_of me) reach) = at ∙ ap (λ (z : Mine). some z.0) is in
      let fit = fits_now s h id actor (seen_of me) reach stands at' in
      let extends = extends_now s h id actor (seen_of me) reach stands at' in
      let t = ready s h at' in
      let answer : Answer Record = t.0 in
      let r = t.1 in
      let later : List Entry = with_step h.run actor begun step answer reply in
      let more : List Entry = events actor begun step answer reply in
      let grown : later ≡ h.run ++ more = with_events h.run actor begun step answer reply in
      let legal : law limits later = may h.run answer h.legal extends r.answered in
      let after : memory_of limits later ≡ memory_after actor step (memory_of limits h.run) = memory_stepped limits h.run actor begun step answer reply in
      let begins : BeginWithSteps later = subst BeginWithSteps (sym grown) (begins_on h.run more h.begins (begins_events actor begun step answer reply)) in
      let spares : Spares actor s.words (set s.words i (f (get_or s.words i 0))) h.run later = record {
        grows = (more, grown);
        extends = λ other seen ne x. subst (Extends other seen) (sym grown) (extends_on other seen h.run more (others_events actor other begun step answer reply ne) x);
        same = λ other ne. ap (λ (run : List Entry). knows run other) grown ∙ knows_on other h.run more (others_events actor other begun step answer reply ne);
        writes = r.writes;
        records = λ other row ne mine. ap (λ m. m.rows row) after ∙ r.records other row ne mine;
      } in (
        alone limits actor later Idle,
        keeps,
        tt,
        turn s h id actor (seen_of me) reach stands at' me.1 i (f (get_or s.words i 0)) later later Idle tt legal spares (extends_self actor later)
            (rw after r.kept)
            begins (subst (Each (λ entry. entry_actor entry < limits.actors)) (sym grown)
            (each_append (λ entry. entry_actor entry < limits.actors) h.run more h.actors (actors_events limits actor begun step answer reply fit.there)))
            tt
            (rw after (r.spells _ refl)),
        t.2 (alone limits actor later Idle, me.1) (ap (λ (c : List (ℕ × Unit {0})). (alone limits actor later Idle, c)) (ap (λ (z : Mine). z.1) is))
            record { run = h.run; legal = h.legal; extends = extends; answered = r.answered; grown = refl; begins = begins; kept = legal },
      )

  -- where the answer is known from the number found
  pub event : (slots id actor : ℕ) (me : Mine) (i : ℕ) (f : ℕ → ℕ) (begun : Option Command) (step : StepOf Record) (reply : Option Reply) (got : ℕ → Answer Record)
      → SitsAt limits actor Idle me → IsLawfulStep law limits actor (seen_of me) begun step reply
      → ((s : TableState) (h : Rule s) → get_elem? s.views id ≡ some (alone limits actor (seen_of me) Idle) → Ready s h id actor i (f (get_or s.words i 0)) begun step (got (get_or s.words i 0)) reply)
      → Allows Rule slots id me i f (λ found me'. Event law begun step reply Idle me (got found) me')
  event slots id actor me i f begun step reply got is may ready = event_telling slots id actor me Idle i f begun step reply (λ found me'. Event law begun step reply Idle me (got found) me') tt is may
      (λ s h at. (
        got (get_or s.words i 0),
        ready s h at,
        λ me' is' took limits' other. at_each
            (λ l b _. SitsAt l b Idle me' × Took law l b (seen_of me) begun step (got (get_or s.words i 0)) reply (seen_of me')) limits actor Idle me is
            (is', took) limits' other Idle,
      ))
