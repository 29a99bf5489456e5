-- What one operation makes of what seats know: nothing that was seen is forgotten.
use Rattle.table_rule.proofs.Words.{Content, Done, Each, Entry, ExtendsFor, Idle, IsLater, IsRefreshed, Limits, List, Mine, Moment, None, Noted, Part, Reach}
use Rattle.table_rule.proofs.Words.{Record, Row, SitsAt, Some, StartsWith, StepOf, TakesStep, Writing, ap, at_last, at_longer, cuts, dite, first_part}
use Rattle.table_rule.proofs.Words.{get_elem?, get_or, joins, length, map, next, notes, other_parts, part, part_note, refl, same, seen_of, set, set_else}
use Rattle.table_rule.proofs.Words.{slice_get, some, stepped, steps, subst, suc, sym, with_run, zero, ℕ, ℕ_discrete, [], ◌++◌, ◌∙◌, ◌∷◌, ◌≡◌, ◌≢◌}
use Rattle.atomic_table.specs.Table.{carried_after}
use Rattle.atomic_table.proofs.Lists.{set_again}
use Rattle.tree_words.specs.Changes.{answer_by}
use Rattle.table_rule.specs.Growing.{HasSeen, SeesOn}
use Rattle.table_rule.specs.Moments.{Operates, AllowedOperate, OperationsTurn, Turns, with_views, places, sees, looks, turns, seats, lets_go}
use Rattle.table_rule.specs.Steps.{Watched}
use Rattle.table_rule.proofs.Parts.{events, starts_self, starts_on, with_events}
use Rattle.table_rule.proofs.Roster.{same_view, set_at}

-- a seat or a note: the run goes on from what was seen
pub starts : (reach : Reach) (actor : ℕ) (seen run : List Entry) → ExtendsFor reach actor seen run → StartsWith run seen
starts Idle actor seen run goes = (goes.0, goes.1)
starts (Writing row first words) actor seen run goes = (goes.0, goes.1)
starts Noted actor seen run goes = goes

-- Of each part of the view there is one of the same actor in the other view, which has seen that and maybe more.
abbrev pub PartsOn : List Part → List Part → Type 0
PartsOn view view' = (place : ℕ) (old : Part) → slice_get view place ≡ Some old
    → (place' : ℕ) × (new : Part) × (slice_get view' place' ≡ Some new) × (new.actor ≡ old.actor) × StartsWith new.seen old.seen

abbrev pub SeeOn : List (List Part) → List (List Part) → Type 0
SeeOn views views' = (actor : ℕ) (seen : List Entry) → HasSeen views actor seen → (run : List Entry) × HasSeen views' actor run × StartsWith run seen

pub only : (one other : Part) (place : ℕ) → slice_get (one ∷ []) place ≡ Some other → one ≡ other
only one other zero there = cc
only one other (suc place) there = cc

alone_on : (limits : Limits) (actor : ℕ) (reach reach' : Reach) (me me' : Mine) → SitsAt limits actor reach me → SitsAt limits actor reach' me'
    → StartsWith (seen_of me') (seen_of me) → PartsOn me.0 me'.0
alone_on limits actor reach reach' me me' sat sits grows place old there =
    let is : part limits actor (seen_of me) reach ≡ old = only (part limits actor (seen_of me) reach) old place (rw sat at there) in (
      0,
      part limits actor (seen_of me') reach',
      ap (λ (m : Mine). slice_get m.0 0) sits,
      ap (λ (p : Part). p.actor) is,
      rw (← is) grows,
    )

took_grows : (law : Limits → List Entry → Type 0) (me me' : Mine) (took : TakesStep law me me') → StartsWith (seen_of me') (seen_of me)
took_grows law me me' h =
    let run : List Entry = h.took.run in
    starts_on (seen_of me) run (seen_of me') (h.took.extends.0, h.took.extends.1)
    (events h.actor h.begun h.step h.answer h.reply, h.took.grown ∙ with_events run h.actor h.begun h.step h.answer h.reply)

mapped : (run : List Entry) (view : List Part) → Each (λ p. ExtendsFor p.reach p.actor p.seen run) view → PartsOn view (map (with_run run) view)
mapped run [] each place old there = cc
mapped run (first ∷ view) each zero old there = let is : first ≡ old = cc in rw (← is)
    (0, with_run run first, refl, refl, starts first.reach first.actor first.seen run each.0)
mapped run (first ∷ view) each (suc place) old there = let rest = mapped run view each.1 place old there in (suc rest.0, rest.1, rest.2, rest.3, rest.4)

stays_on : (view : List Part) → PartsOn view view
stays_on view place old there = (place, old, there, refl, starts_self old.seen)

pub turns_on : (law : Limits → List Entry → Type 0) (me me' : Mine) → Turns law me me' → PartsOn me.0 me'.0
turns_on law me me' (steps h) = alone_on h.limits h.actor h.reach Idle me me' h.sat h.sits (took_grows law me me' h)
turns_on law me me' (places h) = alone_on h.limits h.actor h.reach h.reach' me me' h.sat h.sits (rw h.saw (starts_self (seen_of me)))
turns_on law me me' (sees limits h) = rw h.saw (mapped h.run me.0 h.extends)
turns_on law me me' (looks is) = rw is (stays_on me.0)

-- a part among the views that has seen as much
found : (views : List (List Part)) (actor : ℕ) (seen : List Entry) (id : ℕ) (view : List Part) (place : ℕ) (one : Part) → get_elem? views id ≡ some view → slice_get view place ≡ Some one
    → one.actor ≡ actor → StartsWith one.seen seen → (run : List Entry) × HasSeen views actor run × StartsWith run seen
found views actor seen id view place one at there own grows = (
  one.seen,
  record { id = id; view = view; at = at; place = place; part = one; there = there; own = own; saw = refl },
  grows,
)

-- the part that is meant, where it stands now
kept : (views views' : List (List Part)) (actor : ℕ) (seen : List Entry) (h : HasSeen views actor seen) (id : ℕ) (view : List Part) (place : ℕ) (one : Part) → get_elem? views' id ≡ some view
    → slice_get view place ≡ Some one → one.actor ≡ h.part.actor → StartsWith one.seen h.part.seen → (run : List Entry) × HasSeen views' actor run × StartsWith run seen
kept views views' actor seen h id view place one at there own grows = found views' actor seen id view place one at there (own ∙ h.own) (subst (StartsWith one.seen) h.saw grows)

on_self : (views : List (List Part)) → SeeOn views views
on_self views actor seen h = (seen, h, starts_self seen)

on_then : (one two three : List (List Part)) → SeeOn one two → SeeOn two three → SeeOn one three
on_then one two three first second actor seen h =
    let now = first actor seen h in
    let later = second actor now.0 now.1 in (later.0, later.1, starts_on seen now.0 later.0 now.2 later.2)

pub on_set : (views : List (List Part)) (id : ℕ) (view view' : List Part) → get_elem? views id ≡ some view → PartsOn view view' → SeeOn views (set views id view')
on_set views id view view' at on actor seen h = dite (ℕ_discrete h.id id)
    (λ e. let is : view ≡ h.view = same_view views id h.id view h.view at h.at e in
    let now = on h.place h.part (rw is h.there) in
    kept views (set views id view') actor seen h id view' now.0 now.1 (set_at views id view view' at) now.2 now.3 now.4)
    (λ ne. kept views (set views id view') actor seen h h.id h.view h.place h.part (set_else views id h.id view' ne ∙ h.at) h.there refl (starts_self h.part.seen))

on_longer : (views more : List (List Part)) → SeeOn views (views ++ more)
on_longer views more actor seen h = kept views (views ++ more) actor seen h h.id h.view h.place h.part (at_longer views more h.id h.view h.at) h.there refl (starts_self h.part.seen)

on_cut : (views : List (List Part)) (id : ℕ) (view : List Part) → get_elem? views id ≡ some view → SeeOn views (set views id (first_part view) ++ other_parts view ∷ [])
on_cut views id view at actor seen h = dite (ℕ_discrete h.id id)
    (λ e. let is : view ≡ h.view = same_view views id h.id view h.view at h.at e in by view h.place at (rw is h.there))
    (λ ne. kept views (first ++ other_parts view ∷ []) actor seen h h.id h.view h.place h.part
    (at_longer first (other_parts view ∷ []) h.id h.view (set_else views id h.id (first_part view) ne ∙ h.at)) h.there refl (starts_self h.part.seen))
  where
    first : List (List Part)
    first = set views id (first_part view)

    by : (v : List Part) (place : ℕ) → get_elem? views id ≡ some v → slice_get v place ≡ Some h.part
        → (run : List Entry) × HasSeen (set views id (first_part v) ++ other_parts v ∷ []) actor run × StartsWith run seen
    by [] place at there = cc
    by (p ∷ ps) zero at there = kept views (set views id (p ∷ []) ++ ps ∷ []) actor seen h id (p ∷ []) 0 h.part
        (at_longer (set views id (p ∷ [])) (ps ∷ []) id (p ∷ []) (set_at views id (p ∷ ps) (p ∷ []) at)) there refl (starts_self h.part.seen)
    by (p ∷ ps) (suc place) at there = kept views (set views id (p ∷ []) ++ ps ∷ []) actor seen h (length (set views id (p ∷ []))) ps place h.part
        (at_last (set views id (p ∷ [])) ps (length (set views id (p ∷ []))) refl) there refl (starts_self h.part.seen)

on_note : (views : List (List Part)) (id : ℕ) (view : List Part) → get_elem? views id ≡ some view → SeeOn views (set views id view ++ part_note view ∷ [])
on_note views id view at = rw (set_again views id view at) (on_longer views (part_note view ∷ []))

left_of : (front back : List Part) (place : ℕ) (one : Part) → slice_get front place ≡ Some one → slice_get (front ++ back) place ≡ Some one
left_of [] back place one there = cc
left_of (p ∷ ps) back zero one there = there
left_of (p ∷ ps) back (suc place) one there = left_of ps back place one there

right_of : (front back : List Part) (place : ℕ) (one : Part) → slice_get back place ≡ Some one → (place' : ℕ) × (slice_get (front ++ back) place' ≡ Some one)
right_of [] back place one there = (place, there)
right_of (p ∷ ps) back place one there = let rest = right_of ps back place one there in (suc rest.0, rest.1)

on_join : (views : List (List Part)) (id other : ℕ) (view others : List Part) → get_elem? views id ≡ some view → other ≢ id → get_elem? views other ≡ some others
    → SeeOn views (set (set views id (view ++ others)) other [])
on_join views id other view others at ne there actor seen h = dite (ℕ_discrete h.id id)
    (λ e. let is : view ≡ h.view = same_view views id h.id view h.view at h.at e in
    kept views last actor seen h id (view ++ others) h.place h.part here
    (left_of view others h.place h.part (rw is h.there)) refl (starts_self h.part.seen))
    (λ nid. dite (ℕ_discrete h.id other)
    (λ e. let is : others ≡ h.view = same_view views other h.id others h.view there h.at e in
    let moved = right_of view others h.place h.part (rw is h.there) in
    kept views last actor seen h id (view ++ others) moved.0 h.part here moved.1 refl (starts_self h.part.seen))
    (λ nother. kept views last actor seen h h.id h.view h.place h.part
    (set_else first other h.id [] nother ∙ set_else views id h.id (view ++ others) nid ∙ h.at) h.there refl (starts_self h.part.seen)))
  where
    first : List (List Part)
    first = set views id (view ++ others)

    last : List (List Part)
    last = set first other []

    here : get_elem? last id ≡ some (view ++ others)
    here = set_else first other id [] (λ e. ne (sym e)) ∙ set_at views id view (view ++ others) at

operates_on : (law : Limits → List Entry → Type 0) (s t : Moment) → Operates law s t → SeeOn s.views t.views
operates_on law s t (turns id word number me view did at is turned) =
    rw is (on_set s.views id me.0 view at (turns_on law me (view, carried_after me.1 did) turned))
operates_on law s t (cuts id view at is) = rw is (on_cut s.views id view at)
operates_on law s t (notes id view at is) = rw is (on_note s.views id view at)
operates_on law s t (joins id other view others at ne there is) = rw is (on_join s.views id other view others at ne there)
operates_on law s t (seats is) = rw is (on_longer s.views ([] ∷ []))
operates_on law s t (lets_go is) = rw is (on_self s.views)

pub sees_on : (law : Limits → List Entry → Type 0) → SeesOn law
sees_on law s t later = by later
  where
    by : {t : Moment} → IsLater law s t → SeeOn s.views t.views
    by same = on_self s.views
    by (next m u before did) = on_then s.views m.views u.views (by before) (operates_on law m u did)

idle_stands : Idle ≢ Noted
idle_stands e = cc

writing_stands : (row first : ℕ) (words : List ℕ) → Writing row first words ≢ Noted
writing_stands row first words e = cc

-- a seat that has watched a word has seen the longest run
watched_sees : (law : Limits → List Entry → Type 0) (limits : Limits) (actor : ℕ) (step : StepOf Record) (found : ℕ) (me me' : Mine) → SitsAt limits actor Idle me → SitsAt limits actor Idle me'
    → Watched law limits actor (seen_of me) step found (seen_of me') → IsRefreshed (law limits) me me'
watched_sees law limits actor step found me me' sat sits h = record {
  run = seen_of me';
  legal = h.legal;
  begins = h.begins;
  saw = sits ∙ ap (λ (m : Mine). (map (with_run (seen_of me')) m.0, m.1)) (sym sat);
  extends = rw sat (h.extends, tt);
}

pub operations_turn : (law : Limits → List Entry → Type 0) → OperationsTurn law
operations_turn law = record {
  acts = λ limits actor begun step reply me me' found sat h. let told = h limits actor sat in steps record {
    limits = limits;
    actor = actor;
    reach = Idle;
    stands = idle_stands;
    sat = sat;
    sits = told.0;
    begun = begun;
    step = step;
    answer = answer_by step found;
    reply = reply;
    took = told.1;
  };
  reads = λ limits actor row made me me' found sat word h. let told = h limits actor row sat word in steps record {
    limits = limits;
    actor = actor;
    reach = Idle;
    stands = idle_stands;
    sat = sat;
    sits = told.0;
    begun = None;
    step = Row row;
    answer = Content told.1.0;
    reply = None;
    took = told.1.3;
  };
  looks = λ made me me' found h. looks h.0;
  watches = λ limits actor step made me me' found sat few has reads word h. let told = h limits actor step sat few has reads word in
      sees limits (watched_sees law limits actor step found me me' sat told.0 told.1);
  measures = λ limits actor row made me me' found sat word h. let told = h limits actor row sat word in places record {
    limits = limits;
    actor = actor;
    reach = Idle;
    reach' = Writing row found [];
    stands = idle_stands;
    stands' = writing_stands row found [];
    sat = sat;
    sits = told.0;
    saw = told.1;
  };
  begins = λ limits actor row made me me' found large sat word h. let told = h limits actor row large sat word in places record {
    limits = limits;
    actor = actor;
    reach = Idle;
    reach' = Writing row 0 (found ∷ []);
    stands = idle_stands;
    stands' = writing_stands row 0 (found ∷ []);
    sat = sat;
    sits = told.0;
    saw = told.1;
  };
  fills = λ limits actor row first written me me' found sat h. let told = h limits actor row first written sat in places record {
    limits = limits;
    actor = actor;
    reach = Writing row first written;
    reach' = Writing row first (written ++ found ∷ []);
    stands = writing_stands row first written;
    stands' = writing_stands row first (written ++ found ∷ []);
    sat = sat;
    sits = told.0;
    saw = told.1;
  };
  places = λ limits actor row first written step me me' found sat h. let told = h limits actor row first written sat in steps record {
    limits = limits;
    actor = actor;
    reach = Writing row first written;
    stands = writing_stands row first written;
    sat = sat;
    sits = told.0;
    begun = None;
    step = step;
    answer = Done;
    reply = None;
    took = told.1;
  };
  refreshes = λ limits made me me' found has h. let first : Part = has.0 in sees first.limits (h first has.1 has.2);
}

pub allowed_operate : (law : Limits → List Entry → Type 0) → AllowedOperate law
allowed_operate law = record {
  turns = λ limits slots id word me f allows s rule count at small.
      let did = allows s rule count at small in (
        stepped s word (f (get_or s.words word 0)) id me.1 did.0 did.1,
        turns id word (f (get_or s.words word 0)) me did.0 did.1 at refl did.4,
        did.3,
      );
  cuts = λ limits id view splits s rule at. (with_views s (set s.views id (first_part view) ++ other_parts view ∷ []), cuts id view at refl, splits s rule at);
  notes = λ limits id view splits s rule at. (with_views s (set s.views id view ++ part_note view ∷ []), notes id view at refl, splits s rule at);
  joins = λ limits id other view others joined s rule at ne there. (
    with_views s (set (set s.views id (view ++ others)) other []),
    joins id other view others at ne (sym (set_else s.views id other (view ++ others) ne) ∙ there) refl,
    joined s rule at ne there,
  );
  seats = λ limits slots word enters s rule count small.
      let new = enters s rule count small in (
        with_views s (s.views ++ new.0 ∷ []),
        seats (ap (λ (me : Mine). with_views s (s.views ++ me.0 ∷ [])) new.2),
        new.1,
      );
}
