-- Lists of parts, and runs that go on.
use Rattle.table_rule.proofs.Words.{Answer, Begin, BeginWithSteps, Bool, Command, Each, Entry, Extends, ExtendsFor, Idle, IsSettled, LeavesRow, Limits, List}
use Rattle.table_rule.proofs.Words.{Memory, None, Noted, Option, Part, Reach, Record, Reply, Some, SpellsWhere, StartsWith, Step, StepOf, Writing, alone, ap}
use Rattle.table_rule.proofs.Words.{append-nil, append_assoc, arith, dite, entry_actor, eq-eqb, eqb, everywhere, false, get_elem?, if◌then◌else◌, is_at}
use Rattle.table_rule.proofs.Words.{is_entry_of, memory_after, memory_of, ne_eqb, refl, set, set_else, some, some-injective, some-ne-none, suc, sym, times}
use Rattle.table_rule.proofs.Words.{with_step, zero, ℕ, ℕ_discrete, [], ◌++◌, ◌+◌, ◌<◌, ◌∙◌, ◌∷◌, ◌≡◌, ◌≢◌, ◌≤◌}
use Rattle.std.specs.Prelude.{⊤}
use Rattle.table_rule.specs.Running.{GoesOnWithStep}
use Rattle.table_rule.specs.Steps.{begin_before}
use Rattle.traces.proofs.OwnEntries.{AreOthers, others_append}
use Rattle.traces.proofs.TraceLaws.{memory_of-push}

pub each_map : {A : Type 0} (P Q : A → Type 0) → ((x : A) → P x → Q x) → (xs : List A) → Each P xs → Each Q xs
each_map P Q f [] t = tt
each_map P Q f (x ∷ xs) t = (f x t.0, each_map P Q f xs t.1)

pub each_zip : {A : Type 0} (P Q R : A → Type 0) → ((x : A) → P x → Q x → R x) → (xs : List A) → Each P xs → Each Q xs → Each R xs
each_zip P Q R f [] t u = tt
each_zip P Q R f (x ∷ xs) t u = (f x t.0 u.0, each_zip P Q R f xs t.1 u.1)

pub each_append : {A : Type 0} (P : A → Type 0) (xs ys : List A) → Each P xs → Each P ys → Each P (xs ++ ys)
each_append P [] ys t u = u
each_append P (x ∷ xs) ys t u = (t.0, each_append P xs ys t.1 u)

pub starts_self : (run : List Entry) → StartsWith run run
starts_self run = ([], sym (append-nil run))

pub starts_on : (seen run later : List Entry) → StartsWith run seen → StartsWith later run → StartsWith later seen
starts_on seen run later a b = (a.0 ++ b.0, b.1 ∙ ap (λ (es : List Entry). es ++ b.0) a.1 ∙ append_assoc seen a.0 b.0)

-- Steps are taken where a seat stands, and not where a note is.
abbrev pub Stands : Reach → Type 0
Stands Idle = ⊤
Stands (Writing row first words) = ⊤
Stands Noted = ⊥

pub goes_extends : (reach : Reach) (actor : ℕ) (seen run : List Entry) → Stands reach → ExtendsFor reach actor seen run → Extends actor seen run
goes_extends Idle actor seen run stands goes = goes
goes_extends (Writing row first words) actor seen run stands goes = goes
goes_extends Noted actor seen run stands goes = absurd stands

pub extends_goes : (reach : Reach) (actor : ℕ) (seen run : List Entry) → Extends actor seen run → ExtendsFor reach actor seen run
extends_goes Idle actor seen run extends = extends
extends_goes (Writing row first words) actor seen run extends = extends
extends_goes Noted actor seen run extends = (extends.0, extends.1)

-- the begin, if there is one, and the step, which are of the actor alone
abbrev pub events : ℕ → Option Command → StepOf Record → Answer Record → Option Reply → List Entry
events actor begun step answer reply = begin_before actor begun ++ Step actor step answer reply ∷ []

none_of_one : (actor : ℕ) (entry : Entry) → is_entry_of actor entry ≡ false → AreOthers actor (entry ∷ [])
none_of_one actor entry e = rw e refl

others_begin : (actor other : ℕ) (begun : Option Command) → other ≢ actor → AreOthers other (begin_before actor begun)
others_begin actor other None ne = refl
others_begin actor other (Some command) ne = none_of_one other (Begin actor command) (ne_eqb other actor ne)

pub others_events : (actor other : ℕ) (begun : Option Command) (step : StepOf Record) (answer : Answer Record) (reply : Option Reply) → other ≢ actor
    → AreOthers other (events actor begun step answer reply)
others_events actor other begun step answer reply ne =
    others_append other (begin_before actor begun) (Step actor step answer reply ∷ []) (others_begin actor other begun ne) (none_of_one other (Step actor step answer reply) (ne_eqb other actor ne))

pub with_events : (run : List Entry) (actor : ℕ) (begun : Option Command) (step : StepOf Record) (answer : Answer Record) (reply : Option Reply)
    → with_step run actor begun step answer reply ≡ run ++ events actor begun step answer reply
with_events run actor begun step answer reply = append_assoc run (begin_before actor begun) (Step actor step answer reply ∷ [])

-- More entries, which begin with steps too, leave each begin with its step.
goes_on_with : (actor : ℕ) (run more : List Entry) → GoesOnWithStep actor run → GoesOnWithStep actor (run ++ more)
goes_on_with actor [] more goes = absurd goes
goes_on_with actor (Begin other command ∷ rest) more goes = absurd goes
goes_on_with actor (Step other step answer reply ∷ rest) more goes = goes

pub begins_on : (run more : List Entry) → BeginWithSteps run → BeginWithSteps more → BeginWithSteps (run ++ more)
begins_on [] more begins rest = rest
begins_on (Begin actor command ∷ run) more begins rest = (goes_on_with actor run more begins.0, begins_on run more begins.1 rest)
begins_on (Step actor step answer reply ∷ run) more begins rest = begins_on run more begins rest

pub begins_events : (actor : ℕ) (begun : Option Command) (step : StepOf Record) (answer : Answer Record) (reply : Option Reply) → BeginWithSteps (events actor begun step answer reply)
begins_events actor None step answer reply = tt
begins_events actor (Some command) step answer reply = (refl, tt)

pub actors_events : (limits : Limits) (actor : ℕ) (begun : Option Command) (step : StepOf Record) (answer : Answer Record) (reply : Option Reply) → actor < limits.actors
    → Each (λ entry. entry_actor entry < limits.actors) (events actor begun step answer reply)
actors_events limits actor None step answer reply there = (there, tt)
actors_events limits actor (Some command) step answer reply there = (there, (there, tt))

memory_begun : (limits : Limits) (run : List Entry) (actor : ℕ) (begun : Option Command) → memory_of limits (run ++ begin_before actor begun) ≡ memory_of limits run
memory_begun limits run actor None = ap (memory_of limits) (append-nil run)
memory_begun limits run actor (Some command) = memory_of-push limits run (Begin actor command)

pub memory_stepped : (limits : Limits) (run : List Entry) (actor : ℕ) (begun : Option Command) (step : StepOf Record) (answer : Answer Record) (reply : Option Reply)
    → memory_of limits (with_step run actor begun step answer reply) ≡ memory_after actor step (memory_of limits run)
memory_stepped limits run actor begun step answer reply =
    memory_of-push limits (run ++ begin_before actor begun) (Step actor step answer reply) ∙ ap (memory_after actor step) (memory_begun limits run actor begun)

-- No reach but that of the seat id is changed, and it did not write the row r before.
pub settled_back : (views : List (List Part)) (id : ℕ) (limits : Limits) (a : ℕ) (seen : List Entry) (h : Reach) (w : List Part) (r : ℕ)
    → get_elem? views id ≡ some (alone limits a seen h) → LeavesRow r h
    → IsSettled (set views id w) r → IsSettled views r
settled_back views id limits a seen h w r at leaves settled j v here = dite (ℕ_discrete j id)
    (λ e. rw (← some-injective _ _ (sym at ∙ ap (get_elem? views) (sym e) ∙ here)) (leaves, tt))
    (λ ne. settled j v (set_else views id j w ne ∙ here))

abbrev pub mark : Bool → ℕ
mark b = if b then 1 else 0

-- The part is no seat of the actor's.
abbrev pub IsApart : ℕ → ℕ → Reach → Type 0
IsApart a actor reach = mark (is_at a actor reach) ≡ 0

pub apart_ne : (a actor : ℕ) → mark (eqb actor a) ≡ 0 → actor ≢ a
apart_ne a actor none e = let one : mark (eqb actor a) ≡ 1 = ap mark (eq-eqb actor a e) in absurd (omega arith)

pub times_none : (a : ℕ) (v : List Part) → times a v ≡ 0 → Each (λ p. IsApart a p.actor p.reach) v
times_none a [] e = tt
times_none a (p ∷ ps) e = (omega arith, times_none a ps (omega arith))

pub times_append : (a : ℕ) (v w : List Part) → times a (v ++ w) ≡ times a v + times a w
times_append a [] w = omega arith
times_append a (p ∷ ps) w = let r = times_append a ps w in omega arith

-- where a seat stands doesn't matter
at_stands : (a actor : ℕ) (h : Reach) → Stands h → is_at a actor h ≡ eqb actor a
at_stands a actor Idle stands = refl
at_stands a actor (Writing row first words) stands = refl
at_stands a actor Noted stands = absurd stands

pub times_of_one : (limits : Limits) (a actor : ℕ) (seen : List Entry) (h : Reach) → Stands h → times a (alone limits actor seen h) ≡ mark (eqb actor a)
times_of_one limits a actor seen h stands = let is : mark (is_at a actor h) ≡ mark (eqb actor a) = ap mark (at_stands a actor h stands) in omega arith

pub times_alone : (limits : Limits) (a : ℕ) (seen : List Entry) (h : Reach) → Stands h → times a (alone limits a seen h) ≡ 1
times_alone limits a seen h stands = times_of_one limits a a seen h stands ∙ ap mark (eq-eqb a a refl)

pub everywhere_set : (views : List (List Part)) (id : ℕ) (v w : List Part) (a : ℕ) → get_elem? views id ≡ some v → everywhere a (set views id w) + times a v ≡ everywhere a views + times a w
everywhere_set [] id v w a at = absurd (some-ne-none v (sym at))
everywhere_set (x ∷ xs) zero v w a at = let is : times a x ≡ times a v = ap (times a) (some-injective x v at) in omega arith
everywhere_set (x ∷ xs) (suc id) v w a at = let r = everywhere_set xs id v w a at in omega arith

pub everywhere_snoc : (views : List (List Part)) (w : List Part) (a : ℕ) → everywhere a (views ++ w ∷ []) ≡ everywhere a views + times a w
everywhere_snoc [] w a = omega arith
everywhere_snoc (x ∷ xs) w a = let r = everywhere_snoc xs w a in omega arith

pub everywhere_one : (views : List (List Part)) (id : ℕ) (v : List Part) (a : ℕ) → get_elem? views id ≡ some v → times a v ≤ everywhere a views
everywhere_one [] id v a at = absurd (some-ne-none v (sym at))
everywhere_one (x ∷ xs) zero v a at = let is : times a x ≡ times a v = ap (times a) (some-injective x v at) in omega arith
everywhere_one (x ∷ xs) (suc id) v a at = let r = everywhere_one xs id v a at in omega arith

-- the actor of one seat stands in no other
pub elsewhere : (views : List (List Part)) (id j : ℕ) (v w : List Part) (a : ℕ) → ((b : ℕ) → everywhere b views ≤ 1) → get_elem? views id ≡ some v
    → 1 ≤ times a v → get_elem? views j ≡ some w → j ≢ id → Each (λ p. IsApart a p.actor p.reach) w
elsewhere views id j v w a once at has there ne = times_none a w
    (let t = everywhere_set views id v [] a at in let u = everywhere_one (set views id []) j w a (set_else views id j [] ne ∙ there) in let o = once a in omega arith)

-- A memory that is spelt where more rows are settled is spelt where fewer are.
pub spells_views : (limits : Limits) (words : List ℕ) (memory : Memory) (P Q : ℕ → Type 0) → ((row : ℕ) → Q row → P row) → SpellsWhere limits words memory P → SpellsWhere limits words memory Q
spells_views limits words memory P Q back sp = record {
  slots = sp.slots;
  pid_bits = sp.pid_bits;
  row_bits = sp.row_bits;
  epoch = sp.epoch;
  announced = sp.announced;
  pads = sp.pads;
  rows = λ row j within below used q. sp.rows row j within below used (back row q);
}
