-- The entries of one actor, and what it knows from them alone.
use Rattle.std.proofs.Common.{◌≡◌, ℕ, List, [], ◌∷◌, ◌++◌, Bool, true, false, refl, sym, ap, subst, ◌∙◌}
use Rattle.std.specs.Prelude.{if◌then◌else◌}
use Rattle.std.specs.List.{fold}
use Rattle.std.proofs.lemmas.Bool.{eqb-true, eqb-false}
use Rattle.std.proofs.lemmas.List.{append_assoc, append-nil}
use Rattle.deltas.proofs.Replaced.{replaced_other, replaced_same}
use Rattle.traces.specs.declared.trace.Entry.{Entry}
use Rattle.traces.specs.declared.trace.Entry.TheVariants.{Begin, Step}
use Rattle.traces.specs.discipline.Knowledge.{Knowledge, after_begin, after_reply, knows, knows_after, learn, nothing}
use Rattle.traces.specs.discipline.Disciplined.{Extends, is_entry_of, own_entries}

-- an entry of another actor leaves what the actor knows
pub after_other : (ks : ℕ → Knowledge) (actor : ℕ) (entry : Entry) → is_entry_of actor entry ≡ false → knows_after ks entry actor ≡ ks actor
after_other ks actor (Begin other command) e = replaced_other other (after_begin (ks other) command) ks actor (eqb-false actor other e)
after_other ks actor (Step other step answer reply) e = replaced_other other (after_reply (learn (ks other) step answer) reply) ks actor (eqb-false actor other e)

-- an own entry makes the same of the same knowledge
after_own : (ks ks' : ℕ → Knowledge) (actor : ℕ) (entry : Entry) → is_entry_of actor entry ≡ true → ks actor ≡ ks' actor → knows_after ks entry actor ≡ knows_after ks' entry actor
after_own ks ks' actor (Begin other command) e same =
    let i : actor ≡ other = eqb-true actor other e in
    rw (i, replaced_same other (after_begin (ks other) command) ks, replaced_same other (after_begin (ks' other) command) ks') (ap (λ k. after_begin k command) (rw i at same))
after_own ks ks' actor (Step other step answer reply) e same =
    let i : actor ≡ other = eqb-true actor other e in
    rw (i, replaced_same other (after_reply (learn (ks other) step answer) reply) ks, replaced_same other (after_reply (learn (ks' other) step answer) reply) ks')
    (ap (λ k. after_reply (learn k step answer) reply) (rw i at same))

fold_own : (entries : List Entry) (ks ks' : ℕ → Knowledge) (actor : ℕ) → ks actor ≡ ks' actor → fold knows_after ks entries actor ≡ fold knows_after ks' (own_entries actor entries) actor
fold_own [] ks ks' actor same = same
fold_own (entry ∷ entries) ks ks' actor same = elim (is_entry_of actor entry) as (λ t. is_entry_of actor entry ≡ t
    → fold knows_after ks (entry ∷ entries) actor ≡ fold knows_after ks' (if t then entry ∷ own_entries actor entries else own_entries actor entries) actor) [
      | true ↦ λ e. fold_own entries (knows_after ks entry) (knows_after ks' entry) actor (after_own ks ks' actor entry e same)
      | false ↦ λ e. fold_own entries (knows_after ks entry) ks' actor (after_other ks actor entry e ∙ same)
    ] refl

-- two traces with the same own entries let the actor know the same
pub knows_own : (run other : List Entry) (actor : ℕ) → own_entries actor run ≡ own_entries actor other → knows run actor ≡ knows other actor
knows_own run other actor same =
    fold_own run (λ b. nothing) (λ b. nothing) actor refl ∙ ap (λ es. fold knows_after (λ b. nothing) es actor) same ∙ sym (fold_own other (λ b. nothing) (λ b. nothing) actor refl)

-- the own entries of a longer run
pub own_append : (actor : ℕ) (run more : List Entry) → own_entries actor (run ++ more) ≡ own_entries actor run ++ own_entries actor more
own_append actor [] more = refl
own_append actor (entry ∷ run) more = elim (is_entry_of actor entry) as
    (λ t. (if t then entry ∷ own_entries actor (run ++ more) else own_entries actor (run ++ more)) ≡ (if t then entry ∷ own_entries actor run else own_entries actor run) ++ own_entries actor more) [
      | true ↦ ap (λ (es : List Entry). entry ∷ es) (own_append actor run more)
      | false ↦ own_append actor run more
    ]

pub own_push : (actor : ℕ) (run : List Entry) (entry : Entry) → is_entry_of actor entry ≡ true → own_entries actor (run ++ entry ∷ []) ≡ own_entries actor run ++ entry ∷ []
own_push actor run entry own = own_append actor run (entry ∷ []) ∙ ap (λ (b : Bool). own_entries actor run ++ (if b then entry ∷ [] else [])) own

-- The entries are of other actors.
abbrev pub AreOthers : ℕ → List Entry → Type 0
AreOthers actor entries = own_entries actor entries ≡ []

pub others_append : (actor : ℕ) (run more : List Entry) → AreOthers actor run → AreOthers actor more → AreOthers actor (run ++ more)
others_append actor run more r m = own_append actor run more ∙ (λ k. r k ++ m k)

own_on : (actor : ℕ) (run more : List Entry) → AreOthers actor more → own_entries actor (run ++ more) ≡ own_entries actor run
own_on actor run more others = own_append actor run more ∙ ap (λ (es : List Entry). own_entries actor run ++ es) others ∙ append-nil (own_entries actor run)

pub knows_on : (actor : ℕ) (run more : List Entry) → AreOthers actor more → knows (run ++ more) actor ≡ knows run actor
knows_on actor run more others = knows_own (run ++ more) run actor (own_on actor run more others)

-- a run that others made longer
pub extends_self : (actor : ℕ) (run : List Entry) → Extends actor run run
extends_self actor run = ([], sym (append-nil run), refl)

pub extends_on : (actor : ℕ) (seen run more : List Entry) → AreOthers actor more → Extends actor seen run → Extends actor seen (run ++ more)
extends_on actor seen run more others x = (x.0 ++ more, ap (λ (r : List Entry). r ++ more) x.1 ∙ append_assoc seen x.0 more, others_append actor x.0 more x.2 others)

pub own_extends : (actor : ℕ) (seen run : List Entry) → Extends actor seen run → own_entries actor run ≡ own_entries actor seen
own_extends actor seen run x = ap (own_entries actor) x.1 ∙ own_on actor seen x.0 x.2

pub knows_extends : (actor : ℕ) (seen run : List Entry) → Extends actor seen run → knows run actor ≡ knows seen actor
knows_extends actor seen run x = knows_own run seen actor (own_extends actor seen run x)
