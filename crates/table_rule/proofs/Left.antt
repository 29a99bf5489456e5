-- A table that is closed with a seat in which all actors stand leaves the words of one run's memory.
use Rattle.table_rule.proofs.Words.{AreWordsOf, Each, Entry, Extends, Idle, IsSettled, LeavesRow, Limits, List, Noted, Part, PartFits, Reach, Running, Writing}
use Rattle.table_rule.proofs.Words.{ap, arith, dite, eq-eqb, eqb, get_elem?, is_at, length, memory_of, ne_eqb, refl, some, subst, suc, times, zero, ℕ}
use Rattle.table_rule.proofs.Words.{ℕ_discrete, [], ◌+◌, ◌<◌, ◌∷◌, ◌≡◌, ◌≤◌}
use Rattle.table_rule.specs.Closing.{LeavesWords}
use Rattle.table_rule.proofs.Parts.{IsApart, apart_ne, mark, each_map, each_zip, elsewhere, everywhere_one, spells_views}
use Rattle.table_rule.proofs.Roster.{same_view}
use Rattle.table_rule.proofs.Turns.{TableState}

-- f at all numbers below n
abbrev total : ℕ → (ℕ → ℕ) → ℕ
total zero f = 0
total (suc n) f = total n f + f n

total_plus : (n : ℕ) (f g : ℕ → ℕ) → total n (λ k. f k + g k) ≡ total n f + total n g
total_plus zero f g = refl
total_plus (suc n) f g = let rest = total_plus n f g in omega arith

total_zero : (n : ℕ) → total n (λ k. 0) ≡ 0
total_zero zero = refl
total_zero (suc n) = let rest = total_zero n in omega arith

marked_none : (n k : ℕ) → n ≤ k → total n (λ j. mark (eqb k j)) ≡ 0
marked_none zero k above = refl
marked_none (suc n) k above = let rest = marked_none n k (omega arith) in let none : mark (eqb k n) ≡ 0 = ap mark (ne_eqb k n (λ e. absurd (omega arith))) in omega arith

-- One number below n is k.
marked_once : (n k : ℕ) → k < n → total n (λ j. mark (eqb k j)) ≡ 1
marked_once zero k below = absurd (omega arith)
marked_once (suc n) k below = dite (ℕ_discrete k n)
    (λ e. let rest = marked_none n k (omega arith) in let one : mark (eqb k n) ≡ 1 = ap mark (eq-eqb k n e) in omega arith)
    (λ ne. let rest = marked_once n k (omega arith) in let none : mark (eqb k n) ≡ 0 = ap mark (ne_eqb k n ne) in omega arith)

total_most : (n : ℕ) (f : ℕ → ℕ) → ((k : ℕ) → f k ≤ 1) → total n f ≤ n
total_most zero f once = omega arith
total_most (suc n) f once = let rest = total_most n f once in let here = once n in omega arith

-- n numbers that are at most 1 and give n together are 1 each.
all_ones : (n : ℕ) (f : ℕ → ℕ) → ((k : ℕ) → f k ≤ 1) → n ≤ total n f → (k : ℕ) → k < n → 1 ≤ f k
all_ones zero f once all k below = absurd (omega arith)
all_ones (suc n) f once all k below =
    let rest = total_most n f once in
    let here = once n in dite (ℕ_discrete k n)
    (λ e. rw e (omega arith))
    (λ ne. all_ones n f once (omega arith) k (omega arith))

module _ (limits : Limits) (law : List Entry → Type 0) where
  abbrev AreIdle : List Part → Type 0
  AreIdle parts = Each (λ part. part.reach ≡ Idle) parts

  -- Each part is one actor's.
  all_times : (words : List ℕ) (run : List Entry) (parts : List Part) → Each (PartFits limits words run) parts → AreIdle parts → total limits.actors (λ actor. times actor parts) ≡ length parts
  all_times words run [] fits idle = total_zero limits.actors
  all_times words run (part ∷ parts) fits idle =
      let rest = all_times words run parts fits.1 idle.1 in
      let here : total limits.actors (λ actor. mark (is_at actor part.actor part.reach)) ≡ 1
      = rw idle.0 (marked_once limits.actors part.actor fits.0.there) in
      let sum = total_plus limits.actors (λ actor. mark (is_at actor part.actor part.reach)) (λ actor. times actor parts) in omega arith

  all_stand : (s : TableState) (h : Running limits law s) (id : ℕ) (parts : List Part) → get_elem? s.views id ≡ some parts → limits.actors ≤ length parts
      → AreIdle parts → (actor : ℕ) → actor < limits.actors → 1 ≤ times actor parts
  all_stand s h id parts at many idle = all_ones limits.actors (λ actor. times actor parts)
      (λ actor. let one = everywhere_one s.views id parts actor at in let o = h.once actor in omega arith)
      (let sum = all_times s.words h.run parts (h.each id parts at) idle in omega arith)

  leaves_idle : (row : ℕ) (part : Part) → part.reach ≡ Idle → LeavesRow row part.reach
  leaves_idle row part e = rw e tt

  -- a part that is no seat of its own actor's is a note
  apart_leaves : (row actor : ℕ) (reach : Reach) → IsApart actor actor reach → LeavesRow row reach
  apart_leaves row actor Idle apart = tt
  apart_leaves row actor (Writing at first words) apart = absurd (apart_ne actor actor apart refl)
  apart_leaves row actor Noted apart = tt

  -- Where all actors stand in another seat, these are notes.
  notes_leave : (words : List ℕ) (run : List Entry) (row : ℕ) (others : List Part) → Each (PartFits limits words run) others
      → ((actor : ℕ) → actor < limits.actors → Each (λ part. IsApart actor part.actor part.reach) others)
      → Each (λ part. LeavesRow row part.reach) others
  notes_leave words run row [] fits apart = tt
  notes_leave words run row (part ∷ others) fits apart =
      (apart_leaves row part.actor part.reach (apart part.actor fits.0.there).0, notes_leave words run row others fits.1 (λ actor below. (apart actor below).1))

  pub closes : LeavesWords limits law
  closes id parts words homes stand f =
      let s = f.0 in
      let h : Running limits law s = f.1.0 in
      let at : get_elem? s.views id ≡ some parts = f.1.1 in
      let all : (actor : ℕ) → actor < limits.actors → 1 ≤ times actor parts = all_stand s h id parts at stand.all stand.idle in
      let settled : (row : ℕ) → IsSettled s.views row = λ row j view there. dite (ℕ_discrete j id)
      (λ e. rw (← same_view s.views id j parts view at there e)
      (each_map (λ part. part.reach ≡ Idle) (λ part. LeavesRow row part.reach) (leaves_idle row) parts stand.idle))
      (λ ne. notes_leave s.words h.run row view (h.each j view there) (λ actor below. elsewhere s.views id j parts view actor h.once at (all actor below) there ne)) in record {
        run = h.run;
        legal = h.legal;
        begins = h.begins;
        extends = each_zip (PartFits limits s.words h.run) (λ part. part.reach ≡ Idle) (λ part. Extends part.actor part.seen h.run)
            (λ part fit idle. rw idle at fit.extends) parts (h.each id parts at) stand.idle;
        kept = h.kept;
        are = subst (AreWordsOf limits (memory_of limits h.run)) f.2
            record { wide = h.wide; spells = spells_views limits s.words (memory_of limits h.run) (IsSettled s.views) (λ _. Unit {0}) (λ row _. settled row) h.spells };
      }
