-- What may follow a log, and what others leave of it.
use Rattle.std.proofs.Common.{◌≡◌, ◌≢◌, ◌+◌, ◌<◌, ◌≤◌, ◌++◌, ◌∷◌, ◌∙◌, ℕ, Bool, List, [], ap, arith, eq-eqb, eqb, length, ne_eqb, refl, subst, sym}
use Rattle.std.specs.Prelude.{if◌then◌else◌}
use mathlib.Core.Logic.{dite}
use native.Mathlib.Decide.{ℕ_discrete}
use Rattle.call_log.specs.declared.log.Authors.{Authors}
use Rattle.call_log.specs.declared.log.Authors.TheVariants.{AllFrom, Nobody, One}
use Rattle.call_log.specs.declared.log.Deed.{Deed}
use Rattle.call_log.specs.declared.log.Deed.TheVariants.{Began, Closed, Emptied, Ended}
use Rattle.call_log.specs.declared.log.Event.{Event}
use Rattle.call_log.specs.Laws.{StaysOut}
use Rattle.call_log.specs.Logs.{Ends, GoesOn, HasAuthor, IsLog, MayFollow, WritesAs, by, cell_of, cell_on, home, out, stage_of, stage_on}

pub has_first : (authors : Authors) (a : ℕ) → WritesAs authors a → HasAuthor authors a
has_first Nobody a w = absurd w
has_first (One n) a w = w
has_first (AllFrom n) a w = omega (arith, w)

pub same_first : (authors : Authors) (a b : ℕ) → WritesAs authors a → WritesAs authors b → a ≡ b
same_first Nobody a b w v = absurd w
same_first (One n) a b w v = w ∙ sym v
same_first (AllFrom n) a b w v = w ∙ sym v

-- a choice by two numbers
pub where_same : {A : Type 0} (m n : ℕ) (a b : A) → m ≡ n → (if eqb m n then a else b) ≡ a
where_same m n a b e = ap (λ (t : Bool). if t then a else b) (eq-eqb m n e)

pub where_other : {A : Type 0} (m n : ℕ) (a b : A) → m ≢ n → (if eqb m n then a else b) ≡ b
where_other m n a b ne = ap (λ (t : Bool). if t then a else b) (ne_eqb m n ne)

module _ {S : Type 0} where
  home_not_out : (P : Type 0) (x : S) (a : ℕ) (y : S) → home x ≡ out a y → P
  home_not_out P x a y e = cc

  out_author : (a b : ℕ) (x y : S) → out a x ≡ out b y → a ≡ b
  out_author a b x y e = cc

  pub out_value : (a b : ℕ) (x y : S) → out a x ≡ out b y → x ≡ y
  out_value a b x y e = cc

  pub home_value : (x y : S) → home x ≡ home y → x ≡ y
  home_value x y e = cc

  pub goes_on_self : (log : List (Event S)) → GoesOn log log
  goes_on_self log = ([], refl)

  pub goes_on_one : (log before : List (Event S)) (event : Event S) → GoesOn log before → GoesOn (event ∷ log) before
  goes_on_one log before event g = (event ∷ g.0, ap (λ l. event ∷ l) g.1)

  -- what an author wrote in a log that went on
  pub by_other : (a : ℕ) (event : Event S) (log : List (Event S)) → a ≢ event.author → by a (event ∷ log) ≡ by a log
  by_other a event log ne = where_other a event.author (event ∷ by a log) (by a log) ne

  pub by_mine : (a : ℕ) (event : Event S) (log : List (Event S)) → a ≡ event.author → by a (event ∷ log) ≡ event ∷ by a log
  by_mine a event log e = where_same a event.author (event ∷ by a log) (by a log) e

  by_long : (a : ℕ) (more log : List (Event S)) → length (by a log) ≤ length (by a (more ++ log))
  by_long a [] log = omega arith
  by_long a (event ∷ more) log = dite (ℕ_discrete a event.author)
      (λ e. let is = ap length (by_mine a event (more ++ log) e) in let r = by_long a more log in omega (arith, is, r))
      (λ ne. let is = ap length (by_other a event (more ++ log) ne) in let r = by_long a more log in omega (arith, is, r))

  pub none_by : (a : ℕ) (event : Event S) (more log : List (Event S)) → by a (event ∷ more ++ log) ≡ by a log → (a ≢ event.author) × (by a (more ++ log) ≡ by a log)
  none_by a event more log same = dite (ℕ_discrete a event.author)
      (λ e. let is = ap length (sym (by_mine a event (more ++ log) e) ∙ same) in let r = by_long a more log in absurd (omega (arith, is, r)))
      (λ ne. (ne, sym (by_other a event (more ++ log) ne) ∙ same))

  pub by_goes_on : (a : ℕ) (more log : List (Event S)) → GoesOn (by a (more ++ log)) (by a log)
  by_goes_on a [] log = goes_on_self (by a log)
  by_goes_on a (event ∷ more) log = dite (ℕ_discrete a event.author)
      (λ e. rw (← by_mine a event (more ++ log) e) at (goes_on_one (by a (more ++ log)) (by a log) event (by_goes_on a more log)))
      (λ ne. rw (← by_other a event (more ++ log) ne) at (by_goes_on a more log))

  module _ (ends : Ends S) (opened : List S) where
    pub is_log_before : (more log : List (Event S)) → IsLog ends opened (more ++ log) → IsLog ends opened log
    is_log_before [] log is = is
    is_log_before (event ∷ more) log is = is_log_before more log is.1

    -- what another author does leaves what this one has out
    out_on : (log : List (Event S)) (b : ℕ) (deed : Deed S) (a n : ℕ) (x : S) → a ≢ b → MayFollow ends opened log b deed → cell_of opened log n ≡ out a x
        → cell_on b deed n (cell_of opened log n) ≡ out a x
    out_on log b (Began m) a n x ne may is = dite (ℕ_discrete m n)
        (λ e. home_not_out _ may.0 a x (sym may.1 ∙ ap (cell_of opened log) e ∙ is))
        (λ no. where_other m n _ (cell_of opened log n) no ∙ is)
    out_on log b (Ended m y z) a n x ne may is = dite (ℕ_discrete m n)
        (λ e. absurd (ne (sym (out_author b a y x (sym may.0 ∙ ap (cell_of opened log) e ∙ is)))))
        (λ no. where_other m n (home z) (cell_of opened log n) no ∙ is)
    out_on log b Closed a n x ne may is = is
    out_on log b Emptied a n x ne may is = is

    open_on : (log : List (Event S)) (b : ℕ) (deed : Deed S) (a n : ℕ) (x : S) → a ≢ b → n < length opened → MayFollow ends opened log b deed → cell_of opened log n ≡ out a x
        → stage_of log ≡ 0 → stage_on deed (stage_of log) ≡ 0
    open_on log b (Began m) a n x ne below may is zero' = zero'
    open_on log b (Ended m y z) a n x ne below may is zero' = zero'
    open_on log b Closed a n x ne below may is zero' = let it = may.1 n below in absurd (ne (sym (out_author b a it.0 x (sym it.1 ∙ is))))
    open_on log b Emptied a n x ne below may is zero' = let one = may.0 in absurd (omega (arith, one, zero'))

    closed_on : (log : List (Event S)) (b : ℕ) (deed : Deed S) → MayFollow ends opened log b deed → 0 < stage_of log → 0 < stage_on deed (stage_of log)
    closed_on log b (Began m) may some = some
    closed_on log b (Ended m y z) may some = some
    closed_on log b Closed may some = omega arith
    closed_on log b Emptied may some = omega arith

  module _ (ends : Ends S) where
    pub stays_out : StaysOut ends
    stays_out opened log [] a n x legal same is below = record { out_still = is; open_still = λ e. e }
    stays_out opened log (event ∷ more) a n x legal same is below =
        let none = none_by a event more log same in
        let before = stays_out opened log more a n x legal.1 none.1 is below in record {
          out_still = out_on ends opened (more ++ log) event.author event.deed a n x none.0 legal.0 before.out_still;
          open_still = λ e. open_on ends opened (more ++ log) event.author event.deed a n x none.0 below legal.0 before.out_still (before.open_still e);
        }

    pub stays_closed : (opened : List S) (log more : List (Event S)) → IsLog ends opened (more ++ log) → 0 < stage_of log → 0 < stage_of (more ++ log)
    stays_closed opened log [] legal some = some
    stays_closed opened log (event ∷ more) legal some = closed_on ends opened (more ++ log) event.author event.deed legal.0 (stays_closed opened log more legal.1 some)

    one_on : (opened : List S) (log : List (Event S)) (b : ℕ) (deed : Deed S) (a n : ℕ) (x : S) → a ≢ b → n + 1 ≡ length opened → MayFollow ends opened log b deed
        → cell_of opened log n ≡ out a x → stage_of log ≡ 1 → stage_on deed (stage_of log) ≡ 1
    one_on opened log b (Began m) a n x ne last may is one' = one'
    one_on opened log b (Ended m y z) a n x ne last may is one' = one'
    one_on opened log b Closed a n x ne last may is one' = refl
    one_on opened log b Emptied a n x ne last may is one' = let it = may.1 n last in absurd (ne (sym (out_author b a it.0 x (sym it.1 ∙ is))))

    pub stays_one : (opened : List S) (log more : List (Event S)) (a n : ℕ) (x : S) → IsLog ends opened (more ++ log) → by a (more ++ log) ≡ by a log
        → cell_of opened log n ≡ out a x → n + 1 ≡ length opened → stage_of log ≡ 1 → stage_of (more ++ log) ≡ 1
    stays_one opened log [] a n x legal same is last one' = one'
    stays_one opened log (event ∷ more) a n x legal same is last one' =
        let none = none_by a event more log same in
        let before = stays_out opened log more a n x legal.1 none.1 is (omega (arith, last)) in
        one_on opened (more ++ log) event.author event.deed a n x none.0 last legal.0 before.out_still (stays_one opened log more a n x legal.1 none.1 is last one')
