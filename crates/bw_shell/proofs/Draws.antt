-- Laws of turns that drawn actors take.
use Rattle.std.proofs.Common.{◌≡◌, ℕ, ◌+◌, List, [], ◌∷◌, ◌++◌, suc, refl, sym, ap, ◌∙◌, arith}
use Rattle.std.proofs.lemmas.List.{append_assoc, append-nil}
use Rattle.bw_model.specs.Schedules.{Schedule, drawn, moved_on, next_actor}
use Rattle.bw_shell.specs.Turns.{Trace}
use Rattle.bw_shell.specs.Transcript.{TakeDrawn, TakesDrawn}

pub none_drawn : (m : Trace) (start : Schedule) → TakeDrawn m (drawn 0 start) m []
unfolding TakeDrawn drawn
none_drawn m start = (refl, refl)

pub take_more : (a : Trace) (xs : List ℕ) (b : Trace) (t : List ℕ) (x : ℕ) (c : Trace) (u : List ℕ) → TakeDrawn a xs b t → TakesDrawn b x c u → TakeDrawn a (xs ++ x ∷ []) c (t ++ u)
unfolding TakeDrawn
take_more a [] b t x c u h one = (c, u, [], rw (sym h.0) one, (refl, refl), rw h.1 (sym (append-nil u)))
take_more a (y ∷ ys) b t x c u h one =
    (h.0, h.1, h.2 ++ u, h.3, take_more h.0 ys b h.2 x c u h.4 one, ap (λ (l : List ℕ). l ++ u) h.5 ∙ append_assoc h.1 h.2 u)

-- after so many draws the schedule is at this
abbrev pub IsLeft : Schedule → ℕ → Schedule → Type 0
IsLeft start i now = (n : ℕ) → drawn (i + n) start ≡ drawn i start ++ drawn n now

pub all_left : (start : Schedule) → IsLeft start 0 start
unfolding drawn
all_left start n = let e : 0 + n ≡ n = omega arith in rw e refl

pub one_drawn : (start now : Schedule) (i : ℕ) → IsLeft start i now → drawn (i + 1) start ≡ drawn i start ++ next_actor now ∷ []
unfolding drawn
one_drawn start now i left = left 1

pub fewer_left : (start now : Schedule) (i : ℕ) → IsLeft start i now → IsLeft start (i + 1) (moved_on now)
unfolding drawn
fewer_left start now i left n =
    let e : i + 1 + n ≡ i + suc n = omega arith in
    ap (λ (k : ℕ). drawn k start) e ∙ left (suc n) ∙ sym (append_assoc (drawn i start) (next_actor now ∷ []) (drawn n (moved_on now)))
    ∙ ap (λ (l : List ℕ). l ++ drawn n (moved_on now)) (sym (one_drawn start now i left))
