-- Whoever has seen a log.
use Rattle.std.proofs.Common.{◌≡◌, ◌⊎◌, ◌++◌, ◌∷◌, ◌∙◌, List, [], ap, inl, inr, subst, sym}
use Rattle.call_log.specs.declared.log.Event.{Event}
use Rattle.call_log.specs.Laws.{AuthorsAreKnown, LogsAgree}
use Rattle.call_log.specs.Logs.{Ends, GoesOn, by}
use Rattle.call_log.proofs.Logs.{by_goes_on}

abbrev tail_of : {A : Type 0} → List A → List A
tail_of [] = []
tail_of (x ∷ xs) = xs

one_goes_on : {S : Type 0} (xs ys a b : List (Event S)) → xs ++ a ≡ ys ++ b → GoesOn a b ⊎ GoesOn b a
one_goes_on [] ys a b e = inl (ys, e)
one_goes_on (x ∷ xs) [] a b e = inr (x ∷ xs, sym e)
one_goes_on (x ∷ xs) (y ∷ ys) a b e = one_goes_on xs ys a b (ap tail_of e)

module _ {S : Type 0} (ends : Ends S) where
  pub logs_agree : LogsAgree ends
  logs_agree opened s h i j one other at there =
      let a = (h.each i one at).seen in
      let b = (h.each j other there).seen in
      one_goes_on a.0 b.0 one.log other.log (sym a.1 ∙ b.1)

  pub authors_known : AuthorsAreKnown ends
  authors_known opened s h i j a one other at there has =
      let all = ((h.each i one at).alone a has).1 in
      let part = (h.each j other there).seen in
      rw all at (rw (← part.1) at (by_goes_on a part.0 other.log))
