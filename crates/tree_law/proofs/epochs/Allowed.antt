-- Each allowed step, a reuse among them, keeps the invariant, and what actors hold.
use Rattle.tree_law.proofs.Words.{Option, List, ℕ, ◌<◌, Update, Reply, Limits, Answer, StepOf, ReuseRows, ReusePids, Memory, Record, IsAllowed, Knowledge, IsAnswer, IsReuse, After, Next, Owners}
use Rattle.tree_law.proofs.Words.{shared_part, Shared, Times, Timed, times_after, IsTree}
use Rattle.tree_law.specs.TreeLaws.{Stepped, StepLaw}
use Rattle.tree_law.proofs.epochs.Freeing.{t1, t2, rows_after, rows_timed, pages_after, pages_timed}
use Rattle.tree_law.proofs.links.Stepping.{step as one_step}
use Rattle.tree_law.proofs.epochs.Timewise.{timed_step}

-- what a step but a reuse leaves
abbrev pub after_of : {a : ℕ} {m m' : Shared} {log : List Update} {o : Owners} {knows : ℕ → Knowledge} {point : ℕ → Option (List Update)}
    {logs : ℕ → List (List Update)} {s : StepOf Record} {x : Answer Record} {r : Option Reply}
    → Next a m m' log o knows point logs s x r → After a m m' log o knows point logs s x r
after_of n = record { update = n.update; due = n.due; last = n.last; owners = n.owners; phased = n.phased; added = n.added; same = λ q l. (n.kept q l).1; is_tree = n.is_tree }

module _ {limits : Limits} {m : Memory} {log : List Update} {o : Owners} {knows : ℕ → Knowledge} {point : ℕ → Option (List Update)}
    {logs : ℕ → List (List Update)} {now : ℕ} {t : Times} (g : IsTree (shared_part m) log o knows point logs) (T : Timed limits m o knows now t) (a : ℕ)
    (actor : a < limits.actors) where
  calmly : (s : StepOf Record) → (IsReuse s → ⊥) → (x : Answer Record) (r : Option Reply) → IsAllowed limits a (knows a) s r → IsAnswer m s x → Stepped limits m log o knows point logs now a s x r
  calmly s calm x r allowed is =
      let n = one_step m g a s calm r allowed.may x is in
      record { after = after_of n; times = times_after a m o now s x t; timed = timed_step g T a s calm x r allowed.may is actor n }

  pub any_step : (s : StepOf Record) (x : Answer Record) (r : Option Reply) → IsAllowed limits a (knows a) s r → IsAnswer m s x → Stepped limits m log o knows point logs now a s x r
  any_step (ReuseRows word bits) x r allowed is = record
      { after = rows_after g T a allowed.may word bits allowed.frees r x; times = t1 g T a allowed.may word bits allowed.frees r x; timed = rows_timed g T a allowed.may word bits allowed.frees r x }
  any_step (ReusePids word bits) x r allowed is = record
      { after = pages_after g T a allowed.may word bits allowed.frees r x; times = t2 g T a allowed.may word bits allowed.frees r x; timed = pages_timed g T a allowed.may word bits allowed.frees r x }
  any_step s v r allowed is = calmly s (λ h. h) v r allowed is

pub step_law : StepLaw
step_law limits m log o knows point logs now t g T a actor s x r allowed is = any_step g T a actor s x r allowed is
