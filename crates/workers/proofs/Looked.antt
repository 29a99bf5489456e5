-- Results that were looked at, one after another.
use Rattle.workers.proofs.Words.{AreResultsOf, IsResultOf, Job, JobResult, List, Some, ap, arith, dite, index_is, length, slice_get, slice_index_or, subst, sym}
use Rattle.workers.proofs.Words.{there, ℕ, ℕ_discrete, ◌+◌, ◌<◌, ◌∙◌, ◌≡◌}

-- the results below a place are the jobs'
abbrev pub AreLooked : {A : Type 0} → List Job → List (JobResult A) → ℕ → Type 0
AreLooked {A = A} jobs results place = (n : ℕ) (job : Job) (given : JobResult A) → n < place → slice_get jobs n ≡ Some job → slice_get results n ≡ Some given → IsResultOf job given

pub one_looked : {A : Type 0} (jobs : List Job) (results : List (JobResult A)) (place : ℕ) (one : Job) (other : JobResult A)
    → one ≡ slice_index_or jobs place one → other ≡ slice_index_or results place other → IsResultOf one other → AreLooked jobs results place
    → AreLooked jobs results (place + 1)
one_looked jobs results place one other is is_other right before n job given below at at_given = dite (ℕ_discrete n place)
    (λ same.
    let is_job : one ≡ job = is ∙ ap (λ k. slice_index_or jobs k one) (sym same) ∙ index_is jobs n job one at in
    let is_given : other ≡ given = is_other ∙ ap (λ k. slice_index_or results k other) (sym same) ∙ index_is results n given other at_given in
    rw (← is_job) (subst (IsResultOf one) is_given right))
    (λ apart. before n job given (omega (arith, below, apart)) at at_given)

-- results are not the jobs' where one is not its job's
pub one_wrong : {A : Type 0} (jobs : List Job) (results : List (JobResult A)) (place : ℕ) (one : Job) (other : JobResult A)
    → one ≡ slice_index_or jobs place one → other ≡ slice_index_or results place other → place < length jobs → (IsResultOf one other → ⊥)
    → AreResultsOf jobs results → ⊥
one_wrong jobs results place one other is is_other below wrong all =
    let job = there jobs place below in
    let given = there results place (omega (arith, below, all.count)) in
    let is_job : one ≡ job.0 = is ∙ index_is jobs place job.0 one job.1 in
    let is_given : other ≡ given.0 = is_other ∙ index_is results place given.0 other given.1 in
    wrong (rw is_job (subst (IsResultOf job.0) (sym is_given) (all.each place job.0 given.0 job.1 given.1)))
