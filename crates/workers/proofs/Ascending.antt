-- Jobs in order of their numbers.
use Rattle.workers.proofs.Words.{Job, List, ap, arith, dite, length, length-map, map, slice_index, slice_index_or, suc, sym, zero, ℕ, ℕ_discrete, [], ◌+◌, ◌<◌}
use Rattle.workers.proofs.Words.{◌∙◌, ◌∷◌, ◌≡◌, ◌≤◌}
use Rattle.workers.specs.Jobs.{AreAscending}

abbrev pub number_of : Job → ℕ
number_of job = job.number

at_map : (jobs : List Job) (n : ℕ) (job : Job) → n < length jobs → job ≡ slice_index_or jobs n job → slice_index (map number_of jobs) n ≡ number_of job
at_map [] n job below is = absurd (omega (arith, below))
at_map (first ∷ jobs) zero job below is = ap number_of (sym is)
at_map (first ∷ jobs) (suc n) job below is = at_map jobs n job (omega (arith, below)) is

pub not_ascending : (jobs : List Job) (k place : ℕ) (one other : Job) → k + 1 ≡ place → place < length jobs → one ≡ slice_index_or jobs k one
    → other ≡ slice_index_or jobs place other → number_of other ≤ number_of one → AreAscending jobs → ⊥
not_ascending jobs k place one other next below is is_other least up =
    let long = length-map jobs number_of in
    let first = at_map jobs k one (omega (arith, next, below)) is in
    let second = ap (slice_index (map number_of jobs)) next ∙ at_map jobs place other below is_other in
    let less = up k (omega (arith, next, below, long)) in absurd (omega (arith, first, second, less, least))

-- the numbers ascend below a place
abbrev pub AscendBelow : List Job → ℕ → Type 0
AscendBelow jobs place = (j : ℕ) → j + 1 < place → slice_index (map number_of jobs) j < slice_index (map number_of jobs) (j + 1)

pub one_more : (jobs : List Job) (k place : ℕ) (one other : Job) → k + 1 ≡ place → place < length jobs → one ≡ slice_index_or jobs k one
    → other ≡ slice_index_or jobs place other → number_of one < number_of other → AscendBelow jobs place → AscendBelow jobs (place + 1)
one_more jobs k place one other next below is is_other less up j less_j = dite (ℕ_discrete j k)
    (λ same.
    let first = ap (slice_index (map number_of jobs)) same ∙ at_map jobs k one (omega (arith, next, below)) is in
    let second = ap (λ i. slice_index (map number_of jobs) (i + 1)) same ∙ ap (slice_index (map number_of jobs)) next ∙ at_map jobs place other below is_other in
    omega (arith, first, second, less))
    (λ other_place. up j (omega (arith, less_j, next, other_place)))
