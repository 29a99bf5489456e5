-- Laws of jobs that are made of lists by job number.
use Rattle.std.proofs.Common.{◌≡◌, ℕ, ◌+◌, ◌<◌, List, [], ◌∷◌, ◌++◌, length, map, refl, sym, ap, ◌∙◌, arith, ◌==◌, Bool, true, false, inl, inr, All, vec_len, slice_index_or}
use Rattle.std.specs.List.{Contains}
use Rattle.std.specs.List.Sorted.{IsStrictlyIncreasing}
use Rattle.std.proofs.lemmas.List.{map-append, length_push, length-map, get_or_append_left, get_or_push}
use Rattle.std.proofs.lemmas.List.Elements.{All-nil, All-cons, All-head, All-tail, All-push, Contains-append_left}
use Rattle.std.proofs.lemmas.Bool.{cases_lt, cases_eq}
use Rattle.shell_lines.specs.declared.race_line.JobCommand.{JobCommand}
use Rattle.workers.specs.declared.job.Job.{Job}
use Rattle.workers.specs.Jobs.{AreAscending}
use Rattle.bw_model.specs.declared.command.Command.{Command}
use Rattle.race.specs.Jobs.{AddsJob, AreJobsOf, commands_of}

abbrev pub HasCommands : List JobCommand → Job → Type 0
HasCommands asked job = (job.commands.items ≡ commands_of job.number asked) × (0 < vec_len job.commands)

abbrev pub numbers_of : List Job → List ℕ
numbers_of jobs = map (λ (job : Job). job.number) jobs

-- the jobs of the numbers below the count
pub record SomeJobs (asked : List JobCommand) (count : ℕ) (jobs : List Job) : Type 0 where
  pub ascending : AreAscending jobs
  pub below : All (λ (job : Job). job.number < count) jobs
  pub commands : All (HasCommands asked) jobs
  pub all : All (λ (asks : JobCommand). asks.job < count → Contains (numbers_of jobs) asks.job) asked

pub no_jobs : (asked : List JobCommand) → SomeJobs asked 0 []
no_jobs asked = record {
  ascending = λ k within. absurd (omega arith);
  below = All-nil (λ (job : Job). job.number < 0);
  commands = All-nil (HasCommands asked);
  all = λ k d within low. absurd (omega arith);
}

-- nobody asks a command of this number
none_asked : (number : ℕ) (asked : List JobCommand) → commands_of number asked ≡ [] → All (λ (asks : JobCommand). asks.job ≡ number → ⊥) asked
none_asked number [] h = All-nil (λ (asks : JobCommand). asks.job ≡ number → ⊥)
none_asked number (a ∷ more) h = at (a.job == number) refl (none_asked number more)
  where
    not_same : (a.job == number) ≡ false → a.job ≡ number → ⊥
    not_same e same = let yes : (a.job == number) ≡ true = grind (arith, same) in cc (sym e ∙ yes)

    at : (same : Bool) → (a.job == number) ≡ same → (commands_of number more ≡ [] → All (λ (asks : JobCommand). asks.job ≡ number → ⊥) more)
        → All (λ (asks : JobCommand). asks.job ≡ number → ⊥) (a ∷ more)
    at true is rest = absurd (let bad = rw is at h in cc bad)
    at false is rest = All-cons (λ (asks : JobCommand). asks.job ≡ number → ⊥) a more (not_same is) (rest (rw is at h))

skip_number : (asked : List JobCommand) (count : ℕ) (jobs : List Job) → SomeJobs asked count jobs → commands_of count asked ≡ [] → SomeJobs asked (count + 1) jobs
skip_number asked count jobs s none = record {
  ascending = s.ascending;
  below = λ k d within. let low = s.below k d within in omega arith;
  commands = s.commands;
  all = λ k d within low. elim (cases_eq (slice_index_or asked k d).job count) [
    | inl same ↦ absurd (none_asked count asked none k d within same)
    | inr other ↦ s.all k d within (omega arith)
  ];
}

increasing_more : (xs : List ℕ) (n : ℕ) → IsStrictlyIncreasing xs → All (λ x. x < n) xs → IsStrictlyIncreasing (xs ++ n ∷ [])
increasing_more xs n up below k within =
    let long = length_push xs n in
    elim (cases_lt (k + 1) (length xs)) [
      | inl inside ↦ rw (get_or_append_left xs (n ∷ []) 0 k (omega arith), get_or_append_left xs (n ∷ []) 0 (k + 1) inside) (up k inside)
      | inr out ↦ rw (get_or_append_left xs (n ∷ []) 0 k (omega arith), get_or_push xs n 0 (k + 1) (omega arith)) (below k 0 (omega arith))
    ]

below_numbers : (n : ℕ) (jobs : List Job) → All (λ (job : Job). job.number < n) jobs → All (λ x. x < n) (numbers_of jobs)
below_numbers n [] h = All-nil (λ x. x < n)
below_numbers n (j ∷ js) h =
    All-cons (λ x. x < n) j.number (numbers_of js) (All-head (λ (job : Job). job.number < n) j js h) (below_numbers n js (All-tail (λ (job : Job). job.number < n) j js h))

add_job : (asked : List JobCommand) (count : ℕ) (jobs : List Job) (job : Job) → SomeJobs asked count jobs → job.number ≡ count → HasCommands asked job → SomeJobs asked (count + 1) (jobs ++ job ∷ [])
add_job asked count jobs job s is has = record {
  ascending = rw numbers (increasing_more (numbers_of jobs) job.number s.ascending (rw is (below_numbers count jobs s.below)));
  below = All-push (λ (one : Job). one.number < count + 1) jobs job (λ k d within. let low = s.below k d within in omega arith) (omega arith);
  commands = All-push (HasCommands asked) jobs job s.commands has;
  all = λ k d within low. elim (cases_eq (slice_index_or asked k d).job count) [
    | inl same ↦
        rw numbers (
          length jobs,
          omega (arith, length_push (numbers_of jobs) job.number, many),
          get_or_push (numbers_of jobs) job.number (slice_index_or asked k d).job (length jobs) many ∙ is ∙ sym same,
        )
    | inr other ↦ rw numbers (Contains-append_left (numbers_of jobs) (job.number ∷ []) (slice_index_or asked k d).job (s.all k d within (omega arith)))
  ];
}
  where
    many : length (numbers_of jobs) ≡ length jobs
    many = length-map jobs (λ (one : Job). one.number)

    numbers : numbers_of (jobs ++ job ∷ []) ≡ numbers_of jobs ++ job.number ∷ []
    numbers = map-append (λ (one : Job). one.number) jobs (job ∷ [])

pub next_number : (asked : List JobCommand) (count : ℕ) (jobs : List Job) (own : List Command) (later : List Job) → SomeJobs asked count jobs → own ≡ commands_of count asked
    → AddsJob jobs count own later → SomeJobs asked (count + 1) later
next_number asked count jobs own later s is (inl none) = rw none.1 (skip_number asked count jobs s (sym is ∙ none.0))
next_number asked count jobs own later s is (inr one) =
    rw one.4 (add_job asked count jobs one.0 s one.1 (one.2 ∙ is ∙ ap (λ (n : ℕ). commands_of n asked) (sym one.1), one.3))

pub all_jobs : (asked : List JobCommand) (jobs : List Job) → SomeJobs asked 4096 jobs → All (λ (asks : JobCommand). asks.job < 4096) asked → AreJobsOf asked jobs
all_jobs asked jobs s low = record {
  ascending = s.ascending;
  commands = s.commands;
  all = λ k d within. s.all k d within (low k d within);
}
