-- An insert that replies that it inserted without an exchange that won is refused, whatever is marked:
-- at the mark the log has the key, and the memory hasn't.
use Rattle.std.specs.Prelude.{codes, slice_get, take, map}
use Rattle.std.specs.Option.{option_to_list}
use Rattle.linearization.proofs.Words.{◌≡◌, ◌<◌, ◌≤◌, ℕ, suc, List, [], ◌∷◌, ◌++◌, Bool, true, Some, None, Option, refl, ap, arith, inl, inr, lit<, ◌∙◌, Command, Insert, reply_of, update_of}
use Rattle.linearization.proofs.Words.{Memory, Entry, Spells, IsRun, memory_at, turn_of, slice_get_below, IsRun-from_steps, Operation, IsOwnStep, Finishes, IsQuiet, HasMapOf, IsLinearized}
use Rattle.bw_model.specs.declared.command.Reply.TheVariants as reply
use Rattle.bw_model.specs.Log.{Update, set, logged_value}
use Rattle.bw_model.proofs.LogLaws.{logged_value-push}
use Rattle.bw_model.specs.declared.step.Step.TheVariants.{Leave}
use Rattle.bw_model.specs.declared.step.Answer.TheVariants.{Done}
use Rattle.traces.specs.declared.trace.Entry.TheVariants.{Begin, Step}
use Rattle.linearization.specs.Points.{HasPoints, log_at, updates_at, updates_by}
use Rattle.linearization.specs.Answered.{IsAnswered, IsTrueReply, RepliesAt}
use Rattle.linearization.specs.Examples.{small, opening_leaf, claimed_insert}
use Rattle.linearization.proofs.Listed.{EachAt-get, UpTo-at, stands_at}
use Rattle.linearization.proofs.runs.Kinds.{is_begin, leaf_at}
use Rattle.linearization.proofs.LogLaws.{log_at-step}
use Rattle.linearization.proofs.MapLaws.{one_leaf}

pub is_run : IsRun small claimed_insert
is_run = IsRun-from_steps small claimed_insert
    ((lit< tt, refl), ((refl, tt, refl), ((refl, tt, refl), ((refl, tt, refl), ((refl, tt, refl), ((refl, tt, (opening_leaf, refl, refl)), ((refl, tt, refl), tt)))))))

abbrev insert : Command
insert = Insert (codes "a") (codes "1")

abbrev the_insert : Operation
the_insert = record { start = 0; actor = 0; command = insert }

first_only : (later : ℕ) (command : Command) → 0 < later → slice_get claimed_insert later ≡ Some (Begin 0 command) → ⊥
first_only later command after e = let first : later ≡ 0 = stands_at is_begin claimed_insert later _ e refl in omega arith

finishes : Finishes claimed_insert the_insert 6 reply.Inserted
finishes = (Leave, Done, record { begun = lit< tt; entry = refl; not_ended = λ later command low high e. first_only later command low e })

-- a reply that it inserted says that the key was absent
absent : (old : Option (List ℕ)) → reply_of insert old ≡ Some reply.Inserted → old ≡ None
absent None e = refl
absent (Some value) e = cc

absent_at : (memory : Memory) (log : List Update) → RepliesAt memory log insert reply.Inserted → logged_value log (codes "a") ≡ None
absent_at memory log (inl is) = absent (logged_value log (codes "a")) is
absent_at memory log (inr (inl shows)) = let e = shows.is in cc
absent_at memory log (inr (inr shows)) = let e = shows.is in cc

-- each step is one of the insert
updates : (n : ℕ) (entry : Entry) → slice_get claimed_insert n ≡ Some entry → 0 < n → (log : List Update) → updates_at (take n claimed_insert) entry log ≡ updates_by 0 (Some insert) log
updates n entry e low = EachAt-get (λ k x. 0 < k → (log : List Update) → updates_at (take k claimed_insert) x log ≡ updates_by 0 (Some insert) log) claimed_insert
    (λ h log. absurd (omega arith), (λ h log. refl, (λ h log. refl, (λ h log. refl, (λ h log. refl, (λ h log. refl, (λ h log. refl, tt))))))) n entry e low

empty : (n : ℕ) → n ≤ 7 → HasMapOf (memory_at small claimed_insert n) []
empty n h = UpTo-at (λ k. HasMapOf (memory_at small claimed_insert k) []) 7
    (one 0 refl refl, (one 1 refl refl, (one 2 refl refl, (one 3 refl refl, (one 4 refl refl, (one 5 refl refl, (one 6 refl refl, one 7 refl refl))))))) n h
  where
    one : (k : ℕ) → (memory_at small claimed_insert k).slots 1 ≡ 1 → (memory_at small claimed_insert k).rows 1 ≡ Some opening_leaf → HasMapOf (memory_at small claimed_insert k) []
    one k slot row = one_leaf (memory_at small claimed_insert k) [] (opening_leaf ∷ []) (leaf_at claimed_insert k slot row) refl refl refl (λ key. refl)

no_map : (n : ℕ) → n ≤ 7 → (log : List Update) → logged_value log (codes "a") ≡ Some (codes "1") → HasMapOf (memory_at small claimed_insert n) log → ⊥
no_map n h log has map_of =
    let spelled : Spells (memory_at small claimed_insert n) (codes "a") (codes "1") = (map_of.same (codes "a") (codes "1")).1 has in
    let odd : logged_value [] (codes "a") ≡ Some (codes "1") = ((empty n h).same (codes "a") (codes "1")).0 spelled in cc

no_points : (points : List Bool) → HasPoints claimed_insert points → IsAnswered small claimed_insert points → IsQuiet small claimed_insert points → ⊥
no_points points has answered quiet =
    let true_reply : IsTrueReply small claimed_insert points the_insert reply.Inserted = answered.each the_insert 6 reply.Inserted refl finishes in
    at true_reply.0 true_reply.1 true_reply.2 (absent_at (memory_at small claimed_insert true_reply.0) (log_at claimed_insert points true_reply.0) true_reply.3)
  where
    at : (n : ℕ) → IsOwnStep claimed_insert the_insert n → slice_get points n ≡ Some true → logged_value (log_at claimed_insert points n) (codes "a") ≡ None → ⊥
    at n (step, answer, (answered_by, own)) marked none =
        let below : n < 7 = slice_get_below claimed_insert n (Step 0 step answer answered_by) own.entry in
        let by : updates_at (take n claimed_insert) (Step 0 step answer answered_by) (log_at claimed_insert points n) ≡ updates_by 0 (Some insert) (log_at claimed_insert points n) = updates
        n (Step 0 step answer answered_by) own.entry own.begun (log_at claimed_insert points n) in
        let sets : updates_by 0 (Some insert) (log_at claimed_insert points n) ≡ set 0 (codes "a") (codes "1") ∷ [] = ap (λ old. option_to_list (update_of 0 insert old)) none in
        let grown : log_at claimed_insert points (suc n) ≡ log_at claimed_insert points n ++ set 0 (codes "a") (codes "1") ∷ [] =
        log_at-step claimed_insert points n (Step 0 step answer answered_by) true has.beside own.entry marked ∙ ap (λ more. log_at claimed_insert points n ++ more) (by ∙ sets) in
        let there : logged_value (log_at claimed_insert points (suc n)) (codes "a") ≡ Some (codes "1") =
        rw grown (logged_value-push (log_at claimed_insert points n) (set 0 (codes "a") (codes "1")) (codes "a")) in
        no_map (suc n) (omega arith) (log_at claimed_insert points (suc n)) there (quiet.at_each (suc n) (omega arith))

pub not_linearized : ¬ IsLinearized small (map turn_of claimed_insert) claimed_insert
not_linearized run = no_points run.points run.pointed run.answered run.quiet
