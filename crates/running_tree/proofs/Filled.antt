-- A run in which actor 0 alone has operations, which upsert pairs whose keys ascend: each replied Set, and the log has these pairs.
use Rattle.std.specs.Prelude.{◌≢◌, Option}
use Rattle.running_tree.proofs.Words.{◌≡◌, ◌<◌, ◌≤◌, ◌+◌, ◌-◌, ◌++◌, ◌⊎◌, inl, inr, ℕ, zero, suc, List, [], ◌∷◌, length, map, take, refl, sym, ap, subst, ◌∙◌, Bool, Command, Upsert, Reply}
use Rattle.running_tree.proofs.Words.{Limits, set, logged_value, IsPairsOf, reply_of, Extends, own_entries, IsListing, IsAnswered, dealt, dealt_from, other_parts, OwnLasts, calls_along}
use Rattle.running_tree.proofs.Words.{calls_of, IsOneHistory, Seat, Called}
use Rattle.std.proofs.Common.{Some, None, arith, append_assoc, append-nil, length-append}
use mathlib.Core.Logic.{dite}
use native.Mathlib.Decide.{ℕ_discrete}
use Rattle.bw_model.specs.declared.command.Reply.TheVariants as kind
use Rattle.traces.specs.declared.trace.Entry.{Entry}
use Rattle.traces.specs.declared.trace.Entry.TheVariants.{Begin, Step}
use Rattle.traces.specs.trace.Trace.{command_of, turn_of}
use Rattle.linearization.specs.Linearized.{IsLinearized}
use Rattle.linearization.specs.Points.{HasPoints, log_at, log_of}
use Rattle.running_tree.specs.Loaded.{AreAt, AreLoaded, HaveUpserted, IsStopped, IsStoppedAt, KeysAscend, upsert_of}
use Rattle.running_tree.specs.Trees.{Tree, fresh_seat}
use Rattle.running_tree.proofs.Alone.{Blocks, absent, all_own, are_ours, in_blocks, AreOurs}
use Rattle.running_tree.proofs.Ascending.{Pair, lists, sets_of, unset_before}
use Rattle.running_tree.proofs.Gathering.{AllExtend}
use Rattle.running_tree.proofs.Logged.{adds}
use Rattle.running_tree.proofs.Opened.{others_dealt}

abbrev set_calls : List Pair → List (Command × Option Reply)
set_calls pairs = map (λ pair. (upsert_of pair, Some kind.Set)) pairs

sets_snoc : (done : List Pair) (p : Pair) → sets_of done ++ set 0 p.0 p.1 ∷ [] ≡ sets_of (done ++ p ∷ [])
sets_snoc [] p = refl
sets_snoc (d ∷ done) p = ap (λ rest. set 0 d.0 d.1 ∷ rest) (sets_snoc done p)

ends : (calls : List (Command × Option Reply)) (after : List Entry) → Blocks calls after → (after ≡ []) ⊎ ((command : Command) × (rest : List Entry) × (after ≡ Begin 0 command ∷ rest))
ends [] after is = inl is
ends ((command, None) ∷ calls) after is = absurd is
ends ((command, Some reply) ∷ calls) after (mid, step, answer, next, is, silent, blocks) = inr (command, mid ++ Step 0 step answer (Some reply) ∷ next, is)

front_length : (before mid : List Entry) (first last : Entry) → length (before ++ first ∷ (mid ++ last ∷ [])) ≡ suc (length before + suc (length mid))
front_length before mid first last =
    let all : length (before ++ first ∷ (mid ++ last ∷ [])) ≡ length before + suc (length (mid ++ last ∷ [])) = length-append before (first ∷ (mid ++ last ∷ [])) in
    let rest : length (mid ++ last ∷ []) ≡ length mid + 1 = length-append mid (last ∷ []) in
    omega (arith, all, rest)

front_then : (before mid after : List Entry) (first last : Entry) → before ++ first ∷ (mid ++ last ∷ after) ≡ (before ++ first ∷ (mid ++ last ∷ [])) ++ after
front_then before mid after first last =
    sym (append_assoc before (first ∷ (mid ++ last ∷ [])) after ∙ ap (λ rest. before ++ first ∷ rest) (append_assoc mid (last ∷ []) after))

same_reply : (old : Option (List ℕ)) (key value : List ℕ) (given : Reply) → old ≡ None → reply_of (Upsert key value) old ≡ Some given → given ≡ kind.Set
same_reply None key value given none e = cc
same_reply (Some v) key value given none e = cc

take_all : {X : Type 0} (xs : List X) → take (length xs) xs ≡ xs
take_all [] = refl
take_all (x ∷ xs) = ap (λ rest. x ∷ rest) (take_all xs)

module _ (limits : Limits) (run : List Entry) (points : List Bool) (pointed : HasPoints run points) (says : IsAnswered limits run points) where
  each : (done pairs : List Pair) (calls : List (Command × Option Reply)) (before rest : List Entry) → run ≡ before ++ rest → Blocks calls rest
      → HaveUpserted pairs calls → KeysAscend (done ++ pairs) → log_at run points (length before) ≡ sets_of done
      → (calls ≡ set_calls pairs) × (log_at run points (length run) ≡ sets_of (done ++ pairs))
  each done [] calls before rest is blocks upserted ascend log =
      let none : rest ≡ [] = subst (λ (cs : List (Command × Option Reply)). Blocks cs rest) upserted blocks in
      let whole : run ≡ before = is ∙ ap (λ es. before ++ es) none ∙ append-nil before in
      (upserted, ap (λ (es : List Entry). log_at run points (length es)) whole ∙ log ∙ ap sets_of (sym (append-nil done)))
  each done (p ∷ pairs) calls before rest is blocks (given, later, calls_is, some, upserted) ascend log =
      let (mid, step, answer, after, rest_is, silent, blocks') = subst (λ (cs : List (Command × Option Reply)). Blocks cs rest) calls_is blocks in
      let here : run ≡ before ++ Begin 0 (Upsert p.0 p.1) ∷ (mid ++ Step 0 step answer (Some given) ∷ after) = is ∙ ap (λ es. before ++ es) rest_is in
      let (grown, replied) = adds limits run points pointed says before mid after p.0 p.1 step answer given here silent (ends later after blocks') some in
      let unset : logged_value (log_at run points (length before)) p.0 ≡ None = ap (λ log. logged_value log p.0) log ∙ unset_before done p pairs ascend in
      let is_set : given ≡ kind.Set = same_reply (logged_value (log_at run points (length before)) p.0) p.0 p.1 given unset replied in
      let (calls_then, log_then) = each (done ++ p ∷ []) pairs later (before ++ Begin 0 (Upsert p.0 p.1) ∷ (mid ++ Step 0 step answer (Some given) ∷ [])) after
      (here ∙ front_then before mid after (Begin 0 (Upsert p.0 p.1)) (Step 0 step answer (Some given))) blocks' upserted
      (subst KeysAscend (sym (append_assoc done (p ∷ []) pairs)) ascend)
      (ap (log_at run points) (front_length before mid (Begin 0 (Upsert p.0 p.1)) (Step 0 step answer (Some given))) ∙ grown ∙ ap (λ log. log ++ set 0 p.0 p.1 ∷ []) log ∙ sets_snoc done p) in (
        calls_is ∙ ap (λ (r : Reply). (upsert_of p, Some r) ∷ later) is_set ∙ ap (λ (cs : List (Command × Option Reply)). (upsert_of p, Some kind.Set) ∷ cs) calls_then,
        log_then ∙ ap sets_of (append_assoc done (p ∷ []) pairs),
      )

  all_log : log_of run points ≡ log_at run points (length run)
  all_log =
      ap (λ es. log_of es points) (sym (take_all run))
      ∙ ap (log_of (take (length run) run)) (sym (take_all points) ∙ ap (λ n. take n points) pointed.beside)

-- the parts of the others go on from nothing
part_extends : (limits : Limits) (run : List Entry) (first many actor : ℕ) → first ≤ actor → actor < first + many → AllExtend run (dealt_from limits first many) → Extends actor [] run
part_extends limits run first zero actor low high all = absurd (omega (arith, low, high))
part_extends limits run first (suc many) actor low high all = dite (ℕ_discrete first actor)
    (λ same. subst (λ a. Extends a [] run) same all.0)
    (λ other. part_extends limits run (suc first) many actor (omega (arith, low, other)) (omega (arith, high)) all.1)

none_own : (actor : ℕ) (run : List Entry) → Extends actor [] run → own_entries actor run ≡ []
none_own actor run (rest, is, none) = ap (own_entries actor) is ∙ none

module _ (limits : Limits) (run : List Entry) (history : IsOneHistory limits run) (all : AllExtend run (other_parts (dealt limits))) where
  pub others_none : (actor : ℕ) → actor ≢ 0 → own_entries actor run ≡ []
  others_none actor other = by_order (below_or actor)
    where
      below_or : (n : ℕ) → (n < limits.actors) ⊎ (limits.actors ≤ n)
      below_or n = grind (arith)

      dealt_all : AllExtend run (dealt_from limits 1 (limits.actors - 1))
      dealt_all = subst (AllExtend run) (others_dealt limits limits.actors (let some = limits.allowed.some_actor in omega (arith, some))) all

      by_order : (actor < limits.actors) ⊎ (limits.actors ≤ actor) → own_entries actor run ≡ []
      by_order (inl low) = none_own actor run (part_extends limits run 1 (limits.actors - 1) actor (omega (arith, other)) (omega (arith, low)) dealt_all)
      by_order (inr high) = absent limits run history.linearized.run.run actor high [] run refl refl

  pub ours : AreOurs run
  ours = are_ours run others_none

  pub all_idle : OwnLasts → command_of run 0 ≡ None → (actor : ℕ) → command_of run actor ≡ None
  all_idle own first actor = dite (ℕ_discrete actor 0)
      (λ same. ap (command_of run) same ∙ first)
      (λ other. (own limits actor [] run (run, refl, others_none actor other)).command)

  -- what the first actor had seen is the whole run
  pub nothing_new : (seen : List Entry) → Extends 0 seen run → run ≡ seen
  nothing_new seen (rest, is, none) = is ∙ ap (λ es. seen ++ es) (sym (all_own rest (rest_ours seen rest (subst AreOurs is ours))) ∙ none) ∙ append-nil seen
    where
      rest_ours : (front rest : List Entry) → AreOurs (front ++ rest) → AreOurs rest
      rest_ours [] rest all = all
      rest_ours (entry ∷ front) rest all = rest_ours front rest all.1

  module _ (pairs : List Pair) (ascend : KeysAscend pairs) (first : command_of run 0 ≡ None) (upserted : HaveUpserted pairs (calls_of 0 run)) where
    told : (linear : IsLinearized limits (map turn_of run) run) → (calls_of 0 run ≡ set_calls pairs) × (log_of run linear.points ≡ sets_of pairs)
    told linear =
        let blocks : Blocks (calls_of 0 run) run = subst (λ es. Blocks (calls_of_own es) run) (sym (all_own run ours)) (in_blocks limits run linear.run.run first ours) in
        let (calls, log) = each limits run linear.points linear.pointed linear.answered [] pairs (calls_of 0 run) [] run refl blocks upserted ascend refl in
        (calls, all_log limits run linear.points linear.pointed linear.answered ∙ log)
      where
        calls_of_own : List Entry → List (Command × Option Reply)
        calls_of_own es = calls_along [] es

    pub all_set : calls_of 0 run ≡ map (λ pair. (upsert_of pair, Some kind.Set)) pairs
    all_set = (told history.linearized).0

    pub listed : IsListing limits run pairs
    listed linear = subst (λ log. IsPairsOf log [] None pairs) (sym (told linear).1) (lists pairs ascend)

-- all seats of the tree have seen the run of the first one, in which the pairs were upserted
pub are_loaded : OwnLasts → (tree : Tree) (run : List Entry) (seats : List Seat) (pairs : List Pair) → IsOneHistory tree.limits run → AllExtend run (other_parts (dealt tree.limits)) → KeysAscend pairs
    → (seen : List Entry) → Extends 0 seen run → command_of seen 0 ≡ None → HaveUpserted pairs (calls_of 0 seen) → AreAt tree run seats → AreLoaded tree seats pairs
are_loaded own tree run seats pairs history all ascend seen extends idle upserted stand =
    let same : run ≡ seen = nothing_new tree.limits run history all seen extends in
    let first : command_of run 0 ≡ None = ap (λ es. command_of es 0) same ∙ idle in
    let done : HaveUpserted pairs (calls_of 0 run) = subst (λ es. HaveUpserted pairs (calls_of 0 es)) (sym same) upserted in
    record {
      run = run;
      stand = stand;
      idle = all_idle tree.limits run history all own first;
      history = history;
      calls = all_set tree.limits run history all pairs ascend first done;
      others = others_none tree.limits run history all;
      listing = listed tree.limits run history all pairs ascend first done;
    }

-- where the load stopped, the others have no entry either
pub is_stopped : (tree : Tree) (run : List Entry) (pairs : List Pair) (budget place : ℕ) (result : Called) (seat : Seat) → IsOneHistory tree.limits run
    → AllExtend run (other_parts (dealt tree.limits)) → Extends 0 seat.seen run
    → IsStoppedAt (fresh_seat tree 0) pairs budget place result seat → IsStopped tree.limits pairs budget result
is_stopped tree run pairs budget place result seat history all extends stopped =
    let same : run ≡ seat.seen = nothing_new tree.limits run history all seat.seen extends in
    record {
      tree = tree;
      own = refl;
      seat = seat;
      place = place;
      stopped = stopped;
      others = λ actor other. subst (λ es. own_entries actor es ≡ []) same (others_none tree.limits run history all actor other);
      history = subst (IsOneHistory tree.limits) same history;
    }
