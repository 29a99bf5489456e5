-- The empty trace is a state, and a begin keeps a state.
use Rattle.tree_law.proofs.Words.{false, ◌⊎◌, ap, refl, ltb, Option, suc, None, List, true, inl, ◌≢◌, length, ◌++◌, ◌≤◌, inr, ◌∷◌, sym, ℕ, ◌≡◌, Bool, zero, ◌∙◌, ◌<◌, arith, Some}
use Rattle.tree_law.proofs.Words.{ltb-true, fold-append, Update, Command, Limits, ReuseRows, ReusePids, opening, Memory, slice_get_below, slice_get_kept, slice_get-push_cases}
use Rattle.tree_law.proofs.Words.{slice_get-push, IsRun-push, TakesStep-push_cases, memory_of-push, command_of-push, after_begin, knows, Knowledge, knows_after}
use Rattle.tree_law.proofs.Words.{ShowsRow, memory_at, command_of, memory_of}
use Rattle.tree_law.proofs.Words.{Entry, Begin, and_right, same_operation, and_left, log_of-push, IsOperation, Operation, log_at, log_of, HasMapOf, UnlinksPid, UnlinksRow, HandsPid}
use Rattle.tree_law.proofs.Words.{HandsRow, IsInLimbo, Owners, Indexed, put, shared_part, slot_in, IsReadyPage, Tells, operation_from, IsSearch, IsState, phase_of}
use Rattle.tree_law.proofs.Words.{IsInTree, IsUnended, HaveStood, Times, Timed, Opens, IsTree, same_Some, []}
use Rattle.std.proofs.Common.{leb}
use Rattle.traces.proofs.RunLaws.{IsRun-none}
use Rattle.tree_law.proofs.epochs.Limbos.{limbo_push, freed_push, pid_longer, row_longer}
use Rattle.tree_law.specs.TraceLaws.{BeginsKeep}
use Rattle.tree_law.proofs.epochs.Timely.{calm_same, read_timed}
use Rattle.tree_law.proofs.links.Keeping.{begins as tree_begins}
use Rattle.tree_law.proofs.shape.{is_indexed, below_top, root_indexed, opening_fitted, opening_unheld, indexed_first, indexed_push, map_of, by_equal, put_same, put_other}
use Rattle.tree_law.proofs.trace.Ending.{ends_none, ends_push}
use Rattle.tree_law.proofs.trace.Lives.{begins_in_phase, begins_phases, begins_only}
use Rattle.tree_law.proofs.trace.Updates.{updates_push}
use Rattle.tree_law.proofs.trace.Marks.{marked_push, tells_other, quiet_push}
use Rattle.tree_law.proofs.trace.Names.{faithful_push, named_begins}
use Rattle.tree_law.proofs.trace.Opening.{opening_slots, opening_owners, opening_tree}
use Rattle.tree_law.proofs.trace.Owned.{pushed_length}
use Rattle.tree_law.proofs.trace.Searches.{search_new, search_other}
use Rattle.tree_law.proofs.trace.Standing.{stood_kept}

pub knows-push : (entries : List Entry) (entry : Entry) → knows (entries ++ entry ∷ []) ≡ knows_after (knows entries) entry
knows-push entries entry = fold-append _ _ entries (entry ∷ [])

opening_times : Times
opening_times = record { entered = λ a. 0; home = λ r. 1; row_out = λ r. None; page_out = λ p. None }

opening_timed : (limits : Limits) → Timed limits (opening limits) (opening_owners limits) (knows []) 0 opening_times
unfolding opening_times
opening_timed limits = record {
  within = λ b e. absurd (cc);
  holds =
      λ b. record {
        learnt_inside = λ r e. absurd (cc);
        learnt_since = λ r e. absurd (cc);
        seen_learnt = λ r w e. absurd (cc);
        roots_inside = λ p e. absurd
            (cc);
        roots_since = λ p e. absurd (cc);
        heads_since = λ p x e. absurd (cc);
        before_since = λ p f x e. absurd (cc);
        beside_since = λ p f y x e. absurd
            (cc);
        linked_learnt = λ x e. absurd (cc);
      };
  announced = λ b e. absurd (cc);
  epochs = λ b v e. absurd (cc);
  slots = λ p x l s h e. (by_equal p 1 (λ i t. sym i) (λ ne t. absurd (let f = rw t at (rw (opening_slots limits) at e) in cc)), refl);
  together = λ r n w l e i. (refl, refl);
  rows = λ r w e. absurd (cc);
  pages = λ p w e. absurd (cc);
  own_rows = λ b r e. refl;
  gone_pages = λ b p e. refl;
  limbo_rows = λ b r. tt;
  limbo_pids = λ b p. tt;
  ready = λ b p r e. absurd (cc);
  apart = λ b p q r e f. absurd (cc);
}

-- what an actor holds when it begins it held before
begin_timed : {limits : Limits} {m : Memory} {log : List Update} {o : Owners} {knows : ℕ → Knowledge} {point : ℕ → Option (List Update)}
    {logs : ℕ → List (List Update)} {now : ℕ} {t : Times} (g : IsTree (shared_part m) log o knows point logs) (T : Timed limits m o knows now t) (a : ℕ)
    (c : Command)
    → Timed limits m o (put knows a (after_begin (knows a) c)) (suc now) t
begin_timed {m = m} {o = o} {knows = knows} g T a c =
    let h = T.holds a in
    read_timed (after_begin (knows a) c) (calm_same g T a) refl refl
    (record {
      learnt_inside = h.learnt_inside;
      learnt_since = h.learnt_since;
      seen_learnt = h.seen_learnt;
      roots_inside = h.roots_inside;
      roots_since =
          h.roots_since;
      heads_since = λ p x e. absurd (cc);
      before_since = λ p f x e. absurd (cc);
      beside_since = λ p f y x e. absurd (cc);
      linked_learnt = λ x
          e. absurd (cc);
    })
    refl refl

pub opens : Opens IsState
opens limits = record {
  points = [];
  owners = opening_owners limits;
  point = λ a. None;
  logs = λ a. [];
  is_tree = opening_tree limits;
  fitted = opening_fitted limits;
  unheld = opening_unheld limits;
  named = record {
    shown = λ a r h. absurd (not_shown a r h.0 h.1);
    known = λ a r e. absurd (cc);
    announced = λ a e. absurd (cc);
    epoch = (limits.allowed.some_epoch, limits.allowed.small_epoch);
    posted = λ a. omega arith;
    commands = λ a. refl;
    zero_free = refl;
    zero_taken = refl;
    free_row_below = λ q e. ltb-true q limits.rows (and_right (leb 2 q) (ltb q limits.rows) e);
    row_below = λ q. by_equal q 1 (λ i t. rw t (inr (let some : 64 ≤ limits.rows = limits.allowed.some_rows in omega arith))) (λ ne t. rw t (inl refl));
    free_pid_below = λ p e. free_pid p (and_left (leb 2 p) (ltb p limits.pids) e) (and_right (leb 2 p) (ltb p limits.pids) e);
    pid_below = λ p. by_equal p 1 (λ i t. rw t (inr (let some : 64 ≤ limits.pids = limits.allowed.some_pids in (omega arith, omega arith)))) (λ ne t. rw t (inl refl));
    in_slots = held;
  };
  tells = λ a asked e. absurd (cc);
  searches = λ op is u e. absurd (cc);
  stood = λ op is u e. absurd (cc);
  marked = record { beside = refl; own = λ n e. absurd (cc); one = λ op m n is own own' p q. absurd (cc); answered = λ op n r is ends. absurd (cc ends.2.entry) };
  run = IsRun-none limits;
  ends = ends_none;
  updates = λ n. (λ h. absurd (cc h.0), λ h. absurd (cc h.at));
  quiet = record { at_each = λ n h. (elim n as (λ n. n ≤ 0 → HasMapOf (memory_at limits [] n) (log_at [] [] n)) [ zero ↦ λ h. map_of (opening_tree limits) | suc n ↦ λ h. absurd (omega arith) ]) h };
  faithful = record { known = λ n a row x h. absurd (cc h.1); outside = λ n a s x h. absurd (cc h.1) };
  in_phase = λ pid. inr (λ k from to low high. absurd (omega arith), by_equal pid 1 (λ i t. rw t) (λ ne t. rw t));
  only_phase = λ pid phase h. elim h [
    | inl moved ↦ absurd (let lt = moved.2 in omega arith)
    | inr rested ↦ rested.1 ∙ by_equal pid 1 (λ i t. rw t) (λ ne t. rw t)
  ];
  phases = record { in_order = λ n pid from to h. absurd (cc h.at); emptied = λ n actor pid old h. absurd (cc h.at); unheld = λ n pid remove chain h. absurd (cc h.at) };
  limbo_rows = λ a q. tt;
  limbo_pids = λ a q. tt;
  freed = record { pids = λ n a word bits pid x h among. absurd (cc h.1); rows = λ n a word bits row x h among. absurd (cc h.1) };
  times = opening_times;
  timed = opening_timed limits;
  indexed = indexed_first limits (opening_tree limits) (λ l q h. by_equal q 1 (λ i t. let f : 0 ≡ l = cc in sym f) (λ ne t. absurd (let e = rw t at h.1 in cc)));
  rooted = λ b p e. absurd (cc);
}
  where
    not_shown : (a r n : ℕ) → ShowsRow [] n a r → ⊥
    not_shown a r n (inl h) = let e = h.2.1 in cc
    not_shown a r n (inr h) = let e = h.2.1 in cc

    free_pid : (p : ℕ) → leb 2 p ≡ true → ltb p limits.pids ≡ true → (0 < p) × (p < limits.pids)
    free_pid zero e f = absurd (cc)
    free_pid (suc p) e f = (omega arith, ltb-true (suc p) limits.pids f)

    held : (p r : ℕ) → slot_in (opening limits).slots p ≡ Some r → IsInTree ((opening_owners limits).page p) ⊎ IsReadyPage (opening_owners limits) (opening limits) (knows []) p r
    held p r e = by_equal p 1
        (λ i t. inl (rw t tt))
        (λ ne t. absurd (let f = rw t at (rw (opening_slots limits) at e) in cc))

-- what is told of an actor that begins
tells_new : (entries : List Entry) (points : List Bool) (a : ℕ) (c : Command) → Tells (entries ++ Begin a c ∷ []) points a c None []
tells_new entries points a c = record {
  start = length entries;
  begins = slice_get-push entries (Begin a c);
  unended = λ later d low e. past later low (slice_get_below _ later _ e);
  logs_at = λ l h. absurd h;
  point_at = λ m own p. past m own.2.1.begun (slice_get_below _ m _ own.2.1.entry);
}
  where
    past : (n : ℕ) → length entries < n → n < length (entries ++ Begin a c ∷ []) → ⊥
    past n low high = let long : length (entries ++ Begin a c ∷ []) ≡ suc (length entries) = pushed_length entries (Begin a c) in omega arith

pub begins : BeginsKeep IsState
begins limits entries a c state below idle =
    let rows_longer : (b q : ℕ) → IsInLimbo (entries ++ Begin a c ∷ []) b (UnlinksRow limits (entries ++ Begin a c ∷ []) b q) (HandsRow q) ((knows entries b).limbo.rows q) =
    λ b q. limbo_push entries (Begin a c) (UnlinksRow limits entries b q) (UnlinksRow limits (entries ++ Begin a c ∷ []) b q) (HandsRow q)
    (row_longer entries (Begin a c) limits b q) b ((knows entries b).limbo.rows q) (λ f other s x h. absurd (cc h.1)) (state.limbo_rows b q) in
    let pids_longer : (b q : ℕ) → IsInLimbo (entries ++ Begin a c ∷ []) b (UnlinksPid limits (entries ++ Begin a c ∷ []) b q) (HandsPid q) ((knows entries b).limbo.pids q) =
    λ b q. limbo_push entries (Begin a c) (UnlinksPid limits entries b q) (UnlinksPid limits (entries ++ Begin a c ∷ []) b q) (HandsPid q)
    (pid_longer entries (Begin a c) limits b q) b ((knows entries b).limbo.pids q) (λ f other s x h. absurd (cc h.1)) (state.limbo_pids b q) in
    let tree_after : IsTree (shared_part (memory_of limits (entries ++ Begin a c ∷ []))) (log_of (entries ++ Begin a c ∷ []) (state.points ++ false ∷ []))
    state.owners (knows (entries ++ Begin a c ∷ [])) (put state.point a None) (put state.logs a []) =
    rw (memory_of-push limits entries (Begin a c), log_of-push entries state.points (Begin a c) false state.marked.beside, knows-push entries (Begin a c)) (tree_begins state.is_tree a c) in
    record {
      points = state.points ++ false ∷ [];
      owners = state.owners;
      point = put state.point a None;
      logs = put state.logs a [];
      is_tree = tree_after;
      fitted = rw (memory_of-push limits entries (Begin a c)) state.fitted;
      unheld = rw (memory_of-push limits entries (Begin a c)) state.unheld;
      named =
          rw (memory_of-push limits entries (Begin a c), knows-push entries (Begin a c))
          (named_begins limits entries state.owners (memory_of limits entries) (knows entries) a c state.named (command_of-push entries (Begin a c)));
      tells = λ b asked e. let now = rw (command_of-push entries (Begin a c)) at e in by_equal b a
          (λ i t. rw (t, i, same_Some asked c (sym (rw t at now))) (tells_new entries (state.points ++ false ∷ []) a c))
          (λ ne t. rw t (tells_other entries state.points (Begin a c) false state.marked.beside b asked (state.point b) (state.logs b)
          (λ d i. ne (let j : a ≡ b = cc in sym j)) (λ s x r i. absurd (cc)) (state.tells b asked (rw t at now))));
      searches = searches_begin;
      stood = stood_begin;
      marked = marked_push entries state.points (Begin a c) false state.marked.beside limits state.marked (λ e. absurd (cc)) (λ e. absurd (cc)) (λ op s x r is e u. absurd (cc)) (λ e. absurd (cc));
      run = IsRun-push limits entries (Begin a c) state.run (below, idle);
      ends = ends_push entries (Begin a c) state.ends tt;
      updates = updates_push limits entries state.points (Begin a c) false state.marked.beside state.updates (λ h. absurd (cc h.0), λ h. absurd (cc h.5.0.1));
      quiet = quiet_push entries state.points (Begin a c) false state.marked.beside limits state.quiet
          (rw (memory_of-push limits entries (Begin a c), log_of-push entries state.points (Begin a c) false state.marked.beside) (map_of state.is_tree));
      in_phase = λ pid. begins_in_phase limits entries a c pid (phase_of (state.owners.page pid)) (state.in_phase pid);
      only_phase = begins_only limits entries a c state.owners.page state.in_phase state.only_phase;
      phases = begins_phases limits entries a c state.phases;
      limbo_rows = rw (knows-push entries (Begin a c)) (λ b q. by_equal b a (λ i t. rw t (rw i (rows_longer a q))) (λ ne t. rw t (rows_longer b q)));
      limbo_pids = rw (knows-push entries (Begin a c)) (λ b q. by_equal b a (λ i t. rw t (rw i (pids_longer a q))) (λ ne t. rw t (pids_longer b q)));
      freed = record {
        pids = λ n b word bits pid x h among. elim (TakesStep-push_cases entries (Begin a c) n b (ReusePids word bits) x h) [
          | inl before ↦ freed_push entries (Begin a c) (UnlinksPid limits entries b pid) (UnlinksPid limits (entries ++ Begin a c ∷ []) b pid) (HandsPid pid)
              (pid_longer entries (Begin a c) limits b pid) limits b n (slice_get_below entries n _ before.1)
              (state.freed.pids n b word bits pid x before among)
          | inr at ↦ absurd (cc at.1.1)
        ];
        rows = λ n b word bits row x h among. elim (TakesStep-push_cases entries (Begin a c) n b (ReuseRows word bits) x h) [
          | inl before ↦ freed_push entries (Begin a c) (UnlinksRow limits entries b row) (UnlinksRow limits (entries ++ Begin a c ∷ []) b row) (HandsRow row)
              (row_longer entries (Begin a c) limits b row) limits b n (slice_get_below entries n _ before.1)
              (state.freed.rows n b word bits row x before among)
          | inr at ↦ absurd (cc at.1.1)
        ];
      };
      times = state.times;
      timed = rw (memory_of-push limits entries (Begin a c), knows-push entries (Begin a c), pushed_length entries (Begin a c)) (begin_timed state.is_tree state.timed a c);
      faithful = faithful_push limits entries (Begin a c) state.faithful (λ b row x h. let e = h.1 in absurd (cc)) (λ b s x h z. let e = h.1 in absurd (cc));
      rooted = λ b p e. by_equal b a
          (λ i t. let f = rw t at (rw (knows-push entries (Begin a c)) at e) in state.rooted a p f) (λ ne t. let f = rw t at (rw (knows-push entries (Begin a c)) at e) in state.rooted b p f);
      indexed = indexed_push limits entries (Begin a c) state.is_tree tree_after (λ l q h. h)
          (let le = below_top (memory_of limits entries) state.is_tree ((memory_of limits (entries ++ Begin a c ∷ [])).slots 0)
          ((is_indexed (memory_of limits (entries ++ Begin a c ∷ [])) tree_after).top) [] Indexed
          (root_indexed (memory_of limits (entries ++ Begin a c ∷ [])) tree_after) in omega arith)
          (λ pid. begins_in_phase limits entries a c pid (phase_of (state.owners.page pid)) (state.in_phase pid))
          (begins_only limits entries a c state.owners.page state.in_phase state.only_phase) state.indexed;
    }
  where
    -- what is so of each unfinished operation: the one that begins, and those of others
    unfinished_begin : (P : Operation → Knowledge → Type 0) → P (operation_from (length entries) a c) (after_begin (knows entries a) c)
        → ((op : Operation) → IsOperation entries op → IsUnended entries op.start op.actor → command_of entries op.actor ≡ Some op.command → P op (knows entries op.actor))
        → (op : Operation) → IsOperation (entries ++ Begin a c ∷ []) op → IsUnended (entries ++ Begin a c ∷ []) op.start op.actor
        → command_of (entries ++ Begin a c ∷ []) op.actor ≡ Some op.command → P op (knows (entries ++ Begin a c ∷ []) op.actor)
    unfinished_begin P new others op is unended asks = rw (knows-push entries (Begin a c)) (elim (slice_get-push_cases entries (Begin a c) op.start _ is) [
      | inr at ↦
          let same : op ≡ operation_from (length entries) a c = same_operation op (operation_from (length entries) a c) at.0 (let e = at.1 in cc) (let e = at.1 in cc) in
          rw same (rw (put_same (knows entries) a (after_begin (knows entries a) c)) new)
      | inl before ↦
          let other : op.actor ≢ a = λ i. unended (length entries) c (slice_get_below entries op.start _ before) (rw i (slice_get-push entries (Begin a c))) in
          let asks' : command_of entries op.actor ≡ Some op.command = sym (put_other (command_of entries) a (Some c) op.actor other) ∙ (rw (command_of-push entries (Begin a c)) at asks) in
          rw (put_other (knows entries) a (after_begin (knows entries a) c) op.actor other)
          (others op before (λ later d low e. unended later d low (slice_get_kept entries (Begin a c ∷ []) later _ e)) asks')
    ])

    searches_begin : (op : Operation) → IsOperation (entries ++ Begin a c ∷ []) op → IsUnended (entries ++ Begin a c ∷ []) op.start op.actor
        → command_of (entries ++ Begin a c ∷ []) op.actor ≡ Some op.command
        → IsSearch (entries ++ Begin a c ∷ []) op (knows (entries ++ Begin a c ∷ []) op.actor)
    searches_begin = unfinished_begin (IsSearch (entries ++ Begin a c ∷ [])) (search_new entries (Begin a c) a c (knows entries a))
        (λ op is unended asks. search_other entries (Begin a c) op (knows entries op.actor) (state.searches op is unended asks) (λ s x r e. absurd (cc)))

    stood_begin : (op : Operation) → IsOperation (entries ++ Begin a c ∷ []) op → IsUnended (entries ++ Begin a c ∷ []) op.start op.actor
        → command_of (entries ++ Begin a c ∷ []) op.actor ≡ Some op.command
        → HaveStood limits (entries ++ Begin a c ∷ []) op (memory_of limits (entries ++ Begin a c ∷ [])).rows (knows (entries ++ Begin a c ∷ []) op.actor).read
    stood_begin = unfinished_begin (λ op k. HaveStood limits (entries ++ Begin a c ∷ []) op (memory_of limits (entries ++ Begin a c ∷ [])).rows k.read)
        (record { reads = λ page row chain read. absurd (cc); heads = λ page row chain read. absurd (cc); beside = λ page head other row basis chain read. absurd (cc) })
        (λ op is unended asks. stood_kept limits entries (Begin a c) state.is_tree (memory_of limits (entries ++ Begin a c ∷ [])).rows
        (λ row l. ap (λ (m : Memory). m.rows row) (memory_of-push limits entries (Begin a c))) op op.actor (state.stood op is unended asks))

-- whose rows and pages are is as it was
pub begins_owners : (limits : Limits) (entries : List Entry) (a : ℕ) (c : Command) (state : IsState limits entries) (below : a < limits.actors) (idle : command_of entries a ≡ None)
    → (begins limits entries a c state below idle).owners ≡ state.owners
unfolding begins
begins_owners limits entries a c state below idle = refl

pub opens_owners : (limits : Limits) → (opens limits).owners ≡ opening_owners limits
unfolding opens
opens_owners limits = refl
