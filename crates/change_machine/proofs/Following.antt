-- What each answer leaves a change in.
use Rattle.change_machine.proofs.Words.{◌≡◌, ◌<◌, ◌≤◌, ◌∙◌, inl, inr, ℕ, zero, suc, List, [], ◌∷◌, length, Bool, true, false, Option, Some, None, refl, sym, ap, subst, arith, is_some, cases_eq}
use Rattle.change_machine.proofs.Words.{Limits, Answer, replaced_at, Record, MayExchange, Fits, ReadsRemoved, Belongings, Knowledge, OwnPage, OwnRow, Written, Empty, learn, split_to, AreEnough}
use Rattle.change_machine.proofs.Words.{Change, IsLike, ChangeIsOver, IsPlaced, StandsReady, IsSoundChange, IsTarget, KeepsSpare, MayChange, Shows, linked_number, split_row, wanted_at, head_of}
use Rattle.change_machine.proofs.Words.{needs_pid, rows_needed, slot_of, after_ready, AreTheSpares, AreUnset, HaveRoom, IsUnlinked, Spares, last_row, pid_of, State, Plan, Kind, Install, Root}
use Rattle.change_machine.proofs.Words.{Unlink, replaced_same, replaced_other}
use Rattle.std.proofs.Common.{◌==◌}
use Rattle.std.specs.Prelude.{unwrap_or}
use Rattle.std.proofs.lemmas.Bool.{eq-eqb}
use Rattle.bw_model.specs.declared.step.Answer.TheVariants as answer
use Rattle.deltas.specs.declared.record.Record.TheVariants as kind
use Rattle.deltas.specs.Spellable.{IsPid}
use Rattle.traces.specs.discipline.Discipline.{IsOwn, IsOwnBase, IsUnset}
use Rattle.traces.specs.discipline.Knowledge.{Ready, set_page}
use Rattle.change_machine.specs.Changes.{ChangesOn}
use Rattle.change_machine.specs.Changes.{MayInstall, MayLinkAs, ShowsState, base_row, linked_after, record_row, split_base_row}
use Rattle.structure_changes.specs.Plans.{new_base, new_record}
use Rattle.change_machine.specs.Spares.{AreSpare, last_of, second_of}
use Rattle.change_machine.specs.declared.change.End.TheVariants as end
use Rattle.change_machine.specs.declared.change.State.TheVariants as state
use Rattle.structure_changes.specs.declared.plan.Plan.TheVariants.{Split}
use Rattle.change_machine.proofs.Learning.{empty_page, ready_learnt, ready_went, undo_went, undone_learnt}
use Rattle.change_machine.proofs.SpareLaws.{apart, page_moved, row_placed}
use Rattle.change_machine.proofs.Making.{bare_at}
use Rattle.change_machine.proofs.RowNeeds.{last_behind, second_behind}

pub like_self : (k : Knowledge) → IsLike k.asked.linked k k
like_self k = record { inside = refl; read = refl; command = refl; linked_now = refl }

pub like_on : (a b c : Knowledge) (linked : Option (Option ℕ)) → IsLike a.asked.linked a b → IsLike linked b c → IsLike linked a c
like_on a b c linked p q = record { inside = q.inside ∙ p.inside; read = q.read ∙ p.read; command = q.command ∙ p.command; linked_now = q.linked_now }

-- a page that was read removed was so still
removed_still : (k now : Knowledge) (page row : ℕ) → now.read ≡ k.read → ReadsRemoved k page row → ReadsRemoved now page row
removed_still k now page row same h = record { head = rw same h.head; chain = h.chain; read = rw same h.read; gone = h.gone }

installs_still : (actor : ℕ) (k now : Knowledge) (pid head : ℕ) (content : Record) → IsLike k.asked.linked k now → MayInstall actor k pid head content → MayInstall actor now pid head content
installs_still actor k now pid head content like may = λ later row more some placed bare. may later row (like_on k now later k.asked.linked like (rw (← like.linked_now) more)) some placed bare

-- what may be linked stays so
still_links : (actor : ℕ) (k now : Knowledge) (plan : Plan) → IsLike k.asked.linked k now → MayLinkAs actor k plan → MayLinkAs actor now plan
still_links actor k now (Install pid head content) like links = installs_still actor k now pid head content like links
still_links actor k now (Split pid plan) like links =
    λ later right base row more is some ready written placed bare. links later right base row (like_on k now later k.asked.linked like (rw (← like.linked_now) more)) is some ready written placed bare
still_links actor k now (Root left root) like links =
    λ later new base more is ready written. links later new base (like_on k now later k.asked.linked like (rw (← like.linked_now) more)) is ready written
still_links actor k now (Unlink pid head unterm removal) like links = (
  installs_still actor k now pid head (kind.Unterm unterm) like links.0,
  removed_still k now unterm.child removal like.read links.1,
)

pub still_may : (actor : ℕ) (k now : Knowledge) (plan : Plan) → IsLike k.asked.linked k now → MayChange actor k plan → MayChange actor now plan
still_may actor k now plan like may = record { inside = like.inside ∙ may.inside; links = still_links actor k now plan like may.links }

-- a change that has not won has linked nothing
pub unlinked : (plan : Plan) (linked : Option (Option ℕ)) → (linked_after plan end.Lost linked ≡ linked) × ((which : Kind) → linked_after plan (end.Full which) linked ≡ linked)
unlinked (Install pid head content) linked = (refl, λ which. refl)
unlinked plan linked = (refl, λ which. refl)

-- ---- the spares that a plan uses
pub some_pid : (pid : Option ℕ) → is_some pid ≡ true → pid ≡ Some (unwrap_or pid 0)
some_pid None e = cc
some_pid (Some pid) e = refl

pub own_last : (own : ℕ → OwnRow) (rows : List ℕ) → 1 ≤ length rows → AreSpare own rows → IsOwn (own (last_of rows)) × (0 < last_of rows)
own_last own [] some h = absurd (omega (arith, some))
own_last own (a ∷ []) some h = h.0
own_last own (a ∷ b ∷ rows) some h = rw (last_behind a b rows) (own_last own (b ∷ rows) (omega arith) h.2)

own_second : (own : ℕ → OwnRow) (rows : List ℕ) → 1 ≤ length rows → AreSpare own rows → IsOwn (own (second_of rows)) × (0 < second_of rows)
own_second own [] some h = absurd (omega (arith, some))
own_second own (a ∷ []) some h = h.0
own_second own (a ∷ b ∷ []) some h = h.0
own_second own (a ∷ b ∷ c ∷ rows) some h = rw (second_behind a b c rows) (own_second own (b ∷ c ∷ rows) (omega arith) h.2)

two_apart : (own : ℕ → OwnRow) (rows : List ℕ) → 2 ≤ length rows → AreSpare own rows → (second_of rows == last_of rows) ≡ false
two_apart own [] some h = absurd (omega (arith, some))
two_apart own (a ∷ []) some h = absurd (omega (arith, some))
two_apart own (a ∷ b ∷ []) some h = apart b a h.1.0
two_apart own (a ∷ b ∷ c ∷ rows) some h = rw (second_behind a b c rows, last_behind a (b) (c ∷ rows)) (two_apart own (b ∷ c ∷ rows) (omega arith) h.2)

-- a split's base and its record have rows of their own
split_apart : (large : Bool) (own : ℕ → OwnRow) (spares : Spares) → 2 ≤ length spares.rows → AreSpare own spares.rows → (split_base_row large spares == split_row large spares) ≡ false
split_apart true own spares some h = apart (second_of spares.rows) (last_of spares.rows) (two_apart own spares.rows some h)
split_apart false own spares some h = two_apart own spares.rows some h

split_base_own : (large : Bool) (own : ℕ → OwnRow) (spares : Spares) → 1 ≤ length spares.rows → AreSpare own spares.rows
    → IsOwn (own (split_base_row large spares)) × (0 < split_base_row large spares)
split_base_own true own spares some h = own_last own spares.rows some h
split_base_own false own spares some h = own_second own spares.rows some h

pub split_own : (large : Bool) (own : ℕ → OwnRow) (spares : Spares) → 1 ≤ length spares.rows → AreSpare own spares.rows → IsOwn (own (split_row large spares)) × (0 < split_row large spares)
split_own true own spares some h = own_second own spares.rows some h
split_own false own spares some h = own_last own spares.rows some h

-- no own page has a row in its slot but the one that is moved, which has none
pub unset_then : (own : Belongings) (spares : Spares) (pid : ℕ) (o : OwnPage) → AreTheSpares own spares → spares.pid ≡ Some pid
    → ((row : ℕ) → o ≡ Ready row → ⊥) → AreUnset (record own { pages = replaced_at pid o own.pages })
unset_then own spares pid o are is bare = λ page row e. elim (cases_eq page pid) [
  | inl same ↦ bare row (sym (replaced_same pid o own.pages) ∙ ap (replaced_at pid o own.pages) (sym same) ∙ e)
  | inr other ↦ other
      (let i : own.pages page ≡ Ready row = sym (replaced_other pid o own.pages page other) ∙ e in let there : spares.pid ≡ Some page = are.all_pages page (subst IsUnlinked (sym i) tt) in cc)
]

may_set : (actor : ℕ) (k : Knowledge) (page row : ℕ) → 0 < page → 0 < row → k.own.pages page ≡ Empty → IsOwnBase (k.own.rows row) → IsUnset k row → MayExchange actor k page 0 row
may_set actor k zero row p r empty base unset = absurd (omega (arith, p))
may_set actor k (suc page) zero p r empty base unset = absurd (omega (arith, r))
may_set actor k (suc page) (suc row) p r empty base unset = (empty, base, unset)

may_empty : (actor : ℕ) (k : Knowledge) (page row : ℕ) → 0 < page → 0 < row → k.own.pages page ≡ Ready row → MayExchange actor k page row 0
may_empty actor k zero row p r ready = absurd (omega (arith, p))
may_empty actor k (suc page) zero p r ready = absurd (omega (arith, r))
may_empty actor k (suc page) (suc row) p r ready = inl ready

module _ (actor : ℕ) (limits : Limits) (k : Knowledge) (plan : Plan) (spares : Spares) (room : HaveRoom limits spares) (enough : AreEnough limits plan spares)
    (may : MayChange actor k plan) (keeps : KeepsSpare plan spares.pid) (are : AreTheSpares k.own spares) where
  pub record_is : IsOwn (k.own.rows (record_row limits plan spares)) × (0 < record_row limits plan spares)
  record_is = by_plan plan enough.rows
    where
      by_plan : (plan : Plan) → rows_needed plan ≤ length spares.rows → IsOwn (k.own.rows (record_row limits plan spares)) × (0 < record_row limits plan spares)
      by_plan (Split pid plan) some = split_own limits.is_large k.own.rows spares (omega (arith, some)) are.rows
      by_plan plan some = own_last k.own.rows spares.rows some are.rows

  base_is : IsOwn (k.own.rows (base_row limits plan spares)) × (0 < base_row limits plan spares)
  base_is = by_plan plan enough.rows
    where
      by_plan : (plan : Plan) → rows_needed plan ≤ length spares.rows → IsOwn (k.own.rows (base_row limits plan spares)) × (0 < base_row limits plan spares)
      by_plan (Split pid plan) some = split_base_own limits.is_large k.own.rows spares (omega (arith, some)) are.rows
      by_plan plan some = own_last k.own.rows spares.rows some are.rows

  pid_is : needs_pid plan ≡ true → spares.pid ≡ Some (pid_of spares)
  pid_is needs = some_pid spares.pid (enough.pid needs)

  pid_own : needs_pid plan ≡ true → (0 < pid_of spares) × IsUnlinked (k.own.pages (pid_of spares))
  pid_own needs = rw (pid_is needs) at are.page

  abbrev change : State → Change
  change state = bare_at limits plan state

  -- a base is placed
  pub base_placed : (told : Answer Record) → needs_pid plan ≡ true → AreUnset k.own → ChangesOn actor k (learn k (wanted_at limits plan spares state.Base) told) (change state.Ready) spares
  base_placed told needs bare = record {
    shows = record {
      may = still_may actor k (learn k (wanted_at limits plan spares state.Base) told) plan (record { inside = refl; read = refl; command = refl; linked_now = refl }) may;
      keeps = keeps;
      are = row_placed k.own spares are (base_row limits plan spares) (Written (new_base plan)) tt base_is.0;
      stands = (bare, replaced_same (base_row limits plan spares) (Written (new_base plan)) k.own.rows);
    };
    like = record { inside = refl; read = refl; command = refl; linked_now = refl };
  }

  -- the record is placed that comes over a page's newest row
  pub record_placed : (told : Answer Record) → 0 < slot_of plan → StandsReady limits plan spares k.own
      → ChangesOn actor k (learn k (wanted_at limits plan spares state.Place) told) (change state.Link) spares
  record_placed told page ready = record {
    shows = record {
      may = still_may actor k now plan like may;
      keeps = keeps;
      are = row_placed k.own spares are (record_row limits plan spares) (Written (new_record plan (pid_of spares))) tt record_is.0;
      stands = (ready_still plan page enough.rows ready, placed plan);
    };
    like = like;
  }
    where
      now : Knowledge
      now = learn k (wanted_at limits plan spares state.Place) told

      like : IsLike k.asked.linked k now
      like = record { inside = refl; read = refl; command = refl; linked_now = refl }

      own : Plan → Belongings
      own plan = record k.own { rows = replaced_at (record_row limits plan spares) (Written (new_record plan (pid_of spares))) k.own.rows }

      ready_still : (plan : Plan) → 0 < slot_of plan → rows_needed plan ≤ length spares.rows → StandsReady limits plan spares k.own → StandsReady limits plan spares (own plan)
      ready_still (Install pid head content) page some h = h
      ready_still (Split pid plan) page some h = (h.0, (let e = split_apart limits.is_large k.own.rows spares some are.rows in rw e h.1))
      ready_still (Root left root) page some h = absurd (omega (arith, page))
      ready_still (Unlink pid head unterm removal) page some h = h

      placed : (plan : Plan) → IsPlaced limits plan spares (own plan)
      placed (Install pid head content) = replaced_same (last_row spares) (Written content) k.own.rows
      placed (Split pid plan) = replaced_same (split_row limits.is_large spares) (Written (kind.Split (split_to plan (pid_of spares)))) k.own.rows
      placed (Root left root) = tt
      placed (Unlink pid head unterm removal) = replaced_same (last_row spares) (Written (kind.Unterm unterm)) k.own.rows

  -- what is known once the new page's slot is set
  pub set_learnt : (told : Answer Record) → needs_pid plan ≡ true → AreUnset k.own → Fits limits k (wanted_at limits plan spares state.Ready) told
      → learn k (wanted_at limits plan spares state.Ready) told ≡ set_page (pid_of spares) (Ready (base_row limits plan spares)) k
  set_learnt told needs bare fits =
      let empty = empty_page (k.own.pages (pid_of spares)) (pid_own needs).1 (bare (pid_of spares)) in
      rw (ready_went k limits (pid_of spares) (base_row limits plan spares) told (pid_own needs).0 fits)
      (ready_learnt k (pid_of spares) (base_row limits plan spares) (pid_own needs).0 base_is.1 empty)

  -- the new page's slot is set
  pub slot_set : (told : Answer Record) → needs_pid plan ≡ true → AreUnset k.own → k.own.rows (base_row limits plan spares) ≡ Written (new_base plan)
      → Fits limits k (wanted_at limits plan spares state.Ready) told
      → ChangesOn actor k (learn k (wanted_at limits plan spares state.Ready) told) (change (after_ready plan)) spares
  slot_set told needs bare base fits = rw (set_learnt told needs bare fits) (record {
    shows = record {
      may = still_may actor k now plan like may;
      keeps = keeps;
      are = page_moved k.own spares are (pid_of spares) (Ready (base_row limits plan spares)) (pid_own needs).0 (pid_is needs) tt;
      stands = stands plan needs base;
    };
    like = like;
  })
    where
      now : Knowledge
      now = set_page (pid_of spares) (Ready (base_row limits plan spares)) k

      like : IsLike k.asked.linked k now
      like = record { inside = refl; read = refl; command = refl; linked_now = refl }

      stands : (plan : Plan) → needs_pid plan ≡ true → k.own.rows (base_row limits plan spares) ≡ Written (new_base plan)
          → ShowsState limits plan spares (set_page (pid_of spares) (Ready (base_row limits plan spares)) k) (after_ready plan)
      stands (Install pid head content) needs base = cc
      stands (Unlink pid head unterm removal) needs base = cc
      stands (Split pid plan) needs base = (replaced_same (pid_of spares) (Ready (base_row limits (Split pid plan) spares)) k.own.pages, base)
      stands (Root left root) needs base = ((replaced_same (pid_of spares) (Ready (base_row limits (Root left root) spares)) k.own.pages, base), tt)

  -- what is known once it is emptied again
  pub undo_learnt : (told : Answer Record) → needs_pid plan ≡ true → StandsReady limits plan spares k.own → Fits limits k (wanted_at limits plan spares state.Undo) told
      → (told ≡ answer.Whether true) × (learn k (wanted_at limits plan spares state.Undo) (answer.Whether true) ≡ set_page (pid_of spares) Empty k)
  undo_learnt told needs ready fits =
      let is = ready_page plan needs ready in
      (undo_went k limits (pid_of spares) (base_row limits plan spares) told (pid_own needs).0 base_is.1 is fits, undone_learnt k (pid_of spares) (base_row limits plan spares) (pid_own needs).0 is)
    where
      ready_page : (plan : Plan) → needs_pid plan ≡ true → StandsReady limits plan spares k.own → k.own.pages (pid_of spares) ≡ Ready (base_row limits plan spares)
      ready_page (Install pid head content) needs h = cc
      ready_page (Split pid plan) needs h = h.0
      ready_page (Root left root) needs h = h.0
      ready_page (Unlink pid head unterm removal) needs h = cc

  -- it is emptied again
  pub undone : (told : Answer Record) → needs_pid plan ≡ true → StandsReady limits plan spares k.own → Fits limits k (wanted_at limits plan spares state.Undo) told
      → ChangeIsOver k (learn k (wanted_at limits plan spares state.Undo) told) (change state.Undo) told spares end.Lost
  undone told needs ready fits =
      let is = undo_learnt told needs ready fits in
      rw (is.0, is.1) (record {
        like = rw (unlinked plan k.asked.linked).0 (record { inside = refl; read = refl; command = refl; linked_now = refl });
        rest = record {
          are = page_moved k.own spares are (pid_of spares) Empty (pid_own needs).0 (pid_is needs) tt;
          unset = unset_then k.own spares (pid_of spares) Empty are (pid_is needs) (λ row e. cc);
        };
        decided = inr (refl, refl);
      })

  -- the exchange that decides lost
  pub lost_bare : needs_pid plan ≡ false → StandsReady limits plan spares k.own → ChangeIsOver k k (change state.Link) (answer.Whether false) spares end.Lost
  lost_bare bare ready = record {
    like = rw (unlinked plan k.asked.linked).0 (like_self k);
    rest = record { are = are; unset = unset plan bare ready };
    decided = inl (refl, refl, bare);
  }
    where
      unset : (plan : Plan) → needs_pid plan ≡ false → StandsReady limits plan spares k.own → AreUnset k.own
      unset (Install pid head content) bare h = h
      unset (Split pid plan) bare h = cc
      unset (Root left root) bare h = cc
      unset (Unlink pid head unterm removal) bare h = h

  pub lost_ready : StandsReady limits plan spares k.own → ChangesOn actor k k (change state.Undo) spares
  lost_ready ready = record { shows = record { may = may; keeps = keeps; are = are; stands = ready }; like = like_self k }

  -- the row to link stands in no slot
  row_free : (plan : Plan) → rows_needed plan ≤ length spares.rows → 0 < slot_of plan → StandsReady limits plan spares k.own → IsUnset k (record_row limits plan spares)
  row_free (Install pid head content) some page ready = λ other e. ready other (last_row spares) e
  row_free (Split pid plan) some page ready = λ other e.
      let there : spares.pid ≡ Some other = are.all_pages other (subst IsUnlinked (sym e) tt) in
      let same : pid_of spares ≡ other = ap (λ (o : Option ℕ). unwrap_or o 0) there in
      let apart = split_apart limits.is_large k.own.rows spares some are.rows in
      let set : Ready (split_base_row limits.is_large spares) ≡ Ready (split_row limits.is_large spares) = sym ready.0 ∙ ap k.own.pages same ∙ e in
      let rows : split_base_row limits.is_large spares ≡ split_row limits.is_large spares = cc in
      let is : (split_base_row limits.is_large spares == split_row limits.is_large spares) ≡ true = eq-eqb (split_base_row limits.is_large spares) (split_row limits.is_large spares) rows in
      cc
  row_free (Root left root) some page ready = absurd (omega (arith, page))
  row_free (Unlink pid head unterm removal) some page ready = λ other e. ready other (last_row spares) e

  pid_room : needs_pid plan ≡ true → IsPid (pid_of spares)
  pid_room needs = (rw (pid_is needs) at room.pid).0

  -- the exchange that decides may be asked for
  pub may_link : IsTarget limits plan → StandsReady limits plan spares k.own → IsPlaced limits plan spares k.own → MayExchange actor k (slot_of plan) (head_of plan) (linked_number limits plan spares)
  may_link target ready placed = links plan enough.rows may.links pid_room target ready placed
    where
      links : (plan : Plan) → rows_needed plan ≤ length spares.rows → MayLinkAs actor k plan → (needs_pid plan ≡ true → IsPid (pid_of spares))
          → IsTarget limits plan → StandsReady limits plan spares k.own → IsPlaced limits plan spares k.own
          → MayExchange actor k (slot_of plan) (head_of plan) (linked_number limits plan spares)
      links (Install pid head content) some may is target ready placed =
          may k (last_row spares) (like_self k) (own_last k.own.rows spares.rows some are.rows).1 placed (row_free (Install pid head content) some target.page ready)
      links (Split pid plan) some may is target ready placed =
          may k (pid_of spares) (split_base_row limits.is_large spares) (split_row limits.is_large spares) (like_self k) (is refl)
          (split_own limits.is_large k.own.rows spares (omega (arith, some)) are.rows).1 ready.0 ready.1 placed (row_free (Split pid plan) some target.page ready)
      links (Root left root) some may is target ready placed = may k (pid_of spares) (last_row spares) (like_self k) (is refl) ready.0 ready.1
      links (Unlink pid head unterm removal) some may is target ready placed =
          may.0 k (last_row spares) (like_self k) (own_last k.own.rows spares.rows some are.rows).1 placed (row_free (Unlink pid head unterm removal) some target.0.page ready)

  -- the base may be placed
  pub may_base : AreUnset k.own → IsOwn (k.own.rows (base_row limits plan spares)) × IsUnset k (base_row limits plan spares)
  may_base bare = (base_is.0, λ other e. bare other (base_row limits plan spares) e)

  -- the new page's slot may be set
  pub may_ready : needs_pid plan ≡ true → AreUnset k.own → k.own.rows (base_row limits plan spares) ≡ Written (new_base plan)
      → MayExchange actor k (pid_of spares) 0 (base_row limits plan spares)
  may_ready needs bare placed =
      let empty = empty_page (k.own.pages (pid_of spares)) (pid_own needs).1 (bare (pid_of spares)) in
      may_set actor k (pid_of spares) (base_row limits plan spares) (pid_own needs).0 base_is.1 empty (own_base plan needs placed) (λ other e. bare other (base_row limits plan spares) e)
    where
      own_base : (plan : Plan) → needs_pid plan ≡ true → k.own.rows (base_row limits plan spares) ≡ Written (new_base plan) → IsOwnBase (k.own.rows (base_row limits plan spares))
      own_base (Install pid head content) needs placed = cc
      own_base (Split pid plan) needs placed = rw placed tt
      own_base (Root left root) needs placed = rw placed tt
      own_base (Unlink pid head unterm removal) needs placed = cc

  -- it may be emptied again
  pub may_undo : needs_pid plan ≡ true → StandsReady limits plan spares k.own → MayExchange actor k (pid_of spares) (base_row limits plan spares) 0
  may_undo needs ready = may_empty actor k (pid_of spares) (base_row limits plan spares) (pid_own needs).0 base_is.1 (page_set plan needs ready)
    where
      page_set : (plan : Plan) → needs_pid plan ≡ true → StandsReady limits plan spares k.own → k.own.pages (pid_of spares) ≡ Ready (base_row limits plan spares)
      page_set (Install pid head content) needs h = cc
      page_set (Split pid plan) needs h = h.0
      page_set (Root left root) needs h = h.0
      page_set (Unlink pid head unterm removal) needs h = cc

-- a change whose deciding exchange is wanted may ask for it
pub may_decide : (actor : ℕ) (change : Change) (spares : Spares) (k : Knowledge) → change.state ≡ state.Link → IsSoundChange change spares
    → IsTarget change.limits change.plan → Shows actor change spares k
    → (k.inside ≡ true) × MayExchange actor k (slot_of change.plan) (head_of change.plan) (linked_number change.limits change.plan spares)
may_decide actor change spares k is sound target shows =
    let enough : AreEnough change.limits change.plan spares = rw is at sound.state in
    let stands : StandsReady change.limits change.plan spares k.own × IsPlaced change.limits change.plan spares k.own = rw is at shows.stands in (
      shows.may.inside,
      may_link actor change.limits k change.plan spares sound.room enough shows.may shows.keeps shows.are target stands.0 stands.1,
    )

-- so of a base, and of the exchanges of the new page's slot
pub base_may_place : (actor : ℕ) (change : Change) (spares : Spares) (k : Knowledge) → change.state ≡ state.Base → IsSoundChange change spares → Shows actor change spares k
    → (k.inside ≡ true) × IsOwn (k.own.rows (base_row change.limits change.plan spares)) × IsUnset k (base_row change.limits change.plan spares)
base_may_place actor change spares k is sound shows =
    let enough : AreEnough change.limits change.plan spares × (needs_pid change.plan ≡ true) = rw is at sound.state in
    let bare : AreUnset k.own = rw is at shows.stands in
    let may = may_base actor change.limits k change.plan spares sound.room enough.0 shows.may shows.keeps shows.are bare in
    (shows.may.inside, may.0, may.1)

pub slot_may_set : (actor : ℕ) (change : Change) (spares : Spares) (k : Knowledge) → change.state ≡ state.Ready → IsSoundChange change spares → Shows actor change spares k
    → (k.inside ≡ true) × MayExchange actor k (pid_of spares) 0 (base_row change.limits change.plan spares)
slot_may_set actor change spares k is sound shows =
    let enough : AreEnough change.limits change.plan spares × (needs_pid change.plan ≡ true) = rw is at sound.state in
    let stands : AreUnset k.own × (k.own.rows (base_row change.limits change.plan spares) ≡ Written (new_base change.plan)) = rw is at shows.stands in
    (shows.may.inside, may_ready actor change.limits k change.plan spares sound.room enough.0 shows.may shows.keeps shows.are enough.1 stands.0 stands.1)

pub slot_may_empty : (actor : ℕ) (change : Change) (spares : Spares) (k : Knowledge) → change.state ≡ state.Undo → IsSoundChange change spares → Shows actor change spares k
    → (k.inside ≡ true) × MayExchange actor k (pid_of spares) (base_row change.limits change.plan spares) 0
slot_may_empty actor change spares k is sound shows =
    let enough : AreEnough change.limits change.plan spares × (needs_pid change.plan ≡ true) = rw is at sound.state in
    let ready : StandsReady change.limits change.plan spares k.own = rw is at shows.stands in
    (shows.may.inside, may_undo actor change.limits k change.plan spares sound.room enough.0 shows.may shows.keeps shows.are enough.1 ready)

-- a record that is wanted in a row may be placed there
pub may_place : (actor : ℕ) (change : Change) (spares : Spares) (k : Knowledge) → change.state ≡ state.Place → IsSoundChange change spares → Shows actor change spares k
    → (k.inside ≡ true) × IsOwn (k.own.rows (record_row change.limits change.plan spares)) × IsUnset k (record_row change.limits change.plan spares)
may_place actor change spares k is sound shows =
    let enough : AreEnough change.limits change.plan spares × (0 < slot_of change.plan) = rw is at sound.state in
    let stands : StandsReady change.limits change.plan spares k.own = rw is at shows.stands in (
      shows.may.inside,
      (record_is actor change.limits k change.plan spares sound.room enough.0 shows.may shows.keeps shows.are).0,
      row_free actor change.limits k change.plan spares sound.room enough.0 shows.may shows.keeps shows.are change.plan enough.0.rows enough.1 stands,
    )
