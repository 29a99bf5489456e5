-- What an exchange that won leaves known.
use Rattle.change_machine.proofs.Words.{◌≡◌, ◌≤◌, ◌∙◌, inl, inr, ℕ, suc, List, [], ◌∷◌, ◌++◌, length, take, Bool, true, false, Option, Some, None, refl, sym, ap, arith, ltb, ltb-false}
use Rattle.change_machine.proofs.Words.{ltb-true, cases_eq, Limits, replaced_at, Record, MayExchange, Fits, Belongings, Knowledge, OwnPage, Foreign, Written, Other, Gone, learn, linked_over}
use Rattle.change_machine.proofs.Words.{split_to, AreEnough, Follows, ChangeIsOver, IsPlaced, StandsReady, IsTarget, KeepsSpare, MayChange, linked_number, split_row, wanted_at, head_of}
use Rattle.change_machine.proofs.Words.{slot_of, Moved, decided_by, spares_left, AreTheSpares, AreUnset, HaveRoom, Spares, last_row, pid_of, Plan, Install, Root, Unlink, replaced_same}
use Rattle.change_machine.proofs.Words.{replaced_other}
use Rattle.std.proofs.Common.{◌-◌}
use Rattle.bw_model.specs.declared.step.Answer.TheVariants as answer
use Rattle.deltas.specs.declared.record.Record.TheVariants as kind
use Rattle.deltas.specs.declared.record.Unterm.{Unterm}
use Rattle.traces.specs.discipline.Knowledge.{Ready, handed_page}
use Rattle.change_machine.specs.Changes.{ChangesOn, KeepsSparePage}
use Rattle.change_machine.specs.Changes.{split_base_row}
use Rattle.change_machine.specs.Spares.{second_row}
use Rattle.change_machine.specs.declared.change.End.TheVariants as end
use Rattle.change_machine.specs.declared.change.State.TheVariants as state
use Rattle.structure_changes.specs.declared.plan.Plan.TheVariants.{Split}
use Rattle.change_machine.proofs.Following.{own_last, some_pid, split_own, still_may, unset_then}
use Rattle.change_machine.proofs.RowNeeds.{rows_last, rows_two}
use Rattle.change_machine.proofs.Learning.{no_split, over_learnt, over_other, rooted_learnt}
use Rattle.change_machine.proofs.SpareLaws.{first_linked, last_linked, page_gone, page_linked}
use Rattle.change_machine.proofs.Making.{bare_at}

-- the spare PID isn't that of the term
pub kept_apart : (child : ℕ) (unterm : _) (pid : Option ℕ) → KeepsSparePage (kind.Unterm unterm) pid → pid ≡ Some unterm.child → ⊥
kept_apart child unterm None h e = cc
kept_apart child unterm (Some pid) h e = h (cc)

-- no own page has a row in its slot, also once one is gone
pub unset_gone : (own : Belongings) (page : ℕ) (o : OwnPage) → ((row : ℕ) → o ≡ Ready row → ⊥) → AreUnset own → AreUnset (record own { pages = replaced_at page o own.pages })
unset_gone own page o unset bare = λ other row e. elim (cases_eq other page) [
  | inl same ↦ unset row (sym (replaced_same page o own.pages) ∙ ap (replaced_at page o own.pages) (sym same) ∙ e)
  | inr apart ↦ bare other row (sym (replaced_other page o own.pages other apart) ∙ e)
]

module _ (actor : ℕ) (limits : Limits) (k : Knowledge) (spares : Spares) (room : HaveRoom limits spares) (are : AreTheSpares k.own spares) where
  -- a record is linked over a page's newest row
  over_row : (pid head : ℕ) (content : Record) → 1 ≤ length spares.rows → IsTarget limits (Install pid head content) → KeepsSparePage content spares.pid
      → MayExchange actor k pid head (last_row spares) → AreUnset k.own → k.own.rows (last_row spares) ≡ Written content
      → ChangeIsOver k (linked_over (Written content) head (last_row spares) k) (bare_at limits (Install pid head content) state.Link) (answer.Whether true)
      (spares_left (Install pid head content) spares) end.Won
  over_row pid head content some target kept may bare placed = by_content content kept placed
    where
      front : List ℕ
      front = take (length spares.rows - 1) spares.rows

      linked : AreTheSpares (record k.own { rows = replaced_at (last_row spares) Foreign k.own.rows }) (record spares { rows = front })
      linked = last_linked k.own spares are (last_row spares) front (rows_last spares.rows some)

      by_content : (content : Record) → KeepsSparePage content spares.pid → k.own.rows (last_row spares) ≡ Written content
          → ChangeIsOver k (linked_over (Written content) head (last_row spares) k) (bare_at limits (Install pid head content) state.Link) (answer.Whether true)
          (spares_left (Install pid head content) spares) end.Won
      by_content (kind.Split split) kept placed =
          absurd (no_split actor k pid head (last_row spares) split target.page target.linked (own_last k.own.rows spares.rows some are.rows).1 may placed bare)
      by_content (kind.Unterm unterm) kept placed = record {
        like = record { inside = refl; read = refl; command = refl; linked_now = refl };
        rest = record {
          are =
              page_gone (record k.own { rows = replaced_at (last_row spares) Foreign k.own.rows }) (record spares { rows = front }) linked unterm.child Gone
              (kept_apart unterm.child unterm spares.pid kept) (λ gone. gone);
          unset = unset_gone k.own unterm.child Gone (λ row e. cc) bare;
        };
        decided = (refl, refl);
      }
      by_content content kept placed = record
          { like = record { inside = refl; read = refl; command = refl; linked_now = refl }; rest = record { are = linked; unset = bare }; decided = (refl, refl) }

  -- a term is out, and its page is to be cleared
  term_out : (pid head : ℕ) (unterm : Unterm) (removal : ℕ) → 1 ≤ length spares.rows → MayChange actor k (Unlink pid head unterm removal)
      → KeepsSparePage (kind.Unterm unterm) spares.pid → AreUnset k.own
      → ChangesOn actor k (handed_page unterm.child Gone (last_row spares) k) (bare_at limits (Unlink pid head unterm removal) state.Clear) (spares_left (Unlink pid head unterm removal) spares)
  term_out pid head unterm removal some may kept bare =
      let front = take (length spares.rows - 1) spares.rows in
      let linked = last_linked k.own spares are (last_row spares) front (rows_last spares.rows some) in
      record {
        shows = record {
          may = still_may actor k (handed_page unterm.child Gone (last_row spares) k) (Unlink pid head unterm removal) (record { inside = refl; read = refl; command = refl; linked_now = refl }) may;
          keeps = kept;
          are =
              page_gone (record k.own { rows = replaced_at (last_row spares) Foreign k.own.rows }) (record spares { rows = front }) linked unterm.child Gone
              (kept_apart unterm.child unterm spares.pid kept) (λ gone. gone);
          stands = (unset_gone k.own unterm.child Gone (λ row e. cc) bare, replaced_same unterm.child Gone k.own.pages);
        };
        like = record { inside = refl; read = refl; command = refl; linked_now = refl };
      }

  -- a split's base and its record are linked: in a large tree the base has the last row; where all rows have one width, there are two
  split_linked : 2 ≤ length spares.rows → (large : Bool) → limits.is_large ≡ large
      → AreTheSpares (record k.own { rows = replaced_at (split_row large spares) Foreign (replaced_at (split_base_row large spares) Foreign k.own.rows) })
      (record spares { rows = take (length spares.rows - 2) spares.rows })
  split_linked two true e =
      let front = take (length spares.rows - 2) spares.rows in
      let first = last_linked k.own spares are (last_row spares) (front ++ second_row spares ∷ []) (rows_two spares.rows two) in
      last_linked (record k.own { rows = replaced_at (last_row spares) Foreign k.own.rows }) (record spares { rows = front ++ second_row spares ∷ [] }) first (second_row spares) front refl
  split_linked two false e = by_rows spares.rows refl
    where
      few : length spares.rows ≤ 2
      few = le_two
        where
          le_two : length spares.rows ≤ 2
          le_two = go (ltb 2 (length spares.rows)) refl
            where
              go : (b : Bool) → ltb 2 (length spares.rows) ≡ b → length spares.rows ≤ 2
              go true more = absurd (let wide = room.alike (ltb-true 2 (length spares.rows) more) in let none = (limits.alike e).pages in omega (arith, wide, none))
              go false more = ltb-false 2 (length spares.rows) more

      by_rows : (rows : List ℕ) → spares.rows ≡ rows
          → AreTheSpares (record k.own { rows = replaced_at (last_row spares) Foreign (replaced_at (second_row spares) Foreign k.own.rows) })
          (record spares { rows = take (length spares.rows - 2) spares.rows })
      by_rows [] is = absurd (let none : length spares.rows ≡ 0 = ap length is in omega (arith, two, none))
      by_rows (a ∷ []) is = absurd (let one : length spares.rows ≡ 1 = ap length is in omega (arith, two, one))
      by_rows (a ∷ b ∷ []) is =
          let first = first_linked k.own spares are a (b ∷ []) is in
          let rest = last_linked (record k.own { rows = replaced_at a Foreign k.own.rows }) (record spares { rows = b ∷ [] }) first b [] refl in
          rw is rest
      by_rows (a ∷ b ∷ c ∷ rows) is = absurd (let long : length spares.rows ≡ suc (suc (suc (length rows))) = ap length is in let two' = few in omega (arith, long, two'))

  -- what follows where the exchange that decides has won
  abbrev WonTo : Plan → Moved → Type 0
  WonTo plan now =
      Follows actor k (learn k (wanted_at limits plan spares state.Link) (answer.Whether true)) (bare_at limits plan state.Link) (answer.Whether true)
      (bare_at limits plan now.state) now.spares now.end

  pub won_at : (plan : Plan) → AreEnough limits plan spares → IsTarget limits plan → MayChange actor k plan → KeepsSpare plan spares.pid
      → MayExchange actor k (slot_of plan) (head_of plan) (linked_number limits plan spares) → StandsReady limits plan spares k.own → IsPlaced limits plan spares k.own
      → Fits limits k (wanted_at limits plan spares state.Link) (answer.Whether true)
      → WonTo plan (decided_by plan spares true)
  won_at (Install pid head content) enough target change keeps may ready placed fits =
      let row = (own_last k.own.rows spares.rows enough.rows are.rows).1 in
      let other = over_other k limits pid head (last_row spares) target.page target.linked row fits in
      rw (over_learnt k pid head (last_row spares) content target.page row other placed) (over_row pid head content enough.rows target keeps may ready placed)
  won_at (Split pid plan) enough target change keeps may ready placed fits =
      let row = (split_own limits.is_large k.own.rows spares (let two = enough.rows in omega (arith, two)) are.rows).1 in
      let other = over_other k limits pid plan.next (split_row limits.is_large spares) target.page target.linked row fits in
      let is = some_pid spares.pid (enough.pid refl) in
      let bare = page_linked (record k.own { rows = replaced_at (split_row limits.is_large spares) Foreign (replaced_at (split_base_row limits.is_large spares) Foreign k.own.rows) })
      (record spares { rows = take (length spares.rows - 2) spares.rows }) (split_linked enough.rows limits.is_large refl) (pid_of spares) is in
      rw (over_learnt k pid plan.next (split_row limits.is_large spares) (kind.Split (split_to plan (pid_of spares))) target.page row other placed, ready.0) (record {
        like = record { inside = refl; read = refl; command = refl; linked_now = refl };
        rest = record { are = bare; unset = unset_then k.own spares (pid_of spares) Other are is (λ row e. cc) };
        decided = (refl, refl);
      })
  won_at (Unlink pid head unterm removal) enough target change keeps may ready placed fits =
      let row = (own_last k.own.rows spares.rows enough.rows are.rows).1 in
      let other = over_other k limits pid head (last_row spares) target.0.page target.0.linked row fits in
      rw (over_learnt k pid head (last_row spares) (kind.Unterm unterm) target.0.page row other placed) (term_out pid head unterm removal enough.rows change keeps ready)
  won_at (Root left root) enough target change keeps may ready placed fits =
      let is = some_pid spares.pid (enough.pid refl) in
      let front = take (length spares.rows - 1) spares.rows in
      let linked = last_linked k.own spares are (last_row spares) front (rows_last spares.rows enough.rows) in
      rw (rooted_learnt k left (pid_of spares) (last_row spares) ready.0) (record {
        like = record { inside = refl; read = refl; command = refl; linked_now = refl };
        rest = record {
          are = page_linked (record k.own { rows = replaced_at (last_row spares) Foreign k.own.rows }) (record spares { rows = front }) linked (pid_of spares) is;
          unset = unset_then k.own spares (pid_of spares) Other are is (λ row e. cc);
        };
        decided = (refl, refl);
      })
