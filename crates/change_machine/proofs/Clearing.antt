-- A page whose term is out is cleared.
use Rattle.change_machine.proofs.Words.{◌≡◌, ◌<◌, ℕ, zero, suc, true, inr, refl, arith, Limits, Answer, Record, MayExchange, Fits, Knowledge, Other, Gone, learn, Change, ChangeIsOver}
use Rattle.change_machine.proofs.Words.{IsSoundChange, IsTarget, Shows, wanted_at, clears, AreUnset, Spares, Plan, Unlink}
use Rattle.structure_changes.specs.Plans.{cleared_page, cleared_row}
use Rattle.change_machine.specs.declared.change.End.TheVariants as end
use Rattle.change_machine.specs.declared.change.State.TheVariants as state
use Rattle.change_machine.proofs.Learning.{clear_went, cleared_learnt}
use Rattle.change_machine.proofs.SpareLaws.{page_gone}
use Rattle.change_machine.proofs.Winning.{kept_apart, unset_gone}
use Rattle.change_machine.proofs.Making.{bare_at}

-- the slot of a page that is gone may go to 0
pub may_clear : (actor : ℕ) (k : Knowledge) (page row : ℕ) → 0 < page → 0 < row → k.own.pages page ≡ Gone → MayExchange actor k page row 0
may_clear actor k zero row p r e = absurd (omega (arith, p))
may_clear actor k (suc page) zero p r e = absurd (omega (arith, r))
may_clear actor k (suc page) (suc row) p r e = inr e

-- a page that is to be cleared, and its row, are above 0
pub some_page : (limits : Limits) (plan : Plan) → clears plan ≡ true → IsTarget limits plan → (0 < cleared_page plan) × (0 < cleared_row plan)
some_page limits (Unlink pid head unterm removal) is target = (target.1.0, target.2)
some_page limits plan is target = cc

-- a change that is to clear a page may do so
pub may_end : (actor : ℕ) (change : Change) (spares : Spares) (k : Knowledge) → change.state ≡ state.Clear → IsSoundChange change spares
    → IsTarget change.limits change.plan → Shows actor change spares k
    → (k.inside ≡ true) × MayExchange actor k (cleared_page change.plan) (cleared_row change.plan) 0
may_end actor change spares k is sound target shows =
    let clears_it : clears change.plan ≡ true = rw is at sound.state in
    let stands : AreUnset k.own × (k.own.pages (cleared_page change.plan) ≡ Gone) = rw is at shows.stands in
    let some = some_page change.limits change.plan clears_it target in
    (shows.may.inside, may_clear actor k (cleared_page change.plan) (cleared_row change.plan) some.0 some.1 stands.1)

module _ (actor : ℕ) (limits : Limits) (k : Knowledge) (spares : Spares) where
  -- what is known then
  pub cleared_so : (plan : Plan) (told : Answer Record) → clears plan ≡ true → IsTarget limits plan → Shows actor (bare_at limits plan state.Clear) spares k
      → Fits limits k (wanted_at limits plan spares state.Clear) told
      → ChangeIsOver k (learn k (wanted_at limits plan spares state.Clear) told) (bare_at limits plan state.Clear) told spares end.Won
  cleared_so (Unlink pid head unterm removal) told is target h fits =
      let page = target.1.0 in
      let is_told = clear_went k limits unterm.child removal told page target.2 h.stands.1 h.may.links.1 fits in
      rw (is_told, cleared_learnt k unterm.child removal page h.stands.1) (record {
        like = record { inside = refl; read = refl; command = refl; linked_now = refl };
        rest = record {
          are = page_gone k.own spares h.are unterm.child Other (kept_apart unterm.child unterm spares.pid h.keeps) (λ other. other);
          unset = unset_gone k.own unterm.child Other (λ row e. cc) h.stands.0;
        };
        decided = (refl, refl);
      })
  cleared_so plan told is target h fits = cc
