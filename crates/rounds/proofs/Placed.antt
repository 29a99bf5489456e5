-- What an answer makes of a descent in its place.
use Rattle.rounds.proofs.Words.{◌≡◌, ◌<◌, inl, inr, ℕ, List, Option, Some, None, refl, sym, ap, MatchOption, Limits, Number, Content, Record, PlacedChain, Version, IsTold}
use Rattle.std.proofs.Common.{◌++◌, [], ◌∷◌, length}
use Rattle.std.specs.Prelude.{unwrap_or}
use Rattle.bw_model.specs.declared.step.Step.TheVariants as step
use Rattle.deltas.specs.Records.{next_row}
use Rattle.traces.specs.chain.Chains.{IsFront, chain_rows}
use Rattle.traces.specs.chain.Fitted.{IsPageChain}
use Rattle.structure_changes.specs.Reads.{chain_of}
use Rattle.round_model.specs.Descents.{Descent, Responds, Root, Page, descending, wanted_step}
use Rattle.round_model.specs.Visits as page
use Rattle.round_model.specs.Visits.{Empty, Whole, VisitState, Slot, Row}
use Rattle.round_model.proofs.Visiting.{row_below, whole_chain}

-- a descent at a page
abbrev pub visiting : Limits → ℕ → List Record → VisitState → Descent
visiting limits pid part state = record { limits = limits; state = Page (record { limits = limits; pid = pid; part = part; state = state }) }

-- a record that is read next lies in the row to which the others lead
lies_behind : (seen : ℕ → Option Record) (part : List Record) (head row : ℕ) (w : Record) → IsFront seen head part row → chain_rows head (part ++ w ∷ []) ≡ chain_rows head part ++ row ∷ []
lies_behind seen [] head row w is = ap (λ n. n ∷ []) is
lies_behind seen (newest ∷ under) head row w is = ap (λ (rows : List ℕ). head ∷ rows) (deeper (next_row newest) (λ below. lies_behind seen under below row w) is.1)
  where
    deeper : (next : Option ℕ) → ((below : ℕ) → IsFront seen below under row → chain_rows below (under ++ w ∷ []) ≡ chain_rows below under ++ row ∷ [])
        → MatchOption next ⊥ (λ below. IsFront seen below under row)
        → chain_rows (unwrap_or next 0) (under ++ w ∷ []) ≡ chain_rows (unwrap_or next 0) under ++ row ∷ []
    deeper None on is = absurd is
    deeper (Some below) on is = on below is

-- the page that slot 0 has is one that there may be
pub root_within : (limits : Limits) (n : ℕ) → IsTold descending (record { limits = limits; state = Root }) (Number n) → (0 < n) × (n < limits.pids)
root_within limits n told = (told.fits.0, told.fits.1)

module _ (limits : Limits) (pid : ℕ) (part : List Record) where
  -- so is the row that a page's slot has
  pub head_below : (n : ℕ) → IsTold descending (visiting limits pid part Slot) (Number n) → n < limits.rows
  head_below n told = row_below limits told.k pid n told.shows.page told.fits

  pub starts : (n : ℕ) → 0 < n → Responds (visiting limits pid part Slot) (Number n) (visiting limits pid [] (Row n n)) None
  starts n some = inr (record { visit = _; next = _; asked = refl; responds = inl (record { row = n; asked = refl; is = refl; some = some; goes = refl }); goes = refl })

  pub is_empty : (n : ℕ) (new : Descent) → n ≡ 0 → Responds (visiting limits pid part Slot) (Number n) new (Some Empty)
  is_empty n new none = record { visit = _; next = record { limits = limits; pid = pid; part = part; state = Slot }; asked = refl; responds = record { asked = refl; is = ap Number none } }

module _ (limits : Limits) (pid head row : ℕ) (part : List Record) (w : Record) where
  abbrev visit : page.Visit
  visit = record { limits = limits; pid = pid; part = part; state = Row head row }

  abbrev Told : Type 0
  Told = IsTold descending (visiting limits pid part (Row head row)) (Content w)

  pub few : Told → length part < 13
  few told = told.fits.short pid head part told.shows.stands.in_slot told.shows.stands.seen

  pub lies_next : (asked : ℕ) → wanted_step (visiting limits pid part (Row head row)) ≡ step.Row asked → Told → chain_rows head (part ++ w ∷ []) ≡ chain_rows head part ++ asked ∷ []
  lies_next asked is told =
      let same : row ≡ asked = cc in
      rw same at (lies_behind told.k.read.seen part head row w told.shows.stands.seen)

  pub under_within : (under : ℕ) → next_row w ≡ Some under → Told → (0 < under) × (under < limits.rows)
  under_within under is told = rw is at told.fits.next

  pub is_whole : next_row w ≡ None → Told → IsPageChain (part ++ w ∷ [])
  is_whole last told = (whole_chain told.k visit head row w last told.shows told.fits).is_chain

  pub continues : (under : ℕ) → next_row w ≡ Some under → Responds (visiting limits pid part (Row head row)) (Content w) (visiting limits pid (part ++ w ∷ []) (Row head under)) None
  continues under is = inr (record {
    visit = visit;
    next = record { limits = limits; pid = pid; part = part ++ w ∷ []; state = Row head under };
    asked = refl;
    responds = inr (record { head = head; row = row; content = w; under = under; asked = refl; is = refl; more = is; goes = refl });
    goes = refl;
  })

  pub completes : (new : Descent) (version : Version) → next_row w ≡ None → version.pid ≡ pid
      → chain_of version ≡ record { head = head; records = part ++ w ∷ [] }
      → Responds (visiting limits pid part (Row head row)) (Content w) new (Some (Whole version))
  completes new version last is_pid is = record {
    visit = visit;
    next = visit;
    asked = refl;
    responds = record
        { row = row; content = w; asked = ap (λ (chain : PlacedChain). Row chain.head row) (sym is); is = refl; last = last; pid = is_pid; chain = ap (λ (chain : PlacedChain). chain.records) is };
  }
