-- What the law of the tree gives a seat, of runs with steps of others that it has not seen.
use Rattle.progress.specs.ReaderStates.{ReadersGoOn, ReadersStayPaid}
use Rattle.progress.specs.WriterStates.{WritersGoOn, WritersStayPaid}
use Rattle.tree_law.specs.Changes.{IsPaidState, StepsPay}
use Rattle.tree_law.specs.Direct.{BeginsDirectly, StepsDirectly}
use Rattle.tree_law.specs.Own.{OwnLasts, RowsAreApart}
use Rattle.tree_law.specs.State.{IsState}
use Rattle.tree_law.specs.TraceLaws.{AnswersFit, BeginsKeep, EntriesGrow, Steps}

-- What an entry changes, and what is an actor's own and outlasts the entries of others; that what was read stands; what a step may count
-- on; and that begins and steps keep a run lawful.
pub record HaveLaws : Type 0 where
  pub grow : EntriesGrow
  pub own : OwnLasts
  pub apart : RowsAreApart
  pub fit : AnswersFit
  pub begins : BeginsKeep IsState
  pub begins_directly : BeginsDirectly
  pub begins_paid : BeginsKeep IsPaidState
  pub steps : Steps
  pub steps_directly : StepsDirectly
  pub steps_paid : StepsPay
  pub readers : ReadersGoOn
  pub writers : WritersGoOn

-- What a seat keeps outlasts the entries of others.
pub record SeatsLast : Type 0 where
  pub own : OwnLasts
  pub readers : ReadersStayPaid
  pub writers : WritersStayPaid
