-- What follows the run that makes each link: its actor frees what it took out of the tree, and takes it again.
use Rattle.std.specs.Prelude.{List, [], ◌∷◌, true, None}
use Rattle.bw_model.specs.declared.step.Step.TheVariants.{Epoch, Place, Exchange, TakePid, TakeRow, Enter, Announce, Retire, ReusePids, ReuseRows}
use Rattle.bw_model.specs.declared.step.Answer.TheVariants.{Number, Whether, Done}
use Rattle.traces.specs.declared.trace.Entry.{Entry}
use Rattle.traces.specs.declared.trace.Entry.TheVariants.{Begin, Step}
use Rattle.linearization.specs.Examples.{opening_leaf}
use Rattle.tree_law.specs.Example.{get_a}

-- The actor reads the epoch, goes on to the next one, and looks at the other actor, which is outside. Then page 2, which was
-- cleared, and its two rows, 3 and 7, are free, and row 10, the base that was consolidated. In the new epoch it takes the page
-- and a row again.
abbrev pub sweep : List Entry
sweep = Begin 0 get_a
    ∷ Step 0 Epoch (Number 1) None
    ∷ Step 0 (Retire 1) (Whether true) None
    ∷ Step 0 (Announce 1) (Number 0) None
    ∷ Step 0 (ReuseRows 0 1160) Done None
    ∷ Step 0 (ReusePids 0 4) Done None
    ∷ Step 0 Epoch (Number 2) None
    ∷ Step 0 (Enter 2) Done None
    ∷ Step 0 (TakeRow 7) (Whether true) None
    ∷ Step 0 (TakePid 2) (Whether true) None
    ∷ Step 0 (Place 7 opening_leaf) Done None
    ∷ Step 0 (Exchange 2 0 7) (Whether true) None
    ∷ []
