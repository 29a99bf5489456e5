-- Why no step needs a lock, in words.
use Rattle.std.specs.Prelude.{ℕ, ◌==◌, List, [], true, Option, None, Some, codes, if◌then◌else◌}
use Rattle.bw_model.specs.declared.step.Answer.{Answer}
use Rattle.bw_model.specs.declared.step.Answer.TheVariants.{Content, Number, Whether}
use Rattle.bw_model.specs.declared.step.Link.{Link}
use Rattle.bw_model.specs.declared.step.Link.TheVariants as link
use Rattle.bw_model.specs.declared.step.Step.{Step as StepOf}
use Rattle.bw_model.specs.declared.step.Step.TheVariants.{Slot, Row, Epoch, Announce, PidBits, RowBits, Place, Exchange, TakePid, TakeRow, Enter, Leave, Retire, ReusePids, ReuseRows}
use Rattle.deltas.specs.declared.record.Record.{Record}
use Rattle.deltas.specs.declared.record.Record.TheVariants.{Remove}
use Rattle.step_core.specs.declared.event.Event.{Event}
use Rattle.step_core.specs.declared.event.Event.TheVariants.{Stepped}
use Rattle.traces.specs.declared.trace.Entry.{Entry}
use Rattle.traces.specs.declared.trace.Entry.TheVariants.{Begin, Step}
use Rattle.tree_picture.specs.Touches.{last_entry}

-- of an exchange that was won, by what it linked
abbrev pub link_reason : Link → List ℕ
link_reason link.Put =
    codes "one compare-and-swap. Had another record been linked since the slot was read, it would be lost. The same row means the same record: none that was read here is used anew meanwhile."
link_reason link.Delete =
    codes "one compare-and-swap. Had another record been linked since the slot was read, it would be lost. The same row means the same record: none that was read here is used anew meanwhile."
link_reason link.Base =
    codes "one compare-and-swap, lost if another record was linked since. The base has the items of the chain, and who started at an older record still reads the page as it was then."
link_reason link.Split =
    codes "the new page stands already, and the split leads there: who finds no term for it in the page above goes by the side link."
link_reason link.Term = codes "who read the page above before goes to the left page, and on by the side link, to the same items."
link_reason link.Root = codes "the old root is the first child of the new one: who started there goes on by side links."
link_reason link.Hold = codes "the page is still read and written, and by this term. While it is held, its left page is not removed: who would do so goes on without."
link_reason link.Remove =
    codes "its records stay as they are, and who meets the removed page does not wait: a reader goes round by the left page or answers by what it has read, a writer merges the page first."
link_reason link.Merge = codes "the removed page keeps its records, for whoever reads there. Who comes to it from now on finds it removed, and the items in the left page."
link_reason link.Unterm =
    codes "the page above leads to the left page now. Who came by the old term finds the page removed, and goes round by the left page."
link_reason link.Clear = codes "no term leads to this slot any more. Who comes by one that it read before finds the slot empty, and begins anew."
link_reason link.Ready = codes "nothing leads to the new page yet."
link_reason link.Undo = codes "nobody else has seen this page."

-- of a read of slot 0, which has the root, or of another one
abbrev pub slot_reason : ℕ → List ℕ
slot_reason slot =
    if slot == 0 then codes "one load of one word. If a new root is put over this one, who goes by this one still gets to the same keys."
    else codes "one load of one word. Who exchanges it later changes none of the records that are read from there."

-- of a read of a row
abbrev pub row_reason : Answer Record → List ℕ
row_reason (Content (Remove removal)) = codes "the page was removed, and its records stand as they were, for whoever still comes here."
row_reason _ = codes "a record that was linked never changes, in the tree or out of it, and its row is not used anew before this actor leaves."

-- of a look for another actor, by whether that is outside
abbrev pub presence_reason : ℕ → List ℕ
presence_reason epoch =
    if epoch == 0 then codes "that actor is outside. If it enters right after this look, it begins at the slots, which lead to nothing that was taken out before."
    else codes "that actor is inside: what was taken out in its epoch or later waits in the limbo, and this actor goes on."

abbrev pub announce_reason : Answer Record → List ℕ
announce_reason (Number epoch) = presence_reason epoch
announce_reason _ = []

-- of a taking, and of a retiring
abbrev pub taking_reason : Answer Record → List ℕ
taking_reason (Whether true) = codes "one atomic operation on one word: of all who want this number exactly one gets it."
taking_reason _ = codes "another actor has this number, and the next one is tried."

abbrev pub retiring_reason : Answer Record → List ℕ
retiring_reason (Whether true) = codes "one compare-and-swap. Who enters by the new epoch begins at the slots, which lead to nothing that was stamped with the old one."
retiring_reason _ = codes "another actor has done the same."

-- of a step that isn't an exchange that was won
abbrev pub step_reason : StepOf Record → Answer Record → List ℕ
step_reason (Slot slot) answer = slot_reason slot
step_reason (Row row) answer = row_reason answer
step_reason Epoch answer =
    codes "the epoch may grow as soon as it is read: who enters by an old one keeps more rows waiting, never fewer. Cells that are stamped with it wait for all who entered by it or before."
step_reason (Announce actor) answer = announce_reason answer
step_reason (PidBits word) answer = codes "one load of one word, which only tells where to try. The taking decides."
step_reason (RowBits word) answer = codes "one load of one word, which only tells where to try. The taking decides."
step_reason (Place row content) answer = codes "nothing leads to this row now, so nobody else looks there while it is written."
step_reason (Exchange slot from to) answer =
    codes "another actor was faster, and has got on. Nothing has changed, so nothing has to be undone: this one begins anew with what stands there now."
step_reason (TakePid pid) answer = taking_reason answer
step_reason (TakeRow row) answer = taking_reason answer
step_reason (Enter epoch) answer = codes "one store, which all can read: no row that this actor can reach is used anew from now on, until it leaves."
step_reason Leave answer = codes "one store. From now on this actor keeps no row in the limbo of others. What waits in its own it frees in a later operation."
step_reason (Retire epoch) answer = retiring_reason answer
step_reason (ReusePids word bits) answer =
    codes "one atomic operation on one word. Since these were taken out, each other actor was seen outside or in an epoch later than theirs, so nobody can reach them."
step_reason (ReuseRows word bits) answer =
    codes "one atomic operation on one word. Since these were taken out, each other actor was seen outside or in an epoch later than theirs, so nobody can reach them."

abbrev pub reason_at : Option Entry → List ℕ
reason_at None = []
reason_at (Some (Begin actor command)) = []
reason_at (Some (Step actor step answer reply)) = step_reason step answer

-- of the last step, which told the event
abbrev pub reason_text : List Entry → Event → List ℕ
reason_text entries (Stepped (Some link)) = link_reason link
reason_text entries _ = reason_at (last_entry entries)
