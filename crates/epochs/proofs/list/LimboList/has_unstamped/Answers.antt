use Rattle.std.proofs.Common.{◌≡◌, ◌<◌, ◌-◌, get_or, length, ap, ◌∙◌}
use Rattle.epochs.specs.declared.entry.Entry.{Entry}
use Rattle.epochs.specs.Limbo.{is_unstamped}
use Rattle.epochs.proofs.Fronts.{last_tells}
use Rattle.epochs.proofs.list.LimboList.has_unstamped.Goals as goal

pub returns-in-Some : goal.returns-in-Some
returns-in-Some g c =
    let entries = c.self.inside.entries.entries in
    let some : 0 < length entries = rw c.as_slice.ensures at c.in-Some.ensures.item.3.0 in
    let read : c.in-Some.entry.now ≡ get_or entries (length entries - 1) c.in-Some.entry.now = rw c.as_slice.ensures at c.in-Some.ensures.item.1 in
    c.is_unstamped.ensures ∙ ap (λ (entry : Entry). is_unstamped entry.stage) read ∙ rw (← c.self.view_is) (last_tells entries c.self.invariant.last c.in-Some.entry.now some)
