use Rattle.running_tree.proofs.Words.{◌≡◌, [], List, sym, ap, subst, ◌∙◌, Noted}
use Rattle.traces.specs.declared.trace.Entry.{Entry}
use Rattle.table_rule.specs.Views.{Mine, alone, part_note, seen_of}
use Rattle.running_tree.specs.Notes.{note_of}
use Rattle.running_tree.proofs.Owning.{is_of}
use Rattle.running_tree.proofs.tree.Tree.note.Goals as goal

pub invariant_of-result : goal.invariant_of-result
invariant_of-result g c =
    let me : Mine = c.seat.inside.desk.place.me in
    let is : c.note.result.me ≡ (alone c.seat.inside.limits c.seat.inside.desk.number (seen_of me) Noted, []) = c.note.ensures.noted
    ∙ ap (λ (m : Mine). (part_note m.0, [])) c.seat.invariant.place in rw c.limits.ensures (
      c.seat.inside.desk.number,
      subst (λ (run : List Entry). c.note.result.me ≡ (alone c.seat.inside.limits c.seat.inside.desk.number run Noted, [])) (sym (ap seen_of is)) is,
    )

pub note-requires : goal.note-requires
note-requires g c = record { table = is_of _ _ _ _ _ _ _ _ _ c.self.invariant c.self.view_is c.seat.view_is c.requires.own }

pub returns-clause-stays : goal.returns-clause-stays
returns-clause-stays g c = rw (c.note.ensures.same, c.note.ensures.stays) c.seat.view_is

pub returns-clause-noted : goal.returns-clause-noted
returns-clause-noted g c =
    let me : Mine = c.seat.inside.desk.place.me in
    let is : c.note.result.me ≡ (alone c.seat.inside.limits c.seat.inside.desk.number (seen_of me) Noted, []) = c.note.ensures.noted ∙ ap (λ (m : Mine). (part_note m.0, [])) c.seat.invariant.place in
    rw (c.note.ensures.table, ap seen_of is, c.limits.ensures) (ap note_of c.seat.view_is)
