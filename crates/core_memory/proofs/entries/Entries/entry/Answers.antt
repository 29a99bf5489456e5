use Rattle.std.proofs.Common.{◌∙◌, ap, length, refl, subst, sym, Some}
use Rattle.std.specs.Prelude.{option_map}
use Rattle.std.proofs.lemmas.Bool.{ltb-false, ltb-true}
use Rattle.std.proofs.lemmas.Option.{slice_get-map, slice_get_past, slice_get_read}
use Rattle.core_memory.specs.Entries.{HasCommandOrReply, entry_of}
use Rattle.core_memory.proofs.entries.Entries.entry.Goals as goal

pub returns-in-None : goal.returns-in-None
returns-in-None g c =
    let of = entry_of c.self.inside.commands.items c.self.inside.replies.items in
    let past = slice_get_past c.self.inside.happened.items c.args.place (ltb-false _ _ (sym (rw c.deref.ensures.value at c.in-None.ensures.lookup).0)) in
    rw (← c.self.view_is) (sym (slice_get-map of c.self.inside.happened.items c.args.place ∙ ap (option_map of) past))

pub returns-in-Some : goal.returns-in-Some
returns-in-Some g c =
    let of = entry_of c.self.inside.commands.items c.self.inside.replies.items in
    let lookup = rw c.deref.ensures.value at c.in-Some.ensures.lookup in
    let found = slice_get_read c.self.inside.happened.items (length c.self.inside.happened.items) c.args.place c.in-Some.happening.now refl (ltb-true _ _ (sym lookup.0)) lookup.1 in
    let told = rw (c.deref-in-Some.ensures.value, c.deref-in-Some-2.ensures.value) at c.read.ensures in
    rw (← c.self.view_is) (ap Some told ∙ sym (slice_get-map of c.self.inside.happened.items c.args.place ∙ ap (option_map of) found))

pub read-requires : goal.read-requires
read-requires g c =
    let lookup = rw c.deref.ensures.value at c.in-Some.ensures.lookup in
    rw (c.deref-in-Some.ensures.value, c.deref-in-Some-2.ensures.value)
    (subst (HasCommandOrReply (length c.self.inside.commands.items) (length c.self.inside.replies.items)) (sym lookup.1)
    (c.self.invariant c.args.place c.in-Some.happening.now (ltb-true _ _ (sym lookup.0))))
