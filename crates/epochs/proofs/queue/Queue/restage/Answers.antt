use Rattle.std.proofs.Common.{◌≡◌, ◌<◌, ◌+◌, drop, get_or, length, refl, sym, ◌∙◌, arith}
use Rattle.std.proofs.lemmas.List.{drop-set-add, get_or-drop, get_or_default, length-drop}
use Rattle.epochs.proofs.queue.Queue.restage.Goals as goal

pub returns : goal.returns
returns g c = λ d.
    let start = c.self.inside.start in
    let items = c.self.inside.entries.items in
    let within : c.args.place < length (drop start items) = rw (← c.self.view_is) at c.requires in
    let lt : start + c.args.place < length items = (let long = length-drop start items in omega (arith, within, long)) in
    let read : c.index_mut.result.now ≡ get_or (drop start items) c.args.place d = c.index_mut.ensures.value ∙ get_or_default items (start + c.args.place)
    c.index_mut.result.now d lt ∙ sym (get_or-drop start items c.args.place d) in
    rw (← c.self.view_is, drop-set-add start items c.args.place _, read) refl
