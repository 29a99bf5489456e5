use Rattle.std.proofs.Common.{◌≡◌, ◌++◌, ◌∷◌, [], length, rules}
use Rattle.core_memory.specs.declared.entries.Happening.TheVariants.{Begin}
use Rattle.core_memory.proofs.EntryLaws.{begun}
use Rattle.core_memory.proofs.entries.Entries.push_begin.Goals as goal

pub returns-clause-items : goal.returns-clause-items
returns-clause-items g c =
    let commands : c.push.new.self.items ≡ c.self.inside.commands.items ++ c.args.command.now ∷ [] = search rules in
    let happened : c.push-2.new.self.items ≡ c.self.inside.happened.items ++ Begin c.args.actor c.len-place.result ∷ [] = search rules in
    let place : c.len-place.result ≡ length c.self.inside.commands.items = search rules in
    rw (commands, happened, ← c.self.view_is)
    (begun c.self.inside.commands.items c.self.inside.replies.items c.self.inside.happened.items c.args.actor c.len-place.result c.args.command.now place c.self.invariant)
