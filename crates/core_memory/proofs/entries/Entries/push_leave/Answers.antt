use Rattle.std.proofs.Common.{◌≡◌, ◌++◌, ◌∷◌, [], length, rules}
use Rattle.core_memory.specs.declared.entries.Happening.TheVariants.{Leave}
use Rattle.core_memory.proofs.EntryLaws.{left}
use Rattle.core_memory.proofs.entries.Entries.push_leave.Goals as goal

pub returns-clause-items : goal.returns-clause-items
returns-clause-items g c =
    let replies : c.push.new.self.items ≡ c.self.inside.replies.items ++ c.args.reply ∷ [] = search rules in
    let happened : c.push-2.new.self.items ≡ c.self.inside.happened.items ++ Leave c.args.actor c.len-place.result ∷ [] = search rules in
    let place : c.len-place.result ≡ length c.self.inside.replies.items = search rules in
    rw (replies, happened, ← c.self.view_is)
    (left c.self.inside.commands.items c.self.inside.replies.items c.self.inside.happened.items c.args.actor c.len-place.result c.args.reply place c.self.invariant)
