use Rattle.tree_picture.proofs.Ranges.{record_fits}
use Rattle.tree_picture.proofs.says.record_words.Goals as goal

pub returns : goal.returns
returns c = record_fits c.args.content.now _ c.with_record.ensures.short (rw c.new-words.ensures at c.with_record.ensures.adds)
