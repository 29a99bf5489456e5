use Rattle.tree_picture.proofs.Ranges.{adds_then, item_fits}
use Rattle.tree_picture.proofs.says.item_words.Goals as goal

pub returns : goal.returns
returns c = item_fits c.args.item.now _ c.with_content.ensures.short (rw (c.new-words.ensures, c.as_slice.ensures.bytes) at (adds_then _ _ _ _ _ c.with_key.ensures c.with_content.ensures.adds))
