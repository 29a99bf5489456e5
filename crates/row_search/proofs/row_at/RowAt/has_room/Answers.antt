use Rattle.std.proofs.Common.{◌<◌, ◌≤◌, ◌+◌, length, arith}
use Rattle.deltas.specs.declared.record.Record.{Record}
use Rattle.row_search.proofs.Words.{text_size, items_of, words_of}
use Rattle.row_search.proofs.RowTexts.{stands}
use Rattle.row_search.specs.TextsOf.{HasText, length_at}
use Rattle.row_search.specs.declared.rows.Text.{Text}
use Rattle.row_search.specs.declared.rows.Text.TheVariants.{First}
use Rattle.row_search.proofs.row_at.RowAt.has_room.Goals as goal

-- where a text ends at most, of a record with so few items
within : (text : Text) (content : Record) → length (items_of content) ≤ 24 → HasText text content → length_at text + text_size < 512
within First content few there = omega arith
within other content few there = omega arith

pub returns : goal.returns
returns g c = let content = c.args.self.now.content in within c.args.text content (stands (words_of content) content c.keeps_spelling.ensures).few c.requires
