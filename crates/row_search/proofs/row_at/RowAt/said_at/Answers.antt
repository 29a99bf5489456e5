use Rattle.std.proofs.Common.{◌≡◌, ◌+◌, ◌*◌, ℕ, false, refl, sym, ◌∙◌}
use Rattle.row_search.proofs.Words.{item_size, items_at, words_of, is_term}
use Rattle.row_search.proofs.ItemReads.{key_text}
use Rattle.row_search.proofs.SaidItems.{one_text, standing}
use Rattle.row_search.proofs.row_at.RowAt.said_at.Goals as goal

pub returns-then-is_term-clause-text : goal.returns-then-is_term-clause-text
returns-then-is_term-clause-text g c d =
    let content = c.args.self.now.content in
    one_text content (sym c.is_term.ensures ∙ c.if-is_term.true) (words_of content) c.keeps_spelling.ensures c.args.item d c.requires.there

pub returns-clause-there : goal.returns-clause-there
returns-clause-there g c =
    let content = c.args.self.now.content in
    let no : is_term content ≡ false = sym c.is_term.ensures ∙ c.if-is_term.false in
    rw (← standing content no) c.requires.there

pub returns-clause-text : goal.returns-clause-text
returns-clause-text g c d =
    let content = c.args.self.now.content in
    let words = words_of content in
    let at : ℕ = items_at + item_size * c.args.item in
    let no : is_term content ≡ false = sym c.is_term.ensures ∙ c.if-is_term.false in
    let within = rw (standing content no) at c.requires.there in
    rw (standing content no) (key_text words content c.keeps_spelling.ensures c.args.item d within at refl)
