use Rattle.std.proofs.Common.{◌≡◌, ◌<◌, ◌≤◌, ◌+◌, ◌*◌, ℕ, suc, [], length, get_or, ap, drop, ◌∙◌, arith}
use Rattle.std.specs.Prelude.{false}
use Rattle.bw_model.specs.Bytes.{longest}
use Rattle.row_search.proofs.Words.{Child, IsSpelling, Item, Record, Value, field_size, item_size, items_at, items_of, row_of, text_in, words_of}
use Rattle.row_search.proofs.ItemReads.{few_there, text_there, value_there}
use Rattle.row_search.proofs.row_at.RowAt.leaf_value.Goals as goal

none : Item
none = record { key = []; content = Child 0 false }

-- a value in a leaf is short
few_value : (content : Record) (place word : ℕ) → IsSpelling content (words_of content) → place < length (items_of content)
    → (row_of content).level ≡ 0 → word ≡ get_or (words_of content) (items_at + item_size * place + field_size) 0 → word ≤ longest
few_value content place word spelt within leaf is = few_there is (value_there (words_of content) content spelt place none within leaf).1.1

pub bytes-bytes-requires-clause-few : goal.bytes-bytes-requires-clause-few
bytes-bytes-requires-clause-few g c =
    few_value c.args.self.now.content c.args.place c.length-count.result c.keeps_spelling.ensures c.requires.there c.requires.leaf c.length-count.ensures.word

pub overflow_cast-count : goal.overflow_cast-count
overflow_cast-count g c =
    let least = few_value c.args.self.now.content c.args.place c.length-count.result c.keeps_spelling.ensures c.requires.there c.requires.leaf c.length-count.ensures.word in
    omega arith

pub first_of-requires : goal.first_of-requires
first_of-requires g c =
    few_value c.args.self.now.content c.args.place c.length-count.result c.keeps_spelling.ensures c.requires.there c.requires.leaf c.length-count.ensures.word

pub returns-clause-value : goal.returns-clause-value
returns-clause-value g c d =
    let content = c.args.self.now.content in
    let at : ℕ = items_at + item_size * c.args.place in
    let further : at + field_size + 1 ≡ at + suc field_size = omega arith in
    let there = value_there (words_of content) content c.keeps_spelling.ensures c.args.place d c.requires.there c.requires.leaf in
    ap Value (
    c.first_of.ensures ∙ c.bytes-bytes.ensures.bytes ∙ ap (λ n. text_in c.length-count.result (drop n (words_of content))) further
    ∙ text_there c.length-count.ensures.word there.1.1
    ) ∙ there.1.0
