-- Texts compare as their words do.
use Rattle.std.proofs.Common.{◌≡◌, List, ℕ, sym, ◌∙◌, arith}
use Rattle.row_search.proofs.Words.{key_cmp, text_size, IsText}
use Rattle.row_search.proofs.KeyOrder.{text_order, words_cmp}

pub by_words : (n m : ℕ) (words others text key : List ℕ) → IsText n words text → IsText m others key → words_cmp words n others m ≡ key_cmp text key
by_words n m words others text key is other =
    (λ i. words_cmp (sym is.are i) (sym is.counts i) (sym other.are i) (sym other.counts i))
    ∙ sym (text_order text_size text key is.short.bytes_fit other.short.bytes_fit (let s = is.short.short in omega arith) (let s = other.short.short in omega arith))
