use Rattle.std.proofs.Common.{◌≡◌, List, ℕ, take, length, refl, sym, ap, subst, ◌∙◌, arith}
use Rattle.row_search.proofs.Words.{IsShort, text_size, text_words, IsText, bytes_of, read_back}
use Rattle.row_search.proofs.key_words.KeyWords.of.Goals as goal

spelled : (text : List ℕ) → IsShort text → take (length text) (bytes_of (text_words text_size text)) ≡ text
spelled text short = (read_back text_size text short.bytes_fit (let s = short.short in omega arith)).are

is_text : (text : List ℕ) → IsShort text → IsText (length text) (text_words text_size text) (take (length text) (bytes_of (text_words text_size text)))
is_text text short = subst (IsText (length text) (text_words text_size text)) (sym (spelled text short)) (record { short = short; counts = refl; are = refl })

module _ (words text key : List ℕ) (are : words ≡ text_words text_size text) (same : text ≡ key) (short : IsShort key) where
  fits : IsShort text
  fits = subst IsShort (sym same) short

  pub kept : IsText (length text) words (take (length text) (bytes_of words))
  kept = rw are (is_text text fits)

  pub read : take (length text) (bytes_of words) ≡ key
  read = ap (λ (ws : List ℕ). take (length text) (bytes_of ws)) are ∙ spelled text fits ∙ same

pub invariant_of-result : goal.invariant_of-result
invariant_of-result c = kept c.words_of.result c.key_bytes-bytes.result.now c.args.key.now c.words_of.ensures c.key_bytes-bytes.ensures.bytes c.key_bytes-bytes.ensures.short

pub returns : goal.returns
returns c = read c.words_of.result c.key_bytes-bytes.result.now c.args.key.now c.words_of.ensures c.key_bytes-bytes.ensures.bytes c.key_bytes-bytes.ensures.short
