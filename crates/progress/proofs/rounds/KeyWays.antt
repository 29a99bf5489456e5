-- Ways of keys: where one key is on a way, each key below it is.
use Rattle.progress.proofs.Words.{◌≡◌, List, Bool, true, false, Option, Some, None, refl, sym, ◌∙◌, IsTrue, is_below, not_true, Record, covers, high_in, low_in, StaysLeft, precedes, reaches}
use Rattle.progress.proofs.Words.{by_below, covers_from, covers_to, upto_below, upto_trans, IsUpTo, Key}
use Rattle.std.proofs.lemmas.Bool.{not_from_false}
use Rattle.tree_law.specs.Keys.{IsUnder}

abbrev pub IsWay : (Key → Bool) → Type 0
IsWay way = (a b : Key) → way b ≡ true → IsUpTo a b → way a ≡ true

-- a key is reached where it isn't above
pub reached : (key low : Key) → reaches key low ≡ true → IsUpTo low key
reached key low e = not_true (is_below key low) e

pub reaching : (key low : Key) → IsUpTo low key → reaches key low ≡ true
reaching key low e = not_from_false (is_below key low) e

pub reaches_is_way : (key : Key) → IsWay (reaches key)
reaches_is_way key a b on up = reaching key a (upto_trans a b key up (reached key b on))

pub precedes_is_way : (key : Key) → IsWay (precedes key)
precedes_is_way key a b on up = upto_below a b key up on

-- a key on the way, above one that the page has, is in the page's range, where that ends beyond the way
pub within : (way : Key → Bool) → IsWay way → (chain : List Record) (low key : Key) → StaysLeft way chain → IsTrue (covers chain low) → IsUpTo low key → way key ≡ true → IsTrue (covers chain key)
within way is_way chain low key stays cov up on =
    covers_to chain key (record { low = upto_trans (low_in chain) low key (covers_from chain low cov).low up; high = under (high_in chain) (λ high e. stays.off high e) })
  where
    under : (end : Option Key) → ((high : Key) → end ≡ Some high → way high ≡ false) → IsUnder key end
    under None off = refl
    under (Some high) off = by_below key high (λ e. e) (λ e. let both : true ≡ false = sym (is_way high key on e) ∙ off high refl in cc)
