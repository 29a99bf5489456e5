-- The words for ranges, worked out.
use Rattle.std.proofs.Common.{◌≡◌, [], ◌∷◌, codes, refl}
use Rattle.hex.specs.Hex.{encode_with}
use Rattle.traces.specs.chain.Examples.{put_leaf, split_leaf}
use Rattle.tree_picture.specs.Ranges.{page_range, short_token}

-- ten bytes are whole, and eleven are cut
word_is : short_token (codes "k123456789") ≡ codes "k123456789"
word_is = refl

cut_is : short_token (codes "k1234567890") ≡ codes "k123456789.."
cut_is = refl

-- so are five and six in digits, and no bytes have none
empty_is : short_token [] ≡ codes "="
unfolding encode_with
empty_is = refl

digits_are : short_token (0 ∷ 255 ∷ 32 ∷ 10 ∷ 160 ∷ []) ≡ codes "=00ff200aa0"
unfolding encode_with
digits_are = refl

cut_digits_are : short_token (0 ∷ 255 ∷ 32 ∷ 10 ∷ 160 ∷ 1 ∷ []) ≡ codes "=00ff200aa0.."
unfolding encode_with
cut_digits_are = refl

range_is : page_range (record { pid = 1; chain = split_leaf }) ≡ codes "from a to k09"
range_is = refl

open_range_is : page_range (record { pid = 1; chain = put_leaf }) ≡ codes "from (lowest) to the end"
open_range_is = refl
