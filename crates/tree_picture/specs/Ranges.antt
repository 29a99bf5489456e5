-- The words for a page's range. Keys are cut, so that they have room beside each other.
use Rattle.std.specs.Prelude.{ℕ, List, [], ◌∷◌, ◌++◌, Option, None, Some, codes, if◌then◌else◌, length, map, nat_lt, take}
use Rattle.std.specs.List.{flat_map}
use Rattle.hex.specs.Hex.{encode_lower}
use Rattle.shell_lines.specs.Token.{is_word}
use Rattle.traces.specs.chain.Chains.{high_in, low_in}
use Rattle.traces.specs.chain.SideChain.{LivePage}
use Rattle.tree_picture.specs.declared.write.TheConstants.{SHORT, SHORT_DIGITS}

-- two dots where there are more bytes than so many
abbrev pub dots : ℕ → List ℕ → List ℕ
dots many bytes = if nat_lt many (length bytes) then codes ".." else []

-- the first bytes of a key or a value as the program prints them: 10, or 5 in hexadecimal digits; and dots where there are more
abbrev pub short_token : List ℕ → List ℕ
short_token bytes = if is_word bytes then take SHORT bytes ++ dots SHORT bytes else codes "=" ++ encode_lower (take SHORT_DIGITS bytes) ++ dots SHORT_DIGITS bytes

-- a key: the empty one is the lowest, and is named so
abbrev pub key_text : List ℕ → List ℕ
key_text [] = codes "(lowest)"
key_text (b ∷ bytes) = short_token (b ∷ bytes)

abbrev pub end_text : Option (List ℕ) → List ℕ
end_text (Some high) = codes " to " ++ key_text high
end_text None = codes " to the end"

abbrev pub range_text : List ℕ → Option (List ℕ) → List ℕ
range_text low high = codes "from " ++ key_text low ++ end_text high

abbrev pub page_range : LivePage → List ℕ
page_range page = range_text (low_in page.chain) (high_in page.chain)

abbrev pub level_ranges : List LivePage → List (List ℕ)
level_ranges pages = map page_range pages

abbrev pub all_ranges : List (List LivePage) → List (List ℕ)
all_ranges levels = flat_map level_ranges levels
