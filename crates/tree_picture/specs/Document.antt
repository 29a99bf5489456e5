-- A well-formed document, as bytes: one element, with elements in it that have none themselves.
use Rattle.std.specs.Prelude.{◌≡◌, ℕ, List, [], ◌∷◌, ◌++◌, Bool, true, false, codes, nat_le, not, ◌==◌, ◌&&◌, ◌||◌, IsTrue, if◌then◌else◌}
use Rattle.std.specs.List.{AllByRecursion, flat_map, list_all, list_any}
use Rattle.std.specs.Str.{bytes_eq}

-- A byte as it stands in a text or between quotes: what would end it there is told by its name, and what can't be printed is a
-- question mark.
abbrev pub escaped_byte : ℕ → List ℕ
escaped_byte b =
    if b == 60 then codes "&lt;" else if b == 62 then codes "&gt;" else if b == 38 then codes "&amp;" else if b == 34 then codes "&quot;"
    else if nat_le 32 b && nat_le b 126 then b ∷ [] else codes "?"

abbrev pub escape : List ℕ → List ℕ
escape bytes = flat_map escaped_byte bytes

-- what an element is told of: a name, and any bytes for it
pub record Attribute : Type 0 where
  pub name : List ℕ
  pub value : List ℕ

pub record Element : Type 0 where
  pub name : List ℕ
  pub attributes : List Attribute
  pub content : List ℕ

abbrev pub attribute_text : Attribute → List ℕ
attribute_text attribute = codes " " ++ attribute.name ++ codes "=\"" ++ escape attribute.value ++ codes "\""

-- where an element begins, and where it ends
abbrev pub open_text : List ℕ → List Attribute → List ℕ
open_text name attributes = codes "<" ++ name ++ flat_map attribute_text attributes ++ codes ">"

abbrev pub close_text : List ℕ → List ℕ
close_text name = codes "</" ++ name ++ codes ">\n"

abbrev pub element_text : Element → List ℕ
element_text element = open_text element.name element.attributes ++ escape element.content ++ close_text element.name

-- a small letter
abbrev pub is_lower_case : ℕ → Bool
is_lower_case b = nat_le 97 b && nat_le b 122

-- a letter, a digit or a hyphen
abbrev pub is_name_byte : ℕ → Bool
is_name_byte b = is_lower_case b || (nat_le 65 b && nat_le b 90) || (nat_le 48 b && nat_le b 57) || b == 45

-- A name begins with a small letter.
abbrev pub is_name : List ℕ → Bool
is_name [] = false
is_name (b ∷ bytes) = is_lower_case b && list_all is_name_byte bytes

-- Each attribute has a name, and no two have the same one.
abbrev pub are_attributes : List Attribute → Bool
are_attributes [] = true
are_attributes (one ∷ others) = is_name one.name && not (list_any (λ other. bytes_eq one.name other.name) others) && are_attributes others

abbrev pub IsElement : Element → Type 0
IsElement element = IsTrue (is_name element.name && are_attributes element.attributes)

-- The text is that of an element with these attributes and with elements in it, and of nothing else.
pub record IsWellFormed (text : List ℕ) : Type 0 where
  pub name : List ℕ
  pub attributes : List Attribute
  pub elements : List Element
  pub named : IsTrue (is_name name)
  pub are : IsTrue (are_attributes attributes)
  pub each : AllByRecursion IsElement elements
  pub spells : text ≡ open_text name attributes ++ codes "\n" ++ flat_map element_text elements ++ close_text name
