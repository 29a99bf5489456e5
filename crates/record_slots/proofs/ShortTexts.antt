-- Texts whose bytes are few.
use Rattle.std.proofs.Common.{◌<◌, ◌≤◌, ℕ, List, length, get_or}
use Rattle.std.proofs.lemmas.List.Elements.{All-from_get_or, recursion_from_All}
use Rattle.bw_model.specs.Bytes.{IsShort, longest}

pub short_text : (bytes : List ℕ) → length bytes ≤ longest → ((i : ℕ) → get_or bytes i 0 < 256) → IsShort bytes
short_text bytes few fit = record { short = few; bytes_fit = recursion_from_All (λ byte. byte < 256) bytes (All-from_get_or (λ byte. byte < 256) bytes 0 (λ i within. fit i)) }
