-- The side chain of a level: its pages from left to right.
use Rattle.std.specs.Prelude.{◌≡◌, ℕ, List, [], ◌∷◌, Some, MatchOption, IsTrue}
use Rattle.std.specs.List.{Contains}
use Rattle.base_page.specs.declared.item.Content.TheVariants.{Value}
use Rattle.deltas.specs.declared.record.Record.{Record}
use Rattle.deltas.specs.Memory.{Memory}
use Rattle.traces.specs.chain.Chains.{IsChainOf, content_in, low_in, high_in, right_in, covers}

-- a page as it stands in a memory
pub record LivePage : Type 0 where
  pub pid : ℕ
  pub chain : List Record

-- The pages are the one of the PID, its right, and so on to a page without a right.
abbrev pub IsSideChainFrom : Memory → ℕ → List LivePage → Type 0
IsSideChainFrom memory pid [] = ⊥
IsSideChainFrom memory pid (page ∷ pages) = (page.pid ≡ pid) × IsChainOf memory pid page.chain × MatchOption (right_in page.chain) (pages ≡ []) (λ right. IsSideChainFrom memory right pages)

-- The ranges of the pages follow one another from low on, and the last has no high key.
abbrev pub IsWholeFrom : List ℕ → List LivePage → Type 0
IsWholeFrom low [] = ⊥
IsWholeFrom low (page ∷ pages) = (low_in page.chain ≡ low) × MatchOption (high_in page.chain) (pages ≡ []) (λ high. IsWholeFrom high pages)

abbrev pub IsWhole : List LivePage → Type 0
IsWhole pages = IsWholeFrom [] pages

-- The leaves: PID 1 is the leftmost one for ever.
abbrev pub IsLeaves : Memory → List LivePage → Type 0
IsLeaves memory pages = IsSideChainFrom memory 1 pages

-- The memory has the value at the key.
abbrev pub Spells : Memory → List ℕ → List ℕ → Type 0
Spells memory key value = (pages : List LivePage) × (page : LivePage) × IsLeaves memory pages × Contains pages page × IsTrue (covers page.chain key) × (content_in page.chain key ≡ Some (Value value))
