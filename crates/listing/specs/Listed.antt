-- What a listing has.
use Rattle.std.specs.Prelude.{◌≡◌, ℕ, IsTrue, List, [], ◌∷◌, ◌++◌, map, None, Option, Some}
use Rattle.std.specs.List.{Contains}
use Rattle.tree_limits.specs.declared.limits.Limits.{Limits}
use Rattle.bw_model.specs.Pairs.{ArePairsOf, IsPairsOf}
use Rattle.base_page.specs.declared.item.Content.{Content}
use Rattle.base_page.specs.declared.item.Content.TheVariants.{Value, Child}
use Rattle.base_page.specs.declared.item.Item.{Item}
use Rattle.base_page.specs.Pages.{Page}
use Rattle.base_page.specs.Rules.{IsRuled}
use Rattle.deltas.specs.declared.record.Record.{Record}
use Rattle.deltas.specs.Memory.{Memory}
use Rattle.traces.specs.declared.trace.Entry.{Entry}
use Rattle.traces.specs.chain.Chains.{IsChainFrom, covers, high_in}
use Rattle.traces.specs.chain.Fitted.{IsPageChain, Makes}
use Rattle.traces.specs.chain.SideChain.{IsSideChainFrom, LivePage}
use Rattle.traces.specs.discipline.Discipline.{chain_value}
use Rattle.traces.specs.trace.Trace.{memory_of, turn_of}
use Rattle.linearization.specs.Answered.{IsCursorPage}
use Rattle.linearization.specs.Linearized.{IsLinearized}
use Rattle.linearization.specs.Points.{log_of}
use Rattle.tree_law.specs.Keys.{Covers, IsUpTo}
use Rattle.tree_law.specs.Leaves.{HasLeafPages}

-- Whatever the points by which the trace is linearized: the pairs are exactly those that its log has, in the order of keys.
abbrev pub IsListing : Limits → List Entry → List (List ℕ × List ℕ) → Type 0
IsListing limits entries pairs = (linear : IsLinearized limits (map turn_of entries) entries) → IsPairsOf (log_of entries linear.points) [] None pairs

-- a page's chain stands from the row in the page's slot on
pub record StandsAt (memory : Memory) (pid : ℕ) (chain : List Record) : Type 0 where
  pub records : IsChainFrom memory.rows (memory.slots pid) chain
  pub fits : IsPageChain chain

-- these pairs, after that of the key if its content is a value
abbrev pub with_pair : List ℕ → Content → List (List ℕ × List ℕ) → List (List ℕ × List ℕ)
with_pair key (Value value) pairs = (key, value) ∷ pairs
with_pair key (Child page held) pairs = pairs

-- the values of the items, each with its key
abbrev pub pairs_of : List Item → List (List ℕ × List ℕ)
pairs_of [] = []
pairs_of (item ∷ items) = with_pair item.key item.content (pairs_of items)

-- The pairs are those of the page that the chain makes.
pub record HasPage (chain : List Record) (pairs : List (List ℕ × List ℕ)) : Type 0 where
  pub page : Page
  pub makes : Makes chain page
  pub ruled : IsRuled page
  pub are : pairs ≡ pairs_of page.items

-- The pairs are those of the pages, one page's after another's.
abbrev pub HavePages : List LivePage → List (List ℕ × List ℕ) → Type 0
HavePages [] pairs = pairs ≡ []
HavePages (page ∷ pages) pairs = (own rest : List (List ℕ × List ℕ)) × HasPage page.chain own × HavePages pages rest × (pairs ≡ own ++ rest)

-- The page with this PID is one of them: those from it on are its side chain.
pub record IsAmong (memory : Memory) (pages : List LivePage) (pid : ℕ) : Type 0 where
  pub front : List LivePage
  pub rest : List LivePage
  pub whole : pages ≡ front ++ rest
  pub next : IsSideChainFrom memory pid rest

-- The page with this PID is one of them, and has the key in its range.
pub record IsFoundAt (memory : Memory) (pages : List LivePage) (key : List ℕ) (pid : ℕ) : Type 0 where
  pub front : List LivePage
  pub page : LivePage
  pub later : List LivePage
  pub whole : pages ≡ front ++ page ∷ later
  pub next : IsSideChainFrom memory pid (page ∷ later)
  pub has : Covers page.chain key

-- The range ends at or below the key.
abbrev pub IsBeyondEnd : List ℕ → Option (List ℕ) → Type 0
IsBeyondEnd key end = (high : List ℕ) × (end ≡ Some high) × IsUpTo high key

-- The pairs are those from the key on of that one of the pages which has the key, and the page ends there.
pub record IsPageFrom (pages : List LivePage) (from : List ℕ) (pairs : List (List ℕ × List ℕ)) (next : Option (List ℕ)) : Type 0 where
  pub page : LivePage
  pub among : Contains pages page
  pub covers : IsTrue (covers page.chain from)
  pub ends : high_in page.chain ≡ next
  pub are : ArePairsOf (chain_value page.chain) from (high_in page.chain) pairs

-- Whatever the points by which the trace is linearized: a cursor page from the key on would show these pairs, with this key to go on from.
abbrev pub IsListedPage : Limits → List Entry → List ℕ → List (List ℕ × List ℕ) → Option (List ℕ) → Type 0
IsListedPage limits entries from pairs next = (linear : IsLinearized limits (map turn_of entries) entries) → IsCursorPage (memory_of limits entries) (log_of entries linear.points) from pairs next

-- what a leaf that stands has from a key on is such a page
abbrev pub PagesAreShown : Type 0
PagesAreShown =
    (limits : Limits) (entries : List Entry) (leaves : HasLeafPages limits (memory_of limits entries)) (from : List ℕ) (pairs : List (List ℕ × List ℕ)) (next : Option (List ℕ))
    → IsPageFrom leaves.pages from pairs next → IsListedPage limits entries from pairs next

-- what is listed of the leaves that stand is a listing
abbrev pub PagesAreListed : Type 0
PagesAreListed =
    (limits : Limits) (entries : List Entry) (leaves : HasLeafPages limits (memory_of limits entries)) (pairs : List (List ℕ × List ℕ)) → HavePages leaves.pages pairs → IsListing limits entries pairs
