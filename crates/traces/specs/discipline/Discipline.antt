-- What an actor may do, by what it knows from its own entries alone: no more than what the law needs.
use Rattle.std.specs.Prelude.{◌≡◌, ◌≢◌, ◌<◌, ◌≤◌, ◌/◌, ◌^◌, ℕ, zero, suc, ◌⊎◌, List, [], ◌∷◌, length, Option, None, Some, Bool, true, false, IsTrue, IsFalse, IfSome, IsSome, MatchOption, ⊤}
use Rattle.bw_model.specs.declared.command.Command.{Command}
use Rattle.bw_model.specs.declared.command.Reply.{Reply}
use Rattle.bw_model.specs.declared.command.Command.TheVariants.{Back, Page, Tidy}
use Rattle.bw_model.specs.declared.command.Reply.TheVariants.{Full, Tidied, BackPage, Page as PageReply}
use Rattle.tree_limits.specs.declared.limits.Limits.{Limits}
use Rattle.bw_model.specs.declared.step.Step.{Step as StepOf}
use Rattle.bw_model.specs.declared.step.Step.TheVariants.{Slot, Row, Epoch, Announce, PidBits, RowBits, Place, Exchange, TakePid, TakeRow, Enter, Leave, Retire, ReusePids, ReuseRows}
use Rattle.bw_model.specs.Bytes.{IsShort, is_below, is_under}
use Rattle.bw_model.specs.Log.{Update, set, unset}
use Rattle.bw_model.specs.NextKeys.{key_after, key_before}
use Rattle.bw_model.specs.Pairs.{ArePairsOf}
use Rattle.bw_model.specs.Replies.{command_key, is_writer, reply_of, update_of}
use Rattle.base_page.specs.declared.item.Content.{Content}
use Rattle.base_page.specs.declared.item.Content.TheVariants.{Value, Child}
use Rattle.base_page.specs.declared.item.Item.{Item}
use Rattle.base_page.specs.declared.page.Page.{Page as BasePage}
use Rattle.base_page.specs.Pages.{content_at}
use Rattle.deltas.specs.declared.record.Record.{Record}
use Rattle.deltas.specs.declared.record.Record.TheVariants.{Base, Put, Delete, Split, Term, Hold, Remove, Merge, Unterm}
use Rattle.deltas.specs.Records.{next_row}
use Rattle.traces.specs.chain.Chains.{IsChainFrom, content_in, level_in, low_in, high_in, right_in, is_removed, covers}
use Rattle.traces.specs.chain.Fitted.{FitsOver, IsFitted}
use Rattle.traces.specs.chain.HeldBack.{HoldsBack}
use Rattle.traces.specs.chain.Unheld.{IsUnheld}
use Rattle.traces.specs.discipline.Knowledge.{OwnRow, Foreign, Taken, Written, Empty, Ready, Gone, LimboMark, Stamped, Knowledge}
use Rattle.tree_limits.specs.Words.{is_among}

abbrev pub IsOwn : OwnRow → Type 0
IsOwn Foreign = ⊥
IsOwn Taken = ⊤
IsOwn (Written content) = ⊤

-- the record that makes this update over the chain of this row
abbrev pub update_record : Update → ℕ → Record
update_record (set actor key value) next = Put (record { next = next; key = key; value = value })
update_record (unset actor key) next = Delete (record { next = next; key = key })

abbrev pub value_of : Option Content → Option (List ℕ)
value_of (Some (Value value)) = Some value
value_of _ = None

-- the value that a leaf's chain decides for the key
abbrev pub chain_value : List Record → List ℕ → Option (List ℕ)
chain_value chain key = value_of (content_in chain key)

-- the page's slot was read as this row, and the whole chain from there, which is not removed
pub record HasRead (k : Knowledge) (page row : ℕ) : Type 0 where
  pub head : k.read.heads page ≡ Some row
  pub chain : List Record
  pub read : IsChainFrom k.read.seen row chain
  pub alive : IsFalse (is_removed chain)

-- The chain names the page as a child, at a key of its range.
abbrev pub NamesChild : List Record → ℕ → Type 0
NamesChild chain page = (level : ℕ) × (key : List ℕ) × (held : Bool) × (level_in chain ≡ suc level) × IsTrue (covers chain key) × (content_in chain key ≡ Some (Child page held))

-- The page is the right, or a child, of a removed page that stood right of the one whose chain this is: the removed one had been
-- read before.
pub record IsBeyond (k : Knowledge) (left : ℕ) (beside : List Record) (page : ℕ) : Type 0 where
  pub removed : ℕ
  pub row : ℕ
  pub chain : List Record
  pub right : right_in beside ≡ Some removed
  pub order : k.read.before left removed ≡ Some row
  pub read : IsChainFrom k.read.seen row chain
  pub gone : IsTrue (is_removed chain)
  pub named : (right_in chain ≡ Some page) ⊎ NamesChild chain page

-- The whole chain of another page, as its slot was last read, names the page: as its right, or as a child, or its right does,
-- which had been read removed before. What is under a head, and what a removed page names that did not stand so, may be the name
-- of a page that was used again.
pub record IsMet (k : Knowledge) (page : ℕ) : Type 0 where
  pub other : ℕ
  pub row : ℕ
  pub basis : HasRead k other row
  pub named : (right_in basis.chain ≡ Some page) ⊎ NamesChild basis.chain page ⊎ IsBeyond k other basis.chain page

-- the items decide each key of the chain's range as the chain does
abbrev pub AreAlike : List Item → List Record → Type 0
AreAlike items chain = (key : List ℕ) → IsTrue (covers chain key) → content_at items key ≡ content_in chain key

-- a base with these items, from this low key on to the chain's end
abbrev pub base_from : List Record → List ℕ → List Item → Record
base_from chain low items = Base (record { level = level_in chain; low = low; high = high_in chain; right = right_in chain; removed = false; items = items })

-- the base of a new root over a page, and over its right from the separator on
abbrev pub root_over : ℕ → ℕ → List ℕ → ℕ → Record
root_over level page separator right = Base (record {
  level = level;
  low = [];
  high = None;
  right = None;
  removed = false;
  items = record { key = []; content = Child page false } ∷ record { key = separator; content = Child right false } ∷ [];
})

-- A base keeps the rules of a page. A delta fits the page that the chain makes, and makes one that keeps them; there are at
-- most eleven deltas under it.
abbrev pub FitsOn : List Record → Record → Type 0
FitsOn chain content = MatchOption (next_row content) (IsFitted (content ∷ [])) (λ next. FitsOver chain content × (length chain ≤ 12))

-- A Put or a Delete: an update may be linked over a leaf that has the key in its range, where the command makes it there,
-- once in an operation.
pub record MayUpdate (actor : ℕ) (k : Knowledge) (old : ℕ) (chain : List Record) (content : Record) : Type 0 where
  pub leaf : level_in chain ≡ 0
  pub command : Command
  pub going : k.asked.command ≡ Some command
  pub unlinked : k.asked.linked ≡ None
  pub covers : IsTrue (covers chain (command_key command))
  pub update : Update
  pub due : update_of actor command (chain_value chain (command_key command)) ≡ Some update
  pub is : content ≡ update_record update old

-- A Base: consolidation puts a base in the chain's place that spells what the chain spells.
pub record MayConsolidate (chain : List Record) (content : Record) : Type 0 where
  pub items : List Item
  pub alike : AreAlike items chain
  pub is : content ≡ base_from chain (low_in chain) items

-- A Split: where the new page is ready and spells the upper part.
pub record MaySplit (k : Knowledge) (old : ℕ) (chain : List Record) (content : Record) : Type 0 where
  pub separator : List ℕ
  pub above : IsTrue (is_below (low_in chain) separator)
  pub below : IsTrue (is_under separator (high_in chain))
  pub right : ℕ
  pub row : ℕ
  pub ready : k.own.pages right ≡ Ready row
  pub items : List Item
  pub alike : (key : List ℕ) → IsTrue (covers chain key) → IsFalse (is_below key separator) → content_at items key ≡ content_in chain key
  pub base : k.own.rows row ≡ Written (base_from chain separator items)
  pub ruled : IsFitted (base_from chain separator items ∷ [])
  pub is : content ≡ Split (record { level = level_in chain; next = old; separator = separator; page = right })

-- A Term: of a page that was read after its parent, which is one level up, has the page's low key in its range and no
-- term there.
pub record MayPost (k : Knowledge) (page old : ℕ) (chain : List Record) (content : Record) : Type 0 where
  pub child : ℕ
  pub row : ℕ
  pub below : HasRead k child row
  pub level : level_in chain ≡ suc (level_in below.chain)
  pub covers : IsTrue (covers chain (low_in below.chain))
  pub absent : content_in chain (low_in below.chain) ≡ None
  pub order : k.read.before child page ≡ Some old
  pub is : content ≡ Term (record { level = level_in chain; next = old; separator = low_in below.chain; child = child })

-- A Hold: of an unheld term.
pub record MayHold (old : ℕ) (chain : List Record) (content : Record) : Type 0 where
  pub level : ℕ
  pub is_level : level_in chain ≡ suc level
  pub key : List ℕ
  pub covers : IsTrue (covers chain key)
  pub child : ℕ
  pub present : content_in chain key ≡ Some (Child child false)
  pub is : content ≡ Hold (record { level = level_in chain; next = old; separator = key; child = child })

-- A Remove: of a page whose term was read held, and of which no term is held itself.
pub record MayRemove (k : Knowledge) (page old : ℕ) (chain : List Record) (content : Record) : Type 0 where
  pub parent : ℕ
  pub row : ℕ
  pub above : HasRead k parent row
  pub level : level_in above.chain ≡ suc (level_in chain)
  pub covers : IsTrue (covers above.chain (low_in chain))
  pub held : content_in above.chain (low_in chain) ≡ Some (Child page true)
  pub unheld : IsUnheld chain
  pub is : content ≡ Remove (record { level = level_in chain; next = old })

-- A Merge: a page's right, which was read removed, comes into it.
pub record MayMerge (k : Knowledge) (old : ℕ) (chain : List Record) (content : Record) : Type 0 where
  pub other : ℕ
  pub row : ℕ
  pub head : k.read.heads other ≡ Some row
  pub merged : List Record
  pub read : IsChainFrom k.read.seen row merged
  pub gone : IsTrue (is_removed merged)
  pub right : right_in chain ≡ Some other
  pub high : high_in chain ≡ Some (low_in merged)
  pub items : List Item
  pub alike : AreAlike items merged
  pub is : content ≡ Merge (record { level = level_in chain; next = old; low = low_in merged; high = high_in merged; right = right_in merged; items = items })

-- An Unterm: a held term goes where, after its page, a page was read in whose range or at whose end the child would
-- have to be, and is not.
pub record MayUnterm (k : Knowledge) (page old : ℕ) (chain : List Record) (content : Record) : Type 0 where
  pub key : List ℕ
  pub covers : IsTrue (covers chain key)
  pub child : ℕ
  pub present : content_in chain key ≡ Some (Child child true)
  pub left : ℕ
  pub row : ℕ
  pub below : HasRead k left row
  pub level : level_in chain ≡ suc (level_in below.chain)
  pub above : IsTrue (is_below (low_in below.chain) key)
  pub within : IfSome (high_in below.chain) (λ high. IsFalse (is_below high key))
  pub apart : high_in below.chain ≡ Some key → right_in below.chain ≡ Some child → ⊥
  pub order : k.read.before left page ≡ Some old
  pub is : content ≡ Unterm (record { level = level_in chain; next = old; separator = key; child = child })

-- what a record is asked, to be linked on a page over the old row's chain
abbrev pub MayLink : ℕ → Knowledge → ℕ → ℕ → List Record → Record → Type 0
MayLink actor k page old chain (Base base) = MayConsolidate chain (Base base)
MayLink actor k page old chain (Put put) = MayUpdate actor k old chain (Put put)
MayLink actor k page old chain (Delete delete) = MayUpdate actor k old chain (Delete delete)
MayLink actor k page old chain (Split split) = MaySplit k old chain (Split split)
MayLink actor k page old chain (Term term) = MayPost k page old chain (Term term)
MayLink actor k page old chain (Hold hold) = MayHold old chain (Hold hold)
MayLink actor k page old chain (Remove remove) = MayRemove k page old chain (Remove remove)
MayLink actor k page old chain (Merge merge) = MayMerge k old chain (Merge merge)
MayLink actor k page old chain (Unterm unterm) = MayUnterm k page old chain (Unterm unterm)

-- The row stands in the slot of no own page.
abbrev pub IsUnset : Knowledge → ℕ → Type 0
IsUnset k row = (page : ℕ) → k.own.pages page ≡ Ready row → ⊥

-- A new row comes over a page's old one: the page was read with the old row's chain, what was placed in the new row fits that
-- chain and is due there, and the row stands in no slot.
pub record MayAdd (actor : ℕ) (k : Knowledge) (page old new : ℕ) : Type 0 where
  pub basis : HasRead k page old
  pub content : Record
  pub placed : k.own.rows new ≡ Written content
  pub fits : FitsOn basis.chain content
  pub due : MayLink actor k page old basis.chain content
  pub unset : IsUnset k new

-- A Root: over the page that slot 0 has, and its right, where the new page is ready with the two terms.
pub record MayRoot (k : Knowledge) (old new : ℕ) : Type 0 where
  pub row : ℕ
  pub basis : HasRead k old row
  pub right : ℕ
  pub is_right : right_in basis.chain ≡ Some right
  pub separator : List ℕ
  pub is_high : high_in basis.chain ≡ Some separator
  pub some : IsTrue (is_below [] separator)
  pub base_row : ℕ
  pub ready : k.own.pages new ≡ Ready base_row
  pub base : k.own.rows base_row ≡ Written (root_over (suc (level_in basis.chain)) old separator right)
  pub ruled : IsFitted (root_over (suc (level_in basis.chain)) old separator right ∷ [])

-- a base that the actor placed in an own row
abbrev pub IsOwnBase : OwnRow → Type 0
IsOwnBase (Written (Base page)) = ⊤
IsOwnBase _ = ⊥

-- Slot 0 goes from root to root. The slot of an own page goes from 0 to an own base (Ready) and back to 0 (Undo), and
-- that of a page whose term the actor took away to 0 (Clear). No row comes into two slots.
abbrev pub MayExchange : ℕ → Knowledge → ℕ → ℕ → ℕ → Type 0
MayExchange actor k zero old new = MayRoot k old new
MayExchange actor k (suc page) zero zero = ⊥
MayExchange actor k (suc page) zero (suc row) = (k.own.pages (suc page) ≡ Empty) × IsOwnBase (k.own.rows (suc row)) × IsUnset k (suc row)
MayExchange actor k (suc page) (suc row) zero = (k.own.pages (suc page) ≡ Ready (suc row)) ⊎ (k.own.pages (suc page) ≡ Gone)
MayExchange actor k (suc page) (suc old) (suc new) = MayAdd actor k (suc page) (suc old) (suc new)

-- An own row is placed while it stands in no slot. The epoch that is announced was read. Only an actor that is outside frees.
abbrev pub May : ℕ → Knowledge → StepOf Record → Type 0
May actor k (Slot zero) = IsTrue k.inside
May actor k (Slot (suc page)) = IsTrue k.inside × (IsTrue (k.read.roots (suc page)) ⊎ IsMet k (suc page))
May actor k (Row row) = IsTrue k.inside × IsTrue (k.read.learnt row)
May actor k Epoch = ⊤
May actor k (Announce other) = ⊤
May actor k (PidBits word) = ⊤
May actor k (RowBits word) = ⊤
May actor k (TakePid page) = ⊤
May actor k (TakeRow row) = ⊤
May actor k (Place row content) = IsTrue k.inside × IsOwn (k.own.rows row) × IsUnset k row
May actor k (Exchange slot old new) = IsTrue k.inside × MayExchange actor k slot old new
May actor k (Enter epoch) = IsFalse k.inside × (0 < epoch) × (k.limbo.epoch ≡ Some epoch)
May actor k Leave = IsTrue k.inside
May actor k (Retire epoch) = epoch < 2 ^ 62
May actor k (ReusePids word bits) = IsFalse k.inside
May actor k (ReuseRows word bits) = IsFalse k.inside

-- Each other actor was read as outside, or in a later epoch than the stamp, after the stamp was read.
pub record IsPassed (limits : Limits) (actor : ℕ) (limbo : LimboMark) : Type 0 where
  pub epoch : ℕ
  pub passed : ℕ → Bool
  pub stamped : limbo ≡ Stamped epoch passed
  pub all : (other : ℕ) → other < limits.actors → other ≢ actor → IsTrue (passed other)

-- What a step frees its actor took out of the tree, and no other actor can hold it.
abbrev pub MayFree : Limits → ℕ → Knowledge → StepOf Record → Type 0
MayFree limits actor k (ReusePids word bits) = (page : ℕ) → is_among word bits page ≡ true → IsPassed limits actor (k.limbo.pids page)
MayFree limits actor k (ReuseRows word bits) = (row : ℕ) → is_among word bits row ≡ true → IsPassed limits actor (k.limbo.rows row)
MayFree limits actor k step = ⊤

-- after the other page was read as this row, the page left of it was read
pub record IsBeside (k : Knowledge) (row : ℕ) : Type 0 where
  pub left : ℕ
  pub head : ℕ
  pub basis : HasRead k left head
  pub other : ℕ
  pub right : right_in basis.chain ≡ Some other
  pub order : k.read.before left other ≡ Some row

-- A slot held the row and its chain isn't removed; or the page was removed, and its left page was read afterwards.
abbrev pub WasStanding : Knowledge → ℕ → List Record → Type 0
WasStanding k row chain = (((page : ℕ) × (k.read.heads page ≡ Some row)) × IsFalse (is_removed chain)) ⊎ (IsBeside k row × IsTrue (is_removed chain))

-- The chain of the row gives the reply: the update was linked over it; or there is none to link, and the page stood with it.
abbrev pub HasBasis : ℕ → Knowledge → Command → ℕ → List Record → Type 0
HasBasis actor k command row chain =
    ((k.asked.linked ≡ Some (Some row)) × IsFalse (is_removed chain))
    ⊎ ((k.asked.linked ≡ None) × WasStanding k row chain × (update_of actor command (chain_value chain (command_key command)) ≡ None))

-- a reply by the value of the command's key
pub record MayAnswer (actor : ℕ) (k : Knowledge) (command : Command) (reply : Reply) : Type 0 where
  pub row : ℕ
  pub chain : List Record
  pub read : IsChainFrom k.read.seen row chain
  pub leaf : level_in chain ≡ 0
  pub covers : IsTrue (covers chain (command_key command))
  pub is : reply_of command (chain_value chain (command_key command)) ≡ Some reply
  pub basis : HasBasis actor k command row chain

-- A cursor page: the pairs of a leaf that stood, from the command's key on, and the leaf's high key.
pub record MayShowPage (k : Knowledge) (command : Command) (reply : Reply) : Type 0 where
  pub from : List ℕ
  pub asks : command ≡ Page from
  pub row : ℕ
  pub chain : List Record
  pub read : IsChainFrom k.read.seen row chain
  pub leaf : level_in chain ≡ 0
  pub covers : IsTrue (covers chain from)
  pub pairs : List (List ℕ × List ℕ)
  pub exact : ArePairsOf (chain_value chain) from (high_in chain) pairs
  pub is : reply ≡ PageReply pairs (high_in chain)
  pub unlinked : k.asked.linked ≡ None
  pub basis : WasStanding k row chain

-- A page backward: the pairs of a leaf that stood, up to the command's key, and the greatest key below the leaf.
pub record MayShowBack (k : Knowledge) (command : Command) (reply : Reply) : Type 0 where
  pub upto : List ℕ
  pub asks : command ≡ Back upto
  pub row : ℕ
  pub chain : List Record
  pub read : IsChainFrom k.read.seen row chain
  pub leaf : level_in chain ≡ 0
  pub covers : IsTrue (covers chain upto)
  pub short : IsShort (low_in chain)
  pub pairs : List (List ℕ × List ℕ)
  pub exact : ArePairsOf (chain_value chain) (low_in chain) (Some (key_after upto)) pairs
  pub is : reply ≡ BackPage pairs (key_before (low_in chain))
  pub unlinked : k.asked.linked ≡ None
  pub basis : WasStanding k row chain

-- Before the page was read, the page above it was read, which held it back.
pub record IsHeldBack (k : Knowledge) (page : ℕ) (low : List ℕ) : Type 0 where
  pub parent : ℕ
  pub row : ℕ
  pub above : HasRead k parent row
  pub order : k.read.before page parent ≡ Some row
  pub holds : HoldsBack above.chain page low

-- Tidied: the leaf that has the key was read as a base alone with fewer than 16 items; a small one is the first leaf, or was held
-- back.
pub record MayCallTidy (k : Knowledge) (command : Command) (reply : Reply) : Type 0 where
  pub key : List ℕ
  pub asks : command ≡ Tidy key
  pub is : reply ≡ Tidied
  pub page : ℕ
  pub head : ℕ
  pub basis : HasRead k page head
  pub base : BasePage
  pub alone : basis.chain ≡ Base base ∷ []
  pub leaf : base.level ≡ 0
  pub covers : IsTrue (covers basis.chain key)
  pub few : length base.items < 16
  pub back : page ≢ 1 → length base.items ≤ 4 → (low_in basis.chain ≡ []) ⊎ IsHeldBack k page (low_in basis.chain)
  pub unlinked : k.asked.linked ≡ None

-- Each word of the free PIDs, or each word of the free rows that have room for any record, was read as 0.
abbrev pub LacksRoom : Limits → Knowledge → Type 0
LacksRoom limits k = ((word : ℕ) → word < limits.pids / 64 → IsTrue (k.asked.no_pids word))
    ⊎ ((word : ℕ) → limits.wide_from / 64 ≤ word → word < limits.rows / 64 → IsTrue (k.asked.no_rows word))

-- Full: the command's actor may link records, no update was linked, and there is no room for a change.
pub record MayGiveUp (limits : Limits) (k : Knowledge) (command : Command) (reply : Reply) : Type 0 where
  pub is : reply ≡ Full
  pub writes : IsTrue (is_writer command)
  pub unlinked : k.asked.linked ≡ None
  pub lacks : LacksRoom limits k

pub record MayReply (limits : Limits) (actor : ℕ) (k : Knowledge) (reply : Reply) : Type 0 where
  pub command : Command
  pub going : k.asked.command ≡ Some command
  pub justified : MayAnswer actor k command reply ⊎ MayShowPage k command reply ⊎ MayShowBack k command reply ⊎ MayCallTidy k command reply ⊎ MayGiveUp limits k command reply

-- A step that the actor may take by what it knows. A Leave, and no other step, has a reply, and so ends the operation.
pub record IsAllowed (limits : Limits) (actor : ℕ) (k : Knowledge) (step : StepOf Record) (reply : Option Reply) : Type 0 where
  pub may : May actor k step
  pub frees : MayFree limits actor k step
  pub replied : IfSome reply (λ given. (step ≡ Leave) × MayReply limits actor k given)
  pub ends : step ≡ Leave → IsSome reply
