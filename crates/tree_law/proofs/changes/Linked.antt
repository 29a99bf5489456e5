-- What an exchange that links a record over a page's chain makes of what is in store, by the record's kind.
use Rattle.tree_law.proofs.Words.{◌⊎◌, [], ap, refl, Option, suc, None, List, true, inl, ◌≤◌, inr, ◌∷◌, ℕ, ◌≡◌, ◌∙◌, ◌<◌, arith, Some, ◌+◌, IsSome, Update, set, unset, next_row, option_map}
use Rattle.tree_law.proofs.Words.{Record, Base, Split, Put, Delete, Term, Hold, Remove, Merge, Unterm, record_link, low_in, HasRead, FitsOn, IsFitted, Memory, Command, Whether, Exchange}
use Rattle.tree_law.proofs.Words.{Knowledge, Written, learn, MayLink, MayUpdate, MayConsolidate, MaySplit, MayAdd, update_record, base_from, AreFitted, Owners, Shared, IsTree, shared_part}
use Rattle.tree_law.proofs.Words.{slot_in, LinkMoves, put, phase_of, free, IsUpdateLink, IsUseful, IsHalved, IsWorth, life, total}
use Rattle.tree_law.proofs.trace.Phasing.{link_front}
use Rattle.tree_law.proofs.links.Relinking.{found, placed_row}
use Rattle.tree_law.proofs.links.UpdateLinks.{IsLinked, learns_update}
use Rattle.tree_law.proofs.changes.Delta.{base_store, delete_store, hold_store, merge_store, put_store, remove_store, term_store, unterm_store}
use Rattle.tree_law.proofs.changes.Halves.{split_store}

-- the worth of all lives and chains
abbrev pub stored : ℕ → Owners → Shared → (ℕ → ℕ) → ℕ
stored n o m worths = total worths n + total (λ page. life (o.page page) (m.slots page)) n

-- The step links the update of the operation, which had none.
pub record Updates (k now : Knowledge) : Type 0 where
  pub command : Command
  pub going : k.asked.command ≡ Some command
  pub unlinked : k.asked.linked ≡ None
  pub linked : IsSome now.asked.linked

-- A change takes one at least; an update puts 7 at most into it.
abbrev pub Costs : ℕ → ℕ → Knowledge → Knowledge → Type 0
Costs before after k now = (after + 1 ≤ before) ⊎ ((after ≤ before + 7) × Updates k now)

record_next : (u : Update) (x : ℕ) → next_row (update_record u x) ≡ Some x
record_next (set b k v) x = refl
record_next (unset b k) x = refl

module _ (m : Memory) {log : List Update} {o : Owners} {knows : ℕ → Knowledge} {point : ℕ → Option (List Update)} {logs : ℕ → List (List Update)}
    (g : IsTree (shared_part m) log o knows point logs) (fitted : AreFitted o m.rows) (a n : ℕ)
    (below : (page : ℕ) → (phase_of (o.page page) ≡ free) ⊎ ((0 < page) × (page < n))) (o' : Owners) (p x y : ℕ) (held : m.slots (suc p) ≡ suc x)
    (at : slot_in m.slots (suc p) ≡ Some (suc x)) (may : MayAdd a (knows a) (suc p) (suc x) (suc y))
    (worths worths' : ℕ → ℕ) (each : (page : ℕ) → IsWorth o (shared_part m) page (worths page))
    (each' : (page : ℕ) → IsWorth o' (record (shared_part m) { slots = put (slot_in m.slots) (suc p) (Some (suc y)) }) page (worths' page)) where
  abbrev k : Knowledge
  k = knows a

  abbrev basis : HasRead (knows a) (suc p) (suc x)
  basis = may.basis

  abbrev chain : List Record
  chain = may.basis.chain

  abbrev later : Shared
  later = record (shared_part m) { slots = put (slot_in m.slots) (suc p) (Some (suc y)) }

  abbrev before : ℕ
  before = stored n o (shared_part m) worths

  abbrev after : ℕ
  after = stored n o' later worths'

  abbrev Outcome : Type 0
  Outcome = Costs before after k (learn k (Exchange (suc p) (suc x) (suc y)) (Whether true))

  chain_fitted : IsFitted chain
  chain_fitted = let f = found g a (suc p) (suc x) basis in (fitted (suc x) f.linked chain f.stands).fitted

  less : after + 1 ≤ before + 0 → Outcome
  less h = inl (omega (arith, h))

  learns : (kind : Record) → k.own.rows (suc y) ≡ Written kind → IsUpdateLink (record_link kind) → IsSome (learn k (Exchange (suc p) (suc x) (suc y)) (Whether true)).asked.linked
  unfolding IsLinked
  learns kind written update =
      let is = link_front m p x y ∙ ap (option_map record_link) (placed_row g a (suc y) kind written) in
      (learns_update m g a (suc p) (suc x) (suc y) (record_link kind) may held is update).1

  updates : (content : Record) → k.own.rows (suc y) ≡ Written content → IsUpdateLink (record_link content) → MayUpdate a k (suc x) chain content
      → Updates k (learn k (Exchange (suc p) (suc x) (suc y)) (Whether true))
  updates content written update h = record { command = h.command; going = h.going; unlinked = h.unlinked; linked = learns content written update }

  by_base : (content : Record) → k.own.rows (suc y) ≡ Written content → IsFitted (content ∷ []) → MayConsolidate chain content → LinkMoves (shared_part m) a content (suc p) o.page o'.page
      → o'.page ≡ o.page → IsUseful k (Exchange (suc p) (suc x) (suc y)) → Outcome
  by_base content written fits h moves same useful =
      let written' : k.own.rows (suc y) ≡ Written (base_from chain (low_in chain) h.items) = written ∙ ap Written h.is in
      let ruled : IsFitted (base_from chain (low_in chain) h.items ∷ []) = rw h.is at fits in
      less (base_store g a n below o' (suc p) (suc x) (suc y) at basis worths worths' each each' same chain_fitted h.items h.alike written' ruled (useful basis _ written'))

  by_split : (content : Record) → k.own.rows (suc y) ≡ Written content → FitsOn chain content → MaySplit k (suc x) chain content → LinkMoves (shared_part m) a content (suc p) o.page o'.page
      → IsHalved k (Exchange (suc p) (suc x) (suc y)) → Outcome
  by_split content written fits h moves halved =
      let moves' = rw h.is at moves in
      let over = (rw h.is at fits).0 in
      less (split_store g a n below o' (suc p) (suc x) (suc y) at basis worths worths' each each' chain_fitted content written h over moves'.1
      (halved basis _ h.row _ (written ∙ ap Written h.is) h.ready h.base) moves'.4 moves'.5)

  pub linked : (content : Record) → k.own.rows (suc y) ≡ Written content → FitsOn chain content → MayLink a k (suc p) (suc x) chain content
      → LinkMoves (shared_part m) a content (suc p) o.page o'.page → IsUseful k (Exchange (suc p) (suc x) (suc y)) → IsHalved k (Exchange (suc p) (suc x) (suc y)) → Outcome
  linked (Base base) written fits h moves useful halved = by_base (Base base) written fits h moves moves useful
  linked (Split split) written fits h moves useful halved = by_split (Split split) written fits h moves halved
  linked (Put w) written fits h moves useful halved =
      let next : next_row (Put w) ≡ Some (suc x) = ap next_row h.is ∙ record_next h.update (suc x) in
      let balance : after + 0 ≤ before + 7 = put_store g a n below o' (suc p) (suc x) (suc y) at basis worths worths' each each' moves w written next fits.0 in
      inr ((omega arith), updates (Put w) written (inl refl) h)
  linked (Delete w) written fits h moves useful halved =
      let next : next_row (Delete w) ≡ Some (suc x) = ap next_row h.is ∙ record_next h.update (suc x) in
      let balance : after + 0 ≤ before + 1 = delete_store g a n below o' (suc p) (suc x) (suc y) at basis worths worths' each each' moves w written next fits.0 in
      inr ((omega arith), updates (Delete w) written (inr refl) h)
  linked (Term w) written fits h moves useful halved = less (term_store g a n below o' (suc p) (suc x) (suc y) at basis worths worths' each each' w written (ap next_row h.is) fits.0 moves)
  linked (Hold w) written fits h moves useful halved = less (hold_store g a n below o' (suc p) (suc x) (suc y) at basis worths worths' each each' w written (ap next_row h.is) fits.0 moves)
  linked (Remove w) written fits h moves useful halved = less (remove_store g a n below o' (suc p) (suc x) (suc y) at basis worths worths' each each' w fits.0 moves)
  linked (Merge w) written fits h moves useful halved = less (merge_store g a n below o' (suc p) (suc x) (suc y) at basis worths worths' each each' w written (ap next_row h.is) fits.0 moves)
  linked (Unterm w) written fits h moves useful halved = less (unterm_store g a n below o' (suc p) (suc x) (suc y) at basis worths worths' each each' w written (ap next_row h.is) fits.0 moves)
