-- What an exchange that won has linked, by what its actor knew: an update, once in an operation; a base over a chain that was read.
use Rattle.tree_law.proofs.Words.{◌⊎◌, [], ap, refl, Option, suc, None, List, true, inl, ◌≢◌, length, inr, ◌∷◌, sym, ℕ, ◌≡◌, zero, ◌∙◌, ◌<◌, arith, Some, same_Some, option_map, IsSome}
use Rattle.tree_law.proofs.Words.{Limits, Answer, Whether, Link, StepOf, Exchange, Page, record_link, Memory, Record, Remove, Base, IsChainFrom-unique}
use Rattle.tree_law.proofs.Words.{IsChainOf, IsChainFrom, is_removed, MayExchange, IsFitted, knows, Knowledge, Ready, learn, Gone, Written, after_exchange, forgotten, memory_of, IsUseful, Entry}
use Rattle.tree_law.proofs.Words.{link_without, link_of, IsUpdateLink, row_in, IsState}
use Rattle.bw_model.specs.declared.step.Link.TheVariants as link
use Rattle.tree_law.proofs.trace.Phasing.{link_empty, link_front, link_ready}
use Rattle.tree_law.proofs.links.Relinking.{found, placed_row}
use Rattle.tree_law.proofs.links.UpdateLinks.{IsLinked, learns_update}
use Rattle.tree_law.proofs.links.Learning.{learning, wins, leaves}
use Rattle.tree_law.proofs.links.Exchanged.{exchanging, updates}

-- no record's kind is that of a slot that is filled or emptied
kind_of_record : (content : Record) → (record_link content ≢ link.Ready) × (record_link content ≢ link.Undo)
kind_of_record (Base page) = (λ e. cc, λ e. cc)
kind_of_record content = (λ e. cc, λ e. cc)

not_base : (w : Record) → link_without w ≢ link.Base
not_base (Base page) e = cc
not_base w e = cc

-- the newest record of a removed page removes it
newest_removes : (w : Record) (under : List Record) → IsFitted (w ∷ under) → is_removed (w ∷ under) ≡ true → link_without w ≡ link.Clear
newest_removes (Remove remove) under h gone = refl
newest_removes (Base page) under h gone = absurd (cc)
newest_removes w [] h gone = absurd (cc h.1)
newest_removes w (older ∷ under) h gone = absurd (cc (h.0.fits.alive, h.0.makes.removed))

removed_newest : (rows : ℕ → Option Record) (row : ℕ) (chain : List Record) → IsChainFrom rows row chain → IsFitted chain → is_removed chain ≡ true
    → (w : Record) × (rows row ≡ Some w) × (link_without w ≡ link.Clear)
removed_newest rows row [] h fitted gone = absurd h
removed_newest rows row (w ∷ under) h fitted gone = (w, h.0, newest_removes w under fitted gone)

base_is : (w : Record) → record_link w ≡ link.Base → (page : Page) × (w ≡ Base page)
base_is (Base page) e = (page, refl)
base_is w e = absurd (cc)

-- What its actor has linked it goes on knowing.
exchanged_kept : (p x y : ℕ) (k : Knowledge) → IsSome k.asked.linked → IsSome (after_exchange p x y k).asked.linked
exchanged_kept p x y k h = (elim (exchanging p x y k) as (λ p x y k' v. IsSome k.asked.linked → IsSome k'.asked.linked) [ updates p x y w o e u ↦ λ h. refl | v ↦ λ h. h ]) h

forgotten_some : (l : Option (Option ℕ)) → IsSome l → IsSome (forgotten l)
forgotten_some None e = absurd (cc)
forgotten_some (Some over) e = refl

pub linked_kept : (k : Knowledge) (s : StepOf Record) (x : Answer Record) → IsSome k.asked.linked → IsSome (learn k s x).asked.linked
linked_kept k s x h = (elim (learning k s x) as (λ s x k' v. IsSome k.asked.linked → IsSome k'.asked.linked) [
  | leaves y ↦ forgotten_some k.asked.linked
  | wins slot old new ↦ exchanged_kept slot old new k
  | v ↦ λ h. h
]) h

module _ (limits : Limits) (entries : List Entry) (a : ℕ) where
  abbrev k : Knowledge
  k = knows entries a

  abbrev m : Memory
  m = memory_of limits entries

  -- The exchange links this; an update, where none was linked before, and the actor knows of it then; over a number that the
  -- slot of no own page has, it is no Ready or Undo; and a base goes over deltas where the exchange is of use.
  pub record IsChange (slot old new : ℕ) : Type 0 where
    pub kind : Link
    pub is : link_of m slot old new ≡ Some kind
    pub once : IsUpdateLink kind → k.asked.linked ≡ None
    pub known : IsUpdateLink kind → IsSome (learn k (Exchange slot old new) (Whether true)).asked.linked
    pub counts : 0 < old → ((base : ℕ) → k.own.pages slot ≡ Ready base → ⊥) → (kind ≢ link.Ready) × (kind ≢ link.Undo)
    pub useful : IsUseful k (Exchange slot old new) → kind ≡ link.Base → (chain : List Record) → IsChainOf m slot chain → 1 < length chain

  module _ (state : IsState limits entries) where
    -- the slot of an own page is emptied, or of one whose term the actor took out
    emptying : (p x : ℕ) → m.slots (suc p) ≡ suc x → (k.own.pages (suc p) ≡ Ready (suc x)) ⊎ (k.own.pages (suc p) ≡ Gone)
        → (w : Record) × (m.rows (suc x) ≡ Some w) × (((base : ℕ) → k.own.pages (suc p) ≡ Ready base → ⊥) → link_without w ≡ link.Clear)
    emptying p x at (inl ready) =
        let own = rw ready at (state.is_tree.owns_pages a (suc p)) in
        elim (state.named.in_slots (suc p) (suc x) (ap row_in at)) [
          | inl tree ↦ absurd (rw own.0 at tree)
          | inr held ↦ (Base held.base, held.stands, λ never. absurd (never (suc x) ready))
        ]
    emptying p x at (inr gone) =
        let own = rw gone at (state.is_tree.owns_pages a (suc p)) in
        elim (state.is_tree.tree.off (suc p) own.0 own.1 (inr (a, own.2))) [
          | inl out ↦ absurd (cc out.0)
          | inr off ↦
              let newest = removed_newest m.rows off.row off.chain off.is_chain (state.fitted off.row off.linked off.chain off.is_chain).fitted off.flagged in
              (newest.0, rw (← (same_Some off.row (suc x) (sym off.head ∙ ap row_in at))) newest.1, λ never. newest.2)
        ]

    -- an update is linked where none was linked before, and is known then
    update_of : (slot old new : ℕ) (kind : Link) → MayExchange a k slot old new → m.slots slot ≡ old → link_of m slot old new ≡ Some kind → IsUpdateLink kind
        → (k.asked.linked ≡ None) × IsSome (learn k (Exchange slot old new) (Whether true)).asked.linked
    unfolding IsLinked
    update_of slot old new kind may at is update = learns_update m state.is_tree a slot old new kind may at is update

    -- by what kind it is
    change_as : (slot old new : ℕ) (kind : Link) → MayExchange a k slot old new → m.slots slot ≡ old → link_of m slot old new ≡ Some kind
        → (0 < old → ((base : ℕ) → k.own.pages slot ≡ Ready base → ⊥) → (kind ≢ link.Ready) × (kind ≢ link.Undo))
        → (IsUseful k (Exchange slot old new) → kind ≡ link.Base → (chain : List Record) → IsChainOf m slot chain → 1 < length chain)
        → IsChange slot old new
    change_as slot old new kind may at is counts useful = record {
      kind = kind;
      is = is;
      once = λ update. (update_of slot old new kind may at is update).0;
      known = λ update. (update_of slot old new kind may at is update).1;
      counts = counts;
      useful = useful;
    }

    pub change : (slot old new : ℕ) → MayExchange a k slot old new → m.slots slot ≡ old → IsChange slot old new
    change zero x y may at = change_as zero x y link.Root may at refl (λ some never. (λ e. cc, λ e. cc)) (λ is_tree e. absurd (cc))
    change (suc p) zero zero may at = absurd may
    change (suc p) zero (suc y) may at = change_as (suc p) zero (suc y) link.Ready may at (link_ready m p (suc y)) (λ some never. absurd (omega arith)) (λ is_tree e. absurd (cc))
    change (suc p) (suc x) zero may at =
        let h = emptying p x at may in
        change_as (suc p) (suc x) zero (link_without h.0) may at (link_empty m p x ∙ ap (option_map link_without) h.1)
        (λ some never. let clear = h.2 never in (λ e. absurd (cc), λ e. absurd (cc)))
        (λ is_tree e. absurd (not_base h.0 e))
    change (suc p) (suc x) (suc y) may at =
        change_as (suc p) (suc x) (suc y) (record_link may.content) may at (link_front m p x y ∙ ap (option_map record_link) (placed_row state.is_tree a (suc y) may.content may.placed))
        (λ some never. kind_of_record may.content)
        (λ is_tree e chain is_chain.
        let base = base_is may.content e in
        let stands : IsChainFrom m.rows (suc x) may.basis.chain = (found state.is_tree a (suc p) (suc x) may.basis).stands in
        let same : may.basis.chain ≡ chain = IsChainFrom-unique m.rows (suc x) may.basis.chain chain stands (rw at at is_chain.records) in
        rw same at (is_tree may.basis base.0 (may.placed ∙ ap Written base.1)))
