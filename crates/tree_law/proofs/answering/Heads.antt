-- The row in a page's slot has a record.
use Rattle.tree_law.proofs.Words.{refl, suc, List, inl, inr, sym, ℕ, ◌≡◌, zero, ◌∙◌, ◌<◌, arith, Some, same_Some, Limits, Memory, Record, Base, memory_of, Entry, Linked, slot_in, row_in, IsState}
use Rattle.tree_law.proofs.links.Keeping.{slot_of}
use Rattle.tree_law.proofs.trace.Names.{placed_at}

row_held : (row : ℕ) → 0 < row → row_in row ≡ Some row
row_held zero above = absurd (omega arith)
row_held (suc row) above = refl

slot_held : (slots : ℕ → ℕ) (page : ℕ) → 0 < page → 0 < slots page → slot_in slots page ≡ Some (slots page)
slot_held slots zero above some = absurd (omega arith)
slot_held slots (suc page) above some = row_held (slots (suc page)) some

module _ (limits : Limits) (entries : List Entry) (state : IsState limits entries) (page : ℕ) (above : 0 < page) where
  abbrev m : Memory
  m = memory_of limits entries

  linked_stands : state.owners.row (m.slots page) ≡ Linked → (content : Record) × (m.rows (m.slots page) ≡ Some content)
  linked_stands linked = let l = state.is_tree.closed (m.slots page) linked in (l.content, l.stands)

  pub head_stands : 0 < m.slots page → (content : Record) × (m.rows (m.slots page) ≡ Some content)
  head_stands some =
      let held : slot_in m.slots page ≡ Some (m.slots page) = slot_held m.slots page above some in
      elim (state.named.in_slots page (m.slots page) held) [
        | inl in_tree ↦ let here = placed_at (state.owners.page page) in_tree in elim (slot_of state.is_tree 0 page here.0 here.1 here.2) [
          | inl none ↦ absurd (cc none.0)
          | inr at ↦ linked_stands (let same : at.0 ≡ m.slots page = same_Some at.0 (m.slots page) (sym at.1 ∙ held) in rw same at at.2.linked)
        ]
        | inr ready ↦ (Base ready.base, ready.stands)
      ]
