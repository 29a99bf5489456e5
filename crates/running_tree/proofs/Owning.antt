-- A seat of the tree is one of its table.
use Rattle.running_tree.proofs.Words.{◌≡◌, ℕ, List, sym, ap, ◌∙◌, subst, TableId, Limits, IsOf, IsSame, Seat, IsSeatOf, IsTreeTable, Tree}
use Rattle.traces.specs.declared.trace.Entry.{Entry}

pub is_of : (limits key own : Limits) (table at : TableId) (number : ℕ) (seen : List Entry) (tree : Tree) (seat : Seat) → IsTreeTable limits key table
    → record { limits = limits; table = table } ≡ tree
    → record { table = at; limits = own; actor = number; seen = seen } ≡ seat → IsSeatOf tree seat → IsOf limits key table at
is_of limits key own table at number seen tree seat whole tree_is seat_is one = record {
  same = ap (λ (s : Seat). s.table) seat_is ∙ one.table ∙ sym (ap (λ (t : Tree). t.table) tree_is);
  wide = whole.wide;
  own = whole.own;
}

-- the table and the limits of a seat are those of the tree
pub table_of : (own : Limits) (at : TableId) (number : ℕ) (seen : List Entry) (tree : Tree) (seat : Seat)
    → record { table = at; limits = own; actor = number; seen = seen } ≡ seat → IsSeatOf tree seat → at ≡ tree.table
table_of own at number seen tree seat seat_is one = ap (λ (s : Seat). s.table) seat_is ∙ one.table

pub limits_of : (own : Limits) (at : TableId) (number : ℕ) (seen : List Entry) (tree : Tree) (seat : Seat)
    → record { table = at; limits = own; actor = number; seen = seen } ≡ seat → IsSeatOf tree seat → own ≡ tree.limits
limits_of own at number seen tree seat seat_is one = ap (λ (s : Seat). s.limits) seat_is ∙ one.limits

-- the same of the seat's own limits
pub is_own : (limits key own : Limits) (table at : TableId) (number : ℕ) (seen : List Entry) (tree : Tree) (seat : Seat) → IsTreeTable limits key table
    → record { limits = limits; table = table } ≡ tree
    → record { table = at; limits = own; actor = number; seen = seen } ≡ seat → IsSeatOf tree seat → IsOf own key table at
is_own limits key own table at number seen tree seat whole tree_is seat_is one =
    let same : limits ≡ own = ap (λ (t : Tree). t.limits) tree_is ∙ sym (limits_of own at number seen tree seat seat_is one) in
    subst (λ (l : Limits). IsOf l key table at) same (is_of limits key own table at number seen tree seat whole tree_is seat_is one)

-- so it is of the tree, whatever it has seen since
pub one_same : (tree : Tree) (old new : Seat) → IsSame old new → IsSeatOf tree old → IsSeatOf tree new
one_same tree old new same one = record { table = same.table ∙ one.table; limits = same.limits ∙ one.limits }

pub still_of : (limits key : Limits) (table at now : TableId) → IsOf limits key table at → now ≡ at → IsOf limits key table now
still_of limits key table at now of same = record { same = same ∙ of.same; wide = of.wide; own = of.own }
