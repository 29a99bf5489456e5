-- In a state, the rows that actors have taken are apart from each other and from those that anyone has learnt.
use Rattle.tree_law.proofs.Words.{List, true, inl, inr, ℕ, ◌≡◌, Limits, IsOwn, knows, memory_of, Entry, Linked, Spare, IsState}
use Rattle.tree_law.specs.Own.{AreSeparate}
use Rattle.tree_law.proofs.shape.Own.{own_spare}

module _ (limits : Limits) (entries : List Entry) (state : IsState limits entries) where
  spare : (a row : ℕ) → IsOwn ((knows entries a).own.rows row) → state.owners.row row ≡ Spare a
  spare a row own = own_spare ((memory_of limits entries).rows row) ((knows entries a).own.rows row) (state.is_tree.owns a row) own

  linked : (a row : ℕ) → (knows entries a).read.learnt row ≡ true → state.owners.row row ≡ Linked
  linked a row learnt = (state.is_tree.sound a).learnt_fits row learnt

  pub separate : AreSeparate limits entries
  separate = record {
    one_owner = λ a b row one two. let e = spare a row one in let f = spare b row two in cc;
    unlearnt = λ a b row own learnt. let e = spare a row own in let f = linked b row learnt in absurd (cc);
    own_below = λ a row own. elim (state.named.row_below row) [ inl free ↦ let e = spare a row own in absurd (cc) | inr below ↦ below ];
    learnt_below = λ a row learnt. elim (state.named.row_below row) [ inl free ↦ let e = linked a row learnt in absurd (cc) | inr below ↦ below ];
    written = λ a row content is. (rw is at (state.is_tree.owns a row)).1;
    placed = λ a row learnt. let l = state.is_tree.closed row (linked a row learnt) in (l.content, l.stands);
    stands = λ a row content is. (rw is at ((state.is_tree.sound a).seen_fits row)).1;
    seen_learnt = λ a row content is. (state.timed.holds a).seen_learnt row content is;
    learnt_inside = λ a row learnt. (state.timed.holds a).learnt_inside row learnt;
  }
