-- What a seat's actor has read stands where it lies.
use Rattle.running_tree.proofs.Words.{◌≡◌, ℕ, List, sym, refl, ap, ◌∙◌, subst, TableId, Limits, Content, Record, Remove, AreThere, knows, Idle, ReadsFirst, Took, Mine, SitsAt}
use Rattle.running_tree.proofs.Words.{seen_of, Seat, IsSeatOf, Tree, IsLawfulRun, HaveLaws, replaced_same}
use Rattle.std.specs.Prelude.{Some, None, unwrap_or}
use Rattle.bw_model.specs.declared.step.Step.TheVariants.{Row}
use Rattle.record_slots.specs.Spells.{HasSpelling}
use Rattle.row_search.specs.Begins.{Begins}
use Rattle.traces.specs.declared.trace.Entry.{Entry}
use Rattle.running_tree.specs.Stands.{Stands, read_by}
use Rattle.running_tree.proofs.Owning.{limits_of, table_of}
use Rattle.running_tree.proofs.Seats.{known_after}

-- a record that an actor has read is below the limit, and may be looked at
pub all_stand : HaveLaws → (limits : Limits) (table seat : TableId) (a : ℕ) (me : Mine) → IsLawfulRun limits (seen_of me) → seat ≡ table
    → SitsAt limits a Idle me → AreThere (Stands limits table seat a me) (knows (seen_of me) a)
all_stand laws limits table seat a me lawful same sits row content seen =
    let apart = laws.apart limits (seen_of me) lawful.state in
    let learnt = apart.seen_learnt a row content seen in
    record { same = same; there = apart.learnt_below a row learnt; sits = sits; read = record { may = (apart.learnt_inside a row learnt, learnt); seen = seen } }

-- an actor has read one record in a row
pub one_read : (limits : Limits) (table seat : TableId) (a : ℕ) (me : Mine) (row : ℕ) (one other : Record) → Stands limits table seat a me row one → Stands limits table seat a me row other
    → one ≡ other
one_read limits table seat a me row one other h g = ap (λ o. unwrap_or o (Remove (record { level = 0; next = 1 }))) (sym h.read.seen ∙ g.read.seen)

-- the same by a seat of the tree
pub all_there : HaveLaws → (own : Limits) (at at' : TableId) (a : ℕ) (seen : List Entry) (tree : Tree) (seat : Seat) (me : Mine)
    → record { table = at; limits = own; actor = a; seen = seen } ≡ seat → IsSeatOf tree seat → at' ≡ at → IsLawfulRun own (seen_of me) → SitsAt own a Idle me
    → AreThere (Stands tree.limits tree.table at' a me) (knows (seen_of me) a)
all_there laws own at at' a seen tree seat me seat_is one same lawful sits =
    let limits_are : own ≡ tree.limits = limits_of own at a seen tree seat seat_is one in
    all_stand laws tree.limits tree.table at' a me (subst (λ (l : Limits). IsLawfulRun l (seen_of me)) limits_are lawful)
    (same ∙ table_of own at a seen tree seat seat_is one) (subst (λ (l : Limits). SitsAt l a Idle me) limits_are sits)

-- a record that was read is the one that the actor knows in the row
module _ (laws : HaveLaws) (limits : Limits) (a row : ℕ) (seen : List Entry) (me : Mine) where
  read_so : (content : Record) → Took IsLawfulRun limits a seen None (Row row) (Content content) None (seen_of me) → read_by me a row ≡ content
  read_so content took =
      ap (λ o. unwrap_or o (Remove (record { level = 0; next = 1 })))
      (ap (λ q. q.read.seen row) (known_after laws limits a seen (Row row) (Content content) None (seen_of me) took) ∙ replaced_same row (Some content) (knows seen a).read.seen)

  module _ (word : ℕ) (told : ReadsFirst IsLawfulRun limits a seen row word (seen_of me)) where
    is_read : told.0 ≡ read_by me a row
    is_read = sym (read_so told.0 told.3)

    pub spelt_there : HasSpelling (read_by me a row)
    spelt_there = subst HasSpelling is_read told.1

    pub first_there : Begins word (read_by me a row)
    first_there = subst (Begins word) is_read told.2

    pub took_there : Took IsLawfulRun limits a seen None (Row row) (Content (read_by me a row)) None (seen_of me)
    took_there = subst (λ content. Took IsLawfulRun limits a seen None (Row row) (Content content) None (seen_of me)) is_read told.3
