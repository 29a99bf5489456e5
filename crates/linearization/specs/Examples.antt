-- Small runs step by step, and traces that the definitions refuse.
use Rattle.std.specs.Prelude.{codes, replicate, ◌^◌, ◌-◌, List, [], ◌∷◌, true, false, None, Some}
use Rattle.std.proofs.Common.{lit≤, refl}
use Rattle.tree_limits.specs.Limits.{AreLargeLimits, AreLimits, AreWidths}
use Rattle.tree_limits.specs.declared.limits.Limits.{Limits}
use Rattle.tree_limits.specs.declared.limits.TheConstants.{WIDE_WORDS}
use Rattle.bw_model.specs.declared.command.Command.TheVariants.{Get, Insert}
use Rattle.bw_model.specs.declared.command.Reply.TheVariants as reply
use Rattle.bw_model.specs.declared.step.Step.TheVariants.{Slot, Row, Epoch, Announce, RowBits, TakePid, TakeRow, Place, Exchange, Enter, Leave, Retire, ReuseRows}
use Rattle.bw_model.specs.declared.step.Answer.TheVariants.{Number, Content, Whether, Done}
use Rattle.base_page.specs.Pages.{Page, empty_leaf}
use Rattle.base_page.specs.declared.item.Content.TheVariants.{Child}
use Rattle.deltas.specs.declared.record.Record.{Record}
use Rattle.deltas.specs.declared.record.Record.TheVariants as delta
use Rattle.traces.specs.chain.SideChain.{LivePage}
use Rattle.traces.specs.declared.trace.Entry.{Entry}
use Rattle.traces.specs.declared.trace.Entry.TheVariants.{Begin, Step}

pub are_small : AreLimits 2 64 64 1
are_small = record {
  some_actor = lit≤ tt;
  few_actors = lit≤ tt;
  some_pids = lit≤ tt;
  few_pids = lit≤ tt;
  whole_pids = refl;
  some_rows = lit≤ tt;
  few_rows = lit≤ tt;
  whole_rows = refl;
  some_epoch = lit≤ tt;
  small_epoch = lit≤ tt;
}

pub small_allowed : AreLargeLimits 2 64 64 1
small_allowed = record {
  some_actor = are_small.some_actor;
  few_actors = lit≤ tt;
  some_pids = are_small.some_pids;
  few_pids = lit≤ tt;
  whole_pids = are_small.whole_pids;
  some_rows = are_small.some_rows;
  few_rows = lit≤ tt;
  whole_rows = are_small.whole_rows;
  some_epoch = are_small.some_epoch;
  small_epoch = are_small.small_epoch;
}

pub small_widths : AreWidths 64 0 0 WIDE_WORDS WIDE_WORDS
small_widths = record {
  whole_narrow = refl;
  whole_pages = refl;
  ordered = lit≤ tt;
  some_wide = lit≤ tt;
  narrow_room = lit≤ tt;
  page_room = lit≤ tt;
  widening = lit≤ tt;
  fitting = lit≤ tt;
}

abbrev pub small : Limits
small = record {
  actors = 2;
  pids = 64;
  rows = 64;
  epoch = 1;
  is_large = false;
  narrow_rows = 0;
  wide_from = 0;
  narrow_words = WIDE_WORDS;
  page_words = WIDE_WORDS;
  allowed = small_allowed;
  small = λ _. are_small;
  widths = small_widths;
  alike = λ _. record { narrow = refl; pages = refl };
}

abbrev pub opening_leaf : Record
opening_leaf = delta.Base empty_leaf

-- the put of "a", over row 1
abbrev pub put_a : Record
put_a = delta.Put (record { next = 1; key = codes "a"; value = codes "1" })

-- An actor looks a key up in the opening tree.
abbrev pub lookup : List Entry
lookup = Begin 0 (Get (codes "a"))
    ∷ Step 0 Epoch (Number 1) None
    ∷ Step 0 (Enter 1) Done None
    ∷ Step 0 (Slot 0) (Number 1) None
    ∷ Step 0 (Slot 1) (Number 1) None
    ∷ Step 0 (Row 1) (Content opening_leaf) None
    ∷ Step 0 Leave Done (Some reply.None)
    ∷ []

-- An actor inserts a key into the opening tree, and looks it up.
abbrev pub insert_and_lookup : List Entry
insert_and_lookup = Begin 0 (Insert (codes "a") (codes "1"))
    ∷ Step 0 Epoch (Number 1) None
    ∷ Step 0 (Enter 1) Done None
    ∷ Step 0 (Slot 0) (Number 1) None
    ∷ Step 0 (Slot 1) (Number 1) None
    ∷ Step 0 (Row 1) (Content opening_leaf) None
    ∷ Step 0 (RowBits 0) (Number (2 ^ 64 - 4)) None
    ∷ Step 0 (TakeRow 2) (Whether true) None
    ∷ Step 0 (Place 2 put_a) Done None
    ∷ Step 0 (Exchange 1 1 2) (Whether true) None
    ∷ Step 0 Leave Done (Some reply.Inserted)
    ∷ Begin 0 (Get (codes "a"))
    ∷ Step 0 Epoch (Number 1) None
    ∷ Step 0 (Enter 1) Done None
    ∷ Step 0 (Slot 0) (Number 1) None
    ∷ Step 0 (Slot 1) (Number 2) None
    ∷ Step 0 (Row 2) (Content put_a) None
    ∷ Step 0 (Row 1) (Content opening_leaf) None
    ∷ Step 0 Leave Done (Some (reply.Value (codes "1")))
    ∷ []

-- The records by which page 2 is split off at "m", indexed by a new root, held, removed, merged and taken out of the index.
abbrev pub new_leaf : Record
new_leaf = delta.Base (record { level = 0; low = codes "m"; high = None; right = None; removed = false; items = [] })

abbrev pub split_away : Record
split_away = delta.Split (record { level = 0; next = 1; separator = codes "m"; page = 2 })

abbrev pub root_page : Page
root_page = record { level = 1; low = []; high = None; right = None; removed = false; items = record { key = []; content = Child 1 false } ∷ record { key = codes "m"; content = Child 2 false } ∷ [] }

abbrev pub root : Record
root = delta.Base root_page

abbrev pub hold_leaf : Record
hold_leaf = delta.Hold (record { level = 1; next = 4; separator = codes "m"; child = 2 })

abbrev pub remove_leaf : Record
remove_leaf = delta.Remove (record { level = 0; next = 2 })

abbrev pub merge_leaf : Record
merge_leaf = delta.Merge (record { level = 0; next = 3; low = codes "m"; high = None; right = None; items = [] })

abbrev pub unterm_leaf : Record
unterm_leaf = delta.Unterm (record { level = 1; next = 5; separator = codes "m"; child = 2 })

-- The life of page 2, up to the emptying of its slot.
abbrev pub page_life : List Entry
page_life = Begin 0 (Insert (codes "a") (codes "1"))
    ∷ Step 0 (TakePid 2) (Whether true) None
    ∷ Step 0 (TakePid 3) (Whether true) None
    ∷ Step 0 (TakeRow 2) (Whether true) None
    ∷ Step 0 (TakeRow 3) (Whether true) None
    ∷ Step 0 (TakeRow 4) (Whether true) None
    ∷ Step 0 (TakeRow 5) (Whether true) None
    ∷ Step 0 (TakeRow 6) (Whether true) None
    ∷ Step 0 (TakeRow 7) (Whether true) None
    ∷ Step 0 (TakeRow 8) (Whether true) None
    ∷ Step 0 (Place 2 new_leaf) Done None
    ∷ Step 0 (Exchange 2 0 2) (Whether true) None
    ∷ Step 0 (Place 3 split_away) Done None
    ∷ Step 0 (Exchange 1 1 3) (Whether true) None
    ∷ Step 0 (Place 4 root) Done None
    ∷ Step 0 (Exchange 3 0 4) (Whether true) None
    ∷ Step 0 (Exchange 0 1 3) (Whether true) None
    ∷ Step 0 (Place 5 hold_leaf) Done None
    ∷ Step 0 (Exchange 3 4 5) (Whether true) None
    ∷ Step 0 (Place 6 remove_leaf) Done None
    ∷ Step 0 (Exchange 2 2 6) (Whether true) None
    ∷ Step 0 (Place 7 merge_leaf) Done None
    ∷ Step 0 (Exchange 1 3 7) (Whether true) None
    ∷ Step 0 (Place 8 unterm_leaf) Done None
    ∷ Step 0 (Exchange 3 5 8) (Whether true) None
    ∷ Step 0 (Exchange 2 6 0) (Whether true) None
    ∷ []

-- the index page over the leaves, once page 2 is held
abbrev pub index_above : LivePage
index_above = record { pid = 3; chain = hold_leaf ∷ root ∷ [] }

-- A page is put anew into row 2, and its old row 1 is freed once the other actor was seen outside.
abbrev pub row_reuse : List Entry
row_reuse = Begin 0 (Insert (codes "a") (codes "1"))
    ∷ Step 0 Epoch (Number 1) None
    ∷ Step 0 (Enter 1) Done None
    ∷ Step 0 (Slot 1) (Number 1) None
    ∷ Step 0 (Row 1) (Content opening_leaf) None
    ∷ Step 0 (TakeRow 2) (Whether true) None
    ∷ Step 0 (Place 2 opening_leaf) Done None
    ∷ Step 0 (Exchange 1 1 2) (Whether true) None
    ∷ Step 0 Leave Done None
    ∷ Step 0 Epoch (Number 1) None
    ∷ Step 0 (Retire 1) (Whether true) None
    ∷ Step 0 (Announce 1) (Number 0) None
    ∷ Step 0 (ReuseRows 0 2) Done None
    ∷ []

-- That row is freed without the look at the other actor: refused.
abbrev pub hurried_reuse : List Entry
hurried_reuse = Begin 0 (Insert (codes "a") (codes "1"))
    ∷ Step 0 Epoch (Number 1) None
    ∷ Step 0 (Enter 1) Done None
    ∷ Step 0 (Slot 1) (Number 1) None
    ∷ Step 0 (Row 1) (Content opening_leaf) None
    ∷ Step 0 (TakeRow 2) (Whether true) None
    ∷ Step 0 (Place 2 opening_leaf) Done None
    ∷ Step 0 (Exchange 1 1 2) (Whether true) None
    ∷ Step 0 Leave Done None
    ∷ Step 0 Epoch (Number 1) None
    ∷ Step 0 (Retire 1) (Whether true) None
    ∷ Step 0 (ReuseRows 0 2) Done None
    ∷ []

-- A record is read though its row's name was not learnt: refused.
abbrev pub unnamed_read : List Entry
unnamed_read = Begin 0 (Insert (codes "a") (codes "1"))
    ∷ Step 0 (Enter 1) Done None
    ∷ Step 0 (Slot 0) (Number 1) None
    ∷ Step 0 (Row 1) (Content opening_leaf) None
    ∷ []

-- One operation links two puts: refused.
abbrev pub two_puts : List Entry
two_puts = Begin 0 (Insert (codes "a") (codes "1"))
    ∷ Step 0 (TakeRow 2) (Whether true) None
    ∷ Step 0 (TakeRow 3) (Whether true) None
    ∷ Step 0 (Place 2 put_a) Done None
    ∷ Step 0 (Exchange 1 1 2) (Whether true) None
    ∷ Step 0 (Place 3 (delta.Put (record { next = 2; key = codes "a"; value = codes "1" }))) Done None
    ∷ Step 0 (Exchange 1 2 3) (Whether true) None
    ∷ []

-- A base is put over a base alone: refused.
abbrev pub needless_base : List Entry
needless_base = Begin 0 (Insert (codes "a") (codes "1"))
    ∷ Step 0 (TakeRow 2) (Whether true) None
    ∷ Step 0 (Place 2 opening_leaf) Done None
    ∷ Step 0 (Exchange 1 1 2) (Whether true) None
    ∷ []

-- One operation puts a base over a base nine times: refused.
abbrev pub nine_bases : List Entry
nine_bases = Begin 0 (Insert (codes "a") (codes "1"))
    ∷ Step 0 (Place 2 opening_leaf) Done None
    ∷ Step 0 (Exchange 1 1 2) (Whether true) None
    ∷ Step 0 (Exchange 1 2 1) (Whether true) None
    ∷ Step 0 (Exchange 1 1 2) (Whether true) None
    ∷ Step 0 (Exchange 1 2 1) (Whether true) None
    ∷ Step 0 (Exchange 1 1 2) (Whether true) None
    ∷ Step 0 (Exchange 1 2 1) (Whether true) None
    ∷ Step 0 (Exchange 1 1 2) (Whether true) None
    ∷ Step 0 (Exchange 1 2 1) (Whether true) None
    ∷ Step 0 (Exchange 1 1 2) (Whether true) None
    ∷ []

-- An insert replies that it inserted, and has exchanged nothing: refused, whatever is marked.
abbrev pub claimed_insert : List Entry
claimed_insert = Begin 0 (Insert (codes "a") (codes "1"))
    ∷ Step 0 Epoch (Number 1) None
    ∷ Step 0 (Enter 1) Done None
    ∷ Step 0 (Slot 0) (Number 1) None
    ∷ Step 0 (Slot 1) (Number 1) None
    ∷ Step 0 (Row 1) (Content opening_leaf) None
    ∷ Step 0 Leave Done (Some reply.Inserted)
    ∷ []

-- A lookup takes a row: refused.
abbrev pub taking_reader : List Entry
taking_reader = Begin 0 (Get (codes "a")) ∷ Step 0 (TakeRow 2) (Whether true) None ∷ []

-- An operation reads a row in the slot of a page that nobody has taken: refused.
abbrev pub unmet_read : List Entry
unmet_read = Begin 0 (Insert (codes "a") (codes "1")) ∷ Step 0 (Slot 5) (Number 2) None ∷ []

-- An operation fills the slot of a page that it has not taken: refused.
abbrev pub foreign_fill : List Entry
foreign_fill = Begin 0 (Insert (codes "a") (codes "1"))
    ∷ Step 0 (TakeRow 2) (Whether true) None
    ∷ Step 0 (Place 2 opening_leaf) Done None
    ∷ Step 0 (Exchange 5 0 2) (Whether true) None
    ∷ []

-- An operation takes 153 rows, and changes nothing: refused.
abbrev pub many_takes : List Entry
many_takes = Begin 0 (Insert (codes "a") (codes "1")) ∷ replicate 153 (Step 0 (TakeRow 2) (Whether true) None)
