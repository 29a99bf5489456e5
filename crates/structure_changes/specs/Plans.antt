-- What is to be linked: which rows and which page it needs, and the exchange that decides.
use Rattle.std.specs.Prelude.{ℕ, Bool, true, false}
use Rattle.deltas.specs.declared.record.Record.{Record}
use Rattle.deltas.specs.declared.record.Record.TheVariants as kind
use Rattle.structure_changes.specs.declared.plan.Plan.{Plan}
use Rattle.structure_changes.specs.declared.plan.Plan.TheVariants.{Install, Split, Root, Unlink}
use Rattle.structure_changes.specs.Splits.{split_to}
use Rattle.structure_changes.specs.Versions.{Version}

-- a record over the newest row of a page that was read
abbrev pub over : Version → Record → Plan
over page content = Install page.pid page.head content

-- whether a plan brings a new page, and how many rows it needs
abbrev pub needs_pid : Plan → Bool
needs_pid (Install pid head content) = false
needs_pid (Split pid plan) = true
needs_pid (Root left root) = true
needs_pid (Unlink pid head unterm removal) = false

abbrev pub rows_needed : Plan → ℕ
rows_needed (Install pid head content) = 1
rows_needed (Split pid plan) = 2
rows_needed (Root left root) = 1
rows_needed (Unlink pid head unterm removal) = 1

-- the base of the new page
abbrev pub new_base : Plan → Record
new_base (Install pid head content) = content
new_base (Split pid plan) = kind.Base plan.upper
new_base (Root left root) = kind.Base root
new_base (Unlink pid head unterm removal) = kind.Unterm unterm

-- the record that is linked over a page's newest row
abbrev pub new_record : Plan → ℕ → Record
new_record (Install pid head content) right = content
new_record (Split pid plan) right = kind.Split (split_to plan right)
new_record (Root left root) right = kind.Base root
new_record (Unlink pid head unterm removal) right = kind.Unterm unterm

-- the exchange that decides: its slot, and the number that was read there
abbrev pub slot_of : Plan → ℕ
slot_of (Install pid head content) = pid
slot_of (Split pid plan) = pid
slot_of (Root left root) = 0
slot_of (Unlink pid head unterm removal) = pid

abbrev pub head_of : Plan → ℕ
head_of (Install pid head content) = head
head_of (Split pid plan) = plan.next
head_of (Root left root) = left
head_of (Unlink pid head unterm removal) = head

-- whether a page is to be cleared once its term is out; which one, and the row of its removal, or 0
abbrev pub clears : Plan → Bool
clears (Install pid head content) = false
clears (Split pid plan) = false
clears (Root left root) = false
clears (Unlink pid head unterm removal) = true

abbrev pub cleared_page : Plan → ℕ
cleared_page (Install pid head content) = 0
cleared_page (Split pid plan) = 0
cleared_page (Root left root) = 0
cleared_page (Unlink pid head unterm removal) = unterm.child

abbrev pub cleared_row : Plan → ℕ
cleared_row (Install pid head content) = 0
cleared_row (Split pid plan) = 0
cleared_row (Root left root) = 0
cleared_row (Unlink pid head unterm removal) = removal
