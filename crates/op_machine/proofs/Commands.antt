-- What commands write.
use Rattle.op_machine.proofs.Words.{◌≡◌, ◌<◌, ◌≤◌, ℕ, Bool, true, false, List, length, Option, Some, None, is_some, refl, ap, ◌∙◌, arith, IsTrue, if◌then◌else◌, bytes_eq, is_in_range}
use Rattle.op_machine.proofs.Words.{Record, same_Some, Command, Add, Back, Get, Insert, Upsert, Delete, DeleteIf, Swap, PageFrom, Tidy, command_key, update_of}
use Rattle.op_machine.proofs.Words.{is_writer, next_row, covers}
use Rattle.op_machine.proofs.Words.{is_removed, level_in, Knowledge, KeepsSparePage, linked_by, IsUsefulOver, update_over}
use Rattle.bw_model.specs.Log.{Update, set, unset}
use Rattle.bw_model.specs.Numbers.{number_bytes, is_number, added, sum_bytes}
use Rattle.base_page.specs.declared.item.Content.{Content}
use Rattle.base_page.specs.Pages.{Page, content_at, value_in}
use Rattle.deltas.specs.Fits.{FitsDelete, FitsPut}
use Rattle.deltas.specs.Spellable.{IsRow, IsSpellable}
use Rattle.deltas.specs.declared.record.Delete.{Delete as DeleteOf}
use Rattle.deltas.specs.declared.record.Record.TheVariants as kind
use Rattle.deltas.specs.declared.record.Put.{Put}
use Rattle.traces.specs.discipline.Discipline.{FitsOn, update_record, value_of}
use Rattle.traces.specs.chain.Fitted.{FitsOver, Makes}

-- an update that a test decides, which doesn't know whose it is
chosen_is : (b : Bool) (update u : Update) → (if b then Some update else None) ≡ Some u → update ≡ u
chosen_is true update u h = same_Some update u h
chosen_is false update u h = cc

chosen_due : (b : Bool) (other update : Update) → is_some (if b then Some other else None) ≡ true → (if b then Some update else None) ≡ Some update
chosen_due true other update h = refl
chosen_due false other update h = cc

none_chosen : (b : Bool) (other update : Update) → is_some (if b then Some other else None) ≡ false → (if b then Some update else None) ≡ None
none_chosen true other update h = cc
none_chosen false other update h = refl

-- the record that a command places makes its update
pub change_is : (actor : ℕ) (c : Command) (old : Option (List ℕ)) (u : Update) (x : ℕ) → update_of actor c old ≡ Some u → update_over c old x ≡ update_record u x
change_is actor (Insert key value) None u x h = ap (λ (w : Update). update_record w x) (same_Some _ _ h)
change_is actor (Upsert key value) old u x h = ap (λ (w : Update). update_record w x) (same_Some _ _ h)
change_is actor (Delete key) (Some before) u x h = ap (λ (w : Update). update_record w x) (same_Some _ _ h)
change_is actor (DeleteIf key expected) (Some before) u x h = ap (λ (w : Update). update_record w x) (chosen_is (bytes_eq before expected) (unset actor key) u h)
change_is actor (Swap key expected value) (Some before) u x h = ap (λ (w : Update). update_record w x) (chosen_is (bytes_eq before expected) (set actor key value) u h)
change_is actor (Add key number) None u x h = ap (λ (w : Update). update_record w x) (same_Some _ _ h)
change_is actor (Add key number) (Some before) u x h = ap (λ (w : Update). update_record w x) (chosen_is (is_number before) (set actor key (added before number)) u h)
change_is actor c old u x h = cc

-- which update is due does not depend on whose it is
pub update_due : (actor other : ℕ) (c : Command) (old : Option (List ℕ)) → is_some (update_of other c old) ≡ true → (u : Update) × (update_of actor c old ≡ Some u)
update_due actor other (Insert key value) None h = (set actor key value, refl)
update_due actor other (Upsert key value) old h = (set actor key value, refl)
update_due actor other (Delete key) (Some before) h = (unset actor key, refl)
update_due actor other (DeleteIf key expected) (Some before) h = (unset actor key, chosen_due (bytes_eq before expected) (unset other key) (unset actor key) h)
update_due actor other (Swap key expected value) (Some before) h = (set actor key value, chosen_due (bytes_eq before expected) (set other key value) (set actor key value) h)
update_due actor other (Add key number) None h = (set actor key (number_bytes number), refl)
update_due actor other (Add key number) (Some before) h =
    (set actor key (added before number), chosen_due (is_number before) (set other key (added before number)) (set actor key (added before number)) h)
update_due actor other c old h = cc

pub none_due : (actor other : ℕ) (c : Command) (old : Option (List ℕ)) → is_some (update_of other c old) ≡ false → update_of actor c old ≡ None
none_due actor other (Insert key value) None h = cc
none_due actor other (Upsert key value) old h = cc
none_due actor other (Delete key) (Some before) h = cc
none_due actor other (DeleteIf key expected) (Some before) h = none_chosen (bytes_eq before expected) (unset other key) (unset actor key) h
none_due actor other (Swap key expected value) (Some before) h = none_chosen (bytes_eq before expected) (set other key value) (set actor key value) h
none_due actor other (Add key number) None h = cc
none_due actor other (Add key number) (Some before) h = none_chosen (is_number before) (set other key (added before number)) (set actor key (added before number)) h
none_due actor other c old h = refl

-- a command that is no writer changes nothing
pub reads : (actor : ℕ) (c : Command) (old : Option (List ℕ)) → is_writer c ≡ false → is_some (update_of actor c old) ≡ false
reads actor (Get key) old h = refl
reads actor (PageFrom key) old h = refl
reads actor (Back key) old h = refl
reads actor c old h = cc

-- the value of a content, by either name
pub value_same : (o : Option Content) → value_in o ≡ value_of o
value_same None = refl
value_same o = refl

-- what a command that changes the map, where its key has the value or none, places over a row

abbrev pub Changes : Command → Option (List ℕ) → Type 0
Changes c old = is_some (update_of 0 c old) ≡ true

-- it comes over that row, and can be spelled there
pub over_next : (c : Command) (old : Option (List ℕ)) (x : ℕ) → next_row (update_over c old x) ≡ Some x
over_next (Get key) old x = refl
over_next c old x = refl

pub over_spells : (c : Command) (old : Option (List ℕ)) (x : ℕ) → IsRow x → IsSpellable (update_over c old x)
over_spells (Get key) old x row = (omega arith, row)
over_spells (PageFrom key) old x row = (omega arith, row)
over_spells (Back key) old x row = (omega arith, row)
over_spells (Tidy key) old x row = (omega arith, row)
over_spells c old x row = row

pub over_kept : (c : Command) (old : Option (List ℕ)) (x : ℕ) (pid : Option ℕ) → KeepsSparePage (update_over c old x) pid
over_kept (Get key) old x pid = tt
over_kept c old x pid = tt

pub over_useful : (k : Knowledge) (c : Command) (old : Option (List ℕ)) (x : ℕ) → IsUsefulOver k x (update_over c old x)
over_useful k (Get key) old x = tt
over_useful k c old x = tt

pub over_links : (c : Command) (old : Option (List ℕ)) (x : ℕ) → Changes c old → (before : Option (Option ℕ)) → linked_by (update_over c old x) x before ≡ Some (Some x)
over_links (Get key) old x h before = cc
over_links (PageFrom key) old x h before = cc
over_links (Back key) old x h before = cc
over_links (Tidy key) old x h before = cc
over_links c old x h before = refl

-- it fits a leaf with few deltas, and with few items, if it adds one
module _ (chain : List Record) (page : Page) (makes : Makes chain page) (alive : is_removed chain ≡ false) (leaf : level_in chain ≡ 0) (short : length chain ≤ 8)
    (puts : (put : Put) → IsRow put.next → FitsPut page put → FitsOver chain (kind.Put put))
    (deletes : (delete : DeleteOf) → IsRow delete.next → FitsDelete page delete → FitsOver chain (kind.Delete delete)) where
  covered : (key : List ℕ) → IsTrue (covers chain key) → IsTrue (is_in_range page.low page.high key)
  covered key within = rw (makes.low, makes.high) within

  put_fits : (x : ℕ) (key value : List ℕ) → IsRow x → IsTrue (covers chain key) → (content_at page.items key ≡ None → length page.items < 16)
      → FitsOn chain (kind.Put (record { next = x; key = key; value = value }))
  put_fits x key value row within room = (
    puts (record { next = x; key = key; value = value }) row
        (record { alive = makes.removed ∙ alive; leaf = makes.level ∙ leaf; covered = covered key within; room = λ e. let few = room e in omega (arith, few) }),
    omega
        (arith, short),
  )

  delete_fits : (x : ℕ) (key : List ℕ) → IsRow x → IsTrue (covers chain key) → FitsOn chain (kind.Delete (record { next = x; key = key }))
  delete_fits x key row within =
      (deletes (record { next = x; key = key }) row (record { alive = makes.removed ∙ alive; leaf = makes.level ∙ leaf; covered = covered key within }), omega (arith, short))

  pub over_fits : (c : Command) (old : Option (List ℕ)) (x : ℕ) → Changes c old → IsRow x → IsTrue (covers chain (command_key c))
      → (content_at page.items (command_key c) ≡ None → length page.items < 16) → FitsOn chain (update_over c old x)
  over_fits (Insert key value) old x h row within room = put_fits x key value row within room
  over_fits (Upsert key value) old x h row within room = put_fits x key value row within room
  over_fits (Swap key expected value) old x h row within room = put_fits x key value row within room
  over_fits (Add key number) old x h row within room = put_fits x key (sum_bytes old number) row within room
  over_fits (Delete key) old x h row within room = delete_fits x key row within
  over_fits (DeleteIf key expected) old x h row within room = delete_fits x key row within
  over_fits c old x h row within room = cc
