-- What the update of a command makes of the log's value at a key.
use Rattle.map_laws.proofs.Words.{Bool, Command, Get, List, None, Option, Some, Update, Upsert, ap, command_key, either, false, fold-append, if◌then◌else◌}
use Rattle.map_laws.proofs.Words.{is_about, is_eq, is_writer, key_cmp, logged_value, refl, sym, true, updates_by, value_made, ℕ, [], ◌++◌, ◌∙◌, ◌∷◌, ◌≡◌}
use Rattle.std.specs.Option.{option_to_list}
use Rattle.std.specs.Str.{bytes_eq}
use Rattle.std.proofs.lemmas.List.{append-nil}
use Rattle.base_page.proofs.KeyLaws.{same}
use Rattle.bw_model.specs.Log.{set, unset, updated_key, updated_value}
use Rattle.bw_model.specs.Numbers.{added, is_number}
use Rattle.bw_model.specs.Replies.{update_of}
use Rattle.bw_model.specs.declared.command.Command.TheVariants.{Insert, Delete, DeleteIf, Swap, Add, Page, Back, Tidy}
use Rattle.map_laws.specs.OwnKeys.{value_by}

abbrev Value : Type 0
Value = Option (List ℕ)

if_same : (b : Bool) (x : Value) → (if b then x else x) ≡ x
if_same true x = refl
if_same false x = refl

abbrev updated : List ℕ → Option Update → Value → Value
updated key None before = before
updated key (Some update) before = if is_eq (key_cmp key (updated_key update)) then updated_value update else before

pushed : (key : List ℕ) (log : List Update) (o : Option Update) → logged_value (log ++ option_to_list o) key ≡ updated key o (logged_value log key)
pushed key log None = ap (λ (l : List Update). logged_value l key) (append-nil log)
pushed key log (Some update) = fold-append (λ (before : Value) (u : Update). if is_eq (key_cmp key (updated_key u)) then updated_value u else before) None log (update ∷ [])

module _ (key : List ℕ) (actor : ℕ) (before : Value) where
  abbrev Names : Command → Option Update → Type 0
  Names asked o = updated key o before ≡ (if is_eq (key_cmp key (command_key asked)) then value_by o before else before)

  -- one that a test decides
  names_if : (asked : Command) (update : Update) (b : Bool) → Names asked (Some update) → Names asked (if b then Some update else None)
  names_if asked update true one = one
  names_if asked update false one = sym (if_same (is_eq (key_cmp key (command_key asked))) before)

  -- an update names its command's key
  names_key : (asked : Command) (old : Value) → Names asked (update_of actor asked old)
  names_key (Insert k value) None = refl
  names_key (Upsert k value) old = refl
  names_key (Delete k) (Some old) = refl
  names_key (DeleteIf k expected) (Some old) = names_if (DeleteIf k expected) (unset actor k) (bytes_eq old expected) refl
  names_key (Swap k expected value) (Some old) = names_if (Swap k expected value) (set actor k value) (bytes_eq old expected) refl
  names_key (Add k number) None = refl
  names_key (Add k number) (Some old) = names_if (Add k number) (set actor k (added old number)) (is_number old) refl
  names_key asked old = sym (if_same (is_eq (key_cmp key (command_key asked))) before)

  any_if : (one other : Update) (b : Bool) → updated_value one ≡ updated_value other
      → value_by (if b then Some one else None) before ≡ value_by (if b then Some other else None) before
  any_if one other true alike = alike
  any_if one other false alike = refl

  -- whoever makes it
  any_actor : (asked : Command) (old : Value) → value_by (update_of actor asked old) before ≡ value_by (update_of 0 asked old) before
  any_actor (DeleteIf k expected) (Some old) = any_if (unset actor k) (unset 0 k) (bytes_eq old expected) refl
  any_actor (Swap k expected value) (Some old) = any_if (set actor k value) (set 0 k value) (bytes_eq old expected) refl
  any_actor (Add k number) (Some old) = any_if (set actor k (added old number)) (set 0 k (added old number)) (is_number old) refl
  any_actor asked None = refl
  any_actor asked old = refl

about : (key : List ℕ) (asked : Command) (before : Value)
    → (if is_eq (key_cmp key (command_key asked)) then value_made asked before else before) ≡ (if is_about key asked then value_made asked before else before)
about key (Page k) before = if_same (is_eq (key_cmp key k)) before
about key (Back k) before = if_same (is_eq (key_cmp key k)) before
about key (Tidy k) before = if_same (is_eq (key_cmp key k)) before
about key other before = refl

-- what a command's update makes of a key's value
module _ (key : List ℕ) (log : List Update) (actor : ℕ) (asked : Command) where
  abbrev now : Value
  now = logged_value log key

  abbrev old : Value
  old = logged_value log (command_key asked)

  by_key : (if is_eq (key_cmp key (command_key asked)) then value_by (update_of actor asked old) now else now) ≡ (if is_eq (key_cmp key (command_key asked)) then value_made asked now else now)
  by_key = either (is_eq (key_cmp key (command_key asked)))
      (λ is. ap (λ (b : Bool). if b then value_by (update_of actor asked old) now else now) is
      ∙ ap (λ (k : List ℕ). value_by (update_of actor asked (logged_value log k)) now) (sym (same key (command_key asked) is)) ∙ any_actor key actor now asked now
      ∙ sym (ap (λ (b : Bool). if b then value_made asked now else now) is))
      (λ apart. ap (λ (b : Bool). if b then value_by (update_of actor asked old) now else now) apart ∙ sym (ap (λ (b : Bool). if b then value_made asked now else now) apart))

  pub effect : logged_value (log ++ updates_by actor (Some asked) log) key ≡ (if is_about key asked then value_made asked (logged_value log key) else logged_value log key)
  effect = pushed key log (update_of actor asked old) ∙ names_key key actor now asked old ∙ by_key ∙ about key asked now

-- a command whose actor links nothing changes nothing
pub reader_keeps : (asked : Command) (before : Value) → is_writer asked ≡ false → value_made asked before ≡ before
reader_keeps (Get k) before is = refl
reader_keeps other before is = cc

pub about_key : (key : List ℕ) (asked : Command) → is_about key asked ≡ true → key ≡ command_key asked
about_key key (Page k) is = absurd (cc)
about_key key (Back k) is = absurd (cc)
about_key key (Tidy k) is = absurd (cc)
about_key key other is = same key (command_key other) is
