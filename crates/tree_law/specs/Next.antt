-- What a step leaves: the invariant, with one more update in the log or none.
use Rattle.std.specs.Prelude.{◌≡◌, ℕ, zero, suc, ◌⊎◌, List, [], ◌∷◌, ◌++◌, Option, Some, None, IfSome, Bool, true, ⊤}
use Rattle.bw_model.specs.declared.command.Command.{Command}
use Rattle.bw_model.specs.declared.command.Reply.{Reply}
use Rattle.bw_model.specs.declared.step.Step.{Step as StepOf}
use Rattle.bw_model.specs.declared.step.Step.TheVariants.{Exchange, Leave, ReusePids, ReuseRows}
use Rattle.bw_model.specs.declared.step.Answer.{Answer}
use Rattle.bw_model.specs.declared.step.Answer.TheVariants.{Whether}
use Rattle.bw_model.specs.Log.{Update, logged_value}
use Rattle.bw_model.specs.Replies.{command_key, update_of}
use Rattle.base_page.specs.Pages.{Page}
use Rattle.deltas.specs.declared.record.Record.{Record}
use Rattle.deltas.specs.declared.record.Record.TheVariants.{Base, Split}
use Rattle.deltas.specs.declared.record.Split.{Split as SplitOf}
use Rattle.deltas.specs.Records.{next_row}
use Rattle.traces.specs.discipline.Knowledge.{Knowledge, learn, after_reply}
use Rattle.tree_law.specs.Fitness.{IsAdded}
use Rattle.tree_law.specs.Owners.{Owner, Free, Spare, Linked, Owners}
use Rattle.tree_law.specs.Phases.{Phased}
use Rattle.tree_law.specs.Put.{put}
use Rattle.tree_law.specs.Shared.{Shared}
use Rattle.tree_law.specs.Tree.{IsTree}

-- The step frees rows or pages.
abbrev pub IsReuse : StepOf Record → Type 0
IsReuse (ReusePids word bits) = ⊤
IsReuse (ReuseRows word bits) = ⊤
IsReuse step = ⊥

-- the log with an update at its end, if there is one
abbrev pub grown : List Update → Option Update → List Update
grown log None = log
grown log (Some u) = log ++ u ∷ []

-- the log at an operation's point, after a step at this log that is its point or not
abbrev pub log_at_point : List Update → Option Update → Option (List Update) → Option (List Update)
log_at_point log None old = old
log_at_point log (Some u) old = Some log

-- the update that the actor's command makes by the log, where it has made none yet
abbrev pub IsDue : ℕ → Knowledge → List Update → Update → Type 0
IsDue a k log u = (command : Command) × (k.asked.command ≡ Some command) × (k.asked.linked ≡ None) × (update_of a command (logged_value log (command_key command)) ≡ Some u)

-- a row stays whose it is, or the actor takes it where it is free, or links it where it is its own
abbrev pub IsMoved : ℕ → Bool → Owner → Owner → Type 0
IsMoved a free was now = (now ≡ was) ⊎ ((free ≡ true) × (was ≡ Free) × (now ≡ Spare a)) ⊎ ((was ≡ Spare a) × (now ≡ Linked))

-- A row that a step links: the new row of the slot, over the old one or over none; the base of a split's new page; or that of
-- a new root.
abbrev pub IsHomed : Shared → StepOf Record → Answer Record → ℕ → Type 0
IsHomed m (Exchange zero old new) (Whether true) row = (base : Page) × (m.slots new ≡ Some row) × (m.rows row ≡ Some (Base base))
IsHomed m (Exchange (suc p) old zero) (Whether true) row = ⊥
IsHomed m (Exchange (suc p) old (suc new)) (Whether true) row =
    ((w : Record) × (row ≡ suc new) × (m.rows row ≡ Some w) × IfSome (next_row w) (λ n. n ≡ old))
    ⊎ ((split : SplitOf) × (base : Page) × (m.rows (suc new) ≡ Some (Split split)) × (m.slots split.page ≡ Some row) × (m.rows row ≡ Some (Base base)))
IsHomed m step answer row = ⊥

pub record Next (a : ℕ) (m m' : Shared) (log : List Update) (o : Owners) (knows : ℕ → Knowledge) (point : ℕ → Option (List Update))
    (logs : ℕ → List (List Update)) (s : StepOf Record) (x : Answer Record) (r : Option Reply) : Type
    0 where
  pub update : Option Update
  pub due : IfSome update (IsDue a (knows a) log)
  pub last : s ≡ Leave → update ≡ None
  pub owners : Owners
  pub phased : Phased a m s x o.page owners.page
  pub moved : (row : ℕ) → IsMoved a (m.free row) (o.row row) (owners.row row)
  pub added : (row : ℕ) → owners.row row ≡ Linked → (o.row row ≡ Linked) ⊎ IsAdded o m'.rows row
  pub homed : (row : ℕ) → owners.row row ≡ Linked → (o.row row ≡ Linked) ⊎ IsHomed m s x row
  -- a linked row stays linked, with its record
  pub kept : (row : ℕ) → o.row row ≡ Linked → (owners.row row ≡ Linked) × (m'.rows row ≡ m.rows row)
  pub is_tree : IsTree m' (grown log update) owners (put knows a (after_reply (learn (knows a) s x) r)) (put point a (log_at_point log update (point a))) (put logs a (log ∷ logs a))

-- What every step leaves, also a reuse, which lets linked rows go.
pub record After (a : ℕ) (m m' : Shared) (log : List Update) (o : Owners) (knows : ℕ → Knowledge) (point : ℕ → Option (List Update))
    (logs : ℕ → List (List Update)) (s : StepOf Record) (x : Answer Record) (r : Option Reply) : Type
    0 where
  pub update : Option Update
  pub due : IfSome update (IsDue a (knows a) log)
  pub last : s ≡ Leave → update ≡ None
  pub owners : Owners
  pub phased : Phased a m s x o.page owners.page
  pub added : (row : ℕ) → owners.row row ≡ Linked → (o.row row ≡ Linked) ⊎ IsAdded o m'.rows row
  -- a linked row has its record still
  pub same : (row : ℕ) → o.row row ≡ Linked → m'.rows row ≡ m.rows row
  pub is_tree : IsTree m' (grown log update) owners (put knows a (after_reply (learn (knows a) s x) r)) (put point a (log_at_point log update (point a))) (put logs a (log ∷ logs a))
