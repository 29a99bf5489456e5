-- What C is told of a reply, beside the status.
use Rattle.std.specs.Prelude.{◌≡◌, ℕ, List, Option, Some, None}
use Rattle.bw_model.specs.declared.command.Reply.{Reply}
use Rattle.bw_model.specs.declared.command.Reply.TheVariants as reply
use Rattle.running_tree.specs.declared.called.Called.{Called}
use Rattle.running_tree.specs.declared.called.Called.TheVariants.{Done, Spent}
use Rattle.bw_tree_c.specs.declared.c_types.Bytes.{Bytes}
use Rattle.bw_tree_c.specs.declared.c_types.Page.{Page}
use Rattle.bw_tree_c.specs.Shown.{ShowsBytes, ShowsWholePage}

-- the value that a reply has, if it has one
abbrev pub reply_value : Reply → Option (List ℕ)
reply_value (reply.Value value) = Some value
reply_value reply.None = None
reply_value reply.Inserted = None
reply_value (reply.Exists value) = Some value
reply_value reply.Set = None
reply_value (reply.Replaced value) = Some value
reply_value (reply.Deleted value) = Some value
reply_value reply.Absent = None
reply_value reply.Swapped = None
reply_value (reply.Differs value) = Some value
reply_value (reply.Page items next) = None
reply_value (reply.BackPage items next) = None
reply_value reply.Tidied = None
reply_value reply.Full = None

-- the pairs and the next key that a reply has, if it is a page of either direction
abbrev pub reply_page : Reply → Option (List (List ℕ × List ℕ) × Option (List ℕ))
reply_page (reply.Value value) = None
reply_page reply.None = None
reply_page reply.Inserted = None
reply_page (reply.Exists value) = None
reply_page reply.Set = None
reply_page (reply.Replaced value) = None
reply_page (reply.Deleted value) = None
reply_page reply.Absent = None
reply_page reply.Swapped = None
reply_page (reply.Differs value) = None
reply_page (reply.Page items next) = Some (items, next)
reply_page (reply.BackPage items next) = Some (items, next)
reply_page reply.Tidied = None
reply_page reply.Full = None

-- The value is what C reads; where there is none, nothing is written.
abbrev pub ShowsValue : Option (List ℕ) → Bytes → Bytes → Type 0
ShowsValue None old new = new ≡ old
ShowsValue (Some value) old new = ShowsBytes value new

abbrev pub TellsValue : Reply → Bytes → Bytes → Type 0
TellsValue given old new = ShowsValue (reply_value given) old new

-- The value of what became of a call is what C reads, or nothing is written.
abbrev pub ShowsValueOf : Called → Bytes → Bytes → Type 0
ShowsValueOf (Done given) old new = TellsValue given old new
ShowsValueOf Spent old new = new ≡ old

-- and so is a page
abbrev pub ShowsMaybePage : Option (List (List ℕ × List ℕ) × Option (List ℕ)) → Page → Page → Type 0
ShowsMaybePage None old new = new ≡ old
ShowsMaybePage (Some page) old new = ShowsWholePage page.0 page.1 new

abbrev pub TellsPage : Reply → Page → Page → Type 0
TellsPage given old new = ShowsMaybePage (reply_page given) old new

abbrev pub ShowsPageOf : Called → Page → Page → Type 0
ShowsPageOf (Done given) old new = TellsPage given old new
ShowsPageOf Spent old new = new ≡ old
