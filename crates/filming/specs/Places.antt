-- Where in the order of updates an operation stands that is done, and made none: behind as many of them as leave the map as its reply tells it.
use Rattle.std.specs.Prelude.{ℕ, zero, suc, List, [], ◌++◌, ◌&&◌, ◌||◌, Bool, true, false, not, Option, None, Some, codes, decimal, if◌then◌else◌, length, take}
use Rattle.std.specs.List.{list_all}
use Rattle.std.specs.Str.{bytes_eq}
use Rattle.bw_model.specs.Bytes.{is_below, is_in_range}
use Rattle.bw_model.specs.Log.{Update, logged_value, updated_key}
use Rattle.bw_model.specs.Replies.{command_key}
use Rattle.bw_model.specs.declared.command.Command.{Command}
use Rattle.bw_model.specs.declared.command.Command.TheVariants.{Page, Back}
use Rattle.bw_model.specs.declared.command.Reply.{Reply}
use Rattle.bw_model.specs.declared.command.Reply.TheVariants as reply
use Rattle.step_core.specs.declared.event.Event.{Event}
use Rattle.step_core.specs.declared.event.Event.TheVariants.{Done}
use Rattle.filming.specs.Maps.{has_key}

-- what a reply without an update tells of its key's value
abbrev pub value_told : Reply → Option (Option (List ℕ))
value_told (reply.Value value) = Some (Some value)
value_told reply.None = Some None
value_told (reply.Exists value) = Some (Some value)
value_told reply.Absent = Some None
value_told (reply.Differs value) = Some (Some value)
value_told _ = None

abbrev pub is_value : Option (List ℕ) → Option (List ℕ) → Bool
is_value None None = true
is_value (Some one) (Some other) = bytes_eq one other
is_value _ _ = false

-- whether the log's map has for the key the value that is told, if one is
abbrev pub has_told : List Update → List ℕ → Option (Option (List ℕ)) → Bool
has_told log key None = false
has_told log key (Some value) = is_value (logged_value log key) value

abbrev pub is_above : Option (List ℕ) → List ℕ → Bool
is_above None key = true
is_above (Some below) key = is_below below key

-- The keys of which a page tells: from the one that it was asked of up to the next page's, or backward from above the next page's up to that one.
abbrev pub is_told_of : Command → Option (List ℕ) → List ℕ → Bool
is_told_of (Page from) next key = is_in_range from next key
is_told_of (Back upto) next key = is_above next key && not (is_below upto key)
is_told_of _ next key = false

abbrev pub has_value : List Update → List ℕ × List ℕ → Bool
has_value log pair = is_value (logged_value log pair.0) (Some pair.1)

-- a key that is told of and has a value has a pair
abbrev pub has_its_pair : List Update → Command → Option (List ℕ) → List (List ℕ × List ℕ) → List ℕ → Bool
has_its_pair log command next pairs key = not (is_told_of command next key) || has_key pairs key || is_value (logged_value log key) None

-- whether the log's map has all of these pairs, and no other one among the keys of which the page tells
abbrev pub has_all : List Update → List (List ℕ × List ℕ) → Bool
has_all log pairs = list_all (has_value log) pairs

abbrev pub has_no_other : List Update → Command → Option (List ℕ) → List (List ℕ × List ℕ) → Bool
has_no_other log command next pairs = list_all (λ update. has_its_pair log command next pairs (updated_key update)) log

abbrev pub are_pairs : List Update → Command → Option (List ℕ) → List (List ℕ × List ℕ) → Bool
are_pairs log command next pairs = has_all log pairs && has_no_other log command next pairs

-- whether the log's map is as the reply tells it: of its key, or of all keys of its page
abbrev pub is_told : List Update → Command → Reply → Bool
is_told log command (reply.Page items next) = are_pairs log command next items
is_told log command (reply.BackPage items next) = are_pairs log command next items
is_told log command answer = has_told log (command_key command) (value_told answer)

-- the latest place in the order, behind so many updates at most, at which the map was so
abbrev pub place_below : List Update → Command → Reply → ℕ → Option ℕ
place_below log command answer zero = if is_told [] command answer then Some 0 else None
place_below log command answer (suc many) = if is_told (take (suc many) log) command answer then Some (suc many) else place_below log command answer many

abbrev pub found_text : List Update → Option ℕ → List ℕ
found_text log None = []
found_text log (Some place) =
    codes "<p>The place of this operation in the order is known only now: its reply is that of the map after the first " ++ decimal place
    ++ codes " of the " ++ decimal (length log) ++ codes " updates, and of no later one.</p>\n"

-- Where an operation stands in the order that is done, and made no update. By the theorem the map was so at one of its own steps; the latest such place isn't
-- earlier.
abbrev pub place_text : List Update → Option Command → Event → List ℕ
place_text log (Some command) (Done answer) = found_text log (place_below log command answer (length log))
place_text log _ _ = []
