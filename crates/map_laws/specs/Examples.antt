-- Calls of one actor about the key "a", among others.
use Rattle.std.specs.Prelude.{codes, List, [], ◌∷◌, Option, None, Some}
use Rattle.bw_model.specs.declared.command.Command.{Command}
use Rattle.bw_model.specs.declared.command.Command.TheVariants.{Get, Insert, Upsert, Delete, DeleteIf, Swap, Add, Page, Back, Tidy}
use Rattle.bw_model.specs.declared.command.Reply.{Reply}
use Rattle.bw_model.specs.declared.command.Reply.TheVariants as reply
use Rattle.bw_model.specs.Numbers.{number_bytes}

-- It has no value, is set, is not set again for want of room, is deleted, inserted and swapped; it is not deleted by another value, is deleted
-- by its own, and is counted up from none; the last call has no reply.
abbrev pub own_calls : List (Command × Option Reply)
own_calls =
    (Get (codes "a"), Some reply.None)
    ∷ (Upsert (codes "a") (codes "1"), Some reply.Set)
    ∷ (Get (codes "b"), Some (reply.Value (codes "9")))
    ∷ (Upsert (codes "a") (codes "7"), Some reply.Full)
    ∷ (Get (codes "a"), Some (reply.Value (codes "1")))
    ∷ (Tidy (codes "a"), Some reply.Tidied)
    ∷ (Delete (codes "a"), Some (reply.Deleted (codes "1")))
    ∷ (Page (codes "a"), Some (reply.Page [] None))
    ∷ (Insert (codes "a") (codes "2"), Some reply.Inserted)
    ∷ (Swap (codes "a") (codes "2") (codes "3"), Some reply.Swapped)
    ∷ (DeleteIf (codes "a") (codes "2"), Some (reply.Differs (codes "3")))
    ∷ (Back (codes "a"), Some (reply.BackPage [] None))
    ∷ (Add (codes "a") 1, Some (reply.Differs (codes "3")))
    ∷ (DeleteIf (codes "a") (codes "3"), Some (reply.Deleted (codes "3")))
    ∷ (Add (codes "a") 255, Some reply.Set)
    ∷ (Add (codes "a") 1, Some (reply.Replaced (number_bytes 255)))
    ∷ (Delete (codes "a"), None)
    ∷ []
