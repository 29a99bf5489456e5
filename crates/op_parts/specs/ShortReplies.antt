-- The reply with which an operation leaves, by its place.
use Rattle.std.specs.Prelude.{◌≡◌, ℕ, List, Option, None, Some}
use Rattle.bw_model.specs.Bytes.{IsShort}
use Rattle.bw_model.specs.NextKeys.{key_after, key_before}
use Rattle.bw_model.specs.Pairs.{ArePairsOf}
use Rattle.base_page.specs.Pages.{Page}
use Rattle.base_page.specs.Shown.{next_shown, pairs_shown}
use Rattle.base_page.specs.declared.page.shows.Direction.{Direction}
use Rattle.base_page.specs.declared.page.shows.Direction.TheVariants.{Forward, Backward}
use Rattle.bw_model.specs.declared.command.Reply.{Reply}
use Rattle.bw_model.specs.declared.command.Reply.TheVariants as reply
use Rattle.deltas.specs.declared.record.Record.{Record}
use Rattle.traces.specs.chain.Chains.{high_in, low_in}
use Rattle.traces.specs.discipline.Discipline.{chain_value}
use Rattle.op_parts.specs.declared.short_reply.Which.{Which}
use Rattle.op_parts.specs.declared.short_reply.Which.TheVariants as which

-- the reply of the kind, with the value where it tells one
abbrev pub reply_with : Which → List ℕ → Reply
reply_with which.Value value = reply.Value value
reply_with which.None value = reply.None
reply_with which.Inserted value = reply.Inserted
reply_with which.Exists value = reply.Exists value
reply_with which.Set value = reply.Set
reply_with which.Replaced value = reply.Replaced value
reply_with which.Deleted value = reply.Deleted value
reply_with which.Absent value = reply.Absent
reply_with which.Swapped value = reply.Swapped
reply_with which.Differs value = reply.Differs value
reply_with which.Tidied value = reply.Tidied
reply_with which.Full value = reply.Full

-- a leaf's cursor page from the key on, or up to it
abbrev pub page_shown : Direction → List ℕ → Page → Reply
page_shown Forward from leaf = reply.Page (pairs_shown Forward from leaf.items) (next_shown Forward leaf)
page_shown Backward upto leaf = reply.BackPage (pairs_shown Backward upto leaf.items) (next_shown Backward leaf)

-- the cursor page of a direction, or the other reply
abbrev pub reply_in : Option Direction → Reply → List ℕ → Page → Reply
reply_in None short bound leaf = short
reply_in (Some direction) short bound leaf = page_shown direction bound leaf

-- The reply is a cursor page of what the chain of a leaf decides: from the key on to the leaf's end, or from the leaf's low key up to
-- the key.
abbrev pub ShowsChain : List Record → Direction → List ℕ → Reply → Type 0
ShowsChain chain Forward from given = (pairs : List (List ℕ × List ℕ)) × ArePairsOf (chain_value chain) from (high_in chain) pairs × (given ≡ reply.Page pairs (high_in chain))
ShowsChain chain Backward upto given =
    (pairs : List (List ℕ × List ℕ)) × IsShort (low_in chain) × ArePairsOf (chain_value chain) (low_in chain) (Some (key_after upto)) pairs
    × (given ≡ reply.BackPage pairs (key_before (low_in chain)))
