-- One entry more keeps the others, wherever their commands and replies stand.
use Rattle.std.proofs.Common.{◌≡◌, ℕ, List, [], ◌∷◌, ◌++◌, length, map, Some, refl, sym, ap, ◌∙◌}
use Rattle.std.specs.List.{All}
use Rattle.std.proofs.lemmas.List.{get_or_append_left, get_or_at, map-append}
use Rattle.std.proofs.lemmas.List.Elements.{All-head, All-tail}
use Rattle.bw_model.specs.declared.command.Command.{Command}
use Rattle.bw_model.specs.declared.command.Command.TheVariants.{Page}
use Rattle.bw_model.specs.declared.command.Reply.{Reply}
use Rattle.bw_model.specs.declared.command.Reply.TheVariants as kind
use Rattle.bw_model.specs.declared.step.Answer.TheVariants.{Done}
use Rattle.bw_model.specs.declared.step.Step.TheVariants as step
use Rattle.deltas.specs.declared.record.Record.{Record}
use Rattle.traces.specs.declared.trace.Entry.TheVariants as entry
use Rattle.core_memory.specs.declared.entries.Happening.{Happening}
use Rattle.core_memory.specs.declared.entries.Happening.TheVariants.{Begin, Step, Leave}
use Rattle.core_memory.specs.Entries.{HasCommandOrReply, entries_of, entry_of}

-- functions that agree on each value of a list map it alike
map_alike : {X Y : Type 0} (P : X → Type 0) (f g : X → Y) → ((x : X) → P x → f x ≡ g x) → (xs : List X) → All P xs → map f xs ≡ map g xs
map_alike P f g alike [] all = refl
map_alike P f g alike (x ∷ xs) all =
    let first = alike x (All-head P x xs all) in
    let rest = map_alike P f g alike xs (All-tail P x xs all) in
    λ i. first i ∷ rest i

module _ (commands : List Command) (replies : List Reply) where
  command_more : (command : Command) (h : Happening Record) → HasCommandOrReply (length commands) (length replies) h → entry_of (commands ++ command ∷ []) replies h ≡ entry_of commands replies h
  command_more command (Begin actor place) is = ap (entry.Begin actor) (get_or_append_left commands (command ∷ []) (Page []) place is)
  command_more command (Step actor step answer) is = refl
  command_more command (Leave actor place) is = refl

  reply_more : (reply : Reply) (h : Happening Record) → HasCommandOrReply (length commands) (length replies) h → entry_of commands (replies ++ reply ∷ []) h ≡ entry_of commands replies h
  reply_more reply (Begin actor place) is = refl
  reply_more reply (Step actor step answer) is = refl
  reply_more reply (Leave actor place) is = ap (λ (r : Reply). entry.Step actor step.Leave Done (Some r)) (get_or_append_left replies (reply ∷ []) kind.None place is)

  module _ (happened : List (Happening Record)) where
    pub begun : (actor place : ℕ) (command : Command) → place ≡ length commands → All (HasCommandOrReply (length commands) (length replies)) happened
        → entries_of (commands ++ command ∷ []) replies (happened ++ Begin actor place ∷ []) ≡ entries_of commands replies happened ++ entry.Begin actor command ∷ []
    begun actor place command at all =
        let kept = map_alike (HasCommandOrReply (length commands) (length replies)) (entry_of (commands ++ command ∷ []) replies) (entry_of commands replies) (command_more command) happened all in
        let new = get_or_at commands command [] (Page []) place (sym at) in
        map-append (entry_of (commands ++ command ∷ []) replies) happened (Begin actor place ∷ []) ∙ (λ i. kept i ++ entry.Begin actor (new i) ∷ [])

    pub left : (actor place : ℕ) (reply : Reply) → place ≡ length replies → All (HasCommandOrReply (length commands) (length replies)) happened
        → entries_of commands (replies ++ reply ∷ []) (happened ++ Leave actor place ∷ []) ≡ entries_of commands replies happened ++ entry.Step actor step.Leave Done (Some reply) ∷ []
    left actor place reply at all =
        let kept = map_alike (HasCommandOrReply (length commands) (length replies)) (entry_of commands (replies ++ reply ∷ [])) (entry_of commands replies) (reply_more reply) happened all in
        let new = get_or_at replies reply [] kind.None place (sym at) in
        map-append (entry_of commands (replies ++ reply ∷ [])) happened (Leave actor place ∷ []) ∙ (λ i. kept i ++ entry.Step actor step.Leave Done (Some (new i)) ∷ [])
