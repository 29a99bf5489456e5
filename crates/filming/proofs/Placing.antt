-- The latest place at which a map was as a reply tells it, one place earlier.
use Rattle.std.proofs.Common.{◌≡◌, ℕ, suc, List, Bool, false, Option, Some, ap, subst, take, ◌∙◌}
use Rattle.std.specs.Prelude.{if◌then◌else◌}
use Rattle.bw_model.specs.Log.{Update}
use Rattle.bw_model.specs.declared.command.Command.{Command}
use Rattle.bw_model.specs.declared.command.Reply.{Reply}
use Rattle.filming.specs.Places.{is_told, place_below}

pub place_next : (log : List Update) (command : Command) (answer : Reply) (many less : ℕ) → many ≡ suc less → is_told (take many log) command answer ≡ false
    → place_below log command answer many ≡ place_below log command answer less
place_next log command answer many less same other =
    ap (place_below log command answer) same
    ∙ ap (λ (b : Bool). if b then Some (suc less) else place_below log command answer less) (subst (λ n. is_told (take n log) command answer
    ≡ false) same other)
