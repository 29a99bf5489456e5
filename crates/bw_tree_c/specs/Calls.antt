-- What a call from C comes to.
use Rattle.std.specs.Prelude.{◌≡◌, ℕ, Option, ⊤}
use Rattle.bw_model.specs.declared.command.Command.{Command}
use Rattle.seats.specs.Replies.{many}
use Rattle.bw_tree_c.specs.Handles.{OnSeat}
use Rattle.bw_tree_c.specs.Running.{IsRunToValue, IsRunFurther, IsRunToPage, IsTidied, IsWatched, TellsIdle}
use Rattle.bw_tree_c.specs.declared.c_types.Bytes.{Bytes}
use Rattle.bw_tree_c.specs.declared.c_types.FreeRoom.{FreeRoom}
use Rattle.bw_tree_c.specs.declared.c_types.Page.{Page}
use Rattle.bw_tree_c.specs.declared.receipt.Receipt.{Receipt}
use Rattle.bw_tree_c.specs.declared.receipt.Told.{Told}
use Rattle.bw_tree_c.specs.declared.handle.shared.Shared.{Shared}

-- a command whose reply may have a value, with a budget of steps
abbrev pub ComesWithin : Option Shared → ℕ → Command → ℕ → Receipt → Told → Bytes → Bytes → Type 0
ComesWithin kept number command budget since told old new = OnSeat kept number since told (new ≡ old) (λ before after. IsRunToValue before command budget
    told.status old new after)

-- one with 65,536 steps
abbrev pub ComesToValue : Option Shared → ℕ → Command → Receipt → Told → Bytes → Bytes → Type 0
ComesToValue kept number command since told old new = ComesWithin kept number command many since told old new

-- one whose reply is a page of either direction
abbrev pub ComesToPage : Option Shared → ℕ → Command → Receipt → Told → Page → Page → Type 0
ComesToPage kept number command since told old new = OnSeat kept number since told (new ≡ old) (λ before after. IsRunToPage before command told.status old new after)

-- one whose reply has nothing
abbrev pub ComesTidied : Option Shared → ℕ → Command → Receipt → Told → Type 0
ComesTidied kept number command since told = OnSeat kept number since told ⊤ (λ before after. IsTidied before command told.status after)

-- an operation that goes on
abbrev pub ComesOn : Option Shared → ℕ → ℕ → Receipt → Told → Bytes → Bytes → Page → Page → Type 0
ComesOn kept number budget since told old new page shows = OnSeat kept number since told ((new ≡ old) × (shows ≡ page)) (λ before after. IsRunFurther before budget
    told.status old new page shows after)

-- whether the seat is idle
abbrev pub ComesIdle : Option Shared → ℕ → Receipt → Told → Type 0
ComesIdle kept number since told = OnSeat kept number since told ⊤ (λ before after. (after ≡ before) × TellsIdle before told.status)

-- how much is free
abbrev pub ComesWatched : Option Shared → ℕ → Receipt → Told → FreeRoom → FreeRoom → Type 0
ComesWatched kept number since told old new = OnSeat kept number since told (new ≡ old) (λ before after. IsWatched before told.status new after)
