-- What a handle owns.
use Rattle.std.specs.Prelude.{Option, Some, None, []}
use base.Fml.{Fml, ftrue}
use denote.RattleType.{RattleType}
use denote.RawPtr.{Ptr}
use denote.Struct.Lending.{lent_at}

-- a share of the value at p, if there is one, that never ends
abbrev pub maybe_lent : (R : RattleType) → Ptr → Option R.Denot → Fml
maybe_lent R p None = ftrue
maybe_lent R p (Some x) = lent_at R p x []
