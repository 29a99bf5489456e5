-- What the newest record that names a key says is what the chain has at it.
use Rattle.row_chain.proofs.Words.{◌≡◌, ◌++◌, sym, ap, ◌∙◌, Content, Record, content_in}
use Rattle.std.proofs.Common.{ℕ, List, []}
use Rattle.std.proofs.lemmas.List.{append-nil}
use Rattle.std.specs.Prelude.{Option}

-- what is said of the records with nothing under them
pub alone : (rows chain : List Record) (key : List ℕ) (said : Option Content) → rows ≡ chain → content_in (rows ++ []) key ≡ said → said ≡ content_in chain key
alone rows chain key said is e = sym e ∙ ap (λ records. content_in records key) (append-nil rows ∙ is)
