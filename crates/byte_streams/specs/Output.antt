-- What a writer was given of a text.
use Rattle.std.specs.Prelude.{◌≡◌, ℕ, List, ◌++◌, Bool, true, false, not, Option}
use Rattle.std.specs.Io.KnownBytes.{Appends}

-- a writer: what it has been given, where that is known; what is held back for it; whether a write has failed
pub record Sink : Type 0 where
  pub contents : Option (List ℕ)
  pub held : List ℕ
  pub failed : Bool

-- Of what was held back and the text, a beginning went to the writer. Where `whole`, the rest is held back now.
pub record Puts (old new : Sink) (text : List ℕ) (whole : Bool) : Type 0 where
  pub written : List ℕ
  pub rest : List ℕ
  pub splits : old.held ++ text ≡ written ++ rest
  pub appends : Appends old.contents new.contents written
  pub all : whole ≡ true → rest ≡ new.held

-- The text was put unless a write failed, before or now. Where one had failed before, nothing is written.
pub record Prints (old new : Sink) (text : List ℕ) : Type 0 where
  pub puts : old.failed ≡ false → Puts old new text (not new.failed)
  pub stays : old.failed ≡ true → (new.contents ≡ old.contents) × (new.failed ≡ true)

-- The writer took a beginning of the text, and all of it where `whole`.
pub record Writes (old new : Option (List ℕ)) (text : List ℕ) (whole : Bool) : Type 0 where
  pub written : List ℕ
  pub rest : List ℕ
  pub splits : text ≡ written ++ rest
  pub appends : Appends old new written
  pub all : whole ≡ true → text ≡ written
