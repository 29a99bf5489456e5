-- What a record says, by its kind, its parts and its items.
use Rattle.std.proofs.Common.{◌≡◌, ◌==◌, ℕ, List, get_or, refl, ap, arith}
use Rattle.std.specs.Prelude.{true, false, Option, Some, None, unwrap_or}
use Rattle.row_search.proofs.Words.{Child, Item, Record, row_of, items_of}
use Rattle.base_page.specs.Pages.{content_at, value_in}
use Rattle.deltas.specs.Records.{content_said, high_after, removed_after, right_after}
use Rattle.deltas.specs.declared.record.Record.TheVariants.{Base, Put, Split, Term, Hold, Merge}
use Rattle.row_search.specs.OneKey.{one_key, split_at}

-- what it says of a key that it names
module _ (key : List ℕ) where
  pub said_base : (content : Record) → (row_of content).kind ≡ 1 → content_at (items_of content) key ≡ content_said content key
  said_base (Base page) e = refl
  said_base content e = absurd (omega arith)

  pub said_put : (content : Record) (d : Item) → (row_of content).kind ≡ 2 → Some (get_or (items_of content) 0 d).content ≡ content_said content key
  said_put (Put put) d e = refl
  said_put content d e = absurd (omega arith)

  pub said_term : (content : Record) → (row_of content).kind ≡ 5 → Some (Child (row_of content).page false) ≡ content_said content key
  said_term (Term term) e = refl
  said_term content e = absurd (omega arith)

  pub said_hold : (content : Record) → (row_of content).kind ≡ 6 → Some (Child (row_of content).page true) ≡ content_said content key
  said_hold (Hold hold) e = refl
  said_hold content e = absurd (omega arith)

  pub said_merge : (content : Record) → (row_of content).kind ≡ 8 → content_at (items_of content) key ≡ content_said content key
  said_merge (Merge merge) e = refl
  said_merge content e = absurd (omega arith)

  pub said_none : (content : Record) → ((row_of content).kind ≡ 1 → ⊥) → ((row_of content).kind ≡ 2 → ⊥) → ((row_of content).kind ≡ 5 → ⊥)
      → ((row_of content).kind ≡ 6 → ⊥) → ((row_of content).kind ≡ 8 → ⊥)
      → None ≡ content_said content key
  said_none (Base page) a b c d e = absurd (a refl)
  said_none (Put put) a b c d e = absurd (b refl)
  said_none (Term term) a b c d e = absurd (c refl)
  said_none (Hold hold) a b c d e = absurd (d refl)
  said_none (Merge merge) a b c d e = absurd (e refl)
  said_none content a b c d e = refl

  -- other records say no value
  pub no_value : (content : Record) → ((row_of content).kind ≡ 1 → ⊥) → ((row_of content).kind ≡ 2 → ⊥) → ((row_of content).kind ≡ 8 → ⊥) → None ≡ value_in (content_said content key)
  no_value (Base page) a b c = absurd (a refl)
  no_value (Put put) a b c = absurd (b refl)
  no_value (Merge merge) a b c = absurd (c refl)
  no_value content a b c = refl

-- the page's right after it
some_right : (right : Option ℕ) → (unwrap_or right 0 ≡ 0 → ⊥) → Some (unwrap_or right 0) ≡ right
some_right None h = absurd (h refl)
some_right (Some page) h = refl

no_some : {G : Type 0} → ◌≡◌ {A = Option ℕ} (Some 0) None → G
no_some e = let n : ◌≡◌ {A = ℕ} 0 1 = ap (λ (right : Option ℕ). unwrap_or right 1) e in absurd (omega arith)

pub right_some : (content : Record) → ((right : Option ℕ) → right_after content right ≡ right_after content None) → ((row_of content).page ≡ 0 → ⊥)
    → Some (row_of content).page ≡ right_after content None
right_some (Base page) f h = some_right page.right h
right_some (Split split) f h = refl
right_some (Merge merge) f h = some_right merge.right h
right_some content f h = no_some (f (Some 0))

-- and its end
pub high_ends_not : (content : Record) → ((row_of content).kind ≡ 1 → ⊥) → ((row_of content).kind ≡ 4 → ⊥) → ((row_of content).kind ≡ 8 → ⊥) → (high : Option (List ℕ)) → high_after content high ≡ high
high_ends_not (Base page) a b c high = absurd (a refl)
high_ends_not (Split split) a b c high = absurd (b refl)
high_ends_not (Merge merge) a b c high = absurd (c refl)
high_ends_not content a b c high = refl

pub high_base : (content : Record) → (row_of content).kind ≡ 1 → (row_of content).second ≡ high_after content None
high_base (Base page) e = refl
high_base content e = absurd (omega arith)

pub high_split : (content : Record) → (row_of content).kind ≡ 4 → Some (row_of content).first ≡ high_after content None
high_split (Split split) e = refl
high_split content e = absurd (omega arith)

pub high_merge : (content : Record) → (row_of content).kind ≡ 8 → (row_of content).second ≡ high_after content None
high_merge (Merge merge) e = refl
high_merge content e = absurd (omega arith)

-- whether it removes the page
pub removes : (content : Record) → ((row_of content).kind == 7) ≡ removed_after content false
removes (Base page) = refl
removes content = refl

-- the one key that it names
pub one_put : (content : Record) (d : Item) → (row_of content).kind ≡ 2 → Some ((get_or (items_of content) 0 d).key, true) ≡ one_key content
one_put (Put put) d e = refl
one_put content d e = absurd (omega arith)

-- where it cuts the page
pub splits : (content : Record) → (row_of content).kind ≡ 4 → Some (row_of content).first ≡ split_at content
splits (Split split) e = refl
splits content e = absurd (omega arith)
