-- Records by what they are: a base, a put, a delete, a split.
use Rattle.std.proofs.Common.{◌≡◌, refl, arith}
use Rattle.std.specs.Prelude.{Some, None}
use Rattle.row_search.proofs.Words.{Page, Record, row_of, delete_of, put_of, split_of}
use Rattle.deltas.specs.declared.record.Delete.{Delete}
use Rattle.deltas.specs.declared.record.Put.{Put}
use Rattle.deltas.specs.declared.record.Record.TheVariants as kind
use Rattle.deltas.specs.declared.record.Split.{Split}

pub put_there : (content : Record) (put : Put) → put_of content ≡ Some put → content ≡ kind.Put put
put_there (kind.Put one) put e = cc
put_there content put e = cc

pub delete_there : (content : Record) (delete : Delete) → delete_of content ≡ Some delete → content ≡ kind.Delete delete
delete_there (kind.Delete one) delete e = cc
delete_there content delete e = cc

pub split_there : (content : Record) (split : Split) → split_of content ≡ Some split → content ≡ kind.Split split
split_there (kind.Split one) split e = cc
split_there content split e = cc

-- by the number of the kind
pub base_of : (content : Record) → (row_of content).kind ≡ 1 → (page : Page) × (content ≡ kind.Base page)
base_of (kind.Base page) e = (page, refl)
base_of content e = absurd (omega arith)

pub put_is : (content : Record) → (row_of content).kind ≡ 2 → (put : Put) × (content ≡ kind.Put put)
put_is (kind.Put put) e = (put, refl)
put_is content e = absurd (omega arith)

pub delete_is : (content : Record) → (row_of content).kind ≡ 3 → (delete : Delete) × (content ≡ kind.Delete delete)
delete_is (kind.Delete delete) e = (delete, refl)
delete_is content e = absurd (omega arith)

pub split_is : (content : Record) → (row_of content).kind ≡ 4 → (split : Split) × (content ≡ kind.Split split)
split_is (kind.Split split) e = (split, refl)
split_is content e = absurd (omega arith)

pub no_put : (content : Record) → ((row_of content).kind ≡ 2 → ⊥) → None ≡ put_of content
no_put (kind.Put put) other = absurd (other refl)
no_put content other = refl

pub no_delete : (content : Record) → ((row_of content).kind ≡ 3 → ⊥) → None ≡ delete_of content
no_delete (kind.Delete delete) other = absurd (other refl)
no_delete content other = refl

pub no_split : (content : Record) → ((row_of content).kind ≡ 4 → ⊥) → None ≡ split_of content
no_split (kind.Split split) other = absurd (other refl)
no_split content other = refl
