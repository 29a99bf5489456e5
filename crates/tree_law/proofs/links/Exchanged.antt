-- What an exchange that won makes of what its actor knows.
use Rattle.tree_law.proofs.Words.{refl, suc, inl, inr, ℕ, ◌≡◌, zero, Page, record_link, Record, Base, Split, Put, Delete, Unterm, SplitOf, UntermOf, Knowledge, Ready, Empty, OwnPage, Other}
use Rattle.tree_law.proofs.Words.{Gone, Written, after_filling, after_root, OwnRow, after_emptying, after_exchange, split_off, linked_over, handed_page, handed_over, set_page, rebuilt}
use Rattle.tree_law.proofs.Words.{after_update, IsUpdateLink, after_clear}

pub data Exchanging (k : Knowledge) : ℕ → ℕ → ℕ → Knowledge → Type 0 where
  roots : (x y base : ℕ) → k.own.pages y ≡ Ready base → Exchanging k zero x y (handed_page y Other base k)
  empties : (p x base : ℕ) → k.own.pages (suc p) ≡ Ready base → Exchanging k (suc p) x zero (set_page (suc p) Empty k)
  clears : (p x : ℕ) → k.own.pages (suc p) ≡ Gone → Exchanging k (suc p) x zero (after_clear (suc p) x k)
  readies : (p x y : ℕ) → k.own.pages (suc p) ≡ Empty → Exchanging k (suc p) x (suc y) (set_page (suc p) (Ready (suc y)) k)
  rebuilds : (p x y : ℕ) (w : Page) → k.own.pages (suc p) ≡ Other → k.own.rows (suc y) ≡ Written (Base w) → Exchanging k (suc p) x (suc y) (rebuilt x (suc y) k)
  updates : (p x y : ℕ) (w : Record) → k.own.pages (suc p) ≡ Other → k.own.rows (suc y) ≡ Written w → IsUpdateLink (record_link w) → Exchanging k (suc p) x (suc y) (after_update x (suc y) k)
  splits : (p x y base : ℕ) (w : SplitOf) → k.own.pages w.page ≡ Ready base → Exchanging k (suc p) x (suc y) (handed_page w.page Other (suc y) (handed_over base k))
  unterms : (p x y : ℕ) (w : UntermOf) → Exchanging k (suc p) x (suc y) (handed_page w.child Gone (suc y) k)
  hands : (p x y : ℕ) → Exchanging k (suc p) x (suc y) (handed_over (suc y) k)
  misses : {p x y : ℕ} → Exchanging k p x y k

pub exchanging : (p x y : ℕ) (k : Knowledge) → Exchanging k p x y (after_exchange p x y k)
exchanging zero x y k = (elim (k.own.pages y) as (λ v. k.own.pages y ≡ v → Exchanging k zero x y (after_root v y k)) [ Ready base ↦ λ e. roots x y base e | v ↦ λ e. misses ]) refl
exchanging (suc p) x zero k = (elim (k.own.pages (suc p)) as (λ v. k.own.pages (suc p) ≡ v → Exchanging k (suc p) x zero (after_emptying v (suc p) x k)) [
  | Ready base ↦ λ e. empties p x base e
  | Gone ↦ λ e. clears p x e
  | v ↦ λ e. misses
]) refl
exchanging (suc p) x (suc y) k = by_page (k.own.pages (suc p)) refl
  where
    by_split : (w : SplitOf) (v : OwnPage) → k.own.pages w.page ≡ v → Exchanging k (suc p) x (suc y) (split_off v w.page (suc y) k)
    by_split w (Ready base) e = splits p x y base w e
    by_split w v e = misses

    by_row : k.own.pages (suc p) ≡ Other → (v : OwnRow) → k.own.rows (suc y) ≡ v → Exchanging k (suc p) x (suc y) (linked_over v x (suc y) k)
    by_row o (Written (Base w)) e = rebuilds p x y w o e
    by_row o (Written (Put w)) e = updates p x y (Put w) o e (inl refl)
    by_row o (Written (Delete w)) e = updates p x y (Delete w) o e (inr refl)
    by_row o (Written (Split w)) e = by_split w (k.own.pages w.page) refl
    by_row o (Written (Unterm w)) e = unterms p x y w
    by_row o (Written w) e = hands p x y
    by_row o v e = misses

    by_page : (v : OwnPage) → k.own.pages (suc p) ≡ v → Exchanging k (suc p) x (suc y) (after_filling v (suc p) x (suc y) k)
    by_page Other e = by_row e (k.own.rows (suc y)) refl
    by_page Empty e = readies p x y e
    by_page v e = misses

-- the two know the same of all but rows, pages, limbos and their link
pub record Alike (k k' : Knowledge) : Type 0 where
  pub inside : k'.inside ≡ k.inside
  pub read : k'.read ≡ k.read
  pub command : k'.asked.command ≡ k.asked.command
  pub no_pids : k'.asked.no_pids ≡ k.asked.no_pids
  pub no_rows : k'.asked.no_rows ≡ k.asked.no_rows
  pub epoch : k'.limbo.epoch ≡ k.limbo.epoch

pub exchanged_alike : (p x y : ℕ) (k : Knowledge) → Alike k (after_exchange p x y k)
exchanged_alike p x y k = elim (exchanging p x y k) as (λ p x y k' v. Alike k k') [
  | misses ↦ record { inside = refl; read = refl; command = refl; no_pids = refl; no_rows = refl; epoch = refl }
  | v ↦ record { inside = refl; read = refl; command = refl; no_pids = refl; no_rows = refl; epoch = refl }
]
