-- A word of a row is of no other one.
use Rattle.table_rule.proofs.Words.{Limits, arith, dite, row_at, some_words, width_of, ℕ, ℕ_discrete, ◌<◌, ◌≡◌}
use Rattle.tree_words.proofs.RowWidths.{rows_apart}

-- two rows that have a word in common are one
pub same_place : (limits : Limits) (row other i j : ℕ) → i < width_of limits row → j < width_of limits other → row_at limits row i ≡ row_at limits other j → row ≡ other
same_place limits row other i j a b e = dite (ℕ_discrete row other) (λ same. same) (λ ne. absurd (rows_apart limits row other i j ne a b (omega (arith, e))))

-- rows whose words at one place are one
pub same_row : (limits limits' : Limits) → limits ≡ limits' → (row other i : ℕ) → i < 8 → row_at limits row i ≡ row_at limits' other i → row ≡ other
same_row limits limits' tree row other i few e =
    let here : row_at limits row i ≡ row_at limits other i = rw (← tree) at e in
    let one = some_words limits row in
    let two = some_words limits other in
    same_place limits row other i i (omega (arith, one, few)) (omega (arith, two, few)) here
