-- The lines of records, one record more, and which of them count.
use Rattle.std.proofs.Common.{◌≡◌, ◌<◌, ◌+◌, ℕ, List, [], ◌∷◌, ◌++◌, Bool, true, false, ap, append_assoc, length, refl, subst, sym, take, ◌∙◌}
use Rattle.std.specs.Prelude.{if◌then◌else◌, not, slice_index_or, ◌||◌}
use Rattle.std.specs.List.{list_any}
use Rattle.std.proofs.lemmas.List.{append-nil}
use Rattle.deltas.specs.declared.record.Record.{Record}
use Rattle.deltas.specs.Records.{content_said, names}
use Rattle.traces.specs.chain.Chains.{content_in}
use Rattle.tree_picture.specs.RecordLines.{RecordLine, is_unnamed, lines_under, record_lines}
use Rattle.tree_picture.proofs.Heights.{take_next}

lines_more : (newer front : List Record) (one : Record) → lines_under newer (front ++ one ∷ []) ≡ lines_under newer front ++ record_lines (newer ++ front) one
lines_more newer [] one = append-nil (record_lines newer one) ∙ ap (λ (others : List Record). record_lines others one) (sym (append-nil newer))
lines_more newer (first ∷ front) one =
    ap (λ (lines : List RecordLine). record_lines newer first ++ lines) (lines_more (newer ++ first ∷ []) front one)
    ∙ sym (append_assoc (record_lines newer first) (lines_under (newer ++ first ∷ []) front) (record_lines ((newer ++ first ∷ []) ++ front) one))
    ∙ ap (λ (others : List Record). lines_under newer (first ∷ front) ++ record_lines others one) (append_assoc newer (first ∷ []) front)

-- those of the first records, and of one more
pub lines_next : (records : List Record) (i : ℕ) (one : Record) → i < length records → one ≡ slice_index_or records i one
    → lines_under [] (take (i + 1) records) ≡ lines_under [] (take i records) ++ record_lines (take i records) one
lines_next records i one there is = ap (lines_under []) (take_next records i one there is) ∙ lines_more [] (take i records) one

-- what the newest record that names a key says is what the chain has there
pub counts : (newer older : List Record) (one : Record) (key : List ℕ) → is_unnamed newer key ≡ true → names one key ≡ true
    → content_in (newer ++ one ∷ older) key ≡ content_said one key
counts [] older one key unnamed named = ap (λ (b : Bool). if b then content_said one key else content_in older key) named
counts (first ∷ newer) older one key unnamed named = go (names first key) refl (λ none. counts newer older one key none named)
  where
    others : Bool
    others = list_any (λ other. names other key) newer

    go : (b : Bool) → names first key ≡ b → (is_unnamed newer key ≡ true → content_in (newer ++ one ∷ older) key ≡ content_said one key)
        → content_in (first ∷ newer ++ one ∷ older) key ≡ content_said one key
    go true is rest = let clash : not (true || others) ≡ true = rw is at unnamed in cc clash
    go false is rest =
        ap (λ (c : Bool). if c then content_said first key else content_in (newer ++ one ∷ older) key) is
        ∙ rest (rw is at unnamed)

-- where a newer record names the key, nothing under it has a say
pub is_decided : (newer older other : List Record) (key : List ℕ) → is_unnamed newer key ≡ false → content_in (newer ++ older) key ≡ content_in (newer ++ other) key
is_decided [] older other key named = cc named
is_decided (first ∷ newer) older other key named = go (names first key) refl (λ some. is_decided newer older other key some)
  where
    others : Bool
    others = list_any (λ one. names one key) newer

    go : (b : Bool) → names first key ≡ b → (is_unnamed newer key ≡ false → content_in (newer ++ older) key ≡ content_in (newer ++ other) key)
        → content_in (first ∷ newer ++ older) key ≡ content_in (first ∷ newer ++ other) key
    go true is rest =
        ap (λ (c : Bool). if c then content_said first key else content_in (newer ++ older) key) is
        ∙ sym (ap (λ (c : Bool). if c then content_said first key else content_in (newer ++ other) key) is)
    go false is rest =
        ap (λ (c : Bool). if c then content_said first key else content_in (newer ++ older) key) is
        ∙ rest (rw is at named)
        ∙ sym (ap (λ (c : Bool). if c then content_said first key else content_in (newer ++ other) key) is)
