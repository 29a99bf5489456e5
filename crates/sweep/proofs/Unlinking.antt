-- What is taken out of the tree comes into limbo.
use Rattle.sweep.proofs.Words.{◌≡◌, ◌≢◌, ◌<◌, ◌≤◌, inl, inr, ℕ, zero, suc, List, [], ◌∷◌, take, eqb, Option, Some, None, Bool, true, false, refl, sym, ap, ◌∙◌, arith, ◌||◌, if◌then◌else◌}
use Rattle.sweep.proofs.Words.{list_any, cases_Bool, cases_eq, eq-eqb, eqb-true, or_right, Limits, replaced_at, Record, Entry, Stage, Unstamped, Limbo, LimboList, stage_in, stage_of, Agrees}
use Rattle.sweep.proofs.Words.{AreKept}
use Rattle.std.proofs.Common.{◌++◌, length, map, get_or}
use Rattle.std.proofs.Common.{IsTrue}
use Rattle.std.specs.Prelude.{MatchOption, unwrap_or}
use Rattle.std.specs.List.{All, AllPairs, Contains}
use Rattle.std.proofs.lemmas.Bool.{ne_eqb}
use Rattle.std.proofs.lemmas.List.{get_or-take, get_or_default, length-take-le}
use Rattle.std.proofs.lemmas.List.Folds.{Any-from_list_any, list_any-append, list_any_at}
use Rattle.std.proofs.lemmas.List.Kept.{AllPairs-cons}
use Rattle.deltas.specs.Records.{next_row}
use Rattle.traces.specs.chain.Chains.{IsChainFrom, chain_rows}
use Rattle.traces.specs.discipline.Fitting.{AreOutOfLimbo}
use Rattle.traces.specs.discipline.Knowledge as known
use Rattle.traces.specs.discipline.Knowledge.{Knowledge, is_on_walk, taken_out}
use Rattle.epochs.specs.Limbo.{IsNew, with_entry}
use Rattle.sweep.specs.Taken.{IsTakenOut, fresh, with_rows}

-- whether the row is one of these
abbrev pub is_one : List ℕ → ℕ → Bool
is_one rows row = list_any (λ r. eqb r row) rows

-- a number of the list that comes with others that aren't it
fresh_out : (rows : List ℕ) (n : ℕ) → All (λ r. r ≢ n) rows → list_any (λ (entry : Entry). eqb entry.number n) (map fresh rows) ≡ false
fresh_out [] n apart = refl
fresh_out (r ∷ rows) n apart = rw (ne_eqb r n (apart 0 n (omega arith))) (fresh_out rows n (λ k d lt. apart (suc k) d (omega (arith, lt))))

pub new_still : (list : LimboList) (rows : List ℕ) (n : ℕ) → IsNew list n → All (λ r. r ≢ n) rows → IsNew (with_rows rows list) n
new_still list rows n new apart = record {
  below = new.below;
  out = list_any-append (λ (entry : Entry). eqb entry.number n) list.entries (map fresh rows) ∙ rw (new.out, fresh_out rows n apart) refl;
}

pub new_next : (list : LimboList) (rows : List ℕ) (i : ℕ) → i < length rows → AllPairs (λ one other. one ≢ other) rows → All (λ row. IsNew list row) rows
    → IsNew (with_rows (take i rows) list) (get_or rows i 0)
new_next list rows i lt apart news = new_still list (take i rows) (get_or rows i 0) (news i 0 lt) (λ k d before. others k d before)
  where
    others : (k d : ℕ) → k < length (take i rows) → get_or (take i rows) k d ≢ get_or rows i 0
    others k d before =
        let short : k < i = (let long = length-take-le i rows (omega (arith, lt)) in omega (arith, before, long)) in
        rw (get_or-take i rows k d short, get_or_default rows i 0 d lt) (apart k i d short lt)

-- ---- the stage of a number once others have come
one_fresh : (rows : List ℕ) (n : ℕ) → stage_in (map fresh rows) n ≡ (if is_one rows n then Some Unstamped else None)
one_fresh [] n = refl
one_fresh (r ∷ rows) n = elim (eqb r n) as (λ b. (if b then Some Unstamped else stage_in (map fresh rows) n) ≡ (if b || is_one rows n then Some Unstamped else None)) [
  | true ↦ refl
  | false ↦ one_fresh rows n
]

-- the first stage, if there is one, or the other
abbrev or_else : Option Stage → Option Stage → Option Stage
or_else None other = other
or_else (Some stage) other = Some stage

stage_append : (entries more : List Entry) (n : ℕ) → stage_in (entries ++ more) n ≡ or_else (stage_in entries n) (stage_in more n)
stage_append [] more n = refl
stage_append (e ∷ es) more n = elim (eqb e.number n) as (λ b. (if b then Some e.stage else stage_in (es ++ more) n) ≡ or_else (if b then Some e.stage else stage_in es n) (stage_in more n)) [
  | true ↦ refl
  | false ↦ stage_append es more n
]

-- what is known to be in the tree isn't in limbo
absent_stage : (limits : Limits) (actor : ℕ) (last : Option ℕ) (stage : Option Stage) → Agrees limits actor last stage known.Absent → stage ≡ None
absent_stage limits actor last None h = refl
absent_stage limits actor last (Some Unstamped) h = absurd h
absent_stage limits actor last stage h = absurd h

out_of : (entries : List Entry) (n : ℕ) → stage_in entries n ≡ None → list_any (λ (entry : Entry). eqb entry.number n) entries ≡ false
out_of [] n none = refl
out_of (e ∷ es) n none = elim (eqb e.number n) as (λ b. (if b then Some e.stage else stage_in es n) ≡ None → (b || list_any (λ (entry : Entry). eqb entry.number n) es) ≡ false) [
  | true ↦ λ h. cc
  | false ↦ λ h. out_of es n h
] none

-- ---- the rows of a chain
nothing_walked : (n : ℕ) (seen : ℕ → Option Record) (row : ℕ) → is_on_walk n seen None row ≡ false
nothing_walked zero seen row = refl
nothing_walked (suc n) seen row = refl

pub eqb_turned : (a b : ℕ) → eqb a b ≡ eqb b a
eqb_turned a b = elim (cases_eq a b) [
  | inl same ↦ rw (eq-eqb a b same, eq-eqb b a (sym same)) refl
  | inr other ↦ rw (ne_eqb a b other, ne_eqb b a (λ e. other (sym e))) refl
]

-- the walk is the chain
pub walk_rows : (n : ℕ) (seen : ℕ → Option Record) (head : ℕ) (chain : List Record) → IsChainFrom seen head chain → length chain ≤ n → (row : ℕ)
    → is_on_walk n seen (Some head) row ≡ is_one (chain_rows head chain) row
walk_rows n seen head [] is few row = absurd is
walk_rows zero seen head (x ∷ xs) is few row = absurd (omega (arith, few))
walk_rows (suc n) seen head (x ∷ xs) is few row =
    rw (is.0, eqb_turned row head)
    (ap (λ b. eqb head row || b) (elim (next_row x) as (λ o. MatchOption o (xs ≡ []) (λ next. IsChainFrom seen next xs) → is_on_walk n seen o row ≡ is_one (chain_rows (unwrap_or o 0) xs) row) [
      | None ↦ λ empty. rw empty (nothing_walked n seen row)
      | Some next ↦ λ under. walk_rows n seen next xs under (omega (arith, few)) row
    ] is.1))

-- from each row of a chain on there is a chain that is no longer
rest_of : (seen : ℕ → Option Record) (head : ℕ) (chain : List Record) → IsChainFrom seen head chain → (row : ℕ) → is_one (chain_rows head chain) row ≡ true
    → (rest : List Record) × IsChainFrom seen row rest × (length rest ≤ length chain)
rest_of seen head [] is row on = absurd is
rest_of seen head (x ∷ xs) is row on = elim (cases_eq head row) [
  | inl same ↦ (x ∷ xs, rw (← same) is, omega arith)
  | inr other ↦
      let below : is_one (chain_rows (unwrap_or (next_row x) 0) xs) row ≡ true = rw (ne_eqb head row other) at on in
      elim (next_row x) as (λ o. MatchOption o (xs ≡ []) (λ next. IsChainFrom seen next xs) → is_one (chain_rows (unwrap_or o 0) xs) row ≡ true →
      (rest : List Record) × IsChainFrom seen row rest × (length rest ≤ suc (length xs))) [
        | None ↦ λ empty h. absurd (let k : false ≡ true = rw empty at h in cc)
        | Some next ↦ λ under h. (let rest = rest_of seen next xs under row h in (rest.0, rest.1, omega arith))
      ] is.1 below
]

-- one chain at most goes from a row on
abbrev pub OneChain : (ℕ → Option Record) → Type 0
OneChain seen = (head : ℕ) → 0 < head → (one two : List Record) → IsChainFrom seen head one → IsChainFrom seen head two → one ≡ two

is_none : (rows : List ℕ) (row : ℕ) → is_one rows row ≡ false → All (λ other. row ≢ other) rows
is_none [] row none k d lt = absurd (omega (arith, lt))
is_none (r ∷ rows) row none zero d lt = λ same. (let h : true ≡ false = rw (eq-eqb r row (sym same)) at none in cc)
is_none (r ∷ rows) row none (suc k) d lt = is_none rows row rest k d (omega (arith, lt))
  where
    rest : is_one rows row ≡ false
    rest = elim (eqb r row) as (λ b. (b || is_one rows row) ≡ false → is_one rows row ≡ false) [
      | true ↦ λ h. cc
      | false ↦ λ h. h
    ] none

-- so no row is there twice
rows_apart : (seen : ℕ → Option Record) (one : OneChain seen) (head : ℕ) (chain : List Record) → IsChainFrom seen head chain
    → ((row : ℕ) → is_one (chain_rows head chain) row ≡ true → 0 < row) → AllPairs (λ one other. one ≢ other) (chain_rows head chain)
rows_apart seen one head [] is some = absurd is
rows_apart seen one head (x ∷ xs) is some = elim (next_row x) as (λ o. next_row x ≡ o → MatchOption o (xs ≡ []) (λ next. IsChainFrom seen next xs) →
    ((row : ℕ) → is_one (chain_rows (unwrap_or o 0) xs) row ≡ true → 0 < row) → AllPairs (λ one other. one ≢ other) (head ∷ chain_rows (unwrap_or o 0) xs)) [
      | None ↦ λ e empty more. rw empty (λ i j d before within. absurd (omega (arith, before, within)))
      | Some next ↦ λ e under more. AllPairs-cons (λ one other. one ≢ other) head (chain_rows next xs)
          (is_none (chain_rows next xs) head (not_below next under)) (rows_apart seen one next xs under more)
    ] refl is.1 (λ row on. some row (or_right (eqb head row) (is_one (chain_rows (unwrap_or (next_row x) 0) xs) row) on))
  where
    not_below : (next : ℕ) → IsChainFrom seen next xs → is_one (chain_rows next xs) head ≡ false
    not_below next under = elim (cases_Bool (is_one (chain_rows next xs) head)) [
      | inr no_more ↦ no_more
      | inl on ↦
          let rest = rest_of seen next xs under head on in
          let first : 0 < head = some head (rw (eq-eqb head head refl) refl) in
          let same : rest.0 ≡ x ∷ xs = one head first rest.0 (x ∷ xs) rest.1 is in
          absurd (let long : length rest.0 ≡ suc (length xs) = ap length same in omega (arith, long))
    ]

-- the walk has the rows of the chain
pub on_chain : (rows : List ℕ) (row : ℕ) → is_one rows row ≡ true → Contains rows row
on_chain rows row on =
    let found = Any-from_list_any (λ r. eqb r row) rows on in
    let same : found.1 ≡ row = eqb-true found.1 row found.4 in
    (found.0, found.2, rw same at found.3)

pub is_on : (rows : List ℕ) (row : ℕ) → Contains rows row → is_one rows row ≡ true
is_on rows row (k, lt, e) = list_any_at (λ r. eqb r row) rows k row lt (rw e (eq-eqb row row refl))

-- ---- what a limbo agrees with then
or_none : (stage : Option Stage) → or_else stage None ≡ stage
or_none None = refl
or_none (Some stage) = refl

module _ (limits : Limits) (actor : ℕ) (last : Option ℕ) where
  taken_agrees : (list : LimboList) (rows : List ℕ) (limbo : known.LimboMark) (row : ℕ) (out : Bool) → is_one rows row ≡ out
      → (IsTrue out → limbo ≡ known.Absent) → Agrees limits actor last (stage_of list row) limbo
      → Agrees limits actor last (stage_of (with_rows rows list) row) (if out then known.Unstamped else limbo)
  taken_agrees list rows limbo row true on absent h =
      let none : stage_in list.entries row ≡ None = absent_stage limits actor last (stage_in list.entries row) (rw (absent refl) at h) in
      rw (stage_append list.entries (map fresh rows) row, none, one_fresh rows row, on) tt
  taken_agrees list rows limbo row false on absent h =
      rw (stage_append list.entries (map fresh rows) row, one_fresh rows row, on, or_none (stage_in list.entries row)) h

  added_agrees : (list : LimboList) (pid : ℕ) (knows : ℕ → known.LimboMark) → knows pid ≡ known.Absent
      → ((n : ℕ) → Agrees limits actor last (stage_of list n) (knows n)) → (n : ℕ)
      → Agrees limits actor last (stage_of (with_entry pid list) n) (replaced_at pid known.Unstamped knows n)
  added_agrees list pid knows absent h n =
      rw (eqb_turned n pid) (taken_agrees list (pid ∷ []) (knows n) n (eqb pid n) (one_of_one (eqb pid n)) (λ same. ap knows (sym (eqb-true pid n same)) ∙ absent) (h n))
    where
      one_of_one : (b : Bool) → (b || false) ≡ b
      one_of_one true = refl
      one_of_one false = refl

  new_one : (list : LimboList) (limit n : ℕ) → list.limit ≡ limit → n < limit → (limbo : known.LimboMark) → limbo ≡ known.Absent → Agrees limits actor last (stage_of list n) limbo → IsNew list n
  new_one list limit n is below limbo absent h = record {
    below = rw is below;
    out = out_of list.entries n (absent_stage limits actor last (stage_in list.entries n) (rw absent at h));
  }

module _ (limits : Limits) (actor : ℕ) (limbo : Limbo) (k : Knowledge) (head : ℕ) (chain : List Record) (kept : AreKept limits actor limbo k.limbo)
    (free : AreOutOfLimbo limits k head) (is : IsChainFrom k.read.seen head chain) (few : length chain ≤ 13) (one : OneChain k.read.seen) where
  walked : (row : ℕ) → is_one (chain_rows head chain) row ≡ true → IsTrue (is_on_walk 13 k.read.seen (Some head) row)
  walked row on = walk_rows 13 k.read.seen head chain is few row ∙ on

  chain_new : All (λ row. IsNew limbo.rows row) (chain_rows head chain)
  chain_new i d lt =
      let row : ℕ = get_or (chain_rows head chain) i d in
      let on : is_one (chain_rows head chain) row ≡ true = list_any_at (λ r. eqb r row) (chain_rows head chain) i d lt (eq-eqb row row refl) in
      let there = free row (walked row on) in
      new_one limits actor k.limbo.epoch limbo.rows limits.rows row kept.lists.rows there.1 (k.limbo.rows row) there.2 (kept.rows row)

  chain_apart : AllPairs (λ one other. one ≢ other) (chain_rows head chain)
  chain_apart = rows_apart k.read.seen one head chain is (λ row on. (free row (walked row on)).0)

  chain_agrees : (row : ℕ) → Agrees limits actor k.limbo.epoch (stage_of (with_rows (chain_rows head chain) limbo.rows) row) (taken_out k.read.seen head k.limbo.rows row)
  chain_agrees row =
      taken_agrees limits actor k.limbo.epoch limbo.rows (chain_rows head chain) (k.limbo.rows row) row (is_on_walk 13 k.read.seen (Some head) row)
      (sym (walk_rows 13 k.read.seen head chain is few row)) (λ on. (free row on).2) (kept.rows row)

  pub chain_taken : IsTakenOut limits actor limbo (chain_rows head chain) None (record k.limbo { rows = taken_out k.read.seen head k.limbo.rows })
  chain_taken = record {
    new = record { apart = chain_apart; new_rows = chain_new; new_pid = tt };
    kept = record { lists = record { rows = kept.lists.rows; pids = kept.lists.pids }; rows = chain_agrees; pids = kept.pids };
  }

  pub page_taken : (page : ℕ) → 0 < page → page < limits.pids → k.limbo.pids page ≡ known.Absent
      → IsTakenOut limits actor limbo (chain_rows head chain) (Some page) (record k.limbo { rows = taken_out k.read.seen head k.limbo.rows; pids = replaced_at page known.Unstamped k.limbo.pids })
  page_taken page some below absent = record {
    new = record
        { apart = chain_apart; new_rows = chain_new; new_pid = new_one limits actor k.limbo.epoch limbo.pids limits.pids page kept.lists.pids below (k.limbo.pids page) absent (kept.pids page) };
    kept = record
        { lists = record { rows = kept.lists.rows; pids = kept.lists.pids }; rows = chain_agrees; pids = added_agrees limits actor k.limbo.epoch limbo.pids page k.limbo.pids absent kept.pids };
  }
