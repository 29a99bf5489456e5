-- What is in store after a split: each side has 7 items at least.
use Rattle.tree_law.proofs.Words.{◌⊎◌, [], ap, refl, Option, suc, None, List, ◌≢◌, length, ◌≤◌, ◌∷◌, sym, ℕ, ◌≡◌, ◌∙◌, ◌<◌, arith, Some, ◌+◌, ◌*◌, ◌-◌, Update, Key, Record, Split, SplitOf}
use Rattle.tree_law.proofs.Words.{IsChainFrom, level_in, low_in, content_in, content_at, is_below, covers, HasRead, FitsOver, Knowledge, Written, Owners, Shared, IsTree, Placed, PageOwner}
use Rattle.tree_law.proofs.Words.{Keeps, Fresh, put, phase_of, free, IsSome, IsFalse, IsTrue, IsFitted, base_from, MaySplit, Covers, ContentOf, Page, Makes, belongs, ruled, IsWorth, from_low}
use Rattle.tree_law.proofs.Words.{is_alive, total}
use Rattle.linearization.specs.Halves.{AreHalves}
use Rattle.tree_law.proofs.shape.KeyOrder.{below_not, covers_from, covers_to, upto_trans}
use Rattle.tree_law.proofs.shape.Puts.{put_other, put_same}
use Rattle.tree_law.proofs.links.Relinking.{Found, placed_row}
use Rattle.tree_law.proofs.changes.Alive.{worth_least, worth_most}
use Rattle.tree_law.proofs.changes.Bases.{ascends, in_range}
use Rattle.tree_law.proofs.changes.Counting.{Has, fewer}
use Rattle.tree_law.proofs.changes.Delta.{Balances, alive, here, kept, lives, lives', lives_move, p_within, place, within_limit}
use Rattle.tree_law.proofs.changes.Items.{halves_fit, halves_have_all, same_items}
use Rattle.tree_law.proofs.changes.Lives.{at_most}
use Rattle.tree_law.proofs.changes.Totals.{two}

-- a fitted chain has content only in its range
covered : (chain : List Record) → IsFitted chain → (page : Page) → Makes chain page → (key : Key) → IsSome (content_in chain key) → IsTrue (covers chain key)
covered chain fitted page makes key some = by_content (content_in chain key) refl some
  where
    by_content : (content : Option ContentOf) → content_in chain key ≡ content → IsSome content → IsTrue (covers chain key)
    by_content None e some = absurd (cc)
    by_content (Some content) e some =
        let b = belongs page (ruled chain page fitted makes).is_page key content (makes.items.contents key ∙ e) in
        rw makes.low at (rw makes.high at b.within)

not_empty : (chain : List Record) → IsFitted chain → 1 ≤ length chain
not_empty [] h = absurd h
not_empty (newest ∷ under) h = omega arith

module _ {m : Shared} {log : List Update} {o : Owners} {knows : ℕ → Knowledge} {point : ℕ → Option (List Update)} {logs : ℕ → List (List Update)} (g : IsTree m log o knows point logs) (a n : ℕ)
    (below : (page : ℕ) → (phase_of (o.page page) ≡ free) ⊎ ((0 < page) × (page < n))) (o' : Owners) (p x y : ℕ) (at : m.slots p ≡ Some x) (basis : HasRead (knows a) p x)
    (worths worths' : ℕ → ℕ) (each : (page : ℕ) → IsWorth o m page (worths page)) (each' : (page : ℕ) → IsWorth o' (record m { slots = put m.slots p (Some y) }) page (worths' page)) where
  module _ (fitted : IsFitted basis.chain) (content : Record) (written : (knows a).own.rows y ≡ Written content) (h : MaySplit (knows a) x basis.chain content) where
    abbrev split : SplitOf
    split = record { level = level_in basis.chain; next = x; separator = h.separator; page = h.right }

    abbrev base : Record
    base = base_from basis.chain h.separator h.items

    -- the new page begins inside the old one
    inside : (key : Key) → Has h.items key → Covers (base ∷ []) key × IsTrue (covers basis.chain key)
    inside key has =
        let c : Covers (base ∷ []) key = covers_from (base ∷ []) key (in_range basis.chain h.separator h.items h.ruled key has) in
        (c, covers_to basis.chain key (record { low = upto_trans (low_in basis.chain) h.separator key (below_not (low_in basis.chain) h.separator h.above) c.low; high = c.high }))

    upper_above : (key : Key) → Has h.items key → IsFalse (is_below key h.separator) × IsSome (content_in basis.chain key)
    upper_above key has = let i = inside key has in (i.0.low, (let same : content_at h.items key ≡ content_in basis.chain key = h.alike key i.1 i.0.low in rw same at has))

    module _ (over : FitsOver basis.chain (Split split)) where
      alike : (key : Key) → IsSome (content_in basis.chain key) → IsFalse (is_below key h.separator) → content_at h.items key ≡ content_in basis.chain key
      alike key some not_below = h.alike key (covered basis.chain fitted over.page over.makes key some) not_below

      fit : length over.made.items + length h.items ≤ length over.page.items
      fit = halves_fit basis.chain over.page.items over.makes.items split over.made.items over.makes_now.items h.items (ascends basis.chain h.separator h.items h.ruled) alike upper_above

      all : length over.page.items ≤ length over.made.items + length h.items
      all = halves_have_all basis.chain over.page.items over.makes.items split over.made.items over.makes_now.items h.items (ascends basis.chain h.separator h.items h.ruled) alike upper_above

      pub split_store : (level : ℕ) → AreHalves basis.chain h.items → o.page h.right ≡ Keeps a → o'.page ≡ put o.page h.right (Placed Fresh level h.separator)
          → Balances g a n below o' p x y at basis worths worths' each each' 1 0
      split_store level halves own moves =
          let w : Record = Split split in
          let q : ℕ = h.right in
          let to : PageOwner = Placed Fresh level h.separator in
          let f : Found o m p x basis.chain = here g a n below o' p x y at basis worths worths' each each' in
          let is_placed = place g a n below o' p x y at basis worths worths' each each' in
          let apart : p ≢ q = λ e. absurd (let twice : Placed is_placed.stage (level_in basis.chain) (low_in basis.chain) ≡ Keeps a = sym is_placed.placed ∙ ap o.page e ∙ own in cc) in
          let q_within : q < n = within_limit n q (o.page q) (Keeps a) (below q) own (λ e. cc) in
          let others : (page : ℕ) → page ≢ q → o'.page page ≡ o.page page = λ page ne. ap (λ (f : ℕ → PageOwner). f page) moves ∙ put_other o.page q to page ne in
          let now_is : o'.page q ≡ to = rw moves (put_same o.page q to) in
          let m' : Shared = record m { slots = put m.slots p (Some y) } in
          let stands : IsChainFrom m.rows y (w ∷ basis.chain) = (placed_row g a y w (written ∙ ap Written h.is), f.stands) in
          let lower : worths' p ≤ (suc (length basis.chain) - 1) + 6 * (length over.made.items - 7) =
          worth_most o' m' p (worths' p) (each' p) y (w ∷ basis.chain) (length over.made.items) (put_same m.slots p (Some y)) stands
          (λ items are. same_items (w ∷ basis.chain) over.made.items over.makes_now.items items are) in
          let ready : m.slots q ≡ Some h.row = (rw h.ready at (g.owns_pages a q)).1 in
          let upper : worths' q ≤ (1 - 1) + 6 * (length h.items - 7) =
          worth_most o' m' q (worths' q) (each' q) h.row (base ∷ []) (length h.items) (put_other m.slots p (Some y) q (λ e. apart (sym e)) ∙ ready) (placed_row g a h.row base h.base, refl)
          (λ items are. fewer items h.items are.ascending (λ key has. rw (are.contents key) at has)) in
          let old : (length basis.chain - 1) + 6 * (length over.page.items - 7) ≤ worths p =
          worth_least o m p (worths p) (each p) (alive g a n below o' p x y at basis worths worths' each each') x basis.chain over.page.items at f.stands over.makes.items in
          let moved : total worths' n + (worths p + worths q) ≤ total worths n + (worths' p + worths' q) =
          two worths worths' p q n (p_within g a n below o' p x y at basis worths worths' each each') q_within apart
          (λ page lt ne ne'. kept g a n below o' p x y at basis worths worths' each each' page ne (λ is. sym (ap is_alive (others page ne')) ∙ is)) in
          let lived : total (lives' g a n below o' p x y at basis worths worths' each each') n + 0 ≤ total (lives g a n below o' p x y at basis worths worths' each each') n + from_low h.separator 40 =
          rw own at (rw now_is at (lives_move g a n below o' p x y at basis worths worths' each each' q q_within others)) in
          let most : from_low h.separator 40 ≤ 40 = at_most h.separator 40 in
          let some : 1 ≤ length basis.chain = not_empty basis.chain fitted in
          let high : 7 ≤ length h.items = halves.upper in
          let low : 7 + length h.items ≤ length over.page.items = halves.lower over.page.items over.makes.items in
          let fits : length over.made.items + length h.items ≤ length over.page.items = fit in
          let whole : length over.page.items ≤ length over.made.items + length h.items = all in
          omega arith
