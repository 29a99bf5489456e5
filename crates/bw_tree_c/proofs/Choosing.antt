-- The hand that a receipt is, if it is one of the same log as another hand; else that hand. Assumes `Logic`.
use Rattle.std.proofs.Common.{◌≡◌, ℕ, List, [], ◌∷◌, ap, refl}
use mathlib.Core.Logic.{dite}
use native.Mathlib.Decide.{ℕ_discrete}
use seplogic.Ra.Ura.{Ura}
use base.Logic.{ent, sep}
use types.Logic.{Logic, sem}
use types.Kit.{‵, ◌$◌, ◌∵◌, !, qed, move, drop, fjoin, rewrite, done}
use denote.Steps.{nothing}
use Rattle.atomic_table.specs.Seated.{TableId, badge_owns, seat_owns}
use Rattle.call_log.specs.declared.log.Knows.{Knows}
use Rattle.bw_tree_c.specs.Receipts.{HasViewOf, SeatHand, knows_row}
use Rattle.bw_tree_c.specs.contracts.handle.slots.Inside as inside
use Rattle.bw_tree_c.specs.declared.handle.slots.Inside.{Inside}

tail_of : List ℕ → List ℕ
tail_of [] = []
tail_of (x ∷ xs) = xs

head_of : List ℕ → ℕ
head_of [] = 0
head_of (x ∷ xs) = x

same_numbers : (xs ys : List ℕ) → Dec (xs ≡ ys)
unfolding tail_of head_of
same_numbers [] [] = yes refl
same_numbers [] (y ∷ ys) = no (λ e. cc)
same_numbers (x ∷ xs) [] = no (λ e. cc)
same_numbers (x ∷ xs) (y ∷ ys) = dite (ℕ_discrete x y)
    (λ e. dite (same_numbers xs ys) (λ d. yes (λ i. e i ∷ d i)) (λ n. no (λ p. n (ap tail_of p))))
    (λ n. no (λ p. n (ap head_of p)))

pub same_table : (x y : TableId) → Dec (x ≡ y)
same_table x y = dite (ℕ_discrete x.words y.words)
    (λ a. dite (ℕ_discrete x.slots y.slots)
    (λ b. dite (ℕ_discrete x.views_name y.views_name)
    (λ c. dite (ℕ_discrete x.atom y.atom)
    (λ d. dite (ℕ_discrete x.block y.block)
    (λ e. dite (ℕ_discrete x.offset y.offset)
    (λ f. dite (same_numbers x.slot_names y.slot_names)
    (λ g. yes (λ i. record { words = a i; slots = b i; views_name = c i; atom = d i; block = e i; offset = f i; slot_names = g i }))
    (λ n. no (λ p. n (ap (λ z. z.slot_names) p))))
    (λ n. no (λ p. n (ap (λ z. z.offset) p))))
    (λ n. no (λ p. n (ap (λ z. z.block) p))))
    (λ n. no (λ p. n (ap (λ z. z.atom) p))))
    (λ n. no (λ p. n (ap (λ z. z.views_name) p))))
    (λ n. no (λ p. n (ap (λ z. z.slots) p))))
    (λ n. no (λ p. n (ap (λ z. z.words) p)))

-- one view of the hand's own table, or what the hand has
chosen_by : (which : TableId) (hand : SeatHand) (id : ℕ) (views : List (Knows Inside)) → Dec (which ≡ hand.table_id) → SeatHand
chosen_by which hand id [] d = hand
chosen_by which hand id (v ∷ []) (yes e) = record { marker = hand.marker; table_id = hand.table_id; id = id; me = (v, []) }
chosen_by which hand id (v ∷ []) (no n) = hand
chosen_by which hand id (v ∷ w ∷ views) d = hand

pub chosen : (which : TableId) (id : ℕ) (views : List (Knows Inside)) → SeatHand → SeatHand
chosen which id views hand = chosen_by which hand id views (same_table which hand.table_id)

Told : TableId → List (Knows Inside) → SeatHand → SeatHand → Type 0
Told which views hand it = (it.table_id ≡ hand.table_id) × (it.me.1 ≡ []) × HasViewOf which views hand.table_id it

told_by : (which : TableId) (hand : SeatHand) (id : ℕ) (views : List (Knows Inside)) (d : Dec (which ≡ hand.table_id)) → hand.me.1 ≡ [] → Told which views hand (chosen_by which hand id views d)
unfolding Told chosen_by
told_by which hand id [] d none = (refl, none, λ same view is. cc)
told_by which hand id (v ∷ []) (yes e) none = (refl, refl, λ same view is. cc)
told_by which hand id (v ∷ []) (no n) none = (refl, none, λ same view is. absurd (n same))
told_by which hand id (v ∷ w ∷ views) d none = (refl, none, λ same view is. cc)

pub chosen_told : (which : TableId) (id : ℕ) (views : List (Knows Inside)) (hand : SeatHand) → hand.me.1 ≡ []
    → ((chosen which id views hand).table_id ≡ hand.table_id) × ((chosen which id views hand).me.1 ≡ []) × HasViewOf which views hand.table_id (chosen which id views hand)
unfolding Told chosen chosen_by
chosen_told which id views hand none = told_by which hand id views (same_table which hand.table_id) none

module _ {M : Type 1} {𝓤 : Ura M} (𝓛 : Logic 𝓤) where
  owns_by : (which : TableId) (hand : SeatHand) (id : ℕ) (views : List (Knows Inside)) (d : Dec (which ≡ hand.table_id)) → let it = chosen_by which hand id views d in
      ent 𝓤 (sep 𝓤 (sem 𝓛 (badge_owns knows_row.coded.code which id views)) (sem 𝓛 (seat_owns inside.the_row knows_row.coded.code hand.table_id hand.id hand.me)))
      (sem 𝓛 (seat_owns inside.the_row knows_row.coded.code it.table_id it.id it.me))
  unfolding chosen_by
  owns_by which hand id [] d = qed 𝓛 (‵ (badge_owns knows_row.coded.code which id []) ∷ ‵ (seat_owns inside.the_row knows_row.coded.code hand.table_id hand.id hand.me) ∷ []) ∵ drop ! $ done !
  owns_by which hand id (v ∷ []) (yes e) =
      qed 𝓛 (‵ (badge_owns knows_row.coded.code which id (v ∷ [])) ∷ ‵ (seat_owns inside.the_row knows_row.coded.code hand.table_id hand.id hand.me) ∷ []) ∵
      rewrite ! 0 (λ (z : TableId). ‵ (badge_owns knows_row.coded.code z id (v ∷ []))) e refl $ move ! (1 ∷ []) $ drop ! $ nothing ! $ move ! (1 ∷ 0 ∷ []) $ fjoin ! $ done !
  owns_by which hand id (v ∷ []) (no n) =
      qed 𝓛 (‵ (badge_owns knows_row.coded.code which id (v ∷ [])) ∷ ‵ (seat_owns inside.the_row knows_row.coded.code hand.table_id hand.id hand.me) ∷ []) ∵ drop ! $ done !
  owns_by which hand id (v ∷ w ∷ views) d =
      qed 𝓛 (‵ (badge_owns knows_row.coded.code which id (v ∷ w ∷ views)) ∷ ‵ (seat_owns inside.the_row knows_row.coded.code hand.table_id hand.id hand.me) ∷ []) ∵ drop ! $ done !

  pub chosen_owns : (which : TableId) (id : ℕ) (views : List (Knows Inside)) (hand : SeatHand) → let it = chosen which id views hand in
      ent 𝓤 (sep 𝓤 (sem 𝓛 (badge_owns knows_row.coded.code which id views)) (sem 𝓛 (seat_owns inside.the_row knows_row.coded.code hand.table_id hand.id hand.me)))
      (sem 𝓛 (seat_owns inside.the_row knows_row.coded.code it.table_id it.id it.me))
  unfolding chosen chosen_by
  chosen_owns which id views hand = owns_by which hand id views (same_table which hand.table_id)
