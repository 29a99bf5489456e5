-- What stays of the tree where an entry doesn't change it.
use Rattle.progress.proofs.Words.{◌≡◌, ◌≢◌, ◌<◌, ◌≤◌, ◌⊎◌, ◌++◌, ℕ, suc, List, [], ◌∷◌, length, true, false, Option, Some, None, refl, sym, ap, ◌∙◌, inl, inr, arith, eqb_tells, MatchOption}
use Rattle.progress.proofs.Words.{Limits, Reply, Answer, Whether, Link, Exchange, Place, Memory, next_row, Record, IsChainFrom, IsChainOf, Entry, Begin, Step, IsNext, memory_after_entry}
use Rattle.progress.proofs.Words.{memory_at, memory_of, pushed_length, slice_get-push, take-push_whole, IsDirect, IsInPhase, MovesPhase, Phase, free, owned, takes, splits, becomes_root, terms}
use Rattle.progress.proofs.Words.{under_root, holds, removes, merges, unterms, reuses, shared_part, IsInTree, IsState, phase_of, slot_some, Knowledge, knows, Happens-kept, memory_of-push}
use Rattle.progress.proofs.Words.{link_of, changes_tree}
use Rattle.progress.proofs.Tallies.{itself}
use Rattle.bw_model.specs.declared.step.Link.TheVariants as link
use Rattle.traces.specs.discipline.Knowledge.{Written, knows_after}
use Rattle.traces.proofs.TraceLaws.{Happens-below, Happens-push_cases}
use Rattle.linearization.specs.Links.{Wins}
use Rattle.tree_law.specs.Owners.{Linked, OwnFits, Reached, Spare}
use Rattle.tree_law.specs.Phase.{Cleared, Fresh, Keeps, Nobody, PageOwner, Placed, Stage}
use Rattle.tree_law.proofs.links.Keeping.{slot_of}
use Rattle.tree_law.proofs.trace.Beginning.{knows-push}
use Rattle.tree_law.proofs.trace.Names.{placed_at, slot_none}
use Rattle.progress.specs.ReadersAmong.{is_change}
use Rattle.progress.proofs.Begun.{one_of}
use Rattle.progress.proofs.rounds.Pages.{Standing}

wins_change : (memory : Memory) (entry : Entry) (actor slot old new : ℕ) (kind : Link) → Wins memory entry actor slot old new kind → is_change (Some kind) ≡ true → changes_tree memory entry ≡ true
wins_change memory entry actor slot old new kind w so = ap (changes_tree memory) w.0.1 ∙ ap is_change w.1 ∙ so

-- an entry that doesn't change the tree moves a page only to be owned or free
moves_few : (memory : Memory) (entry : Entry) (pid : ℕ) (from to : Phase) → changes_tree memory entry ≡ false → MovesPhase memory entry pid from to → (to ≡ owned) ⊎ (to ≡ free)
moves_few memory entry pid from to off (takes a is) = inl refl
moves_few memory entry pid from to off (splits s split i at) = absurd (let on = wins_change memory entry i.0 s i.1 i.2 link.Split i.3 refl in let both : true ≡ false = sym on ∙ off in cc)
moves_few memory entry pid from to off (becomes_root i) = absurd (let on = wins_change memory entry i.0 0 i.1 pid link.Root i.2 refl in let both : true ≡ false = sym on ∙ off in cc)
moves_few memory entry pid from to off (terms s term i at) = absurd (let on = wins_change memory entry i.0 s i.1 i.2 link.Term i.3 refl in let both : true ≡ false = sym on ∙ off in cc)
moves_few memory entry pid from to off (under_root r c key h i j l m) = absurd (let on = wins_change memory entry i.0 0 i.1 r link.Root i.2 refl in let both : true ≡ false = sym on ∙ off in cc)
moves_few memory entry pid from to off (holds s hold i at) = absurd (let on = wins_change memory entry i.0 s i.1 i.2 link.Hold i.3 refl in let both : true ≡ false = sym on ∙ off in cc)
moves_few memory entry pid from to off (removes remove i) = absurd (let on = wins_change memory entry i.0 pid i.1 i.2 link.Remove i.3 refl in let both : true ≡ false = sym on ∙ off in cc)
moves_few memory entry pid from to off (merges s merge c i j at) = absurd (let on = wins_change memory entry i.0 s i.1 i.2 link.Merge i.3 refl in let both : true ≡ false = sym on ∙ off in cc)
moves_few memory entry pid from to off (unterms s unterm i at) = absurd (let on = wins_change memory entry i.0 s i.1 i.2 link.Unterm i.3 refl in let both : true ≡ false = sym on ∙ off in cc)
moves_few memory entry pid from to off (reuses a word c x is in_word) = inr refl

tree_free : (owner : PageOwner) → phase_of owner ≡ free → IsInTree owner → ⊥
tree_free (Placed st l s) e h = by_stage st e
  where
    by_stage : (stage : Stage) → phase_of (Placed stage l s) ≡ free → ⊥
    by_stage Fresh e = cc e
    by_stage stage e = cc e
tree_free (Cleared a l s) e h = cc e
tree_free owner e h = h

tree_owned : (owner : PageOwner) → phase_of owner ≡ owned → IsInTree owner → ⊥
tree_owned (Placed st l s) e h = by_stage st e
  where
    by_stage : (stage : Stage) → phase_of (Placed stage l s) ≡ owned → ⊥
    by_stage Fresh e = cc e
    by_stage stage e = cc e
tree_owned (Cleared a l s) e h = cc e
tree_owned owner e h = h

-- a page that has the phase of one in the tree is in the tree
in_tree_as : (one two : PageOwner) → phase_of one ≡ phase_of two → IsInTree two → IsInTree one
in_tree_as (Placed st l s) two e h = tt
in_tree_as (Cleared a l s) two e h = tt
in_tree_as Nobody two e h = tree_free two (sym e) h
in_tree_as (Keeps a) two e h = tree_owned two (sym e) h

placed_here : (actor placed : ℕ) (content : Record) (answer : Answer Record) (reply : Option Reply) (ks : ℕ → Knowledge)
    → (knows_after ks (Step actor (Place placed content) answer reply) actor).own.rows placed ≡ Written content
placed_here actor placed content answer reply ks = rw (itself actor, itself placed) refl

memory_at_end : (limits : Limits) (entries : List Entry) (entry : Entry) → memory_at limits (entries ++ entry ∷ []) (length entries) ≡ memory_of limits entries
memory_at_end limits entries entry = ap (memory_of limits) (take-push_whole entries (entry ∷ []))

-- slot 0 changes where the tree gets a new root
root_stays : (limits : Limits) (entries : List Entry) (entry : Entry) → IsNext limits entries entry → changes_tree (memory_of limits entries) entry ≡ false
    → (memory_of limits (entries ++ entry ∷ [])).slots 0 ≡ (memory_of limits entries).slots 0
root_stays limits entries entry next off = rw (memory_of-push limits entries entry) (by_entry entry next off)
  where
    by_entry : (e : Entry) → IsNext limits entries e → changes_tree (memory_of limits entries) e ≡ false
        → (memory_after_entry (memory_of limits entries) e).slots 0 ≡ (memory_of limits entries).slots 0
    by_entry (Begin actor command) n o = refl
    by_entry (Step actor (Exchange slot old new) answer reply) n o = elim (eqb_tells ((memory_of limits entries).slots slot) old) [
      | inr apart ↦ rw apart.0 refl
      | inl won ↦ elim (eqb_tells 0 slot) [
        | inr other ↦ rw (won.0, other.0) refl
        | inl same ↦
            let yes : answer ≡ Whether true = n.2 ∙ ap Whether won.0 in
            let at : changes_tree (memory_of limits entries) (Step actor (Exchange slot old new) (Whether true) reply) ≡ false = rw yes at o in
            let zeroth : changes_tree (memory_of limits entries) (Step actor (Exchange 0 old new) (Whether true) reply) ≡ false = rw (← same.1) at at in
            absurd (cc zeroth)
      ]
    ]
    by_entry (Step actor step answer reply) n o = refl

pub reached_in : (least level : ℕ) (low : List ℕ) (owner : PageOwner) → Reached least level low owner → IsInTree owner
reached_in least level low (Placed st l s) r = tt
reached_in least level low (Cleared a l s) r = tt
reached_in least level low owner r = r

module _ (limits : Limits) (entries : List Entry) (entry : Entry) (off : changes_tree (memory_of limits entries) entry ≡ false) where
  abbrev pub grown : List Entry
  grown = entries ++ entry ∷ []

  -- the phase before the entry
  phase_before : (n pid : ℕ) (phase : Phase) → n ≤ length entries → IsInPhase limits grown n pid phase → IsInPhase limits entries n pid phase
  phase_before n pid phase le (inl (m, from, lt, moves, rests)) = elim (Happens-push_cases moves) [
    | inl before ↦ inl (m, from, lt, before, λ i a b low high mv. rests i a b low high (Happens-kept (entry ∷ []) mv))
    | inr at ↦ absurd (let is : m ≡ length entries = at.0 in omega (arith, is, le, lt))
  ]
  phase_before n pid phase le (inr (rests, is)) = inr (λ i a b low high mv. rests i a b low high (Happens-kept (entry ∷ []) mv), is)

  phase_kept : (pid : ℕ) (phase : Phase) → phase ≢ owned → phase ≢ free → IsInPhase limits grown (suc (length entries)) pid phase → IsInPhase limits entries (length entries) pid phase
  phase_kept pid phase not_owned not_free (inl (m, from, lt, moves, rests)) = elim (Happens-push_cases moves) [
    | inl before ↦ inl (m, from, Happens-below before, before, λ i a b low high mv. rests i a b low (omega (arith, high)) (Happens-kept (entry ∷ []) mv))
    | inr at ↦ absurd (elim (moves_few (memory_of limits entries) entry pid from phase off at.1) [ inl is ↦ not_owned is | inr is ↦ not_free is ])
  ]
  phase_kept pid phase not_owned not_free (inr (rests, is)) = inr (λ i a b low high mv. rests i a b low (omega (arith, high)) (Happens-kept (entry ∷ []) mv), is)

  module _ (state : IsState limits entries) (next : IsNext limits entries entry) (later : IsState limits grown) (direct : IsDirect limits grown) where
    -- a page that is in the tree after the entry was in it before
    pub in_tree_before : (pid : ℕ) → IsInTree (later.owners.page pid) → IsInTree (state.owners.page pid)
    in_tree_before pid h =
        let now : IsInPhase limits grown (suc (length entries)) pid (phase_of (later.owners.page pid)) = rw (← pushed_length entries entry) (later.in_phase pid) in
        let before = phase_kept pid (phase_of (later.owners.page pid)) (λ e. tree_owned (later.owners.page pid) e h) (λ e. tree_free (later.owners.page pid) e h) now in
        in_tree_as (state.owners.page pid) (later.owners.page pid) (sym (state.only_phase pid (phase_of (later.owners.page pid)) before)) h

    -- no exchange of the slot of a page of the tree wins
    pub none_wins : (pid : ℕ) → IsInTree (state.owners.page pid) → (actor slot old new : ℕ) (reply : Option Reply) → entry ≡ Step actor (Exchange slot old new) (Whether true) reply → slot ≡ pid → ⊥
    none_wins pid h actor slot old new reply is same =
        let o = one_of limits grown later.run (length entries) actor (Exchange slot old new) (Whether true) (reply, slice_get-push entries entry ∙ ap Some is) in
        let l = direct.links o.operation (length entries) slot old new o.begun o.took in
        let memory : link_of (memory_of limits entries) slot old new ≡ Some l.0 = rw (← memory_at_end limits entries entry) l.1 in
        by_kind l.0 memory l.2
      where
        owned_not : IsInPhase limits grown (length entries) slot owned → ⊥
        owned_not at =
            let before = phase_before (length entries) slot owned (omega arith) at in
            let is : owned ≡ phase_of (state.owners.page slot) = state.only_phase slot owned before in
            tree_owned (state.owners.page slot) (sym is) (rw same h)

        counted : (kind : Link) → link_of (memory_of limits entries) slot old new ≡ Some kind → is_change (Some kind) ≡ true → ⊥
        counted kind at so =
            let on : changes_tree (memory_of limits entries) entry ≡ true = ap (changes_tree (memory_of limits entries)) is ∙ ap is_change at ∙ so in
            let both : true ≡ false = sym on ∙ off in
            cc

        by_kind : (kind : Link) → link_of (memory_of limits entries) slot old new ≡ Some kind → ((kind ≡ link.Ready) ⊎ (kind ≡ link.Undo) → IsInPhase limits grown (length entries) slot owned) → ⊥
        by_kind link.Ready at own = owned_not (own (inl refl))
        by_kind link.Undo at own = owned_not (own (inr refl))
        by_kind kind at own = counted kind at refl

    -- the slot of a page of the tree stays
    pub slot_stays : (pid : ℕ) → IsInTree (state.owners.page pid) → 0 < pid → (memory_of limits grown).slots pid ≡ (memory_of limits entries).slots pid
    slot_stays pid h some = rw (memory_of-push limits entries entry) (by_entry entry refl)
      where
        by_entry : (e : Entry) → entry ≡ e → (memory_after_entry (memory_of limits entries) e).slots pid ≡ (memory_of limits entries).slots pid
        by_entry (Begin actor command) is = refl
        by_entry (Step actor (Exchange slot old new) answer reply) is = elim (eqb_tells ((memory_of limits entries).slots slot) old) [
          | inr apart ↦ rw apart.0 refl
          | inl won ↦ elim (eqb_tells pid slot) [
            | inr other ↦ rw (won.0, other.0) refl
            | inl same ↦
                let told : IsNext limits entries (Step actor (Exchange slot old new) answer reply) = rw is at next in
                let yes : answer ≡ Whether true = told.2 ∙ ap Whether won.0 in
                absurd (none_wins pid h actor slot old new reply (is ∙ ap (λ (a : Answer Record). Step actor (Exchange slot old new) a reply) yes) (sym same.1))
          ]
        ]
        by_entry (Step actor step answer reply) is = refl

    -- a linked row keeps its record
    row_stays : (row : ℕ) → later.owners.row row ≡ Linked → (memory_of limits grown).rows row ≡ (memory_of limits entries).rows row
    row_stays row linked = rw (memory_of-push limits entries entry) (by_entry entry refl)
      where
        own_row : (actor placed : ℕ) (content : Record) (answer : Answer Record) (reply : Option Reply) → entry ≡ Step actor (Place placed content) answer reply
            → (knows grown actor).own.rows placed ≡ Written content
        own_row actor placed content answer reply is =
            let ks : knows grown actor ≡ knows_after (knows entries) entry actor = rw (knows-push entries entry) in
            ap (λ q. q.own.rows placed) ks ∙ ap (λ (x : Entry). (knows_after (knows entries) x actor).own.rows placed) is ∙ placed_here actor placed content answer reply (knows entries)

        by_place : (actor placed : ℕ) (content : Record) (answer : Answer Record) (reply : Option Reply) → entry ≡ Step actor (Place placed content) answer reply → row ≡ placed → ⊥
        by_place actor placed content answer reply is same =
            let owns = later.is_tree.owns actor placed in
            let fits : OwnFits actor (later.owners.row placed) ((shared_part (memory_of limits grown)).rows placed) (Written content) = rw (own_row actor placed content answer reply is) at owns in
            let spare : later.owners.row placed ≡ Spare actor = fits.0 in
            let held : later.owners.row placed ≡ Linked = ap later.owners.row (sym same) ∙ linked in
            let both : Spare actor ≡ Linked = sym spare ∙ held in
            cc

        by_entry : (e : Entry) → entry ≡ e → (memory_after_entry (memory_of limits entries) e).rows row ≡ (memory_of limits entries).rows row
        by_entry (Begin actor command) is = refl
        by_entry (Step actor (Place placed content) answer reply) is = elim (eqb_tells row placed) [
          | inr apart ↦ rw apart.0 refl
          | inl same ↦ absurd (by_place actor placed content answer reply is same.1)
        ]
        by_entry (Step actor step answer reply) is = refl

    -- a chain of linked rows stays
    chain_stays : (chain : List Record) (row : ℕ) → later.owners.row row ≡ Linked → IsChainFrom (memory_of limits entries).rows row chain → IsChainFrom (memory_of limits grown).rows row chain
    chain_stays [] row linked h = h
    chain_stays (newest ∷ under) row linked h =
        let here : (memory_of limits grown).rows row ≡ Some newest = row_stays row linked ∙ h.0 in
        let l = later.is_tree.closed row linked in
        let same : l.content ≡ newest = (let both : Some l.content ≡ Some newest = sym l.stands ∙ here in cc) in
        (here, by_next (next_row newest) (rw (← same) l.next) h.1 (λ n e f. chain_stays under n e f))
      where
        NextLinked : Option ℕ → Type 0
        NextLinked o = MatchOption o (Unit {0}) (λ n. later.owners.row n ≡ Linked)

        by_next : (o : Option ℕ) → NextLinked o → MatchOption o (under ≡ []) (λ n. IsChainFrom (memory_of limits entries).rows n under)
            → ((n : ℕ) → later.owners.row n ≡ Linked → IsChainFrom (memory_of limits entries).rows n under → IsChainFrom (memory_of limits grown).rows n under)
            → MatchOption o (under ≡ []) (λ n. IsChainFrom (memory_of limits grown).rows n under)
        by_next None linked_next is f = is
        by_next (Some n) linked_next is f = f n linked_next is

    pub page_stays : (pid : ℕ) (chain : List Record) → IsInTree (later.owners.page pid) → IsChainOf (memory_of limits entries) pid chain → IsChainOf (memory_of limits grown) pid chain
    page_stays pid chain h is =
        let slot = slot_stays pid (in_tree_before pid h) is.page in
        let linked : 0 < (memory_of limits grown).slots pid = rw slot is.linked in
        let at = placed_at (later.owners.page pid) h in
        record {
          page = is.page;
          linked = linked;
          records = elim (slot_of later.is_tree 0 pid at.0 at.1 at.2) [
            | inl out ↦ absurd (let zeroth = slot_none (memory_of limits grown).slots pid is.page out.0 in omega (arith, zeroth, linked))
            | inr there ↦
                let s = slot_some (memory_of limits grown).slots pid there.0 there.1 in
                let row : later.owners.row ((memory_of limits entries).slots pid) ≡ Linked = ap later.owners.row (sym slot ∙ s.1) ∙ there.2.linked in
                rw slot (chain_stays chain ((memory_of limits entries).slots pid) row is.records)
          ];
        }

-- The tree stands as in an earlier memory, as far as it is in the tree still.
pub record IsSame (limits : Limits) (w : Standing) (entries : List Entry) (state : IsState limits entries) : Type 0 where
  pub root : (memory_of limits entries).slots 0 ≡ w.memory.slots 0
  pub slots : (pid : ℕ) → 0 < pid → IsInTree (state.owners.page pid) → (memory_of limits entries).slots pid ≡ w.memory.slots pid
  pub chains : (pid : ℕ) (chain : List Record) → IsInTree (state.owners.page pid) → IsChainOf w.memory pid chain → IsChainOf (memory_of limits entries) pid chain

pub same_next : (limits : Limits) (w : Standing) (entries : List Entry) (entry : Entry) (state : IsState limits entries) → IsNext limits entries entry
    → (later : IsState limits (entries ++ entry ∷ [])) → IsDirect limits (entries ++ entry ∷ []) → changes_tree (memory_of limits entries) entry ≡ false
    → IsSame limits w entries state → IsSame limits w (entries ++ entry ∷ []) later
same_next limits w entries entry state next later direct off same = record {
  root = root_stays limits entries entry next off ∙ same.root;
  slots =
      λ pid some h. let before = in_tree_before limits entries entry off state next later direct pid h in slot_stays limits entries entry off state next later
      direct pid before some ∙ same.slots pid some before;
  chains =
      λ pid chain h is. let before = in_tree_before limits entries entry off state next later direct pid h in page_stays limits entries entry off state next
      later direct pid chain h (same.chains pid chain before is);
}
