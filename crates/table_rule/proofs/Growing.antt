-- The longest run only grows at its end.
use Rattle.table_rule.proofs.Words.{Begin, Bool, Command, Entry, Extends, Idle, IsSeen, Limits, List, Moment, Noted, Part, PartFits, Reach, Running, StartsWith}
use Rattle.table_rule.proofs.Words.{Writing, ap, append_assoc, false, if◌then◌else◌, inl, inr, is_entry_of, own_entries, refl, subst, sym, true, ℕ, [], ◌++◌}
use Rattle.table_rule.proofs.Words.{◌∙◌, ◌∷◌, ◌≡◌, ◌≢◌, ◌⊎◌}
use Rattle.table_rule.specs.Growing.{HasSat, HasSeen, HistoryGrows, KeepsRealTime}
use Rattle.table_rule.proofs.Longest.{each_get, is_own, longest_seen}
use Rattle.table_rule.proofs.Later.{sees_on, starts}
use Rattle.table_rule.proofs.Parts.{Stands, goes_extends, starts_on}

stands_by : (reach : Reach) → reach ≢ Noted → Stands reach
stands_by Idle stands = tt
stands_by (Writing row first words) stands = tt
stands_by Noted stands = absurd (stands refl)

-- what a part has seen begins the longest run
pub begun_by : (limits : Limits) (law : List Entry → Type 0) (s : Moment) (now : Running limits law s) (actor : ℕ) (seen : List Entry)
    → HasSeen s.views actor seen → StartsWith now.run seen
begun_by limits law s now actor seen has =
    let fit : PartFits limits s.words now.run has.part = each_get (PartFits limits s.words now.run) has.view has.place has.part (now.each has.id has.view has.at) has.there in
    subst (StartsWith now.run) has.saw (starts has.part.reach has.part.actor has.part.seen now.run fit.extends)

pub cancel : (front one other : List Entry) → front ++ one ≡ front ++ other → one ≡ other
cancel [] one other e = e
cancel (entry ∷ front) one other e = cancel front one other (let same = e in cc)

-- of two fronts of one run the first begins the second, or goes on behind it
pub fronts : (first second more rest : List Entry) → first ++ more ≡ second ++ rest → StartsWith second first ⊎ ((entry : Entry) × (behind : List Entry) × (first ≡ second ++ entry ∷ behind))
fronts [] second more rest e = inl (second, refl)
fronts (entry ∷ first) [] more rest e = inr (entry, first, refl)
fronts (one ∷ first) (other ∷ second) more rest e = by (fronts first second more rest (let same = e in cc))
  where
    heads : one ≡ other
    heads = let same = e in cc

    by : StartsWith second first ⊎ ((entry : Entry) × (behind : List Entry) × (first ≡ second ++ entry ∷ behind))
        → StartsWith (other ∷ second) (one ∷ first) ⊎ ((entry : Entry) × (behind : List Entry) × (one ∷ first ≡ other ∷ second ++ entry ∷ behind))
    by (inl goes) = inl (goes.0, let is = goes.1 in cc)
    by (inr goes) = inr (goes.0, goes.1, let is = goes.2 in cc)

has_own : (actor : ℕ) (command : Command) (front behind : List Entry) → own_entries actor (front ++ Begin actor command ∷ behind) ≢ []
has_own actor command [] behind none =
    let one : Begin actor command ∷ own_entries actor behind ≡ [] =
    sym (ap (λ (own : Bool). if own then Begin actor command ∷ own_entries actor behind else own_entries actor behind) (is_own actor (Begin actor command) refl)) ∙ none in cc
has_own actor command (entry ∷ front) behind none = by (is_entry_of actor entry) (has_own actor command front behind) none
  where
    by : (own : Bool) → own_entries actor (front ++ Begin actor command ∷ behind) ≢ []
        → (if own then entry ∷ own_entries actor (front ++ Begin actor command ∷ behind) else own_entries actor (front ++ Begin actor command ∷ behind)) ≢ []
    by true more none = cc
    by false more none = more none

pub history_grows : (limits : Limits) (law : Limits → List Entry → Type 0) → HistoryGrows limits law
history_grows limits law s t now later on =
    let found : IsSeen s.views now.run = longest_seen limits (law limits) s now in
    let had : HasSeen s.views found.part.actor now.run =
    record { id = found.id; view = found.view; at = found.at; place = found.place; part = found.part; there = found.there; own = refl; saw = found.saw } in
    let kept = sees_on law s t on found.part.actor now.run had in
    starts_on now.run kept.0 later.run kept.2 (begun_by limits (law limits) t later found.part.actor kept.0 kept.1)

-- what a seat has seen the longest run goes on from by steps of others alone
pub sat_extends : (limits : Limits) (law : List Entry → Type 0) (s : Moment) (now : Running limits law s) (actor : ℕ) (seen : List Entry) → HasSat s.views actor seen → Extends actor seen now.run
sat_extends limits law s now actor seen sat =
    let one : Part = sat.saw.part in
    let fit : PartFits limits s.words now.run one = each_get (PartFits limits s.words now.run) sat.saw.view sat.saw.place one (now.each sat.saw.id sat.saw.view sat.saw.at) sat.saw.there in
    let goes : Extends one.actor one.seen now.run = goes_extends one.reach one.actor one.seen now.run (stands_by one.reach sat.stands) fit.extends in
    rw (← sat.saw.saw) (rw (← sat.saw.own) goes)

pub real_time : (limits : Limits) (law : Limits → List Entry → Type 0) → KeepsRealTime limits law
real_time limits law s t u now later on on' actor other before old run rest command saw sat has extends =
    starts_on before now.run run before_now (by (fronts now.run run grown.0 (Begin other command ∷ (rest ++ began.0)) one_run))
  where
    before_now : StartsWith now.run before
    before_now = let kept = sees_on law s t on actor before saw in starts_on before kept.0 now.run kept.2 (begun_by limits (law limits) t now actor kept.0 kept.1)

    grown : StartsWith later.run now.run
    grown = history_grows limits law t u now later on'

    began : StartsWith later.run (run ++ Begin other command ∷ rest)
    began = begun_by limits (law limits) u later other (run ++ Begin other command ∷ rest) has

    one_run : now.run ++ grown.0 ≡ run ++ (Begin other command ∷ (rest ++ began.0))
    one_run = sym grown.1 ∙ began.1 ∙ append_assoc run (Begin other command ∷ rest) began.0

    stand : Extends other old now.run
    stand = sat_extends limits (law limits) t now other old sat

    by : StartsWith run now.run ⊎ ((entry : Entry) × (behind : List Entry) × (now.run ≡ run ++ entry ∷ behind)) → StartsWith run now.run
    by (inl goes) = goes
    by (inr goes) =
        let entry : Entry = goes.0 in
        let behind : List Entry = goes.1 in
        let both : run ++ (entry ∷ (behind ++ grown.0)) ≡ run ++ (Begin other command ∷ (rest ++ began.0)) =
        sym (append_assoc run (entry ∷ behind) grown.0) ∙ ap (λ (r : List Entry). r ++ grown.0) (sym goes.2) ∙ one_run in
        let tails : entry ∷ (behind ++ grown.0) ≡ Begin other command ∷ (rest ++ began.0) = cancel run (entry ∷ (behind ++ grown.0)) (Begin other command ∷ (rest ++ began.0)) both in
        let is : entry ≡ Begin other command = cc in
        let all : old ++ stand.0 ≡ old ++ (extends.0 ++ Begin other command ∷ behind) =
        sym stand.1 ∙ goes.2 ∙ ap (λ (e : Entry). run ++ e ∷ behind) is ∙ ap (λ (r : List Entry). r ++ Begin other command ∷ behind) extends.1
        ∙ append_assoc old extends.0 (Begin other command ∷ behind) in
        let others : stand.0 ≡ extends.0 ++ Begin other command ∷ behind = cancel old stand.0 (extends.0 ++ Begin other command ∷ behind) all in
        absurd (has_own other command extends.0 behind (ap (own_entries other) (sym others) ∙ stand.2))
