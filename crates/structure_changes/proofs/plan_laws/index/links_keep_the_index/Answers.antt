use Rattle.structure_changes.proofs.Words.{◌⊎◌, ◌∷◌, [], sym, ap, subst, Record, Hold, Term, Unterm, content_in, split_to}
use Rattle.deltas.specs.declared.record.Record.TheVariants as kind
use Rattle.structure_changes.specs.Linking.{Decides}
use Rattle.structure_changes.proofs.MapKept.{from_left, from_removed, halves}
use Rattle.structure_changes.proofs.plan_laws.index.links_keep_the_index.Goals as goal

pub returns-clause-term : goal.returns-clause-term
returns-clause-term c = λ parent page term key is. ap (λ (t : Term). content_in (kind.Term t ∷ parent.chain) key) is.is

pub returns-clause-hold : goal.returns-clause-hold
returns-clause-hold c = λ parent page hold key is. ap (λ (h : Hold). content_in (kind.Hold h ∷ parent.chain) key) is.is

pub returns-clause-unterm : goal.returns-clause-unterm
returns-clause-unterm c = λ parent left removed unterm key is. ap (λ (u : Unterm). content_in (kind.Unterm u ∷ parent.chain) key) is.is

pub returns-clause-root : goal.returns-clause-root
returns-clause-root c = λ left right root key is. ap (λ (r : Record). content_in (r ∷ []) key) is.is

pub returns-clause-split : goal.returns-clause-split
returns-clause-split c = λ page plan right key is within.
    subst
    (λ (r : Record). Decides (kind.Split (split_to plan right) ∷ page.chain) key (content_in page.chain key) ⊎ Decides (r ∷ []) key (content_in page.chain key))
    (sym is.base) (halves page plan right is key within)

pub returns-clause-merge_left : goal.returns-clause-merge_left
returns-clause-merge_left c = λ left removed merge key is rules rules_removed within.
    rw is.is (from_left left removed merge is rules rules_removed key within)

pub returns-clause-merge_removed : goal.returns-clause-merge_removed
returns-clause-merge_removed c = λ left removed merge key is rules rules_removed within.
    rw is.is (from_removed left removed merge is rules rules_removed key within)
