-- What is kept can be copied, so it is read through a `&` too. Assumes `Logic`.
use Rattle.std.proofs.Common.{◌≡◌, List, [], ◌∷◌, ◌++◌, Option, Some, None, IsSome, refl, sym, ap, ◌∙◌}
use seplogic.Ra.Ura.{Ura}
use mir.Val.{Val, vstruct, vcons, vnil, of_list}
use base.Logic.{ent, sep, emp}
use base.Fml.{ftrue}
use types.Logic.{Logic, sem}
use types.Kit.{‵, ◌⊛◌, ◌$◌, ◌∵◌, !, qed, move, rewrite, split, use1, fsplit, fjoin, done, use0}
use denote.RattleType.{RattleType}
use denote.Laws.{Is, Copy, Tells, shows}
use denote.Copied.{whole-copied}
use denote.Opens.{Opens}
use denote.RawPtr.{Ptr, ptr_val}
use denote.Shadow.{makes_shadow}
use denote.SharingLaws.{contraction}
use denote.Steps.{nothing, peeks}
use denote.Struct.Lending.{lent_at, lent_at_shr_laws}
use denote.Struct.Struct.{Struct}
use denote.Struct.Owning.{shape}
use Rattle.bw_tree_c.specs.contracts.handle.shared.Shared.{the_row as B}
use Rattle.bw_tree_c.proofs.handle.shared.Shared.TheLaws.{the_row_laws as shared_laws}
use Rattle.bw_tree_c.specs.contracts.handle.kept.Kept.{the_row as K, the_type}
use Rattle.bw_tree_c.proofs.handle.kept.Kept.TheLaws.{lowers}
use Rattle.bw_tree_c.specs.Kept.{maybe_lent}

pub the_some : {X : Type 0} (o : Option X) → IsSome o → (x : X) × (o ≡ Some x)
the_some None h = cc
the_some (Some x) h = (x, refl)

abbrev pub word : Ptr → Val
word p = vstruct (vcons (ptr_val p) vnil)

-- its data field
abbrev pub Data : RattleType
Data = Struct (shape the_type)

pub told : (p : Ptr) (vs : List Val) → Is Data (p, tt) vs → vs ≡ word p ∷ []
told p vs is = is.1.0 ∙ ap (λ (ws : List Val). vstruct (of_list (ws ++ [])) ∷ []) is.1.1.0

module _ {M : Type 1} {𝓤 : Ura M} (𝓛 : Logic 𝓤) where
  pub made : (p : Ptr) → ent 𝓤 (emp 𝓤) (sem 𝓛 (Data.own_val (p, tt) (word p ∷ [])))
  made p = makes_shadow 𝓛 (Data.own_val (p, tt) (word p ∷ [])) (λ vss. (tt, (tt, tt))) ((ptr_val p ∷ [], tt), (refl, (refl, tt)))

  pub lent_twice : (p : Ptr) (o : Option B.Denot) → ent 𝓤 (sem 𝓛 (maybe_lent B p o)) (sep 𝓤 (sem 𝓛 (maybe_lent B p o)) (sem 𝓛 (maybe_lent B p o)))
  lent_twice p None = qed 𝓛 (‵ ftrue ∷ []) {P = sep 𝓤 (emp 𝓤) (emp 𝓤)} (nothing ! $ done !)
  lent_twice p (Some x) = contraction 𝓛 (lent_at B p x) (lent_at_shr_laws B shared_laws.shr_laws p x) []

  pub copies : Copy 𝓛 K
  copies = record {
    twice = λ d vs. qed 𝓛 (‵ (K.own_val d vs) ∷ []) ∵ fsplit ! $ peeks ! Data (Is Data) (shows 𝓛 Data) (d.at, tt) vs (λ is. move ! (1 ∷ []) $
        use1 𝓛 (‵ (maybe_lent B d.at d.value) ⊛ ‵ (maybe_lent B d.at d.value)) (lent_twice d.at d.value) $ split ! $ move ! (2 ∷ 0 ∷ []) $ fjoin ! $
        use0 𝓛 (‵ (Data.own_val (d.at, tt) (word d.at ∷ []))) (made d.at) $ rewrite ! 0 (λ (ws : List Val). ‵ (Data.own_val (d.at, tt) ws))
        (sym (told d.at vs is)) refl $ move ! (0 ∷ 2 ∷ []) $ fjoin ! $ done !);
  }

  pub tells : Tells K (Is K) (λ d. lowers.lowered d ∷ [])
  tells d vs is = lowers.val_is d vs is

  pub opened : Opens 𝓛 K
  opened = (whole-copied 𝓛 K (λ x b o. refl) (λ d. lowers.lowered d) tells copies).opens
