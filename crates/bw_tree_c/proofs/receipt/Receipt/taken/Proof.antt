-- What a badge owned is the receipt's, and the badge is blank.
use Rattle.atomic_table.proofs.Names.{◌≡◌, ℕ, List, [], ◌∷◌, refl, named, Val, vptr, SProp, emp, ftrue, flft, ‵, raw, ◌⊛◌, ◌$◌, ◌∵◌, !, qed, by, move, keep, split, join, fsplit, fsplit3, fjoin}
use Rattle.atomic_table.proofs.Names.{fjoin3, use0, use1, feq_i, no_more, returns, enter, alloc_all, pass_all, free_all, look_at, sets, agg, tables, RattleType}
use Rattle.atomic_table.proofs.Names.{owns, types_at, type_at, plain, nothing, Stays, walk_of, fact, fact_i, mut_vals, mut_Tells, opens, closes, stay_ref, Goes-ref, makes_shadow}
use mir.Val.{vstruct, vnil}
use base.Logic.{id⊢, ent}
use seplogic.Ra.Ura.{Ura}
use types.Logic.{Logic, sem}
use denote.Struct.Struct.{Struct}
use denote.Struct.Owning.{shape}
use Rattle.atomic_table.proofs.Walks.{proved, leaves}
use Rattle.atomic_table.specs.contracts.badge.Badge as badge
use Rattle.bw_tree_c.specs.contracts.receipt.Receipt.{the_type}
use Rattle.bw_tree_c.specs.contracts.receipt.Receipt.taken as f
use Rattle.bw_tree_c.specs.Receipts.{knows_row}
use Rattle.bw_tree_c.proofs.receipt.Receipt.taken.Statement.{statement}
use Rattle.bw_tree_c.proofs.receipt.Receipt.taken.Code as code

abbrev no_bytes : Val
no_bytes = vstruct vnil

abbrev Data : RattleType
Data = Struct (shape the_type)

made : {M : Type 1} {𝓤 : Ura M} (𝓛 : Logic 𝓤) → ent 𝓤 (emp 𝓤) (sem 𝓛 (Data.own_val tt (no_bytes ∷ [])))
made 𝓛 = makes_shadow 𝓛 (Data.own_val tt (no_bytes ∷ [])) (λ vss. (tt, tt)) (tt, (refl, tt))

pub taken_spec : {M : Type 1} → statement M
taken_spec 𝓤 𝓛 𝓜 𝓡 wired =
    let 𝓣 = tables 𝓤 𝓛.H 𝓜 𝓡 𝓡.env in let Br : RattleType = badge.the_row knows_row in let sitter = plain (λ _. Br) in
    let hs : Stays (f.ended).signature.params (f.ended).kept = (stay_ref (0 ∷ []) tt sitter, tt) in let c = f.clauses 𝓛 𝓜.mem 𝓡.returns in
    proved 𝓛 f.ended hs c 𝓜 𝓡 (Goes-ref 𝓛 1 0 tt sitter, tt) f.Key.name code.function (code.unfolded 𝓤 𝓛.H 𝓜 𝓡 wired)
    (λ κs. (mut_vals, tt)) (λ κs. (mut_Tells (named 0) κs.0 Br, tt)) (λ κs qs bounds a gh are. let To = type_at (f.signature).result κs in
    let b : ℕ = a.0.ref_ptr.0 in let o : ℕ = a.0.ref_ptr.1 in let h : Br.Denot = a.0.now in
    let h' : Br.Denot = record { marker = h.marker; table_id = h.table_id; id = h.id; views = [] } in
    let r : To.Denot = record { table_id = h.table_id; id = h.id; views = h.views } in
    let Told : Type 0 = (r.table_id ≡ h.table_id) × (r.id ≡ h.id) × (r.views ≡ h.views) × (h'.views ≡ []) in
    let y : (walk_of 𝓛 f.ended hs c).Ghost = ((κs, qs, bounds, a, (vptr b o ∷ [], tt)), gh) in let Post : Val → SProp 𝓤 = (walk_of 𝓛 f.ended hs c).post y in
    qed 𝓛 (((‵ (flft κs.0 qs.0) ⊛ ‵ ftrue) ⊛ ‵ (owns (types_at (f.ended).signature.params κs) a y.0.4)) ∷ raw ((c κs a).requires gh) ∷ []) ∵
    split ! $ split ! $ move ! (2 ∷ []) $ fsplit ! $ fsplit3 ! $ keep ! (1 ∷ 2 ∷ 4 ∷ 5 ∷ []) $
    enter ! 𝓣.C 𝓣.Λ code.function (vptr b o ∷ []) Post $ alloc_all ! (λ l. pass_all ! refl ((tt, tt), tt) $
    opens ! tt Br b o (λ ts. move ! (1 ∷ []) $ fsplit ! $ nothing ! $ move ! (1 ∷ 0 ∷ []) $ fjoin ! $ use1 𝓛 (‵ (Br.own_val h' ts)) (id⊢ 𝓤 _) $ move ! (2 ∷ 0 ∷ 3 ∷ 4 ∷ 5 ∷ []) $
    closes ! tt Br h' ts b o $ feq_i ! (List Val) (vptr b o ∷ []) (vptr b o ∷ []) refl $ fjoin3 ! $ nothing ! $ move ! (1 ∷ 0 ∷ []) $ fjoin ! $ move ! (1 ∷ 3 ∷ []) $ join ! $
    sets ! (agg ! (no_more !)) refl (tt, tt) $
    use0 𝓛 (‵ (Data.own_val tt (no_bytes ∷ []))) (made 𝓛) $ move ! (0 ∷ 3 ∷ []) $ fjoin ! $ use1 𝓛 (‵ (To.own_val r (no_bytes ∷ []))) (id⊢ 𝓤 _) $
    use0 𝓛 (raw (fact 𝓤 Told)) (fact_i 𝓤 Told (emp 𝓤) (refl, refl, refl, refl)) $
    returns ! (look_at ! 0 refl) $ free_all ! refl $ keep ! (2 ∷ 3 ∷ 1 ∷ 0 ∷ []) $ by ! (leaves 𝓛 f.ended hs c y no_bytes r (h', tt) (tt, tt)))))
