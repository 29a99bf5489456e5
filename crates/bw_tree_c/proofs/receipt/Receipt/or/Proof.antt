-- The receipt's own seat is given in place of the hand, where it is one of the same table: neither has bytes.
use Rattle.atomic_table.proofs.Names.{◌≡◌, [], ◌∷◌, refl, Val, SProp, emp, ‵, raw, ◌⊛◌, ◌$◌, ◌∵◌, !, qed, by, move, keep, split, fsplit, fjoin, use0, use2, returns, enter, alloc_all, pass_all}
use Rattle.atomic_table.proofs.Names.{free_all, look_at, get, sets, of_opd, tables, RattleType, owns, types_at, plain, nothing, heard, alive, Stays, stay_dropped, walk_of, Goes-dropped, fact, fact_i}
use mir.Val.{vstruct, vnil}
use Rattle.atomic_table.proofs.Fields.{token_val, Token, token_made, token_told}
use Rattle.atomic_table.proofs.Walks.{proved, leaves}
use Rattle.atomic_table.specs.Seated.{seat_owns}
use Rattle.atomic_table.specs.contracts.shared.Seat as seat
use Rattle.bw_tree_c.specs.Receipts.{HasViewOf, knows_row}
use Rattle.bw_tree_c.specs.contracts.handle.slots.Inside as inside
use Rattle.bw_tree_c.specs.contracts.receipt.Receipt as receipt
use Rattle.bw_tree_c.specs.contracts.receipt.Receipt.or as f
use Rattle.bw_tree_c.proofs.Choosing.{chosen, chosen_owns, chosen_told}
use Rattle.bw_tree_c.proofs.receipt.Receipt.or.Statement.{statement}
use Rattle.bw_tree_c.proofs.receipt.Receipt.or.Code as code

abbrev no_bytes : Val
no_bytes = vstruct vnil

pub or_spec : {M : Type 1} → statement M
or_spec 𝓤 𝓛 𝓜 𝓡 wired =
    let 𝓣 = tables 𝓤 𝓛.H 𝓜 𝓡 𝓡.env in let En = f.ended in let c = f.clauses 𝓛 𝓜.mem 𝓡.returns in let Rc : RattleType = receipt.the_row in let Sr : RattleType = seat.the_row inside.the_row knows_row in
    let hs : Stays En.signature.params En.kept = (stay_dropped (plain {n = 0} (λ _. Rc)) En.kept.0, (stay_dropped (plain {n = 0} (λ _. Sr)) En.kept.1.0, tt)) in
    proved 𝓛 En hs c 𝓜 𝓡 (Goes-dropped 𝓛 0 (plain (λ _. Rc)) En.kept.0 (λ κs x f. refl), (Goes-dropped 𝓛 0 (plain (λ _. Sr)) En.kept.1.0 (λ κs x f. refl), tt)) f.Key.name code.function
    (code.unfolded 𝓤 𝓛.H 𝓜 𝓡 wired) (λ κs. ((λ _. no_bytes ∷ []), ((λ _. token_val ∷ []), tt)))
    (λ κs. ((λ x vs so. so.0.1.0), ((λ x vs so. token_told inside.the_row knows_row vs so.0), tt))) (λ κs qs bounds a gh are.
    let it : Rc.Denot = a.0 in let h : Sr.Denot = a.1.0 in let r : Sr.Denot = chosen it.table_id it.id it.views h in
    let Told : Type 0 = (r.table_id ≡ h.table_id) × (r.me.1 ≡ []) × HasViewOf it.table_id it.views h.table_id r in
    let y : (walk_of 𝓛 En hs c).Ghost = ((κs, qs, bounds, a, (no_bytes ∷ [], (token_val ∷ [], tt))), gh) in let Post : Val → SProp 𝓤 = (walk_of 𝓛 En hs c).post y in
    qed 𝓛 ((raw (alive 𝓛 En.signature κs qs) ⊛ ‵ (owns (types_at En.signature.params κs) a y.0.4)) ∷ raw (fact 𝓤 (h.me.1 ≡ [])) ∷ []) ∵
    move ! (1 ∷ []) $ heard ! (h.me.1 ≡ []) (λ none. split ! $ move ! (1 ∷ []) $ fsplit ! $ fsplit ! $ move ! (2 ∷ []) $ fsplit ! $ fsplit ! $ keep ! (4 ∷ 1 ∷ 5 ∷ []) $
    use2 𝓛 (‵ (seat_owns inside.the_row knows_row.coded.code r.table_id r.id r.me)) (chosen_owns 𝓛 it.table_id it.id it.views h) $
    use0 𝓛 (‵ ((Token inside.the_row knows_row).own_val (tt, tt) (token_val ∷ []))) (token_made inside.the_row knows_row 𝓛) $ fjoin ! $
    enter ! 𝓣.C 𝓣.Λ code.function (no_bytes ∷ token_val ∷ []) Post $ alloc_all ! (λ l. pass_all ! refl ((tt, tt), ((tt, (tt, tt)), tt)) $
    sets ! (of_opd ! (get ! refl)) refl (tt, (tt, tt)) $
    use0 𝓛 (raw (fact 𝓤 Told)) (fact_i 𝓤 Told (emp 𝓤) (chosen_told it.table_id it.id it.views h none)) $ nothing ! $ nothing ! $ fjoin ! $ nothing ! $ fjoin ! $
    returns ! (look_at ! 0 refl) $ free_all ! refl $ keep ! (3 ∷ 0 ∷ 2 ∷ 1 ∷ []) $ by ! (leaves 𝓛 En hs c y token_val r (tt, (tt, tt)) (tt, (tt, tt))))))
