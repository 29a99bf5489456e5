-- `of` keeps what the reference shows for good.
use Rattle.std.proofs.Common.{[], ◌∷◌, ℕ, Some, refl}
use mir.Syntax.{static}
use mir.Val.{vptr}
use base.Logic.{id⊢}
use base.Fml.{ftrue}
use types.Kit.{‵, ◌⊛◌, ◌$◌, ◌∵◌, !, qed, drop, keep, use0, use1, join, split, fsplit, fjoin, suffices, done}
use types.Part.{agg}
use types.Run.{enter, stop, addr, of_opd, no_more, and_then, returns}
use types.ByLocal.{alloc_all, pass_all, free_all, look_at, get, through, sets}
use contract.Running.{tables}
use denote.Builtin.{RefOf}
use denote.Exit.{yes}
use denote.Opens.{unhide}
use denote.RattleType.{owns}
use denote.RawPtr.{block_ptr}
use denote.Ref.{shr_vals, shr_Tells}
use denote.Signature.{plain, type_at, types_at}
use denote.Steps.{nothing}
use denote.Struct.Lending.{lent_at}
use denote.Triple.Walked.{Stays, says, stay_dropped, Goes-dropped, ends_at}
use Rattle.std.proofs.raw_atomic.Walks.{proved}
use Rattle.bw_tree_c.proofs.Keeping.{word, Data, made}
use Rattle.bw_tree_c.specs.contracts.handle.shared.Shared.{the_row as B}
use Rattle.bw_tree_c.specs.contracts.handle.kept.Kept.of as f
use Rattle.bw_tree_c.proofs.handle.kept.Kept.of.Statement.{statement}
use Rattle.bw_tree_c.proofs.handle.kept.Kept.of.Code as code

pub of_spec : {M : Type 1} → statement M
of_spec 𝓤 𝓛 𝓜 𝓡 wired =
    let c = f.clauses 𝓛 𝓜.mem 𝓡.returns in let 𝓣 = tables 𝓤 𝓛.H 𝓜 𝓡 𝓡.env in
    let lent = RefOf [] tt (plain (λ _. B)) (λ _. tt) in let stayed : Stays (f.ended).signature.params (f.ended).kept = (stay_dropped lent yes, tt) in
    let To = type_at (f.signature).result tt in
    proved 𝓛 f.ended stayed c 𝓜 𝓡 (Goes-dropped 𝓛 0 lent yes (λ κs x w. refl), tt) f.Key.name code.function (code.unfolded 𝓤 𝓛.H 𝓜 𝓡 wired)
    (λ κs. (shr_vals, tt)) (λ κs. (shr_Tells static [] B, tt)) (λ κs qs bounds a g are.
    let b : ℕ = a.0.ref_ptr.0 in let o : ℕ = a.0.ref_ptr.1 in let x = a.0.now in let p = block_ptr b o in let kept : To.Denot = record { at = p; value = Some x } in
    qed 𝓛 ((‵ ftrue ⊛ ‵ (owns (types_at (f.ended).signature.params κs) a (vptr b o ∷ [], tt))) ∷ ‵ ftrue ∷ []) ∵
    split ! $ drop ! $ fsplit ! $ fsplit ! $ drop ! $ keep ! (0 ∷ []) $ unhide ! $ nothing ! $ fjoin ! $ use1 𝓛 (‵ (lent_at B p x [])) (id⊢ 𝓤 _) $
    enter ! _ _ _ _ _ $ alloc_all ! (λ l. pass_all ! refl ((tt, tt), tt) $
    sets ! (addr ! (through ! refl (stop !))) refl (tt, tt) $ sets ! (of_opd ! (get ! refl)) refl (tt, tt) $
    sets ! (agg ! (and_then ! (get ! refl) (no_more !))) refl (tt, (tt, tt)) $ returns ! (look_at ! 0 refl) $ free_all ! refl $
    suffices ! _ (ends_at 𝓛 f.ended stayed c ((κs, qs, bounds, a, (vptr b o ∷ [], tt)), g) (word p) kept (tt, tt) (tt, tt)) $ says ! refl $
    use0 𝓛 (‵ (Data.own_val (p, tt) (word p ∷ []))) (made 𝓛 p) $ fjoin ! $ use1 𝓛 (‵ (To.own_val kept (word p ∷ []))) (id⊢ 𝓤 _) $
    nothing ! $ nothing ! $ fjoin ! $ join ! $ nothing ! $ join ! $ done !))
