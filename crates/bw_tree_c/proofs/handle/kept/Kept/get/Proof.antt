-- `get` shows the block, whose share is copied out of what the handle keeps.
use Rattle.std.proofs.Common.{◌≡◌, [], ◌∷◌, List, ℕ, Some, IsSome, refl, sym, ap, ◌∙◌}
use mir.Syntax.{named}
use mir.Val.{Val, vptr}
use base.Logic.{SProp}
use base.Fml.{Lft, ftrue, flft}
use types.Kit.{‵, raw, ◌⊛◌, at_ret, ◌$◌, ◌∵◌, !, qed, drop, move, keep, use1, join, split, fsplit, fjoin, feq_i, rewrite, suffices, done}
use types.Part.{whole, sub, look_in}
use types.Run.{enter, stop, fld, load, addr, of_opd, returns, first, blocks, exec}
use types.ByLocal.{alloc_all, pass_all, free_all, look_at, get, through, sets, sets_last, env}
use contract.Monad.{fact}
use contract.Running.{tables}
use denote.Builtin.{RefOf}
use denote.Exit.{yes}
use denote.Laws.{Is, shows}
use denote.Memory.{cell_at}
use denote.Opens.{hide}
use denote.RattleType.{owns}
use denote.RawPtr.{Ptr, InBlock, block_ptr, block_of, count_of, at_block}
use denote.Ref.{shr_vals, shr_Tells}
use denote.Signature.{plain, types_at}
use denote.Steps.{nothing, heard, looks, shuts, peeks}
use denote.Struct.Lending.{in_block_says}
use denote.Triple.Walked.{Stays, walk_of, says, stay_dropped, Goes-dropped, ends_at}
use Rattle.std.proofs.raw_atomic.Walks.{proved}
use Rattle.bw_tree_c.proofs.Keeping.{the_some, word, Data, told, copies, opened}
use Rattle.bw_tree_c.specs.Kept.{maybe_lent}
use Rattle.bw_tree_c.specs.contracts.handle.shared.Shared.{the_row as B}
use Rattle.bw_tree_c.specs.contracts.handle.kept.Kept.{the_row as K}
use Rattle.bw_tree_c.specs.contracts.handle.kept.Kept.get as f
use Rattle.bw_tree_c.proofs.handle.kept.Kept.get.Statement.{statement}
use Rattle.bw_tree_c.proofs.handle.kept.Kept.get.Code as code

pub get_spec : {M : Type 1} → statement M
get_spec 𝓤 𝓛 𝓜 𝓡 wired =
    let c = f.clauses 𝓛 𝓜.mem 𝓡.returns in let 𝓣 = tables 𝓤 𝓛.H 𝓜 𝓡 𝓡.env in
    let lent = RefOf (0 ∷ []) tt (plain (λ _. K)) (λ _. tt) in let stayed : Stays (f.ended).signature.params (f.ended).kept = (stay_dropped lent yes, tt) in
    proved 𝓛 f.ended stayed c 𝓜 𝓡 (Goes-dropped 𝓛 1 lent yes (λ κs x w. refl), tt) f.Key.name code.function (code.unfolded 𝓤 𝓛.H 𝓜 𝓡 wired)
    (λ κs. (shr_vals, tt)) (λ κs. (shr_Tells (named 0) κs.0 K, tt)) (λ κs qs bounds a g are.
    let b : ℕ = a.0.ref_ptr.0 in let o : ℕ = a.0.ref_ptr.1 in let κ : Lft = κs.0 in let d = a.0.now in let p : Ptr = d.at in
    let y : (walk_of 𝓛 f.ended stayed c).Ghost = ((κs, qs, bounds, a, (vptr b o ∷ [], tt)), g) in let Post : Val → SProp 𝓤 = (walk_of 𝓛 f.ended stayed c).post y in
    qed 𝓛 (((‵ (flft κ qs.0) ⊛ ‵ ftrue) ⊛ ‵ (owns (types_at (f.ended).signature.params κs) a (vptr b o ∷ [], tt))) ∷ raw (fact 𝓤 (IsSome d.value)) ∷ []) ∵
    move ! (1 ∷ []) $ heard ! (IsSome d.value) (λ some. let x = (the_some d.value some).0 in let e : d.value ≡ Some x = (the_some d.value some).1 in
    split ! $ split ! $ move ! (2 ∷ []) $ fsplit ! $ fsplit ! $ keep ! (1 ∷ 3 ∷ []) $
    enter ! 𝓣.C 𝓣.Λ code.function (vptr b o ∷ []) Post $ alloc_all ! (λ l. pass_all ! refl ((tt, tt), tt) $ let Ev = env code.Mir.locals l in
    looks ! tt K (opened 𝓛) d b o (λ q vs. move ! (1 ∷ []) $ use1 𝓛 (‵ (K.own_val d vs) ⊛ ‵ (K.own_val d vs)) ((copies 𝓛).twice d vs) $ split ! $ fsplit ! $
    peeks ! Data (Is Data) (shows 𝓛 Data) (p, tt) vs (λ is. drop ! $ rewrite ! 0 (λ v. ‵ (maybe_lent B p v)) e refl $ fsplit ! $
    use1 𝓛 (raw (fact 𝓤 (InBlock p))) (in_block_says 𝓛 p) $ heard ! (InBlock p) (λ inb. hide ! $
    let ev : vs ≡ word (block_ptr (block_of p) (count_of p)) ∷ [] = told p vs is ∙ ap (λ (r : Ptr). word r ∷ []) (at_block p inb) in
    -- [the share of the block; what the handle owns; its cell; the way back; the handle's share]
    move ! (2 ∷ []) $ rewrite ! 0 (λ (ws : List Val). ‵ (cell_at q K.mir ws b o)) ev refl $
    sets ! (of_opd ! (load ! (through ! refl (fld ! refl (stop !))) (look_in ! 0 (sub ! 0 refl (whole !))))) refl (tt, tt) $
    rewrite ! 0 (λ (ws : List Val). ‵ (cell_at q K.mir ws b o)) (sym ev) refl $ move ! (0 ∷ 2 ∷ 3 ∷ []) $ shuts ! tt K q d vs b o $
    sets ! (of_opd ! (get ! refl)) refl (tt, tt) $ first ! $ blocks ! $ sets_last ! (addr ! (through ! refl (stop !))) refl (tt, tt) $
    exec ! 𝓣.C 𝓣.Λ Ev code.Mir.t-4 (at_ret Ev Post) $ sets ! (of_opd ! (get ! refl)) refl (tt, tt) $
    returns ! (look_at ! 0 refl) $ free_all ! refl $ keep ! (0 ∷ 1 ∷ []) $
    suffices ! _ (ends_at 𝓛 f.ended stayed c y (vptr (block_of p) (count_of p)) (record { ref_ptr = (block_of p, count_of p); now = x }) (tt, tt) (tt, tt)) $ says ! e $
    move ! (1 ∷ []) $ feq_i ! (List Val) (vptr (block_of p) (count_of p) ∷ []) (vptr (block_of p) (count_of p) ∷ []) refl $ fjoin ! $
    nothing ! $ nothing ! $ fjoin ! $ join ! $ nothing ! $ move ! (2 ∷ 0 ∷ []) $ join ! $ join ! $ done !))))))
