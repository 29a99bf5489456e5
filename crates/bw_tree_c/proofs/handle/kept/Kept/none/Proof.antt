-- `none` owns nothing beside its field.
use Rattle.std.proofs.Common.{[], ◌∷◌, None, refl, lit<}
use base.Logic.{id⊢}
use base.Fml.{ftrue}
use types.Kit.{‵, raw, ◌$◌, ◌∵◌, !, qed, drop, use0, use1, join, fjoin, suffices, done}
use types.Part.{agg}
use types.Run.{enter, lit, no_more, and_then, returns}
use types.ByLocal.{alloc_all, pass_all, free_all, look_at, sets}
use contract.Running.{tables}
use denote.RawPtr.{null_ptr}
use denote.Signature.{type_at}
use denote.Steps.{nothing}
use denote.Triple.Entry.{on_entry}
use denote.Triple.Walked.{says, ends_at}
use Rattle.std.proofs.raw_atomic.Walks.{proved}
use Rattle.bw_tree_c.proofs.Keeping.{word, Data, made}
use Rattle.bw_tree_c.specs.contracts.handle.kept.Kept.none as f
use Rattle.bw_tree_c.proofs.handle.kept.Kept.none.Statement.{statement}
use Rattle.bw_tree_c.proofs.handle.kept.Kept.none.Code as code

pub none_spec : {M : Type 1} → statement M
none_spec 𝓤 𝓛 𝓜 𝓡 wired =
    let c = f.clauses 𝓛 𝓜.mem 𝓡.returns in let 𝓣 = tables 𝓤 𝓛.H 𝓜 𝓡 𝓡.env in
    let To = type_at (f.signature).result tt in let nothing_kept : To.Denot = record { at = null_ptr; value = None } in
    proved 𝓛 f.ended tt c 𝓜 𝓡 tt f.Key.name code.function (code.unfolded 𝓤 𝓛.H 𝓜 𝓡 wired) (λ κs. tt) (λ κs. tt) (λ κs qs bounds a g are.
    qed 𝓛 (raw (on_entry 𝓛 f.signature κs qs a tt) ∷ ‵ ftrue ∷ []) ∵ drop ! $ drop ! $
    enter ! _ _ _ _ _ $ alloc_all ! (λ l. pass_all ! refl tt $
    sets ! (agg ! (and_then ! (lit ! tt) (no_more !))) refl (tt, (record { fits = lit< tt }, tt)) $ returns ! (look_at ! 0 refl) $ free_all ! refl $
    suffices ! _ (ends_at 𝓛 f.ended tt c ((κs, qs, bounds, a, tt), g) (word null_ptr) nothing_kept tt tt) $ says ! refl $
    nothing ! $ use0 𝓛 (‵ (Data.own_val (null_ptr, tt) (word null_ptr ∷ []))) (made 𝓛 null_ptr) $ fjoin ! $ use1 𝓛 (‵ (To.own_val nothing_kept (word null_ptr ∷ []))) (id⊢ 𝓤 _) $
    nothing ! $ join ! $ nothing ! $ join ! $ done !))
