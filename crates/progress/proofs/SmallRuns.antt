-- What hinders whom in small runs.
use Rattle.progress.proofs.Words.{◌≡◌, Some, None, true, refl, inl, inr, Whether, Exchange, TakeRow, Step, Happens, memory_at, insert_and_lookup, page_life, small, Hinders}
use Rattle.bw_model.specs.declared.step.Link.TheVariants as link

pub won : Happens small insert_and_lookup 9 (Hinders 0)
won = record { entry = Step 0 (Exchange 1 1 2) (Whether true) None; at = refl; holds = inl (0, 1, 1, 2, link.Put, ((None, refl), refl), (λ e. cc e), (λ e. cc e)) }

pub taken : Happens small insert_and_lookup 7 (Hinders 1)
taken = record { entry = Step 0 (TakeRow 2) (Whether true) None; at = refl; holds = inr (0, 2, (λ e. cc e), inr (None, refl)) }

pub itself : ¬ Happens small insert_and_lookup 7 (Hinders 0)
itself h = by_kind h.holds
  where
    is : Some (Step 0 (TakeRow 2) (Whether true) None) ≡ Some h.entry
    is = h.at

    by_kind : Hinders 0 (memory_at small insert_and_lookup 7) h.entry → ⊥
    by_kind (inl (a, slot, old, new, kind, w, one, two)) = let e = w.0.1 in cc (is, e)
    by_kind (inr (b, number, ne, inl took)) = let e = took.1 in cc (is, e)
    by_kind (inr (b, number, ne, inr took)) = ne (let e = took.1 in cc (is, e))

pub filled : ¬ Happens small page_life 11 (Hinders 1)
filled h = by_kind h.holds
  where
    is : Some (Step 0 (Exchange 2 0 2) (Whether true) None) ≡ Some h.entry
    is = h.at

    by_kind : Hinders 1 (memory_at small page_life 11) h.entry → ⊥
    by_kind (inl (a, slot, old, new, kind, w, one, two)) =
        let e = w.0.1 in
        let s : slot ≡ 2 = cc (is, e) in
        let o : old ≡ 0 = cc (is, e) in
        let links : Some link.Ready ≡ Some kind = rw (s, o) at w.1 in
        one (cc links)
    by_kind (inr (b, number, ne, inl took)) = let e = took.1 in cc (is, e)
    by_kind (inr (b, number, ne, inr took)) = let e = took.1 in cc (is, e)
