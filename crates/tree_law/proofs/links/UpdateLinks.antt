-- A step makes an update exactly where it links a put or a delete.
use Rattle.tree_law.proofs.Words.{ap, refl, Option, suc, None, List, true, inl, inr, subst, sym, ℕ, ◌≡◌, zero, ◌∙◌, Some, eqb, same_Some, option_map, IsSome, IfSome, Update, Reply, Answer, Whether}
use Rattle.tree_law.proofs.Words.{Link, StepOf, Exchange, record_link, Memory, Record, Base, Put, Delete, low_in, level_in, May, MayExchange, MayLink, Knowledge, after_reply, learn, Other}
use Rattle.tree_law.proofs.Words.{Written, linked_over, IsAnswer, memory_after, link_without, link_of, IsUpdateLink, After, IsDue, Owners, LinkFits, shared_part, row_in, IsTree}
use Rattle.bw_model.specs.declared.step.Link.TheVariants as link
use Rattle.tree_law.specs.Next.{log_at_point}
use Rattle.tree_law.proofs.trace.Phasing.{link_ready, link_empty, link_front}
use Rattle.tree_law.proofs.shape.Puts.{put_same, eqb_true}
use Rattle.tree_law.proofs.links.Relinking.{not_own, found, place_of}
use Rattle.tree_law.proofs.links.Learning.{learning, wins, leaves}
use Rattle.tree_law.proofs.links.Exchanged.{exchanging, updates}

unfoldable pub IsLinked : Knowledge → Type 0
IsLinked k = IsSome k.asked.linked

unlinked : (k : Knowledge) → k.asked.linked ≡ None → IsLinked k → ⊥
unfolding IsLinked
unlinked k none some = let f : None ≡ k.asked.linked = sym none in cc

-- a row whose link makes the operation's update
record LinksRow (k : Knowledge) (new : ℕ) : Type 0 where
  content : Record
  placed : k.own.rows new ≡ Written content
  kind : IsUpdateLink (record_link content)

-- an exchange that won and linked a row of the actor's on a page that isn't its own
record LinksOwn (k : Knowledge) (s : StepOf Record) (x : Answer Record) : Type 0 where
  page : ℕ
  old : ℕ
  new : ℕ
  step : s ≡ Exchange (suc page) old (suc new)
  won : x ≡ Whether true
  other : k.own.pages (suc page) ≡ Other
  row : LinksRow k (suc new)

links_own : (k : Knowledge) (s : StepOf Record) (x : Answer Record) → k.asked.linked ≡ None → IsLinked (learn k s x) → LinksOwn k s x
unfolding IsLinked
links_own k s x none h = (elim (learning k s x) as (λ s x k' v. IsLinked k' → LinksOwn k s x) [
  | wins p old new ↦ elim (exchanging p old new k) as (λ p x y k' v. IsLinked k' → LinksOwn k (Exchange p x y) (Whether true)) [
    | updates p x y w o e u ↦ λ h. record { page = p; old = x; new = y; step = refl; won = refl; other = o; row = record { content = w; placed = e; kind = u } }
    | v ↦ λ h. absurd (unlinked k none h)
  ]
  | leaves y ↦ λ h. absurd (cc)
  | v ↦ λ h. absurd (unlinked k none h)
]) h

no_front_update : (v : Option Record) (kind : Link) → option_map link_without v ≡ Some kind → IsUpdateLink kind → ⊥
no_front_update None kind e u = cc
no_front_update (Some (Base w)) kind e u = elim u [ inl f ↦ cc | inr f ↦ cc ]
no_front_update v kind e u = elim u [ inl f ↦ cc | inr f ↦ cc ]

no_update : (kind other : Link) → Some other ≡ Some kind → (IsUpdateLink other → ⊥) → IsUpdateLink kind → ⊥
no_update kind other e f u = f (rw (same_Some other kind e) u)

update_due : (a : ℕ) (k : Knowledge) (page old : ℕ) (chain : List Record) (content : Record) → MayLink a k page old chain content → IsUpdateLink (record_link content) → k.asked.linked ≡ None
update_due a k page old chain (Put w) h u = h.unlinked
update_due a k page old chain (Delete w) h u = h.unlinked
update_due a k page old chain content h u = elim u [ inl f ↦ absurd (cc) | inr f ↦ absurd (cc) ]

row_linked : (content : Record) (old new : ℕ) (k : Knowledge) → IsUpdateLink (record_link content) → IsLinked (linked_over (Written content) old new k)
unfolding IsLinked
row_linked (Put w) old new k u = refl
row_linked (Delete w) old new k u = refl
row_linked content old new k u = elim u [ inl f ↦ absurd (cc) | inr f ↦ absurd (cc) ]

-- an exchange that won links an update
pub record LinksNow (m : Memory) (s : StepOf Record) (x : Answer Record) : Type 0 where
  pub slot : ℕ
  pub old : ℕ
  pub new : ℕ
  pub kind : Link
  pub step : s ≡ Exchange slot old new
  pub won : x ≡ Whether true
  pub link : link_of m slot old new ≡ Some kind
  pub update : IsUpdateLink kind

module _ (m : Memory) {log : List Update} {o : Owners} {knows : ℕ → Knowledge} {point : ℕ → Option (List Update)} {logs : ℕ → List (List Update)}
    (g : IsTree (shared_part m) log o knows point logs) (a : ℕ) where
  -- an own row has what was placed there
  stands : (row : ℕ) (content : Record) → (knows a).own.rows row ≡ Written content → m.rows row ≡ Some content
  stands row content e = (rw e at (g.owns a row)).1

  -- what an exchange that links an update leaves known
  pub learns_update : (page old new : ℕ) (kind : Link) → MayExchange a (knows a) page old new → m.slots page ≡ old → link_of m page old new ≡ Some kind → IsUpdateLink kind
      → ((knows a).asked.linked ≡ None) × IsLinked (learn (knows a) (Exchange page old new) (Whether true))
  learns_update zero old new kind may at e u = absurd (no_update kind link.Root e (λ v. elim v [ inl f ↦ cc | inr f ↦ cc ]) u)
  learns_update (suc page) zero new kind may at e u = absurd (no_update kind link.Ready (sym (link_ready m page new) ∙ e) (λ v. elim v [ inl f ↦ cc | inr f ↦ cc ]) u)
  learns_update (suc page) (suc old) zero kind may at e u = absurd (no_front_update (m.rows (suc old)) kind (sym (link_empty m page old) ∙ e) u)
  learns_update (suc page) (suc old) (suc new) kind may at e u =
      let place = place_of g a (suc page) (suc old) may.basis.chain (found g a (suc page) (suc old) may.basis) may.basis.alive (ap row_in at) in
      let other : (knows a).own.pages (suc page) ≡ Other = not_own g a (suc page) (level_in may.basis.chain) (low_in may.basis.chain) place.stage place.placed
      ((knows a).own.pages (suc page)) (g.owns_pages a (suc page)) in
      let kind_is : Some (record_link may.content) ≡ Some kind = ap (option_map record_link) (sym (stands (suc new) may.content may.placed)) ∙ sym (link_front m page old new) ∙ e in
      let update : IsUpdateLink (record_link may.content) = rw (same_Some (record_link may.content) kind kind_is) u in (
        update_due a (knows a) (suc page) (suc old) may.basis.chain may.content may.due update,
        rw other (rw may.placed (row_linked may.content (suc old) (suc new) (knows a) update)),
      )

  module _ (s : StepOf Record) (x : Answer Record) (r : Option Reply) (may : May a (knows a) s) (is : IsAnswer m s x)
      (n : After a (shared_part m) (shared_part (memory_after a s m)) log o knows point logs s x r) where
    after : LinkFits n.owners (shared_part (memory_after a s m)) (log_at_point log n.update (point a)) (learn (knows a) s x).asked.linked
    after = subst (λ (z : Option (List Update) × Option (Option ℕ)). LinkFits n.owners (shared_part (memory_after a s m)) z.0 z.1)
        (λ i. (
          put_same point a (log_at_point log n.update (point a)) i,
          ap (λ (k : Knowledge). k.asked.linked) (put_same knows a (after_reply (learn (knows a) s x) r)) i,
        )) (n.is_tree.sound a).linked_fits

    -- an update is linked by the step
    is_linked : IsSome n.update → ((knows a).asked.linked ≡ None) × IsLinked (learn (knows a) s x)
    unfolding IsLinked
    is_linked some = go n.update n.due some (learn (knows a) s x).asked.linked after
      where
        go : (u : Option Update) → IfSome u (IsDue a (knows a) log) → IsSome u → (l : Option (Option ℕ))
            → LinkFits n.owners (shared_part (memory_after a s m)) (log_at_point log u (point a)) l → ((knows a).asked.linked ≡ None) × IsSome l
        go (Some u) due e (Some y) h = (due.2, refl)
        go u due e l h = cc

    -- a step that links one makes it
    makes : (knows a).asked.linked ≡ None → IsLinked (learn (knows a) s x) → IsSome n.update
    unfolding IsLinked
    makes none some = go n.update (learn (knows a) s x).asked.linked some after
      where
        before : point a ≡ None
        before = rw none at (g.sound a).linked_fits

        go : (u : Option Update) → (l : Option (Option ℕ)) → IsSome l → LinkFits n.owners (shared_part (memory_after a s m)) (log_at_point log u (point a)) l → IsSome u
        go (Some u) l e h = refl
        go None None e h = cc
        go None (Some None) e h = let f = h.1 in let b = before in absurd (cc)
        go None (Some (Some y)) e h = let f = h.1 in let b = before in absurd (cc)

    pub update_links : IsSome n.update → LinksNow m s x
    update_links some =
        let l = is_linked some in
        let h = links_own (knows a) s x l.0 l.1 in
        by_old h.old h h.step
      where
        by_old : (old : ℕ) (h : LinksOwn (knows a) s x) → s ≡ Exchange (suc h.page) old (suc h.new) → LinksNow m s x
        by_old zero h e = absurd (let v : MayExchange a (knows a) (suc h.page) zero (suc h.new) = (rw e at may).1 in let f = sym h.other ∙ v.0 in cc)
        by_old (suc old) h e = record {
          slot = suc h.page;
          old = suc old;
          new = suc h.new;
          kind = record_link h.row.content;
          step = e;
          won = h.won;
          link = link_front m h.page old h.new ∙ ap (option_map record_link) (stands (suc h.new) h.row.content h.row.placed);
          update = h.row.kind;
        }

    pub link_updates : LinksNow m s x → IsSome n.update
    link_updates h =
        let told : Whether true ≡ Whether (eqb (m.slots h.slot) h.old) = sym h.won ∙ (rw h.step at is) in
        let l = learns_update h.slot h.old h.new h.kind ((rw h.step at may).1) (eqb_true (m.slots h.slot) h.old (let e = told in cc)) h.link h.update in
        makes l.0 (subst (λ (t : StepOf Record × Answer Record). IsLinked (learn (knows a) t.0 t.1)) (λ i. (sym h.step i, sym h.won i)) l.1)
