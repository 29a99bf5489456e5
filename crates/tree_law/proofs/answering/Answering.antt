-- A reply that an actor may give is its command's by a log of its operation.
use Rattle.tree_law.proofs.Words.{false, ◌⊎◌, ap, Option, None, List, inl, inr, ℕ, ◌≡◌, ◌∙◌, Some, ⊎_elim, IsFalse, Update, logged_value, update_of, command_key, Command, Reply, content_in}
use Rattle.tree_law.proofs.Words.{is_removed, chain_value, value_of, MayAnswer, WasStanding, Knowledge, Owners, InOrder, SpellsLog, leaf_map, IsRepliedAt, Shared, IsTree}
use Rattle.tree_law.specs.Owners.{Among}
use Rattle.tree_law.proofs.shape.{covers_from, chain_stands, chain_decides}
use Rattle.tree_law.proofs.links.Updating.{value_of_map}

module _ {m : Shared} {log : List Update} {o : Owners} {knows : ℕ → Knowledge} {point : ℕ → Option (List Update)} {logs : ℕ → List (List Update)} (g : IsTree m log o knows point logs) (a : ℕ) where
  -- a chain that decides its key as the log does gives the log's reply
  replied : (command : Command) (reply : Reply) → (h : MayAnswer a (knows a) command reply) → (l : List Update) → content_in h.chain (command_key command) ≡ leaf_map l (command_key command)
      → (point a ≡ Some l) ⊎ ((point a ≡ None) × (update_of a command (chain_value h.chain (command_key command)) ≡ None) × Among l (logs a)) → IsRepliedAt a command reply (point a) (logs a)
  replied command reply h l decides own =
      let value : chain_value h.chain (command_key command) ≡ logged_value l (command_key command) = ap value_of decides ∙ value_of_map (logged_value l (command_key command)) in
      record {
        at = l;
        same = rw value at h.is;
        own = elim own [ inl u ↦ inl u | inr u ↦ inr (u.0, rw value at u.1, u.2) ];
      }

  pub answers : (command : Command) (reply : Reply) → MayAnswer a (knows a) command reply → IsRepliedAt a command reply (point a) (logs a)
  answers command reply h = ⊎_elim by_link (λ (u : (((knows a).asked.linked ≡ None) × WasStanding (knows a) h.row h.chain × Changeless)). by_stand u.0 u.2 u.1) h.basis
    where
      decides : is_removed h.chain ≡ false → (l : List Update) → SpellsLog o m h.row l → content_in h.chain (command_key command) ≡ leaf_map l (command_key command)
      decides alive l s = chain_decides o m (knows a).read.seen (g.sound a).seen_fits h.row h.chain h.read l s h.leaf alive (command_key command) (covers_from h.chain (command_key command) h.covers)

      Changeless : Type 0
      Changeless = update_of a command (chain_value h.chain (command_key command)) ≡ None

      none : (knows a).asked.linked ≡ None → point a ≡ None
      none e = rw e at (g.sound a).linked_fits

      by_link : ((knows a).asked.linked ≡ Some (Some h.row)) × IsFalse (is_removed h.chain) → IsRepliedAt a command reply (point a) (logs a)
      by_link u = let i = rw u.0 at (g.sound a).linked_fits in replied command reply h i.0 (decides u.1 i.0 i.2) (inl i.1)

      by_stand : (knows a).asked.linked ≡ None → Changeless → WasStanding (knows a) h.row h.chain → IsRepliedAt a command reply (point a) (logs a)
      by_stand unlinked changeless (inl u) =
          let i = rw u.0.1 at ((g.sound a).heads_fit u.0.0) in
          replied command reply h i.0 (decides u.1 i.0 i.2) (inr (none unlinked, changeless, i.1))
      by_stand unlinked changeless (inr u) =
          let b = u.0 in
          let e : InOrder o m (logs a) b.left b.head b.other h.row = rw b.order at (rw b.basis.head at ((g.sound a).orders_fit b.left b.other)) in
          let i = e.spelled h.chain b.basis.chain (chain_stands o m (knows a).read.seen (g.sound a).seen_fits h.chain (Some h.row) h.read)
          (chain_stands o m (knows a).read.seen (g.sound a).seen_fits b.basis.chain (Some b.head) b.basis.read) u.1 b.basis.alive h.leaf b.right in
          replied command reply h i.0 (i.2 (command_key command) (covers_from h.chain (command_key command) h.covers)) (inr (none unlinked, changeless, i.1))
