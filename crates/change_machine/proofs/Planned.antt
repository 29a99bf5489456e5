-- What is planned may be linked once it is placed.
use Rattle.change_machine.proofs.Words.{◌≡◌, ◌<◌, ◌∙◌, ℕ, zero, suc, false, ap, arith, Record, MayExchange, ReadsRemoved, Knowledge, Written, split_to, IsLike}
use Rattle.bw_model.specs.Log.{Update, set, unset}
use Rattle.base_page.specs.Pages.{Page}
use Rattle.deltas.specs.declared.record.Record.TheVariants as kind
use Rattle.deltas.specs.declared.record.Hold.{Hold}
use Rattle.deltas.specs.declared.record.Merge.{Merge}
use Rattle.deltas.specs.declared.record.Remove.{Remove}
use Rattle.deltas.specs.declared.record.Term.{Term}
use Rattle.deltas.specs.declared.record.Unterm.{Unterm}
use Rattle.traces.specs.chain.Chains.{is_removed}
use Rattle.traces.specs.discipline.Discipline.{FitsOn, IsUnset, MayAdd, MayConsolidate, MayHold, MayLink, MayMerge, MayPost, MayRemove, MaySplit, MayUnterm, MayUpdate, update_record}
use Rattle.traces.specs.discipline.Knowledge.{Ready}
use Rattle.structure_changes.specs.declared.split.SplitPlan.{SplitPlan}
use Rattle.structure_changes.specs.Versions.{Version}
use Rattle.structure_changes.specs.Readings.{HasSeen, IsAfter}
use Rattle.structure_changes.specs.Splits.{IsSplitPlan}
use Rattle.structure_changes.specs.Terms.{IsTermPlan}
use Rattle.structure_changes.specs.Unterms.{IsUntermPlan}
use Rattle.change_machine.specs.Changes.{MayDivide, MayInstall}

-- over a page's row a row is added
added : (actor : ℕ) (k : Knowledge) (page old new : ℕ) → 0 < page → 0 < old → 0 < new → MayAdd actor k page old new → MayExchange actor k page old new
added actor k zero old new p o n may = absurd (omega (arith, p))
added actor k (suc page) zero new p o n may = absurd (omega (arith, o))
added actor k (suc page) (suc old) zero p o n may = absurd (omega (arith, n))
added actor k (suc page) (suc old) (suc new) p o n may = may

-- a page that was read is so still
seen_still : (k now : Knowledge) (page : Version) → now.read ≡ k.read → HasSeen k page → HasSeen now page
seen_still k now page same seen = record { head = rw same seen.head; read = rw same seen.read }

module _ (actor : ℕ) (k : Knowledge) where
  module _ (page : Version) (seen : HasSeen k page) (alive : is_removed page.chain ≡ false) where
    linked_so : (now : Knowledge) (row : ℕ) (content : Record) → IsLike k.asked.linked k now → FitsOn page.chain content → MayLink actor now page.pid page.head page.chain content
        → 0 < row → now.own.rows row ≡ Written content → IsUnset now row → MayExchange actor now page.pid page.head row
    linked_so now row content like fits due some placed bare =
        let here = seen_still k now page like.read seen in
        added actor now page.pid page.head row page.is_pid.0 page.is_row.0 some (record {
          basis = record { head = here.head; chain = page.chain; read = here.read; alive = alive };
          content = content;
          placed = placed;
          fits = fits;
          due = due;
          unset = bare;
        })

    pub base_may : (base : Page) → MayConsolidate page.chain (kind.Base base) → FitsOn page.chain (kind.Base base) → MayInstall actor k page.pid page.head (kind.Base base)
    base_may base due fits = λ now row like some placed bare. linked_so now row (kind.Base base) like fits due some placed bare

    update_still : (now : Knowledge) (content : Record) → IsLike k.asked.linked k now → MayUpdate actor k page.head page.chain content → MayUpdate actor now page.head page.chain content
    update_still now content like may = record {
      leaf = may.leaf;
      command = may.command;
      going = like.command ∙ may.going;
      unlinked = like.linked_now ∙ may.unlinked;
      covers = may.covers;
      update = may.update;
      due = may.due;
      is = may.is;
    }

    update_link : (now : Knowledge) (content : Record) (update : Update) → content ≡ update_record update page.head
        → MayUpdate actor now page.head page.chain content → MayLink actor now page.pid page.head page.chain content
    update_link now content (set of key value) is may = rw is (rw is at may)
    update_link now content (unset of key) is may = rw is (rw is at may)

    pub update_may : (content : Record) → MayUpdate actor k page.head page.chain content → FitsOn page.chain content → MayInstall actor k page.pid page.head content
    update_may content due fits = λ now row like some placed bare.
        let due_still = update_still now content like due in
        linked_so now row content like fits (update_link now content due_still.update due_still.is due_still) some placed bare

    pub term_may : (child : Version) (term : Term)
        → ((now : Knowledge) → HasSeen now child → IsAfter now page child → MayPost now page.pid page.head page.chain (kind.Term term))
        → IsTermPlan page child term → HasSeen k child → IsAfter k page child → MayInstall actor k page.pid page.head (kind.Term term)
    term_may child term due is met order = λ now row like some placed bare.
        linked_so now row (kind.Term term) like is.fits (due now (seen_still k now child like.read met) (rw like.read order)) some placed bare

    pub split_may : (plan : SplitPlan)
        → ((now : Knowledge) (right base : ℕ) → now.own.pages right ≡ Ready base → now.own.rows base ≡ Written (kind.Base plan.upper) → MaySplit now page.head
        page.chain (kind.Split (split_to plan right)))
        → IsSplitPlan page plan → MayDivide actor k page.pid plan
    split_may plan due is = λ now right base row like pid some ready written placed bare.
        rw is.over (linked_so now row (kind.Split (split_to plan right)) like (is.fits right pid) (due now right base ready written) some placed bare)

    pub hold_may : (hold : Hold) → MayHold page.head page.chain (kind.Hold hold) → FitsOn page.chain (kind.Hold hold) → MayInstall actor k page.pid page.head (kind.Hold hold)
    hold_may hold due fits = λ now row like some placed bare. linked_so now row (kind.Hold hold) like fits due some placed bare

    pub remove_may : (remove : Remove) (parent : Version)
        → ((now : Knowledge) → HasSeen now parent → MayRemove now page.pid page.head page.chain (kind.Remove remove)) → FitsOn page.chain (kind.Remove remove)
        → HasSeen k parent → MayInstall actor k page.pid page.head (kind.Remove remove)
    remove_may remove parent due fits above = λ now row like some placed bare.
        linked_so now row (kind.Remove remove) like fits (due now (seen_still k now parent like.read above)) some placed bare

    pub merge_may : (merge : Merge) (removed : Version) → ((now : Knowledge) → HasSeen now removed → MayMerge now page.head page.chain (kind.Merge merge))
        → FitsOn page.chain (kind.Merge merge) → HasSeen k removed → MayInstall actor k page.pid page.head (kind.Merge merge)
    merge_may merge removed due fits met = λ now row like some placed bare.
        linked_so now row (kind.Merge merge) like fits (due now (seen_still k now removed like.read met)) some placed bare

    pub unterm_may : (left : Version) (unterm : Unterm)
        → ((now : Knowledge) → HasSeen now left → IsAfter now page left → MayUnterm now page.pid page.head page.chain (kind.Unterm unterm))
        → FitsOn page.chain (kind.Unterm unterm) → HasSeen k left → IsAfter k page left → MayInstall actor k page.pid page.head (kind.Unterm unterm)
    unterm_may left unterm due fits met order = λ now row like some placed bare.
        linked_so now row (kind.Unterm unterm) like fits (due now (seen_still k now left like.read met) (rw like.read order)) some placed bare

  -- the page whose term is to go was read removed
  pub removed_read : (parent left removed : Version) (unterm : Unterm) → IsUntermPlan parent left removed unterm → HasSeen k removed → ReadsRemoved k unterm.child removed.head
  removed_read parent left removed unterm is seen =
      let child : unterm.child ≡ removed.pid = ap (λ (u : Unterm). u.child) is.is in
      record { head = rw child seen.head; chain = removed.chain; read = seen.read; gone = is.can.gone }
