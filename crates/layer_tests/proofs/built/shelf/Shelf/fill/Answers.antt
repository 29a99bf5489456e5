use Rattle.std.proofs.Common.{◌≡◌, ◌++◌, ◌∷◌, [], List, ℕ, take, refl, sym, ap, subst, ◌∙◌, arith}
use Rattle.std.specs.Prelude.{slice_index, unwrap_or}
use Rattle.deltas.specs.declared.record.Record.{Record}
use Rattle.deltas.specs.declared.record.Record.TheVariants.{Remove}
use Rattle.record_slots.specs.Spelling.{words_of}
use Rattle.record_slots.specs.Spells.{HasSpelling}
use Rattle.traces.specs.chain.Chains.{IsFront}
use Rattle.traces.specs.chain.Fitted.{IsFitted}
use Rattle.structure_changes.specs.Versions.{Version}
use Rattle.layer_tests.specs.Held.{found_in, page_record}
use Rattle.layer_tests.proofs.Reading as reading
use Rattle.layer_tests.proofs.built.shelf.Shelf.fill.Goals as goal
use Rattle.layer_tests.proofs.built.shelf.Shelf.fill.Goals.{in-None, in-Some+else-from}

abbrev filler : Record
filler = Remove (record { level = 0; next = 1 })

pub of-requires-clause-spelt : goal.of-requires-clause-spelt
of-requires-clause-spelt c =
    let are : c.as_slice-record-items.result.now ≡ c.args.page.now.chain = c.as_slice-record-items.ensures.value ∙ ap (λ (v : Version). v.chain) c.page.view_is in
    let at = (c.loop-record.invariant.1 c.if-whole.false).1 in
    let content = reading.content_is c.args.page.now c.loop-record.row c.loop-record.record-index c.record-item.result c.as_slice-record-items.result.now are
    c.loop-record-test.true c.record-item.is c.args.self.now filler c.requires.stands at in
    let spelt = reading.spelt c.args.page.now c.loop-record.row c.loop-record.record-index c.record-item.result c.as_slice-record-items.result.now are c.loop-record-test.true c.record-item.is
    (subst IsFitted (ap (λ (v : Version). v.chain) c.page.view_is) c.page.invariant.fitted) in
    subst HasSpelling (sym content) (rw c.to_words.ensures.words at c.to_words.ensures.spells spelt)

pub of-requires-clause-first : goal.of-requires-clause-first
of-requires-clause-first c =
    let are : c.as_slice-record-items.result.now ≡ c.args.page.now.chain = c.as_slice-record-items.ensures.value ∙ ap (λ (v : Version). v.chain) c.page.view_is in
    let at = (c.loop-record.invariant.1 c.if-whole.false).1 in
    let content = reading.content_is c.args.page.now c.loop-record.row c.loop-record.record-index c.record-item.result c.as_slice-record-items.result.now are
    c.loop-record-test.true c.record-item.is c.args.self.now filler c.requires.stands at in
    ap (λ (words : List ℕ). slice_index words 0) (c.to_words.ensures.words ∙ ap words_of (sym content))

pub push-requires-clause-next : goal.push-requires-clause-next
push-requires-clause-next c =
    let front = (c.loop-record.invariant.1 c.if-whole.false).0 in
    rw (c.loop-record.invariant.0, c.of.ensures)
    (reading.lies_behind (page_record c.args.page.now) (take c.loop-record.record-index c.args.page.now.chain) c.args.page.now.head c.loop-record.row
    (unwrap_or (found_in c.args.self.now c.loop-record.row) filler) front)

pub loop-record-preserved : goal.loop-record-preserved
loop-record-preserved c =
    let are : c.as_slice-record-items.result.now ≡ c.args.page.now.chain = c.as_slice-record-items.ensures.value ∙ ap (λ (v : Version). v.chain) c.page.view_is in
    let (front, at) = c.loop-record.invariant.1 c.if-whole.false in
    let content = reading.content_is c.args.page.now c.loop-record.row c.loop-record.record-index c.record-item.result c.as_slice-record-items.result.now are
    c.loop-record-test.true c.record-item.is c.args.self.now filler c.requires.stands at in
    let more = reading.more c.args.page.now c.loop-record.row c.loop-record.record-index c.record-item.result c.as_slice-record-items.result.now are c.loop-record-test.true c.record-item.is in
    let here = reading.here c.args.page.now c.loop-record.row c.loop-record.record-index c.record-item.result c.as_slice-record-items.result.now are c.loop-record-test.true c.record-item.is at in
    let part : c.push.new.self ≡ record { head = c.args.page.now.head; records = take c.loop-record.record-index c.args.page.now.chain ++ c.record-item.result ∷ [] } =
    c.push.ensures ∙ rw (c.loop-record.invariant.0, c.of.ensures, content) refl in
    rw more
    (elim c.match-next.branch [
      | in-None w ↦ (
        part,
        (λ not_whole. let bad : ⊥ = cc in absurd bad),
        λ whole. reading.ends (page_record c.args.page.now)
            (take c.loop-record.record-index c.args.page.now.chain) c.args.page.now.head c.loop-record.row c.record-item.result here
            (sym c.next.ensures ∙ w.in-None.is) front,
      )
      | in-Some+else-from w ↦ (
        part,
        (λ not_whole. (
          subst (IsFront (page_record c.args.page.now) c.args.page.now.head (take c.loop-record.record-index c.args.page.now.chain ++ c.record-item.result ∷ [])) (sym w.row-is)
              (reading.leads_on (page_record c.args.page.now) (take c.loop-record.record-index c.args.page.now.chain) c.args.page.now.head c.loop-record.row
              c.record-item.result w.in-Some.next here (sym c.next.ensures ∙ w.in-Some.is) front),
          let row = w.row-is in let one = w.from.ensures in let other = w.from-in-Some.ensures in let same = w.if-from.false in omega (arith, row, one, other, same, at),
        )),
        λ whole. let bad : ⊥ = cc in absurd bad,
      )
    ])
