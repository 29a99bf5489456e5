use Rattle.std.proofs.Common.{◌≡◌, ◌∙◌, sym, refl, ap, true, false}
use Rattle.byte_streams.proofs.Showing.{passed_on, err_holds}
use Rattle.byte_streams.proofs.over_std.WriterOutput.show.Goals as goal

pub returns-then-not-write_out-2 : goal.returns-then-not-write_out-2
returns-then-not-write_out-2 g c =
    let unheld : c.try_extend_from_slice.new.self ≡ c.args.self.now.held = err_holds _ _ (sym c.is_ok.ensures.value ∙ c.if-is_ok.false) c.try_extend_from_slice.ensures.err in
    let emptied : c.try_extend_from_slice-2.new.self ≡ c.clear.new.self = err_holds _ _ (sym c.is_ok-2.ensures.value ∙ c.if-is_ok-2.false) c.try_extend_from_slice-2.ensures.err in
    let first = rw (c.if-not-write_out.false, c.as_slice.ensures.value, unheld) at c.write_out.ensures in
    passed_on _ _ _ _ false first (rw c.if-not-write_out-2.true at c.write_out-2.ensures) c.if-self.false (ap (λ v. v.items) emptied ∙ c.clear.ensures) refl

pub returns-else-not-write_out-2 : goal.returns-else-not-write_out-2
returns-else-not-write_out-2 g c =
    let unheld : c.try_extend_from_slice.new.self ≡ c.args.self.now.held = err_holds _ _ (sym c.is_ok.ensures.value ∙ c.if-is_ok.false) c.try_extend_from_slice.ensures.err in
    let emptied : c.try_extend_from_slice-2.new.self ≡ c.clear.new.self = err_holds _ _ (sym c.is_ok-2.ensures.value ∙ c.if-is_ok-2.false) c.try_extend_from_slice-2.ensures.err in
    let first = rw (c.if-not-write_out.false, c.as_slice.ensures.value, unheld) at c.write_out.ensures in
    passed_on _ _ _ _ true first (rw c.if-not-write_out-2.false at c.write_out-2.ensures) c.if-self.false (ap (λ v. v.items) emptied ∙ c.clear.ensures) c.if-self.false
