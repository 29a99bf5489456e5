use Rattle.running_tree.proofs.Words.{◌≡◌, ◌++◌, ◌∷◌, [], append-nil, append_assoc, sym, ap, subst, ◌∙◌, HasPartsOf, IsSeatOf}
use Rattle.running_tree.proofs.Joining.{is_one, none_joined, puts_behind}
use Rattle.running_tree.proofs.closing.joined.Goals as goal

pub loop-seat-init : goal.loop-seat-init
loop-seat-init g c = record {
  table = c.blank-whole.ensures.table;
  home = ap (λ me. me.1) c.blank-whole.ensures.blank;
  joined = ([], sym (append-nil c.args.seats.items), subst (HasPartsOf c.args.limits.now []) (sym (ap (λ me. me.0) c.blank-whole.ensures.blank)) (none_joined c.args.limits.now));
}

pub join-requires-clause-other : goal.join-requires-clause-other
join-requires-clause-other g c =
    let (done, whole, has) = c.loop-seat.invariant.joined in
    let rest : c.loop-seat.seats.items ≡ c.pop.new.self.items ++ c.in-Some.seat ∷ [] = c.in-Some.ensures.items in
    let own : IsSeatOf _ c.in-Some.seat = is_one _ c.args.seats.items c.pop.new.self.items done c.in-Some.seat c.requires.own (whole ∙ ap (λ seats. seats ++ done) rest) in
    c.into_place.ensures.table ∙ own.table

pub join-requires-clause-home : goal.join-requires-clause-home
join-requires-clause-home g c = ap (λ me. me.1) c.into_place.ensures.part

pub loop-seat-preserved : goal.loop-seat-preserved
loop-seat-preserved g c =
    let (done, whole, has) = c.loop-seat.invariant.joined in
    let rest : c.loop-seat.seats.items ≡ c.pop.new.self.items ++ c.in-Some.seat ∷ [] = c.in-Some.ensures.items in
    let all : c.args.seats.items ≡ (c.pop.new.self.items ++ c.in-Some.seat ∷ []) ++ done = whole ∙ ap (λ seats. seats ++ done) rest in
    let own : IsSeatOf _ c.in-Some.seat = is_one _ c.args.seats.items c.pop.new.self.items done c.in-Some.seat c.requires.own all in
    record {
      table = c.join.ensures.same ∙ c.loop-seat.invariant.table;
      home = ap (λ me. me.1) c.join.ensures.both ∙ c.loop-seat.invariant.home;
      joined = (
        c.in-Some.seat ∷ done,
        all ∙ append_assoc c.pop.new.self.items (c.in-Some.seat ∷ []) done,
        puts_behind c.args.limits.now c.in-Some.seat done _ _ _ has (ap (λ me. me.0) c.into_place.ensures.part) own.limits (ap (λ me. me.0) c.join.ensures.both),
      );
    }
