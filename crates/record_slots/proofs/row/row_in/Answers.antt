use Rattle.std.proofs.Common.{◌≡◌, ◌+◌, ◌*◌, ◌-◌, true, false, take, drop, sym, ap, ◌∙◌}
use Rattle.record_slots.specs.Layout.{field_size, first_at, item_size, items_at, row_size, second_at}
use Rattle.record_slots.specs.Texts.{IsField, IsBound}
use Rattle.record_slots.specs.Parts.{IsRowIn, are_zeros}
use Rattle.record_slots.proofs.RowLaws.{header_of, header_is, zeros_behind, zeros_there, up_to_end}
use Rattle.record_slots.proofs.Refusals.{refused}
use Rattle.record_slots.proofs.row.row_in.Goals as goal

pub returns-in_err-header : goal.returns-in_err-header
returns-in_err-header c =
    refused (IsRowIn c.args.words.now) c.from_residual.result c.from_residual.ensures.0 (λ row is. c.in_err-header.ensures (header_of row) (header_is c.args.words.now row is))

pub returns-then-not-are_zeros : goal.returns-then-not-are_zeros
returns-then-not-are_zeros c row is =
    let all = zeros_behind c.args.words.now c.in_ok-header.header c.in_ok-header.ensures row is in
    let answer : c.are_zeros.result ≡ are_zeros
    (take (row_size - (items_at + item_size * c.in_ok-header.header.count)) (drop (items_at + item_size * c.in_ok-header.header.count) c.args.words.now)) = c.are_zeros.ensures
    in
    let end = up_to_end c.args.words.now (items_at + item_size * c.in_ok-header.header.count) c.told-words in
    let turned : true ≡ false = sym all ∙ ap are_zeros (sym end) ∙ sym answer ∙ c.if-not-are_zeros.true in
    cc

pub returns : goal.returns
returns c =
    let words = c.args.words.now in
    let header = c.in_ok-header.header in
    let head = c.in_ok-header.ensures in
    let first : IsField (take field_size (drop first_at words)) c.in_ok-first.first = c.in_ok-first.ensures in
    let second : IsBound (take field_size (drop second_at words)) c.in_ok-second.second = c.in_ok-second.ensures in
    let answer : c.are_zeros.result ≡ are_zeros (take (row_size - (items_at + item_size * header.count)) (drop (items_at + item_size * header.count) words)) = c.are_zeros.ensures in
    let end = up_to_end words (items_at + item_size * header.count) c.told-words in
    record {
      is = record {
        kind = head.kind;
        level = head.level;
        few = head.few;
        next = c.in_ok-next.ensures.below;
        page = c.in_ok-page.ensures.below;
        first = first.short;
        second = second.short;
      };
      header = head.are;
      next = c.in_ok-next.ensures.are;
      page = c.in_ok-page.ensures.are;
      first = first.are;
      second = second.are;
      rest = zeros_there words header.count c.told-words (ap are_zeros (sym end) ∙ sym answer ∙ c.if-not-are_zeros.false);
    }
