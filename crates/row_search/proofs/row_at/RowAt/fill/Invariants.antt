use Rattle.row_search.proofs.Words.{◌≡◌, take, Page, Base}
use Rattle.row_search.proofs.row_at.RowAt.fill.Given as goal

abbrev pub invariant-loop-place : goal.invariant-loop-place
invariant-loop-place g l = record {
  same : l.pass ≡ l.initial.pass;
  read : (is : Page) → l.self.content ≡ Base is → l.page ≡ record is { items = take l.place is.items };
}
