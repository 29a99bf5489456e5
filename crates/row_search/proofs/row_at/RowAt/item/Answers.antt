use Rattle.row_search.proofs.row_at.RowAt.item.Goals as goal

pub returns-clause-item : goal.returns-clause-item
returns-clause-item g c d = λ i. record { key = c.item_key.ensures.key d i; content = c.content_in.ensures.content d i }
