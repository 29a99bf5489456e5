-- What an exchange that was answered leaves known, and what its answer may be.
use Rattle.change_machine.proofs.Words.{◌≡◌, ◌<◌, ◌∙◌, ℕ, zero, suc, true, refl, sym, ap, arith, Limits, Answer, Record, MayExchange, Fits, ReadsRemoved, Knowledge, OwnPage, OwnRow, Foreign}
use Rattle.change_machine.proofs.Words.{Written, Other, Empty, Gone, linked_over, whether_in, AreUnset, IsUnlinked}
use Rattle.bw_model.specs.declared.step.Answer.TheVariants as answer
use Rattle.bw_model.specs.declared.step.Step.TheVariants as step
use Rattle.deltas.specs.declared.record.Record.TheVariants as kind
use Rattle.deltas.specs.declared.record.Split.{Split}
use Rattle.traces.specs.discipline.Fitting.{AreOutOfLimbo}
use Rattle.traces.specs.discipline.Knowledge.{Absent, Taken, Ready, after_clear, after_exchange, handed_page, set_page}

-- an own page is empty where its slot isn't set
pub empty_page : (o : OwnPage) → IsUnlinked o → ((row : ℕ) → o ≡ Ready row → ⊥) → o ≡ Empty
empty_page Other h bare = absurd h
empty_page Empty h bare = refl
empty_page (Ready row) h bare = absurd (bare row refl)
empty_page Gone h bare = absurd h

module _ (k : Knowledge) where
  pub ready_learnt : (page row : ℕ) → 0 < page → 0 < row → k.own.pages page ≡ Empty → after_exchange page 0 row k ≡ set_page page (Ready row) k
  ready_learnt zero row p r e = absurd (omega (arith, p))
  ready_learnt (suc page) zero p r e = absurd (omega (arith, r))
  ready_learnt (suc page) (suc row) p r e = rw e refl

  pub undone_learnt : (page row : ℕ) → 0 < page → k.own.pages page ≡ Ready row → after_exchange page row 0 k ≡ set_page page Empty k
  undone_learnt zero row p e = absurd (omega (arith, p))
  undone_learnt (suc page) row p e = rw e refl

  pub cleared_learnt : (page row : ℕ) → 0 < page → k.own.pages page ≡ Gone → after_exchange page row 0 k ≡ after_clear page row k
  cleared_learnt zero row p e = absurd (omega (arith, p))
  cleared_learnt (suc page) row p e = rw e refl

  pub over_learnt : (page old row : ℕ) (content : Record) → 0 < page → 0 < row → k.own.pages page ≡ Other → k.own.rows row ≡ Written content
      → after_exchange page old row k ≡ linked_over (Written content) old row k
  over_learnt zero old row content p r e w = absurd (omega (arith, p))
  over_learnt (suc page) old zero content p r e w = absurd (omega (arith, r))
  over_learnt (suc page) old (suc row) content p r e w = rw (e, w) refl

  pub rooted_learnt : (old new base : ℕ) → k.own.pages new ≡ Ready base → after_exchange 0 old new k ≡ handed_page new Other base k
  rooted_learnt old new base e = rw e refl

  module _ (limits : Limits) where
    pub went : (slot old new : ℕ) (told : Answer Record) → Fits limits k (step.Exchange slot old new) told → told ≡ answer.Whether (whether_in told)
    went slot old new (answer.Whether b) fits = refl
    went slot old new told fits = absurd fits

    pub ready_went : (page row : ℕ) (told : Answer Record) → 0 < page → Fits limits k (step.Exchange page 0 row) told → told ≡ answer.Whether true
    ready_went page row (answer.Whether b) p fits = ap answer.Whether (set page p fits)
      where
        set : (page : ℕ) → 0 < page → Fits limits k (step.Exchange page 0 row) (answer.Whether b) → b ≡ true
        set zero p fits = absurd (omega (arith, p))
        set (suc page) p fits = fits
    ready_went page row told p fits = absurd fits

    pub undo_went : (page row : ℕ) (told : Answer Record) → 0 < page → 0 < row → k.own.pages page ≡ Ready row → Fits limits k (step.Exchange page row 0) told → told ≡ answer.Whether true
    undo_went page row (answer.Whether b) p r e fits = ap answer.Whether (undone page row p r e fits)
      where
        undone : (page row : ℕ) → 0 < page → 0 < row → k.own.pages page ≡ Ready row → Fits limits k (step.Exchange page row 0) (answer.Whether b) → b ≡ true
        undone zero row p r e fits = absurd (omega (arith, p))
        undone (suc page) zero p r e fits = absurd (omega (arith, r))
        undone (suc page) (suc row) p r e fits = fits.0 e
    undo_went page row told p r e fits = absurd fits

    pub clear_went : (page row : ℕ) (told : Answer Record) → 0 < page → 0 < row → k.own.pages page ≡ Gone → ReadsRemoved k page row
        → Fits limits k (step.Exchange page row 0) told → told ≡ answer.Whether true
    clear_went page row (answer.Whether b) p r e read fits = ap answer.Whether (gone page row p r e read fits)
      where
        gone : (page row : ℕ) → 0 < page → 0 < row → k.own.pages page ≡ Gone → ReadsRemoved k page row → Fits limits k (step.Exchange page row 0) (answer.Whether b) → b ≡ true
        gone zero row p r e read fits = absurd (omega (arith, p))
        gone (suc page) zero p r e read fits = absurd (omega (arith, r))
        gone (suc page) (suc row) p r e read fits = fits.1 e read
    clear_went page row told p r e read fits = absurd fits

    -- what is taken out was in no limbo
    pub clear_fresh : (page row : ℕ) → 0 < page → 0 < row → k.own.pages page ≡ Gone → Fits limits k (step.Exchange page row 0) (answer.Whether true)
        → (k.limbo.pids page ≡ Absent) × AreOutOfLimbo limits k row
    clear_fresh zero row p r e fits = absurd (omega (arith, p))
    clear_fresh (suc page) zero p r e fits = absurd (omega (arith, r))
    clear_fresh (suc page) (suc row) p r e fits = fits.2 refl e

    pub over_fresh : (page old new : ℕ) → 0 < page → 0 < old → 0 < new → Fits limits k (step.Exchange page old new) (answer.Whether true) → AreOutOfLimbo limits k old
    over_fresh zero old new p o n fits = absurd (omega (arith, p))
    over_fresh (suc page) zero new p o n fits = absurd (omega (arith, o))
    over_fresh (suc page) (suc old) zero p o n fits = absurd (omega (arith, n))
    over_fresh (suc page) (suc old) (suc new) p o n fits = (fits refl).1

    pub over_other : (page old new : ℕ) → 0 < page → 0 < old → 0 < new → Fits limits k (step.Exchange page old new) (answer.Whether true) → k.own.pages page ≡ Other
    over_other zero old new p o n fits = absurd (omega (arith, p))
    over_other (suc page) zero new p o n fits = absurd (omega (arith, o))
    over_other (suc page) (suc old) zero p o n fits = absurd (omega (arith, n))
    over_other (suc page) (suc old) (suc new) p o n fits = (fits refl).0

-- what is in a written row
content_in_row : Record → OwnRow → Record
content_in_row other Foreign = other
content_in_row other Taken = other
content_in_row other (Written content) = content

-- a split isn't linked where no own page has a row in its slot
pub no_split : (actor : ℕ) (k : Knowledge) (page old new : ℕ) (split : Split) → 0 < page → 0 < old → 0 < new → MayExchange actor k page old new
    → k.own.rows new ≡ Written (kind.Split split) → AreUnset k.own → ⊥
unfolding content_in_row
no_split actor k zero old new split p o n may e bare = absurd (omega (arith, p))
no_split actor k (suc page) zero new split p o n may e bare = absurd (omega (arith, o))
no_split actor k (suc page) (suc old) zero split p o n may e bare = absurd (omega (arith, n))
no_split actor k (suc page) (suc old) (suc new) split p o n may e bare =
    let is : may.content ≡ kind.Split split = ap (content_in_row may.content) (sym may.placed ∙ e) in
    let due = rw is at may.due in
    bare due.right due.row due.ready
