use Rattle.std.proofs.Common.{◌+◌, arith, length, subst, sym, ◌∙◌}
use Rattle.tree_picture.specs.Pids.{level_pids}
use Rattle.tree_picture.specs.Ranges.{level_ranges}
use Rattle.tree_picture.specs.Sizes.{IsWideFor}
use Rattle.tree_picture.specs.RecordLines.{level_records}
use Rattle.tree_picture.specs.Stands.{level_stands}
use Rattle.tree_picture.proofs.Heights.{flat_next, told_next}
use Rattle.tree_picture.proofs.Layouts.{next_level}
use Rattle.tree_picture.proofs.Marking.{last_next, level_next_marked}
use Rattle.tree_picture.proofs.levels.rows.Goals as goal

pub level_rows-requires-clause-wide : goal.level_rows-requires-clause-wide
level_rows-requires-clause-wide c =
    rw (← c.level-item.is) at (c.requires.wide c.loop-level.level-index c.level-item.result c.loop-level-test.true)

pub loop-level-preserved : goal.loop-level-preserved
loop-level-preserved c =
    let levels = c.args.levels.now in
    let level = c.level-item.result in
    let there = c.loop-level-test.true in
    let told = c.in_ok-end.ensures in
    record {
      pids = told.pids ∙ told_next _ _ _ _ (level_pids level) c.loop-level.invariant.pids (flat_next level_pids levels c.loop-level.level-index level there c.level-item.is);
      ranges = told.ranges ∙ told_next _ _ _ _ (level_ranges level) c.loop-level.invariant.ranges (flat_next level_ranges levels c.loop-level.level-index level there c.level-item.is);
      stands = told.stands ∙ told_next _ _ _ _ (level_stands c.args.stands.now level) c.loop-level.invariant.stands
          (flat_next (level_stands c.args.stands.now) levels c.loop-level.level-index level there c.level-item.is);
      slots = told.slots ∙ c.loop-level.invariant.slots;
      cells = told.cells ∙ c.loop-level.invariant.cells;
      records = told.records ∙ told_next _ _ _ _ (level_records level) c.loop-level.invariant.records (flat_next level_records levels c.loop-level.level-index level there c.level-item.is);
      marks =
          level_next_marked c.args.root levels c.loop-level.level-index level there c.level-item.is c.args.sheet.now.marks c.loop-level.sheet.marks _
          c.loop-level.above.now c.loop-level.invariant.above c.loop-level.invariant.marks told.marks;
      above = c.pages-above.ensures.pages ∙ last_next levels c.loop-level.level-index level there c.level-item.is;
      high = omega (arith, c.loop-level.invariant.high, told.few);
      laid = λ to. next_level (told.laid (c.loop-level.invariant.laid to)) (c.in_ok-end.end + 84) 0 (c.in_ok-end.end + 84) (omega arith) (omega arith);
    }
