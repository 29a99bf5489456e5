use Rattle.std.proofs.Common.{refl}
use Rattle.layer_tests.proofs.IndexPages as pages
use Rattle.layer_tests.proofs.plans.index_pages.index_from.Goals as goal

pub new-requires : goal.new-requires
new-requires c = rw (c.item-items.ensures, c.copied.ensures, c.term.ensures) (pages.is_page c.args.level c.args.low c.args.child c.requires.index)

pub returns : goal.returns
returns c = record {
  is = rw (c.new.ensures, c.item-items.ensures, c.copied.ensures, c.term.ensures) refl;
  stands = rw (c.new.ensures, c.item-items.ensures, c.copied.ensures, c.term.ensures) (pages.stands c.args.level c.args.low c.args.child c.requires.index c.requires.top c.requires.child);
}
