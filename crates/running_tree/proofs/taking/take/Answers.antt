use Rattle.std.proofs.Common.{arith}
use Rattle.running_tree.proofs.OnWords.{enter_stays, lent_stays, on_word, slot_stays}
use Rattle.running_tree.proofs.taking.take.Goals as goal

pub act_on-requires : goal.act_on-requires
act_on-requires c = record {
  table = c.requires.table;
  range = on_word c.args.limits.now c.args.step c.requires.within c.in_default.not-Row c.in_default.not-Place;
  actor = let few = c.args.limits.now.allowed.few_actors in let there = c.requires.there in omega (arith, few, there);
  seat = c.requires.seat;
  may = c.requires.may (lent_stays c.args.step c.in_default.not-Leave);
}

pub act-requires : goal.act-requires
act-requires c = record {
  table = c.requires.table;
  range = rw c.in-Slot.is at c.requires.within;
  actor = let few = c.args.limits.now.allowed.few_actors in let there = c.requires.there in omega (arith, few, there);
  seat = c.requires.seat;
  may = rw c.in-Slot.is at (c.requires.may (slot_stays c.args.step c.in-Slot.pid c.in-Slot.is));
}

pub act-requires-in-Enter : goal.act-requires-in-Enter
act-requires-in-Enter c = record {
  table = c.requires.table;
  range = tt;
  actor = let few = c.args.limits.now.allowed.few_actors in let there = c.requires.there in omega (arith, few, there);
  seat = c.requires.seat;
  may = rw c.in-Enter.is at (c.requires.may (enter_stays c.args.step c.in-Enter.epoch c.in-Enter.is));
}
