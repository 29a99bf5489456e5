use Rattle.sweep.proofs.Words.{refl, arith}
use Rattle.sweep.proofs.Short.{begins_few, comes_free, moves_short}
use Rattle.sweep.proofs.limbo_laws.large_sweeps_are_short.Goals as goal

pub returns-clause-new : goal.returns-clause-new
returns-clause-new c = λ limits. refl

pub returns-clause-comes : goal.returns-clause-comes
returns-clause-comes c = comes_free

pub returns-clause-begins : goal.returns-clause-begins
returns-clause-begins c = begins_few

pub returns-clause-goes : goal.returns-clause-goes
returns-clause-goes c = λ limits old next told limbo after large sound clear moves. moves_short limits large old next told limbo after sound clear moves

pub returns-clause-most : goal.returns-clause-most
returns-clause-most c = λ limits. omega arith
