use Rattle.sweep.proofs.Words.{◌∙◌, ℕ, Option, sym, arith, false, Record}
use Rattle.deltas.specs.Memory.{Memory}
use Rattle.traces.specs.chain.Chains.{chain_rows}
use Rattle.sweep.proofs.Unlinking.{OneChain, chain_taken, is_on, on_chain, page_taken, walk_rows}
use Rattle.sweep.proofs.limbo_laws.chains_go_to_limbo.Goals as goal

-- a memory in which slot 1 holds this row
abbrev holding : (ℕ → Option Record) → ℕ → Memory
holding seen head = record { slots = λ pid. head; rows = seen; free_pids = λ pid. false; free_rows = λ row. false; epoch = 1; announced = λ actor. 0 }

pub returns-clause-walk : goal.returns-clause-walk
returns-clause-walk c = λ seen head row chain is few. (
  λ on. on_chain (chain_rows head chain) row (sym (walk_rows 13 seen head chain is few row) ∙ on),
  λ on. walk_rows 13 seen head chain is few row ∙ is_on (chain_rows head chain) row on,
)

pub returns-clause-rows : goal.returns-clause-rows
returns-clause-rows c = λ limits actor head limbo k chain kept free is few.
    let one : OneChain k.read.seen = λ row some a b left right. c.chain_is_one.ensures (holding k.read.seen row) 1 a b
    (record { page = omega arith; linked = some; records = left }) (record { page = omega arith; linked = some; records = right }) in
    chain_taken limits actor limbo k head chain kept free is few one

pub returns-clause-page : goal.returns-clause-page
returns-clause-page c = λ limits actor head page limbo k chain kept free is few some below absent.
    let one : OneChain k.read.seen = λ row some a b left right. c.chain_is_one.ensures (holding k.read.seen row) 1 a b
    (record { page = omega arith; linked = some; records = left }) (record { page = omega arith; linked = some; records = right }) in
    page_taken limits actor limbo k head chain kept free is few one page some below absent
