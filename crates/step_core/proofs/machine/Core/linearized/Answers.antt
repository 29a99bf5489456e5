use Rattle.step_core.proofs.machine.Core.linearized.Goals as goal

pub returns-clause-disciplined : goal.returns-clause-disciplined
returns-clause-disciplined g c = rw (← c.self.view_is) c.self.invariant.disciplined

pub returns-clause-linearized : goal.returns-clause-linearized
returns-clause-linearized g c = rw (← c.self.view_is) (c.states_are_lawful.ensures.linearized _ _ c.self.invariant.state)

pub returns-clause-orderly : goal.returns-clause-orderly
returns-clause-orderly g c = rw (← c.self.view_is) (record {
  phases = c.states_are_lawful.ensures.phases _ _ c.self.invariant.state;
  index = c.states_are_lawful.ensures.index _ _ c.self.invariant.state;
  direct = c.self.invariant.direct.direct;
  few_changes = c.self.invariant.paid.few;
  progress =
      c.states_are_lawful.ensures.progress _ _ c.self.invariant.state.run c.self.invariant.direct.direct c.self.invariant.readers.ends c.self.invariant.writers.seldom c.self.invariant.paid.few;
  readers = c.self.invariant.readers.ends;
  until_removal =
      c.states_are_lawful.ensures.until_removal _ _ c.self.invariant.state.run (c.states_are_lawful.ensures.phases _ _ c.self.invariant.state) c.self.invariant.direct.direct c.self.invariant.paid.few;
  freed = c.states_are_lawful.ensures.freed _ _ c.self.invariant.state;
})
