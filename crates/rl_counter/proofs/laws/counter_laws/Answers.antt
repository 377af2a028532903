-- Each law of counters, by its proof.
use Rattle.rl_counter.specs.laws.CounterFrame.{readers_keep}
use Rattle.rl_counter.specs.laws.CounterLaws.{begins, never_too_small, nobody_inside, lets_in_unmarked, writers_keep, tasks_keep, others_keep, begins_at_marks, comes_in_by_arriving, waits_on_loads, tells_what_it_finds}
use Rattle.rl_counter.proofs.laws.counter_laws.Goals as goal

pub returns-clause-begins : goal.returns-clause-begins
returns-clause-begins c = begins

pub returns-clause-balance : goal.returns-clause-balance
returns-clause-balance c = never_too_small

pub returns-clause-cleared : goal.returns-clause-cleared
returns-clause-cleared c = nobody_inside

pub returns-clause-unmarked : goal.returns-clause-unmarked
returns-clause-unmarked c = lets_in_unmarked

pub returns-clause-readers : goal.returns-clause-readers
returns-clause-readers c = readers_keep

pub returns-clause-writers : goal.returns-clause-writers
returns-clause-writers c = writers_keep

pub returns-clause-tasks : goal.returns-clause-tasks
returns-clause-tasks c = tasks_keep

pub returns-clause-others : goal.returns-clause-others
returns-clause-others c = others_keep

pub returns-clause-at_marks : goal.returns-clause-at_marks
returns-clause-at_marks c = begins_at_marks

pub returns-clause-comes_in : goal.returns-clause-comes_in
returns-clause-comes_in c = comes_in_by_arriving

pub returns-clause-waits : goal.returns-clause-waits
returns-clause-waits c = waits_on_loads

pub returns-clause-tells : goal.returns-clause-tells
returns-clause-tells c = tells_what_it_finds
