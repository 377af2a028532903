use Rattle.std.proofs.Common.{arith}
use Rattle.lock_tests.proofs.locks.rw_is_a_tree_and_a_counter_on_each_node.Goals as goal

-- its settings are in their ranges, and the shape has its budgets
pub make-requires-clause-knobs : goal.make-requires-clause-knobs
make-requires-clause-knobs g c =
    record { budgeted = c.in_ok-shape.ensures.budgeted; writers = omega arith; served = omega arith; readers = omega arith; some = omega arith; group = omega arith }
