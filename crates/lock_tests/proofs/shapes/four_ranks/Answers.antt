-- Two ranks on each of two nodes, whose elements have a budget of 1.
use Rattle.std.proofs.Common.{◌≡◌, [], Some, rules}
use Rattle.lock_tests.proofs.TwoNodes.{two_elements, two_nodes_made}
use Rattle.lock_tests.proofs.FourRanks.{seats, four_ranks_proper, four_ranks_budgeted}
use Rattle.lock_tests.proofs.shapes.four_ranks.Goals as goal

pub returns-clause-proper : goal.returns-clause-proper
returns-clause-proper c =
    let elements : c.in_ok-vec-3.field-0.items ≡ two_elements (Some 1) = search rules in
    two_nodes_made (Some 1) seats _ _ _ c.in_ok-vec.ensures.items c.in_ok-vec-2.ensures.items elements four_ranks_proper

pub returns-clause-budgeted : goal.returns-clause-budgeted
returns-clause-budgeted c =
    let elements : c.in_ok-vec-3.field-0.items ≡ two_elements (Some 1) = search rules in
    four_ranks_budgeted [] [] _ elements
