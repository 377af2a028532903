-- The lists are those of two ranks on one node.
use Rattle.std.proofs.Common.{◌≡◌, ◌∷◌, [], arith, rules}
use Rattle.rl_word.specs.OneNode.{root_element, node_element}
use Rattle.rl_word.specs.laws.OneNode.{one_node_made}
use Rattle.lock_tests.proofs.shapes.one_node.Goals as goal

pub returns-clause-proper : goal.returns-clause-proper
returns-clause-proper c =
    let elements : c.in_ok-vec-3.field-0.items ≡ root_element ∷ node_element ∷ [] = search rules in
    one_node_made 2 _ _ _ c.in_ok-vec.ensures.items c.in_ok-vec-2.ensures.items elements (omega arith) (omega arith)
