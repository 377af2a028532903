-- The smallest proper shapes, which tests use: all ranks on one node, under the root alone.
use Rattle.std.specs.Prelude.{ℕ, [], ◌∷◌, replicate, Some, None}
use Rattle.rl_word.specs.declared.shapes.Element.{Element}
use Rattle.rl_word.specs.Shapes.{TheShape}

-- the root, and the element of the one node
abbrev pub root_element : Element
root_element = record { parent = None; first_node = 0; budget = None }

abbrev pub node_element : Element
node_element = record { parent = Some 0; first_node = 0; budget = None }

-- so many ranks on one node
abbrev pub one_node : ℕ → TheShape
one_node ranks = record { node_of = replicate ranks 0; nodes = 1; leaf_of = 1 ∷ []; elements = root_element ∷ node_element ∷ [] }
