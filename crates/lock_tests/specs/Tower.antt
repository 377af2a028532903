-- A proper shape of three levels for the tests: one rank on a node under a group under the root.
use Rattle.std.proofs.Common.{[], ◌∷◌, List, Some, None}
use Rattle.rl_word.specs.declared.shapes.Element.{Element}
use Rattle.rl_word.specs.Shapes.{TheShape}

abbrev pub top : Element
top = record { parent = None; first_node = 0; budget = None }

abbrev pub group : Element
group = record { parent = Some 0; first_node = 0; budget = Some 2 }

abbrev pub node : Element
node = record { parent = Some 1; first_node = 0; budget = Some 1 }

abbrev pub storeys : List Element
storeys = top ∷ group ∷ node ∷ []

abbrev pub tower : TheShape
tower = record { node_of = 0 ∷ []; nodes = 1; leaf_of = 2 ∷ []; elements = storeys }
