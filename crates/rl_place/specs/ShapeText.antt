-- The text of a placement's shape: its nodes and elements by number, and the node where each shard lives.
use Rattle.std.specs.Prelude.{ℕ, List, [], ◌∷◌, ◌++◌, length, map, codes, decimal, Option, Some, None, ◌==◌, if◌then◌else◌}
use Rattle.std.specs.List.{enumerate_from, zip}
use Rattle.rl_text.specs.Spelling.{text_of}
use Rattle.rl_word.specs.declared.shapes.Element.{Element}
use Rattle.rl_place.specs.declared.path.Path.{Path}
use Rattle.rl_place.specs.Paths.{path_word}
use Rattle.rl_place.specs.Numbering.{node_paths, element_paths}
use Rattle.rl_place.specs.Places.{ThePlace}
use Rattle.rl_place.specs.Shapes.{shape_of}

-- a number, or `none` where there is none
abbrev pub number_or_none : Option ℕ → List ℕ
number_or_none None = codes "none"
number_or_none (Some n) = decimal n

-- the name of an element is its path; that of the root, which has no numbers, is `root`
abbrev pub element_name : Path → List ℕ
element_name path = if path.len == 0 then codes "root" else path_word path

-- ranks R nodes N elements E
abbrev pub size_words : ℕ → ℕ → ℕ → List (List ℕ)
size_words ranks nodes elements = codes "ranks" ∷ decimal ranks ∷ codes "nodes" ∷ decimal nodes ∷ codes "elements" ∷ decimal elements ∷ []

-- node I PATH
abbrev pub node_words : ℕ × Path → List (List ℕ)
node_words node = codes "node" ∷ decimal node.0 ∷ path_word node.1 ∷ []

-- element I NAME
abbrev pub named_words : ℕ → Path → List (List ℕ)
named_words number path = codes "element" ∷ decimal number ∷ element_name path ∷ []

-- parent P budget B
abbrev pub tree_words : Element → List (List ℕ)
tree_words element = codes "parent" ∷ number_or_none element.parent ∷ codes "budget" ∷ number_or_none element.budget ∷ []

-- element I NAME parent P budget B
abbrev pub element_words : ℕ × (Path × Element) → List (List ℕ)
element_words e = named_words e.0 e.1.0 ++ tree_words e.1.1

-- shard I home J
abbrev pub shard_words : ℕ × ℕ → List (List ℕ)
shard_words shard = codes "shard" ∷ decimal shard.0 ∷ codes "home" ∷ decimal shard.1 ∷ []

-- the lines of the nodes, of the elements and of the shards, each from number 0 on
abbrev pub node_lines : List Path → List (List (List ℕ))
node_lines nodes = map node_words (enumerate_from 0 nodes)

abbrev pub element_lines : List Path → List Element → List (List (List ℕ))
element_lines names elements = map element_words (enumerate_from 0 (zip names elements))

abbrev pub shard_lines : List ℕ → List (List (List ℕ))
shard_lines homes = map shard_words (enumerate_from 0 homes)

-- the lines of a placement's shape
abbrev pub shape_lines : ThePlace → List (List (List ℕ))
shape_lines place =
    let shape = shape_of place in
    (codes "rmalock-shape" ∷ codes "1" ∷ [])
    ∷ size_words (length shape.node_of) shape.nodes (length shape.elements)
    ∷ (node_lines (node_paths place.paths)
    ++ (element_lines (element_paths place.paths) shape.elements
    ++ (shard_lines place.homes
    ++ (codes "end" ∷ []) ∷ [])))

-- the text of a placement's shape
abbrev pub shape_spelling : ThePlace → List ℕ
shape_spelling place = text_of (shape_lines place)
