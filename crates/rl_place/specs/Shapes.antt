-- The shape of a placement, and what its lock reads.
use Rattle.std.specs.Prelude.{ℕ, ◌-◌, ◌<◌, ◌≤◌, List, length, map, slice_get, Option, Some, None, ◌==◌, if◌then◌else◌}
use Rattle.std.specs.List.{AllByRecursion, position_or_len}
use Rattle.rl_word.specs.declared.shapes.Element.{Element}
use Rattle.rl_word.specs.declared.shapes.Knobs.{Knobs}
use Rattle.rl_word.specs.Shapes.{TheShape}
use Rattle.rl_place.specs.declared.path.Path.{Path}
use Rattle.rl_place.specs.declared.lock.Lock.{Lock}
use Rattle.rl_place.specs.declared.lock.Lock.TheVariants.{Alock, Mcs, Rw, Seq, Combine}
use Rattle.rl_place.specs.Paths.{prefix}
use Rattle.rl_place.specs.Numbering.{same_path, node_paths, element_paths}
use Rattle.rl_place.specs.Places.{ThePlace}

-- the number of a path among those that were seen: its place
abbrev pub number_in : List Path → Path → ℕ
number_in seen path = position_or_len (same_path path) seen

-- the element above an element: that of one number fewer. The root has none
abbrev pub parent_in : List Path → Path → Option ℕ
parent_in elements name = if name.len == 0 then None else Some (number_in elements (prefix name (name.len - 1)))

-- the lowest-numbered node under an element: its path begins with the element's numbers
abbrev pub first_node_in : List Path → Path → ℕ
first_node_in nodes name = position_or_len (λ node. same_path name (prefix node name.len)) nodes

-- the budget of the elements that are named by n numbers, from 1
abbrev pub level_budget : List ℕ → ℕ → Option ℕ
level_budget budgets n = if n == 0 then None else slice_get budgets (n - 1)

-- the budget of the elements that are named by n numbers; the root is named by none
abbrev pub budget_of : Lock → ℕ → Option ℕ
budget_of (Mcs budgets) n = level_budget budgets n
budget_of (Rw budgets writers readers group) n = if n == 0 then Some writers else level_budget budgets n
budget_of _ n = None

-- the element of a name
abbrev pub element_of : Lock → List Path → List Path → Path → Element
element_of lock nodes elements name = record {
  parent = parent_in elements name;
  first_node = first_node_in nodes name;
  budget = budget_of lock name.len;
}

-- the names of elements have three numbers at most, and there are so few nodes and elements that 32 bits number them
abbrev pub MayBeNumbered : List Path → List Path → Type 0
MayBeNumbered nodes elements = AllByRecursion (λ (name : Path). name.len ≤ 3) elements × (length nodes < 4294967296) × (length elements < 4294967296)

-- the shape of these nodes and elements, with a lock and the path of each rank
abbrev pub shape_with : Lock → List Path → List Path → List Path → TheShape
shape_with lock paths nodes elements = record {
  node_of = map (number_in nodes) paths;
  nodes = length nodes;
  leaf_of = map (number_in elements) nodes;
  elements = map (element_of lock nodes elements) elements;
}

-- the shape of a placement
abbrev pub shape_of : ThePlace → TheShape
shape_of place = shape_with place.lock place.paths (node_paths place.paths) (element_paths place.paths)

-- the settings that a lock reads, with 0 for those that it doesn't have
abbrev pub knobs_of : Lock → Knobs
knobs_of (Alock local remote) = record { local = local; remote = remote; writers = 0; readers = 0; group = 0 }
knobs_of (Seq local remote) = record { local = local; remote = remote; writers = 0; readers = 0; group = 0 }
knobs_of (Combine local remote) = record { local = local; remote = remote; writers = 0; readers = 0; group = 0 }
knobs_of (Rw budgets writers readers group) = record { local = 0; remote = 0; writers = writers; readers = readers; group = group }
knobs_of _ = record { local = 0; remote = 0; writers = 0; readers = 0; group = 0 }
