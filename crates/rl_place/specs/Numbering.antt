-- The numbers of nodes and of elements: each path gets the next number when it is first seen.
use Rattle.std.specs.Prelude.{ℕ, zero, suc, List, [], ◌∷◌, ◌++◌, Bool, ◌&&◌, ◌==◌, fold, if◌then◌else◌}
use Rattle.std.specs.List.{list_any}
use Rattle.std.specs.Cmp.Lexicographic.{pointwise}
use Rattle.rl_place.specs.declared.path.Path.{Path}
use Rattle.rl_place.specs.Paths.{prefix, root_path}

-- two paths are the same
abbrev pub same_path : Path → Path → Bool
same_path a b = a.len == b.len && pointwise (λ x y. x == y) a.parts b.parts

-- what is seen and isn't there yet goes last
abbrev pub seen_after : List Path → Path → List Path
seen_after seen path = if list_any (same_path path) seen then seen else seen ++ path ∷ []

-- the nodes: the paths of the ranks, in the order in which they are first seen. A node's number is its place here
unfoldable pub node_paths : List Path → List Path
node_paths paths = fold seen_after [] paths

-- the groups above a path, by their first one, two and more numbers, and among them the whole path
abbrev pub prefixes_to : Path → ℕ → List Path
prefixes_to path zero = []
prefixes_to path (suc n) = prefixes_to path n ++ prefix path (suc n) ∷ []

-- the elements that are seen with a path
abbrev pub elements_after : List Path → Path → List Path
elements_after seen path = fold seen_after seen (prefixes_to path path.len)

-- the elements: the root, and the groups and nodes in the order in which they are first seen with the paths of the ranks.
-- An element's number is its place here
unfoldable pub element_paths : List Path → List Path
element_paths paths = fold elements_after (root_path ∷ []) paths
