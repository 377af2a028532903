-- What is true of the elements of a placement.
use Rattle.std.proofs.Common.{ℕ, zero, suc, ◌≤◌, List, [], ◌∷◌, ap, arith}
use Rattle.std.specs.List.{AllByRecursion}
use Rattle.rl_text.proofs.TextLaws.{AllByRecursion-append}
use Rattle.rl_place.specs.declared.path.Path.{Path}
use Rattle.rl_place.specs.Paths.{IsPath, prefix, root_path}
use Rattle.rl_place.specs.Numbering.{seen_after, prefixes_to, elements_after, element_paths}
use Rattle.rl_place.specs.Places.{ThePlace, IsProper}
use Rattle.rl_place.proofs.NodeLaws.{fold_keeps, all-after}

-- a path has at most three numbers
abbrev pub IsShort : Path → Type 0
IsShort path = path.len ≤ 3

short-paths : (levels : ℕ) (paths : List Path) → levels ≤ 3 → AllByRecursion (λ path. IsPath levels path) paths → AllByRecursion IsShort paths
short-paths levels [] few proper = tt
short-paths levels (path ∷ paths) few proper = (short path proper.0, short-paths levels paths few proper.1)
  where
    short : (path : Path) → IsPath levels path → path.len ≤ 3
    short path p = omega (arith, few, p.count, ap (λ (q : Path). q.len) p.is)

pub short-place : (place : ThePlace) → IsProper place → AllByRecursion IsShort place.paths
short-place place proper = short-paths place.levels place.paths proper.most_levels proper.paths

short-prefixes : (path : Path) (n : ℕ) → n ≤ 3 → AllByRecursion IsShort (prefixes_to path n)
short-prefixes path zero h = tt
short-prefixes path (suc n) h = AllByRecursion-append IsShort (prefixes_to path n) (prefix path (suc n) ∷ []) (short-prefixes path n (omega arith)) (h, tt)

pub short-elements : (paths : List Path) → AllByRecursion IsShort paths → AllByRecursion IsShort (element_paths paths)
unfolding element_paths
short-elements paths all = fold_keeps (AllByRecursion IsShort) IsShort elements_after after (root_path ∷ []) paths (omega arith, tt) all
  where
    after : (seen : List Path) (path : Path) → AllByRecursion IsShort seen → IsShort path → AllByRecursion IsShort (elements_after seen path)
    after seen path short h = fold_keeps (AllByRecursion IsShort) IsShort seen_after (λ s p. all-after IsShort s p) seen (prefixes_to path path.len) short (short-prefixes path path.len h)
