-- What the code asks of a view and of what its act told: the elements that it names are there, and the numbers fit.
use Rattle.std.specs.Prelude.{ℕ, ◌+◌, ◌<◌, ◌≤◌, ◌^◌, Bool, true, false, Option, Some, None}
use Rattle.rl_queue.specs.declared.view.Phase.{Phase}
use Rattle.rl_queue.specs.declared.view.Phase.TheVariants.{Idle}
use Rattle.rl_queue.specs.Queue.{PlanFits, GotFits}
use Rattle.rl_tree.specs.declared.view.TreeView.{TreeView}
use Rattle.rl_tree.specs.Tree.{path, works_for, names_at}
use Rattle.rl_tree.specs.declared.rooted.Rooted.{Rooted}
use Rattle.rl_tree.specs.Elements.{how_many, tree_of}

-- the elements on a rank's path up to its level are there
pub record IsPlaced (K : Rooted) (v : TreeView) : Type 0 where
  pub low : v.level ≤ 3
  pub there : (j : ℕ) → j ≤ v.level → path (tree_of K) v.leaf j < how_many K

-- the phase that plans an act: none while a status is loaded
abbrev pub acting : Bool → Phase → Phase
acting true p = Idle
acting false p = p

-- and the member for which it works is named
pub record MayPlan (K : Rooted) (v : TreeView) : Type 0 where
  pub placed : IsPlaced K v
  pub named : PlanFits (names_at (tree_of K) v v.level) (works_for (tree_of K) v v.level) (acting v.query v.phase)

-- what its act told fits it
abbrev pub StatusFits : Option ℕ → ℕ → Type 0
StatusFits None got = Unit {0}
StatusFits (Some b) got = got < 2 ^ 32 + 2

abbrev pub GotFitsBy : Option ℕ → Phase → Bool → ℕ → Type 0
GotFitsBy B p true got = StatusFits B got
GotFitsBy B p false got = GotFits p got

abbrev pub TreeMayLearn : Rooted → TreeView → ℕ → Type 0
TreeMayLearn K v got = GotFitsBy (names_at (tree_of K) v v.level).budget v.phase v.query got
