-- What a definition says by a test, as a function of what the test gives: the laws go by its two cases.
use Rattle.std.specs.Prelude.{ℕ, Bool, false, [], is_some, if◌then◌else◌, Option, Some}
use Rattle.rl_word.specs.declared.acts.Act.{Act}
use Rattle.rl_word.specs.declared.acts.Act.TheVariants.{Load}
use Rattle.rl_step.specs.declared.events.Standing.{Standing}
use Rattle.rl_step.specs.declared.events.Standing.TheVariants as standing
use Rattle.rl_step.specs.Lock.{Told}
use Rattle.rl_queue.specs.declared.view.Phase.{Phase}
use Rattle.rl_queue.specs.declared.view.Phase.TheVariants.{Look}
use Rattle.rl_queue.specs.Queue.{status_word, plan_at, turn_at}
use Rattle.rl_queue.specs.Lane.{told_left}
use Rattle.rl_queue.specs.Standings.{standing_of}
use Rattle.rl_tree.specs.declared.view.TreeView.{TreeView}
use Rattle.rl_tree.specs.Tree.{TheTree, names_at, works_for, at_level, walk_turn}

-- the act of a rank at its level, that asks for a status or not, and what it learns
abbrev pub plan_by : TheTree → TreeView → Bool → Option Act
plan_by T v query =
    if query then Some (Load (status_word (names_at T v v.level) (works_for T v v.level))) else plan_at (names_at T v v.level) (works_for T v v.level) v.phase

abbrev pub learn_by : TheTree → TreeView → Bool → ℕ → Told TreeView
learn_by T v query got =
    if query then record {
      view = at_level v v.level (Look (told_left (names_at T v v.level).budget got)
          (is_some (names_at T v v.level).budget));
      events = [];
      waits = false;
    }
    else walk_turn T v v.level (turn_at (names_at T v v.level) (works_for T v v.level) v.phase got)

-- and how it stands
abbrev pub standing_by : Bool → Phase → Standing
standing_by query p = if query then standing.Leaving else standing_of p
