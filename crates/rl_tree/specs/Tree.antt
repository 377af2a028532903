-- The element tree as plain functions: a queue for each element, and what a rank does in the queues on its path.
use Rattle.std.specs.Prelude.{ℕ, zero, suc, ◌+◌, Bool, true, false, List, [], ◌∷◌, ◌++◌, slice_set, Option, Some, None, if◌then◌else◌, is_some, get_or, unwrap_or}
use Rattle.rl_word.specs.declared.acts.Act.{Act}
use Rattle.rl_word.specs.declared.acts.Act.TheVariants.{Load}
use Rattle.rl_step.specs.declared.events.Event.{Event}
use Rattle.rl_step.specs.declared.events.Event.TheVariants as event
use Rattle.rl_step.specs.declared.events.Standing.{Standing}
use Rattle.rl_step.specs.declared.events.Standing.TheVariants as standing
use Rattle.rl_step.specs.Lock.{Told}
use Rattle.rl_queue.specs.declared.view.Phase.{Phase}
use Rattle.rl_queue.specs.declared.view.Phase.TheVariants.{Idle, Clear, Settle, Granted, Look, Above}
use Rattle.rl_queue.specs.Queue.{TheNames, QueueTurn, status_word, full_budget, plan_at, turn_at, settled_at, resume_at}
use Rattle.rl_queue.specs.Standings.{standing_of}
use Rattle.rl_queue.specs.Lane.{told_left}
use Rattle.rl_tree.specs.declared.view.TreeView.{TreeView}

-- the queue of each element, and its parent: none for the root
pub record TheTree : Type 0 where
  pub names : ℕ → TheNames
  pub parent : ℕ → Option ℕ

abbrev pub is_none : Option ℕ → Bool
is_none None = true
is_none (Some p) = false

-- the element at a level of a path from a leaf, and the member of its queue for which a rank works there
abbrev pub path : TheTree → ℕ → ℕ → ℕ
path T leaf zero = leaf
path T leaf (suc j) = unwrap_or (T.parent (path T leaf j)) 0

abbrev pub member_at : TheTree → ℕ → ℕ → ℕ → ℕ
member_at T rank leaf zero = rank
member_at T rank leaf (suc j) = path T leaf j

abbrev pub names_at : TheTree → TreeView → ℕ → TheNames
names_at T v j = T.names (path T v.leaf j)

abbrev pub works_for : TheTree → TreeView → ℕ → ℕ
works_for T v j = member_at T v.rank v.leaf j

abbrev pub behind_at : List (Option ℕ) → ℕ → Option ℕ
behind_at ss j = get_or ss j None

-- a view at a level in a phase
abbrev pub at_level : TreeView → ℕ → Phase → TreeView
at_level v w p = record v { level = w; phase = p; query = false }

abbrev pub asks_status : TreeView → ℕ → TreeView
asks_status v w = record v { level = w; phase = Idle; query = true }

abbrev pub leaves_behind : TreeView → ℕ → Option ℕ → TreeView
leaves_behind v w s = record v { behind = slice_set v.behind w s }

-- the act of a rank at its level
abbrev pub tree_plan : TheTree → TreeView → Option Act
tree_plan T v =
    if v.query then Some (Load (status_word (names_at T v v.level) (works_for T v v.level))) else plan_at (names_at T v v.level) (works_for T v v.level) v.phase

-- the settlements of the queues below a level, from the upper one down
abbrev pub settles_below : TheTree → TreeView → ℕ → List Event
settles_below T v zero = []
settles_below T v (suc j) = event.Settle (names_at T v j).queue (works_for T v j) ∷ settles_below T v j

-- the phase in its node's queue of a rank that has come in from a level, where it has so many passes left
abbrev pub inside_from : TheTree → TreeView → ℕ → ℕ → Phase
inside_from T v zero left = Granted left
inside_from T v (suc j) left = settled_at (names_at T v 0).budget

-- A rank that has been given the queue at a level settles in all queues below, and is inside.
abbrev pub comes_in : TheTree → TreeView → ℕ → ℕ → List Event → Told TreeView
comes_in T v w left es = record { view = at_level v 0 (inside_from T v w left); events = es ++ settles_below T v w; waits = false }

-- one that must settle works for its element one level up, but at the root it stands at the hook
abbrev pub goes_up : Bool → TreeView → ℕ → List Event → Told TreeView
goes_up true v w es = record { view = at_level v w Settle; events = es; waits = false }
goes_up false v w es = record { view = at_level v (w + 1) Clear; events = es; waits = false }

-- one that gives up what is above loads the status of its element one level up, but at the root it stands at the hook
abbrev pub gives_up : Bool → TreeView → ℕ → Option ℕ → List Event → Told TreeView
gives_up true v w s es = record { view = at_level (leaves_behind v w s) w (Above s); events = es; waits = false }
gives_up false v w s es = record { view = asks_status (leaves_behind v w s) (w + 1); events = es; waits = false }

-- one that has left the queue at a level goes on in the queue below
abbrev pub goes_down : TreeView → ℕ → List Event → Told TreeView
goes_down v zero es = record { view = at_level v 0 Idle; events = es; waits = false }
goes_down v (suc j) es = record { view = at_level v j (resume_at (Above (behind_at v.behind j))); events = es; waits = false }

abbrev pub tree_walk : TheTree → TreeView → ℕ → Phase → List Event → Bool → Told TreeView
tree_walk T v w Settle es b = goes_up (is_none (T.parent (path T v.leaf w))) v w es
tree_walk T v w (Granted left) es b = comes_in T v w left es
tree_walk T v w (Above s) es b = gives_up (is_none (T.parent (path T v.leaf w))) v w s es
tree_walk T v w Idle es b = goes_down v w es
tree_walk T v w p es b = record { view = at_level v w p; events = es; waits = b }

abbrev pub walk_turn : TheTree → TreeView → ℕ → QueueTurn → Told TreeView
walk_turn T v w t = tree_walk T v w t.phase t.events t.waits

-- a queue with a budget is left by the leave of one that has something above it
abbrev pub tree_learn : TheTree → TreeView → ℕ → Told TreeView
tree_learn T v got =
    if v.query then record {
      view =
          at_level v v.level (Look (told_left (names_at T v v.level).budget got) (is_some (names_at T v v.level).budget));
      events = [];
      waits = false;
    }
    else walk_turn T v v.level (turn_at (names_at T v v.level) (works_for T v v.level) v.phase got)

-- the view stands at the hook above the root
abbrev pub hook_by : Bool → Phase → Bool
hook_by false Settle = true
hook_by false (Above s) = true
hook_by q p = false

abbrev pub at_hook : TreeView → Bool
at_hook v = hook_by v.query v.phase

-- and goes on from there: a head of the root settles, and with it all queues below; a leaver hands the root over
abbrev pub resume_by : TheTree → TreeView → Phase → List Event → Told TreeView
resume_by T v Settle es = comes_in T v v.level (full_budget (names_at T v v.level).budget)
    (es ++ event.Settle (names_at T v v.level).queue (works_for T v v.level) ∷ [])
resume_by T v p es = record { view = at_level v v.level (resume_at p); events = es; waits = false }

abbrev pub tree_resume : TheTree → TreeView → Told TreeView
tree_resume T v = resume_by T v v.phase []

abbrev pub tree_standing : TreeView → Standing
tree_standing v = if v.query then standing.Leaving else standing_of v.phase

-- who is inside enters
abbrev pub entry_if : Bool → Phase → ℕ → List Event
entry_if false (Granted left) m = event.EnterW m ∷ []
entry_if q p m = []

abbrev pub with_entry : Told TreeView → Told TreeView
with_entry u = record u { events = u.events ++ entry_if u.view.query u.view.phase u.view.rank }
