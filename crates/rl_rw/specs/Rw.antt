-- RMA-RW as plain functions: writers by the tree, with the marks above its root; readers by the counters.
use Rattle.std.specs.Prelude.{ℕ, ◌+◌, ◌-◌, ◌*◌, ◌/◌, ◌<◌, ◌≤◌, ◌==◌, Bool, true, false, List, [], ◌∷◌, nat_lt, if◌then◌else◌, slice_index, Option, Some}
use Rattle.rl_word.specs.declared.classes.Spot.{Spot}
use Rattle.rl_word.specs.declared.classes.Class.TheVariants as class
use Rattle.rl_word.specs.declared.classes.Mode.{Mode}
use Rattle.rl_word.specs.declared.classes.Mode.TheVariants as mode
use Rattle.rl_word.specs.declared.shapes.Knobs.{Knobs}
use Rattle.rl_word.specs.declared.acts.Act.{Act}
use Rattle.rl_word.specs.Shapes.{TheShape}
use Rattle.rl_step.specs.declared.events.Event.{Event}
use Rattle.rl_step.specs.declared.events.Event.TheVariants as event
use Rattle.rl_step.specs.declared.events.Standing.{Standing}
use Rattle.rl_step.specs.declared.events.Standing.TheVariants as standing
use Rattle.rl_step.specs.Transitions.{Transition, IsBatchedAtMost}
use Rattle.rl_step.specs.Batches.{BatchedFrom}
use Rattle.rl_step.specs.Lock.{LockTable, Told, Deed, no_local}
use Rattle.rl_queue.specs.declared.view.Phase.{Phase}
use Rattle.rl_queue.specs.declared.view.Phase.TheVariants.{Clear, Settle}
use Rattle.rl_queue.specs.Queue.{leave_at}
use Rattle.rl_queue.specs.RankWords.{every_second}
use Rattle.rl_tree.specs.declared.rooted.Rooted.{Rooted}
use Rattle.rl_tree.specs.declared.view.TreeView.{TreeView}
use Rattle.rl_tree.specs.Tree.{at_level, tree_plan, tree_learn, at_hook, tree_resume, tree_standing, with_entry}
use Rattle.rl_tree.specs.Elements.{how_many, ranks_in, leaf_of_rank, of_tree as of_queues, tree_of, tree_spot, queues_from, out_at}
use Rattle.rl_tree.specs.TreeShape.{IsBudgeted}
use Rattle.rl_counter.specs.declared.view.Doing.{Doing}
use Rattle.rl_counter.specs.declared.view.Doing.TheVariants.{Nothing, Arrive, Inside, Depart, Put, TakeOut, TakeOff}
use Rattle.rl_counter.specs.Counter.{TheCounters, busy, counter_act, counter_turn}
use Rattle.rl_rw.specs.declared.view.RwView.{RwView}

-- the tree, whose root has a budget; how many readers may come to a counter; how many ranks a counter is for
pub record Shared : Type 0 where
  pub rooted : Rooted
  pub readers : ℕ
  pub group : ℕ

abbrev pub shared_of : Rooted → ℕ → ℕ → Shared
shared_of rooted readers group = record { rooted = rooted; readers = readers; group = group }

-- that of a shape, for a shard with this home
abbrev pub shared_in : ℕ → TheShape → Knobs → Shared
shared_in home shape knobs = record { rooted = record { home = home; shape = shape; root = Some knobs.writers }; readers = knobs.readers; group = knobs.group }

-- what is asked of the shape and the settings: each element but the root has a budget; so has the root, and all are modest; and a reader may
-- come to a counter, since none would ever enter where none may
pub record SuitsRw (shape : TheShape) (knobs : Knobs) : Type 0 where
  pub budgeted : IsBudgeted shape
  pub writers : knobs.writers ≤ 1000
  pub served : 0 < knobs.readers
  pub readers : knobs.readers ≤ 1000
  pub some : 0 < knobs.group
  pub group : knobs.group ≤ 32

-- rank r is in group r / group; the last group may be short
abbrev pub groups : Shared → ℕ
groups K = (ranks_in K.rooted + K.group - 1) / K.group

abbrev pub mine_of : Shared → ℕ → ℕ → Bool
mine_of K g r = r / K.group == g

-- the words of the counters stand behind those of the tree, arrive and depart of each side by side
abbrev pub behind_tree : Shared → ℕ
behind_tree K = of_queues K.rooted

abbrev pub counters_of : Shared → TheCounters
counters_of K = record {
  arrive = every_second (behind_tree K) (groups K);
  depart = every_second (behind_tree K + 1) (groups K);
  root_tail =
      0;
  readers = K.readers;
}

-- they live on the node of the group's first rank
abbrev pub rw_spot : Shared → ℕ → Spot
rw_spot K w =
    if nat_lt w (behind_tree K) then tree_spot K.rooted w
    else record { class = class.Card; home = slice_index K.rooted.shape.node_of (((w - behind_tree K) / 2) * K.group) }

abbrev pub rw_view : TreeView → ℕ → Doing → RwView
rw_view t g p = record { tree = t; counter = record { counter = g; doing = p } }

-- a rank makes the acts of its task at the counters, and else those of the tree
abbrev pub plan_of : Shared → RwView → Bool → Option Act
plan_of K v true = counter_act (counters_of K) v.counter.counter v.counter.doing
plan_of K v false = tree_plan (tree_of K.rooted) v.tree

-- where the tree stands at its hook the rank puts the marks up, or takes them down
abbrev pub hooks : Phase → Doing
hooks Settle = Put 0
hooks p = TakeOut 0

abbrev pub from_tree : RwView → Bool → Told TreeView → Told RwView
from_tree v true u = record { view = rw_view u.view v.counter.counter (hooks u.view.phase); events = u.events; waits = u.waits }
from_tree v false u = record { view = rw_view u.view v.counter.counter Nothing; events = (with_entry u).events; waits = u.waits }

-- a task at the marks that has ended lets the tree go on
abbrev pub after_hook : Shared → RwView → Told RwView
after_hook K v = from_tree v false (tree_resume (tree_of K.rooted) v.tree)

-- what a rank learns at the counters: a reader that comes in enters
abbrev pub from_counter : Shared → RwView → Doing → Doing → Bool → Told RwView
from_counter K v p Inside w = record { view = rw_view v.tree v.counter.counter Inside; events = event.EnterR v.tree.rank ∷ []; waits = w }
from_counter K v Depart Nothing w = record { view = rw_view v.tree v.counter.counter Nothing; events = []; waits = w }
from_counter K v p Nothing w = after_hook K v
from_counter K v p q w = record { view = rw_view v.tree v.counter.counter q; events = []; waits = w }

abbrev pub rw_learn : Shared → RwView → Bool → ℕ → Told RwView
rw_learn K v true got = from_counter K v v.counter.doing (counter_turn (counters_of K) v.counter.doing got).doing
    (counter_turn (counters_of K) v.counter.doing got).waits
rw_learn K v false got = from_tree v (at_hook (tree_learn (tree_of K.rooted) v.tree got).view) (tree_learn (tree_of K.rooted) v.tree got)

abbrev pub asks_for : RwView → Mode → RwView
asks_for v mode.Read = rw_view v.tree v.counter.counter Arrive
asks_for v mode.Write = rw_view (at_level v.tree 0 Clear) v.counter.counter Nothing

abbrev pub leaves_at : RwView → Doing → RwView
leaves_at v Inside = rw_view v.tree v.counter.counter Depart
leaves_at v p = rw_view (at_level v.tree 0 (leave_at v.tree.phase true)) v.counter.counter p

abbrev pub rw_standing : Doing → TreeView → Standing
rw_standing Nothing t = tree_standing t
rw_standing Inside t = standing.Reader
rw_standing Depart t = standing.Leaving
rw_standing (TakeOut i) t = standing.Leaving
rw_standing (TakeOff i x) t = standing.Leaving
rw_standing p t = standing.Asking

-- The lock: its queues are those of the tree; no cohort; readers share it; and no local compare-and-swap.
abbrev pub rw_table : Shared → LockTable RwView
rw_table K =
    record {
      size = behind_tree K + 2 * groups K;
      spot = rw_spot K;
      first = λ r. rw_view (out_at r (leaf_of_rank K.rooted r)) (r / K.group) Nothing;
      ask = asks_for;
      plan = λ v. plan_of K v (busy v.counter.doing);
      learn = λ v got. rw_learn K v (busy v.counter.doing) got;
      leave = λ v. leaves_at v v.counter.doing;
      standing = λ v. rw_standing v.counter.doing v.tree;
      queues = queues_from K.rooted 0 (how_many K.rooted);
      cohort = λ c. false;
      shares = true;
      may_make = no_local;
    }

-- What is promised of it beyond: while no atom lowers the arrive word of a group at most so many readers of the group enter.
abbrev pub BoundsBatches : Shared → List Event → List Transition → Type 0
BoundsBatches K t ts = (g : ℕ) → g < groups K → IsBatchedAtMost (mine_of K g) (behind_tree K + 2 * g) K.readers ts

-- what the lock says of its acts, from which that comes
abbrev pub KeepsBatches : Shared → List Event → List Deed → Type 0
KeepsBatches K t ds = (g : ℕ) → g < groups K → BatchedFrom (mine_of K g) (behind_tree K + 2 * g) K.readers 0 ds
