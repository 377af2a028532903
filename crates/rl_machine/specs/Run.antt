-- The machine of all shards and its runs: one step of a rank, and a whole list of them.
use Rattle.std.specs.Prelude.{◌≡◌, ◌<◌, ℕ, ◌+◌, List, [], ◌∷◌, ◌++◌, length, map, replicate, Bool, true, false, not, ◌&&◌, nat_lt, slice_get, slice_index, slice_set, get_or, Option, Some, None}
use Rattle.rl_model.specs.declared.call.Call.{Call}
use Rattle.rl_model.specs.declared.entry.Entry.{Entry}
use Rattle.rl_step.specs.declared.events.Event.{Event}
use Rattle.rl_step.specs.declared.events.Stepped.{Stepped}
use Rattle.rl_step.specs.declared.events.Stepped.TheVariants.{Finished}
use Rattle.rl_step.specs.Answers.{counted, steps_made}
use Rattle.rl_ops.specs.declared.schedule.Turn.{Turn}
use Rattle.rl_ops.specs.declared.schedule.Turn.TheVariants as turn
use Rattle.rl_ops.specs.Schedule.{steps_of}
use Rattle.rl_core.specs.Asks.{block_from, block_shard, place_after}
use Rattle.rl_core.specs.Desks.{Desk}
use Rattle.rl_machine.specs.Running.{ShardRun, Running}
use Rattle.rl_machine.specs.ShardSteps.{opened_on, atom_on, answer_on, open_on, desk_on, kept_on}
use Rattle.rl_core.specs.RankGood.{entries_in}

module _ {V : Type 0} where
  -- the shard with this number, if it is there, becomes what f makes of it
  abbrev pub changed_if : List (ShardRun V) → ℕ → (ShardRun V → ShardRun V) → Option (ShardRun V) → List (ShardRun V)
  changed_if shards s f None = shards
  changed_if shards s f (Some S) = slice_set shards s (f S)

  abbrev pub changed : List (ShardRun V) → ℕ → (ShardRun V → ShardRun V) → List (ShardRun V)
  changed shards s f = changed_if shards s f (slice_get shards s)

  -- what is said of the shard, if it is there
  abbrev pub on_shard : {X : Type 0} → X → (ShardRun V → X) → Option (ShardRun V) → X
  on_shard none f None = none
  on_shard none f (Some S) = f S

  -- rank k's calls, their sizes, and where it stands
  abbrev pub calls_by : Running V → ℕ → List Call
  calls_by m k = get_or m.calls k []

  abbrev pub sizes_by : Running V → ℕ → List ℕ
  sizes_by m k = get_or m.sizes k []

  abbrev pub place_of : Running V → ℕ → ℕ
  place_of m k = place_after m.geom (calls_by m k) (slice_index m.opened k)

  -- the shard where it stands, if it is there
  abbrev pub stands_on : Running V → ℕ → Option (ShardRun V)
  stands_on m k = slice_get m.shards (place_of m k)

  -- and the shard's core, of a machine over these cores
  abbrev pub core_there : {C : Type 0} → List C → Running V → ℕ → Option C
  core_there cores m k = slice_get cores (place_of m k)

  -- rank k has an open call
  abbrev pub has_open_call : Running V → ℕ → Bool
  has_open_call m k = on_shard false (open_on k) (slice_get m.shards (place_of m k))

  -- it opens its next block where none is open and one is left
  abbrev pub opens : Running V → ℕ → Bool
  opens m k = not (has_open_call m k) && nat_lt (slice_index m.opened k) (length (calls_by m k))

  abbrev pub next_block : Running V → ℕ → List Call
  next_block m k = block_from (calls_by m k) (sizes_by m k) (slice_index m.opened k)

  abbrev pub opened_if : Running V → ℕ → Bool → Running V
  opened_if m k false = m
  opened_if m k true =
      record m {
        shards = changed m.shards (block_shard m.geom (next_block m k)) (opened_on k (next_block m k) (slice_index m.opened k));
        opened = slice_set m.opened k (slice_index m.opened k + length (next_block m k));
      }

  abbrev pub block_opened : Running V → ℕ → Running V
  block_opened m k = opened_if m k (opens m k)

  -- the answer of rank k's next atom, where it stands
  abbrev pub atom_answer : Running V → ℕ → Stepped
  atom_answer m k = on_shard Finished (answer_on k) (slice_get m.shards (place_of m k))

  -- the machine with one more answer counted, and all else as it was
  abbrev pub only_counted : Running V → Stepped → Running V
  only_counted m answer = record { shards = m.shards; geom = m.geom; calls = m.calls; sizes = m.sizes; opened = m.opened; steps = counted answer m.steps }

  -- rank k makes its next atom, where a call of it is open, and its answer is counted
  abbrev pub atom_made : Running V → ℕ → Running V
  atom_made m k =
      record m { shards = changed m.shards (place_of m k) (atom_on k (steps_made m.steps)); steps = counted (atom_answer m k) m.steps }

  -- one step of rank k: its next block is opened where none is open and one is left; then, where a call is open, one atom is made
  abbrev pub stepped : Running V → ℕ → Running V
  stepped m k = atom_made (block_opened m k) k

  abbrev pub answer_of_step : Running V → ℕ → Stepped
  answer_of_step m k = atom_answer (block_opened m k) k

  -- a whole run: one step of each rank of the list, in order
  abbrev pub run_of : Running V → List ℕ → Running V
  run_of m [] = m
  run_of m (k ∷ ks) = run_of (stepped m k) ks

  -- ---- what is told of it

  -- the events of a shard
  abbrev pub trace_of : Running V → ℕ → List (ℕ × Event)
  trace_of m s = on_shard [] (λ S. S.trace) (slice_get m.shards s)

  -- the desks of rank k on all shards by number, and its entries there
  abbrev pub desks_by : Running V → ℕ → List Desk
  desks_by m k = map (desk_on k) m.shards

  abbrev pub kept_by : Running V → ℕ → List (List Entry)
  kept_by m k = map (kept_on k) m.shards

-- the calls of a rank that are done: its entries on all shards
abbrev pub done_of : {V : Type 0} → Running V → ℕ → ℕ
done_of m k = entries_in (kept_by m k)

-- all steps of a schedule
abbrev pub steps_in : List Turn → ℕ
steps_in [] = 0
steps_in (t ∷ ts) = steps_of t + steps_in ts

-- the ranks of one turn's steps
abbrev pub turn_ranks : Turn → List ℕ
turn_ranks (turn.Steps rank count) = replicate count rank
turn_ranks (turn.Stop rank) = []

-- the ranks of a schedule's turns: so many steps of a rank, then the next turn's
abbrev pub ranks_of_turns : List Turn → List ℕ
ranks_of_turns [] = []
ranks_of_turns (t ∷ ts) = turn_ranks t ++ ranks_of_turns ts

-- no call of any rank is open; and none on this shard
abbrev pub IsAllClosed : {V : Type 0} → Running V → Type 0
IsAllClosed m = (rank : ℕ) → rank < length m.calls → has_open_call m rank ≡ false

abbrev pub IsShut : {V : Type 0} → ShardRun V → Type 0
IsShut S = (rank : ℕ) → rank < length S.views → open_on rank S ≡ false

-- the ranks of a list are there
abbrev pub AreThere : ℕ → List ℕ → Type 0
AreThere n [] = Unit {0}
AreThere n (k ∷ ks) = (k < n) × AreThere n ks

-- it is so of every run of so many ranks; and of the machine after each
abbrev pub OfEveryRun : ℕ → (List ℕ → Type 0) → Type 0
OfEveryRun n P = (ks : List ℕ) → AreThere n ks → P ks

abbrev pub EverAfter : {V : Type 0} → ℕ → Running V → (Running V → Type 0) → Type 0
EverAfter n m P = OfEveryRun n (λ ks. P (run_of m ks))
