-- A rank's machine on one shard with the rank's tallies of the queues beside it; and the rule of a window of such machines.
use Rattle.std.specs.Prelude.{◌≡◌, ◌⊎◌, ◌≤◌, ◌<◌, ◌*◌, ℕ, List, length, map, replicate, sum_by, slice_get, Some}
use Rattle.rl_step.specs.declared.events.Event.{Event}
use Rattle.rl_step.specs.declared.events.Standing.{Standing}
use Rattle.rl_step.specs.Lock.{Deed}
use Rattle.rl_step.specs.Do.{TheWindow}
use Rattle.rl_step.specs.Core.{CoreTable, Turned}
use Rattle.rl_step.specs.Queues.{QueueOf, settled, passed}
use Rattle.rl_core.specs.ShardTables.{ShardTable, first_views}
use Rattle.rl_core.specs.Moments.{Moment, CoreSays}
use Rattle.rl_shard.specs.Reached.{IsReached}
use Rattle.rl_shard.specs.declared.counting.Counting.{Counting}
use Rattle.rl_shard.specs.declared.counting.CountedView.{CountedView}
use Rattle.rl_shard.specs.Tallies.{full, no_tally, tally_at, all_noted}
use Rattle.rl_shard.specs.Queues.{AreMembersThere}

module _ {V : Type 0} where
  abbrev pub whole_of : CountedView V → V
  whole_of x = x.whole

  -- the room for a rank's entries at its desk, and at the desks of all ranks
  abbrev pub room_of : ShardTable V → CountedView V → ℕ
  room_of T x = (T.own x.whole).kept.room

  abbrev pub rooms_of : ShardTable V → List (CountedView V) → List ℕ
  rooms_of T vs = map (room_of T) vs

  -- how the rank stands at the lock
  abbrev pub standing_of : ShardTable V → CountedView V → Standing
  standing_of T x = T.standing x.whole

  -- how often the rank settled the queue, and passed it, by its own count
  abbrev pub settled_by : ℕ → CountedView V → ℕ
  settled_by q x = (tally_at q x.tallies).settled

  abbrev pub passed_by : ℕ → CountedView V → ℕ
  passed_by q x = (tally_at q x.tallies).passed

  -- what an atom that gave got leaves: the machine's view, and the tallies with what happened
  abbrev pub counted_after : CoreTable V → CountedView V → ℕ → Turned (CountedView V)
  counted_after K x got =
      record {
        view = record { whole = (K.after x.whole got).view; tallies = all_noted (K.after x.whole got).events x.tallies };
        events = (K.after x.whole got).events;
        stepped = (K.after x.whole got).stepped;
      }

  -- the machine as plain functions: its atoms, answers and homes are those of the machine without tallies
  abbrev pub counted_table : CoreTable V → CoreTable (CountedView V)
  counted_table K = record { next = λ x. K.next x.whole; after = counted_after K; size = K.size; home = K.home }

  -- some rank's count is full
  pub record AnyFull (count : CountedView V → ℕ) (vs : List (CountedView V)) : Type 0 where
    pub rank : ℕ
    pub view : CountedView V
    pub has : slice_get vs rank ≡ Some view
    pub is_full : full ≤ count view

  -- the counts of all ranks come to this number; unless one is full
  abbrev pub ComeTo : (CountedView V → ℕ) → List (CountedView V) → ℕ → Type 0
  ComeTo count vs n = AnyFull count vs ⊎ (sum_by count vs ≡ n)

  -- some rank's count of the queue is full, that of its settlements or that of its passes
  abbrev pub HasFullCount : ℕ → List (CountedView V) → Type 0
  HasFullCount q vs = AnyFull (settled_by q) vs ⊎ AnyFull (passed_by q) vs

  -- The ranks' counts keep the budgets: all ranks together have counted, of each queue that has a budget, at most so many passes for each
  -- settlement; unless a count of the queue is full, and so has stood still.
  abbrev pub CountsKeepBudgets : List QueueOf → List (CountedView V) → Type 0
  CountsKeepBudgets queues vs =
      (q budget : ℕ) (queue : QueueOf) → slice_get queues q ≡ Some queue → queue.budget ≡ Some budget →
      HasFullCount q vs ⊎ (sum_by (passed_by q) vs ≤ budget * sum_by (settled_by q) vs)

  -- the moment of the machines without tallies, with what has happened so far
  abbrev pub whole_moment : TheWindow → List (CountedView V) → List Event → List Deed → Moment V
  whole_moment h vs trace acts = record { held = h; views = map whole_of vs; trace = trace; acts = acts }

  -- The rule of a window: by some events and acts so far the moment is good, and the ranks have come to it by what their machines do; each rank
  -- has a tally of each queue; the members of the queues are there; and each queue was settled and passed in these events as often as the
  -- ranks have counted.
  pub record CountGood (S : CoreSays V) (h : TheWindow) (vs : List (CountedView V)) : Type 0 where
    pub trace : List Event
    pub acts : List Deed
    pub is_good : S.good (whole_moment h vs trace acts)
    pub reached : IsReached S.table S.layout.nodes (rooms_of S.table vs) (whole_moment h vs trace acts)
    pub each : (r : ℕ) (x : CountedView V) → slice_get vs r ≡ Some x → length x.tallies ≡ length S.table.queues
    pub members : AreMembersThere S.table.queues (length S.layout.node_of)
    pub settled_are : (q : ℕ) → q < length S.table.queues → ComeTo (settled_by q) vs (settled q trace)
    pub passed_are : (q : ℕ) → q < length S.table.queues → ComeTo (passed_by q) vs (passed q trace)

-- the rule of the window of a core
abbrev pub counting_rule : {C V : Type 0} → (C → CoreSays V) → Counting C V → TheWindow → List (CountedView V) → Type 0
counting_rule says core = CountGood (says core.whole)

-- the views of all ranks before their first block: each with room for so many entries, and a tally of nothing for each of so many queues
abbrev pub first_counted : {V : Type 0} → ShardTable V → ℕ → List ℕ → List (CountedView V)
first_counted T queues rooms = map (λ x. record { whole = x; tallies = replicate queues no_tally }) (first_views T 0 rooms)
