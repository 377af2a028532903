-- The good states of RMA-RW: a good tree; each counter good under the mark that the rank at the hook, or else the root's gate, puts on
-- it; each view in a row of the table of what a rank may do; and bounded batches.
use Rattle.std.specs.Prelude.{◌≡◌, ◌⊎◌, ℕ, ◌+◌, ◌*◌, ◌/◌, ◌^◌, ◌<◌, Bool, false, List, length, map, slice_get, slice_index, Some}
use Rattle.rl_word.specs.declared.classes.Mode.{Mode}
use Rattle.rl_word.specs.declared.classes.Mode.TheVariants as mode
use Rattle.rl_step.specs.declared.events.Standing.TheVariants as standing
use Rattle.rl_step.specs.Lock.{LockState}
use Rattle.rl_step.specs.Batches.{Batched}
use Rattle.rl_queue.specs.declared.view.Phase.TheVariants.{Settle}
use Rattle.rl_tree.specs.declared.view.TreeView.{TreeView}
use Rattle.rl_tree.specs.Tree.{at_hook, tree_standing}
use Rattle.rl_tree.specs.Elements.{ranks_in}
use Rattle.rl_tree.specs.TreeGood.{GoodAt, IsAbove}
use Rattle.rl_counter.specs.declared.view.Doing.{Doing}
use Rattle.rl_counter.specs.declared.view.Doing.TheVariants.{Nothing, Refused, SeeTail, Round, RoundTail, Put, Count, Compare, TakeOut, TakeOff}
use Rattle.rl_counter.specs.CounterGood.{AllGood, IsMark, mark_by}
use Rattle.rl_counter.specs.Counter.{arrive_word}
use Rattle.rl_rw.specs.declared.view.RwView.{RwView}
use Rattle.rl_rw.specs.Rw.{Shared, groups, mine_of, behind_tree, counters_of}

abbrev pub trees : List RwView → List TreeView
trees vs = map (λ v. v.tree) vs

abbrev pub doings : List RwView → List Doing
doings vs = map (λ v. v.counter.doing) vs

-- THE TABLE OF VIEWS. A rank with no task at the counters is away from the hook; one at the marks is at the hook, to come in or to go
-- out, and at a counter that is there; a reader is out of the tree.
abbrev pub Place : ℕ → Doing → TreeView → Type 0
Place n Nothing t = at_hook t ≡ false
Place n (Put i) t = (t.query ≡ false) × (t.phase ≡ Settle) × (i < n)
Place n (Count i) t = (t.query ≡ false) × (t.phase ≡ Settle) × (i < n)
Place n (Compare i a) t = (t.query ≡ false) × (t.phase ≡ Settle) × (i < n)
Place n (TakeOut i) t = (t.query ≡ false) × IsAbove t.phase × (i < n)
Place n (TakeOff i x) t = (t.query ≡ false) × IsAbove t.phase × (i < n)
Place n p t = tree_standing t ≡ standing.Out

-- and it last asked to read where it is a reader, and to write where it is in the tree
abbrev pub Moded : Doing → TreeView → Mode → Type 0
Moded Nothing t m = (tree_standing t ≡ standing.Out) ⊎ (m ≡ mode.Write)
Moded (Put i) t m = m ≡ mode.Write
Moded (Count i) t m = m ≡ mode.Write
Moded (Compare i a) t m = m ≡ mode.Write
Moded (TakeOut i) t m = m ≡ mode.Write
Moded (TakeOff i x) t m = m ≡ mode.Write
Moded p t m = m ≡ mode.Read

-- What one rank alone knows: it was refused by no mark, it is never in the round, and what it counted is still there.
abbrev pub Lonely : Shared → List ℕ → Doing → Type 0
Lonely K ws (Refused a) = a < 2 ^ 32
Lonely K ws (SeeTail a) = a < 2 ^ 32
Lonely K ws Round = ⊥
Lonely K ws (RoundTail a) = ⊥
Lonely K ws (Compare i a) = slice_index ws (arrive_word (counters_of K) i) ≡ a
Lonely K ws p = Unit {0}

-- some rank is at the marks and does p
pub record AtMarks (vs : List RwView) (p : Doing) : Type 0 where
  pub rank : ℕ
  pub view : RwView
  pub has : slice_get vs rank ≡ Some view
  pub does : view.counter.doing ≡ p
  pub marks : IsMark view.counter.doing

-- what is done at the marks by whoever is there, or nothing
pub record Hooked (vs : List RwView) (p : Doing) : Type 0 where
  pub all : (r : ℕ) (v : RwView) → slice_get vs r ≡ Some v → IsMark v.counter.doing → v.counter.doing ≡ p
  pub some : (p ≡ Nothing) ⊎ AtMarks vs p

-- a state is good
pub record RwGood (K : Shared) (levels : ℕ) (s : LockState RwView) : Type 0 where
  pub all_words : length s.words ≡ behind_tree K + 2 * groups K
  pub all_views : length s.views ≡ ranks_in K.rooted
  pub all_modes : length s.modes ≡ ranks_in K.rooted
  -- the tree, and whether the root's gate is open
  pub inside : Bool
  pub tree : GoodAt K.rooted levels inside s.words (trees s.views) s.trace
  -- what is done at the marks
  pub hook : Doing
  pub hooked : Hooked s.views hook
  -- the counters
  pub counters : AllGood (counters_of K) (groups K) (mine_of K) s.words (doings s.views) (mark_by inside hook)
  -- the views
  pub own : (r : ℕ) (v : RwView) → slice_get s.views r ≡ Some v → v.counter.counter ≡ r / K.group
  pub place : (r : ℕ) (v : RwView) → slice_get s.views r ≡ Some v → Place (groups K) v.counter.doing v.tree
  pub moded : (r : ℕ) (v : RwView) (m : Mode) → slice_get s.views r ≡ Some v → slice_get s.modes r ≡ Some m → Moded v.counter.doing v.tree m
  -- what a reader's batch and one rank alone add
  pub batches : (g : ℕ) → g < groups K → Batched (mine_of K g) (behind_tree K + 2 * g) K.readers s.words s.deeds
  pub lonely : ranks_in K.rooted ≡ 1 → (r : ℕ) (v : RwView) → slice_get s.views r ≡ Some v → Lonely K s.words v.counter.doing
