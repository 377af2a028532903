-- A machine has no dead end: some steps lead from it to the end of all calls of all ranks. And what is left to do at one.
use Rattle.std.specs.Prelude.{◌≡◌, ℕ, ◌+◌, ◌*◌, ◌-◌, ◌<◌, ◌≤◌, List, [], ◌∷◌, length, sum_by}
use Rattle.rl_model.specs.declared.call.Call.{Call}
use Rattle.rl_machine.specs.Running.{ShardRun, Running}
use Rattle.rl_machine.specs.Run.{calls_by, done_of, stepped, run_of, AreThere}
use Rattle.rl_machine.specs.Causes.{IsFinished}
use Rattle.rl_core.specs.ShardEnding.{LeftOf}

-- nobody has anything to do: no call is open, none is left, and each rank's entries are those of all its calls
abbrev pub AllDone : {V : Type 0} → Running V → Type 0
AllDone m = (k : ℕ) → k < length m.calls → IsFinished m k × (done_of m k ≡ length (calls_by m k))

-- some steps of ranks that are there lead to that
pub record CanFinish {V : Type 0} (m : Running V) : Type 0 where
  pub ranks : List ℕ
  pub there : AreThere (length m.calls) ranks
  pub done : AllDone (run_of m ranks)

-- and so it is after whatever steps
abbrev pub CanAlwaysFinish : {V : Type 0} → Running V → Type 0
CanAlwaysFinish m = (ks : List ℕ) → AreThere (length m.calls) ks → CanFinish (run_of m ks)

-- so many steps at most lead to the end
pub record CanFinishIn {V : Type 0} (most : ℕ) (m : Running V) : Type 0 where
  pub ranks : List ℕ
  pub there : AreThere (length m.calls) ranks
  pub few : length ranks ≤ most
  pub done : AllDone (run_of m ranks)

-- ---- what is left to do

-- the calls that aren't opened yet, of all ranks: by their lists and how many of each were opened
abbrev pub unopened : List (List Call) → List ℕ → ℕ
unopened [] opened = 0
unopened (c ∷ calls) [] = length c + unopened calls []
unopened (c ∷ calls) (n ∷ opened) = length c - n + unopened calls opened

module _ {C V : Type 0} (left : LeftOf C V) where
  -- on all shards over these cores
  abbrev pub shards_left : List C → List (ShardRun V) → ℕ
  shards_left [] shards = 0
  shards_left (c ∷ cores) [] = 0
  shards_left (c ∷ cores) (S ∷ shards) = left c S.held S.views + shards_left cores shards

  -- a call that isn't opened yet counts more than any opening adds
  abbrev pub machine_left : (C → ℕ) → List C → Running V → ℕ
  machine_left most cores m = (sum_by most cores + 1) * unopened m.calls m.opened + shards_left cores m.shards

  -- as many steps at most as are left to do lead to the end
  abbrev pub CanFinishSoon : (C → ℕ) → List C → Running V → Type 0
  CanFinishSoon most cores m = CanFinishIn (machine_left most cores m) m

  -- rank k's step leaves less to do
  abbrev pub LeavesLess : (C → ℕ) → List C → Running V → ℕ → Type 0
  LeavesLess most cores m k = machine_left most cores (stepped m k) < machine_left most cores m
