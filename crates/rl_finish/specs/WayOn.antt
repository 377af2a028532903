-- A way on to the end of all calls, and the turns that it is written as.
use Rattle.std.specs.Prelude.{◌≢◌, ℕ, ◌<◌, ◌≤◌, List, [], ◌∷◌, ◌≡◌, ◌+◌, ◌++◌}
use Rattle.rl_ops.specs.declared.schedule.Turn.{Turn}
use Rattle.rl_ops.specs.declared.schedule.Turn.TheVariants.{Steps, Stop}
use Rattle.rl_ops.specs.Schedule.{rank_of, TurnFits}
use Rattle.rl_core.specs.ShardEnding.{LeftOf}
use Rattle.rl_core.specs.ShardGuiding.{UrgentOf}
use Rattle.rl_machine.specs.Running.{Running}
use Rattle.rl_machine.specs.Run.{stepped, run_of, ranks_of_turns, steps_in}
use Rattle.rl_machine.specs.GoesNext.{GoesNext}
use Rattle.rl_machine.specs.MachineEnding.{machine_left}
use Rattle.std.specs.List.{AllByRecursion}

-- each rank of the list is the one that goes next at its moment; of a machine over these cores
module _ {C V : Type 0} (urgent : UrgentOf C V) (cores : List C) where
  abbrev pub IsWayOn : Running V → List ℕ → Type 0
  IsWayOn m [] = Unit {0}
  IsWayOn m (rank ∷ ranks) = GoesNext urgent cores m rank × IsWayOn (stepped m rank) ranks

  -- some way on leads from m to n
  abbrev pub LeadsOn : Running V → Running V → Type 0
  LeadsOn m n = (ranks : List ℕ) × IsWayOn m ranks × (n ≡ run_of m ranks)

-- so many steps are enough for what is left to do
abbrev pub IsEnough : {C V : Type 0} → LeftOf C V → (C → ℕ) → List C → Running V → ℕ → Type 0
IsEnough left most cores m n = machine_left left most cores m ≤ n

-- the turn has a step
abbrev pub HasSteps : Turn → Type 0
HasSteps (Steps rank count) = 0 < count
HasSteps (Stop rank) = ⊥

-- each turn is all steps that one rank makes one after the other: it has some, and the next turn is another rank's
abbrev pub AreWhole : List Turn → Type 0
AreWhole [] = Unit {0}
AreWhole (t ∷ []) = HasSteps t
AreWhole (t ∷ u ∷ ts) = HasSteps t × (rank_of t ≢ rank_of u) × AreWhole (u ∷ ts)

-- these turns have one step more, of this rank
pub record HaveOneMore (ts : List Turn) (rank : ℕ) (us : List Turn) : Type 0 where
  pub ranks : ranks_of_turns us ≡ ranks_of_turns ts ++ rank ∷ []
  pub steps : steps_in us ≡ steps_in ts + 1
  pub fit : (n : ℕ) → rank < n → AllByRecursion (TurnFits n) ts → AllByRecursion (TurnFits n) us
  pub whole : AreWhole us
