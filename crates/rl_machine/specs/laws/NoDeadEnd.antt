-- From each state of a machine that meets its rules some steps lead to the end of all calls.
use Rattle.std.specs.Prelude.{◌≡◌, ◌⊎◌, ℕ, ◌<◌, List, [], ◌∷◌, length, refl}
use Rattle.std.proofs.Common.{◌∙◌, ap, subst, arith}
use Rattle.rl_step.specs.Lock.{Deed}
use Rattle.rl_core.specs.ShardLaws.{LawsOf}
use Rattle.rl_core.specs.Moments.{CoreSays}
use Rattle.rl_machine.specs.Running.{Running}
use Rattle.rl_machine.specs.Run.{stepped, run_of, AreThere}
use Rattle.rl_machine.specs.laws.RunActs.{step_acts}
use Rattle.rl_machine.specs.MachineGood.{MachineGood}
use Rattle.rl_machine.specs.laws.MachineLaws.{stepped_good, stepped_calls}
use Rattle.rl_ending.specs.laws.Reach as reach
use Rattle.rl_core.specs.ShardEnding.{LeftOf, EndsOf}
use Rattle.rl_machine.specs.MachineEnding.{AllDone, CanFinish, CanFinishIn, machine_left}
use Rattle.rl_machine.specs.laws.MachineGoes.{machine_goes}

-- a run is one step after the other
steps_are : {V : Type 0} (m : Running V) (ks : List ℕ) → reach.steps stepped m ks ≡ run_of m ks
steps_are m [] = refl
steps_are m (k ∷ ks) = steps_are (stepped m k) ks

all_there : (n : ℕ) (ks : List ℕ) → reach.AreThere (λ j. j < n) ks → AreThere n ks
all_there n [] there = tt
all_there n (k ∷ ks) there = (there.0, all_there n ks there.1)

module _ {C V : Type 0} (says : C → CoreSays V) (laws : LawsOf says)
    (left : LeftOf C V) (most : C → ℕ) (ends : EndsOf says left most) (cores : List C) where
  -- a machine of so many ranks that meets its rules
  record IsRunning (n : ℕ) (m : Running V) : Type 0 where
    acts : List (List Deed)
    is_good : MachineGood says cores acts m
    ranks : length m.calls ≡ n

  keeps : (n : ℕ) (m : Running V) (k : ℕ) → IsRunning n m → k < n → IsRunning n (stepped m k)
  keeps n m k is low =
      let ranks = is.ranks in
      record {
        acts = step_acts is.acts m k;
        is_good = stepped_good says laws cores is.acts m k is.is_good (omega arith);
        ranks = ap length (stepped_calls says laws cores m k) ∙ ranks;
      }

  goes : (n : ℕ) (m : Running V) → IsRunning n m → AllDone m ⊎ reach.Nearer stepped (λ j. j < n) (machine_left left most cores) m
  goes n m is =
      subst (λ z. AllDone m ⊎ reach.Nearer stepped (λ j. j < z) (machine_left left most cores) m) is.ranks
      (machine_goes says laws left most ends cores is.acts m is.is_good)

  pub can_finish_in : (acts : List (List Deed)) (m : Running V) → MachineGood says cores acts m → CanFinishIn (machine_left left most cores m) m
  can_finish_in acts m g =
      let n : ℕ = length m.calls in
      let c = reach.can_end stepped (λ j. j < n) (IsRunning n) AllDone (machine_left left most cores) (keeps n) (goes n) m (record { acts = acts; is_good = g; ranks = refl }) in
      record { ranks = c.ranks; there = all_there n c.ranks c.all; few = c.few; done = subst AllDone (steps_are m c.ranks) c.ends }

  pub can_finish : (acts : List (List Deed)) (m : Running V) → MachineGood says cores acts m → CanFinish m
  can_finish acts m g = let c = can_finish_in acts m g in record { ranks = c.ranks; there = c.there; done = c.done }
