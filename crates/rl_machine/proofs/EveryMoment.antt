-- What is true of a machine at every moment is so of the value that a contract sees, now and after every run.
use Rattle.std.specs.Prelude.{◌≡◌, ℕ, List, length}
use Rattle.std.proofs.Common.{sym, subst}
use Rattle.rl_step.specs.Lock.{Deed}
use Rattle.rl_core.specs.ShardLaws.{LawsOf}
use Rattle.rl_core.specs.Moments.{CoreSays}
use Rattle.rl_machine.specs.Running.{Running, TheMachine, running, cores_of}
use Rattle.rl_machine.specs.Run.{run_of, AreThere}
use Rattle.rl_machine.specs.MachineGood.{IsMachine, MachineGood}
use Rattle.rl_machine.specs.laws.RunActs.{run_acts}
use Rattle.rl_machine.specs.laws.MachineLaws.{run_good}

module _ {C V : Type 0} (says : C → CoreSays V) (laws : LawsOf says) (m value : TheMachine C V) (same : m ≡ value) (is : IsMachine says m)
    (P : List C → Running V → Type 0) (follows : (cores : List C) (acts : List (List Deed)) (run : Running V) → MachineGood says cores acts run → P cores run) where
  pub now : P (cores_of value) (running says value)
  now = subst (λ z. P (cores_of z) (running says z)) same (follows (cores_of m) is.acts (running says m) is.is_good)

  pub ever : (ks : List ℕ) → AreThere (length value.calls) ks → P (cores_of value) (run_of (running says value) ks)
  ever ks there =
      let run : Running V = running says m in
      let low = subst (λ z. AreThere (length z.calls) ks) (sym same) there in
      subst (λ z. P (cores_of z) (run_of (running says z) ks)) same
      (follows (cores_of m) (run_acts is.acts run ks) (run_of run ks) (run_good says laws (cores_of m) is.acts run ks is.is_good low))
