-- A step keeps all that is true of a machine, and its answer has its cause.
use Rattle.std.specs.Prelude.{◌≡◌, ◌↔◌, ℕ, ◌+◌, ◌≤◌, ◌<◌, Bool, true, false, List, length, refl}
use Rattle.std.proofs.Common.{sym, ◌∙◌, ap, subst}
use Rattle.rl_model.specs.Geom.{GeomFits}
use Rattle.rl_step.specs.declared.events.Stepped.{Stepped}
use Rattle.rl_step.specs.declared.events.Stepped.TheVariants.{Busy, Finished}
use Rattle.rl_step.specs.Answers.{steps_made}
use Rattle.rl_step.specs.Lock.{Deed}
use Rattle.rl_ops.specs.Ops.{total_calls}
use Rattle.rl_core.specs.ShardLaws.{LawsOf}
use Rattle.rl_core.specs.Moments.{CoreSays}
use Rattle.rl_machine.specs.Running.{Running, TheMachine, running, cores_of}
use Rattle.rl_machine.specs.Causes.{StepCause, StepTells, IsFinished, OnlyCountsBusy}
use Rattle.rl_machine.specs.Run.{opens, opened_if, block_opened, only_counted, atom_answer, atom_made, stepped, answer_of_step}
use Rattle.rl_machine.specs.laws.RunActs.{step_acts}
use Rattle.rl_machine.specs.laws.MachineLaws.{block_good, stepped_good}
use Rattle.rl_machine.specs.laws.ReplayLaws.{stepped_one}
use Rattle.rl_machine.specs.Rest.{RestsWith}
use Rattle.rl_machine.specs.laws.TurnRests.{busy_rests, over_rests}
use Rattle.rl_machine.specs.laws.StepCauses.{opens_once, step_cause, step_tells, step_finished, step_busy}
use Rattle.rl_machine.specs.MachineGood.{IsMachine, MachineGood}

module _ {V : Type 0} where
  opened_shape : (m : Running V) (k : ℕ) (b : Bool) → ((opened_if m k b).geom ≡ m.geom) × ((opened_if m k b).calls ≡ m.calls)
  opened_shape m k false = (refl, refl)
  opened_shape m k true = (refl, refl)

  opened_steps : (m : Running V) (k : ℕ) (b : Bool) → (opened_if m k b).steps ≡ m.steps
  opened_steps m k false = refl
  opened_steps m k true = refl

  -- a step leaves the size of the table and the calls
  pub stepped_shape : (m : Running V) (k : ℕ) → ((stepped m k).geom ≡ m.geom) × ((stepped m k).calls ≡ m.calls)
  stepped_shape m k = opened_shape m k (opens m k)

module _ {C V : Type 0} (says : C → CoreSays V) (laws : LawsOf says) where
  -- what is good and has the size, the calls and the cores of a machine is a machine
  stays_machine : (m n : TheMachine C V) (acts : List (List Deed)) (after : Running V) → IsMachine says m → MachineGood says (cores_of m) acts after → (after.geom ≡ m.geom) × (after.calls ≡ m.calls) →
      running says n ≡ after → cores_of n ≡ cores_of m → IsMachine says n
  stays_machine m n acts after is good shape made cores =
      record {
        acts = acts;
        is_good = subst (λ c. MachineGood says c acts (running says n)) (sym cores) (subst (MachineGood says (cores_of m) acts) (sym made) good);
        fits = subst GeomFits (sym (ap (λ z. z.geom) made ∙ shape.0)) is.fits;
        few = subst (λ c. total_calls c ≤ 20000) (sym (ap (λ z. z.calls) made ∙ shape.1)) is.few;
      }

  -- a machine whose value a contract sees, and a rank that is there
  module _ (m value : TheMachine C V) (same : m ≡ value) (is : IsMachine says m) (k : ℕ) (there : k < length value.calls) where
    low : k < length m.calls
    low = subst (λ z. k < length z.calls) (sym same) there

    pub step_keeps : (n : TheMachine C V) → running says n ≡ stepped (running says m) k → cores_of n ≡ cores_of m → IsMachine says n
    step_keeps n made cores =
        stays_machine m n (step_acts is.acts (running says m) k) (stepped (running says m) k) is
        (stepped_good says laws (cores_of m) is.acts (running says m) k is.is_good low) (stepped_shape (running says m) k) made cores

    -- a block that is opened keeps it too
    pub open_keeps : (n : TheMachine C V) → running says n ≡ block_opened (running says m) k → cores_of n ≡ cores_of m → IsMachine says n
    open_keeps n made cores =
        stays_machine m n is.acts (block_opened (running says m) k) is
        (block_good says laws (cores_of m) is.acts (running says m) k is.is_good low) (opened_shape (running says m) k (opens (running says m) k)) made cores

  -- the machine after it, where the value before it is n: its rank's next step is the one that it was
  module _ (m n : TheMachine C V) (value : m ≡ n) (k : ℕ) (is : IsMachine says m) (low : k < length n.calls) (after : TheMachine C V)
      (made : running says after ≡ block_opened (running says m) k) where
    opened_there : running says after ≡ block_opened (running says n) k
    opened_there = made ∙ ap (λ z. block_opened (running says z) k) value

    opens_none : opens (running says after) k ≡ false
    opens_none =
        subst (λ z. opens z k ≡ false) (sym opened_there)
        (let is_n = subst (IsMachine says) value is in opens_once says laws (cores_of n) is_n.acts (running says n) k is_n.is_good low)

    still_opened : block_opened (running says after) k ≡ block_opened (running says n) k
    still_opened = ap (opened_if (running says after) k) opens_none ∙ opened_there

    pub same_step_told : stepped (running says after) k ≡ stepped (running says n) k
    same_step_told = ap (λ z. atom_made z k) still_opened

    pub same_answer_told : answer_of_step (running says after) k ≡ answer_of_step (running says n) k
    same_answer_told = ap (λ z. atom_answer z k) still_opened

    pub opened_told : running says after ≡ block_opened (running says n) k
    opened_told = opened_there

    pub opened_calls_told : after.calls ≡ n.calls
    opened_calls_told = ap (λ z. z.calls) opened_there ∙ (opened_shape (running says n) k (opens (running says n) k)).1

    pub opened_steps_told : after.steps ≡ n.steps
    opened_steps_told = ap (λ z. z.steps) opened_there ∙ opened_steps (running says n) k (opens (running says n) k)

  -- what a step's answer tells of the machine before it, whose value is n
  module _ (m n : TheMachine C V) (value : m ≡ n) (k : ℕ) (answer : Stepped) (is : IsMachine says m) (low : k < length n.calls) (told : answer ≡ answer_of_step (running says m) k) where
    before : IsMachine says n
    before = subst (IsMachine says) value is

    told_there : answer ≡ answer_of_step (running says n) k
    told_there = told ∙ ap (λ z. answer_of_step (running says z) k) value

    pub cause_told : StepCause says (cores_of n) (running says n) k answer
    cause_told = subst (StepCause says (cores_of n) (running says n) k) (sym told_there) (step_cause says laws (cores_of n) before.acts (running says n) k before.is_good low)

    pub tells_told : StepTells (cores_of n) (running says n) k answer
    tells_told = subst (StepTells (cores_of n) (running says n) k) (sym told_there) (step_tells says laws (cores_of n) before.acts (running says n) k before.is_good low)

    pub finished_told : (answer ≡ Finished) ↔ IsFinished (running says n) k
    finished_told = subst (λ a. (a ≡ Finished) ↔ IsFinished (running says n) k) (sym told_there) (step_finished says laws (cores_of n) before.acts (running says n) k before.is_good low)

    pub busy_told : (after : Running V) → after ≡ stepped (running says m) k → OnlyCountsBusy (running says n) k after answer
    busy_told after made node holder q =
        made ∙ ap (λ z. stepped (running says z) k) value
        ∙ step_busy says laws (cores_of n) before.acts (running says n) k before.is_good low node holder (sym told_there ∙ q)
        ∙ ap (only_counted (block_opened (running says n) k)) (sym q)

    -- it rests so then
    pub held_told : (after : Running V) → after ≡ stepped (running says m) k → (node holder : ℕ) → answer ≡ Busy node holder → RestsWith after k answer
    held_told after made node holder q =
        subst (RestsWith after k) (sym q)
        (subst (λ u. RestsWith u k (Busy node holder)) (sym (made ∙ ap (λ z. stepped (running says z) k) value))
        (busy_rests says laws (cores_of n) before.acts (running says n) k before.is_good low node holder (sym told_there ∙ q)))

    pub over_told : (after : Running V) → after ≡ stepped (running says m) k → answer ≡ Finished → RestsWith after k answer
    over_told after made q =
        subst (RestsWith after k) (sym q)
        (subst (λ u. RestsWith u k Finished) (sym (made ∙ ap (λ z. stepped (running says z) k) value))
        (over_rests says laws (cores_of n) before.acts (running says n) k before.is_good low (sym told_there ∙ q)))

    -- it counts one answer, and leaves the calls
    pub counted_told : (after : Running V) → after ≡ stepped (running says m) k → steps_made after.steps ≡ steps_made n.steps + 1
    counted_told after made = ap (λ z. steps_made z.steps) made ∙ (stepped_one (running says m) k).0 ∙ ap (λ z. steps_made z.steps + 1) value

    pub calls_told : (after : Running V) → after ≡ stepped (running says m) k → after.calls ≡ n.calls
    calls_told after made = ap (λ z. z.calls) made ∙ (stepped_one (running says m) k).1 ∙ ap (λ z. z.calls) value
