-- A rank whose step was answered Busy or Finished rests so, until another rank moves.
use Rattle.std.specs.Prelude.{◌≡◌, ℕ, ◌-◌, ◌<◌, Bool, true, false, nat_lt, List, length, slice_index, refl}
use Rattle.std.proofs.Common.{sym, ◌∙◌, subst, arith}
use Rattle.rl_step.specs.declared.events.Stepped.TheVariants.{Busy, Finished}
use Rattle.rl_step.specs.declared.tallies.Steps.{Steps}
use Rattle.rl_step.specs.Answers.{counted}
use Rattle.rl_step.specs.Lock.{Deed}
use Rattle.rl_core.specs.ShardLaws.{LawsOf}
use Rattle.rl_core.specs.Moments.{CoreSays}
use Rattle.rl_machine.specs.Running.{ShardRun, Running}
use Rattle.rl_machine.specs.Run.{calls_by, has_open_call, opens, block_opened, atom_answer, only_counted, stepped, answer_of_step}
use Rattle.rl_machine.specs.laws.ReplayLaws.{counts_one}
use Rattle.rl_machine.specs.MachineGood.{MachineGood}
use Rattle.rl_core.specs.Idle.{IsIdle}
use Rattle.rl_machine.specs.Rest.{RestsWith, with_steps}
use Rattle.rl_machine.specs.laws.RestLaws.{idle_rests, open_shuts, good_with}
use Rattle.rl_machine.specs.laws.StepCauses.{Stands, stands_there, answer_there, open_there, next_shut, held_idle}
use Rattle.rl_machine.specs.laws.StepCauses.{held_not_free, busy_takes, fine_opened, still_there, step_busy, step_finished, finished_rests}
use Rattle.rl_machine.specs.Causes.{IsFinished}

-- a test that isn't false is true
pub isnt_false : (b : Bool) → (b ≡ false → ⊥) → b ≡ true
isnt_false true f = refl
isnt_false false f = absurd (f refl)

module _ {C V : Type 0} (says : C → CoreSays V) (laws : LawsOf says) (cores : List C) where
  -- a rank whose atom is answered Busy, after the answer was counted
  still_held : (acts : List (List Deed)) (m : Running V) (k : ℕ) (g : MachineGood says cores acts m) (h : k < length m.calls) (t : Stands says laws cores acts m k) (node holder : ℕ) →
      atom_answer m k ≡ Busy node holder → RestsWith (only_counted m (Busy node holder)) k (Busy node holder)
  still_held acts m k g h t node holder q =
      let S : ShardRun V = t.found.shard in
      let takes = busy_takes says laws cores acts m k g h t node holder (S.table.core.next t.view) refl (sym (answer_there says laws cores acts m k g h t) ∙ q) in
      let idle = held_idle says laws cores acts m k g h t node S.held takes.next (held_not_free (slice_index S.held.cards node) holder takes.held) in
      let back : slice_index S.held.cards node - 1 ≡ holder = let e = takes.held in omega arith in
      let is_in : (S.table.own t.view).is_open ≡ true =
      isnt_false (S.table.own t.view).is_open (λ shut. let bad = sym takes.next ∙ (next_shut says laws cores acts m k g h t).1 shut in cc) in
      let shut : opens m k ≡ false = open_shuts (has_open_call m k) (nat_lt (slice_index m.opened k) (length (calls_by m k))) (open_there says laws cores acts m k g h t ∙ is_in) in
      idle_rests (only_counted m (Busy node holder)) k S t.view (Busy node holder) t.found.has t.has_view shut
      (subst (λ n. IsIdle S.table S.held k t.view (S.table.core.next t.view) (Busy node n)) back idle)

  pub busy_rests : (acts : List (List Deed)) (m : Running V) (k : ℕ) → MachineGood says cores acts m → k < length m.calls → (node holder : ℕ) →
      answer_of_step m k ≡ Busy node holder → RestsWith (stepped m k) k (Busy node holder)
  busy_rests acts m k g h node holder q =
      let opened : Running V = block_opened m k in
      let fine = fine_opened says laws cores acts m k g h in
      let there = still_there says laws cores acts m k g h in
      subst (λ u. RestsWith u k (Busy node holder)) (sym (step_busy says laws cores acts m k g h node holder q))
      (still_held acts opened k fine there (stands_there says laws cores acts opened k fine there) node holder q)

  -- and so does a rank that is finished
  pub over_rests : (acts : List (List Deed)) (m : Running V) (k : ℕ) → MachineGood says cores acts m → k < length m.calls → answer_of_step m k ≡ Finished → RestsWith (stepped m k) k Finished
  over_rests acts m k g h q =
      let f : IsFinished m k = (step_finished says laws cores acts m k g h).0 q in
      let counts : Steps = counted Finished m.steps in
      let same : stepped m k ≡ with_steps m counts = (finished_rests says laws cores acts m k g h f).1 m.steps in
      subst (λ u. RestsWith u k Finished) (sym same)
      (finished_rests says laws cores acts (with_steps m counts) k (good_with says cores acts m counts (let one = counts_one Finished m.steps in omega arith) g) h f)
