-- What the end of a step tells is true: a rank answered Busy is about to take the card, and one answered Finished has nothing left to do.
use Rattle.std.specs.Prelude.{◌≡◌, ℕ, ◌+◌, ◌<◌, List, [], ◌∷◌, zero, suc, length, slice_index, refl}
use Rattle.std.proofs.Common.{sym, ◌∙◌, subst, arith}
use Rattle.rl_step.specs.declared.events.Stepped.{Stepped}
use Rattle.rl_step.specs.declared.events.Stepped.TheVariants as answer
use Rattle.rl_step.specs.Lock.{Deed}
use Rattle.rl_core.specs.Idle.{IsIdle}
use Rattle.rl_core.specs.ShardLaws.{LawsOf}
use Rattle.rl_core.specs.Moments.{CoreSays}
use Rattle.rl_machine.specs.Running.{ShardRun, Running, TheMachine, running, cores_of}
use Rattle.rl_machine.specs.Run.{place_of, block_opened, atom_answer, stepped, answer_of_step}
use Rattle.rl_machine.specs.MachineGood.{MachineGood, IsMachine}
use Rattle.rl_machine.specs.Causes.{IsFinished}
use Rattle.rl_machine.specs.Rested.{RestsAt, IsOver, Tells}
use Rattle.rl_machine.specs.laws.StepCauses.{Stands, stands_there, answer_there, open_there, next_shut, held_idle, busy_takes, fine_opened, still_there, step_busy, step_finished, finished_rests}
use Rattle.rl_machine.specs.Told.{told_by}
use Rattle.rl_machine.specs.laws.TurnRests.{isnt_false}

-- what isn't 0 in a list is there
some_there : (xs : List ℕ) (i n : ℕ) → slice_index xs i ≡ n + 1 → i < length xs
some_there [] i n e = absurd (let none : slice_index [] i ≡ 0 = refl in omega arith)
some_there (x ∷ xs) zero n e = omega arith
some_there (x ∷ xs) (suc i) n e = let low = some_there xs i n e in omega arith

module _ {C V : Type 0} (says : C → CoreSays V) (laws : LawsOf says) where
  module _ (cores : List C) where
    -- a rank whose atom is answered Busy
    held_there : (acts : List (List Deed)) (m : Running V) (k : ℕ) (g : MachineGood says cores acts m) (h : k < length m.calls) (t : Stands says laws cores acts m k) (node holder : ℕ) →
        atom_answer m k ≡ answer.Busy node holder → RestsAt m k (place_of m k) (answer.Busy node 0)
    held_there acts m k g h t node holder q =
        let S : ShardRun V = t.found.shard in
        let takes = busy_takes says laws cores acts m k g h t node holder (S.table.core.next t.view) refl (sym (answer_there says laws cores acts m k g h t) ∙ q) in
        record {
          shard = S;
          view = t.view;
          stands = refl;
          has = t.found.has;
          seen = t.has_view;
          in_call = isnt_false (S.table.own t.view).is_open (λ shut. let bad = sym takes.next ∙ (next_shut says laws cores acts m k g h t).1 shut in cc);
          named = some_there S.held.cards node holder takes.held;
          idle = λ w a shows. subst (IsIdle S.table w k t.view (S.table.core.next t.view)) (sym shows.1) (held_idle says laws cores acts m k g h t node w takes.next shows.0);
        }

    held_after : (acts : List (List Deed)) (m : Running V) (k : ℕ) → MachineGood says cores acts m → k < length m.calls → (node holder : ℕ) → answer_of_step m k ≡ answer.Busy node holder →
        RestsAt (stepped m k) k (place_of (stepped m k) k) (answer.Busy node 0)
    held_after acts m k g h node holder q =
        let opened : Running V = block_opened m k in
        let fine = fine_opened says laws cores acts m k g h in
        let there = still_there says laws cores acts m k g h in
        let r = held_there acts opened k fine there (stands_there says laws cores acts opened k fine there) node holder q in
        subst (λ u. RestsAt u k (place_of u k) (answer.Busy node 0)) (sym (step_busy says laws cores acts m k g h node holder q))
        (record { shard = r.shard; view = r.view; stands = r.stands; has = r.has; seen = r.seen; in_call = r.in_call; named = r.named; idle = r.idle })

    over_there : (acts : List (List Deed)) (m : Running V) (k : ℕ) (g : MachineGood says cores acts m) (h : k < length m.calls) (t : Stands says laws cores acts m k) → IsFinished m k → IsOver m k
    over_there acts m k g h t f =
        record {
          shard = t.found.shard;
          view = t.view;
          has = t.found.has;
          seen = t.has_view;
          none = (next_shut says laws cores acts m k g h t).1 (sym (open_there says laws cores acts m k g h t) ∙ f.0);
          none_left = f.1;
        }

    finished_after : (acts : List (List Deed)) (m : Running V) (k : ℕ) → MachineGood says cores acts m → k < length m.calls → answer_of_step m k ≡ answer.Finished → IsOver (stepped m k) k
    finished_after acts m k g h q =
        let f : IsFinished m k = (step_finished says laws cores acts m k g h).0 q in
        let o = over_there acts m k g h (stands_there says laws cores acts m k g h) f in
        subst (λ u. IsOver u k) (sym ((finished_rests says laws cores acts m k g h f).1 m.steps))
        (record { shard = o.shard; view = o.view; has = o.has; seen = o.seen; none = o.none; none_left = o.none_left })

    told_after : (acts : List (List Deed)) (m : Running V) (k : ℕ) → MachineGood says cores acts m → k < length m.calls → (a : Stepped) → answer_of_step m k ≡ a →
        Tells (stepped m k) k (place_of (stepped m k) k) (told_by a)
    told_after acts m k g h answer.Moved q = tt
    told_after acts m k g h (answer.Waiting word value) q = tt
    told_after acts m k g h (answer.Lost guess seen) q = tt
    told_after acts m k g h (answer.Busy node holder) q = held_after acts m k g h node holder q
    told_after acts m k g h answer.Finished q = finished_after acts m k g h q

  -- what is told of the machine after the step
  pub end_tells : (m : TheMachine C V) (k : ℕ) (is : IsMachine says m) → k < length m.calls → (a : Stepped) (now : Running V) (place : ℕ) →
      a ≡ answer_of_step (running says m) k → now ≡ stepped (running says m) k → place ≡ place_of now k →
      Tells now k place (told_by a)
  end_tells m k is low a now place told made at =
      subst (λ p. Tells now k p (told_by a)) (sym at)
      (subst (λ u. Tells u k (place_of u k) (told_by a)) (sym made) (told_after (cores_of m) is.acts (running says m) k is.is_good low a (sym told)))
