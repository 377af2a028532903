-- What the code of ALock needs of a good state: that its view meets the conditions of the queue's calls; and that away from the entry
-- an act is the queue's.
use Rattle.std.proofs.Common.{◌≡◌, ◌≢◌, ◌∙◌, sym, subst, arith, ℕ, ◌<◌, ◌≤◌, length, slice_get, slice_index, Some, refl}
use Rattle.std.proofs.lemmas.Option.{same_Some}
use Rattle.rl_word.specs.declared.acts.Act.{Act}
use Rattle.rl_word.specs.Acts.{word_of, told}
use Rattle.rl_step.specs.Lock.{LockState}
use Rattle.rl_step.specs.Queues.{tenures}
use Rattle.rl_queue.specs.declared.view.Phase.{Phase}
use Rattle.rl_queue.specs.declared.view.Phase.TheVariants.{Settle}
use Rattle.rl_queue.specs.Queue.{TheNames, plan_at, turn_at, PlanFits, GotFits}
use Rattle.rl_queue.specs.laws.QueueFits.{plan_fits, learn_fits}
use Rattle.rl_queue.specs.laws.QueueTurns.{turn_all}
use Rattle.rl_queue.specs.RankWords.{every_second}
use Rattle.rl_queue.specs.laws.RankWordLaws.{length-every_second}
use Rattle.rl_alock.specs.declared.cohort.Cohort.{Cohort}
use Rattle.rl_alock.specs.declared.view.SettleStage.{SettleStage}
use Rattle.rl_alock.specs.declared.view.AlockView.{AlockView}
use Rattle.rl_alock.specs.Alock.{Cohorts, ranks_of, budget_in, cohort_of, names_of, queue_in, alock_plan, alock_learn, told_turn}
use Rattle.rl_alock.specs.AlockGood.{InCohort, phases_of, AlockGood}
use Rattle.rl_alock.specs.laws.AlockViews.{phase_get, mine_is}
use Rattle.rl_alock.specs.laws.AlockLaws.{rank_there}

-- away from the entry a rank's act is its queue's, and so is what it learns
pub plan_away : (N : TheNames) (c : Cohort) (m : ℕ) (p : Phase) (st : SettleStage) → p ≢ Settle → alock_plan N c m p st ≡ plan_at N m p
plan_away N c m Settle st ne = absurd (ne refl)
plan_away N c m _ st ne = refl

pub learn_away : (N : TheNames) (c : Cohort) (m : ℕ) (p : Phase) (st : SettleStage) (got : ℕ) → p ≢ Settle → alock_learn N c m p st got ≡ told_turn m (turn_at N m p got)
learn_away N c m Settle st got ne = absurd (ne refl)
learn_away N c m _ st got ne = refl

-- an act of a queue gives one event at most
pub few_events : (N : TheNames) (m : ℕ) (p : Phase) (got : ℕ) → length (turn_at N m p got).events ≤ 1
few_events N m p got = turn_all (λ es. length es ≤ 1) N m p got (omega arith) (omega arith) (λ s. omega arith)

module _ (K : Cohorts) (s : LockState AlockView) (r : ℕ) (v : AlockView) (g : AlockGood K s) (has : slice_get s.views r ≡ Some v) where
  -- the rank of a view is there, in the phase that the view tells
  own_view : slice_get s.views v.queue.member ≡ Some v
  own_view = subst (λ z. slice_get s.views z ≡ Some v) (sym (g.own r v has)) has

  pub member_there : v.queue.member < ranks_of K
  member_there = rank_there K s v.queue.member v g own_view

  in_phase : phases_of K (cohort_of K v.queue.member) s.views v.queue.member ≡ v.queue.phase
  in_phase = mine_is K (cohort_of K v.queue.member) s.views v.queue.member refl ∙ phase_get s.views v.queue.member v own_view

  -- a view meets the condition of queue_plan
  pub fits_at : PlanFits (names_of K (cohort_of K v.queue.member)) v.queue.member v.queue.phase
  fits_at =
      let c : Cohort = cohort_of K v.queue.member in
      let e : length (every_second 4 (ranks_of K)) ≡ length (every_second 3 (ranks_of K)) = length-every_second 4 (ranks_of K) ∙ sym (length-every_second 3 (ranks_of K)) in
      plan_fits (names_of K c) (InCohort K c) s.words (phases_of K c s.views) (g.line c) s.trace (tenures (queue_in K c) s.trace) v.queue.member v.queue.phase (g.queue c) in_phase (record { there = member_there; sits = refl }) e
      (λ x i. subst (λ z. x < z) (sym (length-every_second 3 (ranks_of K))) i.there)

  -- and what its act tells meets that of queue_learn
  pub got_fits_at : (a : Act) → ranks_of K ≤ 32 → ((c : Cohort) → budget_in K c ≤ 1000) → plan_at (names_of K (cohort_of K v.queue.member)) v.queue.member v.queue.phase ≡ Some a → GotFits v.queue.phase (told a (slice_index s.words (word_of a)))
  got_fits_at a few modest pl =
      let c : Cohort = cohort_of K v.queue.member in
      learn_fits (names_of K c) (InCohort K c) s.words (phases_of K c s.views) (g.line c) s.trace (tenures (queue_in K c) s.trace) v.queue.member v.queue.phase a (g.queue c) in_phase pl
      (λ x i. let there = i.there in omega arith) (λ b e. let low = modest c in let q : budget_in K c ≡ b = same_Some _ _ e in omega arith)
