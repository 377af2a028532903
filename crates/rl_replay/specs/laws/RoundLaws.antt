-- So many rounds of a rank are so many answers counted.
use Rattle.std.specs.Prelude.{◌≡◌, ℕ, zero, suc, ◌+◌, ◌≤◌, Bool, true, false, slice_index, replicate, refl}
use Rattle.std.proofs.Common.{sym, ◌∙◌, ap, arith}
use Rattle.rl_step.specs.declared.events.Stepped.{Stepped}
use Rattle.rl_step.specs.declared.tallies.Steps.{Steps}
use Rattle.rl_step.specs.Answers.{counted}
use Rattle.rl_core.specs.declared.round.Round.{Round}
use Rattle.rl_core.specs.Rounds.{load_answer, leg_answer}
use Rattle.rl_machine.specs.Running.{Running}
use Rattle.rl_machine.specs.Run.{run_of}
use Rattle.rl_machine.specs.Rest.{counted_more, with_steps}
use Rattle.rl_machine.specs.laws.RestLaws.{more_none, one_before}
use Rattle.rl_machine.specs.Rested.{IsInRound, ShowsRound, GoesRound}
use Rattle.rl_machine.specs.laws.RoundSteps.{both_legs}

-- the answers of two loads are counted in either order
answers_swap : (w v u t : ℕ) (p q : Bool) (n : ℕ) (s : Steps) → counted_more (load_answer w v p) n (counted (load_answer u t q) s) ≡ counted (load_answer u t q) (counted_more (load_answer w v p) n s)
answers_swap w v u t true true n s =
    let e : s.waiting + 1 + n ≡ s.waiting + n + 1 = omega arith in ap (λ m. record { moved = s.moved; waiting = m; lost = s.lost; busy = s.busy; finished = s.finished }) e
answers_swap w v u t true false n s = refl
answers_swap w v u t false true n s = refl
answers_swap w v u t false false n s =
    let e : s.moved + 1 + n ≡ s.moved + n + 1 = omega arith in ap (λ m. record { moved = m; waiting = s.waiting; lost = s.lost; busy = s.busy; finished = s.finished }) e

-- the counts after so many rounds
abbrev pub counted_rounds : {Sight : Type 0} → Round Sight → ℕ → Steps → Steps
counted_rounds round n s = counted_more (leg_answer round.there) n (counted_more (leg_answer round.here) n s)

round_before : {Sight : Type 0} (round : Round Sight) (n : ℕ) (s : Steps) →
    counted_rounds round n (counted (leg_answer round.there) (counted (leg_answer round.here) s)) ≡ counted_rounds round (suc n) s
round_before round n s =
    let a : Stepped = leg_answer round.here in
    let b : Stepped = leg_answer round.there in
    ap (counted_more b n) (answers_swap round.here.word round.here.value round.there.word round.there.value round.here.waits round.there.waits n (counted a s))
    ∙ one_before b n (counted_more a n (counted a s)) ∙ ap (counted_more b (suc n)) (one_before a n s)

-- twice a number, by its rounds
abbrev double : ℕ → ℕ
double zero = zero
double (suc n) = suc (suc (double n))

double_is : (n : ℕ) → double n ≡ n + n
double_is zero = refl
double_is (suc n) = let e = double_is n in omega arith

module _ {V Sight : Type 0} (seeing : V → Sight → V) (k s : ℕ) (round : Round Sight) where
  -- it is so with other counts
  pub round_with : (m : Running V) (counts : Steps) → IsInRound seeing m k s round → IsInRound seeing (with_steps m counts) k s round
  round_with m counts r = record { shard = r.shard; view = r.view; stands = r.stands; has = r.has; seen = r.seen; is_round = r.is_round }

  -- and the next load is shown where more are
  pub goes_with : (m : Running V) (counts : Steps) (count : ℕ) → GoesRound seeing m k s round count → GoesRound seeing (with_steps m counts) k s round 1
  unfolding round_with
  goes_with m counts count goes = (round_with m counts goes.0, (goes.1.0, λ one. absurd (omega (arith, one))))

  module _ (m : Running V) (r : IsInRound seeing m k s round) where
    no_rounds : (counts : Steps) → counts ≡ counted_rounds round 0 counts
    no_rounds counts = sym (more_none (leg_answer round.there) (counted_more (leg_answer round.here) 0 counts) ∙ more_none (leg_answer round.here) counts)

    rounds_on : (n : ℕ) (counts : Steps) → slice_index r.shard.held.words round.here.word ≡ round.here.value → slice_index r.shard.held.words round.there.word ≡ round.there.value →
        run_of (with_steps m counts) (replicate (double n) k) ≡ with_steps m (counted_rounds round n counts)
    unfolding round_with
    rounds_on zero counts here there = ap (with_steps m) (no_rounds counts)
    rounds_on (suc n) counts here there =
        ap (λ z. run_of z (replicate (double n) k)) (both_legs seeing (with_steps m counts) k s round (round_with m counts r) here there)
        ∙ rounds_on n (counted (leg_answer round.there) (counted (leg_answer round.here) counts)) here there ∙ ap (with_steps m) (round_before round n counts)

    -- so many rounds, among so many steps that the window shows, are counted at once
    pub rounds_run : (n count : ℕ) → n + n ≤ count → ShowsRound r.shard.held round count → run_of m (replicate (n + n) k) ≡ with_steps m (counted_rounds round n m.steps)
    rounds_run zero count few shows = ap (with_steps m) (no_rounds m.steps)
    rounds_run (suc n) count few shows =
        ap (λ c. run_of m (replicate c k)) (sym (double_is (suc n))) ∙ rounds_on (suc n) m.steps shows.0 (shows.1 (omega arith))
