-- The words of ALock: each cohort's queue has its own, and the victim is none of them.
use Rattle.std.specs.Prelude.{◌≡◌, ◌⊎◌, ℕ, ◌+◌, ◌*◌, ◌<◌}
use Rattle.std.proofs.Common.{sym, ◌∙◌, ap, inl, inr, ⊎_elim, arith}
use Rattle.rl_queue.specs.Queue.{queue_next_word, status_word}
use Rattle.rl_queue.specs.laws.RankWordLaws.{every_second_at}
use Rattle.rl_queue.specs.QueueGood.{IsNaming}
use Rattle.rl_queue.specs.QueuesApart.{Place, AreApart}
use Rattle.rl_alock.specs.declared.cohort.Cohort.{Cohort}
use Rattle.rl_alock.specs.Alock.{Cohorts, cohort_of, ranks_of, tail_no, victim_no, names_of, other}
use Rattle.rl_alock.specs.AlockGood.{InCohort}
use Rattle.rl_alock.specs.laws.CohortLaws.{other_differs, two_tails, tail_low}

pub next_is : (K : Cohorts) (c : Cohort) (m : ℕ) → m < ranks_of K → queue_next_word (names_of K c) m ≡ 3 + 2 * m
next_is K c m h = every_second_at 3 (ranks_of K) m h

pub status_is : (K : Cohorts) (c : Cohort) (m : ℕ) → m < ranks_of K → status_word (names_of K c) m ≡ 4 + 2 * m
status_is K c m h = every_second_at 4 (ranks_of K) m h

-- each cohort's queue has words of its own
pub named_in : (K : Cohorts) (c : Cohort) (size : ℕ) → size ≡ 3 + 2 * ranks_of K → IsNaming (names_of K c) (InCohort K c) size
named_in K c size e =
    let low = tail_low c in
    record {
      tail_there = omega arith;
      next_there = λ m i. let a = next_is K c m i.there in let h = i.there in omega arith;
      status_there = λ m i. let a = status_is K c m i.there in let h = i.there in omega arith;
      next_tail = λ m i q. let a = next_is K c m i.there in absurd (omega arith);
      status_tail = λ m i q. let a = status_is K c m i.there in absurd (omega arith);
      next_once = λ m k i j q. let a = next_is K c m i.there in let b = next_is K c k j.there in omega arith;
      status_once = λ m k i j q. let a = status_is K c m i.there in let b = status_is K c k j.there in omega arith;
      next_status = λ m k i j q. let a = next_is K c m i.there in let b = status_is K c k j.there in absurd (omega arith);
    }

-- what the words of a cohort's queue are
place_is : (K : Cohorts) (c : Cohort) (w : ℕ) → Place (names_of K c) (InCohort K c) w →
    (w ≡ tail_no c) ⊎ ((k : ℕ) × (cohort_of K k ≡ c) × ((w ≡ 3 + 2 * k) ⊎ (w ≡ 4 + 2 * k)))
place_is K c w p =
    ⊎_elim (λ e. inl e)
    (λ q. ⊎_elim
    (λ x. inr (x.0, x.1.0.sits, inl (x.1.1 ∙ next_is K c x.0 x.1.0.there)))
    (λ x. inr (x.0, x.1.0.sits, inr (x.1.1 ∙ status_is K c x.0 x.1.0.there))) q) p

-- the victim is none of them
pub victim_apart : (K : Cohorts) (c : Cohort) → Place (names_of K c) (InCohort K c) victim_no → ⊥
victim_apart K c p =
    let low = tail_low c in
    ⊎_elim (λ e. absurd (omega arith)) (λ x. ⊎_elim (λ e. absurd (omega arith)) (λ e. absurd (omega arith)) x.2) (place_is K c victim_no p)

-- a next word is no status word, and two words of one kind that are the same are one rank's
next_or_status : (x y : ℕ) → 3 + 2 * x ≡ 4 + 2 * y → ⊥
next_or_status x y e = absurd (omega arith)

one_rank : (x y from : ℕ) → from + 2 * x ≡ from + 2 * y → x ≡ y
one_rank x y from e = omega arith

-- and the two cohorts' queues have no word in common
pub cohorts_apart : (K : Cohorts) (c : Cohort) → AreApart (names_of K c) (names_of K (other c)) (InCohort K c) (InCohort K (other c))
cohorts_apart K c =
    record {
      numbers = two_tails c;
      places = λ w p q.
          let low = tail_low c in
          let low' = tail_low (other c) in
          let differ : (x y : ℕ) → cohort_of K x ≡ c → cohort_of K y ≡ other c → x ≡ y → ⊥ =
          λ x y ex ey e. other_differs c (sym ex ∙ ap (cohort_of K) e ∙ ey) in
          ⊎_elim
          (λ e. ⊎_elim (λ f. two_tails c (sym e ∙ f)) (λ y. ⊎_elim (λ f. absurd (omega arith)) (λ f. absurd (omega arith)) y.2) (place_is K (other c) w q))
          (λ x. ⊎_elim
          (λ f. ⊎_elim (λ e. absurd (omega arith)) (λ e. absurd (omega arith)) x.2)
          (λ y. ⊎_elim
          (λ e. ⊎_elim (λ f. differ x.0 y.0 x.1 y.1 (one_rank x.0 y.0 3 (sym e ∙ f))) (λ f. next_or_status x.0 y.0 (sym e ∙ f)) y.2)
          (λ e. ⊎_elim (λ f. next_or_status y.0 x.0 (sym f ∙ e)) (λ f. differ x.0 y.0 x.1 y.1 (one_rank x.0 y.0 4 (sym e ∙ f))) y.2) x.2)
          (place_is K (other c) w q))
          (place_is K c w p);
    }
