-- The lock on which a placement's stands announces no cohorts but the two of a lock that has cohorts.
use Rattle.std.proofs.Common.{◌≡◌, ◌⊎◌, ℕ, ◌==◌, ◌&&◌, ◌||◌, Bool, true, false, refl, sym, ap, ◌∙◌, inl, inr, arith}
use Rattle.std.proofs.lemmas.Bool.Decides.{nat_tests}
use Rattle.rl_word.specs.LockFacts.{has_cohorts}
use Rattle.rl_word.specs.laws.FactLaws.{same_queues}
use Rattle.rl_place.specs.declared.lock.Lock.{Lock}
use Rattle.rl_step.specs.LockQueues.{lock_under, cohorts_of}
use Rattle.rl_place.specs.LockWords.{name_of}
use Rattle.rl_report.specs.Naming.{queue_kind}
use Rattle.rl_program.specs.Replay.{AreCohortsOf}

one_of : (c : ℕ) → ((c == 1) || (c == 2)) ≡ true → (c ≡ 1) ⊎ (c ≡ 2)
one_of c e =
    elim (c == 1) as (λ b. (c == 1) ≡ b → (c ≡ 1) ⊎ (c ≡ 2)) [
      | true ↦ λ q. inl (same c 1 q)
      | false ↦ λ q. inr (same c 2 (sym (ap (λ b. b || (c == 2)) q) ∙ e))
    ] refl where
      same : (a b : ℕ) → (a == b) ≡ true → a ≡ b
      same a b q = grind (arith, nat_tests)

both : (a b : Bool) → (a && b) ≡ true → (a ≡ true) × (b ≡ true)
both true b e = (refl, e)
both false b e = absurd (let bad : false ≡ true = e in cc)

pub cohorts_by : (l : Lock) → AreCohortsOf l (cohorts_of (lock_under (name_of l)))
cohorts_by l c e =
    let two : ((has_cohorts (queue_kind l)) && ((c == 1) || (c == 2))) ≡ true = sym (ap (λ kind. has_cohorts kind && ((c == 1) || (c == 2))) (same_queues (name_of l))) ∙ e in
    let and = both (has_cohorts (queue_kind l)) ((c == 1) || (c == 2)) two in
    (and.0, one_of c and.1)
