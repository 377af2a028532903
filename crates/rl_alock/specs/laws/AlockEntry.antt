-- The entry of two stays as it should be: no step of the queues moves it, and each of its own acts keeps it.
use Rattle.std.specs.Prelude.{◌≡◌, ◌≢◌, ℕ, true}
use Rattle.std.proofs.Common.{sym, ◌∙◌, ap, ⊎_elim}
use Rattle.rl_queue.specs.declared.view.Phase.{Phase}
use Rattle.rl_queue.specs.Lane.{served}
use Rattle.rl_alock.specs.declared.view.SettleStage.{SettleStage}
use Rattle.rl_alock.specs.declared.cohort.Cohort.{Cohort}
use Rattle.rl_alock.specs.Alock.{cohort_no}
use Rattle.rl_alock.specs.laws.CohortLaws.{same_cohort, two_same, cohort_named, other_no}
use Rattle.rl_alock.specs.AlockGood.{Announced, Entered}

module _ (cohort : ℕ → Cohort) (ph ph' : ℕ → Phase) (en en' : ℕ → SettleStage) (status status' : ℕ → ℕ) (victim : ℕ) where
  -- a step that lets nobody be served whose cohort wasn't served, and nobody announce, keeps the entry
  pub entered_back : Entered cohort ph en status victim → ((m : ℕ) → served (ph' m) (status' m) ≡ true → (h : ℕ) × (cohort h ≡ cohort m) ×
      (served (ph h) (status h) ≡ true)) →
      ((k : ℕ) → Announced (ph' k) (en' k) → Announced (ph k) (en k)) → Entered cohort ph' en' status' victim
  entered_back g back said =
      record {
        named = λ k a. g.named k (said k a);
        yields = λ m k ne s a. let h = back m s in g.yields h.0 k (λ q. ne (sym h.1 ∙ q)) h.2 (said k a);
        one = λ m k ne s t. let h = back m s in let i = back k t in g.one h.0 i.0 (λ q. ne (sym h.1 ∙ q ∙ i.1)) h.2 i.2;
      }

  -- a head announces: nobody of its cohort is served, and it becomes the victim
  pub announce_keeps : (r : ℕ) → ((i : ℕ) → cohort i ≡ cohort r → served (ph i) (status i) ≡ true → ⊥) →
      ((m : ℕ) → served (ph' m) (status' m) ≡ true → served (ph m) (status m) ≡ true) →
      Entered cohort ph en status victim → Entered cohort ph' en' status' (cohort_no (cohort r))
  announce_keeps r none back g =
      record {
        named = λ k a. cohort_named (cohort r);
        yields = λ m k ne s a.
            ⊎_elim (λ q. ap cohort_no (sym q)) (λ q. absurd (none m (two_same (cohort m) (cohort k) (cohort r) ne q) (back m s)))
            (same_cohort (cohort k) (cohort r));
        one = λ m k ne s t. g.one m k ne (back m s) (back k t);
      }

  -- a head settles: nobody of the other cohort is served, and whoever of it has announced is the victim
  pub settled_keeps : (r : ℕ) → ((i : ℕ) → cohort i ≢ cohort r → served (ph i) (status i) ≡ true → ⊥) →
      ((k : ℕ) → cohort k ≢ cohort r → Announced (ph k) (en k) → victim ≡ cohort_no (cohort k)) →
      ((m : ℕ) → m ≢ r → served (ph' m) (status' m) ≡ true → served (ph m) (status m) ≡ true) →
      ((k : ℕ) → Announced (ph' k) (en' k) → Announced (ph k) (en k)) →
      Entered cohort ph en status victim → Entered cohort ph' en' status' victim
  settled_keeps r none yield back said g =
      let away : (m : ℕ) → cohort m ≢ cohort r → m ≢ r = λ m ne e. ne (ap cohort e) in
      record {
        named = λ k a. g.named k (said k a);
        yields = λ m k ne s a.
            ⊎_elim
            (λ q. let far : cohort m ≢ cohort r = λ e. ne (e ∙ sym q) in absurd (none m far (back m (away m far) s)))
            (λ q. yield k q (said k a)) (same_cohort (cohort k) (cohort r));
        one = λ m k ne s t.
            ⊎_elim
            (λ q. let far : cohort k ≢ cohort r = λ e. ne (q ∙ sym e) in none k far (back k (away k far) t))
            (λ q. none m q (back m (away m q) s)) (same_cohort (cohort m) (cohort r));
      }

-- a head that has announced and sees another victim may settle
pub may_settle : (cohort : ℕ → Cohort) (ph : ℕ → Phase) (en : ℕ → SettleStage) (status : ℕ → ℕ) (victim r : ℕ) →
    Entered cohort ph en status victim → Announced (ph r) (en r) → victim ≢ cohort_no (cohort r) →
    ((i : ℕ) → cohort i ≢ cohort r → served (ph i) (status i) ≡ true → ⊥) ×
    ((k : ℕ) → cohort k ≢ cohort r → Announced (ph k) (en k) → victim ≡ cohort_no (cohort k))
may_settle cohort ph en status victim r g said ne =
    (λ i far s. ne (g.yields i r far s said), λ k far a. other_no victim (cohort r) (cohort k) (λ q. far (sym q)) (g.named r said) ne)
