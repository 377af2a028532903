-- What the tests of tallies tell, by what the code has counted.
use Rattle.std.proofs.Common.{◌≡◌, ℕ, zero, suc, ◌+◌, ◌<◌, ◌≤◌, Bool, true, false, cond, List, length, get_or, Option, Some, refl, sym, ap, subst, ◌∙◌, arith, nat_eq}
use Rattle.std.proofs.lemmas.Bool.Decides.{nat_tests}
use Rattle.std.specs.Prelude.{slice_get}
use Rattle.std.proofs.lemmas.Option.{same_Some, slice_get-get_or, slice_get_within}
use Rattle.rl_word.specs.declared.locks.QueueKind.{QueueKind}
use Rattle.rl_word.specs.declared.locks.QueueKind.TheVariants.{NoQueue, OneForAll, TwoCohorts, Elements}
use Rattle.rl_word.specs.declared.shapes.Knobs.{Knobs}
use Rattle.rl_word.specs.Shapes.{TheShape}
use Rattle.rl_model.specs.declared.entry.Entry.{Entry}
use Rattle.rl_model.specs.Table.{sum_below}
use Rattle.rl_step.specs.declared.tallies.Tally.{Tally}
use Rattle.rl_step.specs.Queues.{QueueOf}
use Rattle.rl_step.specs.LockQueues.{queues_of_kind, root_budget, element_queue, element_queues, cohort_queues}
use Rattle.rl_journal.specs.Tenures.{AreTallied, tally_at, settled_if, tenures_of}
use Rattle.rl_check.specs.Tallying.{queue_in, IsTallied, cohort_in}

-- ---- sums

pub sum_rises : (f : ℕ → ℕ) (m n : ℕ) → m ≤ n → sum_below f m ≤ sum_below f n
sum_rises f m zero h = let none : m ≡ 0 = omega arith in subst (λ z. sum_below f z ≤ 0) (sym none) (omega arith)
sum_rises f m (suc n) h =
    elim (nat_eq m (suc n)) as (λ b. nat_eq m (suc n) ≡ b → sum_below f m ≤ sum_below f (suc n)) [
      | true ↦ λ e. let same : m ≡ suc n = grind (arith, nat_tests) in subst (λ z. sum_below f z ≤ sum_below f (suc n)) (sym same) (omega arith)
      | false ↦ λ e. let less : m ≤ n = grind (arith, nat_tests) in omega (arith, sum_rises f m n less)
    ] refl

-- a member was settled more often than is left
pub too_many : (times left settled : ℕ) (members : ℕ → Bool) (tallies : List Tally) (i : ℕ) (d : Tally) (b : Bool) (x : ℕ) → times ≡ left + sum_below (settled_if members tallies) i → i < length tallies → b ≡ members i → b ≡ true →
    x ≡ (get_or tallies i d).settled → left < x → times ≡ sum_below (settled_if members tallies) (length tallies) → ⊥
too_many times left settled members tallies i d b x so_far low is so value more all =
    let f : ℕ → ℕ = settled_if members tallies in
    let here : f i ≡ x = ap (λ c. cond c (tally_at i tallies).settled 0) (sym is ∙ so) ∙ ap (λ (t : Tally). t.settled) (same_Some _ _ (sym (slice_get-get_or tallies i _ low) ∙ slice_get-get_or tallies i d low)) ∙ sym value in
    let up : sum_below f (suc i) ≤ sum_below f (length tallies) = sum_rises f (suc i) (length tallies) (omega arith) in
    omega arith

-- ---- queues by number

element_at : (shape : TheShape) (root : Option ℕ) (from n q : ℕ) (d : QueueOf) → slice_get (element_queues shape root from n) q ≡ Some d → element_queue shape root (from + q) ≡ d
element_at shape root from zero q d e = absurd (cc)
element_at shape root from (suc n) zero d e = let at : from + 0 ≡ from = omega arith in ap (element_queue shape root) at ∙ same_Some _ _ e
element_at shape root from (suc n) (suc q) d e = let at : from + suc q ≡ (from + 1) + q = omega arith in ap (element_queue shape root) at ∙ element_at shape root (from + 1) n q d e

element_there : (shape : TheShape) (root : Option ℕ) (n q : ℕ) (d : QueueOf) → slice_get (element_queues shape root 0 n) q ≡ Some d → element_queue shape root q ≡ d
element_there shape root n q d e = let at : q ≡ 0 + q = omega arith in ap (element_queue shape root) at ∙ element_at shape root 0 n q d e

cohort_is : (shape : TheShape) (home : ℕ) (knobs : Knobs) (q : ℕ) (d : QueueOf) → slice_get (cohort_queues shape home knobs) q ≡ Some d → cohort_in shape home knobs q ≡ d
cohort_is shape home knobs zero d e = same_Some _ _ e
cohort_is shape home knobs (suc zero) d e = same_Some _ _ e
cohort_is shape home knobs (suc (suc q)) d e = absurd (cc)

pub queue_is : (kind : QueueKind) (shape : TheShape) (home : ℕ) (knobs : Knobs) (q : ℕ) (d : QueueOf) → slice_get (queues_of_kind kind shape home knobs) q ≡ Some d → queue_in kind shape home knobs q ≡ d
queue_is NoQueue shape home knobs q d e = absurd (cc)
queue_is OneForAll shape home knobs zero d e = same_Some _ _ e
queue_is OneForAll shape home knobs (suc q) d e = absurd (cc)
queue_is TwoCohorts shape home knobs q d e = cohort_is shape home knobs q d e
queue_is (Elements root) shape home knobs q d e = element_there shape (root_budget root knobs) (length shape.elements) q d e

-- ---- all queues

module _ (kind : QueueKind) (shape : TheShape) (home : ℕ) (knobs : Knobs) (shares : Bool) (entries : List Entry) (tallies : List Tally) where
  abbrev queues : List QueueOf
  queues = queues_of_kind kind shape home knobs

  abbrev Holds : ℕ → Type 0
  Holds q = IsTallied shares entries tallies q (queue_in kind shape home knobs q)

  pub all_tallied : length tallies ≡ length queues → (n : ℕ) → length tallies ≤ n → ((q : ℕ) → q < n → Holds q) → AreTallied queues shares entries tallies
  all_tallied each n past holds =
      record {
        each = each;
        budgets = λ q budget d at has. let h = slice_get_within queues q d at in (holds q (omega arith)).budget budget (ap (λ (z : QueueOf). z.budget) (queue_is kind shape home knobs q d at) ∙ has);
        tenures = λ q d at. let h = slice_get_within queues q d at in (holds q (omega arith)).tenures ∙ ap (tenures_of shares entries tallies) (queue_is kind shape home knobs q d at);
      }

  pub one_not : length tallies ≡ length queues → (q : ℕ) → q < length tallies → (Holds q → ⊥) → AreTallied queues shares entries tallies → ⊥
  one_not each q low not all =
      let o : QueueOf = queue_in kind shape home knobs q in
      let at : slice_get queues q ≡ Some (get_or queues q o) = slice_get-get_or queues q o (omega arith) in
      let same : o ≡ get_or queues q o = queue_is kind shape home knobs q (get_or queues q o) at in
      not (subst (IsTallied shares entries tallies q) (sym same) (record { budget = λ B has. all.budgets q B (get_or queues q o) at has; tenures = all.tenures q (get_or queues q o) at }))
