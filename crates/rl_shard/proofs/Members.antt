-- The members of a lock's queues are there, whichever kind they are.
use Rattle.std.proofs.Common.{◌≡◌, ◌<◌, ◌+◌, ℕ, zero, suc, ◌==◌, ◌&&◌, Bool, true, false, List, [], ◌∷◌, length, slice_get, Option, Some, None, sym, refl, ap, ◌∙◌, subst, arith}
use Rattle.std.specs.Prelude.{nat_lt, if◌then◌else◌}
use Rattle.std.proofs.lemmas.Option.{same_Some, slice_get_within}
use Rattle.std.proofs.lemmas.Bool.Decides.{nat_tests}
use Rattle.rl_word.specs.declared.locks.LockName.{LockName}
use Rattle.rl_word.specs.declared.locks.QueueKind.{QueueKind}
use Rattle.rl_word.specs.declared.locks.QueueKind.TheVariants.{NoQueue, OneForAll, TwoCohorts, Elements}
use Rattle.rl_word.specs.declared.shapes.Element.{Element}
use Rattle.rl_word.specs.declared.shapes.Knobs.{Knobs}
use Rattle.rl_word.specs.LockFacts.{facts_of}
use Rattle.rl_word.specs.Shapes.{TheShape}
use Rattle.rl_step.specs.Queues.{QueueOf}
use Rattle.rl_step.specs.laws.QueueLemmas.{elements_long}
use Rattle.rl_step.specs.LockQueues.{queues_of, queues_of_kind, root_budget, all_ranks, cohort_queue, cohort_queues, same, sits_at, parent_of, is_node, leaf_of, is_at, is_in, element_queue, element_queues}
use Rattle.rl_shard.specs.Queues.{AreMembersThere}

both_true : (a b : Bool) → (a && b) ≡ true → a ≡ true
both_true true b e = refl
both_true false b e = cc

below : (m n : ℕ) → nat_lt m n ≡ true → m < n
below m n e = grind (arith, nat_tests)

-- a queue of ranks, whose members are below n
rank_queue : (n m : ℕ) (d q : QueueOf) → q ≡ d → q.of_ranks ≡ true → ((k : ℕ) → q.members k ≡ true → k < n) → d.members m ≡ true → m < n
rank_queue n m d q e ranks low is = low m (ap (λ z. z.members m) e ∙ is)

no_elements : {B : Type 0} (d q : QueueOf) → q ≡ d → q.of_ranks ≡ true → d.of_ranks ≡ false → B
no_elements d q e ranks other = let bad : true ≡ false = sym ranks ∙ ap (λ z. z.of_ranks) e ∙ other in cc

cohort_low : (home : ℕ) (node_of : List ℕ) (local : Bool) (budget k : ℕ) → (cohort_queue home node_of local budget).members k ≡ true → k < length node_of
cohort_low home node_of local budget k e = below k (length node_of) (both_true (nat_lt k (length node_of)) (same local (sits_at home node_of k)) e)

-- an element's queue, by its number
element_at : (shape : TheShape) (root : Option ℕ) (from n q : ℕ) (d : QueueOf) → slice_get (element_queues shape root from n) q ≡ Some d → element_queue shape root (from + q) ≡ d
element_at shape root from zero q d e = cc
element_at shape root from (suc n) zero d e = let at : from + 0 ≡ from = omega arith in ap (element_queue shape root) at ∙ same_Some _ _ e
element_at shape root from (suc n) (suc q) d e = let at : from + suc q ≡ (from + 1) + q = omega arith in ap (element_queue shape root) at ∙ element_at shape root (from + 1) n q d e

node_low : (shape : TheShape) (q m : ℕ) → is_node shape q ≡ true → is_in shape q m ≡ true → m < length shape.node_of
node_low shape q m node is =
    below m (length shape.node_of) (both_true (nat_lt m (length shape.node_of)) (leaf_of shape m == q)
    (sym (ap (λ b. if b then nat_lt m (length shape.node_of) && (leaf_of shape m == q) else is_at (parent_of (slice_get shape.elements m)) q) node) ∙ is))

has_parent : (o : Option Element) (q : ℕ) → is_at (parent_of o) q ≡ true → (x : Element) × (o ≡ Some x)
has_parent None q e = absurd (cc)
has_parent (Some x) q e = (x, refl)

inner_low : (shape : TheShape) (q m : ℕ) → is_node shape q ≡ false → is_in shape q m ≡ true → m < length shape.elements
inner_low shape q m inner is =
    let x = has_parent (slice_get shape.elements m) q (sym (ap (λ b. if b then nat_lt m (length shape.node_of) && (leaf_of shape m == q) else is_at (parent_of (slice_get shape.elements m)) q) inner) ∙ is) in
    slice_get_within shape.elements m x.0 x.1

elements_there : (shape : TheShape) (root : Option ℕ) → AreMembersThere (element_queues shape root 0 (length shape.elements)) (length shape.node_of)
elements_there shape root =
    let n : ℕ = length shape.elements in
    record {
      of_ranks = λ q m d e ranks is.
          let at : element_queue shape root (0 + q) ≡ d = element_at shape root 0 n q d e in
          node_low shape (0 + q) m (ap (λ z. z.of_ranks) at ∙ ranks) (ap (λ z. z.members m) at ∙ is);
      of_elements = λ q m d e elements is.
          let at : element_queue shape root (0 + q) ≡ d = element_at shape root 0 n q d e in
          subst (λ k. m < k) (sym (elements_long shape root 0 n)) (inner_low shape (0 + q) m (ap (λ z. z.of_ranks) at ∙ elements) (ap (λ z. z.members m) at ∙ is));
    }

cohorts_there : (shape : TheShape) (home : ℕ) (knobs : Knobs) → AreMembersThere (cohort_queues shape home knobs) (length shape.node_of)
cohorts_there shape home knobs = record { of_ranks = λ q m d e ranks is. one q m d e is; of_elements = λ q m d e elements is. none q d e elements } where
  one : (q m : ℕ) (d : QueueOf) → slice_get (cohort_queues shape home knobs) q ≡ Some d → d.members m ≡ true → m < length shape.node_of
  one zero m d e is = rank_queue (length shape.node_of) m d (cohort_queue home shape.node_of true knobs.local) (same_Some _ _ e) refl (cohort_low home shape.node_of true knobs.local) is
  one (suc zero) m d e is = rank_queue (length shape.node_of) m d (cohort_queue home shape.node_of false knobs.remote) (same_Some _ _ e) refl (cohort_low home shape.node_of false knobs.remote) is
  one (suc (suc q)) m d e is = cc

  none : {B : Type 0} (q : ℕ) (d : QueueOf) → slice_get (cohort_queues shape home knobs) q ≡ Some d → d.of_ranks ≡ false → B
  none zero d e other = no_elements d (cohort_queue home shape.node_of true knobs.local) (same_Some _ _ e) refl other
  none (suc zero) d e other = no_elements d (cohort_queue home shape.node_of false knobs.remote) (same_Some _ _ e) refl other
  none (suc (suc q)) d e other = cc

by_kind : (kind : QueueKind) (shape : TheShape) (home : ℕ) (knobs : Knobs) → AreMembersThere (queues_of_kind kind shape home knobs) (length shape.node_of)
by_kind NoQueue shape home knobs = record { of_ranks = λ q m d e ranks is. cc; of_elements = λ q m d e elements is. cc }
by_kind OneForAll shape home knobs = record { of_ranks = λ q m d e ranks is. one q m d e is; of_elements = λ q m d e elements is. none q d e elements } where
  n : ℕ
  n = length shape.node_of

  one : (q m : ℕ) (d : QueueOf) → slice_get (all_ranks (length shape.node_of) ∷ []) q ≡ Some d → d.members m ≡ true → m < length shape.node_of
  one zero m d e is = rank_queue (length shape.node_of) m d (all_ranks (length shape.node_of)) (same_Some _ _ e) refl (λ k. below k (length shape.node_of)) is
  one (suc q) m d e is = cc

  none : {B : Type 0} (q : ℕ) (d : QueueOf) → slice_get (all_ranks (length shape.node_of) ∷ []) q ≡ Some d → d.of_ranks ≡ false → B
  none zero d e other = no_elements d (all_ranks (length shape.node_of)) (same_Some _ _ e) refl other
  none (suc q) d e other = cc
by_kind TwoCohorts shape home knobs = cohorts_there shape home knobs
by_kind (Elements root) shape home knobs = elements_there shape (root_budget root knobs)

pub members_there : (name : LockName) (shape : TheShape) (home : ℕ) (knobs : Knobs) → AreMembersThere (queues_of name shape home knobs) (length shape.node_of)
members_there name shape home knobs = by_kind (facts_of name).queues shape home knobs
