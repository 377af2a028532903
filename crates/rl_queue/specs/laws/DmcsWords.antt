-- The words of D-MCS: where each rank's are, where they live, and that planned acts on them are lawful.
use Rattle.std.specs.Prelude.{◌≡◌, ◌≢◌, ℕ, zero, suc, ◌+◌, ◌-◌, ◌*◌, ◌/◌, ◌<◌, true, List, length, Some, refl}
use Rattle.std.proofs.Common.{sym, subst, arith}
use Rattle.std.proofs.lemmas.Option.{same_Some, get_or_from_slice_get}
use Rattle.std.proofs.Math.Dec.{eqb-suc-zero}
use Rattle.rl_word.specs.laws.Places.{some_at}
use Rattle.rl_word.specs.Acts.{Layout, IsLawful}
use Rattle.rl_word.specs.declared.classes.Class.TheVariants as class
use Rattle.rl_word.specs.declared.acts.Act.{Act}
use Rattle.rl_word.specs.declared.acts.Act.TheVariants.{Load, Store}
use Rattle.rl_step.specs.Lock.{no_local}
use Rattle.rl_queue.specs.declared.view.Phase.{Phase}
use Rattle.rl_queue.specs.declared.view.Phase.TheVariants.{Clear, Reset, Swing, Link, Wait, Look, Close, Await, Hand}
use Rattle.rl_queue.specs.laws.Choices.{other_test}
use Rattle.rl_queue.specs.Queue.{queue_next_word, status_word, plan_at, PlanFits}
use Rattle.rl_queue.specs.QueueGood.{IsNaming}
use Rattle.rl_queue.specs.RankWords.{Seated}
use Rattle.rl_queue.specs.laws.RankWordLaws.{every_second_at}
use Rattle.rl_queue.specs.Dmcs.{dmcs_names, dmcs_spot, Below}

-- where a rank's next word and status word are
pub next_is : (n m : ℕ) → m < n → queue_next_word (dmcs_names n) m ≡ 1 + 2 * m
next_is n m h = every_second_at 1 n m h

pub status_is : (n m : ℕ) → m < n → status_word (dmcs_names n) m ≡ 2 + 2 * m
status_is n m h = every_second_at 2 n m h

-- the names give each rank words of its own
pub dmcs_named : (n size : ℕ) → size ≡ 1 + 2 * n → IsNaming (dmcs_names n) (Below n) size
dmcs_named n size e =
    record {
      tail_there = omega arith;
      next_there = λ m i. let a = next_is n m i in omega arith;
      status_there = λ m i. let a = status_is n m i in omega arith;
      next_tail = λ m i q. let a = next_is n m i in absurd (omega arith);
      status_tail = λ m i q. let a = status_is n m i in absurd (omega arith);
      next_once = λ m k i j q. let a = next_is n m i in let b = next_is n k j in omega arith;
      status_once = λ m k i j q. let a = status_is n m i in let b = status_is n k j in omega arith;
      next_status = λ m k i j q. let a = next_is n m i in let b = status_is n k j in absurd (omega arith);
    }

-- each word but the tail is plain
word_class : (home : ℕ) (node_of : List ℕ) (w : ℕ) → w ≢ 0 → (dmcs_spot home node_of w).class ≡ class.Plain
word_class home node_of w ne = rw (other_test w 0 ne)

-- each word lives on a node that is there
pub word_home : (home : ℕ) (layout : Layout) (w : ℕ) → Seated layout → home < layout.nodes → w < 1 + 2 * length layout.node_of →
    (dmcs_spot home layout.node_of w).home < layout.nodes
word_home home layout zero seated homed lt = homed
word_home home layout (suc w) seated homed lt =
    let k : (suc w - 1) / 2 < length layout.node_of = omega arith in
    let g = some_at layout.node_of ((suc w - 1) / 2) k in
    let there : g.0 < layout.nodes = seated.sits ((suc w - 1) / 2) g.0 g.1 in
    rw (eqb-suc-zero w) (subst (λ z. z < layout.nodes) (sym (get_or_from_slice_get layout.node_of ((suc w - 1) / 2) g.0 0 g.1)) there)

-- rank r may make this act
abbrev pub MayMake : ℕ → Layout → ℕ → Act → Type 0
MayMake home layout r a = IsLawful (1 + 2 * length layout.node_of) (dmcs_spot home layout.node_of) layout r a × (no_local r a ≡ true)

-- a load, and a store to a word that isn't the tail, are lawful
lawful_load : (home : ℕ) (layout : Layout) (r w : ℕ) → Seated layout → home < layout.nodes → w < 1 + 2 * length layout.node_of → MayMake home layout r (Load w)
lawful_load home layout r w seated homed lt = (record { there = lt; homed = word_home home layout w seated homed lt; allowed = tt }, refl)

lawful_store : (home : ℕ) (layout : Layout) (r w x : ℕ) → Seated layout → home < layout.nodes → w < 1 + 2 * length layout.node_of → w ≢ 0 →
    MayMake home layout r (Store w x)
lawful_store home layout r w x seated homed lt ne =
    (record { there = lt; homed = word_home home layout w seated homed lt; allowed = word_class home layout.node_of w ne }, refl)

-- each planned act is lawful
pub lawful_at : (home : ℕ) (layout : Layout) (r k : ℕ) (p : Phase) (a : Act) → Seated layout → home < layout.nodes →
    PlanFits (dmcs_names (length layout.node_of)) k p → k < length layout.node_of →
    ((guess : ℕ) → p ≡ Link guess → guess - 1 < length layout.node_of) →
    ((s left : ℕ) → p ≡ Hand s left → s < length layout.node_of) → plan_at (dmcs_names (length layout.node_of)) k p ≡ Some a →
    MayMake home layout r a
lawful_at home layout r k Clear a seated homed fits lt gs hs pl =
    subst (MayMake home layout r) (same_Some _ _ pl) (let e = next_is (length layout.node_of) k lt in lawful_store home layout r _ _ seated
    homed (omega arith) (λ z. absurd (omega arith)))
lawful_at home layout r k Reset a seated homed fits lt gs hs pl =
    subst (MayMake home layout r) (same_Some _ _ pl) (let e = status_is (length layout.node_of) k lt in lawful_store home layout r _ _
    seated homed (omega arith) (λ z. absurd (omega arith)))
lawful_at home layout r k (Swing guess) a seated homed fits lt gs hs pl =
    subst (MayMake home layout r) (same_Some _ _ pl) (record { there = omega arith; homed = homed; allowed = refl }, refl)
lawful_at home layout r k (Link guess) a seated homed fits lt gs hs pl =
    subst (MayMake home layout r) (same_Some _ _ pl) (let e = next_is (length layout.node_of) (guess - 1) (gs guess refl) in let h = gs
    guess refl in lawful_store home layout r _ _ seated homed (omega arith) (λ z. absurd (omega arith)))
lawful_at home layout r k Wait a seated homed fits lt gs hs pl =
    subst (MayMake home layout r) (same_Some _ _ pl) (let e = status_is (length layout.node_of) k lt in lawful_load home layout r _ seated homed (omega arith))
lawful_at home layout r k (Look left upper) a seated homed fits lt gs hs pl =
    subst (MayMake home layout r) (same_Some _ _ pl) (let e = next_is (length layout.node_of) k lt in lawful_load home layout r _ seated homed (omega arith))
lawful_at home layout r k (Close left) a seated homed fits lt gs hs pl =
    subst (MayMake home layout r) (same_Some _ _ pl) (record { there = omega arith; homed = homed; allowed = refl }, refl)
lawful_at home layout r k (Await left) a seated homed fits lt gs hs pl =
    subst (MayMake home layout r) (same_Some _ _ pl) (let e = next_is (length layout.node_of) k lt in lawful_load home layout r _ seated homed (omega arith))
lawful_at home layout r k (Hand succ left) a seated homed fits lt gs hs pl =
    subst (MayMake home layout r) (same_Some _ _ pl) (let e = status_is (length layout.node_of) succ (hs succ left refl) in let h = hs succ
    left refl in lawful_store home layout r _ _ seated homed (omega arith) (λ z. absurd (omega arith)))
lawful_at home layout r k _ a seated homed fits lt gs hs pl = cc
