-- A settlement that climbs keeps the tree good: one act in which a rank settles in its queues from an upper one down.
use Rattle.std.specs.Prelude.{◌≡◌, ◌≢◌, ℕ, zero, suc, ◌<◌, ◌≤◌, Bool, true, false, List, ◌++◌, length, slice_get, slice_index, slice_set, Some, refl}
use Rattle.std.proofs.Common.{sym, ◌∙◌, subst, arith}
use Rattle.rl_step.specs.declared.events.Event.{Event}
use Rattle.rl_queue.specs.declared.view.Phase.{Phase}
use Rattle.rl_queue.specs.declared.view.Phase.TheVariants.{Granted}
use Rattle.rl_queue.specs.Queue.{status_word}
use Rattle.rl_queue.specs.Lane.{IsFirst}
use Rattle.rl_tree.specs.declared.view.TreeView.{TreeView}
use Rattle.rl_tree.specs.Tree.{hook_by, path, works_for, at_level, settles_below}
use Rattle.rl_tree.specs.declared.rooted.Rooted.{Rooted}
use Rattle.rl_tree.specs.Elements.{how_many, names_in, tree_of}
use Rattle.rl_tree.specs.TreeGood.{gate_of, Matches, Spent, IsGrantedAt, Tells, IsGoodBy}
use Rattle.rl_tree.specs.laws.TreePaths.{head_by, AllGood, OnPath, el, me}
use Rattle.rl_tree.specs.laws.TreeClimb.{whole, settle_at, settled, MustSettle, OffPath, cascade, settled_away, settled_gates, Owes, owes_all}
use Rattle.rl_tree.specs.laws.TreePuts.{AllSpent, spent_put}
use Rattle.rl_tree.specs.laws.TreeParts.{OthersTell, assembles, not_theirs}

pub spent_granted : (b : Bool) (left : ℕ) → Spent b (Granted left)
spent_granted true left = tt
spent_granted false left = tt

-- who has its queue stands at no hook
granted_unhooked : (q : Phase) → IsGrantedAt q → hook_by false q ≡ true → ⊥
granted_unhooked (Granted x) g h = cc
granted_unhooked _ g h = g

module _ {K : Rooted} {levels : ℕ} (r : OnPath K levels) where
  spent_settled : (F : ℕ → ℕ → Phase) (j : ℕ) → AllSpent K F → AllSpent K (settled r F j)
  spent_settled F zero h q m = h q m
  spent_settled F (suc j) h q m = spent_settled (settle_at r F j) j (spent_put K F (el r j) (me r j) (whole r j) h (spent_granted _ _)) q m

  -- what the others tell stays true where the rank settles
  others_settled : (ws : List ℕ) (F : ℕ → ℕ → Phase) (L : ℕ → List ℕ) (e : ℕ → ℕ) (t : List Event) (vs : List TreeView) (j : ℕ) →
      j ≤ suc levels → AllGood K ws F L e t → MustSettle r F j → OthersTell K levels F vs r.view.rank →
      OthersTell K levels (settled r F j) vs r.view.rank
  others_settled ws F L e t vs j le g st o =
      let kept : (n : ℕ) (u : TreeView) (k : ℕ) → n ≢ r.view.rank → slice_get vs n ≡ Some u → k ≤ u.level → settled r F j
      (path (tree_of K) u.leaf k) (works_for (tree_of K) u k) ≡ F (path (tree_of K) u.leaf k) (works_for (tree_of K) u k) = λ n u k ne h lk.
      settled_away r F j (path (tree_of K) u.leaf k) (works_for (tree_of K) u k)
      (λ i b. not_theirs r ws F L e t vs i (omega arith) g o
      (λ x c. subst (λ z. IsFirst z (slice_index ws (status_word (names_in K (el r x)) (me r x)))) (sym (st x (omega arith))) tt)
      n u k ne h lk) in
      record {
        own = o.own;
        there = o.there;
        shaped = o.shaped;
        below = λ n u ne h k b. kept n u k ne h (omega arith) ∙ o.below n u ne h k b;
        here = λ n u ne h. subst (Tells u u.query) (sym (kept n u u.level ne h (omega arith))) (o.here n u ne h);
      }

  -- A settlement that climbs: where all queues are good, and the rank must settle in all below level j, and has the queue at level j, if
  -- there is one, the tree is good once it has settled in each of them from the upper one down, and is inside.
  pub climbs : (ws : List ℕ) (F : ℕ → ℕ → Phase) (L : ℕ → List ℕ) (e : ℕ → ℕ) (t : List Event) (vs : List TreeView) (j : ℕ) (q : Phase) →
      length r.view.behind ≡ 3 → OthersTell K levels F vs r.view.rank → AllGood K ws F L e t → j ≤ suc levels → MustSettle r F j →
      (j ≤ levels → IsGrantedAt (F (el r j) (me r j))) →
      ((x p : ℕ) → x < how_many K → (tree_of K).parent x ≡ Some p → OffPath r j x → Matches (gate_of (head_by K ws F L x)) (F p x)) →
      AllSpent K F → Owes r ws F L e t j → settled r F j (el r 0) (me r 0) ≡ q → IsGrantedAt q →
      IsGoodBy K levels (settled r F j) L e ws (slice_set vs r.view.rank (at_level r.view 0 q)) (t ++ settles_below (tree_of K) r.view j)
  climbs ws F L e t vs j q three others g le st top gates spent owes now inside =
      assembles r ws (settled r F j) L e (t ++ settles_below (tree_of K) r.view j) vs (at_level r.view 0 q) refl refl
      (record {
        within = omega arith;
        resting = λ x. refl;
        above = λ x. cc;
        three = three;
        hooked = λ x. absurd (granted_unhooked q inside x);
      })
      (others_settled ws F L e t vs j le g st others) (cascade r ws F L e t j le g st) (λ k b. absurd (omega arith)) now
      (settled_gates r ws F L e t j le g st top gates) (spent_settled F j spent)
      (λ x there. let k = owes_all r ws F L e t j le g st owes x there in omega arith)
