-- A state of a tree put together from its parts, and what a move of one member of a queue on a rank's path leaves of each.
use Rattle.std.specs.Prelude.{◌≡◌, ◌≢◌, ◌⊎◌, ℕ, ◌<◌, ◌≤◌, List, slice_get, slice_index, slice_set, Some}
use Rattle.std.proofs.Common.{sym, ◌∙◌, ap, subst, inl, inr, ⊎_elim, arith}
use Rattle.std.proofs.lemmas.Option.{slice_get_within}
use Rattle.rl_word.specs.laws.Places.{same_or_not, get_set_cases}
use Rattle.rl_step.specs.declared.events.Event.{Event}
use Rattle.rl_queue.specs.declared.view.Phase.{Phase}
use Rattle.rl_queue.specs.Queue.{status_word}
use Rattle.rl_queue.specs.Lane.{IsFirst}
use Rattle.rl_tree.specs.declared.view.TreeView.{TreeView}
use Rattle.rl_tree.specs.Tree.{path, works_for, behind_at}
use Rattle.rl_tree.specs.declared.rooted.Rooted.{Rooted}
use Rattle.rl_tree.specs.Elements.{ranks_in, leaf_of_rank, names_in, tree_of}
use Rattle.rl_tree.specs.TreeGood.{way_of, below_by, Tells, Shaped, IsGoodBy}
use Rattle.rl_tree.specs.laws.TreePaths.{put, put_away, below_first, AllGood, OnPath, el, me, FirstBelow, one_agent, same_level}
use Rattle.rl_tree.specs.laws.TreePuts.{Gated, AllSpent, Tenured}
use Rattle.rl_tree.specs.laws.RanksInTree.{StandsInTree, shape_of}

-- what a view tells of the phases of the members for which its rank works, below its level and at it
abbrev pub TellsBelow : Rooted → (ℕ → ℕ → Phase) → TreeView → Type 0
TellsBelow K F v = (k : ℕ) → k < v.level →
    F (path (tree_of K) v.leaf k) (works_for (tree_of K) v k) ≡ below_by (way_of v.query v.phase) (behind_at v.behind k)

abbrev pub TellsHere : Rooted → (ℕ → ℕ → Phase) → TreeView → Type 0
TellsHere K F v = Tells v v.query (F (path (tree_of K) v.leaf v.level) (works_for (tree_of K) v v.level))

-- what the views of all ranks but one tell of the phases
pub record OthersTell (K : Rooted) (levels : ℕ) (F : ℕ → ℕ → Phase) (vs : List TreeView) (r : ℕ) : Type 0 where
  pub own : (i : ℕ) (u : TreeView) → i ≢ r → slice_get vs i ≡ Some u → (u.rank ≡ i) × (u.leaf ≡ leaf_of_rank K i)
  pub there : (i : ℕ) (u : TreeView) → slice_get vs i ≡ Some u → i < ranks_in K
  pub shaped : (i : ℕ) (u : TreeView) → i ≢ r → slice_get vs i ≡ Some u → Shaped levels u
  pub below : (i : ℕ) (u : TreeView) → i ≢ r → slice_get vs i ≡ Some u → TellsBelow K F u
  pub here : (i : ℕ) (u : TreeView) → i ≢ r → slice_get vs i ≡ Some u → TellsHere K F u

-- in a good state all ranks but one tell so
pub all_others : {K : Rooted} {levels : ℕ} (s : StandsInTree K levels) → OthersTell K levels s.good.phase s.views s.on.view.rank
all_others {K} s =
    record {
      own = λ i u ne h. s.good.by.own i u h;
      there = λ i u h. subst (λ n. i < n) s.all_there (slice_get_within s.views i u h);
      shaped = λ i u ne h. s.good.by.shaped i u h;
      below = λ i u ne h k b. s.good.by.below i u k h b;
      here = λ i u ne h. s.good.by.here i u h;
    }

-- the rank is first, for its members, in the queues below its level
pub first_below : {K : Rooted} {levels : ℕ} (r : OnPath K levels) (ws : List ℕ) (F : ℕ → ℕ → Phase) (i : ℕ) → Shaped levels r.view →
    i ≤ r.view.level → TellsBelow K F r.view → FirstBelow r ws F i
first_below {K} r ws F i sh le below k b =
    subst (λ z. IsFirst z (slice_index ws (status_word (names_in K (el r k)) (me r k)))) (sym (below k (omega arith)))
    (below_first (way_of r.view.query r.view.phase) (behind_at r.view.behind k) _
    (λ q. let z : r.view.level ≡ 0 = sh.resting q in absurd (omega arith)))

pub first_of : {K : Rooted} {levels : ℕ} (s : StandsInTree K levels) → FirstBelow s.on s.words s.good.phase s.on.view.level
first_of s = first_below s.on s.words s.good.phase s.on.view.level (shape_of s) (omega arith) (λ k b. s.good.by.below s.on.view.rank s.on.view k s.has b)

module _ {K : Rooted} {levels : ℕ} (r : OnPath K levels) where
  -- the rank's view is w now
  pub assembles : (ws : List ℕ) (F : ℕ → ℕ → Phase) (L : ℕ → List ℕ) (e : ℕ → ℕ) (t : List Event) (vs : List TreeView) (w : TreeView) →
      w.rank ≡ r.view.rank → w.leaf ≡ r.view.leaf → Shaped levels w → OthersTell K levels F vs r.view.rank → AllGood K ws F L e t →
      TellsBelow K F w → TellsHere K F w → Gated K ws F L → AllSpent K F → Tenured K ws F L e t →
      IsGoodBy K levels F L e ws (slice_set vs r.view.rank w) t
  assembles ws F L e t vs w wr wl sh others good below here gates spent ten =
      let cases : (i : ℕ) (u : TreeView) → slice_get (slice_set vs r.view.rank w) i ≡ Some u → ((i ≡ r.view.rank) × (u ≡ w)) ⊎
      ((i ≢ r.view.rank) × (slice_get vs i ≡ Some u)) = λ i u h. get_set_cases vs r.view.rank i w u h in
      record {
        own = λ i u h. ⊎_elim (λ c. (ap (λ z. z.rank) c.1 ∙ wr ∙ sym c.0, ap (λ z. z.leaf) c.1 ∙ wl ∙ r.own ∙ ap (leaf_of_rank K) (sym c.0)))
            (λ c. others.own i u c.0 c.1) (cases i u h);
        shaped = λ i u h. ⊎_elim (λ c. subst (Shaped levels) (sym c.1) sh) (λ c. others.shaped i u c.0 c.1) (cases i u h);
        queue = good;
        below = λ i u k h b. ⊎_elim (λ c. subst (TellsBelow K F) (sym c.1) below k b) (λ c. others.below i u c.0 c.1 k b) (cases i u h);
        here = λ i u h. ⊎_elim (λ c. subst (TellsHere K F) (sym c.1) here) (λ c. others.here i u c.0 c.1) (cases i u h);
        gates = gates;
        spent = spent;
        tenured = ten;
      }

  -- nobody else works for the member for which the rank works at a level below which it is first
  pub not_theirs : (ws : List ℕ) (F : ℕ → ℕ → Phase) (L : ℕ → List ℕ) (e : ℕ → ℕ) (t : List Event) (vs : List TreeView) (i : ℕ) →
      i ≤ levels → AllGood K ws F L e t → OthersTell K levels F vs r.view.rank → FirstBelow r ws F i →
      (n : ℕ) (u : TreeView) (k : ℕ) → n ≢ r.view.rank → slice_get vs n ≡ Some u → k ≤ u.level →
      (path (tree_of K) u.leaf k ≢ el r i) ⊎ (works_for (tree_of K) u k ≢ me r i)
  not_theirs ws F L e t vs i li g o first n u k ne h lk =
      let own = o.own n u ne h in
      let lu : u.level ≤ levels = (o.shaped n u ne h).within in
      let other : OnPath K levels =
      record {
        well = r.well;
        view = u;
        own = own.1 ∙ ap (leaf_of_rank K) (sym own.0);
        there = subst (λ z. z < ranks_in K) (sym own.0) (o.there n u h);
      } in
      ⊎_elim
      (λ q. inr (λ m.
      let same : k ≡ i = same_level other r k i (omega arith) li q in
      ne (sym own.0 ∙ one_agent other r ws F L e t g k (omega arith) (first_below other ws F k (o.shaped n u ne h) lk (o.below n u ne h))
      (λ x b. first x (omega arith)) (m ∙ ap (me r) (sym same)))))
      (λ q. inl q)
      (same_or_not (path (tree_of K) u.leaf k) (el r i))

  -- so what the others tell stays true where that member moves
  pub others_put : (ws : List ℕ) (F : ℕ → ℕ → Phase) (L : ℕ → List ℕ) (e : ℕ → ℕ) (t : List Event) (vs : List TreeView) (i : ℕ)
      (p : Phase) → i ≤ levels → AllGood K ws F L e t → OthersTell K levels F vs r.view.rank → FirstBelow r ws F i →
      OthersTell K levels (put F (el r i) (me r i) p) vs r.view.rank
  others_put ws F L e t vs i p li g o first =
      let off = not_theirs ws F L e t vs i li g o first in
      record {
        own = o.own;
        there = o.there;
        shaped = o.shaped;
        below = λ n u ne h k b. put_away F (el r i) (me r i) p (path (tree_of K) u.leaf k) (works_for (tree_of K) u k)
            (off n u k ne h (omega arith)) ∙ o.below n u ne h k b;
        here = λ n u ne h. subst (Tells u u.query)
            (sym (put_away F (el r i) (me r i) p (path (tree_of K) u.leaf u.level) (works_for (tree_of K) u u.level)
            (off n u u.level ne h (omega arith)))) (o.here n u ne h);
      }
