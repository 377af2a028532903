-- Paths in a tree, and that one rank at most works for an element.
use Rattle.std.specs.Prelude.{◌≡◌, ◌≢◌, ◌⊎◌, ℕ, zero, suc, ◌<◌, ◌≤◌, ◌==◌, ◌&&◌, Bool, true, false, List, nat_lt, if◌then◌else◌, slice_index, Option, Some, None, refl}
use Rattle.std.proofs.Common.{sym, ◌∙◌, ap, subst, inl, inr, ⊎_elim, arith}
use Rattle.rl_step.specs.declared.events.Event.{Event}
use Rattle.rl_step.specs.LockQueues.{is_at}
use Rattle.rl_queue.specs.laws.Choices.{same_test, other_test, lt_test}
use Rattle.rl_queue.specs.declared.view.Phase.{Phase}
use Rattle.rl_queue.specs.Queue.{status_word}
use Rattle.rl_queue.specs.Lane.{lane_of, IsFirst}
use Rattle.rl_queue.specs.Heads.{Head, head_in}
use Rattle.rl_queue.specs.QueueGood.{QueueGood, Moves}
use Rattle.rl_queue.specs.laws.QueueMoves.{one_first}
use Rattle.rl_tree.specs.declared.view.TreeView.{TreeView}
use Rattle.rl_tree.specs.Tree.{path, works_for}
use Rattle.rl_tree.specs.declared.rooted.Rooted.{Rooted}
use Rattle.rl_tree.specs.Elements.{how_many, ranks_in, leaf_of_rank, is_node, names_in, tree_of}
use Rattle.rl_tree.specs.TreeShape.{IsTreed, IsWellShaped}
use Rattle.rl_tree.specs.TreeGood.{Way, Up, Down, Rest, below_by, InQueue}

-- a phase put in the place of a member's
abbrev pub put : (ℕ → ℕ → Phase) → ℕ → ℕ → Phase → ℕ → ℕ → Phase
put F q m p x y = if (x == q) && (y == m) then p else F x y

both_tests : (a b : Bool) (p s : Phase) → (a ≡ false) ⊎ (b ≡ false) → (if a && b then p else s) ≡ s
both_tests true true p s h = ⊎_elim (λ e. cc) (λ e. cc) h
both_tests true false p s h = refl
both_tests false b p s h = refl

pub put_here : (F : ℕ → ℕ → Phase) (q m : ℕ) (p : Phase) → put F q m p q m ≡ p
put_here F q m p = ap (λ z. if z && (m == m) then p else F q m) (same_test q) ∙ ap (λ z. if z then p else F q m) (same_test m)

pub put_away : (F : ℕ → ℕ → Phase) (q m : ℕ) (p : Phase) (x y : ℕ) → (x ≢ q) ⊎ (y ≢ m) → put F q m p x y ≡ F x y
put_away F q m p x y h = both_tests (x == q) (y == m) p (F x y) (⊎_elim (λ ne. inl (other_test x q ne)) (λ ne. inr (other_test y m ne)) h)

pub put_moves : (F : ℕ → ℕ → Phase) (q m : ℕ) (p p' : Phase) → F q m ≡ p → Moves (F q) (put F q m p' q) m p p'
put_moves F q m p p' e = record { was = e; now = put_here F q m p'; others = λ x ne. put_away F q m p' q x (inr ne) }

-- a phase below a rank's level is that of a first
pub below_first : (w : Way) (o : Option ℕ) (s : ℕ) → w ≢ Rest → IsFirst (below_by w o) s
below_first Up o s ne = tt
below_first Down o s ne = tt
below_first Rest o s ne = absurd (ne refl)

-- the head of each queue, by these words, phases and lines
abbrev pub head_by : Rooted → List ℕ → (ℕ → ℕ → Phase) → (ℕ → List ℕ) → ℕ → Option Head
head_by K ws F L x = head_in (lane_of (names_in K x) ws (F x)) (L x)

-- all queues are good
abbrev pub AllGood : Rooted → List ℕ → (ℕ → ℕ → Phase) → (ℕ → List ℕ) → (ℕ → ℕ) → List Event → Type 0
AllGood K ws F L e t = (q : ℕ) → q < how_many K → QueueGood (names_in K q) (InQueue K q) ws (F q) (L q) t (e q)

-- an element is a member of its parent's queue
pub is_child : {K : Rooted} {levels : ℕ} (T : IsTreed K levels) (x p : ℕ) → x < how_many K → (tree_of K).parent x ≡ Some p →
    (is_node K p ≡ false) × InQueue K p x
is_child {K} T x p there up =
    let o = T.over x p there up in
    let no : is_node K p ≡ false = by (is_node K p) refl o.0 o.1 in (
      no,
      record {
        is = ap (λ z. if z then (nat_lt x (ranks_in K) && (leaf_of_rank K x == p)) else is_at ((tree_of K).parent x) p) no
            ∙ ap (λ z. is_at z p) up ∙ same_test p;
      },
    ) where
      by : (b : Bool) → is_node K p ≡ b → p < how_many K → T.depth p ≡ suc (T.depth x) → is_node K p ≡ false
      by true h lt deep = let z : T.depth p ≡ 0 = T.node p lt h in absurd (omega arith)
      by false h lt deep = h

-- a rank's view, and the path from its leaf
pub record OnPath (K : Rooted) (levels : ℕ) : Type 0 where
  pub well : IsWellShaped K levels
  pub view : TreeView
  pub own : view.leaf ≡ leaf_of_rank K view.rank
  pub there : view.rank < ranks_in K

module _ {K : Rooted} {levels : ℕ} (r : OnPath K levels) where
  -- the element and the member at a level of the rank's path
  abbrev pub el : ℕ → ℕ
  el i = path (tree_of K) r.view.leaf i

  abbrev pub me : ℕ → ℕ
  me i = works_for (tree_of K) r.view i

  pub el_there : (i : ℕ) → i ≤ levels → el i < how_many K
  el_there i le = subst (λ z. path (tree_of K) z i < how_many K) (sym r.own) (r.well.treed.there r.view.rank i r.there le)

  pub el_deep : (i : ℕ) → i ≤ levels → r.well.treed.depth (el i) ≡ i
  el_deep i le = subst (λ z. r.well.treed.depth (path (tree_of K) z i) ≡ i) (sym r.own) (r.well.treed.deep r.view.rank i r.there le)

  pub el_apart : (i j : ℕ) → i ≤ levels → j ≤ levels → i ≢ j → el i ≢ el j
  el_apart i j li lj ne e = ne (sym (el_deep i li) ∙ ap r.well.treed.depth e ∙ el_deep j lj)

  pub el_up : (i : ℕ) → i < levels → (tree_of K).parent (el i) ≡ Some (el (suc i))
  el_up i lt = subst (λ z. (tree_of K).parent (path (tree_of K) z i) ≡ Some (path (tree_of K) z (suc i))) (sym r.own)
      (r.well.treed.up r.view.rank i r.there lt)

  -- the path ends at the root, and not before
  pub el_root : el levels ≡ 0
  el_root = subst (λ z. path (tree_of K) z levels ≡ 0) (sym r.own) (r.well.one_root r.view.rank r.there)

  pub el_top : (tree_of K).parent (el levels) ≡ None
  el_top = ap (tree_of K).parent el_root ∙ r.well.root_free

  pub not_root : (i : ℕ) → i < levels → 0 ≢ el i
  not_root i lt e = let no : None ≡ Some (el (suc i)) = sym r.well.root_free ∙ ap (tree_of K).parent e ∙ el_up i lt in cc

  pub leaf_node : is_node K r.view.leaf ≡ true
  leaf_node = ap (is_node K) r.own ∙ r.well.treed.leaf r.view.rank r.there

  -- each member on the path is one of its queue
  pub el_in : (i : ℕ) → i ≤ levels → InQueue K (el i) (me i)
  el_in zero le =
      record {
        is = ap (λ z. if z then nat_lt r.view.rank (ranks_in K) && (leaf_of_rank K r.view.rank == r.view.leaf) else is_at
            ((tree_of K).parent r.view.rank) r.view.leaf) leaf_node
            ∙ ap (λ z. z && (leaf_of_rank K r.view.rank == r.view.leaf)) (lt_test r.view.rank (ranks_in K) r.there)
            ∙ ap (λ z. z == r.view.leaf) (sym r.own) ∙ same_test r.view.leaf;
      }
  el_in (suc i) le = (is_child r.well.treed (el i) (el (suc i)) (el_there i (omega arith)) (el_up i (omega arith))).1

  -- the rank is the first, for its members, in the queues below a level
  abbrev pub FirstBelow : List ℕ → (ℕ → ℕ → Phase) → ℕ → Type 0
  FirstBelow ws F i = (k : ℕ) → k < i → IsFirst (F (el k) (me k)) (slice_index ws (status_word (names_in K (el k)) (me k)))

module _ {K : Rooted} {levels : ℕ} (r n : OnPath K levels) where
  -- two ranks' paths meet at one level
  pub same_level : (i j : ℕ) → i ≤ levels → j ≤ levels → el r i ≡ el n j → i ≡ j
  same_level i j li lj e =
      sym (el_deep r i li) ∙ ap r.well.treed.depth e
      ∙ subst (λ z. r.well.treed.depth (path (tree_of K) z j) ≡ j) (sym n.own) (r.well.treed.deep n.view.rank j n.there lj)

  -- One agent: two ranks that work for the same member of a queue are one.
  pub one_agent : (ws : List ℕ) (F : ℕ → ℕ → Phase) (L : ℕ → List ℕ) (e : ℕ → ℕ) (t : List Event) → AllGood K ws F L e t → (i : ℕ) →
      i ≤ levels → FirstBelow r ws F i → FirstBelow n ws F i → me r i ≡ me n i → r.view.rank ≡ n.view.rank
  one_agent ws F L e t g zero li f f' same = same
  one_agent ws F L e t g (suc k) li f f' same =
      let q : ℕ = el r k in
      let m' : ℕ = me n k in
      one_agent ws F L e t g k (omega arith) (λ i b. f i (omega arith)) (λ i b. f' i (omega arith))
      (one_first (names_in K q) (InQueue K q) ws (F q) (L q) t (e q) (me r k) m' (g q (el_there r k (omega arith))) (f k (omega arith))
      (subst (λ z. IsFirst (F z m') (slice_index ws (status_word (names_in K z) m'))) (sym same) (f' k (omega arith))))
