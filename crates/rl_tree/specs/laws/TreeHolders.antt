-- What follows in a good tree: who holds the lock has each queue on its path for its element, one rank does, and where no rank is in a call
-- all queues are at rest.
use Rattle.std.specs.Prelude.{◌≡◌, ◌⊎◌, ℕ, zero, suc, ◌+◌, ◌<◌, ◌≤◌, Bool, true, false, List, [], ◌∷◌, length, if◌then◌else◌, slice_get, slice_index, Some, None, refl}
use Rattle.std.proofs.Common.{sym, ◌∙◌, ap, subst, inl, inr, ⊎_elim, arith}
use Rattle.std.proofs.lemmas.Option.{same_Some}
use Rattle.rl_word.specs.laws.Places.{some_at}
use Rattle.rl_word.specs.Acts.{word_of}
use Rattle.rl_word.specs.declared.acts.Act.{Act}
use Rattle.rl_word.specs.declared.acts.Act.TheVariants.{Load}
use Rattle.rl_step.specs.declared.events.Event.{Event}
use Rattle.rl_step.specs.declared.events.Standing.TheVariants.{Out}
use Rattle.rl_step.specs.Lock.{IsHolder, FindsOld}
use Rattle.rl_step.specs.Queues.{settled, passed, tenures}
use Rattle.rl_queue.specs.declared.view.Phase.{Phase}
use Rattle.rl_queue.specs.declared.view.Phase.TheVariants.{Idle, Granted}
use Rattle.rl_queue.specs.Queue.{status_word}
use Rattle.rl_queue.specs.Lane.{lane_of, Listed, IsAlone, IsFirst}
use Rattle.rl_queue.specs.laws.LaneLaws.{busy_or_idle}
use Rattle.rl_queue.specs.QueueGood.{QueueGood}
use Rattle.rl_queue.specs.laws.QueueMoves.{one_first, queue_counted}
use Rattle.rl_queue.specs.laws.QueueFits.{alone_finds}
use Rattle.rl_queue.specs.Heads.{head_in}
use Rattle.rl_queue.specs.laws.QueueHeads.{head_first}
use Rattle.rl_tree.specs.declared.view.TreeView.{TreeView}
use Rattle.rl_tree.specs.Tree.{hook_by, path, member_at, works_for, tree_plan, at_hook, tree_standing}
use Rattle.rl_tree.specs.laws.Cases.{plan_by}
use Rattle.rl_tree.specs.declared.rooted.Rooted.{Rooted}
use Rattle.rl_tree.specs.Elements.{how_many, ranks_in, is_node, names_in, tree_of, queue_at}
use Rattle.rl_tree.specs.TreeGood.{gate_at, gate_of, granted_in, Matches, IsGrantedAt, way_of, InQueue, TreeGood}
use Rattle.rl_tree.specs.laws.TreePaths.{head_by, OnPath, el, me, el_there, el_up, el_in, el_root, FirstBelow, one_agent}
use Rattle.rl_tree.specs.laws.RanksInTree.{StandsInTree, stands_of, rank_is, queue_of, member_of, shape_of, level_low, queue_there, phase_of}
use Rattle.rl_tree.specs.laws.TreeClimb.{else_zero}
use Rattle.rl_tree.specs.laws.TreeParts.{first_of}
use Rattle.rl_tree.specs.laws.TreeWords.{OfNode, OfElement, member_is}
use Rattle.rl_tree.specs.laws.TreePuts.{granted_opens}
use Rattle.rl_tree.specs.laws.TreeCalls.{granted_is}
use Rattle.rl_tree.specs.TreeShape.{IsWellShaped}
use Rattle.rl_tree.specs.laws.TreeLawful.{MayMake, loads_status, lawful_in, alone_on}
use Rattle.rl_tree.specs.laws.TreeStandings.{granted_first, hook_cases, hook_first, out_is, holds_is}

-- where no member of a queue uses it, it has no head, and its tail is 0
pub no_head : (K : Rooted) (q : ℕ) (ws : List ℕ) (ph : ℕ → Phase) (l : List ℕ) (t : List Event) (e : ℕ) →
    QueueGood (names_in K q) (InQueue K q) ws ph l t e → ((m : ℕ) → ph m ≡ Idle) → head_in (lane_of (names_in K q) ws ph) l ≡ None
no_head K q ws ph [] t e g idle = refl
no_head K q ws ph (h ∷ r) t e g idle = absurd (subst Listed (idle h) (g.inv.only h (inl refl)))

pub empty_tail : (K : Rooted) (q : ℕ) (ws : List ℕ) (ph : ℕ → Phase) (l : List ℕ) (t : List Event) (e : ℕ) →
    QueueGood (names_in K q) (InQueue K q) ws ph l t e → ((m : ℕ) → ph m ≡ Idle) → slice_index ws q ≡ 0
empty_tail K q ws ph [] t e g idle = g.inv.line
empty_tail K q ws ph (h ∷ r) t e g idle = absurd (subst Listed (idle h) (g.inv.only h (inl refl)))

module _ {K : Rooted} {levels : ℕ} {ws : List ℕ} {vs : List TreeView} {t : List Event} (g : TreeGood K levels ws vs t) where
  -- the head of a queue is who is first in it
  pub head_is : (q m : ℕ) (p : Phase) → q < how_many K → g.phase q m ≡ p → IsFirst p (slice_index ws (status_word (names_in K q) m)) →
      gate_of (head_by K ws g.phase g.line q) ≡ gate_at p (slice_index ws (status_word (names_in K q) m))
  head_is q m p there is first =
      let f = head_first (names_in K q) (InQueue K q) ws (g.phase q) (g.phase q) (g.line q) t (g.ended q) m p p (g.by.queue q there)
      (record { was = is; now = is; others = λ x ne. refl }) first in ap gate_of f.0

  -- A GRANTED MEMBER ONLY UNDER A GRANTED ELEMENT: where a member has an element's queue the element has its parent's.
  pub has_above_it : (e p m : ℕ) → e < how_many K → (tree_of K).parent e ≡ Some p → IsGrantedAt (g.phase e m) → IsGrantedAt (g.phase p e)
  has_above_it e p m there up h =
      let n = granted_is (g.phase e m) h in
      granted_opens (g.phase p e) (subst (λ z. Matches z (g.phase p e)) (head_is e m (Granted n.0) there n.1 tt) (g.by.gates e p there up))

-- two ranks that are first below the root for one member of it are one
one_at_root : {K : Rooted} {levels : ℕ} (r n : OnPath K levels) {ws : List ℕ} {vs : List TreeView} {t : List Event}
    (g : TreeGood K levels ws vs t) → IsFirst (g.phase 0 (me r levels)) (slice_index ws (status_word (names_in K 0) (me r levels))) →
    IsFirst (g.phase 0 (me n levels)) (slice_index ws (status_word (names_in K 0) (me n levels))) →
    FirstBelow r ws g.phase levels → FirstBelow n ws g.phase levels → r.view.rank ≡ n.view.rank
one_at_root {K} {levels} r n {ws} {vs} {t} g fr fn br bn =
    one_agent r n ws g.phase g.line g.ended t g.by.queue levels (omega arith) br bn
    (one_first (names_in K 0) (InQueue K 0) ws (g.phase 0) (g.line 0) t (g.ended 0) (me r levels) (me n levels)
    (g.by.queue 0 r.well.some) fr fn)

-- what follows for a rank where it stands
module _ {K : Rooted} {levels : ℕ} (s : StandsInTree K levels) where
  open s use {on.{view as v}, good as g}

  abbrev q : ℕ
  q = queue_of s

  -- who is out, or holds the lock, stands at its node's queue
  pub at_rest : v.query ≡ false → (v.phase ≡ Idle) ⊎ IsGrantedAt v.phase → v.level ≡ 0
  at_rest nq c =
      ⊎_elim
      (λ e. (shape_of s).resting (ap (λ z. way_of z v.phase) nq ∙ ap (way_of false) e))
      (λ h. let k = granted_is v.phase h in (shape_of s).resting (ap (λ z. way_of z v.phase) nq ∙ ap (way_of false) k.1)) c

  -- who holds the lock has each queue on its path for its element
  pub holds_up : v.query ≡ false → IsGrantedAt v.phase → (k : ℕ) → k ≤ levels → IsGrantedAt (g.phase (el s.on k) (me s.on k))
  holds_up nq h zero le =
      subst IsGrantedAt (sym (subst (λ z. g.phase (el s.on z) (me s.on z) ≡ v.phase) (at_rest nq (inr h)) (phase_of s nq))) h
  holds_up nq h (suc k) le =
      has_above_it g (el s.on k) (el s.on (suc k)) (me s.on k) (el_there s.on k (omega arith)) (el_up s.on k (omega arith))
      (holds_up nq h k (omega arith))

  firsts : v.query ≡ false → IsGrantedAt v.phase → FirstBelow s.on s.words g.phase levels
  firsts nq h k b = granted_first _ _ (holds_up nq h k (omega arith))

  pub root_held : v.query ≡ false → IsGrantedAt v.phase → IsGrantedAt (g.phase 0 (me s.on levels))
  root_held nq h = subst (λ z. IsGrantedAt (g.phase z (me s.on levels))) (el_root s.on) (holds_up nq h levels (omega arith))

  -- who stands at the hook does at the root, in its phase
  pub root_phase : at_hook v ≡ true → g.phase 0 (me s.on levels) ≡ v.phase
  root_phase hook =
      subst (λ z. g.phase z (me s.on levels) ≡ v.phase) (el_root s.on)
      (subst (λ z. g.phase (el s.on z) (me s.on z) ≡ v.phase) ((shape_of s).hooked hook) (phase_of s (hook_cases v.query v.phase hook).0))

  hook_is_first : at_hook v ≡ true → IsFirst (g.phase 0 (me s.on levels)) (slice_index s.words (status_word (names_in K 0) (me s.on levels)))
  hook_is_first hook =
      let c = hook_cases v.query v.phase hook in
      let status : ℕ = slice_index s.words (status_word (names_in K 0) (me s.on levels)) in
      subst (λ z. IsFirst z (slice_index s.words (status_word (names_in K 0) (me s.on levels)))) (sym (root_phase hook))
      (hook_first v.phase status (subst (λ z. hook_by z v.phase ≡ true) c.0 hook)).0

  -- a rank is first for its members below its level
  acts_first : (i : ℕ) → i ≤ v.level → FirstBelow s.on s.words g.phase i
  acts_first i le k b = first_of s k (omega arith)

  -- LAWFUL, and ONE RANK ALONE
  pub lawful_at : (a : Act) → tree_plan (tree_of K) v ≡ Some a → MayMake K levels s.on.well v.rank a
  lawful_at a pl = by v.query refl where
    by : (b : Bool) → v.query ≡ b → MayMake K levels s.on.well v.rank a
    by true e =
        let p : Some (Load (status_word (names_in K q) (member_of s))) ≡ Some a = subst (λ z. plan_by (tree_of K) v z ≡ Some a) e pl in
        subst (MayMake K levels s.on.well v.rank) (same_Some _ _ p)
        (loads_status K levels s.on.well v.rank q (member_of s) (el_in s.on v.level (level_low s)))
    by false e =
        lawful_in K levels s.on.well v.rank q (member_of s) v.phase a s.words (g.phase q) (g.line q) s.trace (g.ended q) (queue_there s)
        (g.by.queue q (queue_there s)) (phase_of s e) (subst (λ z. plan_by (tree_of K) v z ≡ Some a) e pl)

  pub alone_at : ranks_in K ≡ 1 → IsAlone (InQueue K q) (member_of s)
  alone_at one =
      subst (λ z. IsAlone (InQueue K (path (tree_of K) z v.level)) (member_at (tree_of K) v.rank z v.level)) (sym s.on.own)
      (alone_on K levels s.on.well v.rank v.level one s.on.there (level_low s))

  pub finds_at : (a : Act) → tree_plan (tree_of K) v ≡ Some a → ranks_in K ≡ 1 → FindsOld a (slice_index s.words (word_of a))
  finds_at a pl one = by v.query refl where
    by : (b : Bool) → v.query ≡ b → FindsOld a (slice_index s.words (word_of a))
    by true e =
        let p : Some (Load (status_word (names_in K q) (member_of s))) ≡ Some a = subst (λ z. plan_by (tree_of K) v z ≡ Some a) e pl in
        subst (λ c. FindsOld c (slice_index s.words (word_of c))) (same_Some _ _ p) tt
    by false e =
        alone_finds (names_in K q) (InQueue K q) s.words (g.phase q) (g.line q) s.trace (g.ended q) (member_of s) v.phase a
        (g.by.queue q (queue_there s)) (alone_at one) (phase_of s e) (subst (λ z. plan_by (tree_of K) v z ≡ Some a) e pl)

module _ {K : Rooted} {levels : ℕ} (S : IsWellShaped K levels) {ws : List ℕ} {vs : List TreeView} {t : List Event}
    (g : TreeGood K levels ws vs t) (all : length vs ≡ ranks_in K) where
  -- one rank is meant where two views' ranks are the same
  one_rank : (i j : ℕ) (v w : TreeView) → slice_get vs i ≡ Some v → slice_get vs j ≡ Some w → v.rank ≡ w.rank → i ≡ j
  one_rank i j v w hi hj same = sym (rank_is S g all i v hi) ∙ same ∙ rank_is S g all j w hj

  -- ONE RANK HOLDS THE LOCK
  pub one_holder : (i j : ℕ) (v w : TreeView) → slice_get vs i ≡ Some v → slice_get vs j ≡ Some w → IsHolder (tree_standing v) →
      IsHolder (tree_standing w) → i ≡ j
  one_holder i j v w hi hj a b =
      let o = holds_is v.query v.phase a in
      let n = holds_is w.query w.phase b in
      let sv = stands_of S g all i v hi in
      let sw = stands_of S g all j w hj in
      one_rank i j v w hi hj (one_at_root sv.on sw.on g (granted_first _ _ (root_held sv o.0 o.1)) (granted_first _ _ (root_held sw n.0 n.1))
      (firsts sv o.0 o.1) (firsts sw n.0 n.1))

  -- ONE RANK STANDS AT THE HOOK
  pub one_hooked : (i j : ℕ) (v w : TreeView) → slice_get vs i ≡ Some v → slice_get vs j ≡ Some w → at_hook v ≡ true → at_hook w ≡ true → i ≡ j
  one_hooked i j v w hi hj hv hw =
      let lv : v.level ≡ levels = (g.by.shaped i v hi).hooked hv in
      let lw : w.level ≡ levels = (g.by.shaped j w hj).hooked hw in
      let sv = stands_of S g all i v hi in
      let sw = stands_of S g all j w hj in
      one_rank i j v w hi hj (one_at_root sv.on sw.on g (hook_is_first sv hv) (hook_is_first sw hw) (acts_first sv levels (omega arith))
      (acts_first sw levels (omega arith)))

  -- ONE RANK ACTS FOR AN ELEMENT: two that work above it for it are one.
  pub one_acts : (i j k : ℕ) (v w : TreeView) → slice_get vs i ≡ Some v → slice_get vs j ≡ Some w → k < v.level → k < w.level →
      path (tree_of K) v.leaf k ≡ path (tree_of K) w.leaf k → i ≡ j
  one_acts i j k v w hi hj lv lw same =
      let low : v.level ≤ levels = (g.by.shaped i v hi).within in
      let sv = stands_of S g all i v hi in
      let sw = stands_of S g all j w hj in
      one_rank i j v w hi hj (one_agent sv.on sw.on ws g.phase g.line g.ended t g.by.queue (suc k) (omega arith)
      (acts_first sv (suc k) (omega arith)) (acts_first sw (suc k) (omega arith)) same)

  -- COUNTING: where no rank is in a call all queues are at rest, from the nodes' up.
  abbrev AllOutside : Type 0
  AllOutside = (r : ℕ) (v : TreeView) → slice_get vs r ≡ Some v → tree_standing v ≡ Out

  idle_one : AllOutside → (q m : ℕ) → q < how_many K → (OfElement K q m → g.phase q m ≡ Idle) → g.phase q m ≡ Idle
  idle_one out q m lq of_element =
      ⊎_elim
      (λ busy. ⊎_elim (λ n. of_rank n) (λ n. of_element n) (member_is K S.root_free q m ((g.by.queue q lq).inv.inside m busy)))
      (λ e. e)
      (busy_or_idle (g.phase q m)) where
        of_rank : OfNode K q m → g.phase q m ≡ Idle
        of_rank n =
            let lm : m < length vs = let b : m < ranks_in K = n.there in omega arith in
            let v = some_at vs m lm in
            let o = out_is v.0.query v.0.phase (out m v.0 v.1) in
            let st = stands_of S g all m v.0 v.1 in
            let lv : v.0.level ≡ 0 = at_rest st o.0 (inl o.1) in
            let h : g.phase v.0.leaf v.0.rank ≡ v.0.phase = subst
            (λ z. g.phase (path (tree_of K) v.0.leaf z) (works_for (tree_of K) v.0 z) ≡ v.0.phase) lv (phase_of st o.0) in
            let own = g.by.own m v.0 v.1 in
            let at : v.0.leaf ≡ q = own.1 ∙ n.mine in
            ap (λ z. g.phase z m) (sym at) ∙ ap (g.phase v.0.leaf) (sym own.0) ∙ h ∙ o.1

  pub all_idle : AllOutside → (d q m : ℕ) → q < how_many K → S.treed.depth q ≡ d → g.phase q m ≡ Idle
  all_idle out zero q m lq dq =
      idle_one out q m lq
      (λ n. let o = S.treed.over m q n.there n.mine in let z : S.treed.depth q ≡ suc (S.treed.depth m) = o.1 in absurd (omega arith))
  all_idle out (suc c) q m lq dq =
      idle_one out q m lq
      (λ n.
      let o = S.treed.over m q n.there n.mine in
      let z : S.treed.depth q ≡ suc (S.treed.depth m) = o.1 in
      let dm : S.treed.depth m ≡ c = omega arith in
      let none = no_head K m ws (g.phase m) (g.line m) t (g.ended m) (g.by.queue m n.there) (λ x. all_idle out c m x n.there dm) in
      subst (λ y. Matches y (g.phase q m)) (ap gate_of none) (g.by.gates m q n.there n.mine))

  pub counted_at : AllOutside → (q : ℕ) → q < how_many K → settled q t + passed q t ≡ tenures (queue_at K q) t
  counted_at out q lq =
      let idle : (m : ℕ) → g.phase q m ≡ Idle = λ m. all_idle out (S.treed.depth q) q m lq refl in
      let a = queue_counted (names_in K q) (InQueue K q) ws (g.phase q) (g.line q) t (g.ended q) (g.by.queue q lq) idle in
      let none = no_head K q ws (g.phase q) (g.line q) t (g.ended q) (g.by.queue q lq) idle in
      let z : (if is_node K q then 0 else granted_in (head_in (lane_of (names_in K q) ws (g.phase q)) (g.line q))) ≡ 0 =
      else_zero (is_node K q) _ (ap granted_in none) in
      let b = g.by.tenured q lq in omega arith
