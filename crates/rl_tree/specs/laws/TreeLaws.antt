-- All that is said of a tree's good states holds.
use Rattle.std.specs.Prelude.{◌≡◌, ℕ, zero, suc, ◌+◌, ◌-◌, ◌==◌, Bool, true, false, List, [], if◌then◌else◌, slice_index, Option, Some, None, refl, is_some}
use Rattle.std.proofs.Common.{sym, ◌∙◌, ap, subst, inl, inr, ⊎_elim}
use Rattle.rl_word.specs.Acts.{word_of, told}
use Rattle.rl_step.specs.declared.events.Event.{Event}
use Rattle.rl_step.specs.declared.events.Event.TheVariants as event
use Rattle.rl_step.specs.Lock.{IsLoad, PlansLoad}
use Rattle.rl_queue.specs.declared.view.Phase.{Phase}
use Rattle.rl_queue.specs.declared.view.Phase.TheVariants.{Idle, Swing, Wait, Settle, Granted, Look, Close, Await, Hand, Above}
use Rattle.rl_queue.specs.laws.Choices.{choose}
use Rattle.rl_queue.specs.Queue.{TheNames, status_word, full_budget, code_left, moves_to, moves_with, waits_at, joined_at, hand_turn, plan_at, turn_at}
use Rattle.rl_queue.specs.Lane.{SuitsAlone}
use Rattle.rl_queue.specs.laws.QueueActs.{pass_more}
use Rattle.rl_queue.specs.laws.QueueMoves.{queue_fifo, queue_within}
use Rattle.rl_queue.specs.laws.QueueFits.{alone_moves_on, waits_on}
use Rattle.rl_tree.specs.declared.view.TreeView.{TreeView}
use Rattle.rl_tree.specs.Tree.{TheTree, is_none, hook_by, path, works_for, names_at, behind_at, inside_from, goes_down, tree_walk, tree_plan, at_hook, resume_by, tree_standing}
use Rattle.rl_tree.specs.laws.Cases.{learn_by}
use Rattle.rl_tree.specs.laws.Cases.{plan_by}
use Rattle.rl_tree.specs.declared.rooted.Rooted.{Rooted}
use Rattle.rl_tree.specs.Elements.{names_in, tree_of}
use Rattle.rl_tree.specs.TreeGood.{Spent, IsGrantedAt, InQueue, is_open, TreeGood, IsAbove}
use Rattle.rl_tree.specs.TreeShape.{IsWellShaped}
use Rattle.rl_tree.specs.laws.TreePuts.{resume_unhooked}
use Rattle.rl_tree.specs.laws.TreeLawful.{spot_home, up_goes, gives_goes, walk_waits}
use Rattle.rl_tree.specs.laws.TreeStandings.{above_is, hook_cases, hook_first, holds_is, writer_holds, granted_first, granted_gate}
use Rattle.rl_tree.specs.laws.TreeLawful.{MayMake}
use Rattle.rl_tree.specs.laws.TreeHolders.{head_is, has_above_it, root_held, one_holder, root_phase, one_hooked, one_acts, counted_at, lawful_at, alone_at, finds_at}
use Rattle.rl_tree.specs.laws.RanksInTree.{stands_of, rank_is, queue_there, phase_of}
use Rattle.rl_tree.specs.laws.TreeFits.{placed_at, may_plan, may_learn}
use Rattle.rl_tree.specs.laws.TreeRest.{beside_at, beyond_at, begins_at, shut_at_rest}
use Rattle.rl_tree.specs.laws.TreeMoves.{asks_keep, leaves_keep, acts_keep, resumes_keep, learns_fit, resumes_fit}
use Rattle.rl_tree.specs.TreeFacts.{JoinsAtMost, IsShutAtHook, OnlyComesIn, IsOpenForHolder, MovesOnAlone, JoinsToHook, GoesOnForGood, WaitsOnLoads, TreeFacts}

-- A TURN that ends at the hook has at most joined
turn_joins : (n : TheNames) (m : ℕ) (p : Phase) (got : ℕ) → hook_by false (turn_at n m p got).phase ≡ true → JoinsAtMost (turn_at n m p got).events
turn_joins n m (Swing guess) got h = choose (λ z. JoinsAtMost z.events) (got == guess) (moves_with (joined_at guess) (event.Join n.queue m))
    (moves_to (Swing got)) (inr (n.queue, m, refl)) (inl refl)
turn_joins n m Wait got h =
    choose (λ z. JoinsAtMost z.events) (got == 0) (waits_at Wait) (if got == 1 then moves_to Settle else moves_to (Granted (code_left n.budget got))) (inl refl)
    (choose (λ z. JoinsAtMost z.events) (got == 1) (moves_to Settle) (moves_to (Granted (code_left n.budget got))) (inl refl) (inl refl))
turn_joins n m (Close left) got h = choose (λ z. JoinsAtMost z.events) (got == m + 1) (moves_to Idle) (moves_to (Await left)) (inl refl) (inl refl)
turn_joins n m (Await left) got h = choose (λ z. JoinsAtMost z.events) (got == 0) (waits_at (Await left)) (moves_to (Hand (got - 1) left)) (inl refl) (inl refl)
turn_joins n m (Hand succ left) got h = let bad : false ≡ true = sym (hands n.queue n.budget succ left) ∙ h in cc where
  hands : (q : ℕ) (B : Option ℕ) (s left : ℕ) → hook_by false (hand_turn q B s left).phase ≡ false
  hands q None s left = refl
  hands q (Some b) s zero = refl
  hands q (Some b) s (suc k) = ap (λ z. hook_by false z.phase) (pass_more q b s k)
turn_joins n m _ got h = inl refl

-- a walk ends at the hook where its turn's phase stands there, and tells what its turn told
down_hook : (v : TreeView) (w : ℕ) (es : List Event) → at_hook (goes_down v w es).view ≡ false
down_hook v zero es = refl
down_hook v (suc j) es = resume_unhooked (behind_at v.behind j)

inside_hook : (T : TheTree) (v : TreeView) (w left : ℕ) → hook_by false (inside_from T v w left) ≡ false
inside_hook T v zero left = refl
inside_hook T v (suc j) left = refl

walk_hook : (T : TheTree) (v : TreeView) (w : ℕ) (p : Phase) (es : List Event) (b : Bool) → at_hook (tree_walk T v w p es b).view ≡ true →
    (hook_by false p ≡ true) × ((tree_walk T v w p es b).events ≡ es)
walk_hook T v w Idle es b h = let bad : false ≡ true = sym (down_hook v w es) ∙ h in cc
walk_hook T v w Settle es b h = (refl, (up_goes (is_none (T.parent (path T v.leaf w))) v w es).0)
walk_hook T v w (Granted left) es b h = let bad : false ≡ true = sym (inside_hook T v w left) ∙ h in cc
walk_hook T v w (Above s) es b h = (refl, (gives_goes (is_none (T.parent (path T v.leaf w))) v w s es).0)
walk_hook T v w _ es b h = cc

-- where it plans a load again, so does the rank after it, and isn't at the hook
walk_loads : (K : Rooted) (v : TreeView) (p : Phase) (es : List Event) (b : Bool) →
    PlansLoad (plan_at (names_at (tree_of K) v v.level) (works_for (tree_of K) v v.level) p) →
    PlansLoad (tree_plan (tree_of K) (tree_walk (tree_of K) v v.level p es b).view) ×
    (at_hook (tree_walk (tree_of K) v v.level p es b).view ≡ false)
walk_loads K v Wait es b h = (h, refl)
walk_loads K v (Look left u) es b h = (h, refl)
walk_loads K v (Await left) es b h = (h, refl)
walk_loads K v _ es b h = absurd h

-- and it waits on only where its turn does
walk_rests : (T : TheTree) (v : TreeView) (w : ℕ) (p : Phase) (es : List Event) (b : Bool) → (tree_walk T v w p es b).waits ≡ true → b ≡ true
walk_rests T v w p es true h = refl
walk_rests T v w p es false h = let bad : false ≡ true = sym (walk_waits T v w p es false refl) ∙ h in cc

-- who gives up what is above has something above
spent_above : (b : Bool) (p : Phase) → b ≡ false → Spent b p → IsAbove p → ⊥
spent_above true p e s a = cc
spent_above false (Above succ) e s a = s
spent_above false _ e s a = a

module _ (K : Rooted) (levels : ℕ) (S : IsWellShaped K levels) where
  shut_at_hook : IsShutAtHook K levels
  shut_at_hook inside ws vs t r v x hook =
      let g : TreeGood K levels ws vs t = x.is_good.tree in
      let m : ℕ = works_for (tree_of K) v levels in
      let c = hook_cases v.query v.phase hook in
      let k = hook_first v.phase (slice_index ws (status_word (names_in K 0) m)) (subst (λ z. hook_by z v.phase ≡ true) c.0 hook) in
      sym x.is_good.gate ∙ ap is_open (head_is x.is_good.tree 0 m v.phase S.some
      (root_phase (stands_of S x.is_good.tree x.all r v x.has) hook) k.0) ∙ k.1

  open_for_holder : IsOpenForHolder K levels
  open_for_holder inside ws vs t r v x writes =
      let g : TreeGood K levels ws vs t = x.is_good.tree in
      let m : ℕ = works_for (tree_of K) v levels in
      let n = holds_is v.query v.phase (writer_holds (tree_standing v) writes) in
      let top : IsGrantedAt (x.is_good.tree.phase 0 (works_for (tree_of K) v levels)) =
      root_held (stands_of S x.is_good.tree x.all r v x.has) n.0 n.1 in
      sym x.is_good.gate ∙ ap is_open (head_is x.is_good.tree 0 m (x.is_good.tree.phase 0 m) S.some refl
      (granted_first _ _ top) ∙ granted_gate _ _ top)

  only_comes_in : OnlyComesIn K levels
  only_comes_in inside ws vs t r v x unlimited hook =
      ⊎_elim (λ e. e)
      (λ a.
      let m : ℕ = works_for (tree_of K) v levels in
      let spent : Spent (is_some K.root) v.phase = subst (Spent (is_some (names_in K 0).budget))
      (root_phase (stands_of S x.is_good.tree x.all r v x.has) hook) (x.is_good.tree.by.spent 0 m) in
      absurd (spent_above (is_some K.root) v.phase (ap is_some unlimited) spent a))
      (hook_cases v.query v.phase hook).1

  moves_on_at : MovesOnAlone K levels
  moves_on_at inside ws vs t r v a one x = by v.query refl where
    got : ℕ
    got = told a (slice_index ws (word_of a))

    n : TheNames
    n = names_at (tree_of K) v v.level

    m : ℕ
    m = works_for (tree_of K) v v.level

    by : (b : Bool) → v.query ≡ b → (learn_by (tree_of K) v v.query (told a (slice_index ws (word_of a)))).waits ≡ false
    by true e = ap (λ z. (learn_by (tree_of K) v z got).waits) e
    by false e =
        let y = x.viewed in
        let g : TreeGood K levels ws vs t = y.is_good.tree in
        let q : ℕ = path (tree_of K) v.leaf v.level in
        let s = stands_of S y.is_good.tree y.all r v y.has in
        let suits : SuitsAlone v.phase = subst SuitsAlone (phase_of s e) ((y.is_good.tree.by.queue q (queue_there s)).alone m (alone_at s one)) in
        ap (λ z. (learn_by (tree_of K) v z got).waits) e ∙
        walk_waits (tree_of K) v v.level (turn_at n m v.phase got).phase (turn_at n m v.phase got).events (turn_at n m v.phase got).waits
        (alone_moves_on n (InQueue K q) m v.phase got suits)

  joins_to_hook : JoinsToHook K levels
  joins_to_hook v got h = by v.query h where
    by : (q : Bool) → at_hook (learn_by (tree_of K) v q got).view ≡ true → JoinsAtMost (learn_by (tree_of K) v q got).events
    by true h = cc
    by false h =
        let n : TheNames = names_at (tree_of K) v v.level in
        let m : ℕ = works_for (tree_of K) v v.level in
        let k = walk_hook (tree_of K) v v.level (turn_at n m v.phase got).phase (turn_at n m v.phase got).events (turn_at n m v.phase got).waits h in
        subst JoinsAtMost (sym k.1) (turn_joins n m v.phase got k.0)

  goes_on_for_good : GoesOnForGood K levels
  goes_on_for_good v h =
      ⊎_elim
      (λ e. ap (λ z. at_hook (resume_by (tree_of K) v z []).view) e ∙ inside_hook (tree_of K) v v.level (full_budget (names_at (tree_of K) v v.level).budget))
      (λ a. let s = above_is v.phase a in ap (λ z. at_hook (resume_by (tree_of K) v z []).view) s.1 ∙ resume_unhooked s.0)
      (hook_cases v.query v.phase h).1

  waits_on_loads : WaitsOnLoads K levels
  waits_on_loads v a got pl h = by v.query pl h where
    by : (q : Bool) → plan_by (tree_of K) v q ≡ Some a → (learn_by (tree_of K) v q got).waits ≡ true →
        IsLoad a × PlansLoad (tree_plan (tree_of K) (learn_by (tree_of K) v q got).view) ×
        (at_hook (learn_by (tree_of K) v q got).view ≡ false)
    by true pl h = cc
    by false pl h =
        let n : TheNames = names_at (tree_of K) v v.level in
        let m : ℕ = works_for (tree_of K) v v.level in
        let w = walk_rests (tree_of K) v v.level (turn_at n m v.phase got).phase (turn_at n m v.phase got).events (turn_at n m v.phase got).waits h in
        let k = waits_on n (InQueue K (path (tree_of K) v.leaf v.level)) m v.phase got w in
        let l = walk_loads K v (turn_at n m v.phase got).phase (turn_at n m v.phase got).events (turn_at n m v.phase got).waits
        (subst (λ z. PlansLoad (plan_at n m z)) (sym k.0) k.1) in
        (subst PlansLoad pl k.1, l.0, l.1)

-- ALL OF IT
pub tree_facts : (K : Rooted) (levels : ℕ) → IsWellShaped K levels → TreeFacts K levels
tree_facts K levels S =
    record {
      begins = begins_at K levels S;
      beyond = beyond_at K levels S;
      beside = beside_at K levels S;
      asks = asks_keep K levels S;
      leaves = leaves_keep K levels S;
      acts = acts_keep K levels S;
      resumes = resumes_keep K levels S;
      queues = λ inside ws vs t g q there. g.tree.by.queue q there;
      above = λ inside ws vs t g e p m all there up has. has_above_it g.tree e p m there up has;
      one_agent = λ inside ws vs t i j k v w x y lv lw same. one_acts S x.is_good.tree x.all i j k v w x.has y.has lv lw same;
      one_hook = λ inside ws vs t i j v w x y hv hw. one_hooked S x.is_good.tree x.all i j v w x.has y.has hv hw;
      hook_shut = shut_at_hook K levels S;
      comes_in = only_comes_in K levels S;
      one_holder = λ inside ws vs t i j v w x y a b. one_holder S x.is_good.tree x.all i j v w x.has y.has a b;
      holder_open = open_for_holder K levels S;
      rest_shut = shut_at_rest K levels S;
      within = λ inside ws vs t q B g there has. queue_within (names_in K q) (InQueue K q) ws (g.tree.phase q) (g.tree.line q) t
          (g.tree.ended q) B (g.tree.by.queue q there) has;
      fifo = λ inside ws vs t q g there. queue_fifo (names_in K q) (InQueue K q) ws (g.tree.phase q) (g.tree.line q) t (g.tree.ended q)
          (g.tree.by.queue q there);
      counted = λ inside ws vs t q all g out there. counted_at S g.tree all out q there;
      homes = λ w lt. spot_home K levels S w lt;
      lawful = λ inside ws vs t r v a x. subst (λ z. MayMake K levels S z a) (rank_is S x.viewed.is_good.tree x.viewed.all r v x.viewed.has)
          (lawful_at (stands_of S x.viewed.is_good.tree x.viewed.all r v x.viewed.has) a x.planned);
      placed = λ inside ws vs t r v x. placed_at (stands_of S x.is_good.tree x.all r v x.has);
      may_plan = λ inside ws vs t r v x. may_plan (stands_of S x.is_good.tree x.all r v x.has);
      may_learn = λ inside ws vs t r v a x. may_learn (stands_of S x.viewed.is_good.tree x.viewed.all r v x.viewed.has) a x.planned;
      learns = learns_fit K levels S;
      goes_on = resumes_fit K levels S;
      joins = joins_to_hook K levels S;
      unhooks = goes_on_for_good K levels S;
      waits = waits_on_loads K levels S;
      finds = λ inside ws vs t r v a one x. finds_at (stands_of S x.viewed.is_good.tree x.viewed.all r v x.viewed.has) a x.planned one;
      moves_on = moves_on_at K levels S;
    }
