-- What is true of the good states of a tree, whatever stands above its root: what a lock over the tree stands on. Each statement is one
-- word, in the order of the clauses of `tree_laws`.
use Rattle.std.specs.Prelude.{◌≡◌, ◌⊎◌, ℕ, ◌+◌, ◌<◌, ◌≤◌, Bool, true, false, List, [], ◌∷◌, ◌++◌, length, replicate, slice_get, slice_index, slice_set, Some, None, is_some}
use Rattle.rl_word.specs.declared.acts.Act.{Act}
use Rattle.rl_word.specs.Acts.{word_of, written, told, IsLawful}
use Rattle.rl_word.specs.Shapes.{layout_of}
use Rattle.rl_step.specs.declared.events.Event.{Event}
use Rattle.rl_step.specs.declared.events.Event.TheVariants as event
use Rattle.rl_step.specs.declared.events.Standing.TheVariants.{Out, Writer}
use Rattle.rl_step.specs.Lock.{Told, first_views, Shift, holds_only, InOrder, AllNamed, FindsOld, IsLoad, PlansLoad, IsHolder, no_local}
use Rattle.rl_step.specs.Queues.{IsWithin, IsFifo, settled, passed, tenures}
use Rattle.rl_queue.specs.declared.view.Phase.{Phase}
use Rattle.rl_queue.specs.declared.view.Phase.TheVariants.{Clear, Settle}
use Rattle.rl_queue.specs.Queue.{leave_at}
use Rattle.rl_queue.specs.QueueGood.{QueueGood}
use Rattle.rl_tree.specs.declared.view.TreeView.{TreeView}
use Rattle.rl_tree.specs.Tree.{path, at_level, tree_plan, tree_learn, at_hook, tree_resume, tree_standing, entry_if}
use Rattle.rl_tree.specs.declared.rooted.Rooted.{Rooted}
use Rattle.rl_tree.specs.Elements.{how_many, ranks_in, leaf_of_rank, of_tree, names_in, tree_of, tree_spot, queue_at, queues_from, out_at}
use Rattle.rl_tree.specs.Fits.{IsPlaced, MayPlan, TreeMayLearn}
use Rattle.rl_tree.specs.TreeGood.{IsGrantedAt, InQueue, GoodAt}

-- How the root's gate moves with an act of the tree: it is as open as before; but a rank that comes to the hook to come in finds it shut
-- and leaves it so, and one that comes to the hook to go out closes it.
abbrev pub GateMoves : Bool → Phase → Bool → Bool → Type 0
GateMoves false p inside now = now ≡ inside
GateMoves true Settle inside now = (inside ≡ false) × (now ≡ false)
GateMoves true p inside now = (inside ≡ true) × (now ≡ false)

-- and with what goes on from the hook: one that comes in opens it, one that goes out leaves it shut
abbrev pub opens : Phase → Bool
opens Settle = true
opens p = false

-- events that end no tenure and are of no queue
abbrev pub IsBeside : Event → Type 0
IsBeside (event.EnterW k) = Unit {0}
IsBeside (event.EnterR k) = Unit {0}
IsBeside (event.LeaveR k) = Unit {0}
IsBeside (event.Touch k w) = Unit {0}
IsBeside e = ⊥

-- nothing happened, or a member joined a queue
abbrev pub JoinsAtMost : List Event → Type 0
JoinsAtMost es = (es ≡ []) ⊎ ((q : ℕ) × (m : ℕ) × (es ≡ event.Join q m ∷ []))

-- the events of what a rank learns in the tree, with its entry
abbrev pub all_events : Told TreeView → List Event
all_events u = u.events ++ entry_if u.view.query u.view.phase u.view.rank

-- what the laws of a lock ask of what rank r learns in the tree, where its view was v
pub record LearnFits (K : Rooted) (r : ℕ) (v : TreeView) (u : Told TreeView) : Type 0 where
  pub shift : Shift r (tree_standing v) (tree_standing u.view) (holds_only (all_events u))
  pub order : InOrder (all_events u)
  pub few : length (all_events u) ≤ 5
  pub names : AllNamed (queues_from K 0 (how_many K)) (λ c. false) (all_events u)

-- the tree is good over these words, which may be more than its own, and rank r has the view v
pub record HasView (K : Rooted) (levels : ℕ) (inside : Bool) (ws : List ℕ) (vs : List TreeView) (t : List Event) (r : ℕ) (v : TreeView) : Type 0 where
  pub long : of_tree K ≤ length ws
  pub all : length vs ≡ ranks_in K
  pub is_good : GoodAt K levels inside ws vs t
  pub has : slice_get vs r ≡ Some v

-- and, away from the hook, plans the act a
pub record PlansAct (K : Rooted) (levels : ℕ) (inside : Bool) (ws : List ℕ) (vs : List TreeView) (t : List Event) (r : ℕ) (v : TreeView)
    (a : Act) : Type 0 where
  pub viewed : HasView K levels inside ws vs t r v
  pub away : at_hook v ≡ false
  pub planned : tree_plan (tree_of K) v ≡ Some a

-- what it learns from the act, and what goes on from the hook
abbrev pub learnt_in : Rooted → List ℕ → TreeView → Act → Told TreeView
learnt_in K ws v a = tree_learn (tree_of K) v (told a (slice_index ws (word_of a)))

abbrev pub resumed_in : Rooted → TreeView → Told TreeView
resumed_in K v = tree_resume (tree_of K) v

module _ (K : Rooted) (levels : ℕ) where
  abbrev pub Viewed : Bool → List ℕ → List TreeView → List Event → ℕ → TreeView → Type 0
  Viewed inside ws vs t r v = HasView K levels inside ws vs t r v

  abbrev pub Planned : Bool → List ℕ → List TreeView → List Event → ℕ → TreeView → Act → Type 0
  Planned inside ws vs t r v a = PlansAct K levels inside ws vs t r v a

  -- the opening state is good, and the root shut
  abbrev pub Begins : Type 0
  Begins = (size : ℕ) → of_tree K ≤ size → GoodAt K levels false (replicate size 0) (first_views (λ r. out_at r (leaf_of_rank K r)) 0 (ranks_in K)) []

  -- a good tree stays good, and its root as open, where a word behind the tree's is written
  abbrev pub BeyondKeeps : Type 0
  BeyondKeeps = (inside : Bool) (ws : List ℕ) (vs : List TreeView) (t : List Event)
      (w x : ℕ) → of_tree K ≤ w → GoodAt K levels inside ws vs t → GoodAt K levels inside (slice_set ws w x) vs t

  -- after an event that is of no queue
  abbrev pub BesideKeeps : Type 0
  BesideKeeps = (inside : Bool) (ws : List ℕ) (vs : List TreeView) (t : List Event)
      (e : Event) → IsBeside e → GoodAt K levels inside ws vs t → GoodAt K levels inside ws vs (t ++ e ∷ [])

  -- where a rank that is out asks, and where one that is inside begins to leave
  abbrev pub AsksKeep : Type 0
  AsksKeep = (inside : Bool) (ws : List ℕ) (vs : List TreeView) (t : List Event) (r : ℕ)
      (v : TreeView) → Viewed inside ws vs t r v → tree_standing v ≡ Out → GoodAt K levels inside ws (slice_set vs r (at_level v 0 Clear)) t

  abbrev pub LeavesKeep : Type 0
  LeavesKeep =
      (inside : Bool) (ws : List ℕ) (vs : List TreeView) (t : List Event) (r : ℕ) (v : TreeView) → Viewed inside ws vs t r v → tree_standing v ≡ Writer →
      GoodAt K levels inside ws (slice_set vs r (at_level v 0 (leave_at v.phase true))) (t ++ event.LeaveW r ∷ [])

  -- it stays good at each act, and where the root has a budget its gate moves as it may
  abbrev pub ActsKeep : Type 0
  ActsKeep =
      (inside : Bool) (ws : List ℕ) (vs : List TreeView) (t : List Event) (r : ℕ) (v : TreeView) (a : Act) → Planned inside ws vs t r v a →
      (now : Bool) × (is_some K.root ≡ true → GateMoves (at_hook (learnt_in K ws v a).view) (learnt_in K ws v a).view.phase inside now) ×
      GoodAt K levels now (slice_set ws (word_of a) (written a (slice_index ws (word_of a)))) (slice_set vs r (learnt_in K ws v a).view)
      (t ++ (learnt_in K ws v a).events)

  -- and where it goes on from the hook
  abbrev pub ResumesKeep : Type 0
  ResumesKeep =
      (inside : Bool) (ws : List ℕ) (vs : List TreeView) (t : List Event) (r : ℕ) (v : TreeView) → Viewed inside ws vs t r v → at_hook v ≡ true →
      GoodAt K levels (opens v.phase) ws (slice_set vs r (resumed_in K v).view) (t ++ (resumed_in K v).events)

  -- each queue is good
  abbrev pub HasGoodQueues : Type 0
  HasGoodQueues =
      (inside : Bool) (ws : List ℕ) (vs : List TreeView) (t : List Event) (g : GoodAt K levels inside ws vs t) (q : ℕ) → q < how_many K →
      QueueGood (names_in K q) (InQueue K q) ws (g.tree.phase q) (g.tree.line q) t (g.tree.ended q)

  -- a member has its element's queue only where the element has its parent's
  abbrev pub HasWhatIsAbove : Type 0
  HasWhatIsAbove =
      (inside : Bool) (ws : List ℕ) (vs : List TreeView) (t : List Event) (g : GoodAt K levels inside ws vs t)
      (e p m : ℕ) → length vs ≡ ranks_in K → e < how_many K → (tree_of K).parent e ≡ Some p →
      IsGrantedAt (g.tree.phase e m) → IsGrantedAt (g.tree.phase p e)

  -- one rank at most acts for an element: two that work above it for it are one
  abbrev pub HasOneAgent : Type 0
  HasOneAgent =
      (inside : Bool) (ws : List ℕ) (vs : List TreeView) (t : List Event) (i j k : ℕ) (v w : TreeView) → Viewed inside ws vs t i v → Viewed inside ws vs t j w →
      k < v.level → k < w.level → path (tree_of K) v.leaf k ≡ path (tree_of K) w.leaf k → i ≡ j

  -- one at most stands at the hook, and then the root isn't open
  abbrev pub HasOneAtHook : Type 0
  HasOneAtHook =
      (inside : Bool) (ws : List ℕ) (vs : List TreeView) (t : List Event) (i j : ℕ) (v w : TreeView) → Viewed inside ws vs t i v → Viewed inside ws vs t j w →
      at_hook v ≡ true → at_hook w ≡ true → i ≡ j

  abbrev pub IsShutAtHook : Type 0
  IsShutAtHook = (inside : Bool) (ws : List ℕ) (vs : List TreeView) (t : List Event) (r : ℕ)
      (v : TreeView) → Viewed inside ws vs t r v → at_hook v ≡ true → inside ≡ false

  -- under a root without budget none stands there to go out
  abbrev pub OnlyComesIn : Type 0
  OnlyComesIn = (inside : Bool) (ws : List ℕ) (vs : List TreeView) (t : List Event) (r : ℕ)
      (v : TreeView) → Viewed inside ws vs t r v → K.root ≡ None → at_hook v ≡ true → v.phase ≡ Settle

  -- one at most holds the lock, and then the root is open
  abbrev pub HasOneHolder : Type 0
  HasOneHolder =
      (inside : Bool) (ws : List ℕ) (vs : List TreeView) (t : List Event) (i j : ℕ) (v w : TreeView) → Viewed inside ws vs t i v → Viewed inside ws vs t j w →
      IsHolder (tree_standing v) → IsHolder (tree_standing w) → i ≡ j

  abbrev pub IsOpenForHolder : Type 0
  IsOpenForHolder = (inside : Bool) (ws : List ℕ) (vs : List TreeView) (t : List Event) (r : ℕ)
      (v : TreeView) → Viewed inside ws vs t r v → tree_standing v ≡ Writer → inside ≡ true

  -- while no rank is in a call the root is shut, and its tail is 0
  abbrev pub AllAreOut : List TreeView → Type 0
  AllAreOut vs = (r : ℕ) (v : TreeView) → slice_get vs r ≡ Some v → tree_standing v ≡ Out

  abbrev pub IsShutAtRest : Type 0
  IsShutAtRest = (inside : Bool) (ws : List ℕ) (vs : List TreeView)
      (t : List Event) → length vs ≡ ranks_in K → GoodAt K levels inside ws vs t → AllAreOut vs → (inside ≡ false) × (slice_index ws 0 ≡ 0)

  -- each queue keeps its budget, which is that of its level, serves first who came first, and was given as often as it was had
  abbrev pub KeepsBudgets : Type 0
  KeepsBudgets = (inside : Bool) (ws : List ℕ) (vs : List TreeView) (t : List Event)
      (q B : ℕ) → GoodAt K levels inside ws vs t → q < how_many K → (names_in K q).budget ≡ Some B → IsWithin t q B

  abbrev pub ServesInOrder : Type 0
  ServesInOrder = (inside : Bool) (ws : List ℕ) (vs : List TreeView) (t : List Event) (q : ℕ) → GoodAt K levels inside ws vs t → q < how_many K → IsFifo t q

  abbrev pub CountsTenures : Type 0
  CountsTenures =
      (inside : Bool) (ws : List ℕ) (vs : List TreeView) (t : List Event)
      (q : ℕ) → length vs ≡ ranks_in K → GoodAt K levels inside ws vs t → AllAreOut vs → q < how_many K →
      settled q t + passed q t ≡ tenures (queue_at K q) t

  -- the words live on nodes, and each planned act on them is lawful and no local compare-and-swap
  abbrev pub HasHomes : Type 0
  HasHomes = (w : ℕ) → w < of_tree K → (tree_spot K w).home < K.shape.nodes

  abbrev pub PlansLawfully : Type 0
  PlansLawfully =
      (inside : Bool) (ws : List ℕ) (vs : List TreeView) (t : List Event) (r : ℕ) (v : TreeView) (a : Act) → Planned inside ws vs t r v a →
      IsLawful (of_tree K) (tree_spot K) (layout_of K.shape) r a × (no_local r a ≡ true)

  -- what the code asks of a view and of what its act told
  abbrev pub ArePlaced : Type 0
  ArePlaced = (inside : Bool) (ws : List ℕ) (vs : List TreeView) (t : List Event) (r : ℕ) (v : TreeView) → Viewed inside ws vs t r v → IsPlaced K v

  abbrev pub MayAllPlan : Type 0
  MayAllPlan = (inside : Bool) (ws : List ℕ) (vs : List TreeView) (t : List Event) (r : ℕ) (v : TreeView) → Viewed inside ws vs t r v → MayPlan K v

  abbrev pub MayAllLearn : Type 0
  MayAllLearn = (inside : Bool) (ws : List ℕ) (vs : List TreeView) (t : List Event) (r : ℕ) (v : TreeView)
      (a : Act) → Planned inside ws vs t r v a → TreeMayLearn K v (told a (slice_index ws (word_of a)))

  -- what an act tells, and what goes on from the hook, is as the laws of a lock ask
  abbrev pub LearnsFit : Type 0
  LearnsFit = (inside : Bool) (ws : List ℕ) (vs : List TreeView) (t : List Event) (r : ℕ) (v : TreeView)
      (a : Act) → Planned inside ws vs t r v a → LearnFits K r v (learnt_in K ws v a)

  abbrev pub ResumesFit : Type 0
  ResumesFit = (inside : Bool) (ws : List ℕ) (vs : List TreeView) (t : List Event) (r : ℕ)
      (v : TreeView) → Viewed inside ws vs t r v → at_hook v ≡ true → LearnFits K r v (resumed_in K v)

  -- one that comes to the hook has at most joined
  abbrev pub JoinsToHook : Type 0
  JoinsToHook = (v : TreeView) (got : ℕ) → at_hook (tree_learn (tree_of K) v got).view ≡ true → JoinsAtMost (tree_learn (tree_of K) v got).events

  -- and one that went on from the hook isn't there again
  abbrev pub GoesOnForGood : Type 0
  GoesOnForGood = (v : TreeView) → at_hook v ≡ true → at_hook (resumed_in K v).view ≡ false

  -- a rank waits on after a load alone, and stands at a load again
  abbrev pub WaitsOnLoads : Type 0
  WaitsOnLoads =
      (v : TreeView) (a : Act) (got : ℕ) → tree_plan (tree_of K) v ≡ Some a → (tree_learn (tree_of K) v got).waits ≡ true →
      IsLoad a × PlansLoad (tree_plan (tree_of K) (tree_learn (tree_of K) v got).view) × (at_hook (tree_learn (tree_of K) v got).view ≡ false)

  -- a rank that is alone finds what it compares with, and waits for nobody
  abbrev pub FindsAlone : Type 0
  FindsAlone = (inside : Bool) (ws : List ℕ) (vs : List TreeView) (t : List Event) (r : ℕ) (v : TreeView)
      (a : Act) → ranks_in K ≡ 1 → Planned inside ws vs t r v a → FindsOld a (slice_index ws (word_of a))

  abbrev pub MovesOnAlone : Type 0
  MovesOnAlone = (inside : Bool) (ws : List ℕ) (vs : List TreeView) (t : List Event) (r : ℕ) (v : TreeView)
      (a : Act) → ranks_in K ≡ 1 → Planned inside ws vs t r v a → (learnt_in K ws v a).waits ≡ false

-- all of it
pub record TreeFacts (K : Rooted) (levels : ℕ) : Type 0 where
  pub begins : Begins K levels
  pub beyond : BeyondKeeps K levels
  pub beside : BesideKeeps K levels
  pub asks : AsksKeep K levels
  pub leaves : LeavesKeep K levels
  pub acts : ActsKeep K levels
  pub resumes : ResumesKeep K levels
  pub queues : HasGoodQueues K levels
  pub above : HasWhatIsAbove K levels
  pub one_agent : HasOneAgent K levels
  pub one_hook : HasOneAtHook K levels
  pub hook_shut : IsShutAtHook K levels
  pub comes_in : OnlyComesIn K levels
  pub one_holder : HasOneHolder K levels
  pub holder_open : IsOpenForHolder K levels
  pub rest_shut : IsShutAtRest K levels
  pub within : KeepsBudgets K levels
  pub fifo : ServesInOrder K levels
  pub counted : CountsTenures K levels
  pub homes : HasHomes K levels
  pub lawful : PlansLawfully K levels
  pub placed : ArePlaced K levels
  pub may_plan : MayAllPlan K levels
  pub may_learn : MayAllLearn K levels
  pub learns : LearnsFit K levels
  pub goes_on : ResumesFit K levels
  pub joins : JoinsToHook K levels
  pub unhooks : GoesOnForGood K levels
  pub waits : WaitsOnLoads K levels
  pub finds : FindsAlone K levels
  pub moves_on : MovesOnAlone K levels
