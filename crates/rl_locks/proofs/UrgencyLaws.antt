-- A core lets its ranks go on as urgently as its kind defines: its table is the defined one, and with it where the lock's words lie and which
-- word a rank loads.
use Rattle.std.specs.Prelude.{◌≡◌, ℕ, ◌+◌, true, false, Bool, List, length, take, drop, slice_index, Option, Some, refl}
use Rattle.std.proofs.Common.{sym, ◌∙◌, ap, arith}
use Rattle.rl_word.specs.Shapes.{TheShape}
use Rattle.rl_word.specs.declared.shapes.Knobs.{Knobs}
use Rattle.rl_word.specs.declared.acts.Act.{Act}
use Rattle.rl_word.specs.declared.acts.Act.TheVariants as act
use Rattle.rl_word.specs.declared.acts.Atom.{Atom}
use Rattle.rl_word.specs.declared.acts.Atom.TheVariants as atom
use Rattle.rl_step.specs.Lock.{LockTable}
use Rattle.rl_spin.specs.SpinUrgency.{spin_urgent}
use Rattle.rl_queue.specs.declared.view.Phase.{Phase}
use Rattle.rl_queue.specs.declared.view.Phase.TheVariants.{Idle, Clear, Reset, Swing, Link, Wait, Settle, Granted, Look, Close, Await, Hand, Above}
use Rattle.rl_queue.specs.declared.view.QueueView.{QueueView}
use Rattle.rl_queue.specs.Queue.{TheNames, plan_at}
use Rattle.rl_queue.specs.Urgency.{loaded, urgent_at}
use Rattle.rl_queue.specs.Dmcs.{dmcs_table, dmcs_names}
use Rattle.rl_queue.specs.DmcsUrgency.{dmcs_urgent}
use Rattle.rl_alock.specs.declared.cohort.Cohort.{Cohort}
use Rattle.rl_alock.specs.declared.cohort.Cohort.TheVariants.{Local, Remote}
use Rattle.rl_alock.specs.declared.view.SettleStage.{SettleStage}
use Rattle.rl_alock.specs.declared.view.SettleStage.TheVariants.{Announce, Tail, Victim}
use Rattle.rl_alock.specs.declared.view.AlockView.{AlockView}
use Rattle.rl_alock.specs.Alock.{Cohorts, cohorts_of, cohort_of, tail_no, victim_no, other, names_of, alock_plan, alock_table}
use Rattle.rl_alock.specs.AlockUrgency.{head_urgent, rank_urgent, alock_urgent}
use Rattle.rl_tree.specs.declared.rooted.Rooted.{Rooted}
use Rattle.rl_tree.specs.declared.view.TreeView.{TreeView}
use Rattle.rl_tree.specs.Tree.{names_at, works_for, tree_plan}
use Rattle.rl_tree.specs.Elements.{tree_of}
use Rattle.rl_tree.specs.laws.Cases.{plan_by}
use Rattle.rl_mcs.specs.Mcs.{mcs_table, mcs_tree}
use Rattle.rl_mcs.specs.McsUrgency.{urgent_by, mcs_urgent}
use Rattle.rl_counter.specs.declared.view.Doing.{Doing}
use Rattle.rl_counter.specs.declared.view.Doing.TheVariants as doing
use Rattle.rl_counter.specs.Counter.{busy}
use Rattle.rl_rw.specs.declared.view.RwView.{RwView}
use Rattle.rl_rw.specs.Rw.{Shared, shared_of, shared_in, plan_of, rw_table}
use Rattle.rl_rw.specs.RwUrgency.{turn_of, where_some, tree_urgency, urgency_at, rw_urgent}
use Rattle.rl_site.specs.Site.{Site, lock_base}
use Rattle.rl_work.specs.Ways.{WorkTable}
use Rattle.rl_core.specs.ShardTables.{ShardTable}
use Rattle.rl_rank.specs.declared.card_state.CardState.TheVariants.{Free}
use Rattle.rl_rank.specs.declared.whole.Whole.{Whole}
use Rattle.rl_rank.specs.declared.whole.WholeView.{WholeView}
use Rattle.rl_rank.specs.Running.{LockAt, Tables, kinds, lock_at, lock_with, tables}
use Rattle.rl_rank.specs.Split.{card_atom}
use Rattle.rl_rank.specs.Whole.{lock_or_work, lock_words, next_of, work_plan}
use Rattle.rl_rank.specs.WholeGuiding.{card_urgency, free_urgency, whole_urgent}
use Rattle.rl_rank.specs.WholeShards.{shard_at, whole_shard}
use Rattle.rl_locks.specs.Kinds.{Defined, Way, locked, optimistic, combining, under, spin, dmcs, cohorts, cohort_lock, alock, mcs, rw, seq, combine}
use Rattle.rl_locks.specs.Urgencies.{Urgent, urgent_under, cohort_urgent, urgent_on_spin, urgent_on_dmcs, urgent_on_alock, urgent_on_mcs, urgent_on_rw, urgent_on_seq, urgent_on_combine}
use Rattle.rl_spin.specs.contracts.spin.SpinAlgo.TheImpl as by_spin
use Rattle.rl_spin.specs.contracts.guiding.SpinGuiding.TheImpl as spin_guides
use Rattle.rl_queue.specs.contracts.dmcs.DmcsAlgo.TheImpl as by_dmcs
use Rattle.rl_queue.specs.contracts.guiding.DmcsGuiding.TheImpl as dmcs_guides
use Rattle.rl_alock.specs.contracts.alock.AlockAlgo.TheImpl as by_alock
use Rattle.rl_alock.specs.contracts.guiding.AlockGuiding.TheImpl as alock_guides
use Rattle.rl_mcs.specs.contracts.mcs.McsAlgo.TheImpl as by_mcs
use Rattle.rl_mcs.specs.contracts.guiding.McsGuiding.TheImpl as mcs_guides
use Rattle.rl_rw.specs.contracts.rw.RwAlgo.TheImpl as by_rw
use Rattle.rl_rw.specs.contracts.guiding.RwGuiding.TheImpl as rw_guides
use Rattle.rl_work.specs.contracts.locked.LockedWorkWork.TheImpl as by_locked
use Rattle.rl_seq.specs.contracts.way.SeqWorkWork.TheImpl as by_seq
use Rattle.rl_combine.specs.contracts.combine.CombineWorkWork.TheImpl as by_combine

-- where two locks have a rank load a word, they have it load the same one
abbrev pub LoadAlike : {V : Type 0} → LockTable V → LockTable V → V → Type 0
LoadAlike T U v = (w u : ℕ) → T.plan v ≡ Some (act.Load w) → U.plan v ≡ Some (act.Load u) → w ≡ u

-- ---- two tables of shards that are the same

-- the word that an atom loads
abbrev load_word : Option Atom → ℕ
load_word (Some (atom.Load w)) = w
load_word at = 0

module _ {V K : Type 0} (L M : LockAt V K) (home other_home : ℕ) (same : whole_shard L home ≡ whole_shard M other_home) where
  same_size : L.table.size ≡ M.table.size
  same_size =
      let behind : L.table.size + L.work.size ≡ M.table.size + M.work.size = ap (λ (T : ShardTable _). T.behind) same in
      let own : L.work.size ≡ M.work.size = ap (λ (T : ShardTable _). T.own_words) same in
      omega (arith, behind, own)

  same_base : L.base ≡ M.base
  same_base =
      let all : L.base + L.table.size + L.work.size ≡ M.base + M.table.size + M.work.size = ap (λ (T : ShardTable _). T.core.size) same in
      let own : L.work.size ≡ M.work.size = ap (λ (T : ShardTable _). T.own_words) same in
      let size = same_size in
      omega (arith, all, own, size)

  -- a rank's view with this lock's view in it, in no card
  abbrev viewed : WholeView V K → V → WholeView V K
  viewed x v = record x { side = record { view = v; card = Free } }

  load_alike : WholeView V K → (v : V) → LoadAlike L.table M.table v
  load_alike x v w u here there =
      let by_lock : next_of L (viewed x v) ≡ Some (atom.Load (L.base + w)) = ap (λ p. lock_or_work L.base (card_atom L.table p Free) (work_plan (L.table.standing v) (L.work.next x.rank x.work))) here in
      let by_other : next_of M (viewed x v) ≡ Some (atom.Load (M.base + u)) = ap (λ p. lock_or_work M.base (card_atom M.table p Free) (work_plan (M.table.standing v) (M.work.next x.rank x.work))) there in
      let next : next_of L (viewed x v) ≡ next_of M (viewed x v) = ap (λ (T : ShardTable _). T.core.next (viewed x v)) same in
      let sums : L.base + w ≡ M.base + u = ap load_word (sym by_lock ∙ next ∙ by_other) in
      let base = same_base in
      omega (arith, sums, base)

  -- so a rank goes on alike, if it does so at the locks
  goes_alike : (urgent others : List ℕ → V → Option ℕ) (words : List ℕ) (x : WholeView V K) → L.table.standing x.side.view ≡ M.table.standing x.side.view → L.work.is_open x.work ≡ M.work.is_open x.work →
      ((ws : List ℕ) → urgent ws x.side.view ≡ others ws x.side.view) → whole_urgent L urgent words x ≡ whole_urgent M others words x
  goes_alike urgent others words x stands opens alike =
      let v = x.side.view in
      let ws : lock_words L words ≡ lock_words M words = ap (λ n. take n (drop L.base words)) same_size ∙ ap (λ n. take M.table.size (drop n words)) same_base in
      ap (card_urgency x.side.card)
      (ap (λ z. free_urgency (urgent z v) (L.table.standing v) (L.work.is_open x.work)) ws
      ∙ ap (λ n. free_urgency n (L.table.standing v) (L.work.is_open x.work)) (alike (lock_words M words))
      ∙ ap (λ st. free_urgency (others (lock_words M words) v) st (L.work.is_open x.work)) stands
      ∙ ap (λ b. free_urgency (others (lock_words M words) v) (M.table.standing v) b) opens)

-- these cores go on as a kind defines it
abbrev GoAs : {A W V K : Type 0} → Tables A W V K → (A → List ℕ → V → Option ℕ) → Defined (WholeView V K) → Urgent (WholeView V K) → Type 0
GoAs T urgency defined urgent =
    (core : Whole _ _ _ _) (shape : TheShape) (home : ℕ) (knobs : Knobs) (site : Site) (words : List ℕ) (v : WholeView _ _) → shard_at T core ≡ defined shape home knobs site →
    whole_urgent (lock_at T core) (urgency core.algo) words v ≡ urgent shape home knobs site words v

-- The cores of a lock and a way of working: where the lock's standings and the work's open blocks are those of the definitions, and ranks that
-- load alike go on alike at the lock.
module _ {A W V K : Type 0} (table : A → LockTable V) (work : W → WorkTable K) (urgency : A → List ℕ → V → Option ℕ)
    (lock : TheShape → ℕ → Knobs → LockTable V) (way : Way K) (urgent : TheShape → ℕ → Knobs → List ℕ → V → Option ℕ)
    (stands : (a : A) (shape : TheShape) (home : ℕ) (knobs : Knobs) (v : V) → (table a).standing v ≡ (lock shape home knobs).standing v)
    (opens : (w : W) (shape : TheShape) (home : ℕ) (site : Site) (behind : ℕ) (x : K) → (work w).is_open x ≡ (way shape home site behind).is_open x)
    (alike : (a : A) (shape : TheShape) (home : ℕ) (knobs : Knobs) (v : V) → LoadAlike (table a) (lock shape home knobs) v → (ws : List ℕ) → urgency a ws v ≡ urgent shape home knobs ws v) where
  goes_as_defined : GoAs (tables table work) urgency (under lock way) (urgent_under lock urgent way)
  goes_as_defined c shape home knobs site words x same =
      let L : LockAt V K = lock_at (tables table work) c in
      let M : LockAt V K = lock_with (kinds lock way shape home knobs) site in
      goes_alike L M c.home home same (urgency c.algo) (urgent shape home knobs) words x (stands c.algo shape home knobs x.side.view)
      (opens c.work shape home site (lock_base site + (lock shape home knobs).size) x.work)
      (alike c.algo shape home knobs x.side.view (load_alike L M c.home home same x x.side.view))

-- ---- ranks that load alike go on alike

-- in a queue: a member loads a word where it might wait
in_queue : (N O : TheNames) (m o : ℕ) (p : Phase) → ((w u : ℕ) → plan_at N m p ≡ Some (act.Load w) → plan_at O o p ≡ Some (act.Load u) → w ≡ u) → (ws : List ℕ) →
    urgent_at p (loaded ws (plan_at N m p)) ≡ urgent_at p (loaded ws (plan_at O o p))
in_queue N O m o Idle same ws = refl
in_queue N O m o Clear same ws = refl
in_queue N O m o Reset same ws = refl
in_queue N O m o (Swing guess) same ws = refl
in_queue N O m o (Link guess) same ws = refl
in_queue N O m o Wait same ws = ap (λ w. urgent_at Wait (slice_index ws w)) (same _ _ refl refl)
in_queue N O m o Settle same ws = refl
in_queue N O m o (Granted left) same ws = refl
in_queue N O m o (Look left upper) same ws = refl
in_queue N O m o (Close left) same ws = refl
in_queue N O m o (Await left) same ws = ap (λ w. urgent_at (Await left) (slice_index ws w)) (same _ _ refl refl)
in_queue N O m o (Hand succ left) same ws = refl
in_queue N O m o (Above succ) same ws = refl

dmcs_alike : (home other_home : ℕ) (nodes others : List ℕ) (v : QueueView) → LoadAlike (dmcs_table home nodes) (dmcs_table other_home others) v → (ws : List ℕ) → dmcs_urgent (length nodes) ws v ≡ dmcs_urgent (length others) ws v
dmcs_alike home other_home nodes others v same ws = in_queue (dmcs_names (length nodes)) (dmcs_names (length others)) v.member v.member v.phase same ws

-- at ALock's entry: a head is of the cohort whose other queue it looks at
one_cohort : (c d : Cohort) → tail_no (other c) ≡ tail_no (other d) → c ≡ d
one_cohort Local Local e = refl
one_cohort Local Remote e = absurd (omega (arith, e))
one_cohort Remote Local e = absurd (omega (arith, e))
one_cohort Remote Remote e = refl

at_entry : (c d : Cohort) (st : SettleStage) (ws : List ℕ) → (st ≡ Tail → c ≡ d) →
    head_urgent c st (slice_index ws (tail_no (other c))) (slice_index ws victim_no) ≡ head_urgent d st (slice_index ws (tail_no (other d))) (slice_index ws victim_no)
at_entry c d Announce ws same = refl
at_entry c d Tail ws same = ap (λ z. head_urgent z Tail (slice_index ws (tail_no (other z))) (slice_index ws victim_no)) (same refl)
at_entry c d Victim ws same = refl

module _ (K M : Cohorts) where
  abbrev names_in : Cohorts → ℕ → TheNames
  names_in H m = names_of H (cohort_of H m)

  abbrev plan_in : Cohorts → ℕ → Phase → SettleStage → Option Act
  plan_in H m p st = alock_plan (names_in H m) (cohort_of H m) m p st

  by_phase : (m : ℕ) (p : Phase) (st : SettleStage) → ((w u : ℕ) → plan_in K m p st ≡ Some (act.Load w) → plan_in M m p st ≡ Some (act.Load u) → w ≡ u) → (ws : List ℕ) → rank_urgent K ws m p st ≡ rank_urgent M ws m p st
  by_phase m Settle st same ws = at_entry (cohort_of K m) (cohort_of M m) st ws (λ e. one_cohort (cohort_of K m) (cohort_of M m) (same _ _ (ap (plan_in K m Settle) e) (ap (plan_in M m Settle) e)))
  by_phase m Idle st same ws = refl
  by_phase m Clear st same ws = refl
  by_phase m Reset st same ws = refl
  by_phase m (Swing guess) st same ws = refl
  by_phase m (Link guess) st same ws = refl
  by_phase m Wait st same ws = in_queue (names_in K m) (names_in M m) m m Wait same ws
  by_phase m (Granted left) st same ws = refl
  by_phase m (Look left upper) st same ws = refl
  by_phase m (Close left) st same ws = refl
  by_phase m (Await left) st same ws = in_queue (names_in K m) (names_in M m) m m (Await left) same ws
  by_phase m (Hand succ left) st same ws = refl
  by_phase m (Above succ) st same ws = refl

  alock_alike : (v : AlockView) → LoadAlike (alock_table K) (alock_table M) v → (ws : List ℕ) → alock_urgent K ws v ≡ alock_urgent M ws v
  alock_alike v same ws = by_phase v.queue.member v.queue.phase v.entry same ws

-- in the tree: a rank that loads a status goes on in any case
module _ (K M : Rooted) (v : TreeView) (same : (w u : ℕ) → tree_plan (tree_of K) v ≡ Some (act.Load w) → tree_plan (tree_of M) v ≡ Some (act.Load u) → w ≡ u) (ws : List ℕ) where
  abbrev queue_plan : Rooted → Phase → Option Act
  queue_plan H p = plan_at (names_at (tree_of H) v v.level) (works_for (tree_of H) v v.level) p

  in_tree : v.query ≡ false → urgent_at v.phase (loaded ws (tree_plan (tree_of K) v)) ≡ urgent_at v.phase (loaded ws (tree_plan (tree_of M) v))
  in_tree in_queues =
      let here : tree_plan (tree_of K) v ≡ queue_plan K v.phase = ap (plan_by (tree_of K) v) in_queues in
      let there : tree_plan (tree_of M) v ≡ queue_plan M v.phase = ap (plan_by (tree_of M) v) in_queues in
      ap (λ p. urgent_at v.phase (loaded ws p)) here
      ∙ in_queue (names_at (tree_of K) v v.level) (names_at (tree_of M) v v.level) (works_for (tree_of K) v v.level) (works_for (tree_of M) v v.level) v.phase (λ w u e f. same w u (here ∙ e) (there ∙ f)) ws
      ∙ sym (ap (λ p. urgent_at v.phase (loaded ws p)) there)

  by_query : (b : Bool) → v.query ≡ b → urgent_by b v.phase (loaded ws (tree_plan (tree_of K) v)) ≡ urgent_by b v.phase (loaded ws (tree_plan (tree_of M) v))
  by_query true e = refl
  by_query false e = in_tree e

  tree_turns : (b : Bool) → v.query ≡ b → tree_urgency b v.phase (loaded ws (tree_plan (tree_of K) v)) ≡ tree_urgency b v.phase (loaded ws (tree_plan (tree_of M) v))
  tree_turns true e = refl
  tree_turns false e = ap (where_some (turn_of v.phase)) (in_tree e)

mcs_alike : (K M : Rooted) (v : TreeView) → LoadAlike (mcs_table K) (mcs_table M) v → (ws : List ℕ) → mcs_urgent K ws v ≡ mcs_urgent M ws v
mcs_alike K M v same ws = by_query K M v same ws v.query refl

-- under RMA-RW only who does nothing at the counters goes by what it loads
module _ (K M : Shared) (v : RwView) (same : LoadAlike (rw_table K) (rw_table M) v) (ws : List ℕ) where
  by_doing : (p : Doing) → v.counter.doing ≡ p → urgency_at K ws p v.tree ≡ urgency_at M ws p v.tree
  by_doing doing.Nothing e =
      let idle : busy v.counter.doing ≡ false = ap busy e in
      tree_turns K.rooted M.rooted v.tree (λ w u here there. same w u (ap (plan_of K v) idle ∙ here) (ap (plan_of M v) idle ∙ there)) ws v.tree.query refl
  by_doing doing.Arrive e = refl
  by_doing (doing.Refused seen) e = refl
  by_doing (doing.SeeTail seen) e = refl
  by_doing doing.Swap e = refl
  by_doing (doing.Reset seen) e = refl
  by_doing doing.Round e = refl
  by_doing (doing.RoundTail seen) e = refl
  by_doing doing.Inside e = refl
  by_doing doing.Depart e = refl
  by_doing (doing.Put i) e = refl
  by_doing (doing.Count i) e = refl
  by_doing (doing.Compare i seen) e = refl
  by_doing (doing.TakeOut i) e = refl
  by_doing (doing.TakeOff i seen) e = refl

  rw_alike : rw_urgent K ws v ≡ rw_urgent M ws v
  rw_alike = by_doing v.counter.doing refl

-- ---- the cores of each kind

-- a lock with each block under it
module _ {A V : Type 0} (table : A → LockTable V) (urgency : A → List ℕ → V → Option ℕ) (lock : TheShape → ℕ → Knobs → LockTable V) (urgent : TheShape → ℕ → Knobs → List ℕ → V → Option ℕ)
    (stands : (a : A) (shape : TheShape) (home : ℕ) (knobs : Knobs) (v : V) → (table a).standing v ≡ (lock shape home knobs).standing v)
    (alike : (a : A) (shape : TheShape) (home : ℕ) (knobs : Knobs) (v : V) → LoadAlike (table a) (lock shape home knobs) v → (ws : List ℕ) → urgency a ws v ≡ urgent shape home knobs ws v) where
  plain_goes : GoAs (tables table by_locked.ghosts.table) urgency (under lock locked) (urgent_under lock urgent locked)
  plain_goes = goes_as_defined table by_locked.ghosts.table urgency lock locked urgent stands (λ w shape home site behind x. refl) alike

pub spin_goes : GoAs (tables by_spin.ghosts.table by_locked.ghosts.table) spin_guides.ghosts.urgent spin.defined urgent_on_spin
spin_goes = plain_goes by_spin.ghosts.table spin_guides.ghosts.urgent by_spin.ghosts.defined (λ shape home knobs. spin_urgent) (λ a shape home knobs v. refl) (λ a shape home knobs v same ws. refl)

pub dmcs_goes : GoAs (tables by_dmcs.ghosts.table by_locked.ghosts.table) dmcs_guides.ghosts.urgent dmcs.defined urgent_on_dmcs
dmcs_goes =
    plain_goes by_dmcs.ghosts.table dmcs_guides.ghosts.urgent by_dmcs.ghosts.defined (λ shape home knobs. dmcs_urgent (length shape.node_of)) (λ a shape home knobs v. refl)
    (λ a shape home knobs v same ws. dmcs_alike a.home home a.node_of.items shape.node_of v same ws)

-- a core's cohorts go on as any
cohorts_alike : (a : _) (shape : TheShape) (home : ℕ) (knobs : Knobs) (v : AlockView) → LoadAlike (by_alock.ghosts.table a) (cohort_lock shape home knobs) v → (ws : List ℕ) →
    alock_guides.ghosts.urgent a ws v ≡ cohort_urgent shape home knobs ws v
cohorts_alike a shape home knobs v same ws = alock_alike (cohorts_of a.home a.node_of.items a.local a.remote) (cohorts shape home knobs) v same ws

pub alock_goes : GoAs (tables by_alock.ghosts.table by_locked.ghosts.table) alock_guides.ghosts.urgent alock.defined urgent_on_alock
alock_goes = plain_goes by_alock.ghosts.table alock_guides.ghosts.urgent cohort_lock cohort_urgent (λ a shape home knobs v. refl) cohorts_alike

pub mcs_goes : GoAs (tables by_mcs.ghosts.table by_locked.ghosts.table) mcs_guides.ghosts.urgent mcs.defined urgent_on_mcs
mcs_goes =
    plain_goes by_mcs.ghosts.table mcs_guides.ghosts.urgent by_mcs.ghosts.defined (λ shape home knobs. mcs_urgent (mcs_tree home shape)) (λ a shape home knobs v. refl)
    (λ a shape home knobs v same ws. mcs_alike a.tree.rooted (mcs_tree home shape) v same ws)

pub rw_goes : GoAs (tables by_rw.ghosts.table by_locked.ghosts.table) rw_guides.ghosts.urgent rw.defined urgent_on_rw
rw_goes =
    plain_goes by_rw.ghosts.table rw_guides.ghosts.urgent by_rw.ghosts.defined (λ shape home knobs. rw_urgent (shared_in home shape knobs)) (λ a shape home knobs v. refl)
    (λ a shape home knobs v same ws. rw_alike (shared_of a.tree.rooted a.counters.readers a.group) (shared_in home shape knobs) v same ws)

-- ALock with another way of working
pub seq_goes : GoAs (tables by_alock.ghosts.table by_seq.ghosts.table) alock_guides.ghosts.urgent seq.defined urgent_on_seq
seq_goes =
    goes_as_defined by_alock.ghosts.table by_seq.ghosts.table alock_guides.ghosts.urgent cohort_lock optimistic cohort_urgent (λ a shape home knobs v. refl) (λ w shape home site behind x. refl) cohorts_alike

pub combine_goes : GoAs (tables by_alock.ghosts.table by_combine.ghosts.table) alock_guides.ghosts.urgent combine.defined urgent_on_combine
combine_goes =
    goes_as_defined by_alock.ghosts.table by_combine.ghosts.table alock_guides.ghosts.urgent cohort_lock combining cohort_urgent (λ a shape home knobs v. refl) (λ w shape home site behind x. refl) cohorts_alike
