-- RMA-MCS has no dead end.
use Rattle.std.specs.Prelude.{◌≡◌, ◌⊎◌, ℕ, ◌+◌, ◌*◌, ◌<◌, ◌≤◌, ◌==◌, Bool, true, false, List, if◌then◌else◌, slice_get, slice_index, slice_set, Some, refl}
use Rattle.std.proofs.Common.{sym, ◌∙◌, ap, subst, inl, inr, ⊎_elim, arith}
use Rattle.std.proofs.lemmas.List.{set-get_or}
use Rattle.std.proofs.lemmas.Bool.{cases_lt}
use Rattle.std.proofs.lemmas.Bool.Decides.{eqb_tells}
use Rattle.rl_word.specs.Acts.{word_of, written, told}
use Rattle.rl_word.specs.declared.acts.Act.{Act}
use Rattle.rl_word.specs.declared.acts.Act.TheVariants.{Load, CardCas}
use Rattle.rl_step.specs.declared.events.Event.TheVariants as event
use Rattle.rl_step.specs.Lock.{LockTable, LockState, AllOut, IsHolder, Told}
use Rattle.rl_queue.specs.declared.view.Phase.{Phase}
use Rattle.rl_queue.specs.declared.view.Phase.TheVariants.{Idle, Clear, Reset, Swing, Link, Wait, Settle, Granted, Look, Close, Await, Hand, Above}
use Rattle.rl_queue.specs.Lane.{Busy}
use Rattle.rl_queue.specs.Queue.{QueueTurn, queue_next_word, status_word, turn_at, moves_to, moves_with, joined_at, leave_at}
use Rattle.rl_tree.specs.declared.view.TreeView.{TreeView}
use Rattle.rl_tree.specs.declared.rooted.Rooted.{Rooted}
use Rattle.rl_tree.specs.Tree.{is_none, path, works_for, at_level, hook_by, at_hook, tree_plan, walk_turn, tree_standing}
use Rattle.rl_tree.specs.laws.Cases.{standing_by}
use Rattle.rl_tree.specs.Elements.{ranks_in, names_in, tree_of}
use Rattle.rl_tree.specs.TreeShape.{IsWellShaped}
use Rattle.rl_tree.specs.laws.TreePaths.{el_top}
use Rattle.rl_tree.specs.laws.RanksInTree.{stands_of}
use Rattle.rl_mcs.specs.Mcs.{mcs_table, mcs_learn, past_hook, McsGood}
use Rattle.rl_ending.specs.Ending.{LockEnds, CanGoOn}
use Rattle.rl_ending.specs.laws.EndingLaws.{all_out_or_not, goes_on_by}
use Rattle.rl_queue.specs.laws.Stuck.{GetsOn}
use Rattle.rl_queue.specs.laws.TurnsFall.{turn_falls}
use Rattle.rl_queue.specs.laws.Choices.{same_test}
use Rattle.rl_ending.specs.laws.SumLaws.{nearer, less_change, grows}
use Rattle.rl_tree.specs.laws.RankGoes.{IsFree, GoesIn, RankGoes}
use Rattle.rl_tree.specs.laws.TreeGoes.{tree_goes}
use Rattle.rl_mcs.specs.McsLeft.{far_by, far_of, near_by, near_of, mcs_left}
use Rattle.rl_mcs.specs.laws.McsFar.{cap, walk_cap, hook_cap, far_falls, near_few}

module _ (K : Rooted) (n : ℕ) (S : IsWellShaped K n) where
  abbrev pub T : LockTable TreeView
  T = mcs_table K

  abbrev pub Q : TreeView → ℕ
  Q u = path (tree_of K) u.leaf u.level

  abbrev pub M : TreeView → ℕ
  M u = works_for (tree_of K) u u.level

  -- a view's level is one of its path, and below the root there is something above
  pub record Placed (u : TreeView) : Type 0 where
    pub within : u.level ≤ n
    pub low : is_none ((tree_of K).parent (path (tree_of K) u.leaf u.level)) ≡ false → u.level < n

  pub placed : (s : LockState TreeView) (r : ℕ) (v : TreeView) → McsGood K n s → slice_get s.views r ≡ Some v → Placed v
  placed s r v g has =
      let w : v.level ≤ n = (g.tree.tree.by.shaped r v has).within in
      record {
        within = w;
        low = λ e. ⊎_elim (λ lt. lt)
            (λ ge.
            let top : v.level ≡ n = omega arith in
            let none : is_none ((tree_of K).parent (path (tree_of K) v.leaf v.level)) ≡ true =
            ap (λ z. is_none ((tree_of K).parent (path (tree_of K) v.leaf z))) top
            ∙ ap is_none (el_top (stands_of S g.tree.tree g.all_views r v has).on) in
            let bad : true ≡ false = sym none ∙ e in cc) (cases_lt v.level n);
      }

  -- an act that brings its rank nearer
  by_act : (s : LockState TreeView) (m : ℕ) (v : TreeView) (a : Act) → slice_get s.views m ≡ Some v → tree_plan (tree_of K) v ≡ Some a →
      far_of n (mcs_learn K v (told a (slice_index s.words (word_of a)))).view < far_of n v → CanGoOn T (mcs_left K n) s m
  by_act s m v a has pl lt =
      let ws : List ℕ = slice_set s.words (word_of a) (written a (slice_index s.words (word_of a))) in
      goes_on_by v a has pl
      (nearer 1 (far_of n) (near_of K s.words) (near_of K ws)
      (λ x. near_few x.query (slice_index ws (path (tree_of K) x.leaf x.level)) x.phase) s.views m v
      (mcs_learn K v (told a (slice_index s.words (word_of a)))).view has lt)

  -- an act that gets the rank's member on, with the walk that follows
  turn_far : (u : TreeView) (p : Phase) (got : ℕ) → Placed u → GetsOn p got → far_of n (mcs_learn K (at_level u u.level p) got).view < far_by n false u.level p
  turn_far u p got at gets =
      let tu : QueueTurn = turn_at (names_in K (Q u)) (M u) p got in
      let w : Told TreeView = walk_turn (tree_of K) (at_level u u.level p) u.level (turn_at (names_in K (Q u)) (M u) p got) in
      let a : far_of n w.view ≤ cap n u.level tu.phase = walk_cap n (tree_of K) (at_level u u.level p) u.level tu.phase tu.events tu.waits at.within at.low in
      let b : far_of n (past_hook (tree_of K) (at_hook w.view) w).view ≤ far_of n w.view = hook_cap n (tree_of K) w (at_hook w.view) refl in
      let c : cap n u.level tu.phase < far_by n false u.level p =
      turn_falls (far_by n false u.level) (cap n u.level) (far_falls n u.level at.within) (names_in K (Q u)) (M u) p got gets in
      omega arith

  -- a swing that is lost learns the tail
  by_loss : (s : LockState TreeView) (m g : ℕ) (u : TreeView) → slice_get s.views m ≡ Some (at_level u u.level (Swing g)) →
      (slice_index s.words (Q u) == g) ≡ false → CanGoOn T (mcs_left K n) s m
  by_loss s m g u has test =
      let t : ℕ = slice_index s.words (Q u) in
      let words : slice_set s.words (Q u) (if slice_index s.words (Q u) == g then M u + 1 else slice_index s.words (Q u)) ≡ s.words =
      ap (λ b. slice_set s.words (Q u) (if b then M u + 1 else slice_index s.words (Q u))) test ∙ set-get_or s.words (Q u) 0 in
      let turn : turn_at (names_in K (Q u)) (M u) (Swing g) (slice_index s.words (Q u)) ≡ moves_to (Swing (slice_index s.words (Q u))) =
      ap (λ b. if b then moves_with (joined_at g) (event.Join (Q u) (M u)) else moves_to (Swing (slice_index s.words (Q u)))) test in
      let view : (mcs_learn K (at_level u u.level (Swing g)) (slice_index s.words (Q u))).view ≡ at_level u u.level (Swing (slice_index s.words (Q u))) =
      ap (λ z. (past_hook (tree_of K) (at_hook (walk_turn (tree_of K) (at_level u u.level (Swing g)) u.level z).view)
      (walk_turn (tree_of K) (at_level u u.level (Swing g)) u.level z)).view) turn in
      let old : near_of K s.words (at_level u u.level (Swing g)) ≡ 1 = ap (λ b. if b then 0 else 1) test in
      let new : near_of K s.words (at_level u u.level (Swing (slice_index s.words (Q u)))) ≡ 0 =
      ap (λ b. if b then 0 else 1) (same_test (slice_index s.words (Q u))) in
      goes_on_by (at_level u u.level (Swing g)) (CardCas (Q u) g (M u + 1)) has refl
      (subst (λ ws. mcs_left K n ws (slice_set s.views m
      (mcs_learn K (at_level u u.level (Swing g)) (slice_index s.words (Q u))).view) < mcs_left K n s.words s.views) (sym words)
      (subst (λ z. mcs_left K n s.words (slice_set s.views m z) < mcs_left K n s.words s.views) (sym view)
      (less_change 1 (far_of n) (near_of K s.words) s.views m (at_level u u.level (Swing g))
      (at_level u u.level (Swing (slice_index s.words (Q u)))) has refl (omega (arith, old, new)))))

  -- a rank at its queue in a phase
  pub phase_goes : (s : LockState TreeView) (m : ℕ) (u : TreeView) (p : Phase) → Placed u →
      slice_get s.views m ≡ Some (at_level u u.level p) → Busy p → IsFree K s.words (Q u) (M u) p → hook_by false p ≡ false →
      CanGoOn T (mcs_left K n) s m
  phase_goes s m u Idle at has busy free hook = absurd busy
  phase_goes s m u Clear at has busy free hook = by_act s m (at_level u u.level Clear) _ has refl (turn_far u Clear 0 at tt)
  phase_goes s m u Reset at has busy free hook = by_act s m (at_level u u.level Reset) _ has refl (turn_far u Reset 0 at tt)
  phase_goes s m u (Swing g) at has busy free hook =
      ⊎_elim
      (λ q. by_act s m (at_level u u.level (Swing g)) (CardCas (Q u) g (M u + 1)) has refl (turn_far u (Swing g) (slice_index s.words (Q u)) at q.1))
      (λ q. by_loss s m g u has q.0)
      (eqb_tells (slice_index s.words (Q u)) g)
  phase_goes s m u (Link g) at has busy free hook = by_act s m (at_level u u.level (Link g)) _ has refl (turn_far u (Link g) 0 at tt)
  phase_goes s m u Wait at has busy free hook = by_act s m (at_level u u.level Wait) _ has refl
      (turn_far u Wait (slice_index s.words (status_word (names_in K (Q u)) (M u))) at free)
  phase_goes s m u Settle at has busy free hook = cc
  phase_goes s m u (Granted left) at has busy free hook = record { view = at_level u u.level (Granted left); has = has; way = inl tt }
  phase_goes s m u (Look left up) at has busy free hook =
      by_act s m (at_level u u.level (Look left up)) _ has refl
      (turn_far u (Look left up) (slice_index s.words (queue_next_word (names_in K (Q u)) (M u))) at tt)
  phase_goes s m u (Close left) at has busy free hook =
      by_act s m (at_level u u.level (Close left)) (CardCas (Q u) (M u + 1) 0) has refl (turn_far u (Close left) (slice_index s.words (Q u)) at tt)
  phase_goes s m u (Await left) at has busy free hook =
      by_act s m (at_level u u.level (Await left)) _ has refl (turn_far u (Await left) (slice_index s.words (queue_next_word (names_in K (Q u)) (M u))) at free)
  phase_goes s m u (Hand succ left) at has busy free hook = by_act s m (at_level u u.level (Hand succ left)) _ has refl (turn_far u (Hand succ left) 0 at tt)
  phase_goes s m u (Above succ) at has busy free hook = cc

  -- a rank that loads a status
  query_view : (v : TreeView) → v.query ≡ true → v ≡ record { rank = v.rank; leaf = v.leaf; level = v.level; phase = v.phase; query = true; behind = v.behind }
  query_view v e = ap (λ b. record { rank = v.rank; leaf = v.leaf; level = v.level; phase = v.phase; query = b; behind = v.behind }) e

  pub query_goes : (s : LockState TreeView) (m : ℕ) (v : TreeView) → slice_get s.views m ≡ Some v → v.query ≡ true → CanGoOn T (mcs_left K n) s m
  query_goes s m v has e =
      let u : TreeView = record { rank = v.rank; leaf = v.leaf; level = v.level; phase = v.phase; query = true; behind = v.behind } in
      by_act s m u (Load (status_word (names_in K (Q v)) (M v))) (has ∙ ap Some (query_view v e)) refl (omega arith)

  pub level_view : (v : TreeView) → v.query ≡ false → v ≡ at_level v v.level v.phase
  level_view v e = ap (λ b. record { rank = v.rank; leaf = v.leaf; level = v.level; phase = v.phase; query = b; behind = v.behind }) e

  rank_goes : (s : LockState TreeView) (k : ℕ) → McsGood K n s → RankGoes K s.words s.views k → CanGoOn T (mcs_left K n) s k
  rank_goes s k g go = by go.view.query refl where
    by : (b : Bool) → go.view.query ≡ b → CanGoOn T (mcs_left K n) s k
    by true e = query_goes s k go.view go.has e
    by false e =
        let v : TreeView = go.view in
        let at : GoesIn K s.words false (Q v) (M v) v.phase = subst (λ b. GoesIn K s.words b (Q v) (M v) v.phase) e go.goes in
        let away : hook_by false v.phase ≡ false = sym (ap (λ b. hook_by b v.phase) e) ∙ g.unhooked k v go.has in
        phase_goes s k v v.phase (placed s k v g go.has) (go.has ∙ ap Some (level_view v e)) at.0 at.1 away

  somebody_goes : (s : LockState TreeView) → McsGood K n s → AllOut T s ⊎ ((r : ℕ) × CanGoOn T (mcs_left K n) s r)
  somebody_goes s g =
      ⊎_elim inl
      (λ b. let k = tree_goes K n S s.words s.views s.trace g.tree.tree g.all_views b.0 b.1.view b.1.has b.1.busy in inr (k.0, rank_goes s k.0 g k.1))
      (all_out_or_not tree_standing s.views)

  leaves_far : (p : Phase) → far_by n false 0 (leave_at p true) ≤ 7 * n + 6
  leaves_far (Granted left) = omega arith
  leaves_far Idle = omega arith
  leaves_far Clear = omega arith
  leaves_far Reset = omega arith
  leaves_far (Swing g) = omega arith
  leaves_far (Link g) = omega arith
  leaves_far Wait = omega arith
  leaves_far Settle = omega arith
  leaves_far (Look left u) = omega arith
  leaves_far (Close left) = omega arith
  leaves_far (Await left) = omega arith
  leaves_far (Hand k left) = omega arith
  leaves_far (Above k) = omega arith

  leaves_near : (q : Bool) (t : ℕ) (p : Phase) → IsHolder (standing_by q p) → near_by false t (leave_at p true) ≤ 0
  leaves_near true t p h = absurd h
  leaves_near false t (Granted left) h = omega arith
  leaves_near false t _ h = absurd h

  pub mcs_ends : LockEnds T (mcs_left K n) (McsGood K n) ((7 * n + 6) * (1 + 1 * ranks_in K))
  mcs_ends =
      record {
        somebody = λ s g. somebody_goes s g;
        ask_adds = λ s r v m g has out. grows 1 (far_of n) (near_of K s.words) s.views (ranks_in K) r (7 * n + 6) v
            (at_level v 0 Clear) g.all_views has (omega arith) (omega arith);
        leave_adds = λ s r v g has holds.
            grows 1 (far_of n) (near_of K s.words) s.views (ranks_in K) r (7 * n + 6) v
            (at_level v 0 (leave_at v.phase true)) g.all_views has (leaves_far v.phase)
            (leaves_near v.query (slice_index s.words (path (tree_of K) v.leaf 0)) v.phase holds);
      }
