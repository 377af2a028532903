-- A writer in the tree that isn't stuck goes on.
use Rattle.std.specs.Prelude.{◌≡◌, ◌≢◌, ℕ, ◌+◌, ◌*◌, ◌<◌, ◌≤◌, ◌==◌, Bool, true, false, if◌then◌else◌, slice_get, slice_index, slice_set, Some, None, refl}
use Rattle.std.proofs.Common.{sym, ◌∙◌, ap, ⊎_elim, arith}
use Rattle.std.proofs.lemmas.Bool.{cases_lt}
use Rattle.std.proofs.lemmas.Bool.Decides.{eqb_tells}
use Rattle.std.proofs.lemmas.List.{set-get_or}
use Rattle.rl_word.specs.declared.acts.Act.{Act}
use Rattle.rl_word.specs.declared.acts.Act.TheVariants.{Load, CardCas}
use Rattle.rl_word.specs.Acts.{word_of, written, told}
use Rattle.rl_step.specs.declared.events.Event.TheVariants as event
use Rattle.rl_step.specs.Lock.{LockState, Told}
use Rattle.rl_queue.specs.declared.view.Phase.{Phase}
use Rattle.rl_queue.specs.declared.view.Phase.TheVariants.{Idle, Clear, Reset, Swing, Link, Wait, Settle, Granted, Look, Close, Await, Hand, Above}
use Rattle.rl_queue.specs.laws.Choices.{same_test}
use Rattle.rl_queue.specs.Queue.{QueueTurn, queue_next_word, status_word, plan_at, turn_at, moves_to, moves_with, joined_at}
use Rattle.rl_queue.specs.laws.Stuck.{GetsOn}
use Rattle.rl_queue.specs.Urgency.{loaded}
use Rattle.rl_queue.specs.laws.TurnsFall.{turn_falls}
use Rattle.rl_tree.specs.declared.view.TreeView.{TreeView}
use Rattle.rl_tree.specs.Tree.{is_none, path, works_for, at_level, hook_by, at_hook, tree_plan, walk_turn}
use Rattle.rl_tree.specs.laws.Cases.{plan_by}
use Rattle.rl_tree.specs.Elements.{names_in, tree_of}
use Rattle.rl_tree.specs.TreeFacts.{TreeFacts}
use Rattle.rl_tree.specs.TreeShape.{IsWellShaped}
use Rattle.rl_tree.specs.laws.TreePaths.{el_top}
use Rattle.rl_tree.specs.laws.RanksInTree.{stands_of}
use Rattle.rl_counter.specs.declared.view.Doing.TheVariants.{Nothing}
use Rattle.rl_rw.specs.declared.view.RwView.{RwView}
use Rattle.rl_rw.specs.Rw.{Shared, groups, behind_tree, rw_view, from_tree, rw_learn}
use Rattle.rl_rw.specs.RwGood.{trees, RwGood}
use Rattle.rl_rw.specs.laws.RwWords.{IsSound, tree_word_apart}
use Rattle.rl_rw.specs.laws.RwKeeps.{as_tree, all_trees, acts_in}
use Rattle.rl_rw.specs.RwLeft.{far_by, far_in, rw_far, fulls, rw_near}
use Rattle.rl_rw.specs.RwUrgency.{where_some, tree_urgency}
use Rattle.rl_rw.specs.laws.RwFar.{cap, walk_cap, far_falls, hook_cap}
use Rattle.rl_rw.specs.laws.RwNear.{other_full, fulls_same}
use Rattle.rl_rw.specs.laws.RwGoes.{Goes, by_far, by_still}

-- a rank that doesn't wait found something
goes_if : (b : Bool) → where_some 1 (if b then None else Some 0) ≡ Some 1 → b ≡ false
goes_if true e = cc
goes_if false e = refl

urgent_if : (k : ℕ) → where_some 1 (if k == 0 then None else Some 0) ≡ Some 1 → k ≢ 0
urgent_if k e z = let no : true ≡ false = sym (ap (λ y. y == 0) z) ∙ goes_if (k == 0) e in cc

module _ (K : Shared) (n : ℕ) (F : TreeFacts K.rooted n) (d : IsSound K) (S : IsWellShaped K.rooted n) where
  abbrev Going : LockState RwView → ℕ → Type 0
  Going s r = Goes K n F d S s r

  abbrev Q : TreeView → ℕ
  Q u = path (tree_of K.rooted) u.leaf u.level

  abbrev M : TreeView → ℕ
  M u = works_for (tree_of K.rooted) u u.level

  -- a view's level is one of its path, and below the root there is something above
  record Placed (u : TreeView) : Type 0 where
    within : u.level ≤ n
    low : is_none ((tree_of K.rooted).parent (path (tree_of K.rooted) u.leaf u.level)) ≡ false → u.level < n

  placed : (s : LockState RwView) (r : ℕ) (v : RwView) → RwGood K n s → slice_get s.views r ≡ Some v → Placed v.tree
  placed s r v g has =
      let t : TreeView = v.tree in
      let here : slice_get (trees s.views) r ≡ Some v.tree = as_tree K n F d s r v has in
      let w : t.level ≤ n = (g.tree.tree.by.shaped r t here).within in
      record {
        within = w;
        low = λ e. ⊎_elim (λ lt. lt)
            (λ ge.
            let top : t.level ≡ n = omega arith in
            let none : is_none ((tree_of K.rooted).parent (path (tree_of K.rooted) t.leaf t.level)) ≡ true =
            ap (λ z. is_none ((tree_of K.rooted).parent (path (tree_of K.rooted) t.leaf z))) top
            ∙ ap is_none (el_top (stands_of S g.tree.tree (all_trees K n F d s g) r t here).on) in
            let bad : true ≡ false = sym none ∙ e in cc) (cases_lt t.level n);
      }

  -- no act of the tree is on a depart word
  tree_full : (s : LockState RwView) (r : ℕ) (t : TreeView) (c : ℕ) (a : Act) (x : ℕ) → RwGood K n s →
      slice_get s.views r ≡ Some (rw_view t c Nothing) → tree_plan (tree_of K.rooted) t ≡ Some a →
      fulls K (slice_set s.words (word_of a) x) (groups K) ≡ fulls K s.words (groups K)
  tree_full s r t c a x g has pl =
      let low : word_of a < behind_tree K = (F.lawful g.inside s.words (trees s.views) s.trace r t a (acts_in K n F d s r t c a g has pl)).0.there in
      fulls_same K s.words (slice_set s.words (word_of a) x) (groups K)
      (λ h lh. other_full K s.words (word_of a) x h (tree_word_apart K h (word_of a) lh low).1)

  -- an act that brings its rank nearer
  by_act : (s : LockState RwView) (r : ℕ) (t : TreeView) (c : ℕ) (a : Act) → RwGood K n s →
      slice_get s.views r ≡ Some (rw_view t c Nothing) → tree_plan (tree_of K.rooted) t ≡ Some a →
      rw_far K n (rw_learn K (rw_view t c Nothing) false (told a (slice_index s.words (word_of a)))).view < far_in n (groups K) t → Going s r
  by_act s r t c a g has pl lt =
      let full = tree_full s r t c a (written a (slice_index s.words (word_of a))) g has pl in
      by_far K n F d S s r (rw_view t c Nothing) a has pl (omega arith)

  -- an act that gets the rank's member on, with the walk that follows
  turn_far : (u : TreeView) (c : ℕ) (p : Phase) (got : ℕ) → Placed u → GetsOn p got →
      rw_far K n (rw_learn K (rw_view (at_level u u.level p) c Nothing) false got).view < far_by n (2 * groups K) false u.level p
  turn_far u c p got at gets =
      let tu : QueueTurn = turn_at (names_in K.rooted (Q u)) (M u) p got in
      let w : Told TreeView = walk_turn (tree_of K.rooted) (at_level u u.level p) u.level (turn_at (names_in K.rooted (Q u)) (M u) p got) in
      let a : far_in n (groups K) w.view ≤ cap n (groups K) u.level tu.phase =
      walk_cap n (groups K) (tree_of K.rooted) (at_level u u.level p) u.level tu.phase tu.events tu.waits at.within at.low in
      let b : rw_far K n (from_tree (rw_view (at_level u u.level p) c Nothing) (at_hook w.view) w).view ≤ far_in n (groups K) w.view =
      hook_cap K n (rw_view (at_level u u.level p) c Nothing) w (at_hook w.view) refl in
      let e : cap n (groups K) u.level tu.phase < far_by n (2 * groups K) false u.level p =
      turn_falls (far_by n (2 * groups K) false u.level) (cap n (groups K) u.level) (far_falls n (groups K) u.level at.within)
      (names_in K.rooted (Q u)) (M u) p got gets in
      omega arith

  -- a swing that is lost learns the tail
  by_loss : (s : LockState RwView) (r : ℕ) (u : TreeView) (c x : ℕ) →
      slice_get s.views r ≡ Some (rw_view (at_level u u.level (Swing x)) c Nothing) → (slice_index s.words (Q u) == x) ≡ false → Going s r
  by_loss s r u c x has test =
      let t : ℕ = slice_index s.words (Q u) in
      let v : RwView = rw_view (at_level u u.level (Swing x)) c Nothing in
      let words : slice_set s.words (Q u) (if slice_index s.words (Q u) == x then M u + 1 else slice_index s.words (Q u)) ≡ s.words =
      ap (λ b. slice_set s.words (Q u) (if b then M u + 1 else slice_index s.words (Q u))) test ∙ set-get_or s.words (Q u) 0 in
      let turn : turn_at (names_in K.rooted (Q u)) (M u) (Swing x) (slice_index s.words (Q u)) ≡ moves_to (Swing (slice_index s.words (Q u))) =
      ap (λ b. if b then moves_with (joined_at x) (event.Join (Q u) (M u)) else moves_to (Swing (slice_index s.words (Q u)))) test in
      let view : (rw_learn K v false (slice_index s.words (Q u))).view ≡ rw_view (at_level u u.level (Swing (slice_index s.words (Q u)))) c Nothing =
      ap (λ z. (from_tree v (at_hook (walk_turn (tree_of K.rooted) (at_level u u.level (Swing x)) u.level z).view)
      (walk_turn (tree_of K.rooted) (at_level u u.level (Swing x)) u.level z)).view) turn in
      let old : rw_near K s.words v ≡ 1 = ap (λ b. if b then 0 else 1) test in
      let new : rw_near K s.words (rw_view (at_level u u.level (Swing (slice_index s.words (Q u)))) c Nothing) ≡ 0 =
      ap (λ b. if b then 0 else 1) (same_test (slice_index s.words (Q u))) in
      by_still K n F d S s r v (rw_view (at_level u u.level (Swing (slice_index s.words (Q u)))) c Nothing)
      (CardCas (Q u) x (M u + 1)) has refl words view refl (omega (arith, old, new))

  -- a rank at its queue in a phase
  phase_goes : (s : LockState RwView) (r : ℕ) (u : TreeView) (c : ℕ) (p : Phase) → RwGood K n s → Placed u →
      slice_get s.views r ≡ Some (rw_view (at_level u u.level p) c Nothing) → hook_by false p ≡ false →
      tree_urgency false p (loaded s.words (plan_at (names_in K.rooted (Q u)) (M u) p)) ≡ Some 1 → Going s r
  phase_goes s r u c Idle g at has hook urgent = cc
  phase_goes s r u c Clear g at has hook urgent = by_act s r (at_level u u.level Clear) c _ g has refl (turn_far u c Clear 0 at tt)
  phase_goes s r u c Reset g at has hook urgent = by_act s r (at_level u u.level Reset) c _ g has refl (turn_far u c Reset 0 at tt)
  phase_goes s r u c (Swing x) g at has hook urgent =
      ⊎_elim
      (λ q. by_act s r (at_level u u.level (Swing x)) c (CardCas (Q u) x (M u + 1)) g has refl (turn_far u c (Swing x) (slice_index s.words (Q u)) at q.1))
      (λ q. by_loss s r u c x has q.0)
      (eqb_tells (slice_index s.words (Q u)) x)
  phase_goes s r u c (Link x) g at has hook urgent = by_act s r (at_level u u.level (Link x)) c _ g has refl (turn_far u c (Link x) 0 at tt)
  phase_goes s r u c Wait g at has hook urgent =
      by_act s r (at_level u u.level Wait) c (Load (status_word (names_in K.rooted (Q u)) (M u))) g has refl
      (turn_far u c Wait (slice_index s.words (status_word (names_in K.rooted (Q u)) (M u))) at
      (urgent_if (slice_index s.words (status_word (names_in K.rooted (Q u)) (M u))) urgent))
  phase_goes s r u c Settle g at has hook urgent = cc
  phase_goes s r u c (Granted left) g at has hook urgent = cc
  phase_goes s r u c (Look left up) g at has hook urgent =
      by_act s r (at_level u u.level (Look left up)) c _ g has refl
      (turn_far u c (Look left up) (slice_index s.words (queue_next_word (names_in K.rooted (Q u)) (M u))) at tt)
  phase_goes s r u c (Close left) g at has hook urgent =
      by_act s r (at_level u u.level (Close left)) c (CardCas (Q u) (M u + 1) 0) g has refl (turn_far u c (Close left) (slice_index s.words (Q u)) at tt)
  phase_goes s r u c (Await left) g at has hook urgent =
      by_act s r (at_level u u.level (Await left)) c (Load (queue_next_word (names_in K.rooted (Q u)) (M u))) g has refl
      (turn_far u c (Await left) (slice_index s.words (queue_next_word (names_in K.rooted (Q u)) (M u))) at
      (urgent_if (slice_index s.words (queue_next_word (names_in K.rooted (Q u)) (M u))) urgent))
  phase_goes s r u c (Hand x left) g at has hook urgent = by_act s r (at_level u u.level (Hand x left)) c _ g has refl (turn_far u c (Hand x left) 0 at tt)
  phase_goes s r u c (Above x) g at has hook urgent = cc

  -- a rank that loads a status
  query_view : (t : TreeView) → t.query ≡ true → t ≡ record { rank = t.rank; leaf = t.leaf; level = t.level; phase = t.phase; query = true; behind = t.behind }
  query_view t e = ap (λ b. record { rank = t.rank; leaf = t.leaf; level = t.level; phase = t.phase; query = b; behind = t.behind }) e

  query_goes : (s : LockState RwView) (r : ℕ) (t : TreeView) (c : ℕ) → RwGood K n s → slice_get s.views r ≡ Some (rw_view t c Nothing) →
      t.query ≡ true → Going s r
  query_goes s r t c g has e =
      let u : TreeView = record { rank = t.rank; leaf = t.leaf; level = t.level; phase = t.phase; query = true; behind = t.behind } in
      by_act s r u c (Load (status_word (names_in K.rooted (Q t)) (M t))) g (has ∙ ap (λ z. Some (rw_view z c Nothing)) (query_view t e)) refl (omega arith)

  level_view : (t : TreeView) → t.query ≡ false → t ≡ at_level t t.level t.phase
  level_view t e = ap (λ b. record { rank = t.rank; leaf = t.leaf; level = t.level; phase = t.phase; query = b; behind = t.behind }) e

  -- EACH WRITER IN THE TREE that isn't stuck, and doesn't hold the lock
  pub climbs_go : (s : LockState RwView) (r : ℕ) (t : TreeView) (c : ℕ) → RwGood K n s → slice_get s.views r ≡ Some (rw_view t c Nothing) →
      tree_urgency t.query t.phase (loaded s.words (tree_plan (tree_of K.rooted) t)) ≡ Some 1 → Going s r
  climbs_go s r t c g has urgent = by t.query refl urgent where
    by : (b : Bool) → t.query ≡ b → tree_urgency b t.phase (loaded s.words (plan_by (tree_of K.rooted) t b)) ≡ Some 1 → Going s r
    by true e h = query_goes s r t c g has e
    by false e h =
        let away : hook_by false t.phase ≡ false = sym (ap (λ b. hook_by b t.phase) e) ∙ g.place r (rw_view t c Nothing) has in
        phase_goes s r t c t.phase g (placed s r (rw_view t c Nothing) g has) (has ∙ ap (λ z. Some (rw_view z c Nothing)) (level_view t e)) away h
