-- What a rank does outside the queue's acts: it loads its element's status and begins to leave above, asks, begins to leave its node's
-- queue; and what happens beside all queues.
use Rattle.std.specs.Prelude.{◌≡◌, ◌≢◌, ℕ, zero, suc, ◌+◌, ◌<◌, ◌≤◌, ◌==◌, ◌&&◌, Bool, true, false, List, [], ◌∷◌, ◌++◌, nat_lt, if◌then◌else◌, slice_index, slice_set, Some, refl, is_some}
use Rattle.std.proofs.Common.{sym, ◌∙◌, ap, subst, inl, inr, arith}
use Rattle.rl_step.specs.declared.events.Event.{Event}
use Rattle.rl_step.specs.declared.events.Event.TheVariants as event
use Rattle.rl_step.specs.Queues.{tenures, ends, count}
use Rattle.rl_step.specs.laws.QueueLemmas.{tenures-append}
use Rattle.rl_queue.specs.laws.Choices.{same_test, other_test}
use Rattle.rl_queue.specs.declared.view.Phase.{Phase}
use Rattle.rl_queue.specs.declared.view.Phase.TheVariants.{Idle, Clear, Granted, Look, Above}
use Rattle.rl_queue.specs.Queue.{status_word}
use Rattle.rl_queue.specs.Lane.{told_left}
use Rattle.rl_queue.specs.QueuesApart.{Apart}
use Rattle.rl_queue.specs.QueueGood.{QueueGood, Moves}
use Rattle.rl_queue.specs.laws.QueueMoves.{leave_keeps, leave_keeps_quietly, beside_keeps}
use Rattle.rl_queue.specs.laws.QueueFits.{holder_told}
use Rattle.rl_queue.specs.laws.QueueHeads.{head_first}
use Rattle.rl_tree.specs.declared.view.TreeView.{TreeView}
use Rattle.rl_tree.specs.Tree.{behind_at, at_level}
use Rattle.rl_tree.specs.declared.rooted.Rooted.{Rooted}
use Rattle.rl_tree.specs.Elements.{how_many, ranks_in, leaf_of_rank, is_node, is_in, names_in, tree_of, queue_at}
use Rattle.rl_step.specs.LockQueues.{is_at}
use Rattle.rl_tree.specs.TreeGood.{way_of, below_by, Releasing, gate_of, granted_in, Matches, Spent, Tells, IsGrantedAt, InQueue, IsGoodBy}
use Rattle.rl_tree.specs.laws.TreePaths.{put, put_here, put_away, put_moves, head_by, is_child, el, me, el_there, el_in, el_up, el_apart, leaf_node}
use Rattle.rl_tree.specs.laws.RanksInTree.{StandsInTree, queue_of, member_of, head_before, shape_of, level_low, queue_there, phase_of}
use Rattle.rl_tree.specs.laws.TreeClimb.{else_zero}
use Rattle.rl_tree.specs.laws.TreePuts.{spent_clear, spent_put, head_put, kept_put, good_put, join_put, gated_at, tenured_put, no_count, one_count, tenured_ends}
use Rattle.rl_tree.specs.laws.TreeParts.{all_others, others_put, first_of, assembles}

-- who has its queue has so many passes left
pub granted_is : (p : Phase) → IsGrantedAt p → (left : ℕ) × (p ≡ Granted left)
granted_is (Granted a) h = (a, refl)
granted_is _ h = absurd h

spent_look : (b : Bool) (left : ℕ) → Spent b (Look left b)
spent_look true left = refl
spent_look false left = refl

then_zero : (b : Bool) (c : ℕ) → b ≡ true → (if b then 0 else c) ≡ 0
then_zero true c e = refl
then_zero false c e = cc

else_one : (b : Bool) (c : ℕ) → b ≡ false → c ≡ 1 → (if b then 0 else c) ≡ 1
else_one true c e f = cc
else_one false c e f = f

and_false : (a b : Bool) → b ≡ false → (a && b) ≡ false
and_false true b e = e
and_false false b e = refl

-- an event that isn't of any queue, and ends no tenure
pub beside_tree : (K : Rooted) (levels : ℕ) (F : ℕ → ℕ → Phase) (L : ℕ → List ℕ) (e : ℕ → ℕ) (ws : List ℕ) (vs : List TreeView)
    (t : List Event) (ev : Event) → IsGoodBy K levels F L e ws vs t → ((q : ℕ) → Apart q (names_in K q).budget ev) →
    ((q : ℕ) → ends (queue_at K q) ev ≡ 0) →
    IsGoodBy K levels F L e ws vs (t ++ ev ∷ [])
beside_tree K levels F L e ws vs t ev g apart none =
    record {
      own = g.own;
      shaped = g.shaped;
      queue = λ q lq. beside_keeps (names_in K q) (InQueue K q) ws (F q) (L q) t (e q) ev (g.queue q lq) (apart q);
      below = g.below;
      here = g.here;
      gates = g.gates;
      spent = g.spent;
      tenured = λ q lq.
          let k = g.tenured q lq in
          let a = tenures-append (queue_at K q) t (ev ∷ []) in
          let z : tenures (queue_at K q) (ev ∷ []) ≡ 0 = let y : ends (queue_at K q) ev ≡ 0 = none q in omega arith in omega arith;
    }

module _ {K : Rooted} {levels : ℕ} (s : StandsInTree K levels) where
  open s use {on.{view as v}, good as g}

  abbrev Q : ℕ
  Q = queue_of s

  -- the phase of one that has read its element's status
  abbrev pub looks : Phase
  looks = Look (told_left (names_in K Q).budget (slice_index s.words (status_word (names_in K Q) (member_of s)))) (is_some (names_in K Q).budget)

  -- the tenures that have ended, with one of a queue
  abbrev pub one_more : ℕ → ℕ → ℕ
  one_more q x = g.ended x + count (x == q)

  -- THE LOAD OF A STATUS begins the leave of the rank's element above.
  pub query_keeps : v.query ≡ true →
      IsGoodBy K levels (put g.phase Q (member_of s) looks) g.line (one_more Q) s.words (slice_set s.views v.rank (at_level v v.level looks)) s.trace
  query_keeps asks = at v.level refl where
    at : (n : ℕ) → v.level ≡ n →
        IsGoodBy K levels (put g.phase Q (member_of s) looks) g.line (one_more Q) s.words (slice_set s.views v.rank (at_level v v.level looks)) s.trace
    at zero lv = let b : 0 < v.level = (shape_of s).above asks in absurd (omega arith)
    at (suc j) lv =
        let there = queue_there s in
        let low = level_low s in
        let lj : j ≤ levels = omega arith in
        let u : Bool = is_some (names_in K Q).budget in
        let was = granted_is (g.phase Q (member_of s)) (subst (λ z. Tells v z (g.phase Q (member_of s))) asks (g.by.here v.rank v s.has)) in
        let knows = holder_told (names_in K Q) (InQueue K Q) s.words (g.phase Q) (g.line Q) s.trace (g.ended Q) (member_of s) was.0 (g.by.queue Q there) was.1 in
        let mv : Moves (g.phase Q) (put g.phase Q (member_of s) looks Q) (member_of s) (Granted was.0) (Look was.0 u) =
        record {
          was = was.1;
          now = put_here g.phase Q (member_of s) looks ∙ ap (λ z. Look z u) (sym knows.1);
          others = λ x ne. put_away g.phase Q (member_of s) looks Q x (inr ne);
        } in
        let left = leave_keeps_quietly (names_in K Q) (InQueue K Q) s.words (g.phase Q) (put g.phase Q (member_of s) looks Q) (g.line Q) s.trace
        (g.ended Q) (member_of s) was.0 u (g.by.queue Q there) mv in
        let heads = head_first (names_in K Q) (InQueue K Q) s.words (g.phase Q) (put g.phase Q (member_of s) looks Q) (g.line Q) s.trace (g.ended Q) (member_of s)
        (Granted was.0) (Look was.0 u) (g.by.queue Q there) mv tt in
        let pd : (tree_of K).parent (el s.on j) ≡ Some Q = el_up s.on j (omega arith) ∙ ap (λ z. Some (el s.on z)) (sym lv) in
        let is_d : (member_of s) ≡ el s.on j = ap (me s.on) lv in
        let no_node : is_node K Q ≡ false = (is_child s.on.well.treed (el s.on j) Q (el_there s.on j lj) pd).0 in
        let apart : el s.on j ≢ Q = el_apart s.on j v.level lj low (omega arith) in
        let below_d : g.phase (el s.on j) (me s.on j) ≡ Above (behind_at v.behind j) = g.by.below v.rank v j s.has (omega arith)
        ∙ ap (λ z. below_by (way_of z v.phase) (behind_at v.behind j)) asks in
        let head_d = head_first (names_in K (el s.on j)) (InQueue K (el s.on j)) s.words (g.phase (el s.on j)) (g.phase (el s.on j))
        (g.line (el s.on j)) s.trace (g.ended (el s.on j)) (me s.on j) (Above (behind_at v.behind j)) (Above (behind_at v.behind j))
        (g.by.queue (el s.on j) (el_there s.on j lj)) (record { was = below_d; now = below_d; others = λ x ne. refl }) tt in
        let gate_d : gate_of (head_by K s.words (put g.phase Q (member_of s) looks) g.line (el s.on j)) ≡ Releasing =
        ap gate_of (head_put K s.words g.phase g.line Q (member_of s) looks (el s.on j) apart ∙ head_d.0) in
        let cell_d : put g.phase Q (member_of s) looks Q (el s.on j) ≡ looks = ap (put g.phase Q (member_of s) looks Q) (sym is_d) ∙ put_here g.phase Q (member_of s) looks in
        assembles s.on s.words (put g.phase Q (member_of s) looks) g.line (one_more Q) s.trace s.views (at_level v v.level looks) refl refl
        (record { within = low; resting = λ e. cc; above = λ e. cc; three = (shape_of s).three; hooked = λ e. cc })
        (others_put s.on s.words g.phase g.line g.ended s.trace s.views v.level looks low g.by.queue (all_others s) (first_of s))
        (good_put K s.words g.phase g.line g.ended (one_more Q) s.trace s.trace Q (member_of s) looks g.by.queue
        (subst (QueueGood (names_in K Q) (InQueue K Q) s.words (put g.phase Q (member_of s) looks Q) (g.line Q) s.trace)
        (sym (one_count (g.ended Q) (Q == Q) (same_test Q))) left)
        (λ x ne. no_count (g.ended x) (x == Q) (other_test x Q ne)) (λ x q ne. q))
        (λ k b. put_away g.phase Q (member_of s) looks (el s.on k) (me s.on k) (inl (el_apart s.on k v.level (omega arith) low (omega arith)))
        ∙ g.by.below v.rank v k s.has b ∙ ap (λ z. below_by (way_of z v.phase) (behind_at v.behind k)) asks)
        (put_here g.phase Q (member_of s) looks)
        (gated_at K s.words (put g.phase Q (member_of s) looks) g.line (el s.on j) Q pd
        (subst (λ z. Matches z (put g.phase Q (member_of s) looks Q (el s.on j))) (sym gate_d) (subst (Matches Releasing) (sym cell_d) tt))
        (λ x p tx ux nx.
        subst (λ z. Matches z (put g.phase Q (member_of s) looks p x))
        (sym (kept_put gate_of K s.words g.phase g.line Q (member_of s) looks (ap gate_of heads.1 ∙ sym (ap gate_of heads.0)) x))
        (subst (Matches (gate_of (head_before s x))) (sym (put_away g.phase Q (member_of s) looks p x (inr (λ e. nx (e ∙ is_d))))) (g.by.gates x p tx ux))))
        (spent_put K g.phase Q (member_of s) looks g.by.spent (spent_look u (told_left (names_in K Q).budget (slice_index s.words (status_word (names_in K Q) (member_of s))))))
        (tenured_ends K s.words g.phase g.line g.ended s.trace s.trace Q (member_of s) looks g.by.tenured
        (let k = g.by.tenured Q there in
        let a : (if is_node K Q then 0 else granted_in (head_before s Q)) ≡ 1 = else_one (is_node K Q) _ no_node (ap granted_in heads.0) in
        let b : (if is_node K Q then 0 else granted_in (head_by K s.words (put g.phase Q (member_of s) looks) g.line Q)) ≡ 0 =
        else_zero (is_node K Q) _ (ap granted_in heads.1) in omega arith)
        (λ x ne. refl))

  -- the node's queue isn't above any element
  not_leaf : (x p : ℕ) → x < how_many K → (tree_of K).parent x ≡ Some p → p ≢ v.leaf
  not_leaf x p tx ux e =
      let a = (is_child s.on.well.treed x p tx ux).0 in
      let b : true ≡ false = sym (leaf_node s.on) ∙ ap (is_node K) (sym e) ∙ a in cc

  phase_here : v.level ≡ 0 → v.query ≡ false → g.phase v.leaf v.rank ≡ v.phase
  phase_here lv nq = subst (λ z. g.phase (el s.on z) (me s.on z) ≡ v.phase) lv (phase_of s nq)

  -- ASKING: a rank that is out begins to join its node's queue.
  pub ask_keeps : v.level ≡ 0 → v.query ≡ false → v.phase ≡ Idle →
      IsGoodBy K levels (put g.phase v.leaf v.rank Clear) g.line g.ended s.words (slice_set s.views v.rank (at_level v 0 Clear)) s.trace
  ask_keeps lv nq out =
      let joined = join_put K s.words g.phase g.line g.ended s.trace v.leaf v.rank g.by.queue (el_there s.on 0 (omega arith))
      (el_in s.on 0 (omega arith)) (phase_here lv nq ∙ out) in
      assembles s.on s.words (put g.phase v.leaf v.rank Clear) g.line g.ended s.trace s.views (at_level v 0 Clear) refl refl
      (record { within = omega arith; resting = λ e. refl; above = λ e. cc; three = (shape_of s).three; hooked = λ e. cc })
      (others_put s.on s.words g.phase g.line g.ended s.trace s.views 0 Clear (omega arith) g.by.queue (all_others s)
      (λ k b. absurd (omega arith))) joined.0
      (λ k b. absurd (omega arith)) (put_here g.phase v.leaf v.rank Clear)
      (λ x p tx ux. subst (λ z. Matches z (put g.phase v.leaf v.rank Clear p x)) (ap gate_of (sym (joined.1 x)))
      (subst (Matches (gate_of (head_before s x))) (sym (put_away g.phase v.leaf v.rank Clear p x (inl (not_leaf x p tx ux))))
      (g.by.gates x p tx ux)))
      (spent_put K g.phase v.leaf v.rank Clear g.by.spent (spent_clear (is_some (names_in K v.leaf).budget)))
      (tenured_put K s.words g.phase g.line g.ended s.trace v.leaf v.rank Clear g.by.tenured (ap granted_in (joined.1 v.leaf)))

  -- a rank's departure ends one tenure of its node's queue, and none of any other
  ends_here : tenures (queue_at K v.leaf) (event.LeaveW v.rank ∷ []) ≡ 1
  ends_here = let a : count (is_node K v.leaf && is_in K v.leaf v.rank) ≡ 1 = ap (λ z. count (z && is_in K v.leaf v.rank)) (leaf_node s.on)
      ∙ ap count (el_in s.on 0 (omega arith)).is in omega arith

  ends_there : (x : ℕ) → x ≢ v.leaf → tenures (queue_at K x) (event.LeaveW v.rank ∷ []) ≡ 0
  ends_there x ne = let a : count (is_node K x && is_in K x v.rank) ≡ 0 = by (is_node K x) refl in omega arith where
    by : (b : Bool) → is_node K x ≡ b → count (is_node K x && is_in K x v.rank) ≡ 0
    by false e = ap (λ z. count (z && is_in K x v.rank)) e
    by true e =
        let other : (leaf_of_rank K v.rank == x) ≡ false = other_test (leaf_of_rank K v.rank) x (λ q. ne (sym (s.on.own ∙ q))) in
        let off : is_in K x v.rank ≡ false =
        ap (λ z. if z then nat_lt v.rank (ranks_in K) && (leaf_of_rank K v.rank == x) else is_at ((tree_of K).parent v.rank) x) e
        ∙ and_false (nat_lt v.rank (ranks_in K)) (leaf_of_rank K v.rank == x) other in
        ap count (ap (λ z. z && is_in K x v.rank) e ∙ off)

  -- LEAVING: who is inside begins to leave its node's queue, which has something above it.
  pub leave_tree : (left : ℕ) → v.level ≡ 0 → v.query ≡ false → v.phase ≡ Granted left → is_some (names_in K v.leaf).budget ≡ true →
      IsGoodBy K levels (put g.phase v.leaf v.rank (Look left true)) g.line (one_more v.leaf) s.words
      (slice_set s.views v.rank (at_level v 0 (Look left true))) (s.trace ++ event.LeaveW v.rank ∷ [])
  leave_tree left lv nq inside above =
      let p : Phase = Look left true in
      let t : List Event = s.trace ++ event.LeaveW v.rank ∷ [] in
      let there = el_there s.on 0 (omega arith) in
      let mv = put_moves g.phase v.leaf v.rank (Granted left) p (phase_here lv nq ∙ inside) in
      let gq = g.by.queue v.leaf there in
      let leaves = leave_keeps (names_in K v.leaf) (InQueue K v.leaf) s.words (g.phase v.leaf) (put g.phase v.leaf v.rank p v.leaf)
      (g.line v.leaf) s.trace (g.ended v.leaf) v.rank left true (event.LeaveW v.rank) gq tt mv in
      let heads = head_first (names_in K v.leaf) (InQueue K v.leaf) s.words (g.phase v.leaf) (put g.phase v.leaf v.rank p v.leaf)
      (g.line v.leaf) s.trace (g.ended v.leaf) v.rank (Granted left) p gq mv tt in
      assembles s.on s.words (put g.phase v.leaf v.rank p) g.line (one_more v.leaf) t s.views (at_level v 0 p) refl refl
      (record { within = omega arith; resting = λ e. refl; above = λ e. cc; three = (shape_of s).three; hooked = λ e. cc })
      (others_put s.on s.words g.phase g.line g.ended s.trace s.views 0 p (omega arith) g.by.queue (all_others s) (λ k b. absurd (omega arith)))
      (good_put K s.words g.phase g.line g.ended (one_more v.leaf) s.trace t v.leaf v.rank p g.by.queue
      (subst (QueueGood (names_in K v.leaf) (InQueue K v.leaf) s.words (put g.phase v.leaf v.rank p v.leaf) (g.line v.leaf) t)
      (sym (one_count (g.ended v.leaf) (v.leaf == v.leaf) (same_test v.leaf))) leaves)
      (λ x ne. no_count (g.ended x) (x == v.leaf) (other_test x v.leaf ne))
      (λ x q ne. beside_keeps (names_in K x) (InQueue K x) s.words (g.phase x) (g.line x) s.trace (g.ended x) (event.LeaveW v.rank) q tt))
      (λ k b. absurd (omega arith)) (put_here g.phase v.leaf v.rank p)
      (λ x y tx ux. subst (λ z. Matches z (put g.phase v.leaf v.rank p y x))
      (sym (kept_put gate_of K s.words g.phase g.line v.leaf v.rank p (ap gate_of heads.1 ∙ sym (ap gate_of heads.0)) x))
      (subst (Matches (gate_of (head_before s x))) (sym (put_away g.phase v.leaf v.rank p y x (inl (not_leaf x y tx ux))))
      (g.by.gates x y tx ux)))
      (spent_put K g.phase v.leaf v.rank p g.by.spent (subst (λ z. Spent z p) (sym above) refl))
      (tenured_ends K s.words g.phase g.line g.ended s.trace t v.leaf v.rank p g.by.tenured
      (let k = g.by.tenured v.leaf there in
      let a : (if is_node K v.leaf then 0 else granted_in (head_before s v.leaf)) ≡ 0 = then_zero (is_node K v.leaf) _ (leaf_node s.on) in
      let b : (if is_node K v.leaf then 0 else granted_in (head_by K s.words (put g.phase v.leaf v.rank p) g.line v.leaf)) ≡ 0 =
      then_zero (is_node K v.leaf) _ (leaf_node s.on) in
      let y = tenures-append (queue_at K v.leaf) s.trace (event.LeaveW v.rank ∷ []) in
      let w = ends_here in omega arith)
      (λ x ne.
      let y = tenures-append (queue_at K x) s.trace (event.LeaveW v.rank ∷ []) in
      let w = ends_there x ne in omega arith))
