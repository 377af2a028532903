-- The good states of a tree where none of its acts is made: the opening one, after an event of no queue, after a write behind its words,
-- and while no rank is in a call.
use Rattle.std.specs.Prelude.{◌≡◌, ℕ, ◌+◌, ◌<◌, List, [], replicate, if◌then◌else◌, slice_get, slice_index, slice_set, Option, Some, refl, is_some}
use Rattle.std.proofs.Common.{sym, ◌∙◌, ap, subst, get_or-set_other, arith}
use Rattle.rl_step.specs.declared.events.Event.{Event}
use Rattle.rl_step.specs.declared.events.Event.TheVariants as event
use Rattle.rl_step.specs.Lock.{first_views}
use Rattle.rl_step.specs.laws.LockLemmas.{first_views_at}
use Rattle.rl_step.specs.Queues.{QueueOf, ends}
use Rattle.rl_queue.specs.declared.view.Phase.{Phase}
use Rattle.rl_queue.specs.declared.view.Phase.TheVariants.{Idle}
use Rattle.rl_queue.specs.Queue.{queue_next_word, status_word}
use Rattle.rl_queue.specs.laws.RankWordLaws.{all_zero}
use Rattle.rl_queue.specs.Lane.{lane_of}
use Rattle.rl_queue.specs.laws.LaneLaws.{in_line}
use Rattle.rl_queue.specs.QueuesApart.{Apart}
use Rattle.rl_queue.specs.QueueGood.{QueueGood}
use Rattle.rl_queue.specs.laws.QueueLaws.{still_keeps}
use Rattle.rl_queue.specs.Heads.{head_in}
use Rattle.rl_tree.specs.declared.view.TreeView.{TreeView}
use Rattle.rl_tree.specs.declared.rooted.Rooted.{Rooted}
use Rattle.rl_tree.specs.Elements.{how_many, ranks_in, leaf_of_rank, is_node, of_tree, names_in, queue_at, out_at}
use Rattle.rl_tree.specs.TreeGood.{gate_of, granted_in, Matches, Tells, Shaped, InQueue, is_open, IsGoodBy}
use Rattle.rl_tree.specs.laws.TreeClimb.{heads_same, else_zero}
use Rattle.rl_tree.specs.laws.TreePuts.{spent_idle}
use Rattle.rl_tree.specs.laws.TreeCalls.{beside_tree}
use Rattle.rl_tree.specs.laws.TreeWords.{words_at}
use Rattle.rl_tree.specs.TreeShape.{IsWellShaped}
use Rattle.rl_tree.specs.laws.TreeHolders.{no_head, empty_tail, all_idle}
use Rattle.rl_tree.specs.TreeFacts.{IsBeside, Begins, BeyondKeeps, BesideKeeps, IsShutAtRest}

-- an event of no queue
beside_apart : (q : ℕ) (B : Option ℕ) (e : Event) → IsBeside e → Apart q B e
beside_apart q B (event.EnterW k) h = tt
beside_apart q B (event.EnterR k) h = tt
beside_apart q B (event.LeaveR k) h = tt
beside_apart q B (event.Touch k w) h = tt
beside_apart q B (event.Join k m) h = absurd h
beside_apart q B (event.Announce c) h = absurd h
beside_apart q B (event.Pass k m) h = absurd h
beside_apart q B (event.Settle k m) h = absurd h
beside_apart q B (event.LeaveW k) h = absurd h

beside_ends : (d : QueueOf) (e : Event) → IsBeside e → ends d e ≡ 0
beside_ends d (event.EnterW k) h = refl
beside_ends d (event.EnterR k) h = refl
beside_ends d (event.LeaveR k) h = refl
beside_ends d (event.Touch k w) h = refl
beside_ends d (event.Join k m) h = absurd h
beside_ends d (event.Announce c) h = absurd h
beside_ends d (event.Pass k m) h = absurd h
beside_ends d (event.Settle k m) h = absurd h
beside_ends d (event.LeaveW k) h = absurd h

module _ (K : Rooted) (levels : ℕ) (S : IsWellShaped K levels) where
  pub beside_at : BesideKeeps K levels
  beside_at inside ws vs t e h g =
      record {
        tree = record {
          phase = g.tree.phase;
          line = g.tree.line;
          ended = g.tree.ended;
          by = beside_tree K levels g.tree.phase g.tree.line g.tree.ended ws vs t e g.tree.by
              (λ q. beside_apart q (names_in K q).budget e h) (λ q. beside_ends (queue_at K q) e h);
        };
        gate = g.gate;
      }

  -- a word behind the tree's is none of its queues'
  pub beyond_at : BeyondKeeps K levels
  beyond_at inside ws vs t w x far g = record {
    tree = record { phase = F; line = L; ended = g.tree.ended; by = good };
    gate =
        ap (λ z. is_open (gate_of z)) (heads 0 S.some) ∙ g.gate;
  } where
    F : ℕ → ℕ → Phase
    F = g.tree.phase

    L : ℕ → List ℕ
    L = g.tree.line

    same : (y : ℕ) → y < of_tree K → slice_index (slice_set ws w x) y ≡ slice_index ws y
    same y lt = get_or-set_other ws w y x 0 (λ e. absurd (omega arith))

    nexts : (q m : ℕ) → InQueue K q m → slice_index (slice_set ws w x) (queue_next_word (names_in K q) m) ≡ slice_index ws (queue_next_word (names_in K q) m)
    nexts q m i = same _ (words_at K S.root_free q m i).1

    states : (q m : ℕ) → InQueue K q m → slice_index (slice_set ws w x) (status_word (names_in K q) m) ≡ slice_index ws (status_word (names_in K q) m)
    states q m i = same _ (words_at K S.root_free q m i).3

    queues : (q : ℕ) → q < how_many K → QueueGood (names_in K q) (InQueue K q) (slice_set ws w x) (g.tree.phase q) (g.tree.line q) t (g.tree.ended q)
    queues q lq = still_keeps (names_in K q) (InQueue K q) ws (slice_set ws w x) (F q) (F q) (L q) t (g.tree.ended q) (g.tree.by.queue q lq)
        (λ y. refl) (same q (omega arith)) (λ m i. nexts q m i) (λ m i. states q m i)

    heads : (q : ℕ) → q < how_many K → head_in (lane_of (names_in K q) (slice_set ws w x) (g.tree.phase q)) (g.tree.line q) ≡ head_in
        (lane_of (names_in K q) ws (g.tree.phase q)) (g.tree.line q)
    heads q lq =
        heads_same (lane_of (names_in K q) ws (F q)) (lane_of (names_in K q) (slice_set ws w x) (F q)) (L q) (λ y. refl)
        (λ y h. states q y (in_line (names_in K q).budget (InQueue K q) (lane_of (names_in K q) ws (F q)) (L q) y (g.tree.by.queue q lq).inv h))

    good : IsGoodBy K levels (g.tree.phase) (g.tree.line) (g.tree.ended) (slice_set ws w x) vs t
    good =
        record {
          own = g.tree.by.own;
          shaped = g.tree.by.shaped;
          queue = queues;
          below = g.tree.by.below;
          here = g.tree.by.here;
          gates = λ e p le up. subst (λ z. Matches z (F p e)) (sym (ap gate_of (heads e le))) (g.tree.by.gates e p le up);
          spent = g.tree.by.spent;
          tenured = λ q lq. ap (λ z. g.tree.ended q + (if is_node K q then 0 else granted_in z)) (heads q lq) ∙ g.tree.by.tenured q lq;
        }

  -- THE OPENING STATE
  pub begins_at : Begins K levels
  begins_at size le = record { tree = record { phase = λ q m. Idle; line = λ q. []; ended = λ q. 0; by = good }; gate = refl } where
    out : ℕ → TreeView
    out r = out_at r (leaf_of_rank K r)

    first : (r : ℕ) (v : TreeView) → slice_get (first_views (λ i. out_at i (leaf_of_rank K i)) 0 (ranks_in K)) r ≡ Some v → v ≡ out_at r (leaf_of_rank K r)
    first r v h = first_views_at out 0 (ranks_in K) r v h ∙ ap out (let z : 0 + r ≡ r = omega arith in z)

    queues : (q : ℕ) → q < how_many K → QueueGood (names_in K q) (InQueue K q) (replicate size 0) (λ m. Idle) [] [] 0
    queues q lq =
        record {
          inv = record { distinct = tt; listed = λ m h. absurd h; only = λ m h. absurd h; line = all_zero size q; own = λ m. tt; inside = λ m b. absurd b };
          alone = λ m h. tt;
          awaited = λ m x. absurd x;
          says = record { fifo = refl; tenure = refl; within = λ b e. (tt, omega arith) };
        }

    good : IsGoodBy K levels (λ q m. Idle) (λ q. []) (λ q. 0) (replicate size 0) (first_views (λ i. out_at i (leaf_of_rank K i)) 0 (ranks_in K)) []
    good =
        record {
          own = λ r v h. (ap (λ z. z.rank) (first r v h), ap (λ z. z.leaf) (first r v h));
          shaped = λ r v h. subst (Shaped levels) (sym (first r v h))
              (record { within = omega arith; resting = λ e. refl; above = λ e. cc; three = refl; hooked = λ e. cc });
          queue = queues;
          below = λ r v j h b. let z : v.level ≡ 0 = ap (λ y. y.level) (first r v h) in absurd (omega arith);
          here = λ r v h. subst (λ z. Tells z z.query Idle) (sym (first r v h)) refl;
          gates = λ e p lt up. refl;
          spent = λ q m. spent_idle (is_some (names_in K q).budget);
          tenured = λ q lq. let z : (if is_node K q then 0 else 0) ≡ 0 = else_zero (is_node K q) 0 refl in omega arith;
        }

  -- WHILE NO RANK IS IN A CALL the root is shut, and its tail is 0
  pub shut_at_rest : IsShutAtRest K levels
  shut_at_rest inside ws vs t all g out =
      let idle : (m : ℕ) → g.tree.phase 0 m ≡ Idle = λ m. all_idle S g.tree all out (S.treed.depth 0) 0 m S.some refl in
      let none = no_head K 0 ws (g.tree.phase 0) (g.tree.line 0) t (g.tree.ended 0) (g.tree.by.queue 0 S.some) idle in
      (sym g.gate ∙ ap (λ z. is_open (gate_of z)) none, empty_tail K 0 ws (g.tree.phase 0) (g.tree.line 0) t (g.tree.ended 0) (g.tree.by.queue 0 S.some) idle)
