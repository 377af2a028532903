-- What keeps a tree good, with its root's gate: where a rank asks and where it begins to leave, each act, and what goes on from the hook;
-- and that all of it fits the laws of a lock.
use Rattle.std.specs.Prelude.{◌≡◌, ℕ, zero, suc, ◌≤◌, Bool, true, false, List, [], ◌∷◌, ◌++◌, length, slice_index, slice_set, Option, Some, refl, is_some}
use Rattle.std.proofs.Common.{sym, ◌∙◌, ap, subst, inl, inr, ⊎_elim, arith}
use Rattle.std.proofs.lemmas.List.{append-nil, set-get_or}
use Rattle.std.proofs.lemmas.Option.{same_Some}
use Rattle.rl_word.specs.Acts.{word_of, written, told}
use Rattle.rl_word.specs.declared.acts.Act.{Act}
use Rattle.rl_word.specs.declared.acts.Act.TheVariants.{Load}
use Rattle.rl_step.specs.declared.events.Event.TheVariants as event
use Rattle.rl_step.specs.declared.events.Standing.TheVariants as standing
use Rattle.rl_step.specs.Lock.{Shift}
use Rattle.rl_queue.specs.declared.view.Phase.{Phase}
use Rattle.rl_queue.specs.declared.view.Phase.TheVariants.{Clear, Settle, Granted, Look, Above}
use Rattle.rl_queue.specs.Queue.{status_word, full_budget, settled_at, leave_at, resume_at}
use Rattle.rl_queue.specs.laws.QueueHeads.{head_first}
use Rattle.rl_queue.specs.Standings.{standing_of}
use Rattle.rl_tree.specs.declared.view.TreeView.{TreeView}
use Rattle.rl_tree.specs.Tree.{names_at, at_level, settles_below, inside_from, at_hook, resume_by, tree_plan, tree_standing}
use Rattle.rl_tree.specs.laws.Cases.{learn_by, plan_by, standing_by}
use Rattle.rl_tree.specs.declared.rooted.Rooted.{Rooted}
use Rattle.rl_tree.specs.Elements.{of_tree, names_in, tree_of}
use Rattle.rl_tree.specs.TreeGood.{gate_of, is_open, root_open, Tells, InQueue, IsGoodBy, GoodAt}
use Rattle.rl_tree.specs.TreeShape.{IsWellShaped}
use Rattle.rl_tree.specs.TreeFacts.{GateMoves, LearnFits, learnt_in, resumed_in, opens, AsksKeep, LeavesKeep, ActsKeep, ResumesKeep, LearnsFit, ResumesFit}
use Rattle.rl_tree.specs.laws.TreePaths.{put, put_moves, head_by, el, el_there, el_up, el_root, not_root}
use Rattle.rl_tree.specs.laws.TreeWords.{is_worded}
use Rattle.rl_tree.specs.laws.RanksInTree.{StandsInTree, stands_of, rank_is, queue_of, member_of, shape_of, queue_there, phase_of}
use Rattle.rl_tree.specs.laws.TreeClimb.{settled, settled_here, settled_head}
use Rattle.rl_tree.specs.laws.TreePuts.{head_put, kept_put, resume_put}
use Rattle.rl_tree.specs.laws.TreeCalls.{looks, query_keeps, ask_keeps, leave_tree, granted_is}
use Rattle.rl_tree.specs.laws.TreeHook.{must_settle, hook_enters, hook_leaves}
use Rattle.rl_tree.specs.laws.TreeStandings.{above_is, hook_cases, out_is, holds_is, writer_holds}
use Rattle.rl_tree.specs.laws.TreeHolders.{at_rest}
use Rattle.rl_tree.specs.laws.TreeSteps.{Steps, none_plain, fits_plain, enters_fit, learns, resume_entry, resume_standing}

-- a rank that comes in from above its node's queue has its whole budget there
inside_whole : (K : Rooted) (v : TreeView) (w left : ℕ) → 1 ≤ w → inside_from (tree_of K) v w left ≡ settled_at (names_in K v.leaf).budget
inside_whole K v zero left h = absurd (omega arith)
inside_whole K v (suc w) left h = refl

comes_form : (K : Rooted) (levels : ℕ) (v : TreeView) → 1 ≤ levels → v.phase ≡ Settle → v.level ≡ levels →
    resumed_in K v ≡ record { view = at_level v 0 (settled_at (names_in K v.leaf).budget); events = settles_below (tree_of K) v (suc levels); waits = false }
comes_form K levels v high e lv =
    ap (λ z. resume_by (tree_of K) v z []) e ∙
    ap (λ z. record { view = at_level v 0 z; events = settles_below (tree_of K) v (suc v.level); waits = false })
    (inside_whole K v v.level (full_budget (names_at (tree_of K) v v.level).budget) (omega arith)) ∙
    ap (λ n. record { view = at_level v 0 (settled_at (names_in K v.leaf).budget); events = settles_below (tree_of K) v (suc n); waits = false }) lv

goes_form : (K : Rooted) (v : TreeView) (s : Option ℕ) → v.phase ≡ Above s →
    resumed_in K v ≡ record { view = at_level v v.level (resume_at (Above s)); events = []; waits = false }
goes_form K v s e = ap (λ z. resume_by (tree_of K) v z []) e

module _ {K : Rooted} {levels : ℕ} (s : StandsInTree K levels) where
  open s use {on.{view as v}, good as g}

  abbrev Q : ℕ
  Q = queue_of s

  abbrev was_open : Bool
  was_open = root_open K s.words g.phase g.line

  -- where it moves in its node's queue the root's gate stays
  leaf_gate : (p : Phase) → is_open (gate_of (head_by K s.words (put g.phase v.leaf v.rank p) g.line 0)) ≡ was_open
  leaf_gate p = let high = s.on.well.high in
      ap (λ z. is_open (gate_of z)) (head_put K s.words g.phase g.line v.leaf v.rank p 0 (not_root s.on 0 (omega arith)))

  ask_at : tree_standing v ≡ standing.Out → GoodAt K levels was_open s.words (slice_set s.views v.rank (at_level v 0 Clear)) s.trace
  ask_at out =
      let o = out_is v.query v.phase out in
      record {
        tree = record {
          phase = put g.phase v.leaf v.rank Clear;
          line = g.line;
          ended = g.ended;
          by = ask_keeps s (at_rest s o.0 (inl o.1)) o.0 o.1;
        };
        gate = leaf_gate Clear;
      }

  leave_now : tree_standing v ≡ standing.Writer →
      GoodAt K levels was_open s.words (slice_set s.views v.rank (at_level v 0 (leave_at v.phase true))) (s.trace ++ event.LeaveW v.rank ∷ [])
  leave_now wr =
      let o = holds_is v.query v.phase (writer_holds (tree_standing v) wr) in
      let l = granted_is v.phase o.1 in
      let high = s.on.well.high in
      let above : is_some (names_in K v.leaf).budget ≡ true =
      s.on.well.budgeted v.leaf (el s.on 1) (el_there s.on 0 (omega arith)) (el_up s.on 0 (omega arith)) in
      subst (λ z. GoodAt K levels was_open s.words (slice_set s.views v.rank (at_level v 0 (leave_at z true))) (s.trace ++ event.LeaveW v.rank ∷ []))
      (sym l.1)
      (record {
        tree = record {
          phase = put g.phase v.leaf v.rank (Look l.0 true);
          line = g.line;
          ended = _;
          by = leave_tree s l.0 (at_rest s o.0 (inr o.1)) o.0 l.1 above;
        };
        gate = leaf_gate (Look l.0 true);
      })

  -- AN ACT of a view that asks for the status of its element: it begins to leave above, and the root's gate stays open
  query_gate : v.query ≡ true → root_open K s.words (put g.phase Q (member_of s) (looks s)) g.line ≡ was_open
  query_gate asks =
      let n = granted_is (g.phase Q (member_of s)) (subst (λ z. Tells v z (g.phase Q (member_of s))) asks (g.by.here v.rank v s.has)) in
      let heads = head_first (names_in K Q) (InQueue K Q) s.words (g.phase Q) (put g.phase Q (member_of s) (looks s) Q) (g.line Q) s.trace (g.ended Q) (member_of s)
      (Granted n.0) (looks s) (g.by.queue Q (queue_there s)) (put_moves g.phase Q (member_of s) (Granted n.0) (looks s) n.1) tt in
      kept_put (λ h. is_open (gate_of h)) K s.words g.phase g.line Q (member_of s) (looks s)
      (ap (λ z. is_open (gate_of z)) heads.1 ∙ sym (ap (λ z. is_open (gate_of z)) heads.0)) 0

  asking_steps : v.query ≡ true → (a : Act) → Some (Load (status_word (names_in K Q) (member_of s))) ≡ Some a →
      Steps K levels s (slice_set s.words (word_of a) (written a (slice_index s.words (word_of a))))
      (learn_by (tree_of K) v true (told a (slice_index s.words (word_of a))))
  asking_steps asks a pl =
      subst (λ c. Steps K levels s (slice_set s.words (word_of c) (written c (slice_index s.words (word_of c))))
      (learn_by (tree_of K) v true (told c (slice_index s.words (word_of c))))) (same_Some _ _ pl)
      (subst (λ z. Steps K levels s z (record { view = at_level v v.level (looks s); events = []; waits = false }))
      (sym (set-get_or s.words (status_word (names_in K Q) (member_of s)) 0))
      (record {
        good = record {
          phase = put g.phase Q (member_of s) (looks s);
          line = g.line;
          ended = _;
          by = subst (IsGoodBy K levels (put g.phase Q (member_of s) (looks s)) g.line _ s.words (slice_set s.views v.rank (at_level v v.level (looks s))))
              (sym (append-nil s.trace)) (query_keeps s asks);
        };
        moves = λ lim. query_gate asks;
        fits = fits_plain K v.rank v (record { view = at_level v v.level (looks s); events = []; waits = false }) refl
            (subst (λ z. Shift v.rank z standing.Leaving []) (sym (ap (λ z. standing_by z v.phase) asks)) refl) (none_plain K);
      }))

  -- EACH ACT away from the hook
  act_steps : (a : Act) → of_tree K ≤ length s.words → tree_plan (tree_of K) v ≡ Some a →
      Steps K levels s (slice_set s.words (word_of a) (written a (slice_index s.words (word_of a)))) (learnt_in K s.words v a)
  act_steps a long planned = by v.query refl where
    by : (b : Bool) → v.query ≡ b →
        Steps K levels s (slice_set s.words (word_of a) (written a (slice_index s.words (word_of a)))) (learnt_in K s.words v a)
    by true e =
        subst (λ z. Steps K levels s (slice_set s.words (word_of a) (written a (slice_index s.words (word_of a))))
        (learn_by (tree_of K) v z (told a (slice_index s.words (word_of a))))) (sym e)
        (asking_steps e a (subst (λ z. plan_by (tree_of K) v z ≡ Some a) e planned))
    by false e =
        subst (λ z. Steps K levels s (slice_set s.words (word_of a) (written a (slice_index s.words (word_of a))))
        (learn_by (tree_of K) v z (told a (slice_index s.words (word_of a))))) (sym e)
        (learns (record {
          stands = s;
          act = a;
          no_query = e;
          worded = is_worded K s.on.well.root_free (length s.words) long;
          planned = subst (λ z. plan_by (tree_of K) v z ≡ Some a) e planned;
        }))

  -- WHAT GOES ON FROM THE HOOK: one that comes in settles in all queues on its path, and one that goes out hands the root over, or
  -- empties it.
  comes_good : v.query ≡ false → v.phase ≡ Settle → v.level ≡ levels →
      GoodAt K levels true s.words (slice_set s.views v.rank (at_level v 0 (settled_at (names_in K v.leaf).budget)))
      (s.trace ++ settles_below (tree_of K) v (suc levels))
  comes_good nq e lv =
      let now = settled_here s.on g.phase (suc levels) 0 (omega arith) (omega arith) in
      let head = settled_head s.on s.words g.phase g.line g.ended s.trace (suc levels) levels (omega arith) (omega arith) g.by.queue
      (must_settle s nq lv e levels (omega arith)) in
      record {
        tree = record {
          phase = settled s.on g.phase (suc levels);
          line = g.line;
          ended = g.ended;
          by = hook_enters s nq lv e (settled_at (names_in K v.leaf).budget) now tt;
        };
        gate = subst (λ z. is_open (gate_of (head_by K s.words (settled s.on g.phase (suc levels)) g.line z)) ≡ true) (el_root s.on)
            (ap (λ z. is_open (gate_of z)) head);
      }

  goes_good : (o : Option ℕ) → v.query ≡ false → v.phase ≡ Above o → v.level ≡ levels →
      GoodAt K levels false s.words (slice_set s.views v.rank (at_level v v.level (resume_at (Above o)))) s.trace
  goes_good o nq e lv =
      record {
        tree = record { phase = put g.phase Q (member_of s) (resume_at (Above o)); line = g.line; ended = g.ended; by = hook_leaves s nq lv o e };
        gate = subst (λ z. is_open (gate_of (head_by K s.words (put g.phase Q (member_of s) (resume_at (Above o))) g.line z)) ≡ false)
            (ap (el s.on) lv ∙ el_root s.on)
            (ap is_open (resume_put K s.words g.phase g.line g.ended s.trace Q (member_of s) o g.by.queue (queue_there s) (phase_of s nq ∙ e)).1);
      }

  resume_good : at_hook v ≡ true →
      GoodAt K levels (opens v.phase) s.words (slice_set s.views v.rank (resumed_in K v).view) (s.trace ++ (resumed_in K v).events)
  resume_good hook =
      let c = hook_cases v.query v.phase hook in
      let lv : v.level ≡ levels = (shape_of s).hooked hook in
      ⊎_elim
      (λ e.
      subst (λ u. GoodAt K levels (opens v.phase) s.words (slice_set s.views v.rank u.view) (s.trace ++ u.events))
      (sym (comes_form K levels v s.on.well.high e lv))
      (subst (λ z. GoodAt K levels z s.words (slice_set s.views v.rank (at_level v 0 (settled_at (names_in K v.leaf).budget)))
      (s.trace ++ settles_below (tree_of K) v (suc levels))) (sym (ap opens e)) (comes_good c.0 e lv)))
      (λ a.
      let o = above_is v.phase a in
      subst (λ u. GoodAt K levels (opens v.phase) s.words (slice_set s.views v.rank u.view) (s.trace ++ u.events)) (sym (goes_form K v o.0 o.1))
      (subst (λ z. GoodAt K levels z s.words (slice_set s.views v.rank (at_level v v.level (resume_at (Above o.0)))) (s.trace ++ []))
      (sym (ap opens o.1))
      (subst (GoodAt K levels false s.words (slice_set s.views v.rank (at_level v v.level (resume_at (Above o.0))))) (sym (append-nil s.trace))
      (goes_good o.0 c.0 o.1 lv)))) c.1

  -- and that fits the laws
  resume_fits : at_hook v ≡ true → LearnFits K v.rank v (resumed_in K v)
  resume_fits hook =
      let c = hook_cases v.query v.phase hook in
      let stands : tree_standing v ≡ standing_of v.phase = ap (λ z. standing_by z v.phase) c.0 in
      ⊎_elim
      (λ e. subst (LearnFits K v.rank v) (sym (comes_form K levels v s.on.well.high e ((shape_of s).hooked hook)))
      (enters_fit s.on (suc levels) (full_budget (names_in K v.leaf).budget) (omega arith) (stands ∙ ap standing_of e)))
      (λ a.
      let o = above_is v.phase a in
      subst (LearnFits K v.rank v) (sym (goes_form K v o.0 o.1))
      (fits_plain K v.rank v (record { view = at_level v v.level (resume_at (Above o.0)); events = []; waits = false }) (resume_entry o.0 v.rank)
      (subst (λ z. Shift v.rank z (standing_of (resume_at (Above o.0))) []) (sym (stands ∙ ap standing_of o.1))
      (subst (λ z. Shift v.rank standing.Leaving z []) (sym (resume_standing o.0)) refl)) (none_plain K))) c.1

module _ (K : Rooted) (levels : ℕ) (S : IsWellShaped K levels) where
  pub asks_keep : AsksKeep K levels
  asks_keep inside ws vs t r v x out =
      subst (λ b. GoodAt K levels b ws (slice_set vs r (at_level v 0 Clear)) t) x.is_good.gate
      (subst (λ z. GoodAt K levels (root_open K ws x.is_good.tree.phase x.is_good.tree.line) ws (slice_set vs z (at_level v 0 Clear)) t)
      (rank_is S x.is_good.tree x.all r v x.has) (ask_at (stands_of S x.is_good.tree x.all r v x.has) out))

  pub leaves_keep : LeavesKeep K levels
  leaves_keep inside ws vs t r v x w =
      subst (λ b. GoodAt K levels b ws (slice_set vs r (at_level v 0 (leave_at v.phase true))) (t ++ event.LeaveW r ∷ [])) x.is_good.gate
      (subst (λ z. GoodAt K levels (root_open K ws x.is_good.tree.phase x.is_good.tree.line) ws
      (slice_set vs z (at_level v 0 (leave_at v.phase true))) (t ++ event.LeaveW z ∷ []))
      (rank_is S x.is_good.tree x.all r v x.has) (leave_now (stands_of S x.is_good.tree x.all r v x.has) w))

  pub acts_keep : ActsKeep K levels
  acts_keep inside ws vs t r v a x =
      let y = x.viewed in
      let k = act_steps (stands_of S y.is_good.tree y.all r v y.has) a y.long x.planned in
      let us : List ℕ = slice_set ws (word_of a) (written a (slice_index ws (word_of a))) in
      let good : GoodAt K levels (root_open K us k.good.phase k.good.line) us (slice_set vs v.rank (learnt_in K ws v a).view)
      (t ++ (learnt_in K ws v a).events) = record { tree = k.good; gate = refl } in (
        root_open K us k.good.phase k.good.line,
        λ lim. subst (λ b. GateMoves (at_hook (learnt_in K ws v a).view) (learnt_in K ws v a).view.phase b (root_open K us k.good.phase k.good.line))
            y.is_good.gate (k.moves lim),
        subst (λ z. GoodAt K levels (root_open K us k.good.phase k.good.line) us (slice_set vs z (learnt_in K ws v a).view)
            (t ++ (learnt_in K ws v a).events)) (rank_is S y.is_good.tree y.all r v y.has) good,
      )

  pub resumes_keep : ResumesKeep K levels
  resumes_keep inside ws vs t r v x hook =
      subst (λ z. GoodAt K levels (opens v.phase) ws (slice_set vs z (resumed_in K v).view) (t ++ (resumed_in K v).events))
      (rank_is S x.is_good.tree x.all r v x.has) (resume_good (stands_of S x.is_good.tree x.all r v x.has) hook)

  pub learns_fit : LearnsFit K levels
  learns_fit inside ws vs t r v a x =
      let y = x.viewed in
      subst (λ z. LearnFits K z v (learnt_in K ws v a)) (rank_is S y.is_good.tree y.all r v y.has)
      (act_steps (stands_of S y.is_good.tree y.all r v y.has) a y.long x.planned).fits

  pub resumes_fit : ResumesFit K levels
  resumes_fit inside ws vs t r v x hook =
      subst (λ z. LearnFits K z v (resumed_in K v)) (rank_is S x.is_good.tree x.all r v x.has)
      (resume_fits (stands_of S x.is_good.tree x.all r v x.has) hook)
