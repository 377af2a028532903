-- RMA-MCS meets the laws of a lock.
use Rattle.std.specs.Prelude.{◌≡◌, ◌⊎◌, ℕ, zero, suc, ◌+◌, ◌*◌, ◌≤◌, Bool, true, false, List, [], ◌∷◌, ◌++◌, length, slice_get, slice_index, slice_set, Some, None, refl}
use Rattle.std.proofs.Common.{sym, ◌∙◌, ap, subst, inl, inr, ⊎_elim, length-set, append_assoc, arith}
use Rattle.std.proofs.lemmas.List.{append-nil, length-replicate}
use Rattle.std.proofs.lemmas.Option.{same_Some}
use Rattle.rl_word.specs.Acts.{word_of, told}
use Rattle.rl_word.specs.Shapes.{layout_of}
use Rattle.rl_word.specs.declared.acts.Act.{Act}
use Rattle.rl_word.specs.declared.classes.Mode.{Mode}
use Rattle.rl_step.specs.declared.events.Event.{Event}
use Rattle.rl_step.specs.declared.events.Event.TheVariants as event
use Rattle.rl_step.specs.declared.events.Standing.TheVariants.{Out, Writer}
use Rattle.rl_step.specs.Lock.{LockState, LockLaws, Told, Acts, opening, acted, asked, left as left_state, touched, no_more, IsLoad, PlansLoad}
use Rattle.rl_step.specs.laws.LockLemmas.{first_views_at, length-first_views}
use Rattle.rl_step.specs.Queues.{settled, passed, tenures}
use Rattle.rl_queue.specs.declared.view.Phase.{Phase}
use Rattle.rl_queue.specs.declared.view.Phase.TheVariants.{Clear, Granted}
use Rattle.rl_queue.specs.Queue.{leave_at}
use Rattle.rl_tree.specs.declared.rooted.Rooted.{Rooted}
use Rattle.rl_tree.specs.declared.view.TreeView.{TreeView}
use Rattle.rl_tree.specs.Tree.{at_hook, hook_by, at_level, tree_plan, tree_learn, tree_standing, entry_if}
use Rattle.rl_tree.specs.Elements.{how_many, ranks_in, leaf_of_rank, of_tree, tree_of, out_at}
use Rattle.rl_tree.specs.TreeGood.{GoodAt, IsGrantedAt}
use Rattle.rl_tree.specs.laws.TreeCalls.{granted_is}
use Rattle.rl_tree.specs.TreeShape.{IsWellShaped}
use Rattle.rl_tree.specs.laws.TreeEvents.{queue_is}
use Rattle.rl_tree.specs.laws.TreeStandings.{phase_leaves, holds_is, writer_holds, not_reader, suits_by, rests_at}
use Rattle.rl_tree.specs.TreeFacts.{HasView, PlansAct, learnt_in, TreeFacts}
use Rattle.rl_tree.specs.laws.TreeLaws.{tree_facts}
use Rattle.rl_mcs.specs.Mcs.{past_hook, mcs_learn, mcs_table, McsGood}
use Rattle.rl_mcs.specs.laws.McsLearns.{resume_after, Turned, turned}

-- what a list of views has after one was set
set_get : (vs : List TreeView) (r i : ℕ) (w u : TreeView) → slice_get (slice_set vs r w) i ≡ Some u → (u ≡ w) ⊎ (slice_get vs i ≡ Some u)
set_get [] r i w u h = cc
set_get (x ∷ vs) zero zero w u h = inl (sym (same_Some _ _ h))
set_get (x ∷ vs) zero (suc i) w u h = inr h
set_get (x ∷ vs) (suc r) zero w u h = inr h
set_get (x ∷ vs) (suc r) (suc i) w u h = set_get vs r i w u h

unhooked_set : (vs : List TreeView) (r : ℕ) (w : TreeView) → ((i : ℕ) (u : TreeView) → slice_get vs i ≡ Some u → at_hook u ≡ false) →
    at_hook w ≡ false → (i : ℕ) (u : TreeView) → slice_get (slice_set vs r w) i ≡ Some u → at_hook u ≡ false
unhooked_set vs r w all off i u h = ⊎_elim (λ e. ap at_hook e ∙ off) (λ k. all i u k) (set_get vs r i w u h)

leaves_off : (v : TreeView) → IsGrantedAt v.phase → at_hook (at_level v 0 (leave_at v.phase true)) ≡ false
leaves_off v h = let n = granted_is v.phase h in ap (λ z. hook_by false (leave_at z true)) n.1

module _ (K : Rooted) (levels : ℕ) (S : IsWellShaped K levels) (F : TreeFacts K levels) (unlimited : K.root ≡ None) where
  pub view_of : (s : LockState TreeView) (r : ℕ) (v : TreeView) (g : McsGood K levels s) → slice_get s.views r ≡ Some v →
      HasView K levels g.inside s.words s.views s.trace r v
  view_of s r v g has = let w : length s.words ≡ of_tree K = g.all_words in record { long = omega arith; all = g.all_views; is_good = g.tree; has = has }

  pub planned : (s : LockState TreeView) (r : ℕ) (v : TreeView) (a : Act) (h : Acts (mcs_table K) (McsGood K levels) s r v a) →
      PlansAct K levels h.is_good.inside s.words s.views s.trace r v a
  planned s r v a h = record { viewed = view_of s r v h.is_good h.has; away = h.is_good.unhooked r v h.has; planned = h.planned }

  pub turn_of : (s : LockState TreeView) (r : ℕ) (v : TreeView) (a : Act) (h : Acts (mcs_table K) (McsGood K levels) s r v a) →
      Turned K levels S F unlimited s.words s.views s.trace r v a
      (past_hook (tree_of K) (at_hook (learnt_in K s.words v a).view) (learnt_in K s.words v a))
  turn_of s r v a h = turned K levels S F unlimited h.is_good.inside s.words s.views s.trace r v a (planned s r v a h)

  -- who is inside enters, which is of no queue
  enters : (inside : Bool) (ws : List ℕ) (vs : List TreeView) (t : List Event) (q : Bool) (p : Phase) (m : ℕ) →
      GoodAt K levels inside ws vs t → GoodAt K levels inside ws vs (t ++ entry_if q p m)
  enters inside ws vs t q p m g = at q p where
    nothing : GoodAt K levels inside ws vs (t ++ [])
    nothing = subst (GoodAt K levels inside ws vs) (sym (append-nil t)) g

    at : (q : Bool) (p : Phase) → GoodAt K levels inside ws vs (t ++ entry_if q p m)
    at true p = nothing
    at false (Granted left) = F.beside inside ws vs t (event.EnterW m) tt g
    at false _ = nothing

  acts_keep : (s : LockState TreeView) (r : ℕ) (v : TreeView) (a : Act) → Acts (mcs_table K) (McsGood K levels) s r v a →
      McsGood K levels (acted (mcs_table K) s r v a)
  acts_keep s r v a h =
      let g = h.is_good in
      let k = turn_of s r v a h in
      let u : Told TreeView = past_hook (tree_of K) (at_hook (learnt_in K s.words v a).view) (learnt_in K s.words v a) in
      record {
        all_words = length-set s.words (word_of a) _ ∙ g.all_words;
        all_views = length-set s.views r _ ∙ g.all_views;
        all_modes = g.all_modes;
        unhooked = unhooked_set s.views r u.view g.unhooked k.unhooked;
        inside = k.inside;
        tree = subst (GoodAt K levels k.inside _ (slice_set s.views r u.view))
            (append_assoc s.trace u.events (entry_if u.view.query u.view.phase u.view.rank))
            (enters k.inside _ (slice_set s.views r u.view) (s.trace ++ u.events) u.view.query u.view.phase u.view.rank k.is_good);
      }

  asks_keep : (s : LockState TreeView) (r : ℕ) (v : TreeView) (m : Mode) → McsGood K levels s → slice_get s.views r ≡ Some v →
      tree_standing v ≡ Out → McsGood K levels (asked (mcs_table K) s r v m)
  asks_keep s r v m g has out =
      record {
        all_words = g.all_words;
        all_views = length-set s.views r _ ∙ g.all_views;
        all_modes = length-set s.modes r m ∙ g.all_modes;
        unhooked = unhooked_set s.views r (at_level v 0 Clear) g.unhooked refl;
        inside = g.inside;
        tree = F.asks g.inside s.words s.views s.trace r v (view_of s r v g has) out;
      }

  leaves_keep : (s : LockState TreeView) (r : ℕ) (v : TreeView) → McsGood K levels s → slice_get s.views r ≡ Some v →
      tree_standing v ≡ Writer → McsGood K levels (left_state (mcs_table K) s r v (event.LeaveW r))
  leaves_keep s r v g has writes =
      record {
        all_words = g.all_words;
        all_views = length-set s.views r _ ∙ g.all_views;
        all_modes = g.all_modes;
        unhooked = unhooked_set s.views r (at_level v 0 (leave_at v.phase true)) g.unhooked
            (leaves_off v (holds_is v.query v.phase (writer_holds (tree_standing v) writes)).1);
        inside = g.inside;
        tree = F.leaves g.inside s.words s.views s.trace r v (view_of s r v g has) writes;
      }

  touch_keeps : (s : LockState TreeView) (r : ℕ) (w : Bool) → McsGood K levels s → McsGood K levels (touched s r w)
  touch_keeps s r w g = record {
    all_words = g.all_words;
    all_views = g.all_views;
    all_modes = g.all_modes;
    unhooked = g.unhooked;
    inside =
        g.inside;
    tree = F.beside g.inside s.words s.views s.trace (event.Touch r w) tt g.tree;
  }

  begins_at : McsGood K levels (opening (mcs_table K) (ranks_in K))
  begins_at =
      record {
        all_words = length-replicate (of_tree K) 0;
        all_views = length-first_views (λ r. out_at r (leaf_of_rank K r)) 0 (ranks_in K);
        all_modes = length-replicate (ranks_in K) _;
        unhooked = λ r v h. ap at_hook (first_views_at (λ r. out_at r (leaf_of_rank K r)) 0 (ranks_in K) r v h);
        inside = false;
        tree = F.begins (of_tree K) (omega arith);
      }

  -- a rank that waits on loads again, and isn't at the hook
  waits_at : (v : TreeView) (a : Act) (got : ℕ) → tree_plan (tree_of K) v ≡ Some a → (mcs_learn K v got).waits ≡ true →
      IsLoad a × PlansLoad (tree_plan (tree_of K) (mcs_learn K v got).view)
  waits_at v a got pl h = by (at_hook u.view) refl h where
    u : Told TreeView
    u = tree_learn (tree_of K) v got

    by : (b : Bool) → at_hook (tree_learn (tree_of K) v got).view ≡ b →
        (past_hook (tree_of K) b (tree_learn (tree_of K) v got)).waits ≡ true →
        IsLoad a × PlansLoad (tree_plan (tree_of K) (past_hook (tree_of K) b (tree_learn (tree_of K) v got)).view)
    by true e h = let bad : false ≡ true = sym (ap (λ z. z.waits) (resume_after (tree_of K) u.view u.view.phase u.events)) ∙ h in cc
    by false e h = let k = F.waits v a got pl h in (k.0, k.1)

  moves_on_at : (s : LockState TreeView) (r : ℕ) (v : TreeView) (a : Act) → ranks_in K ≡ 1 → Acts (mcs_table K) (McsGood K levels) s r v a →
      (mcs_learn K v (told a (slice_index s.words (word_of a)))).waits ≡ false
  moves_on_at s r v a one h = by (at_hook u.view) where
    u : Told TreeView
    u = learnt_in K s.words v a

    by : (b : Bool) → (past_hook (tree_of K) b (learnt_in K s.words v a)).waits ≡ false
    by true = ap (λ z. z.waits) (resume_after (tree_of K) u.view u.view.phase u.events)
    by false = F.moves_on h.is_good.inside s.words s.views s.trace r v a one (planned s r v a h)

  laws : LockLaws (mcs_table K) (McsGood K levels) no_more (layout_of K.shape)
  laws =
      record {
        begins = begins_at;
        sized = λ s g. (g.all_words, g.all_views, g.all_modes);
        few_words = let few : how_many K ≤ ranks_in K * 4 = S.few in let ranks : ranks_in K ≤ 32 = S.ranks in omega arith;
        homes = F.homes;
        lawful = λ s r v a h. F.lawful h.is_good.inside s.words s.views s.trace r v a (planned s r v a h);
        keeps = acts_keep;
        ask_keeps = asks_keep;
        leave_keeps_writer = leaves_keep;
        leave_keeps_reader = λ s r v g has st. absurd (not_reader v.query v.phase st);
        touch_keeps = touch_keeps;
        excludes = λ s i j v w g hi hj wv hw. F.one_holder g.inside s.words s.views s.trace i j v w (view_of s i v g hi)
            (view_of s j w g hj) (writer_holds (tree_standing v) wv) hw;
        suits = λ s r v m g has asked. suits_by m v.query v.phase;
        first_out = λ r. refl;
        ask_asks = λ v m out. refl;
        leave_leaves = λ v h. phase_leaves v.phase (holds_is v.query v.phase h).1;
        rests = λ s r v g has. rests_at (tree_of K) v v.query (g.unhooked r v has);
        shifts = λ s r v a h. (turn_of s r v a h).fits.shift;
        waits_on_loads = λ s r v a h e. waits_at v a (told a (slice_index s.words (word_of a))) h.planned e;
        orders = λ s r v a h. let k = turn_of s r v a h in (k.fits.order, k.fits.few);
        names = λ s r v a h. (turn_of s r v a h).fits.names;
        within = λ s q B d g has eb. let o = queue_is K q d has in F.within g.inside s.words s.views s.trace q B g.tree o.0 (sym (ap (λ z. z.budget) o.1) ∙ eb);
        fifo = λ s q d g has. F.fifo g.inside s.words s.views s.trace q g.tree (queue_is K q d has).0;
        counted = λ s q d g out has. let o = queue_is K q d has in
            subst (λ z. settled q s.trace + passed q s.trace ≡ tenures z s.trace) (sym o.1)
            (F.counted g.inside s.words s.views s.trace q g.all_views g.tree out o.0);
        goes_further = λ s g. tt;
        finds = λ s r v a one h. F.finds h.is_good.inside s.words s.views s.trace r v a one (planned s r v a h);
        moves_on = moves_on_at;
      }

-- ALL LAWS OF A LOCK
pub mcs_laws : (K : Rooted) (levels : ℕ) → IsWellShaped K levels → K.root ≡ None → LockLaws (mcs_table K) (McsGood K levels) no_more (layout_of K.shape)
mcs_laws K levels S unlimited = laws K levels S (tree_facts K levels S) unlimited
