-- What a rank does between its acts keeps a state of RMA-RW good: it asks, leaves and touches. And where there is a writer nobody
-- else holds the lock: no reader, since all counters are clear then.
use Rattle.std.specs.Prelude.{◌≡◌, ◌⊎◌, ℕ, ◌/◌, ◌<◌, Bool, true, false, List, [], ◌∷◌, ◌++◌, slice_get, slice_set, Some, refl}
use Rattle.std.proofs.Common.{sym, ◌∙◌, ap, subst, inr, ⊎_elim, arith, length-set}
use Rattle.rl_word.specs.laws.Places.{get_set_cases, get_set_other, set_same_get}
use Rattle.rl_word.specs.declared.classes.Mode.{Mode}
use Rattle.rl_word.specs.declared.classes.Mode.TheVariants as mode
use Rattle.rl_step.specs.declared.events.Event.{Event}
use Rattle.rl_step.specs.declared.events.Event.TheVariants as event
use Rattle.rl_step.specs.declared.events.Standing.TheVariants as standing
use Rattle.rl_step.specs.declared.events.Standing.{Standing}
use Rattle.rl_step.specs.Lock.{LockState, IsHolder, Suits, asked, left as left_state, touched}
use Rattle.rl_step.specs.LockQueues.{same}
use Rattle.rl_queue.specs.declared.view.Phase.{Phase}
use Rattle.rl_queue.specs.declared.view.Phase.TheVariants.{Clear}
use Rattle.rl_queue.specs.Queue.{leave_at}
use Rattle.rl_tree.specs.declared.view.TreeView.{TreeView}
use Rattle.rl_tree.specs.laws.TreeCalls.{granted_is}
use Rattle.rl_tree.specs.Tree.{at_hook, tree_standing, at_level, hook_by}
use Rattle.rl_tree.specs.laws.Cases.{standing_by}
use Rattle.rl_tree.specs.TreeGood.{GoodAt}
use Rattle.rl_tree.specs.TreeFacts.{TreeFacts}
use Rattle.rl_tree.specs.laws.TreeStandings.{holds_is, phase_leaves, not_reader, writer_holds}
use Rattle.rl_counter.specs.declared.view.Doing.{Doing}
use Rattle.rl_counter.specs.declared.view.Doing.TheVariants.{Nothing, Arrive, Inside, Depart}
use Rattle.rl_counter.specs.CounterGood.{GroupGood, inside_of, mark_by, Clear as ClearMark}
use Rattle.rl_counter.specs.CounterStatements.{ShareSame}
use Rattle.rl_counter.specs.laws.CounterLaws.{nobody_inside}
use Rattle.rl_counter.specs.laws.CounterFrame.{same_words_counter}
use Rattle.rl_rw.specs.declared.view.RwView.{RwView}
use Rattle.rl_rw.specs.Rw.{Shared, groups, counters_of, rw_view, leaves_at, rw_standing, rw_table, mine_of}
use Rattle.rl_rw.specs.RwGood.{trees, doings, Moded, RwGood}
use Rattle.rl_rw.specs.laws.RwRows.{marks_hook, hooked_same, stays}
use Rattle.rl_rw.specs.laws.RwWords.{IsSound, group_there, self_mine}
use Rattle.rl_rw.specs.laws.RwKeeps.{AllCounters, as_tree, as_doing, is_there, viewed}

-- who stands as a writer in the tree has the queue, and isn't at the hook as it leaves
granted_at : (q : Bool) (p : Phase) → standing_by q p ≡ standing.Writer → hook_by false (leave_at p true) ≡ false
granted_at q p e = let n = granted_is p (holds_is q p (writer_holds (standing_by q p) e)).1 in ap (λ z. hook_by false (leave_at z true)) n.1

-- who holds the lock in the tree is a writer, and leaves
pub tree_holder : (q : Bool) (p : Phase) → IsHolder (standing_by q p) →
    (standing_by q p ≡ standing.Writer) × (standing_by false (leave_at p true) ≡ standing.Leaving)
tree_holder q p h =
    let k = holds_is q p h in
    let n = granted_is p k.1 in (ap (λ z. standing_by z p) k.0 ∙ ap (standing_by false) n.1, phase_leaves p k.1)

-- who is out or has asked to write, and is no reader, stands as suits
suits_standing : (m : Mode) (st : Standing) → (st ≡ standing.Out) ⊎ (m ≡ mode.Write) → (st ≡ standing.Reader → ⊥) → Suits true m st
suits_standing m standing.Out h other = tt
suits_standing m standing.Asking h other = tt
suits_standing m standing.Writer h other = ⊎_elim (λ e. cc) (λ w. w) h
suits_standing m standing.Reader h other = absurd (other refl)
suits_standing m standing.Leaving h other = tt

-- who holds the lock is a writer of the tree, or a reader
pub data Holds (p : Doing) (t : TreeView) : Type 0 where
  Writes : p ≡ Nothing → tree_standing t ≡ standing.Writer → Holds p t
  Reads : p ≡ Inside → Holds p t

pub holds_at : (p : Doing) (t : TreeView) → IsHolder (rw_standing p t) → Holds p t
holds_at Nothing t h = Writes refl (tree_holder t.query t.phase h).0
holds_at Inside t h = Reads refl
holds_at _ t h = absurd h

pub leaving_at : (v : RwView) (p : Doing) (h : IsHolder (rw_standing p v.tree)) → v.counter.doing ≡ p →
    rw_standing (leaves_at v p).counter.doing (leaves_at v p).tree ≡ standing.Leaving
leaving_at v Nothing h e = (tree_holder v.tree.query v.tree.phase h).1
leaving_at v Inside h e = refl
leaving_at v _ h e = absurd h

pub suits_at : (m : Mode) (p : Doing) (t : TreeView) → Moded p t m → Suits true m (rw_standing p t)
suits_at m Nothing t h = suits_standing m (tree_standing t) h (not_reader t.query t.phase)
suits_at m Inside t h = h
suits_at m _ t h = tt

-- who is out, is out of the tree and does nothing
pub out_at_both : (p : Doing) (t : TreeView) → rw_standing p t ≡ standing.Out → (p ≡ Nothing) × (tree_standing t ≡ standing.Out)
out_at_both Nothing t e = (refl, e)
out_at_both _ t e = cc

module _ (K : Shared) (levels : ℕ) (F : TreeFacts K.rooted levels) (d : IsSound K) where
  abbrev Good : Bool → List ℕ → List TreeView → List Event → Type 0
  Good = GoodAt K.rooted levels

  -- Where a rank's view changes and no word does, its counters keep their shares.
  still_counters : (s : LockState RwView) (r : ℕ) (t : TreeView) (c : ℕ) (p q : Doing) (g : RwGood K levels s) →
      slice_get s.views r ≡ Some (rw_view t c p) → ShareSame p q →
      AllCounters K s.words (slice_set (doings s.views) r q) (mark_by g.inside g.hook)
  still_counters s r t c p q g has same i lt = same_words_counter (counters_of K) (groups K) (mine_of K) i s.words (doings s.views)
      (mark_by g.inside g.hook i) r p q (as_doing K levels F d s r (rw_view t c p) has) (λ e. same) (g.counters i lt)

  same_trees : (s : LockState RwView) (r : ℕ) (v : RwView) → slice_get s.views r ≡ Some v → slice_set (trees s.views) r v.tree ≡ trees s.views
  same_trees s r v has = set_same_get (trees s.views) r v.tree (as_tree K levels F d s r v has)

  asked_mode : (ms : List Mode) (r : ℕ) (m k : Mode) → slice_get (slice_set ms r m) r ≡ Some k → k ≡ m
  asked_mode ms r m k e = ⊎_elim (λ p. p.1) (λ p. absurd (p.0 refl)) (get_set_cases ms r r m k e)

  ask_out : (s : LockState RwView) (r : ℕ) (t : TreeView) (c : ℕ) (m : Mode) → RwGood K levels s →
      slice_get s.views r ≡ Some (rw_view t c Nothing) → tree_standing t ≡ standing.Out →
      RwGood K levels (asked (rw_table K) s r (rw_view t c Nothing) m)
  ask_out s r t c mode.Read g has out =
      let v : RwView = rw_view t c Nothing in
      let w : RwView = rw_view t c Arrive in
      stays K levels s (asked (rw_table K) s r (rw_view t c Nothing) mode.Read) r v w g has refl refl (length-set s.modes r mode.Read) refl out
      (λ m e. asked_mode s.modes r mode.Read m e) (λ k ne. get_set_other s.modes r k mode.Read ne)
      g.inside (subst (λ z. Good g.inside s.words z s.trace) (sym (same_trees s r v has)) g.tree)
      g.hook (hooked_same s.views r v w g.hook has (λ m. m) (λ m. m) g.hooked)
      (still_counters s r t c Nothing Arrive g has (refl, refl, refl)) g.batches (λ one. tt)
  ask_out s r t c mode.Write g has out =
      let v : RwView = rw_view t c Nothing in
      let w : RwView = rw_view (at_level t 0 Clear) c Nothing in
      stays K levels s (asked (rw_table K) s r (rw_view t c Nothing) mode.Write) r v w g has refl refl (length-set s.modes r mode.Write) refl refl
      (λ m e. inr (asked_mode s.modes r mode.Write m e)) (λ k ne. get_set_other s.modes r k mode.Write ne)
      g.inside (F.asks g.inside s.words (trees s.views) s.trace r t (viewed K levels F d s r v g has) out)
      g.hook (hooked_same s.views r v w g.hook has (λ m. m) (λ m. m) g.hooked)
      (still_counters s r t c Nothing Nothing g has (refl, refl, refl)) g.batches (λ one. tt)

  pub ask_at : (s : LockState RwView) (r : ℕ) (t : TreeView) (c : ℕ) (p : Doing) (m : Mode) → RwGood K levels s →
      slice_get s.views r ≡ Some (rw_view t c p) → rw_standing p t ≡ standing.Out →
      RwGood K levels (asked (rw_table K) s r (rw_view t c p) m)
  ask_at s r t c p m g has out =
      let o = out_at_both p t out in
      subst (λ z. RwGood K levels (asked (rw_table K) s r (rw_view t c z) m)) (sym o.0)
      (ask_out s r t c m g (subst (λ z. slice_get s.views r ≡ Some (rw_view t c z)) o.0 has) o.1)

  leave_writer : (s : LockState RwView) (r : ℕ) (t : TreeView) (c : ℕ) → RwGood K levels s →
      slice_get s.views r ≡ Some (rw_view t c Nothing) → tree_standing t ≡ standing.Writer →
      RwGood K levels (left_state (rw_table K) s r (rw_view t c Nothing) (event.LeaveW r))
  leave_writer s r t c g has wr =
      let v : RwView = rw_view t c Nothing in
      let w : RwView = rw_view (at_level t 0 (leave_at t.phase true)) c Nothing in
      stays K levels s (left_state (rw_table K) s r (rw_view t c Nothing) (event.LeaveW r)) r v w g has refl refl refl refl (granted_at t.query t.phase wr)
      (λ m e. inr (⊎_elim (λ out. let no : standing.Out ≡ standing.Writer = sym out ∙ wr in cc) (λ x. x) (g.moded r v m has e))) (λ k ne. refl)
      g.inside (F.leaves g.inside s.words (trees s.views) s.trace r t (viewed K levels F d s r v g has) wr)
      g.hook (hooked_same s.views r v w g.hook has (λ m. m) (λ m. m) g.hooked)
      (still_counters s r t c Nothing Nothing g has (refl, refl, refl)) g.batches (λ one. tt)

  leave_reader : (s : LockState RwView) (r : ℕ) (t : TreeView) (c : ℕ) → RwGood K levels s →
      slice_get s.views r ≡ Some (rw_view t c Inside) → RwGood K levels (left_state (rw_table K) s r (rw_view t c Inside) (event.LeaveR r))
  leave_reader s r t c g has =
      let v : RwView = rw_view t c Inside in
      let w : RwView = rw_view t c Depart in
      stays K levels s (left_state (rw_table K) s r (rw_view t c Inside) (event.LeaveR r)) r v w g has refl refl refl refl (g.place r v has)
      (λ m e. g.moded r v m has e) (λ k ne. refl)
      g.inside (subst (λ z. Good g.inside s.words z (s.trace ++ event.LeaveR r ∷ [])) (sym (same_trees s r v has))
      (F.beside g.inside s.words (trees s.views) s.trace (event.LeaveR r) tt g.tree))
      g.hook (hooked_same s.views r v w g.hook has (λ m. m) (λ m. m) g.hooked)
      (still_counters s r t c Inside Depart g has (refl, refl, refl)) g.batches (λ one. tt)

  pub leave_writer_at : (s : LockState RwView) (r : ℕ) (t : TreeView) (c : ℕ) (p : Doing) → RwGood K levels s →
      slice_get s.views r ≡ Some (rw_view t c p) → rw_standing p t ≡ standing.Writer →
      RwGood K levels (left_state (rw_table K) s r (rw_view t c p) (event.LeaveW r))
  leave_writer_at s r t c Nothing g has e = leave_writer s r t c g has e
  leave_writer_at s r t c _ g has e = cc

  pub leave_reader_at : (s : LockState RwView) (r : ℕ) (t : TreeView) (c : ℕ) (p : Doing) → RwGood K levels s →
      slice_get s.views r ≡ Some (rw_view t c p) → rw_standing p t ≡ standing.Reader →
      RwGood K levels (left_state (rw_table K) s r (rw_view t c p) (event.LeaveR r))
  leave_reader_at s r t c Nothing g has e = absurd (not_reader t.query t.phase e)
  leave_reader_at s r t c Inside g has e = leave_reader s r t c g has
  leave_reader_at s r t c _ g has e = cc

  pub touch_at : (s : LockState RwView) (r : ℕ) (w : Bool) → RwGood K levels s → RwGood K levels (touched s r w)
  touch_at s r w g =
      record {
        all_words = g.all_words;
        all_views = g.all_views;
        all_modes = g.all_modes;
        inside = g.inside;
        tree = F.beside g.inside s.words (trees s.views) s.trace (event.Touch r w) tt g.tree;
        hook = g.hook;
        hooked = g.hooked;
        counters = g.counters;
        own = g.own;
        place = g.place;
        moded = g.moded;
        batches = g.batches;
        lonely = g.lonely;
      }

  -- NO READER BESIDE A WRITER: the root's gate is open, so nobody is at the hook, and all counters are clear.
  no_reader_beside : (s : LockState RwView) (i j : ℕ) (v w : RwView) → RwGood K levels s → slice_get s.views i ≡ Some v →
      slice_get s.views j ≡ Some w → tree_standing v.tree ≡ standing.Writer → w.counter.doing ≡ Inside → ⊥
  no_reader_beside s i j v w g hi hj wr rd =
      let opened : g.inside ≡ true = F.holder_open g.inside s.words (trees s.views) s.trace i v.tree (viewed K levels F d s i v g hi) wr in
      let free : g.hook ≡ Nothing = ⊎_elim (λ e. e)
      (λ k.
      let hook : at_hook k.view.tree ≡ true = marks_hook (groups K) k.view.counter.doing k.view.tree k.marks (g.place k.rank k.view k.has) in
      let shut : g.inside ≡ false = F.hook_shut g.inside s.words (trees s.views) s.trace k.rank k.view.tree
      (viewed K levels F d s k.rank k.view g k.has) hook in
      let no : true ≡ false = sym opened ∙ shut in cc) g.hooked.some in
      let lt : j / K.group < groups K = group_there K j d (is_there K levels F d s j w g hj) in
      let clear = subst (λ z. GroupGood (counters_of K) (mine_of K (j / K.group)) (j / K.group) s.words (doings s.views) z)
      (ap (λ z. mark_by g.inside z (j / K.group)) free ∙ ap (λ z. mark_by z Nothing (j / K.group)) opened)
      (g.counters (j / K.group) lt) in
      let none : inside_of w.counter.doing ≡ 0 = nobody_inside (counters_of K) (groups K) (mine_of K) s.words (doings s.views) ClearMark
      (j / K.group) j w.counter.doing tt clear (as_doing K levels F d s j w hj) (self_mine K j) in
      let no : inside_of Inside ≡ 0 = sym (ap inside_of rd) ∙ none in absurd (omega arith)

  pub excludes_at : (s : LockState RwView) (i j : ℕ) (v w : RwView) → RwGood K levels s → slice_get s.views i ≡ Some v →
      slice_get s.views j ≡ Some w → rw_standing v.counter.doing v.tree ≡ standing.Writer → IsHolder (rw_standing w.counter.doing w.tree) →
      i ≡ j
  excludes_at s i j v w g hi hj wv hw = by (holds_at v.counter.doing v.tree (subst IsHolder (sym wv) tt)) (holds_at w.counter.doing w.tree hw) where
    by : Holds v.counter.doing v.tree → Holds w.counter.doing w.tree → i ≡ j
    by (Writes p a) (Writes q b) = F.one_holder g.inside s.words (trees s.views) s.trace i j v.tree w.tree (viewed K levels F d s i v g hi)
        (viewed K levels F d s j w g hj) (writer_holds (tree_standing v.tree) a) (writer_holds (tree_standing w.tree) b)
    by (Writes p a) (Reads q) = absurd (no_reader_beside s i j v w g hi hj a q)
    by (Reads p) h = let no : standing.Reader ≡ standing.Writer = sym (ap (λ z. rw_standing z v.tree) p) ∙ wv in cc
