-- Each act of a reader, and each act of a rank at the marks, keeps a state of RMA-RW good; the last act of a task lets the tree go on.
use Rattle.std.specs.Prelude.{◌≡◌, ◌⊎◌, ℕ, ◌/◌, ◌^◌, ◌<◌, ◌≤◌, Bool, true, List, [], ◌++◌, length, slice_get, slice_index, slice_set, Some, refl}
use Rattle.std.proofs.Common.{sym, ◌∙◌, ap, subst, inl, inr, ⊎_elim, arith, length-set, append_assoc}
use Rattle.std.proofs.lemmas.List.{append-nil, set-get_or}
use Rattle.std.proofs.lemmas.Option.{same_Some, slice_get_within}
use Rattle.rl_word.specs.laws.Places.{set_same_get, get_map_back, one_at}
use Rattle.rl_word.specs.declared.acts.Act.{Act}
use Rattle.rl_word.specs.declared.acts.Act.TheVariants.{Load, CardAdd}
use Rattle.rl_word.specs.Acts.{word_of, written, told}
use Rattle.rl_step.specs.declared.events.Event.{Event}
use Rattle.rl_step.specs.declared.events.Event.TheVariants as event
use Rattle.rl_step.specs.declared.events.Standing.TheVariants as standing
use Rattle.rl_step.specs.Lock.{LockState, found}
use Rattle.rl_step.specs.Overtaking.{opened}
use Rattle.rl_tree.specs.declared.view.TreeView.{TreeView}
use Rattle.rl_tree.specs.Tree.{at_hook, tree_standing, entry_if}
use Rattle.rl_tree.specs.Elements.{ranks_in}
use Rattle.rl_tree.specs.TreeGood.{GoodAt}
use Rattle.rl_tree.specs.TreeFacts.{TreeFacts, opens, resumed_in}
use Rattle.rl_counter.specs.declared.view.Doing.{Doing}
use Rattle.rl_counter.specs.declared.view.Doing.TheVariants.{Nothing}
use Rattle.rl_counter.specs.laws.CounterKeeps.{refused_low}
use Rattle.rl_counter.specs.CounterGood.{Down, GroupGood, IsMark, IsReader, mark_by}
use Rattle.rl_counter.specs.CounterStatements.{IsOfGroup}
use Rattle.rl_counter.specs.Counter.{arrive_word, counter_act, counter_turn}
use Rattle.rl_counter.specs.laws.CounterFrame.{reader_word, readers_keep}
use Rattle.rl_counter.specs.laws.CounterLaws.{tells_what_it_finds}
use Rattle.rl_rw.specs.declared.view.RwView.{RwView}
use Rattle.rl_rw.specs.Rw.{Shared, groups, behind_tree, counters_of, rw_view, after_hook, from_counter, mine_of}
use Rattle.rl_rw.specs.RwGood.{trees, doings, Place, Moded, Lonely, RwGood}
use Rattle.rl_rw.specs.laws.RwRows.{marks_hook, mark_free, hooked_same, hooked_at, hooked_off, stays}
use Rattle.rl_rw.specs.laws.RwWords.{IsSound, group_there, arrive_is, depart_is, are_sound, of_group}
use Rattle.rl_rw.specs.laws.RwKeeps.{reader_out, reader_read, reader_unmarked, mark_mode, after, AllCounters, AllBatched, QuietEvents, reader_goes, reader_lonely, as_tree, as_doing, all_trees, all_doings, is_there, tree_long, away_now, entered}

module _ (K : Shared) (levels : ℕ) (F : TreeFacts K.rooted levels) (d : IsSound K) where
  abbrev Good : Bool → List ℕ → List TreeView → List Event → Type 0
  Good = GoodAt K.rooted levels

  abbrev there : List ℕ → Act → List ℕ
  there ws a = slice_set ws (word_of a) (written a (slice_index ws (word_of a)))

  -- the tree doesn't see an act that is on a word behind its own, or that writes what it found
  unseen : (o : Bool) (ws : List ℕ) (vs : List TreeView) (t : List Event) (a : Act) →
      ((behind_tree K ≤ word_of a) ⊎ ((x : ℕ) → written a x ≡ x)) → Good o ws vs t → Good o (there ws a) vs t
  unseen o ws vs t a h g =
      ⊎_elim
      (λ low. F.beyond o ws vs t (word_of a) (written a (slice_index ws (word_of a))) low g)
      (λ f. let e : there ws a ≡ ws = ap (slice_set ws (word_of a)) (f (slice_index ws (word_of a))) ∙ set-get_or ws (word_of a) 0 in
      subst (λ z. Good o z vs t) (sym e) g) h

  -- nor a reader's entry
  quiet_trace : (o : Bool) (ws : List ℕ) (vs : List TreeView) (t es : List Event) (m : ℕ) → QuietEvents m es → Good o ws vs t → Good o ws vs (t ++ es)
  quiet_trace o ws vs t es m q g =
      ⊎_elim
      (λ e. subst (λ z. Good o ws vs (t ++ z)) (sym e) (subst (Good o ws vs) (sym (append-nil t)) g))
      (λ e. subst (λ z. Good o ws vs (t ++ z)) (sym e) (F.beside o ws vs t (event.EnterR m) tt g)) q

  reader_behind : (s : LockState RwView) (r : ℕ) (t : TreeView) (c : ℕ) (p : Doing) (a : Act) → RwGood K levels s →
      slice_get s.views r ≡ Some (rw_view t c p) → IsReader p → counter_act (counters_of K) c p ≡ Some a →
      (behind_tree K ≤ word_of a) ⊎ ((x : ℕ) → written a x ≡ x)
  reader_behind s r t c p a g has rd pl =
      let own : c ≡ r / K.group = g.own r (rw_view t c p) has in
      let lc : c < groups K = subst (λ z. z < groups K) (sym own) (group_there K r d (is_there K levels F d s r (rw_view t c p) g has)) in
      ⊎_elim (λ w. inl (⊎_elim (λ e. let k = arrive_is K c lc in omega arith) (λ e. let k = depart_is K c lc in omega arith) w)) inr
      (reader_word (counters_of K) c p a rd pl)

  -- where there is one rank, its view is the only one
  only_view : (s : LockState RwView) (r k : ℕ) (v x : RwView) → ranks_in K.rooted ≡ 1 → RwGood K levels s → slice_get s.views r ≡ Some v →
      slice_get s.views k ≡ Some x → x ≡ v
  only_view s r k v x one g has h =
      let lk = slice_get_within s.views k x h in
      let lr = slice_get_within s.views r v has in
      let all = g.all_views in
      let e : k ≡ r = omega arith in
      one_at s.views r x v (subst (λ i. slice_get s.views i ≡ Some x) e h) has

  -- With one rank, nothing is marked while it reads: what it finds in arrive is below the mark, and the root's tail is 0.
  one_low : (s : LockState RwView) (r : ℕ) (t : TreeView) (c : ℕ) (p : Doing) → ranks_in K.rooted ≡ 1 → RwGood K levels s →
      slice_get s.views r ≡ Some (rw_view t c p) → IsReader p →
      (slice_index s.words (arrive_word (counters_of K) c) < 2 ^ 32) × (slice_index s.words 0 ≡ 0)
  one_low s r t c p one g has rd =
      let out : tree_standing t ≡ standing.Out = reader_out (groups K) p t rd (g.place r (rw_view t c p) has) in
      let there_r = is_there K levels F d s r (rw_view t c p) g has in
      let all_out : (k : ℕ) (x : TreeView) → slice_get (trees s.views) k ≡ Some x → tree_standing x ≡ standing.Out = λ k x h.
      let b = get_map_back (λ z. z.tree) s.views k x h in ap tree_standing (sym b.2
      ∙ ap (λ z. z.tree) (only_view s r k (rw_view t c p) b.0 one g has b.1)) ∙ out in
      let q = F.rest_shut g.inside s.words (trees s.views) s.trace (all_trees K levels F d s g) g.tree all_out in
      let free : g.hook ≡ Nothing = ⊎_elim (λ e. e) (λ k. absurd
      (reader_unmarked p rd (subst (λ z. IsMark z.counter.doing)
      (only_view s r k.rank (rw_view t c p) k.view one g has k.has) k.marks))) g.hooked.some in
      let own : c ≡ r / K.group = g.own r (rw_view t c p) has in
      let lc : c < groups K = subst (λ z. z < groups K) (sym own) (group_there K r d there_r) in
      let down : GroupGood (counters_of K) (mine_of K c) c s.words (doings s.views) Down =
      subst (λ z. GroupGood (counters_of K) (mine_of K c) c s.words (doings s.views) z)
      (ap (λ z. mark_by g.inside z c) free ∙ ap (λ z. mark_by z Nothing c) q.0) (g.counters c lc) in
      let few = d.few in
      let refused = refused_low (counters_of K) (groups K) d.few (mine_of K c) (doings s.views) (all_doings K levels F d s g) in
      let b = down.balance in let e = down.ceiling in
      (omega arith, q.1)

  -- each act of a reader keeps all counters, whatever the marks are
  readers_all : (s : LockState RwView) (r : ℕ) (t : TreeView) (c : ℕ) (p : Doing) (a : Act) (g : RwGood K levels s) →
      slice_get s.views r ≡ Some (rw_view t c p) → IsReader p → counter_act (counters_of K) c p ≡ Some a →
      AllCounters K (there s.words a) (slice_set (doings s.views) r (counter_turn (counters_of K) p (told a (found s a))).doing) (mark_by g.inside g.hook)
  readers_all s r t c p a g has rd pl =
      let own : c ≡ r / K.group = g.own r (rw_view t c p) has in
      let lc : c < groups K = subst (λ z. z < groups K) (sym own) (group_there K r d (is_there K levels F d s r (rw_view t c p) g has)) in
      readers_keep (counters_of K) (groups K) (mine_of K) s.words (doings s.views) (mark_by g.inside g.hook) r c p a
      (are_sound K d s.words (doings s.views) g.all_words (all_doings K levels F d s g)) lc
      (subst (IsOfGroup (mine_of K) r) (sym own) (of_group K d r)) (as_doing K levels F d s r (rw_view t c p) has) rd pl g.counters

  -- An act of a reader.
  pub reads_keep : (s : LockState RwView) (r : ℕ) (t : TreeView) (c : ℕ) (p : Doing) (a : Act) → RwGood K levels s →
      slice_get s.views r ≡ Some (rw_view t c p) → IsReader p → counter_act (counters_of K) c p ≡ Some a →
      AllBatched K (after s r a (from_counter K (rw_view t c p) p (counter_turn (counters_of K) p (told a (found s a))).doing
      (counter_turn (counters_of K) p (told a (found s a))).waits)) →
      RwGood K levels (after s r a (from_counter K (rw_view t c p) p (counter_turn (counters_of K) p (told a (found s a))).doing
      (counter_turn (counters_of K) p (told a (found s a))).waits))
  reads_keep s r t c p a g has rd pl bs =
      let v : RwView = rw_view t c p in
      let got : ℕ = told a (found s a) in
      let q : Doing = (counter_turn (counters_of K) p (told a (found s a))).doing in
      let w : RwView = rw_view t c (counter_turn (counters_of K) p (told a (found s a))).doing in
      let T = from_counter K (rw_view t c p) p (counter_turn (counters_of K) p (told a (found s a))).doing
      (counter_turn (counters_of K) p (told a (found s a))).waits in
      let out : tree_standing t ≡ standing.Out = reader_out (groups K) p t rd (g.place r (rw_view t c p) has) in
      let goes = reader_goes K t c p got out rd in
      let same_tree : slice_set (trees s.views) r t ≡ trees s.views = set_same_get (trees s.views) r t (as_tree K levels F d s r v has) in
      stays K levels s (after s r a T) r v w g has (length-set s.words (word_of a) (written a (found s a))) (ap (slice_set s.views r) goes.0) refl refl goes.1
      (λ m e. subst (Moded q t) (sym (reader_read p t m rd (g.moded r v m has e))) goes.2) (λ k ne. refl)
      g.inside (subst (λ z. Good g.inside (there s.words a) z (s.trace ++ T.events)) (sym same_tree)
      (quiet_trace g.inside (there s.words a) (trees s.views) s.trace T.events t.rank goes.4
      (unseen g.inside s.words (trees s.views) s.trace a (reader_behind s r t c p a g has rd pl) g.tree)))
      g.hook (hooked_same s.views r v w g.hook has (reader_unmarked p rd) goes.3 g.hooked)
      (readers_all s r t c p a g has rd pl)
      bs
      (λ one.
      let low = one_low s r t c p one g has rd in
      let tells : told a (found s a) ≡ found s a = (tells_what_it_finds (counters_of K) c p a (found s a) pl).1 in
      reader_lonely K s.words (there s.words a) p got rd (g.lonely one r v has)
      (λ e. let pa : CardAdd (arrive_word (counters_of K) c) 1 ≡ a = same_Some _ _ (ap (counter_act (counters_of K) c) (sym e) ∙ pl) in
      subst (λ z. z < 2 ^ 32) (ap (λ z. slice_index s.words (word_of z)) pa ∙ sym tells) low.0)
      (λ x e. let pa : Load 0 ≡ a = same_Some _ _ (ap (counter_act (counters_of K) c) (sym e) ∙ pl) in
      tells ∙ sym (ap (λ z. slice_index s.words (word_of z)) pa) ∙ low.1))

  -- A rank at the marks that goes on there.
  pub marks_on : (s : LockState RwView) (r : ℕ) (t : TreeView) (c : ℕ) (p q : Doing) (a : Act) (w o : Bool) → RwGood K levels s →
      slice_get s.views r ≡ Some (rw_view t c p) → IsMark p → IsMark q → Place (groups K) q t → (behind_tree K ≤ word_of a) →
      AllCounters K (there s.words a) (slice_set (doings s.views) r q) (mark_by o q) → (ranks_in K.rooted ≡ 1 → Lonely K (there s.words a) q) →
      AllBatched K (after s r a (record { view = rw_view t c q; events = []; waits = w })) → RwGood K levels
      (after s r a (record { view = rw_view t c q; events = []; waits = w }))
  marks_on s r t c p q a w o g has mp mq row behind counters lonely bs =
      let v : RwView = rw_view t c p in
      let x : RwView = rw_view t c q in
      let hook : at_hook t ≡ true = marks_hook (groups K) p t mp (g.place r v has) in
      let same_tree : slice_set (trees s.views) r t ≡ trees s.views = set_same_get (trees s.views) r t (as_tree K levels F d s r v has) in
      stays K levels s (after s r a (record { view = rw_view t c q; events = []; waits = w })) r v x g has
      (length-set s.words (word_of a) (written a (found s a))) refl refl refl row
      (λ m e. (mark_mode q t m mq).1 ((mark_mode p t m mp).0 (g.moded r v m has e))) (λ k ne. refl)
      g.inside (subst (λ z. Good g.inside (there s.words a) z (s.trace ++ [])) (sym same_tree)
      (subst (Good g.inside (there s.words a) (trees s.views)) (sym (append-nil s.trace))
      (F.beyond g.inside s.words (trees s.views) s.trace (word_of a) (written a (found s a)) behind g.tree)))
      q (hooked_at s.views r v x has mq (away_now K levels F d s r v g has hook))
      (λ i lt. subst (GroupGood (counters_of K) (mine_of K i) i (there s.words a) (slice_set (doings s.views) r q))
      (mark_free o g.inside q i mq) (counters i lt))
      bs lonely

  -- One that ends its task: the tree goes on in the same act.
  pub marks_end : (s : LockState RwView) (r : ℕ) (t : TreeView) (c : ℕ) (p : Doing) (a : Act) (o : Bool) → RwGood K levels s →
      slice_get s.views r ≡ Some (rw_view t c p) → IsMark p → opens t.phase ≡ o → (behind_tree K ≤ word_of a) →
      AllCounters K (there s.words a) (slice_set (doings s.views) r Nothing) (mark_by o Nothing) →
      AllBatched K (after s r a (after_hook K (rw_view t c p))) → RwGood K levels (after s r a (after_hook K (rw_view t c p)))
  marks_end s r t c p a o g has mp opened behind counters bs =
      let v : RwView = rw_view t c p in
      let R = resumed_in K.rooted t in
      let x : RwView = rw_view (resumed_in K.rooted t).view c Nothing in
      let hook : at_hook t ≡ true = marks_hook (groups K) p t mp (g.place r v has) in
      let long : behind_tree K ≤ length (there s.words a) = let e = length-set s.words (word_of a) (written a (found s a)) in
      let f = tree_long K levels F d s g in omega arith in
      let went = F.resumes g.inside (there s.words a) (trees s.views) s.trace r t
      (record {
        long = long;
        all = all_trees K levels F d s g;
        is_good =
            F.beyond g.inside s.words (trees s.views) s.trace (word_of a) (written a (found s a)) behind g.tree;
        has =
            as_tree K levels F d s r v has;
      }) hook in
      stays K levels s (after s r a (after_hook K (rw_view t c p))) r v x g has
      (length-set s.words (word_of a) (written a (found s a))) refl refl refl (F.unhooks t hook)
      (λ m e. inr ((mark_mode p t m mp).0 (g.moded r v m has e))) (λ k ne. refl)
      o (subst (λ z. Good z (there s.words a) (slice_set (trees s.views) r R.view)
      (s.trace ++ (R.events ++ entry_if R.view.query R.view.phase R.view.rank))) opened
      (subst (Good (opens t.phase) (there s.words a) (slice_set (trees s.views) r R.view))
      (append_assoc s.trace R.events (entry_if R.view.query R.view.phase R.view.rank))
      (entered K levels F d (opens t.phase) (there s.words a) (slice_set (trees s.views) r R.view)
      (s.trace ++ R.events) R.view.query R.view.phase R.view.rank went)))
      Nothing (hooked_off s.views r x (λ m. m) (away_now K levels F d s r v g has hook))
      counters bs (λ one. tt)
