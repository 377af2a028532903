-- Each act of RMA-RW keeps a state good.
use Rattle.std.specs.Prelude.{length, ◌≤◌, ◌≡◌, ℕ, ◌<◌, Bool, true, false, List, ◌++◌, slice_get, slice_index, slice_set, Some, None, refl}
use Rattle.std.proofs.Common.{arith, sym, ◌∙◌, ap, subst, inl, inr, ⊎_elim, length-set, append_assoc}
use Rattle.std.proofs.lemmas.Option.{same_Some}
use Rattle.rl_word.specs.declared.classes.Mode.{Mode}
use Rattle.rl_word.specs.declared.classes.Mode.TheVariants as mode
use Rattle.rl_word.specs.declared.acts.Act.{Act}
use Rattle.rl_word.specs.Acts.{word_of, written}
use Rattle.rl_step.specs.declared.events.Event.{Event}
use Rattle.rl_step.specs.Lock.{LockState, acted, found}
use Rattle.rl_step.specs.LockQueues.{same}
use Rattle.rl_tree.specs.declared.view.TreeView.{TreeView}
use Rattle.rl_tree.specs.Tree.{at_hook, tree_plan, entry_if}
use Rattle.rl_tree.specs.Elements.{tree_of}
use Rattle.rl_tree.specs.TreeFacts.{GateMoves, TreeFacts, learnt_in}
use Rattle.rl_tree.specs.TreeGood.{GoodAt}
use Rattle.rl_tree.specs.laws.TreeStandings.{hook_cases}
use Rattle.rl_counter.specs.declared.view.Doing.{Doing}
use Rattle.rl_counter.specs.declared.view.Doing.TheVariants.{Nothing}
use Rattle.rl_counter.specs.CounterGood.{GroupGood, IsMark, Mark, mark_by}
use Rattle.rl_counter.specs.CounterStatements.{ShareSame}
use Rattle.rl_counter.specs.Counter.{off}
use Rattle.rl_counter.specs.laws.CounterFrame.{other_counter}
use Rattle.rl_rw.specs.declared.view.RwView.{RwView}
use Rattle.rl_rw.specs.Rw.{Shared, groups, behind_tree, counters_of, rw_view, hooks, from_tree, rw_table, mine_of}
use Rattle.rl_rw.specs.RwGood.{trees, doings, Lonely, RwGood}
use Rattle.rl_rw.specs.laws.RwRows.{hook_place, out_plans_not, hooked_same, hooked_at, stays}
use Rattle.rl_rw.specs.laws.RwWords.{IsSound, tree_word_apart, batches_keep}
use Rattle.rl_rw.specs.laws.RwKeeps.{mark_mode, hooks_all, hook_marks, by_bool, after, AllBatched, as_doing, is_named, some_group, away_then, entered, acts_in, tree_long}

module _ (K : Shared) (levels : ℕ) (F : TreeFacts K.rooted levels) (d : IsSound K) where
  abbrev Good : Bool → List ℕ → List TreeView → List Event → Type 0
  Good = GoodAt K.rooted levels

  abbrev there : List ℕ → Act → List ℕ
  there ws a = slice_set ws (word_of a) (written a (slice_index ws (word_of a)))

  -- who plans an act in the tree has asked to write
  writes : (s : LockState RwView) (r : ℕ) (t : TreeView) (c : ℕ) (a : Act) (m : Mode) → RwGood K levels s →
      slice_get s.views r ≡ Some (rw_view t c Nothing) → tree_plan (tree_of K.rooted) t ≡ Some a → slice_get s.modes r ≡ Some m →
      m ≡ mode.Write
  writes s r t c a m g has pl e =
      ⊎_elim (λ out. let no : None ≡ Some a = sym (out_plans_not (tree_of K.rooted) t out) ∙ pl in cc) (λ w. w) (g.moded r (rw_view t c Nothing) m has e)

  -- an act of the tree that stays away from the hook
  tree_away : (s : LockState RwView) (r : ℕ) (t : TreeView) (c : ℕ) (a : Act) (n : Bool) (g : RwGood K levels s) →
      slice_get s.views r ≡ Some (rw_view t c Nothing) → tree_plan (tree_of K.rooted) t ≡ Some a → word_of a < behind_tree K →
      n ≡ g.inside → at_hook (learnt_in K.rooted s.words t a).view ≡ false → Good n (there s.words a)
      (slice_set (trees s.views) r (learnt_in K.rooted s.words t a).view) (s.trace ++ (learnt_in K.rooted s.words t a).events) →
      AllBatched K (after s r a (from_tree (rw_view t c Nothing) false (learnt_in K.rooted s.words t a))) → RwGood K levels
      (after s r a (from_tree (rw_view t c Nothing) false (learnt_in K.rooted s.words t a)))
  tree_away s r t c a n g has pl low same off good bs =
      let v : RwView = rw_view t c Nothing in
      let w : RwView = rw_view (learnt_in K.rooted s.words t a).view c Nothing in
      let U = learnt_in K.rooted s.words t a in
      stays K levels s (after s r a (from_tree (rw_view t c Nothing) false (learnt_in K.rooted s.words t a))) r v w g has
      (length-set s.words (word_of a) (written a (found s a))) refl refl refl off
      (λ m e. inr (writes s r t c a m g has pl e)) (λ k ne. refl)
      n (subst (Good n (there s.words a) (slice_set (trees s.views) r U.view)) (append_assoc s.trace U.events (entry_if U.view.query U.view.phase U.view.rank))
      (entered K levels F d n (there s.words a) (slice_set (trees s.views) r U.view) (s.trace ++ U.events) U.view.query U.view.phase U.view.rank good))
      g.hook (hooked_same s.views r v w g.hook has (λ m. m) (λ m. m) g.hooked)
      (λ i lt.
      let ap2 = tree_word_apart K i (word_of a) lt low in
      other_counter (counters_of K) (groups K) (mine_of K) i s.words (doings s.views) (mark_by n g.hook i) (word_of a)
      (written a (found s a)) r Nothing Nothing ap2.0 ap2.1 (as_doing K levels F d s r v has) (λ e. (refl, refl, refl))
      (subst (λ z. AllCountersAt i (mark_by z g.hook i)) (sym same) (g.counters i lt)))
      bs (λ one. tt) where
        AllCountersAt : ℕ → Mark → Type 0
        AllCountersAt i m = GroupGood (counters_of K) (mine_of K i) i s.words (doings s.views) m

  -- one that comes to the hook: the rank begins at the marks
  tree_hooks : (s : LockState RwView) (r : ℕ) (t : TreeView) (c : ℕ) (a : Act) (n : Bool) (g : RwGood K levels s) →
      slice_get s.views r ≡ Some (rw_view t c Nothing) → tree_plan (tree_of K.rooted) t ≡ Some a → word_of a < behind_tree K →
      GateMoves true (learnt_in K.rooted s.words t a).view.phase g.inside n → at_hook (learnt_in K.rooted s.words t a).view ≡ true → Good n
      (there s.words a) (slice_set (trees s.views) r (learnt_in K.rooted s.words t a).view)
      (s.trace ++ (learnt_in K.rooted s.words t a).events) →
      AllBatched K (after s r a (from_tree (rw_view t c Nothing) true (learnt_in K.rooted s.words t a))) → RwGood K levels
      (after s r a (from_tree (rw_view t c Nothing) true (learnt_in K.rooted s.words t a)))
  tree_hooks s r t c a n g has pl low moves hook good bs =
      let v : RwView = rw_view t c Nothing in
      let x : TreeView = (learnt_in K.rooted s.words t a).view in
      let q : Doing = hooks x.phase in
      let w : RwView = rw_view x c (hooks x.phase) in
      let long : behind_tree K ≤ length (there s.words a) = let e = length-set s.words (word_of a) (written a (found s a)) in
      let f = tree_long K levels F d s g in omega arith in
      let away = away_then K levels F d s r v n (there s.words a) x (s.trace ++ (learnt_in K.rooted s.words t a).events) g has long good hook in
      let row = hook_place (groups K) x (some_group K levels F d s r v g has) hook in
      let free : g.hook ≡ Nothing = ⊎_elim (λ e. e)
      (λ k. absurd (away k.rank k.view k.has (λ e. subst (λ z. IsMark z.counter.doing)
      (same_Some _ _ (sym k.has ∙ ap (slice_get s.views) e ∙ has)) k.marks) k.marks)) g.hooked.some in
      stays K levels s (after s r a (from_tree (rw_view t c Nothing) true (learnt_in K.rooted s.words t a))) r v w g has
      (length-set s.words (word_of a) (written a (found s a))) refl refl refl row.0
      (λ m e. (mark_mode q x m row.1).1 (writes s r t c a m g has pl e)) (λ k ne. refl)
      n good q (hooked_at s.views r v w has row.1 away)
      (λ i lt.
      let ap2 = tree_word_apart K i (word_of a) lt low in
      let was : mark_by g.inside g.hook i ≡ mark_by n q i = ap (λ z. mark_by g.inside z i) free
      ∙ hook_marks x.phase g.inside n i (hook_cases x.query x.phase hook).1 moves in
      other_counter (counters_of K) (groups K) (mine_of K) i s.words (doings s.views) (mark_by n q i) (word_of a)
      (written a (found s a)) r Nothing q ap2.0 ap2.1 (as_doing K levels F d s r v has)
      (λ e. hooks_all (λ z. ShareSame Nothing z) x.phase (refl, refl, refl) (refl, refl, refl))
      (subst (λ z. GroupGood (counters_of K) (mine_of K i) i s.words (doings s.views) z) was (g.counters i lt)))
      bs (λ one. hooks_all (Lonely K (there s.words a)) x.phase tt tt)

  pub tree_keeps : (s : LockState RwView) (r : ℕ) (t : TreeView) (c : ℕ) (a : Act) → RwGood K levels s →
      slice_get s.views r ≡ Some (rw_view t c Nothing) → tree_plan (tree_of K.rooted) t ≡ Some a →
      RwGood K levels (acted (rw_table K) s r (rw_view t c Nothing) a)
  tree_keeps s r t c a g has pl =
      let ta = acts_in K levels F d s r t c a g has pl in
      let lawful = F.lawful g.inside s.words (trees s.views) s.trace r t a ta in
      let low : word_of a < behind_tree K = lawful.0.there in
      let n = F.acts g.inside s.words (trees s.views) s.trace r t a ta in
      let bs = batches_keep K d s.words s.deeds r (rw_view t c Nothing) a g.all_words
      (is_named K levels F d s r (rw_view t c Nothing) g has) (g.own r (rw_view t c Nothing) has) pl (inl low) g.batches in
      let U = learnt_in K.rooted s.words t a in
      by_bool (λ b. GateMoves b U.view.phase g.inside n.0 → AllBatched K
      (after s r a (from_tree (rw_view t c Nothing) b U)) → RwGood K levels (after s r a (from_tree (rw_view t c Nothing) b U)))
      (at_hook U.view)
      (λ e moves bb. tree_hooks s r t c a n.0 g has pl low moves e n.2 bb)
      (λ e moves bb. tree_away s r t c a n.0 g has pl low moves e n.2 bb)
      (n.1 d.limited) bs
