-- RMA-RW meets the laws of a lock, given what it needs of its tree.
use Rattle.std.specs.Prelude.{◌<◌, ◌≤◌, ◌≡◌, ℕ, zero, suc, ◌+◌, ◌-◌, ◌*◌, ◌/◌, ◌^◌, ◌==◌, ◌&&◌, Bool, true, false, List, [], ◌∷◌, length, map, nat_lt, if◌then◌else◌, slice_get, slice_index, Some, None, refl, replicate, is_some}
use Rattle.std.proofs.Common.{sym, ◌∙◌, ap, subst, inl, ⊎_elim, arith}
use Rattle.std.proofs.lemmas.Bool.Decides.{nat_tests, eqb_tells}
use Rattle.std.proofs.lemmas.List.{length-map, length-replicate}
use Rattle.std.proofs.lemmas.Option.{same_Some}
use Rattle.rl_word.specs.declared.classes.Mode.{Mode}
use Rattle.rl_word.specs.declared.classes.Mode.TheVariants as mode
use Rattle.rl_word.specs.declared.acts.Act.{Act}
use Rattle.rl_word.specs.declared.acts.Act.TheVariants.{Load}
use Rattle.rl_word.specs.Acts.{word_of, told}
use Rattle.rl_word.specs.laws.Places.{get_map_back}
use Rattle.rl_word.specs.Shapes.{layout_of}
use Rattle.rl_step.specs.declared.events.Event.{Event}
use Rattle.rl_step.specs.declared.events.Standing.TheVariants as standing
use Rattle.rl_step.specs.Lock.{LockState, found, IsLoad, PlansLoad, Told, FindsOld, LockLaws, Acts, opening, first_views}
use Rattle.rl_step.specs.laws.LockLemmas.{length-first_views, first_views_at}
use Rattle.rl_step.specs.Batches.{HandsOn}
use Rattle.rl_step.specs.laws.BatchLaws.{is_batched}
use Rattle.rl_step.specs.Queues.{settled, passed, tenures}
use Rattle.rl_queue.specs.laws.Choices.{choose}
use Rattle.rl_tree.specs.declared.view.TreeView.{TreeView}
use Rattle.rl_tree.specs.declared.rooted.Rooted.{Rooted}
use Rattle.rl_tree.specs.Tree.{at_hook, tree_standing, tree_learn}
use Rattle.rl_tree.specs.Elements.{ranks_in, tree_of, how_many, leaf_of_rank, out_at}
use Rattle.rl_tree.specs.TreeShape.{IsWellShaped, IsTreeLaid, levels_of}
use Rattle.rl_tree.specs.laws.TreeLaid.{laid_shaped}
use Rattle.rl_tree.specs.laws.TreeLaws.{tree_facts}
use Rattle.rl_tree.specs.TreeGood.{GoodAt}
use Rattle.rl_tree.specs.TreeFacts.{TreeFacts, learnt_in}
use Rattle.rl_tree.specs.laws.TreeEvents.{queue_is}
use Rattle.rl_counter.specs.declared.view.Doing.{Doing}
use Rattle.rl_counter.specs.declared.view.Doing.TheVariants.{Nothing, Arrive, Refused, SeeTail, Swap, Round, RoundTail, Inside, Put, Count, Compare, TakeOut, TakeOff}
use Rattle.rl_counter.specs.CounterGood.{GroupGood, IsMark, Loaded, Mark, group_sum, if_one, inside_of, mark_by, refused_of, taken_of, Clear as ClearMark}
use Rattle.rl_counter.specs.Counter.{CounterTurn, arrive_word, busy, counter_act, counter_turn, depart_word, to}
use Rattle.rl_counter.specs.laws.CounterLaws.{begins, tells_what_it_finds}
use Rattle.rl_rw.specs.declared.view.RwView.{RwView}
use Rattle.rl_rw.specs.Rw.{shared_of, Shared, groups, behind_tree, counters_of, rw_view, plan_of, from_tree, from_counter, rw_learn, asks_for, rw_standing, rw_table, after_hook, mine_of, BoundsBatches, KeepsBatches}
use Rattle.rl_rw.specs.RwGood.{trees, doings, Place, Moded, Lonely, RwGood}
use Rattle.rl_rw.specs.laws.RwRows.{out_plans_not, resume_goes}
use Rattle.rl_rw.specs.laws.RwWords.{groups_low, IsSound}
use Rattle.rl_rw.specs.laws.RwKeeps.{by_bool, as_doing, all_trees, acts_in}
use Rattle.rl_rw.specs.laws.RwMarks.{act_keeps_at}
use Rattle.rl_rw.specs.laws.RwCalls.{leaving_at, suits_at, out_at_both, ask_at, leave_writer_at, leave_reader_at, touch_at, excludes_at}
use Rattle.rl_rw.specs.laws.RwFits.{RwFits, rests_at, home_at, lawful_at, fits_at}

-- a function of the first views
map_first : {V W : Type 0} (f : V → W) (g : ℕ → V) (from n : ℕ) → map f (first_views g from n) ≡ first_views (λ r. f (g r)) from n
map_first f g from zero = refl
map_first f g from (suc n) = ap (λ z. f (g from) ∷ z) (map_first f g (from + 1) n)

-- the share of one rank alone, where it has none
one_none : (mine : ℕ → Bool) (share : Doing → ℕ) (ps : List Doing) (r : ℕ) (p : Doing) → length ps ≡ 1 → slice_get ps r ≡ Some p →
    share p ≡ 0 → group_sum mine share ps ≡ 0
one_none mine share [] r p one h e = cc
one_none mine share (x ∷ []) zero p one h e =
    let k : share x ≡ 0 = ap share (same_Some _ _ h) ∙ e in
    let a : if_one (mine 0) (share x) ≡ 0 = by (mine 0) k in omega arith where
      by : (b : Bool) → share x ≡ 0 → if_one b (share x) ≡ 0
      by true k = k
      by false k = refl
one_none mine share (x ∷ []) (suc r) p one h e = cc
one_none mine share (x ∷ (y ∷ ys)) r p one h e = absurd (omega arith)

abbrev Goes : Shared → RwView → Doing → CounterTurn → Type 0
Goes K v p u = (from_counter K v p u.doing u.waits).waits ≡ false

-- what one rank learns at the counters it doesn't wait for
counter_goes : (K : Shared) (v : RwView) (p : Doing) (got : ℕ) → (p ≡ Round → ⊥) → ((x : ℕ) → p ≡ RoundTail x → ⊥) →
    ((i f : ℕ) → p ≡ Compare i f → (got == f - 2 ^ 32) ≡ true) →
    (from_counter K v p (counter_turn (counters_of K) p got).doing (counter_turn (counters_of K) p got).waits).waits ≡ false
counter_goes K v Nothing got a b c = resume_goes (tree_of K.rooted) v.tree
counter_goes K v Arrive got a b c = choose (Goes K v Arrive) (nat_lt got K.readers) (to Inside) (to (Refused got)) refl refl
counter_goes K v (SeeTail x) got a b c = choose (Goes K v (SeeTail x)) ((got == 0) && nat_lt x (2 ^ 32)) (to Swap) (to Round) refl refl
counter_goes K v Round got a b c = absurd (a refl)
counter_goes K v (RoundTail x) got a b c = absurd (b x refl)
counter_goes K v (Put i) got a b c = choose (Goes K v (Put i)) (nat_lt (i + 1) (length (counters_of K).arrive)) (to (Put (i + 1))) (to (Count 0)) refl refl
counter_goes K v (Compare i f) got a b c =
    subst (λ z. Goes K v (Compare i f)
    (if z then (if nat_lt (i + 1) (length (counters_of K).arrive) then to (Count (i + 1)) else to Nothing) else
    record { doing = Count i; waits = true })) (sym (c i f refl))
    (choose (Goes K v (Compare i f)) (nat_lt (i + 1) (length (counters_of K).arrive)) (to (Count (i + 1))) (to Nothing) refl
    (resume_goes (tree_of K.rooted) v.tree))
counter_goes K v (TakeOff i x) got a b c = choose (Goes K v (TakeOff i x)) (nat_lt (i + 1) (length (counters_of K).arrive))
    (to (TakeOut (i + 1))) (to Nothing) refl (resume_goes (tree_of K.rooted) v.tree)
counter_goes K v _ got a b c = refl

module _ (K : Shared) (levels : ℕ) (F : TreeFacts K.rooted levels) (d : IsSound K) where
  abbrev Good : Bool → List ℕ → List TreeView → List Event → Type 0
  Good = GoodAt K.rooted levels

  begins_at : RwGood K levels (opening (rw_table K) (ranks_in K.rooted))
  begins_at =
      let view : ℕ → RwView = λ r. rw_view (out_at r (leaf_of_rank K.rooted r)) (r / K.group) Nothing in
      let size : ℕ = behind_tree K + 2 * groups K in
      let first : (r : ℕ) (v : RwView) → slice_get (opening (rw_table K) (ranks_in K.rooted)).views r ≡ Some v → v ≡ view (0 + r) =
      λ r v h. first_views_at (λ r. rw_view (out_at r (leaf_of_rank K.rooted r)) (r / K.group) Nothing) 0 (ranks_in K.rooted) r v h in
      let plain : (r : ℕ) (v : RwView) → slice_get (opening (rw_table K) (ranks_in K.rooted)).views r ≡ Some v → v.counter.doing ≡ Nothing =
      λ r v h. ap (λ z. z.counter.doing) (first r v h) in
      record {
        all_words = length-replicate (behind_tree K + 2 * groups K) 0;
        all_views = length-first_views (λ r. rw_view (out_at r (leaf_of_rank K.rooted r)) (r / K.group) Nothing) 0 (ranks_in K.rooted);
        all_modes = length-replicate (ranks_in K.rooted) mode.Write;
        inside = false;
        tree = subst (λ z. Good false (replicate (behind_tree K + 2 * groups K) 0) z [])
            (sym (map_first (λ v. v.tree) (λ r. rw_view (out_at r (leaf_of_rank K.rooted r)) (r / K.group) Nothing) 0 (ranks_in K.rooted)))
            (F.begins (behind_tree K + 2 * groups K) (omega arith));
        hook = Nothing;
        hooked = record { all = λ r v h m. absurd (subst IsMark (plain r v h) m); some = inl refl };
        counters = begins (counters_of K) (groups K) (mine_of K) (behind_tree K + 2 * groups K) (doings (opening (rw_table K) (ranks_in K.rooted)).views)
            (λ r p h. let b = get_map_back (λ v. v.counter.doing) (opening (rw_table K) (ranks_in K.rooted)).views r p h in sym b.2 ∙ plain r b.0 b.1);
        own = λ r v h. ap (λ z. z.counter.counter) (first r v h) ∙ ap (λ z. z / K.group) (omega arith);
        place = λ r v h. subst (λ z. Place (groups K) z.counter.doing z.tree) (sym (first r v h)) refl;
        moded = λ r v m h e. subst (λ z. Moded z.counter.doing z.tree m) (sym (first r v h)) (inl refl);
        batches = λ g lt. record { so_far = tt; counted = omega arith };
        lonely = λ one r v h. subst (λ z. Lonely K (replicate (behind_tree K + 2 * groups K) 0) z) (sym (plain r v h)) tt;
      }

  -- what one rank counted has gone
  counted_gone : (s : LockState RwView) (r : ℕ) (t : TreeView) (c i f : ℕ) → ranks_in K.rooted ≡ 1 → RwGood K levels s →
      slice_get s.views r ≡ Some (rw_view t c (Compare i f)) → slice_index s.words (depart_word (counters_of K) i) ≡ f - 2 ^ 32
  counted_gone s r t c i f one g has =
      let row = g.place r (rw_view t c (Compare i f)) has in
      let exact : slice_index s.words (arrive_word (counters_of K) i) ≡ f = g.lonely one r (rw_view t c (Compare i f)) has in
      let at_i : mark_by g.inside g.hook i ≡ Loaded f = ap (λ z. mark_by g.inside z i)
      (sym (g.hooked.all r (rw_view t c (Compare i f)) has tt)) ∙ loaded_there i f in
      let good : GroupGood (counters_of K) (mine_of K i) i s.words (doings s.views) (Loaded f) =
      subst (λ z. GroupGood (counters_of K) (mine_of K i) i s.words (doings s.views) z) at_i (g.counters i row.2) in
      let long : length (doings s.views) ≡ 1 = length-map s.views (λ x. x.counter.doing) ∙ g.all_views ∙ one in
      let me = as_doing K levels F d s r (rw_view t c (Compare i f)) has in
      let a = one_none (mine_of K i) inside_of (doings s.views) r (Compare i f) long me refl in
      let b = one_none (mine_of K i) refused_of (doings s.views) r (Compare i f) long me refl in
      let e = one_none (mine_of K i) taken_of (doings s.views) r (Compare i f) long me refl in
      let bal = good.balance in omega arith where
        loaded_there : (i f : ℕ) → (if nat_lt i i then ClearMark else if i == i then Loaded f else Mark.Up) ≡ Loaded f
        loaded_there i f =
            let x : nat_lt i i ≡ false = grind (arith, nat_tests) in
            let y : (i == i) ≡ true = ⊎_elim (λ q. q.0) (λ q. absurd (q.1 refl)) (eqb_tells i i) in
            ap (λ z. if z then ClearMark else if i == i then Loaded f else Mark.Up) x ∙ ap (λ z. if z then Loaded f else Mark.Up) y

  equal_test : (x y : ℕ) → x ≡ y → (x == y) ≡ true
  equal_test x y e = ⊎_elim (λ q. q.0) (λ q. absurd (q.1 e)) (eqb_tells x y)

  -- one rank alone never waits at the counters
  busy_goes : (s : LockState RwView) (r : ℕ) (t : TreeView) (c : ℕ) (p : Doing) (a : Act) → ranks_in K.rooted ≡ 1 → RwGood K levels s →
      slice_get s.views r ≡ Some (rw_view t c p) → counter_act (counters_of K) c p ≡ Some a →
      (from_counter K (rw_view t c p) p (counter_turn (counters_of K) p (told a (found s a))).doing
      (counter_turn (counters_of K) p (told a (found s a))).waits).waits ≡ false
  busy_goes s r t c p a one g has pl =
      counter_goes K (rw_view t c p) p (told a (found s a))
      (λ e. subst (Lonely K s.words) e (g.lonely one r (rw_view t c p) has))
      (λ x e. subst (Lonely K s.words) e (g.lonely one r (rw_view t c p) has))
      (λ i f e.
      let pa : Load (depart_word (counters_of K) i) ≡ a = same_Some _ _ (ap (counter_act (counters_of K) c) (sym e) ∙ pl) in
      let has2 : slice_get s.views r ≡ Some (rw_view t c (Compare i f)) = subst (λ z. slice_get s.views r ≡ Some (rw_view t c z)) e has in
      equal_test (told a (found s a)) (f - 2 ^ 32) (ap (λ z. told z (slice_index s.words (word_of z))) (sym pa) ∙ counted_gone s r t c i f one g has2))

  moves_at : (s : LockState RwView) (r : ℕ) (t : TreeView) (c : ℕ) (p : Doing) (a : Act) → ranks_in K.rooted ≡ 1 → RwGood K levels s →
      slice_get s.views r ≡ Some (rw_view t c p) → plan_of K (rw_view t c p) (busy p) ≡ Some a →
      (rw_learn K (rw_view t c p) (busy p) (told a (found s a))).waits ≡ false
  moves_at s r t c Nothing a one g has pl =
      let U = learnt_in K.rooted s.words t a in
      let k = F.moves_on g.inside s.words (trees s.views) s.trace r t a one (acts_in K levels F d s r t c a g has pl) in
      by_bool (λ b. (from_tree (rw_view t c Nothing) b U).waits ≡ false) (at_hook U.view) (λ e. k) (λ e. k)
  moves_at s r t c Inside a one g has pl = let no : None ≡ Some a = sym (out_plans_not (tree_of K.rooted) t (g.place r (rw_view t c Inside) has)) ∙ pl in cc
  moves_at s r t c p a one g has pl = busy_goes s r t c p a one g has pl

  finds_at : (s : LockState RwView) (r : ℕ) (t : TreeView) (c : ℕ) (p : Doing) (a : Act) → ranks_in K.rooted ≡ 1 → RwGood K levels s →
      slice_get s.views r ≡ Some (rw_view t c p) → plan_of K (rw_view t c p) (busy p) ≡ Some a → FindsOld a (found s a)
  finds_at s r t c Nothing a one g has pl = F.finds g.inside s.words (trees s.views) s.trace r t a one (acts_in K levels F d s r t c a g has pl)
  finds_at s r t c Inside a one g has pl = let no : None ≡ Some a = sym (out_plans_not (tree_of K.rooted) t (g.place r (rw_view t c Inside) has)) ∙ pl in cc
  finds_at s r t c p a one g has pl = (tells_what_it_finds (counters_of K) c p a (found s a) pl).0

  ask_stands : (v : RwView) (m : Mode) → rw_standing (asks_for v m).counter.doing (asks_for v m).tree ≡ standing.Asking
  ask_stands v mode.Read = refl
  ask_stands v mode.Write = refl

  trees_out : (s : LockState RwView) → ((r : ℕ) (v : RwView) → slice_get s.views r ≡ Some v →
      rw_standing v.counter.doing v.tree ≡ standing.Out) → (r : ℕ) (x : TreeView) → slice_get (trees s.views) r ≡ Some x →
      tree_standing x ≡ standing.Out
  trees_out s out r x h =
      let b = get_map_back (λ v. v.tree) s.views r x h in
      subst (λ z. tree_standing z ≡ standing.Out) b.2 (out_at_both b.0.counter.doing b.0.tree (out r b.0 b.1)).1

  -- A rank waits on after a load alone, and stands at a load again.
  abbrev Again : TreeView → ℕ → Doing → Act → CounterTurn → Type 0
  Again t c p a u =
      (from_counter K (rw_view t c p) p u.doing u.waits).waits ≡ true →
      IsLoad a × PlansLoad (plan_of K (from_counter K (rw_view t c p) p u.doing u.waits).view
      (busy (from_counter K (rw_view t c p) p u.doing u.waits).view.counter.doing))

  -- it never waits where the tree goes on from the hook
  hook_again : (t : TreeView) (c : ℕ) (p : Doing) (a : Act) → (after_hook K (rw_view t c p)).waits ≡ true → ⊥
  hook_again t c p a e = let bad : false ≡ true = sym (resume_goes (tree_of K.rooted) t) ∙ e in cc

  counter_again : (t : TreeView) (c : ℕ) (p : Doing) (a : Act) (got : ℕ) → busy p ≡ true → counter_act (counters_of K) c p ≡ Some a →
      Again t c p a (counter_turn (counters_of K) p got)
  counter_again t c Arrive a got b pl e = choose (Again t c Arrive a) (nat_lt got K.readers) (to Inside) (to (Refused got)) (λ z. cc) (λ z. cc) e
  counter_again t c (SeeTail x) a got b pl e = choose (Again t c (SeeTail x) a) ((got == 0) && nat_lt x (2 ^ 32)) (to Swap) (to Round) (λ z. cc) (λ z. cc) e
  counter_again t c Round a got b pl e = choose (Again t c Round a) (nat_lt got K.readers) (to Arrive) (to (RoundTail got)) (λ z. cc) (λ z. cc) e
  counter_again t c (RoundTail x) a got b pl e = choose (Again t c (RoundTail x) a) ((got == 0) && nat_lt x (2 ^ 32)) (to Arrive)
      (record { doing = Round; waits = true }) (λ z. cc) (λ z. (subst IsLoad (same_Some _ _ pl) tt, tt)) e
  counter_again t c (Put i) a got b pl e = choose (Again t c (Put i) a) (nat_lt (i + 1) (length (counters_of K).arrive)) (to (Put (i + 1)))
      (to (Count 0)) (λ z. cc) (λ z. cc) e
  counter_again t c (Compare i f) a got b pl e =
      choose (Again t c (Compare i f) a) (got == f - 2 ^ 32) (if nat_lt (i + 1) (length (counters_of K).arrive) then to (Count (i + 1)) else
      to Nothing) (record { doing = Count i; waits = true })
      (choose (Again t c (Compare i f) a) (nat_lt (i + 1) (length (counters_of K).arrive)) (to (Count (i + 1))) (to Nothing) (λ z. cc)
      (λ z. absurd (hook_again t c (Compare i f) a z)))
      (λ z. (subst IsLoad (same_Some _ _ pl) tt, tt)) e
  counter_again t c (TakeOff i x) a got b pl e =
      choose (Again t c (TakeOff i x) a) (nat_lt (i + 1) (length (counters_of K).arrive)) (to (TakeOut (i + 1))) (to Nothing) (λ z. cc)
      (λ z. absurd (hook_again t c (TakeOff i x) a z)) e
  counter_again t c _ a got b pl e = cc

  waits_at : (t : TreeView) (c : ℕ) (p : Doing) (a : Act) (got : ℕ) (q : Bool) → busy p ≡ q → plan_of K (rw_view t c p) q ≡ Some a →
      (rw_learn K (rw_view t c p) q got).waits ≡ true →
      IsLoad a × PlansLoad (plan_of K (rw_learn K (rw_view t c p) q got).view (busy (rw_learn K (rw_view t c p) q got).view.counter.doing))
  waits_at t c p a got true b pl e = counter_again t c p a got b pl e
  waits_at t c p a got false b pl e = by (at_hook u.view) refl e where
    u : Told TreeView
    u = tree_learn (tree_of K.rooted) t got

    by : (h : Bool) → at_hook (tree_learn (tree_of K.rooted) t got).view ≡ h →
        (from_tree (rw_view t c p) h (tree_learn (tree_of K.rooted) t got)).waits ≡ true →
        IsLoad a × PlansLoad (plan_of K (from_tree (rw_view t c p) h (tree_learn (tree_of K.rooted) t got)).view
        (busy (from_tree (rw_view t c p) h (tree_learn (tree_of K.rooted) t got)).view.counter.doing))
    by true o e = let k = F.waits t a got pl e in let bad : false ≡ true = sym k.2 ∙ o in cc
    by false o e = let k = F.waits t a got pl e in (k.0, k.1)

  -- ALL LAWS OF A LOCK.
  pub rw_laws : LockLaws (rw_table K) (RwGood K levels) (KeepsBatches K) (layout_of K.rooted.shape)
  rw_laws =
      record {
        begins = begins_at;
        sized = λ s g. (g.all_words, g.all_views, g.all_modes);
        few_words = let few : ranks_in K.rooted ≤ 32 = d.seats in let small : how_many K.rooted ≤ ranks_in K.rooted * 4 = d.small in
            let g : groups K ≤ 32 = groups_low (ranks_in K.rooted) K.group d.seats d.grouped in omega arith;
        homes = λ w lt. home_at K levels F d w lt;
        lawful = λ s r v a h. lawful_at K levels F d s r v.tree v.counter.counter v.counter.doing a h.is_good h.has h.planned;
        keeps = λ s r v a h. act_keeps_at K levels F d s r v.tree v.counter.counter v.counter.doing a h.is_good h.has h.planned;
        ask_keeps = λ s r v m g has out. ask_at K levels F d s r v.tree v.counter.counter v.counter.doing m g has out;
        leave_keeps_writer = λ s r v g has st. leave_writer_at K levels F d s r v.tree v.counter.counter v.counter.doing g has st;
        leave_keeps_reader = λ s r v g has st. leave_reader_at K levels F d s r v.tree v.counter.counter v.counter.doing g has st;
        touch_keeps = λ s r w g. touch_at K levels F d s r w g;
        excludes = λ s i j v w g hi hj wv hw. excludes_at K levels F d s i j v w g hi hj wv hw;
        suits = λ s r v m g has asked. suits_at m v.counter.doing v.tree (g.moded r v m has asked);
        first_out = λ r. refl;
        ask_asks = λ v m out. ask_stands v m;
        leave_leaves = λ v h. leaving_at v v.counter.doing h refl;
        rests = λ s r v g has. rests_at K v.tree v.counter.counter v.counter.doing (g.place r v has);
        shifts = λ s r v a h. (fits s r v a h).shift;
        waits_on_loads = λ s r v a h e. waits_at v.tree v.counter.counter v.counter.doing a (told a (found s a)) (busy v.counter.doing) refl h.planned e;
        orders = λ s r v a h. let ok = fits s r v a h in (ok.order, ok.few);
        names = λ s r v a h. (fits s r v a h).names;
        within = λ s q B e g has eb. let o = queue_is K.rooted q e has in
            F.within g.inside s.words (trees s.views) s.trace q B g.tree o.0 (sym (ap (λ z. z.budget) o.1) ∙ eb);
        fifo = λ s q e g has. F.fifo g.inside s.words (trees s.views) s.trace q g.tree (queue_is K.rooted q e has).0;
        counted = λ s q e g out has. let o = queue_is K.rooted q e has in
            subst (λ z. settled q s.trace + passed q s.trace ≡ tenures z s.trace) (sym o.1)
            (F.counted g.inside s.words (trees s.views) s.trace q (all_trees K levels F d s g) g.tree (trees_out s out) o.0);
        goes_further = λ s g i lt. (g.batches i lt).so_far;
        finds = λ s r v a one h. finds_at s r v.tree v.counter.counter v.counter.doing a one h.is_good h.has h.planned;
        moves_on = λ s r v a one h. moves_at s r v.tree v.counter.counter v.counter.doing a one h.is_good h.has h.planned;
      } where
        fits : (s : LockState RwView) (r : ℕ) (v : RwView) (a : Act) → Acts (rw_table K) (RwGood K levels) s r v a →
            RwFits K r (rw_standing v.counter.doing v.tree) (rw_learn K v (busy v.counter.doing) (told a (found s a)))
        fits s r v a h = fits_at K levels F d s r v.tree v.counter.counter v.counter.doing a h.is_good h.has h.planned

-- what is asked of the numbers follows from the shape and the settings
pub sound_of : (K : Shared) (levels : ℕ) → IsWellShaped K.rooted levels → is_some K.rooted.root ≡ true → K.readers ≤ 1000 → 0 < K.group → IsSound K
sound_of K levels S limited few grouped = record { limited = limited; few = few; seats = S.ranks; grouped = grouped; small = S.few; seated = S.seated }

-- so all laws hold of a tree as a lock keeps it, with a budget of the root, at most 1000 readers to a counter, and groups of a rank at least
pub laws_of : (rooted : Rooted) (readers group : ℕ) → IsTreeLaid rooted (levels_of rooted.shape) → is_some rooted.root ≡ true → readers ≤ 1000 → 0 < group →
    LockLaws (rw_table (shared_of rooted readers group)) (RwGood (shared_of rooted readers group) (levels_of rooted.shape))
    (KeepsBatches (shared_of rooted readers group)) (layout_of rooted.shape)
laws_of rooted readers group laid limited few grouped =
    let S : IsWellShaped rooted (levels_of rooted.shape) = laid_shaped rooted (levels_of rooted.shape) laid in
    rw_laws (shared_of rooted readers group) (levels_of rooted.shape) (tree_facts rooted (levels_of rooted.shape) S)
    (sound_of (shared_of rooted readers group) (levels_of rooted.shape) S limited few grouped)

-- what it says of its acts gives what is promised, of the lock that was asked for
pub hands_on : (made asked : Shared) → made ≡ asked → HandsOn (KeepsBatches made) (BoundsBatches asked)
hands_on made asked same t ds ts shown keeps = subst (λ K. BoundsBatches K t ts) same
    (λ g lt. is_batched (mine_of made g) (behind_tree made + 2 * g) made.readers ds ts shown (keeps g lt))
