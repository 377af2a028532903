-- Each act of a rank at the marks, and so each act of RMA-RW, keeps a state good.
use Rattle.std.specs.Prelude.{◌%◌, ◌≡◌, ℕ, ◌+◌, ◌-◌, ◌^◌, ◌<◌, ◌≤◌, ◌==◌, Bool, true, false, List, length, nat_lt, if◌then◌else◌, slice_get, slice_index, slice_set, Some, None, refl}
use Rattle.std.proofs.Common.{sym, ◌∙◌, ap, subst, inr, arith, get_or-set_same}
use Rattle.std.proofs.lemmas.Option.{same_Some}
use Rattle.rl_word.specs.declared.acts.Act.{Act}
use Rattle.rl_word.specs.declared.acts.Act.TheVariants.{Load, CardSwap, CardAdd}
use Rattle.rl_word.specs.Acts.{word_of, written, told}
use Rattle.rl_step.specs.declared.events.Event.{Event}
use Rattle.rl_step.specs.Lock.{LockState, acted, found}
use Rattle.rl_queue.specs.laws.Choices.{choose}
use Rattle.rl_tree.specs.declared.view.TreeView.{TreeView}
use Rattle.rl_tree.specs.Elements.{tree_of}
use Rattle.rl_tree.specs.TreeGood.{GoodAt}
use Rattle.rl_tree.specs.TreeFacts.{TreeFacts, opens}
use Rattle.rl_counter.specs.declared.view.Doing.{Doing}
use Rattle.rl_counter.specs.declared.view.Doing.TheVariants.{Nothing, Inside, Put, Count, Compare, TakeOut, TakeOff}
use Rattle.rl_counter.specs.laws.CounterKeeps.{by_less}
use Rattle.rl_counter.specs.laws.CounterMarks.{put_keeps, count_keeps, compare_keeps, take_keeps, off_keeps}
use Rattle.rl_counter.specs.CounterGood.{AreCounted, GroupGood, IsMark, mark_by}
use Rattle.rl_counter.specs.Counter.{CounterTurn, arrive_word, busy, counter_act, counter_turn, depart_word, off, to}
use Rattle.rl_counter.specs.laws.CounterLaws.{tells_what_it_finds}
use Rattle.rl_rw.specs.declared.view.RwView.{RwView}
use Rattle.rl_rw.specs.Rw.{Shared, groups, behind_tree, counters_of, rw_view, plan_of, from_counter, rw_learn, rw_table, mine_of}
use Rattle.rl_rw.specs.RwGood.{doings, RwGood}
use Rattle.rl_rw.specs.laws.RwRows.{out_plans_not}
use Rattle.rl_rw.specs.laws.RwWords.{IsSound, arrive_is, depart_is, are_counted, batches_keep}
use Rattle.rl_rw.specs.laws.RwKeeps.{above_shuts, after, AllCounters, AllBatched, as_doing, all_doings, is_named}
use Rattle.rl_rw.specs.laws.RwActs.{tree_keeps}
use Rattle.rl_rw.specs.laws.RwReads.{reads_keep, marks_on, marks_end}

-- the mark that is looked at is behind the tree's words
arrive_behind : (K : Shared) (i : ℕ) → i < groups K → behind_tree K ≤ arrive_word (counters_of K) i
arrive_behind K i lt = let e = arrive_is K i lt in omega arith

depart_behind : (K : Shared) (i : ℕ) → i < groups K → behind_tree K ≤ depart_word (counters_of K) i
depart_behind K i lt = let e = depart_is K i lt in omega arith

module _ (K : Shared) (levels : ℕ) (F : TreeFacts K.rooted levels) (d : IsSound K) where
  abbrev Good : Bool → List ℕ → List TreeView → List Event → Type 0
  Good = GoodAt K.rooted levels

  abbrev there : List ℕ → Act → List ℕ
  there ws a = slice_set ws (word_of a) (written a (slice_index ws (word_of a)))

  abbrev Learns : LockState RwView → ℕ → TreeView → ℕ → Doing → Act → CounterTurn → Type 0
  Learns s r t c p a u = AllBatched K (after s r a (from_counter K (rw_view t c p) p u.doing u.waits)) → RwGood K levels
      (after s r a (from_counter K (rw_view t c p) p u.doing u.waits))

  -- the act, with its counters
  abbrev Keeps : LockState RwView → ℕ → TreeView → ℕ → Doing → Act → Bool → CounterTurn → Type 0
  Keeps s r t c p a o u = AllCounters K (there s.words a) (slice_set (doings s.views) r u.doing) (mark_by o u.doing) → Learns s r t c p a u

  -- all counters under the marks of who is there
  marked : (s : LockState RwView) (r : ℕ) (t : TreeView) (c : ℕ) (p : Doing) (g : RwGood K levels s) →
      slice_get s.views r ≡ Some (rw_view t c p) → IsMark p → AllCounters K s.words (doings s.views) (mark_by g.inside p)
  marked s r t c p g has mp i lt = subst (λ z. GroupGood (counters_of K) (mine_of K i) i s.words (doings s.views) (mark_by g.inside z i))
      (sym (g.hooked.all r (rw_view t c p) has mp)) (g.counters i lt)

  long_is : (s : LockState RwView) → RwGood K levels s → AreCounted (counters_of K) (groups K) (length s.words)
  long_is s g = are_counted K (length s.words) g.all_words

  puts : (s : LockState RwView) (r : ℕ) (t : TreeView) (c i : ℕ) → RwGood K levels s → slice_get s.views r ≡ Some (rw_view t c (Put i)) →
      Learns s r t c (Put i) (CardAdd (arrive_word (counters_of K) i) (2 ^ 32))
      (counter_turn (counters_of K) (Put i) (slice_index s.words (arrive_word (counters_of K) i)))
  puts s r t c i g has =
      let row = g.place r (rw_view t c (Put i)) has in
      let n = long_is s g in
      by_less (Keeps s r t c (Put i) (CardAdd (arrive_word (counters_of K) i) (2 ^ 32)) g.inside) (i + 1) (length (counters_of K).arrive)
      (to (Put (i + 1))) (to (Count 0))
      (λ l cs bs. let m = n.many in marks_on K levels F d s r t c (Put i) (Put (i + 1))
      (CardAdd (arrive_word (counters_of K) i) (2 ^ 32)) false g.inside g has tt tt (row.0, row.1, omega arith)
      (arrive_behind K i row.2) cs (λ one. tt) bs)
      (λ l cs bs. let q = row.2 in marks_on K levels F d s r t c (Put i) (Count 0)
      (CardAdd (arrive_word (counters_of K) i) (2 ^ 32)) false g.inside g has tt tt (row.0, row.1, omega arith)
      (arrive_behind K i row.2) cs (λ one. tt) bs)
      (put_keeps (counters_of K) (groups K) d.few (mine_of K) s.words (doings s.views) r n (all_doings K levels F d s g) g.inside i row.2
      (as_doing K levels F d s r (rw_view t c (Put i)) has) (marked s r t c (Put i) g has tt))

  counts_up : (s : LockState RwView) (r : ℕ) (t : TreeView) (c i : ℕ) → RwGood K levels s →
      slice_get s.views r ≡ Some (rw_view t c (Count i)) → Learns s r t c (Count i) (Load (arrive_word (counters_of K) i))
      (to (Compare i (slice_index s.words (arrive_word (counters_of K) i))))
  counts_up s r t c i g has bs =
      let row = g.place r (rw_view t c (Count i)) has in
      let n = long_is s g in
      let a : ℕ = slice_index s.words (arrive_word (counters_of K) i) in
      marks_on K levels F d s r t c (Count i) (Compare i a) (Load (arrive_word (counters_of K) i)) false g.inside g has tt tt
      (row.0, row.1, row.2) (arrive_behind K i row.2)
      (count_keeps (counters_of K) (groups K) d.few (mine_of K) s.words (doings s.views) r n (all_doings K levels F d s g) g.inside i row.2
      (as_doing K levels F d s r (rw_view t c (Count i)) has) (marked s r t c (Count i) g has tt))
      (λ one. get_or-set_same s.words (arrive_word (counters_of K) i) a 0 (n.arrive_there i row.2)) bs

  compares : (s : LockState RwView) (r : ℕ) (t : TreeView) (c i f : ℕ) → RwGood K levels s →
      slice_get s.views r ≡ Some (rw_view t c (Compare i f)) → Learns s r t c (Compare i f) (Load (depart_word (counters_of K) i))
      (counter_turn (counters_of K) (Compare i f) (slice_index s.words (depart_word (counters_of K) i)))
  compares s r t c i f g has =
      let row = g.place r (rw_view t c (Compare i f)) has in
      let n = long_is s g in
      let got : ℕ = slice_index s.words (depart_word (counters_of K) i) in
      choose (Keeps s r t c (Compare i f) (Load (depart_word (counters_of K) i)) true) (got == f - 2 ^ 32)
      (if nat_lt (i + 1) (length (counters_of K).arrive) then to (Count (i + 1)) else to Nothing)
      (record { doing = Count i; waits = true })
      (by_less (Keeps s r t c (Compare i f) (Load (depart_word (counters_of K) i)) true) (i + 1) (length (counters_of K).arrive)
      (to (Count (i + 1))) (to Nothing)
      (λ l cs bs. let m = n.many in marks_on K levels F d s r t c (Compare i f) (Count (i + 1))
      (Load (depart_word (counters_of K) i)) false true g has tt tt (row.0, row.1, omega arith) (depart_behind K i row.2) cs
      (λ one. tt) bs)
      (λ l cs bs. marks_end K levels F d s r t c (Compare i f) (Load (depart_word (counters_of K) i)) true g has tt (ap opens row.1)
      (depart_behind K i row.2) cs bs))
      (λ cs bs. marks_on K levels F d s r t c (Compare i f) (Count i) (Load (depart_word (counters_of K) i)) true true g has tt tt (row.0, row.1, row.2) (depart_behind K i row.2) cs (λ one. tt) bs)
      (compare_keeps (counters_of K) (groups K) d.few (mine_of K) s.words (doings s.views) r n
      (all_doings K levels F d s g) g.inside i f row.2 (as_doing K levels F d s r (rw_view t c (Compare i f)) has)
      (marked s r t c (Compare i f) g has tt))

  takes_out : (s : LockState RwView) (r : ℕ) (t : TreeView) (c i : ℕ) → RwGood K levels s →
      slice_get s.views r ≡ Some (rw_view t c (TakeOut i)) → Learns s r t c (TakeOut i) (CardSwap (depart_word (counters_of K) i) 0)
      (to (TakeOff i (slice_index s.words (depart_word (counters_of K) i))))
  takes_out s r t c i g has bs =
      let row = g.place r (rw_view t c (TakeOut i)) has in
      let n = long_is s g in
      marks_on K levels F d s r t c (TakeOut i) (TakeOff i (slice_index s.words (depart_word (counters_of K) i)))
      (CardSwap (depart_word (counters_of K) i) 0) false g.inside g has tt tt (row.0, row.1, row.2) (depart_behind K i row.2)
      (take_keeps (counters_of K) (groups K) d.few (mine_of K) s.words (doings s.views) r n (all_doings K levels F d s g) g.inside i row.2
      (as_doing K levels F d s r (rw_view t c (TakeOut i)) has) (marked s r t c (TakeOut i) g has tt))
      (λ one. tt) bs

  takes_off : (s : LockState RwView) (r : ℕ) (t : TreeView) (c i x : ℕ) → RwGood K levels s →
      slice_get s.views r ≡ Some (rw_view t c (TakeOff i x)) → Learns s r t c (TakeOff i x)
      (CardAdd (arrive_word (counters_of K) i) (off ((2 ^ 32 + x) % 2 ^ 64)))
      (counter_turn (counters_of K) (TakeOff i x) (slice_index s.words (arrive_word (counters_of K) i)))
  takes_off s r t c i x g has =
      let row = g.place r (rw_view t c (TakeOff i x)) has in
      let n = long_is s g in
      by_less (Keeps s r t c (TakeOff i x) (CardAdd (arrive_word (counters_of K) i) (off ((2 ^ 32 + x) % 2 ^ 64))) false) (i + 1)
      (length (counters_of K).arrive) (to (TakeOut (i + 1))) (to Nothing)
      (λ l cs bs. let m = n.many in marks_on K levels F d s r t c (TakeOff i x) (TakeOut (i + 1))
      (CardAdd (arrive_word (counters_of K) i) (off ((2 ^ 32 + x) % 2 ^ 64))) false false g has tt tt (row.0, row.1, omega arith)
      (arrive_behind K i row.2) cs (λ one. tt) bs)
      (λ l cs bs. marks_end K levels F d s r t c (TakeOff i x) (CardAdd (arrive_word (counters_of K) i) (off ((2 ^ 32 + x) % 2 ^ 64))) false
      g has tt (above_shuts t.phase row.1) (arrive_behind K i row.2) cs bs)
      (off_keeps (counters_of K) (groups K) d.few (mine_of K) s.words (doings s.views) r n (all_doings K levels F d s g) g.inside i x row.2
      (as_doing K levels F d s r (rw_view t c (TakeOff i x)) has) (marked s r t c (TakeOff i x) g has tt))

  -- the batches after an act at the counters
  batched : (s : LockState RwView) (r : ℕ) (t : TreeView) (c : ℕ) (p : Doing) (a : Act) → RwGood K levels s →
      slice_get s.views r ≡ Some (rw_view t c p) → busy p ≡ true → counter_act (counters_of K) c p ≡ Some a →
      AllBatched K (after s r a (rw_learn K (rw_view t c p) (busy p) (told a (found s a))))
  batched s r t c p a g has on_task pl =
      batches_keep K d s.words s.deeds r (rw_view t c p) a g.all_words (is_named K levels F d s r (rw_view t c p) g has) (g.own r (rw_view t c p) has)
      (subst (λ z. plan_of K (rw_view t c p) z ≡ Some a) (sym on_task) pl) (inr (λ x. (tells_what_it_finds (counters_of K) c p a x pl).1)) g.batches

  -- EACH ACT keeps a state good.
  pub act_keeps_at : (s : LockState RwView) (r : ℕ) (t : TreeView) (c : ℕ) (p : Doing) (a : Act) → RwGood K levels s →
      slice_get s.views r ≡ Some (rw_view t c p) → plan_of K (rw_view t c p) (busy p) ≡ Some a →
      RwGood K levels (acted (rw_table K) s r (rw_view t c p) a)
  act_keeps_at s r t c Nothing a g has pl = tree_keeps K levels F d s r t c a g has pl
  act_keeps_at s r t c Inside a g has pl = let no : None ≡ Some a = sym (out_plans_not (tree_of K.rooted) t (g.place r (rw_view t c Inside) has)) ∙ pl in cc
  act_keeps_at s r t c (Put i) a g has pl =
      subst (λ z. AllBatched K (after s r z (rw_learn K (rw_view t c (Put i)) true (told z (found s z)))) → RwGood K levels
      (acted (rw_table K) s r (rw_view t c (Put i)) z)) (same_Some _ _ pl) (puts s r t c i g has)
      (batched s r t c (Put i) a g has refl pl)
  act_keeps_at s r t c (Count i) a g has pl =
      subst (λ z. AllBatched K (after s r z (rw_learn K (rw_view t c (Count i)) true (told z (found s z)))) → RwGood K levels
      (acted (rw_table K) s r (rw_view t c (Count i)) z)) (same_Some _ _ pl) (counts_up s r t c i g has)
      (batched s r t c (Count i) a g has refl pl)
  act_keeps_at s r t c (Compare i x) a g has pl =
      subst (λ z. AllBatched K (after s r z (rw_learn K (rw_view t c (Compare i x)) true (told z (found s z)))) → RwGood K levels
      (acted (rw_table K) s r (rw_view t c (Compare i x)) z)) (same_Some _ _ pl) (compares s r t c i x g has)
      (batched s r t c (Compare i x) a g has refl pl)
  act_keeps_at s r t c (TakeOut i) a g has pl =
      subst (λ z. AllBatched K (after s r z (rw_learn K (rw_view t c (TakeOut i)) true (told z (found s z)))) → RwGood K levels
      (acted (rw_table K) s r (rw_view t c (TakeOut i)) z)) (same_Some _ _ pl) (takes_out s r t c i g has)
      (batched s r t c (TakeOut i) a g has refl pl)
  act_keeps_at s r t c (TakeOff i x) a g has pl =
      subst (λ z. AllBatched K (after s r z (rw_learn K (rw_view t c (TakeOff i x)) true (told z (found s z)))) → RwGood K levels
      (acted (rw_table K) s r (rw_view t c (TakeOff i x)) z)) (same_Some _ _ pl) (takes_off s r t c i x g has)
      (batched s r t c (TakeOff i x) a g has refl pl)
  act_keeps_at s r t c p a g has pl = reads_keep K levels F d s r t c p a g has tt pl (batched s r t c p a g has refl pl)
