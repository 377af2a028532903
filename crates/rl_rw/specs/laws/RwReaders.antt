-- Where nobody goes out of a counter, and no writer goes on, all ranks are out of the tree, no mark is up, and each reader goes on.
use Rattle.std.specs.Prelude.{◌≡◌, ◌⊎◌, ℕ, suc, ◌+◌, ◌%◌, ◌^◌, ◌<◌, ◌≤◌, ◌==◌, ◌&&◌, Bool, true, false, List, nat_lt, if◌then◌else◌, slice_get, slice_index, slice_set, Option, Some, None, refl}
use Rattle.std.proofs.Common.{sym, ◌∙◌, ap, subst, inl, inr, ⊎_elim, arith, get_or-set_other}
use Rattle.std.proofs.lemmas.Bool.Decides.{nat_tests}
use Rattle.std.proofs.lemmas.Option.{same_Some}
use Rattle.rl_word.specs.laws.Places.{get_map_back}
use Rattle.rl_word.specs.declared.acts.Act.TheVariants.{CardSwap, CardAdd}
use Rattle.rl_step.specs.declared.events.Standing.TheVariants as standing
use Rattle.rl_step.specs.Lock.{LockState}
use Rattle.rl_queue.specs.declared.view.Phase.{Phase}
use Rattle.rl_queue.specs.declared.view.Phase.TheVariants.{Idle, Wait, Granted, Await}
use Rattle.rl_queue.specs.laws.Choices.{same_test, other_test, lt_test}
use Rattle.rl_queue.specs.Lane.{Busy}
use Rattle.rl_queue.specs.Queue.{TheNames, queue_next_word, status_word, plan_at}
use Rattle.rl_queue.specs.Urgency.{loaded}
use Rattle.rl_queue.specs.laws.Stuck.{Stuck}
use Rattle.rl_tree.specs.declared.view.TreeView.{TreeView}
use Rattle.rl_tree.specs.Tree.{path, works_for, tree_plan, tree_standing}
use Rattle.rl_tree.specs.laws.Cases.{plan_by}
use Rattle.rl_tree.specs.Elements.{names_in, tree_of}
use Rattle.rl_tree.specs.TreeFacts.{TreeFacts}
use Rattle.rl_tree.specs.TreeShape.{IsWellShaped}
use Rattle.rl_tree.specs.laws.TreeGoes.{tree_goes}
use Rattle.rl_tree.specs.laws.TreeStandings.{out_is}
use Rattle.rl_tree.specs.laws.RankGoes.{GoesIn}
use Rattle.rl_counter.specs.declared.view.Doing.{Doing}
use Rattle.rl_counter.specs.declared.view.Doing.TheVariants.{Nothing, Arrive, Refused, SeeTail, Swap, Reset as ResetOff, Round, RoundTail, Inside, Depart, Put, Count, Compare, TakeOut, TakeOff}
use Rattle.rl_counter.specs.Counter.{CounterTurn, arrive_word, depart_word, counter_turn, to}
use Rattle.rl_counter.specs.CounterGood.{IsMark, Down, mark_by}
use Rattle.rl_ending.specs.laws.EndingLaws.{all_out_or_not}
use Rattle.rl_rw.specs.declared.view.RwView.{RwView}
use Rattle.rl_rw.specs.Rw.{Shared, groups, counters_of, rw_view, from_counter}
use Rattle.rl_rw.specs.RwGood.{trees, Place, RwGood}
use Rattle.rl_rw.specs.laws.RwWords.{IsSound, depart_is}
use Rattle.rl_rw.specs.laws.RwKeeps.{all_trees}
use Rattle.rl_rw.specs.RwLeft.{rw_far, is_full, fulls, near_if, near_at, rw_near}
use Rattle.rl_rw.specs.RwUrgency.{where_some, tree_urgency, urgency_at}
use Rattle.rl_rw.specs.laws.RwNear.{near_kept, fulls_same}
use Rattle.rl_rw.specs.laws.RwBalance.{NoneAt, balanced}
use Rattle.rl_rw.specs.laws.RwGoes.{Goes, by_far, by_change, by_look, by_arrive, own_there, tail_low, arrive_full, swap_fall, swap_still}

-- who isn't stuck in the tree holds the lock, or is as urgent as a writer
free_urgent : (N : TheNames) (ws : List ℕ) (m : ℕ) (p : Phase) → Busy p →
    (Stuck p (slice_index ws (queue_next_word N m)) (slice_index ws (status_word N m)) → ⊥) →
    (tree_urgency false p (loaded ws (plan_at N m p)) ≡ Some 0) ⊎ (tree_urgency false p (loaded ws (plan_at N m p)) ≡ Some 1)
free_urgent N ws m Idle busy free = absurd busy
free_urgent N ws m Wait busy free = inr (ap (λ b. where_some 1 (if b then None else Some 0)) (other_test (slice_index ws (status_word N m)) 0 free))
free_urgent N ws m (Await left) busy free = inr (ap (λ b. where_some 1 (if b then None else Some 0)) (other_test (slice_index ws (queue_next_word N m)) 0 free))
free_urgent N ws m (Granted left) busy free = inl refl
free_urgent N ws m _ busy free = inr refl

-- a rank at the marks is that
marks_urgent : (K : Shared) (ws : List ℕ) (p : Doing) (t : TreeView) → IsMark p → urgency_at K ws p t ≡ Some 1
marks_urgent K ws (Put i) t m = refl
marks_urgent K ws (Count i) t m = refl
marks_urgent K ws (Compare i a) t m = refl
marks_urgent K ws (TakeOut i) t m = refl
marks_urgent K ws (TakeOff i x) t m = refl
marks_urgent K ws _ t m = absurd m

-- a rank that goes on in the tree is one or the other
goes_urgent : (K : Shared) (ws : List ℕ) (p : Doing) (t : TreeView) → Place (groups K) p t →
    GoesIn K.rooted ws t.query (path (tree_of K.rooted) t.leaf t.level) (works_for (tree_of K.rooted) t t.level) t.phase →
    (urgency_at K ws p t ≡ Some 0) ⊎ (urgency_at K ws p t ≡ Some 1)
goes_urgent K ws Nothing t place goes = by t.query goes where
  urgent_there : Bool → Option ℕ
  urgent_there b = tree_urgency b t.phase (loaded ws (plan_by (tree_of K.rooted) t b))

  by : (b : Bool) → GoesIn K.rooted ws b (path (tree_of K.rooted) t.leaf t.level) (works_for (tree_of K.rooted) t t.level) t.phase →
      (urgent_there b ≡ Some 0) ⊎ (urgent_there b ≡ Some 1)
  by true goes = inr refl
  by false goes = free_urgent (names_in K.rooted (path (tree_of K.rooted) t.leaf t.level)) ws (works_for (tree_of K.rooted) t t.level) t.phase goes.0 goes.1
goes_urgent K ws Inside t place goes = inl refl
goes_urgent K ws Depart t place goes = inl refl
goes_urgent K ws (Refused a) t place goes = inl refl
goes_urgent K ws (ResetOff x) t place goes = inl refl
goes_urgent K ws (Put i) t place goes = inr refl
goes_urgent K ws (Count i) t place goes = inr refl
goes_urgent K ws (Compare i a) t place goes = inr refl
goes_urgent K ws (TakeOut i) t place goes = inr refl
goes_urgent K ws (TakeOff i x) t place goes = inr refl
goes_urgent K ws _ t place goes =
    let o = out_is t.query t.phase place in
    let idle : Busy Idle = subst Busy o.1
    (subst (λ b. GoesIn K.rooted ws b (path (tree_of K.rooted) t.leaf t.level) (works_for (tree_of K.rooted) t t.level) t.phase) o.0
    goes).0 in absurd idle

-- the turn of a reader that has seen that the tail is 0
tail_test : (a x : ℕ) → x ≡ 0 → ((x == 0) && nat_lt a (2 ^ 32)) ≡ nat_lt a (2 ^ 32)
tail_test a x e = ap (λ z. (z == 0) && nat_lt a (2 ^ 32)) e

-- the tests of two numbers
not_lt : (x y : ℕ) → nat_lt x y ≡ false → y ≤ x
not_lt x y e = grind (arith, nat_tests)

is_lt : (x y : ℕ) → nat_lt x y ≡ true → x < y
is_lt x y e = grind (arith, nat_tests)

is_same : (x y : ℕ) → x ≡ y → (x == y) ≡ true
is_same x y e = ap (λ z. z == y) e ∙ same_test y

-- the change of a reader that looks at the tail: it goes on to the reset, or to the round
swaps_falls : (b : Bool) (a : ℕ) → nat_lt a (2 ^ 32) ≡ true → near_if b Swap < near_if b (SeeTail a)
swaps_falls false a e = omega arith
swaps_falls true a e = subst (λ z. 1 < (if z then 2 else 7)) (sym e) (omega arith)

rounds_falls : (b : Bool) (a : ℕ) → nat_lt a (2 ^ 32) ≡ false → near_if b Round < near_if b (SeeTail a)
rounds_falls false a e = omega arith
rounds_falls true a e = subst (λ z. 6 < (if z then 2 else 7)) (sym e) (omega arith)

arrives_falls : (b : Bool) (a : ℕ) → nat_lt a (2 ^ 32) ≡ true → near_if b Arrive < near_if b (RoundTail a)
arrives_falls false a e = omega arith
arrives_falls true a e = subst (λ z. 4 < (if z then 5 else 7)) (sym e) (omega arith)

again_falls : (b : Bool) (a : ℕ) → nat_lt a (2 ^ 32) ≡ false → near_if b Round < near_if b (RoundTail a)
again_falls false a e = omega arith
again_falls true a e = subst (λ z. 6 < (if z then 5 else 7)) (sym e) (omega arith)

-- a reader that is refused at a full counter by no mark is on its way to the reset
refused_next : (a : ℕ) → a < 2 ^ 32 → near_if true (Refused a) < near_if true Arrive
refused_next a lt = subst (λ z. (if z then 3 else 8) < 4) (sym (lt_test a (2 ^ 32) lt)) (omega arith)

round_next : (a : ℕ) → a < 2 ^ 32 → near_if true (RoundTail a) < near_if true Round
round_next a lt = subst (λ z. (if z then 5 else 7) < 6) (sym (lt_test a (2 ^ 32) lt)) (omega arith)

-- in the tree nobody is as urgent as a reader
one_low : (k : ℕ) → Some 1 ≡ Some (suc (suc k)) → ⊥
one_low k e = let no : 1 ≡ suc (suc k) = same_Some _ _ e in absurd (omega arith)

zero_low : (k : ℕ) → Some 0 ≡ Some (suc (suc k)) → ⊥
zero_low k e = let no : 0 ≡ suc (suc k) = same_Some _ _ e in absurd (omega arith)

unless_low : (b : Bool) (k : ℕ) → where_some 1 (if b then None else Some 0) ≡ Some (suc (suc k)) → ⊥
unless_low true k e = cc
unless_low false k e = one_low k e

tree_low : (b : Bool) (p : Phase) (w k : ℕ) → tree_urgency b p w ≡ Some (suc (suc k)) → ⊥
tree_low true p w k e = one_low k e
tree_low false Idle w k e = cc
tree_low false Wait w k e = unless_low (w == 0) k e
tree_low false (Await left) w k e = unless_low (w == 0) k e
tree_low false (Granted left) w k e = zero_low k e
tree_low false _ w k e = one_low k e

module _ (K : Shared) (n : ℕ) (F : TreeFacts K.rooted n) (d : IsSound K) (S : IsWellShaped K.rooted n) where
  abbrev Going : LockState RwView → ℕ → Type 0
  Going s r = Goes K n F d S s r

  -- nobody goes out of a counter, and no writer goes on
  pub record Quiet (s : LockState RwView) : Type 0 where
    pub leaving : NoneAt K s 0
    pub writing : NoneAt K s 1

  -- so all are out of the tree
  pub trees_out : (s : LockState RwView) → RwGood K n s → Quiet s → (r : ℕ) (x : TreeView) → slice_get (trees s.views) r ≡ Some x →
      tree_standing x ≡ standing.Out
  trees_out s g quiet =
      ⊎_elim (λ out. out)
      (λ b.
      let k = tree_goes K.rooted n S s.words (trees s.views) s.trace g.tree.tree (all_trees K n F d s g) b.0 b.1.view b.1.has b.1.busy in
      let m = get_map_back (λ v. v.tree) s.views k.0 k.1.view k.1.has in
      let goes : GoesIn K.rooted s.words m.0.tree.query (path (tree_of K.rooted) m.0.tree.leaf m.0.tree.level)
      (works_for (tree_of K.rooted) m.0.tree m.0.tree.level) m.0.tree.phase =
      subst (λ z. GoesIn K.rooted s.words z.query (path (tree_of K.rooted) z.leaf z.level) (works_for (tree_of K.rooted) z z.level) z.phase)
      (sym m.2) k.1.goes in
      absurd (⊎_elim (quiet.leaving k.0 m.0 m.1) (quiet.writing k.0 m.0 m.1) (goes_urgent K s.words m.0.counter.doing m.0.tree (g.place k.0 m.0 m.1) goes)))
      (all_out_or_not tree_standing (trees s.views))

  -- the root is shut, and its tail is 0
  at_rest : (s : LockState RwView) (g : RwGood K n s) → Quiet s → (g.inside ≡ false) × (slice_index s.words 0 ≡ 0)
  at_rest s g quiet = F.rest_shut g.inside s.words (trees s.views) s.trace (all_trees K n F d s g) g.tree (trees_out s g quiet)

  -- no mark is up, and as many departed from each counter as came to it
  evened : (s : LockState RwView) (c : ℕ) (g : RwGood K n s) → Quiet s → c < groups K →
      (slice_index s.words (arrive_word (counters_of K) c) ≡ slice_index s.words (depart_word (counters_of K) c)) ×
      (slice_index s.words (depart_word (counters_of K) c) ≤ K.readers)
  evened s c g quiet lc =
      let free : g.hook ≡ Nothing = ⊎_elim (λ e. e) (λ k. absurd
      (quiet.writing k.rank k.view k.has (marks_urgent K s.words k.view.counter.doing k.view.tree k.marks))) g.hooked.some in
      let down : mark_by g.inside g.hook c ≡ Down = ap (λ z. mark_by g.inside z c) free ∙ ap (λ z. mark_by z Nothing c) (at_rest s g quiet).0 in
      let k = balanced K n s c Down g quiet.leaving lc down refl in
      let a = k.0 in
      (omega arith, k.1)

  arrive_goes : (s : LockState RwView) (r : ℕ) (t : TreeView) (c : ℕ) → RwGood K n s → Quiet s → slice_get s.views r ≡ Some (rw_view t c Arrive) → Going s r
  arrive_goes s r t c g quiet has = by (nat_lt (slice_index s.words (arrive_word (counters_of K) c)) K.readers) refl where
    v : RwView
    v = rw_view t c Arrive

    w : ℕ
    w = arrive_word (counters_of K) c

    got : ℕ
    got = slice_index s.words (arrive_word (counters_of K) c)

    by : (b : Bool) → nat_lt (slice_index s.words (arrive_word (counters_of K) c)) K.readers ≡ b → Going s r
    by true e =
        let lc : c < groups K = own_there K n F d S s r v g has in
        let us : List ℕ = slice_set s.words w ((got + 1) % 2 ^ 64) in
        let full : fulls K us (groups K) ≡ fulls K s.words (groups K) = arrive_full K n F d S s c ((got + 1) % 2 ^ 64) g lc in
        by_far K n F d S s r v (CardAdd w 1) has refl
        (subst (λ b. rw_far K n (from_counter K v Arrive (if b then to Inside else to (Refused got)).doing
        (if b then to Inside else to (Refused got)).waits).view + fulls K us (groups K) < 1 + fulls K s.words (groups K)) (sym e)
        (omega arith))
    by false e =
        let lc : c < groups K = own_there K n F d S s r v g has in
        let even = evened s c g quiet lc in
        let few = d.few in
        let same = even.0 in
        let most = even.1 in
        let high : K.readers ≤ got = not_lt got K.readers e in
        let full : is_full K s.words c ≡ true = is_same (slice_index s.words (depart_word (counters_of K) c)) K.readers (omega arith) in
        by_arrive K n F d S s r t c Arrive (Refused got) 1 g has refl
        (ap (λ b. (from_counter K v Arrive (if b then to Inside else to (Refused got)).doing
        (if b then to Inside else to (Refused got)).waits).view) e) refl (λ i x h. cc)
        (subst (λ b. near_if b (Refused got) < near_if b Arrive) (sym full) (refused_next got (omega arith)))

  see_goes : (s : LockState RwView) (r : ℕ) (t : TreeView) (c a : ℕ) → RwGood K n s → Quiet s → slice_get s.views r ≡ Some (rw_view t c (SeeTail a)) → Going s r
  see_goes s r t c a g quiet has = by (nat_lt a (2 ^ 32)) refl where
    v : RwView
    v = rw_view t c (SeeTail a)

    test : (b : Bool) → nat_lt a (2 ^ 32) ≡ b → ((slice_index s.words 0 == 0) && nat_lt a (2 ^ 32)) ≡ b
    test b e = tail_test a (slice_index s.words 0) (at_rest s g quiet).1 ∙ e

    seen : (b : Bool) → nat_lt a (2 ^ 32) ≡ b →
        (from_counter K v (SeeTail a) (counter_turn (counters_of K) (SeeTail a) (slice_index s.words 0)).doing
        (counter_turn (counters_of K) (SeeTail a) (slice_index s.words 0)).waits).view ≡
        (from_counter K v (SeeTail a) (if b then to Swap else to Round).doing (if b then to Swap else to Round).waits).view
    seen b e = ap (λ b. (from_counter K v (SeeTail a) (if b then to Swap else to Round).doing (if b then to Swap else to Round).waits).view) (test b e)

    by : (b : Bool) → nat_lt a (2 ^ 32) ≡ b → Going s r
    by true e = by_look K n F d S s r v (rw_view t c Swap) 0 has refl (seen true e) refl (swaps_falls (is_full K s.words c) a e)
    by false e = by_look K n F d S s r v (rw_view t c Round) 0 has refl (seen false e) refl (rounds_falls (is_full K s.words c) a e)

  swap_goes : (s : LockState RwView) (r : ℕ) (t : TreeView) (c : ℕ) → 0 < K.readers → RwGood K n s → Quiet s →
      slice_get s.views r ≡ Some (rw_view t c Swap) → Going s r
  swap_goes s r t c some g quiet has = by (is_full K s.words c) refl where
    v : RwView
    v = rw_view t c Swap

    w : ℕ
    w = depart_word (counters_of K) c

    got : ℕ
    got = slice_index s.words (depart_word (counters_of K) c)

    us : List ℕ
    us = slice_set s.words (depart_word (counters_of K) c) 0

    lc : c < groups K
    lc = own_there K n F d S s r (rw_view t c Swap) g has

    tails : (i : ℕ) (x : RwView) → slice_get s.views i ≡ Some x →
        slice_index us (path (tree_of K.rooted) x.tree.leaf x.tree.level) ≡ slice_index s.words
        (path (tree_of K.rooted) x.tree.leaf x.tree.level)
    tails i x h =
        let low = tail_low K n F d S s i x g h in
        let high = depart_is K c lc in
        get_or-set_other s.words (depart_word (counters_of K) c) (path (tree_of K.rooted) x.tree.leaf x.tree.level) 0 0 (λ e. absurd (omega arith))

    by : (b : Bool) → is_full K s.words c ≡ b → Going s r
    by true e =
        let fall : fulls K us (groups K) < fulls K s.words (groups K) = swap_fall K n F d S s c some g lc e in
        by_far K n F d S s r v (CardSwap w 0) has refl (omega arith)
    by false e =
        let others : (i : ℕ) (x : RwView) → slice_get s.views i ≡ Some x → rw_near K us x ≡ rw_near K s.words x =
        λ i x h. near_kept K s.words us x.counter.counter x.counter.doing x.tree (tails i x h)
        (swap_still K n F d S s c x.counter.counter some g lc (own_there K n F d S s i x g h) e)
        (λ j a same. absurd (quiet.writing i x h (ap (λ z. urgency_at K s.words z x.tree) same))) in
        let still : is_full K us c ≡ false = swap_still K n F d S s c c some g lc lc e ∙ e in
        let near : near_at K us c (ResetOff got) t ≡ 3 = ap (λ b. near_if b (ResetOff got)) still in
        let old : near_at K s.words c Swap t ≡ 4 = ap (λ b. near_if b Swap) e in
        let full : fulls K us (groups K) ≡ fulls K s.words (groups K) =
        fulls_same K s.words us (groups K) (λ h lh. swap_still K n F d S s c h some g lc lh e) in
        by_change K n F d S s r v (rw_view t c (ResetOff got)) (CardSwap w 0) has refl refl others refl full (omega (arith, near, old))

  round_goes : (s : LockState RwView) (r : ℕ) (t : TreeView) (c : ℕ) → RwGood K n s → Quiet s → slice_get s.views r ≡ Some (rw_view t c Round) → Going s r
  round_goes s r t c g quiet has = by (nat_lt (slice_index s.words (arrive_word (counters_of K) c)) K.readers) refl where
    v : RwView
    v = rw_view t c Round

    got : ℕ
    got = slice_index s.words (arrive_word (counters_of K) c)

    lc : c < groups K
    lc = own_there K n F d S s r (rw_view t c Round) g has

    by : (b : Bool) → nat_lt (slice_index s.words (arrive_word (counters_of K) c)) K.readers ≡ b → Going s r
    by true e =
        let even = evened s c g quiet lc in
        let same = even.0 in
        let low : got < K.readers = is_lt got K.readers e in
        let full : is_full K s.words c ≡ false = other_test (slice_index s.words (depart_word (counters_of K) c)) K.readers (λ z. absurd (omega arith)) in
        by_look K n F d S s r v (rw_view t c Arrive) (arrive_word (counters_of K) c) has refl
        (ap (λ b. (from_counter K v Round (if b then to Arrive else to (RoundTail got)).doing (if b then to Arrive else to (RoundTail got)).waits).view) e) refl
        (subst (λ b. near_if b Arrive < near_if b Round) (sym full) (omega arith))
    by false e =
        let even = evened s c g quiet lc in
        let same = even.0 in
        let most = even.1 in
        let few = d.few in
        let high : K.readers ≤ got = not_lt got K.readers e in
        let full : is_full K s.words c ≡ true = is_same (slice_index s.words (depart_word (counters_of K) c)) K.readers (omega arith) in
        by_look K n F d S s r v (rw_view t c (RoundTail got)) (arrive_word (counters_of K) c) has refl
        (ap (λ b. (from_counter K v Round (if b then to Arrive else to (RoundTail got)).doing (if b then to Arrive else to (RoundTail got)).waits).view) e) refl
        (subst (λ b. near_if b (RoundTail got) < near_if b Round) (sym full) (round_next got (omega arith)))

  tail_goes : (s : LockState RwView) (r : ℕ) (t : TreeView) (c a : ℕ) → RwGood K n s → Quiet s →
      slice_get s.views r ≡ Some (rw_view t c (RoundTail a)) → Going s r
  tail_goes s r t c a g quiet has = by (nat_lt a (2 ^ 32)) refl where
    v : RwView
    v = rw_view t c (RoundTail a)

    again : CounterTurn
    again = record { doing = Round; waits = true }

    seen : (b : Bool) → nat_lt a (2 ^ 32) ≡ b →
        (from_counter K v (RoundTail a) (counter_turn (counters_of K) (RoundTail a) (slice_index s.words 0)).doing (counter_turn
        (counters_of K) (RoundTail a) (slice_index s.words 0)).waits).view ≡
        (from_counter K v (RoundTail a) (if b then to Arrive else again).doing (if b then to Arrive else again).waits).view
    seen b e = ap (λ b. (from_counter K v (RoundTail a) (if b then to Arrive else again).doing (if b then to Arrive else again).waits).view)
        (tail_test a (slice_index s.words 0) (at_rest s g quiet).1 ∙ e)

    by : (b : Bool) → nat_lt a (2 ^ 32) ≡ b → Going s r
    by true e = by_look K n F d S s r v (rw_view t c Arrive) 0 has refl (seen true e) refl (arrives_falls (is_full K s.words c) a e)
    by false e = by_look K n F d S s r v (rw_view t c Round) 0 has refl (seen false e) refl (again_falls (is_full K s.words c) a e)

  -- EACH READER THAT ASKS
  pub readers_go : (s : LockState RwView) (r : ℕ) (t : TreeView) (c : ℕ) (p : Doing) (k : ℕ) → 0 < K.readers → RwGood K n s → Quiet s →
      slice_get s.views r ≡ Some (rw_view t c p) → urgency_at K s.words p t ≡ Some (suc (suc k)) → Going s r
  readers_go s r t c Arrive k some g quiet has e = arrive_goes s r t c g quiet has
  readers_go s r t c (SeeTail a) k some g quiet has e = see_goes s r t c a g quiet has
  readers_go s r t c Swap k some g quiet has e = swap_goes s r t c some g quiet has
  readers_go s r t c Round k some g quiet has e = round_goes s r t c g quiet has
  readers_go s r t c (RoundTail a) k some g quiet has e = tail_goes s r t c a g quiet has
  readers_go s r t c Nothing k some g quiet has e = absurd (tree_low t.query t.phase (loaded s.words (tree_plan (tree_of K.rooted) t)) k e)
  readers_go s r t c Inside k some g quiet has e = absurd (zero_low k e)
  readers_go s r t c Depart k some g quiet has e = absurd (zero_low k e)
  readers_go s r t c (Refused a) k some g quiet has e = absurd (zero_low k e)
  readers_go s r t c (ResetOff x) k some g quiet has e = absurd (zero_low k e)
  readers_go s r t c (Put i) k some g quiet has e = absurd (one_low k e)
  readers_go s r t c (Count i) k some g quiet has e = absurd (one_low k e)
  readers_go s r t c (Compare i a) k some g quiet has e = absurd (one_low k e)
  readers_go s r t c (TakeOut i) k some g quiet has e = absurd (one_low k e)
  readers_go s r t c (TakeOff i x) k some g quiet has e = absurd (one_low k e)
