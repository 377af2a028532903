-- A writer at the marks goes on, where nobody goes out of a counter.
use Rattle.std.specs.Prelude.{◌≡◌, ℕ, ◌+◌, ◌-◌, ◌*◌, ◌%◌, ◌^◌, ◌<◌, ◌≤◌, ◌==◌, true, false, List, length, nat_lt, if◌then◌else◌, slice_get, slice_index, slice_set, Some, refl}
use Rattle.std.proofs.Common.{sym, ◌∙◌, ap, subst, ⊎_elim, arith}
use Rattle.std.proofs.lemmas.Bool.Decides.{nat_tests, eqb_tells}
use Rattle.std.proofs.lemmas.List.{set-get_or}
use Rattle.rl_word.specs.declared.acts.Act.TheVariants.{Load, CardSwap, CardAdd}
use Rattle.rl_step.specs.Lock.{LockState}
use Rattle.rl_queue.specs.laws.Choices.{choose, same_test}
use Rattle.rl_tree.specs.declared.view.TreeView.{TreeView}
use Rattle.rl_tree.specs.Tree.{tree_resume}
use Rattle.rl_tree.specs.Elements.{tree_of}
use Rattle.rl_tree.specs.TreeFacts.{TreeFacts}
use Rattle.rl_tree.specs.TreeShape.{IsWellShaped}
use Rattle.rl_tree.specs.laws.TreeStandings.{above_is}
use Rattle.rl_counter.specs.declared.view.Doing.{Doing}
use Rattle.rl_counter.specs.declared.view.Doing.TheVariants.{Nothing, Put, Count, Compare, TakeOut, TakeOff}
use Rattle.rl_counter.specs.Counter.{CounterTurn, arrive_word, depart_word, counter_turn, off, to}
use Rattle.rl_counter.specs.CounterGood.{IsMark, Up, Clear as ClearMark, mark_by}
use Rattle.rl_rw.specs.declared.view.RwView.{RwView}
use Rattle.rl_rw.specs.Rw.{Shared, groups, counters_of, rw_view, from_counter}
use Rattle.rl_rw.specs.RwGood.{RwGood}
use Rattle.rl_rw.specs.laws.RwWords.{IsSound}
use Rattle.rl_rw.specs.laws.RwKeeps.{as_tree}
use Rattle.rl_rw.specs.RwLeft.{far_in, rw_far, fulls, near_at}
use Rattle.rl_rw.specs.laws.RwFar.{settles_cap, leaves_cap}
use Rattle.rl_rw.specs.laws.RwBalance.{NoneAt, balanced}
use Rattle.rl_rw.specs.laws.RwGoes.{Goes, by_far, by_look, arrive_full, swap_less}

not_less : (i : ℕ) → nat_lt i i ≡ false
not_less i = grind (arith, nat_tests)

module _ (K : Shared) (n : ℕ) (F : TreeFacts K.rooted n) (d : IsSound K) (S : IsWellShaped K.rooted n) where
  abbrev Going : LockState RwView → ℕ → Type 0
  Going s r = Goes K n F d S s r

  abbrev G : ℕ
  G = groups K

  -- what a rank at the marks has before it where its turn is this, and its words are these
  abbrev Nearer : List ℕ → List ℕ → RwView → Doing → CounterTurn → Type 0
  Nearer ws us v p u = rw_far K n (from_counter K v p u.doing u.waits).view + fulls K us (groups K) < rw_far K n v + fulls K ws (groups K)

  put_goes : (s : LockState RwView) (r : ℕ) (t : TreeView) (c i : ℕ) → RwGood K n s → slice_get s.views r ≡ Some (rw_view t c (Put i)) → Going s r
  put_goes s r t c i g has =
      let v : RwView = rw_view t c (Put i) in
      let w : ℕ = arrive_word (counters_of K) i in
      let li : i < groups K = (g.place r v has).2 in
      let us : List ℕ = slice_set s.words w ((slice_index s.words w + 2 ^ 32) % 2 ^ 64) in
      let full : fulls K us (groups K) ≡ fulls K s.words (groups K) = arrive_full K n F d S s i ((slice_index s.words w + 2 ^ 32) % 2 ^ 64) g li in
      by_far K n F d S s r v (CardAdd w (2 ^ 32)) has refl
      (choose (Nearer s.words us v (Put i)) (nat_lt (i + 1) (length (counters_of K).arrive)) (to (Put (i + 1))) (to (Count 0)) (omega arith) (omega arith))

  take_out_goes : (s : LockState RwView) (r : ℕ) (t : TreeView) (c i : ℕ) → 0 < K.readers → RwGood K n s →
      slice_get s.views r ≡ Some (rw_view t c (TakeOut i)) → Going s r
  take_out_goes s r t c i some g has =
      let v : RwView = rw_view t c (TakeOut i) in
      let w : ℕ = depart_word (counters_of K) i in
      let li : i < groups K = (g.place r v has).2 in
      let us : List ℕ = slice_set s.words w 0 in
      let full : fulls K us (groups K) ≤ fulls K s.words (groups K) = swap_less K n F d S s i some g li in
      by_far K n F d S s r v (CardSwap w 0) has refl (omega arith)

  take_off_goes : (s : LockState RwView) (r : ℕ) (t : TreeView) (c i x : ℕ) → RwGood K n s → slice_get s.views r ≡ Some (rw_view t c (TakeOff i x)) → Going s r
  take_off_goes s r t c i x g has =
      let v : RwView = rw_view t c (TakeOff i x) in
      let w : ℕ = arrive_word (counters_of K) i in
      let row = g.place r v has in
      let li : i < groups K = row.2 in
      let y : ℕ = (slice_index s.words w + off ((2 ^ 32 + x) % 2 ^ 64)) % 2 ^ 64 in
      let us : List ℕ = slice_set s.words w y in
      let full : fulls K us (groups K) ≡ fulls K s.words (groups K) = arrive_full K n F d S s i y g li in
      let k = above_is t.phase row.1 in
      let le : t.level ≤ n = (g.tree.tree.by.shaped r t (as_tree K n F d s r v has)).within in
      let down : far_in n (groups K) (tree_resume (tree_of K.rooted) t).view ≤ 4 * n + 3 = leaves_cap n (groups K) (tree_of K.rooted) t t.phase k.0 le k.1 in
      by_far K n F d S s r v (CardAdd w (off ((2 ^ 32 + x) % 2 ^ 64))) has refl
      (choose (Nearer s.words us v (TakeOff i x)) (nat_lt (i + 1) (length (counters_of K).arrive)) (to (TakeOut (i + 1))) (to Nothing)
      (omega arith) (omega arith))

  -- What was counted under the mark is what has gone, where nobody goes out.
  count_goes : (s : LockState RwView) (r : ℕ) (t : TreeView) (c i : ℕ) → NoneAt K s 0 → RwGood K n s →
      slice_get s.views r ≡ Some (rw_view t c (Count i)) → Going s r
  count_goes s r t c i none g has =
      let v : RwView = rw_view t c (Count i) in
      let w : ℕ = arrive_word (counters_of K) i in
      let got : ℕ = slice_index s.words w in
      let li : i < groups K = (g.place r v has).2 in
      let up : mark_by g.inside g.hook i ≡ Up = ap (λ z. mark_by g.inside z i) (sym (g.hooked.all r v has tt))
      ∙ ap (λ b. if b then ClearMark else Up) (not_less i) in
      let bal = (balanced K n s i Up g none li up refl).0 in
      let gone : slice_index s.words (depart_word (counters_of K) i) ≡ got - 2 ^ 32 = omega arith in
      let test : (slice_index s.words (depart_word (counters_of K) i) == got - 2 ^ 32) ≡ true =
      ap (λ z. z == got - 2 ^ 32) gone ∙ same_test (got - 2 ^ 32) in
      let near : near_at K s.words c (Compare i got) t ≡ 1 = ap (λ b. if b then 1 else 3) test in
      by_look K n F d S s r v (rw_view t c (Compare i got)) w has refl refl refl (omega (arith, near))

  -- it goes on where that is so, and else counts again
  compare_goes : (s : LockState RwView) (r : ℕ) (t : TreeView) (c i a : ℕ) → RwGood K n s → slice_get s.views r ≡ Some (rw_view t c (Compare i a)) → Going s r
  compare_goes s r t c i a g has =
      let v : RwView = rw_view t c (Compare i a) in
      let w : ℕ = depart_word (counters_of K) i in
      let got : ℕ = slice_index s.words w in
      let row = g.place r v has in
      let li : i < groups K = row.2 in
      let still : slice_set s.words w (slice_index s.words w) ≡ s.words = set-get_or s.words w 0 in
      let full : fulls K (slice_set s.words w (slice_index s.words w)) (groups K) ≡ fulls K s.words (groups K) = ap (λ z. fulls K z (groups K)) still in
      let inside : far_in n (groups K) (tree_resume (tree_of K.rooted) t).view ≤ 0 = settles_cap n (groups K) (tree_of K.rooted) t t.phase row.1 in
      let us : List ℕ = slice_set s.words w (slice_index s.words w) in
      ⊎_elim
      (λ q. by_far K n F d S s r v (Load w) has refl
      (subst (λ b. Nearer s.words us v (Compare i a) (if b then
      (if nat_lt (i + 1) (length (counters_of K).arrive) then to (Count (i + 1)) else to Nothing) else
      record { doing = Count i; waits = true })) (sym q.0)
      (choose (Nearer s.words us v (Compare i a)) (nat_lt (i + 1) (length (counters_of K).arrive)) (to (Count (i + 1))) (to Nothing)
      (omega arith) (omega arith))))
      (λ q.
      let turn : counter_turn (counters_of K) (Compare i a) got ≡ record { doing = Count i; waits = true } =
      ap (λ b. if b then (if nat_lt (i + 1) (length (counters_of K).arrive) then to (Count (i + 1)) else to Nothing) else
      record { doing = Count i; waits = true }) q.0 in
      let near : near_at K s.words c (Compare i a) t ≡ 3 = ap (λ b. if b then 1 else 3) q.0 in
      by_look K n F d S s r v (rw_view t c (Count i)) w has refl (ap (λ u. (from_counter K v (Compare i a) u.doing u.waits).view) turn) refl (omega (arith, near)))
      (eqb_tells (slice_index s.words w) (a - 2 ^ 32))

  -- EACH RANK AT THE MARKS
  pub marks_go : (s : LockState RwView) (r : ℕ) (t : TreeView) (c : ℕ) (p : Doing) → 0 < K.readers → NoneAt K s 0 → RwGood K n s →
      slice_get s.views r ≡ Some (rw_view t c p) → IsMark p → Going s r
  marks_go s r t c (Put i) some none g has m = put_goes s r t c i g has
  marks_go s r t c (Count i) some none g has m = count_goes s r t c i none g has
  marks_go s r t c (Compare i a) some none g has m = compare_goes s r t c i a g has
  marks_go s r t c (TakeOut i) some none g has m = take_out_goes s r t c i some g has
  marks_go s r t c (TakeOff i x) some none g has m = take_off_goes s r t c i x g has
  marks_go s r t c _ some none g has m = absurd m
