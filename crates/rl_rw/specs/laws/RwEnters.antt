-- Under RMA-RW a reader enters by the one act that adds it to its counter, where it found fewer than the bound; so batches are bounded.
use Rattle.std.specs.Prelude.{◌≡◌, ℕ, zero, suc, ◌+◌, ◌-◌, ◌^◌, ◌<◌, ◌≤◌, ◌==◌, ◌&&◌, Bool, true, false, List, [], ◌∷◌, ◌++◌, length, nat_lt, if◌then◌else◌, Option, Some, refl}
use Rattle.std.proofs.Common.{sym, ◌∙◌, ap, subst, inl, inr, arith}
use Rattle.std.proofs.lemmas.Option.{same_Some}
use Rattle.std.proofs.lemmas.Bool.Decides.{nat_tests}
use Rattle.rl_word.specs.declared.acts.Act.{Act}
use Rattle.rl_word.specs.declared.acts.Act.TheVariants.{CardAdd}
use Rattle.rl_step.specs.declared.events.Event.{Event}
use Rattle.rl_step.specs.declared.events.Event.TheVariants as event
use Rattle.rl_step.specs.Lock.{Told}
use Rattle.rl_step.specs.laws.BatchLaws.{MayEnter}
use Rattle.rl_step.specs.Queues.{count}
use Rattle.rl_step.specs.Transitions.{reader_entries}
use Rattle.rl_queue.specs.declared.view.Phase.{Phase}
use Rattle.rl_queue.specs.declared.view.Phase.TheVariants.{Idle, Settle, Granted, Above}
use Rattle.rl_queue.specs.laws.Choices.{choose}
use Rattle.rl_queue.specs.Queue.{turn_at}
use Rattle.rl_queue.specs.laws.QueueTurns.{turn_all}
use Rattle.rl_tree.specs.declared.view.TreeView.{TreeView}
use Rattle.rl_tree.specs.Tree.{TheTree, is_none, path, names_at, works_for, settles_below, goes_up, gives_up, goes_down, tree_walk, tree_learn, at_hook, resume_by, tree_resume, entry_if}
use Rattle.rl_tree.specs.laws.Cases.{learn_by}
use Rattle.rl_tree.specs.Elements.{tree_of}
use Rattle.rl_counter.specs.declared.view.Doing.{Doing}
use Rattle.rl_counter.specs.declared.view.Doing.TheVariants.{Nothing, Arrive, Refused, SeeTail, Swap, Round, RoundTail, Inside, Put, Count, Compare, TakeOut, TakeOff}
use Rattle.rl_counter.specs.Counter.{arrive_word, busy, counter_act, counter_turn, to}
use Rattle.rl_rw.specs.declared.view.RwView.{RwView}
use Rattle.rl_rw.specs.Rw.{Shared, counters_of, plan_of, from_tree, after_hook, from_counter, rw_learn}

module _ (mine : ℕ → Bool) where
  -- no reader enters
  abbrev Still : List Event → Type 0
  Still es = reader_entries mine es ≡ 0

  still-append : (xs ys : List Event) → Still xs → Still ys → Still (xs ++ ys)
  still-append [] ys a b = b
  still-append (x ∷ xs) ys a b = let k : reader_entries mine (xs ++ ys) ≡ 0 = still-append xs ys (omega arith) b in omega arith

  settles_still : (T : TheTree) (v : TreeView) (j : ℕ) → Still (settles_below T v j)
  settles_still T v zero = refl
  settles_still T v (suc j) = let k = settles_still T v j in omega arith

  entry_still : (q : Bool) (p : Phase) (m : ℕ) → Still (entry_if q p m)
  entry_still true p m = refl
  entry_still false Idle m = refl
  entry_still false _ m = refl

  up_still : (b : Bool) (v : TreeView) (w : ℕ) (es : List Event) → Still es → Still (goes_up b v w es).events
  up_still true v w es h = h
  up_still false v w es h = h

  give_still : (b : Bool) (v : TreeView) (w : ℕ) (s : Option ℕ) (es : List Event) → Still es → Still (gives_up b v w s es).events
  give_still true v w s es h = h
  give_still false v w s es h = h

  down_still : (v : TreeView) (w : ℕ) (es : List Event) → Still es → Still (goes_down v w es).events
  down_still v zero es h = h
  down_still v (suc j) es h = h

  walk_still : (T : TheTree) (v : TreeView) (w : ℕ) (q : Phase) (es : List Event) (b : Bool) → Still es → Still (tree_walk T v w q es b).events
  walk_still T v w Settle es b h = up_still (is_none (T.parent (path T v.leaf w))) v w es h
  walk_still T v w (Granted l) es b h = still-append es (settles_below T v w) h (settles_still T v w)
  walk_still T v w (Above s) es b h = give_still (is_none (T.parent (path T v.leaf w))) v w s es h
  walk_still T v w Idle es b h = down_still v w es h
  walk_still T v w _ es b h = h

  learn_still : (T : TheTree) (v : TreeView) (q : Bool) (got : ℕ) → Still (learn_by T v q got).events
  learn_still T v true got = refl
  learn_still T v false got =
      walk_still T v v.level (turn_at (names_at T v v.level) (works_for T v v.level) v.phase got).phase
      (turn_at (names_at T v v.level) (works_for T v v.level) v.phase got).events
      (turn_at (names_at T v v.level) (works_for T v v.level) v.phase got).waits
      (turn_all Still (names_at T v v.level) (works_for T v v.level) v.phase got refl refl (λ s. refl))

  resume_still : (T : TheTree) (v : TreeView) (p : Phase) → Still (resume_by T v p []).events
  resume_still T v Settle = settles_still T v (suc v.level)
  resume_still T v _ = refl

  tree_still : (v : RwView) (b : Bool) (u : Told TreeView) → Still u.events → Still (from_tree v b u).events
  tree_still v true u h = h
  tree_still v false u h = still-append u.events (entry_if u.view.query u.view.phase u.view.rank) h (entry_still u.view.query u.view.phase u.view.rank)

  hook_still : (K : Shared) (v : RwView) → Still (after_hook K v).events
  hook_still K v = tree_still v false (tree_resume (tree_of K.rooted) v.tree) (resume_still (tree_of K.rooted) v.tree v.tree.phase)

  one_low : (b : Bool) → count b + 0 ≤ 1
  one_low true = omega arith
  one_low false = omega arith

  -- What the laws of batches ask of each act: it lets no reader of the group enter, or one, by adding 1 where it found fewer than
  -- the bound. The rank's counter is the one at g where it is one of the group.
  abbrev Fits : Shared → ℕ → Act → ℕ → List Event → Type 0
  Fits K g a got es = MayEnter mine (arrive_word (counters_of K) g) K.readers a got es

  arrive_fits : (K : Shared) (v : RwView) (g : ℕ) (a : Act) (got : ℕ) → (mine v.tree.rank ≡ true → v.counter.counter ≡ g) →
      counter_act (counters_of K) v.counter.counter Arrive ≡ Some a →
      Fits K g a got (from_counter K v Arrive (counter_turn (counters_of K) Arrive got).doing (counter_turn (counters_of K) Arrive got).waits).events
  arrive_fits K v g a got own pl = at (nat_lt got K.readers) refl where
    group : (b : Bool) → mine v.tree.rank ≡ b → got < K.readers → Fits K g a got (event.EnterR v.tree.rank ∷ [])
    group true e l =
        let same : CardAdd (arrive_word (counters_of K) v.counter.counter) 1 ≡ a = same_Some _ _ pl in
        inr (sym same ∙ ap (λ z. CardAdd (arrive_word (counters_of K) z) 1) (own e), l, one_low (mine v.tree.rank))
    group false e l = inl (ap (λ z. count z + 0) e)

    at : (b : Bool) → nat_lt got K.readers ≡ b → Fits K g a got
        (from_counter K v Arrive (if nat_lt got K.readers then to Inside else to (Refused got)).doing
        (if nat_lt got K.readers then to Inside else to (Refused got)).waits).events
    at true e = subst (λ z. Fits K g a got (from_counter K v Arrive (if z then to Inside else to (Refused got)).doing
        (if z then to Inside else to (Refused got)).waits).events) (sym e) (group (mine v.tree.rank) refl (grind (arith, nat_tests)))
    at false e = subst (λ z. Fits K g a got (from_counter K v Arrive (if z then to Inside else to (Refused got)).doing
        (if z then to Inside else to (Refused got)).waits).events) (sym e) (inl refl)

  pub rw_enters : (K : Shared) (v : RwView) (p : Doing) (g : ℕ) (a : Act) (got : ℕ) → (mine v.tree.rank ≡ true → v.counter.counter ≡ g) →
      busy p ≡ true → counter_act (counters_of K) v.counter.counter p ≡ Some a →
      Fits K g a got (from_counter K v p (counter_turn (counters_of K) p got).doing (counter_turn (counters_of K) p got).waits).events
  rw_enters K v Nothing g a got own b pl = cc
  rw_enters K v Arrive g a got own b pl = arrive_fits K v g a got own pl
  rw_enters K v (SeeTail x) g a got own b pl =
      choose (λ u. Fits K g a got (from_counter K v (SeeTail x) u.doing u.waits).events) ((got == 0) && nat_lt x (2 ^ 32)) (to Swap)
      (to Round) (inl refl) (inl refl)
  rw_enters K v Round g a got own b pl =
      choose (λ u. Fits K g a got (from_counter K v Round u.doing u.waits).events) (nat_lt got K.readers) (to Arrive) (to (RoundTail got)) (inl refl) (inl refl)
  rw_enters K v (RoundTail x) g a got own b pl =
      choose (λ u. Fits K g a got (from_counter K v (RoundTail x) u.doing u.waits).events) ((got == 0) && nat_lt x (2 ^ 32)) (to Arrive)
      (record { doing = Round; waits = true }) (inl refl) (inl refl)
  rw_enters K v Inside g a got own b pl = cc
  rw_enters K v (Put i) g a got own b pl =
      choose (λ u. Fits K g a got (from_counter K v (Put i) u.doing u.waits).events) (nat_lt (i + 1) (length (counters_of K).arrive))
      (to (Put (i + 1))) (to (Count 0)) (inl refl) (inl refl)
  rw_enters K v (Compare i x) g a got own b pl =
      choose (λ u. Fits K g a got (from_counter K v (Compare i x) u.doing u.waits).events) (got == x - 2 ^ 32)
      (if nat_lt (i + 1) (length (counters_of K).arrive) then to (Count (i + 1)) else to Nothing)
      (record { doing = Count i; waits = true })
      (choose (λ u. Fits K g a got (from_counter K v (Compare i x) u.doing u.waits).events) (nat_lt (i + 1) (length (counters_of K).arrive))
      (to (Count (i + 1))) (to Nothing) (inl refl) (inl (hook_still K v))) (inl refl)
  rw_enters K v (TakeOff i x) g a got own b pl =
      choose (λ u. Fits K g a got (from_counter K v (TakeOff i x) u.doing u.waits).events) (nat_lt (i + 1) (length (counters_of K).arrive))
      (to (TakeOut (i + 1))) (to Nothing) (inl refl) (inl (hook_still K v))
  rw_enters K v _ g a got own b pl = inl refl

  -- each act of the lock fits
  pub rw_fits : (K : Shared) (v : RwView) (q : Bool) (g : ℕ) (a : Act) (got : ℕ) → (mine v.tree.rank ≡ true → v.counter.counter ≡ g) →
      busy v.counter.doing ≡ q → plan_of K v q ≡ Some a → Fits K g a got (rw_learn K v q got).events
  rw_fits K v true g a got own b pl = rw_enters K v v.counter.doing g a got own b pl
  rw_fits K v false g a got own b pl =
      inl (tree_still v (at_hook (tree_learn (tree_of K.rooted) v.tree got).view) (tree_learn (tree_of K.rooted) v.tree got)
      (learn_still (tree_of K.rooted) v.tree v.tree.query got))
