-- Where a lock has no dead end, it has none with its card acts split: the first rank that is in a card goes on, or, where nobody is in
-- one, whoever goes on at the lock.
use Rattle.std.specs.Prelude.{◌≡◌, ℕ, zero, suc, ◌+◌, ◌*◌, ◌<◌, ◌≤◌, ◌==◌, true, List, map, slice_get, slice_index, slice_set, Option, Some, None, refl, sum_by}
use Rattle.std.proofs.Common.{sym, ◌∙◌, ap, subst, inl, inr, ⊎_elim, arith}
use Rattle.std.proofs.lemmas.Option.{same_Some}
use Rattle.std.proofs.lemmas.List.{set-get_or}
use Rattle.rl_word.specs.laws.Places.{get_map, get_map_back, map_set, set_same_get}
use Rattle.rl_word.specs.Acts.{word_of, written, told, by_card, Layout}
use Rattle.rl_word.specs.declared.acts.Act.{Act}
use Rattle.rl_word.specs.declared.acts.Atom.{Atom}
use Rattle.rl_word.specs.declared.acts.Atom.TheVariants as atom
use Rattle.rl_step.specs.declared.events.Event.{Event}
use Rattle.rl_step.specs.declared.events.Stepped.TheVariants.{Moved}
use Rattle.rl_step.specs.Lock.{LockTable, LockState, LockLaws, Deed, IsHolder, acted}
use Rattle.rl_step.specs.Do.{do_words, do_got}
use Rattle.rl_rank.specs.declared.card_state.CardState.{CardState}
use Rattle.rl_rank.specs.declared.card_state.CardState.TheVariants.{Free, InCard, Loaded, ToLeave}
use Rattle.rl_rank.specs.declared.effect.Effect.TheVariants.{Stay, Learn}
use Rattle.rl_rank.specs.declared.side.Side.{Side}
use Rattle.rl_rank.specs.Split.{SplitState, LockGood, StandsStill, Leads, card_atom, card_after, card_in, card_of, first_atom, home_of, lock_of, moved, skips, turned_side, view_of}
use Rattle.rl_rank.specs.laws.SplitActs.{bool_cases, first_card, plain_words, plain_got, skipped_words, told_card, after_plain, after_take, after_load, after_skip}
use Rattle.rl_ending.specs.Ending.{LockEnds, Nears, left_in}
use Rattle.rl_ending.specs.laws.Sums.{sum_falls, sum_turned}
use Rattle.rl_rank.specs.Begun.{Sight, atoms_of, made, begun_by, begun_of, begun, sight_of, begun_in, left_at, split_left, AtomNears, SomebodyGoes}
use Rattle.rl_rank.specs.laws.BegunLaws.{AllFree, IsFirstIn, first_in, free_begins, all_free_begin, same_begun, one_begun}

module _ (V : Type 0) (T : LockTable V) (good : LockState V → Type 0) (further : List Event → List Deed → Type 0) (layout : Layout)
    (laws : LockLaws T good further layout) (left : List ℕ → List V → ℕ) (most : ℕ) (ends : LockEnds T left good most) where
  same_sight : (z w : Sight V) → z.words ≡ w.words → z.views ≡ w.views → z ≡ w
  same_sight z w ew ev = ap (λ k. record { words = k; views = z.views }) ew ∙ ap (λ k. record { words = w.words; views = k }) ev

  -- the views after an exchange of one side, and where the side has the view that it had
  views_after : (s t : SplitState V) (r : ℕ) (y : Side V) → t.sides ≡ slice_set s.sides r y → map view_of t.sides ≡ slice_set (map view_of s.sides) r y.view
  views_after s t r y es = ap (map view_of) es ∙ map_set view_of s.sides r y

  same_views : (s t : SplitState V) (r : ℕ) (x y : Side V) → slice_get s.sides r ≡ Some x → t.sides ≡ slice_set s.sides r y →
      y.view ≡ x.view → map view_of s.sides ≡ map view_of t.sides
  same_views s t r x y has es ev =
      sym (views_after s t r y es ∙ ap (slice_set (map view_of s.sides) r) ev ∙ set_same_get (map view_of s.sides) r x.view (get_map view_of s.sides r x has))

  -- who is about to leave a card has begun nothing
  leaves_by : (z : Sight V) (r n : ℕ) (v : V) (p : Option Act) → begun_by T z r v p (ToLeave n) ≡ z
  leaves_by z r n v None = refl
  leaves_by z r n v (Some a) = refl

  -- what is left, by what is begun and the atoms
  less_by : (s t : SplitState V) → left_at T left (begun_in T t) ≡ left_at T left (begun_in T s) →
      sum_by atoms_of t.sides < sum_by atoms_of s.sides → split_left T left t < split_left T left s
  less_by s t e lt = omega arith

  -- the first rank in a card goes on: what is begun is the same, and there is an atom less
  goes_in : (s t : SplitState V) (r : ℕ) (x y : Side V) → slice_get s.sides r ≡ Some x →
      ((k : ℕ) (u : Side V) → k < r → slice_get s.sides k ≡ Some u → u.card ≡ Free) → t.sides ≡ slice_set s.sides r y →
      begun_of T (sight_of T s) r x ≡ begun_of T (sight_of T t) r y → atoms_of y < atoms_of x → split_left T left t < split_left T left s
  goes_in s t r x y has before es same less =
      let at : r ≡ 0 + r = omega arith in
      let b : begun_in T s ≡ begun_in T t =
      same_begun T s.sides 0 r x y (sight_of T s) (sight_of T t) has before
      (subst (λ k. begun_of T (sight_of T s) k x ≡ begun_of T (sight_of T t) k y) at same) ∙ ap (begun T (sight_of T t) 0) (sym es) in
      less_by s t (ap (left_at T left) (sym b)) (subst (λ zs. sum_by atoms_of zs < sum_by atoms_of s.sides) (sym es)
      (sum_falls atoms_of s.sides r x y has less))

  leave_goes : (s t : SplitState V) (r : ℕ) (v : V) (p : Option Act) (n : ℕ) → slice_get s.sides r ≡ Some (record { view = v; card = ToLeave n }) →
      ((k : ℕ) (u : Side V) → k < r → slice_get s.sides k ≡ Some u → u.card ≡ Free) → Leads T s t r v p (ToLeave n)
      (atom.Leave n) → split_left T left t < split_left T left s
  leave_goes s t r v p n has before l =
      let x : Side V = record { view = v; card = ToLeave n } in
      let y : Side V = record { view = v; card = Free } in
      let e : sight_of T s ≡ sight_of T t = same_sight (sight_of T s) (sight_of T t) (sym l.words) (same_views s t r x y has l.sides refl) in
      goes_in s t r x y has before l.sides (leaves_by (sight_of T s) r n v (T.plan v) ∙ e ∙ sym (free_begins T (sight_of T t) r y refl)) (omega arith)

  in_card_goes : (s t : SplitState V) (r : ℕ) (v : V) (a : Act) → LockGood T good layout s →
      slice_get s.sides r ≡ Some (record { view = v; card = InCard }) → T.plan v ≡ Some a →
      ((k : ℕ) (u : Side V) → k < r → slice_get s.sides k ≡ Some u → u.card ≡ Free) → Leads T s t r v (Some a) InCard
      (atom.CardLoad (word_of a)) → split_left T left t < split_left T left s
  in_card_goes s t r v a g has pl before l =
      let x : Side V = record { view = v; card = InCard } in
      let k : ℕ = slice_index s.words (word_of a) in
      let n : ℕ = home_of T (word_of a) in
      let bc : by_card a ≡ true = subst (λ q. StandsStill s.words q InCard) pl (g.still r x has) in
      let tc : told a k ≡ k = told_card V T a k bc in
      let b : begun_of T (sight_of T s) r x ≡ made T (sight_of T s) r v a = ap (λ q. begun_by T (sight_of T s) r v q InCard) pl in
      ⊎_elim
      (λ sk. let ha : card_after T r v (Some a) InCard k ≡ turned_side T r v (Some a) (Learn (ToLeave n) k true) = after_skip V T r v a k sk in
      let y : Side V = record { view = (T.learn v k).view; card = ToLeave n } in
      let es : t.sides ≡ slice_set s.sides r y = l.sides ∙ ap (λ z. slice_set s.sides r z.side) ha in
      let e : made T (sight_of T s) r v a ≡ sight_of T t =
      same_sight (made T (sight_of T s) r v a) (sight_of T t)
      (ap (slice_set s.words (word_of a)) (skipped_words V T a k bc sk) ∙ set-get_or s.words (word_of a) 0 ∙ sym l.words)
      (ap (λ q. slice_set (map view_of s.sides) r (T.learn v q).view) tc ∙ sym (views_after s t r y es)) in
      goes_in s t r x y has before es (b ∙ e ∙ sym (leaves_by (sight_of T t) r n y.view (T.plan y.view))) (omega arith))
      (λ sk. let ha : card_after T r v (Some a) InCard k ≡ turned_side T r v (Some a) (Stay (Loaded k) Moved) = after_load V T r v a k sk in
      let y : Side V = record { view = v; card = Loaded k } in
      let es : t.sides ≡ slice_set s.sides r y = l.sides ∙ ap (λ z. slice_set s.sides r z.side) ha in
      let e : sight_of T s ≡ sight_of T t = same_sight (sight_of T s) (sight_of T t) (sym l.words) (same_views s t r x y has es refl) in
      goes_in s t r x y has before es (b ∙ ap (λ z. made T z r v a) e ∙ sym (ap (λ q. begun_by T (sight_of T t) r v q (Loaded k)) pl)) (omega arith))
      (bool_cases (skips a k))

  loaded_goes : (s t : SplitState V) (r : ℕ) (v : V) (a : Act) (k : ℕ) → LockGood T good layout s →
      slice_get s.sides r ≡ Some (record { view = v; card = Loaded k }) → T.plan v ≡ Some a →
      ((i : ℕ) (u : Side V) → i < r → slice_get s.sides i ≡ Some u → u.card ≡ Free) → Leads T s t r v (Some a) (Loaded k)
      (atom.CardStore (word_of a) (written a k)) → split_left T left t < split_left T left s
  loaded_goes s t r v a k g has pl before l =
      let x : Side V = record { view = v; card = Loaded k } in
      let n : ℕ = home_of T (word_of a) in
      let holds : StandsStill s.words (Some a) (Loaded k) = subst (λ q. StandsStill s.words q (Loaded k)) pl (g.still r x has) in
      let y : Side V = record { view = (T.learn v (told a k)).view; card = ToLeave n } in
      let b : begun_of T (sight_of T s) r x ≡ made T (sight_of T s) r v a = ap (λ q. begun_by T (sight_of T s) r v q (Loaded k)) pl in
      let e : made T (sight_of T s) r v a ≡ sight_of T t =
      same_sight (made T (sight_of T s) r v a) (sight_of T t)
      (ap (λ q. slice_set s.words (word_of a) (written a q)) holds.2 ∙ sym l.words)
      (ap (λ q. slice_set (map view_of s.sides) r (T.learn v (told a q)).view) holds.2 ∙ sym (views_after s t r y l.sides)) in
      goes_in s t r x y has before l.sides (b ∙ e ∙ sym (leaves_by (sight_of T t) r n y.view (T.plan y.view))) (omega arith)

  in_goes : (s t : SplitState V) (r : ℕ) (v : V) (p : Option Act) (c : CardState) (at : Atom) → LockGood T good layout s →
      slice_get s.sides r ≡ Some (record { view = v; card = c }) → T.plan v ≡ p → (c ≡ Free → ⊥) →
      ((i : ℕ) (u : Side V) → i < r → slice_get s.sides i ≡ Some u → u.card ≡ Free) → card_atom T p c ≡ Some at → Leads T s t r v p c at →
      split_left T left t < split_left T left s
  in_goes s t r v p (ToLeave n) at g has pl in_card before e l =
      leave_goes s t r v p n has before (subst (Leads T s t r v p (ToLeave n)) (sym (same_Some _ _ e)) l)
  in_goes s t r v None Free at g has pl in_card before e l = cc
  in_goes s t r v None InCard at g has pl in_card before e l = cc
  in_goes s t r v None (Loaded k) at g has pl in_card before e l = cc
  in_goes s t r v (Some a) Free at g has pl in_card before e l = absurd (in_card refl)
  in_goes s t r v (Some a) InCard at g has pl in_card before e l =
      in_card_goes s t r v a g has pl before (subst (Leads T s t r v (Some a) InCard) (sym (same_Some _ _ e)) l)
  in_goes s t r v (Some a) (Loaded k) at g has pl in_card before e l =
      loaded_goes s t r v a k g has pl before (subst (Leads T s t r v (Some a) (Loaded k)) (sym (same_Some _ _ e)) l)

  -- who is in a card has an atom
  has_atom : (ws : List ℕ) (p : Option Act) (c : CardState) → StandsStill ws p c → (c ≡ Free → ⊥) → (at : Atom) × (card_atom T p c ≡ Some at)
  has_atom ws p Free still in_card = absurd (in_card refl)
  has_atom ws p (ToLeave n) still in_card = (atom.Leave n, refl)
  has_atom ws None InCard still in_card = absurd still
  has_atom ws None (Loaded g) still in_card = absurd still
  has_atom ws (Some a) InCard still in_card = (atom.CardLoad (word_of a), refl)
  has_atom ws (Some a) (Loaded g) still in_card = (atom.CardStore (word_of a) (written a g), refl)

  pub first_goes : (s : SplitState V) (r : ℕ) → LockGood T good layout s → IsFirstIn s.sides r → AtomNears T left s r
  first_goes s r g f =
      let x : Side V = f.side in
      let next = has_atom s.words (T.plan x.view) x.card (g.still r x f.has) f.in_card in
      record {
        side = x;
        has = f.has;
        at = next.0;
        next = next.1;
        less = in_goes s (moved T s r x next.0) r x.view (T.plan x.view) x.card next.0 g f.has refl f.in_card f.before next.1
            (record { words = refl; cards = refl; sides = refl; modes = refl; past = refl });
      }

  -- where nobody is in a card, all cards are free
  free_card : (s : SplitState V) (n k : ℕ) → LockGood T good layout s → AllFree s.sides → slice_index s.cards n ≡ k → k ≡ 0
  free_card s n zero g free e = refl
  free_card s n (suc k) g free e =
      let o = g.named k n (e ∙ omega arith) in
      let none : card_of T o.0 ≡ None = ap (λ c. card_in T (T.plan o.0.view) c) (free k o.0 o.1) in
      let both : None ≡ Some n = sym none ∙ o.2 in cc

  less_four : (a b m n : ℕ) → a < b → n ≤ m + 3 → 4 * a + n < 4 * b + m
  less_four a b m n lt le = omega arith

  free_goes : (s t : SplitState V) (r : ℕ) (v : V) (a : Act) → LockGood T good layout s → AllFree s.sides →
      slice_get s.sides r ≡ Some (record { view = v; card = Free }) → T.plan v ≡ Some a →
      left_in T left (acted T (lock_of s) r v a) < left_in T left (lock_of s) → Leads T s t r v (Some a) Free
      (first_atom T a) → split_left T left t < split_left T left s
  free_goes s t r v a g free has pl less l =
      let x : Side V = record { view = v; card = Free } in
      let w : ℕ = word_of a in
      let n : ℕ = home_of T w in
      let at : 0 + r ≡ r = omega arith in
      let before : begun_in T s ≡ sight_of T s = all_free_begin T (sight_of T s) 0 s.sides free in
      ⊎_elim
      (λ bc.
      let fa : first_atom T a ≡ atom.Take n = first_card V T a bc in
      let none : slice_index s.cards n ≡ 0 = free_card s n (slice_index s.cards n) g free refl in
      let ha : card_after T r v (Some a) Free (do_got (first_atom T a) s.words s.cards) ≡ turned_side T r v (Some a) (Stay InCard Moved) =
      ap (λ z. card_after T r v (Some a) Free (do_got z s.words s.cards)) fa ∙ after_take V T r v a (slice_index s.cards n) bc (ap (λ q. q == 0) none) in
      let y : Side V = record { view = v; card = InCard } in
      let es : t.sides ≡ slice_set s.sides r y = l.sides ∙ ap (λ z. slice_set s.sides r z.side) ha in
      let ew : t.words ≡ s.words = l.words ∙ ap (λ z. do_words z s.words) fa in
      let e : sight_of T t ≡ sight_of T s = sym (same_sight (sight_of T s) (sight_of T t) (sym ew) (same_views s t r x y has es refl)) in
      let b : begun_in T t ≡ made T (sight_of T s) r v a =
      ap (begun T (sight_of T t) 0) es ∙ one_begun T s.sides 0 r x y (sight_of T t) has free ∙ ap (λ k. begun_of T (sight_of T t) k y) at
      ∙ ap (λ q. begun_by T (sight_of T t) r v q InCard) pl ∙ ap (λ z. made T z r v a) e in
      nearer t y b before (subst (λ zs. sum_by atoms_of zs ≡ sum_by atoms_of (slice_set s.sides r y)) (sym es) refl)
      (sum_turned atoms_of s.sides r x y has) (omega arith))
      (λ bc.
      let ha : card_after T r v (Some a) Free (do_got (first_atom T a) s.words s.cards) ≡ turned_side T r v (Some a)
      (Learn Free (told a (slice_index s.words w)) (skips a (told a (slice_index s.words w)))) =
      after_plain V T r v a (do_got (first_atom T a) s.words s.cards) bc
      ∙ ap (λ z. turned_side T r v (Some a) (Learn Free z (skips a z))) (plain_got V T a s.words s.cards bc) in
      let y : Side V = record { view = (T.learn v (told a (slice_index s.words w))).view; card = Free } in
      let es : t.sides ≡ slice_set s.sides r y = l.sides ∙ ap (λ z. slice_set s.sides r z.side) ha in
      let ew : t.words ≡ slice_set s.words w (written a (slice_index s.words w)) = l.words ∙ plain_words V T a s.words bc in
      let e : sight_of T t ≡ made T (sight_of T s) r v a = same_sight (sight_of T t) (made T (sight_of T s) r v a) ew (views_after s t r y es) in
      let b : begun_in T t ≡ made T (sight_of T s) r v a =
      ap (begun T (sight_of T t) 0) es ∙ one_begun T s.sides 0 r x y (sight_of T t) has free ∙ ap (λ k. begun_of T (sight_of T t) k y) at
      ∙ free_begins T (sight_of T t) r y refl ∙ e in
      nearer t y b before (subst (λ zs. sum_by atoms_of zs ≡ sum_by atoms_of (slice_set s.sides r y)) (sym es) refl)
      (sum_turned atoms_of s.sides r x y has) (omega arith))
      (bool_cases (by_card a)) where
        nearer : (t : SplitState V) (y : Side V) → begun_in T t ≡ made T (sight_of T s) r v a → begun_in T s ≡ sight_of T s →
            sum_by atoms_of t.sides ≡ sum_by atoms_of (slice_set s.sides r y) → sum_by atoms_of
            (slice_set s.sides r y) + 0 ≡ sum_by atoms_of s.sides + atoms_of y → atoms_of y ≤ 3 → split_left T left t < split_left T
            left s
        nearer t y b before es sum few =
            let lt : left_at T left (begun_in T t) ≡ left_in T left (acted T (lock_of s) r v a) = ap (left_at T left) b in
            let ls : left_at T left (begun_in T s) ≡ left_in T left (lock_of s) = ap (left_at T left) before in
            less_four (left_at T left (begun_in T t)) (left_at T left (begun_in T s)) (sum_by atoms_of s.sides) (sum_by atoms_of t.sides)
            (omega (arith, lt, ls, less)) (omega (arith, es, sum, few))

  -- a free side, with its view
  free_side : (s : SplitState V) (r : ℕ) (x : Side V) → slice_get s.sides r ≡ Some x → x.card ≡ Free →
      slice_get s.sides r ≡ Some (record { view = x.view; card = Free })
  free_side s r x has free = has ∙ ap (λ c. Some (record { view = x.view; card = c })) free

  pub act_goes : (s : SplitState V) (r : ℕ) (v : V) → LockGood T good layout s → AllFree s.sides →
      slice_get (map view_of s.sides) r ≡ Some v → Nears T left (lock_of s) r v → AtomNears T left s r
  act_goes s r v g free has n =
      let back = get_map_back view_of s.sides r v has in
      let x : Side V = record { view = v; card = Free } in
      let here : slice_get s.sides r ≡ Some x = free_side s r back.0 back.1 (free r back.0 back.1) ∙ ap (λ k. Some (record { view = k; card = Free })) back.2 in
      record {
        side = x;
        has = here;
        at = first_atom T n.act;
        next = ap (λ q. card_atom T q Free) n.planned;
        less = free_goes s (moved T s r x (first_atom T n.act)) r v n.act g free here n.planned n.less
            (subst (λ q. Leads T s (moved T s r x (first_atom T n.act)) r v q Free (first_atom T n.act)) n.planned
            (record { words = refl; cards = refl; sides = refl; modes = refl; past = refl }));
      }

  quiet_goes : (s : SplitState V) → LockGood T good layout s → AllFree s.sides → SomebodyGoes T left s
  quiet_goes s g free =
      ⊎_elim
      (λ out. inl (free, inl out))
      (λ some.
      let r : ℕ = some.0 in
      let can = some.1 in
      let back = get_map_back view_of s.sides r can.view can.has in
      ⊎_elim
      (λ h. inl (free, inr (r, record { side = back.0; has = back.1; holder = subst (λ k. IsHolder (T.standing k)) (sym back.2) h })))
      (λ n. inr (r, act_goes s r can.view g free can.has n))
      can.way)
      (ends.somebody (lock_of s) g.lock)

  -- in each state that meets the rule somebody goes on
  pub split_goes : (s : SplitState V) → LockGood T good layout s → SomebodyGoes T left s
  split_goes s g = ⊎_elim (λ free. quiet_goes s g free) (λ f. inr (f.0, first_goes s f.0 g f.1)) (first_in s.sides)
