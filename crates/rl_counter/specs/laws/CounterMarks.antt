-- Each act of a rank that puts the marks up or takes them down changes the mark of one counter, and keeps all counters good.
use Rattle.std.specs.Prelude.{◌≡◌, ◌≢◌, ◌⊎◌, ℕ, ◌+◌, ◌-◌, ◌^◌, ◌%◌, ◌<◌, ◌≤◌, ◌==◌, Bool, true, false, List, length, nat_lt, if◌then◌else◌, slice_get, slice_index, slice_set, Some, refl}
use Rattle.std.proofs.Common.{sym, ◌∙◌, ap, subst, inl, inr, ⊎_elim, arith, get_or-set_other}
use Rattle.std.proofs.lemmas.List.{set-get_or}
use Rattle.std.proofs.lemmas.Bool.Decides.{eqb_tells, nat_tests}
use Rattle.rl_word.specs.laws.Places.{same_or_not}
use Rattle.rl_word.specs.declared.acts.Act.{Act}
use Rattle.rl_word.specs.declared.acts.Act.TheVariants.{Load, CardSwap, CardAdd}
use Rattle.rl_word.specs.Acts.{word_of, written}
use Rattle.rl_counter.specs.declared.view.Doing.{Doing}
use Rattle.rl_counter.specs.declared.view.Doing.TheVariants.{Nothing, Put, Count, Compare, TakeOut, TakeOff}
use Rattle.rl_counter.specs.Counter.{TheCounters, arrive_word, depart_word, off, counter_turn, to}
use Rattle.rl_counter.specs.CounterGood.{Mark, Down, Up, Loaded, Clear, Taking, inside_of, refused_of, taken_of, group_sum, CounterGood, GroupGood, mark_by, AreCounted}
use Rattle.rl_counter.specs.laws.CounterMoves.{puts, counts, clears, looks_again, mark_takes, mark_off}
use Rattle.rl_counter.specs.laws.CounterKeeps.{same_good, group_same, by_less, at_arrive, at_depart, refused_low}

less_yes : (x y : ℕ) → x < y → nat_lt x y ≡ true
less_yes x y h = grind (arith, nat_tests)

less_no : (x y : ℕ) → y ≤ x → nat_lt x y ≡ false
less_no x y h = grind (arith, nat_tests)

equal_yes : (x : ℕ) → (x == x) ≡ true
equal_yes x = ⊎_elim (λ q. q.0) (λ q. absurd (q.1 refl)) (eqb_tells x x)

equal_no : (x y : ℕ) → x ≢ y → (x == y) ≡ false
equal_no x y n = ⊎_elim (λ q. absurd (n q.1)) (λ q. q.0) (eqb_tells x y)

-- one of three
side : (P : Type 0) (g i : ℕ) → g ≢ i → (g < i → P) → (i < g → P) → P
side P g i ne a b = at (nat_lt g i) refl where
  at : (t : Bool) → nat_lt g i ≡ t → P
  at true e = a (grind (arith, nat_tests))
  at false e = let k : i ≤ g = grind (arith, nat_tests) in b (omega arith)

-- the marks by a choice
two : {X : Type 0} (b : Bool) (x y : X) → b ≡ true → (if b then x else y) ≡ x
two b x y e = ap (λ z. if z then x else y) e

not_two : {X : Type 0} (b : Bool) (x y : X) → b ≡ false → (if b then x else y) ≡ y
not_two b x y e = ap (λ z. if z then x else y) e

module _ (C : TheCounters) (n : ℕ) (few : C.readers ≤ 1000) (mine : ℕ → ℕ → Bool) (ws : List ℕ) (ps : List Doing) (r : ℕ)
    (d : AreCounted C n (length ws)) (le : length ps ≤ 32) where
  abbrev All : List ℕ → List Doing → (ℕ → Mark) → Type 0
  All us qs M = (g : ℕ) → g < n → GroupGood C (mine g) g us qs (M g)

  -- what a rank does at the marks has no share in any counter
  abbrev NoShare : Doing → Type 0
  NoShare p = (inside_of p ≡ 0) × (refused_of p ≡ 0) × (taken_of p ≡ 0)

  -- the other counters stay, where one counter's word is written and a rank without a share does something else
  pub one_moves : (i w v : ℕ) (p q : Doing) (M N : ℕ → Mark) → i < n → (w ≡ arrive_word C i) ⊎ (w ≡ depart_word C i) →
      slice_get ps r ≡ Some p → NoShare p → NoShare q → ((g : ℕ) → g < n → g ≢ i → M g ≡ N g) →
      (GroupGood C (mine i) i ws ps (M i) → GroupGood C (mine i) i (slice_set ws w v) (slice_set ps r q) (N i)) → All ws ps M → All
      (slice_set ws w v) (slice_set ps r q) N
  one_moves i w v p q M N li which has sp sq same here all g lt =
      ⊎_elim
      (λ e. subst (λ z. GroupGood C (mine z) z (slice_set ws w v) (slice_set ps r q) (N z)) (sym e) (here (all i li)))
      (λ ne.
      let ea : w ≢ arrive_word C g = λ e. ⊎_elim (λ x. ne (sym (d.arrive_once i g li lt (sym x ∙ e)))) (λ x. d.apart g i lt li (sym e ∙ x)) which in
      let ed : w ≢ depart_word C g = λ e. ⊎_elim (λ x. d.apart i g li lt (sym x ∙ e)) (λ x. ne (sym (d.depart_once i g li lt (sym x ∙ e)))) which in
      subst (GroupGood C (mine g) g (slice_set ws w v) (slice_set ps r q)) (same g lt ne)
      (same_good (sym (get_or-set_other ws w (arrive_word C g) v 0 (λ e. ea (sym e)))) (sym (get_or-set_other ws w (depart_word C g) v 0 (λ e. ed (sym e))))
      (group_same (mine g) inside_of ps r p q has (λ x. sp.0 ∙ sym sq.0))
      (group_same (mine g) refused_of ps r p q has (λ x. sp.1 ∙ sym sq.1))
      (group_same (mine g) taken_of ps r p q has (λ x. sp.2 ∙ sym sq.2)) (all g lt)))
      (same_or_not g i)

  sums : (i : ℕ) (p q : Doing) → slice_get ps r ≡ Some p → NoShare p → NoShare q → (a b : ℕ) (m : Mark) →
      CounterGood C.readers a b (group_sum (mine i) inside_of ps) (group_sum (mine i) refused_of ps) (group_sum (mine i) taken_of ps) m →
      CounterGood C.readers a b (group_sum (mine i) inside_of (slice_set ps r q)) (group_sum (mine i) refused_of (slice_set ps r q))
      (group_sum (mine i) taken_of (slice_set ps r q)) m
  sums i p q has sp sq a b m g =
      same_good refl refl (group_same (mine i) inside_of ps r p q has (λ x. sp.0 ∙ sym sq.0))
      (group_same (mine i) refused_of ps r p q has (λ x. sp.1 ∙ sym sq.1))
      (group_same (mine i) taken_of ps r p q has (λ x. sp.2 ∙ sym sq.2)) g

  none : NoShare Nothing
  none = (refl, refl, refl)

  abbrev Next : Act → Doing → Bool → Type 0
  Next a q o = All (slice_set ws (word_of a) (written a (slice_index ws (word_of a)))) (slice_set ps r q) (mark_by o q)

  -- the mark is put on counter i
  puts_on : (o : Bool) (i : ℕ) (q : Doing) → i < n → slice_get ps r ≡ Some (Put i) → NoShare q →
      ((g : ℕ) → g < n → g ≢ i → mark_by o (Put i) g ≡ mark_by o q g) → mark_by o q i ≡ Up → All ws ps (mark_by o (Put i)) →
      Next (CardAdd (arrive_word C i) (2 ^ 32)) q o
  puts_on o i q li has sq same now all =
      one_moves i (arrive_word C i) ((slice_index ws (arrive_word C i) + 2 ^ 32) % 2 ^ 64) (Put i) q (mark_by o (Put i)) (mark_by o q) li
      (inl refl) has (refl, refl, refl) sq same
      (λ g.
      let w = at_arrive C n few ws i ((slice_index ws (arrive_word C i) + 2 ^ 32) % 2 ^ 64) d li in
      let h : GroupGood C (mine i) i ws ps Down = subst (GroupGood C (mine i) i ws ps) (not_two (nat_lt i i) Up Down (less_no i i (omega arith))) g in
      subst (GroupGood C (mine i) i _ (slice_set ps r q)) (sym now)
      (same_good w.0 w.1 refl refl refl (sums i (Put i) q has (refl, refl, refl) sq _ _ Up
      (puts C.readers _ _ _ _ _ h few (refused_low C n few (mine i) ps le))))) all

  pub put_keeps : (o : Bool) (i : ℕ) → i < n → slice_get ps r ≡ Some (Put i) → All ws ps (mark_by o (Put i)) →
      Next (CardAdd (arrive_word C i) (2 ^ 32)) (counter_turn C (Put i) (slice_index ws (arrive_word C i))).doing o
  put_keeps o i li has all =
      by_less (λ u. Next (CardAdd (arrive_word C i) (2 ^ 32)) u.doing o) (i + 1) (length C.arrive) (to (Put (i + 1))) (to (Count 0))
      (λ l. puts_on o i (Put (i + 1)) li has (refl, refl, refl)
      (λ g lt ne. side _ g i ne
      (λ k. two (nat_lt g i) Up Down (less_yes g i k) ∙ sym (two (nat_lt g (i + 1)) Up Down (less_yes g (i + 1) (omega arith))))
      (λ k. not_two (nat_lt g i) Up Down (less_no g i (omega arith)) ∙ sym (not_two (nat_lt g (i + 1)) Up Down (less_no g (i + 1) (omega arith)))))
      (two (nat_lt i (i + 1)) Up Down (less_yes i (i + 1) (omega arith))) all)
      (λ l. puts_on o i (Count 0) li has (refl, refl, refl)
      (λ g lt ne. let all_of : length C.arrive ≡ n = d.many in
      two (nat_lt g i) Up Down (less_yes g i (omega arith)) ∙ sym (not_two (nat_lt g 0) Clear Up (less_no g 0 (omega arith))))
      (not_two (nat_lt i 0) Clear Up (less_no i 0 (omega arith))) all)

  -- what has come to counter i is loaded
  pub count_keeps : (o : Bool) (i : ℕ) → i < n → slice_get ps r ≡ Some (Count i) → All ws ps (mark_by o (Count i)) →
      Next (Load (arrive_word C i)) (Compare i (slice_index ws (arrive_word C i))) o
  count_keeps o i li has all =
      let a : ℕ = slice_index ws (arrive_word C i) in
      let q : Doing = Compare i a in
      one_moves i (arrive_word C i) a (Count i) q (mark_by o (Count i)) (mark_by o q) li (inl refl) has (refl, refl, refl) (refl, refl, refl)
      (λ g lt ne. side _ g i ne
      (λ k. two (nat_lt g i) Clear Up (less_yes g i k) ∙ sym (two (nat_lt g i) Clear (if g == i then Loaded a else Up) (less_yes g i k)))
      (λ k. not_two (nat_lt g i) Clear Up (less_no g i (omega arith))
      ∙ sym (not_two (nat_lt g i) Clear (if g == i then Loaded a else Up) (less_no g i (omega arith))
      ∙ not_two (g == i) (Loaded a) Up (equal_no g i ne))))
      (λ g.
      let h : GroupGood C (mine i) i ws ps Up = subst (GroupGood C (mine i) i ws ps) (not_two (nat_lt i i) Clear Up (less_no i i (omega arith))) g in
      let now : mark_by o q i ≡ Loaded a = not_two (nat_lt i i) Clear (if i == i then Loaded a else Up) (less_no i i (omega arith))
      ∙ two (i == i) (Loaded a) Up (equal_yes i) in
      subst (λ z. GroupGood C (mine i) i z (slice_set ps r q) (mark_by o q i)) (sym (set-get_or ws (arrive_word C i) 0))
      (subst (GroupGood C (mine i) i ws (slice_set ps r q)) (sym now)
      (sums i (Count i) q has (refl, refl, refl) (refl, refl, refl) _ _ (Loaded a) (counts C.readers _ _ _ _ _ h)))) all

  -- what has gone is compared with it: counter i is clear, or is looked at again
  compares : (o o' : Bool) (i f : ℕ) (q : Doing) (m : Mark) → i < n → slice_get ps r ≡ Some (Compare i f) → NoShare q →
      ((g : ℕ) → g < n → g ≢ i → mark_by o (Compare i f) g ≡ mark_by o' q g) → mark_by o' q i ≡ m →
      (GroupGood C (mine i) i ws ps (Loaded f) → GroupGood C (mine i) i ws ps m) → All ws ps (mark_by o (Compare i f)) → Next (Load (depart_word C i)) q o'
  compares o o' i f q m li has sq same now step all =
      one_moves i (depart_word C i) (slice_index ws (depart_word C i)) (Compare i f) q (mark_by o (Compare i f)) (mark_by o' q) li
      (inr refl) has (refl, refl, refl) sq same
      (λ g.
      let h : GroupGood C (mine i) i ws ps (Loaded f) = subst (GroupGood C (mine i) i ws ps)
      (not_two (nat_lt i i) Clear (if i == i then Loaded f else Up) (less_no i i (omega arith))
      ∙ two (i == i) (Loaded f) Up (equal_yes i)) g in
      subst (λ z. GroupGood C (mine i) i z (slice_set ps r q) (mark_by o' q i)) (sym (set-get_or ws (depart_word C i) 0))
      (subst (GroupGood C (mine i) i ws (slice_set ps r q)) (sym now) (sums i (Compare i f) q has (refl, refl, refl) sq _ _ m (step h)))) all

  before_compare : (o : Bool) (i f g : ℕ) → g ≢ i → (g < i → mark_by o (Compare i f) g ≡ Clear) × (i < g → mark_by o (Compare i f) g ≡ Up)
  before_compare o i f g ne = (
    λ k. two (nat_lt g i) Clear (if g == i then Loaded f else Up) (less_yes g i k),
    λ k. not_two (nat_lt g i) Clear
        (if g == i then Loaded f else Up) (less_no g i (omega arith)) ∙ not_two (g == i) (Loaded f) Up (equal_no g i ne),
  )

  pub compare_keeps : (o : Bool) (i f : ℕ) → i < n → slice_get ps r ≡ Some (Compare i f) → All ws ps (mark_by o (Compare i f)) →
      Next (Load (depart_word C i)) (counter_turn C (Compare i f) (slice_index ws (depart_word C i))).doing true
  compare_keeps o i f li has all =
      ⊎_elim
      (λ y. subst (λ b. Next (Load (depart_word C i)) (if b then
      (if nat_lt (i + 1) (length C.arrive) then to (Count (i + 1)) else to Nothing) else record { doing = Count i; waits = true }).doing
      true) (sym y.0)
      (by_less (λ u. Next (Load (depart_word C i)) u.doing true) (i + 1) (length C.arrive) (to (Count (i + 1))) (to Nothing)
      (λ l. compares o true i f (Count (i + 1)) Clear li has (refl, refl, refl)
      (λ g lt ne. let b = before_compare o i f g ne in side _ g i ne
      (λ k. b.0 k ∙ sym (two (nat_lt g (i + 1)) Clear Up (less_yes g (i + 1) (omega arith))))
      (λ k. b.1 k ∙ sym (not_two (nat_lt g (i + 1)) Clear Up (less_no g (i + 1) (omega arith)))))
      (two (nat_lt i (i + 1)) Clear Up (less_yes i (i + 1) (omega arith)))
      (λ h. clears C.readers _ _ _ _ _ f h y.1) all)
      (λ l. compares o true i f Nothing Clear li has none
      (λ g lt ne. let b = before_compare o i f g ne in let all_of : length C.arrive ≡ n = d.many in b.0 (omega arith))
      refl (λ h. clears C.readers _ _ _ _ _ f h y.1) all)))
      (λ y. subst (λ b. Next (Load (depart_word C i)) (if b then
      (if nat_lt (i + 1) (length C.arrive) then to (Count (i + 1)) else to Nothing) else record { doing = Count i; waits = true }).doing
      true) (sym y.0)
      (compares o true i f (Count i) Up li has (refl, refl, refl)
      (λ g lt ne. let b = before_compare o i f g ne in side _ g i ne
      (λ k. b.0 k ∙ sym (two (nat_lt g i) Clear Up (less_yes g i k)))
      (λ k. b.1 k ∙ sym (not_two (nat_lt g i) Clear Up (less_no g i (omega arith)))))
      (not_two (nat_lt i i) Clear Up (less_no i i (omega arith)))
      (λ h. looks_again C.readers _ _ _ _ _ f h) all))
      (eqb_tells (slice_index ws (depart_word C i)) (f - 2 ^ 32))

  -- what has gone is taken out
  pub take_keeps : (o : Bool) (i : ℕ) → i < n → slice_get ps r ≡ Some (TakeOut i) → All ws ps (mark_by o (TakeOut i)) →
      Next (CardSwap (depart_word C i) 0) (TakeOff i (slice_index ws (depart_word C i))) o
  take_keeps o i li has all =
      let x : ℕ = slice_index ws (depart_word C i) in
      let q : Doing = TakeOff i x in
      one_moves i (depart_word C i) 0 (TakeOut i) q (mark_by o (TakeOut i)) (mark_by o q) li (inr refl) has (refl, refl, refl) (refl, refl, refl)
      (λ g lt ne. side _ g i ne
      (λ k. two (nat_lt g i) Down Clear (less_yes g i k) ∙ sym (two (nat_lt g i) Down (if g == i then Taking x else Clear) (less_yes g i k)))
      (λ k. not_two (nat_lt g i) Down Clear (less_no g i (omega arith))
      ∙ sym (not_two (nat_lt g i) Down (if g == i then Taking x else Clear) (less_no g i (omega arith))
      ∙ not_two (g == i) (Taking x) Clear (equal_no g i ne))))
      (λ g.
      let w = at_depart C n few ws i 0 d li in
      let h : GroupGood C (mine i) i ws ps Clear = subst (GroupGood C (mine i) i ws ps) (not_two (nat_lt i i) Down Clear (less_no i i (omega arith))) g in
      let now : mark_by o q i ≡ Taking x = not_two (nat_lt i i) Down (if i == i then Taking x else Clear) (less_no i i (omega arith))
      ∙ two (i == i) (Taking x) Clear (equal_yes i) in
      subst (GroupGood C (mine i) i _ (slice_set ps r q)) (sym now)
      (same_good w.0 w.1 refl refl refl (sums i (TakeOut i) q has (refl, refl, refl) (refl, refl, refl) _ _ (Taking x)
      (mark_takes C.readers _ _ _ _ _ h)))) all

  -- and the mark is taken off
  takes_off : (o : Bool) (i x : ℕ) (q : Doing) → i < n → slice_get ps r ≡ Some (TakeOff i x) → NoShare q →
      ((g : ℕ) → g < n → g ≢ i → mark_by o (TakeOff i x) g ≡ mark_by false q g) → mark_by false q i ≡ Down →
      All ws ps (mark_by o (TakeOff i x)) → Next (CardAdd (arrive_word C i) (off ((2 ^ 32 + x) % 2 ^ 64))) q false
  takes_off o i x q li has sq same now all =
      one_moves i (arrive_word C i) ((slice_index ws (arrive_word C i) + off ((2 ^ 32 + x) % 2 ^ 64)) % 2 ^ 64) (TakeOff i x) q
      (mark_by o (TakeOff i x)) (mark_by false q) li (inl refl) has (refl, refl, refl) sq same
      (λ g.
      let w = at_arrive C n few ws i ((slice_index ws (arrive_word C i) + off ((2 ^ 32 + x) % 2 ^ 64)) % 2 ^ 64) d li in
      let h : GroupGood C (mine i) i ws ps (Taking x) = subst (GroupGood C (mine i) i ws ps)
      (not_two (nat_lt i i) Down (if i == i then Taking x else Clear) (less_no i i (omega arith))
      ∙ two (i == i) (Taking x) Clear (equal_yes i)) g in
      subst (GroupGood C (mine i) i _ (slice_set ps r q)) (sym now)
      (same_good w.0 w.1 refl refl refl (sums i (TakeOff i x) q has (refl, refl, refl) sq _ _ Down
      (mark_off C.readers _ _ _ _ _ x h few (refused_low C n few (mine i) ps le))))) all

  pub off_keeps : (o : Bool) (i x : ℕ) → i < n → slice_get ps r ≡ Some (TakeOff i x) → All ws ps (mark_by o (TakeOff i x)) →
      Next (CardAdd (arrive_word C i) (off ((2 ^ 32 + x) % 2 ^ 64)))
      (counter_turn C (TakeOff i x) (slice_index ws (arrive_word C i))).doing false
  off_keeps o i x li has all =
      let before : (g : ℕ) → g ≢ i → (g < i → mark_by o (TakeOff i x) g ≡ Down) × (i < g → mark_by o (TakeOff i x) g ≡ Clear) = λ g ne. (
        λ k. two (nat_lt g i) Down (if g == i then Taking x else Clear) (less_yes g i k),
        λ k. not_two (nat_lt g i) Down
            (if g == i then Taking x else Clear) (less_no g i (omega arith)) ∙ not_two (g == i) (Taking x) Clear (equal_no g i ne),
      ) in
      by_less (λ u. Next (CardAdd (arrive_word C i) (off ((2 ^ 32 + x) % 2 ^ 64))) u.doing false) (i + 1) (length C.arrive) (to (TakeOut (i + 1))) (to Nothing)
      (λ l. takes_off o i x (TakeOut (i + 1)) li has (refl, refl, refl)
      (λ g lt ne. let b = before g ne in side _ g i ne
      (λ k. b.0 k ∙ sym (two (nat_lt g (i + 1)) Down Clear (less_yes g (i + 1) (omega arith))))
      (λ k. b.1 k ∙ sym (not_two (nat_lt g (i + 1)) Down Clear (less_no g (i + 1) (omega arith)))))
      (two (nat_lt i (i + 1)) Down Clear (less_yes i (i + 1) (omega arith))) all)
      (λ l. takes_off o i x Nothing li has none
      (λ g lt ne. let b = before g ne in let all_of : length C.arrive ≡ n = d.many in b.0 (omega arith)) refl all)
