-- Each act of a reader, and each act of the marks, keeps every counter good.
use Rattle.std.specs.Prelude.{◌≡◌, ℕ, ◌+◌, ◌^◌, ◌%◌, ◌<◌, ◌≤◌, ◌==◌, ◌&&◌, Bool, true, false, List, length, nat_lt, if◌then◌else◌, slice_get, slice_index, slice_set, Some, refl}
use Rattle.std.proofs.Common.{sym, ◌∙◌, ap, subst, arith, get_or-set_same, get_or-set_other}
use Rattle.std.proofs.lemmas.List.{set-get_or}
use Rattle.std.proofs.lemmas.Option.{same_Some}
use Rattle.std.proofs.lemmas.Bool.Decides.{nat_tests}
use Rattle.rl_word.specs.declared.acts.Act.{Act}
use Rattle.rl_word.specs.declared.acts.Act.TheVariants.{Load, CardAdd}
use Rattle.rl_word.specs.Acts.{word_of, written, told}
use Rattle.rl_counter.specs.declared.view.Doing.{Doing}
use Rattle.rl_counter.specs.declared.view.Doing.TheVariants.{Nothing, Arrive, Refused, SeeTail, Swap, Reset, Round, RoundTail, Inside, Depart}
use Rattle.rl_counter.specs.Counter.{TheCounters, arrive_word, depart_word, off, counter_act, counter_turn, CounterTurn, to}
use Rattle.rl_counter.specs.CounterGood.{IsReader, Mark, inside_of, refused_of, taken_of, if_one, group_sum, CounterGood, GroupGood, AreCounted}
use Rattle.rl_counter.specs.laws.CounterMoves.{comes_in, is_refused, gives_back, takes_out, resets, goes_out, sum_set, sum_low}

-- a counter good by other numbers that are the same
pub same_good : {T a b d e i j r s t u : ℕ} {m : Mark} → a ≡ b → d ≡ e → i ≡ j → r ≡ s → t ≡ u → CounterGood T a d i r t m → CounterGood T b e j s u m
same_good {T} {a} {b} {d} {e} {i} {j} {r} {s} {t} {u} {m} ea ed ei er et g =
    subst (λ z. CounterGood T z e j s u m) ea (subst (λ z. CounterGood T a z j s u m) ed
    (subst (λ z. CounterGood T a d z s u m) ei (subst (λ z. CounterGood T a d i z u m) er
    (subst (λ z. CounterGood T a d i r z m) et g))))

one_low : (b : Bool) (p : Doing) → if_one b (refused_of p) ≤ 1
one_low false p = omega arith
one_low true Nothing = omega arith
one_low true _ = omega arith

-- how a group's sum changes where a rank of it does something else; a rank of another group changes nothing
pub group_set : (mine : ℕ → Bool) (share : Doing → ℕ) (ps : List Doing) (r : ℕ) (p q : Doing) → slice_get ps r ≡ Some p → mine r ≡ true →
    group_sum mine share (slice_set ps r q) + share p ≡ group_sum mine share ps + share q
group_set mine share ps r p q has m =
    let k = sum_set (λ i x. if_one (mine i) (share x)) 0 ps r p q has in
    let z : 0 + r ≡ r = omega arith in
    let at : (x : Doing) → if_one (mine (0 + r)) (share x) ≡ share x = λ x. ap (λ y. if_one (mine y) (share x)) z ∙ ap (λ y. if_one y (share x)) m in
    let a = at p in let b = at q in omega arith

pub group_same : (mine : ℕ → Bool) (share : Doing → ℕ) (ps : List Doing) (r : ℕ) (p q : Doing) → slice_get ps r ≡ Some p →
    (mine r ≡ true → share p ≡ share q) → group_sum mine share ps ≡ group_sum mine share (slice_set ps r q)
group_same mine share ps r p q has eq =
    let k = sum_set (λ i x. if_one (mine i) (share x)) 0 ps r p q has in
    let z : 0 + r ≡ r = omega arith in
    let at : (x : Doing) → if_one (mine (0 + r)) (share x) ≡ if_one (mine r) (share x) = λ x. ap (λ y. if_one (mine y) (share x)) z in
    let a = at p in let b = at q in
    let c : if_one (mine r) (share p) ≡ if_one (mine r) (share q) = by (mine r) eq in omega arith where
      by : (b : Bool) → (b ≡ true → share p ≡ share q) → if_one b (share p) ≡ if_one b (share q)
      by true f = f refl
      by false f = refl

-- what a test of two numbers chooses
pub by_less : (P : CounterTurn → Type 0) (x y : ℕ) (u v : CounterTurn) → (x < y → P u) → (y ≤ x → P v) → P (if nat_lt x y then u else v)
by_less P x y u v f g = at (nat_lt x y) refl where
  at : (b : Bool) → nat_lt x y ≡ b → P (if nat_lt x y then u else v)
  at true e = subst (λ z. P (if z then u else v)) (sym e) (f (grind (arith, nat_tests)))
  at false e = subst (λ z. P (if z then u else v)) (sym e) (g (grind (arith, nat_tests)))

choose_went : (P : CounterTurn → Type 0) (b : Bool) (u v : CounterTurn) → P u → P v → P (if b then u else v)
choose_went P true u v a c = a
choose_went P false u v a c = c

module _ (C : TheCounters) (n : ℕ) (few : C.readers ≤ 1000) where
  -- the refused ones are at most as many as the ranks
  pub refused_low : (mine : ℕ → Bool) (ps : List Doing) → length ps ≤ 32 → group_sum mine refused_of ps ≤ 32
  refused_low mine ps le = let k = sum_low (λ i x. if_one (mine i) (refused_of x)) 0 ps (λ i x. one_low (mine i) x) in omega arith

  -- a write to a counter's arrive word, and to its depart word
  pub at_arrive : (ws : List ℕ) (g v : ℕ) → AreCounted C n (length ws) → g < n →
      (v ≡ slice_index (slice_set ws (arrive_word C g) v) (arrive_word C g)) ×
      (slice_index ws (depart_word C g) ≡ slice_index (slice_set ws (arrive_word C g) v) (depart_word C g))
  at_arrive ws g v d lt = (
    sym (get_or-set_same ws (arrive_word C g) v 0 (d.arrive_there g lt)),
    sym
        (get_or-set_other ws (arrive_word C g) (depart_word C g) v 0 (λ e. d.apart g g lt lt (sym e))),
  )

  pub at_depart : (ws : List ℕ) (g v : ℕ) → AreCounted C n (length ws) → g < n →
      (slice_index ws (arrive_word C g) ≡ slice_index (slice_set ws (depart_word C g) v) (arrive_word C g)) ×
      (v ≡ slice_index (slice_set ws (depart_word C g) v) (depart_word C g))
  at_depart ws g v d lt = (
    sym (get_or-set_other ws (depart_word C g) (arrive_word C g) v 0 (λ e. d.apart g g lt lt e)),
    sym
        (get_or-set_same ws (depart_word C g) v 0 (d.depart_there g lt)),
  )

  -- a load, where the rank's share stays
  loads : (mine : ℕ → Bool) (g : ℕ) (ws : List ℕ) (ps : List Doing) (m : Mark) (r w : ℕ) (p q : Doing) → GroupGood C mine g ws ps m →
      slice_get ps r ≡ Some p → inside_of p ≡ inside_of q → refused_of p ≡ refused_of q → taken_of p ≡ taken_of q →
      GroupGood C mine g (slice_set ws w (slice_index ws w)) (slice_set ps r q) m
  loads mine g ws ps m r w p q good has i f t =
      subst (λ z. GroupGood C mine g z (slice_set ps r q) m) (sym (set-get_or ws w 0))
      (same_good refl refl (group_same mine inside_of ps r p q has (λ x. i)) (group_same mine refused_of ps r p q has (λ x. f))
      (group_same mine taken_of ps r p q has (λ x. t)) good)

  abbrev Read : (ℕ → Bool) → ℕ → List ℕ → List Doing → Mark → ℕ → Act → Doing → Type 0
  Read mine g ws ps m r a q = GroupGood C mine g (slice_set ws (word_of a) (written a (slice_index ws (word_of a)))) (slice_set ps r q) m

  -- Each act of a reader of the group keeps its counter good, whatever it finds in the root's tail.
  pub reader_keeps : (mine : ℕ → Bool) (g : ℕ) (ws : List ℕ) (ps : List Doing) (m : Mark) (r : ℕ) (p : Doing) (a : Act) →
      AreCounted C n (length ws) → g < n → length ps ≤ 32 → GroupGood C mine g ws ps m → slice_get ps r ≡ Some p → mine r ≡ true →
      IsReader p → counter_act C g p ≡ Some a →
      Read mine g ws ps m r a (counter_turn C p (told a (slice_index ws (word_of a)))).doing
  reader_keeps mine g ws ps m r Arrive a d lt le good has own rd pl =
      subst (λ z. Read mine g ws ps m r z (counter_turn C Arrive (told z (slice_index ws (word_of z)))).doing) (same_Some _ _ pl)
      (by_less (λ u. Read mine g ws ps m r (CardAdd (arrive_word C g) 1) u.doing) (slice_index ws (arrive_word C g)) C.readers (to Inside)
      (to (Refused (slice_index ws (arrive_word C g))))
      (λ l.
      let w = at_arrive ws g ((slice_index ws (arrive_word C g) + 1) % 2 ^ 64) d lt in
      let i = group_set mine inside_of ps r Arrive Inside has own in
      same_good w.0 w.1 (let k : group_sum mine inside_of (slice_set ps r Inside) + 0 ≡ group_sum mine inside_of ps + 1 = i in omega arith)
      (group_same mine refused_of ps r Arrive Inside has (λ x. refl)) (group_same mine taken_of ps r Arrive Inside has (λ x. refl))
      (comes_in C.readers _ _ _ _ _ m good few l))
      (λ l.
      let w = at_arrive ws g ((slice_index ws (arrive_word C g) + 1) % 2 ^ 64) d lt in
      let i = group_set mine refused_of ps r Arrive (Refused (slice_index ws (arrive_word C g))) has own in
      same_good w.0 w.1 (group_same mine inside_of ps r Arrive (Refused (slice_index ws (arrive_word C g))) has (λ x. refl))
      (let k : group_sum mine refused_of (slice_set ps r (Refused (slice_index ws (arrive_word C g)))) + 0 ≡ group_sum mine refused_of ps +
      1 = i in omega arith) (group_same mine taken_of ps r Arrive (Refused (slice_index ws (arrive_word C g))) has (λ x. refl))
      (is_refused C.readers _ _ _ _ _ m good few (refused_low mine ps le))))
  reader_keeps mine g ws ps m r (Refused x) a d lt le good has own rd pl =
      subst (λ z. Read mine g ws ps m r z (SeeTail x)) (same_Some _ _ pl)
      (let w = at_arrive ws g ((slice_index ws (arrive_word C g) + off 1) % 2 ^ 64) d lt in
      let i : group_sum mine refused_of (slice_set ps r (SeeTail x)) + 1 ≡ group_sum mine refused_of ps + 0 =
      group_set mine refused_of ps r (Refused x) (SeeTail x) has own in
      let low = refused_low mine ps le in
      let e : group_sum mine refused_of ps ≡ group_sum mine refused_of (slice_set ps r (SeeTail x)) + 1 = omega arith in
      same_good w.0 w.1 (group_same mine inside_of ps r (Refused x) (SeeTail x) has (λ y. refl)) refl
      (group_same mine taken_of ps r (Refused x) (SeeTail x) has (λ y. refl))
      (gives_back C.readers _ _ _ (group_sum mine refused_of (slice_set ps r (SeeTail x))) _ m (same_good refl refl refl e refl good) few (omega arith)))
  reader_keeps mine g ws ps m r (SeeTail x) a d lt le good has own rd pl =
      subst (λ z. Read mine g ws ps m r z (counter_turn C (SeeTail x) (told z (slice_index ws (word_of z)))).doing) (same_Some _ _ pl)
      (choose_went (λ u. Read mine g ws ps m r (Load C.root_tail) u.doing) ((slice_index ws C.root_tail == 0) && nat_lt x (2 ^ 32)) (to Swap) (to Round)
      (loads mine g ws ps m r C.root_tail (SeeTail x) Swap good has refl refl refl)
      (loads mine g ws ps m r C.root_tail (SeeTail x) Round good has refl refl refl))
  reader_keeps mine g ws ps m r Swap a d lt le good has own rd pl =
      subst (λ z. Read mine g ws ps m r z (counter_turn C Swap (told z (slice_index ws (word_of z)))).doing) (same_Some _ _ pl)
      (let x : ℕ = slice_index ws (depart_word C g) in
      let w = at_depart ws g 0 d lt in
      let i = group_set mine taken_of ps r Swap (Reset x) has own in
      same_good w.0 w.1 (group_same mine inside_of ps r Swap (Reset x) has (λ y. refl)) (group_same mine refused_of ps r Swap (Reset x) has (λ y. refl))
      (let k : group_sum mine taken_of (slice_set ps r (Reset x)) + 0 ≡ group_sum mine taken_of ps + slice_index ws (depart_word C g) = i in omega arith)
      (takes_out C.readers _ _ _ _ _ m good))
  reader_keeps mine g ws ps m r (Reset x) a d lt le good has own rd pl =
      subst (λ z. Read mine g ws ps m r z Arrive) (same_Some _ _ pl)
      (let w = at_arrive ws g ((slice_index ws (arrive_word C g) + off x) % 2 ^ 64) d lt in
      let i : group_sum mine taken_of (slice_set ps r Arrive) + x ≡ group_sum mine taken_of ps + 0 = group_set mine taken_of ps r (Reset x) Arrive has own in
      let e : group_sum mine taken_of ps ≡ group_sum mine taken_of (slice_set ps r Arrive) + x = omega arith in
      same_good w.0 w.1 (group_same mine inside_of ps r (Reset x) Arrive has (λ y. refl))
      (group_same mine refused_of ps r (Reset x) Arrive has (λ y. refl)) refl
      (resets C.readers _ _ _ _ (group_sum mine taken_of (slice_set ps r Arrive)) x m (same_good refl refl refl refl e good) few (refused_low mine ps le)))
  reader_keeps mine g ws ps m r Round a d lt le good has own rd pl =
      subst (λ z. Read mine g ws ps m r z (counter_turn C Round (told z (slice_index ws (word_of z)))).doing) (same_Some _ _ pl)
      (choose_went (λ u. Read mine g ws ps m r (Load (arrive_word C g)) u.doing) (nat_lt (slice_index ws (arrive_word C g)) C.readers)
      (to Arrive) (to (RoundTail (slice_index ws (arrive_word C g))))
      (loads mine g ws ps m r (arrive_word C g) Round Arrive good has refl refl refl)
      (loads mine g ws ps m r (arrive_word C g) Round (RoundTail (slice_index ws (arrive_word C g))) good has refl refl refl))
  reader_keeps mine g ws ps m r (RoundTail x) a d lt le good has own rd pl =
      subst (λ z. Read mine g ws ps m r z (counter_turn C (RoundTail x) (told z (slice_index ws (word_of z)))).doing) (same_Some _ _ pl)
      (choose_went (λ u. Read mine g ws ps m r (Load C.root_tail) u.doing) ((slice_index ws C.root_tail == 0) && nat_lt x (2 ^ 32))
      (to Arrive) (record { doing = Round; waits = true })
      (loads mine g ws ps m r C.root_tail (RoundTail x) Arrive good has refl refl refl)
      (loads mine g ws ps m r C.root_tail (RoundTail x) Round good has refl refl refl))
  reader_keeps mine g ws ps m r Depart a d lt le good has own rd pl =
      subst (λ z. Read mine g ws ps m r z Nothing) (same_Some _ _ pl)
      (let w = at_depart ws g ((slice_index ws (depart_word C g) + 1) % 2 ^ 64) d lt in
      let i : group_sum mine inside_of (slice_set ps r Nothing) + 1 ≡ group_sum mine inside_of ps + 0 = group_set mine inside_of ps r Depart Nothing has own in
      let e : group_sum mine inside_of ps ≡ group_sum mine inside_of (slice_set ps r Nothing) + 1 = omega arith in
      same_good w.0 w.1 refl (group_same mine refused_of ps r Depart Nothing has (λ y. refl)) (group_same mine taken_of ps r Depart Nothing has (λ y. refl))
      (goes_out C.readers _ _ (group_sum mine inside_of (slice_set ps r Nothing)) _ _ m (same_good refl refl e refl refl good) few))
  reader_keeps mine g ws ps m r _ a d lt le good has own rd pl = absurd rd
