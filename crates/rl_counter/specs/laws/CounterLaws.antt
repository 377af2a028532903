-- The statements of `counter_laws` hold.
use Rattle.std.specs.Prelude.{◌≡◌, ℕ, zero, suc, ◌+◌, ◌-◌, ◌^◌, ◌<◌, ◌==◌, ◌&&◌, Bool, true, false, List, [], ◌∷◌, length, nat_lt, if◌then◌else◌, replicate, slice_get, slice_index, slice_set, Some, refl}
use Rattle.std.proofs.Common.{sym, ◌∙◌, ap, subst, arith}
use Rattle.std.proofs.lemmas.Bool.Decides.{nat_tests}
use Rattle.std.proofs.lemmas.Option.{same_Some}
use Rattle.rl_word.specs.declared.acts.Act.{Act}
use Rattle.rl_word.specs.declared.acts.Act.TheVariants.{CardAdd}
use Rattle.rl_word.specs.Acts.{told}
use Rattle.rl_step.specs.Lock.{IsLoad, PlansLoad, FindsOld}
use Rattle.rl_counter.specs.declared.view.Doing.{Doing}
use Rattle.rl_counter.specs.declared.view.Doing.TheVariants.{Nothing, Arrive, Refused, SeeTail, Swap, Round, RoundTail, Inside, Depart, Put, Count, Compare, TakeOut, TakeOff}
use Rattle.rl_counter.specs.declared.view.Task.TheVariants.{Enter, Exit, Up as UpTask, Down as DownTask}
use Rattle.rl_counter.specs.Counter.{TheCounters, arrive_word, depart_word, counter_act, CounterTurn, to}
use Rattle.rl_counter.specs.CounterGood.{Mark, Down, Up, Loaded, Clear, Taking, inside_of, refused_of, taken_of, sum_at, if_one, group_sum, GroupGood, AllGood, mark_by}
use Rattle.rl_counter.specs.CounterStatements.{words_after, next_of, ShareSame, IsCleared, ends_clear, Begins, IsNeverTooSmall, HasNobodyInside, LetsInUnmarked, WritersKeep, TasksKeep, OthersKeep, BeginsAtMarks, ComesInByArriving, WaitsOnLoads, TellsWhatItFinds}
use Rattle.rl_counter.specs.laws.CounterMoves.{counter_small, below_down, sum_has}
use Rattle.rl_counter.specs.laws.CounterKeeps.{refused_low}
use Rattle.rl_counter.specs.laws.CounterMarks.{put_keeps, count_keeps, compare_keeps, take_keeps, off_keeps}
use Rattle.rl_counter.specs.laws.CounterFrame.{other_counter, same_words_counter}

zeros : (size w : ℕ) → slice_index (replicate size 0) w ≡ 0
zeros zero w = refl
zeros (suc size) zero = refl
zeros (suc size) (suc w) = zeros size w

-- ranks that do nothing have no share
sum_none : (mine : ℕ → Bool) (share : Doing → ℕ) (from : ℕ) (ps : List Doing) → share Nothing ≡ 0 →
    ((r : ℕ) (p : Doing) → slice_get ps r ≡ Some p → p ≡ Nothing) → sum_at (λ k p. if_one (mine k) (share p)) from ps ≡ 0
sum_none mine share from [] z h = refl
sum_none mine share from (p ∷ ps) z h =
    let one : if_one (mine from) (share p) ≡ 0 = by (mine from) (ap share (h 0 p refl) ∙ z) in
    let k = sum_none mine share (from + 1) ps z (λ r q e. h (suc r) q e) in omega arith where
      by : (b : Bool) → share p ≡ 0 → if_one b (share p) ≡ 0
      by true e = e
      by false e = refl

-- what holds of both sides of a choice between turns
turn_by : (P : CounterTurn → Type 0) (b : Bool) (u v : CounterTurn) → (b ≡ true → P u) → (b ≡ false → P v) → P (if b then u else v)
turn_by P true u v a c = a refl
turn_by P false u v a c = c refl

module _ (C : TheCounters) (n : ℕ) (mine : ℕ → ℕ → Bool) where
  pub begins : Begins C n mine
  begins size ps none g lt =
      let a = zeros size (arrive_word C g) in
      let b = zeros size (depart_word C g) in
      let i = sum_none (mine g) inside_of 0 ps refl none in
      let f = sum_none (mine g) refused_of 0 ps refl none in
      let t = sum_none (mine g) taken_of 0 ps refl none in
      record { balance = omega arith; ceiling = omega arith; marked = tt }

  pub never_too_small : IsNeverTooSmall C n mine
  never_too_small ws ps m g sound good =
      let b = good.balance in
      (omega arith, counter_small C.readers _ _ _ _ _ m good sound.few (refused_low C n sound.few (mine g) ps sound.seats))

  pub nobody_inside : HasNobodyInside C n mine
  nobody_inside ws ps m g r p cleared good has own =
      let none : group_sum (mine g) inside_of ps ≡ 0 = at m cleared good in
      let k = sum_has (λ i x. if_one (mine g i) (inside_of x)) 0 ps r p has in
      let z : 0 + r ≡ r = omega arith in
      let e : if_one (mine g (0 + r)) (inside_of p) ≡ inside_of p = ap (λ y. if_one (mine g y) (inside_of p)) z
      ∙ ap (λ y. if_one y (inside_of p)) own in omega arith where
        at : (m : Mark) → IsCleared m → GroupGood C (mine g) g ws ps m → group_sum (mine g) inside_of ps ≡ 0
        at Clear h good = good.marked
        at (Taking x) h good = good.marked
        at Down h good = absurd h
        at Up h good = absurd h
        at (Loaded f) h good = absurd h

  pub lets_in_unmarked : LetsInUnmarked C n mine
  lets_in_unmarked ws ps m g sound good lt = below_down C.readers _ _ _ _ _ m good sound.few lt

  pub others_keep : OthersKeep C n mine
  others_keep ws ps M w x r p q apart has same all g lt = let ne = apart g lt in
      other_counter C n mine g ws ps (M g) w x r p q ne.0 ne.1 has (λ e. same) (all g lt)

  pub tasks_keep : TasksKeep C n mine
  tasks_keep ws ps M r Enter p has may all g lt = same_words_counter C n mine g ws ps (M g) r p Arrive has
      (λ e. subst (λ z. ShareSame z Arrive) (sym may) (refl, refl, refl)) (all g lt)
  tasks_keep ws ps M r Exit p has may all g lt = same_words_counter C n mine g ws ps (M g) r p Depart has
      (λ e. subst (λ z. ShareSame z Depart) (sym may) (refl, refl, refl)) (all g lt)
  tasks_keep ws ps M r UpTask p has may all g lt = same_words_counter C n mine g ws ps (M g) r p (Put 0) has
      (λ e. subst (λ z. ShareSame z (Put 0)) (sym may) (refl, refl, refl)) (all g lt)
  tasks_keep ws ps M r DownTask p has may all g lt = same_words_counter C n mine g ws ps (M g) r p (TakeOut 0) has
      (λ e. subst (λ z. ShareSame z (TakeOut 0)) (sym may) (refl, refl, refl)) (all g lt)

  -- an act at the marks
  abbrev Keeps : List ℕ → List Doing → ℕ → Doing → Act → Type 0
  Keeps ws ps r p a = AllGood C n mine (words_after ws a) (slice_set ps r (next_of C ws p a)) (mark_by (ends_clear p) (next_of C ws p a))

  pub writers_keep : WritersKeep C n mine
  writers_keep ws ps o r c (Put i) a sound mk lt has pl all = subst (Keeps ws ps r (Put i)) (same_Some _ _ pl)
      (put_keeps C n sound.few mine ws ps r sound.counted sound.seats true i lt has all)
  writers_keep ws ps o r c (Count i) a sound mk lt has pl all =
      subst (Keeps ws ps r (Count i)) (same_Some _ _ pl) (count_keeps C n sound.few mine ws ps r sound.counted sound.seats true i lt has
      all)
  writers_keep ws ps o r c (Compare i f) a sound mk lt has pl all =
      subst (Keeps ws ps r (Compare i f)) (same_Some _ _ pl) (compare_keeps C n sound.few mine ws ps r sound.counted sound.seats true i f lt
      has all)
  writers_keep ws ps o r c (TakeOut i) a sound mk lt has pl all =
      subst (Keeps ws ps r (TakeOut i)) (same_Some _ _ pl) (take_keeps C n sound.few mine ws ps r sound.counted sound.seats false i lt has
      all)
  writers_keep ws ps o r c (TakeOff i x) a sound mk lt has pl all =
      subst (Keeps ws ps r (TakeOff i x)) (same_Some _ _ pl) (off_keeps C n sound.few mine ws ps r sound.counted sound.seats false i x lt
      has all)
  writers_keep ws ps o r c _ a sound mk lt has pl all = absurd mk

pub begins_at_marks : BeginsAtMarks
begins_at_marks o g =
    let no : nat_lt g 0 ≡ false = grind (arith, nat_tests) in
    (sym (ap (λ z. if z then Up else Down) no), sym (ap (λ z. if z then Down else Clear) no))

module _ (C : TheCounters) where
  -- only an arrival leads inside
  abbrev NotIn : CounterTurn → Type 0
  NotIn u = u.doing ≡ Inside → ⊥

  pub comes_in_by_arriving : ComesInByArriving C
  comes_in_by_arriving g Arrive a got pl e =
      turn_by (λ u. u.doing ≡ Inside → (a ≡ CardAdd (arrive_word C g) 1) × (got < C.readers)) (nat_lt got C.readers) (to Inside) (to (Refused got))
      (λ yes e. (sym (same_Some _ _ pl), grind (arith, nat_tests))) (λ no e. cc) e
  comes_in_by_arriving g (SeeTail x) a got pl e = absurd (turn_by NotIn ((got == 0) && nat_lt x (2 ^ 32)) (to Swap) (to Round) (λ y e. cc) (λ y e. cc) e)
  comes_in_by_arriving g Round a got pl e = absurd (turn_by NotIn (nat_lt got C.readers) (to Arrive) (to (RoundTail got)) (λ y e. cc) (λ y e. cc) e)
  comes_in_by_arriving g (RoundTail x) a got pl e =
      absurd (turn_by NotIn ((got == 0) && nat_lt x (2 ^ 32)) (to Arrive) (record { doing = Round; waits = true }) (λ y e. cc)
      (λ y e. cc) e)
  comes_in_by_arriving g (Put i) a got pl e =
      absurd (turn_by NotIn (nat_lt (i + 1) (length C.arrive)) (to (Put (i + 1))) (to (Count 0)) (λ y e. cc) (λ y e. cc) e)
  comes_in_by_arriving g (Compare i f) a got pl e =
      absurd (turn_by NotIn (got == f - 2 ^ 32) (if nat_lt (i + 1) (length C.arrive) then to (Count (i + 1)) else to Nothing)
      (record { doing = Count i; waits = true })
      (λ y. turn_by NotIn (nat_lt (i + 1) (length C.arrive)) (to (Count (i + 1))) (to Nothing) (λ z e. cc) (λ z e. cc)) (λ y e. cc) e)
  comes_in_by_arriving g (TakeOff i x) a got pl e =
      absurd (turn_by NotIn (nat_lt (i + 1) (length C.arrive)) (to (TakeOut (i + 1))) (to Nothing) (λ y e. cc) (λ y e. cc) e)
  comes_in_by_arriving g _ a got pl e = cc

  -- a wait is for a load, behind a load
  abbrev Again : ℕ → Act → CounterTurn → Type 0
  Again g a u = u.waits ≡ true → IsLoad a × PlansLoad (counter_act C g u.doing)

  pub waits_on_loads : WaitsOnLoads C
  waits_on_loads g Arrive a got pl e = turn_by (Again g a) (nat_lt got C.readers) (to Inside) (to (Refused got)) (λ y e. cc) (λ y e. cc) e
  waits_on_loads g (SeeTail x) a got pl e = turn_by (Again g a) ((got == 0) && nat_lt x (2 ^ 32)) (to Swap) (to Round) (λ y e. cc) (λ y e. cc) e
  waits_on_loads g Round a got pl e = turn_by (Again g a) (nat_lt got C.readers) (to Arrive) (to (RoundTail got)) (λ y e. cc) (λ y e. cc) e
  waits_on_loads g (RoundTail x) a got pl e = turn_by (Again g a) ((got == 0) && nat_lt x (2 ^ 32)) (to Arrive)
      (record { doing = Round; waits = true }) (λ y e. cc) (λ y e. (subst IsLoad (same_Some _ _ pl) tt, tt)) e
  waits_on_loads g (Put i) a got pl e = turn_by (Again g a) (nat_lt (i + 1) (length C.arrive)) (to (Put (i + 1))) (to (Count 0)) (λ y e. cc) (λ y e. cc) e
  waits_on_loads g (Compare i f) a got pl e =
      turn_by (Again g a) (got == f - 2 ^ 32) (if nat_lt (i + 1) (length C.arrive) then to (Count (i + 1)) else to Nothing)
      (record { doing = Count i; waits = true })
      (λ y. turn_by (Again g a) (nat_lt (i + 1) (length C.arrive)) (to (Count (i + 1))) (to Nothing) (λ z e. cc) (λ z e. cc))
      (λ y e. (subst IsLoad (same_Some _ _ pl) tt, tt)) e
  waits_on_loads g (TakeOff i x) a got pl e = turn_by (Again g a) (nat_lt (i + 1) (length C.arrive)) (to (TakeOut (i + 1))) (to Nothing)
      (λ y e. cc) (λ y e. cc) e
  waits_on_loads g _ a got pl e = cc

  abbrev Tells : ℕ → Act → Type 0
  Tells x a = FindsOld a x × (told a x ≡ x)

  pub tells_what_it_finds : TellsWhatItFinds C
  tells_what_it_finds g Nothing a x pl = cc
  tells_what_it_finds g Inside a x pl = cc
  tells_what_it_finds g _ a x pl = subst (Tells x) (same_Some _ _ pl) (tt, refl)
