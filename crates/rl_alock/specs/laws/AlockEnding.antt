-- ALock has no dead end: in each queue somebody goes on, or its head hangs at the entry, being the victim while the other queue isn't
-- empty; and not both heads are the victim.
use Rattle.std.specs.Prelude.{◌≡◌, ◌≢◌, ◌⊎◌, ℕ, ◌+◌, ◌*◌, ◌<◌, ◌≤◌, ◌==◌, true, false, List, [], ◌∷◌, if◌then◌else◌, length, slice_get, slice_index, slice_set, Some, refl}
use Rattle.std.proofs.Common.{sym, ◌∙◌, ap, subst, inl, inr, ⊎_elim, arith}
use Rattle.std.proofs.lemmas.List.{set-get_or}
use Rattle.std.proofs.lemmas.Bool.Decides.{eqb_tells}
use Rattle.rl_word.specs.laws.Places.{some_at}
use Rattle.rl_word.specs.Acts.{word_of, written, told}
use Rattle.rl_word.specs.declared.acts.Act.{Act}
use Rattle.rl_word.specs.declared.acts.Act.TheVariants.{Load, Store}
use Rattle.rl_step.specs.declared.events.Event.TheVariants as event
use Rattle.rl_step.specs.Lock.{LockTable, LockState, AllOut, IsHolder}
use Rattle.rl_queue.specs.declared.view.Phase.{Phase}
use Rattle.rl_queue.specs.declared.view.Phase.TheVariants.{Idle, Clear, Reset, Swing, Link, Wait, Settle, Granted, Look, Close, Await, Hand, Above}
use Rattle.rl_queue.specs.laws.Choices.{choose, same_test}
use Rattle.rl_queue.specs.Lane.{Lane, lane_of, Line, Busy, Has}
use Rattle.rl_queue.specs.laws.LaneLaws.{listed_busy}
use Rattle.rl_queue.specs.Queue.{TheNames, queue_next_word, status_word, swap_act, turn_at, moves_to, moves_with, joined_at, leave_at}
use Rattle.rl_queue.specs.laws.QueueMoves.{at_swap}
use Rattle.rl_queue.specs.Standings.{standing_of}
use Rattle.rl_queue.specs.laws.StandingLaws.{not_out_busy}
use Rattle.rl_queue.specs.laws.Stuck.{Stuck, Goes, GetsOn, Falls}
use Rattle.rl_queue.specs.laws.TurnsFall.{turn_falls}
use Rattle.rl_queue.specs.laws.LineGoes.{busy_goes}
use Rattle.rl_alock.specs.declared.cohort.Cohort.{Cohort}
use Rattle.rl_alock.specs.declared.view.SettleStage.{SettleStage}
use Rattle.rl_alock.specs.declared.view.SettleStage.TheVariants.{Announce, Tail, Victim}
use Rattle.rl_alock.specs.declared.view.AlockView.{AlockView}
use Rattle.rl_alock.specs.Alock.{Cohorts, ranks_of, budget_in, cohort_of, cohort_no, tail_no, tail_class, victim_no, other, names_of, at_entry, settles_now, alock_plan, alock_learn, alock_table}
use Rattle.rl_alock.specs.AlockGood.{AlockGood, InCohort, Flat, phases_of}
use Rattle.rl_alock.specs.laws.AlockViews.{phase_get, mine_is}
use Rattle.rl_alock.specs.laws.CohortLaws.{other_differs, same_no}
use Rattle.rl_alock.specs.Overtakes.{AlockBounded}
use Rattle.rl_alock.specs.AlockLeft.{far, near, far_of, near_of, alock_left}
use Rattle.rl_ending.specs.Ending.{LockEnds, CanGoOn}
use Rattle.rl_ending.specs.laws.SumLaws.{nearer, less_change, grows}
use Rattle.rl_ending.specs.laws.EndingLaws.{all_out_or_not, ends_for, goes_on_by}

far_falls : (st : SettleStage) → Falls (λ p. far p st) (λ p. far p Announce)
far_falls st = grind arith

near_few : (tail victim : ℕ) (c : Cohort) (p : Phase) (st : SettleStage) → near tail victim c p st ≤ 3
near_few tail victim c (Swing g) st = choose (λ k. k ≤ 3) (tail == g) 0 1 (omega arith) (omega arith)
near_few tail victim c Settle Announce = omega arith
near_few tail victim c Settle Tail = omega arith
near_few tail victim c Settle Victim = choose (λ k. k ≤ 3) (victim == cohort_no c) 3 1 (omega arith) (omega arith)
near_few tail victim c Idle st = omega arith
near_few tail victim c _ st = omega arith

module _ (K : Cohorts) where
  abbrev T : LockTable AlockView
  T = alock_table K

  abbrev learns : ℕ → Phase → SettleStage → ℕ → AlockView
  learns m p st got = (alock_learn (names_of K (cohort_of K m)) (cohort_of K m) m p st got).view

  -- a head that hangs: it looks at the other queue's tail, which isn't 0, and is the victim
  pub record Hangs (s : LockState AlockView) (m : ℕ) : Type 0 where
    pub stands : slice_get s.views m ≡ Some (at_entry m Settle Tail)
    pub waits : slice_index s.words (tail_no (other (cohort_of K m))) ≢ 0
    pub victim : slice_index s.words victim_no ≡ cohort_no (cohort_of K m)

  -- a view that is less far, whatever the words are; and one that is as far, with less change
  nearer_view : (s : LockState AlockView) (words : List ℕ) (m : ℕ) (v u : AlockView) → slice_get s.views m ≡ Some v → far_of u < far_of v →
      alock_left K words (slice_set s.views m u) < alock_left K s.words s.views
  nearer_view s words m v u has lt =
      nearer 3 far_of (near_of K s.words) (near_of K words)
      (λ x. near_few (slice_index words (tail_no (cohort_of K x.queue.member))) (slice_index words victim_no)
      (cohort_of K x.queue.member) x.queue.phase x.entry) s.views m v u has lt

  changed_view : (s : LockState AlockView) (words : List ℕ) (m : ℕ) (v u w : AlockView) → slice_get s.views m ≡ Some v → words ≡ s.words →
      w ≡ u → far_of u ≡ far_of v → near_of K s.words u < near_of K s.words v →
      alock_left K words (slice_set s.views m w) < alock_left K s.words s.views
  changed_view s words m v u w has same_words same_view same_far lt =
      subst (λ ws. alock_left K ws (slice_set s.views m w) < alock_left K s.words s.views) (sym same_words)
      (subst (λ z. alock_left K s.words (slice_set s.views m z) < alock_left K s.words s.views) (sym same_view)
      (less_change 3 far_of (near_of K s.words) s.views m v u has same_far lt))

  -- an act that brings its rank nearer, and one that gets its member on
  by_act : (s : LockState AlockView) (m : ℕ) (p : Phase) (st : SettleStage) (a : Act) → slice_get s.views m ≡ Some (at_entry m p st) →
      alock_plan (names_of K (cohort_of K m)) (cohort_of K m) m p st ≡ Some a →
      far_of (learns m p st (told a (slice_index s.words (word_of a)))) < far p st → CanGoOn T (alock_left K) s m
  by_act s m p st a has pl lt =
      goes_on_by (at_entry m p st) a has pl
      (nearer_view s (slice_set s.words (word_of a) (written a (slice_index s.words (word_of a)))) m (at_entry m p st)
      (learns m p st (told a (slice_index s.words (word_of a)))) has lt)

  abbrev turn_far : (m : ℕ) (p : Phase) (st : SettleStage) (got : ℕ) → GetsOn p got →
      far (turn_at (names_of K (cohort_of K m)) m p got).phase Announce < far p st
  turn_far m p st got gets = turn_falls (λ q. far q st) (λ q. far q Announce) (far_falls st) (names_of K (cohort_of K m)) m p got gets

  -- a load that brings its rank on by small change
  by_load : (s : LockState AlockView) (m w : ℕ) (p : Phase) (st : SettleStage) (u : AlockView) → slice_get s.views m ≡ Some (at_entry m p st) → alock_plan (names_of K (cohort_of K m)) (cohort_of K m) m p st ≡ Some (Load w) →
      learns m p st (slice_index s.words w) ≡ u → far_of u ≡ far p st → near_of K s.words u < near_of K s.words (at_entry m p st) → CanGoOn T (alock_left K) s m
  by_load s m w p st u has pl same_view same_far lt =
      goes_on_by (at_entry m p st) (Load w) has pl
      (changed_view s (slice_set s.words w (slice_index s.words w)) m (at_entry m p st) u
      (learns m p st (slice_index s.words w)) has (set-get_or s.words w 0) same_view same_far lt)

  -- a swing is won, or learns the tail
  swing_goes : (s : LockState AlockView) (m g : ℕ) (st : SettleStage) → slice_get s.views m ≡ Some (at_entry m (Swing g) st) → CanGoOn T (alock_left K) s m
  swing_goes s m g st has =
      goes_on_by (at_entry m (Swing g) st) (swap_act (tail_class (cohort_of K m)) (tail_no (cohort_of K m)) g (m + 1)) has refl
      (at_swap (λ w value got. alock_left K (slice_set s.words w value)
      (slice_set s.views m (learns m (Swing g) st got)) < alock_left K s.words s.views) s.words (tail_class (cohort_of K m))
      (tail_no (cohort_of K m)) g (m + 1)
      (⊎_elim (λ q. won q.1) (λ q. lost q.0) (eqb_tells (slice_index s.words (tail_no (cohort_of K m))) g))) where
        tail : ℕ
        tail = slice_index s.words (tail_no (cohort_of K m))

        after : List ℕ
        after = slice_set s.words (tail_no (cohort_of K m)) (if tail == g then m + 1 else tail)

        won : tail ≡ g → alock_left K after (slice_set s.views m (learns m (Swing g) st tail)) < alock_left K s.words s.views
        won e = nearer_view s after m (at_entry m (Swing g) st) (learns m (Swing g) st tail) has (turn_far m (Swing g) st tail e)

        lost : (tail == g) ≡ false → alock_left K after (slice_set s.views m (learns m (Swing g) st tail)) < alock_left K s.words s.views
        lost e =
            let old : near_of K s.words (at_entry m (Swing g) st) ≡ 1 = ap (λ b. if b then 0 else 1) e in
            let new : near_of K s.words (at_entry m (Swing tail) Announce) ≡ 0 = ap (λ b. if b then 0 else 1) (same_test tail) in
            changed_view s after m (at_entry m (Swing g) st) (at_entry m (Swing tail) Announce) (learns m (Swing g) st tail) has
            (ap (λ b. slice_set s.words (tail_no (cohort_of K m)) (if b then m + 1 else tail)) e ∙ set-get_or s.words (tail_no (cohort_of K m)) 0)
            (ap (λ b. at_entry m (if b then moves_with (joined_at g) (event.Join (tail_no (cohort_of K m)) m) else moves_to
            (Swing tail)).phase Announce) e) refl (omega (arith, old, new))

  -- a head at its entry
  tail_goes : (s : LockState AlockView) (m : ℕ) → slice_get s.views m ≡ Some (at_entry m Settle Tail) → CanGoOn T (alock_left K) s m ⊎ Hangs s m
  tail_goes s m has =
      let c : Cohort = cohort_of K m in
      let N : TheNames = names_of K (cohort_of K m) in
      let o : ℕ = slice_index s.words (tail_no (other (cohort_of K m))) in
      ⊎_elim
      (λ q.
      let view : learns m Settle Tail (slice_index s.words (tail_no (other (cohort_of K m)))) ≡ (settles_now (names_of K (cohort_of K m)) m).view =
      ap (λ b. (if b then settles_now (names_of K (cohort_of K m)) m else record { view = at_entry m Settle Victim; events = []; waits = false }).view) q.0 in
      inl (by_act s m Settle Tail (Load (tail_no (other (cohort_of K m)))) has refl (subst (λ z. far_of z < 1) (sym view) (omega arith))))
      (λ q. ⊎_elim
      (λ z. inr (record { stands = has; waits = q.1; victim = z.1 }))
      (λ z.
      let view : learns m Settle Tail (slice_index s.words (tail_no (other (cohort_of K m)))) ≡ at_entry m Settle Victim =
      ap (λ b. (if b then settles_now (names_of K (cohort_of K m)) m else record { view = at_entry m Settle Victim; events = []; waits = false }).view) q.0 in
      let new : near_of K s.words (at_entry m Settle Victim) ≡ 1 = ap (λ b. if b then 3 else 1) z.0 in
      inl (by_load s m (tail_no (other (cohort_of K m))) Settle Tail (at_entry m Settle Victim) has refl view refl (omega (arith, new))))
      (eqb_tells (slice_index s.words victim_no) (cohort_no (cohort_of K m))))
      (eqb_tells (slice_index s.words (tail_no (other (cohort_of K m)))) 0)

  victim_goes : (s : LockState AlockView) (m : ℕ) → slice_get s.views m ≡ Some (at_entry m Settle Victim) → CanGoOn T (alock_left K) s m
  victim_goes s m has =
      ⊎_elim
      (λ q.
      let view : learns m Settle Victim (slice_index s.words victim_no) ≡ at_entry m Settle Tail =
      ap (λ b. (if b then record { view = at_entry m Settle Tail; events = []; waits = true } else settles_now (names_of K (cohort_of K m)) m).view) q.0 in
      let old : near_of K s.words (at_entry m Settle Victim) ≡ 3 = ap (λ b. if b then 3 else 1) q.0 in
      by_load s m victim_no Settle Victim (at_entry m Settle Tail) has refl view refl (omega (arith, old)))
      (λ q.
      let view : learns m Settle Victim (slice_index s.words victim_no) ≡ (settles_now (names_of K (cohort_of K m)) m).view =
      ap (λ b. (if b then record { view = at_entry m Settle Tail; events = []; waits = true } else settles_now (names_of K (cohort_of K m)) m).view) q.0 in
      by_act s m Settle Victim (Load victim_no) has refl (subst (λ z. far_of z < 1) (sym view) (omega arith)))
      (eqb_tells (slice_index s.words victim_no) (cohort_no (cohort_of K m)))

  settle_goes : (s : LockState AlockView) (m : ℕ) (st : SettleStage) → slice_get s.views m ≡ Some (at_entry m Settle st) →
      CanGoOn T (alock_left K) s m ⊎ Hangs s m
  settle_goes s m Announce has = inl (by_act s m Settle Announce (Store victim_no (cohort_no (cohort_of K m))) has refl (omega arith))
  settle_goes s m Tail has = tail_goes s m has
  settle_goes s m Victim has = inl (victim_goes s m has)

  -- who uses its queue and isn't stuck there
  pub goes_by : (s : LockState AlockView) (m : ℕ) (p : Phase) (st : SettleStage) → slice_get s.views m ≡ Some (at_entry m p st) → Busy p → Flat p →
      (Stuck p (slice_index s.words (queue_next_word (names_of K (cohort_of K m)) m))
      (slice_index s.words (status_word (names_of K (cohort_of K m)) m)) → ⊥) → CanGoOn T (alock_left K) s m ⊎ Hangs s m
  goes_by s m Idle st has busy flat free = absurd busy
  goes_by s m Clear st has busy flat free = inl (by_act s m Clear st _ has refl (turn_far m Clear st 0 tt))
  goes_by s m Reset st has busy flat free = inl (by_act s m Reset st _ has refl (turn_far m Reset st 0 tt))
  goes_by s m (Swing g) st has busy flat free = inl (swing_goes s m g st has)
  goes_by s m (Link g) st has busy flat free = inl (by_act s m (Link g) st _ has refl (turn_far m (Link g) st 0 tt))
  goes_by s m Wait st has busy flat free =
      inl (by_act s m Wait st _ has refl (turn_far m Wait st (slice_index s.words (status_word (names_of K (cohort_of K m)) m)) free))
  goes_by s m Settle st has busy flat free = settle_goes s m st has
  goes_by s m (Granted left) st has busy flat free = inl (record { view = at_entry m (Granted left) st; has = has; way = inl tt })
  goes_by s m (Look left true) st has busy flat free = absurd flat
  goes_by s m (Look left false) st has busy flat free =
      inl (by_act s m (Look left false) st _ has refl (turn_far m (Look left false) st
      (slice_index s.words (queue_next_word (names_of K (cohort_of K m)) m)) tt))
  goes_by s m (Close left) st has busy flat free =
      let a : Act = swap_act (tail_class (cohort_of K m)) (tail_no (cohort_of K m)) (m + 1) 0 in
      inl (by_act s m (Close left) st a has refl (turn_far m (Close left) st (told a (slice_index s.words (word_of a))) tt))
  goes_by s m (Await left) st has busy flat free =
      inl (by_act s m (Await left) st _ has refl (turn_far m (Await left) st
      (slice_index s.words (queue_next_word (names_of K (cohort_of K m)) m)) free))
  goes_by s m (Hand succ left) st has busy flat free = inl (by_act s m (Hand succ left) st _ has refl (turn_far m (Hand succ left) st 0 tt))
  goes_by s m (Above succ) st has busy flat free = absurd flat

  -- a cohort's queue as it stands, and a member of it that goes on, as a rank
  abbrev pub lane : LockState AlockView → Cohort → Lane
  lane s c = lane_of (names_of K c) s.words (phases_of K c s.views)

  rank_goes : (s : LockState AlockView) (c : Cohort) (m : ℕ) → AlockGood K s → Goes (lane s c) m →
      (CanGoOn T (alock_left K) s m ⊎ Hangs s m) × (cohort_of K m ≡ c)
  rank_goes s c m g k =
      let i = (g.queue c).inv.inside m k.busy in
      let lt = i.there in
      let all : length s.views ≡ ranks_of K = g.all_views in
      let there : m < length s.views = omega arith in
      let v = some_at s.views m there in
      let at : phases_of K c s.views m ≡ v.0.queue.phase = mine_is K c s.views m i.sits ∙ phase_get s.views m v.0 v.1 in
      let has : slice_get s.views m ≡ Some (at_entry m v.0.queue.phase v.0.entry) = v.1
      ∙ ap (λ j. Some (at_entry j v.0.queue.phase v.0.entry)) (g.own m v.0 v.1) in
      let free : Stuck v.0.queue.phase (slice_index s.words (queue_next_word (names_of K c) m)) (slice_index s.words (status_word (names_of K c) m)) → ⊥ =
      λ z. k.goes (subst (λ p. Stuck p (slice_index s.words (queue_next_word (names_of K c) m))
      (slice_index s.words (status_word (names_of K c) m))) (sym at) z) in (
        goes_by s m v.0.queue.phase v.0.entry has (subst Busy at k.busy) (g.flat m v.0 v.1)
            (subst (λ d. Stuck v.0.queue.phase (slice_index s.words (queue_next_word (names_of K d) m))
            (slice_index s.words (status_word (names_of K d) m)) → ⊥) (sym i.sits) free),
        i.sits,
      )

  queue_goes : (s : LockState AlockView) (c : Cohort) (m : ℕ) (p : Phase) → AlockGood K s → phases_of K c s.views m ≡ p → Busy p →
      (k : ℕ) × (CanGoOn T (alock_left K) s k ⊎ Hangs s k) × (cohort_of K k ≡ c)
  queue_goes s c m p g e busy =
      let k = busy_goes (Some (budget_in K c)) (InCohort K c) (lane s c) (g.line c) m p (g.queue c).inv (g.queue c).awaited e busy in
      let q = rank_goes s c k.0 g k.1 in (k.0, q.0, q.1)

  abbrev pub g_line : LockState AlockView → Cohort → List ℕ → Type 0
  g_line s c l = Line (Some (budget_in K c)) (lane s c) l

  -- a queue whose tail isn't 0 has a member
  pub member_in : (s : LockState AlockView) (c : Cohort) (l : List ℕ) → AlockGood K s → g_line s c l → slice_index s.words (tail_no c) ≢ 0 → (m : ℕ) × Has m l
  member_in s c [] g line ne = absurd (ne line)
  member_in s c (h ∷ r) g line ne = (h, inl refl)

  tail_goes_on : (s : LockState AlockView) (c : Cohort) → AlockGood K s → slice_index s.words (tail_no c) ≢ 0 →
      (k : ℕ) × (CanGoOn T (alock_left K) s k ⊎ Hangs s k) × (cohort_of K k ≡ c)
  tail_goes_on s c g ne =
      let m = member_in s c (g.line c) g (g.queue c).inv.line ne in
      let l = (g.queue c).inv.only m.0 m.1 in
      queue_goes s c m.0 (phases_of K c s.views m.0) g refl (listed_busy (phases_of K c s.views m.0) l)

  -- not both hang
  pub one_hangs : (s : LockState AlockView) (k m : ℕ) → Hangs s k → Hangs s m → cohort_of K m ≡ other (cohort_of K k) → ⊥
  one_hangs s k m h i e = other_differs (cohort_of K k) (same_no (cohort_of K k) (other (cohort_of K k)) (sym h.victim ∙ i.victim ∙ ap cohort_no e))

  somebody_goes : (s : LockState AlockView) → AlockGood K s → AllOut T s ⊎ ((r : ℕ) × CanGoOn T (alock_left K) s r)
  somebody_goes s g =
      ⊎_elim inl
      (λ b.
      let c : Cohort = cohort_of K b.0 in
      let k = queue_goes s (cohort_of K b.0) b.0 b.1.view.queue.phase g
      (mine_is K (cohort_of K b.0) s.views b.0 refl ∙ phase_get s.views b.0 b.1.view b.1.has)
      (not_out_busy b.1.view.queue.phase b.1.busy) in
      ⊎_elim
      (λ go. inr (k.0, go))
      (λ h.
      let m = tail_goes_on s (other (cohort_of K k.0)) g h.waits in
      ⊎_elim (λ go. inr (m.0, go)) (λ i. absurd (one_hangs s k.0 m.0 h i m.2)) m.1)
      k.1)
      (all_out_or_not (λ (v : AlockView). standing_of v.queue.phase) s.views)

  leaves_far : (p : Phase) → IsHolder (standing_of p) → far (leave_at p false) Announce ≤ 7
  leaves_far (Granted left) h = omega arith
  leaves_far _ h = absurd h

  leaves_near : (t victim : ℕ) (c : Cohort) (p : Phase) → IsHolder (standing_of p) → near t victim c (leave_at p false) Announce ≤ 0
  leaves_near t victim c (Granted left) h = omega arith
  leaves_near t victim c _ h = absurd h

  pub alock_ends : LockEnds T (alock_left K) (AlockGood K) (7 * (1 + 3 * ranks_of K))
  alock_ends =
      record {
        somebody = λ s g. somebody_goes s g;
        ask_adds = λ s r v m g has out. grows 3 far_of (near_of K s.words) s.views (ranks_of K) r 7 v
            (at_entry v.queue.member Clear Announce) g.all_views has (omega arith) (omega arith);
        leave_adds = λ s r v g has holds.
            grows 3 far_of (near_of K s.words) s.views (ranks_of K) r 7 v
            (at_entry v.queue.member (leave_at v.queue.phase false) Announce) g.all_views has (leaves_far v.queue.phase holds)
            (leaves_near (slice_index s.words (tail_no (cohort_of K v.queue.member))) (slice_index s.words victim_no)
            (cohort_of K v.queue.member) v.queue.phase holds);
      }

  -- and so in the states of which more is known
  pub bounded_ends : LockEnds T (alock_left K) (AlockBounded K) (7 * (1 + 3 * ranks_of K))
  bounded_ends = ends_for T (alock_left K) (AlockGood K) (AlockBounded K) (7 * (1 + 3 * ranks_of K)) (λ s b. b.good) alock_ends
