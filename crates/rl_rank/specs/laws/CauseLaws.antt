-- Each answer of a step has its cause, for every lock.
use Rattle.std.specs.Prelude.{◌≡◌, ◌≢◌, ℕ, ◌+◌, ◌<◌, ◌==◌, Bool, true, false, not, List, map, take, drop, slice_get, slice_index, Option, Some, None, refl}
use Rattle.std.proofs.Common.{sym, ◌∙◌, ap, subst, inl, inr, ⊎_elim, arith, get_or-drop}
use Rattle.std.proofs.lemmas.List.{get_or-take}
use Rattle.rl_step.specs.Core.{MayBe}
use Rattle.rl_step.specs.declared.events.Stepped.TheVariants.{Moved, Waiting, Lost, Busy, Finished}
use Rattle.std.proofs.lemmas.Option.{same_Some}
use Rattle.std.proofs.lemmas.Bool.Decides.{eqb_tells}
use Rattle.rl_word.specs.laws.Places.{get_map}
use Rattle.rl_word.specs.declared.acts.Act.{Act}
use Rattle.rl_word.specs.declared.acts.Act.TheVariants as act
use Rattle.rl_word.specs.declared.acts.Atom.{Atom}
use Rattle.rl_word.specs.declared.acts.Atom.TheVariants as atom
use Rattle.rl_word.specs.Acts.{word_of, written, told, by_card, Layout}
use Rattle.rl_step.specs.declared.events.Event.{Event}
use Rattle.rl_step.specs.declared.events.Stepped.{Stepped}
use Rattle.rl_step.specs.Lock.{Deed, IsLoad, PlansLoad}
use Rattle.rl_step.specs.Do.{TheWindow, do_got}
use Rattle.rl_rank.specs.Running.{LockAt, Goods, BothLaws}
use Rattle.rl_rank.specs.declared.card_state.CardState.{CardState}
use Rattle.rl_rank.specs.declared.card_state.CardState.TheVariants.{Free, InCard, Loaded, ToLeave}
use Rattle.rl_rank.specs.declared.effect.Effect.TheVariants.{Learn}
use Rattle.rl_rank.specs.declared.whole.WholeView.{WholeView}
use Rattle.rl_rank.specs.Split.{SplitState, lock_of, view_of, home_of, plan_home, first_atom, card_atom, side_atom, skips, guess_of, answer_of, effect_at, turned_side, card_after, StandsStill}
use Rattle.rl_rank.specs.laws.SplitActs.{bool_cases, card_cases, plain_cases, first_card, plain_got, after_plain, after_take, after_busy, after_load, after_skip}
use Rattle.rl_rank.specs.laws.SplitLaws.{none_at}
use Rattle.rl_rank.specs.Whole.{side_of, work_side, split_of, lock_words, shifted, shifted_answer, next_of, after_of, Good}
use Rattle.rl_rank.specs.laws.ShiftLaws.{shift_got}
use Rattle.rl_rank.specs.laws.WholeLaws.{next_either, works_at, work_answers, after_work, lock_turned}
use Rattle.rl_rank.specs.laws.WholeOwes.{plan_there}
use Rattle.rl_rank.specs.laws.Bridge.{no_work}
use Rattle.rl_rank.specs.Causes.{Compares, Cause, LockMoves, HasToWait, HasLost, IsWork}
use Rattle.rl_work.specs.Ways.{WorkTable, IsWorkAtom, AnswersAs, IsNextLoad, IsWorkAtom}

-- a plain act whose first atom is a load loads its word; no first atom of a plain act is a Take
plain_load : {V K : Type 0} (L : LockAt V K) (a : Act) (word : ℕ) → by_card a ≡ false → shifted L.base (first_atom L.table a) ≡ atom.Load word → IsLoad a
plain_load L a word e q = plain_cases (λ b. shifted L.base (first_atom L.table b) ≡ atom.Load word → IsLoad b) (λ w k. tt) (λ w v k. cc)
    (λ w old new k. cc) a e q

plain_no_take : {V K : Type 0} (L : LockAt V K) (a : Act) (node : ℕ) → by_card a ≡ false → shifted L.base (first_atom L.table a) ≡ atom.Take node → ⊥
plain_no_take L a node e q = plain_cases (λ b. shifted L.base (first_atom L.table b) ≡ atom.Take node → ⊥) (λ w k. cc) (λ w v k. cc) (λ w old new k. cc) a e q

-- an act that is a load
load_case : (P : Act → Type 0) → ((w : ℕ) → P (act.Load w)) → (a : Act) → IsLoad a → P a
load_case P load (act.Load w) h = load w
load_case P load (act.Store w v) h = absurd h
load_case P load (act.LocalCas w old new) h = absurd h
load_case P load (act.CardCas w old new) h = absurd h
load_case P load (act.CardSwap w v) h = absurd h
load_case P load (act.CardAdd w d) h = absurd h

-- a load's one atom, and what it tells
load_atom : {V K : Type 0} (L : LockAt V K) (a : Act) → IsLoad a → shifted L.base (first_atom L.table a) ≡ atom.Load (L.base + word_of a)
load_atom L a h = load_case (λ b. shifted L.base (first_atom L.table b) ≡ atom.Load (L.base + word_of b)) (λ w. refl) a h

load_told : (a : Act) (g : ℕ) → IsLoad a → told a g ≡ g
load_told a g h = load_case (λ b. told b g ≡ g) (λ w. refl) a h

load_plain : (a : Act) → IsLoad a → by_card a ≡ true → ⊥
load_plain a h e = load_case (λ b. by_card b ≡ true → ⊥) (λ w k. cc) a h e

-- an atom compares where it is a local compare-and-swap or a load in a card, and then an act that saw another value skips its store
abbrev IsCompare : Atom → Type 0
IsCompare (atom.Load w) = ⊥
IsCompare (atom.Store w v) = ⊥
IsCompare (atom.LocalCas w old new) = Unit {0}
IsCompare (atom.Take n) = ⊥
IsCompare (atom.CardLoad w) = Unit {0}
IsCompare (atom.CardStore w v) = ⊥
IsCompare (atom.Leave n) = ⊥

compares_at : (base : ℕ) (a : Act) (at : Atom) (guess : ℕ) → Compares base a at guess → IsCompare at
compares_at base (act.Load w) at guess h = absurd h
compares_at base (act.Store w v) at guess h = absurd h
compares_at base (act.LocalCas w old new) at guess h = subst IsCompare (sym h.0) tt
compares_at base (act.CardCas w old new) at guess h = subst IsCompare (sym h.0) tt
compares_at base (act.CardSwap w v) at guess h = absurd h
compares_at base (act.CardAdd w d) at guess h = absurd h

other_not : (seen old : ℕ) → seen ≢ old → not (seen == old) ≡ true
other_not seen old ne = ⊎_elim (λ q. absurd (ne q.1)) (λ q. ap not q.0) (eqb_tells seen old)

compares_skips : (base : ℕ) (a : Act) (at : Atom) (guess seen : ℕ) → Compares base a at guess → seen ≢ guess → skips a seen ≡ true
compares_skips base (act.Load w) at guess seen h ne = absurd h
compares_skips base (act.Store w v) at guess seen h ne = absurd h
compares_skips base (act.LocalCas w old new) at guess seen h ne = other_not seen old (λ e. ne (e ∙ sym h.1))
compares_skips base (act.CardCas w old new) at guess seen h ne = other_not seen old (λ e. ne (e ∙ sym h.1))
compares_skips base (act.CardSwap w v) at guess seen h ne = absurd h
compares_skips base (act.CardAdd w d) at guess seen h ne = absurd h

-- what a plain act tells skips as what it found
told_skips : (a : Act) (g : ℕ) → by_card a ≡ false → skips a (told a g) ≡ skips a g
told_skips a g e = plain_cases (λ b. skips b (told b g) ≡ skips b g) (λ w. refl) (λ w v. refl) (λ w old new. refl) a e

-- a plain act that skips its store is a local compare-and-swap, and one by card a CardCas
plain_compares : {V K : Type 0} (L : LockAt V K) (a : Act) (got : ℕ) → by_card a ≡ false → skips a got ≡ true →
    Compares L.base a (shifted L.base (first_atom L.table a)) (guess_of a)
plain_compares L a got e s =
    plain_cases (λ b. skips b got ≡ true → Compares L.base b (shifted L.base (first_atom L.table b)) (guess_of b)) (λ w k. cc) (λ w v k. cc)
    (λ w old new k. (refl, refl)) a e s

card_compares : (base : ℕ) (a : Act) (got : ℕ) → by_card a ≡ true → skips a got ≡ true → Compares base a (atom.CardLoad (base + word_of a)) (guess_of a)
card_compares base a got e s = card_cases (λ b. skips b got ≡ true → Compares base b (atom.CardLoad (base + word_of b)) (guess_of b))
    (λ w old new k. (refl, refl)) (λ w v k. cc) (λ w d k. cc) a e s

-- it saw another value than its guess
skips_other : (a : Act) (got : ℕ) → skips a got ≡ true → got ≢ guess_of a
skips_other (act.Load w) got s = cc
skips_other (act.Store w v) got s = cc
skips_other (act.LocalCas w old new) got s = λ e. ⊎_elim (λ q. let bad : true ≡ false = sym s ∙ ap not q.0 in cc) (λ q. q.1 e) (eqb_tells got old)
skips_other (act.CardCas w old new) got s = λ e. ⊎_elim (λ q. let bad : true ≡ false = sym s ∙ ap not q.0 in cc) (λ q. q.1 e) (eqb_tells got old)
skips_other (act.CardSwap w v) got s = cc
skips_other (act.CardAdd w d) got s = cc

-- a plain act that compares tells what it found
plain_told : (a : Act) (g got : ℕ) → by_card a ≡ false → skips a got ≡ true → told a g ≡ g
plain_told a g got e s = plain_cases (λ b. skips b got ≡ true → told b g ≡ g) (λ w k. refl) (λ w v k. cc) (λ w old new k. refl) a e s

-- the cause of an answer of the lock's atom
abbrev LockCause : {V K : Type 0} → LockAt V K → TheWindow → V → Atom → Stepped → Type 0
LockCause L h v at Moved = LockMoves L h v at
LockCause L h v at (Waiting word value) = HasToWait L h v at word value
LockCause L h v at (Lost guess seen) = HasLost L h v at guess seen
LockCause L h v at (Busy node holder) = (at ≡ atom.Take node) × (slice_index h.cards node ≡ holder + 1)
LockCause L h v at Finished = ⊥

-- where the planned act's round has to be made again after what it found, it is a load, and so is the next act
abbrev pub BeginsAgain : {V K : Type 0} → LockAt V K → TheWindow → V → Type 0
BeginsAgain L h v =
    (a : Act) → L.table.plan v ≡ Some a → (L.table.learn v (told a (slice_index h.words (L.base + word_of a)))).waits ≡ true →
    IsLoad a × PlansLoad (L.table.plan (L.table.learn v (told a (slice_index h.words (L.base + word_of a)))).view)

module _ (V K : Type 0) (L : LockAt V K) (h : TheWindow) (v : V) (rounds : BeginsAgain L h v) where
  -- an atom that neither compares nor loads goes on, but for a Take
  plain_sailing : (at : Atom) → ((node : ℕ) → at ≡ atom.Take node → slice_index h.cards node ≡ 0) → (IsCompare at → ⊥) →
      ((word : ℕ) → at ≡ atom.Load word → ⊥) → LockMoves L h v at
  plain_sailing at free no_compare no_load =
      record {
        free = free;
        won = λ guess seen l. no_compare (compares_at L.base l.act at guess l.compares);
        met = λ word value w. no_load word w.made;
      }

  -- an answer of a plain act that lost no compare
  learnt_cause : (a : Act) (got : ℕ) → L.table.plan v ≡ Some a → by_card a ≡ false →
      got ≡ told a (slice_index h.words (L.base + word_of a)) → skips a got ≡ false →
      (b : Bool) → (L.table.learn v got).waits ≡ b → LockCause L h v (shifted L.base (first_atom L.table a))
      (shifted_answer L.base (answer_of (Some a) got false b))
  learnt_cause a got pl bc tells sk true e =
      let round = rounds a pl (ap (λ z. (L.table.learn v z).waits) (sym tells) ∙ e) in
      record {
        act = a;
        planned = pl;
        same_word = refl;
        made = load_atom L a round.0;
        tells = tells ∙ load_told a (slice_index h.words (L.base + word_of a)) round.0;
        unmet = e;
        again = subst (λ z. PlansLoad (L.table.plan (L.table.learn v z).view)) (sym tells) round.1;
      }
  learnt_cause a got pl bc tells sk false e =
      record {
        free = λ node q. absurd (plain_no_take L a node bc q);
        won = λ guess seen l.
            let same : l.act ≡ a = same_Some _ _ (sym l.planned ∙ pl) in
            let seen_is : slice_index h.words (L.base + word_of a) ≡ seen = ap (λ z. slice_index h.words (L.base + word_of z)) (sym same) ∙ l.found in
            let lost : skips a seen ≡ true = ap (λ z. skips z seen) (sym same) ∙ compares_skips L.base l.act _ guess seen l.compares l.other in
            let not_lost : skips a seen ≡ false = ap (skips a) (sym seen_is)
            ∙ sym (told_skips a (slice_index h.words (L.base + word_of a)) bc) ∙ ap (skips a) (sym tells) ∙ sk in
            let bad : true ≡ false = sym lost ∙ not_lost in cc;
        met = λ word value w.
            let same : w.act ≡ a = same_Some _ _ (sym w.planned ∙ pl) in
            let loads : IsLoad a = plain_load L a word bc w.made in
            let here : word ≡ L.base + word_of a = w.same_word ∙ ap (λ z. L.base + word_of z) same in
            let value_is : value ≡ got = w.tells ∙ ap (slice_index h.words) here
            ∙ sym (load_told a (slice_index h.words (L.base + word_of a)) loads) ∙ sym tells in
            let bad : true ≡ false = sym w.unmet ∙ ap (λ z. (L.table.learn v z).waits) value_is ∙ e in cc;
      }

  -- the value of a lock word in the window
  in_window : (w : ℕ) → slice_index (drop L.base h.words) w ≡ slice_index h.words (L.base + w)
  in_window w = get_or-drop L.base h.words w 0

  abbrev CauseOf : Atom → Stepped → Type 0
  CauseOf at s = LockCause L h v at (shifted_answer L.base s)

  -- the one atom of a plain act
  plain_cause : (r : ℕ) (a : Act) (got : ℕ) → L.table.plan v ≡ Some a → by_card a ≡ false → got ≡ do_got (first_atom L.table a) (drop L.base h.words) h.cards →
      CauseOf (shifted L.base (first_atom L.table a)) (turned_side L.table r v (Some a) (Learn Free got (skips a got))).stepped
  plain_cause r a got pl bc eg =
      let tells : got ≡ told a (slice_index h.words (L.base + word_of a)) = eg ∙ plain_got V L.table a (drop L.base h.words) h.cards bc
      ∙ ap (told a) (in_window (word_of a)) in
      ⊎_elim
      (λ sk. subst (λ b. CauseOf (shifted L.base (first_atom L.table a)) (answer_of (Some a) got b (L.table.learn v got).waits)) (sym sk)
      (record {
        act = a;
        planned = pl;
        compares = plain_compares L a got bc sk;
        found = sym (plain_told a (slice_index h.words (L.base + word_of a)) got bc sk) ∙ sym tells;
        other = skips_other a got sk;
      }))
      (λ sk. subst (λ b. CauseOf (shifted L.base (first_atom L.table a)) (answer_of (Some a) got b (L.table.learn v got).waits)) (sym sk)
      (learnt_cause a got pl bc tells sk (L.table.learn v got).waits refl))
      (bool_cases (skips a got))

  -- the first atom of an act
  first_cause : (r : ℕ) (a : Act) (got : ℕ) → L.table.plan v ≡ Some a → got ≡ do_got (first_atom L.table a) (drop L.base h.words) h.cards →
      CauseOf (shifted L.base (first_atom L.table a)) (card_after L.table r v (Some a) Free got).stepped
  first_cause r a got pl eg =
      let n : ℕ = home_of L.table (word_of a) in
      ⊎_elim
      (λ bc.
      let take : first_atom L.table a ≡ atom.Take n = first_card V L.table a bc in
      let found : got ≡ slice_index h.cards n = eg ∙ ap (λ z. do_got z (drop L.base h.words) h.cards) take in
      ⊎_elim
      (λ q. subst (λ z. CauseOf (shifted L.base (first_atom L.table a)) z.stepped) (sym (after_take V L.table r v a got bc q.0))
      (subst (LockMoves L h v) (sym (ap (shifted L.base) take))
      (plain_sailing (atom.Take n) (λ node e. let same : n ≡ node = cc in ap (slice_index h.cards) (sym same) ∙ sym found ∙ q.1) (λ c. c) (λ word e. cc))))
      (λ q. subst (λ z. CauseOf (shifted L.base (first_atom L.table a)) z.stepped) (sym (after_busy V L.table r v a got bc q.0))
      (ap (shifted L.base) take, (let other : got ≢ 0 = q.1 in let same : slice_index h.cards n ≡ got = sym found in grind (arith, other, same))))
      (eqb_tells got 0))
      (λ bc. subst (λ z. CauseOf (shifted L.base (first_atom L.table a)) z.stepped) (sym (after_plain V L.table r v a got bc)) (plain_cause r a got pl bc eg))
      (bool_cases (by_card a))

  -- the load in a card
  load_cause : (r : ℕ) (a : Act) (got : ℕ) → L.table.plan v ≡ Some a → by_card a ≡ true → got ≡ slice_index (drop L.base h.words) (word_of a) →
      CauseOf (atom.CardLoad (L.base + word_of a)) (card_after L.table r v (Some a) InCard got).stepped
  load_cause r a got pl bc eg =
      ⊎_elim
      (λ sk. subst (λ z. CauseOf (atom.CardLoad (L.base + word_of a)) z.stepped) (sym (after_skip V L.table r v a got sk))
      (record {
        act = a;
        planned = pl;
        compares = card_compares L.base a got bc sk;
        found = sym (eg ∙ in_window (word_of a));
        other = skips_other a got sk;
      }))
      (λ sk. subst (λ z. CauseOf (atom.CardLoad (L.base + word_of a)) z.stepped) (sym (after_load V L.table r v a got sk))
      (record {
        free = λ node e. cc;
        won = λ guess seen l.
            let same : l.act ≡ a = same_Some _ _ (sym l.planned ∙ pl) in
            let seen_is : got ≡ seen = eg ∙ in_window (word_of a) ∙ ap (λ z. slice_index h.words (L.base + word_of z)) (sym same) ∙ l.found in
            let bad : true ≡ false = sym (ap (λ z. skips z seen) (sym same) ∙ compares_skips L.base l.act _ guess seen l.compares l.other)
            ∙ ap (skips a) (sym seen_is) ∙ sk in cc;
        met = λ word value w. cc;
      }))
      (bool_cases (skips a got))

  -- the store in a card
  store_cause : (a : Act) (g : ℕ) (b : Bool) → L.table.plan v ≡ Some a → by_card a ≡ true →
      told a g ≡ told a (slice_index h.words (L.base + word_of a)) → (L.table.learn v (told a g)).waits ≡ b →
      LockCause L h v (atom.CardStore (L.base + word_of a) (written a g)) (shifted_answer L.base (answer_of (Some a) (told a g) false b))
  store_cause a g true pl bc tells e = absurd (load_plain a (rounds a pl (ap (λ z. (L.table.learn v z).waits) (sym tells) ∙ e)).0 bc)
  store_cause a g false pl bc tells e = plain_sailing (atom.CardStore (L.base + word_of a) (written a g)) (λ node q. cc) (λ c. c) (λ word q. cc)

  -- every atom of the lock
  lock_cause : (r : ℕ) (p : Option Act) (c : CardState) (b : Atom) → L.table.plan v ≡ p → StandsStill (drop L.base h.words) p c →
      card_atom L.table p c ≡ Some b →
      CauseOf (shifted L.base b) (card_after L.table r v p c (do_got b (drop L.base h.words) h.cards)).stepped
  lock_cause r p (ToLeave n) b pl k e =
      subst (λ z. LockMoves L h v (shifted L.base z)) (same_Some _ _ e) (plain_sailing (atom.Leave n) (λ node q. cc) (λ c. c) (λ word q. cc))
  lock_cause r None Free b pl k e = cc
  lock_cause r None InCard b pl k e = cc
  lock_cause r None (Loaded g) b pl k e = cc
  lock_cause r (Some a) Free b pl k e =
      subst (λ z. CauseOf (shifted L.base z) (card_after L.table r v (Some a) Free (do_got z (drop L.base h.words) h.cards)).stepped) (same_Some _ _ e)
      (first_cause r a (do_got (first_atom L.table a) (drop L.base h.words) h.cards) pl refl)
  lock_cause r (Some a) InCard b pl k e =
      subst (λ z. CauseOf (shifted L.base z) (card_after L.table r v (Some a) InCard (do_got z (drop L.base h.words) h.cards)).stepped) (same_Some _ _ e)
      (load_cause r a (slice_index (drop L.base h.words) (word_of a)) pl k refl)
  lock_cause r (Some a) (Loaded g) b pl k e =
      subst (λ z. CauseOf (shifted L.base z) (card_after L.table r v (Some a) (Loaded g) (do_got z (drop L.base h.words) h.cards)).stepped) (same_Some _ _ e)
      (store_cause a g (L.table.learn v (told a g)).waits pl k.0 (ap (told a) (sym k.2 ∙ in_window (word_of a))) refl)

-- an atom of the work is no Take
pub work_no_take : {K : Type 0} (T : WorkTable K) (at : Atom) (node : ℕ) → IsWorkAtom T at → at ≡ atom.Take node → ⊥
work_no_take T (atom.Load w) node h e = cc
work_no_take T (atom.Store w v) node h e = cc
work_no_take T (atom.LocalCas w old new) node h e = absurd h
work_no_take T (atom.Take n) node h e = absurd h
work_no_take T (atom.CardLoad w) node h e = absurd h
work_no_take T (atom.CardStore w v) node h e = absurd h
work_no_take T (atom.Leave n) node h e = absurd h

-- a word that stands still among the first so many stands still
still_longer : (n : ℕ) (ws : List ℕ) (p : Option Act) (c : CardState) → ((a : Act) → p ≡ Some a → word_of a < n) →
    StandsStill (take n ws) p c → StandsStill ws p c
still_longer n ws p Free low s = tt
still_longer n ws p (ToLeave m) low s = tt
still_longer n ws None InCard low s = absurd s
still_longer n ws None (Loaded g) low s = absurd s
still_longer n ws (Some a) InCard low s = s
still_longer n ws (Some a) (Loaded g) low s = (s.0, s.1, sym (get_or-take n ws (word_of a) 0 (low a refl)) ∙ s.2)

-- a cause by the lock is one of the answer, where the atom is the lock's
lock_gives : {V K : Type 0} (L : LockAt V K) (h : TheWindow) (x : WholeView V K) (at b : Atom) → side_atom L.table x.side ≡ Some b →
    (s : Stepped) → LockCause L h x.side.view at s → Cause L h x (Some at) s
lock_gives L h x at b is Moved c = (c, λ w. let bad : Some b ≡ None = sym is ∙ w.0 in absurd (cc))
lock_gives L h x at b is (Waiting word value) c = inl c
lock_gives L h x at b is (Lost guess seen) c = inl c
lock_gives L h x at b is (Busy node holder) c = c
lock_gives L h x at b is Finished c = absurd c

-- the cause of an answer of the work
work_gives : {V K : Type 0} (L : LockAt V K) (h : TheWindow) (x : WholeView V K) (at : Atom) → IsWork L x at →
    LockMoves L h x.side.view at → (s : Stepped) → (L.work.after x.rank x.work (do_got at h.words h.cards)).stepped ≡ s →
    AnswersAs at (do_got at h.words h.cards) (L.work.next x.rank (L.work.after x.rank x.work (do_got at h.words h.cards)).work)
    (L.work.after x.rank x.work (do_got at h.words h.cards)).follow s → Cause L h x (Some at) s
work_gives L h x at is goes Moved e a = (goes, λ w. e)
work_gives L h x at is goes (Waiting word value) e a =
    inr (record {
      is_work = is;
      made = a.0;
      tells = a.1 ∙ ap (λ z. do_got z h.words h.cards) a.0;
      unmet = ap (λ n. (L.work.after x.rank x.work n).stepped) a.1 ∙ e;
      again = subst (λ n. IsNextLoad (L.work.next x.rank (L.work.after x.rank x.work n).work)) (sym a.1) a.2;
    })
work_gives L h x at is goes (Lost guess seen) e a =
    inr (record { is_work = is; loads = a.0; found = sym a.1; other = a.2; lost = ap (λ n. (L.work.after x.rank x.work n).stepped) a.1 ∙ e })
work_gives L h x at is goes (Busy node holder) e a = absurd a
work_gives L h x at is goes Finished e a = absurd a

module _ (V K : Type 0) (L : LockAt V K) (good : Goods V K) (further : List Event → List Deed → Type 0) (layout : Layout)
    (laws : BothLaws L good further layout) (home : ℕ) where
  -- by the lock's law
  rounds_of : (h : TheWindow) (vs : List (WholeView V K)) (r : ℕ) (x : WholeView V K) → Good L good layout h vs → slice_get vs r ≡ Some x →
      BeginsAgain L h x.side.view
  rounds_of h vs r x g has a pl e =
      let s : SplitState V = split_of L h vs g.modes g.past in
      let low : word_of a < L.table.size = plan_there V K L good further layout laws home x a
      (record { held = h; views = vs; rank = r; is_ruled = g; has = has }) pl in
      let here : told a (slice_index s.words (word_of a)) ≡ told a (slice_index h.words (L.base + word_of a)) =
      ap (told a) (get_or-take L.table.size (drop L.base h.words) (word_of a) 0 low ∙ get_or-drop L.base h.words (word_of a) 0) in
      let law = laws.lock.waits_on_loads (lock_of s) r x.side.view a
      (record { is_good = g.lock_part.lock; has = get_map view_of s.sides r x.side (get_map side_of vs r x has); planned = pl })
      (ap (λ z. (L.table.learn x.side.view z).waits) here ∙ e) in
      (law.0, subst (λ z. PlansLoad (L.table.plan (L.table.learn x.side.view z).view)) here law.1)

  pub answer_cause : (h : TheWindow) (vs : List (WholeView V K)) (r : ℕ) (x : WholeView V K) (at : Atom) → Good L good layout h vs →
      slice_get vs r ≡ Some x → next_of L x ≡ Some at →
      Cause L h x (Some at) (after_of L x (do_got at h.words h.cards)).stepped
  answer_cause h vs r x at g has e =
      let got : ℕ = do_got at h.words h.cards in
      let may : MayBe (Good L good layout) x = record { held = h; views = vs; rank = r; is_ruled = g; has = has } in
      ⊎_elim
      (λ q.
      let still = still_longer L.table.size (drop L.base h.words) (L.table.plan x.side.view) x.side.card
      (λ a pl. plan_there V K L good further layout laws home x a may pl) (g.lock_part.still r x.side (get_map side_of vs r x has)) in
      let same : got ≡ do_got q.0 (drop L.base h.words) h.cards = ap (λ z. do_got z h.words h.cards) (sym q.2) ∙ shift_got L.base q.0 h.words h.cards in
      let calm = no_work (plan_home L.table (L.table.plan x.side.view)) (L.table.plan x.side.view) x.side.card got q.0 q.1 in
      let answer : (after_of L x got).stepped ≡ shifted_answer L.base
      (card_after L.table x.rank x.side.view (L.table.plan x.side.view) x.side.card got).stepped =
      ap (λ t. t.stepped) (lock_turned L x (L.work.after x.rank x.work got)
      (effect_at (plan_home L.table (L.table.plan x.side.view)) (L.table.plan x.side.view) x.side.card got) calm) in
      let cause : LockCause L h x.side.view at (shifted_answer L.base
      (card_after L.table x.rank x.side.view (L.table.plan x.side.view) x.side.card got).stepped) =
      subst (λ n. LockCause L h x.side.view at (shifted_answer L.base
      (card_after L.table x.rank x.side.view (L.table.plan x.side.view) x.side.card n).stepped)) (sym same)
      (subst (λ z. LockCause L h x.side.view z (shifted_answer L.base
      (card_after L.table x.rank x.side.view (L.table.plan x.side.view) x.side.card
      (do_got q.0 (drop L.base h.words) h.cards)).stepped)) q.2
      (lock_cause V K L h x.side.view (rounds_of h vs r x g has) x.rank (L.table.plan x.side.view) x.side.card q.0 refl still q.1)) in
      lock_gives L h x at q.0 q.1 (after_of L x got).stepped (subst (LockCause L h x.side.view at) (sym answer) cause))
      (λ q.
      let away = none_at V L.table good.lock further layout laws.lock (lock_words L h.words) (L.table.plan x.side.view) x.side.card
      (g.lock_part.still r x.side (get_map side_of vs r x has)) q.0 in
      let works = works_at V K L good further layout laws home h vs g r x has at q.1 q.2 in
      let plain : IsWorkAtom L.work at = laws.work.plain h.words (map (work_side L.table) vs) r (work_side L.table x) at works in
      let goes : LockMoves L h x.side.view at =
      record {
        free = λ node e. absurd (work_no_take L.work at node plain e);
        won = λ guess seen l. let bad : None ≡ Some l.act = sym away.0 ∙ l.planned in cc;
        met = λ word value w. let bad : None ≡ Some w.act = sym away.0 ∙ w.planned in cc;
      } in
      subst (Cause L h x (Some at)) (sym (ap (λ t. t.stepped) (after_work V K L good further layout laws home h vs g r x has q.0 got)))
      (work_gives L h x at (q.0, q.2) goes (L.work.after x.rank x.work got).stepped refl
      (work_answers V K L good further layout laws home h vs g r x has at q.1 q.2)))
      (next_either V K L good further layout laws home x at e)
