-- What the machine owes to the calls of the lock, which have conditions: all of it follows from the rule.
use Rattle.std.specs.Prelude.{◌≡◌, ℕ, zero, suc, ◌+◌, ◌^◌, ◌<◌, ◌==◌, Bool, true, false, List, length, map, if◌then◌else◌, slice_get, slice_index, Option, Some, None, refl}
use Rattle.std.proofs.Common.{sym, ◌∙◌, ap, subst, ⊎_elim, arith}
use Rattle.std.proofs.lemmas.Option.{same_Some, slice_get_within}
use Rattle.std.proofs.lemmas.List.{length-map}
use Rattle.rl_word.specs.laws.Places.{get_map}
use Rattle.rl_word.specs.Acts.{Layout, IsLawful, word_of, by_card}
use Rattle.rl_word.specs.declared.acts.Atom.{Atom}
use Rattle.rl_word.specs.declared.acts.Atom.TheVariants as atom
use Rattle.rl_step.specs.declared.events.Event.{Event}
use Rattle.rl_step.specs.declared.events.Stepped.TheVariants.{Moved}
use Rattle.rl_rank.specs.Split.{answer_of}
use Rattle.rl_step.specs.Lock.{Deed, Rests, MayStep, MayLearn}
use Rattle.rl_step.specs.Do.{TheWindow, do_got}
use Rattle.rl_step.specs.Core.{MayBe, MayGet}
use Rattle.rl_rank.specs.declared.card_state.CardState.TheVariants.{Free, InCard, Loaded, ToLeave}
use Rattle.rl_rank.specs.declared.card_state.CardState.{CardState}
use Rattle.rl_word.specs.declared.acts.Act.{Act}
use Rattle.rl_word.specs.declared.acts.Act.TheVariants as act
use Rattle.rl_rank.specs.declared.effect.Effect.TheVariants.{Work, Stay, Learn}
use Rattle.rl_rank.specs.Running.{LockAt, Goods, BothLaws}
use Rattle.rl_rank.specs.declared.whole.WholeView.{WholeView}
use Rattle.rl_rank.specs.Split.{SplitState, LockGood, side_atom, home_of, lock_of, view_of, first_atom, card_atom, HolderFits, skips, effect_at, plan_home, plan_word}
use Rattle.rl_rank.specs.laws.SplitActs.{first_card}
use Rattle.rl_rank.specs.laws.ShiftLaws.{lock_got}
use Rattle.rl_rank.specs.Whole.{side_of, work_side, lock_or_work, work_plan, whole_table, split_of, lock_words, Good, IsShiftable, IsAnswerShiftable}
use Rattle.rl_rank.specs.laws.LearnLaws.{learns_at}
use Rattle.rl_rank.specs.laws.WholeLaws.{work_at, works_at as at_work, next_either, lock_low}
use Rattle.rl_rank.specs.laws.AnswerLaws.{answer_shifts}
use Rattle.rl_rank.specs.laws.KeptLaws.{first_works}
use Rattle.rl_work.specs.Ways.{Works, MayWork, MayTurn, AsksOut, RestsBy}

-- the work comes with no atom of the lock
load_works : (home got : ℕ) (b : Bool) → (if b then Learn (ToLeave home) got true else Stay (Loaded got) Moved) ≡ Work → ⊥
load_works home got true e = cc
load_works home got false e = cc

module _ (V K : Type 0) (L : LockAt V K) (good : Goods V K) (further : List Event → List Deed → Type 0) (layout : Layout)
    (laws : BothLaws L good further layout) (home : ℕ) where
  -- what the machine owes to the calls of the lock

  pub may_step : (x : WholeView V K) → MayBe (Good L good layout) x → MayStep good.lock x.side.view
  may_step x m =
      record {
        state = lock_of (split_of L m.held m.views m.is_ruled.modes m.is_ruled.past);
        rank = m.rank;
        is_good = m.is_ruled.lock_part.lock;
        has = get_map view_of (map side_of m.views) m.rank x.side (get_map side_of m.views m.rank x m.has);
      }

  pub may_be : (x : WholeView V K) (got : ℕ) → MayGet (whole_table L home) (Good L good layout) x got → MayBe (Good L good layout) x
  may_be x got m = record { held = m.held; views = m.views; rank = m.rank; is_ruled = m.plans.is_ruled; has = m.plans.has }

  lawful_of : (x : WholeView V K) (a : Act) (m : MayBe (Good L good layout) x) → L.table.plan x.side.view ≡ Some a →
      IsLawful L.table.size L.table.spot layout m.rank a
  unfolding may_step
  lawful_of x a m pl = (laws.lock.lawful _ m.rank x.side.view a (record { is_good = (may_step x m).is_good; has = (may_step x m).has; planned = pl })).0

  pub plan_there : (x : WholeView V K) (a : Act) → MayBe (Good L good layout) x → L.table.plan x.side.view ≡ Some a → word_of a < L.table.size
  plan_there x a m pl = (lawful_of x a m pl).there

  pub fits_u32 : (x : WholeView V K) → MayBe (Good L good layout) x → L.base + L.table.size < 2 ^ 32
  fits_u32 x m = let f = m.is_ruled.fits in omega arith

  -- the next atom can be shifted
  first_shifts : (a : Act) → L.base + L.table.size < 2 ^ 32 → word_of a < L.table.size → IsShiftable L.base (first_atom L.table a)
  first_shifts (act.Load w) f h = omega arith
  first_shifts (act.Store w v) f h = omega arith
  first_shifts (act.LocalCas w old new) f h = omega arith
  first_shifts (act.CardCas w old new) f h = tt
  first_shifts (act.CardSwap w v) f h = tt
  first_shifts (act.CardAdd w d) f h = tt

  shifts_at : (p : Option Act) (h : CardState) (at : Atom) → L.base + L.table.size < 2 ^ 32 →
      ((a : Act) → p ≡ Some a → word_of a < L.table.size) → card_atom L.table p h ≡ Some at → IsShiftable L.base at
  shifts_at p (ToLeave n) at f k e = subst (IsShiftable L.base) (same_Some _ _ e) tt
  shifts_at None Free at f k e = cc
  shifts_at None InCard at f k e = cc
  shifts_at None (Loaded g) at f k e = cc
  shifts_at (Some a) Free at f k e = subst (IsShiftable L.base) (same_Some _ _ e) (first_shifts a f (k a refl))
  shifts_at (Some a) InCard at f k e = let h : word_of a < L.table.size = k a refl in let b : L.base + word_of a < 2 ^ 32 = omega arith in
      subst (IsShiftable L.base) (same_Some _ _ e) b
  shifts_at (Some a) (Loaded g) at f k e = let h : word_of a < L.table.size = k a refl in
      let b : L.base + word_of a < 2 ^ 32 = omega arith in subst (IsShiftable L.base) (same_Some _ _ e) b

  pub shifts : (x : WholeView V K) (at : Atom) → MayBe (Good L good layout) x → side_atom L.table x.side ≡ Some at → IsShiftable L.base at
  shifts x at m e = shifts_at (L.table.plan x.side.view) x.side.card at (fits_u32 x m) (λ a pl. plan_there x a m pl) e

  -- what a card holds is small
  card_small : (s : SplitState V) (n k : ℕ) → LockGood L.table good.lock layout s → length s.sides < 2 ^ 32 → slice_index s.cards n ≡ k → k < 2 ^ 32 + 1
  card_small s n zero g few e = omega arith
  card_small s n (suc k) g few e =
      let o = g.named k n (e ∙ omega arith) in
      let within : k < length s.sides = slice_get_within s.sides k o.0 o.1 in
      omega arith

  -- what a state gives for an atom of the lock
  pub got_is : (x : WholeView V K) (got : ℕ) (m : MayGet (whole_table L home) (Good L good layout) x got) (at : Atom) → side_atom L.table x.side ≡ Some at →
      got ≡ do_got at (lock_words L m.held.words) m.held.cards
  got_is x got m at e =
      m.gives ∙ ap (λ z. do_got z m.held.words m.held.cards) (same_Some _ _
      (sym m.plans.planned ∙ ap (λ o. lock_or_work L.base o (work_plan (L.table.standing x.side.view) (L.work.next x.rank x.work))) e))
      ∙ lock_got L at m.held.words m.held.cards (lock_low V K L good further layout laws home m.held m.views m.plans.is_ruled m.rank x
      m.plans.has at e)

  fits_at : (s : SplitState V) (p : Option Act) (h : CardState) (got : ℕ) → LockGood L.table good.lock layout s → length s.sides < 2 ^ 32 →
      ((at : Atom) → card_atom L.table p h ≡ Some at → got ≡ do_got at s.words s.cards) → HolderFits p h got
  fits_at s p (ToLeave n) got g few k = tt
  fits_at s None Free got g few k = tt
  fits_at s None InCard got g few k = tt
  fits_at s None (Loaded v) got g few k = tt
  fits_at s (Some a) Free got g few k =
      λ bc. card_small s (home_of L.table (word_of a)) got g few
      (sym (k (atom.Take (home_of L.table (word_of a))) (ap (λ z. Some z) (first_card V L.table a bc))))
  fits_at s (Some a) InCard got g few k = tt
  fits_at s (Some a) (Loaded v) got g few k = tt

  pub holder_fits : (x : WholeView V K) (got : ℕ) → MayGet (whole_table L home) (Good L good layout) x got →
      HolderFits (L.table.plan x.side.view) x.side.card got
  holder_fits x got m =
      let rule = m.plans.is_ruled in
      fits_at (split_of L m.held m.views rule.modes rule.past) (L.table.plan x.side.view) x.side.card got rule.lock_part
      (subst (λ n. n < 2 ^ 32) (sym (length-map m.views side_of)) rule.few) (λ at e. got_is x got m at e)

  unfoldable pub may_learn : (x : WholeView V K) (got : ℕ) (hand : CardState) (t : ℕ) (lost : Bool) → MayGet (whole_table L home) (Good L good layout) x got →
      effect_at (plan_home L.table (L.table.plan x.side.view)) (L.table.plan x.side.view) x.side.card got ≡ Learn hand t lost → MayLearn
      L.table good.lock x.side.view t
  may_learn x got hand t lost m e =
      let rule = m.plans.is_ruled in
      let s : SplitState V = split_of L m.held m.views rule.modes rule.past in
      let has : slice_get s.sides m.rank ≡ Some x.side = get_map side_of m.views m.rank x m.plans.has in
      let q = learns_at V L.table good.lock further layout laws.lock s m.rank x.side.view
      (L.table.plan x.side.view) x.side.card got hand t lost rule.lock_part has refl e (λ at f. got_is x got m at f) in
      record {
        state = lock_of s;
        rank = m.rank;
        act = q.0;
        is_good = rule.lock_part.lock;
        has = get_map view_of s.sides m.rank x.side has;
        planned = q.1;
        gives = q.2;
      }

  works_at : (p : Option Act) (h : CardState) (got : ℕ) → effect_at (plan_home L.table p) p h got ≡ Work → card_atom L.table p h ≡ None
  works_at p (ToLeave n) got e = cc
  works_at None Free got e = refl
  works_at None InCard got e = refl
  works_at None (Loaded w) got e = refl
  works_at (Some a) Free got e = absurd (first_works a (home_of L.table (word_of a)) got (by_card a) (got == 0) e)
  works_at (Some a) InCard got e = absurd (load_works (home_of L.table (word_of a)) got (skips a got) e)
  works_at (Some a) (Loaded w) got e = cc

  -- the atom of a rank whose atom was one of the work
  pub work_planned : (x : WholeView V K) (got : ℕ) (m : MayGet (whole_table L home) (Good L good layout) x got) →
      effect_at (plan_home L.table (L.table.plan x.side.view)) (L.table.plan x.side.view) x.side.card got ≡ Work → Rests
      (L.table.standing x.side.view) × (L.work.next x.rank x.work ≡ Some m.atom)
  work_planned x got m e =
      let none : side_atom L.table x.side ≡ None = works_at (L.table.plan x.side.view) x.side.card got e in
      ⊎_elim (λ q. let bad : Some q.0 ≡ None = sym q.1 ∙ none in cc) (λ q. (q.1, q.2))
      (next_either V K L good further layout laws home x m.atom m.plans.planned)

  pub work_rests : (x : WholeView V K) (got : ℕ) → MayGet (whole_table L home) (Good L good layout) x got →
      effect_at (plan_home L.table (L.table.plan x.side.view)) (L.table.plan x.side.view) x.side.card got ≡ Work → Rests (L.table.standing x.side.view)
  work_rests x got m e = (work_planned x got m e).0

  -- the rank is about to make that atom
  pub work_made : (x : WholeView V K) (got : ℕ) (m : MayGet (whole_table L home) (Good L good layout) x got) →
      effect_at (plan_home L.table (L.table.plan x.side.view)) (L.table.plan x.side.view) x.side.card got ≡ Work →
      Works L.work good.work m.held.words (map (work_side L.table) m.views) m.rank (work_side L.table x) m.atom
  work_made x got m e = let p = work_planned x got m e in at_work V K L good further layout laws home m.held m.views m.plans.is_ruled m.rank
      x m.plans.has m.atom p.0 p.1

  -- the work can name its atom
  pub may_work : (x : WholeView V K) → MayBe (Good L good layout) x → MayWork L.work good.work x.rank x.work
  may_work x m =
      let g = m.is_ruled in
      subst (λ n. MayWork L.work good.work n x.work) (sym (g.own m.rank x m.has))
      (record {
        words = m.held.words;
        sides = map (work_side L.table) m.views;
        standing = L.table.standing x.side.view;
        side =
            work_at V K L good further layout laws home m.held m.views g m.rank x m.has;
      })

  -- where the work says that the rank rests it does
  pub rests_as_said : (x : WholeView V K) → MayBe (Good L good layout) x → RestsBy L.work good.work x.work → Rests (L.table.standing x.side.view)
  rests_as_said x m said =
      said m.held.words (map (work_side L.table) m.views) m.rank (L.table.standing x.side.view)
      (work_at V K L good further layout laws home m.held m.views m.is_ruled m.rank x m.has)

  -- and the lock plans nothing for a rank that rests
  pub rests_unplanned : (x : WholeView V K) → MayBe (Good L good layout) x → Rests (L.table.standing x.side.view) → L.table.plan x.side.view ≡ None
  rests_unplanned x m =
      (laws.lock.rests (lock_of (split_of L m.held m.views m.is_ruled.modes m.is_ruled.past)) m.rank x.side.view m.is_ruled.lock_part.lock
      (get_map view_of (map side_of m.views) m.rank x.side (get_map side_of m.views m.rank x m.has))).1

  -- a good state with these words has its side
  pub may_see : (x : WholeView V K) (h : TheWindow) (r : ℕ) (m : MayBe (Good L good layout) x) → m.held ≡ h → m.rank ≡ r →
      (w : MayWork L.work good.work r x.work) × (w.words ≡ h.words)
  may_see x h r m same at =
      let side = work_at V K L good further layout laws home m.held m.views m.is_ruled m.rank x m.has in
      subst (λ n. (w : MayWork L.work good.work n x.work) × (w.words ≡ h.words)) at
      (record { words = m.held.words; sides = map (work_side L.table) m.views; standing = L.table.standing x.side.view; side = side }, ap (λ z. z.words) same)

  -- and go on behind what it gave
  pub may_turn : (x : WholeView V K) (got : ℕ) → MayGet (whole_table L home) (Good L good layout) x got →
      effect_at (plan_home L.table (L.table.plan x.side.view)) (L.table.plan x.side.view) x.side.card got ≡ Work → MayTurn L.work good.work x.rank x.work got
  may_turn x got m e =
      let g = m.plans.is_ruled in
      subst (λ n. MayTurn L.work good.work n x.work got) (sym (g.own m.rank x m.plans.has))
      (record {
        words = m.held.words;
        cards = m.held.cards;
        sides = map (work_side L.table) m.views;
        standing = L.table.standing x.side.view;
        at = m.atom;
        works = work_made x got m e;
        gives = m.gives;
      })

  -- the lock is asked for where the rank is out
  pub work_asks : (x : WholeView V K) (got : ℕ) → MayGet (whole_table L home) (Good L good layout) x got →
      effect_at (plan_home L.table (L.table.plan x.side.view)) (L.table.plan x.side.view) x.side.card got ≡ Work → AsksOut
      (L.work.after x.rank x.work got).follow (L.table.standing x.side.view)
  work_asks x got m e =
      let g = m.plans.is_ruled in
      subst (λ n. AsksOut (L.work.after n x.work got).follow (L.table.standing x.side.view)) (sym (g.own m.rank x m.plans.has))
      (subst (λ k. AsksOut (L.work.after m.rank x.work k).follow (L.table.standing x.side.view)) (sym m.gives)
      (laws.work.follows m.held.words m.held.cards (map (work_side L.table) m.views) m.rank (work_side L.table x) m.atom (work_made x got m e)).0)

  word_there : (p : Option Act) (w : ℕ) → ((a : Act) → p ≡ Some a → word_of a < L.table.size) → plan_word p ≡ Some w → w < L.table.size
  word_there None w k e = cc
  word_there (Some a) w k e = subst (λ n. n < L.table.size) (same_Some _ _ e) (k a refl)

  pub plan_word_there : (x : WholeView V K) (w : ℕ) → MayBe (Good L good layout) x → plan_word (L.table.plan x.side.view) ≡ Some w → w < L.table.size
  plan_word_there x w m e = word_there (L.table.plan x.side.view) w (λ a pl. plan_there x a m pl) e

  pub answer_fits : (x : WholeView V K) (got : ℕ) (lost waits : Bool) → MayBe (Good L good layout) x →
      IsAnswerShiftable L.base (answer_of (L.table.plan x.side.view) got lost waits)
  answer_fits x got lost waits m =
      answer_shifts L.base (L.table.plan x.side.view) got lost waits
      (λ a pl. let h : word_of a < L.table.size = plan_there x a m pl in let f : L.base + L.table.size < 2 ^ 32 = fits_u32 x m in omega
      arith)
