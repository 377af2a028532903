-- A Take that finds another rank in the card is idle, and so is a load of the lock that waits and is learnt without a trace, and one of
-- the work by which the rank waits on.
use Rattle.std.specs.Prelude.{[], Bool, ◌≡◌, ℕ, ◌+◌, ◌++◌, ◌-◌, ◌^◌, ◌<◌, ◌==◌, true, false, List, length, if◌then◌else◌, slice_index, slice_set, Some, None, refl}
use Rattle.std.proofs.Common.{sym, ◌∙◌, ap, subst, arith}
use Rattle.rl_word.specs.Acts.{Layout, word_of, by_card}
use Rattle.rl_word.specs.declared.acts.Act.{Act}
use Rattle.rl_word.specs.declared.acts.Act.TheVariants as act
use Rattle.rl_word.specs.declared.acts.Atom.{Atom}
use Rattle.rl_word.specs.declared.acts.Atom.TheVariants as atom
use Rattle.rl_step.specs.declared.events.Event.{Event}
use Rattle.rl_step.specs.declared.events.Stepped.TheVariants.{Moved, Waiting, Busy}
use Rattle.rl_step.specs.Core.{MayBe, MayGet, Plans}
use Rattle.rl_step.specs.Do.{TheWindow}
use Rattle.rl_step.specs.Lock.{Deed, MayLearn}
use Rattle.rl_work.specs.declared.follow.Follow.TheVariants.{On}
use Rattle.rl_work.specs.Ways.{WaitsOn, MayTurn}
use Rattle.rl_core.specs.Idle.{IsIdle}
use Rattle.rl_rank.specs.declared.card_state.CardState.TheVariants.{Free, InCard}
use Rattle.rl_rank.specs.declared.effect.Effect.TheVariants.{Stay, Learn}
use Rattle.rl_rank.specs.declared.effect.Effect.TheVariants as effect
use Rattle.rl_rank.specs.declared.whole.WholeView.{WholeView}
use Rattle.rl_rank.specs.Running.{LockAt, Goods, BothLaws}
use Rattle.rl_rank.specs.laws.SplitActs.{begins_so}
use Rattle.rl_rank.specs.Split.{home_of, card_atom, effect_at, answer_of, plan_home, skips}
use Rattle.rl_rank.specs.Whole.{Good, lock_or_work, work_plan, shifted_answer, is_open, next_of, after_of, effect_turned, touch_by, work_turned, whole_table}
use Rattle.rl_rank.specs.laws.Whole.{after_effect}
use Rattle.rl_rank.specs.laws.WholeLaws.{whole_laws}
use Rattle.rl_rank.specs.laws.WholeOwes.{may_learn, may_turn, plan_there}
use Rattle.rl_rank.specs.laws.OpenLaws.{shut_is_none}
use Rattle.rl_rank.specs.WholeShards.{whole_shard}

-- a rank with an atom is in a call
isnt_false : (b : Bool) → (b ≡ false → ⊥) → b ≡ true
isnt_false true f = refl
isnt_false false f = absurd (f refl)

open_with : (V K : Type 0) (L : LockAt V K) (good : Goods V K) (further : List Event → List Deed → Type 0) (layout : Layout)
    (laws : BothLaws L good further layout) (home : ℕ) (x : WholeView V K) →
    MayBe (Good L good layout) x → (at : Atom) → next_of L x ≡ Some at → is_open L x ≡ true
open_with V K L good further layout laws home x may at next =
    isnt_false (is_open L x) (λ shut. let bad : Some at ≡ None = sym next ∙ shut_is_none V K L good further layout laws home x may shut in cc)

module _ {V K : Type 0} (L : LockAt V K) (x : WholeView V K) (a : Act) (planned : L.table.plan x.side.view ≡ Some a)
    (free : x.side.card ≡ Free) (card : by_card a ≡ true) where
  abbrev node : ℕ
  node = home_of L.table (word_of a)

  pub take_next : next_of L x ≡ Some (atom.Take node)
  take_next =
      ap (λ q. lock_or_work L.base q (work_plan (L.table.standing x.side.view) (L.work.next x.rank x.work)))
      (ap (card_atom L.table (L.table.plan x.side.view)) free ∙ ap (λ q. card_atom L.table q Free) planned ∙ ap (λ z. Some z) (begins_so node a card))

  -- it changes nothing where another rank is in the card
  pub held_idle : (home : ℕ) (h : TheWindow) (k : ℕ) → (slice_index h.cards node == 0) ≡ false →
      IsIdle (whole_shard L home) h k x (next_of L x) (Busy node (slice_index h.cards node - 1))
  held_idle home h k held =
      let got : ℕ = slice_index h.cards node in
      let means : effect_at (plan_home L.table (L.table.plan x.side.view)) (L.table.plan x.side.view) x.side.card got ≡ Stay Free (Busy node (got - 1)) =
      ap (λ c. effect_at (plan_home L.table (L.table.plan x.side.view)) (L.table.plan x.side.view) c got) free
      ∙ ap (λ q. effect_at (plan_home L.table q) q Free got) planned
      ∙ ap (λ b. if b then (if got == 0 then Stay InCard Moved else Stay Free (Busy node (got - 1))) else Learn Free got (skips a got)) card
      ∙ ap (λ z. if z then Stay InCard Moved else Stay Free (Busy node (got - 1))) held in
      let turned : after_of L x got ≡ effect_turned L x (L.work.after x.rank x.work got) (Stay Free (Busy node (got - 1))) =
      after_effect L x got (Stay Free (Busy node (got - 1))) means in
      subst (λ o. IsIdle (whole_shard L home) h k x o (Busy node (got - 1))) (sym take_next) (
        ap (λ b. record { words = h.words; cards = if b then slice_set h.cards node (k + 1) else h.cards }) held,
        ap (λ z. z.view) turned ∙ ap (λ c. record { side = record { view = x.side.view; card = c }; kept = x.kept; rank = x.rank; work = x.work }) (sym free),
        ap (λ z. z.events) turned,
        ap (λ z. z.stepped) turned,
      )

  module _ (good : Goods V K) (further : List Event → List Deed → Type 0) (layout : Layout) (laws : BothLaws L good further layout)
      (home : ℕ) (may : MayBe (Good L good layout) x) where
    plans : Plans (whole_table L home) (Good L good layout) may.held may.views may.rank x (atom.Take node)
    plans = record { is_ruled = may.is_ruled; has = may.has; planned = take_next }

module _ {V K : Type 0} (L : LockAt V K) (x : WholeView V K) (w : ℕ) (planned : L.table.plan x.side.view ≡ Some (act.Load w)) (free : x.side.card ≡ Free) where
  pub load_next : next_of L x ≡ Some (atom.Load (L.base + w))
  load_next =
      ap (λ q. lock_or_work L.base q (work_plan (L.table.standing x.side.view) (L.work.next x.rank x.work)))
      (ap (card_atom L.table (L.table.plan x.side.view)) free ∙ ap (λ q. card_atom L.table q Free) planned)

  pub load_means : (got : ℕ) → effect_at (plan_home L.table (L.table.plan x.side.view)) (L.table.plan x.side.view) x.side.card got ≡ Learn Free got false
  load_means got =
      ap (λ c. effect_at (plan_home L.table (L.table.plan x.side.view)) (L.table.plan x.side.view) c got) free
      ∙ ap (λ q. effect_at (plan_home L.table q) q Free got) planned

  -- it changes nothing where what is learnt leaves the view, and nothing happens with it
  pub load_idle : (home : ℕ) (h : TheWindow) (k got : ℕ) → got ≡ slice_index h.words (L.base + w) →
      (L.table.learn x.side.view got).view ≡ x.side.view → (L.table.learn x.side.view got).events ≡ [] →
      (L.table.learn x.side.view got).waits ≡ true →
      IsIdle (whole_shard L home) h k x (next_of L x) (Waiting (L.base + w) got)
  load_idle home h k got is same none waits =
      let turned : after_of L x got ≡ effect_turned L x (L.work.after x.rank x.work got) (Learn Free got false) =
      after_effect L x got (Learn Free got false) (load_means got) in
      let view : (after_of L x got).view ≡ x =
      ap (λ z. z.view) turned ∙ ap (λ v. record { side = record { view = v; card = Free }; kept = x.kept; rank = x.rank; work = x.work }) same
      ∙ ap (λ c. record { side = record { view = x.side.view; card = c }; kept = x.kept; rank = x.rank; work = x.work }) (sym free) in
      let answer : (after_of L x got).stepped ≡ Waiting (L.base + w) got =
      ap (λ z. z.stepped) turned ∙ ap (λ q. shifted_answer L.base (answer_of q got false (L.table.learn x.side.view got).waits)) planned
      ∙ ap (λ b. shifted_answer L.base (answer_of (Some (act.Load w)) got false b)) waits in
      subst (λ o. IsIdle (whole_shard L home) h k x o (Waiting (L.base + w) got)) (sym load_next) (
        refl,
        subst (λ g. (after_of L x g).view ≡ x) is view,
        subst (λ g. (after_of L x g).events ≡ []) is (ap (λ z. z.events) turned ∙ none),
        subst (λ g. (after_of L x g).stepped ≡ Waiting (L.base + w) got) is answer,
      )

  module _ (good : Goods V K) (further : List Event → List Deed → Type 0) (layout : Layout) (laws : BothLaws L good further layout)
      (home : ℕ) (may : MayBe (Good L good layout) x) where
    -- the word is there, and what it has may be learnt
    pub load_there : L.base + w < length may.held.words
    load_there =
        let low : w < L.table.size = plan_there V K L good further layout laws home x (act.Load w) may planned in
        let all : length may.held.words ≡ L.base + L.table.size + L.work.size = may.is_ruled.all_words in
        omega arith

    pub load_fits : L.base + w < 2 ^ 32
    load_fits =
        let low : w < L.table.size = plan_there V K L good further layout laws home x (act.Load w) may planned in
        let all : L.base + L.table.size + L.work.size < 2 ^ 32 = may.is_ruled.fits in
        omega arith

    pub load_open : is_open L x ≡ true
    load_open = open_with V K L good further layout laws home x may (atom.Load (L.base + w)) load_next

    pub load_learns : MayLearn L.table good.lock x.side.view (slice_index may.held.words (L.base + w))
    load_learns =
        let got : ℕ = slice_index may.held.words (L.base + w) in
        let may_get : MayGet (whole_table L home) (Good L good layout) x got =
        record {
          held = may.held;
          views = may.views;
          rank = may.rank;
          atom = atom.Load (L.base + w);
          plans =
              record { is_ruled = may.is_ruled; has = may.has; planned = load_next };
          gives = refl;
        } in
        may_learn V K L good further layout laws home x got Free got false may_get (load_means got)

-- a load of the work
module _ {V K : Type 0} (L : LockAt V K) (x : WholeView V K) (w : ℕ) (loads : next_of L x ≡ Some (atom.Load w)) where
  own_means : L.table.plan x.side.view ≡ None → x.side.card ≡ Free → (got : ℕ) →
      effect_at (plan_home L.table (L.table.plan x.side.view)) (L.table.plan x.side.view) x.side.card got ≡ effect.Work
  own_means planned free got =
      ap (λ c. effect_at (plan_home L.table (L.table.plan x.side.view)) (L.table.plan x.side.view) c got) free
      ∙ ap (λ q. effect_at (plan_home L.table q) q Free got) planned

  -- it changes nothing where the rank waits on by it
  pub own_idle : L.table.plan x.side.view ≡ None → x.side.card ≡ Free → (home : ℕ) (h : TheWindow) (k got : ℕ) →
      got ≡ slice_index h.words w → WaitsOn L.work x.rank x.work w got →
      IsIdle (whole_shard L home) h k x (next_of L x) (Waiting w got)
  own_idle planned free home h k got is waits =
      let turned : after_of L x got ≡ work_turned L x (record { work = x.work; follow = On; stepped = Waiting w got }) =
      after_effect L x got effect.Work (own_means planned free got) ∙ ap (work_turned L x) waits.0 in
      let view : (after_of L x got).view ≡ x =
      ap (λ z. z.view) turned ∙ ap (λ c. record { side = record { view = x.side.view; card = c }; kept = x.kept; rank = x.rank; work = x.work }) (sym free) in
      let events : (after_of L x got).events ≡ [] = ap (λ z. z.events) turned ∙ ap (λ t. touch_by x.rank t ++ []) waits.1 in
      subst (λ o. IsIdle (whole_shard L home) h k x o (Waiting w got)) (sym loads) (
        refl,
        subst (λ g. (after_of L x g).view ≡ x) is view,
        subst (λ g. (after_of L x g).events ≡ []) is events,
        subst (λ g. (after_of L x g).stepped ≡ Waiting w got) is (ap (λ z. z.stepped) turned),
      )

  module _ (good : Goods V K) (further : List Event → List Deed → Type 0) (layout : Layout) (laws : BothLaws L good further layout)
      (home : ℕ) (may : MayBe (Good L good layout) x) where
    own_plans : Plans (whole_table L home) (Good L good layout) may.held may.views may.rank x (atom.Load w)
    own_plans = record { is_ruled = may.is_ruled; has = may.has; planned = loads }

    -- the word is there, and what it has may be learnt
    pub own_there : w < length may.held.words
    own_there = (whole_laws V K L good further layout laws home).can may.held may.views may.rank x (atom.Load w) own_plans

    pub own_open : is_open L x ≡ true
    own_open = open_with V K L good further layout laws home x may (atom.Load w) loads

    pub own_turns : L.table.plan x.side.view ≡ None → x.side.card ≡ Free → MayTurn L.work good.work x.rank x.work (slice_index may.held.words w)
    own_turns planned free =
        let got : ℕ = slice_index may.held.words w in
        let may_get : MayGet (whole_table L home) (Good L good layout) x got =
        record { held = may.held; views = may.views; rank = may.rank; atom = atom.Load w; plans = own_plans; gives = refl } in
        may_turn V K L good further layout laws home x got may_get (own_means planned free got)
