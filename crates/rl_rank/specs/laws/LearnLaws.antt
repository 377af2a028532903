-- What is learnt is what the planned act told, and so a standing changes as the lock's laws say.
use Rattle.std.specs.Prelude.{◌≡◌, ℕ, ◌-◌, ◌==◌, Bool, true, false, List, if◌then◌else◌, slice_get, slice_index, Option, Some, None, refl}
use Rattle.std.proofs.Common.{sym, ◌∙◌, ap, subst, inl, inr}
use Rattle.rl_word.specs.laws.Places.{get_map}
use Rattle.rl_word.specs.Acts.{Layout, word_of, told, by_card}
use Rattle.rl_word.specs.declared.acts.Act.{Act}
use Rattle.rl_word.specs.declared.acts.Atom.{Atom}
use Rattle.rl_word.specs.declared.acts.Atom.TheVariants as atom
use Rattle.rl_step.specs.declared.events.Event.{Event}
use Rattle.rl_step.specs.declared.events.Stepped.TheVariants.{Moved, Busy}
use Rattle.rl_step.specs.Lock.{LockTable, LockState, LockLaws, Deed, Shift, holds_only}
use Rattle.rl_step.specs.Do.{do_got}
use Rattle.rl_rank.specs.declared.card_state.CardState.TheVariants.{Free, InCard, Loaded, ToLeave}
use Rattle.rl_rank.specs.declared.card_state.CardState.{CardState}
use Rattle.rl_rank.specs.declared.effect.Effect.{Effect}
use Rattle.rl_rank.specs.declared.effect.Effect.TheVariants.{Work, Stay, Learn}
use Rattle.rl_rank.specs.Split.{SplitState, LockGood, StandsStill, lock_of, view_of, home_of, first_atom, card_atom, skips, effect_at, plan_home, turned_side}
use Rattle.rl_rank.specs.laws.SplitActs.{plain_got, told_card}
use Rattle.rl_rank.specs.laws.Bridge.{Moves, is_work}

-- the effect that an act is learnt, by its tests
pub first_learns : (a : Act) (home got : ℕ) (b z : Bool) (h : CardState) (t : ℕ) (l : Bool) →
    (if b then (if z then Stay InCard Moved else Stay Free (Busy home (got - 1))) else Learn Free got (skips a got)) ≡ Learn h t l → (b ≡ false) × (t ≡ got)
first_learns a home got true true h t l e = cc
first_learns a home got true false h t l e = cc
first_learns a home got false z h t l e = (refl, cc)

pub load_learns : (home got : ℕ) (b : Bool) (h : CardState) (t : ℕ) (l : Bool) →
    (if b then Learn (ToLeave home) got true else Stay (Loaded got) Moved) ≡ Learn h t l → (b ≡ true) × (t ≡ got)
load_learns home got true h t l e = (refl, cc)
load_learns home got false h t l e = cc

module _ (V : Type 0) (T : LockTable V) (good : LockState V → Type 0) (further : List Event → List Deed → Type 0) (layout : Layout)
    (laws : LockLaws T good further layout) where
  pub learns_at : (s : SplitState V) (r : ℕ) (v : V) (p : Option Act) (h : CardState) (got : ℕ) (hand : CardState) (t : ℕ) (lost : Bool) →
      LockGood T good layout s →
      slice_get s.sides r ≡ Some (record { view = v; card = h }) → T.plan v ≡ p → effect_at (plan_home T p) p h got ≡ Learn hand t lost →
      ((at : Atom) → card_atom T p h ≡ Some at → got ≡ do_got at s.words s.cards) →
      (a : Act) × (p ≡ Some a) × (t ≡ told a (slice_index s.words (word_of a)))
  learns_at s r v p (ToLeave n) got hand t lost g has pl e k = cc
  learns_at s r v None Free got hand t lost g has pl e k = cc
  learns_at s r v None InCard got hand t lost g has pl e k = cc
  learns_at s r v None (Loaded w) got hand t lost g has pl e k = cc
  learns_at s r v (Some a) Free got hand t lost g has pl e k =
      let q = first_learns a (home_of T (word_of a)) got (by_card a) (got == 0) hand t lost e in
      (a, refl, q.1 ∙ k (first_atom T a) refl ∙ plain_got V T a s.words s.cards q.0)
  learns_at s r v (Some a) InCard got hand t lost g has pl e k =
      let q = load_learns (home_of T (word_of a)) got (skips a got) hand t lost e in
      let bc : by_card a ≡ true = subst (λ o. StandsStill s.words o InCard) pl (g.still r _ has) in
      (a, refl, q.1 ∙ k (atom.CardLoad (word_of a)) refl ∙ sym (told_card V T a (slice_index s.words (word_of a)) bc))
  learns_at s r v (Some a) (Loaded w) got hand t lost g has pl e k =
      let holds : StandsStill s.words (Some a) (Loaded w) = subst (λ o. StandsStill s.words o (Loaded w)) pl (g.still r _ has) in
      let same : t ≡ told a w = cc in
      (a, refl, same ∙ ap (told a) (sym holds.2))

  -- what an atom of the lock does to its rank's standing
  pub moves_by : (s : SplitState V) (r : ℕ) (v : V) (c : CardState) (got : ℕ) (e : Effect) → LockGood T good layout s →
      slice_get s.sides r ≡ Some (record { view = v; card = c }) →
      effect_at (plan_home T (T.plan v)) (T.plan v) c got ≡ e → is_work e ≡ false →
      ((at : Atom) → card_atom T (T.plan v) c ≡ Some at → got ≡ do_got at s.words s.cards) →
      Moves r (T.standing v) (T.standing (turned_side T r v (T.plan v) e).side.view) (turned_side T r v (T.plan v) e).events
  moves_by s r v c got Work g has is calm k = absurd (cc)
  moves_by s r v c got (Stay d answer) g has is calm k = inl (refl, refl)
  moves_by s r v c got (Learn d t lost) g has is calm k =
      let q = learns_at s r v (T.plan v) c got d t lost g has refl is k in
      inr (subst (λ z. Shift r (T.standing v) (T.standing (T.learn v z).view) (holds_only (T.learn v z).events)) (sym q.2)
      (laws.shifts (lock_of s) r v q.0 (record { is_good = g.lock; has = get_map view_of s.sides r (record { view = v; card = c }) has; planned = q.1 })))
