-- The home of a planned act's word is asked for only where the act is made through a card.
use Rattle.std.specs.Prelude.{◌≡◌, ℕ, Bool, Option, Some, None, refl}
use Rattle.rl_word.specs.declared.acts.Act.{Act}
use Rattle.rl_word.specs.declared.acts.Act.TheVariants as act
use Rattle.rl_step.specs.Lock.{LockTable}
use Rattle.rl_rank.specs.declared.card_state.CardState.{CardState}
use Rattle.rl_rank.specs.declared.card_state.CardState.TheVariants.{Free, InCard, Loaded, ToLeave}
use Rattle.rl_rank.specs.declared.effect.Effect.TheVariants.{Learn}
use Rattle.rl_rank.specs.Split.{asked_act, card_word, plan_word, word_home, plan_home, atom_at, card_atom, effect_at, HolderFits}

module _ {V : Type 0} (T : LockTable V) where
  -- it is the home of the act's word, wherever it is asked for
  pub asked_atom : (p : Option Act) (c : CardState) → atom_at (word_home T (card_word p c)) p c ≡ card_atom T p c
  asked_atom p (ToLeave n) = refl
  asked_atom None Free = refl
  asked_atom None InCard = refl
  asked_atom None (Loaded g) = refl
  asked_atom (Some (act.Load w)) Free = refl
  asked_atom (Some (act.Store w v)) Free = refl
  asked_atom (Some (act.LocalCas w old new)) Free = refl
  asked_atom (Some (act.CardCas w old new)) Free = refl
  asked_atom (Some (act.CardSwap w v)) Free = refl
  asked_atom (Some (act.CardAdd w d)) Free = refl
  asked_atom (Some a) InCard = refl
  asked_atom (Some a) (Loaded g) = refl

  pub asked_effect : (p : Option Act) (c : CardState) (got : ℕ) → effect_at (word_home T (card_word p c)) p c got ≡ effect_at (plan_home T p) p c got
  asked_effect p (ToLeave n) got = refl
  asked_effect None Free got = refl
  asked_effect None InCard got = refl
  asked_effect None (Loaded g) got = refl
  asked_effect (Some (act.Load w)) Free got = refl
  asked_effect (Some (act.Store w v)) Free got = refl
  asked_effect (Some (act.LocalCas w old new)) Free got = refl
  asked_effect (Some (act.CardCas w old new)) Free got = refl
  asked_effect (Some (act.CardSwap w v)) Free got = refl
  asked_effect (Some (act.CardAdd w d)) Free got = refl
  asked_effect (Some a) InCard got = refl
  asked_effect (Some a) (Loaded g) got = refl

  -- so it is by the act, where that is asked for
  pub act_atom : (p : Option Act) (c : CardState) → atom_at (word_home T (card_word (asked_act p c) c)) (asked_act p c) c ≡ card_atom T p c
  act_atom p Free = asked_atom p Free
  act_atom p InCard = asked_atom p InCard
  act_atom p (Loaded g) = asked_atom p (Loaded g)
  act_atom p (ToLeave n) = refl

  pub act_effect : (p : Option Act) (c : CardState) (got : ℕ) →
      effect_at (word_home T (card_word (asked_act p c) c)) (asked_act p c) c got ≡ effect_at (plan_home T p) p c got
  act_effect p Free got = asked_effect p Free got
  act_effect p InCard got = asked_effect p InCard got
  act_effect p (Loaded g) got = asked_effect p (Loaded g) got
  act_effect p (ToLeave n) got = refl

-- where something is learnt the act was asked for
pub learnt_act : (home : ℕ) (p : Option Act) (c : CardState) (got : ℕ) (hand : CardState) (t : ℕ) (lost : Bool) →
    effect_at home p c got ≡ Learn hand t lost → asked_act p c ≡ p
learnt_act home p Free got hand t lost e = refl
learnt_act home p InCard got hand t lost e = refl
learnt_act home p (Loaded g) got hand t lost e = refl
learnt_act home p (ToLeave n) got hand t lost e = cc

pub act_holder : (p : Option Act) (c : CardState) (got : ℕ) → HolderFits p c got → HolderFits (asked_act p c) c got
act_holder p Free got f = f
act_holder p InCard got f = f
act_holder p (Loaded g) got f = f
act_holder p (ToLeave n) got f = f

-- the word is the planned act's
pub asked_word : (p : Option Act) (c : CardState) (w : ℕ) → card_word p c ≡ Some w → plan_word p ≡ Some w
asked_word None c w e = cc
asked_word (Some (act.Load v)) Free w e = cc
asked_word (Some (act.Store v x)) Free w e = cc
asked_word (Some (act.LocalCas v old new)) Free w e = cc
asked_word (Some (act.CardCas v old new)) Free w e = e
asked_word (Some (act.CardSwap v x)) Free w e = e
asked_word (Some (act.CardAdd v d)) Free w e = e
asked_word (Some a) InCard w e = e
asked_word (Some a) (Loaded g) w e = e
asked_word (Some a) (ToLeave n) w e = e

pub act_word : (p : Option Act) (c : CardState) (w : ℕ) → card_word (asked_act p c) c ≡ Some w → plan_word p ≡ Some w
act_word p Free w e = asked_word p Free w e
act_word p InCard w e = asked_word p InCard w e
act_word p (Loaded g) w e = asked_word p (Loaded g) w e
act_word p (ToLeave n) w e = cc
