-- What the answers of a rank's atoms can be.
use Rattle.std.specs.Prelude.{◌≡◌, ◌⊎◌, ℕ, ◌+◌, ◌-◌, ◌^◌, ◌<◌, ◌==◌, Bool, true, false, if◌then◌else◌, Option, Some, None, refl}
use Rattle.std.proofs.Common.{sym, ◌∙◌, subst, inl, inr, ⊎_elim}
use Rattle.rl_word.specs.declared.acts.Act.{Act}
use Rattle.rl_word.specs.Acts.{word_of, by_card}
use Rattle.rl_step.specs.declared.events.Stepped.{Stepped}
use Rattle.rl_step.specs.declared.events.Stepped.TheVariants.{Moved, Busy, Finished}
use Rattle.rl_rank.specs.Running.{LockAt}
use Rattle.rl_rank.specs.declared.card_state.CardState.{CardState}
use Rattle.rl_rank.specs.declared.card_state.CardState.TheVariants.{Free, InCard, Loaded, ToLeave}
use Rattle.rl_rank.specs.declared.effect.Effect.{Effect}
use Rattle.rl_rank.specs.declared.effect.Effect.TheVariants.{Work, Stay, Learn}
use Rattle.rl_rank.specs.declared.whole.WholeView.{WholeView}
use Rattle.rl_rank.specs.Split.{skips, effect_at, answer_of, plan_home}
use Rattle.rl_rank.specs.Whole.{shifted_answer, IsAnswerShiftable, effect_turned, after_of}
use Rattle.rl_work.specs.Ways.{Worked}

-- while an act goes on, the answer is Moved, or Busy with the home of its word and the holder that the Take found
first_stays : (a : Act) (home got : ℕ) (b z : Bool) (c : CardState) (s : Stepped) →
    (if b then (if z then Stay InCard Moved else Stay Free (Busy home (got - 1))) else Learn Free got (skips a got)) ≡ Stay c s →
    (s ≡ Moved) ⊎ (s ≡ Busy home (got - 1))
first_stays a home got true true c s e = inl cc
first_stays a home got true false c s e = inr cc
first_stays a home got false z c s e = cc

load_stays : (home got : ℕ) (b : Bool) (c : CardState) (s : Stepped) →
    (if b then Learn (ToLeave home) got true else Stay (Loaded got) Moved) ≡ Stay c s → s ≡ Moved
load_stays home got true c s e = cc
load_stays home got false c s e = cc

stays_as : (home : ℕ) (p : Option Act) (h : CardState) (got : ℕ) (c : CardState) (s : Stepped) → effect_at home p h got ≡ Stay c s →
    (s ≡ Moved) ⊎ (s ≡ Busy home (got - 1))
stays_as home p (ToLeave n) got c s e = inl cc
stays_as home None Free got c s e = cc
stays_as home None InCard got c s e = cc
stays_as home None (Loaded g) got c s e = cc
stays_as home (Some a) Free got c s e = first_stays a home got (by_card a) (got == 0) c s e
stays_as home (Some a) InCard got c s e = inl (load_stays home got (skips a got) c s e)
stays_as home (Some a) (Loaded g) got c s e = cc

-- such an answer names no word
pub stays_answer : (base home : ℕ) (p : Option Act) (h : CardState) (got : ℕ) (c : CardState) (s : Stepped) →
    effect_at home p h got ≡ Stay c s → shifted_answer base s ≡ s
stays_answer base home p h got c s e =
    ⊎_elim (λ q. subst (λ k. shifted_answer base k ≡ k) (sym q) refl) (λ q. subst (λ k. shifted_answer base k ≡ k) (sym q) refl) (stays_as home p h got c s e)

-- the word of an answer is that of the planned act
pub answer_shifts : (base : ℕ) (p : Option Act) (got : ℕ) (lost waits : Bool) → ((a : Act) → p ≡ Some a → base + word_of a < 2 ^ 32) →
    IsAnswerShiftable base (answer_of p got lost waits)
answer_shifts base None got lost waits k = tt
answer_shifts base (Some a) got true waits k = tt
answer_shifts base (Some a) got false true k = k a refl
answer_shifts base (Some a) got false false k = tt

-- no atom is answered by Finished
learnt_goes_on : (base : ℕ) (p : Option Act) (got : ℕ) (lost waits : Bool) → shifted_answer base (answer_of p got lost waits) ≡ Finished → ⊥
learnt_goes_on base None got lost waits e = cc
learnt_goes_on base (Some a) got true waits e = cc
learnt_goes_on base (Some a) got false true e = cc
learnt_goes_on base (Some a) got false false e = cc

effect_goes_on : {V K : Type 0} (L : LockAt V K) (x : WholeView V K) (w : Worked K) (got : ℕ) (t : Effect) → (t ≡ Work → w.stepped ≡ Finished → ⊥) →
    effect_at (plan_home L.table (L.table.plan x.side.view)) (L.table.plan x.side.view) x.side.card got ≡ t → (effect_turned L x w t).stepped ≡ Finished → ⊥
effect_goes_on L x w got Work works q e = works refl e
effect_goes_on L x w got (Stay c s) works q e =
    let same : s ≡ Finished = sym (stays_answer L.base _ _ _ got c s q) ∙ e in
    ⊎_elim (λ k. let bad : Moved ≡ Finished = sym k ∙ same in cc)
    (λ k. let bad : Busy (plan_home L.table (L.table.plan x.side.view)) (got - 1) ≡ Finished = sym k ∙ same in cc)
    (stays_as (plan_home L.table (L.table.plan x.side.view)) (L.table.plan x.side.view) x.side.card got c s q)
effect_goes_on L x w got (Learn c t lost) works q e = learnt_goes_on L.base (L.table.plan x.side.view) t lost (L.table.learn x.side.view t).waits e

pub atom_goes_on : {V K : Type 0} (L : LockAt V K) (x : WholeView V K) (got : ℕ) →
    (effect_at (plan_home L.table (L.table.plan x.side.view)) (L.table.plan x.side.view) x.side.card got ≡ Work →
    (L.work.after x.rank x.work got).stepped ≡ Finished → ⊥) → (after_of L x got).stepped ≡ Finished → ⊥
atom_goes_on L x got works e = effect_goes_on L x (L.work.after x.rank x.work got) got
    (effect_at (plan_home L.table (L.table.plan x.side.view)) (L.table.plan x.side.view) x.side.card got) works refl e
