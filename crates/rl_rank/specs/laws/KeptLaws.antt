-- The plan that a rank keeps in a card is that of its view, whatever atom is made.
use Rattle.std.specs.Prelude.{◌≡◌, ℕ, ◌-◌, ◌==◌, Bool, true, false, List, if◌then◌else◌, slice_get, slice_set, Option, Some, None, refl}
use Rattle.std.proofs.Common.{sym, ◌∙◌, ap, subst, ⊎_elim}
use Rattle.rl_word.specs.laws.Places.{get_set_cases}
use Rattle.rl_word.specs.declared.acts.Act.{Act}
use Rattle.rl_word.specs.Acts.{word_of, by_card}
use Rattle.rl_step.specs.declared.events.Stepped.TheVariants.{Moved, Busy}
use Rattle.rl_step.specs.declared.cores.Plan.{Plan}
use Rattle.rl_step.specs.Lock.{LockTable}
use Rattle.rl_rank.specs.declared.card_state.CardState.{CardState}
use Rattle.rl_rank.specs.declared.card_state.CardState.TheVariants.{Free, InCard, Loaded, ToLeave}
use Rattle.rl_rank.specs.declared.effect.Effect.TheVariants.{Work, Stay, Learn}
use Rattle.rl_rank.specs.declared.whole.WholeView.{WholeView}
use Rattle.rl_rank.specs.Split.{SideTurned, StandsStill, card_word, word_home, home_of, asked_act, card_in, card_after, turned_side, effect_at, atom_at, skips}
use Rattle.rl_rank.specs.Whole.{planned_in, plan_kept, IsKept}

-- in no card nothing has to be kept
pub kept_free : (c : CardState) (plan kept : Plan) → c ≡ Free → IsKept c plan kept
kept_free c plan kept free = subst (λ z. IsKept z plan kept) (sym free) tt

-- in a card the plan is
pub kept_in : (c : CardState) (plan kept : Plan) → c ≡ InCard → IsKept c plan kept → kept ≡ plan
kept_in c plan kept e k = subst (λ z. IsKept z plan kept) e k

pub kept_loaded : (c : CardState) (g : ℕ) (plan kept : Plan) → c ≡ Loaded g → IsKept c plan kept → kept ≡ plan
kept_loaded c g plan kept e k = subst (λ z. IsKept z plan kept) e k

module _ {V : Type 0} (T : LockTable V) where
  -- the plan of a view, by what the lock plans and by its card state
  abbrev pub plan_at : Option Act → CardState → Plan
  plan_at p c = record { act = asked_act p c; home = word_home T (card_word (asked_act p c) c) }

  -- by what is left of the lock's side
  abbrev IsKeptBy : SideTurned V → Plan → Plan → Type 0
  IsKeptBy s plan kept = IsKept s.side.card (plan_at (T.plan s.side.view) s.side.card) (plan_kept s.side.card plan kept)

  module _ (rank : ℕ) (v : V) (got : ℕ) (kept : Plan) where
    first_kept : (a : Act) (home : ℕ) (b z : Bool) → T.plan v ≡ Some a →
        IsKeptBy (turned_side T rank v (Some a) (if b then (if z then Stay InCard Moved else Stay Free (Busy home (got - 1))) else Learn
        Free got (skips a got)))
        (record { act = Some a; home = word_home T (if b then Some (word_of a) else None) }) kept
    first_kept a home true true pl = ap (λ p. plan_at p InCard) (sym pl)
    first_kept a home true false pl = tt
    first_kept a home false z pl = tt

    load_kept : (a : Act) (home : ℕ) (b : Bool) → T.plan v ≡ Some a → IsKept InCard (plan_at (T.plan v) InCard) kept →
        IsKeptBy (turned_side T rank v (Some a) (if b then Learn (ToLeave home) got true else Stay (Loaded got) Moved)) (plan_at (Some a) InCard) kept
    load_kept a home true pl k = tt
    load_kept a home false pl k = k ∙ ap (λ p. plan_at p InCard) pl ∙ ap (λ p. plan_at p (Loaded got)) (sym pl)

    -- behind an atom of the lock
    pub kept_turned : (p : Option Act) (c : CardState) → T.plan v ≡ p → IsKept c (plan_at (T.plan v) c) kept →
        IsKeptBy (card_after T rank v p c got) (plan_at p c) kept
    kept_turned p (ToLeave n) pl k = tt
    kept_turned None Free pl k = tt
    kept_turned None InCard pl k = tt
    kept_turned None (Loaded g) pl k = tt
    kept_turned (Some a) Free pl k = first_kept a (home_of T (word_of a)) (by_card a) (got == 0) pl
    kept_turned (Some a) InCard pl k = load_kept a (home_of T (word_of a)) (skips a got) pl k
    kept_turned (Some a) (Loaded g) pl k = tt

  -- of each rank after one rank's view was changed
  pub kept_after : {K : Type 0} (vs : List (WholeView V K)) (r : ℕ) (y : WholeView V K) →
      ((i : ℕ) (u : WholeView V K) → slice_get vs i ≡ Some u → IsKept u.side.card (planned_in T u) u.kept) →
      IsKept y.side.card (planned_in T y) y.kept → (i : ℕ) (u : WholeView V K) → slice_get (slice_set vs r y) i ≡ Some u →
      IsKept u.side.card (planned_in T u) u.kept
  kept_after vs r y keeps mine i u q =
      ⊎_elim (λ p. subst (λ (z : WholeView V _). IsKept z.side.card (planned_in T z) z.kept) (sym p.1) mine) (λ p. keeps i u p.1) (get_set_cases vs r i y u q)

  -- a rank in a card is in that of the home that it keeps
  home_in : (ws : List ℕ) (p : Option Act) → StandsStill ws p InCard → Some (plan_at p InCard).home ≡ card_in T p InCard
  home_in ws None s = absurd s
  home_in ws (Some a) s = refl

  home_loaded : (ws : List ℕ) (p : Option Act) (g : ℕ) → StandsStill ws p (Loaded g) → Some (plan_at p (Loaded g)).home ≡ card_in T p (Loaded g)
  home_loaded ws None g s = absurd s
  home_loaded ws (Some a) g s = refl

  pub node_in : (ws : List ℕ) (v : V) (c : CardState) (kept : Plan) → c ≡ InCard → IsKept c (plan_at (T.plan v) c) kept →
      StandsStill ws (T.plan v) c → Some kept.home ≡ card_in T (T.plan v) c
  node_in ws v c kept e k s =
      ap (λ z. Some z.home) (kept_in c (plan_at (T.plan v) c) kept e k) ∙ ap (λ z. Some (plan_at (T.plan v) z).home) e
      ∙ home_in ws (T.plan v) (subst (StandsStill ws (T.plan v)) e s) ∙ ap (card_in T (T.plan v)) (sym e)

  pub node_loaded : (ws : List ℕ) (v : V) (c : CardState) (kept : Plan) (g : ℕ) → c ≡ Loaded g → IsKept c (plan_at (T.plan v) c) kept →
      StandsStill ws (T.plan v) c → Some kept.home ≡ card_in T (T.plan v) c
  node_loaded ws v c kept g e k s =
      ap (λ z. Some z.home) (kept_loaded c g (plan_at (T.plan v) c) kept e k) ∙ ap (λ z. Some (plan_at (T.plan v) z).home) e
      ∙ home_loaded ws (T.plan v) g (subst (StandsStill ws (T.plan v)) e s) ∙ ap (card_in T (T.plan v)) (sym e)

  -- and it has an act to go on with
  asks_in : (ws : List ℕ) (p : Option Act) (home : ℕ) → StandsStill ws p InCard → atom_at home p InCard ≡ None → ⊥
  asks_in ws None home s e = absurd s
  asks_in ws (Some a) home s e = cc

  asks_loaded : (ws : List ℕ) (p : Option Act) (g home : ℕ) → StandsStill ws p (Loaded g) → atom_at home p (Loaded g) ≡ None → ⊥
  asks_loaded ws None g home s e = absurd s
  asks_loaded ws (Some a) g home s e = cc

  pub acts_in : (ws : List ℕ) (v : V) (c : CardState) (kept : Plan) → c ≡ InCard → IsKept c (plan_at (T.plan v) c) kept →
      StandsStill ws (T.plan v) c → atom_at kept.home kept.act InCard ≡ None → ⊥
  acts_in ws v c kept e k s n =
      asks_in ws (T.plan v) (plan_at (T.plan v) InCard).home (subst (StandsStill ws (T.plan v)) e s)
      (ap (λ (p : Plan). atom_at p.home p.act InCard) (sym (kept_in c (plan_at (T.plan v) c) kept e k ∙ ap (plan_at (T.plan v)) e)) ∙ n)

  pub acts_loaded : (ws : List ℕ) (v : V) (c : CardState) (kept : Plan) (g : ℕ) → c ≡ Loaded g → IsKept c (plan_at (T.plan v) c) kept →
      StandsStill ws (T.plan v) c → atom_at kept.home kept.act (Loaded g) ≡ None → ⊥
  acts_loaded ws v c kept g e k s n =
      asks_loaded ws (T.plan v) g (plan_at (T.plan v) (Loaded g)).home (subst (StandsStill ws (T.plan v)) e s)
      (ap (λ (p : Plan). atom_at p.home p.act (Loaded g)) (sym (kept_loaded c g (plan_at (T.plan v) c) kept e k ∙ ap (plan_at (T.plan v)) e)) ∙ n)

  -- whose plan has no act is in no card, or about to leave one
  pub free_without : (ws : List ℕ) (p : Option Act) (c : CardState) → StandsStill ws p c → asked_act p c ≡ None →
      ((n : ℕ) → c ≡ ToLeave n → ⊥) → (c ≡ Free) × (p ≡ None)
  free_without ws p Free s e stays = (refl, e)
  free_without ws None InCard s e stays = absurd s
  free_without ws None (Loaded g) s e stays = absurd s
  free_without ws (Some a) InCard s e stays = cc
  free_without ws (Some a) (Loaded g) s e stays = cc
  free_without ws p (ToLeave n) s e stays = absurd (stays n refl)

-- the first atom of an act is none of the work, and where it is learnt its rank is in no card
pub first_works : (a : Act) (home got : ℕ) (b z : Bool) →
    (if b then (if z then Stay InCard Moved else Stay Free (Busy home (got - 1))) else Learn Free got (skips a got)) ≡ Work → ⊥
first_works a home got true true e = cc
first_works a home got true false e = cc
first_works a home got false z e = cc

first_hand : (a : Act) (home got : ℕ) (b z : Bool) (hand : CardState) (t : ℕ) (lost : Bool) →
    (if b then (if z then Stay InCard Moved else Stay Free (Busy home (got - 1))) else Learn Free got (skips a got)) ≡ Learn hand t lost → hand ≡ Free
first_hand a home got true true hand t lost e = cc
first_hand a home got true false hand t lost e = cc
first_hand a home got false z hand t lost e = cc

pub works_none : (home : ℕ) (p : Option Act) (got : ℕ) → effect_at home p Free got ≡ Work → p ≡ None
works_none home None got e = refl
works_none home (Some a) got e = absurd (first_works a home got (by_card a) (got == 0) e)

pub learns_free : (home : ℕ) (p : Option Act) (got : ℕ) (hand : CardState) (t : ℕ) (lost : Bool) → effect_at home p Free got ≡ Learn hand t lost →
    hand ≡ Free
learns_free home None got hand t lost e = cc
learns_free home (Some a) got hand t lost e = first_hand a home got (by_card a) (got == 0) hand t lost e

-- a rank that keeps its plan goes on keeping it
pub same_kept : (c : CardState) (plan : Plan) → plan ≡ plan_kept c plan plan
same_kept Free plan = refl
same_kept InCard plan = refl
same_kept (Loaded g) plan = refl
same_kept (ToLeave n) plan = refl

-- an atom of the work is made in no card
load_works : (home got : ℕ) (b : Bool) → (if b then Learn (ToLeave home) got true else Stay (Loaded got) Moved) ≡ Work → InCard ≡ Free
load_works home got true e = cc
load_works home got false e = cc

pub works_free : (home : ℕ) (ws : List ℕ) (p : Option Act) (c : CardState) (got : ℕ) → StandsStill ws p c → effect_at home p c got ≡ Work → c ≡ Free
works_free home ws p (ToLeave n) got s e = cc
works_free home ws p Free got s e = refl
works_free home ws None InCard got s e = absurd s
works_free home ws None (Loaded g) got s e = absurd s
works_free home ws (Some a) InCard got s e = load_works home got (skips a got) e
works_free home ws (Some a) (Loaded g) got s e = cc

-- where something is learnt a rank keeps what it kept
module _ (plan kept : Plan) where
  first_learnt : (a : Act) (home got : ℕ) (b z : Bool) (hand : CardState) (t : ℕ) (lost : Bool) →
      (if b then (if z then Stay InCard Moved else Stay Free (Busy home (got - 1))) else Learn Free got (skips a got)) ≡ Learn hand t lost →
      plan_kept hand plan kept ≡ kept
  first_learnt a home got true true hand t lost e = cc
  first_learnt a home got true false hand t lost e = cc
  first_learnt a home got false z hand t lost e = let is : hand ≡ Free = cc in ap (λ h. plan_kept h plan kept) is

  load_learnt : (home got : ℕ) (b : Bool) (hand : CardState) (t : ℕ) (lost : Bool) →
      (if b then Learn (ToLeave home) got true else Stay (Loaded got) Moved) ≡ Learn hand t lost → plan_kept hand plan kept ≡ kept
  load_learnt home got true hand t lost e = let is : hand ≡ ToLeave home = cc in ap (λ h. plan_kept h plan kept) is
  load_learnt home got false hand t lost e = cc

  pub learnt_keeps : (home : ℕ) (p : Option Act) (c : CardState) (got : ℕ) (hand : CardState) (t : ℕ) (lost : Bool) →
      effect_at home p c got ≡ Learn hand t lost → plan_kept hand plan kept ≡ kept
  learnt_keeps home p (ToLeave n) got hand t lost e = cc
  learnt_keeps home None Free got hand t lost e = cc
  learnt_keeps home None InCard got hand t lost e = cc
  learnt_keeps home None (Loaded g) got hand t lost e = cc
  learnt_keeps home (Some a) Free got hand t lost e = first_learnt a home got (by_card a) (got == 0) hand t lost e
  learnt_keeps home (Some a) InCard got hand t lost e = load_learnt home got (skips a got) hand t lost e
  learnt_keeps home (Some a) (Loaded g) got hand t lost e = let is : hand ≡ ToLeave home = cc in ap (λ h. plan_kept h plan kept) is
