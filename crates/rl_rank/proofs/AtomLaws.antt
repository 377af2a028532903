-- What a rank's next atom is, and what it leaves of the rank's view, by where the rank stands and by the plan that is handed on.
use Rattle.std.specs.Prelude.{◌≡◌, ℕ, List, [], Bool, Option, Some, None}
use Rattle.std.proofs.Common.{ap, sym, ◌∙◌, subst}
use Rattle.rl_word.specs.Acts.{Layout}
use Rattle.rl_word.specs.declared.acts.Atom.{Atom}
use Rattle.rl_step.specs.declared.cores.Plan.{Plan}
use Rattle.rl_step.specs.declared.events.Event.{Event}
use Rattle.rl_step.specs.declared.events.Stepped.{Stepped}
use Rattle.rl_step.specs.Core.{MayGet, turned_with}
use Rattle.rl_step.specs.Lock.{Told, Deed, Rests, MayLearn}
use Rattle.rl_rank.specs.declared.card_state.CardState.{CardState}
use Rattle.rl_rank.specs.declared.card_state.CardState.TheVariants.{Free}
use Rattle.rl_rank.specs.declared.effect.Effect.{Effect}
use Rattle.rl_rank.specs.declared.effect.Effect.TheVariants.{Stay, Learn}
use Rattle.rl_rank.specs.declared.whole.WholeView.{WholeView}
use Rattle.rl_rank.specs.Running.{LockAt, Goods, BothLaws}
use Rattle.rl_rank.specs.Split.{HolderFits, card_atom, side_atom, plan_home, atom_at, effect_at, answer_of}
use Rattle.rl_rank.specs.Whole.{Good, IsAnswerShiftable, whole_table, next_of, after_of, effect_turned, planned_in, plan_kept}
use Rattle.rl_rank.specs.Whole.{lock_or_work, work_plan, shifted, shifted_answer}
use Rattle.rl_rank.specs.laws.HomeLaws.{act_atom, act_effect, act_holder, learnt_act}
use Rattle.rl_rank.specs.laws.AnswerLaws.{stays_answer}
use Rattle.rl_rank.specs.laws.KeptLaws.{plan_at, learnt_keeps}
use Rattle.rl_rank.specs.laws.Whole.{after_effect}
use Rattle.rl_rank.specs.laws.WholeEnding.{rests_next}
use Rattle.rl_rank.specs.laws.WholeOwes.{may_be, holder_fits, may_learn, answer_fits}

-- a view with its lock's side and what it keeps changed
abbrev pub with_side : {V K : Type 0} → WholeView V K → V → CardState → Plan → WholeView V K
with_side x v card kept = record { side = record { view = v; card = card }; kept = kept; rank = x.rank; work = x.work }

-- in no card, where nothing is planned: the plan of a rank that rests, and its next atom, which is its work's
module _ {V K : Type 0} (L : LockAt V K) (x : WholeView V K) (free : x.side.card ≡ Free) (none : L.table.plan x.side.view ≡ None) where
  pub none_planned : record { act = None; home = 0 } ≡ planned_in L.table x
  none_planned = sym (ap (λ p. plan_at L.table p x.side.card) none ∙ ap (plan_at L.table None) free)

  pub work_next : Rests (L.table.standing x.side.view) → L.work.next x.rank x.work ≡ next_of L x
  work_next rests =
      sym (ap (λ p. lock_or_work L.base (card_atom L.table p x.side.card) (work_plan (L.table.standing x.side.view) (L.work.next x.rank x.work))) none
      ∙ ap (λ c. lock_or_work L.base (card_atom L.table None c) (work_plan (L.table.standing x.side.view) (L.work.next x.rank x.work))) free
      ∙ rests_next (L.table.standing x.side.view) (L.work.next x.rank x.work) rests)

module _ {V K : Type 0} (L : LockAt V K) (x : WholeView V K) (here : CardState) (plan : Plan) (stands : x.side.card ≡ here)
    (planned : plan ≡ planned_in L.table x) where
  -- an atom of the lock is the one of its side
  pub lock_atom : (o : Option Atom) → o ≡ atom_at plan.home plan.act here → o ≡ side_atom L.table x.side
  lock_atom o is =
      is ∙ ap (atom_at plan.home plan.act) (sym stands) ∙ ap (λ p. atom_at p.home p.act x.side.card) planned
      ∙ act_atom L.table (L.table.plan x.side.view) x.side.card

  -- and then, shifted, the next one
  pub next_is : (at moved : Atom) → Some at ≡ atom_at plan.home plan.act here → moved ≡ shifted L.base at → Some moved ≡ next_of L x
  next_is at moved is same =
      ap (λ z. Some z) same
      ∙ ap (λ z. lock_or_work L.base z (work_plan (L.table.standing x.side.view) (L.work.next x.rank x.work))) (lock_atom (Some at) is)

  module _ (got : ℕ) where
    module _ (e : Effect) (found : e ≡ effect_at plan.home plan.act here got) where
      -- the effect is the table's
      pub the_effect : effect_at (plan_home L.table (L.table.plan x.side.view)) (L.table.plan x.side.view) x.side.card got ≡ e
      the_effect =
          sym (found ∙ ap (λ k. effect_at plan.home plan.act k got) (sym stands)
          ∙ ap (λ p. effect_at p.home p.act x.side.card got) planned ∙ act_effect L.table (L.table.plan x.side.view) x.side.card got)

      -- what the effect leaves is what the table says
      pub the_after : (t : Effect) → e ≡ t → effect_turned L x (L.work.after x.rank x.work got) t ≡ after_of L x got
      the_after t is = sym (after_effect L x got t (the_effect ∙ is))

      pub stays : (card : CardState) (answer : Stepped) (es : List Event) (kept : Plan) → e ≡ Stay card answer → es ≡ [] →
          kept ≡ plan_kept card plan x.kept → turned_with (with_side x x.side.view card kept) es answer ≡ after_of L x got
      stays card answer es kept is none keeps =
          ap (λ z. turned_with (with_side x x.side.view card kept) z answer) none
          ∙ ap (λ z. turned_with (with_side x x.side.view card z) [] answer) (keeps ∙ ap (λ p. plan_kept card p x.kept) planned)
          ∙ ap (turned_with (with_side x x.side.view card (plan_kept card (planned_in L.table x) x.kept)) [])
          (sym (stays_answer L.base _ _ _ got card answer (the_effect ∙ is)))
          ∙ the_after (Stay card answer) is

      module _ (card : CardState) (told : ℕ) (lost : Bool) (is : e ≡ Learn card told lost) where
        -- where something is learnt the answer is that of the view's act
        pub learnt_answer : (waits : Bool) (answer : Stepped) → answer ≡ answer_of plan.act told lost waits →
            answer ≡ answer_of (L.table.plan x.side.view) told lost waits
        learnt_answer waits answer same =
            same ∙ ap (λ p. answer_of p told lost waits)
            (ap (λ p. p.act) planned ∙ learnt_act _ (L.table.plan x.side.view) x.side.card got card told lost (the_effect ∙ is))

        pub learns : (learnt : Told V) (answer made : Stepped) → learnt ≡ L.table.learn x.side.view told →
            answer ≡ answer_of plan.act told lost learnt.waits → made ≡ shifted_answer L.base answer →
            turned_with (with_side x learnt.view card x.kept) learnt.events made ≡ after_of L x got
        learns learnt answer made learn same shift =
            let all = L.table.learn x.side.view told in
            ap (turned_with (with_side x learnt.view card x.kept) learnt.events)
            (shift ∙ ap (shifted_answer L.base) (learnt_answer learnt.waits answer same))
            ∙ ap (λ (z : Told V). turned_with (with_side x z.view card x.kept) z.events
            (shifted_answer L.base (answer_of (L.table.plan x.side.view) told lost z.waits))) learn
            ∙ ap (λ kept. turned_with (with_side x all.view card kept) all.events
            (shifted_answer L.base (answer_of (L.table.plan x.side.view) told lost all.waits)))
            (sym (learnt_keeps (planned_in L.table x) x.kept _ (L.table.plan x.side.view) x.side.card got card told lost (the_effect ∙ is)))
            ∙ the_after (Learn card told lost) is

    -- what the machine owes to the calls that are made for it
    module _ {good : Goods V K} {further : List Event → List Deed → Type 0} {layout : Layout} (laws : BothLaws L good further layout)
        (home : ℕ) (may : MayGet (whole_table L home) (Good L good layout) x got) where
      pub holder_there : HolderFits plan.act here got
      holder_there =
          subst (λ k. HolderFits plan.act k got) stands
          (subst (λ p. HolderFits p.act x.side.card got) (sym planned)
          (act_holder (L.table.plan x.side.view) x.side.card got (holder_fits V K L good further layout laws home x got may)))

      module _ (e : Effect) (found : e ≡ effect_at plan.home plan.act here got) (card : CardState) (told : ℕ) (lost : Bool)
          (is : e ≡ Learn card told lost) where
        pub learn_there : MayLearn L.table good.lock x.side.view told
        learn_there = may_learn V K L good further layout laws home x got card told lost may (the_effect e found ∙ is)

        pub answer_there : (waits : Bool) (answer : Stepped) → answer ≡ answer_of plan.act told lost waits → IsAnswerShiftable L.base answer
        answer_there waits answer same =
            subst (IsAnswerShiftable L.base) (sym (learnt_answer e found card told lost is waits answer same))
            (answer_fits V K L good further layout laws home x told lost waits (may_be V K L good further layout laws home x got may))
