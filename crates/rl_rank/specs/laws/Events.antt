-- The events of an atom stand in the order of their kinds, and name what the lock has.
use Rattle.std.specs.Prelude.{◌≡◌, ℕ, ◌≤◌, Bool, List, [], ◌∷◌, ◌++◌, length, slice_get, Option, Some, None, refl}
use Rattle.std.proofs.Common.{sym, subst, arith}
use Rattle.rl_word.specs.Acts.{Layout}
use Rattle.rl_word.specs.declared.acts.Atom.{Atom}
use Rattle.rl_step.specs.declared.events.Event.{Event}
use Rattle.rl_step.specs.declared.events.Standing.{Standing}
use Rattle.rl_step.specs.declared.events.Standing.TheVariants.{Out, Asking, Writer, Reader, Leaving}
use Rattle.rl_step.specs.Lock.{Deed, InOrder, AllNamed, Acts, MayLearn}
use Rattle.rl_step.specs.Queues.{QueueOf}
use Rattle.rl_step.specs.Core.{MayGet}
use Rattle.rl_step.specs.Do.{TheWindow, do_got}
use Rattle.rl_work.specs.declared.follow.Follow.{Follow}
use Rattle.rl_work.specs.declared.follow.Follow.TheVariants.{On, Ask, Over}
use Rattle.rl_work.specs.Ways.{Worked}
use Rattle.rl_rank.specs.declared.effect.Effect.{Effect}
use Rattle.rl_rank.specs.declared.effect.Effect.TheVariants.{Work, Stay, Learn}
use Rattle.rl_rank.specs.declared.whole.WholeView.{WholeView}
use Rattle.rl_rank.specs.Running.{LockAt, Goods, BothLaws}
use Rattle.rl_rank.specs.Split.{effect_at, plan_home}
use Rattle.rl_rank.specs.Whole.{work_events, next_of, after_of, whole_table, effect_turned, Good}
use Rattle.rl_rank.specs.laws.WholeOwes.{may_learn}

-- events that stand in order, no more than an atom has, and name what is there
pub record AreEvents (queues : List QueueOf) (cohort : ℕ → Bool) (es : List Event) : Type 0 where
  pub order : InOrder es
  pub few : length es ≤ 8
  pub named : AllNamed queues cohort es

pub all_named : (queues : List QueueOf) (cohort : ℕ → Bool) (t es : List Event) → AllNamed queues cohort t → AllNamed queues cohort es →
    AllNamed queues cohort (t ++ es)
all_named queues cohort [] es a b = b
all_named queues cohort (e ∷ t) es a b = (a.0, all_named queues cohort t es a.1 b)

work_are : (queues : List QueueOf) (cohort : ℕ → Bool) (r : ℕ) (touch : Option Bool) (st : Standing) (follow : Follow) →
    AreEvents queues cohort (work_events r touch st follow)
work_are queues cohort r None st On = record { order = tt; few = omega arith; named = tt }
work_are queues cohort r None st (Ask m) = record { order = tt; few = omega arith; named = tt }
work_are queues cohort r None Out Over = record { order = tt; few = omega arith; named = tt }
work_are queues cohort r None Asking Over = record { order = tt; few = omega arith; named = tt }
work_are queues cohort r None Writer Over = record { order = tt; few = omega arith; named = (tt, tt) }
work_are queues cohort r None Reader Over = record { order = tt; few = omega arith; named = (tt, tt) }
work_are queues cohort r None Leaving Over = record { order = tt; few = omega arith; named = tt }
work_are queues cohort r (Some write) st On = record { order = tt; few = omega arith; named = (tt, tt) }
work_are queues cohort r (Some write) st (Ask m) = record { order = tt; few = omega arith; named = (tt, tt) }
work_are queues cohort r (Some write) Out Over = record { order = tt; few = omega arith; named = (tt, tt) }
work_are queues cohort r (Some write) Asking Over = record { order = tt; few = omega arith; named = (tt, tt) }
work_are queues cohort r (Some write) Writer Over = record { order = (omega arith, tt); few = omega arith; named = (tt, (tt, tt)) }
work_are queues cohort r (Some write) Reader Over = record { order = (omega arith, tt); few = omega arith; named = (tt, (tt, tt)) }
work_are queues cohort r (Some write) Leaving Over = record { order = tt; few = omega arith; named = (tt, tt) }

module _ (V K : Type 0) (L : LockAt V K) (good : Goods V K) (further : List Event → List Deed → Type 0) (layout : Layout)
    (laws : BothLaws L good further layout) (home : ℕ)
    (h : TheWindow) (vs : List (WholeView V K)) (r : ℕ) (x : WholeView V K) (at : Atom) (g : Good L good layout h vs)
    (has : slice_get vs r ≡ Some x) (e : next_of L x ≡ Some at) where
  effect_events : (w : Worked K) (t : Effect) → effect_at (plan_home L.table (L.table.plan x.side.view)) (L.table.plan x.side.view)
      x.side.card (do_got at h.words h.cards) ≡ t →
      AreEvents L.table.queues L.table.cohort (effect_turned L x w t).events
  unfolding may_learn
  effect_events w Work q = work_are L.table.queues L.table.cohort x.rank (L.work.touch x.work) (L.table.standing x.side.view) w.follow
  effect_events w (Stay hand answer) q = record { order = tt; few = omega arith; named = tt }
  effect_events w (Learn hand told' lost) q =
      let m : MayGet (whole_table L home) (Good L good layout) x (do_got at h.words h.cards) =
      record { held = h; views = vs; rank = r; atom = at; plans = record { is_ruled = g; has = has; planned = e }; gives = refl } in
      let may : MayLearn L.table good.lock x.side.view told' =
      may_learn V K L good further layout laws home x (do_got at h.words h.cards) hand told' lost m q in
      let acts : Acts L.table good.lock may.state r x.side.view may.act = record { is_good = may.is_good; has = may.has; planned = may.planned } in
      subst (λ k. AreEvents L.table.queues L.table.cohort (L.table.learn x.side.view k).events) (sym may.gives)
      (record {
        order = (laws.lock.orders may.state r x.side.view may.act acts).0;
        few =
            (laws.lock.orders may.state r x.side.view may.act acts).1;
        named = laws.lock.names may.state r x.side.view may.act acts;
      })

  pub atom_events : AreEvents L.table.queues L.table.cohort (after_of L x (do_got at h.words h.cards)).events
  atom_events = effect_events (L.work.after x.rank x.work (do_got at h.words h.cards))
      (effect_at (plan_home L.table (L.table.plan x.side.view)) (L.table.plan x.side.view) x.side.card (do_got at h.words h.cards)) refl
