-- What an atom does to its rank's standing, and that at most one rank stands as writer.
use Rattle.std.specs.Prelude.{◌≡◌, ℕ, List, [], map, slice_get, Option, Some, None, refl}
use Rattle.std.proofs.Common.{sym, subst}
use Rattle.rl_word.specs.laws.Places.{get_map, get_map_back, one_at}
use Rattle.rl_word.specs.Acts.{Layout}
use Rattle.rl_word.specs.declared.acts.Atom.{Atom}
use Rattle.rl_word.specs.declared.classes.Mode.{Mode}
use Rattle.rl_step.specs.declared.events.Event.{Event}
use Rattle.rl_step.specs.declared.events.Standing.{Standing}
use Rattle.rl_step.specs.declared.events.Standing.TheVariants.{Out, Writer, Reader}
use Rattle.rl_step.specs.Lock.{Deed, IsHolder, Acts, MayLearn}
use Rattle.rl_step.specs.Do.{TheWindow, do_got}
use Rattle.rl_step.specs.Core.{MayGet}
use Rattle.rl_work.specs.Ways.{AsksOut, TouchesAs}
use Rattle.rl_core.specs.Standings.{AloneIn}
use Rattle.rl_rank.specs.Running.{LockAt, Goods, BothLaws}
use Rattle.rl_rank.specs.declared.effect.Effect.{Effect}
use Rattle.rl_rank.specs.declared.effect.Effect.TheVariants.{Work, Stay, Learn}
use Rattle.rl_rank.specs.declared.whole.WholeView.{WholeView}
use Rattle.rl_rank.specs.Split.{lock_of, view_of, effect_at, plan_home}
use Rattle.rl_rank.specs.Opening.{asked_if}
use Rattle.rl_rank.specs.WholeShards.{stand}
use Rattle.rl_rank.specs.Whole.{side_of, work_side, split_of, followed, work_events, next_of, after_of, whole_table, effect_turned, Good}
use Rattle.rl_rank.specs.laws.WholeLaws.{followed_stands}
use Rattle.rl_rank.specs.laws.WholeOwes.{work_rests, work_made, work_asks, may_learn}
use Rattle.rl_rank.specs.laws.Changes.{Change, shift_change, change_refl, work_change}

module _ (V K : Type 0) (L : LockAt V K) (good : Goods V K) (further : List Event → List Deed → Type 0) (layout : Layout)
    (laws : BothLaws L good further layout) (home : ℕ) where
  -- what an atom does to its rank's standing

  change_effect : (h : TheWindow) (vs : List (WholeView V K)) (r : ℕ) (x : WholeView V K) (at : Atom) (g : Good L good layout h vs) →
      slice_get vs r ≡ Some x → next_of L x ≡ Some at → (t : Effect) →
      effect_at (plan_home L.table (L.table.plan x.side.view)) (L.table.plan x.side.view) x.side.card (do_got at h.words h.cards) ≡ t →
      Change r (stand L.table x) (stand L.table (effect_turned L x (L.work.after x.rank x.work (do_got at h.words h.cards)) t).view)
      (effect_turned L x (L.work.after x.rank x.work (do_got at h.words h.cards)) t).events
  unfolding may_learn
  change_effect h vs r x at g has e Work q =
      let got : ℕ = do_got at h.words h.cards in
      let m : MayGet (whole_table L home) (Good L good layout) x got =
      record { held = h; views = vs; rank = r; atom = at; plans = record { is_ruled = g; has = has; planned = e }; gives = refl } in
      let touches : TouchesAs (L.work.touch x.work) (stand L.table x) =
      laws.work.touches h.words (map (work_side L.table) vs) r (work_side L.table x) at
      (work_made V K L good further layout laws home x got m q) in
      let asks : AsksOut (L.work.after x.rank x.work got).follow (stand L.table x) = work_asks V K L good further layout laws home x got m q in
      subst (λ k. Change r (stand L.table x) (L.table.standing (followed L.table x.side.view (L.work.after x.rank x.work got).follow))
      (work_events k (L.work.touch x.work) (stand L.table x) (L.work.after x.rank x.work got).follow)) (sym (g.own r x has))
      (work_change r (stand L.table x) (L.work.touch x.work) (L.work.after x.rank x.work got).follow
      (L.table.standing (followed L.table x.side.view (L.work.after x.rank x.work got).follow))
      (work_rests V K L good further layout laws home x got m q) touches asks
      (followed_stands L.table good.lock further layout laws.lock x.side.view (L.work.after x.rank x.work got).follow asks))
  change_effect h vs r x at g has e (Stay hand answer) q = change_refl r (stand L.table x)
  change_effect h vs r x at g has e (Learn hand told' lost) q =
      let m : MayGet (whole_table L home) (Good L good layout) x (do_got at h.words h.cards) =
      record { held = h; views = vs; rank = r; atom = at; plans = record { is_ruled = g; has = has; planned = e }; gives = refl } in
      let may : MayLearn L.table good.lock x.side.view told' =
      may_learn V K L good further layout laws home x (do_got at h.words h.cards) hand told' lost m q in
      let acts : Acts L.table good.lock may.state r x.side.view may.act = record { is_good = may.is_good; has = may.has; planned = may.planned } in
      subst (λ k. Change r (stand L.table x) (L.table.standing (L.table.learn x.side.view k).view) (L.table.learn x.side.view k).events) (sym may.gives)
      (shift_change r _ _ _ (laws.lock.shifts may.state r x.side.view may.act acts))

  pub atom_change : (h : TheWindow) (vs : List (WholeView V K)) (r : ℕ) (x : WholeView V K) (at : Atom) (g : Good L good layout h vs) →
      slice_get vs r ≡ Some x → next_of L x ≡ Some at →
      Change r (stand L.table x) (stand L.table (after_of L x (do_got at h.words h.cards)).view) (after_of L x (do_got at h.words h.cards)).events
  atom_change h vs r x at g has e = change_effect h vs r x at g has e
      (effect_at (plan_home L.table (L.table.plan x.side.view)) (L.table.plan x.side.view) x.side.card (do_got at h.words h.cards)) refl

  -- at most one rank stands as writer
  pub alone_in : (h : TheWindow) (vs : List (WholeView V K)) → Good L good layout h vs → AloneIn (map (stand L.table) vs)
  alone_in h vs g =
      let find : (i : ℕ) (st : Standing) → slice_get (map (stand L.table) vs) i ≡ Some st → (v : V) ×
      (slice_get (map view_of (map side_of vs)) i ≡ Some v) × (L.table.standing v ≡ st) =
      λ i st e. let x = get_map_back (stand L.table) vs i st e in
      (x.0.side.view, get_map view_of (map side_of vs) i x.0.side (get_map side_of vs i x.0 x.1), x.2) in
      record {
        one = λ i j p q. let a = find i Writer p in let b = find j Writer q in
            laws.lock.excludes (lock_of (split_of L h vs g.modes g.past)) i j a.0 b.0 g.lock_part.lock a.1 b.1 a.2 (subst IsHolder (sym b.2) tt);
        none = λ i j p q. let a = find i Writer p in let b = find j Reader q in
            let same : i ≡ j = laws.lock.excludes (lock_of (split_of L h vs g.modes g.past)) i j a.0 b.0 g.lock_part.lock a.1 b.1 a.2
            (subst IsHolder (sym b.2) tt) in
            let clash : Writer ≡ Reader = one_at (map (stand L.table) vs) j Writer Reader
            (subst (λ k. slice_get (map (stand L.table) vs) k ≡ Some Writer) same p) q in cc;
      }

  -- where a rank that is out asks or opens, nothing of holders happens
  pub asked_change : (k : ℕ) (x : WholeView V K) (m : Option Mode) → stand L.table x ≡ Out → Change k Out (L.table.standing (asked_if L.table x.side.view m)) []
  asked_change k x None out = subst (λ z. Change k Out z []) (sym out) refl
  asked_change k x (Some m) out = subst (λ z. Change k Out z []) (sym (laws.lock.ask_asks x.side.view m out)) refl
