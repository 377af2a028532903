-- What stands before the lock's words only holders of the lock touch; each touch is told, and nothing else is told as one.
use Rattle.std.specs.Prelude.{◌≡◌, ◌≢◌, ◌<◌, ℕ, Bool, true, false, List, [], ◌∷◌, map, slice_get, Option, Some, None, is_some, refl}
use Rattle.std.proofs.Common.{sym, ◌∙◌, ap, subst, inl, inr, ⊎_elim, arith}
use Rattle.rl_word.specs.Acts.{Layout}
use Rattle.rl_word.specs.declared.acts.Atom.{Atom}
use Rattle.rl_word.specs.declared.acts.Atom.TheVariants as atom
use Rattle.rl_model.specs.declared.call.Call.{Call}
use Rattle.rl_step.specs.declared.events.Event.{Event}
use Rattle.rl_step.specs.declared.events.Event.TheVariants.{Join, Announce, Pass, Settle, Touch, EnterW, EnterR, LeaveW, LeaveR}
use Rattle.rl_step.specs.declared.events.Standing.{Standing}
use Rattle.rl_step.specs.declared.events.Standing.TheVariants.{Out, Asking, Writer, Reader, Leaving}
use Rattle.rl_step.specs.Lock.{Deed, IsHolder, Shift, holds_only, learnt, Acts, MayLearn}
use Rattle.rl_step.specs.Do.{TheWindow, do_got}
use Rattle.rl_step.specs.Core.{Turned, MayGet}
use Rattle.rl_work.specs.declared.follow.Follow.{Follow}
use Rattle.rl_work.specs.declared.follow.Follow.TheVariants.{On, Ask, Over}
use Rattle.rl_site.specs.Site.{lock_base}
use Rattle.rl_work.specs.Ways.{WorkTable, Works, IsWorkAtom, IsFrontAtom, GoesOnAt, TouchesAs, TellsTouch}
use Rattle.rl_core.specs.Touches.{touches_of, IsGuarded}
use Rattle.rl_rank.specs.declared.effect.Effect.{Effect}
use Rattle.rl_rank.specs.declared.effect.Effect.TheVariants.{Work, Stay, Learn}
use Rattle.rl_rank.specs.declared.whole.WholeView.{WholeView}
use Rattle.rl_rank.specs.Running.{LockAt, Goods, BothLaws}
use Rattle.rl_rank.specs.WholeShards.{stand, standing_while, stand_on}
use Rattle.rl_rank.specs.Split.{effect_at, plan_home}
use Rattle.rl_rank.specs.laws.Bridge.{is_work, no_work}
use Rattle.rl_rank.specs.laws.Changes.{shift_cases}
use Rattle.rl_rank.specs.Whole.{shifted, work_side, touch_by, departure_by, work_events, next_of, after_of, effect_turned, whole_table, Good}
use Rattle.rl_rank.specs.laws.WholeLaws.{next_either, after_work, work_at, works_at}
use Rattle.rl_rank.specs.laws.WholeOwes.{may_learn}

-- the events of a lock speak of no touch where those of holders don't
touches_held : (es : List Event) → touches_of (holds_only es) ≡ touches_of es
touches_held [] = refl
touches_held (Join q m ∷ es) = touches_held es
touches_held (Announce c ∷ es) = touches_held es
touches_held (Pass q m ∷ es) = touches_held es
touches_held (Settle q m ∷ es) = touches_held es
touches_held (Touch k w ∷ es) = ap (λ t. Touch k w ∷ t) (touches_held es)
touches_held (EnterW k ∷ es) = touches_held es
touches_held (EnterR k ∷ es) = touches_held es
touches_held (LeaveW k ∷ es) = touches_held es
touches_held (LeaveR k ∷ es) = touches_held es

-- so an act of the lock is no touch
shift_quiet : (r : ℕ) (old st : Standing) (es : List Event) → Shift r old st (holds_only es) → touches_of es ≡ []
shift_quiet r old st es h =
    let quiet : (hs : List Event) → touches_of hs ≡ [] → holds_only es ≡ hs → touches_of es ≡ [] = λ hs none e. sym (touches_held es)
    ∙ ap touches_of e ∙ none in
    shift_cases r (holds_only es) (λ o s. touches_of es ≡ []) (quiet [] refl) (quiet (EnterW r ∷ []) refl) (quiet (EnterR r ∷ []) refl)
    (quiet [] refl) (quiet [] refl) old st h

-- an atom of the work is the touch that it is told as
depart_quiet : (r : ℕ) (st : Standing) (follow : Follow) → touches_of (departure_by r st follow) ≡ []
depart_quiet r st On = refl
depart_quiet r st (Ask m) = refl
depart_quiet r Out Over = refl
depart_quiet r Asking Over = refl
depart_quiet r Writer Over = refl
depart_quiet r Reader Over = refl
depart_quiet r Leaving Over = refl

work_touches : (r : ℕ) (touch : Option Bool) (st : Standing) (follow : Follow) → touches_of (work_events r touch st follow) ≡ touch_by r touch
work_touches r None st follow = depart_quiet r st follow
work_touches r (Some w) st follow = ap (λ t. Touch r w ∷ t) (depart_quiet r st follow)

-- a rank that is out touches nothing
out_none : (touch : Option Bool) (st : Standing) → TouchesAs touch st → st ≡ Out → touch ≡ None
out_none None st fits out = refl
out_none (Some false) st fits out = absurd (subst IsHolder out fits)
out_none (Some true) st fits out = absurd (cc)

not_some : (touch : Option Bool) → (touch ≢ None → ⊥) → touch ≡ None
not_some None never = refl
not_some (Some w) never = absurd (never (λ e. cc))

-- an atom of the lock names a word of the lock
lock_guarded : (base low r : ℕ) → base ≡ low → (b : Atom) (st : Standing) (calls : List Call) (es : List Event) → touches_of es ≡ [] →
    IsGuarded low r (shifted base b) st calls es
lock_guarded base low r same (atom.Load w) st calls es quiet = (λ under. absurd (omega arith), λ past. quiet)
lock_guarded base low r same (atom.Store w v) st calls es quiet = (λ under. absurd (omega arith), λ past. quiet)
lock_guarded base low r same (atom.LocalCas w old new) st calls es quiet = (omega arith, quiet)
lock_guarded base low r same (atom.Take n) st calls es quiet = quiet
lock_guarded base low r same (atom.CardLoad w) st calls es quiet = (omega arith, quiet)
lock_guarded base low r same (atom.CardStore w v) st calls es quiet = (omega arith, quiet)
lock_guarded base low r same (atom.Leave n) st calls es quiet = quiet

-- a holder stands on the shard as it does at the lock
holds_so : (st : Standing) (b : Bool) → IsHolder st → standing_while st b ≡ st
holds_so Out b h = absurd h
holds_so Asking b h = absurd h
holds_so Writer b h = refl
holds_so Reader b h = refl
holds_so Leaving b h = absurd h

-- and a rank that is out of the lock and goes on is asking
out_asks : (st : Standing) (b : Bool) (next : Option Atom) → GoesOnAt st b next → is_some next ≡ true → st ≡ Out → standing_while st b ≡ Asking
out_asks Out b next goes some e = ap (standing_while Out) (sym goes ∙ some)
out_asks Asking b next goes some e = refl
out_asks Writer b next goes some e = absurd (cc)
out_asks Reader b next goes some e = absurd (cc)
out_asks Leaving b next goes some e = absurd (cc)

-- an atom of the work is told as its touch says
work_guarded : {K : Type 0} (T : WorkTable K) (base r : ℕ) (at : Atom) (st on : Standing) (calls : List Call) (touch : Option Bool)
    (follow : Follow) → IsWorkAtom T at → (IsHolder st → on ≡ st) → (st ≡ Out → on ≡ Asking) →
    TellsTouch base at st calls touch → TouchesAs touch st → (touch ≢ None → IsFrontAtom base at) → IsGuarded base r at on calls (work_events r touch st follow)
work_guarded T base r (atom.Load w) st on calls touch follow plain holds out told fits front = (
  λ under. ⊎_elim
      (λ reads.
      let holder : IsHolder st = subst (λ k. TouchesAs k st) reads fits in
      inl (subst IsHolder (sym (holds holder)) holder, work_touches r touch st follow ∙ ap (touch_by r) reads))
      (λ q. inr (out q.0, q.1, work_touches r touch st follow ∙ ap (touch_by r) (out_none touch st fits q.0)))
      (told under),
  λ past. work_touches r touch st follow ∙ ap (touch_by r) (not_some touch (λ ne. let under : w < base = front ne in omega arith)),
)
work_guarded T base r (atom.Store w v) st on calls touch follow plain holds out told fits front = (
  λ under.
      let writes : touch ≡ Some true = told under in
      let writer : st ≡ Writer = subst (λ k. TouchesAs k st) writes fits in
      (holds (subst IsHolder (sym writer) tt) ∙ writer, work_touches r touch st follow ∙ ap (touch_by r) writes),
  λ past. work_touches r touch st follow ∙ ap (touch_by r) (not_some touch (λ ne. let under : w < base = front ne in omega arith)),
)
work_guarded T base r (atom.LocalCas w old new) st on calls touch follow plain holds out told fits front = absurd plain
work_guarded T base r (atom.Take n) st on calls touch follow plain holds out told fits front = absurd plain
work_guarded T base r (atom.CardLoad w) st on calls touch follow plain holds out told fits front = absurd plain
work_guarded T base r (atom.CardStore w v) st on calls touch follow plain holds out told fits front = absurd plain
work_guarded T base r (atom.Leave n) st on calls touch follow plain holds out told fits front = absurd plain

module _ (V K : Type 0) (L : LockAt V K) (good : Goods V K) (further : List Event → List Deed → Type 0) (layout : Layout)
    (laws : BothLaws L good further layout) (home : ℕ) where
  -- an atom of the lock comes with no touch

  lock_quiet : (h : TheWindow) (vs : List (WholeView V K)) (r : ℕ) (x : WholeView V K) (at : Atom) (g : Good L good layout h vs) →
      slice_get vs r ≡ Some x → next_of L x ≡ Some at → (t : Effect) →
      effect_at (plan_home L.table (L.table.plan x.side.view)) (L.table.plan x.side.view) x.side.card (do_got at h.words h.cards) ≡ t → is_work t ≡ false →
      touches_of (effect_turned L x (L.work.after x.rank x.work (do_got at h.words h.cards)) t).events ≡ []
  unfolding may_learn
  lock_quiet h vs r x at g has e Work q calm = absurd (cc)
  lock_quiet h vs r x at g has e (Stay hand answer) q calm = refl
  lock_quiet h vs r x at g has e (Learn hand told' lost) q calm =
      let m : MayGet (whole_table L home) (Good L good layout) x (do_got at h.words h.cards) =
      record { held = h; views = vs; rank = r; atom = at; plans = record { is_ruled = g; has = has; planned = e }; gives = refl } in
      let may : MayLearn L.table good.lock x.side.view told' =
      may_learn V K L good further layout laws home x (do_got at h.words h.cards) hand told' lost m q in
      let acts : Acts L.table good.lock may.state r x.side.view may.act = record { is_good = may.is_good; has = may.has; planned = may.planned } in
      subst (λ k. touches_of (L.table.learn x.side.view k).events ≡ []) (sym may.gives)
      (shift_quiet r _ _ (learnt L.table may.state x.side.view may.act).events (laws.lock.shifts may.state r x.side.view may.act acts))

  -- so each atom of a rank is
  pub guarded : (h : TheWindow) (vs : List (WholeView V K)) (r : ℕ) (x : WholeView V K) (at : Atom) → Good L good layout h vs →
      slice_get vs r ≡ Some x → next_of L x ≡ Some at →
      IsGuarded (lock_base L.work.site) r at (stand_on L x) (L.work.calls x.work) (after_of L x (do_got at h.words h.cards)).events
  guarded h vs r x at g has e =
      let got : ℕ = do_got at h.words h.cards in
      let ef : Effect = effect_at (plan_home L.table (L.table.plan x.side.view)) (L.table.plan x.side.view) x.side.card got in
      ⊎_elim
      (λ q.
      let calm : is_work ef ≡ false = no_work (plan_home L.table (L.table.plan x.side.view)) (L.table.plan x.side.view) x.side.card got q.0 q.1 in
      subst (λ z. IsGuarded (lock_base L.work.site) r z (stand_on L x) (L.work.calls x.work) (after_of L x (do_got at h.words h.cards)).events) q.2
      (lock_guarded L.base (lock_base L.work.site) r g.base_is q.0 (stand_on L x) (L.work.calls x.work)
      (after_of L x (do_got at h.words h.cards)).events (lock_quiet h vs r x at g has e ef refl calm)))
      (λ q.
      let works : Works L.work good.work h.words (map (work_side L.table) vs) r (work_side L.table x) at =
      works_at V K L good further layout laws home h vs g r x has at q.1 q.2 in
      let goes : GoesOnAt (stand L.table x) (L.work.is_open x.work) (L.work.next r x.work) =
      laws.work.goes_on h.words (map (work_side L.table) vs) r (work_side L.table x)
      (work_at V K L good further layout laws home h vs g r x has) in
      let some : is_some (L.work.next r x.work) ≡ true = ap is_some works.planned in
      subst (λ (t : Turned (WholeView V K)). IsGuarded (lock_base L.work.site) r at (stand_on L x) (L.work.calls x.work) t.events)
      (sym (after_work V K L good further layout laws home h vs g r x has q.0 got))
      (subst (λ n. IsGuarded (lock_base L.work.site) r at (stand_on L x) (L.work.calls x.work)
      (work_events n (L.work.touch x.work) (stand L.table x) (L.work.after x.rank x.work got).follow)) (sym (g.own r x has))
      (work_guarded L.work (lock_base L.work.site) r at (stand L.table x) (stand_on L x) (L.work.calls x.work) (L.work.touch x.work)
      (L.work.after x.rank x.work got).follow
      (laws.work.plain h.words (map (work_side L.table) vs) r (work_side L.table x) at works)
      (holds_so (stand L.table x) (L.work.is_open x.work))
      (out_asks (stand L.table x) (L.work.is_open x.work) (L.work.next r x.work) goes some)
      (laws.work.tells h.words (map (work_side L.table) vs) r (work_side L.table x) at works)
      (laws.work.touches h.words (map (work_side L.table) vs) r (work_side L.table x) at works)
      (laws.work.fronts h.words (map (work_side L.table) vs) r (work_side L.table x) at works))))
      (next_either V K L good further layout laws home x at e)
