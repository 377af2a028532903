-- What a rank's atom is in a good state: one of the lock, which leaves the rank's work as it is and the words that the work sees; or one of
-- its work. A rank that is out of the lock with its block open is in no card, and its next atom is one of its work.
use Rattle.std.specs.Prelude.{◌≡◌, ◌⊎◌, ℕ, true, false, List, map, slice_get, Some, None, refl}
use Rattle.std.proofs.Common.{sym, ◌∙◌, ap, subst, inl, inr, ⊎_elim}
use Rattle.rl_word.specs.laws.Places.{get_map}
use Rattle.rl_word.specs.Acts.{Layout}
use Rattle.rl_word.specs.declared.acts.Atom.{Atom}
use Rattle.rl_word.specs.declared.acts.Atom.TheVariants.{Leave}
use Rattle.rl_step.specs.declared.events.Event.{Event}
use Rattle.rl_step.specs.declared.events.Standing.TheVariants.{Out}
use Rattle.rl_step.specs.Do.{do_words, do_got}
use Rattle.rl_step.specs.Lock.{Deed, Rests}
use Rattle.rl_work.specs.Ways.{SameWork, IsSide, Works}
use Rattle.rl_rank.specs.declared.card_state.CardState.{CardState}
use Rattle.rl_rank.specs.declared.card_state.CardState.TheVariants.{Free, InCard, Loaded, ToLeave}
use Rattle.rl_rank.specs.declared.whole.WholeView.{WholeView}
use Rattle.rl_rank.specs.Running.{LockAt, Goods, BothLaws}
use Rattle.rl_rank.specs.Split.{lock_of, view_of, side_atom, card_atom}
use Rattle.rl_rank.specs.Whole.{side_of, work_side, split_of, work_plan, lock_or_work, next_of, after_of, work_turned}
use Rattle.rl_rank.specs.laws.WholeLaws.{next_either, after_lock, after_work, lock_low, work_at, works_at}
use Rattle.rl_rank.specs.laws.Bridge.{same_work}
use Rattle.rl_core.specs.Moments.{Moment}
use Rattle.rl_rank.specs.WholeShards.{stand, WholeGood}

module _ (V K : Type 0) (L : LockAt V K) (good : Goods V K) (further : List Event → List Deed → Type 0) (layout : Layout)
    (laws : BothLaws L good further layout) (home : ℕ)
    (m : Moment (WholeView V K)) (g : WholeGood L good layout m) (r : ℕ) (x : WholeView V K) (has : slice_get m.views r ≡ Some x) where
  pub side_at : IsSide L.work good.work m.held.words (map (work_side L.table) m.views) r (work_side L.table x)
  side_at = work_at V K L good further layout laws home m.held m.views g.rule r x has

  -- what an atom of the work leaves
  pub after_none : side_atom L.table x.side ≡ None → (got : ℕ) → after_of L x got ≡ work_turned L x (L.work.after r x.work got)
  after_none nothing got = after_work V K L good further layout laws home m.held m.views g.rule r x has nothing got
      ∙ ap (λ n. work_turned L x (L.work.after n x.work got)) (g.rule.own r x has)

  -- its next atom is one of its work
  pub record IsOutside : Type 0 where
    pub free : x.side.card ≡ Free
    pub nothing : side_atom L.table x.side ≡ None
    pub next : next_of L x ≡ L.work.next r x.work
    pub after : (got : ℕ) → after_of L x got ≡ work_turned L x (L.work.after r x.work got)

  pub outside : stand L.table x ≡ Out → L.work.is_open x.work ≡ true → IsOutside
  outside out busy =
      let plans : L.table.plan x.side.view ≡ None =
      (laws.lock.rests (lock_of (split_of L m.held m.views g.rule.modes g.rule.past)) r x.side.view g.rule.lock_part.lock
      (get_map view_of (map side_of m.views) r x.side (get_map side_of m.views r x has))).1 (subst Rests (sym out) tt) in
      let free : x.side.card ≡ Free = ⊎_elim (λ f. f) (λ shut. absurd (let clash : true ≡ false = sym busy ∙ shut in cc)) (g.done r x has out) in
      let nothing : side_atom L.table x.side ≡ None = ap (λ p. card_atom L.table p x.side.card) plans ∙ ap (card_atom L.table None) free in
      record {
        free = free;
        nothing = nothing;
        next = ap (λ o. lock_or_work L.base o (work_plan (stand L.table x) (L.work.next x.rank x.work))) nothing
            ∙ ap (λ st. work_plan st (L.work.next x.rank x.work)) out
            ∙ ap (λ n. L.work.next n x.work) (g.rule.own r x has);
        after = after_none nothing;
      }

  -- whoever rests at the lock makes an atom of its work next, or leaves the card that it is in
  by_card : (c : CardState) → (card_atom L.table None c ≡ None) ⊎ ((n : ℕ) × (card_atom L.table None c ≡ Some (Leave n)))
  by_card Free = inl refl
  by_card InCard = inl refl
  by_card (Loaded got) = inl refl
  by_card (ToLeave n) = inr (n, refl)

  pub resting : Rests (stand L.table x) → (side_atom L.table x.side ≡ None) ⊎ ((n : ℕ) × (next_of L x ≡ Some (Leave n)))
  resting rests =
      let plans : L.table.plan x.side.view ≡ None =
      (laws.lock.rests (lock_of (split_of L m.held m.views g.rule.modes g.rule.past)) r x.side.view g.rule.lock_part.lock
      (get_map view_of (map side_of m.views) r x.side (get_map side_of m.views r x has))).1 rests in
      let same : side_atom L.table x.side ≡ card_atom L.table None x.side.card = ap (λ p. card_atom L.table p x.side.card) plans in
      ⊎_elim
      (λ none. inl (same ∙ none))
      (λ q. inr (q.0, ap (λ o. lock_or_work L.base o (work_plan (stand L.table x) (L.work.next x.rank x.work))) (same ∙ q.1)))
      (by_card x.side.card)

  abbrev found : Atom → ℕ
  found at = do_got at m.held.words m.held.cards

  -- an atom of the lock
  pub record IsOfLock (at : Atom) : Type 0 where
    pub words : SameWork L.work m.held.words (do_words at m.held.words)
    pub same : (after_of L x (found at)).view.work ≡ x.work

  -- and one of the work
  pub record IsOfWork (at : Atom) : Type 0 where
    pub works : Works L.work good.work m.held.words (map (work_side L.table) m.views) r (work_side L.table x) at
    pub after : after_of L x (found at) ≡ work_turned L x (L.work.after r x.work (found at))

  pub each_atom : (at : Atom) → next_of L x ≡ Some at → IsOfLock at ⊎ IsOfWork at
  each_atom at e =
      ⊎_elim
      (λ q. inl (record {
        words = subst (λ z. SameWork L.work m.held.words (do_words z m.held.words)) q.2
            (same_work L g.rule.base_is g.rule.behind_is q.0 m.held.words
            (lock_low V K L good further layout laws home m.held m.views g.rule r x has q.0 q.1));
        same = sym (after_lock V K L good further layout laws home x q.0 at (found at) q.1).1;
      }))
      (λ q. inr (record {
        works = works_at V K L good further layout laws home m.held m.views g.rule r x has at q.1 q.2;
        after = after_none q.0 (found at);
      }))
      (next_either V K L good further layout laws home x at e)
