-- The acts of the lock that an atom decides are those that the lock's words before and after it show, and the events that it told.
use Rattle.std.specs.Prelude.{◌≡◌, ◌==◌, ℕ, ◌<◌, Bool, true, false, List, [], ◌∷◌, length, drop, slice_get, slice_index, Option, Some, None, refl}
use Rattle.std.proofs.Common.{sym, ◌∙◌, ap, subst, ⊎_elim, arith, get_or-set_same}
use Rattle.std.proofs.lemmas.List.{get_or-take}
use Rattle.std.proofs.lemmas.Option.{same_Some}
use Rattle.rl_word.specs.laws.Places.{get_map}
use Rattle.rl_word.specs.Acts.{Layout, word_of, written, told, by_card}
use Rattle.rl_word.specs.declared.acts.Act.{Act}
use Rattle.rl_word.specs.declared.acts.Atom.{Atom}
use Rattle.rl_word.specs.declared.acts.Atom.TheVariants as atom
use Rattle.rl_step.specs.declared.events.Event.{Event}
use Rattle.rl_step.specs.declared.events.Standing.{Standing}
use Rattle.rl_step.specs.declared.events.Standing.TheVariants.{Out, Asking, Writer, Reader, Leaving}
use Rattle.rl_step.specs.Lock.{LockTable, LockState, LockLaws, Deed}
use Rattle.rl_step.specs.Do.{TheWindow, do_words, do_got}
use Rattle.rl_step.specs.Core.{Turned}
use Rattle.rl_step.specs.Transitions.{Transition, reader_entries}
use Rattle.rl_step.specs.Batches.{AreActsOf}
use Rattle.rl_step.specs.laws.BatchLaws.{shows_act, shows_none}
use Rattle.rl_work.specs.declared.follow.Follow.{Follow}
use Rattle.rl_work.specs.declared.follow.Follow.TheVariants.{On, Ask, Over}
use Rattle.rl_work.specs.Ways.{Worked}
use Rattle.rl_core.specs.ShardTables.{transition_by}
use Rattle.rl_rank.specs.declared.card_state.CardState.{CardState}
use Rattle.rl_rank.specs.declared.card_state.CardState.TheVariants.{Free, InCard, Loaded, ToLeave}
use Rattle.rl_rank.specs.declared.effect.Effect.{Effect}
use Rattle.rl_rank.specs.declared.effect.Effect.TheVariants.{Work, Stay, Learn}
use Rattle.rl_rank.specs.declared.whole.WholeView.{WholeView}
use Rattle.rl_rank.specs.Running.{LockAt, Goods, BothLaws}
use Rattle.rl_rank.specs.Split.{SplitState, LockGood, StandsStill, lock_of, home_of, card_atom, side_atom, skips, atom_at, effect_at, plan_home, deed_of, turned_side}
use Rattle.rl_rank.specs.laws.SplitActs.{plain_words, skipped_words}
use Rattle.rl_rank.specs.laws.SplitLaws.{lawful_act}
use Rattle.rl_rank.specs.laws.LearnLaws.{learns_at, first_learns, load_learns}
use Rattle.rl_rank.specs.laws.ShiftLaws.{IsLow, lock_got, shift_words, take_words}
use Rattle.rl_rank.specs.laws.Bridge.{is_work, no_work}
use Rattle.rl_rank.specs.Whole.{side_of, shifted, split_of, departure_by, work_events, next_of, after_of, effect_turned, made_deeds, Good}
use Rattle.rl_rank.specs.laws.WholeLaws.{next_either, after_work, lock_low}
use Rattle.rl_rank.specs.WholeShards.{whole_shard}

-- no reader enters by an atom of the work
departs_quiet : (mine : ℕ → Bool) (r : ℕ) (st : Standing) (follow : Follow) → reader_entries mine (departure_by r st follow) ≡ 0
departs_quiet mine r st On = refl
departs_quiet mine r st (Ask m) = refl
departs_quiet mine r Out Over = refl
departs_quiet mine r Asking Over = refl
departs_quiet mine r Writer Over = refl
departs_quiet mine r Reader Over = refl
departs_quiet mine r Leaving Over = refl

work_quiet : (mine : ℕ → Bool) (r : ℕ) (touch : Option Bool) (st : Standing) (follow : Follow) → reader_entries mine (work_events r touch st follow) ≡ 0
work_quiet mine r None st follow = departs_quiet mine r st follow
work_quiet mine r (Some w) st follow = let quiet : reader_entries mine (departure_by r st follow) ≡ 0 = departs_quiet mine r st follow in omega arith

-- and it decides no act of the lock
none_decided : {V : Type 0} (T : LockTable V) (r : ℕ) (v : V) (home : ℕ) (p : Option Act) (c : CardState) (got : ℕ) →
    atom_at home p c ≡ None → (turned_side T r v p (effect_at home p c got)).deeds ≡ []
none_decided T r v home p (ToLeave n) got e = cc
none_decided T r v home None Free got e = refl
none_decided T r v home None InCard got e = refl
none_decided T r v home None (Loaded g) got e = refl
none_decided T r v home (Some a) Free got e = cc
none_decided T r v home (Some a) InCard got e = cc
none_decided T r v home (Some a) (Loaded g) got e = cc

module _ (V : Type 0) (T : LockTable V) (good : LockState V → Type 0) (further : List Event → List Deed → Type 0) (layout : Layout)
    (laws : LockLaws T good further layout) where
  -- Where an atom is that by which an act is learnt, the act's word has after it what the act writes.
  wrote_at : (s : SplitState V) (r : ℕ) (v : V) (p : Option Act) (h : CardState) (at : Atom) (hand : CardState) (t : ℕ) (lost : Bool) →
      LockGood T good layout s →
      slice_get s.sides r ≡ Some (record { view = v; card = h }) → T.plan v ≡ p → card_atom T p h ≡ Some at → effect_at (plan_home T p) p h
      (do_got at s.words s.cards) ≡ Learn hand t lost →
      (a : Act) → p ≡ Some a → slice_index (do_words at s.words) (word_of a) ≡ written a (slice_index s.words (word_of a))
  wrote_at s r v p (ToLeave n) at hand t lost g has pl e is a same = cc
  wrote_at s r v None Free at hand t lost g has pl e is a same = cc
  wrote_at s r v None InCard at hand t lost g has pl e is a same = cc
  wrote_at s r v None (Loaded w) at hand t lost g has pl e is a same = cc
  wrote_at s r v (Some b) Free at hand t lost g has pl e is a same =
      let bc : by_card b ≡ false = (first_learns b (home_of T (word_of b)) (do_got at s.words s.cards) (by_card b)
      (do_got at s.words s.cards == 0) hand t lost is).0 in
      let w : ℕ = word_of b in
      let there : w < length s.words = subst (λ n. w < n) (sym (laws.sized (lock_of s) g.lock).0)
      (lawful_act V T good further layout laws s r _ b g has pl).there in
      let one : slice_index (do_words at s.words) w ≡ written b (slice_index s.words w) =
      ap (λ z. slice_index (do_words z s.words) w) (sym (same_Some _ _ e)) ∙ ap (λ ws. slice_index ws w) (plain_words V T b s.words bc)
      ∙ get_or-set_same s.words w (written b (slice_index s.words w)) 0 there in
      subst (λ z. slice_index (do_words at s.words) (word_of z) ≡ written z (slice_index s.words (word_of z))) (same_Some _ _ same) one
  wrote_at s r v (Some b) InCard at hand t lost g has pl e is a same =
      let k : ℕ = slice_index s.words (word_of b) in
      let load : atom.CardLoad (word_of b) ≡ at = same_Some _ _ e in
      let bc : by_card b ≡ true = subst (λ o. StandsStill s.words o InCard) pl (g.still r _ has) in
      let lost_there : skips b (do_got at s.words s.cards) ≡ true =
      (load_learns (home_of T (word_of b)) (do_got at s.words s.cards) (skips b (do_got at s.words s.cards)) hand t lost is).0 in
      let sk : skips b k ≡ true = ap (λ z. skips b (do_got z s.words s.cards)) load ∙ lost_there in
      let one : slice_index (do_words at s.words) (word_of b) ≡ written b k =
      ap (λ z. slice_index (do_words z s.words) (word_of b)) (sym load) ∙ sym (skipped_words V T b k bc sk) in
      subst (λ z. slice_index (do_words at s.words) (word_of z) ≡ written z (slice_index s.words (word_of z))) (same_Some _ _ same) one
  wrote_at s r v (Some b) (Loaded k) at hand t lost g has pl e is a same =
      let w : ℕ = word_of b in
      let holds : StandsStill s.words (Some b) (Loaded k) = subst (λ o. StandsStill s.words o (Loaded k)) pl (g.still r _ has) in
      let there : w < length s.words = subst (λ n. w < n) (sym (laws.sized (lock_of s) g.lock).0)
      (lawful_act V T good further layout laws s r _ b g has pl).there in
      let one : slice_index (do_words at s.words) w ≡ written b (slice_index s.words w) =
      ap (λ z. slice_index (do_words z s.words) w) (sym (same_Some _ _ e)) ∙ get_or-set_same s.words w (written b k) 0 there ∙ ap (written b) (sym holds.2) in
      subst (λ z. slice_index (do_words at s.words) (word_of z) ≡ written z (slice_index s.words (word_of z))) (same_Some _ _ same) one

module _ (V K : Type 0) (L : LockAt V K) (good : Goods V K) (further : List Event → List Deed → Type 0) (layout : Layout)
    (laws : BothLaws L good further layout) (home : ℕ) where
  module _ (h : TheWindow) (vs : List (WholeView V K)) (r : ℕ) (x : WholeView V K) (g : Good L good layout h vs) (has : slice_get vs r ≡ Some x) where
    -- the lock's words and the words behind them, before an atom and after it, with what it told
    abbrev seen : Atom → List Event → Transition
    seen at es = record { before = drop L.base h.words; after = drop L.base (do_words at h.words); events = es }

    -- an atom of the lock
    lock_shows : (b : Atom) → side_atom L.table x.side ≡ Some b → (w : Worked K) (t : Effect) →
        effect_at (plan_home L.table (L.table.plan x.side.view)) (L.table.plan x.side.view) x.side.card
        (do_got (shifted L.base b) h.words h.cards) ≡ t → is_work t ≡ false →
        AreActsOf (turned_side L.table x.rank x.side.view (L.table.plan x.side.view) t).deeds (seen (shifted L.base b) (effect_turned L x w t).events)
    lock_shows b e w Work is calm = absurd (cc)
    lock_shows b e w (Stay hand answer) is calm = shows_none (seen (shifted L.base b) []) (λ mine. refl)
    lock_shows b e w (Learn hand told' lost) is calm =
        let s : SplitState V = split_of L h vs g.modes g.past in
        let here : slice_get s.sides r ≡ Some x.side = get_map side_of vs r x has in
        let low : IsLow L.table.size b = lock_low V K L good further layout laws home h vs g r x has b e in
        let found : do_got (shifted L.base b) h.words h.cards ≡ do_got b s.words s.cards = lock_got L b h.words h.cards low in
        let l = learns_at V L.table good.lock further layout laws.lock s r x.side.view (L.table.plan x.side.view) x.side.card
        (do_got (shifted L.base b) h.words h.cards) hand told' lost g.lock_part here refl is
        (λ c f. found ∙ ap (λ z. do_got z s.words s.cards) (same_Some _ _ (sym e ∙ f))) in
        let a : Act = l.0 in
        let n : ℕ = L.table.size in
        let word : ℕ = word_of a in
        let there : word < n = (lawful_act V L.table good.lock further layout laws.lock s r x.side a g.lock_part here l.1).there in
        let X : Transition = seen (shifted L.base b) (L.table.learn x.side.view told').events in
        let old : slice_index s.words word ≡ slice_index X.before word = get_or-take n (drop L.base h.words) word 0 there in
        let new : slice_index (do_words b s.words) word ≡ slice_index X.after word =
        ap (λ ws. slice_index ws word) (sym (take_words n b (drop L.base h.words) low)) ∙ get_or-take n (do_words b (drop L.base h.words)) word 0 there
        ∙ ap (λ ws. slice_index ws word) (sym (shift_words L.base b h.words)) in
        let wrote : slice_index (do_words b s.words) word ≡ written a (slice_index s.words word) =
        wrote_at V L.table good.lock further layout laws.lock s r x.side.view (L.table.plan x.side.view) x.side.card b hand told' lost g.lock_part here refl e
        (ap (λ k. effect_at (plan_home L.table (L.table.plan x.side.view)) (L.table.plan x.side.view) x.side.card k) (sym found) ∙ is) a l.1 in
        let shown : AreActsOf (record { rank = x.rank; act = a; got = told a (slice_index X.before word); events = X.events } ∷ []) X =
        shows_act x.rank a X (sym new ∙ wrote ∙ ap (written a) old) in
        let deeds : deed_of x.rank (L.table.plan x.side.view) told' X.events ≡
        record { rank = x.rank; act = a; got = told a (slice_index X.before word); events = X.events } ∷ [] =
        ap (λ p. deed_of x.rank p told' X.events) l.1 ∙ ap (λ k. deed_of x.rank (Some a) k X.events) (l.2 ∙ ap (told a) old) in
        subst (λ ds. AreActsOf ds X) (sym deeds) shown

    -- so it is of each atom
    either_shows : (at : Atom) → next_of L x ≡ Some at → AreActsOf (made_deeds L.table x (do_got at h.words h.cards))
        (seen at (after_of L x (do_got at h.words h.cards)).events)
    either_shows at e =
        ⊎_elim
        (λ q.
        let k : ℕ = do_got (shifted L.base q.0) h.words h.cards in
        let calm : is_work (effect_at (plan_home L.table (L.table.plan x.side.view)) (L.table.plan x.side.view) x.side.card k) ≡ false =
        no_work (plan_home L.table (L.table.plan x.side.view)) (L.table.plan x.side.view) x.side.card k q.0 q.1 in
        subst (λ z. AreActsOf (made_deeds L.table x (do_got z h.words h.cards)) (seen z (after_of L x (do_got z h.words h.cards)).events)) q.2
        (lock_shows q.0 q.1 (L.work.after x.rank x.work k) (effect_at (plan_home L.table (L.table.plan x.side.view))
        (L.table.plan x.side.view) x.side.card k) refl calm))
        (λ q.
        let k : ℕ = do_got at h.words h.cards in
        let none : made_deeds L.table x k ≡ [] = none_decided L.table x.rank x.side.view (plan_home L.table (L.table.plan x.side.view))
        (L.table.plan x.side.view) x.side.card k q.0 in
        let quiet : (mine : ℕ → Bool) → reader_entries mine (after_of L x k).events ≡ 0 =
        λ mine. ap (λ (t : Turned (WholeView V K)). reader_entries mine t.events) (after_work V K L good further layout laws home h vs g r x has q.0 k)
        ∙ work_quiet mine x.rank (L.work.touch x.work) (L.table.standing x.side.view) (L.work.after x.rank x.work k).follow in
        subst (λ ds. AreActsOf ds (seen at (after_of L x k).events)) (sym none) (shows_none (seen at (after_of L x k).events) quiet))
        (next_either V K L good further layout laws home x at e)

    pub acts_shown : (at : Atom) → next_of L x ≡ Some at → AreActsOf (made_deeds L.table x (do_got at h.words h.cards))
        (transition_by (whole_shard L home) h x at)
    acts_shown at e =
        subst (λ n. AreActsOf (made_deeds L.table x (do_got at h.words h.cards))
        (record {
          before = drop n h.words;
          after = drop n (do_words at h.words);
          events =
              (after_of L x (do_got at h.words h.cards)).events;
        }))
        g.base_is (either_shows at e)
