-- Opening a call and ending its work keep the lock's part of the rule, and the opening state meets it.
use Rattle.std.specs.Prelude.{◌≡◌, ℕ, Bool, List, [], ◌++◌, length, map, replicate, slice_get, slice_index, slice_set, Option, Some, None, refl}
use Rattle.std.proofs.Common.{sym, ◌∙◌, ap, subst, arith}
use Rattle.std.proofs.lemmas.List.{append-nil, length-replicate}
use Rattle.rl_word.specs.laws.Places.{get_map, map_set, set_same_get}
use Rattle.rl_word.specs.Acts.{Layout}
use Rattle.rl_word.specs.declared.classes.Mode.{Mode}
use Rattle.rl_word.specs.declared.classes.Mode.TheVariants as mode
use Rattle.rl_step.specs.Lock.{LockTable, LockState, LockLaws, asked, opening, first_views, Deed}
use Rattle.rl_step.specs.declared.events.Event.{Event}
use Rattle.rl_step.specs.declared.events.Standing.{Standing}
use Rattle.rl_step.specs.declared.events.Standing.TheVariants as standing
use Rattle.rl_rank.specs.declared.card_state.CardState.TheVariants.{Free}
use Rattle.rl_rank.specs.declared.side.Side.{Side}
use Rattle.rl_rank.specs.Split.{SplitState, LockGood, side_atom, lock_of, view_of, card_in, StandsStill, departure, grown}
use Rattle.std.proofs.Common.{append_assoc}
use Rattle.rl_work.specs.declared.follow.Follow.{Follow}
use Rattle.rl_work.specs.declared.follow.Follow.TheVariants.{On, Ask, Over}
use Rattle.rl_work.specs.Ways.{AsksOut}
use Rattle.rl_rank.specs.Whole.{followed, left_by, touch_by, departure_by, work_events}
use Rattle.rl_rank.specs.laws.SplitActs.{zeros}
use Rattle.rl_rank.specs.laws.SplitLaws.{good_at, same_cards, none_at}

-- the modes of the last asks, behind an atom of the work
abbrev pub modes_after : List Mode → ℕ → Follow → List Mode
modes_after modes r On = modes
modes_after modes r (Ask m) = slice_set modes r m
modes_after modes r Over = modes

module _ (V : Type 0) (T : LockTable V) (good : LockState V → Type 0) (further : List Event → List Deed → Type 0) (layout : Layout)
    (laws : LockLaws T good further layout) where
  -- nothing that happens keeps it
  still_good : (l : LockState V) (r : ℕ) (v : V) → good l → slice_get l.views r ≡ Some v →
      good (record { words = l.words; views = slice_set l.views r v; modes = l.modes; trace = l.trace ++ []; deeds = l.deeds })
  still_good l r v g has =
      subst (λ z. good (record { words = l.words; views = slice_set l.views r v; modes = l.modes; trace = z; deeds = l.deeds })) (sym (append-nil l.trace))
      (subst (λ z. good (record { words = l.words; views = z; modes = l.modes; trace = l.trace; deeds = l.deeds })) (sym (set_same_get l.views r v has)) g)

  -- a touch keeps the lock's own invariant, and so do a holder's leave and an ask, alone or behind it
  touched_good : (l : LockState V) (r : ℕ) (touch : Option Bool) → good l →
      good (record { words = l.words; views = l.views; modes = l.modes; trace = l.trace ++ touch_by r touch; deeds = l.deeds })
  touched_good l r None g = subst (λ z. good (record { words = l.words; views = l.views; modes = l.modes; trace = z; deeds = l.deeds }))
      (sym (append-nil l.trace)) g
  touched_good l r (Some w) g = laws.touch_keeps l r w g

  over_good : (l : LockState V) (r : ℕ) (v : V) (st : Standing) → good l → slice_get l.views r ≡ Some v → T.standing v ≡ st →
      good (record { words = l.words; views = slice_set l.views r (left_by T v st); modes = l.modes; trace = l.trace ++ departure r st; deeds = l.deeds })
  over_good l r v standing.Out g has e = still_good l r v g has
  over_good l r v standing.Asking g has e = still_good l r v g has
  over_good l r v standing.Writer g has e = laws.leave_keeps_writer l r v g has e
  over_good l r v standing.Reader g has e = laws.leave_keeps_reader l r v g has e
  over_good l r v standing.Leaving g has e = still_good l r v g has

  followed_good : (l : LockState V) (r : ℕ) (v : V) (follow : Follow) → AsksOut follow (T.standing v) → good l → slice_get l.views r ≡ Some v →
      good (record {
        words = l.words;
        views = slice_set l.views r (followed T v follow);
        modes = modes_after l.modes r follow;
        trace =
            l.trace ++ departure_by r (T.standing v) follow;
        deeds = l.deeds;
      })
  followed_good l r v On a g has = still_good l r v g has
  followed_good l r v (Ask m) a g has =
      subst (λ z. good (record {
        words = l.words;
        views = slice_set l.views r (T.ask v m);
        modes = slice_set l.modes r m;
        trace = z;
        deeds =
            l.deeds;
      })) (sym (append-nil l.trace)) (laws.ask_keeps l r v m g has a)
  followed_good l r v Over a g has = over_good l r v (T.standing v) g has refl

  work_good : (l : LockState V) (r : ℕ) (v : V) (touch : Option Bool) (follow : Follow) → AsksOut follow (T.standing v) → good l →
      slice_get l.views r ≡ Some v →
      good (record {
        words = l.words;
        views = slice_set l.views r (followed T v follow);
        modes = modes_after l.modes r follow;
        trace =
            l.trace ++ work_events r touch (T.standing v) follow;
        deeds = l.deeds;
      })
  work_good l r v touch follow a g has =
      subst (λ z. good (record {
        words = l.words;
        views = slice_set l.views r (followed T v follow);
        modes = modes_after l.modes r follow;
        trace = z;
        deeds = l.deeds;
      }))
      (append_assoc l.trace (touch_by r touch) (departure_by r (T.standing v) follow))
      (followed_good (record { words = l.words; views = l.views; modes = l.modes; trace = l.trace ++ touch_by r touch; deeds = l.deeds }) r
      v follow a (touched_good l r touch g) has)

  -- so an atom of the work keeps the lock's part
  pub work_keeps : (s t : SplitState V) (r : ℕ) (x : Side V) (touch : Option Bool) (follow : Follow) → LockGood T good layout s →
      slice_get s.sides r ≡ Some x → side_atom T x ≡ None → AsksOut follow (T.standing x.view) →
      t.words ≡ s.words → t.cards ≡ s.cards → t.sides ≡ slice_set s.sides r
      (record { view = followed T x.view follow; card = Free }) → t.modes ≡ modes_after s.modes r follow →
      t.past ≡ grown s.past (work_events r touch (T.standing x.view) follow) [] → LockGood T good layout t
  work_keeps s t r x touch follow g has none asks ew ec es em et =
      let y : Side V = record { view = followed T x.view follow; card = Free } in
      let away : (T.plan x.view ≡ None) × (x.card ≡ Free) = none_at V T good further layout laws s.words (T.plan x.view) x.card (g.still r x has) none in
      same_cards V T good further layout laws s t r x y g has es
      (good_at V T good further layout laws
      (record {
        words = s.words;
        views = slice_set (map view_of s.sides) r (followed T x.view follow);
        modes =
            modes_after s.modes r follow;
        trace = s.past.trace ++ work_events r touch (T.standing x.view) follow;
        deeds = s.past.deeds;
      })
      (lock_of t)
      (sym ew) (sym (ap (map view_of) es ∙ map_set view_of s.sides r y)) (sym em) (sym (ap (λ z. z.trace) et))
      (sym (ap (λ z. z.deeds) et ∙ append-nil s.past.deeds))
      (work_good (lock_of s) r x.view touch follow asks g.lock (get_map view_of s.sides r x has)))
      ec
      (sym (ap (λ h. card_in T (T.plan x.view) h) away.1))
      tt
      (λ i u ne h. subst (λ ws. StandsStill ws (T.plan u.view) u.card) (sym ew) (g.still i u h))

  -- asking keeps it too
  pub ask_keeps : (s t : SplitState V) (r : ℕ) (x : Side V) (m : Mode) → LockGood T good layout s → slice_get s.sides r ≡ Some x →
      x.card ≡ Free → T.standing x.view ≡ standing.Out →
      t.words ≡ s.words → t.cards ≡ s.cards → t.sides ≡ slice_set s.sides r
      (record { view = T.ask x.view m; card = Free }) → t.modes ≡ slice_set s.modes r m → t.past ≡ s.past →
      LockGood T good layout t
  ask_keeps s t r x m g has away out ew ec es em et =
      let y : Side V = record { view = T.ask x.view m; card = Free } in
      same_cards V T good further layout laws s t r x y g has es
      (good_at V T good further layout laws (asked T (lock_of s) r x.view m) (lock_of t)
      (sym ew) (sym (ap (map view_of) es ∙ map_set view_of s.sides r y)) (sym em) (sym (ap (λ z. z.trace) et)) (sym (ap (λ z. z.deeds) et))
      (laws.ask_keeps (lock_of s) r x.view m g.lock (get_map view_of s.sides r x has) out))
      ec
      (sym (ap (λ h. card_in T (T.plan x.view) h) away))
      tt
      (λ i u ne h. subst (λ ws. StandsStill ws (T.plan u.view) u.card) (sym ew) (g.still i u h))

  -- all words and cards 0, all views first, nobody in a card
  pub opening_good : (sides : List (Side V)) → map view_of sides ≡ first_views T.first 0 (length layout.node_of) →
      ((r : ℕ) (x : Side V) → slice_get sides r ≡ Some x → x.card ≡ Free) →
      LockGood T good layout (record {
        words = replicate T.size 0;
        cards = replicate layout.nodes 0;
        sides = sides;
        modes =
            replicate (length layout.node_of) mode.Write;
        past = record { trace = []; deeds = [] };
      })
  opening_good sides es away =
      record {
        lock = good_at V T good further layout laws (opening T (length layout.node_of))
            (record {
              words = replicate T.size 0;
              views = map view_of sides;
              modes = replicate (length layout.node_of) mode.Write;
              trace =
                  [];
              deeds = [];
            })
            refl (sym es) refl refl refl laws.begins;
        all_cards = length-replicate layout.nodes 0;
        names = λ r n x h c. let none : None ≡ Some n = sym (ap (λ k. card_in T (T.plan x.view) k) (away r x h)) ∙ c in cc;
        named = λ r n c. let z : slice_index (replicate layout.nodes 0) n ≡ 0 = zeros layout.nodes n in absurd (omega arith);
        domain = λ r n x h c. let none : None ≡ Some n = sym (ap (λ k. card_in T (T.plan x.view) k) (away r x h)) ∙ c in cc;
        still = λ r x h. subst (λ k. StandsStill (replicate T.size 0) (T.plan x.view) k) (sym (away r x h)) tt;
      }
