-- A rank that is alone is never answered Waiting, Lost or Busy: no state under the rule gives that.
use Rattle.std.proofs.Common.{◌≡◌, ℕ, ◌+◌, ◌<◌, true, false, List, length, map, drop, slice_get, slice_index, Option, Some, None, sym, refl, ap, ◌∙◌, subst, ⊎_elim, arith, get_or-drop}
use Rattle.std.proofs.lemmas.List.{get_or-take}
use Rattle.std.proofs.lemmas.List.{length-map}
use Rattle.std.proofs.lemmas.Option.{slice_get_within}
use Rattle.rl_word.specs.laws.Places.{get_map, get_map_back, one_at}
use Rattle.rl_word.specs.declared.acts.Act.{Act}
use Rattle.rl_word.specs.declared.acts.Act.TheVariants as act
use Rattle.rl_word.specs.declared.acts.Atom.{Atom}
use Rattle.rl_word.specs.declared.acts.Atom.TheVariants as atom
use Rattle.rl_word.specs.Acts.{Layout, word_of, told}
use Rattle.rl_step.specs.declared.events.Event.{Event}
use Rattle.rl_step.specs.declared.events.Stepped.{Stepped}
use Rattle.rl_step.specs.declared.events.Stepped.TheVariants.{Moved, Waiting, Lost, Busy, Finished}
use Rattle.rl_step.specs.Lock.{LockTable, Deed, Acts, FindsOld, found}
use Rattle.rl_step.specs.Do.{TheWindow, do_got}
use Rattle.rl_rank.specs.declared.card_state.CardState.{CardState}
use Rattle.rl_rank.specs.declared.card_state.CardState.TheVariants.{Free, InCard, Loaded, ToLeave}
use Rattle.rl_rank.specs.declared.whole.WholeView.{WholeView}
use Rattle.rl_rank.specs.Running.{LockAt, Goods, BothLaws}
use Rattle.rl_rank.specs.Split.{lock_of, view_of, card_atom, card_in, card_of}
use Rattle.rl_rank.specs.Whole.{side_of, split_of, shifted, lock_or_work, work_plan, work_side, next_of, Good}
use Rattle.rl_rank.specs.laws.WholeLaws.{next_either, works_at}
use Rattle.rl_rank.specs.laws.WholeOwes.{plan_there}
use Rattle.rl_rank.specs.Causes.{Cause, Compares, HasToWait, HasLost, IsWork, WorkWaits, WorkLost}
use Rattle.rl_rank.specs.laws.CauseLaws.{work_no_take}
use Rattle.rl_core.specs.Standings.{IsUnhindered}

-- an act that finds its old value finds what it hoped for
hoped : (base : ℕ) (a : Act) (at : Atom) (guess n : ℕ) → Compares base a at guess → FindsOld a n → n ≡ guess
hoped base (act.Load w) at guess n c f = absurd c
hoped base (act.Store w v) at guess n c f = absurd c
hoped base (act.LocalCas w old new) at guess n c f = f ∙ sym c.1
hoped base (act.CardCas w old new) at guess n c f = f ∙ sym c.1
hoped base (act.CardSwap w v) at guess n c f = absurd c
hoped base (act.CardAdd w d) at guess n c f = absurd c

-- a lock's atom that is a take in the window is one of the lock
pub take_unshifted : (base : ℕ) (b : Atom) (node : ℕ) → shifted base b ≡ atom.Take node → b ≡ atom.Take node
take_unshifted base (atom.Load w) node e = cc
take_unshifted base (atom.Store w v) node e = cc
take_unshifted base (atom.LocalCas w old new) node e = cc
take_unshifted base (atom.Take n) node e = e
take_unshifted base (atom.CardLoad w) node e = cc
take_unshifted base (atom.CardStore w v) node e = cc
take_unshifted base (atom.Leave n) node e = cc

-- an act tells what it found, but for a store
tells_found : (a : Act) (n : ℕ) → ((w v : ℕ) → a ≡ act.Store w v → ⊥) → n ≡ told a n
tells_found (act.Load w) n other = refl
tells_found (act.Store w v) n other = absurd (other w v refl)
tells_found (act.LocalCas w old new) n other = refl
tells_found (act.CardCas w old new) n other = refl
tells_found (act.CardSwap w v) n other = refl
tells_found (act.CardAdd w d) n other = refl

-- and a rank whose next atom is a load plans no store
no_store : {V : Type 0} (T : LockTable V) (base : ℕ) (c : CardState) (w v word : ℕ) (work : Option Atom) →
    lock_or_work base (card_atom T (Some (act.Store w v)) c) work ≡ Some (atom.Load word) → ⊥
no_store T base Free w v word work e = cc
no_store T base InCard w v word work e = cc
no_store T base (Loaded n) w v word work e = cc
no_store T base (ToLeave n) w v word work e = cc

-- a rank that takes a card is in none
take_free : {V : Type 0} (T : LockTable V) (p : Option Act) (c : CardState) (node : ℕ) → card_atom T p c ≡ Some (atom.Take node) → card_in T p c ≡ None
take_free T p Free node e = refl
take_free T p (ToLeave n) node e = cc
take_free T None InCard node e = refl
take_free T None (Loaded v) node e = refl
take_free T (Some a) InCard node e = cc
take_free T (Some a) (Loaded v) node e = cc

none_some : (n : ℕ) → None ≡ Some n → ⊥
none_some n e = cc

module _ (V K : Type 0) (L : LockAt V K) (good : Goods V K) (further : List Event → List Deed → Type 0) (layout : Layout)
    (laws : BothLaws L good further layout) (home : ℕ) (one : length layout.node_of ≡ 1) where
  module _ (h : TheWindow) (vs : List (WholeView V K)) (r : ℕ) (x : WholeView V K) (g : Good L good layout h vs) (has : slice_get vs r ≡ Some x) where
    acts : (a : Act) → L.table.plan x.side.view ≡ Some a → Acts L.table good.lock (lock_of (split_of L h vs g.modes g.past)) r x.side.view a
    acts a planned = record { is_good = g.lock_part.lock; has = get_map view_of (map side_of vs) r (side_of x) (get_map side_of vs r x has); planned = planned }

    found_is : (a : Act) → word_of a < L.table.size → found (lock_of (split_of L h vs g.modes g.past)) a ≡ slice_index h.words (L.base + word_of a)
    found_is a low = get_or-take L.table.size (drop L.base h.words) (word_of a) 0 low ∙ get_or-drop L.base h.words (word_of a) 0

    one_view : length vs ≡ 1
    one_view =
        let n = (laws.lock.sized (lock_of (split_of L h vs g.modes g.past)) g.lock_part.lock).1 in
        sym (length-map vs side_of) ∙ sym (length-map (map side_of vs) view_of) ∙ n ∙ one

    -- a rank whose next atom takes a card is in none
    takes : (at : Atom) (node : ℕ) → next_of L x ≡ Some at → at ≡ atom.Take node → card_of L.table (side_of x) ≡ None
    takes at node e is =
        ⊎_elim
        (λ q. take_free L.table (L.table.plan x.side.view) x.side.card node (q.1 ∙ ap (λ z. Some z) (take_unshifted L.base q.0 node (q.2 ∙ is))))
        (λ q. absurd (work_no_take L.work at node (laws.work.plain h.words (map (work_side L.table) vs) r (work_side L.table x) at
        (works_at V K L good further layout laws home h vs g r x has at q.1 q.2)) is))
        (next_either V K L good further layout laws home x at e)

    -- its work is never answered but by Moved
    work_moves : (at : Atom) → next_of L x ≡ Some at → IsWork L x at → (L.work.after x.rank x.work (do_got at h.words h.cards)).stepped ≡ Moved
    work_moves at e w =
        ⊎_elim
        (λ q. let bad : None ≡ Some q.0 = sym w.0 ∙ q.1 in cc)
        (λ q. subst (λ n. (L.work.after n x.work (do_got at h.words h.cards)).stepped ≡ Moved) (sym (g.own r x has))
        (laws.work.alone h.words h.cards (map (work_side L.table) vs) r (work_side L.table x) at
        (length-map vs (work_side L.table) ∙ one_view) (works_at V K L good further layout laws home h vs g r x has at q.1 q.2)))
        (next_either V K L good further layout laws home x at e)

    never_waits : (at : Atom) (word value : ℕ) → next_of L x ≡ Some at → HasToWait L h x.side.view at word value → ⊥
    never_waits at word value e c =
        let a : Act = c.act in
        let moves = laws.lock.moves_on (lock_of (split_of L h vs g.modes g.past)) r x.side.view a one (acts a c.planned) in
        let low : word_of a < L.table.size = plan_there V K L good further layout laws home x a
        (record { held = h; views = vs; rank = r; is_ruled = g; has = has }) c.planned in
        let here : value ≡ found (lock_of (split_of L h vs g.modes g.past)) a = c.tells ∙ ap (slice_index h.words) c.same_word ∙ sym (found_is a low) in
        let other : (w v : ℕ) → a ≡ act.Store w v → ⊥ = λ w v is.
        no_store L.table L.base x.side.card w v word (work_plan (L.table.standing x.side.view) (L.work.next x.rank x.work))
        (ap (λ p. lock_or_work L.base (card_atom L.table p x.side.card)
        (work_plan (L.table.standing x.side.view) (L.work.next x.rank x.work))) (sym (c.planned ∙ ap (λ z. Some z) is)) ∙ e
        ∙ ap (λ z. Some z) c.made) in
        let tells : value ≡ told a (found (lock_of (split_of L h vs g.modes g.past)) a) = here ∙ tells_found a _ other in
        let bad : true ≡ false = sym c.unmet ∙ ap (λ n. (L.table.learn x.side.view n).waits) tells ∙ moves in cc

    never_works_on : (at : Atom) (word value : ℕ) → next_of L x ≡ Some at → WorkWaits L h x at word value → ⊥
    never_works_on at word value e w =
        let here : value ≡ do_got at h.words h.cards = w.tells ∙ ap (λ z. do_got z h.words h.cards) (sym w.made) in
        let bad : Waiting word value ≡ Moved = sym w.unmet ∙ ap (λ n. (L.work.after x.rank x.work n).stepped) here ∙ work_moves at e w.is_work in cc

    never_loses : (at : Atom) (guess seen : ℕ) → HasLost L h x.side.view at guess seen → ⊥
    never_loses at guess seen c =
        let a : Act = c.act in
        let low : word_of a < L.table.size = plan_there V K L good further layout laws home x a
        (record { held = h; views = vs; rank = r; is_ruled = g; has = has }) c.planned in
        let finds = laws.lock.finds (lock_of (split_of L h vs g.modes g.past)) r x.side.view a one (acts a c.planned) in
        c.other (sym c.found ∙ sym (found_is a low) ∙ hoped L.base a at guess _ c.compares finds)

    never_lost : (at : Atom) (guess seen : ℕ) → next_of L x ≡ Some at → WorkLost L h x at guess seen → ⊥
    never_lost at guess seen e w =
        let bad : Lost guess seen ≡ Moved = sym w.lost ∙ ap (λ n. (L.work.after x.rank x.work n).stepped) (sym w.found) ∙ work_moves at e w.is_work in cc

    pub unhindered : (o : Option Atom) → next_of L x ≡ o → (s : Stepped) → Cause L h x o s → IsUnhindered s
    unhindered None e Moved c = tt
    unhindered None e (Waiting word value) c = c
    unhindered None e (Lost guess seen) c = c
    unhindered None e (Busy node holder) c = c
    unhindered None e Finished c = tt
    unhindered (Some at) e Moved c = tt
    unhindered (Some at) e (Waiting word value) c = ⊎_elim (λ q. never_waits at word value e q) (λ q. never_works_on at word value e q) c
    unhindered (Some at) e (Lost guess seen) c = ⊎_elim (λ q. never_loses at guess seen q) (λ q. never_lost at guess seen e q) c
    unhindered (Some at) e (Busy node holder) c =
        let n = g.lock_part.named holder node c.1 in
        let y = get_map_back side_of vs holder n.0 n.1 in
        let few = one_view in
        let low : holder < length vs = slice_get_within vs holder y.0 y.1 in
        let here : r < length vs = slice_get_within vs r x has in
        let same : holder ≡ r = omega arith in
        let is : y.0 ≡ x = one_at vs r y.0 x (subst (λ k. slice_get vs k ≡ Some y.0) same y.1) has in
        let inside : card_of L.table (side_of x) ≡ Some node = ap (λ z. card_of L.table (side_of z)) (sym is) ∙ ap (card_of L.table) y.2 ∙ n.2 in
        none_some node (sym (takes at node e c.0) ∙ inside)
    unhindered (Some at) e Finished c = tt
