-- Where a lock and a way of working have no dead end, their shard has none.
use Rattle.std.specs.Prelude.{◌≡◌, ◌⊎◌, ℕ, ◌+◌, ◌*◌, ◌<◌, ◌≤◌, Bool, true, false, ◌||◌, List, map, slice_get, slice_set, Option, Some, None, is_some, refl}
use Rattle.std.proofs.Common.{sym, ◌∙◌, ap, subst, inl, inr, ⊎_elim, arith}
use Rattle.std.proofs.lemmas.Option.{same_Some}
use Rattle.rl_word.specs.laws.Places.{get_map, get_map_back, map_set, set_same_get}
use Rattle.rl_word.specs.Acts.{Layout}
use Rattle.rl_word.specs.declared.acts.Atom.{Atom}
use Rattle.rl_word.specs.declared.classes.Mode.{Mode}
use Rattle.rl_model.specs.declared.call.Call.{Call}
use Rattle.rl_step.specs.declared.events.Event.{Event}
use Rattle.rl_step.specs.declared.events.Standing.{Standing}
use Rattle.rl_step.specs.declared.events.Standing.TheVariants as standing
use Rattle.rl_step.specs.Lock.{LockState, Deed, IsHolder, Rests, AllOut}
use Rattle.rl_step.specs.Do.{TheWindow, do_atom, do_got, do_words}
use Rattle.rl_step.specs.Core.{MayBe}
use Rattle.rl_work.specs.declared.follow.Follow.{Follow}
use Rattle.rl_work.specs.declared.follow.Follow.TheVariants.{On, Ask, Over}
use Rattle.rl_work.specs.Ways.{WorkSide, Worked, Works, AsksOut, GoesOnAt}
use Rattle.rl_core.specs.ShardTables.{AllShut}
use Rattle.rl_core.specs.ShardLaws.{MayOpen}
use Rattle.rl_rank.specs.declared.card_state.CardState.TheVariants.{Free}
use Rattle.rl_rank.specs.declared.effect.Effect.{Effect}
use Rattle.rl_rank.specs.declared.side.Side.{Side}
use Rattle.rl_rank.specs.declared.whole.WholeView.{WholeView}
use Rattle.rl_rank.specs.Running.{LockAt, Goods, BothLaws}
use Rattle.rl_rank.specs.Opening.{asked_if, opened_in}
use Rattle.rl_rank.specs.Split.{SplitState, SideTurned, card_atom, effect_at, lock_of, moved, plan_home, side_after, side_atom, view_of}
use Rattle.rl_rank.specs.laws.ShiftLaws.{IsLow, lock_got, lock_words_made}
use Rattle.rl_rank.specs.laws.Bridge.{IsOffLock, is_work, no_work, off_lock, same_work}
use Rattle.rl_rank.specs.Whole.{side_of, work_side, split_of, lock_words, shifted, lock_or_work, work_plan, after_of, whole_turned, work_turned, followed, left_by, is_at_work, Good}
use Rattle.rl_rank.specs.laws.WholeLaws.{laid, lock_low, lock_turned, work_at, works_at, after_work}
use Rattle.rl_rank.specs.laws.OpenLaws.{shut_is_none, closed_parts}
use Rattle.rl_rank.specs.WholeShards.{whole_shard, whole_says}
use Rattle.rl_ending.specs.Ending.{LockEnds}
use Rattle.rl_rank.specs.Begun.{split_left, AtomNears}
use Rattle.rl_rank.specs.laws.BegunLaws.{AllFree}
use Rattle.rl_rank.specs.laws.CardEnding.{split_goes}
use Rattle.rl_core.specs.ShardEnding.{ShardEnds, GoesOn, Lessens}
use Rattle.rl_work.specs.WorkEnding.{works_in, MayGo, WorkEnds}
use Rattle.rl_work.specs.laws.RestLaws.{holder_rests}
use Rattle.rl_rank.specs.WholeLeft.{lock_left, whole_left, whole_most}
use Rattle.rl_rank.specs.laws.LeftLaws.{quiet_turn, lock_less, work_less, open_more, some_next, some_or_all}

-- who rests has the work's atom
pub rests_next : (st : Standing) (o : Option Atom) → Rests st → work_plan st o ≡ o
rests_next standing.Out o r = refl
rests_next standing.Asking o r = absurd r
rests_next standing.Writer o r = refl
rests_next standing.Reader o r = refl
rests_next standing.Leaving o r = absurd r

-- a holder has an atom, and so has a rank that is out with a block open
holder_goes : (st : Standing) (b : Bool) (o : Option Atom) → IsHolder st → GoesOnAt st b o → is_some o ≡ true
holder_goes standing.Out b o h g = absurd h
holder_goes standing.Asking b o h g = absurd h
holder_goes standing.Writer b o h g = g.1
holder_goes standing.Reader b o h g = g.1
holder_goes standing.Leaving b o h g = absurd h

module _ (V K : Type 0) (L : LockAt V K) (good : Goods V K) (further : List Event → List Deed → Type 0) (layout : Layout)
    (laws : BothLaws L good further layout) (home : ℕ)
    (left : List ℕ → List V → ℕ) (most : ℕ) (ends : LockEnds L.table left good.lock most) (work_left : List ℕ → List K → ℕ) (work_most : ℕ)
    (work_ends : WorkEnds L.work good.work work_left work_most) where
  abbrev left_of : TheWindow → List (WholeView V K) → ℕ
  left_of = whole_left L left most work_left

  -- what follows an atom of the work adds at the lock
  stays_left : (s : LockState V) (r : ℕ) (v : V) → slice_get s.views r ≡ Some v → left s.words (slice_set s.views r v) ≤ left s.words s.views + most
  stays_left s r v has = let e : left s.words (slice_set s.views r v) ≡ left s.words s.views = ap (left s.words) (set_same_get s.views r v has) in omega arith

  leave_left : (s : LockState V) (r : ℕ) (v : V) (st : Standing) → good.lock s → slice_get s.views r ≡ Some v → L.table.standing v ≡ st →
      left s.words (slice_set s.views r (left_by L.table v st)) ≤ left s.words s.views + most
  leave_left s r v standing.Out g has e = stays_left s r v has
  leave_left s r v standing.Asking g has e = stays_left s r v has
  leave_left s r v standing.Writer g has e = ends.leave_adds s r v g has (subst IsHolder (sym e) tt)
  leave_left s r v standing.Reader g has e = ends.leave_adds s r v g has (subst IsHolder (sym e) tt)
  leave_left s r v standing.Leaving g has e = stays_left s r v has

  followed_left : (s : LockState V) (r : ℕ) (v : V) (follow : Follow) → good.lock s → slice_get s.views r ≡ Some v →
      AsksOut follow (L.table.standing v) → left s.words (slice_set s.views r (followed L.table v follow)) ≤ left s.words s.views + most
  followed_left s r v On g has a = stays_left s r v has
  followed_left s r v (Ask m) g has a = ends.ask_adds s r v m g has a
  followed_left s r v Over g has a = leave_left s r v (L.table.standing v) g has refl

  asked_left : (s : LockState V) (r : ℕ) (v : V) (o : Option Mode) → good.lock s → slice_get s.views r ≡ Some v →
      L.table.standing v ≡ standing.Out → left s.words (slice_set s.views r (asked_if L.table v o)) ≤ left s.words s.views + most
  asked_left s r v None g has out = stays_left s r v has
  asked_left s r v (Some m) g has out = ends.ask_adds s r v m g has out

  module _ (h : TheWindow) (vs : List (WholeView V K)) (g : Good L good layout h vs) where
    abbrev state : SplitState V
    state = split_of L h vs g.modes g.past

    abbrev sides : List (WorkSide K)
    sides = map (work_side L.table) vs

    abbrev Goes : ℕ → WholeView V K → Type 0
    Goes r x = Lessens (whole_shard L home) left_of h vs r x

    works_set : (r : ℕ) (y : WholeView V K) → works_in (map (work_side L.table) (slice_set vs r y)) ≡ slice_set (works_in sides) r y.work
    works_set r y = ap works_in (map_set (work_side L.table) vs r y) ∙ map_set (λ (z : WorkSide K). z.work) sides r (work_side L.table y)

    module _ (r : ℕ) (x : WholeView V K) (has : slice_get vs r ≡ Some x) where
      has_side : slice_get (map side_of vs) r ≡ Some x.side
      has_side = get_map side_of vs r x has

      -- an atom of the lock that leaves less there
      lock_goes : (at : Atom) → side_atom L.table x.side ≡ Some at →
          split_left L.table left (moved L.table state r x.side at) < split_left L.table left state → Goes r x
      lock_goes at e less =
          let low : IsLow L.table.size at = lock_low V K L good further layout laws home h vs g r x has at e in
          let here : Atom = shifted L.base at in
          let k : ℕ = do_got here h.words h.cards in
          let got : k ≡ do_got at state.words state.cards = lock_got L at h.words h.cards low in
          let ef : Effect = effect_at (plan_home L.table (L.table.plan x.side.view)) (L.table.plan x.side.view) x.side.card k in
          let calm : is_work ef ≡ false = no_work (plan_home L.table (L.table.plan x.side.view)) (L.table.plan x.side.view) x.side.card k at e in
          let after : after_of L x k ≡ whole_turned L x (side_after L.table x.rank x.side k) = lock_turned L x (L.work.after x.rank x.work k) ef calm in
          let left_is : SideTurned V = side_after L.table x.rank x.side k in
          let y : WholeView V K = (whole_turned L x left_is).view in
          let went : left_is ≡ side_after L.table r x.side (do_got at state.words state.cards) =
          ap (λ n. side_after L.table n x.side k) (g.own r x has) ∙ ap (side_after L.table r x.side) got in
          let new_words : List ℕ = do_words at state.words in
          let new_sides : List (Side V) = slice_set (map side_of vs) r (side_after L.table r x.side (do_got at state.words state.cards)).side in
          let same_works : works_in (map (work_side L.table) (slice_set vs r y)) ≡ works_in sides =
          works_set r y ∙ set_same_get (works_in sides) r x.work
          (get_map (λ (z : WorkSide K). z.work) sides r (work_side L.table x) (get_map (work_side L.table) vs r x has)) in
          let framed : work_left (do_words here h.words) (works_in sides) ≡ work_left h.words (works_in sides) =
          work_ends.frame h.words (do_words here h.words) sides g.work_part (laid V K L good further layout laws home h vs g)
          (same_work L g.base_is g.behind_is at h.words low) in
          let work_is : work_left (do_words here h.words) (works_in (map (work_side L.table) (slice_set vs r y))) ≡ work_left h.words
          (works_in sides) = ap (work_left (do_words here h.words)) same_works ∙ framed in
          let lock_is : lock_left L.table left (lock_words L (do_words here h.words))
          (map side_of (slice_set vs r y)) ≡ lock_left L.table left new_words new_sides =
          ap (λ ws. lock_left L.table left ws (map side_of (slice_set vs r y))) (lock_words_made L at h.words low)
          ∙ ap (lock_left L.table left new_words) (map_set side_of vs r y ∙ ap (λ z. slice_set (map side_of vs) r z.side) went) in
          let w : ℕ = 4 * most + 1 in
          let all : left_of (do_atom r here h) (slice_set vs r y) ≡ w * work_left h.words (works_in sides) + lock_left L.table left new_words new_sides =
          ap (λ n. w * n + lock_left L.table left (lock_words L (do_words here h.words)) (map side_of (slice_set vs r y))) work_is
          ∙ ap (λ n. w * work_left h.words (works_in sides) + n) lock_is in
          record {
            atom = here;
            next = ap (λ o. lock_or_work L.base o (work_plan (L.table.standing x.side.view) (L.work.next x.rank x.work))) e;
            less = subst (λ t. left_of (do_atom r here h) (slice_set vs r t.view) < left_of h vs) (sym after)
                (subst (λ n. n < left_of h vs) (sym all) (lock_less w (work_left h.words (works_in sides))
                (lock_left L.table left state.words (map side_of vs)) (lock_left L.table left new_words new_sides) less));
          }

      -- an atom of the work, of a rank that may go
      work_goes : AllFree (map side_of vs) → Rests (L.table.standing x.side.view) → MayGo sides (work_side L.table x) → (at : Atom) →
          L.work.next x.rank x.work ≡ Some at → Goes r x
      work_goes quiet rests may at planned =
          let free : x.side.card ≡ Free = quiet r x.side has_side in
          let view_there : slice_get (map view_of (map side_of vs)) r ≡ Some x.side.view = get_map view_of (map side_of vs) r x.side has_side in
          let no_plan : L.table.plan x.side.view ≡ None = (laws.lock.rests (lock_of state) r x.side.view g.lock_part.lock view_there).1 rests in
          let none : side_atom L.table x.side ≡ None = ap (λ p. card_atom L.table p x.side.card) no_plan ∙ ap (card_atom L.table None) free in
          let k : ℕ = do_got at h.words h.cards in
          let w : Works L.work good.work h.words sides r (work_side L.table x) at =
          works_at V K L good further layout laws home h vs g r x has at rests planned in
          let t : Worked K = L.work.after r x.work k in
          let y : WholeView V K = record {
            side = record { view = followed L.table x.side.view t.follow; card = Free };
            kept = x.kept;
            rank = x.rank;
            work = t.work;
          } in
          let is_y : (after_of L x k).view ≡ y =
          ap (λ z. z.view) (after_work V K L good further layout laws home h vs g r x has none k)
          ∙ ap (λ n. (work_turned L x (L.work.after n x.work k)).view) (g.own r x has) in
          let on : IsOffLock L r at h.words h.cards = off_lock L g.base_is g.behind_is r at h.words h.cards
          (laws.work.plain h.words sides r (work_side L.table x) at w) in
          let follows = laws.work.follows h.words h.cards sides r (work_side L.table x) at w in
          let nears = work_ends.nears h.words h.cards sides r (work_side L.table x) at w may in
          let adds = quiet_turn L.table left state.words (map side_of vs) r most x.side y.side quiet has_side refl
          (followed_left (lock_of state) r x.side.view t.follow g.lock_part.lock view_there follows.0) in
          let m : ℕ = 4 * most + 1 in
          let all : left_of (do_atom r at h) (slice_set vs r y) ≡ m * work_left (do_words at h.words)
          (slice_set (works_in sides) r t.work) + lock_left L.table left state.words (slice_set (map side_of vs) r y.side) =
          ap (λ z. m * work_left (do_words at h.words) z + lock_left L.table left (lock_words L (do_words at h.words))
          (map side_of (slice_set vs r y))) (works_set r y)
          ∙ ap (λ z. m * work_left (do_words at h.words) (slice_set (works_in sides) r t.work) + lock_left L.table left z
          (map side_of (slice_set vs r y))) on.words
          ∙ ap (λ z. m * work_left (do_words at h.words) (slice_set (works_in sides) r t.work) + lock_left L.table left state.words z)
          (map_set side_of vs r y) in
          record {
            atom = at;
            next = ap (λ o. lock_or_work L.base o (work_plan (L.table.standing x.side.view) (L.work.next x.rank x.work))) none
                ∙ rests_next (L.table.standing x.side.view) (L.work.next x.rank x.work) rests ∙ planned;
            less = subst (λ z. left_of (do_atom r at h) (slice_set vs r z) < left_of h vs) (sym is_y)
                (subst (λ n. n < left_of h vs) (sym all)
                (work_less most (work_left h.words (works_in sides)) (work_left (do_words at h.words) (slice_set (works_in sides) r t.work))
                (lock_left L.table left state.words (map side_of vs))
                (lock_left L.table left state.words (slice_set (map side_of vs) r y.side)) nears adds));
          }

      goes_on : GoesOnAt (L.table.standing x.side.view) (L.work.is_open x.work) (L.work.next x.rank x.work)
      goes_on =
          subst (λ n. GoesOnAt (L.table.standing x.side.view) (L.work.is_open x.work) (L.work.next n x.work)) (sym (g.own r x has))
          (laws.work.goes_on h.words sides r (work_side L.table x) (work_at V K L good further layout laws home h vs g r x has))

      pub holder_works : AllFree (map side_of vs) → IsHolder (L.table.standing x.side.view) → Goes r x
      holder_works quiet holds =
          let n = some_next (L.work.next x.rank x.work) (holder_goes (L.table.standing x.side.view) (L.work.is_open x.work)
          (L.work.next x.rank x.work) holds goes_on) in
          work_goes quiet (holder_rests (L.table.standing x.side.view) holds) (inl holds) n.0 n.1

      pub out_works : AllFree (map side_of vs) → ((i : ℕ) (u : WholeView V K) → slice_get vs i ≡ Some u →
          L.table.standing u.side.view ≡ standing.Out) → L.work.is_open x.work ≡ true → Goes r x
      out_works quiet out in_block =
          let mine : L.table.standing x.side.view ≡ standing.Out = out r x has in
          let on : GoesOnAt standing.Out (L.work.is_open x.work) (L.work.next x.rank x.work) =
          subst (λ z. GoesOnAt z (L.work.is_open x.work) (L.work.next x.rank x.work)) mine goes_on in
          let n = some_next (L.work.next x.rank x.work) (on ∙ in_block) in
          let all : (i : ℕ) (u : WorkSide K) → slice_get sides i ≡ Some u → u.standing ≡ standing.Out =
          λ i u e. let back = get_map_back (work_side L.table) vs i u e in ap (λ (z : WorkSide K). z.standing) (sym back.2) ∙ out i back.0 back.1 in
          work_goes quiet (subst Rests (sym mine) tt) (inr all) n.0 n.1

      pub atom_leads : AtomNears L.table left state r → Goes r x
      atom_leads n =
          let same : n.side ≡ x.side = same_Some _ _ (sym n.has ∙ has_side) in
          lock_goes n.at (subst (λ z. side_atom L.table z ≡ Some n.at) same n.next)
          (subst (λ z. split_left L.table left (moved L.table state r z n.at) < split_left L.table left state) same n.less)

    abbrev Shut : Type 0
    Shut = AllShut (whole_shard L home) vs

    abbrev Somebody : Type 0
    Somebody = Shut ⊎ GoesOn (whole_shard L home) left_of h vs

    named : (r : ℕ) (x : WholeView V K) → slice_get vs r ≡ Some x → Goes r x → Somebody
    named r x has l = inr (record { rank = r; view = x; has = has; goes = l })

    all_out : AllFree (map side_of vs) → AllOut L.table (lock_of state) → Somebody
    all_out quiet out =
        let outs : (i : ℕ) (u : WholeView V K) → slice_get vs i ≡ Some u → L.table.standing u.side.view ≡ standing.Out =
        λ i u e. out i u.side.view (get_map view_of (map side_of vs) i u.side (get_map side_of vs i u e)) in
        ⊎_elim
        (λ s. named s.0 s.1 s.2 (out_works s.0 s.1 s.2 quiet outs s.3))
        (λ none. inl (λ r x e.
        ap (λ st. is_at_work st x.side.card || L.work.is_open x.work) (outs r x e)
        ∙ ap (λ c. is_at_work standing.Out c || L.work.is_open x.work) (quiet r x.side (get_map side_of vs r x e)) ∙ none r x e))
        (some_or_all (λ (x : WholeView V K). L.work.is_open x.work) vs)

    atom_goes : (r : ℕ) → AtomNears L.table left state r → Somebody
    atom_goes r n =
        let back = get_map_back side_of vs r n.side n.has in
        let x : WholeView V K = back.0 in
        named r x back.1 (atom_leads r x back.1 n)

    somebody : Somebody
    somebody =
        ⊎_elim
        (λ q. ⊎_elim
        (λ out. all_out q.0 out)
        (λ one.
        let r : ℕ = one.0 in
        let back = get_map_back side_of vs r one.1.side one.1.has in
        named r back.0 back.1 (holder_works r back.0 back.1 q.0 (subst (λ z. IsHolder (L.table.standing z.view)) (sym back.2) one.1.holder)))
        q.1)
        (λ one. atom_goes one.0 one.1)
        (split_goes V L.table good.lock further layout laws.lock left most ends state g.lock_part)

    -- a block that is opened where none is open
    module _ (shut : Shut) (r : ℕ) (x : WholeView V K) (has : slice_get vs r ≡ Some x) (calls : List Call) (seq : ℕ)
        (o : MayOpen (whole_shard L home) r x calls seq) where
      parts : (i : ℕ) (u : WholeView V K) → slice_get vs i ≡ Some u →
          (L.table.standing u.side.view ≡ standing.Out) × (u.side.card ≡ Free) × (L.work.is_open u.work ≡ false)
      parts i u e =
          let there : MayBe (Good L good layout) u = record { held = h; views = vs; rank = i; is_ruled = g; has = e } in
          closed_parts V K L good further layout laws home h vs i u g e (shut_is_none V K L good further layout laws home u there (shut i u e))

      opened : left_of h (slice_set vs r (opened_in L calls seq x)) ≤ left_of h vs + whole_most L left most work_left work_most
      opened =
          let y : WholeView V K = opened_in L calls seq x in
          let here = parts r x has in
          let quiet : AllFree (map side_of vs) = λ i u e. let back = get_map_back side_of vs i u e in
          ap (λ (z : Side V). z.card) (sym back.2) ∙ (parts i back.0 back.1).1 in
          let side_there : slice_get (map side_of vs) r ≡ Some x.side = get_map side_of vs r x has in
          let view_there : slice_get (map view_of (map side_of vs)) r ≡ Some x.side.view = get_map view_of (map side_of vs) r x.side side_there in
          let all : (i : ℕ) (u : WorkSide K) → slice_get sides i ≡ Some u → (u.standing ≡ standing.Out) × (L.work.is_open u.work ≡ false) =
          λ i u e.
          let back = get_map_back (work_side L.table) vs i u e in
          let p = parts i back.0 back.1 in (
            ap (λ (z : WorkSide K). z.standing) (sym back.2)
                ∙ p.0,
            ap (λ (z : WorkSide K). L.work.is_open z.work) (sym back.2) ∙ p.2,
          ) in
          let few : work_left h.words (slice_set (works_in sides) r (L.work.opens r x.work calls seq)) ≤ work_left h.words (works_in sides) + work_most =
          work_ends.open_adds h.words sides r (work_side L.table x) calls seq (work_at V K L good further layout laws home h vs g r x has) all o.fits o.takes in
          let works : works_in (map (work_side L.table) (slice_set vs r y)) ≡ slice_set (works_in sides) r (L.work.opens r x.work calls seq) =
          works_set r y ∙ ap (λ n. slice_set (works_in sides) r (L.work.opens n x.work calls seq)) (g.own r x has) in
          let adds = quiet_turn L.table left state.words (map side_of vs) r most x.side y.side quiet side_there here.1
          (asked_left (lock_of state) r x.side.view (L.work.asks calls) g.lock_part.lock view_there here.0) in
          let m : ℕ = 4 * most + 1 in
          let same : left_of h (slice_set vs r y) ≡ m * work_left h.words
          (slice_set (works_in sides) r (L.work.opens r x.work calls seq)) + lock_left L.table left state.words
          (slice_set (map side_of vs) r y.side) =
          ap (λ z. m * work_left h.words z + lock_left L.table left state.words (map side_of (slice_set vs r y))) works
          ∙ ap (λ z. m * work_left h.words (slice_set (works_in sides) r (L.work.opens r x.work calls seq)) + lock_left L.table left
          state.words z) (map_set side_of vs r y) in
          subst (λ n. n ≤ left_of h vs + whole_most L left most work_left work_most) (sym same)
          (open_more most (work_left h.words (works_in sides)) (work_left h.words (slice_set (works_in sides) r (L.work.opens r x.work calls seq))) work_most
          (lock_left L.table left state.words (map side_of vs)) (lock_left L.table left state.words (slice_set (map side_of vs) r y.side)) few adds)

  pub whole_ends : ShardEnds (whole_says L good further layout home) (whole_left L left most work_left) (whole_most L left most work_left work_most)
  whole_ends =
      record {
        somebody = λ m g. somebody m.held m.views g.rule;
        open_adds = λ m r x calls seq s shut o. opened m.held m.views s.is_good.rule shut r x s.has calls seq o;
      }
