-- What an atom does to the ranks' work: of each rank its block goes on, or is done, and then its entries join the transcript.
use Rattle.std.specs.Prelude.{◌≡◌, ℕ, List, map, slice_get, slice_set, Some, None}
use Rattle.std.proofs.Common.{sym, ◌∙◌, ap, subst, inl, ⊎_elim}
use Rattle.rl_word.specs.laws.Places.{get_map, map_set, get_set_cases, one_at}
use Rattle.rl_word.specs.Acts.{Layout}
use Rattle.rl_word.specs.declared.acts.Atom.{Atom}
use Rattle.rl_step.specs.declared.events.Event.{Event}
use Rattle.rl_step.specs.Lock.{Deed, Rests}
use Rattle.rl_step.specs.Do.{TheWindow, do_got, do_words}
use Rattle.rl_work.specs.Ways.{Worked, SameWork, Works, look, own_look, side_after}
pub use Rattle.rl_work.specs.Ways.{Look, BlockGoesOn, EndsWork, AtomWork}
use Rattle.rl_rank.specs.Running.{LockAt, Goods, BothLaws}
use Rattle.rl_rank.specs.declared.whole.WholeView.{WholeView}
use Rattle.rl_rank.specs.Split.{side_atom}
use Rattle.rl_rank.specs.laws.Bridge.{same_work}
use Rattle.rl_rank.specs.Whole.{work_side, shifted, followed, next_of, after_of, Good}
use Rattle.rl_rank.specs.laws.Whole.{look_of}
use Rattle.rl_rank.specs.laws.WholeLaws.{next_either, works_at, lock_low, work_at, own_after, after_work, after_lock, followed_stands}

-- looks that are one
pub same_looks : (shard rank : ℕ) (a b : Look) → b ≡ a → AtomWork shard rank a b
same_looks shard rank a b e =
    inl (record {
      same_calls = ap (λ (z : Look). z.calls) e;
      same_seq = ap (λ (z : Look). z.seq) e;
      same_items = ap (λ (z : Look). z.items) e;
      same_room = ap (λ (z : Look). z.room) e;
      owes = ap (λ (z : Look). z.owes) e;
    })

module _ (V K : Type 0) (L : LockAt V K) (good : Goods V K) (further : List Event → List Deed → Type 0) (layout : Layout)
    (laws : BothLaws L good further layout) (home : ℕ) where
  module _ (h : TheWindow) (vs : List (WholeView V K)) (r : ℕ) (x : WholeView V K) (at : Atom) (g : Good L good layout h vs)
      (has : slice_get vs r ≡ Some x) (e : next_of L x ≡ Some at) where
    abbrev after : WholeView V K
    after = (after_of L x (do_got at h.words h.cards)).view

    -- an atom of the lock leaves the rank's work, and what it says of all ranks
    lock_case : (b : Atom) → side_atom L.table x.side ≡ Some b → shifted L.base b ≡ at → (k : ℕ) (u w : WholeView V K) →
        slice_get vs k ≡ Some u → slice_get (slice_set vs r after) k ≡ Some w →
        look_of L (do_words at h.words) w ≡ look_of L h.words u
    lock_case b is same k u w was now =
        let kept : (x.rank ≡ after.rank) × (x.work ≡ after.work) = after_lock V K L good further layout laws home x b at (do_got at h.words h.cards) is in
        let low = lock_low V K L good further layout laws home h vs g r x has b is in
        let others : SameWork L.work h.words (do_words at h.words) =
        subst (λ z. SameWork L.work h.words (do_words z h.words)) same (same_work L g.base_is g.behind_is b h.words low) in
        let seen : look L.work (do_words at h.words) k u.work ≡ look L.work h.words k u.work =
        laws.work.same_look h.words (do_words at h.words) (map (work_side L.table) vs) k (work_side L.table u)
        (work_at V K L good further layout laws home h vs g k u was) others in
        let named : u.rank ≡ k = g.own k u was in
        let stays : look_of L (do_words at h.words) u ≡ look_of L h.words u = ap (λ n. look L.work (do_words at h.words) n u.work) named
        ∙ seen ∙ ap (λ n. look L.work h.words n u.work) (sym named) in
        ⊎_elim
        (λ q.
        let here : x ≡ u = one_at vs r x u has (ap (slice_get vs) (sym q.0) ∙ was) in
        ap (look_of L (do_words at h.words)) q.1 ∙ ap (λ n. look L.work (do_words at h.words) n after.work) (sym kept.0)
        ∙ ap (look L.work (do_words at h.words) x.rank) (sym kept.1)
        ∙ ap (look_of L (do_words at h.words)) here ∙ stays)
        (λ q. ap (look_of L (do_words at h.words)) (one_at vs k w u q.1 was) ∙ stays)
        (get_set_cases vs r k after w now)

    -- an atom of the work
    module _ (none : side_atom L.table x.side ≡ None) (rests : Rests (L.table.standing x.side.view)) (planned : L.work.next x.rank x.work ≡ Some at) where
      works : Works L.work good.work h.words (map (work_side L.table) vs) r (work_side L.table x) at
      works = works_at V K L good further layout laws home h vs g r x has at rests planned

      named_x : x.rank ≡ r
      named_x = g.own r x has

      abbrev turned : ℕ → Worked K
      turned n = L.work.after n x.work (do_got at h.words h.cards)

      after_is : after ≡ record { side = after.side; kept = after.kept; rank = x.rank; work = (turned x.rank).work }
      after_is =
          let q = after_work V K L good further layout laws home h vs g r x has none (do_got at h.words h.cards) in
          ap (λ t. record { side = after.side; kept = after.kept; rank = t.view.rank; work = t.view.work }) q

      stands : side_after L.work r (work_side L.table x) (do_got at h.words h.cards) ≡ work_side L.table after
      stands =
          let asks = (laws.work.follows h.words h.cards (map (work_side L.table) vs) r (work_side L.table x) at works).0 in
          let q = after_work V K L good further layout laws home h vs g r x has none (do_got at h.words h.cards) in
          ap (λ st. record { standing = st; work = (turned r).work })
          (sym (followed_stands L.table good.lock further layout laws.lock x.side.view (turned r).follow asks))
          ∙ ap (λ n. record { standing = L.table.standing (followed L.table x.side.view (turned n).follow); work = (turned n).work }) (sym named_x)
          ∙ ap (λ t. work_side L.table t.view) (sym q)

      work_case : (k : ℕ) (u w : WholeView V K) → slice_get vs k ≡ Some u → slice_get (slice_set vs r after) k ≡ Some w →
          AtomWork L.work.site.shard k (look_of L h.words u) (look_of L (do_words at h.words) w)
      work_case k u w was now =
          let before : u.rank ≡ k = g.own k u was in
          let behind : w.rank ≡ k = own_after vs r x after g.own has (ap (λ z. z.rank) after_is) k w now in
          let there : slice_get (slice_set (map (work_side L.table) vs) r
          (side_after L.work r (work_side L.table x) (do_got at h.words h.cards))) k ≡ Some (work_side L.table w) =
          ap (λ z. slice_get (slice_set (map (work_side L.table) vs) r z) k) stands
          ∙ ap (λ z. slice_get z k) (sym (map_set (work_side L.table) vs r after))
          ∙ get_map (work_side L.table) (slice_set vs r after) k w now in
          subst (λ n. AtomWork L.work.site.shard k (look L.work h.words n u.work) (look_of L (do_words at h.words) w)) (sym before)
          (subst (λ n. AtomWork L.work.site.shard k (look L.work h.words k u.work) (look L.work (do_words at h.words) n w.work)) (sym behind)
          (laws.work.changes h.words h.cards (map (work_side L.table) vs) r (work_side L.table x) at works k (work_side L.table u)
          (work_side L.table w) (get_map (work_side L.table) vs k u was) there))

      turn_case : AtomWork L.work.site.shard r (own_look L.work x.work) (own_look L.work after.work)
      turn_case =
          subst (λ z. AtomWork L.work.site.shard r (own_look L.work x.work) (own_look L.work z))
          (ap (λ n. (turned n).work) (sym named_x) ∙ ap (λ z. z.work) (sym after_is))
          (laws.work.turns h.words h.cards (map (work_side L.table) vs) r (work_side L.table x) at works)

    -- of each rank
    pub atom_work : (k : ℕ) (u w : WholeView V K) → slice_get vs k ≡ Some u → slice_get (slice_set vs r after) k ≡ Some w →
        AtomWork L.work.site.shard k (look_of L h.words u) (look_of L (do_words at h.words) w)
    atom_work k u w was now =
        ⊎_elim
        (λ q. same_looks L.work.site.shard k (look_of L h.words u) (look_of L (do_words at h.words) w) (lock_case q.0 q.1 q.2 k u w was now))
        (λ q. work_case q.0 q.1 q.2 k u w was now)
        (next_either V K L good further layout laws home x at e)

    -- and of the rank that makes it, by what it keeps itself
    pub atom_turn : AtomWork L.work.site.shard r (own_look L.work x.work) (own_look L.work after.work)
    atom_turn =
        ⊎_elim
        (λ q. same_looks L.work.site.shard r (own_look L.work x.work) (own_look L.work after.work)
        (ap (own_look L.work) (sym (after_lock V K L good further layout laws home x q.0 at (do_got at h.words h.cards) q.1).1)))
        (λ q. turn_case q.0 q.1 q.2)
        (next_either V K L good further layout laws home x at e)
