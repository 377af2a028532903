-- Which atoms a rank's next one may be: those of cards only where the rank may make acts through cards.
use Rattle.std.specs.Prelude.{◌≡◌, ℕ, true, List, map, slice_get, Option, Some, None, refl}
use Rattle.std.proofs.Common.{sym, ap, subst, ⊎_elim}
use Rattle.std.proofs.lemmas.Option.{same_Some}
use Rattle.rl_word.specs.Acts.{word_of, by_card, Layout}
use Rattle.rl_word.specs.declared.acts.Act.{Act}
use Rattle.rl_word.specs.declared.acts.Act.TheVariants as act
use Rattle.rl_word.specs.declared.acts.Atom.{Atom}
use Rattle.rl_word.specs.declared.acts.Atom.TheVariants as atom
use Rattle.rl_step.specs.declared.events.Event.{Event}
use Rattle.rl_step.specs.Lock.{LockTable, LockState, LockLaws, Deed}
use Rattle.rl_word.specs.laws.Places.{get_map}
use Rattle.rl_rank.specs.declared.card_state.CardState.{CardState}
use Rattle.rl_rank.specs.declared.card_state.CardState.TheVariants.{Free, InCard, Loaded, ToLeave}
use Rattle.rl_rank.specs.declared.side.Side.{Side}
use Rattle.rl_step.specs.Core.{MayBe}
use Rattle.rl_rank.specs.Running.{LockAt, Goods, BothLaws}
use Rattle.rl_core.specs.Domains.{IsCardAtom, IsLocalAtom, IsLocalAct, UsesCards, UsesLocals}
use Rattle.rl_rank.specs.declared.whole.WholeView.{WholeView}
use Rattle.rl_rank.specs.Whole.{shifted, next_of, side_of, work_side, Good}
use Rattle.rl_rank.specs.laws.WholeLaws.{next_either, works_at}
use Rattle.rl_rank.specs.Split.{SplitState, LockGood, lock_of, view_of, side_atom, card_atom, card_in, first_at, home_of}
use Rattle.rl_work.specs.Ways.{WorkTable, IsWorkAtom}

module _ (V : Type 0) (T : LockTable V) (good : LockState V → Type 0) (further : List Event → List Deed → Type 0) (layout : Layout)
    (laws : LockLaws T good further layout) where
  -- the first atom of an act is of its kind
  first_kind : (home : ℕ) (a : Act) → (IsCardAtom (first_at home a) → by_card a ≡ true) × (IsLocalAtom (first_at home a) → IsLocalAct a)
  first_kind home (act.Load w) = (λ h. absurd h, λ h. h)
  first_kind home (act.Store w v) = (λ h. absurd h, λ h. h)
  first_kind home (act.LocalCas w old new) = (λ h. absurd h, λ h. tt)
  first_kind home (act.CardCas w old new) = (λ h. refl, λ h. h)
  first_kind home (act.CardSwap w v) = (λ h. refl, λ h. h)
  first_kind home (act.CardAdd w d) = (λ h. refl, λ h. h)

  at_atom : (s : SplitState V) (r : ℕ) (v : V) (p : Option Act) (h : CardState) (at : Atom) → LockGood T good layout s →
      slice_get s.sides r ≡ Some (record { view = v; card = h }) → T.plan v ≡ p → card_atom T p h ≡ Some at → IsCardAtom at →
      UsesCards T.may_make r
  at_atom s r v p (ToLeave n) at g has pl e c = g.domain r n (record { view = v; card = ToLeave n }) has refl
  at_atom s r v None Free at g has pl e c = cc
  at_atom s r v None InCard at g has pl e c = cc
  at_atom s r v None (Loaded k) at g has pl e c = cc
  at_atom s r v (Some a) Free at g has pl e c = (
    a,
    (first_kind (home_of T (word_of a)) a).0 (subst IsCardAtom (sym (same_Some _ _ e)) c),
    (laws.lawful (lock_of s) r v a (record {
      is_good = g.lock;
      has = get_map view_of s.sides r (record { view = v; card = Free }) has;
      planned = pl;
    })).1,
  )
  at_atom s r v (Some a) InCard at g has pl e c = g.domain r (home_of T (word_of a)) (record { view = v; card = InCard }) has (ap (λ q. card_in T q InCard) pl)
  at_atom s r v (Some a) (Loaded k) at g has pl e c = g.domain r (home_of T (word_of a)) (record { view = v; card = Loaded k }) has
      (ap (λ q. card_in T q (Loaded k)) pl)

  -- a rank whose next atom is one of a card may make acts through cards
  pub card_atom_allowed : (s : SplitState V) (r : ℕ) (x : Side V) (at : Atom) → LockGood T good layout s → slice_get s.sides r ≡ Some x →
      side_atom T x ≡ Some at → IsCardAtom at → UsesCards T.may_make r
  card_atom_allowed s r x at g has e c = at_atom s r x.view (T.plan x.view) x.card at g has refl e c

  local_at : (s : SplitState V) (r : ℕ) (v : V) (p : Option Act) (h : CardState) (at : Atom) → LockGood T good layout s →
      slice_get s.sides r ≡ Some (record { view = v; card = h }) → T.plan v ≡ p → card_atom T p h ≡ Some at → IsLocalAtom at →
      UsesLocals T.may_make r
  local_at s r v p (ToLeave n) at g has pl e c = absurd (subst IsLocalAtom (sym (same_Some _ _ e)) c)
  local_at s r v None Free at g has pl e c = cc
  local_at s r v None InCard at g has pl e c = cc
  local_at s r v None (Loaded k) at g has pl e c = cc
  local_at s r v (Some a) Free at g has pl e c = (
    a,
    (first_kind (home_of T (word_of a)) a).1 (subst IsLocalAtom (sym (same_Some _ _ e)) c),
    (laws.lawful (lock_of s) r v a (record {
      is_good = g.lock;
      has = get_map view_of s.sides r (record { view = v; card = Free }) has;
      planned = pl;
    })).1,
  )
  local_at s r v (Some a) InCard at g has pl e c = absurd (subst IsLocalAtom (sym (same_Some _ _ e)) c)
  local_at s r v (Some a) (Loaded k) at g has pl e c = absurd (subst IsLocalAtom (sym (same_Some _ _ e)) c)

  -- a rank whose next atom is a local compare-and-swap may make one
  pub local_atom_allowed : (s : SplitState V) (r : ℕ) (x : Side V) (at : Atom) → LockGood T good layout s → slice_get s.sides r ≡ Some x →
      side_atom T x ≡ Some at → IsLocalAtom at → UsesLocals T.may_make r
  local_atom_allowed s r x at g has e c = local_at s r x.view (T.plan x.view) x.card at g has refl e c

-- an atom of the work is neither
plain_neither : {K : Type 0} (T : WorkTable K) (at : Atom) → IsWorkAtom T at → (IsCardAtom at → ⊥) × (IsLocalAtom at → ⊥)
plain_neither T (atom.Load w) p = (λ c. c, λ c. c)
plain_neither T (atom.Store w v) p = (λ c. c, λ c. c)
plain_neither T (atom.LocalCas w old new) p = (λ c. c, λ c. p)
plain_neither T (atom.Take n) p = (λ c. p, λ c. c)
plain_neither T (atom.CardLoad w) p = (λ c. p, λ c. c)
plain_neither T (atom.CardStore w v) p = (λ c. p, λ c. c)
plain_neither T (atom.Leave n) p = (λ c. p, λ c. c)

-- and one that is moved by the lock's base is of the kind that it was
unshifted : (base : ℕ) (at : Atom) → (IsCardAtom (shifted base at) → IsCardAtom at) × (IsLocalAtom (shifted base at) → IsLocalAtom at)
unshifted base (atom.Load w) = (λ h. h, λ h. h)
unshifted base (atom.Store w v) = (λ h. h, λ h. h)
unshifted base (atom.LocalCas w old new) = (λ h. h, λ h. h)
unshifted base (atom.Take n) = (λ h. h, λ h. h)
unshifted base (atom.CardLoad w) = (λ h. h, λ h. h)
unshifted base (atom.CardStore w v) = (λ h. h, λ h. h)
unshifted base (atom.Leave n) = (λ h. h, λ h. h)

-- a rank's next atom of the whole machine
module _ (V K : Type 0) (L : LockAt V K) (good : Goods V K) (further : List Event → List Deed → Type 0) (layout : Layout)
    (laws : BothLaws L good further layout) (home : ℕ) where
  -- a kind of atoms, none of which is the work's, and that a rank's lock makes only where it may
  module _ (IsKind : Atom → Type 0) (Uses : ℕ → Type 0) (same : (at : Atom) → IsKind (shifted L.base at) → IsKind at)
      (no_work : (at : Atom) → IsWorkAtom L.work at → IsKind at → ⊥)
      (allowed : (s : SplitState V) (r : ℕ) (x : Side V) (at : Atom) → LockGood L.table good.lock layout s → slice_get s.sides r ≡ Some x →
      side_atom L.table x ≡ Some at → IsKind at → Uses r) where
    next_allowed : (x : WholeView V K) (at : Atom) → MayBe (Good L good layout) x → next_of L x ≡ Some at → IsKind at → Uses x.rank
    next_allowed x at m e c =
        ⊎_elim
        (λ q. subst Uses (sym (m.is_ruled.own m.rank x m.has)) (allowed _ m.rank x.side q.0 m.is_ruled.lock_part
        (get_map side_of m.views m.rank x m.has) q.1 (same q.0 (subst IsKind (sym q.2) c))))
        (λ q. absurd (no_work at (laws.work.plain m.held.words (map (work_side L.table) m.views) m.rank (work_side L.table x) at
        (works_at V K L good further layout laws home m.held m.views m.is_ruled m.rank x m.has at q.1 q.2)) c))
        (next_either V K L good further layout laws home x at e)

  pub next_card_allowed : (x : WholeView V K) (at : Atom) → MayBe (Good L good layout) x → next_of L x ≡ Some at → IsCardAtom at →
      UsesCards L.table.may_make x.rank
  next_card_allowed = next_allowed IsCardAtom (UsesCards L.table.may_make) (λ at. (unshifted L.base at).0)
      (λ at p. (plain_neither L.work at p).0) (card_atom_allowed V L.table good.lock further layout laws.lock)

  pub next_local_allowed : (x : WholeView V K) (at : Atom) → MayBe (Good L good layout) x → next_of L x ≡ Some at → IsLocalAtom at →
      UsesLocals L.table.may_make x.rank
  next_local_allowed = next_allowed IsLocalAtom (UsesLocals L.table.may_make) (λ at. (unshifted L.base at).1)
      (λ at p. (plain_neither L.work at p).1) (local_atom_allowed V L.table good.lock further layout laws.lock)
