-- What it comes to that count, volume and journal are guarded: they change only by an atom of a writer that is told; and while a rank is about
-- to store there, no other rank's next atom names a word there, but for one of a get alone.
use Rattle.std.specs.Prelude.{◌≡◌, ◌⊎◌, ℕ, zero, suc, ◌<◌, ◌≤◌, ◌==◌, Bool, true, false, List, [], ◌∷◌, map, take, slice_get, slice_index, slice_set, if◌then◌else◌, nat_lt, Some, refl}
use Rattle.std.proofs.Common.{sym, ◌∙◌, ap, subst, inl, inr, ⊎_elim, arith}
use Rattle.std.proofs.lemmas.Bool.Decides.{nat_tests}
use Rattle.rl_word.specs.laws.Places.{get_map}
use Rattle.rl_word.specs.declared.acts.Atom.{Atom}
use Rattle.rl_word.specs.declared.acts.Atom.TheVariants as atom
use Rattle.rl_model.specs.declared.call.Call.{Call}
use Rattle.rl_step.specs.declared.events.Event.{Event}
use Rattle.rl_step.specs.declared.events.Standing.{Standing}
use Rattle.rl_step.specs.declared.events.Standing.TheVariants.{Out, Asking, Writer, Reader, Leaving}
use Rattle.rl_step.specs.Lock.{IsHolder}
use Rattle.rl_site.specs.Site.{lock_base}
use Rattle.rl_site.specs.Opens.{IsGetAlone}
use Rattle.rl_core.specs.Touches.{StoresGuarded, IsGuarded, ChangesGuarded, NamesWord}
use Rattle.rl_core.specs.Standings.{AloneIn}
use Rattle.rl_core.specs.ShardTables.{turned_by}
use Rattle.rl_core.specs.Moments.{Moment, CoreSays}
use Rattle.rl_core.specs.ShardLaws.{IsNext, ShardCoreLaws}

take_past : (n : ℕ) (l : List ℕ) (i v : ℕ) → n ≤ i → take n (slice_set l i v) ≡ take n l
take_past zero l i v h = refl
take_past (suc n) [] i v h = refl
take_past (suc n) (x ∷ xs) zero v h = absurd (omega arith)
take_past (suc n) (x ∷ xs) (suc i) v h = ap (λ z. x ∷ z) (take_past n xs i v (omega arith))

pub only_writers : (base r : ℕ) (at : Atom) (st : Standing) (calls : List Call) (es : List Event) (ws : List ℕ) →
    IsGuarded base r at st calls es → ChangesGuarded base r at st es ws
only_writers base r (atom.Load w) st calls es ws g = inl refl
only_writers base r (atom.Store w v) st calls es ws g =
    elim (nat_lt w base) as (λ b. nat_lt w base ≡ b → ChangesGuarded base r (atom.Store w v) st es ws) [
      | true ↦ λ is. let under : w < base = grind (arith, nat_tests) in inr (g.0 under)
      | false ↦ λ is. let past : base ≤ w = grind (arith, nat_tests) in inl (take_past base ws w v past)
    ] refl
only_writers base r (atom.LocalCas w old new) st calls es ws g = inl (either (slice_index ws w == old)) where
  either : (b : Bool) → take base (if b then slice_set ws w new else ws) ≡ take base ws
  either true = take_past base ws w new g.0
  either false = refl
only_writers base r (atom.Take n) st calls es ws g = inl refl
only_writers base r (atom.CardLoad w) st calls es ws g = inl refl
only_writers base r (atom.CardStore w v) st calls es ws g = inl (take_past base ws w v g.0)
only_writers base r (atom.Leave n) st calls es ws g = inl refl

-- who names a guarded word holds the lock, or has a get alone open
holds_there : (base r k : ℕ) (at : Atom) (st : Standing) (calls : List Call) (es : List Event) → IsGuarded base r at st calls es →
    NamesWord at k → k < base → IsHolder st ⊎ IsGetAlone calls
holds_there base r k (atom.Load w) st calls es g n low = ⊎_elim (λ q. inl q.0) (λ q. inr q.1) (g.0 (omega arith))
holds_there base r k (atom.Store w v) st calls es g n low = let q = g.0 (omega arith) in inl (subst IsHolder (sym q.0) tt)
holds_there base r k (atom.LocalCas w old new) st calls es g n low = absurd (let past = g.0 in omega arith)
holds_there base r k (atom.Take m) st calls es g n low = absurd n
holds_there base r k (atom.CardLoad w) st calls es g n low = absurd (let past = g.0 in omega arith)
holds_there base r k (atom.CardStore w v) st calls es g n low = absurd (let past = g.0 in omega arith)
holds_there base r k (atom.Leave m) st calls es g n low = absurd n

-- beside a writer nobody else holds the lock
pub beside : (sts : List Standing) (i j : ℕ) (st : Standing) → AloneIn sts → slice_get sts i ≡ Some Writer → slice_get sts j ≡ Some st → IsHolder st → i ≡ j
beside sts i j Out a p q h = absurd h
beside sts i j Asking a p q h = absurd h
beside sts i j Writer a p q h = a.one i j p q
beside sts i j Reader a p q h = absurd (a.none i j p q)
beside sts i j Leaving a p q h = absurd h

module _ {V : Type 0} (S : CoreSays V) (laws : ShardCoreLaws S) where
  pub alone_there : (m : Moment V) (i j w n k : ℕ) (v u : V) (b : Atom) → IsNext S m i v (atom.Store w n) → w < lock_base S.table.site →
      IsNext S m j u b → NamesWord b k → k < lock_base S.table.site →
      (i ≡ j) ⊎ IsGetAlone (S.table.own u).calls
  alone_there m i j w n k v u b first under second names low =
      let T = S.table in
      let stores : StoresGuarded i (T.standing v) (turned_by T m.held v (atom.Store w n)).events = (laws.guards m i v (atom.Store w n) first).0 under in
      ⊎_elim
      (λ holds.
      inl (beside (map T.standing m.views) i j (T.standing u) (laws.alone_in m first.seated.is_good)
      (get_map T.standing m.views i v first.seated.has ∙ ap (λ z. Some z) stores.0)
      (get_map T.standing m.views j u second.seated.has) holds))
      (λ alone. inr alone)
      (holds_there (lock_base T.site) j k b (T.standing u) (T.own u).calls _ (laws.guards m j u b second) names low)
