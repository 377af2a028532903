-- Who comes to count, volume and journal, the words before the lock's, on a shard that threads share.
use Rattle.std.specs.Prelude.{◌≡◌, ◌⊎◌, ◌≤◌, ◌<◌, ℕ, List, slice_get, Some}
use Rattle.rl_word.specs.declared.acts.Atom.{Atom}
use Rattle.rl_word.specs.declared.acts.Atom.TheVariants as atom
use Rattle.rl_model.specs.declared.call.Call.{Call}
use Rattle.rl_step.specs.declared.events.Standing.{Standing}
use Rattle.rl_step.specs.declared.events.Standing.TheVariants.{Asking, Writer}
use Rattle.rl_step.specs.Lock.{IsHolder}
use Rattle.rl_site.specs.Site.{lock_base}
use Rattle.rl_site.specs.Opens.{IsGetAlone}
use Rattle.rl_core.specs.Touches.{NamesWord}
use Rattle.rl_core.specs.ShardTables.{ShardTable}
use Rattle.rl_shard.specs.declared.counting.CountedView.{CountedView}
use Rattle.rl_shard.specs.Counting.{standing_of}

-- a rank stores there only as a writer, and loads there as a holder, or with a get alone open for which it isn't at the lock
abbrev pub NamesAs : ℕ → Atom → Standing → List Call → Type 0
NamesAs base (atom.Load w) st calls = w < base → IsHolder st ⊎ ((st ≡ Asking) × IsGetAlone calls)
NamesAs base (atom.Store w n) st calls = w < base → st ≡ Writer
NamesAs base (atom.LocalCas w old new) st calls = base ≤ w
NamesAs base (atom.Take n) st calls = Unit {0}
NamesAs base (atom.CardLoad w) st calls = base ≤ w
NamesAs base (atom.CardStore w n) st calls = base ≤ w
NamesAs base (atom.Leave n) st calls = Unit {0}

module _ {V : Type 0} (T : ShardTable V) where
  -- with its next atom a rank of this view comes there so
  abbrev pub ComesAs : CountedView V → Type 0
  ComesAs x = (at : Atom) → T.core.next x.whole ≡ Some at → NamesAs (lock_base T.site) at (standing_of T x) (T.own x.whole).calls

  -- and each rank does
  abbrev pub AllComeAs : List (CountedView V) → Type 0
  AllComeAs vs = (r : ℕ) (x : CountedView V) → slice_get vs r ≡ Some x → ComesAs x

  -- the rank's next atom names a word there
  abbrev pub ComesThere : CountedView V → Type 0
  ComesThere x = (at : Atom) × (k : ℕ) × (T.core.next x.whole ≡ Some at) × NamesWord at k × (k < lock_base T.site)

  -- it stores to one
  abbrev pub StoresThere : CountedView V → Type 0
  StoresThere x = (w : ℕ) × (n : ℕ) × (T.core.next x.whole ≡ Some (atom.Store w n)) × (w < lock_base T.site)

  -- while one rank's next atom stores there, no other rank's next atom comes there, but for that of a get alone
  abbrev pub OneStores : List (CountedView V) → Type 0
  OneStores vs =
      (i j : ℕ) (x y : CountedView V) → slice_get vs i ≡ Some x → slice_get vs j ≡ Some y → StoresThere x → ComesThere y →
      (i ≡ j) ⊎ IsGetAlone (T.own y.whole).calls
