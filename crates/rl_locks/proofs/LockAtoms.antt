-- Over any lock: no atom of the lock loads a word of the volume, and a rank that rests at the lock makes the atoms of its work.
use Rattle.std.proofs.Common.{◌≡◌, ◌+◌, ◌<◌, ℕ, List, slice_get, Some, sym, ◌∙◌, ⊎_elim, arith}
use Rattle.std.proofs.lemmas.Option.{same_Some}
use Rattle.rl_word.specs.Acts.{Layout}
use Rattle.rl_word.specs.declared.acts.Atom.{Atom}
use Rattle.rl_word.specs.declared.acts.Atom.TheVariants.{Load, Store, LocalCas, Take, CardLoad, CardStore, Leave}
use Rattle.rl_step.specs.declared.events.Event.{Event}
use Rattle.rl_step.specs.Lock.{Deed, Rests}
use Rattle.rl_volume.specs.Words.{volume_words}
use Rattle.rl_site.specs.Site.{Site, volume_base, lock_base}
use Rattle.rl_core.specs.Moments.{Moment}
use Rattle.rl_rank.specs.declared.whole.WholeView.{WholeView}
use Rattle.rl_rank.specs.Running.{LockAt, Goods, BothLaws}
use Rattle.rl_rank.specs.Whole.{shifted, next_of, after_of, work_turned}
use Rattle.rl_rank.specs.WholeShards.{stand, WholeGood}
use Rattle.rl_rank.specs.laws.AtWork.{resting, after_none}

-- the lock's words lie behind the volume
pub loads_of_lock : (site : Site) (base : ℕ) → base ≡ lock_base site → (b : Atom) (word : ℕ) → word < volume_words site.geom → shifted base b ≡ Load (volume_base + word) → ⊥
loads_of_lock site base there (Load w) word low e = let same : base + w ≡ volume_base + word = (cc) in omega arith
loads_of_lock site base there (Store w v) word low e = absurd (cc)
loads_of_lock site base there (LocalCas w old new) word low e = absurd (cc)
loads_of_lock site base there (Take n) word low e = absurd (cc)
loads_of_lock site base there (CardLoad w) word low e = absurd (cc)
loads_of_lock site base there (CardStore w v) word low e = absurd (cc)
loads_of_lock site base there (Leave n) word low e = absurd (cc)

-- all but one that leaves a card
pub works_at_rest : (V K : Type 0) (L : LockAt V K) (good : Goods V K) (further : List Event → List Deed → Type 0) (layout : Layout) (laws : BothLaws L good further layout) (home : ℕ)
    (m : Moment (WholeView V K)) (g : WholeGood L good layout m) (r : ℕ) (x : WholeView V K) → slice_get m.views r ≡ Some x → Rests (stand L.table x) →
    (at : Atom) → ((n : ℕ) → at ≡ Leave n → ⊥) → next_of L x ≡ Some at → (got : ℕ) → after_of L x got ≡ work_turned L x (L.work.after r x.work got)
works_at_rest V K L good further layout laws home m g r x has rests at stays next got =
    ⊎_elim
    (λ none. after_none V K L good further layout laws home m g r x has none got)
    (λ q. absurd (stays q.0 (same_Some _ _ (sym next ∙ q.1))))
    (resting V K L good further layout laws home m g r x has rests)
