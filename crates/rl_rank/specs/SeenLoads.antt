-- A load of the lock that was seen, and what it is to its rank while its word has the value that it had.
use Rattle.std.specs.Prelude.{◌≡◌, ℕ, ◌+◌, ◌^◌, ◌<◌, List, [], length, slice_index, Some}
use Rattle.rl_word.specs.declared.acts.Act.TheVariants.{Load}
use Rattle.rl_step.specs.Core.{MayBe}
use Rattle.rl_step.specs.Do.{TheWindow}
use Rattle.rl_core.specs.declared.round.Leg.{Leg}
use Rattle.rl_rank.specs.declared.card_state.CardState.TheVariants.{Free}
use Rattle.rl_rank.specs.declared.whole.WholeView.{WholeView}
use Rattle.rl_rank.specs.Running.{LockAt}

-- the view with another view of the lock, and all else as it was
abbrev pub with_lock : {V K : Type 0} → WholeView V K → V → WholeView V K
with_lock x v = record x { side = record { view = v; card = x.side.card } }

-- a rank with this view of the lock, in no card, may be there, on these words
pub record IsAtLoad {V K : Type 0} (rule : TheWindow → List (WholeView V K) → Type 0) (h : TheWindow) (v : V) : Type 0 where
  pub view : WholeView V K
  pub may : MayBe rule view
  pub held : may.held ≡ h
  pub is : view.side.view ≡ v
  pub free : view.side.card ≡ Free

-- the view v of the lock plans the load of the leg's word, which has its value here, and learns from it as the leg says
pub record IsSeenLoad {V K : Type 0} (L : LockAt V K) (h : TheWindow) (v : V) (leg : Leg V) : Type 0 where
  pub load : ℕ
  pub planned : L.table.plan v ≡ Some (Load load)
  pub word : leg.word ≡ L.base + load
  pub there : leg.word < length h.words
  pub shows : slice_index h.words leg.word ≡ leg.value
  pub fits : leg.value < 2 ^ 64
  pub view : (L.table.learn v leg.value).view ≡ leg.sight
  pub quiet : (L.table.learn v leg.value).events ≡ []
  pub waits : (L.table.learn v leg.value).waits ≡ leg.waits
