-- Who goes on at a shard that has no dead end, above the wall: the chosen rank's next atom leaves less to do.
use Rattle.std.specs.Prelude.{ℕ, List}
use Rattle.rl_step.specs.Do.{TheWindow}
use Rattle.rl_ending.specs.Guiding.{UrgencyOf, IsChosen, NoneUrgent}
use Rattle.rl_core.specs.ShardTables.{AllShut}
use Rattle.rl_core.specs.Moments.{Moment, CoreSays}
use Rattle.rl_core.specs.ShardLaws.{IsSeated}
use Rattle.rl_core.specs.ShardEnding.{LeftOf, Lessens}

-- The laws of a shard that says who goes on: at its good moments the chosen rank's next atom leaves less, and where nobody is urgent no block
-- is open.
pub record ShardGuides {V : Type 0} (S : CoreSays V) (left : TheWindow → List V → ℕ) (urgent : UrgencyOf V) : Type 0 where
  pub goes : (m : Moment V) (r : ℕ) (v : V) → IsSeated S m r v → IsChosen (urgent m.held.words) m.views r → Lessens S.table left m.held m.views r v
  pub rest : (m : Moment V) → S.good m → NoneUrgent (urgent m.held.words) m.views → AllShut S.table m.views

-- of all cores of a kind: how urgently a rank goes on at a core's shard; and each core keeps the laws
abbrev pub UrgentOf : Type 0 → Type 0 → Type 0
UrgentOf C V = C → UrgencyOf V

abbrev pub GuidesOf : {C V : Type 0} → (C → CoreSays V) → LeftOf C V → UrgentOf C V → Type 0
GuidesOf says left urgent = (c : _) → ShardGuides (says c) (left c) (urgent c)
