-- How many words of the volume a rank loads for a call.
use Rattle.std.specs.Prelude.{◌≡◌, ◌<◌, ℕ, [], ◌∷◌, length}
use Rattle.rl_model.specs.declared.call.Call.{Call}
use Rattle.rl_volume.specs.Walk.{most_reads}
use Rattle.rl_work.specs.declared.stage.Stage.TheVariants.{Read}
use Rattle.rl_work.specs.Work.{TheWork}
use Rattle.rl_core.specs.Moments.{CoreSays}
use Rattle.rl_rank.specs.declared.whole.WholeView.{WholeView}
use Rattle.rl_shard.specs.declared.shard.Shard.{Shard}
use Rattle.rl_shard.specs.declared.seat.Seat.{Seat}
use Rattle.rl_shard.specs.Shards.{IsOf, table_at, view_at}

-- A seat that is to load a word of the volume for a call alone, inside the lock, has loaded fewer words for it than the call can want: of
-- a get fewer than 3 + 2 * overflow. So it loads no more for it.
abbrev pub LoadsFew : {C V : Type 0} → (C → CoreSays (WholeView V TheWork)) → Shard C (WholeView V TheWork) → Type 0
LoadsFew says shard =
    (s : Seat _ _) (call : Call) (count word : ℕ) → IsOf says shard s → (view_at s).work.calls ≡ call ∷ [] → (view_at s).work.stage ≡ Read count word
    → length (view_at s).work.seen.pairs < most_reads (table_at says shard).site.geom call
