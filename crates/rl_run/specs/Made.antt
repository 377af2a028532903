-- With which machine a run was made: what the report tells of each shard is what the ranks, each with this machine, leave there by what they do
-- in some order.
use Rattle.std.specs.Prelude.{◌≡◌, ℕ, List, length, map, slice_get, Some}
use Rattle.rl_word.specs.Shapes.{TheShape}
use Rattle.rl_word.specs.declared.shapes.Knobs.{Knobs}
use Rattle.rl_place.specs.Places.{ThePlace}
use Rattle.rl_place.specs.Shapes.{shape_of, knobs_of}
use Rattle.rl_ops.specs.declared.ops.Ops.{Ops}
use Rattle.rl_ops.specs.Room.{updates_on}
use Rattle.rl_report.specs.Reports.{TheReport}
use Rattle.rl_site.specs.Site.{Site}
use Rattle.rl_core.specs.ShardTables.{ShardTable, site_with}
use Rattle.rl_shard.specs.Reached.{IsLeftBehind}
use Rattle.rl_run.specs.Told.{ToldShard, report_of}

-- So many ranks with this machine leave this of their shard, on so many nodes: from the opening, in which each has some room for its entries, their
-- openings of blocks and their atoms come in some order to a state in which no block is open; and journal, transcripts, pairs and tallies are
-- those of this state.
pub record IsLeftBy {V : Type 0} (T : ShardTable V) (nodes ranks : ℕ) (e : ToldShard) : Type 0 where
  pub rooms : List ℕ
  pub each_rank : length rooms ≡ ranks
  pub left_behind : IsLeftBehind T nodes rooms e.journal e.transcripts e.pairs e.queues

-- This is the report of a run of all calls by ranks' machines that are defined so: of a shard for each home, which the ranks leave, each with the
-- machine of that home and of the places for updates that the ranks need there.
pub record IsRunBy {V : Type 0} (defined : TheShape → ℕ → Knobs → Site → ShardTable V) (place : ThePlace) (ops : Ops) (report : TheReport) : Type 0 where
  pub ends : List ToldShard
  pub report_is : report ≡ report_of ops ends
  pub all : length ends ≡ length place.homes
  pub each : (s home : ℕ) (e : ToldShard) → slice_get place.homes s ≡ Some home → slice_get ends s ≡ Some e →
      IsLeftBy (defined (shape_of place) home (knobs_of place.lock) (site_with place.geom s (map (updates_on place.geom s) ops.by_rank))) (shape_of place).nodes (length ops.by_rank) e
