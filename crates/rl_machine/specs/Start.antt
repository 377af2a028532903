-- The start of a machine, before the first step.
use Rattle.std.specs.Prelude.{ℕ, ◌+◌, List, [], ◌∷◌, length, map, replicate}
use Rattle.rl_model.specs.declared.call.Call.{Call}
use Rattle.rl_model.specs.declared.geom.Geom.{Geom}
use Rattle.rl_word.specs.Shapes.{TheShape}
use Rattle.rl_word.specs.declared.shapes.Knobs.{Knobs}
use Rattle.rl_step.specs.Answers.{no_steps}
use Rattle.rl_ops.specs.declared.ops.Ops.{Ops}
use Rattle.rl_ops.specs.declared.room.Room.{Room}
use Rattle.rl_ops.specs.Room.{calls_on, updates_on}
use Rattle.rl_site.specs.Site.{Site}
use Rattle.rl_machine.specs.Running.{ShardRun, Running}
use Rattle.rl_core.specs.ShardTables.{ShardTable, site_with, opening_held, first_views}

-- the site of shard s, where the ranks have these calls: each rank may make as many updates as it has calls for on the shard
abbrev pub site_of : Geom → List (List Call) → ℕ → Site
site_of geom calls s = site_with geom s (map (updates_on geom s) calls)

module _ {V : Type 0} where
  -- a shard with this table: its words are those of the empty table, all cards are free, no rank has opened a call, and each has room
  -- for the entries of its calls
  abbrev pub first_shard : ShardTable V → ℕ → List ℕ → ShardRun V
  first_shard T nodes rooms = record { table = T; held = opening_held T.site T.behind nodes; views = first_views T 0 rooms; trace = [] }

  -- a shard of a kind of core as it is defined, by the number of its home and its own, with the room that each rank has there
  abbrev pub first_shard_by : (TheShape → ℕ → Knobs → Site → ShardTable V) → TheShape → Knobs → ℕ → Geom → ℕ → Room → ShardRun V
  first_shard_by defined shape knobs home geom s room =
      first_shard (defined shape home knobs (site_with geom s room.updates.items)) shape.nodes room.calls.items

  -- the shard with this number, of this kind of table, for these calls
  abbrev pub first_shard_of : (Site → ShardTable V) → ℕ → Geom → List (List Call) → ℕ → ShardRun V
  first_shard_of table nodes geom calls s = first_shard (table (site_of geom calls s)) nodes (map (calls_on geom s) calls)

  -- the shards from one on, which have these homes, for a kind of table by the home of its shard
  abbrev pub first_shards : (ℕ → Site → ShardTable V) → ℕ → Geom → List (List Call) → ℕ → List ℕ → List (ShardRun V)
  first_shards tables nodes geom calls s [] = []
  first_shards tables nodes geom calls s (home ∷ homes) =
      first_shard_of (tables home) nodes geom calls s ∷ first_shards tables nodes geom calls (s + 1) homes

  -- the same for a kind of core as it is defined, with these settings, over the nodes of a shape, for what the ranks ask
  abbrev pub first_shards_of : (TheShape → ℕ → Knobs → Site → ShardTable V) → TheShape → Knobs → Geom → List ℕ → Ops → List (ShardRun V)
  first_shards_of defined shape knobs geom homes ops = first_shards (λ home. defined shape home knobs) shape.nodes geom ops.by_rank 0 homes

  -- the machine over so many nodes, whose shards have these homes and whose ranks have these calls, of these sizes
  abbrev pub start : (ℕ → Site → ShardTable V) → ℕ → Geom → List ℕ → List (List Call) → List (List ℕ) → Running V
  start tables nodes geom homes calls sizes =
      record {
        shards = first_shards tables nodes geom calls 0 homes;
        geom = geom;
        calls = calls;
        sizes = sizes;
        opened = replicate (length calls) 0;
        steps = no_steps;
      }

  -- the same for a kind of core as it is defined, with these settings, over the nodes of a shape, for what the ranks ask
  abbrev pub start_of : (TheShape → ℕ → Knobs → Site → ShardTable V) → TheShape → Knobs → Geom → List ℕ → Ops → Running V
  start_of defined shape knobs geom homes ops = start (λ home. defined shape home knobs) shape.nodes geom homes ops.by_rank ops.sizes
