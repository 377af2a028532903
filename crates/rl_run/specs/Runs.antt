-- A run from its shards: how seats and callers begin, and what is known when all callers are done.
use Rattle.std.specs.Prelude.{◌≡◌, ℕ, ◌+◌, List, [], ◌∷◌, All, length, map, count_by, get_or, slice_get, Some, vec_items}
use Rattle.std.specs.Global.{Vec}
use Rattle.rl_word.specs.Shapes.{TheShape}
use Rattle.rl_word.specs.declared.shapes.Knobs.{Knobs}
use Rattle.rl_model.specs.declared.call.Call.{Call}
use Rattle.rl_model.specs.declared.entry.Entry.{Entry}
use Rattle.rl_model.specs.declared.geom.Geom.{Geom}
use Rattle.rl_core.specs.ShardTables.{ShardTable, site_with}
use Rattle.rl_core.specs.Moments.{CoreSays}
use Rattle.rl_place.specs.Places.{ThePlace}
use Rattle.rl_place.specs.Shapes.{shape_of, knobs_of}
use Rattle.rl_ops.specs.declared.ops.Ops.{Ops}
use Rattle.rl_ops.specs.Room.{updates_on}
use Rattle.rl_journal.specs.Ranks.{IsRankInOrder}
use Rattle.rl_core.specs.Asks.{is_on, asked_of}
use Rattle.rl_core.specs.RankGood.{entries_in}
use Rattle.rl_site.specs.Site.{Site}
use Rattle.rl_shard.specs.declared.closed.Closed.{Closed}
use Rattle.rl_shard.specs.declared.shard.Shard.{Shard}
use Rattle.rl_shard.specs.declared.seat.Seat.{Seat}
use Rattle.rl_shard.specs.Shards.{IsShardOf, IsOf, IsClosed, AreClosed, says_at, table_at, desk_at, entries_at, rank_at}
use Rattle.rl_shard.specs.Ends.{IsEnd, transcripts_of}
use Rattle.rl_run.specs.declared.caller.Caller.{Caller}
use Rattle.rl_run.specs.Rows.{IsGrid, AreEnded}
use Rattle.rl_run.specs.Calling.{IsReadyAt}
use Rattle.rl_run.specs.Callers.{who, seats_of, asks_of, seats_say, IsCaller}
use Rattle.rl_run.specs.Told.{ToldShard}

-- what a closed shard tells
abbrev pub told : Closed → ToldShard
told e = record { journal = e.journal.items; transcripts = map vec_items e.transcripts.items; pairs = e.pairs.items; queues = e.queues.items }

-- what a table is made of, for ranks with these calls: its shape, the settings of its lock, its size, and the homes of its shards
pub record TableFor : Type 0 where
  pub shape : TheShape
  pub knobs : Knobs
  pub geom : Geom
  pub homes : List ℕ
  pub calls : List (List Call)

abbrev pub table_for : TheShape → Knobs → Geom → List ℕ → List (List Call) → TableFor
table_for shape knobs geom homes calls = record { shape = shape; knobs = knobs; geom = geom; homes = homes; calls = calls }

-- that of a placement, for all calls
abbrev pub table_of : ThePlace → Ops → TableFor
table_of place ops = table_for (shape_of place) (knobs_of place.lock) place.geom place.homes ops.by_rank

-- the site of a shard, which has the places for the ranks' updates
abbrev pub site_in : TableFor → ℕ → Site
site_in K s = site_with K.geom s (map (updates_on K.geom s) K.calls)

-- what each rank's caller is made of: the ranks are numbered from one on
abbrev pub wanted : {T : Type 0} → Geom → ℕ → List (List Call) → List (List ℕ) → List (List T) → List ((ℕ × List Call × List ℕ × Geom) × List T)
wanted geom r [] sizes rows = []
wanted geom r (c ∷ calls) [] rows = []
wanted geom r (c ∷ calls) (s ∷ sizes) [] = []
wanted geom r (c ∷ calls) (s ∷ sizes) (row ∷ rows) = ((r, c, s, geom), row) ∷ wanted geom (r + 1) calls sizes rows

module _ {C V : Type 0} where
  abbrev pub made_of : Caller C V → (ℕ × List Call × List ℕ × Geom) × List (Seat C V)
  made_of c = (who c, seats_of c)

  -- the callers are made of these calls, sizes and rows of seats
  abbrev pub AreMadeOf : Geom → Vec (Vec Call) → Vec (Vec ℕ) → Vec (Vec (Seat C V)) → Vec (Caller C V) → Type 0
  AreMadeOf geom calls sizes rows cs = map made_of cs.items ≡ wanted geom 0 (map vec_items calls.items) (map vec_items sizes.items) (map vec_items rows.items)

  module _ (says : C → CoreSays V) where
    -- a seat of the rank at which nothing was done, with room for the rank's calls there
    pub record IsNewSeat (K : TableFor) (w : Shard C V) (r : ℕ) (t : Seat C V) : Type 0 where
      pub rank : rank_at t ≡ r
      pub is : IsOf says w t
      pub closed : IsClosed says w t
      pub nothing : entries_at says w t ≡ []
      pub room : (desk_at says w t).kept.room ≡ count_by (is_on K.geom (table_at says w).site.shard) (get_or K.calls r [])

    -- the rank's seat at a shard, with no open block
    abbrev pub IsShutSeat : Shard C V → ℕ → Seat C V → Type 0
    IsShutSeat w r t = (rank_at t ≡ r) × IsOf says w t × IsClosed says w t

    -- a caller may work on any shards on which it is ready
    abbrev pub CallerMayWork : Caller C V → Type 0
    CallerMayWork c = (shards : List (Shard C V)) → IsReadyAt (seats_say says) shards (asks_of c) c.seats.items → IsCaller says shards c

  module _ (defined : TheShape → ℕ → Knobs → Site → ShardTable V) (says : C → CoreSays V) where
    -- a shard of a table that was just made: its core is that of its home and its site, which has the ranks' places, on the shape's nodes
    pub record IsNewShard (K : TableFor) (s : ℕ) (w : Shard C V) : Type 0 where
      pub table_is : table_at says w ≡ defined K.shape (get_or K.homes s 0) K.knobs (site_in K s)
      pub site_is : (table_at says w).site ≡ site_in K s
      pub nodes_are : (says_at says w).layout.nodes ≡ K.shape.nodes
      pub is_shard : IsShardOf says (length K.calls) w

    -- all shards, and the ranks' rows of seats
    pub record AreNew (K : TableFor) (shards : List (Shard C V)) (rows : List (List (Seat C V))) : Type 0 where
      pub each : (s : ℕ) (w : Shard C V) → slice_get shards s ≡ Some w → IsNewShard K s w
      pub rows_are : IsGrid (IsNewSeat says K) shards rows
      pub ranks : length rows ≡ length K.calls

    abbrev pub AreAllNew : TableFor → Vec (Shard C V) × Vec (Vec (Seat C V)) → Type 0
    AreAllNew K p = AreNew K p.0.items (map vec_items p.1.items)

-- the entries that a closed shard has of a rank
abbrev pub told_by : ℕ → Closed → List Entry
told_by r e = get_or (transcripts_of e) r []

module _ {C V : Type 0} where
  -- the callers of all ranks, in their order
  abbrev pub AreCallers : (C → CoreSays V) → List (Shard C V) → List (Caller C V) → Type 0
  AreCallers says shards cs = (r : ℕ) (c : Caller C V) → slice_get cs r ≡ Some c → (c.rank ≡ r) × IsCaller says shards c

  -- The shards of a placement's table are new, and each rank has its caller there, with the rank's calls; each caller may make its steps.
  pub record HaveBegun (defined : TheShape → ℕ → Knobs → Site → ShardTable V) (says : C → CoreSays V) (place : ThePlace) (ops : Ops) (shards : List (Shard C V)) (cs : List (Caller C V)) : Type 0 where
    pub rows : List (List (Seat C V))
    pub new : AreNew defined says (table_of place ops) shards rows
    pub all : length shards ≡ place.geom.shards
    pub made : map made_of cs ≡ wanted place.geom 0 ops.by_rank ops.sizes rows
    pub rooted : All (IsShardOf says (length cs)) shards
    pub callers : AreCallers says shards cs

  -- All callers are done and all shards closed: each shard with what its rule tells, over its column of the seats; and each rank's
  -- entries on all shards are its calls, each once and in its order.
  pub record HasRun (says : C → CoreSays V) (shards : List (Shard C V)) (cs : List (Caller C V)) (ends : List Closed) : Type 0 where
    pub rows : List (List (Seat C V))
    pub ended : AreEnded (IsEnd says) shards rows ends
    pub long : length rows ≡ length cs
    pub order : (r : ℕ) (c : Caller C V) → slice_get cs r ≡ Some c → IsRankInOrder c.geom r (asked_of c.calls.items c.sizes.items) (length c.calls.items) (map (told_by r) ends)
    -- each shard is closed over a column with a seat of each rank, none of which has an open block
    pub at : (s : ℕ) (w : Shard C V) (e : Closed) → slice_get shards s ≡ Some w → slice_get ends s ≡ Some e →
        (column : List (Seat C V)) × IsEnd says w column e × (length column ≡ length cs) × AreClosed says w column
    pub total : (r : ℕ) (c : Caller C V) → slice_get cs r ≡ Some c → entries_in (map (told_by r) ends) ≡ length c.calls.items
