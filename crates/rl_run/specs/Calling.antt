-- A rank that calls, for any seats and shards. For the seats of a run see `Callers`.
use Rattle.std.specs.Prelude.{◌≡◌, ◌<◌, ◌≤◌, ◌^◌, ℕ, Bool, false, List, [], ◌∷◌, length, count_by, slice_get, slice_index, Some}
use Rattle.rl_model.specs.declared.call.Call.{Call}
use Rattle.rl_model.specs.declared.geom.Geom.{Geom}
use Rattle.rl_model.specs.Geom.{GeomFits}
use Rattle.rl_site.specs.Site.{Site}
use Rattle.rl_core.specs.Asks.{is_on, AreBlocks, place_after, is_update_on}
use Rattle.rl_core.specs.Desks.{Desk}
use Rattle.rl_core.specs.RankGood.{RankGood}
use Rattle.rl_run.specs.Rows.{IsRow}

-- what is said of shards and of seats there
pub record SeatsSay (W T : Type 0) : Type 1 where
  -- a shard's site, and whether it does batches
  pub site : W → Site
  pub batches : W → Bool
  -- the desk of a seat's rank at a shard, and the rank's number
  pub desk : W → T → Desk
  pub rank_of : T → ℕ
  -- the seat is the shard's; and no block of it is open there
  pub Is : W → T → Type 0
  pub Closed : W → T → Type 0

-- what a rank asks for: its calls with their sizes, of a table of this size
pub record RankAsks : Type 0 where
  pub geom : Geom
  pub rank : ℕ
  pub calls : List Call
  pub sizes : List ℕ

-- a caller: what its rank asks for, how many calls it has opened, the shard of the last of them, and its seats
pub record CallerAt (T : Type 0) : Type 0 where
  pub asks : RankAsks
  pub opened : ℕ
  pub at : ℕ
  pub seats : List T

-- the shard is the table's one of this number, and the rank may make there as many updates as it has, or more
pub record IsSite (a : RankAsks) (s : ℕ) (site : Site) : Type 0 where
  pub geom_is : site.geom ≡ a.geom
  pub shard_is : site.shard ≡ s
  pub places : count_by (is_update_on a.geom s) a.calls ≤ slice_index site.rooms a.rank

module _ {W T : Type 0} (Q : SeatsSay W T) where
  -- the rank's desks, one at each shard
  abbrev pub desks_of : List W → List T → List Desk
  desks_of [] ts = []
  desks_of (w ∷ ws) [] = []
  desks_of (w ∷ ws) (t ∷ ts) = Q.desk w t ∷ desks_of ws ts

  -- no block of any seat is open
  abbrev pub AllClosedAt : List W → List T → Type 0
  AllClosedAt ws seats = (s : ℕ) (w : W) (t : T) → slice_get ws s ≡ Some w → slice_get seats s ≡ Some t → Q.Closed w t

  -- the shards are those of the table, in their order
  pub record IsAbout (ws : List W) (a : RankAsks) : Type 0 where
    pub fits : GeomFits a.geom
    pub few : length a.calls < 2 ^ 32
    pub all : length ws ≡ a.geom.shards
    pub sites : (s : ℕ) (w : W) → slice_get ws s ≡ Some w → IsSite a s (Q.site w)
    -- and where one does no batches, each block is a call alone
    pub takes : (s : ℕ) (w : W) → slice_get ws s ≡ Some w → Q.batches w ≡ false → (i : ℕ) → slice_index a.sizes i ≤ 1

  -- the rank's seat at a shard
  abbrev pub IsMine : W → ℕ → T → Type 0
  IsMine w r t = (Q.rank_of t ≡ r) × Q.Is w t

  -- a caller on these shards
  pub record IsCallerAt (ws : List W) (c : CallerAt T) : Type 0 where
    pub about : IsAbout ws c.asks
    pub row : IsRow IsMine ws c.asks.rank c.seats
    pub at_is : c.at ≡ place_after c.asks.geom c.asks.calls c.opened
    pub stands : c.at < length ws
    pub good : RankGood c.asks.geom c.asks.calls c.asks.sizes c.opened (desks_of ws c.seats) c.asks.rank

  -- a seat at which nothing was done, with room for the rank's calls there at least
  pub record IsFreshAt (a : RankAsks) (s : ℕ) (w : W) (t : T) : Type 0 where
    pub closed : Q.Closed w t
    pub nothing : (Q.desk w t).kept.items ≡ []
    pub room : count_by (is_on a.geom s) a.calls ≤ (Q.desk w t).kept.room

  -- what a caller is made of: the calls in blocks, and a fresh seat of the rank for each shard, in their order
  pub record IsReadyAt (ws : List W) (a : RankAsks) (seats : List T) : Type 0 where
    pub about : IsAbout ws a
    pub blocks : AreBlocks a.geom a.calls a.sizes
    pub row : IsRow IsMine ws a.rank seats
    pub fresh : (s : ℕ) (w : W) (t : T) → slice_get ws s ≡ Some w → slice_get seats s ≡ Some t → IsFreshAt a s w t
