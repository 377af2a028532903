-- A core of which a shard can be made.
use Rattle.std.specs.Prelude.{◌≡◌, ◌<◌, ◌≤◌, ◌^◌, ℕ, ◌+◌, false, List, length, sum, slice_get, Some}
use Rattle.rl_model.specs.Geom.{GeomFits}
use Rattle.rl_site.specs.Site.{lock_base}
use Rattle.rl_core.specs.ShardTables.{opening_held}
use Rattle.rl_core.specs.Moments.{CoreSays}
use Rattle.rl_shard.specs.declared.counting.CountedView.{CountedView}
use Rattle.rl_shard.specs.Counting.{first_counted, counting_rule}

module _ {C V : Type 0} (says : C → CoreSays V) where
  -- the core may begin on so many nodes, with a tally for each of so many queues, and with these rooms for the ranks' entries
  pub record IsStart (core : C) (nodes queues : ℕ) (rooms : List ℕ) : Type 0 where
    -- the table has a size that there is, few updates are made, and all words have numbers
    pub fits : GeomFits (says core).table.site.geom
    pub few : sum (says core).table.site.rooms ≤ 20000
    pub small : lock_base (says core).table.site + (says core).table.behind < 2 ^ 32
    -- there is a room for each rank
    pub ranks : length rooms ≡ length (says core).layout.node_of
    pub some : 0 < length rooms
    pub few_ranks : length rooms < 2 ^ 32
    -- the first words and views meet the rule, with no card taken; and no block is open
    pub rule : counting_rule says (record { whole = core }) (opening_held (says core).table.site (says core).table.behind nodes) (first_counted (says core).table queues rooms)
    pub closed : (r : ℕ) (x : CountedView V) → slice_get (first_counted (says core).table queues rooms) r ≡ Some x → ((says core).table.own x.whole).is_open ≡ false
