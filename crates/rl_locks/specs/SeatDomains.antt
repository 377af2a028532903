-- The two domains of a shard's words: the ranks that reach them by local acts, and those that reach them through cards. Of seats, and of the
-- ranks of a machine.
use Rattle.std.specs.Prelude.{◌≡◌, ◌≢◌, ℕ, List, slice_get, slice_index, Some}
use Rattle.rl_word.specs.Shapes.{TheShape}
use Rattle.rl_word.specs.declared.shapes.Knobs.{Knobs}
use Rattle.rl_word.specs.declared.acts.Atom.{Atom}
use Rattle.rl_site.specs.Site.{Site}
use Rattle.rl_core.specs.Domains.{IsCardAtom, IsLocalAtom}
use Rattle.rl_core.specs.ShardTables.{ShardTable}
use Rattle.rl_core.specs.Moments.{CoreSays}
use Rattle.rl_shard.specs.declared.shard.Shard.{Shard}
use Rattle.rl_shard.specs.declared.seat.Seat.{Seat}
use Rattle.rl_shard.specs.Shards.{IsOf, table_at, rank_at, next_at}
use Rattle.rl_locks.specs.Kinds.{Defined}
use Rattle.rl_locks.specs.OnShards.{OfShard}

module _ {C V : Type 0} (says : C → CoreSays V) where
  -- a seat on the shard's home comes to no atom of a card, and any other seat to no local compare-and-swap
  pub record KeepsApart (node_of : List ℕ) (home : ℕ) (shard : Shard C V) : Type 0 where
    pub at_home : (s : Seat C V) (at : Atom) → IsOf says shard s → next_at says shard s ≡ Some at → slice_index node_of (rank_at s) ≡ home → IsCardAtom at → ⊥
    pub away : (s : Seat C V) (at : Atom) → IsOf says shard s → next_at says shard s ≡ Some at → slice_index node_of (rank_at s) ≢ home → IsLocalAtom at → ⊥

  -- so it is by the nodes of the shape and the home by which the shard is defined, whichever they are
  abbrev pub KeepsApartAsDefined : Defined V → Shard C V → Type 0
  KeepsApartAsDefined defined shard = (shape : TheShape) (home : ℕ) (knobs : Knobs) (site : Site) → table_at says shard ≡ defined shape home knobs site → KeepsApart shape.node_of home shard

  -- no seat comes to a local compare-and-swap
  abbrev pub NeverSwapsLocally : Shard C V → Type 0
  NeverSwapsLocally shard = (s : Seat C V) (at : Atom) → IsOf says shard s → next_at says shard s ≡ Some at → IsLocalAtom at → ⊥

module _ {V : Type 0} where
  -- a rank on the shard's home comes to no atom of a card, and any other rank to no local compare-and-swap
  pub record RanksKeepApart (node_of : List ℕ) (home : ℕ) (T : ShardTable V) (vs : List V) : Type 0 where
    pub at_home : (r : ℕ) (x : V) (at : Atom) → slice_get vs r ≡ Some x → T.core.next x ≡ Some at → slice_index node_of r ≡ home → IsCardAtom at → ⊥
    pub away : (r : ℕ) (x : V) (at : Atom) → slice_get vs r ≡ Some x → T.core.next x ≡ Some at → slice_index node_of r ≢ home → IsLocalAtom at → ⊥

  -- so it is by the nodes of the shape and the home by which the shard is defined, whichever they are
  abbrev pub ApartAsDefined : Defined V → OfShard V
  ApartAsDefined defined T h vs = (shape : TheShape) (home : ℕ) (knobs : Knobs) (site : Site) → T ≡ defined shape home knobs site → RanksKeepApart shape.node_of home T vs

  -- no rank comes to a local compare-and-swap
  abbrev pub SwapsNowhere : OfShard V
  SwapsNowhere T h vs = (r : ℕ) (x : V) (at : Atom) → slice_get vs r ≡ Some x → T.core.next x ≡ Some at → IsLocalAtom at → ⊥
