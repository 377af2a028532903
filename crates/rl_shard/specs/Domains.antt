-- Two domains: a rank makes atoms of cards, and local compare-and-swaps, only where its lock lets it.
use Rattle.std.specs.Prelude.{◌≡◌, Some}
use Rattle.rl_word.specs.declared.acts.Atom.{Atom}
use Rattle.rl_core.specs.Domains.{IsCardAtom, IsLocalAtom, UsesCards, UsesLocals}
use Rattle.rl_core.specs.Moments.{CoreSays}
use Rattle.rl_shard.specs.declared.shard.Shard.{Shard}
use Rattle.rl_shard.specs.declared.seat.Seat.{Seat}
use Rattle.rl_shard.specs.Shards.{IsOf, table_at, rank_at, next_at}

module _ {C V : Type 0} (says : C → CoreSays V) (shard : Shard C V) where
  -- the next atom of a seat of the shard is one of a card only where its rank may make acts through cards
  abbrev pub SeatsKeepToCards : Type 0
  SeatsKeepToCards = (s : Seat C V) (at : Atom) → IsOf says shard s → next_at says shard s ≡ Some at → IsCardAtom at → UsesCards (table_at says shard).may_make (rank_at s)

  -- and a local compare-and-swap only where its rank may make one
  abbrev pub SeatsKeepToLocals : Type 0
  SeatsKeepToLocals = (s : Seat C V) (at : Atom) → IsOf says shard s → next_at says shard s ≡ Some at → IsLocalAtom at → UsesLocals (table_at says shard).may_make (rank_at s)
