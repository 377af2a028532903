-- What is noted of ranks, and when it is true.
use Rattle.std.specs.Prelude.{◌≡◌, ◌+◌, ◌≤◌, ℕ, List, slice_get, replicate, Some}
use Rattle.rl_core.specs.declared.round.Round.{Round}
use Rattle.rl_step.specs.declared.events.Stepped.{Stepped}
use Rattle.rl_step.specs.declared.events.Stepped.TheVariants.{Busy, Waiting}
use Rattle.rl_machine.specs.Rested.{RestsAt, IsOver, IsInRound, GoesRound}
use Rattle.rl_machine.specs.Run.{run_of}
use Rattle.rl_machine.specs.Running.{Running}
use Rattle.rl_replay.specs.declared.last_rest.LastRest.{LastRest}
use Rattle.rl_replay.specs.declared.last_rest.LastRest.TheVariants as last

module _ {V Sight : Type 0} (seeing : V → Sight → V) where
  -- what is noted of rank k is true: it rests where it was seen to, whoever is in the card, or goes in a round, or it has nothing left to do
  abbrev pub Rested : Running V → ℕ → LastRest Sight → Type 0
  Rested m k last.Unknown = Unit {0}
  Rested m k (last.HeldOff s n) = RestsAt m k s (Busy n 0)
  Rested m k (last.Waits s w v) = RestsAt m k s (Waiting w v)
  Rested m k (last.Round s round) = IsInRound seeing m k s round
  Rested m k last.Finished = IsOver m k

  -- what is noted of each rank is true
  abbrev pub AllRested : Running V → List (LastRest Sight) → Type 0
  AllRested m rests = (k : ℕ) (r : LastRest Sight) → slice_get rests k ≡ Some r → Rested m k r

  -- whatever is noted of the ranks of m is true of those of n
  abbrev pub KeepsNotes : Running V → Running V → Type 0
  KeepsNotes m n = (rests : List (LastRest Sight)) → AllRested m rests → AllRested n rests

-- n is what so many steps make of m, of any rank that rests on shard s with this answer
abbrev pub RunsOnAt : {V : Type 0} → Running V → ℕ → Stepped → ℕ → Running V → Type 0
RunsOnAt m s answer count n = (rank : ℕ) → RestsAt m rank s answer → n ≡ run_of m (replicate count rank)

-- n is what so many rounds make of m, of any rank whose shard shows that it goes round as often
abbrev pub RunsRounds : {V Sight : Type 0} → (V → Sight → V) → Running V → Round Sight → ℕ → Running V → Type 0
RunsRounds seeing m round rounds n = (rank s count : ℕ) → rounds + rounds ≤ count → GoesRound seeing m rank s round count →
    n ≡ run_of m (replicate (rounds + rounds) rank)

-- nothing is known of rank k
abbrev pub IsForgotten : {Sight : Type 0} → List (LastRest Sight) → ℕ → Type 0
IsForgotten rests k = slice_get rests k ≡ Some last.Unknown
