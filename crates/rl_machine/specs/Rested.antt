-- Where a rank rests or goes in a round, while its shard shows it; and what the end of a step tells of its rank.
use Rattle.std.specs.Prelude.{◌≡◌, ℕ, ◌<◌, ◌≤◌, true, length, slice_get, slice_index, Some, None}
use Rattle.rl_step.specs.declared.events.Stepped.{Stepped}
use Rattle.rl_step.specs.declared.events.Stepped.TheVariants.{Busy}
use Rattle.rl_step.specs.Do.{TheWindow}
use Rattle.rl_core.specs.declared.round.Round.{Round}
use Rattle.rl_core.specs.Idle.{IdleWhile, IsNamed}
use Rattle.rl_core.specs.Rounds.{IsRound}
use Rattle.rl_machine.specs.declared.step_end.StepOutcome.{StepOutcome}
use Rattle.rl_machine.specs.declared.step_end.StepOutcome.TheVariants.{GotOn, HeldOff, Waits, Finished}
use Rattle.rl_machine.specs.Running.{ShardRun, Running}
use Rattle.rl_machine.specs.Run.{calls_by, place_of}

-- rank k stands on shard s and is in a call there, and whatever the window is, while it shows so the rank's next atom is idle
pub record RestsAt {V : Type 0} (m : Running V) (k s : ℕ) (answer : Stepped) : Type 0 where
  pub shard : ShardRun V
  pub view : V
  pub stands : place_of m k ≡ s
  pub has : slice_get m.shards s ≡ Some shard
  pub seen : slice_get shard.views k ≡ Some view
  pub in_call : (shard.table.own view).is_open ≡ true
  pub named : IsNamed shard.held answer
  pub idle : IdleWhile shard.table k view answer

-- rank k stands on shard s and is in this round there
pub record IsInRound {V S : Type 0} (seeing : V → S → V) (m : Running V) (k s : ℕ) (round : Round S) : Type 0 where
  pub shard : ShardRun V
  pub view : V
  pub stands : place_of m k ≡ s
  pub has : slice_get m.shards s ≡ Some shard
  pub seen : slice_get shard.views k ≡ Some view
  pub is_round : IsRound shard.table seeing (length shard.held.words) k view round

-- the window shows so many loads of it: the next one's word has its value, and so has the other's where there are more
abbrev pub ShowsRound : {S : Type 0} → TheWindow → Round S → ℕ → Type 0
ShowsRound h round count = (slice_index h.words round.here.word ≡ round.here.value) × (1 < count → slice_index h.words round.there.word ≡ round.there.value)

-- rank k is in this round on shard s, whose window shows so many loads of it
abbrev pub GoesRound : {V S : Type 0} → (V → S → V) → Running V → ℕ → ℕ → Round S → ℕ → Type 0
GoesRound seeing m k s round count = (r : IsInRound seeing m k s round) × ShowsRound r.shard.held round count

-- rank k has no open call on the shard where it stands, and none left: its atoms are made, and no other block is opened
pub record IsOver {V : Type 0} (m : Running V) (k : ℕ) : Type 0 where
  pub shard : ShardRun V
  pub view : V
  pub has : slice_get m.shards (place_of m k) ≡ Some shard
  pub seen : slice_get shard.views k ≡ Some view
  pub none : shard.table.core.next view ≡ None
  pub none_left : length (calls_by m k) ≤ slice_index m.opened k

-- what the end of rank k's step, which stands on shard s, tells of it: it is about to take the card of that node, whoever is in it, or
-- it has nothing left to do
abbrev pub Tells : {V : Type 0} → Running V → ℕ → ℕ → StepOutcome → Type 0
Tells m k s GotOn = Unit {0}
Tells m k s (HeldOff node) = RestsAt m k s (Busy node 0)
Tells m k s Waits = Unit {0}
Tells m k s Finished = IsOver m k
