-- Who changes the words that a shard's lock guards, step by step: it follows from what is promised of every state, and says it of steps.
use Rattle.std.specs.Prelude.{◌≡◌, ◌⊎◌, ◌<◌, ℕ, true, List, [], ◌∷◌, ◌++◌, length, take, slice_get, Some}
use Rattle.rl_step.specs.declared.events.Event.{Event}
use Rattle.rl_step.specs.declared.events.Event.TheVariants.{Touch}
use Rattle.rl_step.specs.Exclusion.{writers}
use Rattle.rl_site.specs.Site.{lock_base}
use Rattle.rl_core.specs.Touches.{touches_of}
use Rattle.rl_machine.specs.Running.{ShardRun, Running}
use Rattle.rl_step.specs.Traces.{events_of}
use Rattle.rl_machine.specs.Run.{stepped, run_of, AreThere}

module _ {V : Type 0} where
  -- count, volume and journal of a shard
  abbrev pub guarded_words : ShardRun V → List ℕ
  guarded_words S = take (lock_base S.table.site) S.held.words

  -- from S to N, by one step of rank k: k was a writer by what had happened, and the events of the step, which are put behind the trace, have one
  -- touch, its own, which writes
  pub record IsWritersStep (k : ℕ) (S N : ShardRun V) : Type 0 where
    pub writer : writers (events_of S.trace) k
    pub events : List Event
    pub behind : events_of N.trace ≡ events_of S.trace ++ events
    pub touch : touches_of events ≡ Touch k true ∷ []

  -- whichever rank makes a step: on each shard it leaves count, volume and journal as they are, or it is such a writer's
  abbrev pub OnlyWritersChange : Running V → Type 0
  OnlyWritersChange m =
      (k s : ℕ) (S N : ShardRun V) → k < length m.calls → slice_get m.shards s ≡ Some S → slice_get (stepped m k).shards s ≡ Some N → (guarded_words N ≡ guarded_words S) ⊎ IsWritersStep k S N

  -- now, and whatever steps of its ranks follow
  abbrev pub OnlyWritersEverChange : Running V → Type 0
  OnlyWritersEverChange m = (ks : List ℕ) → AreThere (length m.calls) ks → OnlyWritersChange (run_of m ks)
