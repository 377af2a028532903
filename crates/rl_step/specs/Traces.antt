-- What happened on a shard, as machines and reports keep it: each event with the number of its step.
use Rattle.std.specs.Prelude.{ℕ, List, map}
use Rattle.rl_step.specs.declared.events.Event.{Event}

-- the events without their numbers
abbrev pub events_of : List (ℕ × Event) → List Event
events_of t = map (λ e. e.1) t
