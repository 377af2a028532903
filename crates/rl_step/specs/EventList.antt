-- What a contract sees of a list of events.
use Rattle.std.specs.Prelude.{List}
use Rattle.rl_step.specs.declared.events.Event.{Event}

-- the events, in order
pub record EventList : Type 0 where
  pub items : List Event
