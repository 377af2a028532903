-- How a rank stands to a lock that it has where it has the queue, by its phase in that queue.
use Rattle.rl_step.specs.declared.events.Standing.{Standing}
use Rattle.rl_step.specs.declared.events.Standing.TheVariants.{Out, Asking, Writer, Leaving}
use Rattle.rl_queue.specs.declared.view.Phase.{Phase}
use Rattle.rl_queue.specs.declared.view.Phase.TheVariants.{Idle, Granted, Look, Close, Await, Hand, Above}

abbrev pub standing_of : Phase → Standing
standing_of Idle = Out
standing_of (Granted left) = Writer
standing_of (Look left upper) = Leaving
standing_of (Close left) = Leaving
standing_of (Await left) = Leaving
standing_of (Hand succ left) = Leaving
standing_of (Above succ) = Leaving
standing_of phase = Asking
