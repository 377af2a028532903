-- Who goes on at D-MCS.
use Rattle.std.specs.Prelude.{ℕ, List, Option}
use Rattle.rl_queue.specs.declared.view.QueueView.{QueueView}
use Rattle.rl_queue.specs.Queue.{plan_at}
use Rattle.rl_queue.specs.Dmcs.{dmcs_names}
use Rattle.rl_queue.specs.Urgency.{loaded, urgent_at}

-- of n ranks
abbrev pub dmcs_urgent : ℕ → List ℕ → QueueView → Option ℕ
dmcs_urgent n words v = urgent_at v.phase (loaded words (plan_at (dmcs_names n) v.member v.phase))
