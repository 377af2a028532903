use Rattle.std.proofs.Common.{◌≡◌, take, map}
use Rattle.rl_place.specs.Numbering.{element_paths}
use Rattle.rl_report.specs.Naming.{element_queue_name}
use Rattle.rl_report.proofs.naming.queues_of_elements.Given as goal

-- the queues of the elements so far
abbrev pub invariant-loop-number : goal.invariant-loop-number
invariant-loop-number l = l.queues.items ≡ map (element_queue_name l.place.levels (element_paths l.place.paths)) (take l.number l.names)
