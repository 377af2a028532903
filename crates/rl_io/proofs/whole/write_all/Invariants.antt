use Rattle.std.proofs.Common.{length, ◌≡◌, ◌-◌, ◌≤◌, take}
use Rattle.rl_io.specs.Outside.{Appends, GoesOn}
use Rattle.rl_io.proofs.whole.write_all.Given as goal

abbrev pub invariant-loop-at : goal.invariant-loop-at
invariant-loop-at g l = record {
  within : l.at ≤ length l.text;
  so_far : Appends (g.K.Sink.written l.fn.sink) (take l.at l.text) (g.K.Sink.written l.sink);
  goes_on : GoesOn g.K.Sink.tells_on l.fn.sink l.at l.sink;
  quiet : g.K.Sink.faults l.sink ≡ g.K.Sink.faults l.fn.sink;
}

abbrev pub decreases-loop-at : goal.decreases-loop-at
decreases-loop-at g l = length l.text - l.at
