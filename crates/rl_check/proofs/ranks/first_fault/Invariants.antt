use Rattle.std.proofs.Common.{◌≡◌, ◌≤◌, length}
use Rattle.rl_ops.specs.Asked.{asked_of}
use Rattle.rl_check.specs.Slots.{AreCalled, AreLasts, GoesOnWith}
use Rattle.rl_check.proofs.ranks.first_fault.Given as goal

abbrev pub invariant-loop-number : goal.invariant-loop-number
invariant-loop-number l = record {
  called : AreCalled (asked_of l.calls l.sizes) l.own l.number;
  lasts : AreLasts l.own l.number l.lasts.items;
  all_shards : length l.lasts.items ≡ l.fn.shards;
  on : GoesOnWith l.calls l.sizes l.number l.part.batch l.part.part;
  few : l.number ≤ length l.calls;
  low : l.part.part ≤ l.number;
}
