use Rattle.std.proofs.Common.{◌≡◌, ◌≤◌, ◌+◌, ◌-◌, length}
use Rattle.rl_io.specs.Outside.{IsRead, SameFiles}
use Rattle.rl_io.proofs.whole.read_file.Given as goal

abbrev pub invariant-loop-bytes : goal.invariant-loop-bytes
invariant-loop-bytes g l = record {
  room : length l.bytes.items ≤ l.most;
  most : l.most ≡ l.max + 1;
  so_far : IsRead (g.S.Source.file l.fn.source l.fn.name) l.bytes.items (g.S.Source.left l.source);
  quiet : g.S.Source.faults l.source ≡ g.S.Source.faults l.fn.source;
  same : SameFiles g.S.Source.file g.S.Source.may_open l.fn.source l.source;
}

abbrev pub decreases-loop-bytes : goal.decreases-loop-bytes
decreases-loop-bytes g l = l.most - length l.bytes.items
