use Rattle.std.proofs.Common.{◌≡◌, ◌≤◌, ◌*◌, take}
use Rattle.rl_journal.specs.Ranks.{count_in}
use Rattle.rl_machine.specs.Running.{running}
use Rattle.rl_machine.specs.Records.{transcripts_at}
use Rattle.rl_making.specs.Summary.{is_get}
use Rattle.rl_making.proofs.counts.reads_of.Given as goal

-- those of the ranks so far, of whom each has few
abbrev pub invariant-loop-rank : goal.invariant-loop-rank
invariant-loop-rank g l =
    record {
      counted : l.reads ≡ count_in (λ entry. is_get entry.call) (take l.rank (transcripts_at (running g.C.ShardCore.says l.machine) l.shard));
      few : l.reads ≤ 20000 * l.rank;
    }
