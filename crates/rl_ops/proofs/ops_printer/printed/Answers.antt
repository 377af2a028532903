use Rattle.std.proofs.Common.{◌≡◌, ap, ◌∙◌}
use Rattle.rl_ops.specs.Ops.{has_batch, printed_version, rank_after_rank}
use Rattle.rl_ops.proofs.PrintLemmas.{file-text}
use Rattle.rl_ops.proofs.ops_printer.printed.Goals as goal

pub returns : goal.returns
returns c =
    let ops = c.args.ops.now in
    rw (
      c.in_ok-extend_from_slice.ensures.items,
      c.in_ok-put_ranks.ensures,
      c.in_ok-out.ensures.items,
      c.first_line.ensures,
      c.has_batch.ensures,
      c.as_slice.ensures,
      c.as_slice-2.ensures,
    ) (file-text (printed_version (has_batch ops)) (rank_after_rank 0 ops.by_rank ops.sizes))
