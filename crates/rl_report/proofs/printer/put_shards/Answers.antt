-- One shard more.
use Rattle.std.proofs.Common.{◌++◌, ◌∙◌, ap, sym, take}
use Rattle.rl_text.specs.Spelling.{text_of}
use Rattle.rl_report.specs.Spelling.{shard_lines, shards_lines}
use Rattle.rl_report.proofs.Lines.{next_shard, onward}
use Rattle.rl_report.proofs.printer.put_shards.Goals as goal

pub loop-number-preserved : goal.loop-number-preserved
loop-number-preserved c =
    let naming = c.args.naming.now in
    let shards = c.args.shards.now in
    let n = c.loop-number.number in
    onward c.args.out.now.items (text_of (shards_lines naming 0 (take n shards))) (text_of (shard_lines naming n c.index-shards-number.result)) _ c.loop-number.out.items _
    c.loop-number.invariant c.in_ok-put_shard.ensures
    (next_shard naming shards n c.index-shards-number.result c.loop-number-test.true
    ∙ ap (λ s. text_of (shards_lines naming 0 (take n shards)) ++ text_of (shard_lines naming n s)) (sym c.index-shards-number.is))
