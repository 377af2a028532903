-- One queue more, where it has a tally.
use Rattle.std.proofs.Common.{◌++◌, ◌∙◌, ap, sym, take, slice_get}
use Rattle.rl_text.specs.Spelling.{text_of}
use Rattle.rl_report.specs.Spelling.{queue_line, queue_lines}
use Rattle.rl_report.proofs.Lines.{next_queue, onward}
use Rattle.rl_report.proofs.printer.put_queues.Goals as goal

pub loop-number-preserved : goal.loop-number-preserved
loop-number-preserved c =
    let queues = c.args.queues.now in
    let tallies = c.args.tallies.now in
    let n = c.loop-number.number in
    onward c.args.out.now.items (text_of (queue_lines (take n queues) tallies)) (text_of (queue_line c.index-queues-number.result (slice_get tallies n))) _ c.loop-number.out.items _
    c.loop-number.invariant c.in_ok-put_queue_at.ensures
    (next_queue queues tallies n c.index-queues-number.result c.loop-number-test.true
    ∙ ap (λ q. text_of (queue_lines (take n queues) tallies) ++ text_of (queue_line q (slice_get tallies n))) (sym c.index-queues-number.is))
