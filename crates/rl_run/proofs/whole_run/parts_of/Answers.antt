use Rattle.std.proofs.Common.{rules}
use Rattle.rl_run.specs.laws.RowLaws.{first_is}
use Rattle.rl_run.proofs.WholeRun.{next_part, none_left}
use Rattle.rl_run.proofs.whole_run.parts_of.Goals as goal

pub loop-alloc-preserved : goal.loop-alloc-preserved
loop-alloc-preserved c =
    let more = first_is c.loop-alloc.ends.items c.remove-closed.result (search rules) c.remove-closed.ensures.value in
    rw (c.remove-closed.ensures.items, c.in_ok-push.ensures.items) (next_part c.loop-alloc.ends.items _ c.args.ends.items c.remove-closed.result c.in_ok-part_of.field-0 c.loop-alloc.parts.items more c.in_ok-part_of.ensures.part c.in_ok-part_of.ensures.numbers c.loop-alloc.invariant.0 c.loop-alloc.invariant.1 c.loop-alloc.invariant.2)

pub returns-clause-numbers : goal.returns-clause-numbers
returns-clause-numbers c = none_left c.loop-alloc.ends.items c.args.ends.items (search rules) c.loop-alloc.invariant.2
