use Rattle.rl_sketch.proofs.PrintLaws.{both_put, goes_joined}
use Rattle.rl_sketch.proofs.sketch_printer.put_goes.Goals as goal

pub returns : goal.returns
returns c = both_put _ _ _ _ _ _ c.in_ok-put_ranks_before.ensures c.in_ok-put_course.ensures (goes_joined c.args.ranks.now c.args.course.now)
