use Rattle.rl_sketch.proofs.PrintLaws.{both_put, stops_joined}
use Rattle.rl_sketch.proofs.sketch_printer.put_stops.Goals as goal

pub returns : goal.returns
returns c = both_put _ _ _ _ _ _ c.in_ok-extend_from_slice.ensures.items c.in_ok-put_ranks_behind.ensures (stops_joined c.args.ranks.now)
