use Rattle.std.proofs.Common.{◌≡◌, ◌+◌, ◌-◌, ◌<◌, ◌≤◌, [], arith}
use Rattle.rl_ops.specs.declared.schedule.TheConstants.{MOST_STEPS}
use Rattle.rl_ops.proofs.ScheduleLaws.{short-turn}
use Rattle.rl_ops.proofs.schedule_reader.short_turn.Goals as goal

pub returns : goal.returns
returns c =
    let turned = c.args.so_far.now in
    let left : turned.steps + c.steps_left.result ≡ MOST_STEPS = c.steps_left.ensures in
    let small = c.in_ok-rank.ensures.small in
    let there : c.in_ok-rank.rank < c.args.ranks = omega (arith, small.0, c.from.ensures) in
    let most : turned.steps ≤ MOST_STEPS = omega arith in
    let count : c.in_ok-rank.count < c.steps_left.result + 1 = small.1 in
    let few : c.in_ok-rank.count < MOST_STEPS - turned.steps + 1 = omega arith in
    let none : turned.stopped ≡ [] = c.all_go_on.ensures c.if-not-all_go_on.false in
    short-turn c.args.ranks turned c.args.lines.now c.short_pair.new.self c.in_ok-rank.rank c.in_ok-rank.count (omega arith) most none there few c.in_ok-rank.ensures.pair c.in_ok-rank.ensures.read
