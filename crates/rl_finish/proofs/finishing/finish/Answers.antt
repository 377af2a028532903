-- One step more of whoever goes next.
use Rattle.std.proofs.Common.{◌≡◌, ◌<◌, ◌++◌, ◌∷◌, [], length, sym, ap, ◌∙◌, subst, arith}
use Rattle.rl_machine.specs.GoesNext.{GoesNext}
use Rattle.rl_machine.specs.MachineEnding.{machine_left}
use Rattle.rl_machine.specs.Run.{run_of, ranks_of_turns, stepped}
use Rattle.rl_machine.specs.Running.{running, cores_of}
use Rattle.rl_finish.specs.WayOn.{IsWayOn}
use Rattle.rl_finish.specs.laws.WayOnLaws.{way_more, run_more, on_err}
use Rattle.rl_finish.proofs.finishing.finish.Goals as goal
use Rattle.rl_finish.proofs.finishing.finish.Goals.{In_ok-step}
use Rattle.rl_finish.proofs.finishing.finish.Given.{Over}

-- the way is one step longer
way : (g : Over) (c : In_ok-step g) →
    IsWayOn g.C.ShardGuiding.urgent (cores_of c.args.machine.now) (running g.C.ShardCore.says c.args.machine.now) (ranks_of_turns c.loop.turns.items ++ c.in-Some.rank ∷ [])
way g c =
    let first = running g.C.ShardCore.says c.args.machine.now in
    let ranks = ranks_of_turns c.loop.turns.items in
    let by_run = subst (λ m. GoesNext g.C.ShardGuiding.urgent (cores_of c.loop.machine) m c.in-Some.rank) c.loop.invariant.2 c.in-Some.ensures.next in
    way_more g.C.ShardGuiding.urgent (cores_of c.args.machine.now) first ranks c.in-Some.rank c.loop.invariant.3
    (subst (λ cores. GoesNext g.C.ShardGuiding.urgent cores (run_of first ranks) c.in-Some.rank) c.loop.invariant.0 by_run)

run : (g : Over) (c : In_ok-step g) → running g.C.ShardCore.says c.step.new.self ≡ run_of (running g.C.ShardCore.says c.args.machine.now) (ranks_of_turns c.loop.turns.items ++ c.in-Some.rank ∷ [])
run g c =
    let first = running g.C.ShardCore.says c.args.machine.now in
    let ranks = ranks_of_turns c.loop.turns.items in
    c.in_ok-step.ensures.stepped ∙ ap (λ m. stepped m c.in-Some.rank) c.loop.invariant.2 ∙ run_more first ranks c.in-Some.rank

pub returns-in_err-step-clause-part : goal.returns-in_err-step-clause-part
returns-in_err-step-clause-part g c =
    on_err c.from_residual.result (ranks_of_turns c.loop.turns.items, c.loop.invariant.3, ap (running g.C.ShardCore.says) c.in_err-step.ensures.kept ∙ c.loop.invariant.2)

pub returns-in_err-add_step-clause-part : goal.returns-in_err-add_step-clause-part
returns-in_err-add_step-clause-part g c =
    let d = (goal.at.returns-in_err-add_step-clause-part g c).In_ok-step in
    on_err c.from_residual-in_err-add_step.result (ranks_of_turns c.loop.turns.items ++ c.in-Some.rank ∷ [], way g d, run g d)

pub loop-preserved : goal.loop-preserved
loop-preserved g c =
    let d = (goal.at.loop-preserved g c).In_ok-step in
    let first = running g.C.ShardCore.says c.args.machine.now in
    let left = machine_left g.C.ShardEnding.left g.C.ShardEnding.most in
    let was = c.loop.invariant in
    let more = c.in_ok-add_step.ensures in
    let low = subst (λ l. c.in-Some.rank < length l) was.1 c.in-Some.ensures.there in
    let counted = c.in_ok-step.ensures.counted in
    let steps = more.steps in
    let before = was.6 in
    let turns_before = was.7 in
    let left_before = was.8 in
    let less = c.in-Some.ensures.less in
    let cores = c.step.ensures.cores in
    let left_now : left (cores_of c.step.new.self) (running g.C.ShardCore.says c.step.new.self) ≡ left (cores_of c.loop.machine) (stepped (running g.C.ShardCore.says c.loop.machine) c.in-Some.rank) =
    ap (λ z. left z (running g.C.ShardCore.says c.step.new.self)) cores ∙ ap (left (cores_of c.loop.machine)) c.in_ok-step.ensures.stepped in (
      cores ∙ was.0,
      c.in_ok-step.ensures.calls ∙ was.1,
      run g d ∙ sym (ap (run_of first) more.ranks),
      subst (IsWayOn g.C.ShardGuiding.urgent (cores_of c.args.machine.now) first) (sym more.ranks) (way g d),
      more.fit (length c.args.machine.now.calls) low was.4,
      more.whole,
      omega arith,
      omega arith,
      omega arith,
    )
