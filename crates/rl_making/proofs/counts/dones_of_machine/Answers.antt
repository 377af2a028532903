use Rattle.std.proofs.Common.{◌<◌, [], ◌∷◌, ◌++◌, length, take, ap, sym, ◌∙◌, arith}
use Rattle.rl_report.specs.declared.report.Done.{Done}
use Rattle.rl_machine.specs.Running.{running}
use Rattle.rl_machine.specs.Run.{done_of}
use Rattle.rl_reporting.specs.Reported.{dones_from}
use Rattle.rl_reporting.specs.laws.ReportLaws.{dones-more}
use Rattle.rl_making.proofs.counts.dones_of_machine.Goals as goal

pub loop-rank-preserved : goal.loop-rank-preserved
loop-rank-preserved g c =
    let m = running g.C.ShardCore.says c.args.machine.now in
    let calls = c.args.machine.now.calls in
    let i = c.loop-rank.rank in
    let low = c.loop-rank-test.true in
    let all = c.requires in
    let there : i < length calls = omega (arith, low, all) in
    let told : Done = record { done = c.done.result; given = c.given.result } in
    c.in_ok-push.ensures.items ∙ ap (λ l. l ++ told ∷ []) c.loop-rank.invariant
    ∙ ap (λ d. dones_from m 0 (take i calls) ++ record { done = d; given = c.given.result } ∷ []) c.done.ensures
    ∙ ap (λ n. dones_from m 0 (take i calls) ++ record { done = done_of m i; given = n } ∷ []) c.given.ensures
    ∙ sym (dones-more m calls i there)
