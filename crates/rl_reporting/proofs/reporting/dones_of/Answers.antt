use Rattle.std.proofs.Common.{◌<◌, [], ◌∷◌, ◌++◌, length, take, ap, sym, ◌∙◌, arith}
use Rattle.rl_report.specs.declared.report.Done.{Done}
use Rattle.rl_machine.specs.Running.{running}
use Rattle.rl_machine.specs.Run.{done_of}
use Rattle.rl_reporting.specs.Reported.{dones_from}
use Rattle.rl_reporting.specs.laws.ReportLaws.{dones-more, told_long, few_told, done_told}
use Rattle.rl_reporting.proofs.reporting.dones_of.Goals as goal

pub done_by-done-requires-clause-there : goal.done_by-done-requires-clause-there
done_by-done-requires-clause-there g c s t get =
    let m = running g.C.ShardCore.says c.args.machine.now in
    let long = told_long m c.args.told.now c.requires.told c.soundness.ensures.sound s t get in
    omega (arith, c.loop-rank-test.true, c.requires.ranks, long)

pub done_by-done-requires-clause-few : goal.done_by-done-requires-clause-few
done_by-done-requires-clause-few g c =
    let m = running g.C.ShardCore.says c.args.machine.now in
    let few = few_told m c.args.told.now c.requires.told c.soundness.ensures.sound c.loop-rank.rank (omega (arith, c.loop-rank-test.true, c.requires.ranks)) in
    omega (arith, few, c.given-given.ensures, c.given-given.type_inv)

pub loop-rank-preserved : goal.loop-rank-preserved
loop-rank-preserved g c =
    let m = running g.C.ShardCore.says c.args.machine.now in
    let calls = c.args.machine.now.calls in
    let i = c.loop-rank.rank in
    let there : i < length calls = omega (arith, c.loop-rank-test.true, c.requires.ranks) in
    let told : Done = record { done = c.done_by-done.result; given = c.given-given.result } in
    c.in_ok-push.ensures.items ∙ ap (λ l. l ++ told ∷ []) c.loop-rank.invariant
    ∙ ap (λ d. dones_from m 0 (take i calls) ++ record { done = d; given = c.given-given.result } ∷ []) (c.done_by-done.ensures ∙ done_told m c.args.told.now c.requires.told i)
    ∙ ap (λ n. dones_from m 0 (take i calls) ++ record { done = done_of m i; given = n } ∷ []) c.given-given.ensures
    ∙ sym (dones-more m calls i there)
