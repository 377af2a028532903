-- The ranks that have a call open or left go in turn.
use Rattle.std.proofs.Common.{◌<◌, not, length, sym, subst}
use Rattle.std.specs.List.{AllByRecursion}
use Rattle.rl_machine.specs.Running.{running}
use Rattle.rl_drawing.specs.Sights.{is_over, ends_calls}
use Rattle.rl_drawing.specs.Drawing.{AreInTurn}
use Rattle.rl_drawing.specs.Leads.{Adds}
use Rattle.rl_drawing.proofs.Stages.{ranks_at}
use Rattle.rl_drawing.proofs.Stopping.{all_filter}
use Rattle.rl_drawing.proofs.laps.go_to_the_end.Goals as goal

pub not_over-requires : goal.not_over-requires
not_over-requires g c =
    let stage = c.args.stage.now in
    subst (λ n. AllByRecursion (λ k. k < n) c.args.ranks.now)
    (sym (ranks_at g.C.ShardCore.defined c.args.scene.place.now c.args.scene.ops.now (running g.C.ShardCore.says stage.machine) stage.turns stage.left c.requires.scene.calls c.requires.stage)) c.requires.there

pub go_in_turn-requires-clause-there : goal.go_in_turn-requires-clause-there
go_in_turn-requires-clause-there g c =
    let m = running g.C.ShardCore.says c.args.stage.now.machine in
    subst (AllByRecursion (λ k. k < length c.args.scene.place.now.paths)) (sym c.in_ok-left.ensures) (all_filter (λ k. k < length c.args.scene.place.now.paths) (λ k. not (is_over m k)) c.args.ranks.now c.requires.there)

pub returns-clause-draws : goal.returns-clause-draws
returns-clause-draws g c =
    let m = running g.C.ShardCore.says c.args.stage.now.machine in
    subst (λ ks. Adds (AreInTurn ends_calls m ks) c.args.stage.now.left c.args.stage.now.turns c.go_in_turn.new.stage.turns c.go_in_turn.result) c.in_ok-left.ensures c.go_in_turn.ensures.draws
