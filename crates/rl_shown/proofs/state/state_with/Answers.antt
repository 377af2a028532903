-- The cores have the tables of the start, which no step changes.
use Rattle.std.proofs.Common.{◌≡◌, length, map, sum_by, IfOk, take, ap, sym, subst, ◌∙◌}
use Rattle.rl_ops.specs.Schedule.{steps_of}
use Rattle.rl_place.specs.Shapes.{shape_of, knobs_of}
use Rattle.rl_machine.specs.Running.{Running, running}
use Rattle.rl_machine.specs.Run.{ranks_of_turns}
use Rattle.rl_machine.specs.Start.{start_of}
use Rattle.rl_shown.specs.Cores.{tables_of}
use Rattle.rl_shown.specs.State.{machine_before, state_spelling}
use Rattle.rl_shown.proofs.CoresLaws.{run_tables}
use Rattle.rl_shown.proofs.state.state_with.Goals as goal

pub machine_text-requires-clause-ranks : goal.machine_text-requires-clause-ranks
machine_text-requires-clause-ranks g c =
    let place = c.args.place.now in
    let first = start_of g.C.ShardCore.defined (shape_of place) (knobs_of place.lock) place.geom place.homes c.args.ops in
    ap (λ (m : Running _). length m.calls) c.in_ok-machine.ensures ∙ ap length (run_tables first (take c.args.step (ranks_of_turns c.args.schedule.now.turns))).1 ∙ c.requires.fits.0.ranks_there

pub machine_text-requires-clause-cores : goal.machine_text-requires-clause-cores
machine_text-requires-clause-cores g c =
    let place = c.args.place.now in
    let first = start_of g.C.ShardCore.defined (shape_of place) (knobs_of place.lock) place.geom place.homes c.args.ops in
    ap (map (λ k. (g.C.ShardCore.says k).table)) c.as_slice-2.ensures.value ∙ c.in_ok-cores.ensures ∙ sym (run_tables first (take c.args.step (ranks_of_turns c.args.schedule.now.turns))).0 ∙ ap tables_of (sym c.in_ok-machine.ensures)

pub returns : goal.returns
returns g c =
    let place = c.args.place.now in
    let total = c.total_steps-total.ensures ∙ ap (sum_by steps_of) c.as_slice.ensures in
    let before = machine_before g.C.ShardCore.defined place c.args.ops c.args.schedule.now c.args.step in
    subst (λ m. IfOk c.machine_text.result (λ text. text.items ≡ state_spelling place c.args.step (sum_by steps_of c.args.schedule.now.turns) m)) c.in_ok-machine.ensures
    (subst (λ n. IfOk c.machine_text.result (λ text. text.items ≡ state_spelling place c.args.step n (running g.C.ShardCore.says c.in_ok-machine.machine))) total c.machine_text.ensures)
