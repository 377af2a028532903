-- The head, the body and the end.
use Rattle.rl_report.specs.Naming.{naming_of}
use Rattle.rl_machine.specs.Running.{running}
use Rattle.rl_shown.specs.State.{head_lines, body_lines}
use Rattle.rl_shown.proofs.TellingLaws.{closed}
use Rattle.rl_shown.proofs.state.machine_text.Goals as goal

pub returns : goal.returns
returns g c =
    let place = c.args.place.now in
    closed (head_lines c.args.step c.args.total) (body_lines place (naming_of place) (running g.C.ShardCore.says c.args.machine.now)) c.in_ok-out.out.items c.put_body.new.out.items c.extend_from_slice.new.self.items
    c.in_ok-out.ensures c.in_ok-put_body.ensures c.in_ok-extend_from_slice.ensures.items
