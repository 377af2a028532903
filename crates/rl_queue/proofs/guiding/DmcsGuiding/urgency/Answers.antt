-- The planned act is made on a word of the lock, which the code finds where it looks.
use Rattle.std.proofs.Common.{length, ap, sym, ◌∙◌, ◌+◌, ◌*◌, drop}
use Rattle.rl_word.specs.Acts.{Layout}
use Rattle.rl_step.specs.Lock.{no_more}
use Rattle.rl_queue.specs.Queue.{plan_at}
use Rattle.rl_queue.specs.Dmcs.{dmcs_names, dmcs_table, DmcsGood}
use Rattle.rl_queue.specs.laws.DmcsLaws.{dmcs_laws}
use Rattle.rl_queue.specs.Urgency.{loaded, urgent_at}
use Rattle.rl_queue.specs.laws.UrgencyLaws.{loaded_in, aims, load_there, load_fits}
use Rattle.rl_queue.proofs.guiding.DmcsGuiding.urgency.Goals as goal

pub queue_urgency-requires-clause-there : goal.queue_urgency-requires-clause-there
queue_urgency-requires-clause-there c w planned =
    let s = c.args.self.now in
    let at : Layout = record { node_of = s.node_of.items; nodes = s.nodes } in
    load_there (dmcs_table s.home s.node_of.items) (DmcsGood (length s.node_of.items)) no_more at (dmcs_laws s.home at s.seated s.homed) c.args.view c.requires.may
    c.args.base c.args.words.now.words c.requires.there w (sym c.plan.ensures ∙ planned)

pub queue_urgency-requires-clause-fits : goal.queue_urgency-requires-clause-fits
queue_urgency-requires-clause-fits c w planned =
    let s = c.args.self.now in
    let at : Layout = record { node_of = s.node_of.items; nodes = s.nodes } in
    load_fits (dmcs_table s.home s.node_of.items) (DmcsGood (length s.node_of.items)) no_more at (dmcs_laws s.home at s.seated s.homed) c.args.view c.requires.may
    c.args.base c.requires.fits w (sym c.plan.ensures ∙ planned)

pub returns : goal.returns
returns c =
    let s = c.args.self.now in
    let v = c.args.view in
    let ws = drop c.args.base c.args.words.now.words in
    let at : Layout = record { node_of = s.node_of.items; nodes = s.nodes } in
    c.queue_urgency.ensures ∙ ap (λ p. urgent_at v.phase (loaded ws p)) c.plan.ensures
    ∙ ap (urgent_at v.phase)
    (loaded_in (1 + 2 * length s.node_of.items) ws (plan_at (dmcs_names (length s.node_of.items)) v.member v.phase)
    (aims (dmcs_table s.home s.node_of.items) (DmcsGood (length s.node_of.items)) no_more at (dmcs_laws s.home at s.seated s.homed) v c.requires.may))
