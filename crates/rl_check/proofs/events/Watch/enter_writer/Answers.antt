use Rattle.std.proofs.Common.{◌∙◌, List, Bool, false, get_or, ap, sym}
use Rattle.rl_check.proofs.WatchLaws.{beside_reader, enters_first, enters_beside}
use Rattle.rl_check.proofs.events.Watch.enter_writer.Goals as goal

pub returns-then-any_true : goal.returns-then-any_true
returns-then-any_true c queues ranks trace there s keep =
    let r = c.if-any_true.ensures.some in
    beside_reader queues ranks trace _ _ _ _ s c.args.rank r.0 (ap (λ (z : List Bool). get_or z r.0 false) (sym c.as_slice.ensures.value) ∙ r.1) keep

pub returns-in-Some : goal.returns-in-Some
returns-in-Some c queues ranks trace there s =
    enters_beside queues ranks trace _ _ _ _ s c.args.rank c.in-Some.other (λ j. ap (λ (z : List Bool). get_or z j false) (sym c.as_slice.ensures.value) ∙ c.if-any_true.ensures.none j) c.in-Some.is

pub returns-in-None : goal.returns-in-None
returns-in-None c queues ranks trace there s =
    enters_first queues ranks trace _ _ _ _ s c.args.rank (λ j. ap (λ (z : List Bool). get_or z j false) (sym c.as_slice.ensures.value) ∙ c.if-any_true.ensures.none j) c.in-None.is
