use Rattle.std.proofs.Common.{ap, sym, ◌∙◌}
use Rattle.std.specs.Prelude.{slice_get}
use Rattle.rl_check.proofs.shards.fault_of_replay.Goals as goal

pub first_break-requires-clause-there : goal.first_break-requires-clause-there
first_break-requires-clause-there c i e get =
    c.requires.there i e (ap (λ z. slice_get z i) (sym (c.as_slice-4.ensures.value ∙ ap (λ S. S.events) c.part.view_is)) ∙ get)
