use Rattle.std.proofs.Common.{ap, ◌∙◌, Err}
use Rattle.rl_inputs.proofs.ReadLemmas.{was_fault, was_memory, was_longer}
use Rattle.rl_inputs.proofs.reading.read_within.Goals as goal

pub returns-in-Err-Fault-clause-read : goal.returns-in-Err-Fault-clause-read
returns-in-Err-Fault-clause-read g c = was_fault _ _ _

pub returns-in-Err-Memory-clause-read : goal.returns-in-Err-Memory-clause-read
returns-in-Err-Memory-clause-read g c = was_memory _ _ _

pub returns-in-Err-TooLong-clause-read : goal.returns-in-Err-TooLong-clause-read
returns-in-Err-TooLong-clause-read g c =
    was_longer _ _ _ _ _ _ (c.read_file.ensures.too_long c.in-Err-TooLong.field-0-0 (c.in-Err-TooLong.is ∙ ap (λ e. Err e) c.in-Err-TooLong.field-0-is)).1
    c.refuse.ensures.line
