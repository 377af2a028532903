use Rattle.std.proofs.Common.{ap, ◌∙◌}
use Rattle.std.specs.List.{list_any}
use Rattle.rl_ops.specs.Ops.{begins_batch}
use Rattle.rl_ops.proofs.BatchLaws.{any-map}
use Rattle.rl_ops.proofs.ops.Ops.has_batch.Goals as goal

pub returns : goal.returns
returns c = c.any_begins_batch.ensures ∙ any-map (λ v. v.items) c.as_slice.result.now ∙ ap (list_any begins_batch) c.as_slice.ensures
