use Rattle.std.proofs.Common.{◌∙◌, arith}
use Rattle.rl_text.specs.Rows.{row_of}
use Rattle.rl_ops.proofs.CallLaws.{is_found, is_only}
use Rattle.rl_ops.proofs.call_reader.read_call.Goals as goal

pub returns-clause-found : goal.returns-clause-found
returns-clause-found c = is_found c.args.shards (row_of c.args.line.now) c.args.from c.call_of.result (omega arith) c.call_of.ensures.value

pub returns-clause-only : goal.returns-clause-only
returns-clause-only c = λ call after spells. c.call_of.ensures.value ∙ is_only c.args.shards (row_of c.args.line.now) c.args.from call after (omega arith) (omega arith) spells
