use Rattle.std.proofs.Common.{subst, Result, arith}
use Rattle.rl_text.specs.declared.causes.Refusal.{Refusal}
use Rattle.rl_text.specs.Reading.{Gives}
use Rattle.rl_ops.specs.declared.ops.Ops.{Ops}
use Rattle.rl_ops.proofs.OpsLaws.{is_found, is_fit, ops-again}
use Rattle.rl_ops.proofs.ops_reader.read_ops.Goals as goal

pub returns-clause-found : goal.returns-clause-found
returns-clause-found c = is_found c.args.ranks c.args.shards c.args.bytes.now c.ops_of.result (omega arith) (omega arith) c.ops_of.ensures

pub returns-clause-fit : goal.returns-clause-fit
returns-clause-fit c = is_fit c.args.ranks c.args.shards c.args.bytes.now c.ops_of.result (omega arith) (omega arith) c.ops_of.ensures

pub returns-clause-only : goal.returns-clause-only
returns-clause-only c = λ ops spells. subst (λ (read : Result Ops Refusal). Gives c.ops_of.result read) (ops-again c.args.ranks c.args.shards c.args.bytes.now ops (omega arith) (omega arith) spells) c.ops_of.ensures
