use Rattle.std.proofs.Common.{◌≡◌, length, IfOk, ap, sym, subst}
use Rattle.rl_place.specs.Places.{ThePlace}
use Rattle.rl_ops.specs.Ops.{OpsFit}
use Rattle.rl_making.proofs.MakeLaws.{as_many_paths, summary_is}
use Rattle.rl_making.proofs.making.made_summary.Goals as goal

pub counts_of_laps-requires-clause-calls : goal.counts_of_laps-requires-clause-calls
counts_of_laps-requires-clause-calls c =
    let made = c.in_ok-place.ensures in
    let ops = c.in_ok-place.ops in
    let shards = ap (λ (p : ThePlace). p.geom.shards) made.place in
    subst (λ n. OpsFit (length c.in_ok-place.place.paths) n ops) (sym shards) (subst (λ n. OpsFit n 4 ops) (sym (as_many_paths c.args.ranks c.in_ok-place.place made.place)) made.fit)

pub returns : goal.returns
returns c =
    let made = c.in_ok-place.ensures in
    subst (λ text. IfOk c.summary_text.result (λ t. t.items ≡ text)) (summary_is c.args.number c.args.ranks c.args.calls c.in_ok-place.place c.in_ok-place.ops c.in_ok-counts.counts made.place made.ops c.in_ok-counts.ensures) c.summary_text.ensures
