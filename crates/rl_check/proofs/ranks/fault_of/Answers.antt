use Rattle.std.proofs.Common.{◌<◌, ap, sym, subst, ◌∙◌, arith, length, List}
use Rattle.std.specs.Option.{is_some}
use Rattle.std.specs.List.{flat_map}
use Rattle.rl_model.specs.declared.entry.Entry.{Entry}
use Rattle.rl_report.specs.Reports.{TheShard}
use Rattle.rl_report.specs.Lawful.{transcript_in}
use Rattle.rl_check.specs.Ranks.{Stands}
use Rattle.rl_check.proofs.RankFirst.{as_many_sizes, sized, few_calls, shards_there, rank_some, rank_few, rank_done, rank_not, read_there}
use Rattle.rl_check.proofs.ranks.fault_of.Goals as goal

pub calls_of-calls-requires : goal.calls_of-calls-requires
calls_of-calls-requires c = let f = c.requires.fit in omega (arith, f.calls.ranks_there, f.fits.each_rank, c.requires.there)

pub sizes_of-sizes-requires : goal.sizes_of-sizes-requires
sizes_of-sizes-requires c = let f = c.requires.fit in omega (arith, f.calls.ranks_there, f.fits.each_rank, c.requires.there, as_many_sizes _ _ _ f.calls.blocks)

pub first_fault-requires-clause-sized : goal.first_fault-requires-clause-sized
first_fault-requires-clause-sized c =
    let f = c.requires.fit in
    let low : c.args.rank < length c.args.ops.now.by_rank = omega (arith, f.calls.ranks_there, f.fits.each_rank, c.requires.there) in
    ap length c.sizes_of-sizes.ensures ∙ sized _ _ _ f.calls.blocks c.args.rank low ∙ ap length (sym c.calls_of-calls.ensures)

pub first_fault-requires-clause-few : goal.first_fault-requires-clause-few
first_fault-requires-clause-few c =
    omega (arith, ap length c.calls_of-calls.ensures, few_calls c.args.ops.now.by_rank c.args.rank, c.requires.fit.calls.few)

pub first_fault-requires-clause-there : goal.first_fault-requires-clause-there
first_fault-requires-clause-there c e stands =
    let r = c.args.report.now in
    let low : e.shard < length r.shards = shards_there _ r _ c.requires.fit.fits.shards c.args.rank e (subst (λ (z : List Entry). Stands z e) (c.as_slice-2.ensures.value ∙ c.in_ok-own.ensures ∙ ap (flat_map (λ (S : TheShard). transcript_in S.entries c.args.rank)) (c.as_slice.ensures.value ∙ ap (λ z. z.shards) c.report.view_is)) stands) in
    omega (arith, low, c.len-shards.ensures, c.report.inside.shards.ok.0, ap (λ z. length z.shards) c.report.view_is)

pub is_done-requires : goal.is_done-requires
is_done-requires c =
    let f = c.requires.fit in
    let low : c.args.rank < length c.args.ops.now.by_rank = omega (arith, f.calls.ranks_there, f.fits.each_rank, c.requires.there) in
    ap length c.sizes_of-sizes.ensures ∙ sized _ _ _ f.calls.blocks c.args.rank low ∙ ap length (sym c.calls_of-calls.ensures)

pub returns-then-is_some : goal.returns-then-is_some
returns-then-is_some c = rank_some c.args.ops.now c.args.report.now c.args.rank _ c.calls_of-calls.ensures _ c.sizes_of-sizes.ensures c.as_slice-2.result.now (c.as_slice-2.ensures.value ∙ c.in_ok-own.ensures ∙ ap (flat_map (λ (S : TheShard). transcript_in S.entries c.args.rank)) (c.as_slice.ensures.value ∙ ap (λ z. z.shards) c.report.view_is)) c.in_ok-fault.fault c.in_ok-fault.ensures c.requires.there (sym c.if-is_some.ensures)

pub returns-then-is_done : goal.returns-then-is_done
returns-then-is_done c = rank_done c.args.ops.now c.args.report.now c.args.rank _ c.calls_of-calls.ensures _ c.sizes_of-sizes.ensures c.as_slice-2.result.now (c.as_slice-2.ensures.value ∙ c.in_ok-own.ensures ∙ ap (flat_map (λ (S : TheShard). transcript_in S.entries c.args.rank)) (c.as_slice.ensures.value ∙ ap (λ z. z.shards) c.report.view_is)) c.in_ok-fault.fault c.in_ok-fault.ensures (sym c.if-is_some.ensures) _ (read_there c.args.report.now.done _ (ap (λ z. z.done) c.report.view_is) c.args.rank _ c.requires.there c.index-done.ensures) _ (c.is_some-2.ensures ∙ ap (λ z. is_some z.steps) c.report.view_is) _ (omega (arith, c.len.ensures, c.as_slice-2.ensures.len)) _ c.is_done.ensures c.if-is_done.true

pub overflow_cast-result : goal.overflow_cast-result
overflow_cast-result c =
    let few = rank_few c.args.ops.now c.args.report.now c.args.rank _ c.calls_of-calls.ensures _ c.sizes_of-sizes.ensures c.as_slice-2.result.now (c.as_slice-2.ensures.value ∙ c.in_ok-own.ensures ∙ ap (flat_map (λ (S : TheShard). transcript_in S.entries c.args.rank)) (c.as_slice.ensures.value ∙ ap (λ z. z.shards) c.report.view_is)) c.in_ok-fault.fault c.in_ok-fault.ensures (sym c.if-is_some.ensures) (omega (arith, ap length c.calls_of-calls.ensures, few_calls c.args.ops.now.by_rank c.args.rank, c.requires.fit.calls.few)) in
    omega (arith, few, c.len-2.ensures, c.as_slice-2.ensures.len)

pub returns : goal.returns
returns c = rank_not c.args.ops.now c.args.report.now c.args.rank _ c.calls_of-calls.ensures _ c.sizes_of-sizes.ensures c.as_slice-2.result.now (c.as_slice-2.ensures.value ∙ c.in_ok-own.ensures ∙ ap (flat_map (λ (S : TheShard). transcript_in S.entries c.args.rank)) (c.as_slice.ensures.value ∙ ap (λ z. z.shards) c.report.view_is)) c.in_ok-fault.fault c.in_ok-fault.ensures (sym c.if-is_some.ensures) _ (read_there c.args.report.now.done _ (ap (λ z. z.done) c.report.view_is) c.args.rank _ c.requires.there c.index-done.ensures) _ (c.is_some-2.ensures ∙ ap (λ z. is_some z.steps) c.report.view_is) _ (omega (arith, c.len.ensures, c.as_slice-2.ensures.len)) _ c.is_done.ensures c.if-is_done.false _ (omega (arith, c.len-2.ensures, c.as_slice-2.ensures.len))
