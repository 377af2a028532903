-- The sorted gets and holds between the updates are the history.
use Rattle.std.proofs.Common.{map, subst, sym}
use Rattle.std.specs.List.Sorted.{IsNonDecreasingBy, IsStableByKey}
use Rattle.std.specs.Ordering.{nat_cmp}
use Rattle.rl_model.specs.declared.entry.Entry.{Entry}
use Rattle.rl_report.specs.Merging.{all_reads, seen}
use Rattle.rl_report.proofs.Merges.{is_history}
use Rattle.rl_report.proofs.merging.merge_lent.Goals as goal

pub returns : goal.returns
returns c =
    let is = sym c.as_slice.ensures.value in
    is_history (λ v. v.items) c.args.journal.now (map (λ t. t.now) c.args.transcripts.now) (seen c.as_slice.result.now) c.between.result
    (subst (λ rs. IsNonDecreasingBy (λ (e : Entry). e.at) (seen rs)) is c.in_ok-reads.ensures.sorted)
    (subst (λ rs. IsStableByKey (λ (e : Entry). e.at) nat_cmp (all_reads (map (λ t. t.now) c.args.transcripts.now)) (seen rs)) is c.in_ok-reads.ensures.stable)
    c.between.ensures
