-- One update, after the gets and holds before it.
use Rattle.std.proofs.Common.{◌≡◌, ◌≤◌, ◌+◌, ◌++◌, ◌∙◌, ap, length, drop, subst, sym, take}
use Rattle.rl_report.specs.Merging.{seen, up_to}
use Rattle.rl_report.proofs.Merges.{from_there, one_more, start_within}
use Rattle.rl_report.proofs.merging.between.Goals as goal

pub loop-place-preserved : goal.loop-place-preserved
loop-place-preserved c =
    let start = c.loop-place.start in
    let reads = c.args.reads.now in
    let rest = from_there start reads in
    let counted : c.in_ok-start.field-0 ≡ up_to c.loop-place.place (seen (drop start reads)) = c.in_ok-start.ensures.pushed_count ∙ ap (λ rs. up_to c.loop-place.place (seen rs)) rest in
    let pushed : c.push_up_to.new.history.items ≡ c.loop-place.history.items ++ take (up_to c.loop-place.place (seen (drop start reads))) (seen (drop start reads)) = c.in_ok-start.ensures.pushed ∙ ap (λ rs. c.loop-place.history.items ++ take (up_to c.loop-place.place (seen rs)) (seen rs)) rest in
    let low : start + up_to c.loop-place.place (seen (drop start reads)) ≤ length reads = start_within c.loop-place.place start reads c.loop-place.invariant.within in
    record {
      within = subst (λ n. start + n ≤ length reads) (sym counted) low;
      stands = one_more reads start c.in_ok-start.field-0 c.loop-place.place c.args.journal.now _ c.loop-place.history.items c.push_up_to.new.history.items c.push.new.self.items _ c.loop-place-test.true c.loop-place.invariant.stands pushed counted c.in_ok-push.ensures.items;
    }
