-- The event counts for no queue, for one that isn't there, or for one that is.
use Rattle.std.proofs.Common.{◌∙◌, sym, arith}
use Rattle.rl_report.proofs.TallyLaws.{counts_none, counts_beyond, counts_one, sums_fit}
use Rattle.rl_report.proofs.counting.count_event.Goals as goal

pub returns-in_default : goal.returns-in_default
returns-in_default c =
    record { counted = counts_none c.args.tallies.now c.args.events.now c.args.place _ c.requires.there c.requires.counted (sym c.counts_for.ensures ∙ c.in_default.is) }

pub overflow_add-tallies : goal.overflow_add-tallies
overflow_add-tallies c =
    let fit = sums_fit c.args.tallies.now c.args.events.now c.args.place _ c.requires.there c.requires.counted c.in-Some.queue c.in-Some.more (record { settled = 0; passed = 0 }) (sym c.counts_for.ensures ∙ c.in-Some.is) c.if-queue-tallies.true in
    omega (arith, fit.0)

pub overflow_add-tallies-then-queue-tallies : goal.overflow_add-tallies-then-queue-tallies
overflow_add-tallies-then-queue-tallies c =
    let fit = sums_fit c.args.tallies.now c.args.events.now c.args.place _ c.requires.there c.requires.counted c.in-Some.queue c.in-Some.more (record { settled = 0; passed = 0 }) (sym c.counts_for.ensures ∙ c.in-Some.is) c.if-queue-tallies.true in
    omega (arith, fit.1)

pub returns-then-queue-tallies : goal.returns-then-queue-tallies
returns-then-queue-tallies c =
    record { counted = counts_one c.args.tallies.now c.args.events.now c.args.place _ c.requires.there c.requires.counted c.in-Some.queue c.in-Some.more _ (sym c.counts_for.ensures ∙ c.in-Some.is) c.if-queue-tallies.true }

pub returns-else-queue-tallies : goal.returns-else-queue-tallies
returns-else-queue-tallies c =
    record { counted = counts_beyond c.args.tallies.now c.args.events.now c.args.place _ c.requires.there c.requires.counted c.in-Some.queue c.in-Some.more (sym c.counts_for.ensures ∙ c.in-Some.is) c.if-queue-tallies.false }
