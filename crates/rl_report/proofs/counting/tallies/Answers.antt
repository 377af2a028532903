-- Before the first event nothing is counted.
use Rattle.std.proofs.Common.{◌≡◌, ◌∙◌, [], sym, ap, length, replicate}
use Rattle.std.proofs.lemmas.List.{length-replicate}
use Rattle.rl_report.specs.Tallies.{tallies_from}
use Rattle.rl_report.proofs.TallyLaws.{none_yet}
use Rattle.rl_report.proofs.counting.tallies.Goals as goal

pub loop-place-init : goal.loop-place-init
loop-place-init c =
    let filled : c.in_ok-tallies.tallies.items ≡ replicate c.args.queues (record { settled = 0; passed = 0 }) = c.in_ok-tallies.ensures.items_if_clones_equal (λ y e. e) in
    let many : length c.in_ok-tallies.tallies.items ≡ c.args.queues = ap length filled ∙ length-replicate c.args.queues _ in
    (filled ∙ none_yet 0 c.args.queues ∙ ap (λ n. tallies_from 0 n []) (sym many), many)
