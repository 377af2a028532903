use Rattle.std.proofs.Common.{◌≡◌, length, IfOk, ap, sym, subst, ◌∙◌}
use Rattle.std.proofs.lemmas.List.{length-map}
use Rattle.rl_machine.specs.Running.{running, shard_run}
use Rattle.rl_making.specs.Counting.{IsSmall}
use Rattle.rl_locks.specs.Runs.{start_with}
use Rattle.rl_reporting.specs.Reported.{report_in, queue_count}
use Rattle.rl_making.specs.Laps.{all_laps}
use Rattle.rl_making.specs.Summary.{counts_in}
use Rattle.rl_making.proofs.MakeLaws.{any_sizes}
use Rattle.rl_making.proofs.LapLaws.{laps_alike}
use Rattle.rl_making.proofs.MakeLaws.{laps_from, as_many_shards, is_small}
use Rattle.rl_making.proofs.making.counts_of_laps.Goals as goal

pub new-requires-clause-batches : goal.new-requires-clause-batches
new-requires-clause-batches g c = any_sizes g.C.ShardCore.batches c.args.ops.sizes c.requires.batches

pub counts_of_machine-requires-clause-shards : goal.counts_of_machine-requires-clause-shards
counts_of_machine-requires-clause-shards g c =
    let place = c.args.place.now in
    let run = laps_from g.C.ShardCore.defined place c.args.ops _ _ _ _ c.args.most _ (running g.C.ShardCore.says c.make_laps.new.machine)
    c.place.view_is c.in_ok-shape.ensures.exact c.knobs.ensures c.as_slice-homes.ensures.value c.in_ok-machine.ensures.made c.in_ok-make_laps.ensures in
    sym (length-map c.make_laps.new.machine.shards (shard_run g.C.ShardCore.says)) ∙ ap (λ m. length m.shards) run
    ∙ as_many_shards g.C.ShardCore.defined place c.args.ops (all_laps c.args.most (start_with g.C.ShardCore.defined place c.args.ops)) (laps_alike c.args.most (start_with g.C.ShardCore.defined place c.args.ops) c.args.most) ∙ c.requires.proper.each_shard

pub counts_of_machine-requires-clause-ranks : goal.counts_of_machine-requires-clause-ranks
counts_of_machine-requires-clause-ranks g c =
    let place = c.args.place.now in
    let run = laps_from g.C.ShardCore.defined place c.args.ops _ _ _ _ c.args.most _ (running g.C.ShardCore.says c.make_laps.new.machine)
    c.place.view_is c.in_ok-shape.ensures.exact c.knobs.ensures c.as_slice-homes.ensures.value c.in_ok-machine.ensures.made c.in_ok-make_laps.ensures in
    ap (λ m. length m.calls) run ∙ ap length (laps_alike c.args.most (start_with g.C.ShardCore.defined place c.args.ops) c.args.most).calls ∙ c.requires.calls.ranks_there

pub counts_of_machine-requires-clause-small : goal.counts_of_machine-requires-clause-small
counts_of_machine-requires-clause-small g c =
    let place = c.args.place.now in
    let run = laps_from g.C.ShardCore.defined place c.args.ops _ _ _ _ c.args.most _ (running g.C.ShardCore.says c.make_laps.new.machine)
    c.place.view_is c.in_ok-shape.ensures.exact c.knobs.ensures c.as_slice-homes.ensures.value c.in_ok-machine.ensures.made c.in_ok-make_laps.ensures in
    subst IsSmall (sym run)
    (is_small g.C.ShardCore.defined place c.args.ops (all_laps c.args.most (start_with g.C.ShardCore.defined place c.args.ops)) _ _ (laps_alike c.args.most (start_with g.C.ShardCore.defined place c.args.ops) c.args.most) c.requires.calls)

pub returns : goal.returns
returns g c =
    let place = c.args.place.now in
    let run = laps_from g.C.ShardCore.defined place c.args.ops _ _ _ _ c.args.most _ (running g.C.ShardCore.says c.make_laps.new.machine)
    c.place.view_is c.in_ok-shape.ensures.exact c.knobs.ensures c.as_slice-homes.ensures.value c.in_ok-machine.ensures.made c.in_ok-make_laps.ensures in
    subst (λ m. IfOk c.counts_of_machine.result (λ counts. counts ≡ counts_in (report_in (queue_count place) m))) run c.counts_of_machine.ensures
