use Rattle.std.proofs.Common.{ap, sym, ◌∙◌, slice_index}
use Rattle.rl_check.specs.Shards.{part_tests, shard_tests}
use Rattle.rl_check.specs.Tests.{IsFirstOf}
use Rattle.rl_check.proofs.TestLaws.{if_ok}
use Rattle.rl_check.proofs.FindingLaws.{err_first, batch_first, updates_first, behind_first}
use Rattle.rl_check.proofs.shards.fault_of.Goals as goal

pub returns-in-Err : goal.returns-in-Err
returns-in-Err c =
    let home = slice_index c.args.place.now.homes c.args.shard in
    err_first c.args.place.now c.args.replay c.args.shard home c.args.part.now _ _ (ap (λ p. p.geom) c.place.view_is)
    (c.as_slice-entries.ensures.value ∙ ap (λ S. S.entries) c.part.view_is) c.in-Err.fault c.in-Err.ensures

pub returns-then-ends_in_batch : goal.returns-then-ends_in_batch
returns-then-ends_in_batch c =
    let home = slice_index c.args.place.now.homes c.args.shard in
    batch_first c.args.place.now c.args.replay c.args.shard home c.args.part.now _ _ (ap (λ p. p.geom) c.place.view_is)
    (c.as_slice-entries.ensures.value ∙ ap (λ S. S.entries) c.part.view_is)
    c.in-Ok.updates c.in-Ok.ensures c.ends_in_batch.result c.ends_in_batch.ensures c.if-ends_in_batch.true

pub returns-then-part-updates : goal.returns-then-part-updates
returns-then-part-updates c =
    let home = slice_index c.args.place.now.homes c.args.shard in
    updates_first c.args.place.now c.args.replay c.args.shard home c.args.part.now _ _ (ap (λ p. p.geom) c.place.view_is)
    (c.as_slice-entries.ensures.value ∙ ap (λ S. S.entries) c.part.view_is)
    c.in-Ok.updates c.in-Ok.ensures c.ends_in_batch.result c.ends_in_batch.ensures c.if-ends_in_batch.false
    (λ h. c.if-part-updates.true (ap (λ S. S.updates) c.part.view_is ∙ h))

pub returns : goal.returns
returns c =
    let home = slice_index c.args.place.now.homes c.args.shard in
    if_ok c.fault_behind.result (IsFirstOf (part_tests c.args.place.now c.args.replay c.args.shard home c.args.part.now
    c.in_ok-told.told.table.table))
    (IsFirstOf (shard_tests c.args.place.now c.args.replay c.args.shard home c.args.part.now))
    (behind_first c.args.place.now c.args.replay c.args.shard home c.args.part.now _ _ (ap (λ p. p.geom) c.place.view_is)
    (c.as_slice-entries.ensures.value ∙ ap (λ S. S.entries) c.part.view_is)
    c.in-Ok.updates c.in-Ok.ensures c.ends_in_batch.result c.ends_in_batch.ensures c.if-ends_in_batch.false
    (sym (ap (λ S. S.updates) c.part.view_is) ∙ c.if-part-updates.false) _ _ c.in_ok-told.ensures)
    c.fault_behind.ensures
