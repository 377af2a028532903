use Rattle.std.proofs.Common.{◌∙◌, sym, refl, inl, inr}
use Rattle.rl_check.proofs.EntryTests.{of_shard, not_of_shard, in_order, not_in_order, in_batch, not_in_batch, at_place, not_at_place, has_reply, has_no_reply}
use Rattle.rl_check.proofs.entries.fault_at.Goals as goal

pub returns-then-shard : goal.returns-then-shard
returns-then-shard c =
    let fails = not_of_shard c.args.entries.now c.args.place _ c.requires.there c.args.geom c.args.shard
    (λ is. c.if-shard.true (c.shard.ensures ∙ is)) in
    inl (refl, fails)

pub returns-then-not-is_in_order : goal.returns-then-not-is_in_order
returns-then-not-is_in_order c =
    let es = c.args.entries.now in
    let p = c.args.place in
    let shard = of_shard es p _ c.requires.there c.args.geom c.args.shard (sym c.shard.ensures ∙ c.if-shard.false) in
    let fails = not_in_order es p _ c.requires.there _ _ c.before-last.ensures c.is_in_order.ensures c.if-not-is_in_order.true in
    inr (shard, inl (refl, fails))

pub returns-then-not-may_follow : goal.returns-then-not-may_follow
returns-then-not-may_follow c =
    let es = c.args.entries.now in
    let p = c.args.place in
    let shard = of_shard es p _ c.requires.there c.args.geom c.args.shard (sym c.shard.ensures ∙ c.if-shard.false) in
    let order = in_order es p _ c.requires.there _ _ c.before-last.ensures c.is_in_order.ensures c.if-not-is_in_order.false in
    let fails = not_in_batch es p _ c.requires.there _ _ c.before-last.ensures c.may_follow.ensures c.if-not-may_follow.true in
    inr (shard, inr (order, inl (refl, fails)))

pub returns-then-entry-updates : goal.returns-then-entry-updates
returns-then-entry-updates c =
    let es = c.args.entries.now in
    let p = c.args.place in
    let shard = of_shard es p _ c.requires.there c.args.geom c.args.shard (sym c.shard.ensures ∙ c.if-shard.false) in
    let order = in_order es p _ c.requires.there _ _ c.before-last.ensures c.is_in_order.ensures c.if-not-is_in_order.false in
    let batch = in_batch es p _ c.requires.there _ _ c.before-last.ensures c.may_follow.ensures c.if-not-may_follow.false in
    inr (shard, inr (order, inr (batch, inl (refl, not_at_place es p _ c.requires.there _ c.requires.counted c.if-entry-updates.true))))

pub returns-then-not-has_reply : goal.returns-then-not-has_reply
returns-then-not-has_reply c =
    let es = c.args.entries.now in
    let p = c.args.place in
    let shard = of_shard es p _ c.requires.there c.args.geom c.args.shard (sym c.shard.ensures ∙ c.if-shard.false) in
    let order = in_order es p _ c.requires.there _ _ c.before-last.ensures c.is_in_order.ensures c.if-not-is_in_order.false in
    let batch = in_batch es p _ c.requires.there _ _ c.before-last.ensures c.may_follow.ensures c.if-not-may_follow.false in
    let place = at_place es p _ c.requires.there _ c.requires.counted c.if-entry-updates.false in
    let tests = has_no_reply es p _ c.requires.there c.args.geom c.args.shard _ _ c.requires.told c.requires.good batch in
    inr (shard, inr (order, inr (batch, inr (place, (refl, tests _ c.has_reply.ensures c.if-not-has_reply.true)))))

pub returns : goal.returns
returns c =
    let es = c.args.entries.now in
    let p = c.args.place in
    let shard = of_shard es p _ c.requires.there c.args.geom c.args.shard (sym c.shard.ensures ∙ c.if-shard.false) in
    let order = in_order es p _ c.requires.there _ _ c.before-last.ensures c.is_in_order.ensures c.if-not-is_in_order.false in
    let batch = in_batch es p _ c.requires.there _ _ c.before-last.ensures c.may_follow.ensures c.if-not-may_follow.false in
    let place = at_place es p _ c.requires.there _ c.requires.counted c.if-entry-updates.false in
    let tests = has_reply es p _ c.requires.there c.args.geom c.args.shard _ _ c.requires.told c.requires.good batch in
    (shard, (order, (batch, (place, tests _ c.has_reply.ensures c.if-not-has_reply.false))))
