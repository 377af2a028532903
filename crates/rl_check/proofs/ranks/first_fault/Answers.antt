use Rattle.std.proofs.Common.{rules, ◌<◌, ◌≤◌, ap, sym, subst, ◌∙◌, length, arith, Some, None, length-set, refl, inl, inr}
use Rattle.std.proofs.lemmas.List.{length-replicate}
use Rattle.std.proofs.lemmas.Option.{slice_get-get_or}
use Rattle.rl_ops.specs.Asked.{asked_of}
use Rattle.rl_check.specs.declared.ranks.Part.{Part}
use Rattle.rl_check.proofs.RankLaws.{past_calls, past_asked, fresh, not_fresh, lasts_more, no_lasts, called_more, begun_low, goes_on, not_this, this, alone_told, stands_there}
use Rattle.rl_check.proofs.ranks.first_fault.Goals as goal

pub loop-number-init : goal.loop-number-init
loop-number-init c =
    let filled = c.in_ok-lasts.ensures.items_if_clones_equal (λ y e. search rules) in
    record {
      called = λ i h. absurd (omega arith);
      lasts = no_lasts c.args.own.now c.args.shards c.in_ok-lasts.lasts.items filled;
      all_shards = ap length filled ∙ length-replicate c.args.shards None;
      on = refl;
      few = omega arith;
      low = omega arith;
    }

pub returns-then-number-calls : goal.returns-then-number-calls
returns-then-number-calls c =
    let i = c.loop-number.invariant in
    let asked = asked_of c.args.calls.now c.args.sizes.now in (
      c.loop-number.number,
      c.loop-number-test.true,
      i.called,
      (
        refl,
        inl (
          refl,
          past_calls asked c.args.own.now c.loop-number.number
              (past_asked c.args.calls.now c.args.sizes.now c.loop-number.number _ _ c.if-number-calls.true i.on),
        ),
      ),
    )

pub returns-in_default : goal.returns-in_default
returns-in_default c = (
  c.loop-number.number,
  c.loop-number-test.true,
  c.loop-number.invariant.called,
  (
    refl,
    inl (
      refl,
      not_this c.args.calls.now c.args.sizes.now c.requires.sized c.args.own.now c.in_ok-slots.slots.items
          c.in_ok-slots.ensures.slots c.in_ok-slots.ensures.each c.loop-number.number c.loop-number-test.true c.if-number-calls.false
          c.loop-number.part c.begun_by-here.result 0 c.begun_by-here.ensures c.loop-number.invariant.on _ c.index.result.now c.index.ensures
          c.called.result c.called.ensures.isnt c.in_default.is,
    ),
  ),
)

pub index-requires-in-loop-number : goal.index-requires-in-loop-number
index-requires-in-loop-number c =
    let there = c.requires.there c.in-Some.entry (stands_there c.args.calls.now c.args.sizes.now c.requires.sized c.args.own.now c.in_ok-slots.slots.items c.in_ok-slots.ensures.slots c.in_ok-slots.ensures.each c.loop-number.number c.loop-number-test.true c.if-number-calls.false c.loop-number.part c.begun_by-here.result 0 c.begun_by-here.ensures c.loop-number.invariant.on _ c.index.result.now c.index.ensures c.called.result c.called.ensures.isnt c.in-Some.entry c.in-Some.ensures.is) in
    omega (arith, there, c.loop-number.invariant.all_shards, c.loop-number.lasts.ok.0)

pub index_mut-requires : goal.index_mut-requires
index_mut-requires c =
    let there = c.requires.there c.in-Some.entry (stands_there c.args.calls.now c.args.sizes.now c.requires.sized c.args.own.now c.in_ok-slots.slots.items c.in_ok-slots.ensures.slots c.in_ok-slots.ensures.each c.loop-number.number c.loop-number-test.true c.if-number-calls.false c.loop-number.part c.begun_by-here.result 0 c.begun_by-here.ensures c.loop-number.invariant.on _ c.index.result.now c.index.ensures c.called.result c.called.ensures.isnt c.in-Some.entry c.in-Some.ensures.is) in
    omega (arith, there, c.loop-number.invariant.all_shards, c.loop-number.lasts.ok.0)

pub returns-then-not-is_fresh : goal.returns-then-not-is_fresh
returns-then-not-is_fresh c =
    let i = c.loop-number.invariant in
    let e = c.in-Some.entry in
    let asked = asked_of c.args.calls.now c.args.sizes.now in
    let there = c.requires.there e (stands_there c.args.calls.now c.args.sizes.now c.requires.sized c.args.own.now c.in_ok-slots.slots.items c.in_ok-slots.ensures.slots c.in_ok-slots.ensures.each c.loop-number.number c.loop-number-test.true c.if-number-calls.false c.loop-number.part c.begun_by-here.result 0 c.begun_by-here.ensures c.loop-number.invariant.on _ c.index.result.now c.index.ensures c.called.result c.called.ensures.isnt e c.in-Some.ensures.is) in
    let low : e.shard < length c.loop-number.lasts.items = omega (arith, there, i.all_shards) in
    let at = slice_get-get_or c.loop-number.lasts.items e.shard _ low ∙ ap (λ z. Some z) (sym c.index-in-loop-number.ensures) in (
      c.loop-number.number,
      c.loop-number-test.true,
      i.called,
      (
        refl,
        inr (
          this c.args.calls.now c.args.sizes.now c.requires.sized c.args.own.now c.in_ok-slots.slots.items
              c.in_ok-slots.ensures.slots c.in_ok-slots.ensures.each c.loop-number.number c.loop-number-test.true c.if-number-calls.false
              c.loop-number.part c.begun_by-here.result 0 c.begun_by-here.ensures c.loop-number.invariant.on _ c.index.result.now
              c.index.ensures c.called.result c.called.ensures.isnt e c.in-Some.ensures.is,
          (
            refl,
            not_fresh asked c.args.own.now c.loop-number.number i.called e
                (alone_told c.args.calls.now c.args.sizes.now c.requires.sized c.args.own.now c.in_ok-slots.slots.items
                c.in_ok-slots.ensures.slots c.in_ok-slots.ensures.each c.loop-number.number c.loop-number-test.true c.if-number-calls.false
                c.loop-number.part c.begun_by-here.result 0 c.begun_by-here.ensures c.loop-number.invariant.on _ c.index.result.now
                c.index.ensures c.called.result c.called.ensures.isnt e c.in-Some.ensures.is) c.loop-number.lasts.items i.lasts _ at
                c.is_fresh.result c.is_fresh.ensures c.if-not-is_fresh.true,
          ),
        ),
      ),
    )

pub loop-number-preserved : goal.loop-number-preserved
loop-number-preserved c =
    let i = c.loop-number.invariant in
    let e = c.in-Some.entry in
    let asked = asked_of c.args.calls.now c.args.sizes.now in
    let there = c.requires.there e (stands_there c.args.calls.now c.args.sizes.now c.requires.sized c.args.own.now c.in_ok-slots.slots.items c.in_ok-slots.ensures.slots c.in_ok-slots.ensures.each c.loop-number.number c.loop-number-test.true c.if-number-calls.false c.loop-number.part c.begun_by-here.result 0 c.begun_by-here.ensures c.loop-number.invariant.on _ c.index.result.now c.index.ensures c.called.result c.called.ensures.isnt e c.in-Some.ensures.is) in
    let low : e.shard < length c.loop-number.lasts.items = omega (arith, there, i.all_shards) in
    let at = slice_get-get_or c.loop-number.lasts.items e.shard _ low ∙ ap (λ z. Some z) (sym c.index-in-loop-number.ensures) in
    let told = alone_told c.args.calls.now c.args.sizes.now c.requires.sized c.args.own.now c.in_ok-slots.slots.items c.in_ok-slots.ensures.slots c.in_ok-slots.ensures.each c.loop-number.number c.loop-number-test.true c.if-number-calls.false c.loop-number.part c.begun_by-here.result 0 c.begun_by-here.ensures c.loop-number.invariant.on _ c.index.result.now c.index.ensures c.called.result c.called.ensures.isnt e c.in-Some.ensures.is in
    let it = this c.args.calls.now c.args.sizes.now c.requires.sized c.args.own.now c.in_ok-slots.slots.items c.in_ok-slots.ensures.slots c.in_ok-slots.ensures.each c.loop-number.number c.loop-number-test.true c.if-number-calls.false c.loop-number.part c.begun_by-here.result 0 c.begun_by-here.ensures c.loop-number.invariant.on _ c.index.result.now c.index.ensures c.called.result c.called.ensures.isnt e c.in-Some.ensures.is in
    let after : c.begun_by-here.result.part ≤ c.loop-number.number = subst (λ (z : Part). z.part ≤ c.loop-number.number) (sym c.begun_by-here.ensures) (begun_low c.loop-number.part _ c.loop-number.number i.low) in
    record {
      called = called_more asked c.args.own.now c.loop-number.number i.called it (fresh asked c.args.own.now c.loop-number.number i.called e told c.loop-number.lasts.items i.lasts _ at (c.is_fresh.ensures.0 c.if-not-is_fresh.false));
      lasts = lasts_more asked c.args.own.now c.loop-number.number i.called e told c.loop-number.lasts.items i.lasts _ at;
      all_shards = length-set c.loop-number.lasts.items e.shard (Some e) ∙ i.all_shards;
      on = goes_on c.args.calls.now c.args.sizes.now c.requires.sized c.args.own.now c.in_ok-slots.slots.items c.in_ok-slots.ensures.slots c.in_ok-slots.ensures.each c.loop-number.number c.loop-number-test.true c.if-number-calls.false c.loop-number.part c.begun_by-here.result 0 c.begun_by-here.ensures c.loop-number.invariant.on _ c.index.result.now c.index.ensures c.called.result c.called.ensures.isnt;
      few = omega (arith, c.if-number-calls.false);
      low = omega arith;
    }

pub returns : goal.returns
returns c i low = c.loop-number.invariant.called i (omega arith)
