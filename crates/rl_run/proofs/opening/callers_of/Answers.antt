-- One caller more.
use Rattle.std.proofs.Common.{rules, ◌≡◌, ◌++◌, length, map, vec_items, ap, sym, subst, ◌∙◌}
use Rattle.std.proofs.lemmas.List.Elements.{All-push}
use Rattle.std.proofs.lemmas.List.{append-nil, length-map}
use Rattle.rl_run.specs.Callers.{IsReady}
use Rattle.rl_run.specs.laws.RowLaws.{first_is}
use Rattle.rl_run.specs.Runs.{CallerMayWork, made_of}
use Rattle.rl_run.specs.laws.RunLaws.{next_wanted, nothing_wanted, made_is}
use Rattle.rl_run.proofs.opening.callers_of.Goals as goal

pub loop-geom-preserved : goal.loop-geom-preserved
loop-geom-preserved g c =
    let calls = ap (map vec_items) (first_is c.loop-geom.calls.items c.remove-own.result (search rules) c.remove-own.ensures.value) in
    let sizes = ap (map vec_items) (first_is c.loop-geom.sizes.items c.remove-own_sizes.result (search rules) c.remove-own_sizes.ensures.value) in
    let rows = ap (map vec_items) (first_is c.loop-geom.rows.items c.remove-seats.result (search rules) c.remove-seats.ensures.value) in
    let made = made_is c.new-caller.result c.loop-geom.rank c.remove-own.result.items c.remove-own_sizes.result.items c.args.geom c.remove-seats.result.items c.new-caller.ensures.who c.new-caller.ensures.seats in
    rw (c.remove-own.ensures.items, c.remove-own_sizes.ensures.items, c.remove-seats.ensures.items, c.push_reserved.ensures.items) (
      next_wanted made_of c.args.geom c.loop-geom.rank (map vec_items c.loop-geom.calls.items) _ (map vec_items c.loop-geom.sizes.items) _ (map vec_items c.loop-geom.rows.items) _ c.remove-own.result.items c.remove-own_sizes.result.items c.remove-seats.result.items c.loop-geom.callers.items c.new-caller.result _
          calls sizes rows made c.loop-geom.invariant.0,
      All-push (CallerMayWork g.C.ShardCore.says) c.loop-geom.callers.items c.new-caller.result c.loop-geom.invariant.1
          (λ shards ready. c.new-caller.ensures.caller shards
          (subst (λ z. IsReady g.C.ShardCore.says shards z.0.3 z.0.0 z.0.1 z.0.2 z.1) made ready)),
      search rules,
      search rules,
      search rules,
      search rules,
    )

pub returns-clause-made : goal.returns-clause-made
returns-clause-made g c =
    let none : length (map vec_items c.loop-geom.calls.items) ≡ 0 = length-map c.loop-geom.calls.items vec_items ∙ search rules in
    sym (append-nil (map made_of c.loop-geom.callers.items))
    ∙ ap (λ z. map made_of c.loop-geom.callers.items ++ z) (sym (nothing_wanted c.args.geom c.loop-geom.rank (map vec_items c.loop-geom.calls.items) (map vec_items c.loop-geom.sizes.items) (map vec_items c.loop-geom.rows.items) none))
    ∙ c.loop-geom.invariant.0

pub returns-clause-may : goal.returns-clause-may
returns-clause-may g c = c.loop-geom.invariant.1
