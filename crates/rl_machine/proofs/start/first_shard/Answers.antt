-- There is room for the journal, and so the words are few.
use Rattle.std.proofs.Common.{◌≤◌, length, ap, sym, ◌∙◌, subst, arith}
use Rattle.std.specs.List.{sum}
use Rattle.rl_model.specs.Geom.{GeomFits}
use Rattle.rl_core.specs.ShardTables.{site_with}
use Rattle.rl_machine.specs.laws.StartLaws.{few_words}
use Rattle.rl_machine.proofs.start.first_shard.Goals as goal

pub opening-requires-clause-fits : goal.opening-requires-clause-fits
opening-requires-clause-fits g c =
    let is =
    ap (λ T. T.site) c.in_ok-core.ensures.defined ∙ (g.met.C.ShardCore.laid c.args.shape.now c.args.home c.args.knobs (site_with c.args.geom c.args.shard c.args.room.updates.items)).site_is in
    subst GeomFits (sym (ap (λ s. s.geom) is)) c.requires.fits

pub opening-requires-clause-rooms : goal.opening-requires-clause-rooms
opening-requires-clause-rooms g c =
    let is =
    ap (λ T. T.site) c.in_ok-core.ensures.defined ∙ (g.met.C.ShardCore.laid c.args.shape.now c.args.home c.args.knobs (site_with c.args.geom c.args.shard c.args.room.updates.items)).site_is in
    subst (λ l. sum l ≤ 20000) (sym (ap (λ s. s.rooms) is)) c.requires.few

pub opening-requires-clause-few : goal.opening-requires-clause-few
opening-requires-clause-few g c =
    let core = c.in_ok-core.core in
    let T = (g.C.ShardCore.says core).table in
    let is =
    ap (λ T. T.site) c.in_ok-core.ensures.defined ∙ (g.met.C.ShardCore.laid c.args.shape.now c.args.home c.args.knobs (site_with c.args.geom c.args.shard c.args.room.updates.items)).site_is in
    few_words c.args.geom T.behind T.site c.requires.fits (ap (λ s. s.geom) is) ((g.met.C.ShardCore.shard_laws core).few_words (let few = c.requires.proper.few in let all = c.requires.update_ranks in let same = ap (λ s. length s.rooms) is in omega arith)) (subst (λ l. sum l ≤ 20000) (sym (ap (λ s. s.rooms) is)) c.requires.few)

pub returns-clause-promised : goal.returns-clause-promised
returns-clause-promised g c = λ t ds ts shown said. c.in_ok-core.ensures.promised t ds ts shown (subst (λ k. (g.C.ShardCore.says k).further t ds) c.in_ok-state.ensures.core said)
