-- With the first words and views the core meets the rule.
use Rattle.std.proofs.Common.{◌≡◌, ◌≤◌, ◌∙◌, length, replicate, sum, vec_len, slice_get, false, sym, ap, subst, arith, rules}
use Rattle.std.specs.Prelude.{Result, Ok, Err, IfOk}
use Rattle.rl_model.specs.Geom.{GeomFits}
use Rattle.rl_window.specs.Seats.{HasSeats}
use Rattle.rl_core.specs.ShardTables.{opening_held}
use Rattle.rl_shard.specs.Counting.{counting_rule, first_counted}
use Rattle.rl_shard.proofs.OpeningLaws.{counted_length, words_some}
use Rattle.rl_shard.proofs.SeatLists.{seats_closed}
use Rattle.rl_shard.proofs.shard.Shard.start.Goals as goal

-- three things known of a result, and what follows
all_ok : {X E : Type 0} (P Q S R : X → Type 0) (r : Result X E) → ((x : X) → P x → Q x → S x → R x) → IfOk r P → IfOk r Q → IfOk r S → IfOk r R
all_ok P Q S R (Ok x) f p q s = f x p q s
all_ok P Q S R (Err e) f p q s = tt

pub open-requires-clause-rule : goal.open-requires-clause-rule
open-requires-clause-rule g c =
    let core = c.args.core in
    let T = (g.C.ShardCore.says core).table in
    let nodes = c.args.nodes in
    let rule = counting_rule g.C.ShardCore.says (record { whole = core }) in
    subst (λ ws. rule (record { words = ws; cards = replicate nodes 0 }) c.in_ok-views.views.items) (sym (c.as_slice.ensures.value ∙ c.in_ok-words.ensures))
    (subst (rule (opening_held T.site T.behind nodes)) (sym c.in_ok-views.ensures) c.requires.start.rule)

pub open-requires-clause-some : goal.open-requires-clause-some
open-requires-clause-some g c =
    let T = (g.C.ShardCore.says c.args.core).table in
    let long : vec_len c.in_ok-views.views ≡ length c.in_ok-views.views.items = search rules in
    let many : length c.in_ok-views.views.items ≡ length c.args.rooms.now = ap length c.in_ok-views.ensures ∙ counted_length T c.args.queues c.args.rooms.now in
    let some = c.requires.start.some in
    let few = c.requires.start.few_ranks in
    (words_some T.site T.behind c.as_slice.result.now (c.as_slice.ensures.value ∙ c.in_ok-words.ensures), omega arith, omega arith)

pub returns-clause-shard : goal.returns-clause-shard
returns-clause-shard g c =
    let T = (g.C.ShardCore.says c.args.core).table in
    let s = c.requires.start in
    let long : vec_len c.in_ok-views.views ≡ length c.in_ok-views.views.items = search rules in
    let many : vec_len c.in_ok-views.views ≡ length c.args.rooms.now = long ∙ ap length c.in_ok-views.ensures ∙ counted_length T c.args.queues c.args.rooms.now in
    all_ok _ _ _ _ c.open.result
    (λ p e q v.
    let core = ap (λ z. z.whole) e in
    record {
      seats = subst (HasSeats p.0.window) many q.0;
      some = s.some;
      fits = subst (λ k. GeomFits (g.C.ShardCore.says k).table.site.geom) (sym core) s.fits;
      few = subst (λ k. sum (g.C.ShardCore.says k).table.site.rooms ≤ 20000) (sym core) s.few;
    })
    c.open.ensures.core c.open.ensures.seats c.open.ensures.views

pub returns-clause-views : goal.returns-clause-views
returns-clause-views g c =
    all_ok _ _ _ _ c.open.result
    (λ p e q v.
    let core = ap (λ z. z.whole) e in
    v ∙ c.in_ok-views.ensures ∙ ap (λ k. first_counted (g.C.ShardCore.says k).table c.args.queues c.args.rooms.now) (sym core))
    c.open.ensures.core c.open.ensures.seats c.open.ensures.views

pub returns-clause-closed : goal.returns-clause-closed
returns-clause-closed g c =
    all_ok _ _ _ _ c.open.result
    (λ p e q v.
    let core = ap (λ z. z.whole) e in
    seats_closed g.C.ShardCore.says p.0 p.1.items c.in_ok-views.views.items v
    (λ r x has. subst (λ k. ((g.C.ShardCore.says k).table.own x.whole).is_open ≡ false) (sym core) (c.requires.start.closed r x (ap (λ l. slice_get l r) (sym c.in_ok-views.ensures) ∙ has))))
    c.open.ensures.core c.open.ensures.seats c.open.ensures.views
