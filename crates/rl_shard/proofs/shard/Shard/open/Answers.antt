-- The window's seats in the shard's.
use Rattle.std.proofs.Common.{rules, ◌≡◌, ◌∙◌, map, vec_len, length, sym, ap, subst}
use Rattle.std.proofs.lemmas.List.{length-map}
use Rattle.rl_window.specs.Seats.{HasSeats, view_of}
use Rattle.rl_shard.specs.declared.shard.Shard.{Shard}
use Rattle.rl_shard.specs.Shards.{counted_at}
use Rattle.rl_shard.specs.Closing.{inner_of, seated}
use Rattle.rl_shard.proofs.SeatLists.{inner_seated, seated_views, all_seated}
use Rattle.rl_shard.proofs.shard.Shard.open.Goals as goal

pub returns-clause-seats : goal.returns-clause-seats
returns-clause-seats g c =
    let inner = c.in_ok-window.inner.items in
    let seats = c.give_seats.new.seats.items in
    let is : seats ≡ map seated inner = search rules in
    let back : inner ≡ map inner_of seats = sym (ap (map inner_of) is ∙ inner_seated inner) in
    let long : vec_len c.args.views ≡ length c.args.views.items = search rules in
    let n : length seats ≡ vec_len c.args.views = ap length is ∙ length-map inner seated ∙ sym (length-map inner view_of) ∙ ap length c.in_ok-window.ensures.views ∙ sym long in
    let shard : Shard _ _ = record { window = c.in_ok-window.window; alloc = c.args.alloc } in
    let q = all_seated g.C.ShardCore.says shard seats inner back c.in_ok-window.ensures.seats.0 c.in_ok-window.ensures.seats.2 in
    (subst (HasSeats c.in_ok-window.window) n q.0, q.1)

pub returns-clause-views : goal.returns-clause-views
returns-clause-views g c =
    let is : c.give_seats.new.seats.items ≡ map seated c.in_ok-window.inner.items = search rules in
    ap (map counted_at) is ∙ seated_views c.in_ok-window.inner.items ∙ c.in_ok-window.ensures.views
