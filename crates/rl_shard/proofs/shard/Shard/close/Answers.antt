-- The window takes the seats, and what it gives is filled in.
use Rattle.std.proofs.Common.{◌≡◌, ◌<◌, ◌∙◌, ◌++◌, length, map, vec_len, sym, ap, subst, rules, arith}
use Rattle.rl_window.specs.Seats.{view_of}
use Rattle.rl_core.specs.ShardTables.{journal_at}
use Rattle.rl_shard.specs.Closing.{inner_of, seated, IsLeft, AreAllTotals, all_entries, pairs_left}
use Rattle.rl_shard.proofs.SeatLists.{all_inner, kept_inner, inner_views, seated_inner}
use Rattle.rl_shard.proofs.Ended.{is_left, is_end}
use Rattle.rl_shard.proofs.shard.Shard.close.Goals as goal

pub close-requires-clause-all : goal.close-requires-clause-all
close-requires-clause-all g c =
    let is : c.take_seats.new.inner.items ≡ map inner_of c.args.seats.items = c.take_seats.ensures.inner ∙ ap (λ l. l ++ map inner_of c.args.seats.items) c.in-Ok.ensures.inner.0 in
    let long : vec_len c.args.seats ≡ length c.args.seats.items = search rules in
    all_inner g.C.ShardCore.says c.args.self c.args.seats.items c.take_seats.new.inner.items is c.requires.seats (vec_len c.args.seats) c.requires.shard.seats long

pub close-requires-clause-kept : goal.close-requires-clause-kept
close-requires-clause-kept g c =
    let is : c.take_seats.new.inner.items ≡ map inner_of c.args.seats.items = c.take_seats.ensures.inner ∙ ap (λ l. l ++ map inner_of c.args.seats.items) c.in-Ok.ensures.inner.0 in
    kept_inner g.C.ShardCore.says c.args.self c.args.seats.items c.take_seats.new.inner.items is c.requires.seats

pub finish-requires-clause-left : goal.finish-requires-clause-left
finish-requires-clause-left g c =
    let is : c.take_seats.new.inner.items ≡ map inner_of c.args.seats.items = c.take_seats.ensures.inner ∙ ap (λ l. l ++ map inner_of c.args.seats.items) c.in-Ok.ensures.inner.0 in
    let views = c.in-Ok-close.ensures.views ∙ ap (map view_of) is ∙ inner_views c.args.seats.items in
    subst (IsLeft (g.C.ShardCore.says c.in-Ok-close.core.whole)) (sym c.as_slice-in-Ok-close.ensures.value)
    (is_left g.C.ShardCore.says g.met.C.ShardCore.shard_laws c.args.self c.args.seats.items c.requires.closed c.in-Ok-close.words.items c.in-Ok-close.ensures.rule.0 c.in-Ok-close.views.items c.in-Ok-close.ensures.rule.1 views
    c.in-Ok-close.core c.in-Ok-close.ensures.core)

pub returns-in-Ok-close-clause-end : goal.returns-in-Ok-close-clause-end
returns-in-Ok-close-clause-end g c =
    let is : c.take_seats.new.inner.items ≡ map inner_of c.args.seats.items = c.take_seats.ensures.inner ∙ ap (λ l. l ++ map inner_of c.args.seats.items) c.in-Ok.ensures.inner.0 in
    let views = c.in-Ok-close.ensures.views ∙ ap (map view_of) is ∙ inner_views c.args.seats.items in
    let core = c.in-Ok-close.ensures.core in
    let words = c.as_slice-in-Ok-close.ensures.value in
    let sums = subst (λ l. AreAllTotals l c.in-Ok.parts.closed.queues.items) c.as_slice.ensures.value c.in-Ok.ensures.queues in
    let some : 0 < length c.args.seats.items = (let long : vec_len c.args.seats ≡ length c.args.seats.items = search rules in let n = c.requires.shard.some in omega arith) in
    is_end g.C.ShardCore.says g.met.C.ShardCore.shard_laws c.args.self c.args.seats.items c.requires.closed c.in-Ok-close.words.items c.in-Ok-close.ensures.rule.0 c.in-Ok-close.views.items c.in-Ok-close.ensures.rule.1 views
    c.finish.result
    (c.finish.ensures.journal ∙ ap (journal_at (g.C.ShardCore.says c.in-Ok-close.core.whole).table) words ∙ ap (λ k. journal_at (g.C.ShardCore.says k.whole).table c.in-Ok-close.words.items) core)
    (c.finish.ensures.pairs ∙ ap (pairs_left (g.C.ShardCore.says c.in-Ok-close.core.whole).table) words ∙ ap (λ k. pairs_left (g.C.ShardCore.says k.whole).table c.in-Ok-close.words.items) core)
    (c.finish.ensures.transcripts ∙ ap (λ k. all_entries (g.C.ShardCore.says k.whole).table c.in-Ok-close.views.items) core)
    (subst (λ q. AreAllTotals c.args.seats.items q.items) (sym c.finish.ensures.queues) sums)
    some

pub returns-in-Err-clause-refused : goal.returns-in-Err-clause-refused
returns-in-Err-clause-refused g c =
    let is : c.take_seats.new.inner.items ≡ map inner_of c.args.seats.items = c.take_seats.ensures.inner ∙ ap (λ l. l ++ map inner_of c.args.seats.items) c.in-Ok.ensures.inner.0 in
    let same : c.in-Err.window ≡ c.args.self.window = c.in-Err.ensures.refused.0 in (
      ap (λ w. record { window = w; alloc = c.args.self.alloc }) same,
      c.give_seats.ensures ∙ ap (λ l. l ++ map seated c.in-Err.inner.items) c.take_seats.ensures.seats.0 ∙ ap (map seated) (c.in-Err.ensures.refused.1 ∙ is) ∙ seated_inner c.args.seats.items,
    )
