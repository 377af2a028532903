use Rattle.std.proofs.Common.{◌≤◌, ◌<◌, ◌*◌, ap, arith, length}
use Rattle.rl_work.proofs.work.LockedSide.keep.Goals as goal

pub push-requires : goal.push-requires
push-requires c =
    let below : length c.self.inside.replies.items < length c.self.inside.calls.items = let e = ap (λ w. length w.replies) c.self.view_is in let f = ap (λ w. length w.calls) c.self.view_is in omega (arith, c.requires.left) in
    let few : length c.self.inside.calls.items ≤ 8 = let f = ap (λ w. length w.calls) c.self.view_is in omega (arith, c.requires.few) in
    (omega arith, omega arith)

pub add_writes-requires : goal.add_writes-requires
add_writes-requires c =
    let e = ap (λ w. length w.replies) c.self.view_is in
    let f = ap (λ w. length w.calls) c.self.view_is in
    let five : length c.as_slice.result.now ≤ 5 = c.as_slice.ensures.fits in
    let kept : length c.self.inside.writes.items ≤ 5 * length c.self.inside.replies.items = c.self.invariant.1 in
    omega (arith, c.requires.left, c.requires.few)
