use Rattle.std.proofs.Common.{◌≡◌, ◌+◌, ◌-◌, ◌<◌, ◌∙◌, length, get_or, take, drop, ap, sym, arith}
use Rattle.rl_text.proofs.ShortLaws.{front-rest, one-digit, more-digits}
use Rattle.rl_text.proofs.front.front_number.Goals as goal

pub loop-value-init : goal.loop-value-init
loop-value-init c =
    let xs = c.args.bytes.now in
    let d = c.in_ok-digit.ensures in
    let same : c.from-value.result ≡ c.in_ok-digit.field-0 = c.from-value.ensures in
    record {
      fits = omega (arith, d.0, same);
      so_far = one-digit c.from-value.result (get_or xs 0 0) xs (take (length xs - 1) (drop 1 xs)) (omega (arith, d.0, same)) (d.1 ∙ ap (λ n. 48 + n) (sym same)) (front-rest xs c.in-len1-up.len_at_least);
    }

pub loop-value-preserved : goal.loop-value-preserved
loop-value-preserved c =
    let xs = c.loop-value.rest.now in
    let d = c.in-Some.ensures in
    let same : c.from.result ≡ c.in-Some.last = c.from.ensures in
    let few : c.from.result < 10 = omega (arith, d.0, same) in
    let some : 0 < c.loop-value.value = omega (arith, c.loop-value-test.true) in
    record {
      fits = omega (arith, c.if-value-lt-MAY_GO_ON.true, few);
      so_far = more-digits c.loop-value.value c.from.result (get_or xs 0 0) c.args.bytes.now xs (take (length xs - 1) (drop 1 xs)) some c.if-value-lt-MAY_GO_ON.true few (d.1 ∙ ap (λ n. 48 + n) (sym same)) c.loop-value.invariant.so_far (front-rest xs c.in-len1-up-rest.len_at_least);
    }
