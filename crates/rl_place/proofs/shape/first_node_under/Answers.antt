use Rattle.std.proofs.Common.{◌<◌, ◌≤◌, length, sym, ◌∙◌, ap, arith}
use Rattle.std.proofs.lemmas.List.Sums.{position_or_len_is}
use Rattle.rl_place.specs.declared.path.Path.{Path}
use Rattle.rl_place.specs.Paths.{prefix, root_path}
use Rattle.rl_place.specs.Numbering.{same_path}
use Rattle.rl_place.proofs.shape.first_node_under.Goals as goal

pub returns-then-eq : goal.returns-then-eq
returns-then-eq c =
    let name = c.args.name in
    let within : c.loop-number.number < length c.args.nodes.now = omega (arith, c.loop-number-test.true, c.loop-number.auto.number-end) in
    sym (position_or_len_is (λ node. same_path name (prefix node name.len)) c.args.nodes.now c.loop-number.number _ (omega (arith, within)) (λ k before. c.loop-number.invariant _ k before)
    (λ h. ap (λ (p : Path). same_path name p) (sym c.prefix.ensures) ∙ sym c.eq.ensures ∙ c.if-eq.true))

pub returns : goal.returns
returns c =
    let name = c.args.name in
    let past : length c.args.nodes.now ≤ c.loop-number.number = omega (arith, c.loop-number-test.false, c.loop-number.auto.number-end) in
    sym (position_or_len_is (λ node. same_path name (prefix node name.len)) c.args.nodes.now (length c.args.nodes.now) root_path (omega arith) (λ k before. c.loop-number.invariant root_path k (omega (arith, before, past)))
    (λ h. absurd (omega (arith, h))))
