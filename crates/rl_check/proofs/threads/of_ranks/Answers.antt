use Rattle.std.proofs.Common.{◌≡◌, ℕ, ◌<◌, ◌-◌, ◌∙◌, ap, subst, arith, IfOk, length, List}
use Rattle.std.specs.List.{AllZip, range_with_len}
use Rattle.rayon.specs.Numbers.{nat_range}
use Rattle.rayon.proofs.ListFacts.{IfOk-then}
use Rattle.rayon.proofs.ToStd.{nat_range-All}
use Rattle.rl_check.specs.Threads.{Found}
use Rattle.rl_check.specs.Tests.{IsFirstOf}
use Rattle.rl_check.specs.Legal.{AreOfSomePlace, tests_by}
use Rattle.rl_check.proofs.threads.of_ranks.Goals as goal

pub collect-requires-clause-ready : goal.collect-requires-clause-ready
collect-requires-clause-ready g c κs =
    let ends = c.into_par_iter.ensures in
    let inside = nat_range-All (λ i. AreOfSomePlace c.args.ops.now c.args.report.now × (i < length c.args.report.now.done)) 0 c.args.ranks
    (λ i low high. (c.requires.fit, omega (arith, c.requires.there, high))) in
    rw (c.map.ensures.base, c.map.ensures.f, ends.0, ends.1) (λ κ k d lt. (inside k d lt, λ y p. tt))

pub returns : goal.returns
returns g c =
    let ends = c.into_par_iter.ensures in
    let n = c.args.ranks in
    let whole : n - 0 ≡ n = omega arith in
    IfOk-then c.collect.result _ _ c.collect.ensures (λ v h.
    let chain = rw (c.map.ensures.base, c.map.ensures.f) at h.1 in
    let places = chain.1 ∙ (λ i. nat_range (ends.0 i) (ends.1 i)) ∙ ap (range_with_len 0) whole in
    rw h.2 (subst (λ (z : List ℕ). AllZip (λ k (found : Found). IfOk found (IsFirstOf (tests_by c.args.ops.now c.args.report.now k))) z h.0)
    places chain.2))
