use Rattle.std.proofs.Common.{◌≡◌, ℕ, ◌<◌, ◌-◌, ◌∙◌, ap, subst, arith, IfOk, List}
use Rattle.std.specs.List.{AllZip, range_with_len}
use Rattle.rayon.specs.Numbers.{nat_range}
use Rattle.rayon.proofs.ListFacts.{IfOk-then}
use Rattle.rayon.proofs.ToStd.{nat_range-All}
use Rattle.rl_place.specs.Places.{IsProper}
use Rattle.rl_report.specs.Naming.{naming_of}
use Rattle.rl_report.specs.Reports.{ReportFits}
use Rattle.rl_check.specs.Threads.{Found}
use Rattle.rl_check.specs.Tests.{IsFirstOf}
use Rattle.rl_check.specs.Legal.{tests_on}
use Rattle.rl_check.proofs.threads.of_shards.Goals as goal

pub collect-requires-clause-ready : goal.collect-requires-clause-ready
collect-requires-clause-ready g c κs =
    let ends = c.into_par_iter.ensures in
    let inside = nat_range-All (λ i. IsProper c.args.place.now × ReportFits (naming_of c.args.place.now) c.args.report.now × (i < c.args.place.now.geom.shards)) 0 c.place.inside.geom.shards
    (λ i low high. (c.requires.proper, c.requires.fits, subst (λ p. i < p.geom.shards) c.place.view_is high)) in
    rw (c.map.ensures.base, c.map.ensures.f, ends.0, ends.1) (λ κ k d lt. (inside k d lt, λ y p. tt))

pub returns : goal.returns
returns g c =
    let ends = c.into_par_iter.ensures in
    let n = c.place.inside.geom.shards in
    let whole : n - 0 ≡ n = omega arith in
    IfOk-then c.collect.result _ _ c.collect.ensures (λ v h.
    let chain = rw (c.map.ensures.base, c.map.ensures.f) at h.1 in
    let places = chain.1 ∙ (λ i. nat_range (ends.0 i) (ends.1 i)) ∙ ap (range_with_len 0) (whole ∙ ap (λ p. p.geom.shards) c.place.view_is) in
    rw h.2 (subst (λ (z : List ℕ). AllZip (λ s (found : Found). IfOk found (IsFirstOf (tests_on c.args.place.now c.args.report.now s))) z
    h.0) places chain.2))
