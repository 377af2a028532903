-- Under RMA-MCS and RMA-RW every element of a proper placement but the root has a budget: that of its level.
use Rattle.std.proofs.Common.{◌≡◌, ℕ, zero, suc, ◌-◌, ◌≤◌, ◌==◌, List, [], ◌∷◌, length, map, Some, None, true, false, if◌then◌else◌, ap, sym, subst, ◌∙◌, arith}
use Rattle.std.specs.List.{AllByRecursion, slice_get}
use Rattle.std.proofs.lemmas.Bool.{ne_eqb}
use Rattle.std.proofs.lemmas.List.{length-map}
use Rattle.std.proofs.lemmas.Option.{same_Some}
use Rattle.rl_word.specs.declared.shapes.Element.{Element}
use Rattle.rl_word.specs.laws.Places.{get_map, some_at}
use Rattle.rl_step.specs.LockQueues.{budget_by}
use Rattle.std.specs.Prelude.{is_some}
use Rattle.rl_tree.specs.TreeShape.{IsBudgeted}
use Rattle.rl_rw.specs.Rw.{SuitsRw}
use Rattle.rl_place.specs.declared.path.Path.{Path}
use Rattle.rl_place.specs.declared.lock.Lock.{Lock}
use Rattle.rl_place.specs.declared.lock.Lock.TheVariants as lock
use Rattle.rl_place.specs.Paths.{IsPath}
use Rattle.rl_place.specs.Numbering.{node_paths, element_paths}
use Rattle.rl_place.specs.Places.{ThePlace, IsProper, LockFits}
use Rattle.rl_place.specs.Shapes.{level_budget, budget_of, element_of, shape_of, knobs_of}
use Rattle.rl_place.proofs.PrefixLaws.{IsTrim, trim-path}
use Rattle.rl_place.proofs.NumberingLaws.{elements-are}

-- a level that is there has a budget
level_some : (budgets : List ℕ) (n : ℕ) → 1 ≤ n → n ≤ length budgets → is_some (level_budget budgets n) ≡ true
level_some budgets zero some most = absurd (omega (arith, some))
level_some budgets (suc n) some most =
    let named : (suc n == 0) ≡ false = ne_eqb (suc n) 0 (λ e. omega (arith, e)) in
    let level : suc n - 1 ≡ n = omega arith in
    ap (λ b. is_some (if b then None else slice_get budgets (suc n - 1))) named ∙ ap (λ k. is_some (slice_get budgets k)) level ∙ ap is_some (some_at budgets n (omega (arith, most))).1

-- the paths are trimmed, and each has so many numbers
trimmed : (levels : ℕ) (paths : List Path) → AllByRecursion (λ path. IsPath levels path) paths → AllByRecursion IsTrim paths
trimmed levels [] all = tt
trimmed levels (path ∷ paths) all = (trim-path levels path all.0, trimmed levels paths all.1)

path_at : (levels : ℕ) (paths : List Path) (r : ℕ) (path : Path) → AllByRecursion (λ path. IsPath levels path) paths → slice_get paths r ≡ Some path → path.len ≡ levels
path_at levels [] r path all has = absurd cc
path_at levels (p ∷ paths) zero path all has = ap (λ q. q.len) (sym (same_Some p path has)) ∙ ap (λ q. q.len) all.0.is ∙ all.0.count
path_at levels (p ∷ paths) (suc r) path all has = path_at levels paths r path all.1 has

-- where the levels have their budgets
levels_budgeted : (place : ThePlace) (budgets : List ℕ) → IsProper place → length budgets ≡ place.levels → ((n : ℕ) → 1 ≤ n → budget_of place.lock n ≡ level_budget budgets n) → IsBudgeted (shape_of place)
levels_budgeted place budgets proper each by_level e positive there =
    let names = element_paths place.paths in
    let element : Path → Element = element_of place.lock (node_paths place.paths) names in
    let all : length (map element names) ≡ length names = length-map names element in
    let found = some_at names e (omega (arith, there, all)) in
    let are = elements-are place.paths proper.some_ranks (trimmed place.levels place.paths proper.paths) in
    let some = are.are.above e found.0 positive found.1 in
    let from = are.are.of e found.0 found.1 in
    let deep : from.path.len ≡ place.levels = path_at place.levels place.paths from.there.0 from.path proper.paths from.there.1 in
    let most = from.most in
    let least = some.some in
    let first : 1 ≤ found.0.len = omega (arith, least) in
    ap (λ z. is_some (budget_by z)) (get_map element names e found.0 found.1) ∙ ap is_some (by_level found.0.len first)
    ∙ level_some budgets found.0.len first (omega (arith, most, deep, each))

pub budgeted : (place : ThePlace) (budgets : List ℕ) → IsProper place → place.lock ≡ lock.Mcs budgets → IsBudgeted (shape_of place)
budgeted place budgets proper is =
    let fits : LockFits place.levels (lock.Mcs budgets) = subst (LockFits place.levels) is proper.lock in
    levels_budgeted place budgets proper fits.each_level (λ n some. ap (λ l. budget_of l n) is)

-- and under RMA-RW so has the root; all settings are modest
pub suits_rw : (place : ThePlace) (budgets : List ℕ) (writers readers group : ℕ) → IsProper place → place.lock ≡ lock.Rw budgets writers readers group → SuitsRw (shape_of place) (knobs_of place.lock)
suits_rw place budgets writers readers group proper is =
    let fits : LockFits place.levels (lock.Rw budgets writers readers group) = subst (LockFits place.levels) is proper.lock in
    let named : (n : ℕ) → 1 ≤ n → (n == 0) ≡ false = λ n some. ne_eqb n 0 (λ e. omega (arith, some, e)) in
    let modest = fits.most_writers in
    let served = fits.some_readers in
    let few = fits.most_readers in
    let some = fits.some_group in
    let small = fits.most_group in
    subst (λ (l : Lock). SuitsRw (shape_of place) (knobs_of l)) (sym is)
    (record {
      budgeted = levels_budgeted place budgets proper fits.each.each_level (λ n some. ap (λ l. budget_of l n) is ∙ ap (λ b. if b then Some writers else level_budget budgets n) (named n some));
      writers = omega (arith, modest);
      served = omega (arith, served);
      readers = omega (arith, few);
      some = omega (arith, some);
      group = omega (arith, small);
    })
