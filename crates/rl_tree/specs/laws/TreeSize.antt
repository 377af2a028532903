-- How many elements a tree can have: at most four for each rank.
use Rattle.std.specs.Prelude.{◌≡◌, ◌≢◌, ◌⊎◌, ℕ, zero, suc, ◌+◌, ◌*◌, ◌<◌, ◌≤◌, refl}
use Rattle.std.proofs.Common.{sym, ◌∙◌, ap, subst, inl, inr, ⊎_elim, arith}
use Rattle.rl_word.specs.laws.Places.{same_or_not}
use Rattle.rl_tree.specs.Tree.{path}
use Rattle.rl_tree.specs.declared.rooted.Rooted.{Rooted}
use Rattle.rl_tree.specs.Elements.{how_many, ranks_in, leaf_of_rank, tree_of}

abbrev Without : (ℕ → ℕ → Type 0) → ℕ → ℕ → ℕ → ℕ → Type 0
Without R n h i c = R i c ⊎ (R i n × R h c)

-- where each of h numbers has one of n places, and no two have the same, there are no more of them
pub pigeon : (n h : ℕ) (R : ℕ → ℕ → Type 0) → ((i : ℕ) → i < h → (c : ℕ) × (c < n) × R i c) → ((i j c : ℕ) → i < h → j < h → R i c → R j c → i ≡ j) → h ≤ n
pigeon n zero R has one = omega arith
pigeon zero (suc h) R has one = let k = has 0 (omega arith) in let bad : k.0 < 0 = k.1 in absurd (omega arith)
pigeon (suc n) (suc h) R has one =
    let k : h ≤ n = pigeon n h (Without R n h)
    (λ i lt.
    let a = has i (omega arith) in
    let la : a.0 < suc n = a.1 in
    ⊎_elim
    (λ e.
    let b = has h (omega arith) in
    let lb : b.0 < suc n = b.1 in
    let rn : R i n = subst (R i) e a.2 in
    let ne : b.0 ≢ n = λ q. let same : i ≡ h = one i h n (omega arith) (omega arith) rn (subst (R h) q b.2) in absurd (omega arith) in
    (b.0, omega arith, inr (rn, b.2)))
    (λ ne. (a.0, omega arith, inl a.2))
    (same_or_not a.0 n))
    (λ i j c li lj ri rj.
    ⊎_elim
    (λ x. ⊎_elim (λ y. one i j c (omega arith) (omega arith) x y)
    (λ y. let same : i ≡ h = one i h c (omega arith) (omega arith) x y.1 in absurd (omega arith)) rj)
    (λ x. ⊎_elim (λ y. let same : j ≡ h = one j h c (omega arith) (omega arith) y x.1 in absurd (omega arith))
    (λ y. one i j n (omega arith) (omega arith) x.0 y.0) rj)
    ri) in
    omega arith

-- an element is at this level of this rank's path
abbrev At : Rooted → ℕ → ℕ → Type 0
At K e c = (r : ℕ) × (j : ℕ) × (r < ranks_in K) × (j ≤ 3) × (c ≡ r * 4 + j) × (e ≡ path (tree_of K) (leaf_of_rank K r) j)

pub few_elements : (K : Rooted) → ((e : ℕ) → e < how_many K → (r : ℕ) × (j : ℕ) × (r < ranks_in K) × (j ≤ 3) ×
    (e ≡ path (tree_of K) (leaf_of_rank K r) j)) → how_many K ≤ ranks_in K * 4
few_elements K reached =
    pigeon (ranks_in K * 4) (how_many K) (At K)
    (λ e lt.
    let k = reached e lt in
    let a : k.0 < ranks_in K = k.2 in
    let b : k.1 ≤ 3 = k.3 in
    (k.0 * 4 + k.1, omega arith, (k.0, k.1, a, b, refl, k.4)))
    (λ i j c li lj x y.
    let xj : x.1 ≤ 3 = x.3 in
    let yj : y.1 ≤ 3 = y.3 in
    let xc : c ≡ x.0 * 4 + x.1 = x.4 in
    let yc : c ≡ y.0 * 4 + y.1 = y.4 in
    let same_rank : x.0 ≡ y.0 = omega arith in
    let same_level : x.1 ≡ y.1 = omega arith in
    x.5 ∙ ap (λ z. path (tree_of K) (leaf_of_rank K z) x.1) same_rank ∙ ap (path (tree_of K) (leaf_of_rank K y.0)) same_level ∙ sym y.5)
