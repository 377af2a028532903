-- The first numbers of a path.
use Rattle.std.proofs.Common.{◌≡◌, ℕ, zero, suc, ◌-◌, ◌≤◌, List, [], ◌∷◌, ◌++◌, length, take, replicate, refl, sym, ap, ◌∙◌, arith}
use Rattle.std.proofs.lemmas.List.{take-append-le, length-take-le}
use Rattle.std.proofs.Math.Seq.{take-length}
use Rattle.rl_place.specs.declared.path.Path.{Path}
use Rattle.rl_place.specs.Paths.{IsPath, path_of, prefix}

-- a path of these numbers and no others
abbrev pub IsTrim : Path → Type 0
IsTrim p = (ns : List ℕ) × (p ≡ path_of ns)

pub trim-path : (levels : ℕ) (p : Path) → IsPath levels p → IsTrim p
trim-path levels p proper = (proper.numbers, proper.is)

-- the first numbers of a path are those of its front
pub front_path : (ns : List ℕ) (k : ℕ) → k ≤ length ns → prefix (path_of ns) k ≡ path_of (take k ns)
front_path ns k h =
    let count : length (take k ns) ≡ k = length-take-le k ns h in
    let front : take k (ns ++ replicate (3 - length ns) 0) ≡ take k ns = take-append-le k ns (replicate (3 - length ns) 0) h in
    both k (length (take k ns)) (take k (ns ++ replicate (3 - length ns) 0)) (take k ns) (sym count) front
  where
    both : (m n : ℕ) (xs ys : List ℕ) → m ≡ n → xs ≡ ys → ◌≡◌ {A = Path} (record { len = m; parts = xs ++ replicate (3 - m) 0 }) (record { len = n; parts = ys ++ replicate (3 - n) 0 })
    both m n xs ys e f = rw (e, f) refl

take-take : (ns : List ℕ) (n m : ℕ) → n ≤ m → take n (take m ns) ≡ take n ns
take-take ns zero m h = refl
take-take [] (suc n) zero h = absurd (omega arith)
take-take (x ∷ ns) (suc n) zero h = absurd (omega arith)
take-take [] (suc n) (suc m) h = refl
take-take (x ∷ ns) (suc n) (suc m) h = ap (λ (xs : List ℕ). x ∷ xs) (take-take ns n m (omega arith))

pub prefix-trim : (p : Path) (k : ℕ) → IsTrim p → k ≤ p.len → IsTrim (prefix p k)
prefix-trim p k trim h =
    let few : k ≤ length trim.0 = omega (arith, h, ap (λ (q : Path). q.len) trim.1) in
    (take k trim.0, ap (λ (q : Path). prefix q k) trim.1 ∙ front_path trim.0 k few)

-- all numbers of a path are the path
pub prefix-whole : (p : Path) → IsTrim p → prefix p p.len ≡ p
prefix-whole p trim =
    let len : p.len ≡ length trim.0 = ap (λ (q : Path). q.len) trim.1 in
    ap (λ (q : Path). prefix q q.len) trim.1 ∙ front_path trim.0 (length trim.0) (omega arith) ∙ ap path_of (take-length trim.0) ∙ sym trim.1

-- the first of the first numbers are the first
pub prefix-prefix : (p : Path) (n m : ℕ) → IsTrim p → n ≤ m → m ≤ p.len → prefix (prefix p m) n ≡ prefix p n
prefix-prefix p n m trim less most =
    let ns = trim.0 in
    let few : m ≤ length ns = omega (arith, most, ap (λ (q : Path). q.len) trim.1) in
    let fewer : n ≤ length (take m ns) = omega (arith, length-take-le m ns few, less) in
    ap (λ (q : Path). prefix (prefix q m) n) trim.1 ∙ ap (λ (q : Path). prefix q n) (front_path ns m few) ∙ front_path (take m ns) n fewer ∙ ap path_of (take-take ns n m less)
    ∙ sym (ap (λ (q : Path). prefix q n) trim.1 ∙ front_path ns n (omega arith))
