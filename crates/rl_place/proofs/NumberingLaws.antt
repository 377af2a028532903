-- The numbering of nodes and elements: what stands at which number.
use Rattle.std.proofs.Common.{◌≡◌, ℕ, zero, suc, ◌-◌, ◌<◌, ◌≤◌, Bool, true, false, cond, List, [], ◌∷◌, ◌++◌, length, fold, Some, ◌⊎◌, inl, inr, refl, sym, ap, subst, ◌∙◌, arith}
use Rattle.std.specs.List.{AllByRecursion, slice_get, list_any}
use Rattle.std.specs.Prelude.{nat_le}
use Rattle.std.proofs.lemmas.Bool.{leb-true, leb-false}
use Rattle.std.proofs.lemmas.Option.{same_Some, slice_get_within}
use Rattle.std.proofs.lemmas.List.Sums.{fold-append}
use Rattle.rl_place.specs.declared.path.Path.{Path}
use Rattle.rl_place.specs.Paths.{root_path, prefix}
use Rattle.rl_place.specs.Numbering.{same_path, seen_after, node_paths, prefixes_to, elements_after, element_paths}
use Rattle.rl_place.proofs.PrefixLaws.{IsTrim, prefix-prefix}
use Rattle.rl_place.proofs.SeenLaws.{IsIn, AreOnce, get-old, get-cases, stays, is_there, once-after}

-- ---- nodes

-- the nodes are the paths, each once
pub record NodesAre (paths nodes : List Path) : Type 0 where
  pub once : AreOnce nodes
  pub of : (n : ℕ) (p : Path) → slice_get nodes n ≡ Some p → IsIn paths p
  pub each : (r : ℕ) (p : Path) → slice_get paths r ≡ Some p → IsIn nodes p

-- what is among the nodes after these paths are seen
record NodesSeen (all rest seen new : List Path) : Type 0 where
  once : AreOnce new
  of : (n : ℕ) (p : Path) → slice_get new n ≡ Some p → IsIn all p
  keeps : (n : ℕ) (p : Path) → slice_get seen n ≡ Some p → slice_get new n ≡ Some p
  each : (r : ℕ) (p : Path) → slice_get rest r ≡ Some p → IsIn new p

after-from : (all seen : List Path) (p : Path) → ((n : ℕ) (q : Path) → slice_get seen n ≡ Some q → IsIn all q) → IsIn all p → (n : ℕ) (q : Path) → slice_get (seen_after seen p) n ≡ Some q → IsIn all q
after-from all seen p from there n q h = by (list_any (same_path p) seen) h
  where
    by : (b : Bool) → slice_get (cond b seen (seen ++ p ∷ [])) n ≡ Some q → IsIn all q
    by true h = from n q h
    by false h = elim (get-cases seen p n q h) [
      | inl a ↦ from n q a
      | inr a ↦ subst (λ (x : Path). IsIn all x) (sym a.1) there
    ]

nodes-seen : (all rest seen : List Path) → AreOnce seen → ((n : ℕ) (p : Path) → slice_get seen n ≡ Some p → IsIn all p) → ((r : ℕ) (p : Path) → slice_get rest r ≡ Some p → IsIn all p) → NodesSeen all rest seen (fold seen_after seen rest)
nodes-seen all [] seen once from there = record { once = once; of = from; keeps = λ n p h. h; each = λ r p h. absurd (nothing r p h) }
  where
    nothing : (r : ℕ) (p : Path) → slice_get [] r ≡ Some p → ⊥
    nothing r p h = cc
nodes-seen all (path ∷ rest) seen once from there =
    let t = nodes-seen all rest (seen_after seen path) (once-after seen path once) (after-from all seen path from (there 0 path refl)) (λ r p h. there (suc r) p h) in
    record {
      once = t.once;
      of = t.of;
      keeps = λ n p h. t.keeps n p (stays seen path n p h);
      each = λ r p h. first t.keeps t.each r p h;
    }
  where
    first : ((n : ℕ) (p : Path) → slice_get (seen_after seen path) n ≡ Some p → slice_get (fold seen_after (seen_after seen path) rest) n ≡ Some p)
        → ((r : ℕ) (p : Path) → slice_get rest r ≡ Some p → IsIn (fold seen_after (seen_after seen path) rest) p)
        → (r : ℕ) (p : Path) → slice_get (path ∷ rest) r ≡ Some p → IsIn (fold seen_after (seen_after seen path) rest) p
    first keeps each zero p h = let i = is_there seen path in (i.0, keeps i.0 p (i.1 ∙ h))
    first keeps each (suc r) p h = each r p h

pub nodes-are : (paths : List Path) → NodesAre paths (node_paths paths)
unfolding node_paths
nodes-are paths =
    let t = nodes-seen paths paths [] (λ i j p h k. absurd (nothing i p h)) (λ n p h. absurd (nothing n p h)) (λ r p h. (r, h)) in
    record { once = t.once; of = t.of; each = t.each }
  where
    nothing : (r : ℕ) (p : Path) → slice_get [] r ≡ Some p → ⊥
    nothing r p h = cc

-- ---- elements

-- p is the first numbers of a path of a rank
pub record IsFrom (paths : List Path) (p : Path) : Type 0 where
  pub path : Path
  pub there : IsIn paths path
  pub most : p.len ≤ path.len
  pub is : p ≡ prefix path p.len

-- p stands under an element with a lower number
pub record IsAbove (seen : List Path) (i : ℕ) (p : Path) : Type 0 where
  pub some : 1 ≤ p.len
  pub number : ℕ
  pub lower : number < i
  pub is : slice_get seen number ≡ Some (prefix p (p.len - 1))

-- the elements that were seen: the root first, each once, each but the root under one with a lower number, each of a path
pub record AreElements (paths seen : List Path) : Type 0 where
  pub root : slice_get seen 0 ≡ Some root_path
  pub once : AreOnce seen
  pub above : (i : ℕ) (p : Path) → 0 < i → slice_get seen i ≡ Some p → IsAbove seen i p
  pub of : (i : ℕ) (p : Path) → slice_get seen i ≡ Some p → IsFrom paths p

elements-push : (paths seen : List Path) (p : Path) → AreElements paths seen → 1 ≤ p.len → IsIn seen (prefix p (p.len - 1)) → IsFrom paths p → list_any (same_path p) seen ≡ false → AreElements paths (seen ++ p ∷ [])
elements-push paths seen p e some up from fresh = record {
  root = get-old seen p 0 root_path e.root;
  once = subst (λ (xs : List Path). AreOnce xs) (rw fresh refl) (once-after seen p e.once);
  above = λ i q positive h. elim (get-cases seen p i q h) [
    | inl a ↦ let u = e.above i q positive a in record { some = u.some; number = u.number; lower = u.lower; is = get-old seen p u.number _ u.is }
    | inr a ↦ subst (λ (x : Path). IsAbove (seen ++ p ∷ []) i x) (sym a.1) (record { some = some; number = up.0; lower = omega (arith, slice_get_within seen up.0 _ up.1, a.0); is = get-old seen p up.0 _ up.1 })
  ];
  of = λ i q h. elim (get-cases seen p i q h) [
    | inl a ↦ e.of i q a
    | inr a ↦ subst (λ (x : Path). IsFrom paths x) (sym a.1) from
  ];
}

elements-next : (paths seen : List Path) (p : Path) → AreElements paths seen → 1 ≤ p.len → IsIn seen (prefix p (p.len - 1)) → IsFrom paths p → AreElements paths (seen_after seen p)
elements-next paths seen p e some up from = by (list_any (same_path p) seen) refl
  where
    by : (b : Bool) → list_any (same_path p) seen ≡ b → AreElements paths (cond b seen (seen ++ p ∷ []))
    by true _ = e
    by false fresh = elements-push paths seen p e some up from fresh

-- what is among the elements after the first n groups of a path are seen
record GroupsSeen (paths : List Path) (path : Path) (n : ℕ) (seen new : List Path) : Type 0 where
  are : AreElements paths new
  keeps : (i : ℕ) (p : Path) → slice_get seen i ≡ Some p → slice_get new i ≡ Some p
  each : (k : ℕ) → k ≤ n → IsIn new (prefix path k)

groups-seen : (paths : List Path) (path : Path) (n : ℕ) (seen : List Path) → IsTrim path → IsIn paths path → n ≤ path.len → AreElements paths seen → GroupsSeen paths path n seen (fold seen_after seen (prefixes_to path n))
groups-seen paths path zero seen trim there most e = record { are = e; keeps = λ i p h. h; each = λ k less. first k less }
  where
    first : (k : ℕ) → k ≤ 0 → IsIn seen (prefix path k)
    first zero less = (0, e.root)
    first (suc k) less = absurd (omega arith)
groups-seen paths path (suc n) seen trim there most e =
    let t = groups-seen paths path n seen trim there (omega arith) e in
    let old = fold seen_after seen (prefixes_to path n) in
    let new = prefix path (suc n) in
    let made : fold seen_after seen (prefixes_to path (suc n)) ≡ seen_after old new = fold-append seen_after seen (prefixes_to path n) (new ∷ []) in
    let above : prefix new (suc n - 1) ≡ prefix path n = ap (λ (k : ℕ). prefix new k) (omega arith) ∙ prefix-prefix path n (suc n) trim (omega arith) most in
    let up : IsIn old (prefix new (suc n - 1)) = subst (λ (x : Path). IsIn old x) (sym above) (t.each n (omega arith)) in
    let from : IsFrom paths new = record { path = path; there = there; most = most; is = refl } in
    subst (λ (xs : List Path). GroupsSeen paths path (suc n) seen xs) (sym made) (record {
      are = elements-next paths old new t.are (omega arith) up from;
      keeps = λ i p h. stays old new i p (t.keeps i p h);
      each = λ k less. by k (same_or_less k less) t.each;
    })
  where
    same_or_less : (k : ℕ) → k ≤ suc n → (k ≤ n) ⊎ (k ≡ suc n)
    same_or_less k less = split (nat_le k n) refl
      where
        split : (b : Bool) → nat_le k n ≡ b → (k ≤ n) ⊎ (k ≡ suc n)
        split true e = inl (leb-true k n e)
        split false e = inr (omega (arith, leb-false k n e, less))

    by : (k : ℕ) → (k ≤ n) ⊎ (k ≡ suc n) → ((j : ℕ) → j ≤ n → IsIn (fold seen_after seen (prefixes_to path n)) (prefix path j)) → IsIn (seen_after (fold seen_after seen (prefixes_to path n)) (prefix path (suc n))) (prefix path k)
    by k (inl less) each = let i = each k less in (i.0, stays _ (prefix path (suc n)) i.0 _ i.1)
    by k (inr same) each = subst (λ (j : ℕ). IsIn (seen_after (fold seen_after seen (prefixes_to path n)) (prefix path (suc n))) (prefix path j)) (sym same) (is_there (fold seen_after seen (prefixes_to path n)) (prefix path (suc n)))

-- what is among the elements after these paths are seen
record ElementsSeen (paths rest seen new : List Path) : Type 0 where
  are : AreElements paths new
  keeps : (i : ℕ) (p : Path) → slice_get seen i ≡ Some p → slice_get new i ≡ Some p
  each : (r : ℕ) (path : Path) → slice_get rest r ≡ Some path → (k : ℕ) → k ≤ path.len → IsIn new (prefix path k)

elements-seen : (paths rest seen : List Path) → AllByRecursion IsTrim rest → ((r : ℕ) (path : Path) → slice_get rest r ≡ Some path → IsIn paths path) → AreElements paths seen → ElementsSeen paths rest seen (fold elements_after seen rest)
elements-seen paths [] seen trim there e = record { are = e; keeps = λ i p h. h; each = λ r path h. absurd (nothing r path h) }
  where
    nothing : (r : ℕ) (p : Path) → slice_get [] r ≡ Some p → ⊥
    nothing r p h = cc
elements-seen paths (path ∷ rest) seen trim there e =
    let g = groups-seen paths path path.len seen trim.0 (there 0 path refl) (omega arith) e in
    let t = elements-seen paths rest (elements_after seen path) trim.1 (λ r p h. there (suc r) p h) g.are in
    record {
      are = t.are;
      keeps = λ i p h. t.keeps i p (g.keeps i p h);
      each = λ r p h k less. first g.each t.keeps t.each r p h k less;
    }
  where
    first : ((k : ℕ) → k ≤ path.len → IsIn (elements_after seen path) (prefix path k))
        → ((i : ℕ) (p : Path) → slice_get (elements_after seen path) i ≡ Some p → slice_get (fold elements_after (elements_after seen path) rest) i ≡ Some p)
        → ((r : ℕ) (p : Path) → slice_get rest r ≡ Some p → (k : ℕ) → k ≤ p.len → IsIn (fold elements_after (elements_after seen path) rest) (prefix p k))
        → (r : ℕ) (p : Path) → slice_get (path ∷ rest) r ≡ Some p → (k : ℕ) → k ≤ p.len → IsIn (fold elements_after (elements_after seen path) rest) (prefix p k)
    first groups keeps each zero p h k less =
        let same : path ≡ p = same_Some path p h in
        let i = groups k (omega (arith, less, ap (λ (q : Path). q.len) same)) in
        subst (λ (q : Path). IsIn (fold elements_after (elements_after seen path) rest) (prefix q k)) same (i.0, keeps i.0 (prefix path k) i.1)
    first groups keeps each (suc r) p h k less = each r p h k less

-- the elements of a placement, and that each group of each path is one
pub record ElementsAre (paths elements : List Path) : Type 0 where
  pub are : AreElements paths elements
  pub each : (r : ℕ) (path : Path) → slice_get paths r ≡ Some path → (k : ℕ) → k ≤ path.len → IsIn elements (prefix path k)

pub elements-are : (paths : List Path) → 1 ≤ length paths → AllByRecursion IsTrim paths → ElementsAre paths (element_paths paths)
unfolding element_paths
elements-are paths some trim =
    let t = elements-seen paths paths (root_path ∷ []) trim (λ r p h. (r, h)) (start paths some) in
    record { are = t.are; each = t.each }
  where
    nothing : (r : ℕ) (p : Path) → slice_get [] r ≡ Some p → ⊥
    nothing r p h = cc

    from_root : (ps : List Path) → 1 ≤ length ps → (p : Path) → root_path ≡ p → IsFrom ps p
    from_root [] some p h = absurd (omega (arith, some))
    from_root (path ∷ ps) some p h = subst (λ (q : Path). IsFrom (path ∷ ps) q) h (record { path = path; there = (0, refl); most = omega arith; is = refl })

    start : (ps : List Path) → 1 ≤ length ps → AreElements ps (root_path ∷ [])
    start ps some = record {
      root = refl;
      once = λ i j p h k. one i j p h k;
      above = λ i p positive h. absurd (alone i p positive h);
      of = λ i p h. only i p h;
    }
      where
        one : (i j : ℕ) (p : Path) → slice_get (root_path ∷ []) i ≡ Some p → slice_get (root_path ∷ []) j ≡ Some p → i ≡ j
        one zero zero p h k = refl
        one zero (suc j) p h k = absurd (nothing j p k)
        one (suc i) j p h k = absurd (nothing i p h)

        alone : (i : ℕ) (p : Path) → 0 < i → slice_get (root_path ∷ []) i ≡ Some p → ⊥
        alone zero p positive h = omega (arith, positive)
        alone (suc i) p positive h = nothing i p h

        only : (i : ℕ) (p : Path) → slice_get (root_path ∷ []) i ≡ Some p → IsFrom ps p
        only zero p h = from_root ps some p (same_Some root_path p h)
        only (suc i) p h = absurd (nothing i p h)
