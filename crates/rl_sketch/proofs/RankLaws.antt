-- Lists of ranks: those that weren't stopped, and lists in which each stands once.
use Rattle.std.proofs.Common.{◌≡◌, ℕ, zero, suc, ◌+◌, ◌<◌, ◌≤◌, Bool, true, false, not, ◌||◌, cond, eqb, List, [], ◌∷◌, ◌++◌, length, filter, refl, sym, ap, subst, ◌∙◌, length-append, eqb-true, ne_eqb, arith}
use Rattle.std.specs.List.{AllByRecursion, range_with_len}
use Rattle.std.proofs.lemmas.List.{append-nil}
use Rattle.std.proofs.lemmas.List.Folds.{list_any-append}
use Rattle.rl_sketch.specs.Sketch.{is_among, going, EachOnce}
use Rattle.rl_sketch.proofs.Outcomes.{either_way, or_false, neither, differ}

-- ---- the ranks that weren't stopped

kept-first : (b : Bool) (x : ℕ) (xs ys : List ℕ) → cond b (x ∷ (xs ++ ys)) (xs ++ ys) ≡ cond b (x ∷ xs) xs ++ ys
kept-first true x xs ys = refl
kept-first false x xs ys = refl

range-more : (p : ℕ → Bool) (a n : ℕ) → filter p (range_with_len a (suc n)) ≡ filter p (range_with_len a n) ++ cond (p (a + n)) ((a + n) ∷ []) []
range-more p a zero =
    let same : a ≡ a + 0 = omega arith in
    ap (λ (m : ℕ). cond (p m) (m ∷ []) []) same
range-more p a (suc n) =
    let k : a + 1 + n ≡ a + suc n = omega arith in
    let before = filter p (range_with_len (a + 1) n) in
    ap (λ (kept : List ℕ). cond (p a) (a ∷ kept) kept) (range-more p (a + 1) n ∙ ap (λ (m : ℕ). before ++ cond (p m) (m ∷ []) []) k)
    ∙ kept-first (p a) a before (cond (p (a + suc n)) ((a + suc n) ∷ []) [])

going-more : (rank : ℕ) (stopped : List ℕ) → going (suc rank) stopped ≡ going rank stopped ++ cond (not (is_among stopped rank)) (rank ∷ []) []
going-more rank stopped =
    let first : 0 + rank ≡ rank = omega arith in
    range-more (λ k. not (is_among stopped k)) 0 rank ∙ ap (λ (m : ℕ). going rank stopped ++ cond (not (is_among stopped m)) (m ∷ []) []) first

pub going_with : (rank : ℕ) (stopped : List ℕ) → is_among stopped rank ≡ false → going (rank + 1) stopped ≡ going rank stopped ++ rank ∷ []
going_with rank stopped e =
    let next : rank + 1 ≡ suc rank = omega arith in
    ap (λ (m : ℕ). going m stopped) next ∙ going-more rank stopped ∙ ap (λ (b : Bool). going rank stopped ++ cond (not b) (rank ∷ []) []) e

pub going_without : (rank : ℕ) (stopped : List ℕ) → is_among stopped rank ≡ true → going (rank + 1) stopped ≡ going rank stopped
going_without rank stopped e =
    let next : rank + 1 ≡ suc rank = omega arith in
    ap (λ (m : ℕ). going m stopped) next ∙ going-more rank stopped ∙ ap (λ (b : Bool). going rank stopped ++ cond (not b) (rank ∷ []) []) e ∙ append-nil (going rank stopped)

some-going : (ranks rank : ℕ) (stopped : List ℕ) → rank < ranks → is_among stopped rank ≡ false → 0 < length (going ranks stopped)
some-going zero rank stopped below e = absurd (omega (arith, below))
some-going (suc ranks) rank stopped below e =
    let last = cond (not (is_among stopped ranks)) (ranks ∷ []) [] in
    let long : length (going ranks stopped ++ last) ≡ length (going ranks stopped) + length last = length-append (going ranks stopped) last in
    subst (λ (all : List ℕ). 0 < length all) (sym (going-more ranks stopped))
    (either_way (eqb rank ranks)
    (λ same.
    let there : is_among stopped ranks ≡ false = ap (is_among stopped) (sym (eqb-true rank ranks same)) ∙ e in
    let one : length last ≡ 1 = ap (λ (b : Bool). length (cond (not b) (ranks ∷ []) [])) there in
    omega (arith, long, one))
    (λ other.
    let below_last : rank < ranks = omega (arith, below, differ rank ranks other) in
    let some = some-going ranks rank stopped below_last e in
    omega (arith, long, some)))

pub one_going : (ranks rank : ℕ) (stopped : List ℕ) → rank < ranks → is_among stopped rank ≡ false → not (eqb (length (going ranks stopped)) 0) ≡ true
one_going ranks rank stopped below e =
    let some = some-going ranks rank stopped below e in
    rw (ne_eqb (length (going ranks stopped)) 0 (λ none. omega (arith, some, none))) refl

-- ---- each once

pub among-push : (list : List ℕ) (rank k : ℕ) → is_among (list ++ rank ∷ []) k ≡ (is_among list k || eqb rank k)
among-push list rank k = list_any-append (λ other. eqb other k) list (rank ∷ []) ∙ ap (λ (b : Bool). is_among list k || b) (none (eqb rank k))
  where
    none : (b : Bool) → (b || false) ≡ b
    none true = refl
    none false = refl

not_same : (a b : ℕ) → eqb a b ≡ false → eqb b a ≡ false
not_same a b e = ne_eqb b a (λ same. differ a b e (sym same))

pub once-push : (list : List ℕ) (rank : ℕ) → EachOnce list → is_among list rank ≡ false → EachOnce (list ++ rank ∷ [])
once-push [] rank once new = (refl, tt)
once-push (k ∷ list) rank once new =
    let two = or_false (eqb k rank) (is_among list rank) new in
    (among-push list rank k ∙ neither (is_among list k) (eqb rank k) once.0 (not_same k rank two.0), once-push list rank once.1 two.1)

-- a rank in the midst of a list isn't among those before it
pub once-before : (taken : List ℕ) (rank : ℕ) (more : List ℕ) → EachOnce (taken ++ rank ∷ more) → is_among taken rank ≡ false
once-before [] rank more once = refl
once-before (k ∷ taken) rank more once =
    let two = or_false (is_among taken k) (is_among (rank ∷ more) k) (sym (list_any-append (λ other. eqb other k) taken (rank ∷ more)) ∙ once.0) in
    neither (eqb k rank) (is_among taken rank) (not_same rank k (or_false (eqb rank k) (is_among more k) two.1).0) (once-before taken rank more once.1)

-- ---- ranks below a number, each once, are at most so many

without : ℕ → List ℕ → List ℕ
without n [] = []
without n (k ∷ list) = cond (eqb k n) (without n list) (k ∷ without n list)

without-among : (n x : ℕ) (list : List ℕ) → is_among list x ≡ false → is_among (without n list) x ≡ false
unfolding without
without-among n x [] e = refl
without-among n x (k ∷ list) e =
    let two = or_false (eqb k x) (is_among list x) e in
    let others = without-among n x list two.1 in
    either_way (eqb k n) (λ same. rw same others) (λ other. rw other (neither (eqb k x) (is_among (without n list) x) two.0 others))

without-once : (n : ℕ) (list : List ℕ) → EachOnce list → EachOnce (without n list)
unfolding without
without-once n [] once = tt
without-once n (k ∷ list) once =
    let others = without-once n list once.1 in
    either_way (eqb k n) (λ same. rw same others) (λ other. rw other (without-among n k list once.0, others))

without-below : (n : ℕ) (list : List ℕ) → AllByRecursion (λ k. k < suc n) list → AllByRecursion (λ k. k < n) (without n list)
unfolding without
without-below n [] all = tt
without-below n (k ∷ list) all =
    let others = without-below n list all.1 in
    either_way (eqb k n) (λ same. rw same others) (λ other. rw other (omega (arith, all.0, differ k n other), others))

without-none : (n : ℕ) (list : List ℕ) → is_among list n ≡ false → without n list ≡ list
unfolding without
without-none n [] e = refl
without-none n (k ∷ list) e =
    let two = or_false (eqb k n) (is_among list n) e in
    rw (two.0, without-none n list two.1) refl

without-length : (n : ℕ) (list : List ℕ) → EachOnce list → length list ≤ length (without n list) + 1
unfolding without
without-length n [] once = omega arith
without-length n (k ∷ list) once =
    either_way (eqb k n)
    (λ same.
    let k_is : k ≡ n = eqb-true k n same in
    let rest : without n list ≡ list = without-none n list (ap (is_among list) (sym k_is) ∙ once.0) in
    rw (same, rest) (omega arith))
    (λ other. rw other (omega (arith, without-length n list once.1)))

pub few-below : (n : ℕ) (list : List ℕ) → EachOnce list → AllByRecursion (λ k. k < n) list → length list ≤ n
few-below zero [] once all = omega arith
few-below zero (k ∷ list) once all = absurd (omega (arith, all.0))
few-below (suc n) list once all =
    let others = few-below n (without n list) (without-once n list once) (without-below n list all) in
    omega (arith, others, without-length n list once)
