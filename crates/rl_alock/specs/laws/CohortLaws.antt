-- What is so of two cohorts, and of the ranks in them.
use Rattle.std.specs.Prelude.{◌≡◌, ◌≢◌, ◌⊎◌, ℕ, ◌<◌, Bool, true, false, not, refl}
use Rattle.std.proofs.Common.{sym, ◌∙◌, ap, inl, inr, ⊎_elim, arith}
use Rattle.rl_alock.specs.declared.cohort.Cohort.{Cohort}
use Rattle.rl_alock.specs.declared.cohort.Cohort.TheVariants.{Local, Remote}
use Rattle.rl_alock.specs.Alock.{Cohorts, sits_at_home, cohort_of, is_in_cohort, other, cohort_no, tail_no}
use Rattle.rl_alock.specs.laws.Cases.{cohort_by}

-- the other cohort is another, and whatever isn't a cohort is the other one
pub other_differs : (c : Cohort) → c ≢ other c
other_differs Local e = cc
other_differs Remote e = cc

pub other_cohort : (c d : Cohort) → c ≢ d → c ≡ other d
other_cohort Local Local ne = absurd (ne refl)
other_cohort Local Remote ne = refl
other_cohort Remote Local ne = refl
other_cohort Remote Remote ne = absurd (ne refl)

-- what holds of a cohort and of the other one holds of both
pub both : (P : Cohort → Type 0) (c : Cohort) → P c → P (other c) → (d : Cohort) → P d
both P Local x y Local = x
both P Local x y Remote = y
both P Remote x y Local = y
both P Remote x y Remote = x

-- two cohorts are the same, or they aren't
pub same_cohort : (c d : Cohort) → (c ≡ d) ⊎ (c ≢ d)
same_cohort Local Local = inl refl
same_cohort Local Remote = inr (λ e. cc)
same_cohort Remote Local = inr (λ e. cc)
same_cohort Remote Remote = inl refl

-- of three cohorts two are the same
pub two_same : (c d e : Cohort) → c ≢ d → d ≢ e → c ≡ e
two_same c d e n o = other_cohort c d n ∙ sym (other_cohort e d (λ q. o (sym q)))

-- a cohort's number is 1 or 2, and another cohort's is another
pub cohort_named : (c : Cohort) → (cohort_no c ≡ 1) ⊎ (cohort_no c ≡ 2)
cohort_named Local = inl refl
cohort_named Remote = inr refl

pub same_no : (c d : Cohort) → cohort_no c ≡ cohort_no d → c ≡ d
same_no Local Local e = refl
same_no Local Remote e = cc
same_no Remote Local e = cc
same_no Remote Remote e = refl

-- a number of a cohort that isn't the one's is the other's
pub other_no : (n : ℕ) (c d : Cohort) → c ≢ d → (n ≡ 1) ⊎ (n ≡ 2) → n ≢ cohort_no c → n ≡ cohort_no d
other_no n Local Local differ o ne = absurd (differ refl)
other_no n Local Remote differ o ne = ⊎_elim (λ e. absurd (ne e)) (λ e. e) o
other_no n Remote Local differ o ne = ⊎_elim (λ e. e) (λ e. absurd (ne e)) o
other_no n Remote Remote differ o ne = absurd (differ refl)

pub two_tails : (c : Cohort) → tail_no c ≢ tail_no (other c)
two_tails Local e = cc
two_tails Remote e = cc

pub tail_low : (c : Cohort) → tail_no c < 2
tail_low Local = omega arith
tail_low Remote = omega arith

-- a rank is in its own cohort, and not in the other
module _ (K : Cohorts) where
  pub in_own : (c : Cohort) (m : ℕ) → cohort_of K m ≡ c → is_in_cohort K c m ≡ true
  in_own c m e = by c (sits_at_home K m) e refl where
    by : (c : Cohort) (b : Bool) → cohort_by b ≡ c → sits_at_home K m ≡ b → is_in_cohort K c m ≡ true
    by Local true q h = h
    by Local false q h = cc
    by Remote true q h = cc
    by Remote false q h = ap not h

  pub in_other : (c : Cohort) (m : ℕ) → cohort_of K m ≢ c → is_in_cohort K c m ≡ false
  in_other c m ne = by c (sits_at_home K m) ne refl where
    by : (c : Cohort) (b : Bool) → cohort_by b ≢ c → sits_at_home K m ≡ b → is_in_cohort K c m ≡ false
    by Local true q h = absurd (q refl)
    by Local false q h = h
    by Remote true q h = ap not h
    by Remote false q h = absurd (q refl)
