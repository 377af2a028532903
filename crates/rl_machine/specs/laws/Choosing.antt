-- The chosen one of the ranks that were looked at so far.
use Rattle.std.specs.Prelude.{◌≡◌, ℕ, ◌+◌, ◌<◌, ◌≤◌, Bool, true, false, nat_lt, List, length, slice_get, Option, Some, None, refl}
use Rattle.std.proofs.Common.{sym, ◌∙◌, ap, subst, arith}
use Rattle.std.proofs.lemmas.Option.{same_Some, slice_get_within}
use Rattle.std.proofs.lemmas.Bool.Decides.{nat_tests}
use Rattle.rl_ending.specs.Guiding.{IsChosen, NoneUrgent}
use Rattle.rl_machine.specs.declared.machine.guiding.Urgent.{Urgent}
use Rattle.rl_machine.specs.Choosing.{sooner_if, sooner}

module _ {V : Type 0} (urgent : V → Option ℕ) (vs : List V) where
  -- it is chosen among the first so many
  pub record IsBest (n : ℕ) (c : Urgent) : Type 0 where
    pub below : c.rank < n
    pub view : V
    pub has : slice_get vs c.rank ≡ Some view
    pub is_urgent : urgent view ≡ Some c.urgency
    pub least : (i : ℕ) (v : V) (k : ℕ) → i < n → slice_get vs i ≡ Some v → urgent v ≡ Some k → c.urgency ≤ k
    pub first : (i : ℕ) (v : V) (k : ℕ) → slice_get vs i ≡ Some v → urgent v ≡ Some k → i < c.rank → c.urgency < k

  abbrev pub AreBest : ℕ → Option Urgent → Type 0
  AreBest n None = (i : ℕ) (v : V) → i < n → slice_get vs i ≡ Some v → urgent v ≡ None
  AreBest n (Some c) = IsBest n c

  pub at_first : AreBest 0 None
  at_first i v low has = absurd (omega arith)

  -- a rank is one of those before, or the next
  or_next : (n i : ℕ) (v u : V) (P : V → Type 0) → (i < n → P v) → slice_get vs i ≡ Some v → slice_get vs n ≡ Some u → P u → i < n + 1 → P v
  or_next n i v u P old has there new low =
      elim (nat_lt i n) as (λ b. nat_lt i n ≡ b → P v) [
        | true ↦ λ is. old (grind (arith, nat_tests))
        | false ↦ λ is. let e : i ≡ n = grind (arith, nat_tests) in subst P (same_Some _ _ (sym there ∙ sym (ap (slice_get vs) e) ∙ has)) new
      ] refl

  keeps : (n : ℕ) (c : Urgent) (u : V) → IsBest n c → slice_get vs n ≡ Some u → ((k : ℕ) → urgent u ≡ Some k → c.urgency ≤ k) → IsBest (n + 1) c
  keeps n c u b there more =
      let low = b.below in
      record {
        below = omega arith;
        view = b.view;
        has = b.has;
        is_urgent = b.is_urgent;
        least = λ i v k below has e. or_next n i v u (λ z. (q : ℕ) → urgent z ≡ Some q → c.urgency ≤ q) (λ lt q. b.least i v q lt has) has there more below k e;
        first = b.first;
      }

  takes : (n k : ℕ) (u : V) → slice_get vs n ≡ Some u → urgent u ≡ Some k →
      ((i : ℕ) (v : V) (q : ℕ) → i < n → slice_get vs i ≡ Some v → urgent v ≡ Some q → k < q) → IsBest (n + 1) (record { rank = n; urgency = k })
  takes n k u there is less =
      record {
        below = omega arith;
        view = u;
        has = there;
        is_urgent = is;
        least = λ i v q below has e. or_next n i v u (λ z. (p : ℕ) → urgent z ≡ Some p → k ≤ p) (λ lt p f. let l = less i v p lt has f in omega arith) has there
            (λ p f. let same = same_Some _ _ (sym is ∙ f) in omega arith) below q e;
        first = λ i v q has e low. less i v q low has e;
      }

  next_if : (n k : ℕ) (c : Urgent) (u : V) (b : Bool) → nat_lt k c.urgency ≡ b → IsBest n c → slice_get vs n ≡ Some u → urgent u ≡ Some k → IsBest (n + 1) (sooner_if b c n k)
  next_if n k c u true lt best there is =
      let less : k < c.urgency = grind (arith, nat_tests) in takes n k u there is (λ i v q low has e. let l = best.least i v q low has e in omega arith)
  next_if n k c u false lt best there is =
      let le : c.urgency ≤ k = grind (arith, nat_tests) in keeps n c u best there (λ q f. let same = same_Some _ _ (sym is ∙ f) in omega arith)

  -- one rank more
  pub next_best : (n : ℕ) (chosen : Option Urgent) (u : V) (o : Option ℕ) → AreBest n chosen → slice_get vs n ≡ Some u → urgent u ≡ o → AreBest (n + 1) (sooner chosen n o)
  next_best n None u None best there is = λ i v low has. or_next n i v u (λ z. urgent z ≡ None) (λ lt. best i v lt has) has there is low
  next_best n (Some c) u None best there is = keeps n c u best there (λ k f. let bad : None ≡ Some k = sym is ∙ f in cc)
  next_best n None u (Some k) best there is = takes n k u there is (λ i v q low has e. let bad : None ≡ Some q = sym (best i v low has) ∙ e in cc)
  next_best n (Some c) u (Some k) best there is = next_if n k c u (nat_lt k c.urgency) refl best there is

  -- all were looked at
  pub all_chosen : (n : ℕ) (c : Urgent) → length vs ≡ n → IsBest n c → IsChosen urgent vs c.rank
  all_chosen n c all b =
      record {
        view = b.view;
        has = b.has;
        urgency = c.urgency;
        is_urgent = b.is_urgent;
        least = λ i v k has e. b.least i v k (let low = slice_get_within vs i v has in omega arith) has e;
        first = b.first;
      }

  pub none_chosen : (n : ℕ) → length vs ≡ n → AreBest n None → NoneUrgent urgent vs
  none_chosen n all b = λ i v has. b i v (let low = slice_get_within vs i v has in omega arith) has
