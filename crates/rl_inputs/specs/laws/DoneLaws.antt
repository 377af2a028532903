-- What follows of a call that is done: that there is no other status, and that the sink goes on telling its bytes.
use Rattle.std.proofs.Common.{inl, inr, ◌≡◌, ◌≤◌, ◌+◌, ℕ, List, length, Option, sym, subst, arith}
use Rattle.std.proofs.lemmas.Bool.{cases_eq}
use Rattle.rl_io.specs.Outside.{GoesOn}
use Rattle.rl_inputs.specs.Files.{Texts}
use Rattle.rl_inputs.specs.Done.{TheAnswer, Wrote, IsDone}

module _ {S K : Type 0} (file : S → List ℕ → Option (List ℕ)) (read_faults : S → ℕ) (written : K → Option (List ℕ))
    (tells_on : K → ℕ → Type 0) (write_faults : K → ℕ) (theirs : (List ℕ → Option (List ℕ)) → Texts → Type 0)
    (answers : Texts → TheAnswer → Type 0) (source left : S) (old new : K) (status : ℕ)
    (done : IsDone file read_faults written tells_on write_faults theirs answers source left old new status) where
  -- a status is 3, 4 or 5, or that of an answer that belongs, whose bytes were written
  by_status : {P : Type 0} → (status ≡ 3 → P) → (status ≡ 4 → P) → (status ≡ 5 → P) →
      ((answer : TheAnswer) → answers done.texts answer → status ≡ answer.status → Wrote written tells_on old new answer.text → P) → P
  by_status three four five whole =
      elim (cases_eq status 3) [
        | inl is_3 ↦ three is_3
        | inr not_3 ↦ elim (cases_eq status 4) [
          | inl is_4 ↦ four is_4
          | inr not_4 ↦ elim (cases_eq status 5) [
            | inl is_5 ↦ five is_5
            | inr not_5 ↦ let w = done.outcome.whole not_3 not_4 not_5 in whole w.0 w.1 w.2 w.3
          ]
        ]
      ]

  -- no status is above 5 and those of the answers that belong
  pub no_other : (most : ℕ) → 5 ≤ most → ((answer : TheAnswer) → answers done.texts answer → answer.status ≤ most) → status ≤ most
  no_other most five few =
      by_status (λ is_3. omega (arith, is_3, five)) (λ is_4. omega (arith, is_4, five)) (λ is_5. omega (arith, is_5, five))
      (λ answer is same wrote. subst (λ n. n ≤ most) (sym same) (few answer is))

  -- where one answer belongs to the texts, a sink with room for it and some more tells its bytes through that more, whatever the status is
  pub tells_still : ((sink : K) (n m : ℕ) → tells_on sink (n + m) → tells_on sink m) → (answer : TheAnswer) →
      ((other : TheAnswer) → answers done.texts other → other ≡ answer) → GoesOn tells_on old (length answer.text) new
  tells_still fewer answer one =
      by_status (λ is_3. as_it_was (done.outcome.silent (inl is_3)))
      (λ is_4. let c = done.outcome.cut is_4 in of_answer c.0 c.1 c.2.goes_on)
      (λ is_5. as_it_was (done.outcome.silent (inr is_5)))
      (λ other is same wrote. of_answer other is wrote.goes_on) where
        as_it_was : new ≡ old → GoesOn tells_on old (length answer.text) new
        as_it_was same m room = subst (λ sink. tells_on sink m) (sym same) (fewer old (length answer.text) m room)

        of_answer : (other : TheAnswer) → answers done.texts other → GoesOn tells_on old (length other.text) new → GoesOn tells_on old (length answer.text) new
        of_answer other is goes = subst (λ a. GoesOn tells_on old (length a.text) new) (one other is) goes
