-- So many steps of one rank, one after the other and at once.
use Rattle.std.specs.Prelude.{◌≡◌, ℕ, ◌+◌, ◌-◌, ◌<◌, [], ◌∷◌, length, replicate, Result, Ok, Err, OnErr}
use Rattle.std.proofs.Common.{sym, ◌∙◌, ap, subst, arith}
use Rattle.std.proofs.lemmas.List.{replicate-append-replicate}
use Rattle.rl_step.specs.Answers.{steps_made}
use Rattle.rl_machine.specs.Running.{Running}
use Rattle.rl_machine.specs.Run.{stepped, run_of}
use Rattle.rl_machine.specs.laws.ReplayLaws.{turn_counts, run_append}

-- a result that may be an error, where it is so in any case
pub on_err : {T E P : Type 0} (r : Result T E) → P → OnErr r P
on_err (Ok x) p = tt
on_err (Err e) p = p

module _ {V : Type 0} where
  -- so many steps of a rank are counted, and the calls are as they were
  pub made_after : (old now : Running V) (n rank : ℕ) → now ≡ run_of old (replicate n rank) → steps_made now.steps ≡ steps_made old.steps + n
  made_after old now n rank is = ap (λ m. steps_made m.steps) is ∙ (turn_counts old n rank).0

  pub calls_after : (old now : Running V) (n rank : ℕ) → now ≡ run_of old (replicate n rank) → now.calls ≡ old.calls
  calls_after old now n rank is = ap (λ m. m.calls) is ∙ (turn_counts old n rank).1

  pub there_after : (old now : Running V) (n rank : ℕ) → now ≡ run_of old (replicate n rank) → rank < length old.calls → rank < length now.calls
  there_after old now n rank is there = subst (λ l. rank < length l) (sym (calls_after old now n rank is)) there

  -- one step more
  pub run_end : (m : Running V) (n k : ℕ) → run_of m (replicate (n + 1) k) ≡ stepped (run_of m (replicate n k)) k
  run_end m n k = ap (run_of m) (sym (replicate-append-replicate n 1 k)) ∙ run_append m (replicate n k) (k ∷ [])

  pub next : (old mid now : Running V) (n k : ℕ) → mid ≡ run_of old (replicate n k) → now ≡ stepped mid k → now ≡ run_of old (replicate (n + 1) k)
  next old mid now n k is step = step ∙ ap (λ m. stepped m k) is ∙ sym (run_end old n k)

  -- the steps that are left make the run whole
  pub whole : (old now last : Running V) (n count rank : ℕ) → n < count → now ≡ run_of old (replicate (n + 1) rank) →
      last ≡ run_of now (replicate (count - n - 1) rank) → last ≡ run_of old (replicate count rank)
  whole old now last n count rank more is rest =
      let left : ℕ = count - n - 1 in
      let parts : count ≡ n + 1 + left = omega arith in
      rest ∙ ap (λ m. run_of m (replicate left rank)) is ∙ sym (run_append old (replicate (n + 1) rank) (replicate left rank))
      ∙ ap (run_of old) (replicate-append-replicate (n + 1) left rank ∙ ap (λ m. replicate m rank) (sym parts))
