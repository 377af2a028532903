-- What was answered and then told is done.
use Rattle.std.proofs.Common.{lit≤, inl, inr, ◌≡◌, ◌≢◌, ◌≤◌, ◌<◌, ℕ, List, Option, Result, Ok, Err, IfOk, sym, ◌∙◌, arith}
use Rattle.rl_io.specs.Whole.{RisesWithFault}
use Rattle.rl_inputs.specs.declared.stop.Stop.{Stop}
use Rattle.rl_inputs.specs.declared.stop.Stop.TheVariants as stop
use Rattle.rl_inputs.specs.Files.{Texts}
use Rattle.rl_inputs.specs.Reading.{stopped_by_fault}
use Rattle.rl_inputs.specs.Done.{TheAnswer, IsAnswerStatus, RisesWith, Outcome, IsDone, Belongs, WasAnswered, WasWritten, IsTold, refusal}

-- an answer's status isn't one of those that tell of a fault or of want of memory
not_blamed : (status blamed : ℕ) → IsAnswerStatus status → 3 ≤ blamed → blamed ≤ 5 → status ≡ blamed → ⊥
not_blamed status blamed known low high e = elim known [ inl few ↦ omega (arith, few, low, e) | inr six ↦ omega (arith, six, high, e) ]

module _ {K : Type 0} (written : K → Option (List ℕ)) (tells_on : K → ℕ → Type 0) (old new : K) (status : ℕ) where
  -- it isn't 3 after an answer
  not_3 : (answer : TheAnswer) → IsAnswerStatus answer.status → WasWritten written tells_on old new answer status → status ≡ 3 → ⊥
  not_3 answer known told three =
      elim told [
        | inl w ↦ not_blamed answer.status 3 known (lit≤ tt) (lit≤ tt) (sym w.0 ∙ three)
        | inr c ↦ let is_4 : status ≡ 4 = c.0 in omega (arith, is_4, three)
      ]

  -- 3 comes exactly where the source failed
  read_is : (answered : Result TheAnswer Stop) (before after : ℕ) → IfOk answered (λ answer. IsAnswerStatus answer.status) →
      IsTold written tells_on old new answered status → RisesWithFault stopped_by_fault answered before after → RisesWith 3 status before after
  read_is (Ok answer) before after known told rises = record { risen = λ three. absurd (not_3 answer known told three); quiet = λ e. rises }
  read_is (Err (stop.Refused line)) before after known told rises =
      record { risen = λ three. absurd (not_3 (refusal line.items) (inl (lit≤ tt)) told three); quiet = λ e. rises }
  read_is (Err stop.Fault) before after known told rises = record { risen = λ three. rises; quiet = λ e. absurd (e told.0) }
  read_is (Err stop.Memory) before after known told rises =
      let is_5 : status ≡ 5 = told.0 in
      record { risen = λ three. absurd (omega (arith, is_5, three)); quiet = λ e. rises }

  module _ (belongs : TheAnswer → Type 0) where
    -- an answer that belongs was told
    of_answer : (answer : TheAnswer) → belongs answer → IsAnswerStatus answer.status → WasWritten written tells_on old new answer status →
        Outcome written tells_on old new belongs status
    of_answer answer is known told =
        elim told [
          | inl w ↦ record {
            whole = λ e3 e4 e5. (answer, is, w.0, w.1);
            cut = λ four. absurd (not_blamed answer.status 4 known (lit≤ tt) (lit≤ tt) (sym w.0 ∙ four));
            silent = λ e. absurd (elim e [
              | inl three ↦ not_blamed answer.status 3 known (lit≤ tt) (lit≤ tt) (sym w.0 ∙ three)
              | inr five ↦ not_blamed answer.status 5 known (lit≤ tt) (lit≤ tt) (sym w.0 ∙ five)
            ]);
          }
          | inr c ↦ let is_4 : status ≡ 4 = c.0 in
              record {
                whole = λ e3 e4 e5. absurd (e4 is_4);
                cut = λ four. (answer, is, c.1);
                silent = λ e. absurd (elim e [ inl three ↦ omega (arith, is_4, three) | inr five ↦ omega (arith, is_4, five) ]);
              }
        ]

    outcome_is : (answered : Result TheAnswer Stop) → Belongs belongs answered → IfOk answered (λ answer. IsAnswerStatus answer.status) →
        IsTold written tells_on old new answered status → Outcome written tells_on old new belongs status
    outcome_is (Ok answer) is known told = of_answer answer is known told
    outcome_is (Err (stop.Refused line)) is known told = of_answer (refusal line.items) is (inl (lit≤ tt)) told
    outcome_is (Err stop.Fault) is known told =
        let is_3 : status ≡ 3 = told.0 in
        record { whole = λ e3 e4 e5. absurd (e3 is_3); cut = λ four. absurd (omega (arith, is_3, four)); silent = λ e. told.1 }
    outcome_is (Err stop.Memory) is known told =
        let is_5 : status ≡ 5 = told.0 in
        record { whole = λ e3 e4 e5. absurd (e5 is_5); cut = λ four. absurd (omega (arith, is_5, four)); silent = λ e. told.1 }

-- what was answered and then told is done
module _ {S K : Type 0} (file : S → List ℕ → Option (List ℕ)) (read_faults : S → ℕ) (written : K → Option (List ℕ))
    (tells_on : K → ℕ → Type 0) (write_faults : K → ℕ) where
  pub done_is : (theirs : (List ℕ → Option (List ℕ)) → Texts → Type 0) (answers : Texts → TheAnswer → Type 0) (source left : S) (old new : K)
      (answered : Result TheAnswer Stop) (status : ℕ) →
      WasAnswered theirs answers (file source) answered → IfOk answered
      (λ answer. IsAnswerStatus answer.status) → RisesWithFault stopped_by_fault answered (read_faults source) (read_faults left) →
      IsTold written tells_on old new answered status → (status ≡ 4 → write_faults old < write_faults new) →
      (status ≢ 4 → write_faults new ≡ write_faults old) →
      IsDone file read_faults written tells_on write_faults theirs answers source left old new status
  done_is theirs answers source left old new answered status a known rises told risen quiet =
      record {
        texts = a.texts;
        are = a.are;
        outcome = outcome_is written tells_on old new status (answers a.texts) answered a.belongs known told;
        read = read_is written tells_on old new status answered (read_faults source) (read_faults left) known told rises;
        write = record { risen = risen; quiet = quiet };
      }
