-- What follows of the definitions of a call: which files it may open where all may be opened; and of one that is done, which statuses there
-- are, and that 1 comes for words that are no form.
use Rattle.std.proofs.Common.{lit≤, inl, inr, ◌≡◌, ◌≤◌, ◌⊎◌, ℕ, List, Bool, IsTrue, Option, Some, None, Result, Ok, Err, refl, sym, subst, ◌∙◌, arith}
use Rattle.rl_place.specs.Places.{ThePlace}
use Rattle.rl_ops.specs.declared.ops.Ops.{Ops}
use Rattle.rl_check.specs.declared.illegal.Illegal.{Illegal}
use Rattle.rl_inputs.specs.Done.{TheAnswer, IsAnswerStatus, IsDone}
use Rattle.rl_inputs.specs.Files.{Texts}
use Rattle.rl_inputs.specs.laws.DoneLaws.{no_other}
use Rattle.rl_program.specs.Command.{Asked, Replay, Run, Check, Make, Show}
use Rattle.rl_program.specs.declared.checking.Checked.{Checked}
use Rattle.rl_program.specs.RunAnswer.{AnswersAsRead, run_read}
use Rattle.rl_program.specs.CheckAnswer.{AnswersAsChecked, checked, verdict}
use Rattle.rl_program.specs.Answer.{Answers, AreTexts, MayRead, answer_to, replayed, shown}

-- ---- the files

-- a source that lets every file be opened lets those be opened that are named
pub opens_all : (may_open : List ℕ → Bool) (asked : Option Asked) → ((name : List ℕ) → IsTrue (may_open name)) → MayRead may_open asked
opens_all may_open None all = tt
opens_all may_open (Some (Replay names)) all = (all names.place, all names.calls, all names.schedule)
opens_all may_open (Some (Run names)) all = (all names.place, all names.calls)
opens_all may_open (Some (Check names)) all = (all names.place, all names.calls, all names.report)
opens_all may_open (Some (Make number ranks calls)) all = tt
opens_all may_open (Some (Show place)) all = all place

-- ---- the statuses of answers

-- of an answer to a form
abbrev IsFormStatus : ℕ → Type 0
IsFormStatus status = (status ≡ 0) ⊎ ((status ≡ 2) ⊎ (status ≡ 6))

still : (answer told : TheAnswer) → answer ≡ told → IsFormStatus told.status → IsFormStatus answer.status
still answer told e known = subst (λ a. IsFormStatus a.status) (sym e) known

of_result : (r : Result (List ℕ) (List ℕ)) → IsFormStatus (answer_to r).status
of_result (Ok text) = inl refl
of_result (Err line) = inr (inl refl)

of_verdict : (found : Option Illegal) → IsFormStatus (verdict found).status
of_verdict None = inl refl
of_verdict (Some fault) = inr (inr refl)

of_run : (texts : Texts) (r : Result (ThePlace × Ops) (List ℕ)) (answer : TheAnswer) → AnswersAsRead texts r answer → IsFormStatus answer.status
of_run texts (Ok read) answer is = inl is.0
of_run texts (Err line) answer is = still answer _ is (inr (inl refl))

of_check : (r : Result Checked (List ℕ)) (answer : TheAnswer) → AnswersAsChecked r answer → IsFormStatus answer.status
of_check (Ok read) answer is = still answer _ is.2 (of_verdict is.0)
of_check (Err line) answer is = still answer _ is (inr (inl refl))

of_form : (asked : Asked) (texts : Texts) (answer : TheAnswer) → Answers (Some asked) texts answer → IsFormStatus answer.status
of_form (Replay names) texts answer is = still answer _ is.0 (of_result (replayed names texts))
of_form (Run names) texts answer is = of_run texts (run_read names texts) answer is
of_form (Check names) texts answer is = of_check (checked names texts) answer is
of_form (Make number ranks calls) texts answer is = still answer _ is (inl refl)
of_form (Show place) texts answer is = still answer _ is (of_result (shown place texts.place))

-- of an answer to any words
pub answer_status : (asked : Option Asked) (texts : Texts) (answer : TheAnswer) → Answers asked texts answer → IsAnswerStatus answer.status
answer_status None texts answer is = subst (λ a. IsAnswerStatus a.status) (sym is) (inl (lit≤ tt))
answer_status (Some asked) texts answer is =
    elim (of_form asked texts answer is) [
      | inl zero ↦ inl (omega (arith, zero))
      | inr more ↦ elim more [ inl two ↦ inl (omega (arith, two)) | inr six ↦ inr six ]
    ]

-- 1 answers words that are no form
formless : (asked : Option Asked) (texts : Texts) (answer : TheAnswer) → Answers asked texts answer → answer.status ≡ 1 → asked ≡ None
formless None texts answer is one = refl
formless (Some asked) texts answer is one =
    absurd (elim (of_form asked texts answer is) [
      | inl zero ↦ omega (arith, zero, one)
      | inr more ↦ elim more [ inl two ↦ omega (arith, two, one) | inr six ↦ omega (arith, six, one) ]
    ])

-- ---- a call that is done

module _ {S K : Type 0} (file : S → List ℕ → Option (List ℕ)) (read_faults : S → ℕ) (written : K → Option (List ℕ))
    (tells_on : K → ℕ → Type 0) (write_faults : K → ℕ) (asked : Option Asked) (source left : S) (old new : K) (status : ℕ)
    (done : IsDone file read_faults written tells_on write_faults (AreTexts asked) (Answers asked) source left old new status) where
  -- there is no other status than 0 to 6
  pub known : status ≤ 6
  known =
      no_other file read_faults written tells_on write_faults (AreTexts asked) (Answers asked) source left old new status done 6 (lit≤ tt)
      (λ answer is. elim (answer_status asked done.texts answer is) [ inl few ↦ omega (arith, few) | inr six ↦ omega (arith, six) ])

  -- 1 comes only where the words are no form
  pub one_is_formless : status ≡ 1 → asked ≡ None
  one_is_formless one =
      let w = done.outcome.whole (λ three. omega (arith, one, three)) (λ four. omega (arith, one, four)) (λ five. omega (arith, one, five)) in
      formless asked done.texts w.0 w.1 (sym w.2 ∙ one)
