-- What came of the files that are asked for is an answer that belongs to them.
use Rattle.std.proofs.Common.{◌≡◌, ℕ, List, [], Option, Some, None, Result, Ok, Err, IfOk, IfErr, Vec, Global, ap, sym, subst, refl, ◌∙◌}
use Rattle.rl_check.specs.declared.illegal.Illegal.{Illegal}
use Rattle.rl_check.specs.Legal.{report_tests}
use Rattle.rl_check.specs.Tests.{IsFirstOf}
use Rattle.rl_inputs.specs.declared.stop.Stop.{Stop}
use Rattle.rl_inputs.specs.declared.stop.Stop.TheVariants as stop
use Rattle.rl_inputs.specs.Done.{TheAnswer, Belongs}
use Rattle.rl_inputs.specs.Files.{Names}
use Rattle.rl_inputs.specs.Reading.{WasRead}
use Rattle.rl_inputs.proofs.ReadLemmas.{no_texts, replay_texts}
use Rattle.rl_making.specs.Summary.{made_summary}
use Rattle.rl_program.specs.declared.checking.Checked.{Checked}
use Rattle.rl_program.specs.Command.{Asked, Replay, Run, Check, Make, Show, RunNames, CheckNames, usage_text}
use Rattle.rl_program.specs.RunAnswer.{WasRun, AnswersAsRead}
use Rattle.rl_program.specs.CheckAnswer.{WereChecked, AnswersAsChecked, verdict}
use Rattle.rl_program.specs.Answer.{shown, Answers, WasReplayed, WasAnsweredTo, answer_to}

-- what belongs to a form belongs to the words that ask for it
pub answered_as : (file : List ℕ → Option (List ℕ)) (form asked : Option Asked) (result : Result TheAnswer Stop) → form ≡ asked →
    WasAnsweredTo form file result → WasAnsweredTo asked file result
answered_as file form asked result e a = subst (λ z. WasAnsweredTo z file result) e a

-- ---- no file is named, so any bytes will do

-- nothing but want of memory ended it
abbrev WantsAtMost : Result TheAnswer Stop → Type 0
WantsAtMost result = IfErr result (λ why. why ≡ stop.Memory)

nothing_refused : (belongs : TheAnswer → Type 0) (result : Result TheAnswer Stop) → IfOk result belongs → WantsAtMost result → Belongs belongs result
nothing_refused belongs (Ok answer) is memory = is
nothing_refused belongs (Err why) is memory = rw memory tt

pub formless : (file : List ℕ → Option (List ℕ)) (asked : Option Asked) (result : Result TheAnswer Stop) → None ≡ asked →
    IfOk result (λ answer. answer ≡ record { status = 1; text = usage_text }) → WantsAtMost result → WasAnsweredTo asked file result
formless file asked result e is memory =
    subst (λ z. WasAnsweredTo z file result) e
    (record { texts = no_texts; are = tt; belongs = nothing_refused (Answers None no_texts) result is memory })

pub was_made : (file : List ℕ → Option (List ℕ)) (asked : Option Asked) (number ranks calls : ℕ) (result : Result TheAnswer Stop) →
    Some (Make number ranks calls) ≡ asked → IfOk result (λ answer. answer ≡ record { status = 0; text = made_summary number ranks calls }) →
    WantsAtMost result → WasAnsweredTo asked file result
was_made file asked number ranks calls result e is memory =
    let belongs = nothing_refused (Answers (Some (Make number ranks calls)) no_texts) result is memory in
    subst (λ z. WasAnsweredTo z file result) e (record { texts = no_texts; are = tt; belongs = belongs })

module _ (file : List ℕ → Option (List ℕ)) where
  -- ---- the shape of a placement

  module _ (place : List ℕ) where
    pub show_answered : (text : Vec ℕ Global) (answer : TheAnswer) → WasRead {X = Vec ℕ Global} (file place) (λ text. text.items) (shown place) (Ok text) →
        answer ≡ record { status = 0; text = text.items } → WasAnsweredTo (Some (Show place)) file (Ok answer)
    show_answered text answer read is = record { texts = replay_texts read.bytes [] []; are = read.fits; belongs = is ∙ ap answer_to (sym read.ends) }

    pub show_stopped : (why : Stop) → WasRead {X = Vec ℕ Global} (file place) (λ text. text.items) (shown place) (Err why) →
        WasAnsweredTo (Some (Show place)) file (Err why)
    show_stopped (stop.Refused line) read = record { texts = replay_texts read.bytes [] []; are = read.fits; belongs = ap answer_to (sym read.ends) }
    show_stopped stop.Fault read = record { texts = replay_texts read.bytes [] []; are = read.fits; belongs = tt }
    show_stopped stop.Memory read = record { texts = replay_texts read.bytes [] []; are = read.fits; belongs = tt }

  -- ---- a replay

  module _ (names : Names) where
    pub replay_answered : (text : Vec ℕ Global) (answer : TheAnswer) → WasReplayed file names (Ok text) →
        answer ≡ record { status = 0; text = text.items } → WasAnsweredTo (Some (Replay names)) file (Ok answer)
    replay_answered text answer w is =
        subst (λ z. WasAnsweredTo (Some (Replay names)) file (Ok z)) (sym is)
        (record { texts = w.texts; are = w.are; belongs = (ap answer_to (sym w.ends), λ zero. w.replay) })

    pub replay_stopped : (why : Stop) → WasReplayed file names (Err why) → WasAnsweredTo (Some (Replay names)) file (Err why)
    replay_stopped (stop.Refused line) w = record { texts = w.texts; are = w.are; belongs = (ap answer_to (sym w.ends), λ zero. absurd cc) }
    replay_stopped stop.Fault w = record { texts = w.texts; are = w.are; belongs = tt }
    replay_stopped stop.Memory w = record { texts = w.texts; are = w.are; belongs = tt }

  -- ---- a run

  module _ (names : RunNames) where
    pub run_answered : (text : Vec ℕ Global) (answer : TheAnswer) → WasRun file names (Ok text) →
        answer ≡ record { status = 0; text = text.items } → WasAnsweredTo (Some (Run names)) file (Ok answer)
    run_answered text answer w is =
        let belongs = subst (λ told. AnswersAsRead w.texts told (record { status = 0; text = text.items })) (sym w.read.1) (refl, w.run) in
        subst (λ z. WasAnsweredTo (Some (Run names)) file (Ok z)) (sym is) (record { texts = w.texts; are = w.are; belongs = belongs })

    pub run_stopped : (why : Stop) → WasRun file names (Err why) → WasAnsweredTo (Some (Run names)) file (Err why)
    run_stopped (stop.Refused line) w = record { texts = w.texts; are = w.are; belongs = rw w.read refl }
    run_stopped stop.Fault w = record { texts = w.texts; are = w.are; belongs = tt }
    run_stopped stop.Memory w = record { texts = w.texts; are = w.are; belongs = tt }

  -- ---- a check

  module _ (names : CheckNames) where
    pub check_answered : (read : Checked) (found : Option Illegal) (answer : TheAnswer) → WereChecked file names (Ok read) →
        IsFirstOf (report_tests read.place read.ops read.report) found → answer ≡ verdict found →
        WasAnsweredTo (Some (Check names)) file (Ok answer)
    check_answered read found answer w first is =
        record { texts = w.texts; are = w.are; belongs = subst (λ told. AnswersAsChecked told answer) (sym w.ends) (found, first, is) }

    pub check_stopped : (why : Stop) → WereChecked file names (Err why) → WasAnsweredTo (Some (Check names)) file (Err why)
    check_stopped (stop.Refused line) w = record { texts = w.texts; are = w.are; belongs = rw w.ends refl }
    check_stopped stop.Fault w = record { texts = w.texts; are = w.are; belongs = tt }
    check_stopped stop.Memory w = record { texts = w.texts; are = w.are; belongs = tt }

    -- and memory ran out after the reading
    pub check_wants : (read : Checked) → WereChecked file names (Ok read) → WasAnsweredTo (Some (Check names)) file (Err stop.Memory)
    check_wants read w = record { texts = w.texts; are = w.are; belongs = tt }
