-- What follows of a program's call that is done: which statuses there are.
use Rattle.std.proofs.Common.{lit≤, ◌≡◌, ◌≤◌, ℕ, List, Option, Some, None, Result, Ok, Err, sym, subst, arith}
use Rattle.rl_inputs.specs.declared.replay.Replay.{Replay}
use Rattle.rl_inputs.specs.Done.{TheAnswer, IsDone}
use Rattle.rl_inputs.specs.Files.{Names, Texts, AreTextsOf, spelled}
use Rattle.rl_inputs.specs.laws.DoneLaws.{no_other}
use Rattle.rl_viewer.specs.declared.asking.Window.{Window}
use Rattle.rl_viewer.specs.Asking.{TheAsked, names_asked}
use Rattle.rl_viewer.specs.Answer.{AnswersAsSpelled, Answers, ShowsIn, AnswersShown}

-- a file is refused with 2
pub few_as_spelled : {X : Type 0} (answers : X → TheAnswer → Type 0) → ((read : X) (answer : TheAnswer) → answers read answer → answer.status ≤ 5) →
    (told : Result X (List ℕ)) (answer : TheAnswer) → AnswersAsSpelled answers told answer → answer.status ≤ 5
few_as_spelled answers few (Ok read) answer is = few read answer is
few_as_spelled answers few (Err line) answer is = subst (λ a. a.status ≤ 5) (sym is) (lit≤ tt)

few_in : (shows : Replay → Window → List ℕ → Type 0) (window : Window) (replay : Replay) (answer : TheAnswer) → ShowsIn shows window replay answer →
    answer.status ≤ 5
few_in shows window replay answer is = let zero : answer.status ≡ 0 = is.0 in omega (arith, zero)

-- a viewer answers with 0 or 2
pub few_shown : (shows : Replay → Window → List ℕ → Type 0) (names : Names) (window : Window) (texts : Texts) (answer : TheAnswer) →
    AnswersShown shows names window texts answer → answer.status ≤ 5
few_shown shows names window texts answer is = few_as_spelled (ShowsIn shows window) (few_in shows window) (spelled names texts) answer is

module _ {P : Type 0} (usage : List ℕ) (answers : Names → P → Texts → TheAnswer → Type 0)
    (few : (names : Names) (part : P) (texts : Texts) (answer : TheAnswer) → answers names part texts answer → answer.status ≤ 5) where
  few_statuses : (asked : Option (TheAsked P)) (texts : Texts) (answer : TheAnswer) → Answers usage answers asked texts answer → answer.status ≤ 5
  few_statuses None texts answer is = subst (λ a. a.status ≤ 5) (sym is) (lit≤ tt)
  few_statuses (Some asked) texts answer is = few asked.names asked.part texts answer is

  -- there is no other status than 0 to 5, where what is asked for is answered with no other
  pub known : {S K : Type 0} (file : S → List ℕ → Option (List ℕ)) (read_faults : S → ℕ) (written : K → Option (List ℕ))
      (tells_on : K → ℕ → Type 0) (write_faults : K → ℕ) (asked : Option (TheAsked P)) (source left : S) (old new : K) (status : ℕ) →
      IsDone file read_faults written tells_on write_faults (AreTextsOf (names_asked asked)) (Answers usage answers asked) source left old new status →
      status ≤ 5
  known file read_faults written tells_on write_faults asked source left old new status done =
      no_other file read_faults written tells_on write_faults (AreTextsOf (names_asked asked)) (Answers usage answers asked) source left old new status
      done 5 (lit≤ tt) (few_statuses asked done.texts)
