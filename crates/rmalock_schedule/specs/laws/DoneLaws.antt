-- Which statuses there are, so that `known` of `rl_viewer` says of a call that is done that there is no other than 0 to 5.
use Rattle.std.proofs.Common.{lit≤, ◌≤◌, ℕ, List, sym, subst}
use Rattle.rl_inputs.specs.Done.{TheAnswer}
use Rattle.rl_inputs.specs.Files.{Names, Texts}
use Rattle.rl_drawing.specs.declared.outcome.Drawn.{Drawn}
use Rattle.rl_drawing.specs.declared.outcome.Drawn.TheVariants.{Whole, Never}
use Rattle.rl_viewer.specs.laws.DoneLaws.{few_as_spelled}
use Rattle.rmalock_schedule.specs.declared.reading.Sketched.{Sketched}
use Rattle.rmalock_schedule.specs.Answer.{TellsDrawn, IsDrawnAs, AnswersFiles, spelled}

few_told : (name : List ℕ) (drawn : Drawn) (answer : TheAnswer) → TellsDrawn name drawn answer → answer.status ≤ 5
few_told name (Whole schedule) answer is = subst (λ a. a.status ≤ 5) (sym is) (lit≤ tt)
few_told name (Never line) answer is = subst (λ a. a.status ≤ 5) (sym is) (lit≤ tt)

few_drawn : (name : List ℕ) (sketched : Sketched) (answer : TheAnswer) → IsDrawnAs name sketched answer → answer.status ≤ 5
few_drawn name sketched answer is = few_told name is.0 answer is.2

pub few : (names : Names) (all : Unit {0}) (texts : Texts) (answer : TheAnswer) → AnswersFiles names all texts answer → answer.status ≤ 5
few names all texts answer is = few_as_spelled (IsDrawnAs names.schedule) (few_drawn names.schedule) (spelled names texts) answer is
