-- Which statuses there are, so that `known` of `rl_viewer` says of a call that is done that there is no other than 0 to 5.
use Rattle.std.proofs.Common.{inl, inr, ◌≡◌, ◌≤◌, ℕ, List, arith}
use Rattle.rl_inputs.specs.declared.replay.Replay.{Replay}
use Rattle.rl_inputs.specs.Done.{TheAnswer}
use Rattle.rl_inputs.specs.Files.{Names, Texts, spelled}
use Rattle.rl_viewer.specs.laws.DoneLaws.{few_as_spelled}
use Rattle.rmalock_finish.specs.Answer.{AnswersReplay, AnswersFiles}

few_replay : (name : List ℕ) (replay : Replay) (answer : TheAnswer) → AnswersReplay name replay answer → answer.status ≤ 5
few_replay name replay answer is =
    elim is [ inl done ↦ let zero : answer.status ≡ 0 = done.0 in omega (arith, zero) | inr told ↦ let two : answer.status ≡ 2 = told.0 in omega (arith, two) ]

pub few : (names : Names) (all : Unit {0}) (texts : Texts) (answer : TheAnswer) → AnswersFiles names all texts answer → answer.status ≤ 5
few names all texts answer is =
    few_as_spelled (AnswersReplay names.schedule) (few_replay names.schedule) (spelled names texts) answer is
