-- What was answered to words, by what was answered to what they ask for.
use Rattle.std.proofs.Common.{◌≡◌, ℕ, List, Option, None, Result, Ok, subst, refl}
use Rattle.rl_inputs.specs.declared.stop.Stop.{Stop}
use Rattle.rl_inputs.specs.Done.{TheAnswer, WasAnswered}
use Rattle.rl_inputs.specs.Files.{Names, Texts, AreTextsOf}
use Rattle.rl_inputs.proofs.ReadLemmas.{no_texts}
use Rattle.rl_viewer.specs.Asking.{TheAsked, names_asked}
use Rattle.rl_viewer.specs.Answer.{Answers}

module _ {P : Type 0} (usage : List ℕ) (answers : Names → P → Texts → TheAnswer → Type 0) (file : List ℕ → Option (List ℕ)) where
  abbrev WasAnsweredTo : Option (TheAsked P) → Result TheAnswer Stop → Type 0
  WasAnsweredTo asked result = WasAnswered (AreTextsOf (names_asked asked)) (Answers usage answers asked) file result

  pub answered_as : (form asked : Option (TheAsked P)) (result : Result TheAnswer Stop) → form ≡ asked → WasAnsweredTo form result → WasAnsweredTo asked result
  answered_as form asked result e a = subst (λ z. WasAnsweredTo z result) e a

  -- the usage line, where the words are no form
  pub usage_answered : (asked : Option (TheAsked P)) → None ≡ asked → WasAnsweredTo asked (Ok (record { status = 1; text = usage }))
  usage_answered asked e = subst (λ z. WasAnsweredTo z (Ok (record { status = 1; text = usage }))) e (record { texts = no_texts; are = tt; belongs = refl })
