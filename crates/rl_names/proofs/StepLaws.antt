-- The words that were appended for a step are those of the definition.
use Rattle.std.proofs.Common.{◌≡◌, ℕ, List, ◌∷◌, ◌++◌, drop, length, sym, ap, ◌∙◌, append_assoc}
use Rattle.std.proofs.lemmas.Grind.{flat_map-append}
use Rattle.rl_step.specs.declared.events.Event.{Event}
use Rattle.rl_step.specs.declared.events.Stepped.{Stepped}
use Rattle.rl_place.specs.Places.{ThePlace}
use Rattle.rl_report.specs.Naming.{TheNaming}
use Rattle.rl_report.specs.Printing.{spaced}
use Rattle.rl_machine.specs.NextAtoms.{next_by}
use Rattle.rl_machine.specs.Running.{Running}
use Rattle.rl_machine.specs.Run.{block_opened, place_of, trace_of, stepped, answer_of_step}
use Rattle.rl_names.specs.Spelling.{answer_words}
use Rattle.rl_names.specs.StepWords.{events_words, made_words, new_events, step_words}

spaced-append : (xs ys : List (List ℕ)) → spaced (xs ++ ys) ≡ spaced xs ++ spaced ys
spaced-append xs ys = flat_map-append (λ (w : List ℕ). 32 ∷ w) xs ys

module _ {V : Type 0} (place : ThePlace) (naming : TheNaming) (m n last : Running V) (k s t : ℕ) (answer : Stepped) where
  abbrev o : Running V
  o = block_opened m k

  -- the events that were found behind those before the step, on the rank's shard
  pub new_is : (before after news : List (ℕ × Event)) → n ≡ o → last ≡ stepped m k → s ≡ place_of n k → t ≡ place_of last k → before ≡ trace_of n s →
      after ≡ trace_of last t → news ≡ drop (length before) after → news ≡ new_events m k
  new_is before after news opened made at_s at_t was is found =
      let old : before ≡ trace_of o (place_of o k) = was ∙ ap (trace_of n) at_s ∙ ap (λ z. trace_of z (place_of z k)) opened in
      let now : after ≡ trace_of (stepped m k) (place_of o k) = is ∙ ap (trace_of last) at_t ∙ ap (λ z. trace_of z (place_of z k)) made in
      found ∙ ap (λ z. drop (length z) after) old ∙ ap (drop (length (trace_of o (place_of o k)))) now

  pub step_text : (out out1 out2 out3 : List ℕ) (news : List (ℕ × Event)) → n ≡ o → answer ≡ answer_of_step m k → news ≡ new_events m k →
      out1 ≡ out ++ spaced (made_words place naming n (place_of n k) (next_by n k)) → out2 ≡ out1 ++ spaced (answer_words answer) → out3 ≡ out2 ++ spaced (events_words naming news) →
      out3 ≡ out ++ spaced (step_words place naming m k)
  step_text out out1 out2 out3 news opened told new e1 e2 e3 =
      let made : List (List ℕ) = made_words place naming o (place_of o k) (next_by o k) in
      let answered : List (List ℕ) = answer_words (answer_of_step m k) in
      let events : List (List ℕ) = events_words naming (new_events m k) in
      let first : out1 ≡ out ++ spaced made = e1 ∙ ap (λ z. out ++ spaced (made_words place naming z (place_of z k) (next_by z k))) opened in
      let second : out2 ≡ (out ++ spaced made) ++ spaced answered = e2 ∙ ap (λ z. z ++ spaced (answer_words answer)) first ∙ ap (λ a. (out ++ spaced made) ++ spaced (answer_words a)) told in
      let third : out3 ≡ ((out ++ spaced made) ++ spaced answered) ++ spaced events =
      e3 ∙ ap (λ z. z ++ spaced (events_words naming news)) second ∙ ap (λ z. ((out ++ spaced made) ++ spaced answered) ++ spaced (events_words naming z)) new in
      third ∙ append_assoc (out ++ spaced made) (spaced answered) (spaced events) ∙ append_assoc out (spaced made) (spaced answered ++ spaced events)
      ∙ ap (λ z. out ++ (spaced made ++ z)) (sym (spaced-append answered events)) ∙ ap (λ z. out ++ z) (sym (spaced-append made (answered ++ events)))
