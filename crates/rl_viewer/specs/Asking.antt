-- What the words of the command line ask for.
use Rattle.std.specs.Prelude.{ℕ, List, [], ◌∷◌, Bool, ◌&&◌, nat_lt, nat_le, Option, Some, None, if◌then◌else◌}
use Rattle.std.specs.Option.{option_map}
use Rattle.rl_text.specs.Number.{number_of}
use Rattle.rl_inputs.specs.Files.{Names, named}
use Rattle.rl_inputs.specs.declared.files.Files.{Files}
use Rattle.rl_viewer.specs.declared.asking.Window.{Window}

-- ---- three files, and a part of what they spell

-- the files that are named, and the part that is asked for
pub record TheAsked (P : Type 0) : Type 0 where
  pub names : Names
  pub part : P

abbrev pub the_asked : {P : Type 0} → Files × P → TheAsked P
the_asked asked = record { names = named asked.0; part = asked.1 }

abbrev pub asked_for : {P : Type 0} → Names → Option P → Option (TheAsked P)
asked_for names None = None
asked_for names (Some part) = Some (record { names = names; part = part })

-- three words name the files, in the order in which they are read, and those behind them the part; other words are no form
abbrev pub asked_by : {P : Type 0} → (List (List ℕ) → Option P) → List (List ℕ) → Option (TheAsked P)
asked_by part_by (place ∷ calls ∷ schedule ∷ words) = asked_for (record { place = place; calls = calls; schedule = schedule }) (part_by words)
asked_by part_by _ = None

-- the files that are named, where the words are a form
abbrev pub names_asked : {P : Type 0} → Option (TheAsked P) → Option Names
names_asked asked = option_map (λ asked. asked.names) asked

-- ---- which part

-- a step that is in the window
abbrev pub is_in : Window → ℕ → Bool
is_in window step = nat_le window.from step && nat_lt step window.to

-- steps from one on and before another
abbrev pub window_at : ℕ → ℕ → Window
window_at from to = record { from = from; to = to }

-- two numbers, the first below the second, and the second at most the most steps of a schedule
abbrev pub window_by : Option ℕ → Option ℕ → Option Window
window_by (Some from) (Some to) = if nat_lt from to && nat_le to 2000000 then Some (window_at from to) else None
window_by _ _ = None

-- no word asks for all steps, and `FROM TO` for those; other words are no form
abbrev pub steps_by : List (List ℕ) → Option Window
steps_by [] = Some (window_at 0 2000000)
steps_by (from ∷ to ∷ []) = window_by (number_of from) (number_of to)
steps_by _ = None

-- the window of no steps that stands before a step, which is at most the most steps of a schedule
abbrev pub moment_by : Option ℕ → Option Window
moment_by (Some step) = if nat_le step 2000000 then Some (window_at step step) else None
moment_by None = None

-- `STEP` asks for what stands before that step; other words are no form of this
abbrev pub step_by : List (List ℕ) → Option Window
step_by (step ∷ []) = moment_by (number_of step)
step_by _ = None

-- no word asks for all that there is; any word is no form
abbrev pub all_by : List (List ℕ) → Option (Unit {0})
all_by [] = Some tt
all_by _ = None
