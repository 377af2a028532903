-- What the words of the command line ask for.
use Rattle.std.specs.Prelude.{ℕ, ◌≤◌, List, [], ◌∷◌, ◌++◌, codes, nat_le, ◌&&◌, Option, Some, None, if◌then◌else◌}
use Rattle.std.specs.Str.{bytes_eq}
use Rattle.rl_text.specs.Number.{number_of}
use Rattle.rl_inputs.specs.Files.{Names, named}
use Rattle.rl_program.specs.declared.command.RunFiles.{RunFiles}
use Rattle.rl_program.specs.declared.command.CheckFiles.{CheckFiles}
use Rattle.rl_program.specs.declared.command.Form.{Form}
use Rattle.rl_program.specs.declared.command.Form.TheVariants as form

-- the names of the files of a run
pub record RunNames : Type 0 where
  pub place : List ℕ
  pub calls : List ℕ

abbrev pub run_named : RunFiles → RunNames
run_named files = record { place = files.place.now; calls = files.calls.now }

-- the names of the files of a check
pub record CheckNames : Type 0 where
  pub place : List ℕ
  pub calls : List ℕ
  pub report : List ℕ

abbrev pub check_named : CheckFiles → CheckNames
check_named files = record { place = files.place.now; calls = files.calls.now; report = files.report.now }

-- what may be asked for
pub data Asked : Type 0 where
  -- the report of a replay of these files
  Replay : Names → Asked
  -- the report of a run of these files by threads
  Run : RunNames → Asked
  -- whether the report in the last of these files is legal
  Check : CheckNames → Asked
  -- the summary of the calls that a generator makes, by its number, how many ranks there are, and how many calls
  Make : ℕ → ℕ → ℕ → Asked
  -- the shape of the placement in this file
  Show : List ℕ → Asked

abbrev pub asked : Form → Asked
asked (form.Replay files) = Replay (named files)
asked (form.Run files) = Run (run_named files)
asked (form.Check files) = Check (check_named files)
asked (form.Make number ranks calls) = Make number ranks calls
asked (form.Show place) = Show place.now

-- there are ranks, at most 32, and at most 20,000 calls
abbrev pub AskFits : Asked → Type 0
AskFits (Make number ranks calls) = (1 ≤ ranks) × (ranks ≤ 32) × (calls ≤ 20000)
AskFits _ = Unit {0}

-- the one line that says which words are a form
abbrev pub usage_text : List ℕ
usage_text = codes "usage: rmalock run PLACE CALLS | replay PLACE CALLS SCHEDULE | make NUMBER RANKS CALLS | check PLACE CALLS REPORT | show PLACE" ++ 10 ∷ []

-- three numbers, where all are numbers and there are so many ranks and calls
abbrev pub make_of : Option ℕ → Option ℕ → Option ℕ → Option Asked
make_of (Some number) (Some ranks) (Some calls) = if nat_le 1 ranks && nat_le ranks 32 && nat_le calls 20000 then Some (Make number ranks calls) else None
make_of _ _ _ = None

-- a verb and one word, a verb and two, and a verb and three
abbrev pub form_of_one : List ℕ → List ℕ → Option Asked
form_of_one verb word = if bytes_eq verb (codes "show") then Some (Show word) else None

abbrev pub form_of_two : List ℕ → List ℕ → List ℕ → Option Asked
form_of_two verb first second = if bytes_eq verb (codes "run") then Some (Run (record { place = first; calls = second })) else None

abbrev pub form_of_three : List ℕ → List ℕ → List ℕ → List ℕ → Option Asked
form_of_three verb first second third =
    if bytes_eq verb (codes "replay") then Some (Replay (record { place = first; calls = second; schedule = third })) else (
    if bytes_eq verb (codes "make") then make_of (number_of first) (number_of second) (number_of third) else (
    if bytes_eq verb (codes "check") then Some (Check (record { place = first; calls = second; report = third })) else None))

-- `show PLACE`, `run PLACE CALLS`, `replay PLACE CALLS SCHEDULE`, `make NUMBER RANKS CALLS` and `check PLACE CALLS REPORT`; other words are
-- no form
abbrev pub form_of : List (List ℕ) → Option Asked
form_of (verb ∷ word ∷ []) = form_of_one verb word
form_of (verb ∷ first ∷ second ∷ []) = form_of_two verb first second
form_of (verb ∷ first ∷ second ∷ third ∷ []) = form_of_three verb first second third
form_of _ = None

-- the same where no thread may be started: then a run is no form
abbrev pub without_runs : Option Asked → Option Asked
without_runs (Some (Run names)) = None
without_runs asked = asked
