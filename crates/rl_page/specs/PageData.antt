-- The data of a page of a replay: lines of its own, and then the texts that tell of the replay, one behind the other.
use Rattle.std.specs.Prelude.{◌≡◌, ℕ, ◌+◌, ◌-◌, min, sum_by, List, [], ◌∷◌, ◌++◌, codes, decimal}
use Rattle.rl_text.specs.Spelling.{text_of}
use Rattle.rl_place.specs.Places.{ThePlace}
use Rattle.rl_place.specs.Spelling.{place_spelling}
use Rattle.rl_place.specs.ShapeText.{shape_spelling}
use Rattle.rl_ops.specs.declared.ops.Ops.{Ops}
use Rattle.rl_ops.specs.declared.schedule.Schedule.{Schedule}
use Rattle.rl_ops.specs.declared.schedule.Turn.{Turn}
use Rattle.rl_ops.specs.declared.schedule.Turn.TheVariants as turn
use Rattle.rl_ops.specs.Ops.{ops_spelling}
use Rattle.rl_ops.specs.Schedule.{steps_of}
use Rattle.rl_report.specs.Naming.{naming_of}
use Rattle.rl_report.specs.Spelling.{report_spelling}
use Rattle.rl_locks.specs.Kinds.{lock_kind_of}
use Rattle.rl_program.specs.Replay.{report_of_replay}
use Rattle.rl_inputs.specs.declared.replay.Replay.{Replay}
use Rattle.rl_viewer.specs.declared.asking.Window.{Window}
use Rattle.rl_viewer.specs.Asking.{window_at}
use Rattle.rl_shown.specs.State.{state_with}
use Rattle.rl_shown.specs.Listing.{listing_with}

-- the steps of a window that are shown: the first 200,000 of it
abbrev pub shown_of : Window → Window
shown_of window = window_at window.from (min window.to (window.from + 200000))

-- how many of these a schedule of so many steps has
abbrev pub count_of : Window → ℕ → ℕ
count_of window total = min (shown_of window).to total - window.from

-- `window FROM TO shown N of TOTAL`
abbrev pub window_line : Window → ℕ → List (List ℕ)
window_line window total =
    codes "window" ∷ decimal window.from ∷ decimal window.to ∷ codes "shown" ∷ decimal (count_of window total) ∷ codes "of" ∷ decimal total ∷ []

-- `stop RANK before STEP`, for each stop among these turns, where so many steps were made before them
abbrev pub stop_line : ℕ → Turn → List (List (List ℕ))
stop_line made (turn.Steps rank count) = []
stop_line made (turn.Stop rank) = (codes "stop" ∷ decimal rank ∷ codes "before" ∷ decimal made ∷ []) ∷ []

abbrev pub stop_lines : ℕ → List Turn → List (List (List ℕ))
stop_lines made [] = []
stop_lines made (t ∷ ts) = stop_line made t ++ stop_lines (made + steps_of t) ts

-- the page's own lines: the version, the window, and who is stopped when
abbrev pub own_lines : Window → List Turn → List (List (List ℕ))
own_lines window turns = (codes "rmalock-page" ∷ codes "1" ∷ []) ∷ window_line window (sum_by steps_of turns) ∷ stop_lines 0 turns

-- what the files say, and the placement's shape
abbrev pub files_text : ThePlace → Ops → List ℕ
files_text place ops = place_spelling place ++ (shape_spelling place ++ ops_spelling ops)

-- what the replay comes to: its report, the state before the first step that is shown, and the list of the steps
abbrev pub replay_text : ThePlace → Ops → Schedule → Window → List ℕ
replay_text place ops schedule window =
    report_spelling (naming_of place) (report_of_replay place ops schedule)
    ++ (state_with (lock_kind_of place.lock).defined place ops schedule window.from ++ listing_with (lock_kind_of place.lock).defined place ops schedule (shown_of window))

abbrev pub page_data : ThePlace → Ops → Schedule → Window → List ℕ
page_data place ops schedule window = text_of (own_lines window schedule.turns) ++ (files_text place ops ++ replay_text place ops schedule window)

-- a text is exactly the data of the page of this replay
abbrev pub IsPageData : Replay → Window → List ℕ → Type 0
IsPageData replay window text = text ≡ page_data replay.place replay.ops replay.schedule window
