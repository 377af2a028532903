-- Reading a sketch file, with its first fault.
use Rattle.std.specs.Prelude.{◌≡◌, ℕ, ◌+◌, ◌-◌, ◌^◌, ◌<◌, ◌==◌, List, [], ◌∷◌, ◌++◌, codes, drop, length, Bool, true, false, not, Option, Some, None, Result, Ok, if◌then◌else◌}
use Rattle.std.specs.List.{join_with_byte}
use Rattle.std.specs.Str.{bytes_eq}
use Rattle.rl_text.specs.declared.causes.Refusal.{Refusal}
use Rattle.rl_text.specs.declared.causes.Why.{Why}
use Rattle.rl_text.specs.declared.causes.Why.TheVariants.{Word, Repeat, Order}
use Rattle.rl_text.specs.Number.{number_of}
use Rattle.rl_text.specs.Rows.{Row, rows_from, word_at, words}
use Rattle.rl_text.specs.Reading.{◌>>=◌, fault_of, needed_at, fixed_at, number_at, below_at, no_word_at, begins, starts_with_word, next_row, header_at}
use Rattle.rl_ops.specs.declared.schedule.TheConstants.{MOST_STEPS}
use Rattle.rl_ops.specs.Body.{passed_at, Items, body_at}
use Rattle.rl_sketch.specs.declared.ranks_reader.Allowed.{Allowed}
use Rattle.rl_sketch.specs.declared.sketch.Ranks.{Ranks}
use Rattle.rl_sketch.specs.declared.sketch.Ranks.TheVariants.{All, These}
use Rattle.rl_sketch.specs.declared.sketch.Sight.{Sight}
use Rattle.rl_sketch.specs.declared.sketch.Sight.TheVariants as sight
use Rattle.rl_sketch.specs.declared.sketch.Course.{Course}
use Rattle.rl_sketch.specs.declared.sketch.Course.TheVariants as course
use Rattle.rl_sketch.specs.declared.sketch.SketchLine.{SketchLine}
use Rattle.rl_sketch.specs.declared.sketch.SketchLine.TheVariants.{Note, Goes, Stops}
use Rattle.rl_sketch.specs.declared.sketch.Sketch.{Sketch}
use Rattle.rl_sketch.specs.Sketch.{is_among, going, stopped_after, is_opening, is_note, SketchFits}

-- ---- RANKS

-- which ranks a line may name: so many are there, these were stopped, and this is the cause where one of those is named
pub record MayName : Type 0 where
  pub ranks : ℕ
  pub stopped : List ℕ
  pub again : Why

-- the same, as the code has it
abbrev pub may_of : Allowed → MayName
may_of may = record { ranks = may.ranks; stopped = may.stopped.now; again = may.again }

-- word n is a rank that may be named, and isn't one of these
unfoldable pub rank_at : MayName → List ℕ → Row → ℕ → Result ℕ Refusal
rank_at may taken line n = do
  rank ← below_at line n may.ranks
  goes_on ← passed_at line n may.again (not (is_among may.stopped rank))
  once ← passed_at line n Repeat (not (is_among taken rank))
  Ok rank

abbrev pub is_number : Option ℕ → Bool
is_number None = false
is_number (Some n) = true

-- a word is there
abbrev pub is_there : Option (List ℕ) → Bool
is_there None = false
is_there (Some word) = true

-- a word is a number, and another word stands behind it
abbrev pub is_rank_before : Option (List ℕ) → Option (List ℕ) → Bool
is_rank_before None behind = false
is_rank_before (Some word) behind = if is_number (number_of word) then is_there behind else false

-- The ranks of a line that goes, from word n on, after these: numbers, as long as another word comes behind. So the last word of a line of numbers is
-- a count.
unfoldable pub ranks_before : MayName → Row → ℕ → List ℕ → List (List ℕ) → Result (List ℕ) Refusal
ranks_before may line n taken [] = Ok taken
ranks_before may line n taken (word ∷ []) = Ok taken
ranks_before may line n taken (word ∷ next ∷ more) =
    if is_number (number_of word) then (rank_at may taken line n >>= λ rank. ranks_before may line (n + 1) (taken ++ rank ∷ []) (next ∷ more)) else Ok taken

-- the ranks of a line that stops them, from word n on, after these: all its words
unfoldable pub ranks_to_end : MayName → Row → ℕ → List ℕ → List (List ℕ) → Result (List ℕ) Refusal
ranks_to_end may line n taken [] = Ok taken
ranks_to_end may line n taken (word ∷ more) = rank_at may taken line n >>= λ rank. ranks_to_end may line (n + 1) (taken ++ rank ∷ []) more

-- and from its first word on: one rank at least
unfoldable pub listed_before : MayName → Row → Result (List ℕ) Refusal
listed_before may line = rank_at may [] line 1 >>= λ first. ranks_before may line 2 (first ∷ []) (drop 1 (words line))

-- and behind `stop`
unfoldable pub listed_to_end : MayName → Row → Result (List ℕ) Refusal
listed_to_end may line = rank_at may [] line 2 >>= λ first. ranks_to_end may line 3 (first ∷ []) (drop 2 (words line))

-- `all`, at word n, where a rank is left that may be named
unfoldable pub all_at : MayName → Row → ℕ → Result Ranks Refusal
all_at may line n = passed_at line n may.again (not (length (going may.ranks may.stopped) == 0)) >>= λ left. Ok All

-- the ranks of a line that goes, and the number of the word behind them
unfoldable pub going_ranks_at : MayName → Row → Result (Ranks × ℕ) Refusal
going_ranks_at may line =
    if begins line (codes "all") then (all_at may line 1 >>= λ all. Ok (all, 2))
    else (listed_before may line >>= λ list. Ok (These list, 1 + length list))

-- ---- what they do

-- word n begins an atom, an answer or an event of a step
unfoldable pub opening_at : Row → ℕ → List ℕ → Result (Unit {0}) Refusal
opening_at line n word = passed_at line n Word (is_opening word)

-- the words of a step that are wanted, from word n on to the line's end
unfoldable pub step_words_at : Row → ℕ → List ℕ → Result Sight Refusal
step_words_at line n word = opening_at line n word >>= λ opens. Ok (sight.Words (join_with_byte 32 (drop (n - 1) (words line))))

-- SIGHT, from word n on to the line's end
unfoldable pub sight_at : Row → ℕ → Result Sight Refusal
sight_at line n = do
  word ← needed_at line n
  if bytes_eq word (codes "done") then (no_word_at line (n + 1) >>= λ alone. Ok sight.Done)
      else (if bytes_eq word (codes "out") then (no_word_at line (n + 1) >>= λ alone. Ok sight.Out) else step_words_at line n word)

-- COUNT, at word n, and no further word
unfoldable pub count_at : Row → ℕ → Result ℕ Refusal
count_at line n = do
  count ← below_at line n (MOST_STEPS + 1)
  alone ← no_word_at line (n + 1)
  Ok count

-- word n is this one
abbrev pub stands_at : Row → ℕ → List ℕ → Bool
stands_at line n text = starts_with_word text (word_at line n)

-- `until SIGHT` and `before SIGHT`, from word n on, behind their first words
unfoldable pub until_at : Row → ℕ → Result Course Refusal
until_at line n = sight_at line n >>= λ sight. Ok (course.Until sight)

unfoldable pub before_at : Row → ℕ → Result Course Refusal
before_at line n = sight_at line n >>= λ sight. Ok (course.Before sight)

-- `turn COUNT` or `turn until SIGHT`, from word n on
unfoldable pub in_turn_at : Row → ℕ → Result Course Refusal
in_turn_at line n = do
  turn ← fixed_at line n (codes "turn") Word
  if stands_at line (n + 1) (codes "until") then (sight_at line (n + 2) >>= λ sight. Ok (course.InTurnUntil sight))
      else (count_at line (n + 1) >>= λ count. Ok (course.InTurn count))

-- `random SEED COUNT`, from word n on
unfoldable pub at_random_at : Row → ℕ → Result Course Refusal
at_random_at line n = do
  random ← fixed_at line n (codes "random") Word
  seed ← number_at line (n + 1)
  count ← count_at line (n + 2)
  Ok (course.AtRandom seed count)

-- what the ranks of a line do, from word n on: a word that says how, or a count
unfoldable pub course_at : Row → ℕ → Result Course Refusal
course_at line n =
    if stands_at line n (codes "until") then until_at line (n + 1)
    else (if stands_at line n (codes "before") then before_at line (n + 1)
    else (if stands_at line n (codes "in") then in_turn_at line (n + 1)
    else (if stands_at line n (codes "at") then at_random_at line (n + 1)
    else (count_at line n >>= λ count. Ok (course.Steps count)))))

-- ---- lines

-- RANKS COURSE
unfoldable pub goes_at : MayName → Row → Result SketchLine Refusal
goes_at may line = do
  named ← going_ranks_at may line
  course ← course_at line named.1
  Ok (Goes named.0 course)

-- RANKS behind `stop`, to the line's end
unfoldable pub stopped_ranks_at : MayName → Row → Result Ranks Refusal
stopped_ranks_at may line =
    if stands_at line 2 (codes "all") then (all_at may line 2 >>= λ all. no_word_at line 3 >>= λ alone. Ok all)
    else (listed_to_end may line >>= λ list. Ok (These list))

-- `stop RANKS`
unfoldable pub stops_at : MayName → Row → Result SketchLine Refusal
stops_at may line = stopped_ranks_at may line >>= λ which. Ok (Stops which)

-- a line, where these ranks were stopped by those before it: a note, a stop, or ranks that go
unfoldable pub line_after : ℕ → List ℕ → Row → Result SketchLine Refusal
line_after ranks stopped line =
    if is_note line.text then Ok (Note line.text)
    else (if begins line (codes "stop") then stops_at (record { ranks = ranks; stopped = stopped; again = Repeat }) line
    else goes_at (record { ranks = ranks; stopped = stopped; again = Order }) line)

abbrev pub line_items : ℕ → Items (List ℕ) SketchLine
line_items ranks = record { item = line_after ranks; next = stopped_after ranks; may_end = λ stopped. true }

-- all lines, from one on
abbrev pub lines_at : ℕ → List ℕ → ℕ → List Row → Result (List SketchLine) Refusal
lines_at ranks stopped read rows = body_at (line_items ranks) stopped read rows

-- the sketch that a text spells, or its first fault
unfoldable pub sketch_at : ℕ → List ℕ → Result Sketch Refusal
sketch_at ranks text = do
  first ← next_row 0 (rows_from 1 text)
  header ← header_at first.0 (codes "rmalock-sketch")
  lines ← lines_at ranks [] 1 first.1
  Ok (record { lines = lines })

-- the first fault of a text
abbrev pub sketch_fault : ℕ → List ℕ → Option Refusal
sketch_fault ranks text = fault_of (sketch_at ranks text)

-- the text is read as this sketch, by all numbers of ranks that it fits
abbrev pub IsReadAsSketch : List ℕ → Sketch → Type 0
IsReadAsSketch text sketch = (ranks : ℕ) → ranks < 2 ^ 32 → SketchFits ranks sketch → sketch_at ranks text ≡ Ok sketch
