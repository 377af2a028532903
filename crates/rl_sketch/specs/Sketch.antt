-- A sketch, and the sketch file.
use Rattle.std.specs.Prelude.{◌≡◌, ℕ, ◌≤◌, ◌<◌, ◌^◌, List, [], ◌∷◌, ◌++◌, length, map, filter, codes, decimal, Bool, true, false, not, ◌||◌, ◌==◌}
use Rattle.std.specs.List.{AllByRecursion, list_any, range_with_len}
use Rattle.std.specs.Str.{bytes_eq}
use Rattle.rl_text.specs.Cut.{pieces}
use Rattle.rl_text.specs.Spelling.{text_of}
use Rattle.rl_ops.specs.declared.schedule.TheConstants.{MOST_STEPS}
use Rattle.rl_ops.specs.Body.{body_lines}
use Rattle.rl_sketch.specs.declared.sketch.Ranks.{Ranks}
use Rattle.rl_sketch.specs.declared.sketch.Ranks.TheVariants.{All, These}
use Rattle.rl_sketch.specs.declared.sketch.Sight.{Sight}
use Rattle.rl_sketch.specs.declared.sketch.Sight.TheVariants as sight
use Rattle.rl_sketch.specs.declared.sketch.Course.{Course}
use Rattle.rl_sketch.specs.declared.sketch.Course.TheVariants as course
use Rattle.rl_sketch.specs.declared.sketch.SketchLine.{SketchLine}
use Rattle.rl_sketch.specs.declared.sketch.SketchLine.TheVariants.{Note, Goes, Stops}
use Rattle.rl_sketch.specs.declared.sketch.Sketch.{Sketch}

-- ---- the spelling

-- `all`, or the numbers of ranks
abbrev pub ranks_words : Ranks → List (List ℕ)
ranks_words All = codes "all" ∷ []
ranks_words (These list) = map decimal list

-- words of a step, or one word of its own
abbrev pub sight_words : Sight → List (List ℕ)
sight_words (sight.Words text) = pieces 32 text
sight_words sight.Done = codes "done" ∷ []
sight_words sight.Out = codes "out" ∷ []

abbrev pub course_words : Course → List (List ℕ)
course_words (course.Steps count) = decimal count ∷ []
course_words (course.Until sight) = codes "until" ∷ sight_words sight
course_words (course.Before sight) = codes "before" ∷ sight_words sight
course_words (course.InTurn count) = codes "in" ∷ codes "turn" ∷ decimal count ∷ []
course_words (course.InTurnUntil sight) = codes "in" ∷ codes "turn" ∷ codes "until" ∷ sight_words sight
course_words (course.AtRandom seed count) = codes "at" ∷ codes "random" ∷ decimal seed ∷ decimal count ∷ []

-- a note, `RANKS COURSE`, or `stop RANKS`
abbrev pub line_words : SketchLine → List (List ℕ)
line_words (Note text) = pieces 32 text
line_words (Goes ranks course) = ranks_words ranks ++ course_words course
line_words (Stops ranks) = codes "stop" ∷ ranks_words ranks

abbrev pub sketch_lines : Sketch → List (List (List ℕ))
sketch_lines sketch = (codes "rmalock-sketch" ∷ codes "1" ∷ []) ∷ body_lines (map line_words sketch.lines)

-- the one spelling of a sketch
abbrev pub sketch_spelling : Sketch → List ℕ
sketch_spelling sketch = text_of (sketch_lines sketch)

-- ---- the ranks of a line

-- rank k is one of these
abbrev pub is_among : List ℕ → ℕ → Bool
is_among list k = list_any (λ other. other == k) list

-- the ranks that weren't stopped, in their order
abbrev pub going : ℕ → List ℕ → List ℕ
going ranks stopped = filter (λ k. not (is_among stopped k)) (range_with_len 0 ranks)

-- the ranks that RANKS names, where so many are there and these were stopped
abbrev pub named_ranks : ℕ → List ℕ → Ranks → List ℕ
named_ranks ranks stopped All = going ranks stopped
named_ranks ranks stopped (These list) = list

-- the ranks that are stopped after a line
abbrev pub stopped_after : ℕ → List ℕ → SketchLine → List ℕ
stopped_after ranks stopped (Note text) = stopped
stopped_after ranks stopped (Goes which course) = stopped
stopped_after ranks stopped (Stops which) = stopped ++ named_ranks ranks stopped which

-- and after several
abbrev pub stopped_by : ℕ → List ℕ → List SketchLine → List ℕ
stopped_by ranks stopped [] = stopped
stopped_by ranks stopped (line ∷ lines) = stopped_by ranks (stopped_after ranks stopped line) lines

-- ---- what fits

-- no rank stands twice in the list
abbrev pub EachOnce : List ℕ → Type 0
EachOnce [] = Unit {0}
EachOnce (k ∷ ks) = (is_among ks k ≡ false) × EachOnce ks

-- ranks that are there and weren't stopped, one at least, and each once
abbrev pub RanksFit : ℕ → List ℕ → Ranks → Type 0
RanksFit ranks stopped All = 0 < length (going ranks stopped)
RanksFit ranks stopped (These list) =
    (0 < length list) × AllByRecursion (λ k. k < ranks) list × AllByRecursion (λ k. is_among stopped k ≡ false) list × EachOnce list

-- the words that begin an atom
abbrev pub atom_words : List (List ℕ)
atom_words = codes "load" ∷ codes "store" ∷ codes "local-cas" ∷ codes "take" ∷ codes "card-load" ∷ codes "card-store" ∷ codes "leave" ∷ []

-- those that begin an answer
abbrev pub answer_words : List (List ℕ)
answer_words = codes "moved" ∷ codes "waiting" ∷ codes "lost" ∷ codes "busy" ∷ codes "finished" ∷ []

-- those that begin an event: of a queue, and of who is inside
abbrev pub queue_words : List (List ℕ)
queue_words = codes "join" ∷ codes "announce" ∷ codes "pass" ∷ codes "settle" ∷ []

abbrev pub inside_words : List (List ℕ)
inside_words = codes "enter-w" ∷ codes "enter-r" ∷ codes "leave-w" ∷ codes "leave-r" ∷ []

abbrev pub is_one_of : List (List ℕ) → List ℕ → Bool
is_one_of words word = list_any (λ other. bytes_eq other word) words

-- a word begins an atom, an answer or an event of a step
abbrev pub is_opening : List ℕ → Bool
is_opening word = is_one_of atom_words word || is_one_of answer_words word || is_one_of queue_words word || is_one_of inside_words word

-- a line's bytes: no newline among them
abbrev pub is_one_line : List ℕ → Bool
is_one_line text = not (list_any (λ byte. byte == 10) text)

-- the first word of a text
abbrev pub first_word : List (List ℕ) → List ℕ
first_word [] = []
first_word (word ∷ words) = word

abbrev pub SightFits : Sight → Type 0
SightFits (sight.Words text) = (is_opening (first_word (pieces 32 text)) ≡ true) × (is_one_line text ≡ true)
SightFits sight.Done = Unit {0}
SightFits sight.Out = Unit {0}

abbrev pub CourseFits : Course → Type 0
CourseFits (course.Steps count) = count ≤ MOST_STEPS
CourseFits (course.Until sight) = SightFits sight
CourseFits (course.Before sight) = SightFits sight
CourseFits (course.InTurn count) = count ≤ MOST_STEPS
CourseFits (course.InTurnUntil sight) = SightFits sight
CourseFits (course.AtRandom seed count) = (seed < 2 ^ 64) × (count ≤ MOST_STEPS)

-- an empty line, or one that begins with `#`
abbrev pub is_note : List ℕ → Bool
is_note [] = true
is_note (byte ∷ bytes) = byte == 35

abbrev pub LineFits : ℕ → List ℕ → SketchLine → Type 0
LineFits ranks stopped (Note text) = (is_note text ≡ true) × (is_one_line text ≡ true)
LineFits ranks stopped (Goes which course) = RanksFit ranks stopped which × CourseFits course
LineFits ranks stopped (Stops which) = RanksFit ranks stopped which

-- each line fits, after those before it
abbrev pub LinesFit : ℕ → List ℕ → List SketchLine → Type 0
LinesFit ranks stopped [] = Unit {0}
LinesFit ranks stopped (line ∷ lines) = LineFits ranks stopped line × LinesFit ranks (stopped_after ranks stopped line) lines

-- a sketch of so many ranks
abbrev pub SketchFits : ℕ → Sketch → Type 0
SketchFits ranks sketch = LinesFit ranks [] sketch.lines

-- the text spells the sketch
abbrev pub SpellsSketch : ℕ → Sketch → List ℕ → Type 0
SpellsSketch ranks sketch text = SketchFits ranks sketch × (text ≡ sketch_spelling sketch)
