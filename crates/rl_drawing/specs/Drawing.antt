-- Which turns a sketch draws from a machine: turn by turn, line by line.
use Rattle.std.specs.Prelude.{◌≡◌, ℕ, zero, suc, ◌+◌, ◌≤◌, ◌<◌, List, [], ◌∷◌, ◌++◌, length, map, filter, replicate, slice_index, Bool, true, false, not, if◌then◌else◌}
use Rattle.rl_chance.specs.Draws.{first_state, draw}
use Rattle.rl_place.specs.Places.{ThePlace}
use Rattle.rl_ops.specs.declared.ops.Ops.{Ops}
use Rattle.rl_ops.specs.declared.schedule.Turn.{Turn}
use Rattle.rl_ops.specs.declared.schedule.Turn.TheVariants as turn
use Rattle.rl_ops.specs.declared.schedule.Schedule.{Schedule}
use Rattle.rl_ops.specs.declared.schedule.TheConstants.{MOST_STEPS}
use Rattle.rl_ops.specs.Ops.{OpsFit}
use Rattle.rl_ops.specs.Schedule.{ScheduleFits}
use Rattle.rl_inputs.specs.Reading.{SuitsLock}
use Rattle.rl_machine.specs.Running.{Running}
use Rattle.rl_machine.specs.Run.{stepped, run_of, turn_ranks, ranks_of_turns, steps_in}
use Rattle.rl_locks.specs.Kinds.{Defined}
use Rattle.rl_locks.specs.Runs.{start_with}
use Rattle.rl_sketch.specs.declared.sketch.Ranks.TheVariants.{All}
use Rattle.rl_sketch.specs.declared.sketch.Sight.TheVariants.{Done}
use Rattle.rl_sketch.specs.declared.sketch.Course.{Course}
use Rattle.rl_sketch.specs.declared.sketch.Course.TheVariants as course
use Rattle.rl_sketch.specs.declared.sketch.SketchLine.{SketchLine}
use Rattle.rl_sketch.specs.declared.sketch.SketchLine.TheVariants as line
use Rattle.rl_sketch.specs.declared.sketch.Sketch.{Sketch}
use Rattle.rl_drawing.specs.declared.outcome.Drawn.{Drawn}
use Rattle.rl_drawing.specs.declared.outcome.Drawn.TheVariants.{Whole, Never}
use Rattle.rl_sketch.specs.Sketch.{named_ranks, stopped_after, stopped_by, SketchFits}
use Rattle.rl_drawing.specs.Sights.{shows, is_over, ends_calls}

-- ---- turns that no machine is asked for

-- so many steps of each of these ranks, one rank after the other
abbrev pub steps_each : ℕ → List ℕ → List Turn
steps_each count ks = map (λ k. turn.Steps k count) ks

-- so many laps, a step of each of these ranks in each
abbrev pub laps : ℕ → List ℕ → List Turn
laps zero ks = []
laps (suc n) ks = steps_each 1 ks ++ laps n ks

-- so many steps, each of one of these ranks, which is drawn by chance
abbrev pub drawn_turns : ℕ → ℕ → List ℕ → List Turn
drawn_turns state zero ks = []
drawn_turns state (suc n) ks =
    let drawn = draw (length ks) state in
    turn.Steps (slice_index ks drawn.0) 1 ∷ drawn_turns drawn.1 n ks

-- a stop of each of these ranks
abbrev pub stops_each : List ℕ → List Turn
stops_each ks = map turn.Stop ks

-- ---- turns up to what their steps show

module _ {V : Type 0} where
  -- a turn of each of these ranks, one rank after the other: each turn is one of its rank's on the machine that those before it leave
  abbrev pub AreEach : (Running V → ℕ → Turn → Type 0) → Running V → List ℕ → List Turn → Type 0
  AreEach Is m [] turns = turns ≡ []
  AreEach Is m (k ∷ ks) [] = ⊥
  AreEach Is m (k ∷ ks) (t ∷ turns) = Is m k t × AreEach Is (run_of m (turn_ranks t)) ks turns

  module _ (shown : Running V → ℕ → Bool) where
    -- after so many steps of rank k, and no fewer, its next step would show it
    abbrev pub IsFirst : Running V → ℕ → ℕ → Type 0
    IsFirst m k n = (shown (run_of m (replicate n k)) k ≡ true) × ((i : ℕ) → i < n → shown (run_of m (replicate i k)) k ≡ false)

    -- rank k makes steps up to and with the first that shows it
    abbrev pub IsUntil : Running V → ℕ → Turn → Type 0
    IsUntil m k t = (n : ℕ) × (t ≡ turn.Steps k (n + 1)) × IsFirst m k n

    -- rank k makes steps up to the first that would show it, which isn't made
    abbrev pub IsBefore : Running V → ℕ → Turn → Type 0
    IsBefore m k t = (n : ℕ) × (t ≡ turn.Steps k n) × IsFirst m k n

    -- The ranks make a step in turn. Whose step shows it makes no more; the others come again, behind those that are before them.
    abbrev pub AreInTurn : Running V → List ℕ → List Turn → Type 0
    AreInTurn m [] turns = turns ≡ []
    AreInTurn m (k ∷ ks) [] = ⊥
    AreInTurn m (k ∷ ks) (t ∷ turns) = (t ≡ turn.Steps k 1) × AreInTurn (stepped m k) (if shown m k then ks else ks ++ k ∷ []) turns

  -- every rank that wasn't stopped, and has a call open or left, makes a step in turn, until it has none
  abbrev pub AreToTheEnd : Running V → List ℕ → List Turn → Type 0
  AreToTheEnd m ks turns = AreInTurn ends_calls m (filter (λ k. not (is_over m k)) ks) turns

-- ---- the turns of a line, of lines, and of a sketch

module _ {V : Type 0} (place : ThePlace) where
  -- what these ranks do
  abbrev pub AreOfCourse : Running V → List ℕ → Course → List Turn → Type 0
  AreOfCourse m ks (course.Steps count) turns = turns ≡ steps_each count ks
  AreOfCourse m ks (course.Until sight) turns = AreEach (IsUntil (shows place sight)) m ks turns
  AreOfCourse m ks (course.Before sight) turns = AreEach (IsBefore (shows place sight)) m ks turns
  AreOfCourse m ks (course.InTurn count) turns = turns ≡ laps count ks
  AreOfCourse m ks (course.InTurnUntil sight) turns = AreInTurn (shows place sight) m ks turns
  AreOfCourse m ks (course.AtRandom seed count) turns = turns ≡ drawn_turns (first_state seed) count ks

  -- what a line draws, where so many ranks are there and these were stopped; `all until done` has all calls done, and not one of each rank
  abbrev pub AreOfLine : ℕ → Running V → List ℕ → SketchLine → List Turn → Type 0
  AreOfLine ranks m stopped (line.Note text) turns = turns ≡ []
  AreOfLine ranks m stopped (line.Goes All (course.Until Done)) turns = AreToTheEnd m (named_ranks ranks stopped All) turns
  AreOfLine ranks m stopped (line.Goes which course) turns = AreOfCourse m (named_ranks ranks stopped which) course turns
  AreOfLine ranks m stopped (line.Stops which) turns = turns ≡ stops_each (named_ranks ranks stopped which)

  -- the turns of lines are those of the first, and behind them those of the others, from the machine that the first leaves
  abbrev pub AreOfLines : ℕ → Running V → List ℕ → List SketchLine → List Turn → Type 0
  AreOfLines ranks m stopped [] turns = turns ≡ []
  AreOfLines ranks m stopped (line ∷ lines) turns =
      (first rest : List Turn) × (turns ≡ first ++ rest) × AreOfLine ranks m stopped line first
      × AreOfLines ranks (run_of m (ranks_of_turns first)) (stopped_after ranks stopped line) lines rest

  -- a line is reached with these turns, and no turns of its own come to its end with at most the most steps of a schedule
  pub record IsNever (ranks : ℕ) (m : Running V) (lines : List SketchLine) (number : ℕ) : Type 0 where
    pub before : List SketchLine
    pub line : SketchLine
    pub behind : List SketchLine
    pub are : lines ≡ before ++ line ∷ behind
    -- lines are counted from 1, and the first of these is the second of the file
    pub numbered : number ≡ length before + 2
    pub turns : List Turn
    pub drawn : AreOfLines ranks m [] before turns
    pub few : steps_in turns ≤ MOST_STEPS
    pub never : (more : List Turn) → AreOfLine ranks (run_of m (ranks_of_turns turns)) (stopped_by ranks [] before) line more → MOST_STEPS < steps_in turns + steps_in more

-- a schedule is what a sketch draws: exactly its turns, and not too many steps
pub record IsDrawn {V : Type 0} (defined : Defined V) (place : ThePlace) (ops : Ops) (sketch : Sketch) (schedule : Schedule) : Type 0 where
  pub turns : AreOfLines place (length place.paths) (start_with defined place ops) [] sketch.lines schedule.turns
  pub few : steps_in schedule.turns ≤ MOST_STEPS

-- what comes of a sketch: its schedule, or the first line that never comes to its end
abbrev pub ComesTo : {V : Type 0} → Defined V → ThePlace → Ops → Sketch → Drawn → Type 0
ComesTo defined place ops sketch (Whole schedule) = IsDrawn defined place ops sketch schedule
ComesTo defined place ops sketch (Never number) = IsNever place (length place.paths) (start_with defined place ops) sketch.lines number

-- a schedule that comes of it is one of so many ranks
abbrev pub FitsWhole : ℕ → Drawn → Type 0
FitsWhole ranks (Whole schedule) = ScheduleFits ranks schedule
FitsWhole ranks (Never number) = Unit {0}

-- a sketch of these ranks is drawn over calls of theirs that suit the lock
abbrev pub SketchSuits : ThePlace → Ops → Sketch → Type 0
SketchSuits place ops sketch = OpsFit (length place.paths) place.geom.shards ops × SuitsLock place ops × SketchFits (length place.paths) sketch

-- and what comes of it fits them
abbrev pub ComesFitting : {V : Type 0} → Defined V → ThePlace → Ops → Sketch → Drawn → Type 0
ComesFitting defined place ops sketch drawn = ComesTo defined place ops sketch drawn × FitsWhole (length place.paths) drawn
