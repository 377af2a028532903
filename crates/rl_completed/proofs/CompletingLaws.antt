-- The turns behind a schedule: which ranks and how many steps they are, that the whole is a schedule, and where a run of it comes to.
use Rattle.std.proofs.Common.{◌≡◌, ◌≤◌, ◌<◌, ◌+◌, ℕ, suc, List, [], ◌∷◌, ◌++◌, length, position, replicate, sum_by, zero, true, nat_le, None, Result, Ok, Err, IfOk, refl, sym, ap, subst, ◌∙◌, append_assoc, arith}
use Rattle.std.specs.List.{AllByRecursion, position_or_len}
use Rattle.std.specs.Global.{Vec}
use Rattle.std.proofs.lemmas.Grind.{common_steps}
use Rattle.std.proofs.lemmas.List.{length-append}
use Rattle.std.proofs.lemmas.List.Sums.{sum_by-cons}
use Rattle.rl_word.specs.Shapes.{TheShape}
use Rattle.rl_word.specs.declared.shapes.Knobs.{Knobs}
use Rattle.rl_text.proofs.TextLaws.{AllByRecursion-append}
use Rattle.rl_step.specs.Answers.{steps_made}
use Rattle.rl_place.specs.Places.{ThePlace}
use Rattle.rl_place.specs.Numbering.{node_paths}
use Rattle.rl_place.specs.Shapes.{shape_of, knobs_of}
use Rattle.rl_ops.specs.declared.ops.Ops.{Ops}
use Rattle.rl_ops.specs.declared.schedule.Turn.{Turn}
use Rattle.rl_ops.specs.declared.schedule.Turn.TheVariants as turn
use Rattle.rl_ops.specs.declared.schedule.Schedule.{Schedule}
use Rattle.rl_ops.specs.declared.schedule.TheConstants.{MOST_STEPS}
use Rattle.rl_ops.specs.Schedule.{TurnFits, ScheduleFits, StayStopped, schedule_spelling, steps_of}
use Rattle.rl_ops.specs.ScheduleReading.{schedule_at, IsReadAsSchedule}
use Rattle.rl_machine.specs.Running.{Running}
use Rattle.rl_machine.specs.Run.{run_of, stepped, turn_ranks, ranks_of_turns, steps_in}
use Rattle.rl_machine.specs.MachineEnding.{AllDone}
use Rattle.rl_machine.specs.laws.ReplayLaws.{stepped_one, run_append}
use Rattle.rl_machine.specs.Start.{start_of}
use Rattle.rl_locks.specs.Kinds.{Defined}
use Rattle.rl_locks.specs.Urgencies.{Urgent}
use Rattle.rl_inputs.specs.Reading.{refused_in, scheduled}
use Rattle.rl_finish.specs.WayOn.{HasSteps, AreWhole}
use Rattle.rl_locks.specs.Runs.{machine_after}
use Rattle.rl_completed.specs.Completing.{is_stop, MakesSteps, GoNext, Completes, IsComplete, IsTooLong}

pub steps_are : (turns : List Turn) → steps_in turns ≡ sum_by steps_of turns
steps_are [] = refl
steps_are (t ∷ ts) = ap (λ n. steps_of t + n) (steps_are ts) ∙ sym (sum_by-cons steps_of t ts)

steps_append : (xs ys : List Turn) → steps_in (xs ++ ys) ≡ steps_in xs + steps_in ys
steps_append [] ys = omega arith
steps_append (x ∷ xs) ys = let h = steps_append xs ys in omega (arith, h)

ranks_append : (xs ys : List Turn) → ranks_of_turns (xs ++ ys) ≡ ranks_of_turns xs ++ ranks_of_turns ys
ranks_append [] ys = refl
ranks_append (x ∷ xs) ys = ap (λ z. turn_ranks x ++ z) (ranks_append xs ys) ∙ sym (append_assoc (turn_ranks x) (ranks_of_turns xs) (ranks_of_turns ys))

many_ranks : (n k : ℕ) → length (replicate n k) ≡ n
many_ranks zero k = refl
many_ranks (suc n) k = ap suc (many_ranks n k)

turn_length : (t : Turn) → length (turn_ranks t) ≡ steps_of t
turn_length (turn.Steps rank count) = many_ranks count rank
turn_length (turn.Stop rank) = refl

-- a step of each rank of the turns
pub length_ranks : (ts : List Turn) → length (ranks_of_turns ts) ≡ steps_in ts
length_ranks [] = refl
length_ranks (t ∷ ts) = length-append (turn_ranks t) (ranks_of_turns ts) ∙ ap (λ n. n + length (ranks_of_turns ts)) (turn_length t) ∙ ap (λ n. steps_of t + n) (length_ranks ts)

-- a run counts its steps, and leaves the calls
pub run_counts : {V : Type 0} (m : Running V) (ks : List ℕ) → (steps_made (run_of m ks).steps ≡ steps_made m.steps + length ks) × ((run_of m ks).calls ≡ m.calls)
run_counts m [] = (omega arith, refl)
run_counts m (k ∷ ks) =
    let one = stepped_one m k in
    let rest = run_counts (stepped m k) ks in
    (let a = rest.0 in let b = one.0 in omega (arith, a, b), rest.1 ∙ one.1)

-- ---- stops

none_long : (ts : List Turn) → position is_stop ts ≡ None → length ts ≤ position_or_len is_stop ts
none_long ts e = grind (arith, common_steps)

-- where no stop is found there is none
pub no_stop : (ts : List Turn) → position is_stop ts ≡ None → AllByRecursion MakesSteps ts
no_stop ts e = go ts (none_long ts e) where
  go : (ts : List Turn) → length ts ≤ position_or_len is_stop ts → AllByRecursion MakesSteps ts
  go [] h = tt
  go (turn.Steps rank count ∷ ts) h = (tt, go ts (omega (arith, h)))
  go (turn.Stop rank ∷ ts) h = absurd (omega (arith, h))

-- where nobody is stopped all stay so
stay_stopped : (ts : List Turn) → AllByRecursion MakesSteps ts → StayStopped ts
stay_stopped [] all = tt
stay_stopped (turn.Steps rank count ∷ ts) all = stay_stopped ts all.1
stay_stopped (turn.Stop rank ∷ ts) all = absurd all.0

has_steps : (t : Turn) → HasSteps t → MakesSteps t
has_steps (turn.Steps rank count) h = tt
has_steps (turn.Stop rank) h = absurd h

-- a way on stops nobody
pub whole_steps : (ts : List Turn) → AreWhole ts → AllByRecursion MakesSteps ts
whole_steps [] w = tt
whole_steps (t ∷ []) w = (has_steps t w, tt)
whole_steps (t ∷ u ∷ ts) w = (has_steps t w.0, whole_steps (u ∷ ts) w.2)

-- ---- the whole

-- the homes of a placement are nodes of its shape
pub homes_there : (place : ThePlace) (shape : TheShape) (homes : List ℕ) → shape ≡ shape_of place → homes ≡ place.homes → AllByRecursion (λ home. home < length (node_paths place.paths)) place.homes → AllByRecursion (λ home. home < shape.nodes) homes
homes_there place shape homes shape_is homes_are there =
    subst (λ (s : TheShape). AllByRecursion (λ home. home < s.nodes) homes) (sym shape_is) (subst (λ z. AllByRecursion (λ home. home < (shape_of place).nodes) z) (sym homes_are) there)

-- the start, by the parts of the placement
pub start_is : {V : Type 0} (defined : Defined V) (place inside : ThePlace) (ops : Ops) (shape : TheShape) (knobs : Knobs) (homes : List ℕ) → inside ≡ place → shape ≡ shape_of place → knobs ≡ knobs_of place.lock → homes ≡ inside.homes →
    start_of defined shape knobs inside.geom homes ops ≡ start_of defined (shape_of place) (knobs_of place.lock) place.geom place.homes ops
start_is defined place inside ops shape knobs homes same shape_is knobs_is homes_are =
    ap (λ s. start_of defined s knobs inside.geom homes ops) shape_is
    ∙ ap (λ k. start_of defined (shape_of place) k inside.geom homes ops) knobs_is
    ∙ ap (λ h. start_of defined (shape_of place) (knobs_of place.lock) inside.geom h ops) homes_are
    ∙ ap (λ (p : ThePlace). start_of defined (shape_of place) (knobs_of place.lock) p.geom p.homes ops) same

-- the machine that has taken the given turns, from the parts of the placement
pub ran : {V : Type 0} (defined : Defined V) (place inside : ThePlace) (ops : Ops) (shape : TheShape) (knobs : Knobs) (homes : List ℕ) (turns given : List Turn) (m : Running V) → inside ≡ place → shape ≡ shape_of place → knobs ≡ knobs_of place.lock → homes ≡ inside.homes →
    turns ≡ given → m ≡ run_of (start_of defined shape knobs inside.geom homes ops) (ranks_of_turns turns) → m ≡ machine_after defined place ops given
ran defined place inside ops shape knobs homes turns given m same shape_is knobs_is homes_are turns_are run =
    run ∙ ap (λ z. run_of z (ranks_of_turns turns)) (start_is defined place inside ops shape knobs homes same shape_is knobs_is homes_are) ∙ ap (machine_after defined place ops) turns_are

-- it has made their steps, and has the placement's ranks
pub reached : {V : Type 0} (defined : Defined V) (place : ThePlace) (ops : Ops) (given : List Turn) (m : Running V) → m ≡ machine_after defined place ops given → length ops.by_rank ≡ length place.paths →
    (steps_made m.steps ≡ sum_by steps_of given) × (length m.calls ≡ length place.paths)
reached defined place ops given m run there =
    let start = start_of defined (shape_of place) (knobs_of place.lock) place.geom place.homes ops in
    let counts = run_counts start (ranks_of_turns given) in
    let many = length_ranks given ∙ steps_are given in
    let none : steps_made start.steps ≡ 0 = refl in
    let made = counts.0 in
    (ap (λ z. steps_made z.steps) run ∙ omega (arith, made, none, many), ap (λ z. length z.calls) run ∙ ap length counts.1 ∙ there)

module _ {V : Type 0} (defined : Defined V) (urgent : Urgent V) (place : ThePlace) (ops : Ops) (given : Schedule) (more : List Turn) (m : Running V) (unstopped : AllByRecursion MakesSteps given.turns) (run : m ≡ run_of (machine_after defined place ops given.turns) (ranks_of_turns more))
    (next : GoNext defined urgent place ops given.turns (ranks_of_turns more)) where
  -- turns that end all calls make a schedule complete
  pub completes : ScheduleFits (length place.paths) given → AreWhole more → AllByRecursion (TurnFits (length place.paths)) more → steps_in given.turns + steps_in more ≤ MOST_STEPS → AllDone m →
      Completes defined urgent place ops given (record { turns = given.turns ++ more })
  completes fits whole there few done =
      let all = AllByRecursion-append MakesSteps given.turns more unstopped (whole_steps more whole) in
      let start = start_of defined (shape_of place) (knobs_of place.lock) place.geom place.homes ops in
      let steps : sum_by steps_of (given.turns ++ more) ≤ MOST_STEPS = subst (λ n. n ≤ MOST_STEPS) (sym (steps_append given.turns more) ∙ steps_are (given.turns ++ more)) few in
      record {
        more = more;
        behind = refl;
        next = next;
        turns = whole;
        unstopped = all;
        fits = record { fit = AllByRecursion-append (TurnFits (length place.paths)) given.turns more fits.fit there; few = steps; stopped = stay_stopped (given.turns ++ more) all };
        done = subst (λ z. AllDone z) (run ∙ sym (ap (run_of start) (ranks_append given.turns more) ∙ run_append start (ranks_of_turns given.turns) (ranks_of_turns more))) done;
      }

  -- turns that take all the steps that there may be, and don't end all calls, are too few
  pub too_long : steps_in given.turns + steps_in more ≡ MOST_STEPS → (AllDone m → ⊥) → IsTooLong defined urgent place ops given
  too_long full undone =
      record {
        unstopped = unstopped;
        more = ranks_of_turns more;
        next = next;
        full = ap (λ n. steps_in given.turns + n) (length_ranks more) ∙ full;
        undone = λ done. undone (subst (λ z. AllDone z) (sym run) done);
      }

-- ---- the text

-- a text of few bytes that is read as a schedule of the placement is so where it stands in a file
taken : (name : List ℕ) (place : ThePlace) (whole : Schedule) (text : List ℕ) → length text ≤ 16777216 → schedule_at (length place.paths) text ≡ Ok whole → scheduled name place text ≡ Ok whole
unfolding scheduled
taken name place whole text few read =
    let test : nat_le (length text) 16777216 ≡ true = grind (arith, few) in
    rw test (ap (refused_in name) read)

-- the text of a schedule that is another one made complete
module _ {V : Type 0} (defined : Defined V) (urgent : Urgent V) (place : ThePlace) (ops : Ops) (given whole : Schedule) (ranks : length place.paths ≤ 32) (all : Completes defined urgent place ops given whole) where
  is_complete : (text : List ℕ) → text ≡ schedule_spelling whole → length text ≤ 16777216 → IsReadAsSchedule text whole → IsComplete defined urgent place ops given text
  is_complete text spells few read =
      record { whole = whole; completes = all; spells = spells; again = λ name. taken name place whole text few (read (length place.paths) (omega (arith, ranks)) all.fits) }

  pub complete_ok : {E : Type 0} (result : Result (Vec ℕ) E) → IfOk result (λ text. (text.items ≡ schedule_spelling whole) × (length text.items ≤ 16777216)) → IfOk result (λ text. IsReadAsSchedule text.items whole) →
      IfOk result (λ text. IsComplete defined urgent place ops given text.items)
  complete_ok (Err why) is read = tt
  complete_ok (Ok text) is read = is_complete text.items is.0 is.1 read
