-- Lines, one after the other.
use Rattle.std.proofs.Common.{◌≡◌, ℕ, suc, ◌+◌, ◌≤◌, ◌<◌, true, false, List, [], ◌∷◌, ◌++◌, length, take, drop, get_or, refl, sym, ap, subst, ◌∙◌, arith}
use Rattle.std.specs.List.{AllByRecursion}
use Rattle.std.proofs.Math.Seq.{drop-cons, take-suc}
use Rattle.std.proofs.lemmas.List.{take-append-drop, length-take-le}
use Rattle.rl_place.specs.Places.{ThePlace}
use Rattle.rl_ops.specs.declared.ops.Ops.{Ops}
use Rattle.rl_ops.specs.declared.schedule.Turn.{Turn}
use Rattle.rl_ops.specs.Schedule.{TurnFits, ScheduleFits}
use Rattle.rl_machine.specs.Running.{Running}
use Rattle.rl_machine.specs.Run.{run_of, ranks_of_turns, steps_in}
use Rattle.rl_locks.specs.Kinds.{Defined}
use Rattle.rl_sketch.specs.declared.sketch.Ranks.{Ranks}
use Rattle.rl_sketch.specs.declared.sketch.Ranks.TheVariants.{All, These}
use Rattle.rl_sketch.specs.declared.sketch.Sight.TheVariants.{Words, Done, Out}
use Rattle.rl_sketch.specs.declared.sketch.Course.{Course}
use Rattle.rl_sketch.specs.declared.sketch.Course.TheVariants as course
use Rattle.rl_sketch.specs.declared.sketch.SketchLine.{SketchLine}
use Rattle.rl_sketch.specs.declared.sketch.SketchLine.TheVariants as line
use Rattle.rl_sketch.specs.Sketch.{named_ranks, stopped_after, stopped_by, LineFits, LinesFit}
use Rattle.rl_shown.proofs.ListingLaws.{steps_are}
use Rattle.rl_locks.specs.Runs.{start_with}
use Rattle.rl_drawing.specs.Drawing.{AreOfCourse, AreToTheEnd, AreOfLine, AreOfLines, IsNever}
use Rattle.rl_drawing.specs.Leads.{HasCome, IsNone, Leads, is_to_the_end}
use Rattle.rl_drawing.proofs.Leading.{leads_whole}
use Rattle.rl_drawing.proofs.Stopping.{lines_stay, lines_more}

-- what a line of ranks that go is
pub end_is : {V : Type 0} (place : ThePlace) (n : ℕ) (m : Running V) (stopped : List ℕ) (which : Ranks) (c : Course) → is_to_the_end which c ≡ true →
    AreOfLine place n m stopped (line.Goes which c) ≡ (λ ts. AreToTheEnd m (named_ranks n stopped which) ts)
end_is place n m stopped All (course.Until Done) e = refl
end_is place n m stopped All (course.Until Out) e = absurd cc
end_is place n m stopped All (course.Until (Words text)) e = absurd cc
end_is place n m stopped All (course.Steps count) e = absurd cc
end_is place n m stopped All (course.Before sight) e = absurd cc
end_is place n m stopped All (course.InTurn count) e = absurd cc
end_is place n m stopped All (course.InTurnUntil sight) e = absurd cc
end_is place n m stopped All (course.AtRandom seed count) e = absurd cc
end_is place n m stopped (These list) c e = absurd cc

pub course_is : {V : Type 0} (place : ThePlace) (n : ℕ) (m : Running V) (stopped : List ℕ) (which : Ranks) (c : Course) → is_to_the_end which c ≡ false →
    AreOfLine place n m stopped (line.Goes which c) ≡ (λ ts. AreOfCourse place m (named_ranks n stopped which) c ts)
course_is place n m stopped All (course.Until Done) e = absurd cc
course_is place n m stopped All (course.Until Out) e = refl
course_is place n m stopped All (course.Until (Words text)) e = refl
course_is place n m stopped All (course.Steps count) e = refl
course_is place n m stopped All (course.Before sight) e = refl
course_is place n m stopped All (course.InTurn count) e = refl
course_is place n m stopped All (course.InTurnUntil sight) e = refl
course_is place n m stopped All (course.AtRandom seed count) e = refl
course_is place n m stopped (These list) c e = refl

stopped_more : (n : ℕ) (stopped : List ℕ) (lines : List SketchLine) (next : SketchLine) → stopped_by n stopped (lines ++ next ∷ []) ≡ stopped_after n (stopped_by n stopped lines) next
stopped_more n stopped [] next = refl
stopped_more n stopped (l ∷ lines) next = stopped_more n (stopped_after n stopped l) lines next

taken_more : (lines : List SketchLine) (i : ℕ) (next : SketchLine) → i < length lines → next ≡ get_or lines i next → take (i + 1) lines ≡ take i lines ++ next ∷ []
taken_more lines i next low is =
    let one : i + 1 ≡ suc i = omega arith in
    ap (λ k. take k lines) one ∙ take-suc lines i next low ∙ ap (λ l. take i lines ++ l ∷ []) (sym is)

left_more : (lines : List SketchLine) (i : ℕ) (next : SketchLine) → i < length lines → next ≡ get_or lines i next → drop i lines ≡ next ∷ drop (i + 1) lines
left_more lines i next low is =
    let one : suc i ≡ i + 1 = omega arith in
    drop-cons lines i next low ∙ ap (λ l. l ∷ drop (suc i) lines) (sym is) ∙ ap (λ k. next ∷ drop k lines) one

-- the next line fits, and the others behind it
pub next_fits : (n : ℕ) (stopped : List ℕ) (lines : List SketchLine) (i : ℕ) (next : SketchLine) → i < length lines → next ≡ get_or lines i next → LinesFit n stopped (drop i lines) → LineFits n stopped next × LinesFit n (stopped_after n stopped next) (drop (i + 1) lines)
next_fits n stopped lines i next low is fit = subst (LinesFit n stopped) (left_more lines i next low is) fit

module _ {V : Type 0} (defined : Defined V) (place : ThePlace) (ops : Ops) (lines : List SketchLine) (i : ℕ) (next : SketchLine) (low : i < length lines) (is : next ≡ get_or lines i next) where
  -- the turns of the next line are added
  pub line_added : (m : Running V) (stopped : List ℕ) (x z : List Turn) (left : ℕ) → HasCome defined place ops m x left → AreOfLines place (length place.paths) (start_with defined place ops) [] (take i lines) x →
      stopped ≡ stopped_by (length place.paths) [] (take i lines) → Leads (AreOfLine place (length place.paths) m stopped next) IsNone x z → AreOfLines place (length place.paths) (start_with defined place ops) [] (take (i + 1) lines) z
  line_added m stopped x z left on before are l =
      let n = length place.paths in
      let first = start_with defined place ops in
      let whole = leads_whole (AreOfLine place n m stopped next) x z l in
      let there : AreOfLine place n (run_of first (ranks_of_turns x)) (stopped_by n [] (take i lines)) next l.turns =
      subst (λ s. AreOfLine place n (run_of first (ranks_of_turns x)) s next l.turns) are (subst (λ r. AreOfLine place n r stopped next l.turns) on.machine whole) in
      subst (λ t. AreOfLines place n first [] (take (i + 1) lines) t) (sym l.are)
      (subst (λ ls. AreOfLines place n first [] ls (x ++ l.turns)) (sym (taken_more lines i next low is)) (lines_more place n first [] (take i lines) next x l.turns before there))

  pub stopped_on : (n : ℕ) (stopped now : List ℕ) → stopped ≡ stopped_by n [] (take i lines) → now ≡ stopped_after n stopped next → now ≡ stopped_by n [] (take (i + 1) lines)
  stopped_on n stopped now are after =
      after ∙ ap (λ s. stopped_after n s next) are ∙ sym (stopped_more n [] (take i lines) next) ∙ ap (stopped_by n []) (sym (taken_more lines i next low is))

  -- or it never comes to its end
  pub never_is : (m : Running V) (stopped : List ℕ) (x : List Turn) (left number : ℕ) → HasCome defined place ops m x left → AreOfLines place (length place.paths) (start_with defined place ops) [] (take i lines) x →
      stopped ≡ stopped_by (length place.paths) [] (take i lines) → number ≡ i + 2 → ((all : List Turn) → AreOfLine place (length place.paths) m stopped next all → left < steps_in all) →
      IsNever place (length place.paths) (start_with defined place ops) lines number
  never_is m stopped x left number on before are counted none =
      let n = length place.paths in
      let first = start_with defined place ops in
      let all : left + steps_in x ≡ 2000000 = on.left_is in
      let long : length (take i lines) ≡ i = length-take-le i lines (omega (arith, low)) in
      record {
        before = take i lines;
        line = next;
        behind = drop (i + 1) lines;
        are = sym (take-append-drop i lines) ∙ ap (λ r. take i lines ++ r) (left_more lines i next low is);
        numbered = omega (arith, long, counted);
        turns = x;
        drawn = before;
        few = omega (arith, all);
        never = λ more w.
            let here = subst (λ r. AreOfLine place n r stopped next more) (sym on.machine) (subst (λ s. AreOfLine place n (run_of first (ranks_of_turns x)) s next more) (sym are) w) in
            let fewer : left < steps_in more = none more here in
            omega (arith, fewer, all);
      }

-- the turns of a sketch are a schedule
pub whole_fits : {V : Type 0} (place : ThePlace) (n : ℕ) (m : Running V) (lines : List SketchLine) (ts : List Turn) → LinesFit n [] lines → AreOfLines place n m [] lines ts → AllByRecursion (TurnFits n) ts → steps_in ts ≤ 2000000 →
    ScheduleFits n (record { turns = ts })
whole_fits place n m lines ts fit are there few =
    let same = steps_are ts in
    record { fit = there; few = omega (arith, few, same); stopped = (lines_stay place n m [] lines ts fit are).1 }
