-- The turns of a sketch are of ranks that weren't stopped.
use Rattle.std.proofs.Common.{◌≡◌, ◌≢◌, ℕ, zero, suc, ◌+◌, ◌≤◌, ◌<◌, ◌%◌, ◌/◌, Bool, true, false, not, cond, eqb, List, [], ◌∷◌, ◌++◌, length, filter, get_or, refl, sym, ap, subst, ◌∙◌, append_assoc, ne_eqb, arith}
use Rattle.std.specs.List.{AllByRecursion, range_with_len}
use Rattle.std.proofs.lemmas.List.{append-nil}
use Rattle.std.proofs.lemmas.List.Folds.{list_any-append}
use Rattle.rl_chance.specs.Draws.{first_state, next_state}
use Rattle.rl_place.specs.Places.{ThePlace}
use Rattle.rl_ops.specs.declared.schedule.Turn.{Turn}
use Rattle.rl_ops.specs.declared.schedule.Turn.TheVariants as turn
use Rattle.rl_ops.specs.Schedule.{rank_of, StayStopped}
use Rattle.rl_machine.specs.Running.{Running}
use Rattle.rl_machine.specs.Run.{stepped, run_of, turn_ranks, ranks_of_turns}
use Rattle.rl_machine.specs.laws.ReplayLaws.{run_append}
use Rattle.rl_shown.proofs.FrontLaws.{ranks_append}
use Rattle.rl_sketch.specs.declared.sketch.Ranks.{Ranks}
use Rattle.rl_sketch.specs.declared.sketch.Ranks.TheVariants.{All, These}
use Rattle.rl_sketch.specs.declared.sketch.Sight.TheVariants.{Words, Done, Out}
use Rattle.rl_sketch.specs.declared.sketch.Course.{Course}
use Rattle.rl_sketch.specs.declared.sketch.Course.TheVariants as course
use Rattle.rl_sketch.specs.declared.sketch.SketchLine.{SketchLine}
use Rattle.rl_sketch.specs.declared.sketch.SketchLine.TheVariants as line
use Rattle.rl_sketch.specs.Sketch.{is_among, named_ranks, stopped_after, stopped_by, EachOnce, RanksFit, LineFits, LinesFit}
use Rattle.rl_sketch.proofs.Outcomes.{or_false, neither, differ}
use Rattle.rl_drawing.specs.Sights.{shows, ends_calls, is_over}
use Rattle.rl_drawing.specs.Drawing.{steps_each, stops_each, laps, drawn_turns, AreEach, IsUntil, IsBefore, AreInTurn, AreOfCourse, AreToTheEnd, AreOfLine, AreOfLines}
use Rattle.rl_drawing.proofs.Stages.{all_append}

-- a turn that isn't a stop
abbrev Goes : Turn → Type 0
Goes (turn.Steps rank count) = Unit {0}
Goes (turn.Stop rank) = ⊥

-- turns that aren't stops, of ranks of which something is so
abbrev GoBy : (ℕ → Type 0) → List Turn → Type 0
GoBy P turns = AllByRecursion (λ t. Goes t × P (rank_of t)) turns

pub all_get : (P : ℕ → Type 0) (xs : List ℕ) (i d : ℕ) → AllByRecursion P xs → i < length xs → P (get_or xs i d)
all_get P [] i d all low = absurd (omega (arith, low))
all_get P (x ∷ xs) zero d all low = all.0
all_get P (x ∷ xs) (suc i) d all low = all_get P xs i d all.1 (omega (arith, low))

all_if : (P : ℕ → Type 0) (b : Bool) (x : ℕ) (xs : List ℕ) → P x → AllByRecursion P xs → AllByRecursion P (cond b (x ∷ xs) xs)
all_if P true x xs first all = (first, all)
all_if P false x xs first all = all

pub all_filter : (P : ℕ → Type 0) (f : ℕ → Bool) (xs : List ℕ) → AllByRecursion P xs → AllByRecursion P (filter f xs)
all_filter P f [] all = tt
all_filter P f (x ∷ xs) all = all_if P (f x) x (filter f xs) all.0 (all_filter P f xs all.1)

module _ (P : ℕ → Type 0) where
  of_steps : (count : ℕ) (ks : List ℕ) → AllByRecursion P ks → GoBy P (steps_each count ks)
  of_steps count [] all = tt
  of_steps count (k ∷ ks) all = ((tt, all.0), of_steps count ks all.1)

  of_laps : (count : ℕ) (ks : List ℕ) → AllByRecursion P ks → GoBy P (laps count ks)
  of_laps zero ks all = tt
  of_laps (suc n) ks all = all_append (λ t. Goes t × P (rank_of t)) (steps_each 1 ks) (laps n ks) (of_steps 1 ks all) (of_laps n ks all)

  of_drawn : (state count : ℕ) (ks : List ℕ) → 0 < length ks → AllByRecursion P ks → GoBy P (drawn_turns state count ks)
  of_drawn state zero ks some all = tt
  of_drawn state (suc n) ks some all =
      let low : next_state state / 65536 % length ks < length ks = omega (arith, some) in
      ((tt, all_get P ks (next_state state / 65536 % length ks) 0 all low), of_drawn (next_state state) n ks some all)

  pub left_of : (b : Bool) (k : ℕ) (ks : List ℕ) → AllByRecursion P (k ∷ ks) → AllByRecursion P (cond b ks (ks ++ k ∷ []))
  left_of true k ks all = all.1
  left_of false k ks all = all_append P ks (k ∷ []) all.1 (all.0, tt)

  module _ {V : Type 0} where
    of_until : (shown : Running V → ℕ → Bool) (m : Running V) (ks : List ℕ) (ts : List Turn) → AllByRecursion P ks → AreEach (IsUntil shown) m ks ts → GoBy P ts
    of_until shown m [] ts all none = subst (GoBy P) (sym none) tt
    of_until shown m (k ∷ ks) [] all w = absurd w
    of_until shown m (k ∷ ks) (t ∷ ts) all w = (subst (λ z. Goes z × P (rank_of z)) (sym w.0.1) (tt, all.0), of_until shown (run_of m (turn_ranks t)) ks ts all.1 w.1)

    of_before : (shown : Running V → ℕ → Bool) (m : Running V) (ks : List ℕ) (ts : List Turn) → AllByRecursion P ks → AreEach (IsBefore shown) m ks ts → GoBy P ts
    of_before shown m [] ts all none = subst (GoBy P) (sym none) tt
    of_before shown m (k ∷ ks) [] all w = absurd w
    of_before shown m (k ∷ ks) (t ∷ ts) all w = (subst (λ z. Goes z × P (rank_of z)) (sym w.0.1) (tt, all.0), of_before shown (run_of m (turn_ranks t)) ks ts all.1 w.1)

    of_in_turn : (shown : Running V → ℕ → Bool) (m : Running V) (ks : List ℕ) (ts : List Turn) → AllByRecursion P ks → AreInTurn shown m ks ts → GoBy P ts
    of_in_turn shown m [] ts all none = subst (GoBy P) (sym none) tt
    of_in_turn shown m (k ∷ ks) [] all w = absurd w
    of_in_turn shown m (k ∷ ks) (t ∷ ts) all w = (
      subst (λ z. Goes z × P (rank_of z)) (sym w.0) (tt, all.0),
      of_in_turn shown (stepped m k) (cond (shown m k) ks (ks ++ k ∷ [])) ts (left_of (shown m k) k ks all) w.1,
    )

    of_course : (place : ThePlace) (m : Running V) (ks : List ℕ) (c : Course) (ts : List Turn) → 0 < length ks → AllByRecursion P ks → AreOfCourse place m ks c ts → GoBy P ts
    of_course place m ks (course.Steps count) ts some all w = subst (GoBy P) (sym w) (of_steps count ks all)
    of_course place m ks (course.Until sight) ts some all w = of_until (shows place sight) m ks ts all w
    of_course place m ks (course.Before sight) ts some all w = of_before (shows place sight) m ks ts all w
    of_course place m ks (course.InTurn count) ts some all w = subst (GoBy P) (sym w) (of_laps count ks all)
    of_course place m ks (course.InTurnUntil sight) ts some all w = of_in_turn (shows place sight) m ks ts all w
    of_course place m ks (course.AtRandom seed count) ts some all w = subst (GoBy P) (sym w) (of_drawn (first_state seed) count ks some all)

    of_end : (m : Running V) (ks : List ℕ) (ts : List Turn) → AllByRecursion P ks → AreToTheEnd m ks ts → GoBy P ts
    of_end m ks ts all w = of_in_turn ends_calls m (filter (λ k. not (is_over m k)) ks) ts (all_filter P (λ k. not (is_over m k)) ks all) w

-- ---- the ranks that a line names

range_low : (a n : ℕ) → AllByRecursion (λ k. k < a + n) (range_with_len a n)
range_low a zero = tt
range_low a (suc n) =
    let next : a + 1 + n ≡ a + suc n = omega arith in
    (omega arith, subst (λ z. AllByRecursion (λ k. k < z) (range_with_len (a + 1) n)) next (range_low (a + 1) n))

range_high : (a b n : ℕ) → b ≤ a → AllByRecursion (λ k. b ≤ k) (range_with_len a n)
range_high a b zero low = tt
range_high a b (suc n) low = (low, range_high (a + 1) b n (omega (arith, low)))

none_high : (a : ℕ) (xs : List ℕ) → AllByRecursion (λ k. a + 1 ≤ k) xs → is_among xs a ≡ false
none_high a [] all = refl
none_high a (x ∷ xs) all = neither (eqb x a) (is_among xs a) (ne_eqb x a (λ same. let high = all.0 in omega (arith, high, same))) (none_high a xs all.1)

once_if : (b : Bool) (x : ℕ) (xs : List ℕ) → is_among xs x ≡ false → EachOnce xs → EachOnce (cond b (x ∷ xs) xs)
once_if true x xs new once = (new, once)
once_if false x xs new once = once

once_in : (f : ℕ → Bool) (a n : ℕ) → EachOnce (filter f (range_with_len a n))
once_in f a zero = tt
once_in f a (suc n) =
    once_if (f a) a (filter f (range_with_len (a + 1) n)) (none_high a (filter f (range_with_len (a + 1) n)) (all_filter (λ k. a + 1 ≤ k) f (range_with_len (a + 1) n) (range_high (a + 1) (a + 1) n (omega arith))))
    (once_in f (a + 1) n)

shown_if : (stopped : List ℕ) (b : Bool) (x : ℕ) (xs : List ℕ) → is_among stopped x ≡ b → AllByRecursion (λ k. is_among stopped k ≡ false) xs → AllByRecursion (λ k. is_among stopped k ≡ false) (cond (not b) (x ∷ xs) xs)
shown_if stopped true x xs e all = all
shown_if stopped false x xs e all = (e, all)

all_shown : (stopped xs : List ℕ) → AllByRecursion (λ k. is_among stopped k ≡ false) (filter (λ k. not (is_among stopped k)) xs)
all_shown stopped [] = tt
all_shown stopped (x ∷ xs) = shown_if stopped (is_among stopped x) x (filter (λ k. not (is_among stopped k)) xs) refl (all_shown stopped xs)

pub named_some : (n : ℕ) (stopped : List ℕ) (which : Ranks) → RanksFit n stopped which → 0 < length (named_ranks n stopped which)
named_some n stopped All fits = fits
named_some n stopped (These list) fits = fits.0

pub named_there : (n : ℕ) (stopped : List ℕ) (which : Ranks) → RanksFit n stopped which → AllByRecursion (λ k. k < n) (named_ranks n stopped which)
named_there n stopped All fits =
    let all : 0 + n ≡ n = omega arith in
    all_filter (λ k. k < n) (λ k. not (is_among stopped k)) (range_with_len 0 n) (subst (λ z. AllByRecursion (λ k. k < z) (range_with_len 0 n)) all (range_low 0 n))
named_there n stopped (These list) fits = fits.1

named_going : (n : ℕ) (stopped : List ℕ) (which : Ranks) → RanksFit n stopped which → AllByRecursion (λ k. is_among stopped k ≡ false) (named_ranks n stopped which)
named_going n stopped All fits = all_shown stopped (range_with_len 0 n)
named_going n stopped (These list) fits = fits.2

pub named_once : (n : ℕ) (stopped : List ℕ) (which : Ranks) → RanksFit n stopped which → EachOnce (named_ranks n stopped which)
named_once n stopped All fits = once_in (λ k. not (is_among stopped k)) 0 n
named_once n stopped (These list) fits = fits.3

-- ---- who is stopped stays so

abbrev NotOf : List ℕ → List Turn → Type 0
NotOf stopped turns = AllByRecursion (λ t. is_among stopped (rank_of t) ≡ false) turns

goes_not_of : (stopped : List ℕ) (ts : List Turn) → GoBy (λ k. is_among stopped k ≡ false) ts → NotOf stopped ts
goes_not_of stopped [] all = tt
goes_not_of stopped (t ∷ ts) all = (all.0.1, goes_not_of stopped ts all.1)

goes_stay : (P : ℕ → Type 0) (ts rest : List Turn) → GoBy P ts → StayStopped rest → StayStopped (ts ++ rest)
goes_stay P [] rest all stay = stay
goes_stay P (turn.Steps k n ∷ ts) rest all stay = goes_stay P ts rest all.1 stay
goes_stay P (turn.Stop k ∷ ts) rest all stay = absurd all.0.0

not_first : (stopped ks : List ℕ) (k : ℕ) → is_among (stopped ++ ks) k ≡ false → (is_among stopped k ≡ false) × (is_among ks k ≡ false)
not_first stopped ks k e = or_false (is_among stopped k) (is_among ks k) (sym (list_any-append (λ other. eqb other k) stopped ks) ∙ e)

not_of_first : (stopped ks : List ℕ) (ts : List Turn) → NotOf (stopped ++ ks) ts → NotOf stopped ts × NotOf ks ts
not_of_first stopped ks [] all = (tt, tt)
not_of_first stopped ks (t ∷ ts) all =
    let one = not_first stopped ks (rank_of t) all.0 in
    let more = not_of_first stopped ks ts all.1 in
    ((one.0, more.0), (one.1, more.1))

-- no turn of those is of rank k
none_stops : (k : ℕ) (ks : List ℕ) → is_among ks k ≡ false → AllByRecursion (λ t. rank_of t ≢ k) (stops_each ks)
none_stops k [] e = tt
none_stops k (j ∷ ks) e = let two = or_false (eqb j k) (is_among ks k) e in (differ j k two.0, none_stops k ks two.1)

none_later : (k : ℕ) (ks : List ℕ) (ts : List Turn) → NotOf (k ∷ ks) ts → AllByRecursion (λ t. rank_of t ≢ k) ts
none_later k ks [] all = tt
none_later k ks (t ∷ ts) all =
    let two = or_false (eqb k (rank_of t)) (is_among ks (rank_of t)) all.0 in
    ((λ same. differ k (rank_of t) two.0 (sym same)), none_later k ks ts all.1)

not_of_more : (k : ℕ) (ks : List ℕ) (ts : List Turn) → NotOf (k ∷ ks) ts → NotOf ks ts
not_of_more k ks [] all = tt
not_of_more k ks (t ∷ ts) all = ((or_false (eqb k (rank_of t)) (is_among ks (rank_of t)) all.0).1, not_of_more k ks ts all.1)

stops_stay : (ks : List ℕ) (rest : List Turn) → EachOnce ks → NotOf ks rest → StayStopped rest → StayStopped (stops_each ks ++ rest)
stops_stay [] rest once none stay = stay
stops_stay (k ∷ ks) rest once none stay =
    (all_append (λ t. rank_of t ≢ k) (stops_each ks) rest (none_stops k ks once.0) (none_later k ks rest none), stops_stay ks rest once.1 (not_of_more k ks rest none) stay)

stops_not_of : (stopped ks : List ℕ) → AllByRecursion (λ k. is_among stopped k ≡ false) ks → NotOf stopped (stops_each ks)
stops_not_of stopped [] all = tt
stops_not_of stopped (k ∷ ks) all = (all.0, stops_not_of stopped ks all.1)

module _ {V : Type 0} (place : ThePlace) (n : ℕ) where
  -- the turns of a line that goes
  goes_by : (m : Running V) (stopped : List ℕ) (which : Ranks) (c : Course) (ts : List Turn) → LineFits n stopped (line.Goes which c) → AreOfLine place n m stopped (line.Goes which c) ts →
      GoBy (λ k. is_among stopped k ≡ false) ts
  goes_by m stopped All (course.Until Done) ts fits w = of_end (λ k. is_among stopped k ≡ false) m (named_ranks n stopped All) ts (named_going n stopped All fits.0) w
  goes_by m stopped All (course.Until Out) ts fits w = of_course (λ k. is_among stopped k ≡ false) place m (named_ranks n stopped All) (course.Until Out) ts (named_some n stopped All fits.0) (named_going n stopped All fits.0) w
  goes_by m stopped All (course.Until (Words text)) ts fits w = of_course (λ k. is_among stopped k ≡ false) place m (named_ranks n stopped All) (course.Until (Words text)) ts (named_some n stopped All fits.0) (named_going n stopped All fits.0) w
  goes_by m stopped All (course.Steps count) ts fits w = of_course (λ k. is_among stopped k ≡ false) place m (named_ranks n stopped All) (course.Steps count) ts (named_some n stopped All fits.0) (named_going n stopped All fits.0) w
  goes_by m stopped All (course.Before sight) ts fits w = of_course (λ k. is_among stopped k ≡ false) place m (named_ranks n stopped All) (course.Before sight) ts (named_some n stopped All fits.0) (named_going n stopped All fits.0) w
  goes_by m stopped All (course.InTurn count) ts fits w = of_course (λ k. is_among stopped k ≡ false) place m (named_ranks n stopped All) (course.InTurn count) ts (named_some n stopped All fits.0) (named_going n stopped All fits.0) w
  goes_by m stopped All (course.InTurnUntil sight) ts fits w = of_course (λ k. is_among stopped k ≡ false) place m (named_ranks n stopped All) (course.InTurnUntil sight) ts (named_some n stopped All fits.0) (named_going n stopped All fits.0) w
  goes_by m stopped All (course.AtRandom seed count) ts fits w = of_course (λ k. is_among stopped k ≡ false) place m (named_ranks n stopped All) (course.AtRandom seed count) ts (named_some n stopped All fits.0) (named_going n stopped All fits.0) w
  goes_by m stopped (These list) c ts fits w = of_course (λ k. is_among stopped k ≡ false) place m list c ts (named_some n stopped (These list) fits.0) (named_going n stopped (These list) fits.0) w

  -- the turns of lines are of ranks that weren't stopped before them, and stay so
  pub lines_stay : (m : Running V) (stopped : List ℕ) (lines : List SketchLine) (ts : List Turn) → LinesFit n stopped lines → AreOfLines place n m stopped lines ts → NotOf stopped ts × StayStopped ts
  lines_stay m stopped [] ts fits none = (subst (NotOf stopped) (sym none) tt, subst StayStopped (sym none) tt)
  lines_stay m stopped (line.Note text ∷ lines) ts fits w =
      let rest = lines_stay (run_of m (ranks_of_turns w.0)) stopped lines w.1 fits.1 w.4 in
      let same : ts ≡ w.1 = w.2 ∙ ap (λ f. f ++ w.1) w.3 in
      (subst (NotOf stopped) (sym same) rest.0, subst StayStopped (sym same) rest.1)
  lines_stay m stopped (line.Goes which c ∷ lines) ts fits w =
      let rest = lines_stay (run_of m (ranks_of_turns w.0)) stopped lines w.1 fits.1 w.4 in
      let first = goes_by m stopped which c w.0 fits.0 w.3 in (
        subst (NotOf stopped) (sym w.2) (all_append (λ t. is_among stopped (rank_of t) ≡ false) w.0 w.1 (goes_not_of stopped w.0 first) rest.0),
        subst StayStopped (sym w.2) (goes_stay (λ k. is_among stopped k ≡ false) w.0 w.1 first rest.1),
      )
  lines_stay m stopped (line.Stops which ∷ lines) ts fits w =
      let ks = named_ranks n stopped which in
      let rest = lines_stay (run_of m (ranks_of_turns w.0)) (stopped ++ ks) lines w.1 fits.1 w.4 in
      let both = not_of_first stopped ks w.1 rest.0 in
      let are : ts ≡ stops_each ks ++ w.1 = w.2 ∙ ap (λ f. f ++ w.1) w.3 in (
        subst (NotOf stopped) (sym are) (all_append (λ t. is_among stopped (rank_of t) ≡ false) (stops_each ks) w.1 (stops_not_of stopped ks (named_going n stopped which fits.0)) both.0),
        subst StayStopped (sym are) (stops_stay ks w.1 (named_once n stopped which fits.0) both.1 rest.1),
      )

  -- ---- lines are added one by one

  pub lines_more : (m : Running V) (stopped : List ℕ) (lines : List SketchLine) (next : SketchLine) (ts more : List Turn) → AreOfLines place n m stopped lines ts →
      AreOfLine place n (run_of m (ranks_of_turns ts)) (stopped_by n stopped lines) next more → AreOfLines place n m stopped (lines ++ next ∷ []) (ts ++ more)
  lines_more m stopped [] next ts more none w =
      (more, [], ap (λ z. z ++ more) none ∙ sym (append-nil more), subst (λ z. AreOfLine place n (run_of m (ranks_of_turns z)) stopped next more) none w, refl)
  lines_more m stopped (l ∷ lines) next ts more all w =
      let ran : run_of m (ranks_of_turns ts) ≡ run_of (run_of m (ranks_of_turns all.0)) (ranks_of_turns all.1) = ap (λ z. run_of m (ranks_of_turns z)) all.2 ∙ ap (run_of m) (ranks_append all.0 all.1) ∙ run_append m (ranks_of_turns all.0) (ranks_of_turns all.1) in (
        all.0,
        all.1 ++ more,
        ap (λ z. z ++ more) all.2 ∙ append_assoc all.0 all.1 more,
        all.3,
        lines_more (run_of m (ranks_of_turns all.0)) (stopped_after n stopped l) lines next all.1 more all.4 (subst (λ z. AreOfLine place n z (stopped_by n (stopped_after n stopped l) lines) next more) ran w),
      )
