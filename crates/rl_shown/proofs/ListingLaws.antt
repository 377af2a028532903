-- The lines of a run, of one step more and of one turn more; and the start of a machine by the parts of a placement.
use Rattle.std.proofs.Common.{◌≡◌, ℕ, ◌+◌, List, [], ◌∷◌, ◌++◌, replicate, take, sum_by, slice_get, Some, Result, Ok, Err, codes, decimal, refl, sym, ap, ◌∙◌, append_assoc}
use Rattle.std.specs.Prelude.{IfOk}
use Rattle.std.proofs.lemmas.Grind.{flat_map-append}
use Rattle.std.proofs.lemmas.List.{append-nil}
use Rattle.std.proofs.lemmas.List.Sums.{sum_by-cons}
use Rattle.rl_text.specs.Spelling.{line_text, text_of}
use Rattle.rl_word.specs.Shapes.{TheShape}
use Rattle.rl_word.specs.declared.shapes.Knobs.{Knobs}
use Rattle.rl_place.specs.Places.{ThePlace}
use Rattle.rl_place.specs.Shapes.{shape_of, knobs_of}
use Rattle.rl_ops.specs.declared.ops.Ops.{Ops}
use Rattle.rl_ops.specs.declared.schedule.Turn.{Turn}
use Rattle.rl_ops.specs.Schedule.{steps_of}
use Rattle.rl_step.specs.Answers.{steps_made}
use Rattle.rl_report.specs.Naming.{TheNaming}
use Rattle.rl_report.specs.Printing.{spaced}
use Rattle.rl_report.proofs.Lines.{join-spaced}
use Rattle.rl_machine.specs.Running.{Running}
use Rattle.rl_machine.specs.Run.{stepped, run_of, turn_ranks, ranks_of_turns, steps_in}
use Rattle.rl_machine.specs.laws.ReplayLaws.{run_append, replicate-end, ranks-more}
use Rattle.rl_machine.specs.Start.{start_of}
use Rattle.rl_locks.specs.Kinds.{Defined}
use Rattle.rl_viewer.specs.declared.asking.Window.{Window}
use Rattle.rl_viewer.specs.Asking.{is_in}
use Rattle.rl_shown.specs.Listing.{step_lines, step_line, shown, head_lines, listing_text}

pub text-append : (xs ys : List (List (List ℕ))) → text_of (xs ++ ys) ≡ text_of xs ++ text_of ys
text-append xs ys = flat_map-append line_text xs ys

pub steps_are : (turns : List Turn) → steps_in turns ≡ sum_by steps_of turns
steps_are [] = refl
steps_are (t ∷ ts) = ap (λ n. steps_of t + n) (steps_are ts) ∙ sym (sum_by-cons steps_of t ts)

module _ {V : Type 0} (place : ThePlace) (naming : TheNaming) (window : Window) where
  abbrev text : Running V → List ℕ → List ℕ
  text m ks = text_of (step_lines place naming window m ks)

  lines_append : (m : Running V) (ks js : List ℕ) → step_lines place naming window m (ks ++ js) ≡ step_lines place naming window m ks ++ step_lines place naming window (run_of m ks) js
  lines_append m [] js = refl
  lines_append m (k ∷ ks) js =
      ap (λ z. shown (is_in window (steps_made m.steps)) (step_line place naming m k) ++ z) (lines_append (stepped m k) ks js)
      ∙ sym (append_assoc (shown (is_in window (steps_made m.steps)) (step_line place naming m k)) (step_lines place naming window (stepped m k) ks) (step_lines place naming window (run_of (stepped m k) ks) js))

  -- the text goes on with that of further steps
  pub more : (before : List ℕ) (m now : Running V) (ks js : List ℕ) → now ≡ run_of m ks → (before ++ text m ks) ++ text now js ≡ before ++ text m (ks ++ js)
  more before m now ks js is =
      append_assoc before (text m ks) (text now js)
      ∙ ap (λ z. before ++ z) (ap (λ z. text m ks ++ text z js) is ∙ sym (text-append (step_lines place naming window m ks) (step_lines place naming window (run_of m ks) js)) ∙ ap text_of (sym (lines_append m ks js)))

  -- one step more of a rank
  pub step_more : (before : List ℕ) (m now : Running V) (n k : ℕ) → now ≡ run_of m (replicate n k) → (before ++ text m (replicate n k)) ++ text now (k ∷ []) ≡ before ++ text m (replicate (n + 1) k)
  step_more before m now n k is = more before m now (replicate n k) (k ∷ []) is ∙ ap (λ ks. before ++ text m ks) (sym (replicate-end n k))

  -- one turn more
  pub turn_more : (before : List ℕ) (m now : Running V) (ts : List Turn) (i : ℕ) (t : Turn) → slice_get ts i ≡ Some t → now ≡ run_of m (ranks_of_turns (take i ts)) →
      (before ++ text m (ranks_of_turns (take i ts))) ++ text now (turn_ranks t) ≡ before ++ text m (ranks_of_turns (take (i + 1) ts))
  turn_more before m now ts i t at is = more before m now (ranks_of_turns (take i ts)) (turn_ranks t) is ∙ ap (λ ks. before ++ text m ks) (sym (ranks-more ts i t at))

-- the run goes on
pub run_more : {V : Type 0} (m mid now : Running V) (n k : ℕ) → mid ≡ run_of m (replicate n k) → now ≡ stepped mid k → now ≡ run_of m (replicate (n + 1) k)
run_more m mid now n k is step = step ∙ ap (λ z. stepped z k) is ∙ sym (ap (run_of m) (replicate-end n k) ∙ run_append m (replicate n k) (k ∷ []))

pub run_turn : {V : Type 0} (m mid now : Running V) (ts : List Turn) (i : ℕ) (t : Turn) → slice_get ts i ≡ Some t → mid ≡ run_of m (ranks_of_turns (take i ts)) → now ≡ run_of mid (turn_ranks t) → now ≡ run_of m (ranks_of_turns (take (i + 1) ts))
run_turn m mid now ts i t at is step = step ∙ ap (λ z. run_of z (turn_ranks t)) is ∙ sym (ap (run_of m) (ranks-more ts i t at) ∙ run_append m (ranks_of_turns (take i ts)) (turn_ranks t))

-- the start, by the parts of the placement
pub start_is : {V : Type 0} (defined : Defined V) (place inside : ThePlace) (ops : Ops) (shape : TheShape) (knobs : Knobs) (homes : List ℕ) → inside ≡ place → shape ≡ shape_of place → knobs ≡ knobs_of place.lock → homes ≡ inside.homes →
    start_of defined shape knobs inside.geom homes ops ≡ start_of defined (shape_of place) (knobs_of place.lock) place.geom place.homes ops
start_is defined place inside ops shape knobs homes same shape_is knobs_is homes_are =
    ap (λ s. start_of defined s knobs inside.geom homes ops) shape_is
    ∙ ap (λ k. start_of defined (shape_of place) k inside.geom homes ops) knobs_is
    ∙ ap (λ h. start_of defined (shape_of place) (knobs_of place.lock) inside.geom h ops) homes_are
    ∙ ap (λ (p : ThePlace). start_of defined (shape_of place) (knobs_of place.lock) p.geom p.homes ops) same

-- a run of these first turns from there is a run of the first steps
pub run_first : {M V E : Type 0} (view : M → Running V) (result : Result M E) (defined : Defined V) (place inside : ThePlace) (ops : Ops) (shape : TheShape) (knobs : Knobs) (homes : List ℕ) (front turns : List Turn) (step : ℕ) →
    inside ≡ place → shape ≡ shape_of place → knobs ≡ knobs_of place.lock → homes ≡ inside.homes → ranks_of_turns front ≡ take step (ranks_of_turns turns) →
    IfOk result (λ m. view m ≡ run_of (start_of defined shape knobs inside.geom homes ops) (ranks_of_turns front)) →
    IfOk result (λ m. view m ≡ run_of (start_of defined (shape_of place) (knobs_of place.lock) place.geom place.homes ops) (take step (ranks_of_turns turns)))
run_first view (Err why) defined place inside ops shape knobs homes front turns step same shape_is knobs_is homes_are first run = tt
run_first view (Ok m) defined place inside ops shape knobs homes front turns step same shape_is knobs_is homes_are first run =
    run ∙ ap (λ z. run_of z (ranks_of_turns front)) (start_is defined place inside ops shape knobs homes same shape_is knobs_is homes_are)
    ∙ ap (run_of (start_of defined (shape_of place) (knobs_of place.lock) place.geom place.homes ops)) first

-- the head, the lines and the end are the listing
pub the_text : (naming : TheNaming) (lines : List (List (List ℕ))) → (text_of (head_lines naming) ++ text_of lines) ++ (codes "end" ++ 10 ∷ []) ≡ listing_text naming lines
the_text naming lines =
    append_assoc (text_of (head_lines naming)) (text_of lines) (codes "end" ++ 10 ∷ [])
    ∙ ap (λ z. text_of (head_lines naming) ++ z) (sym (text-append lines ((codes "end" ∷ []) ∷ []))) ∙ sym (text-append (head_lines naming) (lines ++ (codes "end" ∷ []) ∷ []))

-- the pieces of a step's line
five : (a b c d e f : List ℕ) → ((((a ++ b) ++ c) ++ d) ++ e) ++ f ≡ a ++ (((b ++ (c ++ (d ++ e))) ++ f) ++ [])
five a b c d e f =
    ap (λ z. z ++ f) (append_assoc ((a ++ b) ++ c) d e ∙ append_assoc (a ++ b) c (d ++ e) ∙ append_assoc a b (c ++ (d ++ e)))
    ∙ append_assoc a (b ++ (c ++ (d ++ e))) f ∙ ap (λ z. a ++ z) (sym (append-nil ((b ++ (c ++ (d ++ e))) ++ f)))

-- words behind words
pub words_more : (o3 o4 o5 : List ℕ) (words more : List (List ℕ)) → o4 ≡ o3 ++ spaced words → o5 ≡ o4 ++ spaced more → o5 ≡ o3 ++ spaced (words ++ more)
words_more o3 o4 o5 words more e4 e5 =
    e5 ∙ ap (λ z. z ++ spaced more) e4 ∙ append_assoc o3 (spaced words) (spaced more) ∙ ap (λ z. o3 ++ z) (sym (flat_map-append (λ w. 32 ∷ w) words more))

pub line_is : (out o1 o2 o3 o4 o5 : List ℕ) (words : List (List ℕ)) (n k : ℕ) → o1 ≡ out ++ decimal n → o2 ≡ o1 ++ 32 ∷ codes "rank" → o3 ≡ o2 ++ 32 ∷ decimal k → o4 ≡ o3 ++ spaced words → o5 ≡ o4 ++ 10 ∷ [] →
    o5 ≡ out ++ text_of ((decimal n ∷ codes "rank" ∷ decimal k ∷ words) ∷ [])
line_is out o1 o2 o3 o4 o5 words n k e1 e2 e3 e4 e5 =
    e5 ∙ ap (λ z. z ++ 10 ∷ []) (e4 ∙ ap (λ z. z ++ spaced words) (e3 ∙ ap (λ z. z ++ 32 ∷ decimal k) (e2 ∙ ap (λ z. z ++ 32 ∷ codes "rank") e1)))
    ∙ five out (decimal n) (32 ∷ codes "rank") (32 ∷ decimal k) (spaced words) (10 ∷ [])
    ∙ ap (λ z. out ++ ((z ++ 10 ∷ []) ++ [])) (sym (join-spaced (decimal n) (codes "rank" ∷ decimal k ∷ words)))
