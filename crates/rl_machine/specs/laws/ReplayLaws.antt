-- Runs one after the other, and how many steps a run has.
use Rattle.std.specs.Prelude.{◌≡◌, ℕ, zero, suc, ◌+◌, ◌≤◌, Bool, true, false, List, [], ◌∷◌, ◌++◌, replicate, take, slice_get, Some, refl}
use Rattle.std.specs.List.{AllByRecursion}
use Rattle.std.proofs.Common.{sym, ◌∙◌, ap, arith, append_assoc, add-one}
use Rattle.std.proofs.lemmas.List.{append-nil}
use Rattle.std.proofs.lemmas.Option.{same_Some}
use Rattle.rl_step.specs.declared.events.Stepped.{Stepped}
use Rattle.rl_step.specs.declared.events.Stepped.TheVariants.{Moved, Waiting, Lost, Busy, Finished}
use Rattle.rl_step.specs.declared.tallies.Steps.{Steps}
use Rattle.rl_step.specs.Answers.{counted, steps_made}
use Rattle.rl_ops.specs.declared.schedule.Turn.{Turn}
use Rattle.rl_ops.specs.declared.schedule.Turn.TheVariants as turn
use Rattle.rl_ops.specs.Schedule.{TurnFits, steps_of}
use Rattle.rl_machine.specs.Running.{Running}
use Rattle.rl_machine.specs.Run.{opens, opened_if, block_opened, atom_answer, stepped, run_of, turn_ranks, ranks_of_turns, steps_in, AreThere}

-- an answer is counted once
pub counts_one : (a : Stepped) (s : Steps) → steps_made (counted a s) ≡ steps_made s + 1
counts_one Moved s = omega arith
counts_one (Waiting w v) s = omega arith
counts_one (Lost g v) s = omega arith
counts_one (Busy n h) s = omega arith
counts_one Finished s = omega arith

module _ {V : Type 0} where
  -- a block that is opened is no step
  opens_none : (m : Running V) (k : ℕ) (b : Bool) → ((opened_if m k b).steps ≡ m.steps) × ((opened_if m k b).calls ≡ m.calls)
  opens_none m k false = (refl, refl)
  opens_none m k true = (refl, refl)

  pub stepped_one : (m : Running V) (k : ℕ) → (steps_made (stepped m k).steps ≡ steps_made m.steps + 1) × ((stepped m k).calls ≡ m.calls)
  stepped_one m k =
      let o = opens_none m k (opens m k) in
      (counts_one (atom_answer (block_opened m k) k) (block_opened m k).steps ∙ ap (λ s. steps_made s + 1) o.0, o.1)

  -- a run goes on by one step, and by a whole run
  pub run_append : (m : Running V) (ks js : List ℕ) → run_of m (ks ++ js) ≡ run_of (run_of m ks) js
  run_append m [] js = refl
  run_append m (k ∷ ks) js = run_append (stepped m k) ks js

  -- a turn has as many steps as it says
  pub turn_counts : (m : Running V) (n k : ℕ) → (steps_made (run_of m (replicate n k)).steps ≡ steps_made m.steps + n) × ((run_of m (replicate n k)).calls ≡ m.calls)
  turn_counts m zero k = (omega arith, refl)
  turn_counts m (suc n) k =
      let s = stepped_one m k in
      let r = turn_counts (stepped m k) n k in
      (r.0 ∙ ap (λ c. c + n) s.0 ∙ omega arith, r.1 ∙ s.1)

-- one step more of the same rank stands at the end
pub replicate-end : (n k : ℕ) → replicate (n + 1) k ≡ replicate n k ++ k ∷ []
replicate-end n k = rw add-one (more n) where
  more : (n : ℕ) → replicate (suc n) k ≡ replicate n k ++ k ∷ []
  more zero = refl
  more (suc n) = ap (λ z. k ∷ z) (more n)

-- the first turns of a schedule, and the next one
pub ranks-more : (ts : List Turn) (i : ℕ) (t : Turn) → slice_get ts i ≡ Some t → ranks_of_turns (take (i + 1) ts) ≡ ranks_of_turns (take i ts) ++ turn_ranks t
ranks-more ts i t e = rw add-one (more ts i e) where
  more : (ts : List Turn) (i : ℕ) → slice_get ts i ≡ Some t → ranks_of_turns (take (suc i) ts) ≡ ranks_of_turns (take i ts) ++ turn_ranks t
  more [] i e = cc
  more (x ∷ ts) zero e = append-nil (turn_ranks x) ∙ ap turn_ranks (same_Some _ _ e)
  more (x ∷ ts) (suc i) e = ap (λ z. turn_ranks x ++ z) (more ts i e) ∙ sym (append_assoc (turn_ranks x) (ranks_of_turns (take i ts)) (turn_ranks t))

pub steps-more : (ts : List Turn) (i : ℕ) (t : Turn) → slice_get ts i ≡ Some t → steps_in (take (i + 1) ts) ≡ steps_in (take i ts) + steps_of t
steps-more ts i t e = rw add-one (more ts i e) where
  more : (ts : List Turn) (i : ℕ) → slice_get ts i ≡ Some t → steps_in (take (suc i) ts) ≡ steps_in (take i ts) + steps_of t
  more [] i e = cc
  more (x ∷ ts) zero e = let same : x ≡ t = same_Some _ _ e in let c : steps_of x ≡ steps_of t = ap steps_of same in omega arith
  more (x ∷ ts) (suc i) e = let h = more ts i e in omega arith

pub steps-within : (ts : List Turn) (i : ℕ) → steps_in (take i ts) ≤ steps_in ts
steps-within [] zero = omega arith
steps-within [] (suc i) = omega arith
steps-within (x ∷ ts) zero = omega arith
steps-within (x ∷ ts) (suc i) = let h = steps-within ts i in omega arith

-- the ranks of turns that fit are there
there_append : (n : ℕ) (ks js : List ℕ) → AreThere n ks → AreThere n js → AreThere n (ks ++ js)
there_append n [] js a b = b
there_append n (k ∷ ks) js a b = (a.0, there_append n ks js a.1 b)

turn_there : (n : ℕ) (t : Turn) → TurnFits n t → AreThere n (turn_ranks t)
turn_there n (turn.Steps rank count) low = all_there count where
  all_there : (count : ℕ) → AreThere n (replicate count rank)
  all_there zero = tt
  all_there (suc c) = (low, all_there c)
turn_there n (turn.Stop rank) low = tt

pub ranks_there : (n : ℕ) (ts : List Turn) → AllByRecursion (TurnFits n) ts → AreThere n (ranks_of_turns ts)
ranks_there n [] all = tt
ranks_there n (t ∷ ts) all = there_append n (turn_ranks t) (ranks_of_turns ts) (turn_there n t all.0) (ranks_there n ts all.1)
