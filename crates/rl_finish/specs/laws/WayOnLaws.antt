-- One step more: a way on goes on, and so do the turns that it is written as.
use Rattle.std.specs.Prelude.{◌≡◌, ◌≢◌, ℕ, zero, suc, ◌+◌, ◌-◌, ◌<◌, ◌≤◌, List, [], ◌∷◌, ◌++◌, length, replicate, slice_get, slice_index_or, slice_set, Some, Result, Ok, Err, OnErr, refl}
use Rattle.std.specs.List.{AllByRecursion}
use Rattle.std.proofs.Common.{sym, ◌∙◌, ap, subst, arith, append_assoc}
use Rattle.std.proofs.lemmas.List.{append-nil}
use Rattle.std.proofs.lemmas.Option.{same_Some, slice_get-get_or}
use Rattle.rl_ops.specs.declared.schedule.Turn.{Turn}
use Rattle.rl_ops.specs.declared.schedule.Turn.TheVariants.{Steps, Stop}
use Rattle.rl_ops.specs.Schedule.{TurnFits, rank_of, steps_of}
use Rattle.rl_core.specs.ShardGuiding.{UrgentOf}
use Rattle.rl_machine.specs.Running.{Running}
use Rattle.rl_machine.specs.Run.{stepped, run_of, turn_ranks, ranks_of_turns, steps_in}
use Rattle.rl_machine.specs.laws.ReplayLaws.{run_append, replicate-end}
use Rattle.rl_machine.specs.GoesNext.{GoesNext}
use Rattle.rl_finish.specs.WayOn.{IsWayOn, HasSteps, AreWhole, HaveOneMore}

-- a way on goes on by whoever goes next at its end
pub way_more : {C V : Type 0} (urgent : UrgentOf C V) (cores : List C) (m : Running V) (ranks : List ℕ) (rank : ℕ) → IsWayOn urgent cores m ranks →
    GoesNext urgent cores (run_of m ranks) rank → IsWayOn urgent cores m (ranks ++ rank ∷ [])
way_more urgent cores m [] rank way next = (next, tt)
way_more urgent cores m (k ∷ ks) rank way next = (way.0, way_more urgent cores (stepped m k) ks rank way.1 next)

pub run_more : {V : Type 0} (m : Running V) (ranks : List ℕ) (rank : ℕ) → stepped (run_of m ranks) rank ≡ run_of m (ranks ++ rank ∷ [])
run_more m ranks rank = sym (run_append m ranks (rank ∷ []))

-- ---- in the last turn, if it is that rank's

module _ (rank count : ℕ) where
  abbrev longer : Turn
  longer = Steps rank (count + 1)

  grown_ranks : (ts : List Turn) (i : ℕ) → i + 1 ≡ length ts → slice_get ts i ≡ Some (Steps rank count) → ranks_of_turns (slice_set ts i longer) ≡ ranks_of_turns ts ++ rank ∷ []
  grown_ranks [] i l e = cc
  grown_ranks (t ∷ []) zero l e =
      append-nil (replicate (count + 1) rank) ∙ replicate-end count rank
      ∙ sym (ap (λ z. (turn_ranks z ++ []) ++ rank ∷ []) (same_Some _ _ e) ∙ ap (λ z. z ++ rank ∷ []) (append-nil (replicate count rank)))
  grown_ranks (t ∷ u ∷ ts) zero l e = absurd (omega arith)
  grown_ranks (t ∷ ts) (suc i) l e = ap (λ z. turn_ranks t ++ z) (grown_ranks ts i (omega arith) e) ∙ sym (append_assoc (turn_ranks t) (ranks_of_turns ts) (rank ∷ []))

  grown_steps : (ts : List Turn) (i : ℕ) → slice_get ts i ≡ Some (Steps rank count) → steps_in (slice_set ts i longer) ≡ steps_in ts + 1
  grown_steps [] i e = cc
  grown_steps (t ∷ ts) zero e = let same : steps_of t ≡ count = ap steps_of (same_Some _ _ e) in omega arith
  grown_steps (t ∷ ts) (suc i) e = let h = grown_steps ts i e in omega arith

  grown_fit : (n : ℕ) (ts : List Turn) (i : ℕ) → rank < n → AllByRecursion (TurnFits n) ts → AllByRecursion (TurnFits n) (slice_set ts i longer)
  grown_fit n [] i low all = tt
  grown_fit n (t ∷ ts) zero low all = (low, all.1)
  grown_fit n (t ∷ ts) (suc i) low all = (all.0, grown_fit n ts i low all.1)

  grown_whole : (ts : List Turn) (i : ℕ) → i + 1 ≡ length ts → slice_get ts i ≡ Some (Steps rank count) → AreWhole ts → AreWhole (slice_set ts i longer)
  grown_whole [] i l e w = cc
  grown_whole (t ∷ []) zero l e w = omega arith
  grown_whole (t ∷ []) (suc i) l e w = cc
  grown_whole (t ∷ u ∷ ts) zero l e w = absurd (omega arith)
  grown_whole (t ∷ u ∷ ts) (suc zero) l e w = (w.0, subst (λ z. rank_of t ≢ rank_of z) (same_Some _ _ e) w.1, grown_whole (u ∷ ts) zero (omega arith) e w.2)
  grown_whole (t ∷ u ∷ ts) (suc (suc i)) l e w = (w.0, w.1, grown_whole (u ∷ ts) (suc i) (omega arith) e w.2)

  pub grown : (ts : List Turn) (i : ℕ) → i + 1 ≡ length ts → slice_get ts i ≡ Some (Steps rank count) → AreWhole ts → HaveOneMore ts rank (slice_set ts i longer)
  grown ts i l e w =
      record {
        ranks = grown_ranks ts i l e;
        steps = grown_steps ts i e;
        fit = λ n low all. grown_fit n ts i low all;
        whole = grown_whole ts i l e w;
      }

-- ---- or in a turn of its own

module _ (rank : ℕ) where
  pushed_ranks : (ts : List Turn) → ranks_of_turns (ts ++ Steps rank 1 ∷ []) ≡ ranks_of_turns ts ++ rank ∷ []
  pushed_ranks [] = refl
  pushed_ranks (t ∷ ts) = ap (λ z. turn_ranks t ++ z) (pushed_ranks ts) ∙ sym (append_assoc (turn_ranks t) (ranks_of_turns ts) (rank ∷ []))

  pushed_steps : (ts : List Turn) → steps_in (ts ++ Steps rank 1 ∷ []) ≡ steps_in ts + 1
  pushed_steps [] = refl
  pushed_steps (t ∷ ts) = let h = pushed_steps ts in omega arith

  pushed_fit : (n : ℕ) (ts : List Turn) → rank < n → AllByRecursion (TurnFits n) ts → AllByRecursion (TurnFits n) (ts ++ Steps rank 1 ∷ [])
  pushed_fit n [] low all = (low, tt)
  pushed_fit n (t ∷ ts) low all = (all.0, pushed_fit n ts low all.1)

  -- the last turn is another rank's
  abbrev pub EndsApart : List Turn → Type 0
  EndsApart ts = (i : ℕ) (t : Turn) → i + 1 ≡ length ts → slice_get ts i ≡ Some t → rank_of t ≢ rank

  pushed_whole : (ts : List Turn) → EndsApart ts → AreWhole ts → AreWhole (ts ++ Steps rank 1 ∷ [])
  pushed_whole [] apart w = omega arith
  pushed_whole (t ∷ []) apart w = (w, apart 0 t refl refl, omega arith)
  pushed_whole (t ∷ u ∷ ts) apart w = (w.0, w.1, pushed_whole (u ∷ ts) (λ i v l e. apart (suc i) v (omega arith) e) w.2)

  pub pushed : (ts : List Turn) → EndsApart ts → AreWhole ts → HaveOneMore ts rank (ts ++ Steps rank 1 ∷ [])
  pushed ts apart w =
      record {
        ranks = pushed_ranks ts;
        steps = pushed_steps ts;
        fit = λ n low all. pushed_fit n ts low all;
        whole = pushed_whole ts apart w;
      }

-- whole turns have steps; and who isn't of this rank, being of steps of another, is another's
has_at : (ts : List Turn) (i : ℕ) (t : Turn) → AreWhole ts → slice_get ts i ≡ Some t → HasSteps t
has_at [] i t w e = cc
has_at (x ∷ []) zero t w e = subst HasSteps (same_Some _ _ e) w
has_at (x ∷ []) (suc i) t w e = cc
has_at (x ∷ y ∷ ts) zero t w e = subst HasSteps (same_Some _ _ e) w.0
has_at (x ∷ y ∷ ts) (suc i) t w e = has_at (y ∷ ts) i t w.2 e

another : (rank : ℕ) (t : Turn) → HasSteps t → ((last count : ℕ) → t ≡ Steps last count → last ≢ rank) → rank_of t ≢ rank
another rank (Steps last count) has apart = apart last count refl
another rank (Stop last) has apart = absurd has

pub ends_apart : (rank : ℕ) (ts : List Turn) (n : ℕ) (t : Turn) → AreWhole ts → n ≡ length ts → slice_get ts (n - 1) ≡ Some t →
    ((last count : ℕ) → t ≡ Steps last count → last ≢ rank) → EndsApart rank ts
ends_apart rank ts n t w all has apart =
    λ i u l e.
    let at : n - 1 ≡ i = omega arith in
    let same : t ≡ u = same_Some _ _ (sym has ∙ ap (slice_get ts) at ∙ e) in
    subst (λ z. rank_of z ≢ rank) same (another rank t (has_at ts (n - 1) t w has) apart)

-- the last turn, as the code reads it; and a turn that is put behind turns that are as they were
pub last_there : (ts : List Turn) (n : ℕ) (t : Turn) → n ≡ length ts → 0 < n → t ≡ slice_index_or ts (n - 1) t → slice_get ts (n - 1) ≡ Some t
last_there ts n t all some e = slice_get-get_or ts (n - 1) t (omega arith) ∙ ap Some (sym e)

pub pushed_behind : (rank : ℕ) (ts us vs : List Turn) → us ≡ ts → vs ≡ us ++ Steps rank 1 ∷ [] → EndsApart rank ts → AreWhole ts → HaveOneMore ts rank vs
pushed_behind rank ts us vs same is apart w = subst (HaveOneMore ts rank) (sym (is ∙ ap (λ z. z ++ Steps rank 1 ∷ []) same)) (pushed rank ts apart w)

-- a result that may be an error, where it is so in any case
pub on_err : {T E P : Type 0} (r : Result T E) → P → OnErr r P
on_err (Ok x) p = tt
on_err (Err e) p = p

-- a turn has no more steps than all turns
pub few_in : (ts : List Turn) (i rank count : ℕ) → slice_get ts i ≡ Some (Steps rank count) → count ≤ steps_in ts
few_in [] i rank count e = cc
few_in (t ∷ ts) zero rank count e = let same : steps_of t ≡ count = ap steps_of (same_Some _ _ e) in omega arith
few_in (t ∷ ts) (suc i) rank count e = let h = few_in ts i rank count e in omega arith
