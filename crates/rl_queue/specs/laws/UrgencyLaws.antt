-- A member is urgent exactly where it uses the queue and isn't stuck; and what the code reads is the planned load's word.
use Rattle.std.specs.Prelude.{◌≡◌, ℕ, zero, suc, ◌+◌, ◌<◌, ◌≤◌, ◌^◌, List, length, slice_index, take, Option, Some, None, refl}
use Rattle.std.proofs.Common.{sym, arith}
use Rattle.std.proofs.Math.Dec.{eqb-suc-zero}
use Rattle.std.proofs.lemmas.List.{get_or-take}
use Rattle.rl_word.specs.Acts.{word_of, Layout}
use Rattle.rl_word.specs.declared.acts.Act.{Act}
use Rattle.rl_word.specs.declared.acts.Act.TheVariants.{Load}
use Rattle.rl_step.specs.declared.events.Event.{Event}
use Rattle.rl_step.specs.Lock.{LockTable, LockState, LockLaws, MayStep, Deed}
use Rattle.rl_queue.specs.declared.view.Phase.{Phase}
use Rattle.rl_queue.specs.declared.view.Phase.TheVariants.{Idle, Wait, Await}
use Rattle.rl_queue.specs.Lane.{Busy}
use Rattle.rl_queue.specs.Queue.{TheNames, queue_next_word, status_word, plan_at}
use Rattle.rl_queue.specs.laws.Stuck.{Stuck}
use Rattle.rl_queue.specs.Urgency.{loaded, urgent_at}

-- where the word is 0 a member that waits for it isn't urgent, and else it is
waits_none : (w n : ℕ) → urgent_at Wait w ≡ Some n → w ≡ 0 → ⊥
waits_none zero n e z = cc
waits_none (suc w) n e z = absurd (omega arith)

waits_some : (w : ℕ) → (w ≡ 0 → ⊥) → urgent_at Wait w ≡ None → ⊥
waits_some zero free e = free refl
waits_some (suc w) free e = let not = eqb-suc-zero w in cc

waits_few : (w n : ℕ) → urgent_at Wait w ≡ Some n → n < 8
waits_few zero n e = cc
waits_few (suc w) n e = let not = eqb-suc-zero w in let z : 0 ≡ n = cc in omega arith

pub few_at : (p : Phase) (w n : ℕ) → urgent_at p w ≡ Some n → n < 8
few_at Idle w n e = cc
few_at Wait w n e = waits_few w n e
few_at (Await left) w n e = waits_few w n e
few_at _ w n e = let z : 0 ≡ n = cc in omega arith

module _ (N : TheNames) (ws : List ℕ) (m : ℕ) where
  -- who is urgent uses the queue and isn't stuck
  pub urgent_busy : (p : Phase) (n : ℕ) → urgent_at p (loaded ws (plan_at N m p)) ≡ Some n → Busy p
  urgent_busy Idle n e = cc
  urgent_busy _ n e = tt

  pub urgent_free : (p : Phase) (n : ℕ) → urgent_at p (loaded ws (plan_at N m p)) ≡ Some n →
      Stuck p (slice_index ws (queue_next_word N m)) (slice_index ws (status_word N m)) → ⊥
  urgent_free Wait n e k = waits_none (slice_index ws (status_word N m)) n e k
  urgent_free (Await left) n e k = waits_none (slice_index ws (queue_next_word N m)) n e k
  urgent_free _ n e k = k

  -- and who uses it and isn't stuck is urgent
  pub free_urgent : (p : Phase) → Busy p → (Stuck p (slice_index ws (queue_next_word N m)) (slice_index ws (status_word N m)) → ⊥) →
      urgent_at p (loaded ws (plan_at N m p)) ≡ None → ⊥
  free_urgent Idle busy free e = absurd busy
  free_urgent Wait busy free e = waits_some (slice_index ws (status_word N m)) free e
  free_urgent (Await left) busy free e = waits_some (slice_index ws (queue_next_word N m)) free e
  free_urgent _ busy free e = cc

-- a load of the first n words finds the same there
pub loaded_in : (n : ℕ) (ws : List ℕ) (planned : Option Act) → ((a : Act) → planned ≡ Some a → word_of a < n) → loaded ws planned ≡ loaded (take n ws) planned
loaded_in n ws None low = refl
loaded_in n ws (Some (Load w)) low = sym (get_or-take n ws w 0 (low (Load w) refl))
loaded_in n ws (Some _) low = refl

-- the planned act of a lock is made on one of its words
module _ {V : Type 0} (T : LockTable V) (good : LockState V → Type 0) (further : List Event → List Deed → Type 0) (layout : Layout)
    (laws : LockLaws T good further layout) (v : V) (may : MayStep good v) where
  pub aims : (a : Act) → T.plan v ≡ Some a → word_of a < T.size
  aims a pl = (laws.lawful may.state may.rank v a (record { is_good = may.is_good; has = may.has; planned = pl })).0.there

  pub load_there : (base : ℕ) (ws : List ℕ) → base + T.size ≤ length ws → (w : ℕ) → T.plan v ≡ Some (Load w) → base + w < length ws
  load_there base ws there w pl = let low : w < T.size = aims (Load w) pl in omega arith

  pub load_fits : (base : ℕ) → base + T.size ≤ 2 ^ 32 → (w : ℕ) → T.plan v ≡ Some (Load w) → base + w < 2 ^ 32
  load_fits base fits w pl = let low : w < T.size = aims (Load w) pl in omega arith
