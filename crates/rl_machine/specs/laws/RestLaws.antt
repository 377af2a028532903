-- What a rank that rests does in so many steps is counted at once.
use Rattle.std.specs.Prelude.{◌≡◌, ℕ, zero, suc, ◌+◌, ◌++◌, ◌≤◌, Bool, true, false, not, ◌&&◌, List, replicate, slice_get, slice_set, Option, Some, None, refl}
use Rattle.std.proofs.Common.{sym, ◌∙◌, ap, arith}
use Rattle.std.proofs.lemmas.List.{append-nil}
use Rattle.rl_word.specs.laws.Places.{set_same_get}
use Rattle.rl_word.specs.declared.acts.Atom.{Atom}
use Rattle.rl_step.specs.declared.events.Stepped.{Stepped}
use Rattle.rl_step.specs.declared.events.Stepped.TheVariants.{Moved, Waiting, Lost, Busy, Finished}
use Rattle.rl_step.specs.declared.tallies.Steps.{Steps}
use Rattle.rl_step.specs.Answers.{counted, steps_made}
use Rattle.rl_step.specs.Do.{do_got}
use Rattle.rl_step.specs.Lock.{Deed}
use Rattle.rl_core.specs.Moments.{CoreSays}
use Rattle.rl_machine.specs.Running.{ShardRun, Running, TheMachine}
use Rattle.rl_machine.specs.ShardSteps.{numbered, makes, made_at, atom_on, answer_to, answer_at, answer_on}
use Rattle.rl_machine.specs.Run.{changed, changed_if, on_shard, place_of, opens, opened_if, atom_answer, atom_made, run_of}
use Rattle.rl_machine.specs.laws.EventOrderLaws.{told_more}
use Rattle.rl_machine.specs.MachineGood.{MachineGood, IsMachine}
use Rattle.rl_core.specs.Idle.{IsIdle}
use Rattle.rl_machine.specs.Rest.{counted_more, with_steps, RestsWith}

-- no more of an answer, and one more before the others
pub more_none : (a : Stepped) (s : Steps) → counted_more a 0 s ≡ s
more_none Moved s = let e : s.moved + 0 ≡ s.moved = omega arith in ap (λ n. record { moved = n; waiting = s.waiting; lost = s.lost; busy = s.busy; finished = s.finished }) e
more_none (Waiting w v) s = let e : s.waiting + 0 ≡ s.waiting = omega arith in ap (λ n. record { moved = s.moved; waiting = n; lost = s.lost; busy = s.busy; finished = s.finished }) e
more_none (Lost g v) s = let e : s.lost + 0 ≡ s.lost = omega arith in ap (λ n. record { moved = s.moved; waiting = s.waiting; lost = n; busy = s.busy; finished = s.finished }) e
more_none (Busy n h) s = let e : s.busy + 0 ≡ s.busy = omega arith in ap (λ n. record { moved = s.moved; waiting = s.waiting; lost = s.lost; busy = n; finished = s.finished }) e
more_none Finished s = let e : s.finished + 0 ≡ s.finished = omega arith in ap (λ n. record { moved = s.moved; waiting = s.waiting; lost = s.lost; busy = s.busy; finished = n }) e

pub one_before : (a : Stepped) (n : ℕ) (s : Steps) → counted_more a n (counted a s) ≡ counted_more a (suc n) s
one_before Moved n s = let e : s.moved + 1 + n ≡ s.moved + suc n = omega arith in ap (λ m. record { moved = m; waiting = s.waiting; lost = s.lost; busy = s.busy; finished = s.finished }) e
one_before (Waiting w v) n s = let e : s.waiting + 1 + n ≡ s.waiting + suc n = omega arith in ap (λ m. record { moved = s.moved; waiting = m; lost = s.lost; busy = s.busy; finished = s.finished }) e
one_before (Lost g v) n s = let e : s.lost + 1 + n ≡ s.lost + suc n = omega arith in ap (λ m. record { moved = s.moved; waiting = s.waiting; lost = m; busy = s.busy; finished = s.finished }) e
one_before (Busy b h) n s = let e : s.busy + 1 + n ≡ s.busy + suc n = omega arith in ap (λ m. record { moved = s.moved; waiting = s.waiting; lost = s.lost; busy = m; finished = s.finished }) e
one_before Finished n s = let e : s.finished + 1 + n ≡ s.finished + suc n = omega arith in ap (λ m. record { moved = s.moved; waiting = s.waiting; lost = s.lost; busy = s.busy; finished = m }) e

module _ {V : Type 0} where
  rest_on : (m : Running V) (k : ℕ) (a : Stepped) (n : ℕ) (counts : Steps) → RestsWith m k a → run_of (with_steps m counts) (replicate n k) ≡ with_steps m (counted_more a n counts)
  rest_on m k a zero counts r = ap (with_steps m) (sym (more_none a counts))
  rest_on m k a (suc n) counts r = ap (λ u. run_of u (replicate n k)) (r.1 counts) ∙ rest_on m k a n (counted a counts) r ∙ ap (with_steps m) (one_before a n counts)

  -- so many steps of a rank that rests count so many answers
  pub rest_run : (m : Running V) (k : ℕ) (a : Stepped) (n : ℕ) → RestsWith m k a → run_of m (replicate n k) ≡ with_steps m (counted_more a n m.steps)
  rest_run m k a n r = rest_on m k a n m.steps r

  -- an atom that is idle, or none, leaves the shard as it was
  pub idle_makes : (S : ShardRun V) (k step : ℕ) (x : V) (o : Option Atom) (answer : Stepped) → slice_get S.views k ≡ Some x → IsIdle S.table S.held k x o answer →
      (makes S k step x o ≡ S) × (answer_to S.table S.held x o ≡ answer)
  idle_makes S k step x None answer has i = (refl, i)
  idle_makes S k step x (Some at) answer has i =
      let after = S.table.core.after x (do_got at S.held.words S.held.cards) in
      let views : slice_set S.views k after.view ≡ S.views = ap (slice_set S.views k) i.1 ∙ set_same_get S.views k x has in
      let trace : S.trace ++ numbered step after.events ≡ S.trace = ap (λ z. S.trace ++ numbered step z) i.2 ∙ append-nil S.trace in (
        ap (λ z. record { table = S.table; held = z; views = slice_set S.views k after.view; trace = S.trace ++ numbered step after.events }) i.0
            ∙ ap (λ z. record { table = S.table; held = S.held; views = z; trace = S.trace ++ numbered step after.events }) views
            ∙ ap (λ z. record { table = S.table; held = S.held; views = S.views; trace = z }) trace,
        i.3,
      )

  -- a rank that opens no block, and whose atom is idle, or that has none, rests
  pub idle_rests : (m : Running V) (k : ℕ) (S : ShardRun V) (x : V) (answer : Stepped) → slice_get m.shards (place_of m k) ≡ Some S → slice_get S.views k ≡ Some x → opens m k ≡ false →
      IsIdle S.table S.held k x (S.table.core.next x) answer → RestsWith m k answer
  idle_rests m k S x answer has has_view shut idle =
      let told : atom_answer m k ≡ answer =
      ap (on_shard Finished (answer_on k)) has ∙ ap (answer_at S) has_view ∙ (idle_makes S k 0 x (S.table.core.next x) answer has_view idle).1 in
      let shards : (step : ℕ) → changed m.shards (place_of m k) (atom_on k step) ≡ m.shards =
      λ step. ap (changed_if m.shards (place_of m k) (atom_on k step)) has ∙ ap (λ o. slice_set m.shards (place_of m k) (made_at S k step o)) has_view
      ∙ ap (slice_set m.shards (place_of m k)) (idle_makes S k step x (S.table.core.next x) answer has_view idle).0 ∙ set_same_get m.shards (place_of m k) S has in (
        ap (λ b. atom_answer (opened_if m k b) k) shut ∙ told,
        λ counts. ap (λ b. atom_made (opened_if (with_steps m counts) k b) k) shut
            ∙ ap (λ z. record { shards = z; geom = m.geom; calls = m.calls; sizes = m.sizes; opened = m.opened; steps = counted (atom_answer m k) counts }) (shards (steps_made counts))
            ∙ ap (λ a. with_steps m (counted a counts)) told,
      )

-- no block is opened where a call is open, nor where none is left
pub open_shuts : (b left : Bool) → b ≡ true → (not b && left) ≡ false
open_shuts b left e = ap (λ o. not o && left) e

pub done_shuts : (b left : Bool) → left ≡ false → (not b && left) ≡ false
done_shuts true left e = refl
done_shuts false left e = e

-- so many more answers are counted
pub counts_more : (a : Stepped) (n : ℕ) (s : Steps) → steps_made (counted_more a n s) ≡ steps_made s + n
counts_more Moved n s = omega arith
counts_more (Waiting w v) n s = omega arith
counts_more (Lost guess seen) n s = omega arith
counts_more (Busy node holder) n s = omega arith
counts_more Finished n s = omega arith

module _ {C V : Type 0} (says : C → CoreSays V) where
  -- what is true of a machine stays so with more steps counted
  pub good_with : (cores : List C) (acts : List (List Deed)) (m : Running V) (counts : Steps) → steps_made m.steps ≤ steps_made counts →
      MachineGood says cores acts m → MachineGood says cores acts (with_steps m counts)
  good_with cores acts m counts later g =
      record {
        all = g.all;
        all_acts = g.all_acts;
        many = g.many;
        shards = g.shards;
        told = λ s S has. told_more (steps_made m.steps) (steps_made counts) S.trace later (g.told s S has);
        all_opened = g.all_opened;
        few = g.few;
        blocks = g.blocks;
        takes = g.takes;
        stands = g.stands;
        ranks = g.ranks;
      }

  -- the machine that contracts see, with other counts
  abbrev pub machine_steps : TheMachine C V → Steps → TheMachine C V
  machine_steps m counts = record { shards = m.shards; geom = m.geom; calls = m.calls; sizes = m.sizes; opened = m.opened; steps = counts }

  pub machine_with_steps : (m : TheMachine C V) (counts : Steps) → steps_made m.steps ≤ steps_made counts → IsMachine says m → IsMachine says (machine_steps m counts)
  machine_with_steps m counts later is = record { acts = is.acts; is_good = good_with _ is.acts _ counts later is.is_good; fits = is.fits; few = is.few }
