-- One shard changed, and what is counted with it, is one step of a machine.
use Rattle.std.specs.Prelude.{◌≡◌, ℕ, ◌+◌, ◌<◌, true, List, length, slice_get, slice_index, slice_set, Some}
use Rattle.std.proofs.Common.{sym, ◌∙◌, ap, arith, get_or-set_same}
use Rattle.std.proofs.lemmas.List.{set-set}
use Rattle.rl_word.specs.laws.Places.{get_set_same}
use Rattle.rl_model.specs.declared.call.Call.{Call}
use Rattle.rl_step.specs.declared.events.Stepped.{Stepped}
use Rattle.rl_step.specs.declared.events.Stepped.TheVariants.{Finished}
use Rattle.rl_step.specs.declared.tallies.Steps.{Steps}
use Rattle.rl_step.specs.Answers.{counted, steps_made}
use Rattle.rl_step.specs.Lock.{Deed}
use Rattle.rl_core.specs.ShardLaws.{LawsOf}
use Rattle.rl_core.specs.Moments.{CoreSays}
use Rattle.rl_machine.specs.Running.{ShardRun, Running}
use Rattle.rl_machine.specs.ShardSteps.{opened_on, atom_on, answer_on}
use Rattle.rl_core.specs.Asks.{block_shard, place_after}
use Rattle.rl_core.specs.laws.AskLaws.{block_is, block_at, stands_at}
use Rattle.rl_machine.specs.Run.{changed, changed_if, on_shard, calls_by, sizes_by, place_of, opens, opened_if, block_opened, atom_made, atom_answer, stepped, answer_of_step}
use Rattle.rl_machine.specs.MachineGood.{MachineGood}
use Rattle.rl_machine.specs.laws.MachineLaws.{OpensAt, opens_at}

-- a machine with other shards, calls opened and answers counted
abbrev pub machine_with : {V : Type 0} → Running V → List (ShardRun V) → List ℕ → Steps → Running V
machine_with m shards opened steps = record { shards = shards; geom = m.geom; calls = m.calls; sizes = m.sizes; opened = opened; steps = steps }

-- the atom was made on the shard where the rank stands
pub atom_is : {V : Type 0} (m : Running V) (k : ℕ) (S S' : ShardRun V) (answer : Stepped) → slice_get m.shards (place_of m k) ≡ Some S →
    S' ≡ atom_on k (steps_made m.steps) S → answer ≡ answer_on k S →
    (machine_with m (slice_set m.shards (place_of m k) S') m.opened (counted answer m.steps) ≡ atom_made m k) × (answer ≡ atom_answer m k)
atom_is m k S S' answer has made is =
    let s : ℕ = place_of m k in
    let told : answer ≡ atom_answer m k = is ∙ sym (ap (on_shard Finished (answer_on k)) has) in
    let now : slice_set m.shards s S' ≡ changed m.shards s (atom_on k (steps_made m.steps)) = ap (slice_set m.shards s) made
    ∙ sym (ap (changed_if m.shards s (atom_on k (steps_made m.steps))) has) in (
      ap (λ l. machine_with m l m.opened (counted answer m.steps)) now ∙ ap (λ a. machine_with m (changed m.shards s (atom_on k (steps_made m.steps))) m.opened (counted a m.steps)) told,
      told,
    )

module _ {C V : Type 0} (says : C → CoreSays V) (laws : LawsOf says) (cores : List C)
    (acts : List (List Deed)) (m : Running V) (k : ℕ) (g : MachineGood says cores acts m) (h : k < length m.calls) (e : opens m k ≡ true) where
  abbrev o : OpensAt says laws cores acts m k
  o = opens_at says laws cores acts m k g h e

  abbrev n : ℕ
  n = slice_index m.opened k

  abbrev block : List Call
  block = o.next.block

  abbrev place : ℕ
  place = o.next.is_block.shard

  -- the machine with the block opened
  opened_is : block_opened m k ≡ machine_with m (slice_set m.shards place (opened_on k block n o.found.shard)) (slice_set m.opened k (n + length block)) m.steps
  opened_is =
      ap (opened_if m k) e
      ∙ ap (λ b. machine_with m (changed m.shards (block_shard m.geom b) (opened_on k b n)) (slice_set m.opened k (n + length b)) m.steps) (block_is m.geom (calls_by m k) (sizes_by m k) n o.next)
      ∙ ap (λ s. machine_with m (changed m.shards s (opened_on k block n)) (slice_set m.opened k (n + length block)) m.steps) (block_at m.geom (calls_by m k) (sizes_by m k) n o.next)
      ∙ ap (λ z. machine_with m (changed_if m.shards place (opened_on k block n) z) (slice_set m.opened k (n + length block)) m.steps) o.found.has

  -- the block was opened, and the atom made, on the shard of its calls
  pub step_is : (S' : ShardRun V) (answer : Stepped) → S' ≡ atom_on k (steps_made m.steps) (opened_on k block n o.found.shard) → answer ≡ answer_on k (opened_on k block n o.found.shard) →
      (machine_with m (slice_set m.shards place S') (slice_set m.opened k (n + length block)) (counted answer m.steps) ≡ stepped m k) × (answer ≡ answer_of_step m k)
  step_is S' answer made is =
      let S1 : ShardRun V = opened_on k block n o.found.shard in
      let m1 : Running V = machine_with m (slice_set m.shards place S1) (slice_set m.opened k (n + length block)) m.steps in
      let at_k : slice_index (slice_set m.opened k (n + length block)) k ≡ n + length block = get_or-set_same m.opened k (n + length block) 0 (let a = g.all_opened in omega arith) in
      let stands : place_of m1 k ≡ place = ap (λ i. place_after m.geom (calls_by m k) i) at_k ∙ stands_at m.geom (calls_by m k) (sizes_by m k) n o.next in
      let has : slice_get m1.shards (place_of m1 k) ≡ Some S1 = ap (slice_get m1.shards) stands ∙ get_set_same m.shards place o.found.shard S1 o.found.has in
      let a = atom_is m1 k S1 S' answer has made is in
      let twice : slice_set m1.shards (place_of m1 k) S' ≡ slice_set m.shards place S' = ap (λ s. slice_set m1.shards s S') stands ∙ set-set m.shards place S1 S' in (
        ap (λ l. machine_with m l (slice_set m.opened k (n + length block)) (counted answer m.steps)) (sym twice) ∙ a.0 ∙ ap (λ z. atom_made z k) (sym opened_is),
        a.1 ∙ ap (λ z. atom_answer z k) (sym opened_is),
      )
