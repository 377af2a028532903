-- A rank whose block is open on a shard stands there, and opens no other.
use Rattle.std.specs.Prelude.{◌≡◌, ◌≢◌, ℕ, ◌<◌, true, false, nat_lt, length, slice_get, slice_index, Some}
use Rattle.std.proofs.Common.{sym, ◌∙◌, ap, ⊎_elim}
use Rattle.rl_word.specs.laws.Places.{get_map, same_or_not}
use Rattle.rl_core.specs.ShardLaws.{LawsOf}
use Rattle.rl_core.specs.Moments.{CoreSays}
use Rattle.rl_machine.specs.declared.shard.ShardState.{ShardState}
use Rattle.rl_machine.specs.declared.state.MachineState.{MachineState}
use Rattle.rl_machine.specs.Running.{ShardRun, Running, moment_of}
use Rattle.rl_machine.specs.ShardSteps.{desk_at, desk_on, open_at, open_on}
use Rattle.rl_machine.specs.Run.{desks_by, on_shard, calls_by, place_of, has_open_call, opens}
use Rattle.rl_machine.specs.laws.RestLaws.{open_shuts}
use Rattle.rl_machine.specs.MachineGood.{IsMachine}
use Rattle.rl_machine.specs.State.{machine_view, IsGood, running_shard, running_machine}

module _ {C V : Type 0} (says : C → CoreSays V) (laws : LawsOf says)
    (m : MachineState C V) (is : IsMachine says (machine_view m)) (k s : ℕ) (low : k < length m.ops.by_rank) (item : ShardState C V) (x : V)
    (has : slice_get (running_machine says m).shards s ≡ Some (running_shard says item)) (is_good : IsGood says item)
    (seen : slice_get item.flat.views.items k ≡ Some x) (in_call : ((says item.core).table.own x).is_open ≡ true) where
  abbrev run : Running V
  run = running_machine says m

  abbrev S : ShardRun V
  S = running_shard says item

  pub open_stands : place_of run k ≡ s
  open_stands =
      let desk : slice_get (desks_by run k) s ≡ Some ((says item.core).table.desk item.flat.words.words k x) =
      get_map (desk_on k) run.shards s S has ∙ ap (λ o. Some (desk_at (says item.core).table item.flat.words.words k o)) seen in
      let knows = (laws item.core).knows_open (moment_of S is_good.acts) k x (record { is_good = is_good.is_good; has = seen }) in
      ⊎_elim
      (λ (q : s ≡ place_of run k). sym q)
      (λ (ne : s ≢ place_of run k). let bad : true ≡ false = sym in_call ∙ sym knows ∙ ((is.is_good.ranks k low).on s ((says item.core).table.desk item.flat.words.words k x) desk).elsewhere ne in cc)
      (same_or_not s (place_of run k))

  -- and opens no block
  pub open_opens : opens run k ≡ false
  open_opens =
      let at_place : slice_get run.shards (place_of run k) ≡ Some S = ap (slice_get run.shards) open_stands ∙ has in
      let is_in : has_open_call run k ≡ true = ap (on_shard false (open_on k)) at_place ∙ ap (open_at (says item.core).table) seen ∙ in_call in
      open_shuts (has_open_call run k) (nat_lt (slice_index run.opened k) (length (calls_by run k))) is_in
