-- A rank that is seen to wait, by its view on a shard and that shard's window, stands there, and rests or goes in a round.
use Rattle.std.specs.Prelude.{◌≡◌, ℕ, ◌<◌, true, length, slice_get, Some}
use Rattle.std.proofs.Common.{subst}
use Rattle.rl_step.specs.declared.events.Stepped.{Stepped}
use Rattle.rl_step.specs.Do.{TheWindow}
use Rattle.rl_core.specs.declared.round.Round.{Round}
use Rattle.rl_core.specs.Idle.{IdleWhile, IsNamed}
use Rattle.rl_core.specs.Rounds.{IsRound}
use Rattle.rl_core.specs.ShardLaws.{LawsOf}
use Rattle.rl_core.specs.Moments.{CoreSays}
use Rattle.rl_machine.specs.declared.shard.ShardState.{ShardState}
use Rattle.rl_machine.specs.declared.state.MachineState.{MachineState}
use Rattle.rl_machine.specs.Rested.{RestsAt, IsInRound}
use Rattle.rl_machine.specs.laws.Stands.{open_stands}
use Rattle.rl_machine.specs.MachineGood.{IsMachine}
use Rattle.rl_machine.specs.State.{machine_view, IsGood, running_shard, running_machine}

module _ {C V : Type 0} (says : C → CoreSays V) (laws : LawsOf says)
    (m : MachineState C V) (is : IsMachine says (machine_view m)) (k s : ℕ) (low : k < length m.ops.by_rank) (item : ShardState C V) (x : V)
    (has : slice_get (running_machine says m).shards s ≡ Some (running_shard says item)) (is_good : IsGood says item)
    (seen : slice_get item.flat.views.items k ≡ Some x) (h : TheWindow) (same : h ≡ item.flat.words) where
  pub seen_rests : (a : Stepped) → ((says item.core).table.own x).is_open ≡ true → IsNamed h a →
      ((j : ℕ) → IdleWhile (says item.core).table j x a) → RestsAt (running_machine says m) k s a
  seen_rests a in_call named idle =
      record {
        shard = running_shard says item;
        view = x;
        stands = open_stands says laws m is k s low item x has is_good seen in_call;
        has = has;
        seen = seen;
        in_call = in_call;
        named = subst (λ w. IsNamed w a) same named;
        idle = idle k;
      }

  pub seen_goes : {Sight : Type 0} (seeing : V → Sight → V) (round : Round Sight) →
      ((j : ℕ) → IsRound (says item.core).table seeing (length h.words) j x round) → IsInRound seeing (running_machine says m) k s round
  seen_goes seeing round goes =
      record {
        shard = running_shard says item;
        view = x;
        stands = open_stands says laws m is k s low item x has is_good seen (goes k).in_call;
        has = has;
        seen = seen;
        is_round = subst (λ w. IsRound (says item.core).table seeing (length w.words) k x round) same (goes k);
      }
