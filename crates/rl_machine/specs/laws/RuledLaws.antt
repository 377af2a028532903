-- What is true of a machine at every moment says that it is under the rules of its cores.
use Rattle.std.specs.Prelude.{◌≡◌, ◌≢◌, ℕ, ◌<◌, true, List, length, slice_get, Some}
use Rattle.std.proofs.Common.{sym, ◌∙◌, ap, ⊎_elim, arith}
use Rattle.std.proofs.lemmas.Option.{slice_get_within}
use Rattle.rl_word.specs.laws.Places.{get_map, same_or_not}
use Rattle.rl_step.specs.Lock.{Deed}
use Rattle.rl_core.specs.ShardLaws.{LawsOf}
use Rattle.rl_core.specs.Moments.{CoreSays}
use Rattle.rl_machine.specs.Running.{ShardRun, Running, moment_of}
use Rattle.rl_machine.specs.ShardSteps.{desk_at, desk_on}
use Rattle.rl_machine.specs.Run.{desks_by, place_of}
use Rattle.rl_machine.specs.MachineGood.{MachineGood}
use Rattle.rl_machine.specs.laws.MachineLaws.{found_at, laws_of}
use Rattle.rl_machine.specs.Ruled.{IsRuled, AreRuled}

module _ {C V : Type 0} (says : C → CoreSays V) (laws : LawsOf says) (cores : List C)
    (acts : List (List Deed)) (m : Running V) (g : MachineGood says cores acts m) where
  shard_ruled : (s : ℕ) (S : ShardRun V) → slice_get m.shards s ≡ Some S → IsRuled says cores m s S
  shard_ruled s S has =
      let f = found_at says laws cores acts m s g (slice_get_within m.shards s S has) in
      record { core = f.core; acts = f.deeds; has_core = f.has_core; is = g.shards s S f.core f.deeds has f.has_core f.has_acts }

  open_stands : (s k : ℕ) (S : ShardRun V) (x : V) → slice_get m.shards s ≡ Some S → slice_get S.views k ≡ Some x → (S.table.own x).is_open ≡ true → place_of m k ≡ s
  open_stands s k S x has view in_call =
      let q = shard_ruled s S has in
      let low : k < length m.calls = let a = q.is.ranks in let b = slice_get_within S.views k x view in omega arith in
      let desk : slice_get (desks_by m k) s ≡ Some (S.table.desk S.held.words k x) = get_map (desk_on k) m.shards s S has ∙ ap (λ o. Some (desk_at S.table S.held.words k o)) view in
      let knows = (laws_of says laws cores q.core S.table q.is.table_is).knows_open (moment_of S q.acts) k x
      (record { is_good = q.is.is_good; has = view }) in
      ⊎_elim
      (λ (e : s ≡ place_of m k). sym e)
      (λ (ne : s ≢ place_of m k). let shut = ((g.ranks k low).on s (S.table.desk S.held.words k x) desk).elsewhere ne in absurd (cc))
      (same_or_not s (place_of m k))

  pub are_ruled : AreRuled says cores m
  are_ruled = record { shards = shard_ruled; stands = open_stands }
