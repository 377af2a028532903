-- Who goes next leaves less to do, and where nobody does all calls are done.
use Rattle.std.specs.Prelude.{◌≡◌, ℕ, ◌<◌, ◌≤◌, ◌^◌, Bool, true, false, not, ◌&&◌, nat_lt, List, length, slice_get, slice_index, Option, Some, None, IfSome, refl}
use Rattle.std.proofs.Common.{sym, ◌∙◌, subst, ⊎_elim, arith}
use Rattle.std.proofs.lemmas.Option.{same_Some}
use Rattle.std.proofs.lemmas.Bool.Decides.{nat_tests}
use Rattle.rl_word.specs.laws.Places.{some_at}
use Rattle.rl_step.specs.Lock.{Deed}
use Rattle.rl_ending.specs.Guiding.{IsChosen, NoneUrgent}
use Rattle.rl_core.specs.ShardTables.{ShardTable}
use Rattle.rl_core.specs.ShardLaws.{LawsOf}
use Rattle.rl_core.specs.ShardEnding.{LeftOf, EndsOf}
use Rattle.rl_core.specs.ShardGuiding.{UrgentOf, GuidesOf, ShardGuides}
use Rattle.rl_core.specs.Moments.{CoreSays}
use Rattle.rl_machine.specs.declared.state.MachineState.{MachineState}
use Rattle.rl_machine.specs.Running.{ShardRun, Running, moment_of}
use Rattle.rl_machine.specs.Run.{place_of, has_open_call, opens, calls_by, IsAllClosed}
use Rattle.rl_machine.specs.MachineGood.{IsMachine, MachineGood}
use Rattle.rl_machine.specs.State.{machine_view}
use Rattle.rl_machine.specs.laws.MachineLaws.{found_at, said_by}
use Rattle.rl_machine.specs.laws.StateLaws.{is_there, many}
use Rattle.rl_machine.specs.laws.JournalAt.{few_ranks}
use Rattle.rl_machine.specs.MachineEnding.{AllDone}
use Rattle.rl_machine.specs.laws.MachineGoes.{Leads, atom_leads, isnt_shut, next_leads, are_done}
use Rattle.rl_machine.specs.GoesNext.{NoneHas, GoesOnOpen, GoesToOpen, GoesNext}

-- who opens a block has a call left
has_left : (b : Bool) (n all : ℕ) → (not b && nat_lt n all) ≡ true → all ≤ n → ⊥
has_left true n all e few = cc
has_left false n all e few = let less : n < all = grind (arith, nat_tests) in omega arith

-- where all calls are done nobody goes next
pub over_none : {C V : Type 0} (urgent : UrgentOf C V) (cores : List C) (m : Running V) (r : ℕ) → AllDone m → GoesNext urgent cores m r → ⊥
over_none urgent cores m r done next =
    ⊎_elim
    (λ o. let bad : true ≡ false = sym o.in_call.has ∙ (done o.rank o.in_call.there).0.0 in cc)
    (λ opening. has_left (has_open_call m r) (slice_index m.opened r) (length (calls_by m r)) opening.first.has (done r opening.first.there).0.1)
    next

pub is_over : {C V : Type 0} (urgent : UrgentOf C V) (cores : List C) (m : Running V) (who : Option ℕ) → IfSome who (GoesNext urgent cores m) → AllDone m → who ≡ None
is_over urgent cores m None next done = refl
is_over urgent cores m (Some r) next done = absurd (over_none urgent cores m r done next)

module _ {C V : Type 0} (says : C → CoreSays V) (laws : LawsOf says) where
  -- there are few ranks
  pub ranks_fit : (m : MachineState C V) → IsMachine says (machine_view m) → length m.ops.by_rank < 2 ^ 32
  ranks_fit m is =
      let some = is.fits.some_shards in
      let all = many says m is in
      let item = some_at m.shards.items 0 (omega arith) in
      let there = is_there says m is 0 item.0 item.1 in
      let few = few_ranks says laws item.0 there.is_good in
      let same = there.ranks in
      omega arith

  module _ (left : LeftOf C V) (most : C → ℕ) (ends : EndsOf says left most) (urgent : UrgentOf C V) (guides : GuidesOf says left urgent)
      (cores : List C) (acts : List (List Deed)) (m : Running V) (g : MachineGood says cores acts m) where
    abbrev pub Leading : ℕ → Type 0
    Leading r = Leads says laws left most ends cores acts m g r

    guides_of : (core : C) (T : ShardTable V) → T ≡ (says core).table → ShardGuides (said_by (says core) T) (left core) (urgent core)
    guides_of core T is = subst (λ z. ShardGuides (said_by (says core) z) (left core) (urgent core)) (sym is) (guides core)

    on_open : (r : ℕ) → GoesOnOpen urgent cores m r → Leading r
    on_open r o =
        let s : ℕ = place_of m o.rank in
        let f = found_at says laws cores acts m s g (g.stands o.rank o.in_call.there) in
        let by_core : IsChosen (urgent f.core o.chosen.state.held.words) o.chosen.state.views r =
        subst (λ c. IsChosen (urgent c o.chosen.state.held.words) o.chosen.state.views r) (same_Some _ _ (sym o.chosen.has_core ∙ f.has_core)) o.chosen.chosen in
        let chosen : IsChosen (urgent f.core f.shard.held.words) f.shard.views r =
        subst (λ (z : ShardRun V). IsChosen (urgent f.core z.held.words) z.views r) (same_Some _ _ (sym o.chosen.has ∙ f.has)) by_core in
        let goes = (guides_of f.core f.shard.table f.is.table_is).goes (moment_of f.shard f.deeds) r chosen.view (record { is_good = f.is.is_good; has = chosen.has }) chosen in
        atom_leads says laws left most ends cores acts m g s f r chosen.view chosen.has goes

    to_open : (r : ℕ) → GoesToOpen urgent cores m r → Leading r
    to_open r o = next_leads says laws left most ends cores acts m g o.closed r o.first.there o.first.has

    pub leads : (r : ℕ) → GoesNext urgent cores m r → Leading r
    leads r next = ⊎_elim (λ o. on_open r o) (λ o. to_open r o) next

    -- where a call is open somebody is chosen
    pub some_chosen : (k : ℕ) (core : C) (S : ShardRun V) → k < length m.calls → has_open_call m k ≡ true →
        slice_get cores (place_of m k) ≡ Some core → slice_get m.shards (place_of m k) ≡ Some S → NoneUrgent (urgent core S.held.words) S.views → ⊥
    some_chosen k core S low in_call has_core has none =
        let f = found_at says laws cores acts m (place_of m k) g (g.stands k low) in
        let by_core : NoneUrgent (urgent f.core S.held.words) S.views = subst (λ c. NoneUrgent (urgent c S.held.words) S.views) (same_Some _ _ (sym has_core ∙ f.has_core)) none in
        let nobody : NoneUrgent (urgent f.core f.shard.held.words) f.shard.views =
        subst (λ (z : ShardRun V). NoneUrgent (urgent f.core z.held.words) z.views) (same_Some _ _ (sym has ∙ f.has)) by_core in
        isnt_shut says laws left most ends cores acts m g k low in_call f
        ((guides_of f.core f.shard.table f.is.table_is).rest (moment_of f.shard f.deeds) f.is.is_good nobody)

    pub none_left : IsAllClosed m → NoneHas (opens m) (length m.calls) → AllDone m
    none_left closed none = are_done says laws left most ends cores acts m g closed none
