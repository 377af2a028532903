-- In each state of a machine that meets its rules all calls are done, or some rank's step leaves less to do.
use Rattle.std.specs.Prelude.{◌≡◌, ◌⊎◌, ◌↔◌, ℕ, ◌+◌, ◌*◌, ◌<◌, ◌≤◌, Bool, true, false, nat_lt, List, length, slice_get, slice_index, slice_set, sum_by, Option, Some, None, refl}
use Rattle.std.proofs.Common.{sym, ◌∙◌, ap, subst, inl, inr, ⊎_elim, arith}
use Rattle.std.proofs.lemmas.Option.{slice_get_within}
use Rattle.rl_word.specs.laws.Places.{get_set_cases, get_set_same, some_at}
use Rattle.rl_word.specs.declared.acts.Atom.{Atom}
use Rattle.rl_model.specs.declared.call.Call.{Call}
use Rattle.rl_step.specs.declared.events.Stepped.{Stepped}
use Rattle.rl_step.specs.Answers.{counted, steps_made}
use Rattle.rl_step.specs.Lock.{Deed}
use Rattle.rl_core.specs.laws.AskLaws.{inside}
use Rattle.rl_core.specs.ShardTables.{ShardTable, AllShut}
use Rattle.rl_core.specs.ShardLaws.{LawsOf, IsSeated, ShardCoreLaws}
use Rattle.rl_core.specs.Moments.{CoreSays}
use Rattle.rl_machine.specs.Running.{ShardRun, Running, moment_of}
use Rattle.rl_machine.specs.ShardSteps.{opened_at, opened_on, makes, made_at, atom_on, answer_on, open_at, open_on}
use Rattle.rl_machine.specs.Run.{changed, changed_if, on_shard, calls_by, sizes_by, place_of, has_open_call, opens, opened_if, atom_made, stepped, IsAllClosed}
use Rattle.rl_machine.specs.MachineGood.{MachineGood}
use Rattle.rl_machine.specs.laws.MachineLaws.{Found, found_at, laws_of, OpensAt, opens_at, said_by}
use Rattle.rl_machine.specs.laws.MachineSteps.{machine_with, step_is}
use Rattle.rl_machine.specs.laws.RuledLaws.{are_ruled}
use Rattle.rl_machine.specs.laws.RestLaws.{open_shuts}
use Rattle.rl_machine.specs.laws.SoundLaws.{is_sound}
use Rattle.rl_machine.specs.laws.StepCauses.{none_left, shut_done}
use Rattle.rl_ending.specs.laws.Reach.{Nearer}
use Rattle.rl_core.specs.ShardEnding.{LeftOf, EndsOf, ShardEnds, Lessens}
use Rattle.rl_machine.specs.MachineEnding.{AllDone, unopened, shards_left, machine_left}
use Rattle.rl_machine.specs.laws.MachineSums.{shards_turned, is_part, unopened_turned, atom_less, block_less, some_or_none}

-- who has a next atom has a block open
open_by : {X : Type 0} (o : Option X) (x : X) (b : Bool) → (o ≡ None) ↔ (b ≡ false) → o ≡ Some x → b ≡ true
open_by o x true way e = refl
open_by o x false way e = let bad : None ≡ Some x = sym (way.1 refl) ∙ e in cc

module _ {C V : Type 0} (says : C → CoreSays V) (laws : LawsOf says)
    (left : LeftOf C V) (most : C → ℕ) (ends : EndsOf says left most) (cores : List C) where
  abbrev pub left_of : Running V → ℕ
  left_of m = machine_left left most cores m

  -- the laws of its ending, for a shard's table
  ends_of : (core : C) (T : ShardTable V) → T ≡ (says core).table → ShardEnds (said_by (says core) T) (left core) (most core)
  ends_of core T is = subst (λ z. ShardEnds (said_by (says core) z) (left core) (most core)) (sym is) (ends core)

  module _ (acts : List (List Deed)) (m : Running V) (g : MachineGood says cores acts m) where
    abbrev pub FoundAt : ℕ → Type 0
    FoundAt s = Found says laws cores acts m s

    abbrev pub GoesNearer : Type 0
    GoesNearer = Nearer stepped (λ j. j < length m.calls) left_of m

    -- rank r is there, and its step leaves less to do
    pub record Leads (r : ℕ) : Type 0 where
      pub there : r < length m.calls
      pub less : left_of (stepped m r) < left_of m

    so_nearer : (r : ℕ) → Leads r → GoesNearer
    so_nearer r l = record { rank = r; is_there = l.there; less = l.less }

    -- a rank of a shard whose next atom leaves less there: it stands there, and so its step is that atom
    pub atom_leads : (s : ℕ) (f : FoundAt s) (r : ℕ) (v : V) → slice_get f.shard.views r ≡ Some v → Lessens f.shard.table (left f.core) f.shard.held f.shard.views r v → Leads r
    atom_leads s f r v has goes =
        let S : ShardRun V = f.shard in
        let at : Atom = goes.atom in
        let law = laws_of says laws cores f.core S.table f.is.table_is in
        let here : IsSeated (said_by (says f.core) S.table) (moment_of S f.deeds) r v = record { is_good = f.is.is_good; has = has } in
        let in_call : (S.table.own v).is_open ≡ true = open_by (S.table.core.next v) at (S.table.own v).is_open (law.open_is (moment_of S f.deeds) r v here) goes.next in
        let stands : place_of m r ≡ s = (are_ruled says laws cores acts m g).stands s r S v f.has has in_call in
        let low : r < length m.calls = let a = f.is.ranks in let b = slice_get_within S.views r v has in omega arith in
        let at_place : slice_get m.shards (place_of m r) ≡ Some S = ap (slice_get m.shards) stands ∙ f.has in
        let is_in : has_open_call m r ≡ true = ap (on_shard false (open_on r)) at_place ∙ ap (open_at S.table) has ∙ in_call in
        let still : opens m r ≡ false = open_shuts (has_open_call m r) (nat_lt (slice_index m.opened r) (length (calls_by m r))) is_in in
        let step : ℕ = steps_made m.steps in
        let S' : ShardRun V = makes S r step v (Some at) in
        let made : changed m.shards (place_of m r) (atom_on r step) ≡ slice_set m.shards s S' =
        ap (λ p. changed m.shards p (atom_on r step)) stands ∙ ap (changed_if m.shards s (atom_on r step)) f.has
        ∙ ap (λ o. slice_set m.shards s (made_at S r step o)) has ∙ ap (λ o. slice_set m.shards s (makes S r step v o)) goes.next in
        let w : ℕ = sum_by most cores + 1 in
        let u : ℕ = unopened m.calls m.opened in
        let same : left_of (stepped m r) ≡ w * u + shards_left left cores (slice_set m.shards s S') =
        ap (λ b. left_of (atom_made (opened_if m r b) r)) still ∙ ap (λ z. w * u + shards_left left cores z) made in
        record {
          there = low;
          less = subst (λ z. z < left_of m) (sym same)
              (atom_less w u (shards_left left cores m.shards) (shards_left left cores (slice_set m.shards s S')) (left f.core S.held S.views) (left f.core S'.held S'.views)
              (shards_turned left cores m.shards s f.core S S' f.has_core f.has) goes.less);
        }

    -- a call is open somewhere: its shard isn't shut
    pub isnt_shut : (k : ℕ) → k < length m.calls → has_open_call m k ≡ true → (f : FoundAt (place_of m k)) → AllShut f.shard.table f.shard.views → ⊥
    isnt_shut k low in_call f shut =
        let S : ShardRun V = f.shard in
        let x = some_at S.views k (let a = f.is.ranks in omega arith) in
        let is_open : (S.table.own x.0).is_open ≡ true = sym (ap (open_at S.table) x.1) ∙ sym (ap (on_shard false (open_on k)) f.has) ∙ in_call in
        let bad : true ≡ false = sym is_open ∙ shut k x.0 x.1 in cc

    -- so somebody goes on there
    open_goes : (k : ℕ) → k < length m.calls → has_open_call m k ≡ true → GoesNearer
    open_goes k low in_call =
        let s : ℕ = place_of m k in
        let f : FoundAt s = found_at says laws cores acts m s g (g.stands k low) in
        ⊎_elim
        (λ shut. absurd (isnt_shut k low in_call f shut))
        (λ n. so_nearer n.rank (atom_leads s f n.rank n.view n.has n.goes))
        ((ends_of f.core f.shard.table f.is.table_is).somebody (moment_of f.shard f.deeds) f.is.is_good)

    -- none is open, and rank k opens its next block: its shard was shut, so it is this rank whose atom leaves less
    module _ (closed : IsAllClosed m) (k : ℕ) (low : k < length m.calls) (e : opens m k ≡ true) where
      abbrev o : OpensAt says laws cores acts m k
      o = opens_at says laws cores acts m k g low e

      abbrev S : ShardRun V
      S = o.found.shard

      abbrev core : C
      core = o.found.core

      abbrev n : ℕ
      n = slice_index m.opened k

      abbrev block : List Call
      block = o.next.block

      abbrev place : ℕ
      place = o.next.is_block.shard

      -- the rank's view with the block open, and the shard then
      abbrev y : V
      y = S.table.opened block n o.view

      abbrev S1 : ShardRun V
      S1 = opened_at S k block n (Some o.view)

      law : ShardCoreLaws (said_by (says core) S.table)
      law = laws_of says laws cores core S.table o.found.is.table_is

      here : IsSeated (said_by (says core) S.table) (moment_of S o.found.deeds) k o.view
      here = record { is_good = o.found.is.is_good; has = o.has_view }

      shut : AllShut S.table S.views
      shut r v has =
          sym (ap (open_at S.table) has)
          ∙ (is_sound says laws cores acts m g).shut closed place S o.found.has r (slice_get_within S.views r v has)

      adds : left core S1.held S1.views ≤ left core S.held S.views + most core
      adds = (ends_of core S.table o.found.is.table_is).open_adds (moment_of S o.found.deeds) k o.view block n here shut o.fits

      has_y : slice_get S1.views k ≡ Some y
      has_y = get_set_same S.views k o.view y o.has_view

      open_y : (S.table.own y).is_open ≡ true
      open_y = (law.opens_own (moment_of S o.found.deeds) k o.view block n here o.fits).is_open

      good_then : (says core).good (moment_of S1 o.found.deeds)
      good_then = law.open_keeps (moment_of S o.found.deeds) k o.view block n here o.fits

      -- its step: the block, and the atom
      step_leads : Lessens S.table (left core) S1.held S1.views k y → Leads k
      step_leads l =
          let step : ℕ = steps_made m.steps in
          let S2 : ShardRun V = makes S1 k step y (Some l.atom) in
          let made : S2 ≡ atom_on k step (opened_on k block n S) =
          ap (makes S1 k step y) (sym l.next) ∙ ap (made_at S1 k step) (sym has_y) ∙ ap (λ z. atom_on k step (opened_at S k block n z)) (sym o.has_view) in
          let answer : Stepped = answer_on k (opened_on k block n S) in
          let opened : List ℕ = slice_set m.opened k (n + length block) in
          let same : machine_with m (slice_set m.shards place S2) opened (counted answer m.steps) ≡ stepped m k =
          (step_is says laws cores acts m k g low e S2 answer made refl).0 in
          let all = g.all_opened in
          record {
            there = low;
            less = subst (λ z. left_of z < left_of m) same
                (block_less (sum_by most cores) (unopened m.calls m.opened) (unopened m.calls opened) (length block)
                (shards_left left cores m.shards) (shards_left left cores (slice_set m.shards place S2))
                (left core S.held S.views) (left core S1.held S1.views) (left core S2.held S2.views) (most core)
                (unopened_turned m.calls m.opened k (length block) low (omega arith) (inside m.geom (calls_by m k) (sizes_by m k) n o.next))
                o.next.is_block.is_asked.some
                (shards_turned left cores m.shards place core S S2 o.found.has_core o.found.has)
                l.less
                adds
                (is_part most cores place core o.found.has_core));
          }

      -- nobody else has a block open there
      this_rank : (r : ℕ) (v : V) → slice_get S1.views r ≡ Some v → Lessens S.table (left core) S1.held S1.views r v → Lessens S.table (left core) S1.held S1.views k y
      this_rank r v has l =
          let seat_then : IsSeated (said_by (says core) S.table) (moment_of S1 o.found.deeds) r v = record { is_good = good_then; has = has } in
          let in_call : (S.table.own v).is_open ≡ true = open_by (S.table.core.next v) l.atom (S.table.own v).is_open (law.open_is (moment_of S1 o.found.deeds) r v seat_then) l.next in
          ⊎_elim
          (λ q. subst (λ z. Lessens S.table (left core) S1.held S1.views z y) q.0 (subst (λ z. Lessens S.table (left core) S1.held S1.views r z) q.1 l))
          (λ q. let bad : true ≡ false = sym in_call ∙ shut r v q.1 in cc)
          (get_set_cases S.views k r y v has)

      -- so it is its atom that leaves less
      lessens : Lessens S.table (left core) S1.held S1.views k y
      lessens =
          ⊎_elim
          (λ all_shut. let bad : true ≡ false = sym open_y ∙ all_shut k y has_y in cc)
          (λ go. this_rank go.rank go.view go.has go.goes)
          ((ends_of core S.table o.found.is.table_is).somebody (moment_of S1 o.found.deeds) good_then)

      pub next_leads : Leads k
      next_leads = step_leads lessens

    -- no call is open, and none is left
    pub are_done : IsAllClosed m → ((k : ℕ) → k < length m.calls → opens m k ≡ false) → AllDone m
    are_done closed none k low =
        let few : length (calls_by m k) ≤ slice_index m.opened k = none_left (has_open_call m k) (slice_index m.opened k) (length (calls_by m k)) (closed k low) (none k low) in
        let no_more : slice_index m.opened k ≤ length (calls_by m k) = (g.ranks k low).low in
        let all : slice_index m.opened k ≡ length (calls_by m k) = omega arith in
        ((closed k low, few), shut_done says laws cores acts m k g low (closed k low) ∙ all)

    pub machine_goes : AllDone m ⊎ Nearer stepped (λ j. j < length m.calls) (machine_left left most cores) m
    machine_goes =
        ⊎_elim
        (λ is_in. inr (open_goes is_in.0 is_in.1 is_in.2))
        (λ closed. ⊎_elim (λ q. inr (so_nearer q.0 (next_leads closed q.0 q.1 q.2))) (λ none. inl (are_done closed none)) (some_or_none (opens m) (length m.calls)))
        (some_or_none (has_open_call m) (length m.calls))
