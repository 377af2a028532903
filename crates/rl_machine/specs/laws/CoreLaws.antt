-- The cores of a machine that was just made, and what their locks say further of every run.
use Rattle.std.specs.Prelude.{◌≡◌, ℕ, zero, suc, ◌+◌, ◌≤◌, ◌<◌, List, [], ◌∷◌, ◌++◌, length, replicate, slice_get, get_or, Some, refl}
use Rattle.std.specs.List.{AllByRecursion}
use Rattle.std.proofs.Common.{sym, ◌∙◌, ap, subst, ⊎_elim, arith}
use Rattle.std.proofs.lemmas.List.{length-map}
use Rattle.std.proofs.lemmas.Option.{slice_get_within, get_or_from_slice_get}
use Rattle.rl_word.specs.Acts.{Layout}
use Rattle.rl_word.specs.laws.Places.{get_map, get_map_back, one_at}
use Rattle.rl_model.specs.declared.call.Call.{Call}
use Rattle.rl_model.specs.declared.geom.Geom.{Geom}
use Rattle.rl_model.specs.Geom.{GeomFits}
use Rattle.rl_journal.specs.laws.Lists.{get_more_cases}
use Rattle.rl_step.specs.declared.events.Event.{Event}
use Rattle.rl_step.specs.Queues.{QueueOf}
use Rattle.rl_step.specs.QueuePromises.{KeepQueues, CountTenures}
use Rattle.rl_step.specs.Lock.{Deed}
use Rattle.rl_step.specs.Transitions.{Transition}
use Rattle.rl_step.specs.Batches.{AreShown, HandsOn}
use Rattle.rl_ops.specs.Ops.{total_calls}
use Rattle.rl_site.specs.Site.{Site}
use Rattle.rl_core.specs.ShardTables.{ShardTable}
use Rattle.rl_core.specs.ShardLaws.{LawsOf}
use Rattle.rl_core.specs.Moments.{CoreSays}
use Rattle.rl_machine.specs.Running.{ShardRun, Running, TheShard, TheMachine, shard_run, running, cores_of, moment_of}
use Rattle.rl_step.specs.Traces.{events_of}
use Rattle.rl_machine.specs.Start.{site_of, start}
use Rattle.rl_machine.specs.laws.StartLaws.{shard_first, shards_length, MayStart, AreCores, start_good}
use Rattle.rl_machine.specs.Run.{on_shard, run_of, trace_of, AreThere}
use Rattle.rl_machine.specs.RunTransitions.{transitions_on, SaysOn}
use Rattle.rl_machine.specs.laws.RunActs.{run_acts}
use Rattle.rl_machine.specs.MachineGood.{MachineGood, IsMachine}
use Rattle.rl_machine.specs.Promises.{IsSound, KeepsQueues}
use Rattle.rl_machine.specs.laws.SoundLaws.{is_sound}
use Rattle.rl_machine.specs.laws.MachineLaws.{Found, found_at, laws_of, run_good}
use Rattle.rl_machine.specs.laws.TransitionLaws.{run_shown}
use Rattle.rl_machine.specs.Cores.{EachCore, EachSits}

-- one core more
pub core_more : {C : Type 0} (P : ℕ → C → Type 0) (homes : List ℕ) (cores : List C) (home : ℕ) (core : C) → EachCore P homes cores →
    slice_get homes (length cores) ≡ Some home → P home core → EachCore P homes (cores ++ core ∷ [])
core_more P homes cores home core each at is =
    λ s h c getH getC. ⊎_elim
    (λ q. each s h c getH q.1)
    (λ q. subst (λ z. P z c) (one_at homes s home h (ap (slice_get homes) q.0 ∙ at) getH) (subst (P home) q.1 is))
    (get_more_cases cores core s c getC)

-- before the first act there is none on any shard
nothing_at : (n s : ℕ) → get_or {A = List Deed} (replicate n []) s [] ≡ []
nothing_at zero s = refl
nothing_at (suc n) zero = refl
nothing_at (suc n) (suc s) = nothing_at n s

-- a home of the list
pub home_there : (P : ℕ → Type 0) (homes : List ℕ) (i d : ℕ) → AllByRecursion P homes → i < length homes → P (get_or homes i d)
home_there P [] i d all h = absurd (omega arith)
home_there P (home ∷ homes) zero d all h = all.0
home_there P (home ∷ homes) (suc i) d all h = home_there P homes i d all.1 (omega arith)

-- a machine that was just made: it is the start, and by each of its cores the ranks sit so
module _ {C V : Type 0} (says : C → CoreSays V) (laws : LawsOf says) (tables : ℕ → Site → ShardTable V) (is : Layout) (geom : Geom) (homes : List ℕ)
    (calls : List (List Call)) (sizes : List (List ℕ)) (may : MayStart tables is geom homes calls sizes)
    (m : TheMachine C V) (made : running says m ≡ start tables is.nodes geom homes calls sizes) (sits : EachSits says is homes (cores_of m)) where
  abbrev first : Running V
  first = start tables is.nodes geom homes calls sizes

  abbrev cores : List C
  cores = cores_of m

  are_cores : AreCores says tables is geom homes calls cores
  are_cores =
      λ s home core getH getC.
      let at = get_map_back (λ (x : TheShard C V). x.core) m.shards s core getC in
      let S : ShardRun V = shard_run says at.0 in
      let has : slice_get first.shards s ≡ Some S = ap (λ (z : Running V). slice_get z.shards s) (sym made) ∙ get_map (shard_run says) m.shards s at.0 at.1 in
      let q = shard_first tables is.nodes geom calls 0 homes s S has in
      let same : q.0 ≡ home = one_at homes s q.0 home q.1 getH in
      let nth : 0 + s ≡ s = omega arith in (
        ap (λ c. (says c).table) (sym at.2) ∙ ap (λ (z : ShardRun V). z.table) q.2 ∙ ap (λ n. tables q.0 (site_of geom calls n)) nth ∙ ap (λ h. tables h (site_of geom calls s)) same,
        sits s home core getH getC,
      )

  all_cores : length cores ≡ length homes
  all_cores =
      length-map m.shards (λ (x : TheShard C V). x.core) ∙ sym (length-map m.shards (shard_run says)) ∙ ap (λ (z : Running V). length z.shards) made
      ∙ shards_length tables is.nodes geom calls 0 homes

  -- all is true of the start
  begins : MachineGood says cores (replicate (length cores) []) first
  begins = start_good says laws tables is geom homes calls sizes may cores are_cores all_cores

  -- so it keeps all that is true of a machine
  pub is_machine : total_calls calls ≤ 20000 → IsMachine says m
  is_machine few =
      record {
        acts = replicate (length cores) [];
        is_good = subst (MachineGood says cores (replicate (length cores) [])) (sym made) begins;
        fits = subst GeomFits (sym (ap (λ (z : Running V). z.geom) made)) may.fits;
        few = subst (λ c. total_calls c ≤ 20000) (sym (ap (λ (z : Running V). z.calls) made)) few;
      }

  -- every run from the start, on each shard
  module _ (ks : List ℕ) (there : AreThere (length calls) ks) (s home : ℕ) (getH : slice_get homes s ≡ Some home) where
    abbrev acts : List (List Deed)
    acts = run_acts (replicate (length cores) []) first ks

    after_good : MachineGood says cores acts (run_of first ks)
    after_good = run_good says laws cores (replicate (length cores) []) first ks begins there

    found : Found says laws cores acts (run_of first ks) s
    found = found_at says laws cores acts (run_of first ks) s after_good (let a = after_good.all in let b = all_cores in let h = slice_get_within homes s home getH in omega arith)

    trace_is : trace_of (run_of first ks) s ≡ found.shard.trace
    trace_is = ap (on_shard [] (λ (S : ShardRun V). S.trace)) found.has

    -- the atoms show the acts
    shown : AreShown found.deeds (transitions_on first ks s)
    shown =
        let none : get_or (replicate (length cores) []) s [] ≡ [] = nothing_at (length cores) s in
        subst (λ ds. AreShown ds (transitions_on first ks s)) (get_or_from_slice_get acts s found.deeds [] found.has_acts)
        (run_shown says laws cores (replicate (length cores) []) first ks s [] begins there (subst (λ ds. AreShown ds []) (sym none) AreShown.none))

  -- what the locks promise holds of it
  pub says_on : (promised : ℕ → List Event → List Transition → Type 0) → EachCore (λ home core. HandsOn (says core).further (promised home)) homes cores →
      (ks : List ℕ) → AreThere (length calls) ks → (s home : ℕ) → slice_get homes s ≡ Some home → SaysOn (promised home) (running says m) ks s
  says_on promised hands ks there s home getH =
      let f = found ks there s home getH in
      let lawful = laws_of says laws cores f.core f.shard.table f.is.table_is in
      let said : (says f.core).further (events_of f.shard.trace) f.deeds = lawful.says (moment_of f.shard f.deeds) f.is.is_good in
      subst (λ z. SaysOn (promised home) z ks s) (sym made)
      (subst (λ t. promised home (events_of t) (transitions_on first ks s)) (sym (trace_is ks there s home getH))
      (hands s home f.core getH f.has_core (events_of f.shard.trace) f.deeds (transitions_on first ks s) (shown ks there s home getH) said))

  -- and so do the queues that the locks have by their kind
  pub queues_on : (queues : ℕ → List QueueOf) → ((home : ℕ) (site : Site) → (tables home site).queues ≡ queues home) →
      (ks : List ℕ) → AreThere (length calls) ks → (s home : ℕ) → slice_get homes s ≡ Some home → KeepsQueues (queues home) (run_of (running says m) ks) s
  queues_on queues same ks there s home getH =
      let f = found ks there s home getH in
      let trace = sym (trace_is ks there s home getH) in
      let sound : IsSound (run_of first ks) = is_sound says laws cores _ _ (after_good ks there s home getH) in
      let own : f.shard.table.queues ≡ queues home = ap (λ (z : ShardTable V). z.queues) (f.is.table_is ∙ (are_cores s home f.core getH f.has_core).0) ∙ same home (site_of geom calls s) in
      subst (λ z. KeepsQueues (queues home) (run_of z ks) s) (sym made)
      (record {
        keep = subst (λ t. KeepQueues (queues home) (events_of t)) trace (subst (λ q. KeepQueues q (events_of f.shard.trace)) own (sound.shards s f.shard f.has).queues);
        count = λ shut. subst (λ t. CountTenures (queues home) (events_of t)) trace
            (subst (λ q. CountTenures q (events_of f.shard.trace)) own (sound.counted s f.shard f.has (shut f.shard f.has)));
      })
