-- The atoms of a run on a shard show the acts that it decides there, for every core.
use Rattle.std.specs.Prelude.{◌≡◌, ℕ, ◌<◌, List, [], ◌∷◌, ◌++◌, if◌then◌else◌, length, get_or, slice_get, slice_set, Option, Some, None, refl}
use Rattle.std.proofs.Common.{sym, ◌∙◌, ap, subst, ⊎_elim, arith, append_assoc, get_or-set_same, get_or-set_other}
use Rattle.std.proofs.lemmas.List.{append-nil}
use Rattle.std.proofs.lemmas.Option.{get_or_from_slice_get, slice_get_within}
use Rattle.std.proofs.lemmas.Bool.Decides.{eqb_tells}
use Rattle.rl_word.specs.laws.Places.{some_at}
use Rattle.rl_word.specs.declared.acts.Atom.{Atom}
use Rattle.rl_step.specs.Lock.{Deed}
use Rattle.rl_step.specs.Transitions.{Transition}
use Rattle.rl_step.specs.Batches.{AreShown}
use Rattle.rl_step.specs.laws.BatchLaws.{shown_next}
use Rattle.rl_core.specs.ShardTables.{transition_by}
use Rattle.rl_core.specs.ShardLaws.{LawsOf}
use Rattle.rl_core.specs.Moments.{CoreSays}
use Rattle.rl_machine.specs.Running.{ShardRun, Running, moment_of}
use Rattle.rl_machine.specs.ShardSteps.{deeds_to, deeds_at, deeds_on, transition_of, transitions_at, transitions_by}
use Rattle.rl_machine.specs.Run.{on_shard, place_of, opens, block_opened, stepped, AreThere}
use Rattle.rl_machine.specs.laws.RunActs.{acts_with, atom_acts, step_acts, run_acts}
use Rattle.rl_machine.specs.RunTransitions.{atom_there, step_there, transitions_on}
use Rattle.rl_machine.specs.MachineGood.{MachineGood}
use Rattle.rl_machine.specs.laws.MachineLaws.{Found, found_at, laws_of, block_good, opened_calls, stepped_good, stepped_calls}

module _ {C V : Type 0} (says : C → CoreSays V) (laws : LawsOf says) (cores : List C) where
  abbrev Fine : List (List Deed) → Running V → Type 0
  Fine acts m = MachineGood says cores acts m

  module _ (acts : List (List Deed)) (m : Running V) (k s : ℕ) (ts : List Transition) (g : Fine acts m) (h : k < length m.calls) (shown : AreShown (get_or acts s []) ts) where
    abbrev place : ℕ
    place = place_of m k

    -- an atom on the shard, or none, where the rank stands
    made_shown : (f : Found says laws cores acts m place) (x : V) → slice_get f.shard.views k ≡ Some x → AreShown f.deeds ts → (o : Option Atom) → f.shard.table.core.next x ≡ o →
        AreShown (f.deeds ++ deeds_to f.shard x o) (ts ++ transition_of f.shard x o)
    made_shown f x view all None e = subst (AreShown (f.deeds ++ [])) (sym (append-nil ts)) (subst (λ ds. AreShown ds ts) (sym (append-nil f.deeds)) all)
    made_shown f x view all (Some at) e =
        shown_next f.deeds (deeds_to f.shard x (Some at)) ts (transition_by f.shard.table f.shard.held x at) all
        ((laws_of says laws cores f.core f.shard.table f.is.table_is).shows (moment_of f.shard f.deeds) k x at
        (record { seated = record { is_good = f.is.is_good; has = view }; next = e }))

    pub atom_shown : AreShown (get_or (atom_acts acts m k) s []) (ts ++ atom_there m k s)
    atom_shown =
        let f : Found says laws cores acts m place = found_at says laws cores acts m place g (g.stands k h) in
        let S : ShardRun V = f.shard in
        let view = some_at S.views k (let a = f.is.ranks in omega arith) in
        let x : V = view.0 in
        let had : get_or acts place [] ≡ f.deeds = get_or_from_slice_get acts place f.deeds [] f.has_acts in
        let now : List Deed = f.deeds ++ deeds_at S (Some x) in
        let same_acts : atom_acts acts m k ≡ slice_set acts place now =
        ap (λ o. acts_with acts place (on_shard [] (deeds_on k) o)) f.has ∙ ap (λ o. acts_with acts place (deeds_at S o)) view.1 ∙ ap (λ z. slice_set acts place (z ++ deeds_at S (Some x))) had in
        subst (λ z. AreShown (get_or z s []) (ts ++ atom_there m k s)) (sym same_acts)
        (⊎_elim
        (λ q.
        let there : atom_there m k s ≡ transitions_at S (Some x) =
        ap (λ b. if b then on_shard [] (transitions_by k) (slice_get m.shards s) else []) q.0 ∙ ap (λ i. on_shard [] (transitions_by k) (slice_get m.shards i)) (sym q.1)
        ∙ ap (on_shard [] (transitions_by k)) f.has ∙ ap (transitions_at S) view.1 in
        let acts_are : get_or (slice_set acts place now) s [] ≡ now =
        ap (λ i. get_or (slice_set acts place now) i []) (sym q.1) ∙ get_or-set_same acts place now [] (slice_get_within acts place f.deeds f.has_acts) in
        let all : AreShown f.deeds ts = subst (λ ds. AreShown ds ts) (ap (λ i. get_or acts i []) (sym q.1) ∙ had) shown in
        subst (λ z. AreShown z (ts ++ atom_there m k s)) (sym acts_are)
        (subst (λ z. AreShown now (ts ++ z)) (sym there) (made_shown f x view.1 all (S.table.core.next x) refl)))
        (λ q.
        let there : atom_there m k s ≡ [] = ap (λ b. if b then on_shard [] (transitions_by k) (slice_get m.shards s) else []) q.0 in
        let acts_are : get_or (slice_set acts place now) s [] ≡ get_or acts s [] = get_or-set_other acts place s now [] (λ e. q.1 (sym e)) in
        subst (λ z. AreShown z (ts ++ atom_there m k s)) (sym acts_are)
        (subst (λ z. AreShown (get_or acts s []) (ts ++ z)) (sym there) (subst (AreShown (get_or acts s [])) (sym (append-nil ts)) shown)))
        (eqb_tells place s))

  -- so do those of a step, and of a whole run
  step_shown : (acts : List (List Deed)) (m : Running V) (k s : ℕ) (ts : List Transition) → Fine acts m → k < length m.calls →
      AreShown (get_or acts s []) ts → AreShown (get_or (step_acts acts m k) s []) (ts ++ step_there m k s)
  step_shown acts m k s ts g h shown =
      atom_shown acts (block_opened m k) k s ts (block_good says laws cores acts m k g h)
      (subst (λ c. k < length c) (sym (opened_calls says laws cores m k (opens m k))) h) shown

  pub run_shown : (acts : List (List Deed)) (m : Running V) (ks : List ℕ) (s : ℕ) (ts : List Transition) → Fine acts m → AreThere (length m.calls) ks → AreShown (get_or acts s []) ts →
      AreShown (get_or (run_acts acts m ks) s []) (ts ++ transitions_on m ks s)
  run_shown acts m [] s ts g there shown = subst (AreShown (get_or acts s [])) (sym (append-nil ts)) shown
  run_shown acts m (k ∷ ks) s ts g there shown =
      subst (AreShown (get_or (run_acts (step_acts acts m k) (stepped m k) ks) s [])) (append_assoc ts (step_there m k s) (transitions_on (stepped m k) ks s))
      (run_shown (step_acts acts m k) (stepped m k) ks s (ts ++ step_there m k s) (stepped_good says laws cores acts m k g there.0)
      (subst (λ c. AreThere (length c) ks) (sym (stepped_calls says laws cores m k)) there.1)
      (step_shown acts m k s ts g there.0 shown))
