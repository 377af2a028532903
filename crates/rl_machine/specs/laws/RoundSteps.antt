-- A load of a round: the view exchanged is the step of its rank, which is in the round then as it begins with the other load.
use Rattle.std.specs.Prelude.{◌≡◌, ℕ, ◌<◌, ◌++◌, true, false, nat_lt, List, length, map, slice_get, slice_index, slice_set, Option, Some, None}
use Rattle.std.proofs.Common.{sym, ◌∙◌, ap, subst, arith}
use Rattle.std.proofs.lemmas.List.{append-nil, length-map, set-set}
use Rattle.std.proofs.lemmas.Option.{slice_get_within}
use Rattle.rl_word.specs.declared.acts.Atom.{Atom}
use Rattle.rl_word.specs.laws.Places.{get_set_same, one_at, set_same_get}
use Rattle.rl_step.specs.declared.events.Stepped.TheVariants.{Finished}
use Rattle.rl_step.specs.declared.tallies.Steps.{Steps}
use Rattle.rl_step.specs.Answers.{counted, steps_made}
use Rattle.rl_step.specs.Do.{do_got}
use Rattle.rl_core.specs.declared.round.Leg.{Leg}
use Rattle.rl_core.specs.declared.round.Round.{Round}
use Rattle.rl_core.specs.Rounds.{leg_answer, turned_round, Makes, GoesBy}
use Rattle.rl_core.specs.Moments.{CoreSays}
use Rattle.rl_machine.specs.declared.shard.ShardState.{ShardState}
use Rattle.rl_machine.specs.declared.state.MachineState.{MachineState}
use Rattle.rl_machine.specs.Running.{ShardRun, Running, shard_run, viewed}
use Rattle.rl_machine.specs.ShardSteps.{numbered, makes, made_at, atom_on, answer_to, answer_at, answer_on, open_at, open_on}
use Rattle.rl_machine.specs.Run.{changed, changed_if, on_shard, calls_by, place_of, has_open_call, opens, opened_if, atom_answer, atom_made, stepped}
use Rattle.rl_machine.specs.MachineGood.{IsMachine}
use Rattle.rl_machine.specs.laws.MachineSteps.{machine_with}
use Rattle.rl_machine.specs.Rest.{with_steps}
use Rattle.rl_machine.specs.laws.RestLaws.{open_shuts}
use Rattle.rl_machine.specs.Rested.{IsInRound}
use Rattle.rl_machine.specs.State.{shard_view, machine_view, running_shard, running_machine}
use Rattle.rl_machine.specs.laws.StateLaws.{is_there, shard_set}

module _ {V : Type 0} where
  abbrev pub viewed_on : Running V → ℕ → ℕ → ShardRun V → V → Steps → Running V
  viewed_on m s k S y counts = machine_with m (slice_set m.shards s (viewed S k y)) m.opened counts

module _ {V Sight : Type 0} (seeing : V → Sight → V) where
  leg_makes : (S : ShardRun V) (k step : ℕ) (x : V) (leg : Leg Sight) (o : Option Atom) → Makes S.table seeing S.held k x leg o →
      (makes S k step x o ≡ viewed S k (seeing x leg.sight)) × (answer_to S.table S.held x o ≡ leg_answer leg)
  leg_makes S k step x leg None i = absurd i
  leg_makes S k step x leg (Some at) i =
      let after = S.table.core.after x (do_got at S.held.words S.held.cards) in
      let trace : S.trace ++ numbered step after.events ≡ S.trace = ap (λ z. S.trace ++ numbered step z) i.2 ∙ append-nil S.trace in (
        ap (λ z. record { table = S.table; held = z; views = slice_set S.views k after.view; trace = S.trace ++ numbered step after.events }) i.0
            ∙ ap (λ z. record { table = S.table; held = S.held; views = slice_set S.views k z; trace = S.trace ++ numbered step after.events }) i.1
            ∙ ap (λ z. record { table = S.table; held = S.held; views = slice_set S.views k (seeing x leg.sight); trace = z }) trace,
        i.3,
      )

  -- a step of a rank in a call, whose atom is the leg's
  leg_step : (m : Running V) (k : ℕ) (S : ShardRun V) (x : V) (leg : Leg Sight) → slice_get m.shards (place_of m k) ≡ Some S → slice_get S.views k ≡ Some x → (S.table.own x).is_open ≡ true →
      Makes S.table seeing S.held k x leg (S.table.core.next x) → stepped m k ≡ viewed_on m (place_of m k) k S (seeing x leg.sight) (counted (leg_answer leg) m.steps)
  leg_step m k S x leg has seen in_call made =
      let y : V = seeing x leg.sight in
      let step : ℕ = steps_made m.steps in
      let shut : opens m k ≡ false =
      open_shuts (has_open_call m k) (nat_lt (slice_index m.opened k) (length (calls_by m k))) (ap (on_shard false (open_on k)) has ∙ ap (open_at S.table) seen ∙ in_call) in
      let told : atom_answer m k ≡ leg_answer leg =
      ap (on_shard Finished (answer_on k)) has ∙ ap (answer_at S) seen ∙ (leg_makes S k step x leg (S.table.core.next x) made).1 in
      let shards : changed m.shards (place_of m k) (atom_on k step) ≡ slice_set m.shards (place_of m k) (viewed S k y) =
      ap (changed_if m.shards (place_of m k) (atom_on k step)) has ∙ ap (λ o. slice_set m.shards (place_of m k) (made_at S k step o)) seen
      ∙ ap (slice_set m.shards (place_of m k)) (leg_makes S k step x leg (S.table.core.next x) made).0 in
      ap (λ b. atom_made (opened_if m k b) k) shut
      ∙ ap (λ z. machine_with m z m.opened (counted (atom_answer m k) m.steps)) shards
      ∙ ap (λ a. viewed_on m (place_of m k) k S y (counted a m.steps)) told

module _ {V Sight : Type 0} (seeing : V → Sight → V) (m : Running V) (k s : ℕ) (round : Round Sight) (r : IsInRound seeing m k s round) where
  abbrev pub next : V
  next = seeing r.view round.here.sight

  -- after its next load the rank is in the round as it begins with the other
  pub turned_in : (counts : Steps) → IsInRound seeing (viewed_on m s k r.shard next counts) k s (turned_round round)
  turned_in counts =
      let q = r.is_round in
      record {
        shard = viewed r.shard k next;
        view = next;
        stands = r.stands;
        has = get_set_same m.shards s r.shard (viewed r.shard k next) r.has;
        seen = get_set_same r.shard.views k r.view next r.seen;
        is_round = record {
          back = ap (λ z. seeing z round.here.sight) q.back;
          in_call = q.in_call_there;
          in_call_there = subst (λ z. (r.shard.table.own z).is_open ≡ true) (sym q.back) q.in_call;
          word_here = q.word_there;
          word_there = q.word_here;
          first = q.second;
          second = subst (λ z. GoesBy r.shard.table seeing k z round.here) (sym q.back) q.first;
        };
      }

  -- its step, where the word has the value
  pub one_leg : slice_index r.shard.held.words round.here.word ≡ round.here.value → stepped m k ≡ viewed_on m s k r.shard next (counted (leg_answer round.here) m.steps)
  one_leg shows =
      leg_step seeing m k r.shard r.view round.here (ap (slice_get m.shards) r.stands ∙ r.has) r.seen r.is_round.in_call (r.is_round.first r.shard.held shows)
      ∙ ap (λ p. viewed_on m p k r.shard next (counted (leg_answer round.here) m.steps)) r.stands

module _ {V Sight : Type 0} (seeing : V → Sight → V) (m : Running V) (k s : ℕ) (round : Round Sight) (r : IsInRound seeing m k s round)
    (here : slice_index r.shard.held.words round.here.word ≡ round.here.value) where
  -- both steps count their answers and change nothing else
  pub both_legs : slice_index r.shard.held.words round.there.word ≡ round.there.value →
      stepped (stepped m k) k ≡ with_steps m (counted (leg_answer round.there) (counted (leg_answer round.here) m.steps))
  unfolding turned_in
  both_legs there =
      let S : ShardRun V = r.shard in
      let y : V = seeing r.view round.here.sight in
      let once : Steps = counted (leg_answer round.here) m.steps in
      let twice : Steps = counted (leg_answer round.there) once in
      let n : Running V = viewed_on m s k S y once in
      let q : IsInRound seeing n k s (turned_round round) = turned_in seeing m k s round r once in
      let views : viewed (viewed S k y) k r.view ≡ S =
      ap (λ z. record { table = S.table; held = S.held; views = z; trace = S.trace }) (set-set S.views k y r.view ∙ set_same_get S.views k r.view r.seen) in
      let shards : slice_set n.shards s (viewed (viewed S k y) k r.view) ≡ m.shards =
      ap (slice_set n.shards s) views ∙ set-set m.shards s (viewed S k y) S ∙ set_same_get m.shards s S r.has in
      ap (λ z. stepped z k) (one_leg seeing m k s round r here)
      ∙ one_leg seeing n k s (turned_round round) q there
      ∙ ap (λ z. viewed_on n s k (viewed S k y) z twice) r.is_round.back
      ∙ ap (λ z. with_steps (machine_with m z m.opened m.steps) twice) shards

-- in the code's lists
module _ {C V Sight : Type 0} (says : C → CoreSays V) (seeing : V → Sight → V) (m : MachineState C V) (is : IsMachine says (machine_view m)) (k s : ℕ)
    (round : Round Sight) (r : IsInRound seeing (running_machine says m) k s round) where
  abbrev run : Running V
  run = running_machine says m

  pub round_there : s < length m.shards.items
  round_there =
      let all : length run.shards ≡ length m.shards.items = length-map (map shard_view m.shards.items) (shard_run says) ∙ length-map m.shards.items shard_view in
      let within : s < length run.shards = slice_get_within run.shards s r.shard r.has in
      omega arith

  module _ (item : ShardState C V) (has : slice_get m.shards.items s ≡ Some item) where
    round_shard : r.shard ≡ running_shard says item
    round_shard = one_at run.shards s r.shard (running_shard says item) r.has (is_there says m is s item has).has

    pub round_seen : slice_get item.flat.views.items k ≡ Some r.view
    round_seen = subst (λ (S : ShardRun V). slice_get S.views k ≡ Some r.view) round_shard r.seen

    pub round_rank : k < length item.flat.views.items
    round_rank = slice_get_within item.flat.views.items k r.view round_seen

    module _ (new : ShardState C V) (made : running_shard says new ≡ viewed (running_shard says item) k (seeing r.view round.here.sight)) where
      abbrev after : List (ShardRun V)
      after = map (shard_run says) (map shard_view (slice_set m.shards.items s new))

      after_is : after ≡ slice_set run.shards s (viewed r.shard k (seeing r.view round.here.sight))
      after_is = shard_set says m.shards.items s new ∙ ap (slice_set run.shards s) (made ∙ ap (λ S. viewed S k (seeing r.view round.here.sight)) (sym round_shard))

      pub leg_made : slice_index r.shard.held.words round.here.word ≡ round.here.value → (counts : Steps) →
          counts ≡ counted (leg_answer round.here) m.steps → machine_with run after run.opened counts ≡ stepped run k
      leg_made shows counts e =
          ap (λ z. machine_with run z run.opened counts) after_is
          ∙ ap (λ z. viewed_on run s k r.shard (seeing r.view round.here.sight) z) e
          ∙ sym (one_leg seeing run k s round r shows)

      pub leg_turned : (counts : Steps) → IsInRound seeing (machine_with run after run.opened counts) k s (turned_round round)
      leg_turned counts = subst (λ z. IsInRound seeing (machine_with run z run.opened counts) k s (turned_round round)) (sym after_is) (turned_in seeing run k s round r counts)
