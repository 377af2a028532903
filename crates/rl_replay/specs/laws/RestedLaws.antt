-- A rank that rests counts its answers; and another rank's step leaves what is known of it.
use Rattle.std.specs.Prelude.{◌≡◌, ◌≢◌, ℕ, zero, suc, ◌+◌, ◌<◌, ◌≤◌, ◌==◌, Bool, true, false}
use Rattle.std.specs.Prelude.{List, length, replicate, if◌then◌else◌, nat_lt, get_or, slice_get, slice_index, slice_set, Option, Some, None, refl}
use Rattle.std.proofs.Common.{sym, ◌∙◌, ap, subst, ⊎_elim, arith, length-set, get_or-set_other}
use Rattle.std.proofs.lemmas.Bool.Decides.{eqb_tells, nat_tests}
use Rattle.std.proofs.lemmas.List.{length-map}
use Rattle.std.proofs.lemmas.Option.{same_Some, slice_get-get_or, slice_get_within}
use Rattle.rl_word.specs.laws.Places.{get_set_cases, get_set_other, get_set_same, one_at, same_or_not}
use Rattle.rl_word.specs.declared.acts.Atom.{Atom}
use Rattle.rl_word.specs.declared.acts.Atom.TheVariants as atom
use Rattle.rl_model.specs.declared.call.Call.{Call}
use Rattle.rl_step.specs.declared.events.Stepped.{Stepped}
use Rattle.rl_step.specs.declared.events.Stepped.TheVariants.{Moved, Waiting, Lost, Busy, Finished}
use Rattle.rl_step.specs.declared.tallies.Steps.{Steps}
use Rattle.rl_step.specs.Answers.{steps_made}
use Rattle.rl_step.specs.laws.CoreLemmas.{length-do_words}
use Rattle.rl_step.specs.Do.{TheWindow, do_cards, do_got}
use Rattle.rl_core.specs.declared.round.Round.{Round}
use Rattle.rl_core.specs.Asks.{block_shard, place_after}
use Rattle.rl_core.specs.Idle.{IsIdle, IdleWhile, IsNamed, Shows}
use Rattle.rl_core.specs.Rounds.{IsRound}
use Rattle.rl_core.specs.Moments.{CoreSays}
use Rattle.rl_machine.specs.Running.{ShardRun, Running, TheMachine, shard_run, running}
use Rattle.rl_machine.specs.ShardSteps.{opened_at, opened_on, makes, made_at, atom_on, open_at, open_on}
use Rattle.rl_machine.specs.Run.{changed_if, on_shard, calls_by, next_block, place_of, has_open_call, opens, opened_if, block_opened, stepped, run_of}
use Rattle.rl_machine.specs.Records.{window_of}
use Rattle.rl_machine.specs.Rest.{counted_more, with_steps, RestsWith}
use Rattle.rl_machine.specs.laws.RestLaws.{open_shuts, done_shuts, idle_rests, rest_run}
use Rattle.rl_machine.specs.Rested.{RestsAt, IsOver, IsInRound}
use Rattle.rl_replay.specs.declared.last_rest.LastRest.{LastRest}
use Rattle.rl_replay.specs.declared.last_rest.LastRest.TheVariants as last
use Rattle.rl_replay.specs.Rested.{Rested, AllRested, KeepsNotes, IsForgotten}

-- an atom doesn't change how many cards there are
length_either : (xs ys : List ℕ) (b : Bool) → length ys ≡ length xs → length (if b then ys else xs) ≡ length xs
length_either xs ys true e = e
length_either xs ys false e = refl

length-do_cards : (j : ℕ) (at : Atom) (cs : List ℕ) → length (do_cards j at cs) ≡ length cs
length-do_cards j (atom.Load w) cs = refl
length-do_cards j (atom.Store w v) cs = refl
length-do_cards j (atom.LocalCas w old new) cs = refl
length-do_cards j (atom.Take n) cs = length_either cs (slice_set cs n (j + 1)) (slice_index cs n == 0) (length-set cs n (j + 1))
length-do_cards j (atom.CardLoad w) cs = refl
length-do_cards j (atom.CardStore w v) cs = refl
length-do_cards j (atom.Leave n) cs = length-set cs n 0

-- a shard before and after a step, as far as rank k goes that doesn't make it
record IsAlike {V : Type 0} (k : ℕ) (S T : ShardRun V) : Type 0 where
  table : T.table ≡ S.table
  view : slice_get T.views k ≡ slice_get S.views k
  words : length T.held.words ≡ length S.held.words
  cards : length T.held.cards ≡ length S.held.cards

named_alike : (answer : Stepped) (g h : TheWindow) → length h.words ≡ length g.words → length h.cards ≡ length g.cards → IsNamed g answer → IsNamed h answer
named_alike Moved g h words cards n = n
named_alike (Waiting w v) g h words cards n = subst (λ l. w < l) (sym words) n
named_alike (Lost guess seen) g h words cards n = n
named_alike (Busy m holder) g h words cards n = subst (λ l. m < l) (sym cards) n
named_alike Finished g h words cards n = n

module _ {V : Type 0} (k j : ℕ) (other : k ≢ j) where
  alike_self : (S : ShardRun V) → IsAlike k S S
  alike_self S = record { table = refl; view = refl; words = refl; cards = refl }

  opened_alike : (S : ShardRun V) (block : List Call) (seq : ℕ) (o : Option V) → IsAlike k S (opened_at S j block seq o)
  opened_alike S block seq None = alike_self S
  opened_alike S block seq (Some x) = record { table = refl; view = get_set_other S.views j k (S.table.opened block seq x) other; words = refl; cards = refl }

  makes_alike : (S : ShardRun V) (step : ℕ) (x : V) (o : Option Atom) → IsAlike k S (makes S j step x o)
  makes_alike S step x None = alike_self S
  makes_alike S step x (Some at) =
      record {
        table = refl;
        view = get_set_other S.views j k (S.table.core.after x (do_got at S.held.words S.held.cards)).view other;
        words = length-do_words at S.held.words;
        cards = length-do_cards j at S.held.cards;
      }

  atom_alike : (S : ShardRun V) (step : ℕ) (o : Option V) → IsAlike k S (made_at S j step o)
  atom_alike S step None = alike_self S
  atom_alike S step (Some x) = makes_alike S step x (S.table.core.next x)

  -- what is true of shard s as far as rank k goes stays so
  record OnShard (s : ℕ) (P : ShardRun V → Type 0) (shards : List (ShardRun V)) : Type 0 where
    shard : ShardRun V
    has : slice_get shards s ≡ Some shard
    says : P shard

  module _ (s : ℕ) (P : ShardRun V → Type 0) (stable : (S T : ShardRun V) → IsAlike k S T → P S → P T) where
    on_set : (shards : List (ShardRun V)) (p : ℕ) (S T : ShardRun V) → slice_get shards p ≡ Some S → IsAlike k S T → OnShard s P shards → OnShard s P (slice_set shards p T)
    on_set shards p S T has a r =
        ⊎_elim
        (λ (same : s ≡ p).
        let is : r.shard ≡ S = one_at shards p r.shard S (ap (slice_get shards) (sym same) ∙ r.has) has in
        record { shard = T; has = ap (slice_get (slice_set shards p T)) same ∙ get_set_same shards p S T has; says = stable S T a (subst P is r.says) })
        (λ (apart : s ≢ p). record { shard = r.shard; has = get_set_other shards p s T apart ∙ r.has; says = r.says })
        (same_or_not s p)

    on_if : (shards : List (ShardRun V)) (p : ℕ) (f : ShardRun V → ShardRun V) (o : Option (ShardRun V)) → slice_get shards p ≡ o →
        ((S : ShardRun V) → IsAlike k S (f S)) → OnShard s P shards → OnShard s P (changed_if shards p f o)
    on_if shards p f None e alike r = r
    on_if shards p f (Some S) e alike r = on_set shards p S (f S) e (alike S) r

    on_opened : (m : Running V) (b : Bool) → OnShard s P m.shards → OnShard s P (opened_if m j b).shards
    on_opened m false r = r
    on_opened m true r =
        let p : ℕ = block_shard m.geom (next_block m j) in
        on_if m.shards p (opened_on j (next_block m j) (slice_index m.opened j)) (slice_get m.shards p) refl (λ S. opened_alike S (next_block m j) (slice_index m.opened j) (slice_get S.views j)) r

    on_stepped : (m : Running V) → OnShard s P m.shards → OnShard s P (stepped m j).shards
    on_stepped m r =
        let n : Running V = block_opened m j in
        on_if n.shards (place_of n j) (atom_on j (steps_made n.steps)) (slice_get n.shards (place_of n j)) refl
        (λ S. atom_alike S (steps_made n.steps) (slice_get S.views j)) (on_opened m (opens m j) r)

  -- rank k stands where it stood, and has opened as many of its calls
  opened_stays : (m : Running V) (b : Bool) → slice_index (opened_if m j b).opened k ≡ slice_index m.opened k
  opened_stays m false = refl
  opened_stays m true = get_or-set_other m.opened j k (slice_index m.opened j + length (next_block m j)) 0 other

  place_stays : (m : Running V) (b : Bool) → place_of (opened_if m j b) k ≡ place_of m k
  place_stays m false = refl
  place_stays m true = ap (place_after m.geom (calls_by m k)) (opened_stays m true)

  left_stays : (m : Running V) (b : Bool) → length (calls_by m k) ≤ slice_index m.opened k → length (calls_by (opened_if m j b) k) ≤ slice_index (opened_if m j b).opened k
  left_stays m false few = few
  left_stays m true few = subst (λ i. length (calls_by m k) ≤ i) (sym (opened_stays m true)) few

  -- that it rests
  record RestsOn (answer : Stepped) (S : ShardRun V) : Type 0 where
    view : V
    seen : slice_get S.views k ≡ Some view
    in_call : (S.table.own view).is_open ≡ true
    named : IsNamed S.held answer
    idle : IdleWhile S.table k view answer

  rests_alike : (answer : Stepped) (S T : ShardRun V) → IsAlike k S T → RestsOn answer S → RestsOn answer T
  rests_alike answer S T a r =
      record {
        view = r.view;
        seen = a.view ∙ r.seen;
        in_call = subst (λ t. (t.own r.view).is_open ≡ true) (sym a.table) r.in_call;
        named = named_alike answer S.held T.held a.words a.cards r.named;
        idle = subst (λ t. IdleWhile t k r.view answer) (sym a.table) r.idle;
      }

  rests_stepped : (s : ℕ) (answer : Stepped) (m : Running V) → RestsAt m k s answer → RestsAt (stepped m j) k s answer
  rests_stepped s answer m r =
      let q =
      on_stepped s (RestsOn answer) (rests_alike answer) m
      (record { shard = r.shard; has = r.has; says = record { view = r.view; seen = r.seen; in_call = r.in_call; named = r.named; idle = r.idle } }) in
      record { shard = q.shard; view = q.says.view; stands = place_stays m (opens m j) ∙ r.stands; has = q.has; seen = q.says.seen; in_call = q.says.in_call; named = q.says.named; idle = q.says.idle }

  -- that it goes in a round
  module _ {Sight : Type 0} (seeing : V → Sight → V) where
    record InRoundOn (round : Round Sight) (S : ShardRun V) : Type 0 where
      view : V
      seen : slice_get S.views k ≡ Some view
      is_round : IsRound S.table seeing (length S.held.words) k view round

    round_alike : (round : Round Sight) (S T : ShardRun V) → IsAlike k S T → InRoundOn round S → InRoundOn round T
    round_alike round S T a r =
        record {
          view = r.view;
          seen = a.view ∙ r.seen;
          is_round = subst (λ n. IsRound T.table seeing n k r.view round) (sym a.words) (subst (λ t. IsRound t seeing (length S.held.words) k r.view round) (sym a.table) r.is_round);
        }

    round_stepped : (s : ℕ) (round : Round Sight) (m : Running V) → IsInRound seeing m k s round → IsInRound seeing (stepped m j) k s round
    round_stepped s round m r =
        let q = on_stepped s (InRoundOn round) (round_alike round) m (record { shard = r.shard; has = r.has; says = record { view = r.view; seen = r.seen; is_round = r.is_round } }) in
        record { shard = q.shard; view = q.says.view; stands = place_stays m (opens m j) ∙ r.stands; has = q.has; seen = q.says.seen; is_round = q.says.is_round }

  -- and that it has nothing left to do
  record OverOn (S : ShardRun V) : Type 0 where
    view : V
    seen : slice_get S.views k ≡ Some view
    none : S.table.core.next view ≡ None

  over_alike : (S T : ShardRun V) → IsAlike k S T → OverOn S → OverOn T
  over_alike S T a r = record { view = r.view; seen = a.view ∙ r.seen; none = subst (λ t. t.core.next r.view ≡ None) (sym a.table) r.none }

  over_stepped : (m : Running V) → IsOver m k → IsOver (stepped m j) k
  over_stepped m r =
      let q = on_stepped (place_of m k) OverOn over_alike m (record { shard = r.shard; has = r.has; says = record { view = r.view; seen = r.seen; none = r.none } }) in
      record {
        shard = q.shard;
        view = q.says.view;
        has = ap (slice_get (stepped m j).shards) (place_stays m (opens m j)) ∙ q.has;
        seen = q.says.seen;
        none = q.says.none;
        none_left = left_stays m (opens m j) r.none_left;
      }

-- a card with a number in it isn't free
pub not_free : (n : ℕ) → (n ≡ 0 → ⊥) → (n == 0) ≡ false
not_free n some = ⊎_elim (λ q. absurd (some q.1)) (λ q. q.0) (eqb_tells n 0)

-- a shard that is there in the machine as it runs is there
pub shards_there : {C V : Type 0} (says : C → CoreSays V) (m : TheMachine C V) (s : ℕ) (S : ShardRun V) → slice_get (running says m).shards s ≡ Some S → s < length m.shards
shards_there says m s S has =
    let within : s < length (running says m).shards = slice_get_within (running says m).shards s S has in
    let all : length (running says m).shards ≡ length m.shards = length-map m.shards (shard_run says) in
    omega arith

module _ {V : Type 0} where
  -- the window of the shard where a rank rests
  pub window_at : (m : Running V) (s : ℕ) (S : ShardRun V) (h : TheWindow) → slice_get m.shards s ≡ Some S → window_of m s ≡ Some h → h ≡ S.held
  window_at m s S h has is = same_Some _ _ (sym is ∙ ap (on_shard None (λ (T : ShardRun V). Some T.held)) has)

  -- a rank that rested rests, where the window of its shard shows it
  pub still_rests : (m : Running V) (k s : ℕ) (answer a : Stepped) (r : RestsAt m k s answer) → Shows r.shard.held answer a → RestsWith m k a
  still_rests m k s answer a r shows =
      let at_place : slice_get m.shards (place_of m k) ≡ Some r.shard = ap (slice_get m.shards) r.stands ∙ r.has in
      let is_in : has_open_call m k ≡ true = ap (on_shard false (open_on k)) at_place ∙ ap (open_at r.shard.table) r.seen ∙ r.in_call in
      idle_rests m k r.shard r.view a at_place r.seen (open_shuts (has_open_call m k) (nat_lt (slice_index m.opened k) (length (calls_by m k))) is_in) (r.idle r.shard.held a shows)

  -- and one that has nothing left to do rests for ever
  pub over_rests : (m : Running V) (k : ℕ) → IsOver m k → RestsWith m k Finished
  over_rests m k r =
      let few : length (calls_by m k) ≤ slice_index m.opened k = r.none_left in
      let none_is_left : nat_lt (slice_index m.opened k) (length (calls_by m k)) ≡ false = grind (arith, nat_tests) in
      idle_rests m k r.shard r.view Finished r.has r.seen (done_shuts (has_open_call m k) (nat_lt (slice_index m.opened k) (length (calls_by m k))) none_is_left)
      (subst (λ o. IsIdle r.shard.table r.shard.held k r.view o Finished) (sym r.none) refl)

  -- whoever is in the card
  pub held_by_another : (m : Running V) (k s n holder other : ℕ) → RestsAt m k s (Busy n holder) → RestsAt m k s (Busy n other)
  held_by_another m k s n holder other r = record { shard = r.shard; view = r.view; stands = r.stands; has = r.has; seen = r.seen; in_call = r.in_call; named = r.named; idle = r.idle }

  -- so many answers counted are so many steps
  pub counted_run : (m now : Running V) (k n : ℕ) (a : Stepped) → RestsWith m k a → now ≡ with_steps m (counted_more a n m.steps) → now ≡ run_of m (replicate n k)
  counted_run m now k n a rests is = is ∙ sym (rest_run m k a n rests)

module _ {V Sight : Type 0} (seeing : V → Sight → V) where
  rested_other : (m : Running V) (k j : ℕ) (r : LastRest Sight) → k ≢ j → Rested seeing m k r → Rested seeing (stepped m j) k r
  rested_other m k j last.Unknown other r = r
  rested_other m k j (last.HeldOff s n) other r = rests_stepped k j other s (Busy n 0) m r
  rested_other m k j (last.Waits s w v) other r = rests_stepped k j other s (Waiting w v) m r
  rested_other m k j (last.Round s round) other r = round_stepped k j other seeing s round m r
  rested_other m k j last.Finished other r = over_stepped k j other m r

  -- so many steps of another rank
  run_others : (m : Running V) (k j : ℕ) (r : LastRest Sight) → k ≢ j → (n : ℕ) → Rested seeing m k r → Rested seeing (run_of m (replicate n j)) k r
  run_others m k j r other zero is = is
  run_others m k j r other (suc n) is = run_others (stepped m j) k j r other n (rested_other m k j r other is)

  -- what is noted doesn't speak of the counts
  rested_with : (m : Running V) (counts : Steps) (k : ℕ) (r : LastRest Sight) → Rested seeing m k r → Rested seeing (with_steps m counts) k r
  rested_with m counts k last.Unknown r = r
  rested_with m counts k (last.HeldOff s n) r = record { shard = r.shard; view = r.view; stands = r.stands; has = r.has; seen = r.seen; in_call = r.in_call; named = r.named; idle = r.idle }
  rested_with m counts k (last.Waits s w v) r = record { shard = r.shard; view = r.view; stands = r.stands; has = r.has; seen = r.seen; in_call = r.in_call; named = r.named; idle = r.idle }
  rested_with m counts k (last.Round s round) r = record { shard = r.shard; view = r.view; stands = r.stands; has = r.has; seen = r.seen; is_round = r.is_round }
  rested_with m counts k last.Finished r = record { shard = r.shard; view = r.view; has = r.has; seen = r.seen; none = r.none; none_left = r.none_left }

  pub keeps_with : (m now : Running V) (counts : Steps) → now ≡ with_steps m counts → KeepsNotes seeing m now
  keeps_with m now counts is = λ rests all. subst (λ (u : Running V). AllRested seeing u rests) (sym is) (λ k r get. rested_with m counts k r (all k r get))

  -- what is noted of a rank after its steps, and what was noted of the others
  pub all_noted : (m : Running V) (rests : List (LastRest Sight)) (j n : ℕ) (z : LastRest Sight) → Rested seeing (run_of m (replicate n j)) j z →
      AllRested seeing m rests → AllRested seeing (run_of m (replicate n j)) (slice_set rests j z)
  all_noted m rests j n z now all = λ k r get.
      let after : Running V = run_of m (replicate n j) in
      ⊎_elim
      (λ (q : (k ≡ j) × (r ≡ z)). subst (λ i. Rested seeing after i r) (sym q.0) (subst (Rested seeing after j) (sym q.1) now))
      (λ (q : (k ≢ j) × (slice_get rests k ≡ Some r)). run_others m k j r q.0 n (all k r q.1))
      (get_set_cases rests j k z r get)

  -- of a rank
  pub all_set : (m : Running V) (rests : List (LastRest Sight)) (j : ℕ) (z : LastRest Sight) → Rested seeing m j z → AllRested seeing m rests → AllRested seeing m (slice_set rests j z)
  all_set m rests j z now all = all_noted m rests j 0 z now all

  -- what is noted of a rank is true
  pub noted_at : (m : Running V) (rests : List (LastRest Sight)) (ranks k : ℕ) (r : LastRest Sight) → k < ranks → length rests ≡ ranks → r ≡ get_or rests k r → AllRested seeing m rests → Rested seeing m k r
  noted_at m rests ranks k r there many is all = all k r (slice_get-get_or rests k r (omega arith) ∙ ap Some (sym is))

  -- a step of a rank of which nothing is known leaves what is known of the others
  pub all_stepped : (m : Running V) (rests : List (LastRest Sight)) (j : ℕ) → IsForgotten rests j → AllRested seeing m rests → AllRested seeing (stepped m j) rests
  all_stepped m rests j none all = λ k r get.
      ⊎_elim
      (λ (same : k ≡ j). subst (Rested seeing (stepped m j) k) (sym (one_at rests j r last.Unknown (ap (slice_get rests) (sym same) ∙ get) none)) tt)
      (λ (apart : k ≢ j). rested_other m k j r apart (all k r get))
      (same_or_not k j)
