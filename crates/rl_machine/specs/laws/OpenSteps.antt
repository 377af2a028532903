-- A rank that opens its next block: the block in the code's lists, its shard, and the step.
use Rattle.std.specs.Prelude.{◌≡◌, ℕ, ◌+◌, ◌≤◌, ◌<◌, true, false, List, [], length, get_or, slice_get, slice_index, slice_set, Some, refl}
use Rattle.std.proofs.Common.{sym, ◌∙◌, ap, subst, get_or-set_same, arith}
use Rattle.std.proofs.lemmas.List.{get_or_read}
use Rattle.std.proofs.lemmas.Option.{slice_get-get_or}
use Rattle.rl_word.specs.laws.Places.{one_at}
use Rattle.rl_model.specs.declared.call.Call.{Call}
use Rattle.rl_step.specs.declared.events.Stepped.{Stepped}
use Rattle.rl_step.specs.declared.tallies.Steps.{Steps}
use Rattle.rl_step.specs.Answers.{counted, steps_made}
use Rattle.rl_core.specs.ShardLaws.{MayOpen, LawsOf}
use Rattle.rl_core.specs.Moments.{CoreSays}
use Rattle.rl_machine.specs.declared.shard.ShardState.{ShardState}
use Rattle.rl_machine.specs.declared.state.MachineState.{MachineState}
use Rattle.rl_machine.specs.Running.{ShardRun, Running, cores_of}
use Rattle.rl_core.specs.Asks.{block_from, block_shard, place_after}
use Rattle.rl_core.specs.laws.AskLaws.{size_is, block_is, block_at, stands_at, inside, is_begun, few_calls}
use Rattle.rl_machine.specs.ShardSteps.{opened_on, block_on, answer_on}
use Rattle.rl_machine.specs.Run.{changed_if, calls_by, sizes_by, opens, opened_if, next_block, stepped, answer_of_step}
use Rattle.rl_machine.specs.laws.MachineLaws.{OpensAt, opens_at}
use Rattle.rl_machine.specs.laws.MachineSteps.{machine_with, step_is}
use Rattle.rl_machine.specs.MachineGood.{IsMachine}
use Rattle.rl_machine.specs.State.{machine_view, IsGood, OfView, running_shard, running_shards, running_machine}
use Rattle.rl_machine.specs.laws.StateLaws.{is_there, many, is_listed, shard_set}

module _ {C V : Type 0} (says : C → CoreSays V) (m : MachineState C V) (k : ℕ) where
  -- the machine with this shard in that place, the block that begins with the rank's call of this number opened, and these counts
  abbrev pub with_block : ℕ → ℕ → List Call → ShardState C V → Steps → Running V
  with_block first place block new counts =
      machine_with (running_machine says m) (running_shards says (slice_set m.shards.items place new)) (slice_set m.opened.items k (first + length block)) counts

  -- The rank's next block may be opened on its shard: by the number of its first call, the place of the shard, the block, and the shard, as the
  -- code has them. With the block opened there the machine is the one with the block opened, and with its first atom made the one after the step.
  pub record CanOpen (first place : ℕ) (block : List Call) (item : ShardState C V) : Type 0 where
    pub has : slice_get m.shards.items place ≡ Some item
    pub ranks : k < length item.flat.views.items
    pub is_good : IsGood says item
    pub few : length block ≤ 8
    pub behind : first + length block ≤ 20000
    pub closed : OfView item.flat.views.items k (λ x. ((says item.core).table.own x).is_open ≡ false)
    pub fits : OfView item.flat.views.items k (λ x. MayOpen (says item.core).table k x block first)
    pub opened : (new : ShardState C V) → running_shard says new ≡ opened_on k block first (running_shard says item) →
        with_block first place block new m.steps ≡ opened_if (running_machine says m) k true
    pub made : (new : ShardState C V) (step : ℕ) (answer : Stepped) (counts : Steps) → step ≡ steps_made m.steps →
        running_shard says new ≡ block_on k step block first (running_shard says item) → answer ≡ answer_on k (opened_on k block first (running_shard says item)) →
        counts ≡ counted answer m.steps → with_block first place block new counts ≡ stepped (running_machine says m) k
    pub told : (answer : Stepped) → answer ≡ answer_on k (opened_on k block first (running_shard says item)) → answer ≡ answer_of_step (running_machine says m) k
    pub stands : place_after m.geom (get_or m.ops.by_rank k []) (slice_index (slice_set m.opened.items k (first + length block)) k) ≡ place

  -- so its shard is there, and each value that the code reads in that place is such a shard
  pub record CanOpenAt (first place : ℕ) (block : List Call) : Type 0 where
    pub there : place < length m.shards.items
    pub on : (item : ShardState C V) → item ≡ get_or m.shards.items place item → CanOpen first place block item

  -- the block stands in the code's lists, by the number of its first call, and whatever the code reads of it is so
  pub record IsBlockThere (first : ℕ) : Type 0 where
    pub sized : k < length m.ops.sizes
    pub begins : first < length (get_or m.ops.sizes k [])
    pub within : first + slice_index (get_or m.ops.sizes k []) first ≤ length (get_or m.ops.by_rank k [])
    pub goes : (place : ℕ) (block : List Call) → block ≡ block_from (get_or m.ops.by_rank k []) (get_or m.ops.sizes k []) first → place ≡ block_shard m.geom block → CanOpenAt first place block

module _ {C V : Type 0} (says : C → CoreSays V) (laws : LawsOf says)
    (m : MachineState C V) (is : IsMachine says (machine_view m)) (k : ℕ) (h : k < length m.ops.by_rank) (e : opens (running_machine says m) k ≡ true) where
  abbrev run : Running V
  run = running_machine says m

  abbrev n : ℕ
  n = slice_index m.opened.items k

  abbrev block : List Call
  block = next_block run k

  abbrev place : ℕ
  place = block_shard m.geom block

  -- the calls opened then
  abbrev opened_then : List ℕ
  opened_then = slice_set m.opened.items k (n + length block)

  o : OpensAt says laws (cores_of (machine_view m)) is.acts run k
  o = opens_at says laws (cores_of (machine_view m)) is.acts run k is.is_good h e

  block_same : block ≡ o.next.block
  block_same = block_is m.geom (calls_by run k) (sizes_by run k) n o.next

  place_same : place ≡ o.next.is_block.shard
  place_same = ap (block_shard m.geom) block_same ∙ block_at m.geom (calls_by run k) (sizes_by run k) n o.next

  record IsListed : Type 0 where
    sized : k < length m.ops.sizes
    begins : n < length (get_or m.ops.sizes k [])
    within : n + slice_index (get_or m.ops.sizes k []) n ≤ length (get_or m.ops.by_rank k [])
    few : length block ≤ 8
    behind : n + length block ≤ 20000
    there : place < length m.shards.items
    opened : k < length m.opened.items

  listed : IsListed
  listed =
      let calls = calls_by run k in
      let sizes = sizes_by run k in
      let asked = o.next.is_block.is_asked in
      let some : 1 ≤ length o.next.block = asked.some in
      let eight : length o.next.block ≤ 8 = asked.few in
      let size : slice_index sizes n ≡ length o.next.block = size_is m.geom calls sizes n o.next in
      let begun : n < length sizes = is_begun sizes n (omega arith) in
      let in_all : n + length o.next.block ≤ length calls = inside m.geom calls sizes n o.next in
      let all : length calls ≤ 20000 = few_calls m.ops.by_rank k 20000 is.few in
      let same : length block ≡ length o.next.block = ap (λ (b : List Call). length b) block_same in
      record {
        sized = is_listed m.ops.sizes k (omega arith);
        begins = begun;
        within = omega arith;
        few = omega arith;
        behind = omega arith;
        there = let at = place_same in let t = o.next.is_block.there in let a = many says m is in omega arith;
        opened = let a = is.is_good.all_opened in omega arith;
      }

  module _ (item : ShardState C V) (has : slice_get m.shards.items place ≡ Some item) where
    abbrev S : ShardRun V
    S = running_shard says item

    same_shard : o.found.shard ≡ S
    same_shard = one_at run.shards o.next.is_block.shard o.found.shard S o.found.has (ap (slice_get run.shards) (sym place_same) ∙ (is_there says m is place item has).has)

    same_view : (x : V) → slice_get item.flat.views.items k ≡ Some x → o.view ≡ x
    same_view x hx = one_at o.found.shard.views k o.view x o.has_view (ap (λ (z : ShardRun V). slice_get z.views k) same_shard ∙ hx)

    -- the machine with the block opened there
    opened_is : (S' : ShardRun V) → S' ≡ opened_on k block n S → machine_with run (slice_set run.shards place S') opened_then m.steps ≡ opened_if run k true
    opened_is S' made =
        ap (λ z. machine_with run (slice_set run.shards place z) opened_then m.steps) made
        ∙ sym (ap (λ z. machine_with run (changed_if run.shards place (opened_on k block n) z) opened_then m.steps) (is_there says m is place item has).has)

    -- and with the atom made too
    stepped_is : (S' : ShardRun V) (answer : Stepped) → S' ≡ block_on k (steps_made m.steps) block n S → answer ≡ answer_on k (opened_on k block n S) →
        (machine_with run (slice_set run.shards place S') opened_then (counted answer m.steps) ≡ stepped run k) × (answer ≡ answer_of_step run k)
    unfolding o
    stepped_is S' answer made told =
        let step : ℕ = steps_made m.steps in
        let there : ℕ = o.next.is_block.shard in
        let q = step_is says laws (cores_of (machine_view m)) is.acts run k is.is_good h e S' answer
        (made ∙ ap (λ b. block_on k step b n S) block_same ∙ ap (block_on k step o.next.block n) (sym same_shard))
        (told ∙ ap (λ b. answer_on k (opened_on k b n S)) block_same ∙ ap (λ z. answer_on k (opened_on k o.next.block n z)) (sym same_shard)) in (
          ap (λ s. machine_with run (slice_set run.shards s S') opened_then (counted answer m.steps)) place_same
              ∙ ap (λ (b : List Call). machine_with run (slice_set run.shards there S') (slice_set m.opened.items k (n + length b)) (counted answer m.steps)) block_same ∙ q.0,
          q.1,
        )

    set_is : (new : ShardState C V) (counts : Steps) → with_block says m k n place block new counts ≡ machine_with run (slice_set run.shards place (running_shard says new)) opened_then counts
    set_is new counts = ap (λ z. machine_with run z opened_then counts) (shard_set says m.shards.items place new)

    stands_then : place_after m.geom (get_or m.ops.by_rank k []) (slice_index opened_then k) ≡ place
    stands_then =
        let at_k : slice_index opened_then k ≡ n + length block = get_or-set_same m.opened.items k (n + length block) 0 listed.opened in
        ap (place_after m.geom (calls_by run k)) (at_k ∙ ap (λ (b : List Call). n + length b) block_same) ∙ stands_at m.geom (calls_by run k) (sizes_by run k) n o.next ∙ sym place_same

    can_open_there : CanOpen says m k n place block item
    can_open_there =
        let t = is_there says m is place item has in
        record {
          has = has;
          ranks = let all = t.ranks in omega arith;
          is_good = t.is_good;
          few = listed.few;
          behind = listed.behind;
          closed = λ x hx. subst (λ (z : ShardRun V). (z.table.own x).is_open ≡ false) same_shard (subst (λ y. (o.found.shard.table.own y).is_open ≡ false) (same_view x hx) o.shut);
          fits = λ x hx. subst (λ b. MayOpen S.table k x b n) (sym block_same)
              (subst (λ (z : ShardRun V). MayOpen z.table k x o.next.block n) same_shard (subst (λ (y : V). MayOpen o.found.shard.table k y o.next.block n) (same_view x hx) o.fits));
          opened = λ new is_new. set_is new m.steps ∙ opened_is (running_shard says new) is_new;
          made = λ new step answer counts now is_new told is_count.
              set_is new counts ∙ ap (machine_with run (slice_set run.shards place (running_shard says new)) opened_then) is_count
              ∙ (stepped_is (running_shard says new) answer (is_new ∙ ap (λ i. block_on k i block n S) now) told).0;
          told = λ answer told. (stepped_is (block_on k (steps_made m.steps) block n S) answer refl told).1;
          stands = stands_then;
        }

  -- the same of what the code has
  can_open : (first at : ℕ) (b : List Call) → first ≡ n → b ≡ block_from (get_or m.ops.by_rank k []) (get_or m.ops.sizes k []) first → at ≡ block_shard m.geom b → CanOpenAt says m k first at b
  can_open first at b e1 e2 e3 =
      let same : b ≡ block = e2 ∙ ap (block_from (get_or m.ops.by_rank k []) (get_or m.ops.sizes k [])) e1 in
      let same_place : at ≡ place = e3 ∙ ap (block_shard m.geom) same in
      let here : CanOpenAt says m k n place block =
      record { there = listed.there; on = λ item value. can_open_there item (slice_get-get_or m.shards.items place item listed.there ∙ ap Some (sym value)) } in
      subst (λ f. CanOpenAt says m k f at b) (sym e1) (subst (λ c. CanOpenAt says m k n at c) (sym same) (subst (λ p. CanOpenAt says m k n p block) (sym same_place) here))

  -- the number of its first call is read of the list of calls opened
  pub block_there : (first : ℕ) → first ≡ get_or m.opened.items k first → IsBlockThere says m k first
  block_there first read =
      let sizes = get_or m.ops.sizes k [] in
      let e : first ≡ n = get_or_read m.opened.items k first listed.opened read 0 in
      record {
        sized = listed.sized;
        begins = subst (λ i. i < length sizes) (sym e) listed.begins;
        within = subst (λ i. i + slice_index sizes i ≤ length (get_or m.ops.by_rank k [])) (sym e) listed.within;
        goes = λ place block is at. can_open first place block e is at;
      }
