-- What ranks have done is counted shard by shard, and told rank by rank.
use Rattle.std.specs.Prelude.{◌≡◌, ℕ, zero, suc, ◌+◌, ◌≤◌, ◌<◌, List, [], ◌∷◌, length, map, get_or, take, slice_get, slice_index, Some, refl}
use Rattle.std.proofs.Common.{◌∙◌, ap, sym, add-one, arith}
use Rattle.std.proofs.Math.Seq.{take-length}
use Rattle.std.proofs.lemmas.Option.{same_Some}
use Rattle.rl_word.specs.laws.Places.{some_at}
use Rattle.rl_model.specs.declared.entry.Entry.{Entry}
use Rattle.rl_core.specs.laws.AskLaws.{few_calls}
use Rattle.rl_core.specs.RankGood.{entries_in}
use Rattle.rl_core.specs.ShardTables.{ShardTable, kept_in as kept_from}
use Rattle.rl_core.specs.ShardLaws.{LawsOf}
use Rattle.rl_core.specs.Desks.{desk_entries}
use Rattle.rl_core.specs.Moments.{CoreSays}
use Rattle.rl_machine.specs.declared.shard.ShardState.{ShardState}
use Rattle.rl_machine.specs.declared.state.MachineState.{MachineState}
use Rattle.rl_machine.specs.Running.{ShardRun, Running, shard_run, cores_of}
use Rattle.rl_machine.specs.ShardSteps.{desk_at, kept_on}
use Rattle.rl_machine.specs.MachineGood.{IsMachine}
use Rattle.rl_machine.specs.State.{shard_view, machine_view, running_shard, running_machine}
use Rattle.rl_machine.specs.Promises.{IsSound, transcripts_on}
use Rattle.rl_machine.specs.laws.SoundLaws.{is_sound}
use Rattle.rl_machine.specs.Run.{calls_by, done_of}

-- entries counted list by list
module _ {X : Type 0} (kept : X → List Entry) where
  pub counted_more : (xs : List X) (i : ℕ) (x : X) → slice_get xs i ≡ Some x → entries_in (map kept (take (i + 1) xs)) ≡ entries_in (map kept (take i xs)) + length (kept x)
  counted_more xs i x get = rw add-one (more xs i get) where
    more : (xs : List X) (i : ℕ) → slice_get xs i ≡ Some x → entries_in (map kept (take (suc i) xs)) ≡ entries_in (map kept (take i xs)) + length (kept x)
    more [] i get = absurd (cc)
    more (y ∷ xs) zero get = let same : y ≡ x = same_Some _ _ get in let e : length (kept y) ≡ length (kept x) = ap (λ z. length (kept z)) same in omega arith
    more (y ∷ xs) (suc i) get = let e = more xs i get in omega arith

  pub counted_within : (xs : List X) (i : ℕ) → entries_in (map kept (take i xs)) ≤ entries_in (map kept xs)
  counted_within [] zero = omega arith
  counted_within [] (suc i) = omega arith
  counted_within (x ∷ xs) zero = omega arith
  counted_within (x ∷ xs) (suc i) = let e = counted_within xs i in omega arith

-- a rank's entries, shard of the code by shard
abbrev pub kept_in : {C V : Type 0} → (C → CoreSays V) → ℕ → ShardState C V → List Entry
kept_in says k item = kept_on k (running_shard says item)

pub all_kept : {C V : Type 0} (says : C → CoreSays V) (k : ℕ) (items : List (ShardState C V)) → map (kept_on k) (map (shard_run says) (map shard_view items)) ≡ map (kept_in says k) items
all_kept says k [] = refl
all_kept says k (x ∷ items) = ap (λ z. kept_in says k x ∷ z) (all_kept says k items)

module _ {C V : Type 0} (says : C → CoreSays V) (laws : LawsOf says)
    (m : MachineState C V) (is : IsMachine says (machine_view m)) (k : ℕ) (low : k < length m.ops.by_rank) where
  -- and they are no more than its calls
  few_done : entries_in (map (kept_in says k) m.shards.items) ≤ 20000
  few_done =
      let run : Running V = running_machine says m in
      let sound : IsSound run = is_sound says laws (cores_of (machine_view m)) is.acts run is.is_good in
      let done : done_of run k ≤ slice_index run.opened k = sound.done k low in
      let given : slice_index run.opened k ≤ length (calls_by run k) = sound.given k low in
      let few : length (get_or m.ops.by_rank k []) ≤ 20000 = few_calls m.ops.by_rank k 20000 is.few in
      let same : done_of run k ≡ entries_in (map (kept_in says k) m.shards.items) = ap entries_in (all_kept says k m.shards.items) in
      omega arith

  -- those so far, with those on the next shard, which are so many
  pub one_shard_more : (i : ℕ) (item : ShardState C V) (so_far more : ℕ) → slice_get m.shards.items i ≡ Some item →
      so_far ≡ entries_in (map (kept_in says k) (take i m.shards.items)) → more ≡ length (kept_in says k item) →
      (so_far + more ≡ entries_in (map (kept_in says k) (take (i + 1) m.shards.items))) × (so_far + more ≤ 20000)
  one_shard_more i item so_far more has counted long =
      let next = counted_more (kept_in says k) m.shards.items i item has in
      let part = counted_within (kept_in says k) m.shards.items (i + 1) in
      let all = few_done in
      (omega arith, omega arith)

-- those on all shards
pub on_all_shards : {C V : Type 0} (says : C → CoreSays V) (m : MachineState C V) (k i counted : ℕ) → i ≡ length m.shards.items →
    counted ≡ entries_in (map (kept_in says k) (take i m.shards.items)) → counted ≡ done_of (running_machine says m) k
on_all_shards says m k i counted all is =
    let items = m.shards.items in
    is ∙ ap (λ n. entries_in (map (kept_in says k) (take n items))) all ∙ ap (λ xs. entries_in (map (kept_in says k) xs)) (take-length items)
    ∙ sym (ap entries_in (all_kept says k items))

-- the entries of a rank are among those of all
pub kept_there : {V : Type 0} (T : ShardTable V) (words : List ℕ) (from r : ℕ) (vs : List V) (v : V) → slice_get vs r ≡ Some v →
    slice_get (kept_from T words from vs) r ≡ Some (desk_entries (T.desk words (from + r) v))
kept_there T words from r [] v e = absurd (cc)
kept_there T words from zero (x ∷ vs) v e =
    let at : from ≡ from + 0 = omega arith in ap (λ z. Some (desk_entries (T.desk words from z))) (same_Some _ _ e) ∙ ap (λ n. Some (desk_entries (T.desk words n v))) at
kept_there T words from (suc r) (x ∷ vs) v e = let at : (from + 1) + r ≡ from + suc r = omega arith in kept_there T words (from + 1) r vs v e ∙ ap (λ n. Some (desk_entries (T.desk words n v))) at

pub kept_long : {V : Type 0} (T : ShardTable V) (words : List ℕ) (from : ℕ) (vs : List V) → length (kept_from T words from vs) ≡ length vs
kept_long T words from [] = refl
kept_long T words from (x ∷ vs) = ap suc (kept_long T words (from + 1) vs)

pub kept_among : {V : Type 0} (S : ShardRun V) (k : ℕ) → k < length S.views → slice_get (transcripts_on S) k ≡ Some (kept_on k S)
kept_among S k low =
    let T = S.table in
    let words = S.held.words in
    let view = some_at S.views k low in
    let at : 0 + k ≡ k = omega arith in
    kept_there T words 0 k S.views view.0 view.1 ∙ ap (λ n. Some (desk_entries (T.desk words n view.0))) at
    ∙ sym (ap (λ o. Some (desk_entries (desk_at T words k o))) view.1)
