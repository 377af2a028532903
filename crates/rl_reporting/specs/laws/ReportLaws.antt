-- The parts of a report, one by one.
use Rattle.std.proofs.Common.{◌≡◌, ℕ, zero, suc, ◌+◌, ◌<◌, ◌≤◌, List, [], ◌∷◌, ◌++◌, length, drop, get_or, map, take, slice_get, Some, Vec, Global, refl, ap, sym, ◌∙◌, arith, add-one}
use Rattle.std.proofs.lemmas.List.{length-map, map-append, take_more}
use Rattle.std.proofs.lemmas.Option.{same_Some, slice_get-get_or, slice_get_within, get_or_from_slice_get}
use Rattle.rl_word.specs.laws.Places.{get_map, get_map_back, some_at}
use Rattle.rl_model.specs.declared.call.Call.{Call}
use Rattle.rl_model.specs.declared.entry.Entry.{Entry}
use Rattle.rl_core.specs.Desks.{desk_entries}
use Rattle.rl_core.specs.ShardTables.{ShardTable, kept_in}
use Rattle.rl_core.specs.RankGood.{entries_in}
use Rattle.rl_machine.specs.Running.{ShardRun, Running}
use Rattle.rl_machine.specs.ShardSteps.{desk_at, kept_on}
use Rattle.rl_machine.specs.Run.{done_of, on_shard}
use Rattle.rl_machine.specs.Records.{transcripts_at}
use Rattle.rl_machine.specs.laws.RecordLaws.{kept_long, counted_more, counted_within}
use Rattle.rl_machine.specs.Promises.{transcripts_on, IsSound}
use Rattle.rl_reporting.specs.Lists.{lists_in}
use Rattle.rl_reporting.specs.Reported.{dones_from}

-- the line of one rank more
pub dones-more : {V : Type 0} (m : Running V) (lists : List (List Call)) (i : ℕ) → i < length lists →
    dones_from m 0 (take (i + 1) lists) ≡ dones_from m 0 (take i lists) ++ record { done = done_of m i; given = length (get_or lists i []) } ∷ []
dones-more m lists i low = rw add-one (more (get_or lists i []) 0 lists i (slice_get-get_or lists i [] low) (omega arith)) where
  more : (calls : List Call) (from : ℕ) (lists : List (List Call)) (k : ℕ) → slice_get lists k ≡ Some calls → from + k ≡ i →
      dones_from m from (take (suc k) lists) ≡ dones_from m from (take k lists) ++ record { done = done_of m i; given = length calls } ∷ []
  more calls from [] k has at = absurd cc
  more calls from (x ∷ lists) zero has at =
      let here : from ≡ i = omega (arith, at) in
      let same : x ≡ calls = same_Some x calls has in
      ap (λ n. record { done = done_of m n; given = length x } ∷ []) here ∙ ap (λ c. record { done = done_of m i; given = length c } ∷ []) same
  more calls from (x ∷ lists) (suc k) has at =
      let next : (from + 1) + k ≡ i = omega (arith, at) in
      ap (λ z. record { done = done_of m from; given = length x } ∷ z) (more calls (from + 1) lists k has next)

-- ---- transcripts

module _ {V : Type 0} where
  kept_is : (T : ShardTable V) (words : List ℕ) (from : ℕ) (views : List V) (k : ℕ) →
      desk_entries (desk_at T words (from + k) (slice_get views k)) ≡ get_or (kept_in T words from views) k []
  kept_is T words from [] k = refl
  kept_is T words from (x ∷ views) zero =
      let at : from + 0 ≡ from = omega arith in
      ap (λ n. desk_entries (T.desk words n x)) at
  kept_is T words from (x ∷ views) (suc k) =
      let at : from + suc k ≡ (from + 1) + k = omega arith in
      ap (λ n. desk_entries (desk_at T words n (slice_get views k))) at ∙ kept_is T words (from + 1) views k

  -- what a rank did on a shard, among the shard's transcripts
  pub kept_told : (S : ShardRun V) (k : ℕ) → kept_on k S ≡ get_or (transcripts_on S) k []
  kept_told S k = (let at : k ≡ 0 + k = omega arith in ap (λ n. desk_entries (desk_at S.table S.held.words n (slice_get S.views k))) at)
      ∙ kept_is S.table S.held.words 0 S.views k

module _ {V : Type 0} (m : Running V) where
  abbrev of_shards : List (List (List Entry))
  of_shards = map transcripts_on m.shards

  -- those of one shard more
  pub told_more : (told : List (Vec (Vec Entry Global) Global)) (s : ℕ) (more : Vec (Vec Entry Global) Global) → s < length m.shards →
      map lists_in told ≡ take s of_shards → lists_in more ≡ transcripts_at m s →
      map lists_in (told ++ more ∷ []) ≡ take (s + 1) of_shards
  told_more told s more low so_far is =
      let S = some_at m.shards s low in
      let there : slice_get of_shards s ≡ Some (transcripts_on S.0) = get_map transcripts_on m.shards s S.0 S.1 in
      let same : transcripts_at m s ≡ transcripts_on S.0 = ap (on_shard [] transcripts_on) S.1 in
      map-append lists_in told (more ∷ []) ∙ ap (λ z. z ++ lists_in more ∷ []) so_far
      ∙ ap (λ t. take s of_shards ++ t ∷ []) (is ∙ same ∙ sym (get_or_from_slice_get of_shards s (transcripts_on S.0) [] there))
      ∙ sym (take_more of_shards s [] (slice_get_within of_shards s (transcripts_on S.0) there))

  -- those of a shard
  pub told_there : (told : List (Vec (Vec Entry Global) Global)) → map lists_in told ≡ of_shards →
      (s : ℕ) (ts : Vec (Vec Entry Global) Global) → slice_get told s ≡ Some ts → lists_in ts ≡ transcripts_at m s
  told_there told are s ts get =
      let there : slice_get of_shards s ≡ Some (lists_in ts) = ap (λ z. slice_get z s) (sym are) ∙ get_map lists_in told s ts get in
      let back = get_map_back transcripts_on m.shards s (lists_in ts) there in
      sym back.2 ∙ ap (on_shard [] transcripts_on) (sym back.1)

  -- as many shards
  pub told_shards : (told : List (Vec (Vec Entry Global) Global)) → map lists_in told ≡ of_shards → length told ≡ length m.shards
  told_shards told are = sym (length-map told lists_in) ∙ ap length are ∙ length-map m.shards transcripts_on

  -- a list for each rank
  pub told_long : (told : List (Vec (Vec Entry Global) Global)) → map lists_in told ≡ of_shards → IsSound m →
      (s : ℕ) (ts : Vec (Vec Entry Global) Global) → slice_get told s ≡ Some ts → length ts.items ≡ length m.calls
  told_long told are sound s ts get =
      let there : slice_get of_shards s ≡ Some (lists_in ts) = ap (λ z. slice_get z s) (sym are) ∙ get_map lists_in told s ts get in
      let back = get_map_back transcripts_on m.shards s (lists_in ts) there in
      sym (length-map ts.items (λ t. t.items)) ∙ ap length (sym back.2) ∙ kept_long back.0.table back.0.held.words 0 back.0.views ∙ sound.views s back.0 back.1

  after : (k : ℕ) (told : List (Vec (Vec Entry Global) Global)) (shards : List (ShardRun V)) →
      map lists_in told ≡ map transcripts_on shards → entries_in (map (λ t. get_or (lists_in t) k []) told) ≡ entries_in
      (map (kept_on k) shards)
  after k [] [] are = refl
  after k [] (S ∷ shards) are = absurd (cc)
  after k (t ∷ told) [] are = absurd (cc)
  after k (t ∷ told) (S ∷ shards) are =
      let head : lists_in t ≡ transcripts_on S = same_Some _ _ (ap (λ z. slice_get z 0) are) in
      let tail : map lists_in told ≡ map transcripts_on shards = ap (drop 1) are in
      let here : get_or (lists_in t) k [] ≡ kept_on k S = ap (λ z. get_or z k []) head ∙ sym (kept_told S k) in
      let long = ap length here in
      let rest = after k told shards tail in
      omega arith

  -- so a rank has done as many calls as it has entries among them
  pub done_told : (told : List (Vec (Vec Entry Global) Global)) → map lists_in told ≡ of_shards → (k : ℕ) →
      entries_in (map (λ t. get_or (lists_in t) k []) told) ≡ done_of m k
  done_told told are k = after k told m.shards are

  -- no more than it was given
  pub few_told : (told : List (Vec (Vec Entry Global) Global)) → map lists_in told ≡ of_shards → IsSound m → (k : ℕ) → k < length m.calls →
      entries_in (map (λ t. get_or (lists_in t) k []) told) ≤ length (get_or m.calls k [])
  few_told told are sound k low =
      let same = done_told told are k in
      let done = sound.done k low in
      let given = sound.given k low in
      omega arith

-- one shard more
module _ (rank : ℕ) where
  abbrev by_rank : Vec (Vec Entry Global) Global → List Entry
  by_rank ts = get_or (lists_in ts) rank []

  pub entries_there : (ts : Vec (Vec Entry Global) Global) (entries : Vec Entry Global) → slice_get ts.items rank ≡ Some entries → by_rank ts ≡ entries.items
  entries_there ts entries get = get_or_from_slice_get (lists_in ts) rank entries.items []
      (get_map (λ (t : Vec Entry Global). t.items) ts.items rank entries get)

  pub one_more : (told : List (Vec (Vec Entry Global) Global)) (s : ℕ) (ts : Vec (Vec Entry Global) Global) (entries : Vec Entry Global) →
      slice_get told s ≡ Some ts → slice_get ts.items rank ≡ Some entries →
      (entries_in (map by_rank (take (s + 1) told)) ≡ entries_in (map by_rank (take s told)) + length entries.items) ×
      (entries_in (map by_rank (take (s + 1) told)) ≤ entries_in (map by_rank told))
  one_more told s ts entries there get = (
    counted_more by_rank told s ts there ∙ ap (λ l. entries_in (map by_rank (take s told)) + length l) (entries_there ts entries get),
    counted_within by_rank told (s + 1),
  )
