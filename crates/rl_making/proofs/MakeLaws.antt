-- The run over a placement and calls: its start, its shards and its ranks; and the summary of a run that was made from a number.
use Rattle.std.proofs.Common.{◌≡◌, ◌≤◌, ℕ, ◌+◌, ◌/◌, Bool, true, false, List, [], ◌∷◌, length, map, get_or, slice_get, slice_index, Some, ap, sym, subst, ◌∙◌}
use Rattle.std.proofs.lemmas.List.{length-map}
use Rattle.std.proofs.lemmas.List.FromFn.{length-map-range_with_len}
use Rattle.rl_word.specs.laws.Places.{get_map, get_map_back}
use Rattle.rl_word.specs.Shapes.{TheShape}
use Rattle.rl_word.specs.declared.shapes.Knobs.{Knobs}
use Rattle.rl_model.specs.declared.call.Call.{Call}
use Rattle.rl_model.specs.declared.geom.Geom.{Geom}
use Rattle.rl_place.specs.Paths.{path_of}
use Rattle.rl_place.specs.Places.{ThePlace}
use Rattle.rl_place.specs.Shapes.{shape_of, knobs_of}
use Rattle.rl_ops.specs.declared.ops.Ops.{Ops}
use Rattle.rl_ops.specs.Ops.{total_calls, OpsFit}
use Rattle.rl_ops.specs.Room.{calls_on}
use Rattle.rl_text.specs.Spelling.{text_of}
use Rattle.rl_site.specs.Site.{Site}
use Rattle.rl_machine.specs.Running.{ShardRun, Running}
use Rattle.rl_machine.specs.Start.{site_of, start_of}
use Rattle.rl_core.specs.laws.Filling.{first_length}
use Rattle.rl_machine.specs.laws.StartLaws.{shard_first, shards_length}
use Rattle.rl_locks.specs.Kinds.{Defined, alock}
use Rattle.rl_locks.specs.Runs.{start_with}
use Rattle.rl_reporting.specs.Reported.{queue_count, report_in}
use Rattle.rl_making.specs.Generate.{made_place, made_ops}
use Rattle.rl_making.specs.Laps.{all_laps}
use Rattle.rl_making.specs.Summary.{TheCounts, counts_in, summary_lines, made_summary}
use Rattle.rl_making.specs.Counting.{IsSmall}
use Rattle.rl_machine.specs.laws.Alike.{table_in, views_in, IsAlike}

module _ {V : Type 0} (defined : Defined V) (place : ThePlace) (ops : Ops) where
  abbrev first : Running V
  first = start_with defined place ops

  -- the start, by the parts of the placement
  pub start_is : (shape : TheShape) (knobs : Knobs) (geom : Geom) (homes : List ℕ) → shape ≡ shape_of place → knobs ≡ knobs_of place.lock → geom ≡ place.geom → homes ≡ place.homes →
      start_of defined shape knobs geom homes ops ≡ first
  start_is shape knobs geom homes shape_is knobs_is geom_is homes_are =
      ap (λ s. start_of defined s knobs geom homes ops) shape_is ∙ ap (λ k. start_of defined (shape_of place) k geom homes ops) knobs_is
      ∙ ap (λ g. start_of defined (shape_of place) (knobs_of place.lock) g homes ops) geom_is ∙ ap (λ hs. start_of defined (shape_of place) (knobs_of place.lock) place.geom hs ops) homes_are

  -- laps from a start that was made from the parts of the placement
  pub laps_from : (inside : ThePlace) (shape : TheShape) (knobs : Knobs) (homes : List ℕ) (most : ℕ) (start end : Running V) → inside ≡ place → shape ≡ shape_of place → knobs ≡ knobs_of place.lock → homes ≡ inside.homes →
      start ≡ start_of defined shape knobs inside.geom homes ops → end ≡ all_laps most start → end ≡ all_laps most first
  laps_from inside shape knobs homes most start end same shape_is knobs_is homes_are made run =
      run ∙ ap (all_laps most) (made ∙ start_is shape knobs inside.geom homes shape_is knobs_is (ap (λ (p : ThePlace). p.geom) same) (homes_are ∙ ap (λ (p : ThePlace). p.homes) same))

  -- there are as many shards as homes
  pub as_many_shards : (m : Running V) → IsAlike m first → length m.shards ≡ length place.homes
  as_many_shards m alike =
      sym (length-map m.shards table_in) ∙ ap length alike.tables ∙ length-map first.shards table_in
      ∙ shards_length (λ home. defined (shape_of place) home (knobs_of place.lock)) (shape_of place).nodes place.geom ops.by_rank 0 place.homes

  -- a view for each rank at the start
  first_seats : (s : ℕ) (S : ShardRun V) → slice_get first.shards s ≡ Some S → views_in S ≡ length ops.by_rank
  first_seats s S has =
      let T = λ (home : ℕ) (site : Site). defined (shape_of place) home (knobs_of place.lock) site in
      let made = shard_first T (shape_of place).nodes place.geom ops.by_rank 0 place.homes s S has in
      let rooms = map (calls_on place.geom (0 + s)) ops.by_rank in
      ap views_in made.2 ∙ first_length (T made.0 (site_of place.geom ops.by_rank (0 + s))) 0 rooms ∙ length-map ops.by_rank (calls_on place.geom (0 + s))

  -- and after a run, and the calls are few
  pub is_small : (m : Running V) (ranks shards : ℕ) → IsAlike m first → OpsFit ranks shards ops → IsSmall m
  is_small m ranks shards alike fit =
      record {
        views = λ s S has.
            let here : slice_get (map views_in m.shards) s ≡ Some (views_in S) = get_map views_in m.shards s S has in
            let old = get_map_back views_in first.shards s (views_in S) (subst (λ (l : List ℕ). slice_get l s ≡ Some (views_in S)) alike.views here) in
            sym old.2 ∙ first_seats s old.0 old.1 ∙ ap length (sym alike.calls);
        few = subst (λ (l : List (List Call)). total_calls l ≤ 20000) (sym alike.calls) fit.few;
      }

-- there are so many paths
pub as_many_paths : (ranks : ℕ) (place : ThePlace) → place ≡ made_place ranks → length place.paths ≡ ranks
as_many_paths ranks place is = ap (λ (p : ThePlace). length p.paths) is ∙ length-map-range_with_len (λ rank. path_of (rank / 4 ∷ [])) 0 ranks

-- the summary, by the placement, the calls and what is counted
pub summary_is : (number ranks calls : ℕ) (place : ThePlace) (ops : Ops) (counts : TheCounts) → place ≡ made_place ranks → ops ≡ made_ops number ranks calls →
    counts ≡ counts_in (report_in (queue_count place) (all_laps 2000000 (start_with alock.defined place ops))) → text_of (summary_lines ranks calls counts) ≡ made_summary number ranks calls
summary_is number ranks calls place ops counts p o c =
    ap (λ (z : TheCounts). text_of (summary_lines ranks calls z)) (c
    ∙ ap (λ (q : ThePlace). counts_in (report_in (queue_count q) (all_laps 2000000 (start_with alock.defined q ops)))) p
    ∙ ap (λ (x : Ops). counts_in (report_in (queue_count (made_place ranks)) (all_laps 2000000 (start_with alock.defined (made_place ranks) x)))) o)

-- where batches are done blocks may have any sizes
pub any_sizes : (batches : Bool) (sizes : List (List ℕ)) → batches ≡ true → batches ≡ false → (k i : ℕ) → slice_index (get_or sizes k []) i ≤ 1
any_sizes batches sizes on off k i = absurd (let both : true ≡ false = sym on ∙ off in cc)
