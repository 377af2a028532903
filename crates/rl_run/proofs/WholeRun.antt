-- A run of a placement's ranks, from the shards that were made to the report.
use Rattle.std.proofs.Common.{◌≡◌, ℕ, suc, ◌<◌, ◌≤◌, ◌^◌, List, [], ◌∷◌, All, get_or, length, map, None, refl, sym, ap, subst, ◌∙◌, arith, vec_len, ◌++◌, append_assoc, ◌+◌, take, Some, Vec, Global}
use Rattle.std.specs.List.{slice_get}
use Rattle.std.proofs.lemmas.Option.{slice_get-get_or, slice_get_within, get_or_from_slice_get}
use Rattle.std.proofs.lemmas.List.{length-map, map-append, take_more}
use Rattle.std.proofs.lemmas.List.Elements.{All-cons, All-nil, All-tail}
use Rattle.rl_word.specs.Shapes.{TheShape}
use Rattle.rl_word.specs.laws.Places.{get_map, some_at}
use Rattle.rl_word.specs.declared.locks.LockName.{LockName}
use Rattle.rl_word.specs.declared.shapes.Knobs.{Knobs}
use Rattle.rl_model.specs.declared.call.Call.{Call}
use Rattle.rl_model.specs.declared.geom.Geom.{Geom}
use Rattle.rl_core.specs.ShardTables.{ShardTable}
use Rattle.rl_core.specs.Moments.{CoreSays}
use Rattle.rl_step.specs.LockQueues.{queues_of, readers_share, lock_under, spares_gets}
use Rattle.rl_place.specs.LockWords.{name_of}
use Rattle.rl_place.specs.Places.{ThePlace, IsProper}
use Rattle.rl_place.specs.Shapes.{shape_of, knobs_of}
use Rattle.rl_ops.specs.declared.ops.Ops.{Ops}
use Rattle.rl_journal.specs.Blocks.{is_tenure}
use Rattle.rl_site.specs.Site.{Site}
use Rattle.std.specs.Prelude.{Bool, false, slice_index}
use Rattle.rl_ops.specs.Ops.{OpsFit, EachOfBlocks, total_calls}
use Rattle.rl_core.specs.laws.OpsBridge.{each_blocks}
use Rattle.rl_core.specs.laws.AskLaws.{few_calls}
use Rattle.rl_report.specs.declared.report.Done.{Done}
use Rattle.rl_report.specs.Reports.{TheShard}
use Rattle.rl_report.specs.Lawful.{IsLawful}
use Rattle.rl_shard.specs.declared.closed.Closed.{Closed}
use Rattle.rl_shard.specs.declared.shard.Shard.{Shard}
use Rattle.rl_shard.specs.declared.seat.Seat.{Seat}
use Rattle.rl_shard.specs.Shards.{IsShardOf}
use Rattle.rl_run.specs.declared.caller.Caller.{Caller}
use Rattle.rl_run.specs.Told.{ToldNumbersFit, AreClosedShards, all_done, part_of}
use Rattle.rl_run.specs.Runs.{AreNew, AreCallers, HaveBegun, HasRun, CallerMayWork, made_of, table_for, table_of, site_in, wanted, told}
use Rattle.rl_run.specs.laws.RunLaws.{are_callers, wanted_long}
use Rattle.rl_run.specs.laws.EndLaws.{closed_shards}
use Rattle.rl_run.specs.laws.ReportLaws.{updates_few, lawful}

-- as many lists of sizes as of calls
pub sizes_long : (shards : ℕ) (lists : List (List Call)) (sizes : List (List ℕ)) → EachOfBlocks shards lists sizes → length sizes ≡ length lists
sizes_long shards [] [] each = refl
sizes_long shards [] (s ∷ sizes) each = absurd each
sizes_long shards (c ∷ lists) [] each = absurd each
sizes_long shards (c ∷ lists) (s ∷ sizes) each = ap suc (sizes_long shards lists sizes each.1)

module _ {C V : Type 0} (D : TheShape → ℕ → Knobs → Site → ShardTable V) (says : C → CoreSays V)
    (place : ThePlace) (ops : Ops) (proper : IsProper place) (fit : OpsFit (length place.paths) place.geom.shards ops)
    (shape : TheShape) (knobs : Knobs) (geom : Geom) (homes : List ℕ) (shape_is : shape ≡ shape_of place) (knobs_is : knobs ≡ knobs_of place.lock) (geom_is : geom ≡ place.geom) (homes_is : homes ≡ place.homes)
    (shards : List (Shard C V)) (rows : List (List (Seat C V))) (new : AreNew D says (table_for shape knobs geom homes ops.by_rank) shards rows) (all : length shards ≡ geom.shards)
    (batches : Bool) (has_batches : (shape : TheShape) (home : ℕ) (knobs : Knobs) (site : Site) → (D shape home knobs site).batches ≡ batches) (alone : batches ≡ false → (k i : ℕ) → slice_index (get_or ops.sizes k []) i ≤ 1) where
  long : length ops.sizes ≡ length ops.by_rank
  long = sizes_long place.geom.shards ops.by_rank ops.sizes fit.blocks

  new_place : AreNew D says (table_of place ops) shards rows
  new_place =
      subst (λ h. AreNew D says (table_for (shape_of place) (knobs_of place.lock) place.geom h ops.by_rank) shards rows) homes_is
      (subst (λ g. AreNew D says (table_for (shape_of place) (knobs_of place.lock) g homes ops.by_rank) shards rows) geom_is
      (subst (λ k. AreNew D says (table_for (shape_of place) k geom homes ops.by_rank) shards rows) knobs_is
      (subst (λ s. AreNew D says (table_for s knobs geom homes ops.by_rank) shards rows) shape_is new)))

  all_place : length shards ≡ place.geom.shards
  all_place = all ∙ ap (λ g. g.shards) geom_is

  module _ (cs : List (Caller C V)) (made : map made_of cs ≡ wanted place.geom 0 ops.by_rank ops.sizes rows) where
    as_many : length cs ≡ length ops.by_rank
    as_many = sym (length-map cs made_of) ∙ ap length made ∙ wanted_long place.geom 0 ops.by_rank ops.sizes rows long new_place.ranks

    are_callers_of : All (CallerMayWork says) cs → AreCallers says shards cs
    are_callers_of may =
        are_callers D says (table_of place ops) ops.sizes shards rows new_place proper.geom all_place long
        (λ k. let f = few_calls ops.by_rank k 20000 fit.few in omega arith) (each_blocks place.geom proper.geom ops.by_rank ops.sizes fit.blocks)
        (λ s w gw e. alone (sym (ap (λ z. z.batches) (new_place.each s w gw).table_is ∙ has_batches (shape_of place) (get_or place.homes s 0) (knobs_of place.lock) (site_in (table_of place ops) s)) ∙ e)) cs made may

    rooted : All (IsShardOf says (length cs)) shards
    rooted k d within = subst (λ n. IsShardOf says n (get_or shards k d)) (sym as_many) (new_place.each k (get_or shards k d) (slice_get-get_or shards k d within)).is_shard

    pub begun : All (CallerMayWork says) cs → HaveBegun D says place ops shards cs
    begun may = record { rows = rows; new = new_place; all = all_place; made = made; rooted = rooted; callers = are_callers_of may }

module _ {C V : Type 0} (D : TheShape → ℕ → Knobs → Site → ShardTable V) (says : C → CoreSays V)
    (place : ThePlace) (ops : Ops) (proper : IsProper place) (fit : OpsFit (length place.paths) place.geom.shards ops)
    (shards : List (Shard C V)) (cs : List (Caller C V)) (begun : HaveBegun D says place ops shards cs)
    (name : LockName) (kind : name ≡ lock_under (name_of place.lock)) (has_queues : (shape : TheShape) (home : ℕ) (knobs : Knobs) (site : Site) → (D shape home knobs site).queues ≡ queues_of name shape home knobs)
    (spares : Bool → Bool) (has_tenures : (shape : TheShape) (home : ℕ) (knobs : Knobs) (site : Site) → (D shape home knobs site).tenure ≡ is_tenure (spares (readers_share name))) (as_told : spares (readers_share name) ≡ spares_gets (name_of place.lock)) (ends : List Closed) (run : HasRun says shards cs ends) where
  are : AreClosedShards place ops (map told ends)
  are = closed_shards D name says has_queues spares has_tenures place ops kind as_told proper fit (sizes_long place.geom.shards ops.by_rank ops.sizes fit.blocks) shards begun.rows begun.new begun.all cs begun.made ends run

  pub short : (k : ℕ) (d : Closed) → k < length ends → vec_len (get_or ends k d).journal < 2 ^ 32
  short k d within =
      let e : Closed = get_or ends k d in
      let there : slice_get (map told ends) k ≡ _ = get_map told ends k e (slice_get-get_or ends k d within) in
      let n : length (map told ends) ≡ length ends = length-map ends told in
      let home = some_at place.homes k (let a = are.all in let b = proper.each_shard in omega arith) in
      let few : length e.journal.items ≤ 20000 = updates_few place ops proper fit (map told ends) are k home.0 (told e) home.1 there in
      let ok = e.journal.ok in
      omega (arith, ok, few)

  pub run_lawful : (parts : List TheShard) (done : List Done) → parts ≡ map part_of (map told ends) → done ≡ all_done ops → All ToldNumbersFit (map told ends) → IsLawful place ops (record { shards = parts; done = done; steps = None })
  run_lawful parts done parts_are done_is numbers =
      subst (λ p. IsLawful place ops (record { shards = p; done = done; steps = None })) (sym parts_are)
      (subst (λ d. IsLawful place ops (record { shards = map part_of (map told ends); done = d; steps = None })) (sym done_is) (lawful place ops proper fit (map told ends) are numbers))

-- ---- the parts of the report, one after the other

abbrev IsShort : Closed → Type 0
IsShort e = vec_len e.journal < 2 ^ 32

pub next_part : (ends rest all : List Closed) (e : Closed) (p : TheShard) (parts : List TheShard) → ends ≡ e ∷ rest → p ≡ part_of (told e) → ToldNumbersFit (told e) → All IsShort ends →
    parts ++ map part_of (map told ends) ≡ map part_of (map told all) → (All ToldNumbersFit (map told ends) → All ToldNumbersFit (map told all)) →
    All IsShort rest × ((parts ++ p ∷ []) ++ map part_of (map told rest) ≡ map part_of (map told all)) × (All ToldNumbersFit (map told rest) → All ToldNumbersFit (map told all))
next_part ends rest all e p parts is part fit short so_far numbers = (
  All-tail IsShort e rest (subst (All IsShort) is short),
  append_assoc parts (p ∷ []) (map part_of (map told rest)) ∙ ap (λ z. parts ++ z ∷ map part_of (map told rest)) part ∙ ap (λ l. parts ++ map part_of (map told l)) (sym is) ∙ so_far,
  λ others. numbers (subst (λ l. All ToldNumbersFit (map told l)) (sym is) (All-cons ToldNumbersFit (told e) (map told rest) fit others)),
)

pub none_left : (ends all : List Closed) → length ends ≡ 0 → (All ToldNumbersFit (map told ends) → All ToldNumbersFit (map told all)) → All ToldNumbersFit (map told all)
none_left [] all e numbers = numbers (All-nil ToldNumbersFit)
none_left (x ∷ ends) all e numbers = absurd (omega (arith, e))

-- ---- what each rank has done

abbrev pub done_all : List Call → Done
done_all calls = record { done = length calls; given = length calls }

pub next_done : (lists : List (List Call)) (i n : ℕ) (calls : List Call) (dones : List Done) → slice_get lists i ≡ Some calls → n ≡ length calls → dones ≡ map done_all (take i lists) →
    dones ++ record { done = n; given = n } ∷ [] ≡ map done_all (take (i + 1) lists)
next_done lists i n calls dones get e so_far =
    ap (λ l. l ++ record { done = n; given = n } ∷ []) so_far
    ∙ ap (λ (m : ℕ). map done_all (take i lists) ++ record { done = m; given = m } ∷ []) e
    ∙ ap (λ c. map done_all (take i lists) ++ done_all c ∷ []) (sym (get_or_from_slice_get lists i calls [] get))
    ∙ sym (map-append done_all (take i lists) (get_or lists i [] ∷ []))
    ∙ ap (map done_all) (sym (take_more lists i [] (slice_get_within lists i calls get)))

pub few_here : (lists : List (List Call)) (i : ℕ) (calls : List Call) → slice_get lists i ≡ Some calls → total_calls lists ≤ 20000 → length calls ≤ 20000
few_here lists i calls get few = subst (λ (l : List Call). length l ≤ 20000) (get_or_from_slice_get lists i calls [] get) (few_calls lists i 20000 few)

pub item_is : (xs : List (Vec Call Global)) (lists : List (List Call)) (i : ℕ) (v : Vec Call Global) → map (λ list. list.items) xs ≡ lists → i < length xs → v ≡ get_or xs i v → slice_get lists i ≡ Some v.items
item_is xs lists i v are within is = ap (λ l. slice_get l i) (sym are) ∙ get_map (λ (list : Vec Call Global). list.items) xs i v (slice_get-get_or xs i v within ∙ ap Some (sym is))
