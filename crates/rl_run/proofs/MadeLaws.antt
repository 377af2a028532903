-- All callers are done and all shards closed: with which machine the report was made.
use Rattle.std.proofs.Common.{◌≡◌, ℕ, List, get_or, length, map, sym, ap, subst, ◌∙◌, arith}
use Rattle.std.specs.Prelude.{slice_get, Some, None}
use Rattle.std.proofs.lemmas.List.{length-map}
use Rattle.std.proofs.lemmas.Option.{slice_get_within, get_or_from_slice_get}
use Rattle.rl_word.specs.Shapes.{TheShape}
use Rattle.rl_word.specs.laws.Places.{get_map_back, some_at}
use Rattle.rl_word.specs.declared.shapes.Knobs.{Knobs}
use Rattle.rl_core.specs.ShardTables.{ShardTable}
use Rattle.rl_core.specs.Moments.{CoreSays}
use Rattle.rl_place.specs.Places.{ThePlace, IsProper}
use Rattle.rl_place.specs.Shapes.{shape_of, knobs_of}
use Rattle.rl_ops.specs.declared.ops.Ops.{Ops}
use Rattle.rl_ops.specs.Ops.{OpsFit}
use Rattle.rl_site.specs.Site.{Site}
use Rattle.rl_report.specs.declared.report.Done.{Done}
use Rattle.rl_report.specs.Reports.{TheShard}
use Rattle.rl_shard.specs.declared.closed.Closed.{Closed}
use Rattle.rl_shard.specs.declared.shard.Shard.{Shard}
use Rattle.rl_shard.specs.Reached.{IsLeftBehind}
use Rattle.rl_shard.specs.Ends.{IsEnd, transcripts_of, rooms_at}
use Rattle.rl_shard.specs.Shards.{says_at, table_at, desk_at}
use Rattle.rl_run.specs.declared.caller.Caller.{Caller}
use Rattle.rl_run.specs.Made.{IsLeftBy, IsRunBy}
use Rattle.rl_run.specs.laws.RowLaws.{ends_long}
use Rattle.rl_run.specs.Runs.{HaveBegun, HasRun, table_of, site_in, made_of, told}
use Rattle.rl_run.specs.laws.RunLaws.{wanted_long}
use Rattle.rl_run.specs.Told.{all_done, part_of}
use Rattle.rl_run.proofs.WholeRun.{sizes_long}

module _ {C V : Type 0} (D : TheShape → ℕ → Knobs → Site → ShardTable V) (says : C → CoreSays V)
    (place : ThePlace) (ops : Ops) (proper : IsProper place) (fit : OpsFit (length place.paths) place.geom.shards ops)
    (shards : List (Shard C V)) (cs : List (Caller C V)) (begun : HaveBegun D says place ops shards cs) (ends : List Closed) (run : HasRun says shards cs ends) where
  as_many : length cs ≡ length ops.by_rank
  as_many =
      sym (length-map cs made_of) ∙ ap length begun.made
      ∙ wanted_long place.geom 0 ops.by_rank ops.sizes begun.rows (sizes_long place.geom.shards ops.by_rank ops.sizes fit.blocks) begun.new.ranks

  all_ends : length ends ≡ length shards
  all_ends = ends_long (IsEnd says) shards run.rows ends run.ended

  abbrev machine : ℕ → ℕ → ShardTable V
  machine s home = D (shape_of place) home (knobs_of place.lock) (site_in (table_of place ops) s)

  left_by : (s home : ℕ) (e : Closed) → slice_get place.homes s ≡ Some home → slice_get ends s ≡ Some e → IsLeftBy (machine s home) (shape_of place).nodes (length ops.by_rank) (told e)
  left_by s home e gh ge =
      let w = some_at shards s (let h = slice_get_within ends s e ge in let a = all_ends in omega arith) in
      let q = run.at s w.0 e w.1 ge in
      let E : IsEnd says w.0 q.0 e = q.1 in
      let new = begun.new.each s w.0 w.1 in
      let home_is : get_or place.homes s 0 ≡ home = get_or_from_slice_get place.homes s home 0 gh in
      let table_is : table_at says w.0 ≡ machine s home = new.table_is ∙ ap (machine s) home_is in
      let rooms : List ℕ = rooms_at says w.0 q.0 in
      record {
        rooms = rooms;
        each_rank = length-map q.0 (λ t. (desk_at says w.0 t).kept.room) ∙ q.2 ∙ as_many;
        left_behind = subst (λ n. IsLeftBehind (machine s home) n rooms e.journal.items (transcripts_of e) e.pairs.items e.queues.items) new.nodes_are
            (subst (λ M. IsLeftBehind M (says_at says w.0).layout.nodes rooms e.journal.items (transcripts_of e) e.pairs.items e.queues.items) table_is E.left_behind);
      }

  pub run_by : (parts : List TheShard) (done : List Done) → parts ≡ map part_of (map told ends) → done ≡ all_done ops → IsRunBy D place ops (record { shards = parts; done = done; steps = None })
  run_by parts done parts_are done_is =
      record {
        ends = map told ends;
        report_is = ap (λ p. record { shards = p; done = done; steps = None }) parts_are ∙ ap (λ d. record { shards = map part_of (map told ends); done = d; steps = None }) done_is;
        all = length-map ends told ∙ all_ends ∙ begun.all ∙ sym proper.each_shard;
        each = λ s home e gh ge.
            let b = get_map_back told ends s e ge in
            subst (IsLeftBy (machine s home) (shape_of place).nodes (length ops.by_rank)) b.2 (left_by s home b.0 gh b.1);
      }
