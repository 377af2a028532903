-- When the report of a replay is lawful: its histories are what one thread gets, they hold the first calls of every rank, up to the end of
-- a block; and its events keep the rules and are what its tallies count.
use Rattle.std.specs.Prelude.{◌≡◌, ◌<◌, ℕ, true, [], length, map, get_or, is_some, slice_get, Some}
use Rattle.rl_journal.specs.Legal.{IsLegal}
use Rattle.rl_journal.specs.History.{history}
use Rattle.rl_journal.specs.Ranks.{IsRankInOrder}
use Rattle.rl_place.specs.Places.{ThePlace}
use Rattle.rl_ops.specs.declared.ops.Ops.{Ops}
use Rattle.rl_ops.specs.Asked.{asked_of, BeginsAt}
use Rattle.rl_report.specs.declared.report.Done.{Done}
use Rattle.rl_report.specs.Naming.{naming_of}
use Rattle.rl_report.specs.Reports.{TheShard, TheReport, ReportFits}
use Rattle.rl_report.specs.Lawful.{journal_among, transcript_in, transcripts_in, queues_at}
use Rattle.rl_report.specs.Tallies.{tallies_from}
use Rattle.rl_step.specs.Traces.{events_of}
use Rattle.rl_check.specs.Shards.{KeepsRules}

-- the entries of a shard tell a history
pub record TellsHistory (place : ThePlace) (s : TheShard) : Type 0 where
  -- journal and transcripts are legal, and the entries are their history
  pub legal : IsLegal place.geom (journal_among s.entries) (transcripts_in s.entries 0 (length place.paths))
  pub in_order : s.entries ≡ history (journal_among s.entries) (transcripts_in s.entries 0 (length place.paths))
  -- as many updates are told as there are
  pub told : s.updates ≡ length (journal_among s.entries)

-- the part of a shard with this home
pub record IsReplayedShard (place : ThePlace) (home : ℕ) (s : TheShard) : Type 0 where
  pub history_told : TellsHistory place s
  -- the tallies of the queues count the events
  pub tallied : s.queues ≡ tallies_from 0 (length s.queues) (events_of s.events)
  -- no writer was ever beside another holder, and each queue with a budget kept it
  pub rules : KeepsRules (queues_at place home) (events_of s.events)

-- how many calls a rank has done
abbrev pub done_by : TheReport → ℕ → ℕ
done_by report k = (get_or report.done k (record { done = 0; given = 0 })).done

-- of a replay of a placement's ranks over their calls
pub record IsLawfulReplay (place : ThePlace) (ops : Ops) (report : TheReport) : Type 0 where
  pub fits : ReportFits (naming_of place) report
  pub of_replay : is_some report.steps ≡ true
  pub shards : (s home : ℕ) (S : TheShard) → slice_get place.homes s ≡ Some home → slice_get report.shards s ≡ Some S → IsReplayedShard place home S
  -- each rank's entries on all shards are its first calls, so many as it has done, each once and in its order
  pub calls : (k : ℕ) → k < length ops.by_rank →
      IsRankInOrder place.geom k (asked_of (get_or ops.by_rank k []) (get_or ops.sizes k [])) (done_by report k) (map (λ (S : TheShard). transcript_in S.entries k) report.shards)
  -- they are whole blocks; and so many calls are told as it was given
  pub whole : (k : ℕ) → k < length ops.by_rank → BeginsAt (get_or ops.by_rank k []) (get_or ops.sizes k []) (done_by report k)
  pub given : (k : ℕ) (d : Done) → slice_get report.done k ≡ Some d → d.given ≡ length (get_or ops.by_rank k [])
