use Rattle.std.proofs.Common.{◌≡◌, ◌+◌, ◌++◌, drop, length}
use Rattle.rl_work.specs.Work as model
use Rattle.rl_work.proofs.work.LockedSide.set_entries.Given as goal

-- the entries so far, with those of the calls that are left, are all; and nothing else changes
abbrev pub invariant-loop-part : goal.invariant-loop-part
invariant-loop-part l =
    let w = l.self-inside in
    let old = l.fn.self in
    (w.entries.items ++ model.entries_of l.shard l.rank l.batch (old.seq + l.part) (l.count + l.part) l.part (drop l.part old.calls) (drop l.part old.replies)
    ≡ model.entries_of l.shard l.rank l.batch old.seq l.count 0 old.calls old.replies)
    × (length w.entries.items ≡ l.part)
    × (record { stage = w.stage; calls = w.calls.items; seq = w.seq; seen = w.seen; replies = w.replies.items; at = w.at; entries = old.entries; writes = w.writes.items; transcript = w.transcript } ≡ old)
