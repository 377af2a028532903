-- The replies of a batch that is undone, from one on.
use Rattle.std.specs.Prelude.{Bool, true, false, List, if◌then◌else◌}
use Rattle.rl_model.specs.declared.entry.Reply.{Reply}
use Rattle.rl_model.specs.declared.entry.Reply.TheVariants.{Undone}
use Rattle.rl_journal.specs.Blocks.{only_first, undone, stops}

-- behind the reply that stopped it, or before it
abbrev pub only_after : Bool → List Reply → List Reply
only_after true rs = undone rs
only_after false rs = only_first rs

-- whether it is stopped with a reply, and what is told of that
abbrev pub told_next : Bool → Reply → Bool × Reply
told_next true r = (true, Undone)
told_next false r = if stops r then (true, r) else (false, Undone)
