-- The work of a block under a sequence lock, as plain functions: the next atom, and what it leaves.
use Rattle.std.specs.Prelude.{ℕ, ◌+◌, ◌-◌, ◌%◌, ◌==◌, Bool, true, false, List, [], take, length, Option, Some, None, if◌then◌else◌}
use Rattle.rl_word.specs.declared.acts.Atom.{Atom}
use Rattle.rl_word.specs.declared.acts.Atom.TheVariants.{Load, Store}
use Rattle.rl_word.specs.declared.classes.Mode.{Mode}
use Rattle.rl_word.specs.declared.classes.Mode.TheVariants as mode
use Rattle.rl_model.specs.declared.call.Call.{Call}
use Rattle.rl_model.specs.declared.geom.Geom.{Geom}
use Rattle.rl_model.specs.declared.entry.Entry.{Entry}
use Rattle.rl_step.specs.declared.events.Stepped.TheVariants.{Moved, Waiting, Lost}
use Rattle.rl_work.specs.declared.follow.Follow.TheVariants.{On, Over}
use Rattle.rl_work.specs.Locked.{first_reads}
use Rattle.rl_site.specs.Site.{count_word, volume_base, WaySite}
use Rattle.rl_work.specs.Ways.{WorkTable, Worked}
use Rattle.rl_work.specs.Work.{TheWork, WorkTurned, first_work, work_atom, work_after, with_block, with_seen, seen_on, has_work, stores}
use Rattle.rl_work.specs.Unlocked.{wanted, with_word}
use Rattle.rl_seq.specs.declared.stage.SeqStage.{SeqStage}
use Rattle.rl_seq.specs.declared.stage.SeqStage.TheVariants as stage
use Rattle.rl_seq.specs.Site.{seq_version_word}

-- a rank's side: that of the work inside the lock, and where it stands between the versions
pub record TheSeqWork : Type 0 where
  pub work : TheWork
  pub stage : SeqStage

abbrev pub seq_at_stage : TheWork → SeqStage → TheSeqWork
seq_at_stage w st = record { work = w; stage = st }

-- before the first block, with room for so many entries
abbrev pub first_seq : Geom → ℕ → TheSeqWork
first_seq geom room = seq_at_stage (first_work geom room) stage.Locked

-- a block is opened: a get alone begins with the version, and any other inside the lock
abbrev pub seq_block : TheSeqWork → List Call → ℕ → TheSeqWork
seq_block x calls seq = seq_at_stage (with_block x.work calls seq) (if first_reads calls then stage.Look else stage.Locked)

-- the mode in which the lock is asked for with the opening, if it is asked for
abbrev pub asks : List Call → Option Mode
asks calls = if first_reads calls then None else Some mode.Write

-- the atom of a stage
abbrev pub seq_stage_atom : WaySite → TheWork → SeqStage → Option Atom
seq_stage_atom at w stage.Locked = work_atom at.site.geom w
seq_stage_atom at w stage.Look = Some (Load (seq_version_word at))
seq_stage_atom at w (stage.Count version) = Some (Load count_word)
seq_stage_atom at w (stage.Read version count word) = Some (Load (volume_base + word))
seq_stage_atom at w (stage.Again version count) = Some (Load (seq_version_word at))
seq_stage_atom at w stage.Decided = Some (Load (seq_version_word at))
seq_stage_atom at w (stage.Open version) = Some (Store (seq_version_word at) (version + 1))
seq_stage_atom at w (stage.Write version) = work_atom at.site.geom w
seq_stage_atom at w (stage.Close version) = Some (Store (seq_version_word at) (version + 2))

-- the next atom
abbrev pub seq_atom : WaySite → TheSeqWork → Option Atom
seq_atom at x = seq_stage_atom at x.work x.stage

-- the block goes on at a stage, or is over
abbrev pub goes_to : TheWork → SeqStage → Worked TheSeqWork
goes_to w st = record { work = seq_at_stage w st; follow = On; stepped = Moved }

abbrev pub is_over : TheWork → Worked TheSeqWork
is_over w = record { work = seq_at_stage w stage.Locked; follow = Over; stepped = Moved }

-- it waits, or has lost and begins anew
abbrev pub waits : TheWork → ℕ → ℕ → Worked TheSeqWork
waits w word got = record { work = seq_at_stage w stage.Look; follow = On; stepped = Waiting word got }

abbrev pub lost : TheWork → ℕ → ℕ → Worked TheSeqWork
lost w version got = record { work = seq_at_stage (with_seen w []) stage.Look; follow = On; stepped = Lost version got }

-- after a load inside the lock: the block is over, or decided, or reads on
abbrev pub loaded_by : TheWork → Bool → Bool → Worked TheSeqWork
loaded_by w true writes = is_over w
loaded_by w false true = goes_to w stage.Decided
loaded_by w false false = goes_to w stage.Locked

abbrev pub loaded_on : WorkTurned → Worked TheSeqWork
loaded_on t = loaded_by t.work t.over (stores t.work.stage)

abbrev pub after_load : WaySite → ℕ → TheWork → ℕ → Worked TheSeqWork
after_load at rank w got = loaded_on (work_after at.site.geom at.site.shard rank w got)

-- after a store between the versions: the count was stored, or the next store follows
abbrev pub stored_on : ℕ → WorkTurned → Worked TheSeqWork
stored_on version t = if t.over then goes_to t.work (stage.Close version) else goes_to t.work (stage.Write version)

abbrev pub after_store : WaySite → ℕ → TheWork → ℕ → ℕ → Worked TheSeqWork
after_store at rank w version got = stored_on version (work_after at.site.geom at.site.shard rank w got)

-- a get that found this version: it goes on where that is even, and waits where it is odd
abbrev pub looked_on : WaySite → TheWork → ℕ → Worked TheSeqWork
looked_on at w got = if got % 2 == 0 then goes_to w (stage.Count got) else waits w (seq_version_word at) got

-- it reads the next word, or the version again
abbrev pub read_by : TheWork → ℕ → ℕ → Option ℕ → Worked TheSeqWork
read_by w version count (Some word) = goes_to w (stage.Read version count word)
read_by w version count None = goes_to w (stage.Again version count)

abbrev pub seq_read_on : WaySite → TheWork → ℕ → ℕ → Worked TheSeqWork
seq_read_on at w version count = read_by w version count (wanted at.site.geom w)

-- it found the version again: the same, and it is decided; or another, and it begins anew
abbrev pub checked_on : WaySite → ℕ → TheWork → ℕ → ℕ → ℕ → Worked TheSeqWork
checked_on at rank w version count got = if got == version then is_over (seen_on at.site.geom at.site.shard rank w count).work else lost w version got

-- what the atom of a stage leaves, which gave got
abbrev pub seq_stage_after : WaySite → ℕ → TheWork → ℕ → SeqStage → Worked TheSeqWork
seq_stage_after at rank w got stage.Locked = after_load at rank w got
seq_stage_after at rank w got stage.Look = looked_on at w got
seq_stage_after at rank w got (stage.Count version) = seq_read_on at w version got
seq_stage_after at rank w got (stage.Read version count word) = seq_read_on at (with_word w word got) version count
seq_stage_after at rank w got (stage.Again version count) = checked_on at rank w version count got
seq_stage_after at rank w got stage.Decided = goes_to w (stage.Open got)
seq_stage_after at rank w got (stage.Open version) = goes_to w (stage.Write version)
seq_stage_after at rank w got (stage.Write version) = after_store at rank w version got
seq_stage_after at rank w got (stage.Close version) = is_over w

-- what an atom that gave got leaves of rank's side
abbrev pub seq_after : WaySite → ℕ → TheSeqWork → ℕ → Worked TheSeqWork
seq_after at rank x got = seq_stage_after at rank x.work got x.stage

-- whether the atom of a stage is told as a touch of what the lock guards, and if so whether it writes: the loads of a get alone aren't, which holds
-- nothing, nor is the version, which stands behind the lock's words
abbrev pub seq_touch_at : TheWork → SeqStage → Option Bool
seq_touch_at w stage.Locked = Some (stores w.stage)
seq_touch_at w (stage.Write version) = Some (stores w.stage)
seq_touch_at w st = None

abbrev pub touch : TheSeqWork → Option Bool
touch x = seq_touch_at x.work x.stage

-- a block is open, as far as the work goes
abbrev pub is_open_at : TheWork → SeqStage → Bool
is_open_at w stage.Locked = has_work w.stage
is_open_at w st = true

abbrev pub seq_is_open : TheSeqWork → Bool
seq_is_open x = is_open_at x.work x.stage

-- a block is open whose entries haven't joined the transcript yet: they join with the store of the count, one atom before its end
abbrev pub owes_at : TheWork → SeqStage → Bool
owes_at w (stage.Close version) = false
owes_at w st = is_open_at w st

abbrev pub seq_owes : TheSeqWork → Bool
seq_owes x = owes_at x.work x.stage

-- the entries of the blocks that are over: without those of a block that has stored the count and is still open
abbrev pub before_last : List Entry → ℕ → List Entry
before_last items last = take (length items - last) items

abbrev pub ended_at : TheWork → SeqStage → List Entry
ended_at w (stage.Close version) = before_last w.transcript.items (length w.entries)
ended_at w st = w.transcript.items

abbrev pub ended : TheSeqWork → List Entry
ended x = ended_at x.work x.stage

-- the way of working, on a shard that lives on this node
abbrev pub seq_table : WaySite → ℕ → WorkTable TheSeqWork
seq_table at home =
    record {
      site = at.site;
      behind = at.behind;
      size = 1;
      home = λ w. home;
      first = λ r room. first_seq at.site.geom room;
      opens = λ r x calls seq. seq_block x calls seq;
      asks = asks;
      next = λ r x. seq_atom at x;
      after = λ r x got. seq_after at r x got;
      touch = touch;
      is_open = seq_is_open;
      calls = λ x. x.work.calls;
      seq = λ x. x.work.seq;
      mode = λ x. mode.Write;
      kept = λ x. x.work.transcript;
      pends = seq_owes;
      ended = ended;
      transcript = λ words r x. x.work.transcript.items;
      owes = λ words r x. seq_owes x;
      spares = λ shares. true;
      batches = true;
    }
