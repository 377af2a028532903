-- Each block under its lock, as a way of working: it has no words of its own, the lock is asked for with the opening, and the entries
-- of a block join where its work is over.
use Rattle.std.specs.Prelude.{ℕ, Bool, true, false, List, [], ◌∷◌, take, Some, if◌then◌else◌}
use Rattle.rl_word.specs.declared.classes.Mode.{Mode}
use Rattle.rl_word.specs.declared.classes.Mode.TheVariants as mode
use Rattle.rl_model.specs.declared.call.Call.{Call}
use Rattle.rl_model.specs.Call.{reads}
use Rattle.rl_step.specs.declared.events.Stepped.TheVariants.{Moved}
use Rattle.rl_work.specs.declared.follow.Follow.TheVariants.{On, Over}
use Rattle.rl_site.specs.Site.{Site, lock_base}
use Rattle.rl_work.specs.Work.{TheWork, WorkTurned, first_work, with_block, work_atom, work_after, has_work, stores}
use Rattle.rl_work.specs.WorkGood.{WorkSide, WorkGood}
use Rattle.rl_work.specs.Ways.{WorkTable, Worked}

-- a block that is a get
abbrev pub first_reads : List Call → Bool
first_reads [] = false
first_reads (c ∷ cs) = reads c

-- the mode in which a block asks for the lock: a get alone may stand beside other readers
abbrev pub mode_of : List Call → Mode
mode_of calls = if first_reads calls then mode.Read else mode.Write

-- a block whose work is over is over
abbrev pub locked_turn : WorkTurned → Worked TheWork
locked_turn t = record { work = t.work; follow = if t.over then Over else On; stepped = Moved }

abbrev pub locked_table : Site → ℕ → WorkTable TheWork
locked_table site behind =
    record {
      site = site;
      behind = behind;
      size = 0;
      home = λ w. 0;
      first = λ r room. first_work site.geom room;
      opens = λ r x calls seq. with_block x calls seq;
      asks = λ calls. Some (mode_of calls);
      next = λ r x. work_atom site.geom x;
      after = λ r x got. locked_turn (work_after site.geom site.shard r x got);
      touch = λ x. Some (stores x.stage);
      is_open = λ x. has_work x.stage;
      calls = λ x. x.calls;
      seq = λ x. x.seq;
      mode = λ x. mode_of x.calls;
      kept = λ x. x.transcript;
      pends = λ x. has_work x.stage;
      ended = λ x. x.transcript.items;
      transcript = λ words r x. x.transcript.items;
      owes = λ words r x. has_work x.stage;
      spares = λ shares. shares;
      batches = true;
    }

-- the rule speaks of the words before the lock's alone
abbrev pub locked_good : Site → List ℕ → List WorkSide → Type 0
locked_good site words sides = WorkGood site (take (lock_base site) words) sides
