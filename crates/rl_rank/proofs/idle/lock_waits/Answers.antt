-- What the calls of the lock ask follows from the rule; and the load is idle.
use Rattle.std.proofs.Common.{◌+◌, ◌<◌, ◌^◌, length, slice_index, refl, ap, sym, ◌∙◌, subst, arith}
use Rattle.rl_step.specs.Lock.{MayLearn}
use Rattle.rl_core.specs.Idle.{IsIdle}
use Rattle.rl_rank.specs.Running.{lock_at, good_at, tables, goods}
use Rattle.rl_rank.specs.laws.IdleLaws.{load_there, load_fits, load_open, load_learns, load_idle}
use Rattle.rl_rank.specs.laws.RoundLaws.{none_there}
use Rattle.rl_rank.specs.Whole.{next_of}
use Rattle.rl_rank.specs.WholeShards.{shard_at}
use Rattle.rl_rank.proofs.idle.lock_waits.Goals as goal
use Rattle.rl_rank.proofs.idle.lock_waits.Goals.{After-value-value}

pub overflow_add-at : goal.overflow_add-at
overflow_add-at g c =
    let core = c.args.core.now in
    let fits : core.base + c.args.word < 2 ^ 32 =
    load_fits (lock_at (tables g.A.Algo.table g.W.Work.table) core) c.args.view.now c.args.word c.requires.planned c.requires.free
    (good_at (goods g.A.Algo.good g.W.Work.good) core) (g.A.Algo.further core.algo) (g.A.Algo.layout core.algo) (record { lock = g.met.A.Algo.laws core.algo; work = g.met.W.Work.laws core.work }) core.home c.requires.may.0 in
    omega arith

pub value-value-requires : goal.value-value-requires
value-value-requires g c =
    let core = c.args.core.now in
    subst (λ h. core.base + c.args.word < length h.words) c.requires.may.1
    (load_there (lock_at (tables g.A.Algo.table g.W.Work.table) core) c.args.view.now c.args.word c.requires.planned c.requires.free
    (good_at (goods g.A.Algo.good g.W.Work.good) core) (g.A.Algo.further core.algo) (g.A.Algo.layout core.algo) (record { lock = g.met.A.Algo.laws core.algo; work = g.met.W.Work.laws core.work }) core.home c.requires.may.0)

pub learn-waits-requires-clause-may : goal.learn-waits-requires-clause-may
learn-waits-requires-clause-may g c =
    let core = c.args.core.now in
    let at = core.base + c.args.word in
    subst (MayLearn (g.A.Algo.table core.algo) (g.A.Algo.good core.algo) c.args.view.now.side.view) (ap (λ h. slice_index h.words at) c.requires.may.1 ∙ sym c.value-value.ensures)
    (load_learns (lock_at (tables g.A.Algo.table g.W.Work.table) core) c.args.view.now c.args.word c.requires.planned c.requires.free
    (good_at (goods g.A.Algo.good g.W.Work.good) core) (g.A.Algo.further core.algo) (g.A.Algo.layout core.algo) (record { lock = g.met.A.Algo.laws core.algo; work = g.met.W.Work.laws core.work }) core.home c.requires.may.0)

pub returns-then-eq : goal.returns-then-eq
returns-then-eq g c =
    let core = c.args.core.now in
    let x = c.args.view.now in
    let value = c.value-value.result in
    let learnt = c.learn-waits.ensures in
    let view = sym (ap (λ t. t.view) learnt) ∙ g.met.A.Algo.same_views c.learn-waits.new.view x.side.view (sym c.eq.ensures ∙ c.if-eq.true) in
    let events = sym (ap (λ t. t.events) learnt) ∙ none_there c.learn-waits.new.events.items (sym c.is_empty.ensures ∙ c.if-is_empty.true) in
    let waits = sym (ap (λ t. t.waits) learnt) ∙ c.if-waits.true in
    record {
      in_call =
          load_open (lock_at (tables g.A.Algo.table g.W.Work.table) core) x c.args.word c.requires.planned c.requires.free
          (good_at (goods g.A.Algo.good g.W.Work.good) core) (g.A.Algo.further core.algo) (g.A.Algo.layout core.algo) (record { lock = g.met.A.Algo.laws core.algo; work = g.met.W.Work.laws core.work }) core.home c.requires.may.0;
      named = subst (λ h. core.base + c.args.word < length h.words) c.requires.may.1
          (load_there (lock_at (tables g.A.Algo.table g.W.Work.table) core) x c.args.word c.requires.planned c.requires.free
          (good_at (goods g.A.Algo.good g.W.Work.good) core) (g.A.Algo.further core.algo) (g.A.Algo.layout core.algo) (record { lock = g.met.A.Algo.laws core.algo; work = g.met.W.Work.laws core.work }) core.home c.requires.may.0);
      shows = (sym c.value-value.ensures, refl);
      idle = λ k h a shows. subst (IsIdle (shard_at (tables g.A.Algo.table g.W.Work.table) core) h k x (next_of (lock_at (tables g.A.Algo.table g.W.Work.table) core) x)) (sym shows.1)
          (load_idle (lock_at (tables g.A.Algo.table g.W.Work.table) core) x c.args.word c.requires.planned c.requires.free core.home h k value (sym shows.0) view events waits);
    }
