-- What the call of the work asks follows from the rule; and the load is idle.
use Rattle.std.proofs.Common.{◌≡◌, ◌<◌, Some, length, slice_index, refl, ap, sym, ◌∙◌, subst}
use Rattle.rl_word.specs.declared.acts.Atom.TheVariants as atom
use Rattle.rl_step.specs.Core.{atom_in}
use Rattle.rl_core.specs.Idle.{IsIdle}
use Rattle.rl_work.specs.Ways.{MayTurn}
use Rattle.rl_rank.specs.Running.{lock_at, good_at, tables, goods}
use Rattle.rl_rank.specs.laws.IdleLaws.{own_there, own_turns, own_open, own_idle}
use Rattle.rl_rank.specs.Whole.{next_of}
use Rattle.rl_rank.specs.WholeShards.{shard_at}
use Rattle.rl_rank.proofs.idle.work_waits.Goals as goal
use Rattle.rl_rank.proofs.idle.work_waits.Goals.{In-Load}
use Rattle.rl_rank.proofs.idle.work_waits.Given.{Over}

-- the load is the rank's next atom
loads : (g : Over) (c : In-Load g) → next_of (lock_at (tables g.A.Algo.table g.W.Work.table) c.args.core.now) c.args.view.now ≡ Some (atom.Load c.in-Load.word)
loads g c = sym c.next.ensures.atom ∙ ap atom_in c.in_ok-next.was ∙ ap (λ a. Some a) c.in-Load.is

-- its word is there
there : (g : Over) (c : In-Load g) → c.in-Load.word < length c.args.words.now.words
there g c =
    let core = c.args.core.now in
    subst (λ h. c.in-Load.word < length h.words) c.requires.may.1
    (own_there (lock_at (tables g.A.Algo.table g.W.Work.table) core) c.args.view.now c.in-Load.word (loads g c)
    (good_at (goods g.A.Algo.good g.W.Work.good) core) (g.A.Algo.further core.algo) (g.A.Algo.layout core.algo) (record { lock = g.met.A.Algo.laws core.algo; work = g.met.W.Work.laws core.work }) core.home c.requires.may.0)

pub value-value-requires : goal.value-value-requires
value-value-requires g c = there g (goal.at.value-value-requires g c).In-Load

pub waits_on-requires : goal.waits_on-requires
waits_on-requires g c =
    let core = c.args.core.now in
    let x = c.args.view.now in
    subst (MayTurn (g.W.Work.table core.work) (g.W.Work.good core.work) x.rank x.work) (ap (λ h. slice_index h.words c.in-Load.word) c.requires.may.1 ∙ sym c.value-value.ensures)
    (own_turns (lock_at (tables g.A.Algo.table g.W.Work.table) core) x c.in-Load.word (loads g (goal.at.waits_on-requires g c).In-Load)
    (good_at (goods g.A.Algo.good g.W.Work.good) core) (g.A.Algo.further core.algo) (g.A.Algo.layout core.algo) (record { lock = g.met.A.Algo.laws core.algo; work = g.met.W.Work.laws core.work }) core.home c.requires.may.0 c.requires.planned c.requires.free)

pub returns-then-waits_on : goal.returns-then-waits_on
returns-then-waits_on g c =
    let core = c.args.core.now in
    let x = c.args.view.now in
    let d = (goal.at.returns-then-waits_on g c).In-Load in
    record {
      in_call =
          own_open (lock_at (tables g.A.Algo.table g.W.Work.table) core) x c.in-Load.word (loads g d)
          (good_at (goods g.A.Algo.good g.W.Work.good) core) (g.A.Algo.further core.algo) (g.A.Algo.layout core.algo) (record { lock = g.met.A.Algo.laws core.algo; work = g.met.W.Work.laws core.work }) core.home c.requires.may.0;
      named = there g d;
      shows = (sym c.value-value.ensures, refl);
      idle = λ k h a shows. subst (IsIdle (shard_at (tables g.A.Algo.table g.W.Work.table) core) h k x (next_of (lock_at (tables g.A.Algo.table g.W.Work.table) core) x)) (sym shows.1)
          (own_idle (lock_at (tables g.A.Algo.table g.W.Work.table) core) x c.in-Load.word (loads g d) c.requires.planned c.requires.free core.home h k c.value-value.result (sym shows.0) (c.waits_on.ensures c.if-waits_on.true));
    }
