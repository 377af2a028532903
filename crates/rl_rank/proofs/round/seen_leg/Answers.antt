-- What the calls of the lock ask follows from the rule; and what was learnt is the leg.
use Rattle.std.proofs.Common.{rules, ◌≡◌, ◌+◌, ◌<◌, ◌^◌, length, slice_index, Some, refl, ap, sym, ◌∙◌, subst, arith}
use Rattle.rl_word.specs.declared.acts.Act.TheVariants as act
use Rattle.rl_step.specs.Lock.{MayStep, MayLearn}
use Rattle.rl_rank.specs.Running.{lock_at, good_at, tables, goods}
use Rattle.rl_rank.specs.laws.WholeOwes.{may_step}
use Rattle.rl_rank.specs.laws.IdleLaws.{load_there, load_fits, load_learns}
use Rattle.rl_rank.specs.laws.RoundLaws.{none_there}
use Rattle.rl_rank.proofs.round.seen_leg.Goals as goal
use Rattle.rl_rank.proofs.round.seen_leg.Goals.{In-Load}
use Rattle.rl_rank.proofs.round.seen_leg.Given.{Over}

pub plan-requires : goal.plan-requires
plan-requires g c =
    let core = c.args.core.now in
    subst (MayStep (g.A.Algo.good core.algo)) c.requires.is
    (may_step _ _ (lock_at (tables g.A.Algo.table g.W.Work.table) core) (good_at (goods g.A.Algo.good g.W.Work.good) core) (g.A.Algo.further core.algo) (g.A.Algo.layout core.algo) (record { lock = g.met.A.Algo.laws core.algo; work = g.met.W.Work.laws core.work }) core.home c.requires.view c.requires.may)

-- the load is what the lock plans
planned : (g : Over) (c : In-Load g) → (g.A.Algo.table c.args.core.now.algo).plan c.args.view ≡ Some (act.Load c.in-Load.word)
planned g c = sym c.plan.ensures ∙ c.in_ok-word.was ∙ ap (λ a. Some a) c.in-Load.is

planned_there : (g : Over) (c : In-Load g) → (g.A.Algo.table c.args.core.now.algo).plan c.requires.view.side.view ≡ Some (act.Load c.in-Load.word)
planned_there g c = ap (g.A.Algo.table c.args.core.now.algo).plan c.requires.is ∙ planned g c

pub overflow_add-at : goal.overflow_add-at
overflow_add-at g c =
    let core = c.args.core.now in
    let fits : core.base + c.in-Load.word < 2 ^ 32 =
    load_fits (lock_at (tables g.A.Algo.table g.W.Work.table) core) c.requires.view c.in-Load.word (planned_there g c) c.requires.free
    (good_at (goods g.A.Algo.good g.W.Work.good) core) (g.A.Algo.further core.algo) (g.A.Algo.layout core.algo) (record { lock = g.met.A.Algo.laws core.algo; work = g.met.W.Work.laws core.work }) core.home c.requires.may in
    omega arith

-- the word is there
there : (g : Over) (c : In-Load g) → c.args.core.now.base + c.in-Load.word < length c.args.words.now.words
there g c =
    let core = c.args.core.now in
    subst (λ h. core.base + c.in-Load.word < length h.words) c.requires.held
    (load_there (lock_at (tables g.A.Algo.table g.W.Work.table) core) c.requires.view c.in-Load.word (planned_there g c) c.requires.free
    (good_at (goods g.A.Algo.good g.W.Work.good) core) (g.A.Algo.further core.algo) (g.A.Algo.layout core.algo) (record { lock = g.met.A.Algo.laws core.algo; work = g.met.W.Work.laws core.work }) core.home c.requires.may)

pub value-value-requires : goal.value-value-requires
value-value-requires g c = there g (goal.at.value-value-requires g c).In-Load

pub learn-waits-requires-clause-may : goal.learn-waits-requires-clause-may
learn-waits-requires-clause-may g c =
    let core = c.args.core.now in
    let T = g.A.Algo.table core.algo in
    let at = core.base + c.in-Load.word in
    subst (λ v. MayLearn T (g.A.Algo.good core.algo) v c.value-value.result) c.requires.is
    (subst (MayLearn T (g.A.Algo.good core.algo) c.requires.view.side.view) (ap (λ h. slice_index h.words at) c.requires.held ∙ sym c.value-value.ensures)
    (load_learns (lock_at (tables g.A.Algo.table g.W.Work.table) core) c.requires.view c.in-Load.word (planned_there g (goal.at.learn-waits-requires-clause-may g c).In-Load) c.requires.free
    (good_at (goods g.A.Algo.good g.W.Work.good) core) (g.A.Algo.further core.algo) (g.A.Algo.layout core.algo) (record { lock = g.met.A.Algo.laws core.algo; work = g.met.W.Work.laws core.work }) core.home c.requires.may))

pub returns-then-is_empty : goal.returns-then-is_empty
returns-then-is_empty g c =
    let learnt = c.learn-waits.ensures in
    let d = (goal.at.returns-then-is_empty g c).In-Load in
    record {
      load = c.in-Load.word;
      planned = planned g d;
      word = refl;
      there = there g d;
      shows = sym c.value-value.ensures;
      fits = search rules;
      view = sym (ap (λ t. t.view) learnt);
      quiet = sym (ap (λ t. t.events) learnt) ∙ none_there c.learn-waits.new.events.items (sym c.is_empty.ensures ∙ c.if-is_empty.true);
      waits = sym (ap (λ t. t.waits) learnt);
    }
