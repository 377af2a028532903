-- A call is open exactly where the rank isn't out or is in a card, or its block is open, and none is exactly where there is no atom.
use Rattle.std.proofs.Common.{◌≡◌, Bool, true, false, ◌||◌, ap, ◌∙◌, sym}
use Rattle.rl_rank.specs.Running.{lock_at, good_at, tables, goods}
use Rattle.rl_rank.specs.Whole.{is_at_work}
use Rattle.rl_rank.specs.laws.OpenLaws.{shut_is_none, none_is_shut}
use Rattle.rl_rank.proofs.whole.Whole.has_open.Goals as goal

or_first : (b r w : Bool) → b ≡ r → b ≡ true → b ≡ (r || w)
or_first b r w same is = is ∙ ap (λ z. z || w) (sym is ∙ same)

or_second : (b r w c : Bool) → b ≡ r → b ≡ false → c ≡ w → c ≡ (r || w)
or_second b r w c same is own = own ∙ ap (λ z. z || w) (sym is ∙ same)

pub returns-then-at_work-clause-atoms : goal.returns-then-at_work-clause-atoms
returns-then-at_work-clause-atoms g c =
    let core = c.args.self.now in
    let x = c.args.view.now in
    let at_work = c.at_work.ensures ∙ ap (λ st. is_at_work st x.side.card) c.standing.ensures in
    let open_is = or_first c.at_work.result _ ((g.W.Work.table core.work).is_open x.work) at_work c.if-at_work.true in (
      λ e. shut_is_none _ _ (lock_at (tables g.A.Algo.table g.W.Work.table) core) (good_at (goods g.A.Algo.good g.W.Work.good) core) (g.A.Algo.further core.algo) (g.A.Algo.layout core.algo) (record { lock = g.met.A.Algo.laws core.algo; work = g.met.W.Work.laws core.work }) core.home x c.requires (sym open_is ∙ e),
      λ e. open_is ∙ none_is_shut _ _ (lock_at (tables g.A.Algo.table g.W.Work.table) core) (good_at (goods g.A.Algo.good g.W.Work.good) core) (g.A.Algo.further core.algo) (g.A.Algo.layout core.algo) (record { lock = g.met.A.Algo.laws core.algo; work = g.met.W.Work.laws core.work }) core.home x c.requires e,
    )

pub returns-else-at_work-clause-atoms : goal.returns-else-at_work-clause-atoms
returns-else-at_work-clause-atoms g c =
    let core = c.args.self.now in
    let x = c.args.view.now in
    let at_work = c.at_work.ensures ∙ ap (λ st. is_at_work st x.side.card) c.standing.ensures in
    let open_is = or_second c.at_work.result _ _ c.is_open.result at_work c.if-at_work.false c.is_open.ensures in (
      λ e. shut_is_none _ _ (lock_at (tables g.A.Algo.table g.W.Work.table) core) (good_at (goods g.A.Algo.good g.W.Work.good) core) (g.A.Algo.further core.algo) (g.A.Algo.layout core.algo) (record { lock = g.met.A.Algo.laws core.algo; work = g.met.W.Work.laws core.work }) core.home x c.requires (sym open_is ∙ e),
      λ e. open_is ∙ none_is_shut _ _ (lock_at (tables g.A.Algo.table g.W.Work.table) core) (good_at (goods g.A.Algo.good g.W.Work.good) core) (g.A.Algo.further core.algo) (g.A.Algo.layout core.algo) (record { lock = g.met.A.Algo.laws core.algo; work = g.met.W.Work.laws core.work }) core.home x c.requires e,
    )
