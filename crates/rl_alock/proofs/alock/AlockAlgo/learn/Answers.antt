-- What a good state gives fits the act, by what is true of the rank's queue; and away from the entry the queue's turn is all.
use Rattle.std.proofs.Common.{◌≤◌, ◌++◌, ◌∙◌, ap, sym, subst, length}
use Rattle.rl_queue.specs.Queue.{PlanFits, GotFits, turn_at}
use Rattle.rl_alock.specs.declared.cohort.Cohort.{Cohort}
use Rattle.rl_alock.specs.declared.cohort.Cohort.TheVariants.{Local, Remote}
use Rattle.rl_alock.specs.declared.view.SettleStage.TheVariants.{Announce}
use Rattle.rl_alock.specs.declared.view.AlockView.{AlockView}
use Rattle.rl_queue.specs.declared.view.QueueView.{QueueView}
use Rattle.rl_step.specs.Lock.{Told}
use Rattle.rl_alock.specs.Alock.{Cohorts, budget_in, cohorts_of, cohort_of, names_of, entry_events, told_turn}
use Rattle.rl_alock.proofs.CodeLaws.{plan_away, learn_away, few_events, fits_at, got_fits_at}
use Rattle.rl_alock.proofs.alock.AlockAlgo.learn.Goals as goal

modest : (K : Cohorts) → K.local ≤ 1000 → K.remote ≤ 1000 → (c : Cohort) → budget_in K c ≤ 1000
modest K l r Local = l
modest K l r Remote = r

pub queue_learn-turn-requires : goal.queue_learn-turn-requires
queue_learn-turn-requires c =
    let v = c.args.view.now in
    let K = cohorts_of c.args.self.now.home c.args.self.now.node_of.items c.args.self.now.local c.args.self.now.remote in
    let names = c.names_of-names.ensures ∙ ap (names_of K) c.cohort_of-cohort.ensures in
    record {
      named = subst (λ z. PlanFits z v.queue.member v.queue.phase) (sym names) (fits_at K c.requires.may.state c.requires.may.rank v c.requires.may.is_good.good c.requires.may.has);
      fits = subst (GotFits v.queue.phase) (sym c.requires.may.gives)
          (got_fits_at K c.requires.may.state c.requires.may.rank v c.requires.may.is_good.good c.requires.may.has c.requires.may.act c.args.self.now.seated.few
          (modest K c.args.self.now.local_modest c.args.self.now.remote_modest)
          (sym (plan_away (names_of K (cohort_of K v.queue.member)) (cohort_of K v.queue.member) v.queue.member v.queue.phase v.entry c.in_default.not-Settle) ∙ c.requires.may.planned));
      none = c.requires.none;
    }

pub enter-requires : goal.enter-requires
enter-requires c =
    let v = c.args.view.now.queue in
    subst (λ es. length es ≤ 1) (sym (ap (λ u. u.events) c.queue_learn-turn.ensures)) (few_events c.names_of-names.result.now v.member v.phase c.args.got)

-- what a queue's turn makes of the rank
abbrev entered : Told QueueView → Told AlockView
entered u = record { view = record { queue = u.view; entry = Announce }; events = u.events ++ entry_events u.view.member u.view.phase; waits = u.waits }

pub returns-in_default : goal.returns-in_default
returns-in_default c =
    let m = c.args.view.now.queue.member in
    let p = c.args.view.now.queue.phase in
    let K = cohorts_of c.args.self.now.home c.args.self.now.node_of.items c.args.self.now.local c.args.self.now.remote in
    let names = c.names_of-names.ensures ∙ ap (names_of K) c.cohort_of-cohort.ensures in
    ap (λ v. record { view = v; events = c.enter.new.events.items; waits = c.enter.result }) c.enter.ensures.view
    ∙ ap (λ w. record { view = record { queue = c.queue_learn-turn.result.view; entry = Announce }; events = c.enter.new.events.items; waits = w }) c.enter.ensures.waits
    ∙ ap (λ es. record { view = record { queue = c.queue_learn-turn.result.view; entry = Announce }; events = es; waits = c.queue_learn-turn.result.waits }) c.enter.ensures.events
    ∙ ap entered c.queue_learn-turn.ensures
    ∙ ap (λ N. told_turn m (turn_at N m p c.args.got)) names
    ∙ sym (learn_away (names_of K (cohort_of K m)) (cohort_of K m) m p c.args.view.now.entry c.args.got c.in_default.not-Settle)
