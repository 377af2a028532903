-- Away from the entry the planned act is the queue's, made on a word of the lock, which the code finds where it looks.
use Rattle.std.proofs.Common.{◌≡◌, ◌≢◌, ℕ, ◌+◌, ◌*◌, List, take, drop, refl, ap, sym, ◌∙◌, subst}
use Rattle.rl_word.specs.Acts.{Layout}
use Rattle.rl_queue.specs.declared.view.Phase.{Phase}
use Rattle.rl_queue.specs.declared.view.Phase.TheVariants.{Settle}
use Rattle.rl_queue.specs.Queue.{PlanFits, plan_at}
use Rattle.rl_queue.specs.Urgency.{loaded, urgent_at}
use Rattle.rl_queue.specs.laws.UrgencyLaws.{loaded_in, aims, load_there, load_fits}
use Rattle.rl_alock.specs.declared.view.SettleStage.{SettleStage}
use Rattle.rl_alock.specs.Alock.{Cohorts, cohorts_of, cohort_of, names_of, ranks_of, alock_table, BoundsOvertaking}
use Rattle.rl_alock.specs.Overtakes.{AlockBounded}
use Rattle.rl_alock.specs.laws.AlockBounded.{bounded_laws}
use Rattle.rl_alock.specs.AlockUrgency.{rank_urgent}
use Rattle.rl_alock.proofs.CodeLaws.{fits_at, plan_away}
use Rattle.rl_alock.proofs.guiding.AlockGuiding.urgency.Goals as goal

urgent_away : (K : Cohorts) (ws : List ℕ) (m : ℕ) (p : Phase) (st : SettleStage) → p ≢ Settle → rank_urgent K ws m p st ≡ urgent_at p (loaded ws (plan_at (names_of K (cohort_of K m)) m p))
urgent_away K ws m Settle st ne = absurd (ne refl)
urgent_away K ws m _ st ne = refl

pub queue_plan-planned-requires : goal.queue_plan-planned-requires
queue_plan-planned-requires c =
    let s = c.args.self.now in
    let K = cohorts_of s.home s.node_of.items s.local s.remote in
    let v = c.args.view in
    subst (λ z. PlanFits z v.queue.member v.queue.phase) (sym (c.names_of.ensures ∙ ap (names_of K) c.cohort_of-cohort.ensures))
    (fits_at K c.requires.may.state c.requires.may.rank v c.requires.may.is_good.good c.requires.may.has)

pub queue_urgency-requires : goal.queue_urgency-requires
queue_urgency-requires c =
    let s = c.args.self.now in
    let K = cohorts_of s.home s.node_of.items s.local s.remote in
    let v = c.args.view in
    let at : Layout = record { node_of = s.node_of.items; nodes = s.nodes } in
    let names = c.names_of.ensures ∙ ap (names_of K) c.cohort_of-cohort.ensures in
    let is = c.queue_plan-planned.ensures.plan ∙ ap (λ z. plan_at z v.queue.member v.queue.phase) names in
    let away = plan_away (names_of K (cohort_of K v.queue.member)) (cohort_of K v.queue.member) v.queue.member v.queue.phase v.entry c.in_default.not-Settle in
    record {
      there = λ w pl. load_there (alock_table K) (AlockBounded K) (BoundsOvertaking K) at (bounded_laws K s.nodes s.seated s.homed) v c.requires.may c.args.base c.args.words.now.words c.requires.there w (away ∙ sym is ∙ pl);
      fits = λ w pl. load_fits (alock_table K) (AlockBounded K) (BoundsOvertaking K) at (bounded_laws K s.nodes s.seated s.homed) v c.requires.may c.args.base c.requires.fits w (away ∙ sym is ∙ pl);
    }

pub returns-in_default : goal.returns-in_default
returns-in_default c =
    let s = c.args.self.now in
    let K = cohorts_of s.home s.node_of.items s.local s.remote in
    let v = c.args.view in
    let at : Layout = record { node_of = s.node_of.items; nodes = s.nodes } in
    let ws = drop c.args.base c.args.words.now.words in
    let n = 3 + 2 * ranks_of K in
    let names = c.names_of.ensures ∙ ap (names_of K) c.cohort_of-cohort.ensures in
    let is = c.queue_plan-planned.ensures.plan ∙ ap (λ z. plan_at z v.queue.member v.queue.phase) names in
    let away = plan_away (names_of K (cohort_of K v.queue.member)) (cohort_of K v.queue.member) v.queue.member v.queue.phase v.entry c.in_default.not-Settle in
    c.queue_urgency.ensures ∙ ap (λ p. urgent_at v.queue.phase (loaded ws p)) is
    ∙ ap (urgent_at v.queue.phase)
    (loaded_in n ws (plan_at (names_of K (cohort_of K v.queue.member)) v.queue.member v.queue.phase)
    (λ a pl. aims (alock_table K) (AlockBounded K) (BoundsOvertaking K) at (bounded_laws K s.nodes s.seated s.homed) v c.requires.may a (away ∙ pl)))
    ∙ sym (urgent_away K (take n ws) v.queue.member v.queue.phase v.entry c.in_default.not-Settle)
