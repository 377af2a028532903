-- The last turn has one step more, or one of its own.
use Rattle.std.proofs.Common.{◌-◌, Some, refl, vec_len, arith, ap, sym, ◌∙◌}
use Rattle.rl_word.specs.laws.Places.{set_same_get}
use Rattle.rl_ops.specs.declared.schedule.Turn.TheVariants.{Steps}
use Rattle.rl_ops.specs.Schedule.{rank_of}
use Rattle.rl_finish.specs.laws.WayOnLaws.{grown, few_in, last_there, pushed_behind, ends_apart}
use Rattle.rl_finish.proofs.finishing.add_step.Goals as goal
use Rattle.rl_finish.proofs.finishing.add_step.Goals.{in-Some+in-Steps+else-last-rank, in-Some+in_default-turn, in_default}

pub overflow_add-turn : goal.overflow_add-turn
overflow_add-turn c =
    let ts = c.args.turns.now.items in
    let n = vec_len c.args.turns.now in
    let all = c.args.turns.now.ok.0 in
    let there = last_there ts n c.in-Some.turn.now (omega arith) (c.in-Some.ensures.variant.0 refl) c.in-Some.ensures.value in
    let few = few_in ts (n - 1) c.in-Steps.last c.in-Steps.count (there ∙ ap Some c.in-Steps.is) in
    let most = c.requires.few in
    omega arith

pub returns-then-last-rank : goal.returns-then-last-rank
returns-then-last-rank c =
    let ts = c.args.turns.now.items in
    let n = vec_len c.args.turns.now in
    let all = c.args.turns.now.ok.0 in
    let some = c.in-Some.ensures.variant.0 refl in
    let there = last_there ts n c.in-Some.turn.now (omega arith) some c.in-Some.ensures.value in
    grown c.args.rank c.in-Steps.count ts (n - 1) (omega arith) (there ∙ ap Some c.in-Steps.is ∙ ap (λ r. Some (Steps r c.in-Steps.count)) c.if-last-rank.true) c.requires.whole

pub returns : goal.returns
returns c =
    let ts = c.args.turns.now.items in
    let n = vec_len c.args.turns.now in
    let all = c.args.turns.now.ok.0 in
    let is = c.in_ok-push.ensures.items in
    elim c.match-last_mut.branch [
      | in-Some+in-Steps+else-last-rank w ↦
          let there = last_there ts n w.in-Some.turn.now (omega arith) (w.in-Some.ensures.variant.0 refl) w.in-Some.ensures.value in
          pushed_behind c.args.rank ts _ _ (ap (λ v. v.items) w.turns-is ∙ set_same_get ts (n - 1) w.in-Some.turn.now there) is
          (ends_apart c.args.rank ts n w.in-Some.turn.now c.requires.whole (omega arith) there (λ last count e same. w.if-last-rank.false (ap rank_of (sym w.in-Steps.is ∙ e) ∙ same))) c.requires.whole
      | in-Some+in_default-turn w ↦
          let there = last_there ts n w.in-Some.turn.now (omega arith) (w.in-Some.ensures.variant.0 refl) w.in-Some.ensures.value in
          pushed_behind c.args.rank ts _ _ (ap (λ v. v.items) w.turns-is ∙ set_same_get ts (n - 1) w.in-Some.turn.now there) is
          (ends_apart c.args.rank ts n w.in-Some.turn.now c.requires.whole (omega arith) there (λ last count e same. w.in_default-turn.not-Steps last count e)) c.requires.whole
      | in_default w ↦
          pushed_behind c.args.rank ts _ _ (ap (λ v. v.items) w.turns-is) is
          (λ i t l e. let some = w.in_default.ensures.variant.1 (omega arith) in cc) c.requires.whole
    ]
