-- An advance, with its events noted, is one atom of the definition.
use Rattle.std.proofs.Common.{◌≡◌, ◌∙◌, ◌++◌, Some, None, slice_set, ap, subst, sym}
use Rattle.rl_step.specs.Do.{do_got}
use Rattle.rl_machine.specs.State.{running_shard}
use Rattle.rl_machine.specs.ShardSteps.{numbered}
use Rattle.rl_machine.specs.laws.StepLaws.{Advances, advanced_shard, shard_by}
use Rattle.rl_machine.proofs.shard.atom_on.Goals as goal
use Rattle.rl_machine.proofs.shard.atom_on.Goals.{After-advance_flat-stepped}
use Rattle.rl_machine.proofs.shard.atom_on.Given.{Over}

advances : (g : Over) (c : After-advance_flat-stepped g) →
    Advances (running_shard g.C.ShardCore.says c.args.shard.now) c.args.rank
    c.advance_flat-stepped.new.flat.words c.advance_flat-stepped.new.flat.views.items c.advance_flat-stepped.new.events.items c.advance_flat-stepped.result
advances g c =
    let made = c.advance_flat-stepped.ensures in
    let flat = c.args.shard.now.flat in
    let same = g.met.C.ShardCore.same_table c.args.shard.now.core in
    record {
      there = c.requires.there;
      finished = λ x has none. let f = made.finished x has (subst (λ T. T.next x ≡ None) same none) in (f.0, f.1, ap (λ z. z.words) f.2, ap (λ z. z.views.items) f.2);
      made = λ x at has next.
          let n = subst (λ T. T.next x ≡ Some at) same next in
          let a = made.answer x at has n in
          let got = do_got at flat.words.words flat.words.cards in (
            made.words x at has n,
            made.views x at has n ∙ ap (λ T. slice_set flat.views.items c.args.rank (T.after x got).view) (sym same),
            a.same_events ∙ ap (λ T. (T.after x got).events) (sym same),
            a.same_answer ∙ ap (λ T. (T.after x got).stepped) (sym same),
          );
    }

pub advance_flat-stepped-requires-clause-ruled : goal.advance_flat-stepped-requires-clause-ruled
advance_flat-stepped-requires-clause-ruled g c =
    let s = c.args.shard.now in
    g.met.C.ShardCore.ruled s.core _ c.requires.good.is_good

pub returns-clause-made : goal.returns-clause-made
returns-clause-made g c =
    let S = running_shard g.C.ShardCore.says c.args.shard.now in
    let h = c.advance_flat-stepped.new.flat.words in
    let vs = c.advance_flat-stepped.new.flat.views.items in
    let es = c.advance_flat-stepped.new.events.items in
    let answer = c.advance_flat-stepped.result in
    let noted = ap (λ z. c.args.shard.now.events.items ++ numbered c.args.step z) c.as_slice.ensures.value in
    ap (λ z. shard_by S h vs z) (c.note.ensures ∙ noted) ∙
    (advanced_shard S c.args.rank c.args.step h vs es answer (advances g (goal.at.returns-clause-made g c).After-advance_flat-stepped)).0

pub returns-clause-answer : goal.returns-clause-answer
returns-clause-answer g c =
    (advanced_shard (running_shard g.C.ShardCore.says c.args.shard.now) c.args.rank c.args.step
    c.advance_flat-stepped.new.flat.words c.advance_flat-stepped.new.flat.views.items c.advance_flat-stepped.new.events.items c.advance_flat-stepped.result
    (advances g (goal.at.returns-clause-answer g c).After-advance_flat-stepped)).1
