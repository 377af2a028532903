-- A word with the value for which a rank waits shows that it waits still; and so many steps of it are so many answers counted.
use Rattle.std.proofs.Common.{◌≡◌, ◌<◌, length, slice_index, sym, ◌∙◌, subst, refl}
use Rattle.rl_step.specs.declared.events.Stepped.TheVariants.{Waiting}
use Rattle.rl_step.specs.Do.{TheWindow}
use Rattle.rl_machine.specs.Running.{running}
use Rattle.rl_replay.specs.laws.RestedLaws.{window_at, still_rests, counted_run, keeps_with, shards_there}
use Rattle.rl_replay.proofs.noted.rest_waiting.Goals as goal

pub words-requires : goal.words-requires
words-requires g c = shards_there g.C.ShardCore.says c.args.machine.now c.args.shard c.requires.rested.1.shard c.requires.rested.1.has

pub value-requires : goal.value-requires
value-requires g c =
    let is = c.requires.rested.1 in
    subst (λ h. c.args.word < length h.words) (sym (window_at (running g.C.ShardCore.says c.args.machine.now) c.args.shard is.shard c.words.result.now is.has c.words.ensures)) is.named

pub returns-clause-run : goal.returns-clause-run
returns-clause-run g c = λ _ rank is.
    let m = running g.C.ShardCore.says c.args.machine.now in
    let waiting = Waiting c.args.word c.args.value in
    let still : slice_index c.words.result.now.words c.args.word ≡ c.args.value = sym c.value.ensures ∙ c.if-value.false in
    let rests = still_rests m rank c.args.shard waiting waiting is
    (subst (λ (w : TheWindow). slice_index w.words c.args.word ≡ c.args.value) (window_at m c.args.shard is.shard c.words.result.now is.has c.words.ensures) still, refl) in
    counted_run m (running g.C.ShardCore.says c.count_more.new.self) rank c.args.count waiting rests c.count_more.ensures.counted

pub returns-clause-noted : goal.returns-clause-noted
returns-clause-noted g c =
    keeps_with g.C.Resting.with_sight (running g.C.ShardCore.says c.args.machine.now) (running g.C.ShardCore.says c.count_more.new.self) _ c.count_more.ensures.counted
