-- A card with a rank in it shows that the rank which takes it is held off; and so many steps of it are so many answers counted.
use Rattle.std.proofs.Common.{◌≡◌, ◌==◌, ◌-◌, ◌<◌, ℕ, false, length, slice_index, sym, ◌∙◌, subst, refl}
use Rattle.rl_step.specs.declared.events.Stepped.TheVariants.{Busy}
use Rattle.rl_step.specs.Do.{TheWindow}
use Rattle.rl_machine.specs.Running.{running}
use Rattle.rl_replay.specs.laws.RestedLaws.{window_at, still_rests, counted_run, keeps_with, not_free, shards_there}
use Rattle.rl_replay.proofs.noted.rest_held_off.Goals as goal

pub words-requires : goal.words-requires
words-requires g c = shards_there g.C.ShardCore.says c.args.machine.now c.args.shard c.requires.rested.1.shard c.requires.rested.1.has

pub card-requires : goal.card-requires
card-requires g c =
    let is = c.requires.rested.1 in
    subst (λ h. c.args.node < length h.cards) (sym (window_at (running g.C.ShardCore.says c.args.machine.now) c.args.shard is.shard c.words.result.now is.has c.words.ensures)) is.named

pub returns-clause-run : goal.returns-clause-run
returns-clause-run g c = λ _ rank is.
    let h = c.words.result.now in
    let card : ℕ = slice_index h.cards c.args.node in
    let some : (card == 0) ≡ false = not_free card (λ none. c.if-card-eq0.false (c.card.ensures ∙ none)) in
    let m = running g.C.ShardCore.says c.args.machine.now in
    let rests = still_rests m rank c.args.shard (Busy c.args.node 0) (Busy c.args.node (card - 1)) is
    (subst (λ (w : TheWindow). ((slice_index w.cards c.args.node == 0) ≡ false) × (Busy c.args.node (card - 1) ≡ Busy c.args.node (slice_index w.cards c.args.node - 1)))
    (window_at m c.args.shard is.shard c.words.result.now is.has c.words.ensures) (some, refl)) in
    counted_run m (running g.C.ShardCore.says c.count_more.new.self) rank c.args.count (Busy c.args.node (card - 1)) rests c.count_more.ensures.counted

pub returns-clause-noted : goal.returns-clause-noted
returns-clause-noted g c =
    keeps_with g.C.Resting.with_sight (running g.C.ShardCore.says c.args.machine.now) (running g.C.ShardCore.says c.count_more.new.self) _ c.count_more.ensures.counted
