-- The window is that of the shard where the rank goes round.
use Rattle.std.proofs.Common.{◌≡◌, ◌<◌, length, sym, subst}
use Rattle.rl_machine.specs.Rested.{ShowsRound}
use Rattle.rl_machine.specs.Running.{running}
use Rattle.rl_replay.specs.laws.RestedLaws.{window_at, shards_there}
use Rattle.rl_replay.proofs.rounds.shows_round.Goals as goal
use Rattle.rl_replay.proofs.rounds.shows_round.Goals.{After-words}
use Rattle.rl_replay.proofs.rounds.shows_round.Given.{Over}

pub words-requires : goal.words-requires
words-requires g c = shards_there g.C.ShardCore.says c.args.machine.now c.args.shard c.requires.in_round.1.shard c.requires.in_round.1.has

held : (g : Over) (c : After-words g) → c.words.result.now ≡ c.requires.in_round.1.shard.held
held g c = window_at (running g.C.ShardCore.says c.args.machine.now) c.args.shard c.requires.in_round.1.shard c.words.result.now c.requires.in_round.1.has c.words.ensures

pub shows-requires-clause-here : goal.shows-requires-clause-here
shows-requires-clause-here g c = subst (λ h. c.args.round.here.word < length h.words) (sym (held g (goal.at.shows-requires-clause-here g c).After-words)) c.requires.in_round.1.is_round.word_here

pub shows-requires-clause-there : goal.shows-requires-clause-there
shows-requires-clause-there g c = subst (λ h. c.args.round.there.word < length h.words) (sym (held g (goal.at.shows-requires-clause-there g c).After-words)) c.requires.in_round.1.is_round.word_there

pub returns : goal.returns
returns g c = λ shown rank is. (is, subst (λ h. ShowsRound h c.args.round c.args.count) (window_at (running g.C.ShardCore.says c.args.machine.now) c.args.shard is.shard c.words.result.now is.has c.words.ensures) (c.shows.ensures shown))
