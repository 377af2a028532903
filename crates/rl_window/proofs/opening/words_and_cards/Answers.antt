use Rattle.std.proofs.Common.{rules}
use Rattle.rl_window.proofs.Apart.{filled_up}
use Rattle.rl_window.proofs.opening.words_and_cards.Goals as goal

pub returns-clause-words : goal.returns-clause-words
returns-clause-words c = filled_up c.args.words.now _ _ c.args.nodes _ c.in_ok-resize.ensures.items (search rules) (search rules)
