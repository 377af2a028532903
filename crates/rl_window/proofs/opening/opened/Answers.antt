use Rattle.std.proofs.Common.{rules, replicate, refl}
use Rattle.std.proofs.lemmas.List.{length-replicate}
use Rattle.rl_window.proofs.Opened.{opens, all_split_off_at}
use Rattle.rl_window.proofs.opening.opened.Goals as goal

pub of_words-requires : goal.of_words-requires
of_words-requires g c = opens g.C.Core.rule _ c.as_slice.result.now (record { words = c.args.words.now; cards = replicate c.args.nodes 0 }) (search rules) refl (length-replicate c.args.nodes 0) c.requires.rule

pub returns-clause-seats : goal.returns-clause-seats
returns-clause-seats g c = let made = c.in_ok-table.ensures in
    all_split_off_at g.C.Core.rule _ c.split_all.new.seats.items c.in_ok-table.table.shared.key _ made.5 (record { words = c.args.words.now; cards = replicate c.args.nodes 0 }) refl (length-replicate c.args.nodes 0) c.requires.rule c.split_all.new.root c.split_all.ensures.opening c.new.ensures refl refl refl
