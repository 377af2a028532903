-- The words, the cards and the ranks, one after the other.
use Rattle.std.proofs.Common.{length, ap, sym, ◌∙◌}
use Rattle.std.proofs.lemmas.List.{length-map}
use Rattle.rl_machine.specs.Running.{running, shard_run}
use Rattle.rl_shown.proofs.TellingLaws.{body_is}
use Rattle.rl_shown.proofs.state.put_body.Goals as goal

pub returns : goal.returns
returns g c =
    let m = running g.C.ShardCore.says c.args.machine.now in
    body_is c.args.place.now m c.in_ok-naming.naming (length c.args.machine.now.shards) c.naming.inside.ranks c.put_ranks.result c.args.out.now.items c.put_words.new.out.items c.put_cards.new.out.items c.put_ranks.new.out.items
    c.in_ok-naming.ensures.named (sym (length-map c.args.machine.now.shards (shard_run g.C.ShardCore.says))) (ap (λ n. n.ranks) (c.naming.view_is ∙ c.in_ok-naming.ensures.named) ∙ sym c.requires.ranks) c.in_ok-put_words.ensures c.in_ok-put_cards.ensures c.put_ranks.ensures
