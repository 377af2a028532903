-- What a rank of ALock may make of its words.
use Rattle.std.proofs.Common.{◌≡◌, true, false, sym, subst, ◌∙◌}
use Rattle.rl_core.specs.Domains.{UsesCards, UsesLocals}
use Rattle.rl_core.specs.ShardTables.{ShardTable}
use Rattle.rl_shard.specs.Shards.{core_at, rank_at}
use Rattle.rl_alock.specs.Alock.{Cohorts, HasTwoDomains, cohorts_of}
use Rattle.rl_locks.specs.Kinds.{cohorts}
use Rattle.rl_locks.proofs.SwapLaws.{never_away}
use Rattle.rl_locks.proofs.domains.alock_domains.Goals as goal

pub returns-clause-lock : goal.returns-clause-lock
returns-clause-lock g c =
    let lock = (core_at c.args.shard.now).algo in
    let K : Cohorts = cohorts_of lock.home lock.node_of.items lock.local lock.remote in
    let law : HasTwoDomains K = c.two_domains.ensures K in
    record {
      at_home = λ s at is next home card.
          let u = c.domains.ensures.cards s at is next card in
          let clash : true ≡ false = sym u.1 ∙ law.home (rank_at s) u.0 home u.2 in
          cc;
      away = λ s at is next far local. never_away K law (rank_at s) far (c.domains.ensures.locals s at is next local);
    }

pub returns-clause-made : goal.returns-clause-made
returns-clause-made g c = λ shape home knobs site made.
    let law : HasTwoDomains (cohorts shape home knobs) = c.two_domains.ensures (cohorts shape home knobs) in
    record {
      at_home = λ s at is next here card.
          let u = subst (λ (T : ShardTable _). UsesCards T.may_make (rank_at s)) made (c.domains.ensures.cards s at is next card) in
          let clash : true ≡ false = sym u.1 ∙ law.home (rank_at s) u.0 here u.2 in
          cc;
      away = λ s at is next far local. never_away (cohorts shape home knobs) law (rank_at s) far (subst (λ (T : ShardTable _). UsesLocals T.may_make (rank_at s)) made (c.domains.ensures.locals s at is next local));
    }
