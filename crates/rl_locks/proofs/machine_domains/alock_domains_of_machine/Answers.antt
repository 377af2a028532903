-- What a rank of ALock may make of its words, by the table of its shard.
use Rattle.std.proofs.Common.{◌≡◌, true, false, sym, subst, ◌∙◌}
use Rattle.rl_core.specs.Domains.{UsesCards, UsesLocals}
use Rattle.rl_core.specs.ShardTables.{ShardTable}
use Rattle.rl_alock.specs.Alock.{HasTwoDomains}
use Rattle.rl_locks.specs.Kinds.{cohorts}
use Rattle.rl_locks.proofs.SwapLaws.{never_away}
use Rattle.rl_locks.proofs.machine_domains.alock_domains_of_machine.Goals as goal

pub returns : goal.returns
returns g c = λ ks there s S has shape home knobs site is.
    let sound = (c.soundness.ensures.stays ks there).shards s S has in
    let law : HasTwoDomains (cohorts shape home knobs) = c.two_domains.ensures (cohorts shape home knobs) in
    record {
      at_home = λ r x at get next here card.
          let u = subst (λ (T : ShardTable _). UsesCards T.may_make r) is (sound.domains.cards r x at get next card) in
          let clash : true ≡ false = sym u.1 ∙ law.home r u.0 here u.2 in
          cc;
      away = λ r x at get next far local. never_away (cohorts shape home knobs) law r far (subst (λ (T : ShardTable _). UsesLocals T.may_make r) is (sound.domains.locals r x at get next local));
    }
