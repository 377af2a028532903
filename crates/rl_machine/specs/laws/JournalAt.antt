-- What a shard's words say of its journal, for the shards of the code.
use Rattle.std.specs.Prelude.{◌≡◌, ◌+◌, ◌^◌, ◌<◌, ◌≤◌, length}
use Rattle.rl_model.specs.Geom.{GeomFits}
use Rattle.rl_journal.specs.Legal.{IsLegalJournal}
use Rattle.rl_site.specs.Site.{places, lock_base}
use Rattle.rl_core.specs.ShardTables.{journal_at}
use Rattle.rl_core.specs.ShardLaws.{LawsOf}
use Rattle.rl_core.specs.Moments.{CoreSays}
use Rattle.rl_machine.specs.Running.{moment_of}
use Rattle.rl_machine.specs.declared.shard.ShardState.{ShardState}
use Rattle.rl_machine.specs.State.{running_shard, IsGood}

module _ {C V : Type 0} (says : C → CoreSays V) (laws : LawsOf says) (s : ShardState C V) (is : IsGood says s) where
  pub short : length (journal_at (says s.core).table s.flat.words.words) ≤ places (says s.core).table.site
  short = (laws s.core).short (moment_of (running_shard says s) is.acts) is.is_good

  pub legal : IsLegalJournal (says s.core).table.site.geom (journal_at (says s.core).table s.flat.words.words)
  legal = ((laws s.core).legal (moment_of (running_shard says s) is.acts) is.is_good).journal_is

  pub all_words : length s.flat.words.words ≡ lock_base (says s.core).table.site + (says s.core).table.behind
  all_words = (laws s.core).words (moment_of (running_shard says s) is.acts) is.is_good

  pub fits : lock_base (says s.core).table.site + (says s.core).table.behind < 2 ^ 32
  fits = (laws s.core).fits (moment_of (running_shard says s) is.acts) is.is_good

  pub geom_fits : GeomFits (says s.core).table.site.geom
  geom_fits = (laws s.core).geom_fits (moment_of (running_shard says s) is.acts) is.is_good

  pub few_ranks : length s.flat.views.items < 2 ^ 32
  few_ranks = (laws s.core).few_ranks (moment_of (running_shard says s) is.acts) is.is_good
