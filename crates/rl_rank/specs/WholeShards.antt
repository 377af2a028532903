-- A rank's machine over any lock and any way of working, as machines, shards, seats and callers see it; and what is good of its words,
-- cards and views by a trace and by acts.
use Rattle.std.specs.Prelude.{◌≡◌, ◌⊎◌, ℕ, ◌+◌, Bool, true, false, List, length, map, slice_get, Some}
use Rattle.rl_word.specs.Acts.{Layout}
use Rattle.rl_step.specs.declared.events.Event.{Event}
use Rattle.rl_step.specs.declared.events.Standing.{Standing}
use Rattle.rl_step.specs.declared.events.Standing.TheVariants.{Out, Asking}
use Rattle.rl_step.specs.Lock.{LockTable, Deed, AllNamed}
use Rattle.rl_step.specs.Exclusion.{ExclusiveFrom, writers_of, readers_of, nobody}
use Rattle.rl_core.specs.EventRanks.{AreByRanks}
use Rattle.rl_core.specs.ShardTables.{ShardTable}
use Rattle.rl_core.specs.Moments.{Moment, CoreSays}
use Rattle.rl_rank.specs.declared.card_state.CardState.TheVariants.{Free}
use Rattle.rl_rank.specs.declared.whole.Whole.{Whole}
use Rattle.rl_rank.specs.declared.whole.WholeView.{WholeView}
use Rattle.rl_rank.specs.Running.{LockAt, Tables, Goods, Rules, lock_at, good_at}
use Rattle.rl_rank.specs.Opening.{first_view, opened_in}
use Rattle.rl_rank.specs.Split.{card_of}
use Rattle.rl_rank.specs.Causes.{Cause}
use Rattle.rl_rank.specs.Holders.{Match}
use Rattle.rl_rank.specs.Whole.{Good, counts, own_desk, told_desk, whole_table, made_deeds}

-- how a rank with this view stands at the lock
abbrev pub stand : {V K : Type 0} → LockTable V → WholeView V K → Standing
stand T x = T.standing x.side.view

-- how it stands on the shard: as it does at the lock; but while its block is open and it is out there, it is asking
abbrev pub standing_while : Standing → Bool → Standing
standing_while Out true = Asking
standing_while st b = st

abbrev pub stand_on : {V K : Type 0} → LockAt V K → WholeView V K → Standing
stand_on L x = standing_while (stand L.table x) (L.work.is_open x.work)

-- the machine over the lock and the work of L, the words of whose site live on this home
abbrev pub whole_shard : {V K : Type 0} → LockAt V K → ℕ → ShardTable (WholeView V K)
whole_shard L home =
    record {
      core = whole_table L home;
      site = L.work.site;
      behind = L.table.size + L.work.size;
      own_at = L.work.behind;
      own_words = L.work.size;
      first = first_view L;
      opened = opened_in L;
      deeds = made_deeds L.table;
      standing = stand_on L;
      card = λ x. card_of L.table x.side;
      own = own_desk L;
      desk = told_desk L;
      queues = L.table.queues;
      cohort = L.table.cohort;
      tenure = counts L;
      may_make = L.table.may_make;
      batches = L.work.batches;
    }

-- the machine of a core
abbrev pub shard_at : {A W V K : Type 0} → Tables A W V K → Whole A W V K → ShardTable (WholeView V K)
shard_at table core = whole_shard (lock_at table core) core.home

-- a rank that is out of the lock and still has a card to leave is done with its block
abbrev pub IsDoneInCard : {V K : Type 0} → LockAt V K → WholeView V K → Type 0
IsDoneInCard L x = stand L.table x ≡ Out → (x.side.card ≡ Free) ⊎ (L.work.is_open x.work ≡ false)

-- the rule holds, by this very trace and by these acts; the ranks that the trace tells of as writers and readers stand so; the trace is
-- exclusive; its events name what the lock has, and ranks that there are; and who is only in a card yet is done
pub record WholeGood {V K : Type 0} (L : LockAt V K) (good : Goods V K) (layout : Layout) (m : Moment (WholeView V K)) : Type 0 where
  pub rule : Good L good layout m.held m.views
  pub same : rule.past.trace ≡ m.trace
  pub made : rule.past.deeds ≡ m.acts
  pub match : Match (writers_of nobody m.trace) (readers_of nobody m.trace) (map (stand L.table) m.views)
  pub exclusive : ExclusiveFrom nobody nobody m.trace
  pub named : AllNamed L.table.queues L.table.cohort m.trace
  pub by_ranks : AreByRanks (length m.views) m.trace
  pub done : (r : ℕ) (x : WholeView V K) → slice_get m.views r ≡ Some x → IsDoneInCard L x

-- what is said of the machine over the lock and the work of L, whose lock says so much further
abbrev pub whole_says : {V K : Type 0} → LockAt V K → Goods V K → (List Event → List Deed → Type 0) → Layout → ℕ → CoreSays (WholeView V K)
whole_says L good further layout home =
    record { table = whole_shard L home; good = WholeGood L good layout; cause = Cause L; further = further; layout = layout }

-- and of the machine of a core
abbrev pub core_says : {A W V K : Type 0} → Tables A W V K → Rules A W V K → (A → List Event → List Deed → Type 0) → (A → Layout) → Whole A W V K →
    CoreSays (WholeView V K)
core_says table good further layout core = whole_says (lock_at table core) (good_at good core) (further core.algo) (layout core.algo) core.home
