-- The laws of a shard's core: all that machines, shards, seats and callers rest on.
use Rattle.std.specs.Prelude.{◌≡◌, ◌↔◌, ℕ, ◌+◌, ◌-◌, ◌==◌, ◌^◌, ◌<◌, ◌≤◌, true, false, List, [], count_by, length, map, slice_get, slice_index, Some, None}
use Rattle.std.specs.FinMap as finite
use Rattle.rl_word.specs.declared.acts.Atom.{Atom}
use Rattle.rl_word.specs.declared.acts.Atom.TheVariants as atom
use Rattle.rl_model.specs.declared.call.Call.{Call}
use Rattle.rl_model.specs.Geom.{GeomFits}
use Rattle.rl_step.specs.declared.events.Standing.TheVariants.{Writer, Reader}
use Rattle.rl_step.specs.declared.events.Stepped.{Stepped}
use Rattle.rl_step.specs.declared.events.Stepped.TheVariants.{Busy, Finished}
use Rattle.rl_step.specs.Do.{TheWindow, do_got}
use Rattle.rl_step.specs.Exclusion.{IsExclusive, writers, readers}
use Rattle.rl_step.specs.Lock.{InOrder, AllNamed}
use Rattle.rl_step.specs.Batches.{AreActsOf}
use Rattle.rl_step.specs.QueuePromises.{KeepQueues, CountTenures}
use Rattle.rl_journal.specs.Legal.{IsLegal, table_after}
use Rattle.rl_journal.specs.History.{history, IsSorted}
use Rattle.rl_volume.specs.Volume.{IsVolume}
use Rattle.rl_site.specs.Site.{Site, lock_base, places, volume_of}
use Rattle.rl_site.specs.Opens.{IsOpen, IsOwnTranscript}
use Rattle.rl_core.specs.Answering.{AnswersTo}
use Rattle.rl_core.specs.Domains.{IsCardAtom, IsLocalAtom, UsesCards, UsesLocals}
use Rattle.rl_core.specs.EventRanks.{AreByRanks}
use Rattle.rl_core.specs.Standings.{AloneIn, leaves, IsUnhindered}
use Rattle.rl_core.specs.Touches.{IsGuarded}
use Rattle.rl_core.specs.Desks.{Desk, OpensBlock, Turns, desk_entries}
use Rattle.rl_core.specs.ShardTables.{ShardTable, turned_by, AllShut, transition_by, journal_at, kept_in}
use Rattle.rl_core.specs.Moments.{Moment, CoreSays, first_moment, after_atom, after_opening}

-- the table is one of this site, its words are those of the site and those behind the journal, and the work's own are the last of these
pub record IsLaidAtSite {V : Type 0} (T : ShardTable V) (site : Site) : Type 0 where
  pub site_is : T.site ≡ site
  pub words_are : T.core.size ≡ lock_base site + T.behind
  pub own_last : T.own_at + T.own_words ≡ T.core.size

-- a rank whose view is this one may open this block, whose first call has this number: none is open, the block fits, and it is a call
-- alone where the machine does no batches
pub record MayOpen {V : Type 0} (T : ShardTable V) (rank : ℕ) (v : V) (calls : List Call) (seq : ℕ) : Type 0 where
  pub shut : (T.own v).is_open ≡ false
  pub fits : IsOpen T.site rank calls seq (T.own v).kept
  pub takes : T.batches ≡ false → length calls ≡ 1

-- a rank's desk on a shard: its entries are its own, in order, and no more updates than it has room for; none are owed but of an open block
pub record IsDeskOf (site : Site) (rank : ℕ) (d : Desk) : Type 0 where
  pub own : IsOwnTranscript site rank (desk_entries d)
  pub owing : d.owes ≡ true → d.is_open ≡ true

-- a desk before the first block
pub record IsNewDesk (room : ℕ) (d : Desk) : Type 0 where
  pub shut : d.is_open ≡ false
  pub nothing : desk_entries d ≡ []
  pub room_is : d.kept.room ≡ room

module _ {V : Type 0} (S : CoreSays V) where
  -- at a good moment a rank has this view
  pub record IsSeated (m : Moment V) (r : ℕ) (v : V) : Type 0 where
    pub is_good : S.good m
    pub has : slice_get m.views r ≡ Some v

  -- and this is its next atom
  pub record IsNext (m : Moment V) (r : ℕ) (v : V) (at : Atom) : Type 0 where
    pub seated : IsSeated m r v
    pub next : S.table.core.next v ≡ Some at

  -- the ranks may begin, each with room for so many entries: the words are laid out by the site and their numbers fit, and the site and
  -- these rooms have a number for each rank
  pub record MayBegin (rooms : List ℕ) : Type 0 where
    pub laid : IsLaidAtSite S.table S.table.site
    pub fits : GeomFits S.table.site.geom
    pub small : lock_base S.table.site + S.table.behind < 2 ^ 32
    pub updates : length S.table.site.rooms ≡ length S.layout.node_of
    pub entries : length rooms ≡ length S.layout.node_of
    pub few : length S.layout.node_of < 2 ^ 32

  -- Which moments are good and what is known of them, why a step is answered as it is, and what the lock says further of events and acts
  pub record ShardCoreLaws : Type 0 where
    -- ---- the numbers

    -- few words stand behind the journal; all words are there, their numbers fit, and there is a view for each rank
    pub few_words : length S.table.site.rooms ≤ 32 → S.table.behind ≤ 2 ^ 17
    pub words : (m : Moment V) → S.good m → length m.held.words ≡ lock_base S.table.site + S.table.behind
    pub fits : (m : Moment V) → S.good m → lock_base S.table.site + S.table.behind < 2 ^ 32
    pub geom_fits : (m : Moment V) → S.good m → GeomFits S.table.site.geom
    pub few_ranks : (m : Moment V) → S.good m → length m.views < 2 ^ 32
    pub ranks : (m : Moment V) → S.good m → length m.views ≡ length S.layout.node_of
    -- ---- what keeps it good

    -- at the start nothing has happened
    pub begins : (rooms : List ℕ) → MayBegin rooms → S.good (first_moment S.table S.layout.nodes rooms)
    -- a rank makes its next atom
    pub atom_keeps : (m : Moment V) (r : ℕ) (v : V) (at : Atom) → IsNext m r v at → S.good (after_atom S.table m r v at)
    -- a rank opens a block that fits, where none is open
    pub open_keeps : (m : Moment V) (r : ℕ) (v : V) (calls : List Call) (seq : ℕ) → IsSeated m r v → MayOpen S.table r v calls seq →
        S.good (after_opening S.table m r v calls seq)
    -- ---- desks

    pub first_desk : (room rank : ℕ) → IsNewDesk room (S.table.own (S.table.first room rank))
    pub own_desk : (m : Moment V) (r : ℕ) (v : V) → IsSeated m r v → IsDeskOf S.table.site r (S.table.own v)
    pub told_desk : (m : Moment V) (r : ℕ) (v : V) → IsSeated m r v → IsDeskOf S.table.site r (S.table.desk m.held.words r v)
    -- a rank's view knows whether its block is open: it has a next atom then; and where none is open it knows all of its desk
    pub open_is : (m : Moment V) (r : ℕ) (v : V) → IsSeated m r v → (S.table.core.next v ≡ None) ↔ ((S.table.own v).is_open ≡ false)
    pub knows_open : (m : Moment V) (r : ℕ) (v : V) → IsSeated m r v → (S.table.desk m.held.words r v).is_open ≡ (S.table.own v).is_open
    pub settled : (m : Moment V) (r : ℕ) (v : V) → IsSeated m r v → (S.table.own v).is_open ≡ false → S.table.desk m.held.words r v ≡ S.table.own v
    -- a block that is opened
    pub opens_own : (m : Moment V) (r : ℕ) (v : V) (calls : List Call) (seq : ℕ) → IsSeated m r v → MayOpen S.table r v calls seq →
        OpensBlock calls seq (S.table.own v) (S.table.own (S.table.opened calls seq v))
    pub opens_told : (m : Moment V) (r : ℕ) (v : V) (calls : List Call) (seq : ℕ) → IsSeated m r v → MayOpen S.table r v calls seq →
        OpensBlock calls seq (S.table.desk m.held.words r v) (S.table.desk m.held.words r (S.table.opened calls seq v))
    -- an atom of rank r turns its own desk, and, as the words tell them, the desks of all ranks
    pub turns_own : (m : Moment V) (r : ℕ) (v : V) (at : Atom) → IsNext m r v at →
        Turns S.table.site.shard r (S.table.own v) (S.table.own (turned_by S.table m.held v at).view)
    pub turns_told : (m : Moment V) (r : ℕ) (v : V) (at : Atom) → IsNext m r v at →
        (j : ℕ) (u w : V) → slice_get m.views j ≡ Some u → slice_get
        (after_atom S.table m r v at).views j ≡ Some w → Turns S.table.site.shard j (S.table.desk m.held.words j u)
        (S.table.desk (after_atom S.table m r v at).held.words j w)
    -- ---- what is known of a good state

    pub exclusive : (m : Moment V) → S.good m → IsExclusive m.trace
    pub alone_in : (m : Moment V) → S.good m → AloneIn (map S.table.standing m.views)
    -- who stands as a writer or a reader is who is one by the events so far
    pub stands : (m : Moment V) (r : ℕ) (v : V) → IsSeated m r v →
        ((S.table.standing v ≡ Writer) ↔ writers m.trace r) × ((S.table.standing v ≡ Reader) ↔ readers m.trace r)
    pub legal : (m : Moment V) → S.good m → IsLegal S.table.site.geom (journal_at S.table m.held.words) (kept_in S.table m.held.words 0 m.views)
    pub sorted : (m : Moment V) → S.good m → IsSorted (history (journal_at S.table m.held.words) (kept_in S.table m.held.words 0 m.views))
    -- the journal has a place for each update; and while no block is open the volume is that of the table after it
    pub short : (m : Moment V) → S.good m → length (journal_at S.table m.held.words) ≤ places S.table.site
    pub volume_left : (m : Moment V) → S.good m → AllShut S.table m.views →
        IsVolume S.table.site.geom S.table.site.shard (volume_of S.table.site.geom m.held.words)
        (table_after S.table.site.geom finite.empty (journal_at S.table m.held.words))
    -- the queues keep their promises; while no block is open each was settled and passed as often as it was had, and a rank whose block is
    -- over has left as a writer as often as its entries say
    pub queues : (m : Moment V) → S.good m → KeepQueues S.table.queues m.trace
    pub counted : (m : Moment V) → S.good m → AllShut S.table m.views → CountTenures S.table.queues m.trace
    pub left_as : (m : Moment V) (r : ℕ) (v : V) → IsSeated m r v → (S.table.own v).is_open ≡ false →
        leaves r m.trace ≡ count_by S.table.tenure (desk_entries (S.table.own v))
    -- the events name queues, members and cohorts that the lock has, and ranks that there are; those of one atom stand in the order of
    -- their kinds
    pub named : (m : Moment V) → S.good m → AllNamed S.table.queues S.table.cohort m.trace
    pub by_ranks : (m : Moment V) → S.good m → AreByRanks (length m.views) m.trace
    pub orders : (m : Moment V) (r : ℕ) (v : V) (at : Atom) → IsNext m r v at →
        InOrder (turned_by S.table m.held v at).events × (length (turned_by S.table m.held v at).events ≤ 8)
    -- what the lock guards only its holders touch; each such access is told, and nothing else is told as one
    pub guards : (m : Moment V) (r : ℕ) (v : V) (at : Atom) → IsNext m r v at →
        IsGuarded (lock_base S.table.site) r at (S.table.standing v) (S.table.own v).calls (turned_by S.table m.held v at).events
    -- a rank makes atoms of cards, and local compare-and-swaps, only where it may: by the core's own word, which its lock gives
    pub cards : (m : Moment V) (r : ℕ) (v : V) (at : Atom) → IsNext m r v at → IsCardAtom at → UsesCards S.table.may_make r
    pub locals : (m : Moment V) (r : ℕ) (v : V) (at : Atom) → IsNext m r v at → IsLocalAtom at → UsesLocals S.table.may_make r
    -- ---- answers

    -- no atom is answered as if none was made
    pub goes_on : (m : Moment V) (r : ℕ) (v : V) (at : Atom) → IsNext m r v at → (turned_by S.table m.held v at).stepped ≡ Finished → ⊥
    -- Busy comes of a Take of a card that this rank is in, and nothing else; and it changes nothing
    pub busy : (m : Moment V) (r : ℕ) (v : V) (at : Atom) (node holder : ℕ) → IsNext m r v at → (turned_by S.table m.held v at).stepped ≡ Busy node holder →
        (at ≡ atom.Take node) × (slice_index m.held.cards node ≡ holder + 1)
    pub held : (m : Moment V) (r : ℕ) (v : V) (node : ℕ) (k : TheWindow) → IsNext m r v (atom.Take node) → (slice_index k.cards node == 0) ≡ false →
        ((turned_by S.table k v (atom.Take node)).view ≡ v) × ((turned_by S.table k v (atom.Take node)).events ≡ []) ×
        ((turned_by S.table k v (atom.Take node)).stepped ≡ Busy node (slice_index k.cards node - 1))
    -- each answer says of its atom and of what it found what it has to say, whatever the core
    pub answers : (m : Moment V) (r : ℕ) (v : V) (at : Atom) → IsNext m r v at → AnswersTo m.held at (turned_by S.table m.held v at).stepped
    -- and has its cause, as the core tells it; Finished, where there is no atom, too
    pub causes : (m : Moment V) (r : ℕ) (v : V) (at : Atom) → IsNext m r v at → S.cause m.held v (Some at) (turned_by S.table m.held v at).stepped
    pub rests : (h : TheWindow) (v : V) → S.cause h v None Finished
    -- nobody is in the way of a rank that is alone
    pub unhindered : (m : Moment V) (r : ℕ) (v : V) (answer : Stepped) → length S.layout.node_of ≡ 1 → IsSeated m r v →
        S.cause m.held v (S.table.core.next v) answer → IsUnhindered answer
    -- ---- what the lock says further

    pub says : (m : Moment V) → S.good m → S.further m.trace m.acts
    -- and the acts of which it speaks are those of the atoms, by the lock's words before and after each and by what it told
    pub shows : (m : Moment V) (r : ℕ) (v : V) (at : Atom) → IsNext m r v at →
        AreActsOf (S.table.deeds v (do_got at m.held.words m.held.cards)) (transition_by S.table m.held v at)

-- each core of a kind keeps the laws
abbrev pub LawsOf : {C V : Type 0} → (C → CoreSays V) → Type 0
LawsOf says = (c : _) → ShardCoreLaws (says c)
