-- A shard has no dead end, above the wall: while a block of any rank is open there, somebody's next atom leaves less to do.
use Rattle.std.specs.Prelude.{◌≡◌, ◌⊎◌, ℕ, ◌+◌, ◌<◌, ◌≤◌, List, slice_get, slice_set, Some}
use Rattle.rl_word.specs.declared.acts.Atom.{Atom}
use Rattle.rl_model.specs.declared.call.Call.{Call}
use Rattle.rl_step.specs.Do.{TheWindow, do_atom}
use Rattle.rl_core.specs.ShardTables.{ShardTable, turned_by, AllShut}
use Rattle.rl_core.specs.Moments.{Moment, CoreSays, after_opening}
use Rattle.rl_core.specs.ShardLaws.{MayOpen, IsSeated}

-- `left` is what is left to do of the blocks that are open on the shard, of its words and cards and the ranks' views
module _ {V : Type 0} (T : ShardTable V) (left : TheWindow → List V → ℕ) where
  -- the next atom of a rank with this view leaves less
  pub record Lessens (h : TheWindow) (vs : List V) (r : ℕ) (v : V) : Type 0 where
    pub atom : Atom
    pub next : T.core.next v ≡ Some atom
    pub less : left (do_atom r atom h) (slice_set vs r (turned_by T h v atom).view) < left h vs

  pub record GoesOn (h : TheWindow) (vs : List V) : Type 0 where
    pub rank : ℕ
    pub view : V
    pub has : slice_get vs rank ≡ Some view
    pub goes : Lessens h vs rank view

-- The laws of a shard without a dead end: of its good moments. A block that is opened where none is open adds so much at most.
pub record ShardEnds {V : Type 0} (S : CoreSays V) (left : TheWindow → List V → ℕ) (most : ℕ) : Type 0 where
  pub somebody : (m : Moment V) → S.good m → AllShut S.table m.views ⊎ GoesOn S.table left m.held m.views
  pub open_adds : (m : Moment V) (r : ℕ) (v : V) (calls : List Call) (seq : ℕ) → IsSeated S m r v → AllShut S.table m.views → MayOpen S.table r v calls seq →
      left m.held (after_opening S.table m r v calls seq).views ≤ left m.held m.views + most

-- of all cores of a kind: what is left on a core's shard; and each core keeps the laws
abbrev pub LeftOf : Type 0 → Type 0 → Type 0
LeftOf C V = C → TheWindow → List V → ℕ

abbrev pub EndsOf : {C V : Type 0} → (C → CoreSays V) → LeftOf C V → (C → ℕ) → Type 0
EndsOf says left most = (c : _) → ShardEnds (says c) (left c) (most c)
