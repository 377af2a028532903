-- What each table step changes of what its seat knows, and what it tells.
use Rattle.std.specs.Prelude.{◌≡◌, ℕ, ◌+◌, List, [], ◌∷◌, ◌++◌, length, drop, Option, Some, None}
use Rattle.atomic_table.specs.Table.{Me}
use Rattle.rl_step.specs.Do.{TheWindow}
use Rattle.rl_step.specs.Core.{CoreTable}
use Rattle.rl_window.specs.Rule.{sized, MayBeAt, MayGetAt, Keeps}
use Rattle.rl_window.specs.declared.knows.RootKnows.{RootKnows}
use Rattle.rl_window.specs.declared.knows.RankKnows.{RankKnows}
use Rattle.rl_window.specs.declared.knows.Knows.{Knows}
use Rattle.rl_window.specs.declared.knows.Knows.TheVariants.{Root, Rank, Spent}

module _ {C V : Type 0} where
  -- what a rank's seat knows after an atom that v had next and that found got: the view after it, and one table step more
  abbrev pub after_step : (C → CoreTable V) → RankKnows C V → V → ℕ → Knows C V
  after_step table r v got = Rank (record { core = r.core; size = r.size; nodes = r.nodes; rank = r.rank; view = ((table r.core).after v got).view; steps = r.steps + 1 })

  -- a rank's seat goes on by one atom, which v had next: some state can give got for it, some state has the view after it, and the
  -- seat knows that
  abbrev pub Moves : (C → TheWindow → List V → Type 0) → (C → CoreTable V) → V → ℕ → Knows C V → Knows C V → Type 0
  Moves rule table v got (Rank r) k =
      MayGetAt (table r.core) (sized (rule r.core) r.size r.nodes) r.rank v got × MayBeAt (sized (rule r.core) r.size r.nodes) r.rank ((table r.core).after v got).view × (k ≡ after_step table r v got)
  Moves rule table v got _ k = Unit {0}

  -- the same, where the call tells the view
  abbrev pub MovesWhereTold : (C → TheWindow → List V → Type 0) → (C → CoreTable V) → Option V → ℕ → Knows C V → Knows C V → Type 0
  MovesWhereTold rule table (Some v) got k k' = Moves rule table v got k k'
  MovesWhereTold rule table None got k k' = Unit {0}

  -- the root seat, with the seat of the next rank split off
  abbrev pub without_next : Knows C V → Knows C V
  without_next (Root r) = Root (record r { given = r.given + 1; to_come = drop 1 r.to_come })
  without_next k = k

  -- the seat of the next rank, with the first of the views that are to come
  abbrev pub first_of : RootKnows C V → List V → Knows C V
  first_of r (v ∷ vs) = Rank (record { core = r.core; size = r.size; nodes = r.nodes; rank = r.given; view = v; steps = 0 })
  first_of r [] = Spent

  abbrev pub next_seat : Knows C V → Knows C V
  next_seat (Root r) = first_of r r.to_come
  next_seat k = Spent

  -- the root seat, with the view of one more seat that has ended
  abbrev pub with_ended : Option V → Knows C V → Knows C V
  with_ended (Some v) (Root r) = Root (record r { ended = r.ended ++ v ∷ [] })
  with_ended _ k = k

  -- the view that a rank's seat knows; any other seat's is v
  abbrev pub last_of : V → Knows C V → V
  last_of v (Rank r) = r.view
  last_of v _ = v

  -- how many table steps a rank's seat has made
  abbrev pub steps_of : Knows C V → ℕ
  steps_of (Rank r) = r.steps
  steps_of _ = 0

  -- what the seat of this rank knows, whose view and count are those of k
  abbrev pub rank_knows : C → ℕ → ℕ → ℕ → V → Knows C V → Knows C V
  rank_knows core size nodes rank v k = Rank (record { core = core; size = size; nodes = nodes; rank = rank; view = last_of v k; steps = steps_of k })

  -- the seat is this rank's, and holds no slot of the table
  abbrev pub IsRankAt : C → ℕ → ℕ → ℕ → V → Me ℕ (Knows C V) → Type 0
  IsRankAt core size nodes rank v me = me ≡ (rank_knows core size nodes rank v me.0, [])

  -- a rank's seat is the next to be joined to the root seat, and its view goes from the one in the table to v as the rule allows
  abbrev pub CanEnd : (C → TheWindow → List V → Type 0) → Me ℕ (Knows C V) → Me ℕ (Knows C V) → V → Type 0
  CanEnd rule root me v = (q : RootKnows C V) × (r : RankKnows C V) × (root ≡ (Root q, [])) × (me ≡ (Rank r, [])) × (r.rank ≡ length q.ended) × (r.core ≡ q.core) × Keeps (rule r.core) r.rank r.view v
