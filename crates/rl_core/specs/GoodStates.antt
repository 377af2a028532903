-- Good moments of a shard's core: how they come to be good and stay so, and what is known of them.
use Rattle.std.specs.Prelude.{◌≡◌, ◌↔◌, ℕ, List, map, Some}
use Rattle.rl_word.specs.declared.acts.Atom.{Atom}
use Rattle.rl_model.specs.declared.call.Call.{Call}
use Rattle.rl_step.specs.declared.events.Standing.TheVariants.{Writer, Reader}
use Rattle.rl_step.specs.Exclusion.{writers, readers}
use Rattle.rl_site.specs.Site.{lock_base}
use Rattle.rl_core.specs.Standings.{AloneIn}
use Rattle.rl_core.specs.ShardTables.{turned_by}
use Rattle.rl_core.specs.Moments.{Moment, CoreSays, first_moment, after_atom, after_opening}
use Rattle.rl_core.specs.Touches.{IsGuarded}
use Rattle.rl_core.specs.Answering.{AnswersTo}
use Rattle.rl_core.specs.ShardLaws.{MayOpen, IsSeated, IsNext, MayBegin}

module _ {V : Type 0} (S : CoreSays V) where
  -- before the first atom all is good
  abbrev pub BeginsGood : Type 0
  BeginsGood = (rooms : List ℕ) → MayBegin S rooms → S.good (first_moment S.table S.layout.nodes rooms)

  -- a rank makes its next atom: what that leaves is good, with what has happened
  abbrev pub AtomsKeepGood : Type 0
  AtomsKeepGood = (m : Moment V) (r : ℕ) (v : V) (at : Atom) → IsNext S m r v at → S.good (after_atom S.table m r v at)

  -- a rank opens a block that it may open: that leaves a good moment, and nothing has happened
  abbrev pub OpeningsKeepGood : Type 0
  OpeningsKeepGood =
      (m : Moment V) (r : ℕ) (v : V) (calls : List Call) (seq : ℕ) → IsSeated S m r v → MayOpen S.table r v calls seq → S.good
      (after_opening S.table m r v calls seq)

  -- at a good moment one rank at most is in as a writer, and none as a reader beside it
  abbrev pub GoodExcludes : Type 0
  GoodExcludes = (m : Moment V) → S.good m → AloneIn (map S.table.standing m.views)

  -- the answer of a rank's next atom has its cause at the moment when the atom is made
  abbrev pub AnswersHaveCauses : Type 0
  AnswersHaveCauses =
      (m : Moment V) (r : ℕ) (v : V) (at : Atom) → IsNext S m r v at → S.cause m.held v (Some at) (turned_by S.table m.held v at).stepped

  -- and says of the atom and of what it found there what it has to say
  abbrev pub AnswersTellAtoms : Type 0
  AnswersTellAtoms = (m : Moment V) (r : ℕ) (v : V) (at : Atom) → IsNext S m r v at → AnswersTo m.held at (turned_by S.table m.held v at).stepped

  -- who stands as a writer or a reader is who is one by what has happened
  abbrev pub StandAsTold : Type 0
  StandAsTold =
      (m : Moment V) (r : ℕ) (v : V) → IsSeated S m r v → ((S.table.standing v ≡ Writer) ↔ writers m.trace r) ×
      ((S.table.standing v ≡ Reader) ↔ readers m.trace r)

  -- a rank comes to count, volume and journal only as the lock lets it, and each such atom, and no other, is told as a touch
  abbrev pub TouchesAreTold : Type 0
  TouchesAreTold =
      (m : Moment V) (r : ℕ) (v : V) (at : Atom) → IsNext S m r v at → IsGuarded (lock_base S.table.site) r at (S.table.standing v)
      (S.table.own v).calls (turned_by S.table m.held v at).events
