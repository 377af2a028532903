-- A lock has as many queues as are named, whichever lock it stands on.
use Rattle.std.proofs.Common.{◌≡◌, ℕ, length, refl, sym, ap, ◌∙◌}
use Rattle.std.proofs.lemmas.List.{length-map}
use Rattle.rl_word.specs.declared.locks.LockName.{LockName}
use Rattle.rl_word.specs.declared.locks.QueueKind.{QueueKind}
use Rattle.rl_word.specs.declared.locks.QueueKind.TheVariants.{NoQueue, OneForAll, TwoCohorts, Elements}
use Rattle.rl_word.specs.declared.shapes.Knobs.{Knobs}
use Rattle.rl_word.specs.Shapes.{TheShape}
use Rattle.rl_word.specs.laws.FactLaws.{same_queues}
use Rattle.rl_step.specs.LockQueues.{queues_of, queues_of_kind, root_budget, lock_under}
use Rattle.rl_step.specs.laws.QueueLemmas.{elements_long}
use Rattle.rl_place.specs.Places.{ThePlace}
use Rattle.rl_place.specs.Shapes.{shape_of, knobs_of}
use Rattle.rl_report.specs.Naming.{queue_kind, naming_of, queue_names}
use Rattle.rl_report.specs.Lawful.{queues_at}

-- the lock that is asked for has the same queues
pub under_queues : (name : LockName) (shape : TheShape) (home : ℕ) (knobs : Knobs) → queues_of (lock_under name) shape home knobs ≡ queues_of name shape home knobs
under_queues name shape home knobs = ap (λ (kind : QueueKind). queues_of_kind kind shape home knobs) (same_queues name)

module _ (place : ThePlace) where
  by_kind : (kind : QueueKind) (home : ℕ) (knobs : Knobs) → length (queues_of_kind kind (shape_of place) home knobs) ≡ length (queue_names kind place.levels place.paths)
  by_kind NoQueue home knobs = refl
  by_kind OneForAll home knobs = refl
  by_kind TwoCohorts home knobs = refl
  by_kind (Elements root) home knobs = elements_long (shape_of place) (root_budget root knobs) 0 (length (shape_of place).elements) ∙ length-map _ _ ∙ sym (length-map _ _)

  pub queues_long : (home : ℕ) → length (queues_at place home) ≡ length (naming_of place).queues
  queues_long home = by_kind (queue_kind place.lock) home (knobs_of place.lock)
