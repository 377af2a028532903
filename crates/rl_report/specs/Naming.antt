-- How a report names the lock, the queues and their members, by the placement.
use Rattle.std.specs.Prelude.{◌≡◌, ◌⊎◌, ℕ, ◌<◌, List, [], ◌∷◌, length, map, codes, decimal, Bool, true, false, ◌==◌, nat_lt, Option, Some, None, slice_get, if◌then◌else◌}
use Rattle.rl_word.specs.declared.locks.QueueKind.{QueueKind}
use Rattle.rl_word.specs.declared.locks.QueueKind.TheVariants.{NoQueue, OneForAll, TwoCohorts, Elements}
use Rattle.rl_word.specs.LockFacts.{facts_of, has_cohorts}
use Rattle.rl_step.specs.declared.events.Event.{Event}
use Rattle.rl_step.specs.declared.events.Event.TheVariants.{Join, Announce, Pass, Settle, Touch, EnterW, EnterR, LeaveW, LeaveR}
use Rattle.rl_place.specs.declared.path.Path.{Path}
use Rattle.rl_place.specs.declared.lock.Lock.{Lock}
use Rattle.rl_place.specs.LockWords.{lock_word, name_of}
use Rattle.rl_place.specs.Paths.{path_word}
use Rattle.rl_place.specs.Numbering.{element_paths}
use Rattle.rl_place.specs.Places.{ThePlace}
use Rattle.rl_place.specs.Shapes.{parent_in}

-- ---- the names

-- a queue's name, the queue right above it, and whether its members are ranks
pub record TheQueueName : Type 0 where
  pub word : List ℕ
  pub parent : Option ℕ
  pub of_ranks : Bool

-- the lock's name, how many ranks and shards there are, whether the ranks are in two cohorts, and the queues by number
pub record TheNaming : Type 0 where
  pub lock : List ℕ
  pub ranks : ℕ
  pub shards : ℕ
  pub cohorts : Bool
  pub queues : List TheQueueName

-- a queue of ranks that stands by itself
abbrev pub lone_queue : List ℕ → TheQueueName
lone_queue word = record { word = word; parent = None; of_ranks = true }

abbrev pub element_word : Path → List ℕ
element_word path = if path.len == 0 then codes "root" else path_word path

-- the queue of an element: the root's is `root`, any other has its path; the ranks of a node are its members
abbrev pub element_queue_name : ℕ → List Path → Path → TheQueueName
element_queue_name levels elements path =
    record { word = element_word path; parent = parent_in elements path; of_ranks = path.len == levels }

abbrev pub element_queue_names : ℕ → List Path → List TheQueueName
element_queue_names levels elements = map (element_queue_name levels elements) elements

-- the queues of two cohorts
abbrev pub cohort_queue_names : List TheQueueName
cohort_queue_names = lone_queue (codes "local") ∷ lone_queue (codes "remote") ∷ []

-- the queues of a kind, in the order of `queues_of_kind` of `rl_step`: the queue with a number there has the name in that place here
abbrev pub queue_names : QueueKind → ℕ → List Path → List TheQueueName
queue_names NoQueue levels paths = []
queue_names OneForAll levels paths = lone_queue (codes "all") ∷ []
queue_names TwoCohorts levels paths = cohort_queue_names
queue_names (Elements root) levels paths = element_queue_names levels (element_paths paths)

-- the kind of a lock's queues
abbrev pub queue_kind : Lock → QueueKind
queue_kind lock = (facts_of (name_of lock)).queues

abbrev pub naming_of : ThePlace → TheNaming
naming_of place =
    record {
      lock = lock_word (name_of place.lock);
      ranks = length place.paths;
      shards = place.geom.shards;
      cohorts = has_cohorts (queue_kind place.lock);
      queues = queue_names (queue_kind place.lock) place.levels place.paths;
    }

-- ---- the words of a number

abbrev pub queue_name_word : Option TheQueueName → List ℕ
queue_name_word None = []
queue_name_word (Some queue) = queue.word

-- the word of a queue by number
abbrev pub queue_word : TheNaming → ℕ → List ℕ
queue_word naming q = queue_name_word (slice_get naming.queues q)

abbrev pub member_in : TheNaming → ℕ → Option TheQueueName → List ℕ
member_in naming m None = []
member_in naming m (Some queue) = if queue.of_ranks then decimal m else queue_word naming m

-- the word of a queue's member: a rank's number, or a queue's name
abbrev pub member_word : TheNaming → ℕ → ℕ → List ℕ
member_word naming q m = member_in naming m (slice_get naming.queues q)

-- the word of a cohort: 1 is the local one
abbrev pub cohort_word : ℕ → List ℕ
cohort_word cohort = if cohort == 1 then codes "local" else codes "remote"

-- ---- what an event may name

abbrev pub parent_is_at : ℕ → Option ℕ → Bool
parent_is_at q None = false
parent_is_at q (Some p) = p == q

-- the queue stands right below queue q
abbrev pub is_below : ℕ → Option TheQueueName → Bool
is_below q None = false
is_below q (Some queue) = parent_is_at q queue.parent

abbrev pub may_be_in : TheNaming → ℕ → ℕ → Option TheQueueName → Bool
may_be_in naming q m None = false
may_be_in naming q m (Some queue) = if queue.of_ranks then nat_lt m naming.ranks else is_below q (slice_get naming.queues m)

-- A member that an event may name in a queue that there is: any rank, where its members are ranks; else a queue right below it.
abbrev pub is_member : TheNaming → ℕ → ℕ → Bool
is_member naming q m = may_be_in naming q m (slice_get naming.queues q)

-- an event of a report names things that are there, and is no touch
abbrev pub EventFits : TheNaming → Event → Type 0
EventFits naming (Join q m) = is_member naming q m ≡ true
EventFits naming (Announce c) = (naming.cohorts ≡ true) × ((c ≡ 1) ⊎ (c ≡ 2))
EventFits naming (Pass q m) = is_member naming q m ≡ true
EventFits naming (Settle q m) = is_member naming q m ≡ true
EventFits naming (Touch k w) = ⊥
EventFits naming (EnterW k) = k < naming.ranks
EventFits naming (EnterR k) = k < naming.ranks
EventFits naming (LeaveW k) = k < naming.ranks
EventFits naming (LeaveR k) = k < naming.ranks
