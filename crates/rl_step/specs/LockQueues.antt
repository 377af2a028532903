-- The queues of each kind of lock, by the shape, the shard's home and the settings: their members and their budgets. And what a lock's name decides,
-- fact by fact.
use Rattle.std.specs.Prelude.{◌≡◌, ℕ, zero, suc, ◌+◌, ◌==◌, ◌&&◌, ◌||◌, Bool, true, false, not, List, [], ◌∷◌, length, nat_lt, if◌then◌else◌, slice_get, slice_index, Option, Some, None}
use Rattle.rl_word.specs.declared.locks.LockName.{LockName}
use Rattle.rl_word.specs.declared.locks.QueueKind.{QueueKind}
use Rattle.rl_word.specs.declared.locks.QueueKind.TheVariants.{NoQueue, OneForAll, TwoCohorts, Elements}
use Rattle.rl_word.specs.declared.shapes.Element.{Element}
use Rattle.rl_word.specs.declared.shapes.Knobs.{Knobs}
use Rattle.rl_word.specs.LockFacts.{facts_of, has_cohorts}
use Rattle.rl_word.specs.Shapes.{TheShape}
use Rattle.rl_step.specs.Queues.{QueueOf}

-- one queue of all n ranks, without limit
abbrev pub all_ranks : ℕ → QueueOf
all_ranks n = record { members = λ m. nat_lt m n; of_ranks = true; budget = None }

-- a rank is local where it sits on the shard's home; true names the local cohort, and false the remote one
abbrev pub sits_at : ℕ → List ℕ → ℕ → Bool
sits_at home node_of rank = slice_index node_of rank == home

abbrev pub same : Bool → Bool → Bool
same true b = b
same false b = not b

-- the queue of a cohort
abbrev pub cohort_queue : ℕ → List ℕ → Bool → ℕ → QueueOf
cohort_queue home node_of local budget =
    record { members = λ m. nat_lt m (length node_of) && same local (sits_at home node_of m); of_ranks = true; budget = Some budget }

-- what an element says of itself, where there is one
abbrev pub parent_of : Option Element → Option ℕ
parent_of None = None
parent_of (Some x) = x.parent

abbrev pub budget_by : Option Element → Option ℕ
budget_by None = None
budget_by (Some x) = x.budget

-- a number stands in a list
abbrev pub stands : List ℕ → ℕ → Bool
stands [] e = false
stands (x ∷ xs) e = (x == e) || stands xs e

-- an element is a node where it is a node's leaf
abbrev pub is_node : TheShape → ℕ → Bool
is_node shape e = stands shape.leaf_of e

-- the leaf of a rank's node
abbrev pub leaf_of : TheShape → ℕ → ℕ
leaf_of shape rank = slice_index shape.leaf_of (slice_index shape.node_of rank)

abbrev pub is_at : Option ℕ → ℕ → Bool
is_at None q = false
is_at (Some p) q = p == q

-- the members of an element's queue: a node's are its ranks, another element's the elements whose parent it is
abbrev pub is_in : TheShape → ℕ → ℕ → Bool
is_in shape q m =
    if is_node shape q then nat_lt m (length shape.node_of) && (leaf_of shape m == q) else is_at (parent_of (slice_get shape.elements m)) q

-- its budget: the root's is given apart
abbrev pub element_budget : TheShape → Option ℕ → ℕ → Option ℕ
element_budget shape root zero = root
element_budget shape root (suc e) = budget_by (slice_get shape.elements (suc e))

abbrev pub element_queue : TheShape → Option ℕ → ℕ → QueueOf
element_queue shape root q = record { members = is_in shape q; of_ranks = is_node shape q; budget = element_budget shape root q }

-- the queues of n elements, numbered on from one
abbrev pub element_queues : TheShape → Option ℕ → ℕ → ℕ → List QueueOf
element_queues shape root from zero = []
element_queues shape root from (suc n) = element_queue shape root from ∷ element_queues shape root (from + 1) n

-- ALock's queues: of the ranks at home, and of the others
abbrev pub cohort_queues : TheShape → ℕ → Knobs → List QueueOf
cohort_queues shape home knobs = cohort_queue home shape.node_of true knobs.local ∷ cohort_queue home shape.node_of false knobs.remote ∷ []

-- the budget of the root's queue, where it has one: that of the writers
abbrev pub root_budget : Bool → Knobs → Option ℕ
root_budget true knobs = Some knobs.writers
root_budget false knobs = None

-- the queues of a kind by number: none, one of all ranks, those of the two cohorts, or one for each element
abbrev pub queues_of_kind : QueueKind → TheShape → ℕ → Knobs → List QueueOf
queues_of_kind NoQueue shape home knobs = []
queues_of_kind OneForAll shape home knobs = all_ranks (length shape.node_of) ∷ []
queues_of_kind TwoCohorts shape home knobs = cohort_queues shape home knobs
queues_of_kind (Elements root) shape home knobs = element_queues shape (root_budget root knobs) 0 (length shape.elements)

-- the queues of a lock by number
abbrev pub queues_of : LockName → TheShape → ℕ → Knobs → List QueueOf
queues_of name shape home knobs = queues_of_kind (facts_of name).queues shape home knobs

-- the budget of a queue that there is
abbrev pub budget_if : Option QueueOf → Option ℕ
budget_if None = None
budget_if (Some queue) = queue.budget

abbrev pub budget_of : LockName → TheShape → ℕ → Knobs → ℕ → Option ℕ
budget_of name shape home knobs q = budget_if (slice_get (queues_of name shape home knobs) q)

-- readers hold a lock beside each other
abbrev pub readers_share : LockName → Bool
readers_share name = (facts_of name).shares

-- the lock that is asked for
abbrev pub lock_under : LockName → LockName
lock_under name = (facts_of name).under

-- a get alone is no tenure of a queue
abbrev pub spares_gets : LockName → Bool
spares_gets name = (facts_of name).spares

-- a block may be a batch
abbrev pub does_batches : LockName → Bool
does_batches name = (facts_of name).batches

-- the cohorts that a lock announces: the local one is 1 and the remote one 2, where there are two
abbrev pub cohorts_of : LockName → ℕ → Bool
cohorts_of name = λ c. has_cohorts (facts_of name).queues && ((c == 1) || (c == 2))

-- these are the queues of the lock of this name
abbrev pub AreQueuesOf : LockName → (TheShape → ℕ → Knobs → List QueueOf) → Type 0
AreQueuesOf name queues = (shape : TheShape) (home : ℕ) (knobs : Knobs) → queues shape home knobs ≡ queues_of name shape home knobs
