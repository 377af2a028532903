-- The tree of a shape: its queues, and their words and members.
use Rattle.std.specs.Prelude.{ℕ, zero, suc, ◌+◌, ◌-◌, ◌*◌, ◌/◌, ◌==◌, Bool, false, List, [], ◌∷◌, ◌++◌, length, nat_lt, if◌then◌else◌, slice_get, slice_index, Option, Some, None}
use Rattle.rl_word.specs.declared.classes.Spot.{Spot}
use Rattle.rl_word.specs.declared.classes.Class.TheVariants as class
use Rattle.rl_word.specs.declared.shapes.Element.{Element}
use Rattle.rl_word.specs.Shapes.{TheShape}
use Rattle.rl_step.specs.Queues.{QueueOf}
use Rattle.rl_step.specs.LockQueues.{parent_of, element_budget, element_queue, element_queues, is_node as node_in, leaf_of as leaf_in, is_in as member_in}
use Rattle.rl_queue.specs.declared.view.Phase.TheVariants.{Idle}
use Rattle.rl_queue.specs.Queue.{TheNames}
use Rattle.rl_queue.specs.RankWords.{every_second}
use Rattle.rl_tree.specs.declared.rooted.Rooted.{Rooted}
use Rattle.rl_tree.specs.declared.view.TreeView.{TreeView}
use Rattle.rl_tree.specs.Tree.{TheTree, path}

abbrev pub how_many : Rooted → ℕ
how_many K = length K.shape.elements

abbrev pub ranks_in : Rooted → ℕ
ranks_in K = length K.shape.node_of

abbrev pub first_node_of : Option Element → ℕ
first_node_of None = 0
first_node_of (Some x) = x.first_node

-- an element is a node; and the element of a rank's node
abbrev pub is_node : Rooted → ℕ → Bool
is_node K e = node_in K.shape e

abbrev pub leaf_of_rank : Rooted → ℕ → ℕ
leaf_of_rank K r = leaf_in K.shape r

-- Words: the tail of each element; then the next word and the status word of each element but the root; then those of each rank.
abbrev pub words_of_elements : TheShape → ℕ
words_of_elements shape = length shape.elements + 2 * (length shape.elements - 1)

abbrev pub of_elements : Rooted → ℕ
of_elements K = words_of_elements K.shape

abbrev pub of_tree : Rooted → ℕ
of_tree K = of_elements K + 2 * ranks_in K

abbrev pub names_by : TheShape → Option ℕ → ℕ → TheNames
names_by shape root q =
    record {
      queue = q;
      tail = q;
      tail_class = class.Card;
      next = if node_in shape q then every_second (words_of_elements shape) (length shape.node_of) else 0 ∷ every_second
          (length shape.elements) (length shape.elements - 1);
      status = if node_in shape q then every_second (words_of_elements shape + 1) (length shape.node_of) else 0 ∷ every_second
          (length shape.elements + 1) (length shape.elements - 1);
      budget = element_budget shape root q;
    }

abbrev pub names_in : Rooted → ℕ → TheNames
names_in K q = names_by K.shape K.root q

-- the first n values of a function
abbrev pub upto : {X : Type 0} → (ℕ → X) → ℕ → List X
upto f zero = []
upto f (suc n) = upto f n ++ f n ∷ []

-- the words of all queues, as the code has them
abbrev pub all_names : TheShape → Option ℕ → List TheNames
all_names shape root = upto (names_by shape root) (length shape.elements)

abbrev pub tree_of : Rooted → TheTree
tree_of K = record { names = names_in K; parent = λ e. parent_of (slice_get K.shape.elements e) }

-- the path up from an element as the code has it: the element, and the three above it
abbrev pub path_row : Rooted → ℕ → List ℕ
path_row K e = path (tree_of K) e 0 ∷ path (tree_of K) e 1 ∷ path (tree_of K) e 2 ∷ path (tree_of K) e 3 ∷ []

-- the members of a queue: a node's are its ranks, another element's the elements whose parent it is; and the queues by number
abbrev pub is_in : Rooted → ℕ → ℕ → Bool
is_in K q m = member_in K.shape q m

abbrev pub queue_at : Rooted → ℕ → QueueOf
queue_at K q = element_queue K.shape K.root q

abbrev pub queues_from : Rooted → ℕ → ℕ → List QueueOf
queues_from K from n = element_queues K.shape K.root from n

-- where the words live: the root's tail on the shard's home, an element's words on its first node, a rank's on its own
abbrev pub tree_spot : Rooted → ℕ → Spot
tree_spot K w =
    if w == 0 then record { class = class.Card; home = K.home }
    else if nat_lt w (how_many K) then record { class = class.Card; home = first_node_of (slice_get K.shape.elements w) }
    else if nat_lt w (of_elements K) then record { class = class.Plain; home = first_node_of (slice_get K.shape.elements ((w - how_many K) / 2 + 1)) }
    else record { class = class.Plain; home = slice_index K.shape.node_of ((w - of_elements K) / 2) }

-- a rank that is out
abbrev pub out_at : ℕ → ℕ → TreeView
out_at rank leaf = record { rank = rank; leaf = leaf; level = 0; phase = Idle; query = false; behind = None ∷ None ∷ None ∷ [] }
