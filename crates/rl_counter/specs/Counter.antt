-- Counters of readers as plain functions: the act of a rank in each phase, what it learns, and the tasks that it begins.
use Rattle.std.specs.Prelude.{◌≡◌, ℕ, ◌+◌, ◌-◌, ◌^◌, ◌%◌, ◌<◌, ◌==◌, ◌&&◌, Bool, true, false, List, length, nat_lt, if◌then◌else◌, slice_index, Option, Some, None}
use Rattle.rl_word.specs.declared.acts.Act.{Act}
use Rattle.rl_word.specs.declared.acts.Act.TheVariants.{Load, CardSwap, CardAdd}
use Rattle.rl_counter.specs.declared.view.Doing.{Doing}
use Rattle.rl_counter.specs.declared.view.Doing.TheVariants.{Nothing, Arrive, Refused, SeeTail, Swap, Reset, Round, RoundTail, Inside, Depart, Put, Count, Compare, TakeOut, TakeOff}
use Rattle.rl_counter.specs.declared.view.Task.{Task}
use Rattle.rl_counter.specs.declared.view.Task.TheVariants.{Enter, Exit, Up, Down}

-- the words of the counters, the root's tail, and how many readers may come to a counter
pub record TheCounters : Type 0 where
  pub arrive : List ℕ
  pub depart : List ℕ
  pub root_tail : ℕ
  pub readers : ℕ

abbrev pub arrive_word : TheCounters → ℕ → ℕ
arrive_word C g = slice_index C.arrive g

abbrev pub depart_word : TheCounters → ℕ → ℕ
depart_word C g = slice_index C.depart g

-- a sum that takes so much off, modulo 2^64
abbrev pub off : ℕ → ℕ
off x = (2 ^ 64 - x) % 2 ^ 64

-- a rank has a task under way
abbrev pub busy : Doing → Bool
busy Nothing = false
busy Inside = false
busy p = true

-- what it does first of a task
abbrev pub begun : Task → Doing
begun Enter = Arrive
begun Exit = Depart
begun Up = Put 0
begun Down = TakeOut 0

-- The act of a rank of group g. A writer's mark is 2^32; it is taken off with what was taken out.
abbrev pub counter_act : TheCounters → ℕ → Doing → Option Act
counter_act C g Nothing = None
counter_act C g Arrive = Some (CardAdd (arrive_word C g) 1)
counter_act C g (Refused a) = Some (CardAdd (arrive_word C g) (off 1))
counter_act C g (SeeTail a) = Some (Load C.root_tail)
counter_act C g Swap = Some (CardSwap (depart_word C g) 0)
counter_act C g (Reset x) = Some (CardAdd (arrive_word C g) (off x))
counter_act C g Round = Some (Load (arrive_word C g))
counter_act C g (RoundTail a) = Some (Load C.root_tail)
counter_act C g Inside = None
counter_act C g Depart = Some (CardAdd (depart_word C g) 1)
counter_act C g (Put i) = Some (CardAdd (arrive_word C i) (2 ^ 32))
counter_act C g (Count i) = Some (Load (arrive_word C i))
counter_act C g (Compare i a) = Some (Load (depart_word C i))
counter_act C g (TakeOut i) = Some (CardSwap (depart_word C i) 0)
counter_act C g (TakeOff i x) = Some (CardAdd (arrive_word C i) (off ((2 ^ 32 + x) % 2 ^ 64)))

-- what a rank does next, and whether it has to make a round again
pub record CounterTurn : Type 0 where
  pub doing : Doing
  pub waits : Bool

abbrev pub to : Doing → CounterTurn
to p = record { doing = p; waits = false }

-- a reader that found so many in arrive, and this in the root's tail, has seen no writer
abbrev pub unseen : ℕ → ℕ → Bool
unseen a tail = (tail == 0) && nat_lt a (2 ^ 32)

-- What a rank learns where its act told got. Of what was counted under a mark 2^32 are the mark: the counter is clear where the rest
-- has departed.
abbrev pub counter_turn : TheCounters → Doing → ℕ → CounterTurn
counter_turn C Nothing got = to Nothing
counter_turn C Arrive got = if nat_lt got C.readers then to Inside else to (Refused got)
counter_turn C (Refused a) got = to (SeeTail a)
counter_turn C (SeeTail a) got = if unseen a got then to Swap else to Round
counter_turn C Swap got = to (Reset got)
counter_turn C (Reset x) got = to Arrive
counter_turn C Round got = if nat_lt got C.readers then to Arrive else to (RoundTail got)
counter_turn C (RoundTail a) got = if unseen a got then to Arrive else record { doing = Round; waits = true }
counter_turn C Inside got = to Inside
counter_turn C Depart got = to Nothing
counter_turn C (Put i) got = if nat_lt (i + 1) (length C.arrive) then to (Put (i + 1)) else to (Count 0)
counter_turn C (Count i) got = to (Compare i got)
counter_turn C (Compare i a) got = if got == a - 2 ^ 32 then (if nat_lt (i + 1) (length C.arrive) then to (Count (i + 1)) else to Nothing)
    else record { doing = Count i; waits = true }
counter_turn C (TakeOut i) got = to (TakeOff i got)
counter_turn C (TakeOff i x) got = if nat_lt (i + 1) (length C.arrive) then to (TakeOut (i + 1)) else to Nothing

-- the counter at which a rank of group g is
abbrev pub counter_at : ℕ → Doing → ℕ
counter_at g (Put i) = i
counter_at g (Count i) = i
counter_at g (Compare i a) = i
counter_at g (TakeOut i) = i
counter_at g (TakeOff i x) = i
counter_at g p = g

-- what the code asks: the counters are no more than numbers tell, each has both its words, and the rank's and the one at which it is
-- are there
pub record NamesCounters (C : TheCounters) (g : ℕ) (p : Doing) : Type 0 where
  pub alike : length C.depart ≡ length C.arrive
  pub few : length C.arrive < 2 ^ 32
  pub own : g < length C.arrive
  pub here : counter_at g p < length C.arrive
