-- What is true of one counter: what arrive is made of, how many may be let in, and what a writer's mark tells. And of all of a lock.
use Rattle.std.specs.Prelude.{◌≡◌, ◌≢◌, ℕ, ◌+◌, ◌^◌, ◌<◌, ◌≤◌, ◌==◌, Bool, true, false, List, [], ◌∷◌, length, nat_lt, if◌then◌else◌, slice_index}
use Rattle.rl_counter.specs.declared.view.Doing.{Doing}
use Rattle.rl_counter.specs.declared.view.Doing.TheVariants.{Arrive, Refused, SeeTail, Swap, Reset, Round, RoundTail, Inside, Depart, Put, Count, Compare, TakeOut, TakeOff}
use Rattle.rl_counter.specs.Counter.{TheCounters, arrive_word, depart_word}

-- a reader's phases in which it makes acts, and a writer's at the marks
abbrev pub IsReader : Doing → Type 0
IsReader Arrive = Unit {0}
IsReader (Refused a) = Unit {0}
IsReader (SeeTail a) = Unit {0}
IsReader Swap = Unit {0}
IsReader (Reset x) = Unit {0}
IsReader Round = Unit {0}
IsReader (RoundTail a) = Unit {0}
IsReader Depart = Unit {0}
IsReader p = ⊥

abbrev pub IsMark : Doing → Type 0
IsMark (Put i) = Unit {0}
IsMark (Count i) = Unit {0}
IsMark (Compare i a) = Unit {0}
IsMark (TakeOut i) = Unit {0}
IsMark (TakeOff i x) = Unit {0}
IsMark p = ⊥

-- a writer's mark on one counter: none, put up, with what was found in arrive under it, clear, or about to be taken off with x
pub data Mark : Type 0 where
  Down : Mark
  Up : Mark
  Loaded : ℕ → Mark
  Clear : Mark
  Taking : ℕ → Mark

-- what a mark adds to arrive, and what has gone out of depart by it
abbrev pub mark_adds : Mark → ℕ
mark_adds Down = 0
mark_adds Up = 2 ^ 32
mark_adds (Loaded a) = 2 ^ 32
mark_adds Clear = 2 ^ 32
mark_adds (Taking x) = 2 ^ 32

abbrev pub mark_took : Mark → ℕ
mark_took Down = 0
mark_took Up = 0
mark_took (Loaded a) = 0
mark_took Clear = 0
mark_took (Taking x) = x

-- what is known under a mark of the readers inside and of depart: what was loaded counts them all; a clear counter has no reader
abbrev pub Marked : Mark → ℕ → ℕ → Type 0
Marked Down inside d = Unit {0}
Marked Up inside d = Unit {0}
Marked (Loaded a) inside d = 2 ^ 32 + (inside + d) ≤ a
Marked Clear inside d = inside ≡ 0
Marked (Taking x) inside d = inside ≡ 0

-- what a reader has in its counter: inside, refused, or taken out of depart and not yet off arrive
abbrev pub inside_of : Doing → ℕ
inside_of Inside = 1
inside_of Depart = 1
inside_of p = 0

abbrev pub refused_of : Doing → ℕ
refused_of (Refused a) = 1
refused_of p = 0

abbrev pub taken_of : Doing → ℕ
taken_of (Reset x) = x
taken_of p = 0

-- the sum of a number over a list, by place
abbrev pub sum_at : {X : Type 0} → (ℕ → X → ℕ) → ℕ → List X → ℕ
sum_at f from [] = 0
sum_at f from (x ∷ xs) = f from x + sum_at f (from + 1) xs

abbrev pub if_one : Bool → ℕ → ℕ
if_one true n = n
if_one false n = 0

-- the same over the ranks of a group
abbrev pub group_sum : (ℕ → Bool) → (Doing → ℕ) → List Doing → ℕ
group_sum mine share ps = sum_at (λ k p. if_one (mine k) (share p)) 0 ps

-- Counter with arrive a and depart d, at most T readers, with so many inside and refused and so much taken out by resets, under
-- the mark m. Arrive is the mark and all of these and depart, no more and no less, also while a reset is under way; those that were let
-- in are at most T; and the mark knows what it knows.
pub record CounterGood (T a d inside refused taken : ℕ) (m : Mark) : Type 0 where
  pub balance : a ≡ mark_adds m + (inside + (refused + (d + (taken + mark_took m))))
  pub ceiling : inside + (d + (taken + mark_took m)) ≤ T
  pub marked : Marked m inside d

-- counter g in the words ws, with the ranks of its group, which are mine, doing ps
abbrev pub GroupGood : TheCounters → (ℕ → Bool) → ℕ → List ℕ → List Doing → Mark → Type 0
GroupGood C mine g ws ps m =
    CounterGood C.readers (slice_index ws (arrive_word C g)) (slice_index ws (depart_word C g)) (group_sum mine inside_of ps)
    (group_sum mine refused_of ps) (group_sum mine taken_of ps) m

-- all n counters, where `mine g` are the ranks of group g, and M g the mark on its counter
abbrev pub AllGood : TheCounters → ℕ → (ℕ → ℕ → Bool) → List ℕ → List Doing → (ℕ → Mark) → Type 0
AllGood C n mine ws ps M = (g : ℕ) → g < n → GroupGood C (mine g) g ws ps (M g)

-- The mark on counter g while a rank puts marks up or takes them down; otherwise it is clear where a writer is inside, and else down.
abbrev pub mark_by : Bool → Doing → ℕ → Mark
mark_by inside (Put i) g = if nat_lt g i then Up else Down
mark_by inside (Count i) g = if nat_lt g i then Clear else Up
mark_by inside (Compare i a) g = if nat_lt g i then Clear else if g == i then Loaded a else Up
mark_by inside (TakeOut i) g = if nat_lt g i then Down else Clear
mark_by inside (TakeOff i x) g = if nat_lt g i then Down else if g == i then Taking x else Clear
mark_by true p g = Clear
mark_by false p g = Down

-- the words of n counters are there, and no two of them are one
pub record AreCounted (C : TheCounters) (n size : ℕ) : Type 0 where
  pub many : length C.arrive ≡ n
  pub arrive_there : (g : ℕ) → g < n → arrive_word C g < size
  pub depart_there : (g : ℕ) → g < n → depart_word C g < size
  pub arrive_once : (g h : ℕ) → g < n → h < n → arrive_word C g ≡ arrive_word C h → g ≡ h
  pub depart_once : (g h : ℕ) → g < n → h < n → depart_word C g ≡ depart_word C h → g ≡ h
  pub apart : (g h : ℕ) → g < n → h < n → arrive_word C g ≢ depart_word C h

-- what is asked of the numbers: at most 1000 readers come to a counter, there are at most 32 ranks, and the counters have their words
pub record AreSound (C : TheCounters) (n : ℕ) (ws : List ℕ) (ps : List Doing) : Type 0 where
  pub few : C.readers ≤ 1000
  pub seats : length ps ≤ 32
  pub counted : AreCounted C n (length ws)
