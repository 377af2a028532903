-- What is proved of counters, for any words, any groups and any bound of readers: each statement as one word, in the order of the
-- clauses of `counter_laws`.
use Rattle.std.specs.Prelude.{◌≡◌, ◌≢◌, ℕ, ◌+◌, ◌^◌, ◌<◌, ◌≤◌, Bool, true, false, List, replicate, slice_get, slice_index, slice_set, Some}
use Rattle.rl_word.specs.declared.acts.Act.{Act}
use Rattle.rl_word.specs.declared.acts.Act.TheVariants.{CardAdd}
use Rattle.rl_word.specs.Acts.{word_of, written, told}
use Rattle.rl_step.specs.Lock.{IsLoad, PlansLoad, FindsOld}
use Rattle.rl_counter.specs.declared.view.Doing.{Doing}
use Rattle.rl_counter.specs.declared.view.Doing.TheVariants.{Nothing, Inside, Put, Count, Compare}
use Rattle.rl_counter.specs.declared.view.Task.{Task}
use Rattle.rl_counter.specs.declared.view.Task.TheVariants.{Exit, Up, Down}
use Rattle.rl_counter.specs.Counter.{TheCounters, arrive_word, depart_word, begun, counter_act, counter_turn, counter_at}
use Rattle.rl_counter.specs.CounterGood.{IsReader, IsMark, Mark, Down as NoMark, Clear, Taking, mark_adds, inside_of, refused_of, taken_of, group_sum, GroupGood, AllGood, mark_by, AreSound}

-- group g is the one that rank r is in
pub record IsOfGroup (mine : ℕ → ℕ → Bool) (r g : ℕ) : Type 0 where
  pub mine_is : mine g r ≡ true
  pub alone : (h : ℕ) → mine h r ≡ true → h ≡ g

-- the words after an act
abbrev pub words_after : List ℕ → Act → List ℕ
words_after ws a = slice_set ws (word_of a) (written a (slice_index ws (word_of a)))

-- what a rank that does p does after its act
abbrev pub next_of : TheCounters → List ℕ → Doing → Act → Doing
next_of C ws p a = (counter_turn C p (told a (slice_index ws (word_of a)))).doing

-- which tasks a rank may begin: a reader's exit where it is inside, any other where it does nothing
abbrev pub MayBegin : Task → Doing → Type 0
MayBegin Exit p = p ≡ Inside
MayBegin t p = p ≡ Nothing

-- a rank has the same share in its counter
abbrev pub ShareSame : Doing → Doing → Type 0
ShareSame p q = (inside_of p ≡ inside_of q) × (refused_of p ≡ refused_of q) × (taken_of p ≡ taken_of q)

-- a mark under which a writer knows that nobody is in
abbrev pub IsCleared : Mark → Type 0
IsCleared Clear = Unit {0}
IsCleared (Taking x) = Unit {0}
IsCleared m = ⊥

-- whether all marks are clear, or down, once a writer's task has ended
abbrev pub ends_clear : Doing → Bool
ends_clear (Put i) = true
ends_clear (Count i) = true
ends_clear (Compare i a) = true
ends_clear p = false

module _ (C : TheCounters) (n : ℕ) (mine : ℕ → ℕ → Bool) where
  -- where all words are 0 and no rank does anything, each counter is good, without a mark
  abbrev pub Begins : Type 0
  Begins = (size : ℕ) (ps : List Doing) → ((r : ℕ) (p : Doing) → slice_get ps r ≡ Some p → p ≡ Nothing) → AllGood C n mine (replicate size 0) ps (λ g. NoMark)

  -- THE BALANCE: arrive is never too small. The mark, all who are in, all who were refused and what departed are in it, and what was
  -- taken out and not yet off; and it is so small that no sum wraps.
  abbrev pub IsNeverTooSmall : Type 0
  IsNeverTooSmall =
      (ws : List ℕ) (ps : List Doing) (m : Mark) (g : ℕ) → AreSound C n ws ps → GroupGood C (mine g) g ws ps m →
      (mark_adds m + (group_sum (mine g) inside_of ps + (group_sum (mine g) refused_of ps +
      (slice_index ws (depart_word C g) + group_sum (mine g) taken_of ps))) ≤ slice_index ws (arrive_word C g)) ×
      (slice_index ws (arrive_word C g) < 2 ^ 34)

  -- a writer that has compared knows that nobody is in, until it takes the mark off
  abbrev pub HasNobodyInside : Type 0
  HasNobodyInside = (ws : List ℕ) (ps : List Doing) (m : Mark) (g r : ℕ) (p : Doing) → IsCleared m → GroupGood C
      (mine g) g ws ps m → slice_get ps r ≡ Some p → mine g r ≡ true → inside_of p ≡ 0

  -- where arrive is below the bound, as a reader finds it that comes in, no mark is up
  abbrev pub LetsInUnmarked : Type 0
  LetsInUnmarked = (ws : List ℕ) (ps : List Doing) (m : Mark) (g : ℕ) → AreSound C n ws ps → GroupGood C (mine g) g ws ps m → slice_index ws
      (arrive_word C g) < C.readers → m ≡ NoMark

  -- each act of a reader keeps all counters good, whatever the marks are and whatever it finds in the root's tail
  abbrev pub ReadersKeep : Type 0
  ReadersKeep =
      (ws : List ℕ) (ps : List Doing) (M : ℕ → Mark) (r c : ℕ) (p : Doing)
      (a : Act) → AreSound C n ws ps → c < n → IsOfGroup mine r c → slice_get ps r ≡ Some p → IsReader p → counter_act C c p ≡ Some a →
      AllGood C n mine ws ps M → AllGood C n mine (words_after ws a) (slice_set ps r (next_of C ws p a)) M

  -- so does each act of a rank at the marks, where none else is there: it changes the mark of the counter at which it is alone
  abbrev pub WritersKeep : Type 0
  WritersKeep =
      (ws : List ℕ) (ps : List Doing) (inside : Bool) (r c : ℕ) (p : Doing)
      (a : Act) → AreSound C n ws ps → IsMark p → counter_at c p < n → slice_get ps r ≡ Some p → counter_act C c p ≡ Some a →
      AllGood C n mine ws ps (mark_by inside p) → AllGood C n mine (words_after ws a) (slice_set ps r (next_of C ws p a))
      (mark_by (ends_clear p) (next_of C ws p a))

  -- a task that is begun keeps them so
  abbrev pub TasksKeep : Type 0
  TasksKeep = (ws : List ℕ) (ps : List Doing) (M : ℕ → Mark) (r : ℕ) (t : Task)
      (p : Doing) → slice_get ps r ≡ Some p → MayBegin t p → AllGood C n mine ws ps M → AllGood C n mine ws (slice_set ps r (begun t)) M

  -- and a write to another word, by a rank whose share stays
  abbrev pub OthersKeep : Type 0
  OthersKeep =
      (ws : List ℕ) (ps : List Doing) (M : ℕ → Mark) (w x r : ℕ) (p q : Doing) →
      ((g : ℕ) → g < n → (w ≢ arrive_word C g) × (w ≢ depart_word C g)) → slice_get ps r ≡ Some p → ShareSame p q →
      AllGood C n mine ws ps M → AllGood C n mine (slice_set ws w x) (slice_set ps r q) M

-- A writer begins at the marks as they are: down, or clear.
abbrev pub BeginsAtMarks : Type 0
BeginsAtMarks = (inside : Bool) (g : ℕ) → (mark_by false Nothing g ≡ mark_by inside (begun Up) g) × (mark_by true Nothing g ≡ mark_by inside (begun Down) g)

module _ (C : TheCounters) where
  -- a reader comes in by the one act that adds it to the arrive word of its group, where it found fewer than the bound
  abbrev pub ComesInByArriving : Type 0
  ComesInByArriving = (g : ℕ) (p : Doing) (a : Act) (got : ℕ) → counter_act C g p ≡ Some a → (counter_turn C p got).doing ≡ Inside →
      (a ≡ CardAdd (arrive_word C g) 1) × (got < C.readers)

  -- a rank waits on after a load alone, and stands at a load again
  abbrev pub WaitsOnLoads : Type 0
  WaitsOnLoads = (g : ℕ) (p : Doing) (a : Act) (got : ℕ) → counter_act C g p ≡ Some a →
      (counter_turn C p got).waits ≡ true → IsLoad a × PlansLoad (counter_act C g (counter_turn C p got).doing)

  -- it compares nothing, and its acts tell what they find
  abbrev pub TellsWhatItFinds : Type 0
  TellsWhatItFinds = (g : ℕ) (p : Doing) (a : Act) (x : ℕ) → counter_act C g p ≡ Some a → FindsOld a x × (told a x ≡ x)
