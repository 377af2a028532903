-- The words of a name, of an atom with what it found, and of an answer.
use Rattle.std.specs.Prelude.{ℕ, ◌==◌, List, [], ◌∷◌, ◌++◌, codes, decimal, if◌then◌else◌}
use Rattle.rl_word.specs.declared.acts.Atom.{Atom}
use Rattle.rl_word.specs.declared.acts.Atom.TheVariants as atom
use Rattle.rl_step.specs.declared.events.Stepped.{Stepped}
use Rattle.rl_step.specs.declared.events.Stepped.TheVariants as answer
use Rattle.rl_report.specs.Naming.{TheNaming, queue_word}
use Rattle.rl_names.specs.declared.word_map.WordMap.{WordMap}
use Rattle.rl_names.specs.declared.word_name.WordName.{WordName}
use Rattle.rl_names.specs.declared.word_name.WordName.TheVariants as word
use Rattle.rl_names.specs.Names.{name_of}

-- the word of each of the nine words of a post
abbrev pub post_part : ℕ → List (List ℕ)
post_part i =
    if i == 0 then codes "flag" ∷ []
    else (if i == 1 then codes "kind" ∷ []
    else (if i == 2 then codes "post" ∷ codes "key" ∷ []
    else (if i == 3 then codes "first" ∷ []
    else (if i == 4 then codes "second" ∷ []
    else (if i == 5 then codes "number" ∷ []
    else (if i == 6 then codes "place" ∷ []
    else (if i == 7 then codes "code" ∷ []
    else codes "post" ∷ codes "value" ∷ [])))))))

-- an element has the name of its queue
abbrev pub name_words : TheNaming → WordName → List (List ℕ)
name_words naming word.Fixed = codes "fixed" ∷ []
name_words naming word.Count = codes "count" ∷ []
name_words naming word.Free = codes "free" ∷ []
name_words naming (word.State bucket) = codes "state" ∷ decimal bucket ∷ []
name_words naming (word.Key bucket) = codes "key" ∷ decimal bucket ∷ []
name_words naming (word.Value bucket) = codes "value" ∷ decimal bucket ∷ []
name_words naming (word.Link cell) = codes "link" ∷ decimal cell ∷ []
name_words naming (word.CellKey cell) = codes "cell" ∷ codes "key" ∷ decimal cell ∷ []
name_words naming (word.CellValue cell) = codes "cell" ∷ codes "value" ∷ decimal cell ∷ []
name_words naming (word.Journal place i) = codes "journal" ∷ decimal place ∷ decimal i ∷ []
name_words naming word.Lock = codes "word" ∷ []
name_words naming word.Tail = codes "tail" ∷ []
name_words naming word.LocalTail = codes "local" ∷ codes "tail" ∷ []
name_words naming word.RemoteTail = codes "remote" ∷ codes "tail" ∷ []
name_words naming word.Victim = codes "victim" ∷ []
name_words naming (word.Next rank) = codes "next" ∷ decimal rank ∷ []
name_words naming (word.Status rank) = codes "status" ∷ decimal rank ∷ []
name_words naming (word.ElementTail element) = codes "tail" ∷ codes "of" ∷ queue_word naming element ∷ []
name_words naming (word.ElementNext element) = codes "next" ∷ codes "of" ∷ queue_word naming element ∷ []
name_words naming (word.ElementStatus element) = codes "status" ∷ codes "of" ∷ queue_word naming element ∷ []
name_words naming (word.Arrive group) = codes "arrive" ∷ decimal group ∷ []
name_words naming (word.Depart group) = codes "depart" ∷ decimal group ∷ []
name_words naming word.Version = codes "version" ∷ []
name_words naming (word.Post rank i) = post_part i ++ decimal rank ∷ []

-- the name of a word of a shard
abbrev pub word_words : TheNaming → WordMap → ℕ → List (List ℕ)
word_words naming map w = name_words naming (name_of map w)

-- `= FOUND`
abbrev pub found_words : ℕ → List (List ℕ)
found_words found = codes "=" ∷ decimal found ∷ []

-- a store, as this act, and what it writes
abbrev pub store_words : List ℕ → TheNaming → WordMap → ℕ → ℕ → List (List ℕ)
store_words act naming map w v = act ∷ (word_words naming map w ++ codes ":=" ∷ decimal v ∷ [])

-- a compare-and-swap: its guess, what it writes where that is met, and what it found
abbrev pub swap_words : TheNaming → WordMap → ℕ → ℕ → ℕ → ℕ → List (List ℕ)
swap_words naming map w old new found =
    codes "local-cas" ∷ (word_words naming map w ++ (decimal old ∷ codes "to" ∷ decimal new ∷ found_words found))

-- An atom, and what it found: a load tells what it found, a store what it writes, a compare-and-swap its guess, what it writes where that is met, and
-- what it found. What a take found its answer tells.
abbrev pub atom_words : TheNaming → WordMap → Atom → ℕ → List (List ℕ)
atom_words naming map (atom.Load w) found = codes "load" ∷ (word_words naming map w ++ found_words found)
atom_words naming map (atom.Store w v) found = store_words (codes "store") naming map w v
atom_words naming map (atom.LocalCas w old new) found = swap_words naming map w old new found
atom_words naming map (atom.Take n) found = codes "take" ∷ codes "card" ∷ decimal n ∷ []
atom_words naming map (atom.CardLoad w) found = codes "card-load" ∷ (word_words naming map w ++ found_words found)
atom_words naming map (atom.CardStore w v) found = store_words (codes "card-store") naming map w v
atom_words naming map (atom.Leave n) found = codes "leave" ∷ codes "card" ∷ decimal n ∷ []

-- the answer of a step: what was guessed where a compare was lost, or a get that reads without the lock, and which rank is in a card
-- that is busy
abbrev pub answer_words : Stepped → List (List ℕ)
answer_words answer.Moved = codes "moved" ∷ []
answer_words (answer.Waiting w v) = codes "waiting" ∷ []
answer_words (answer.Lost guess seen) = codes "lost" ∷ decimal guess ∷ []
answer_words (answer.Busy node holder) = codes "busy" ∷ decimal holder ∷ []
answer_words answer.Finished = codes "finished" ∷ []
