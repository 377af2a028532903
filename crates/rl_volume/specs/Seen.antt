-- The words that a call has read, and which it reads next.
use Rattle.std.specs.Prelude.{◌≡◌, ℕ, ◌+◌, ◌<◌, ◌≤◌, ◌==◌, nat_lt, if◌then◌else◌, List, [], ◌∷◌, length, take, get_or, slice_index, count_by, Option, Some, None, IfSome, refl}
use Rattle.std.specs.Option.{unwrap_or}
use Rattle.std.specs.Map.{lookup}
use Rattle.std.specs.List.{position}
use Rattle.std.specs.Coded.{Coded, code_by, coded×, coded_list, coded_ℕ}
use Rattle.rl_model.specs.declared.call.Call.{Call}
use Rattle.rl_model.specs.declared.geom.Geom.{Geom}
use Rattle.rl_volume.specs.declared.write.Write.{Write}
use Rattle.rl_volume.specs.Walk.{Walk, stop, look, walk}

-- what contracts see of the words that were read: each with the value that it gave, and how many there is room for
pub record SeenWords : Type 0 where
  pub pairs : List (ℕ × ℕ)
  pub room : ℕ

-- they are stored as their parts
abbrev pub seen_words_code : Coded SeenWords
seen_words_code =
    code_by (List (ℕ × ℕ) × ℕ) (coded× (coded_list (coded× coded_ℕ coded_ℕ)) coded_ℕ) (λ s. (s.pairs, s.room)) (λ p. record { pairs = p.0; room = p.1 }) (λ _. refl)

-- the value that a word gave, where it was read
abbrev pub value_of : List (ℕ × ℕ) → ℕ → Option ℕ
value_of pairs word = lookup (λ w. w == word) pairs

-- the value that a word gave, or 0
abbrev pub value_or_zero : List (ℕ × ℕ) → ℕ → ℕ
value_or_zero pairs word = unwrap_or (value_of pairs word) 0

-- the words with a value written to one of them: that word has it from then on, whether it was read or not
abbrev pub with_value : List (ℕ × ℕ) → ℕ → ℕ → List (ℕ × ℕ)
with_value [] word value = (word, value) ∷ []
with_value (p ∷ ps) word value = if p.0 == word then ((word, value) ∷ ps) else (p ∷ with_value ps word value)

-- the words with some writes applied, in order
abbrev pub patched : List (ℕ × ℕ) → List Write → List (ℕ × ℕ)
patched pairs [] = pairs
patched pairs (w ∷ ws) = patched (with_value pairs w.word w.value) ws

-- each word that was read has in the volume the value that it gave
abbrev pub AgreesWith : List (ℕ × ℕ) → List ℕ → Type 0
AgreesWith pairs words = (word : ℕ) → IfSome (value_of pairs word) (λ value. slice_index words word ≡ value)

-- no word was read twice, all are below the room, and so they fit into it
pub record AreApart (pairs : List (ℕ × ℕ)) (room : ℕ) : Type 0 where
  pub once : (word : ℕ) → count_by (λ p. p.0 == word) pairs ≤ 1
  pub below : count_by (λ p. nat_lt p.0 room) pairs ≡ length pairs

-- 1 + the place of a word among those that were read, or 0 where it wasn't
abbrev pub place_number : List (ℕ × ℕ) → ℕ → ℕ
place_number pairs word = elim (position (λ p. p.0 == word) pairs) [ None ↦ 0 | Some place ↦ place + 1 ]

-- the place of each word is noted
abbrev pub ArePlaced : List (ℕ × ℕ) → List ℕ → Type 0
ArePlaced pairs places = (word : ℕ) → slice_index places word ≡ place_number pairs word

-- the word that a walk looks at next: the first on its way that wasn't read
abbrev pub next_in : Walk → List (ℕ × ℕ) → Option ℕ
next_in stop pairs = None
next_in (look word go) pairs = elim (value_of pairs word) [ None ↦ Some word | Some value ↦ next_in (go value) pairs ]

-- the word that a call reads next: the next one of its walk
abbrev pub next_word : Geom → Call → List (ℕ × ℕ) → Option ℕ
next_word geom call pairs = next_in (walk geom call) pairs

-- all words on the way of a walk were read
abbrev pub IsWalked : Walk → List (ℕ × ℕ) → Type 0
IsWalked stop pairs = Unit {0}
IsWalked (look word go) pairs = (value : ℕ) × (value_of pairs word ≡ Some value) × IsWalked (go value) pairs

-- a call has read all that it needs
abbrev pub IsReadingOver : Geom → Call → List (ℕ × ℕ) → Type 0
IsReadingOver geom call pairs = IsWalked (walk geom call) pairs

-- the call has read these words from nothing on, each when it was the next one
abbrev pub AreNamed : Geom → Call → List (ℕ × ℕ) → Type 0
AreNamed geom call pairs = (i : ℕ) → i < length pairs → next_word geom call (take i pairs) ≡ Some (get_or pairs i (0, 0)).0
