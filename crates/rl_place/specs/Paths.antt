-- A path: one to three numbers that name a node, and its spelling as a word.
use Rattle.std.specs.Prelude.{◌≡◌, ℕ, ◌-◌, ◌≤◌, List, [], ◌∷◌, ◌++◌, length, take, replicate, map, decimal, ◌==◌, nat_le, Option, Some, None, Result, Ok, Err, if◌then◌else◌}
use Rattle.std.specs.List.{list_all, join_with_byte, AllByRecursion}
use Rattle.rl_text.specs.declared.causes.Refusal.{Refusal}
use Rattle.rl_text.specs.declared.causes.Why.TheVariants.{Word, Range}
use Rattle.rl_text.specs.Cut.{pieces}
use Rattle.rl_text.specs.Number.{number_of}
use Rattle.rl_text.specs.Rows.{Row}
use Rattle.rl_text.specs.Reading.{◌>>=◌, refusal_at, needed_at}
use Rattle.rl_place.specs.declared.limits.TheConstants.{MOST_PART}
use Rattle.rl_place.specs.declared.path.Path.{Path}

-- ---- what a path is

-- the path of these numbers: the parts past its length are 0
abbrev pub path_of : List ℕ → Path
path_of numbers = record { len = length numbers; parts = numbers ++ replicate (3 - length numbers) 0 }

-- the path of the root, with no numbers
abbrev pub root_path : Path
root_path = path_of []

-- the path has so many numbers, each within its limit, and 0 past them
pub record IsPath (levels : ℕ) (path : Path) : Type 0 where
  pub numbers : List ℕ
  pub count : length numbers ≡ levels
  pub small : AllByRecursion (λ part. part ≤ MOST_PART) numbers
  pub is : path ≡ path_of numbers

-- the numbers of a path
abbrev pub numbers_in : Path → List ℕ
numbers_in path = take path.len path.parts

-- the first numbers of a path: the group of nodes, or the node, that they name
abbrev pub prefix : Path → ℕ → Path
prefix path n = record { len = n; parts = take n path.parts ++ replicate (3 - n) 0 }

-- ---- its spelling: the numbers between single dots
abbrev pub path_word : Path → List ℕ
path_word path = join_with_byte 46 (map decimal (numbers_in path))

-- ---- reading it

abbrev pub with_first : Option ℕ → Option (List ℕ) → Option (List ℕ)
with_first None others = None
with_first (Some n) None = None
with_first (Some n) (Some others) = Some (n ∷ others)

-- the numbers that these words are, if each is one
abbrev pub numbers_of : List (List ℕ) → Option (List ℕ)
numbers_of [] = Some []
numbers_of (word ∷ words) = with_first (number_of word) (numbers_of words)

-- as many numbers as there are levels, with 0 past them
abbrev pub filled : ℕ → Option (List ℕ) → Option (List ℕ)
filled levels None = None
filled levels (Some numbers) = if length numbers == levels then Some (numbers ++ replicate (3 - levels) 0) else None

-- the parts of a word that is as many numbers as there are levels, between single dots
unfoldable pub parts_of : ℕ → List ℕ → Option (List ℕ)
parts_of levels word = filled levels (numbers_of (pieces 46 word))

abbrev pub or_wrong : Row → ℕ → ℕ → Option (List ℕ) → Result Path Refusal
or_wrong row n levels None = Err (refusal_at row n Word)
or_wrong row n levels (Some parts) =
    if list_all (λ part. nat_le part MOST_PART) parts then Ok (record { len = levels; parts = parts }) else Err (refusal_at row n Range)

-- word n is a path of so many numbers: the form of the whole word is tested before the range of any number
unfoldable pub path_at : Row → ℕ → ℕ → Result Path Refusal
path_at row n levels = do
  word ← needed_at row n
  or_wrong row n levels (parts_of levels word)
