-- Files in memory.
use Rattle.std.specs.Prelude.{◌≡◌, ◌⊎◌, ℕ, List, [], Option, Some, None, slice_get, String, length, unwrap_or, string_bytes}
use Rattle.std.specs.Global.{Global, Vec}
use Rattle.std.specs.List.{position}
use Rattle.std.specs.Str.{bytes_eq}
use Rattle.rl_io.specs.Script.{TheFailing, FailsNext}

-- a file has a name and bytes
abbrev pub File : Type 0
File = String Global × Vec ℕ

-- the bytes of a file that may be missing
abbrev pub content : Option File → List ℕ
content None = []
content (Some file) = file.1.items

-- the bytes of the file at an index, and none past the end
abbrev pub bytes_at : List File → ℕ → List ℕ
bytes_at files i = content (slice_get files i)

-- where the first file of a name stands
abbrev pub place_of : List File → List ℕ → Option ℕ
place_of files name = position (λ file. bytes_eq (string_bytes file.0) name) files

-- the bytes of the first file of a name, and none where no file has it
abbrev pub bytes_of : List File → List ℕ → List ℕ
bytes_of files name = bytes_at files (unwrap_or (place_of files name) (length files))

-- files, and what is left of the open one
pub record TheSureFiles : Type 0 where
  pub files : List File
  pub left : List ℕ

-- files that give a piece at a time, and calls that are to fail
pub record TheMemFiles : Type 0 where
  pub files : List File
  pub left : List ℕ
  pub piece : ℕ
  pub script : TheFailing

-- a name can't be opened: the call is to fail, or no file has it
abbrev pub FailsToOpen : TheMemFiles → List ℕ → Type 0
FailsToOpen s name = FailsNext s.script ⊎ (place_of s.files name ≡ None)
