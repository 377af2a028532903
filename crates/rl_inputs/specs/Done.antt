-- What a program does for the words of its command line: it writes an answer that belongs to the bytes of the named files, and ends with its
-- status. It is said of every program alike; each says which files are named, and which answers belong to their bytes.
use Rattle.std.specs.Prelude.{◌≡◌, ◌≢◌, ◌≤◌, ◌<◌, ◌⊎◌, ℕ, List, take, length, Option, Result, Ok, Err}
use Rattle.rl_io.specs.Outside.{Appends, GoesOn}
use Rattle.rl_inputs.specs.declared.stop.Stop.{Stop}
use Rattle.rl_inputs.specs.declared.stop.Stop.TheVariants as stop
use Rattle.rl_inputs.specs.Files.{Texts}

-- a status, and the bytes that belong to it
pub record TheAnswer : Type 0 where
  pub status : ℕ
  pub text : List ℕ

-- the statuses of answers; 3, 4 and 5 say why there is none, or none that is whole
abbrev pub IsAnswerStatus : ℕ → Type 0
IsAnswerStatus status = (status ≤ 2) ⊎ (status ≡ 6)

-- the line that refuses a file is an answer with 2
abbrev pub refusal : List ℕ → TheAnswer
refusal line = record { status = 2; text = line }

-- a count of faults rose exactly where the status is this one
pub record RisesWith (blamed status before after : ℕ) : Type 0 where
  pub risen : status ≡ blamed → before < after
  pub quiet : status ≢ blamed → after ≡ before

-- What a sink was given in a call, where it tells its bytes.
module _ {K : Type 0} (written : K → Option (List ℕ)) (tells_on : K → ℕ → Type 0) (old new : K) where
  -- a text, and with room for it and some more the sink still tells its bytes through that more
  pub record Wrote (text : List ℕ) : Type 0 where
    pub bytes : Appends (written old) text (written new)
    pub goes_on : GoesOn tells_on old (length text) new

  -- a front of a text, and the sink goes on telling as after all of it
  pub record WroteFront (text : List ℕ) : Type 0 where
    pub count : ℕ
    pub low : count ≤ length text
    pub bytes : Appends (written old) (take count text) (written new)
    pub goes_on : GoesOn tells_on old (length text) new

  -- a status, and what was written with it, where these answers belong to what was asked
  pub record Outcome (belongs : TheAnswer → Type 0) (status : ℕ) : Type 0 where
    -- the status of an answer, and all its bytes
    pub whole : status ≢ 3 → status ≢ 4 → status ≢ 5 → (answer : TheAnswer) × belongs answer × (status ≡ answer.status) × Wrote answer.text
    -- a front of an answer's bytes, where a write failed
    pub cut : status ≡ 4 → (answer : TheAnswer) × belongs answer × WroteFront answer.text
    -- nothing, where a file could not be read or memory ran out: the sink is as it was
    pub silent : (status ≡ 3) ⊎ (status ≡ 5) → new ≡ old

-- What was done with a source of files and a sink: which bytes the named files had, what was written with which status, and who is to blame.
module _ {S K : Type 0} (file : S → List ℕ → Option (List ℕ)) (read_faults : S → ℕ) (written : K → Option (List ℕ))
    (tells_on : K → ℕ → Type 0) (write_faults : K → ℕ) where
  pub record IsDone (theirs : (List ℕ → Option (List ℕ)) → Texts → Type 0) (answers : Texts → TheAnswer → Type 0) (source left : S)
      (old new : K) (status : ℕ) : Type 0 where
    pub texts : Texts
    -- these are the bytes of the named files, where the source tells them
    pub are : theirs (file source) texts
    -- what was written is an answer that belongs to them
    pub outcome : Outcome written tells_on old new (answers texts) status
    -- 3 comes exactly where the source failed
    pub read : RisesWith 3 status (read_faults source) (read_faults left)
    -- 4 comes exactly where the sink failed
    pub write : RisesWith 4 status (write_faults old) (write_faults new)

-- ---- how far a program has come

-- what was answered is one of the answers that belong, unless a fault or want of memory ended it
abbrev pub Belongs : (TheAnswer → Type 0) → Result TheAnswer Stop → Type 0
Belongs belongs (Ok answer) = belongs answer
Belongs belongs (Err (stop.Refused line)) = belongs (refusal line.items)
Belongs belongs (Err stop.Fault) = Unit {0}
Belongs belongs (Err stop.Memory) = Unit {0}

-- what was answered belongs to the bytes of the named files
pub record WasAnswered (theirs : (List ℕ → Option (List ℕ)) → Texts → Type 0) (answers : Texts → TheAnswer → Type 0)
    (file : List ℕ → Option (List ℕ)) (result : Result TheAnswer Stop) : Type 0 where
  pub texts : Texts
  pub are : theirs file texts
  pub belongs : Belongs (answers texts) result

module _ {K : Type 0} (written : K → Option (List ℕ)) (tells_on : K → ℕ → Type 0) (old new : K) where
  -- an answer was written, or with status 4 a front of it
  abbrev pub WasWritten : TheAnswer → ℕ → Type 0
  WasWritten answer status =
      ((status ≡ answer.status) × Wrote written tells_on old new answer.text) ⊎ ((status ≡ 4) × WroteFront written tells_on old new answer.text)

  -- so was what was answered; where there is no answer the sink is as it was
  abbrev pub IsTold : Result TheAnswer Stop → ℕ → Type 0
  IsTold (Ok answer) status = WasWritten answer status
  IsTold (Err (stop.Refused line)) status = WasWritten (refusal line.items) status
  IsTold (Err stop.Fault) status = (status ≡ 3) × (new ≡ old)
  IsTold (Err stop.Memory) status = (status ≡ 5) × (new ≡ old)
