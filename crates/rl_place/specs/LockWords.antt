-- The names of the locks, as words: those that are read, and those that are printed.
use Rattle.std.specs.Prelude.{ℕ, List, [], ◌∷◌, codes, Option, find}
use Rattle.std.specs.Str.{bytes_eq}
use Rattle.rl_word.specs.declared.locks.LockName.{LockName}
use Rattle.rl_word.specs.declared.locks.LockName.TheVariants as named
use Rattle.rl_place.specs.declared.lock.Lock.{Lock}
use Rattle.rl_place.specs.declared.lock.Lock.TheVariants.{Spin, Dmcs, Alock, Mcs, Rw, Seq, Combine}

-- the word of a name
abbrev pub lock_word : LockName → List ℕ
lock_word named.Spin = codes "spin"
lock_word named.Dmcs = codes "dmcs"
lock_word named.Alock = codes "alock"
lock_word named.Mcs = codes "mcs"
lock_word named.Rw = codes "rw"
lock_word named.Seq = codes "seq"
lock_word named.Combine = codes "combine"

-- the name of which this is the word
unfoldable pub lock_named : List ℕ → Option LockName
lock_named word = find (λ name. bytes_eq (lock_word name) word) (named.Spin ∷ named.Dmcs ∷ named.Alock ∷ named.Mcs ∷ named.Rw ∷ named.Seq ∷ named.Combine ∷ [])

-- the name of a lock
abbrev pub name_of : Lock → LockName
name_of Spin = named.Spin
name_of Dmcs = named.Dmcs
name_of (Alock local remote) = named.Alock
name_of (Mcs budgets) = named.Mcs
name_of (Rw budgets writers readers group) = named.Rw
name_of (Seq local remote) = named.Seq
name_of (Combine local remote) = named.Combine
