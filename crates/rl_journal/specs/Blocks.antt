-- A block: a call alone, or the calls of a batch, which are done all or none.
use Rattle.std.specs.Prelude.{◌≡◌, ℕ, zero, suc, ◌+◌, ◌≤◌, ◌==◌, nat_le, Bool, true, false, not, ◌&&◌, ◌||◌, if◌then◌else◌, List, [], ◌∷◌, ◌++◌, length, map}
use Rattle.rl_model.specs.declared.call.Call.{Call}
use Rattle.rl_model.specs.declared.entry.Entry.{Entry}
use Rattle.rl_model.specs.declared.entry.Reply.{Reply}
use Rattle.rl_model.specs.declared.entry.Reply.TheVariants.{Full, Over, Undone}
use Rattle.rl_model.specs.declared.geom.Geom.{Geom}
use Rattle.rl_model.specs.Call.{is_update, reads}
pub use Rattle.rl_model.specs.Asked.{AreUpdates}
use Rattle.rl_model.specs.Table.{Table, apply}

-- a batch with such a reply is undone
abbrev pub stops : Reply → Bool
stops Full = true
stops (Over v) = true
stops _ = false

-- the calls applied in order: the table after them, and the replies
abbrev pub in_turn : Geom → Table → List Call → Table × List Reply
in_turn geom t [] = (t, [])
in_turn geom t (c ∷ cs) = ((in_turn geom (apply geom c t).0 cs).0, (apply geom c t).1 ∷ (in_turn geom (apply geom c t).0 cs).1)

abbrev pub any_stops : List Reply → Bool
any_stops [] = false
any_stops (a ∷ rest) = stops a || any_stops rest

-- all undone
abbrev pub undone : {X : Type 0} → List X → List Reply
undone xs = map (λ _. Undone) xs

-- the first reply that stops the batch stays, and all others are undone
abbrev pub only_first : List Reply → List Reply
only_first [] = []
only_first (a ∷ rest) = if stops a then (a ∷ undone rest) else (Undone ∷ only_first rest)

-- the calls of a batch on a table: where none stops it, as in turn; else the table stays
abbrev pub apply_batch : Geom → List Call → Table → Table × List Reply
apply_batch geom calls t = if any_stops (in_turn geom t calls).1 then (t, only_first (in_turn geom t calls).1) else in_turn geom t calls

-- a block by its batch number, which is 0 for a call alone: that has its own reply, also one that would stop a batch
abbrev pub apply_block : Geom → ℕ → List Call → Table → Table × List Reply
apply_block geom zero calls t = in_turn geom t calls
apply_block geom (suc n) calls t = apply_batch geom calls t

-- how many calls a block with this batch number has
abbrev pub size_of : ℕ → ℕ
size_of zero = 1
size_of (suc n) = suc n

-- no part of the block comes after this one
abbrev pub is_last : Entry → Bool
is_last e = nat_le e.batch (e.part + 1)

-- a table after some entries, block by block, and the calls of a last block that isn't whole
abbrev pub half_after : Geom → Table → List Call → List Entry → Table × List Call
half_after geom t begun [] = (t, begun)
half_after geom t begun (e ∷ es) =
    if is_last e then half_after geom (apply_block geom e.batch (begun ++ e.call ∷ []) t).0 [] es else half_after geom t (begun ++ e.call ∷ []) es

abbrev pub calls_of : List Entry → List Call
calls_of b = map (λ e. e.call) b

abbrev pub replies_of : List Entry → List Reply
replies_of b = map (λ e. e.reply) b

-- the entry with these numbers, of an update
pub record IsPart (rank batch seq at part : ℕ) (e : Entry) : Type 0 where
  pub is_update : is_update e.call ≡ true
  pub rank_is : e.rank ≡ rank
  pub batch_is : e.batch ≡ batch
  pub seq_is : e.seq ≡ seq
  pub place : e.at ≡ at
  pub part_is : e.part ≡ part

-- entries of one rank and one batch, whose number, place and part rise by one
abbrev pub AreParts : ℕ → ℕ → ℕ → ℕ → ℕ → List Entry → Type 0
AreParts rank batch seq at part [] = Unit {0}
AreParts rank batch seq at part (e ∷ es) = IsPart rank batch seq at part e × AreParts rank batch (seq + 1) (at + 1) (part + 1) es

-- a whole block at this place
pub record IsBlock (rank batch seq at : ℕ) (b : List Entry) : Type 0 where
  pub parts : AreParts rank batch seq at 0 b
  pub whole : length b ≡ size_of batch
  pub few : batch ≤ 8
  pub not_one : batch ≡ 1 → ⊥

-- An entry that stands for a tenure of its shard's lock by a writer: it begins a block; where gets are spared, a get is none: it has
-- the lock as a reader, or goes without it.
abbrev pub is_tenure : Bool → Entry → Bool
is_tenure true e = (e.part == 0) && not (reads e.call)
is_tenure false e = e.part == 0
