-- A block that an atom decides, as the work inside a lock has it: where its entries stand, and what a call alone keeps while it reads.
use Rattle.std.proofs.Common.{◌≡◌, ℕ, Bool, true, false, cond, List, [], ◌∷◌, length, Option, Some, None, refl, ap}
use Rattle.rl_model.specs.declared.call.Call.{Call}
use Rattle.rl_model.specs.declared.entry.Entry.{Entry}
use Rattle.rl_model.specs.declared.entry.Reply.{Reply}
use Rattle.rl_model.specs.declared.geom.Geom.{Geom}
use Rattle.rl_model.specs.Asked.{asks_update}
use Rattle.rl_volume.specs.declared.write.Write.{Write}
use Rattle.rl_volume.specs.Seen.{next_word, value_or_zero}
use Rattle.rl_volume.specs.Decision.{decision}
use Rattle.rl_work.specs.declared.stage.Stage.TheVariants.{Read}
use Rattle.rl_work.specs.Work.{TheWork, WorkTurned, entries_of, batch_in, with_stop, with_call, block_close, stops_block, read_next, read_on}
use Rattle.rl_work.specs.laws.Cases.{block_close_by}

-- the first of the entries stands at the place from which they count
head_at : (shard rank batch seq at part : ℕ) (calls : List Call) (replies : List Reply) (e : Entry) (es : List Entry) → entries_of shard rank batch seq at part calls replies ≡ e ∷ es → e.at ≡ at
head_at shard rank batch seq at part [] rs e es is = absurd (cc)
head_at shard rank batch seq at part (c ∷ cs) [] e es is = absurd (cc)
head_at shard rank batch seq at part (c ∷ cs) (a ∷ rs) e es is =
    let first : e ≡ record { shard = shard; rank = rank; seq = seq; call = c; at = at; reply = a; batch = batch; part = part } = (cc) in
    ap (λ (z : Entry). z.at) first

module _ (geom : Geom) (shard rank count : ℕ) where
  -- where the work is over, the first of its entries stands at the count
  abbrev pub StandsAt : WorkTurned → Type 0
  StandsAt t = (e : Entry) (es : List Entry) → t.over ≡ true → t.work.entries ≡ e ∷ es → e.at ≡ count

  closes_at : (y : TheWork) (b : Bool) → StandsAt (block_close_by shard rank y count b)
  closes_at y true e es over is = absurd (cc)
  closes_at y false e es over is = head_at shard rank (batch_in y) y.seq count 0 y.calls y.replies e es is

  next_at : (y : TheWork) (n : Option ℕ) (on : WorkTurned) → StandsAt on → StandsAt (read_next y count n on)
  next_at y (Some w) on o e es over is = absurd (cc)
  next_at y None on o e es over is = o e es over is

  pub read_at : (rest : List Call) (y : TheWork) → StandsAt (read_on geom shard rank count rest y)
  read_at [] y = closes_at y (asks_update y.calls)
  read_at (c ∷ rest) y =
      let d : List Write × Reply = decision geom c (value_or_zero y.seen.pairs) in
      next_at y (next_word geom c y.seen.pairs) _
      (elim (stops_block (length y.calls) d.1) as (λ b. StandsAt (cond b (block_close shard rank (with_stop y d.1 rest) count) (read_on geom shard rank count rest (with_call y d)))) [
        | true ↦ closes_at (with_stop y d.1 rest) (asks_update y.calls)
        | false ↦ read_at rest (with_call y d)
      ])

  -- where a call alone reads on, it has seen what it had seen, and keeps what it kept
  abbrev pub ReadsOn : TheWork → WorkTurned → Type 0
  ReadsOn y t = (n word : ℕ) → t.work.stage ≡ Read n word → (t.work.seen ≡ y.seen) × (t.work.writes ≡ y.writes)

  closes_on : (y z : TheWork) (b : Bool) → ReadsOn y (block_close_by shard rank z count b)
  closes_on y z true n word is = absurd (cc)
  closes_on y z false n word is = absurd (cc)

  next_on : (y : TheWork) (n : Option ℕ) (on : WorkTurned) → ReadsOn y on → ReadsOn y (read_next y count n on)
  next_on y (Some w) on o n word is = (refl, refl)
  next_on y None on o n word is = o n word is

  pub reads_on : (c : Call) (y : TheWork) → ReadsOn y (read_on geom shard rank count (c ∷ []) y)
  reads_on c y =
      let d : List Write × Reply = decision geom c (value_or_zero y.seen.pairs) in
      next_on y (next_word geom c y.seen.pairs) _
      (elim (stops_block (length y.calls) d.1) as (λ b. ReadsOn y (cond b (block_close shard rank (with_stop y d.1 []) count) (read_on geom shard rank count [] (with_call y d)))) [
        | true ↦ closes_on y (with_stop y d.1 []) (asks_update y.calls)
        | false ↦ closes_on y (with_call y d) (asks_update y.calls)
      ])
