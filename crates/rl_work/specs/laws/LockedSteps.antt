-- Each atom of a block under its lock leaves less to do.
use Rattle.std.specs.Prelude.{◌≡◌, ℕ, ◌+◌, ◌*◌, ◌-◌, ◌<◌, ◌≤◌, ◌==◌, ◌^◌, Bool, true, false, if◌then◌else◌, nat_lt, List, [], ◌∷◌, ◌++◌, length, slice_get, Option, Some, None, refl}
use Rattle.std.proofs.Common.{ap, subst, arith, length-append, length-drop}
use Rattle.std.proofs.lemmas.Option.{slice_get_within}
use Rattle.rl_model.specs.declared.call.Call.{Call}
use Rattle.rl_model.specs.declared.call.Call.TheVariants.{Put, Get, Del, Add, Cas, Hold}
use Rattle.rl_model.specs.declared.entry.Reply.{Reply}
use Rattle.rl_model.specs.declared.geom.Geom.{Geom}
use Rattle.rl_model.specs.Geom.{bucket_of}
use Rattle.rl_model.specs.Asked.{asks_update}
use Rattle.rl_volume.specs.declared.place.Place.{Place}
use Rattle.rl_volume.specs.declared.place.Place.TheVariants.{Absent, Inline, InCell}
use Rattle.rl_volume.specs.declared.write.Write.{Write}
use Rattle.rl_volume.specs.Words.{state_word, named, volume_words}
use Rattle.rl_volume.specs.Volume.{Words}
use Rattle.rl_volume.specs.Seen.{patched, next_word, value_or_zero}
use Rattle.rl_volume.specs.Decision.{decision, put_in_cell, put_by, add_by, cas_by, take_inline, take_out, place_in, value_word_of}
use Rattle.rl_work.specs.declared.stage.Stage.{Stage}
use Rattle.rl_work.specs.declared.stage.Stage.TheVariants.{Rest, Begin, Read, Journal, Volume}
use Rattle.rl_work.specs.Work.{TheWork, WorkTurned, CanTurn, to_stage, batch_in, block_close, decision_of, entries_of, left_of, read_next, read_on, seen_on, stage_after, stops_block, with_call, with_seen, with_stop, written_on}
use Rattle.rl_work.specs.laws.Cases.{block_close_by}
use Rattle.rl_work.specs.LockedLeft.{one_unless, words_unseen, far_at, far}
use Rattle.rl_work.specs.laws.UnseenLaws.{appended_stays, appended_seen, patched_stays, words_unseen_less, words_unseen_falls, few_words_unseen}

-- ---- a call makes 5 writes at most

inline_few : (geom : Geom) (at : Words) (bucket : ℕ) (o : Option ℕ) → length (take_inline geom at bucket o) ≤ 5
inline_few geom at bucket None = omega arith
inline_few geom at bucket (Some cell) = omega arith

out_few : (geom : Geom) (at : Words) (bucket : ℕ) (p : Place) → length (take_out geom at bucket p) ≤ 5
out_few geom at bucket Absent = omega arith
out_few geom at bucket Inline = inline_few geom at bucket (named geom (at (state_word bucket) - 1))
out_few geom at bucket (InCell None cell) = omega arith
out_few geom at bucket (InCell (Some before) cell) = omega arith

cell_few : (geom : Geom) (at : Words) (bucket key value : ℕ) (o : Option ℕ) → length (put_in_cell geom at bucket key value o).0 ≤ 5
cell_few geom at bucket key value None = omega arith
cell_few geom at bucket key value (Some cell) = omega arith

either_few : (b : Bool) (p q : List Write × Reply) → length p.0 ≤ 5 → length q.0 ≤ 5 → length (if b then p else q).0 ≤ 5
either_few true p q a c = a
either_few false p q a c = c

put_few : (geom : Geom) (at : Words) (bucket key value : ℕ) (o : Option ℕ) → length (put_by geom at bucket key value o).0 ≤ 5
put_few geom at bucket key value None = either_few (at (state_word bucket) == 0) _
    (put_in_cell geom at bucket key value (named geom (at 0))) (omega arith) (cell_few geom at bucket key value (named geom (at 0)))
put_few geom at bucket key value (Some word) = omega arith

add_few : (at : Words) (by : ℕ) (o : Option ℕ) → length (add_by at by o).0 ≤ 5
add_few at by None = omega arith
add_few at by (Some word) = either_few (nat_lt (at word + by) (2 ^ 64)) _ _ (omega arith) (omega arith)

cas_few : (at : Words) (old new : ℕ) (o : Option ℕ) → length (cas_by at old new o).0 ≤ 5
cas_few at old new None = omega arith
cas_few at old new (Some word) = either_few (at word == old) _ _ (omega arith) (omega arith)

pub decision_few : (geom : Geom) (c : Call) (at : Words) → length (decision geom c at).0 ≤ 5
decision_few geom (Put key value) at = put_few geom at (bucket_of geom key) key value (value_word_of geom at key)
decision_few geom (Get key) at = omega arith
decision_few geom (Del key) at = out_few geom at (bucket_of geom key) (place_in geom at (bucket_of geom key) key)
decision_few geom (Add key by) at = add_few at by (value_word_of geom at key)
decision_few geom (Cas key old new) at = cas_few at old new (value_word_of geom at key)
decision_few geom (Hold shard) at = omega arith

-- ---- the work goes on

entries_few : (shard rank batch seq at part : ℕ) (cs : List Call) (rs : List Reply) → length (entries_of shard rank batch seq at part cs rs) ≤ length cs
entries_few shard rank batch seq at part [] rs = omega arith
entries_few shard rank batch seq at part (c ∷ cs) [] = omega arith
entries_few shard rank batch seq at part (c ∷ cs) (a ∷ rs) = let k = entries_few shard rank batch (seq + 1) (at + 1) (part + 1) cs rs in omega arith

close_few : (volume shard rank : ℕ) (x : TheWork) (count : ℕ) (b : Bool) →
    far volume (block_close_by shard rank x count b).work ≤ 6 * length x.calls + length x.writes + 2
close_few volume shard rank x count true = let k = entries_few shard rank (batch_in x) x.seq count 0 x.calls x.replies in omega arith
close_few volume shard rank x count false = omega arith

-- what is left of a rank that reads, by what it has seen
abbrev reading : ℕ → TheWork → ℕ
reading volume x = words_unseen volume x.seen.pairs + length x.writes + 5 * (length x.calls - length x.replies) + 6 * length x.calls + 4

module _ (geom : Geom) (shard rank count : ℕ) where
  volume : ℕ
  volume = volume_words geom

  next_few : (x : TheWork) (o : Option ℕ) (on : WorkTurned) → far (volume_words geom) on.work ≤ reading (volume_words geom) x →
      far (volume_words geom) (read_next x count o on).work ≤ reading (volume_words geom) x
  next_few x (Some word) on le = omega arith
  next_few x None on le = le

  stops_few : (b : Bool) (x : TheWork) (p q : WorkTurned) → far (volume_words geom) p.work ≤ reading (volume_words geom) x →
      far (volume_words geom) q.work ≤ reading (volume_words geom) x →
      far (volume_words geom) (if b then p else q).work ≤ reading (volume_words geom) x
  stops_few true x p q a c = a
  stops_few false x p q a c = c

  on_few : (rest : List Call) (x : TheWork) → length rest ≡ length x.calls - length x.replies →
      far (volume_words geom) (read_on geom shard rank count rest x).work ≤ reading (volume_words geom) x
  on_few [] x e = let k = close_few (volume_words geom) shard rank x count (asks_update x.calls) in omega arith
  on_few (c ∷ rest) x e =
      let d = decision_of geom x c in
      let y : TheWork = with_call x d in
      let few : length d.0 ≤ 5 = decision_few geom c (value_or_zero x.seen.pairs) in
      let writes : length y.writes ≡ length x.writes + length d.0 = length-append x.writes d.0 in
      let replies : length y.replies ≡ length x.replies + 1 = length-append x.replies (d.1 ∷ []) in
      let seen : words_unseen (volume_words geom) y.seen.pairs ≤ words_unseen (volume_words geom) x.seen.pairs =
      words_unseen_less (volume_words geom) x.seen.pairs (patched x.seen.pairs d.0) (patched_stays x.seen.pairs d.0) in
      let one_less : length rest ≡ length y.calls - length y.replies = omega arith in
      let then_on = on_few rest y one_less in
      let stop = close_few (volume_words geom) shard rank (with_stop x d.1 rest) count (asks_update x.calls) in
      next_few x (next_word geom c x.seen.pairs) _
      (stops_few (stops_block (length x.calls) d.1) x (block_close shard rank (with_stop x d.1 rest) count)
      (read_on geom shard rank count rest y) (omega arith) (omega arith))

  seen_few : (x : TheWork) → far (volume_words geom) (seen_on geom shard rank x count).work ≤ reading (volume_words geom) x
  seen_few x = on_few (left_of x) x (length-drop (length x.replies) x.calls)

module _ (geom : Geom) (shard rank : ℕ) where
  journal_less : (volume : ℕ) (x : TheWork) (made : ℕ) (b : Bool) → made < 6 * length x.entries →
      far volume (if b then to_stage x (Volume 0) else to_stage x (Journal (made + 1))).work < far_at volume x (Journal made)
  journal_less volume x made true lt = omega arith
  journal_less volume x made false lt = omega arith

  written_less : (volume : ℕ) (x : TheWork) (made : ℕ) (o : Option Write) → slice_get x.writes made ≡ o →
      far volume (written_on x made o).work < far_at volume x (Volume made)
  written_less volume x made (Some w) e = let k = slice_get_within x.writes made w e in omega arith
  written_less volume x made None e = omega arith

  -- a rank that begins has seen and decided nothing
  abbrev pub BeginsAnew : TheWork → Stage → Type 0
  BeginsAnew x Rest = ⊥
  BeginsAnew x Begin = (x.seen.pairs ≡ []) × (x.replies ≡ []) × (x.writes ≡ [])
  BeginsAnew x (Read count word) = Unit {0}
  BeginsAnew x (Journal made) = Unit {0}
  BeginsAnew x (Volume made) = Unit {0}

  pub stage_less : (x : TheWork) (got : ℕ) (stage : Stage) → BeginsAnew x stage → CanTurn geom x got stage →
      far (volume_words geom) (stage_after geom shard rank x got stage).work < far_at (volume_words geom) x stage
  stage_less x got Rest new can = absurd new
  stage_less x got Begin new can =
      let k = seen_few geom shard rank got x in
      let a : length x.replies ≡ 0 = ap length new.1 in
      let b : length x.writes ≡ 0 = ap length new.2 in
      let c = few_words_unseen (volume_words geom) x.seen.pairs in
      omega arith
  stage_less x got (Read count word) new can =
      let y : TheWork = with_seen x (x.seen.pairs ++ (word, got) ∷ []) in
      let k = seen_few geom shard rank count y in
      let decide = can.2 in
      let low : word < volume_words geom = subst (λ n. word < n) decide.seen_room can.0 in
      let fall : words_unseen (volume_words geom) y.seen.pairs + 1 ≤ words_unseen (volume_words geom) x.seen.pairs =
      words_unseen_falls (volume_words geom) x.seen.pairs (x.seen.pairs ++ (word, got) ∷ []) word low (ap one_unless can.1)
      (appended_seen x.seen.pairs word got) (appended_stays x.seen.pairs word got) in
      omega arith
  stage_less x got (Journal made) new can = journal_less (volume_words geom) x made (made + 1 == 6 * length x.entries) can
  stage_less x got (Volume made) new can = written_less (volume_words geom) x made (slice_get x.writes made) refl
