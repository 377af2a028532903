-- What the machine around the work uses of it: its atoms are loads and stores, the calls stay the same, and the transcript
-- grows exactly where the work is over, by entries of the calls.
use Rattle.std.specs.Prelude.{◌≡◌, ◌⊎◌, ℕ, ◌+◌, ◌*◌, ◌≤◌, ◌==◌, Bool, true, false, cond, List, [], ◌∷◌, ◌++◌, length, slice_get, Option, Some, None, refl}
use Rattle.std.proofs.Common.{ap, subst, inl, inr, ◌∙◌, arith, length-append}
use Rattle.std.proofs.lemmas.List.{length-map, length-drop}
use Rattle.std.proofs.lemmas.Option.{same_Some}
use Rattle.rl_word.specs.declared.acts.Atom.{Atom}
use Rattle.rl_model.specs.declared.entry.Entry.{Entry}
use Rattle.rl_model.specs.declared.geom.Geom.{Geom}
use Rattle.rl_volume.specs.declared.write.Write.{Write}
use Rattle.rl_volume.specs.Seen.{next_word}
use Rattle.rl_work.specs.declared.stage.Stage.{Stage}
use Rattle.rl_work.specs.declared.stage.Stage.TheVariants.{Rest, Begin, Read, Journal, Volume}
use Rattle.rl_model.specs.declared.call.Call.{Call}
use Rattle.rl_model.specs.declared.entry.Reply.{Reply}
use Rattle.rl_model.specs.declared.entry.Reply.TheVariants.{Undone}
use Rattle.rl_volume.specs.Seen.{value_or_zero}
use Rattle.rl_volume.specs.Decision.{decision}
use Rattle.std.specs.Prelude.{All}
use Rattle.std.proofs.lemmas.List.Elements.{All-head, All-tail}
use Rattle.rl_journal.specs.Blocks.{calls_of, undone, AreParts}
use Rattle.rl_journal.specs.Ranks.{IsOwn}
use Rattle.rl_model.specs.Asked.{asks_update, batch_number}
use Rattle.rl_work.specs.laws.TurnLaws.{entries_calls}
use Rattle.rl_site.specs.Opens.{Tells}
use Rattle.rl_site.specs.Transcript.{TheTranscript}
use Rattle.rl_work.specs.Work.{TheWork, WorkTurned, stage_atom, write_atom, stage_after, with_seen, with_stop, with_call, batch_in, entries_of, block_close, stops_block, read_next, read_on, left_of, written_on, journal_on, to_stage}
use Rattle.rl_work.specs.laws.Cases.{block_close_by}
use Rattle.rl_work.specs.PlainWork.{IsPlain, Rises}

plain_write : (at : ℕ) (o : Option Write) → IsPlain (write_atom at o)
plain_write at (Some w) = tt
plain_write at None = tt

pub plain_atom : (geom : Geom) (x : TheWork) (st : Stage) (a : Atom) → stage_atom geom x st ≡ Some a → IsPlain a
plain_atom geom x Rest a e = absurd (cc)
plain_atom geom x Begin a e = subst IsPlain (same_Some _ _ e) tt
plain_atom geom x (Read count word) a e = subst IsPlain (same_Some _ _ e) tt
plain_atom geom x (Journal made) a e = subst IsPlain (same_Some _ _ e) tt
plain_atom geom x (Volume made) a e = subst IsPlain (same_Some _ _ e) (plain_write (x.at + length x.entries) (slice_get x.writes made))

pub tells_rise : (shard rank batch seq part : ℕ) (b : List Entry) → Tells shard rank batch seq part b → Rises part b
tells_rise shard rank batch seq part [] t = tt
tells_rise shard rank batch seq part (e ∷ es) t = (t.0.4, tells_rise shard rank batch (seq + 1) (part + 1) es t.1)

-- those of the journal's next block do
pub parts_tell : (shard rank batch seq at part : ℕ) (b : List Entry) → AreParts rank batch seq at part b → All (IsOwn shard rank) b →
    Tells shard rank batch seq part b
parts_tell shard rank batch seq at part [] parts own = tt
parts_tell shard rank batch seq at part (e ∷ es) parts own = (
  ((All-head (IsOwn shard rank) e es own).shard_is, parts.0.rank_is, parts.0.batch_is, parts.0.seq_is, parts.0.part_is),
  parts_tell shard
      rank batch (seq + 1) (at + 1) (part + 1) es parts.1 (All-tail (IsOwn shard rank) e es own),
)

entries_tell : (shard rank batch seq at part : ℕ) (cs : List Call) (rs : List Reply) →
    Tells shard rank batch seq part (entries_of shard rank batch seq at part cs rs)
entries_tell shard rank batch seq at part [] rs = tt
entries_tell shard rank batch seq at part (c ∷ cs) [] = tt
entries_tell shard rank batch seq at part (c ∷ cs) (a ∷ rs) =
    ((refl, refl, refl, refl, refl), entries_tell shard rank batch (seq + 1) (at + 1) (part + 1) cs rs)

-- the transcript grows exactly where the work is over, by entries of the block's calls
abbrev pub EndsBy : ℕ → ℕ → TheWork → TheWork → Bool → Type 0
EndsBy shard rank x y true = (b : List Entry) × (y.transcript.items ≡ x.transcript.items ++ b) × (calls_of b ≡ x.calls) × Tells shard rank
    (batch_in x) x.seq 0 b
EndsBy shard rank x y false = y.transcript.items ≡ x.transcript.items

pub record Ends (shard rank : ℕ) (x : TheWork) (t : WorkTurned) : Type 0 where
  pub same_calls : t.work.calls ≡ x.calls
  pub same_seq : t.work.seq ≡ x.seq
  pub same_room : t.work.transcript.room ≡ x.transcript.room
  pub kept : EndsBy shard rank x t.work t.over

module _ (geom : Geom) (shard rank : ℕ) (x : TheWork) where
  goes_on : (st : Stage) → Ends shard rank x (to_stage x st)
  goes_on st = record { same_calls = refl; same_seq = refl; same_room = refl; kept = refl }

  -- a side that has decided some of the calls
  module _ (y : TheWork) (calls : y.calls ≡ x.calls) (seq : y.seq ≡ x.seq) (kept : y.transcript ≡ x.transcript) where
    same_numbers : (b : List Entry) → Tells shard rank (batch_in y) y.seq 0 b → Tells shard rank (batch_in x) x.seq 0 b
    same_numbers b t = subst (λ n. Tells shard rank (batch_in x) n 0 b) seq (subst (λ cs. Tells shard rank (batch_number (length cs)) y.seq 0 b) calls t)

    closed_ends : (count : ℕ) → length y.replies ≡ length y.calls → (b : Bool) → Ends shard rank x (block_close_by shard rank y count b)
    closed_ends count long true = record {
      same_calls = calls;
      same_seq = seq;
      same_room = ap (λ (z : TheTranscript). z.room) kept;
      kept =
          ap (λ (z : TheTranscript). z.items) kept;
    }
    closed_ends count long false =
        record {
          same_calls = calls;
          same_seq = seq;
          same_room = ap (λ (z : TheTranscript). z.room) kept;
          kept = (
            entries_of shard rank (batch_in y) y.seq count 0 y.calls y.replies,
            ap (λ (z : TheTranscript). z.items ++ entries_of shard rank (batch_in y) y.seq count 0 y.calls y.replies) kept,
            entries_calls shard rank (batch_in y) y.seq count 0 y.calls y.replies long ∙ calls,
            same_numbers (entries_of shard rank (batch_in y) y.seq count 0 y.calls y.replies)
                (entries_tell shard rank (batch_in y) y.seq count 0 y.calls y.replies),
          );
        }

    next_ends : (count : ℕ) (n : Option ℕ) (on : WorkTurned) → Ends shard rank x on → Ends shard rank x (read_next y count n on)
    next_ends count (Some w) on e = record {
      same_calls = calls;
      same_seq = seq;
      same_room = ap (λ (z : TheTranscript). z.room) kept;
      kept =
          ap (λ (z : TheTranscript). z.items) kept;
    }
    next_ends count None on e = e

  read_ends : (count : ℕ) (rest : List Call) (y : TheWork) → y.calls ≡ x.calls → y.seq ≡ x.seq → y.transcript ≡ x.transcript →
      length y.replies + length rest ≡ length y.calls → Ends shard rank x (read_on geom shard rank count rest y)
  read_ends count [] y calls seq kept long = closed_ends y calls seq kept count (omega arith) (asks_update y.calls)
  read_ends count (c ∷ rest) y calls seq kept long =
      let d : List Write × Reply = decision geom c (value_or_zero y.seen.pairs) in
      next_ends y calls seq kept count (next_word geom c y.seen.pairs) _
      (elim (stops_block (length y.calls) d.1) as (λ b. Ends shard rank x
      (cond b (block_close shard rank (with_stop y d.1 rest) count) (read_on geom shard rank count rest (with_call y d)))) [
        | true ↦ closed_ends (with_stop y d.1 rest) calls seq kept count
            (omega (
              arith,
              length-append (undone y.replies) (d.1 ∷ undone rest),
              length-map y.replies
                  (λ (z : Reply). Undone),
              length-map rest (λ (z : Call). Undone),
            )) (asks_update y.calls)
        | false ↦ read_ends count rest (with_call y d) calls seq kept (omega (arith, length-append y.replies (d.1 ∷ [])))
      ])

  write_ends : (calls_of x.entries ≡ x.calls) × Tells shard rank (batch_in x) x.seq 0 x.entries → (made : ℕ) (o : Option Write) →
      Ends shard rank x (written_on x made o)
  write_ends same made (Some w) = record { same_calls = refl; same_seq = refl; same_room = refl; kept = refl }
  write_ends same made None = record { same_calls = refl; same_seq = refl; same_room = refl; kept = (x.entries, refl, same.0, same.1) }

  journal_ends : (made : ℕ) → Ends shard rank x (journal_on x made)
  journal_ends made = elim (made + 1 == 6 * length x.entries) as (λ b. Ends shard rank x
      (cond b (to_stage x (Volume 0)) (to_stage x (Journal (made + 1)))))
      [ true ↦ goes_on (Volume 0) | false ↦ goes_on (Journal (made + 1)) ]

  -- where the replies are no more than the calls
  pub turn_ends : (st : Stage) (got : ℕ) → ((st ≡ Begin) ⊎ ((count : ℕ) × (word : ℕ) × (st ≡ Read count word)) →
      length x.replies ≤ length x.calls) → ((made : ℕ) → st ≡ Volume made → (calls_of x.entries ≡ x.calls) ×
      Tells shard rank (batch_in x) x.seq 0 x.entries) → Ends shard rank x (stage_after geom shard rank x got st)
  turn_ends Rest got few same = record { same_calls = refl; same_seq = refl; same_room = refl; kept = refl }
  turn_ends Begin got few same = read_ends got (left_of x) x refl refl refl (omega (arith, few (inl refl), length-drop (length x.replies) x.calls))
  turn_ends (Read count word) got few same = read_ends count (left_of x) (with_seen x (x.seen.pairs ++ (word, got) ∷ [])) refl refl refl
      (omega (arith, few (inr (count, word, refl)), length-drop (length x.replies) x.calls))
  turn_ends (Journal made) got few same = journal_ends made
  turn_ends (Volume made) got few same = write_ends (same made refl) made (slice_get x.writes made)
