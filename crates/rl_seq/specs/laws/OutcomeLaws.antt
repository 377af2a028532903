-- What an atom leaves: inside the lock the block reads on, is decided, or is over; a get that has read all that it needs is decided; and
-- case by case.
use Rattle.std.specs.Prelude.{◌≡◌, ℕ, ◌+◌, ◌*◌, ◌==◌, Bool, true, false, cond, List, [], ◌∷◌, ◌++◌, length, slice_get, Option, Some, None, refl}
use Rattle.std.proofs.Common.{sym, ◌∙◌, ap, subst}
use Rattle.std.proofs.lemmas.Option.{same_Some}
use Rattle.rl_word.specs.declared.acts.Atom.{Atom}
use Rattle.rl_model.specs.declared.call.Call.{Call}
use Rattle.rl_model.specs.declared.call.Call.TheVariants.{Put, Get, Del, Add, Cas, Hold}
use Rattle.rl_model.specs.declared.entry.Entry.{Entry}
use Rattle.rl_model.specs.declared.entry.Reply.{Reply}
use Rattle.rl_model.specs.declared.geom.Geom.{Geom}
use Rattle.rl_model.specs.Asked.{asks_update}
use Rattle.rl_model.specs.Call.{reads}
use Rattle.rl_step.specs.declared.events.Stepped.TheVariants.{Moved}
use Rattle.rl_step.specs.Do.{do_words}
use Rattle.rl_volume.specs.declared.write.Write.{Write}
use Rattle.rl_volume.specs.Seen.{next_word, value_or_zero}
use Rattle.rl_volume.specs.Decision.{decision}
use Rattle.rl_work.specs.declared.stage.Stage.{Stage}
use Rattle.rl_work.specs.declared.stage.Stage.TheVariants.{Rest, Begin, Read, Journal, Volume}
use Rattle.rl_work.specs.Ways.{Worked}
use Rattle.rl_work.specs.Work.{TheWork, WorkTurned, stage_atom, stage_after, to_stage, with_seen, with_stop, with_call, block_close, stops_block, read_next, read_on, left_of, seen_on, written_on, has_work, stores}
use Rattle.rl_work.specs.laws.Cases.{block_close_by}
use Rattle.rl_seq.specs.declared.stage.SeqStage.TheVariants as stage
use Rattle.rl_seq.specs.Site.{seq_version_word}
use Rattle.rl_site.specs.Site.{WaySite}
use Rattle.rl_seq.specs.SeqWork.{TheSeqWork, goes_to, is_over, loaded_by, lost, read_by, waits}
use Rattle.rl_seq.specs.laws.Cases.{looked_by}
use Rattle.rl_seq.specs.laws.Cases.{stored_by, checked_by}

-- the block's calls stay; it is over at rest, and goes on to write from the first word of the journal
pub record Outcome (calls : List Call) (t : WorkTurned) : Type 0 where
  pub same_calls : t.work.calls ≡ calls
  pub rests : t.over ≡ true → t.work.stage ≡ Rest
  pub decided : t.over ≡ false → stores t.work.stage ≡ true → t.work.stage ≡ Journal 0
  pub goes_on : t.over ≡ false → has_work t.work.stage ≡ true

module _ (geom : Geom) (shard rank count : ℕ) (calls : List Call) where
  closes : (y : TheWork) → y.calls ≡ calls → (b : Bool) → Outcome calls (block_close_by shard rank y count b)
  closes y same true = record { same_calls = same; rests = λ e. absurd (cc); decided = λ e f. refl; goes_on = λ e. refl }
  closes y same false = record { same_calls = same; rests = λ e. refl; decided = λ e. absurd (cc); goes_on = λ e. absurd (cc) }

  reads_next : (y : TheWork) → y.calls ≡ calls → (n : Option ℕ) (on : WorkTurned) → Outcome calls on → Outcome calls (read_next y count n on)
  reads_next y same (Some w) on o = record { same_calls = same; rests = λ e. absurd (cc); decided = λ e f. absurd (cc); goes_on = λ e. refl }
  reads_next y same None on o = o

  pub read_outcome : (rest : List Call) (y : TheWork) → y.calls ≡ calls → Outcome calls (read_on geom shard rank count rest y)
  read_outcome [] y same = closes y same (asks_update y.calls)
  read_outcome (c ∷ rest) y same =
      let d : List Write × Reply = decision geom c (value_or_zero y.seen.pairs) in
      reads_next y same (next_word geom c y.seen.pairs) _
      (elim (stops_block (length y.calls) d.1) as (λ b. Outcome calls
      (cond b (block_close shard rank (with_stop y d.1 rest) count) (read_on geom shard rank count rest (with_call y d)))) [
        | true ↦ closes (with_stop y d.1 rest) same (asks_update y.calls)
        | false ↦ read_outcome rest (with_call y d) same
      ])

-- of an atom that loads
pub load_outcome : (geom : Geom) (shard rank : ℕ) (x : TheWork) (got : ℕ) (st : Stage) → stores st ≡ false → has_work st ≡ true →
    Outcome x.calls (stage_after geom shard rank x got st)
load_outcome geom shard rank x got Rest e s = absurd (cc)
load_outcome geom shard rank x got Begin e s = read_outcome geom shard rank got x.calls (left_of x) x refl
load_outcome geom shard rank x got (Read count word) e s = read_outcome geom shard rank count x.calls (left_of x)
    (with_seen x (x.seen.pairs ++ (word, got) ∷ [])) refl
load_outcome geom shard rank x got (Journal made) e s = absurd (cc)
load_outcome geom shard rank x got (Volume made) e s = absurd (cc)

-- it changes no words
pub load_changes : (geom : Geom) (x : TheWork) (st : Stage) (a : Atom) (words : List ℕ) → stores st ≡ false →
    stage_atom geom x st ≡ Some a → do_words a words ≡ words
load_changes geom x Rest a words e p = absurd (cc)
load_changes geom x Begin a words e p = subst (λ b. do_words b words ≡ words) (same_Some _ _ p) refl
load_changes geom x (Read count word) a words e p = subst (λ b. do_words b words ≡ words) (same_Some _ _ p) refl
load_changes geom x (Journal made) a words e p = absurd (cc)
load_changes geom x (Volume made) a words e p = absurd (cc)

-- of an atom that stores: where the block is over its entries have joined the transcript
pub record StoreOutcome (x : TheWork) (t : WorkTurned) : Type 0 where
  pub kept : t.over ≡ false → t.work.transcript.items ≡ x.transcript.items
  pub joined : t.over ≡ true → t.work.transcript.items ≡ x.transcript.items ++ t.work.entries

pub store_outcome : (geom : Geom) (shard rank : ℕ) (x : TheWork) (got : ℕ) (st : Stage) → stores st ≡ true →
    StoreOutcome x (stage_after geom shard rank x got st)
store_outcome geom shard rank x got Rest e = absurd (cc)
store_outcome geom shard rank x got Begin e = absurd (cc)
store_outcome geom shard rank x got (Read count word) e = absurd (cc)
store_outcome geom shard rank x got (Journal made) e =
    elim (made + 1 == 6 * length x.entries) as (λ b. StoreOutcome x (cond b (to_stage x (Volume 0)) (to_stage x (Journal (made + 1))))) [
      | true ↦ record { kept = λ f. refl; joined = λ f. absurd (cc) }
      | false ↦ record { kept = λ f. refl; joined = λ f. absurd (cc) }
    ]
store_outcome geom shard rank x got (Volume made) e = by_write (slice_get x.writes made) where
  by_write : (o : Option Write) → StoreOutcome x (written_on x made o)
  by_write (Some w) = record { kept = λ f. refl; joined = λ f. absurd (cc) }
  by_write None = record { kept = λ f. absurd (cc); joined = λ f. refl }

-- the entry of a get that looked at a count
abbrev pub read_entry : Geom → ℕ → ℕ → ℕ → TheWork → Call → Entry
read_entry geom shard rank count x c =
    record { shard = shard; rank = rank; seq = x.seq; call = c; at = count; reply = (decision geom c (value_or_zero x.seen.pairs)).1; batch = 0; part = 0 }

-- a get that has read all that it needs is over, with its entry
pub record IsReadOff (geom : Geom) (shard rank count : ℕ) (x : TheWork) (c : Call) (t : WorkTurned) : Type 0 where
  pub rests : t.work.stage ≡ Rest
  pub same_room : t.work.seen.room ≡ x.seen.room
  pub transcript_room : t.work.transcript.room ≡ x.transcript.room
  pub items : t.work.transcript.items ≡ x.transcript.items ++ read_entry geom shard rank count x c ∷ []

pub reads_off : (geom : Geom) (shard rank count : ℕ) (x : TheWork) (c : Call) → x.calls ≡ c ∷ [] → x.replies ≡ [] → reads c ≡ true →
    next_word geom c x.seen.pairs ≡ None → IsReadOff geom shard rank count x c (seen_on geom shard rank x count)
reads_off geom shard rank count x c calls replies is none =
    subst (λ z. IsReadOff geom shard rank count z c (seen_on geom shard rank z count)) (sym same) (by_call c is none)
  where
    alone : Call → TheWork
    alone d = record x { calls = d ∷ []; replies = [] }

    same : x ≡ record x { calls = c ∷ []; replies = [] }
    same = ap (λ cs. record x { calls = cs; replies = x.replies }) calls ∙ ap (λ rs. record x { calls = c ∷ []; replies = rs }) replies

    over_next : (d : Call) (y : TheWork) (n : Option ℕ) (on : WorkTurned) → n ≡ None → IsReadOff geom shard rank count y d on →
        IsReadOff geom shard rank count y d (read_next y count n on)
    over_next d y (Some w) on e o = absurd (cc)
    over_next d y None on e o = o

    by_call : (d : Call) → reads d ≡ true → next_word geom d x.seen.pairs ≡ None →
        let y : TheWork = record x { calls = d ∷ []; replies = [] } in IsReadOff geom shard rank count y d (seen_on geom shard rank y count)
    by_call (Get key) e f =
        let y : TheWork = record x { calls = Get key ∷ []; replies = [] } in
        over_next (Get key) y (next_word geom (Get key) x.seen.pairs) _ f
        (record { rests = refl; same_room = refl; transcript_room = refl; items = refl })
    by_call (Put key value) e f = absurd (cc)
    by_call (Del key) e f = absurd (cc)
    by_call (Add key by) e f = absurd (cc)
    by_call (Cas key old new) e f = absurd (cc)
    by_call (Hold shard) e f = absurd (cc)

-- what holds of each case of what an atom leaves holds of it
module _ (P : Worked TheSeqWork → Type 0) where
  pub loaded_each : (w : TheWork) (over writes : Bool) → P (is_over w) → P (goes_to w stage.Decided) → P (goes_to w stage.Locked) → P (loaded_by w over writes)
  loaded_each w true writes ends decides goes = ends
  loaded_each w false true ends decides goes = decides
  loaded_each w false false ends decides goes = goes

  pub stored_each : (version : ℕ) (w : TheWork) (over : Bool) → P (goes_to w (stage.Close version)) → P (goes_to w (stage.Write version)) →
      P (stored_by version w over)
  stored_each version w true closes goes = closes
  stored_each version w false closes goes = goes

  pub looked_each : (at : WaySite) (w : TheWork) (got : ℕ) (even : Bool) → P (goes_to w (stage.Count got)) →
      P (waits w (seq_version_word at) got) → P (looked_by at w got even)
  looked_each at w got true finds waits = finds
  looked_each at w got false finds waits = waits

  pub read_each : (w : TheWork) (version count : ℕ) (next : Option ℕ) → ((word : ℕ) → P (goes_to w (stage.Read version count word))) →
      P (goes_to w (stage.Again version count)) → P (read_by w version count next)
  read_each w version count (Some word) reads checks = reads word
  read_each w version count None reads checks = checks

  pub checked_each : (at : WaySite) (rank : ℕ) (w : TheWork) (version count got : ℕ) (same : Bool) →
      P (is_over (seen_on at.site.geom at.site.shard rank w count).work) → P (lost w version got)
      → P (checked_by at rank w version count got same)
  checked_each at rank w version count got true ends loses = ends
  checked_each at rank w version count got false ends loses = loses

-- the answer is Moved
abbrev pub IsMoved : Worked TheSeqWork → Type 0
IsMoved t = t.stepped ≡ Moved
