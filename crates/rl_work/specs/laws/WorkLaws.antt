-- Each atom of the work keeps the work's part of the rule, whatever the lock is: of the ranks' standings no more is used than
-- that a writer has nobody beside it and that a reader's call is a get.
use Rattle.std.specs.Prelude.{◌≡◌, ◌≢◌, ℕ, zero, suc, ◌+◌, ◌*◌, ◌<◌, ◌≤◌, ◌==◌, ◌^◌, true, false, ◌||◌, cond, List, [], ◌∷◌, ◌++◌, All, count_by, filter, length, take, drop, slice_get, slice_index, slice_set, Option, Some, None, refl}
use Rattle.std.specs.FinMap as finite
use Rattle.std.proofs.Common.{sym, ◌∙◌, ap, subst, ⊎_elim, arith, length-set, length-append, append_assoc, get_or-set_other, get_or-set_same}
use Rattle.std.proofs.lemmas.List.{take_all, length-map, append-nil, take_at, get_or_at, get_or_append_left, take-append-le}
use Rattle.std.proofs.lemmas.List.Elements.{All-append, All-nil, All-weaker}
use Rattle.std.proofs.lemmas.List.Sums.{length-filter}
use Rattle.std.proofs.lemmas.Bool.Decides.{nat_tests}
use Rattle.std.proofs.lemmas.Option.{same_Some, slice_get_within}
use Rattle.rl_word.specs.laws.Places.{same_or_not, one_at, get_set_same}
use Rattle.rl_model.proofs.Counts.{count-append}
use Rattle.rl_model.specs.declared.call.Call.{Call}
use Rattle.rl_model.specs.declared.entry.Entry.{Entry}
use Rattle.rl_model.specs.declared.geom.Geom.{Geom}
use Rattle.rl_model.specs.Call.{shard_of}
use Rattle.rl_step.specs.declared.events.Standing.{Standing}
use Rattle.rl_step.specs.declared.events.Standing.TheVariants.{Out, Asking, Writer, Reader, Leaving}
use Rattle.rl_step.specs.Lock.{IsHolder}
use Rattle.rl_volume.specs.declared.write.Write.{Write}
use Rattle.rl_volume.specs.Words.{volume_words}
use Rattle.rl_volume.specs.Volume.{IsVolume}
use Rattle.rl_volume.specs.Seen.{AgreesWith, AreNamed, next_word, value_or_zero, patched}
use Rattle.rl_volume.proofs.Patches.{agrees_below, patched_none, none_before}
use Rattle.rl_volume.specs.Decision.{words_written, decision}
use Rattle.rl_volume.proofs.Volumes.{inside, decided as decided_as}
use Rattle.rl_volume.proofs.SeenLaws.{agrees_more as agrees_with_more}
use Rattle.rl_volume.proofs.NextWord.{next_there, next_unseen}
use Rattle.rl_model.specs.Table.{Table, apply}
use Rattle.rl_model.specs.declared.entry.Reply.{Reply}
use Rattle.rl_model.specs.declared.entry.Reply.TheVariants.{Undone}
use Rattle.rl_work.specs.declared.stage.Stage.{Stage}
use Rattle.rl_work.specs.declared.stage.Stage.TheVariants.{Rest, Begin, Read, Journal, Volume}
use Rattle.rl_journal.specs.Journal.{Agrees, spelled}
use Rattle.rl_journal.specs.Blocks.{AreParts, IsBlock, stops, in_turn, any_stops, undone, apply_block, calls_of}
use Rattle.rl_journal.specs.laws.BlockLaws.{part_at}
use Rattle.rl_journal.specs.Legal.{table_after, updates, IsLegalBlock, IsLegal}
use Rattle.rl_journal.specs.Ranks.{IsOwn}
use Rattle.rl_model.specs.Asked.{asks_update, batch_number}
use Rattle.rl_journal.specs.laws.JournalLaws.{agrees_elsewhere, agrees_append, agrees_more, length_spelled, spelled_append, agrees_none}
use Rattle.rl_journal.specs.laws.LegalLaws.{table_more, legal_update, in_order_block}
use Rattle.rl_journal.specs.laws.Lists.{filter_all, all_at}
use Rattle.rl_site.specs.Site.{Site, places, count_word, volume_base, journal_base, volume_of}
use Rattle.rl_work.specs.laws.TurnLaws.{written_append, turn_length, turn_table, turn_replies, any_append, batch_alone, batch_size, batch_few, batch_not_one, block_runs, block_stops, stops_is, goes_is, entries_calls, entries_replies, entries_length, entries_parts, entries_own}
use Rattle.rl_site.specs.Transcript.{TheTranscript}
use Rattle.rl_work.specs.Work.{TheWork, WorkTurned, at_rest, at_stage, to_stage, journal_on, with_seen, with_call, with_stop, batch_in, entries_of, block_close, stops_block, read_next, read_on, left_of, seen_on}
use Rattle.rl_work.specs.laws.Cases.{block_close_by}
use Rattle.rl_site.specs.Opens.{IsOwnTranscript, places_needed}
use Rattle.rl_work.specs.WorkGood.{WorkSide, IsApart, transcripts, HasOpen, IsNext, IsDecided, FitsAt, Fits, IsSpelled, is_writing, IsPartly, HasDecided, IsReading, WorkGood, side_turned}
use Rattle.rl_site.specs.laws.VolumeLaws.{volume_before, volume_behind, volume_set, volume_get}
use Rattle.rl_work.specs.laws.RoomLaws.{place_left}
use Rattle.rl_work.specs.laws.SideLaws.{the_transcript, stands, legal_kept, one_moves, side_stays, entry_joins}

-- one write more
written_one : (before : List ℕ) (ws : List Write) (i : ℕ) (w : Write) → slice_get ws i ≡ Some w →
    words_written before (take (i + 1) ws) ≡ slice_set (words_written before (take i ws)) w.word w.value
written_one before [] i w get = absurd (cc)
written_one before (v ∷ ws) zero w get = ap (λ z. slice_set before z.word z.value) (same_Some _ _ get)
written_one before (v ∷ ws) (suc i) w get =
    let e : suc i + 1 ≡ suc (i + 1) = omega arith in
    ap (λ n. words_written before (take n (v ∷ ws))) e ∙ written_one (slice_set before v.word v.value) ws i w get

-- the first of these calls has read these words, each when it wanted it
abbrev IsNamedBy : Geom → List Call → List (ℕ × ℕ) → Type 0
IsNamedBy geom [] pairs = Unit {0}
IsNamedBy geom (c ∷ cs) pairs = AreNamed geom c pairs

-- as it has before it reads any
none_named : (geom : Geom) (cs : List Call) (pairs : List (ℕ × ℕ)) → pairs ≡ [] → IsNamedBy geom cs pairs
none_named geom [] pairs e = tt
none_named geom (c ∷ cs) pairs e = λ i h. absurd (let none : length pairs ≡ 0 = ap length e in omega arith)

-- and with one more, which it wanted
named_more : (geom : Geom) (c : Call) (pairs : List (ℕ × ℕ)) (word got : ℕ) → AreNamed geom c pairs → next_word geom c pairs ≡ Some word →
    AreNamed geom c (pairs ++ (word, got) ∷ [])
named_more geom c pairs word got named is i h =
    let last : List (ℕ × ℕ) = (word, got) ∷ [] in
    let long : length (pairs ++ last) ≡ length pairs + 1 = length-append pairs last in
    ⊎_elim
    (λ (e : i ≡ length pairs).
    ap (next_word geom c) (take_at pairs last i (sym e)) ∙ is ∙ ap (λ (p : ℕ × ℕ). Some p.0) (sym (get_or_at pairs (word, got) [] (0, 0) i (sym e))))
    (λ (ne : i ≢ length pairs).
    let low : i < length pairs = omega arith in
    ap (next_word geom c) (take-append-le i pairs last (omega arith)) ∙ named i low ∙ ap (λ (p : ℕ × ℕ). Some p.0)
    (sym (get_or_append_left pairs last (0, 0) i low)))
    (same_or_not i (length pairs))

-- a writer holds the lock
holder_of : (st : Standing) → st ≡ Writer → IsHolder st
holder_of st e = subst IsHolder (sym e) tt

-- what holds of a rank that doesn't hold the lock rests on no word
quiet_at : (site : Site) (ws vs : List ℕ) (j k : List Entry) (b c : List ℕ) (r : ℕ) (x : WorkSide) (st : Stage) →
    (IsHolder x.standing → ⊥) → FitsAt site ws j b r x st → FitsAt site vs k c r x st
quiet_at site ws vs j k b c r x Rest none f = f
quiet_at site ws vs j k b c r x Begin none f = f
quiet_at site ws vs j k b c r x (Read count word) none f = absurd (none f.holds)
quiet_at site ws vs j k b c r x (Journal made) none f = absurd (none (holder_of x.standing f.0.writes))
quiet_at site ws vs j k b c r x (Volume made) none f = absurd (none (holder_of x.standing f.0.writes))

-- a rank that is no writer makes no writes
no_writes : (site : Site) (words : List ℕ) (journal : List Entry) (before : List ℕ) (r : ℕ) (x : WorkSide) (st : Stage) →
    (x.standing ≡ Writer → ⊥) → FitsAt site words journal before r x st → is_writing st ≡ false
no_writes site words journal before r x Rest none f = refl
no_writes site words journal before r x Begin none f = refl
no_writes site words journal before r x (Read count word) none f = refl
no_writes site words journal before r x (Journal made) none f = refl
no_writes site words journal before r x (Volume made) none f = absurd (none f.0.writes)

-- what was decided stays so, whatever of it is written
decided_on : {site : Site} {r : ℕ} {journal : List Entry} {before : List ℕ} {x : WorkSide} (to : Stage) → IsDecided site r journal before x →
    IsDecided site r journal before (record { standing = x.standing; work = at_stage x.work to })
decided_on to d =
    record {
      open_call = d.open_call;
      writes = d.writes;
      update = d.update;
      found = d.found;
      same_calls = d.same_calls;
      is_next =
          d.is_next;
      same_seq = d.same_seq;
    }

module _ (site : Site) (words : List ℕ) (sides : List WorkSide) (g : WorkGood site words sides) (apart : IsApart sides) (r : ℕ)
    (x : WorkSide) (has : slice_get sides r ≡ Some x) where
  -- the others, beside a writer
  quiet : x.standing ≡ Writer → (vs : List ℕ) (k : List Entry) (c : List ℕ) (i : ℕ) (u : WorkSide) → i ≢ r → slice_get sides i ≡ Some u → Fits site vs k c i u
  quiet writer vs k c i u other get =
      quiet_at site words vs g.journal k g.before c i u u.work.stage
      (λ holds. other (sym (apart.excludes r i x u has get writer holds)))
      (g.fits i u get)

  -- while a rank that makes no writes holds the lock, the volume is as it was
  unwritten : IsHolder x.standing → is_writing x.work.stage ≡ false → volume_of site.geom words ≡ g.before
  unwritten holds not_now =
      g.still (λ i u get.
      ⊎_elim
      (λ (e : i ≡ r). let same : u ≡ x = one_at sides r u x (subst (λ z. slice_get sides z ≡ Some u) e get) has in
      ap (λ z. is_writing z.work.stage) same ∙ not_now)
      (λ (ne : i ≢ r). no_writes site words g.journal g.before i u u.work.stage (λ w. ne (apart.excludes i r u x get has w holds)) (g.fits i u get))
      (same_or_not i r))

  within : r < length sides
  within = slice_get_within sides r x has

  count_there : (w : ℕ) → w < 2 → w < length words
  count_there w h = let e = g.size in omega arith

  -- a transcript with a block of updates more
  own_block : HasOpen site r x.work → asks_update x.work.calls ≡ true → (b : List Entry) → All (IsOwn site.shard r) b →
      calls_of b ≡ x.work.calls → (batch : ℕ) → AreParts r batch x.work.seq (length g.journal) 0 b →
      IsOwnTranscript site r (x.work.transcript.items ++ b)
  own_block o is b own calls batch parts =
      let t : List Entry = x.work.transcript.items in
      let q : IsOwnTranscript site r t = g.own r x has in
      let ups : filter updates b ≡ b = filter_all updates b (λ i e get. (part_at r batch x.work.seq (length g.journal) 0 b i e parts get).is_update) in
      let all : count_by updates b ≡ length b = sym (length-filter updates b) ∙ ap length ups in
      let long : length b ≡ length x.work.calls = sym (length-map b (λ (e : Entry). e.call)) ∙ ap length calls in
      let more : places_needed (asks_update x.work.calls) (length x.work.calls) ≡ length x.work.calls = ap (λ z. places_needed z (length x.work.calls)) is in
      record {
        own = All-append (IsOwn site.shard r) t b q.own own;
        in_order = in_order_block r batch x.work.seq (length g.journal) 0 t b q.in_order (stands site words sides g r x has x.work.seq o.fresh) parts;
        place = let fits = o.place in omega (arith, count-append updates t b);
      }

  -- a writer's step
  module _ (writer : x.standing ≡ Writer) (y : WorkSide) where
    writer_moves : (vs : List ℕ) (k : List Entry) (c : List ℕ) → length vs ≡ length words → slice_index vs 0 ≡ slice_index words 0 →
        slice_index vs count_word ≡ length k →
        Agrees vs (journal_base site.geom) (spelled k) → IsVolume site.geom site.shard c (table_after site.geom finite.empty k) →
        (is_writing y.work.stage ≡ false → volume_of site.geom vs ≡ c) → All (λ e. IsOwn site.shard e.rank e) k → IsLegal site.geom k
        (slice_set (transcripts sides) r y.work.transcript.items) →
        y.work.seen.room ≡ x.work.seen.room → IsOwnTranscript site r y.work.transcript.items → Fits site vs k c r y → WorkGood site vs (slice_set sides r y)
    writer_moves vs k c size fixed count spells volume still here legal room own fits =
        one_moves site words sides g r x has y vs k c size fixed count spells volume
        (λ none. still (none r y (get_set_same sides r x y has))) here legal room own fits (quiet writer vs k c)

  -- who holds the lock with an update is a writer
  writes_alone : IsHolder x.standing → asks_update x.work.calls ≡ true → x.standing ≡ Writer
  writes_alone holds is = by_standing x.standing holds (apart.reads r x has) where
    by_standing : (st : Standing) → IsHolder st → (st ≡ Reader → asks_update x.work.calls ≡ false) → st ≡ Writer
    by_standing Out h reads = absurd h
    by_standing Asking h reads = absurd h
    by_standing Writer h reads = refl
    by_standing Reader h reads = let no_update : asks_update x.work.calls ≡ false = reads refl in absurd (cc)
    by_standing Leaving h reads = absurd h

  -- A rank that found the count, and decides the calls of its block. What it has read and decided is given apart from its side.
  module _ (holds : IsHolder x.standing) (reading : is_writing x.work.stage ≡ false) (count : ℕ) (found : count ≡ length g.journal) where
    abbrev met : Table
    met = table_after site.geom finite.empty g.journal

    -- such a side has the rank's transcript
    module _ (y : TheWork) (o : HasOpen site r y) (same : y.transcript ≡ x.work.transcript) (room : y.seen.room ≡ x.work.seen.room) where
      -- every call has its reply
      module _ (replies_are : y.replies ≡ (apply_block site.geom (batch_in y) y.calls met).1)
          (makes : IsVolume site.geom site.shard (words_written g.before y.writes) (apply_block site.geom (batch_in y) y.calls met).0)
          (inside_all : All (λ w. w.word < volume_words site.geom) y.writes) (long : length y.replies ≡ length y.calls) where
        abbrev es : List Entry
        es = entries_of site.shard r (batch_in y) y.seq count 0 y.calls y.replies

        es_calls : calls_of es ≡ y.calls
        es_calls = entries_calls site.shard r (batch_in y) y.seq count 0 y.calls y.replies long

        block_is : asks_update y.calls ≡ true → IsBlock r (batch_in y) y.seq (length g.journal) es
        block_is is =
            record {
              parts = subst (λ n. AreParts r (batch_in y) y.seq n 0 es) found
                  (entries_parts site.shard r (batch_in y) y.seq count 0 y.calls y.replies (o.is_block.all_update is));
              whole = entries_length site.shard r (batch_in y) y.seq count 0 y.calls y.replies long ∙ sym (batch_size (length y.calls) o.is_block.some);
              few = batch_few (length y.calls) o.is_block.few;
              not_one = batch_not_one (length y.calls);
            }

        abbrev block_legal : asks_update y.calls ≡ true → IsLegalBlock site.geom met (length g.journal) es
        block_legal is =
            record {
              rank = r;
              batch = batch_in y;
              seq = y.seq;
              is = block_is is;
              answered = entries_replies site.shard r (batch_in y) y.seq count 0 y.calls y.replies long ∙ replies_are
                  ∙ ap (λ cs. (apply_block site.geom (batch_in y) cs met).1) (sym es_calls);
            }

        abbrev block_next : asks_update y.calls ≡ true → IsNext site r g.journal g.before es y.writes
        block_next is =
            record {
              own = entries_own site.shard r (batch_in y) y.seq count 0 y.calls y.replies o.small;
              legal = block_legal is;
              mine = refl;
              inside = inside_all;
              makes = subst (IsVolume site.geom site.shard (words_written g.before y.writes))
                  (ap (λ cs. (apply_block site.geom (batch_in y) cs met).0) (sym es_calls)
                  ∙ sym (table_more site.geom g.journal es g.legal.journal_is r (batch_in y) y.seq (length g.journal) (block_is is)))
                  makes;
            }

        -- a get or hold is alone
        read_closes : asks_update y.calls ≡ false → WorkGood site words (slice_set sides r (side_turned x.standing (block_close_by site.shard r y count false)))
        read_closes is =
            let one_call : length y.calls ≡ 1 = o.is_block.alone is in
            let c = alone y.calls one_call in
            let a = alone y.replies (long ∙ one_call) in
            let zero_batch : batch_in y ≡ 0 = batch_alone (length y.calls) one_call in
            let e : Entry = record { shard = site.shard; rank = r; seq = y.seq; call = c.0; at = count; reply = a.0; batch = batch_in y; part = 0 } in
            let one : es ≡ e ∷ [] = ap (λ cs. entries_of site.shard r (batch_in y) y.seq count 0 cs y.replies) c.1
            ∙ ap (entries_of site.shard r (batch_in y) y.seq count 0 (c.0 ∷ [])) a.1 in
            let no_update : updates e ≡ false = ap asks_update (sym c.1) ∙ is in
            let reply : a.0 ∷ [] ≡ (apply site.geom c.0 met).1 ∷ [] = sym a.1 ∙ replies_are
            ∙ ap (λ n. (apply_block site.geom n y.calls met).1) zero_batch ∙ ap (λ cs. (in_turn site.geom met cs).1) c.1 in
            let small : y.seq < 2 ^ 32 = let low = o.small in omega arith in
            let fresh : All (λ d. d.seq < y.seq) x.work.transcript.items = subst (λ (z : TheTranscript). All (λ d. d.seq < y.seq) z.items) same o.fresh in
            let items : y.transcript.items ++ es ≡ x.work.transcript.items ++ e ∷ [] = ap (λ (z : TheTranscript). z.items ++ es) same
            ∙ ap (λ z. x.work.transcript.items ++ z) one in
            entry_joins site words sides g r x has (side_turned x.standing (block_close_by site.shard r y count false)) e reading room items
            (record { shard_is = refl; rank_is = refl; small = small }) no_update fresh found
            (head_is reply) tt
          where
            alone : {X : Type 0} (xs : List X) → length xs ≡ 1 → (y : X) × (xs ≡ y ∷ [])
            alone [] h = absurd (omega arith)
            alone (y ∷ []) h = (y, refl)
            alone (y ∷ z ∷ zs) h = absurd (omega arith)

            head_is : {X : Type 0} {a b : X} → a ∷ [] ≡ b ∷ [] → a ≡ b
            head_is e = cc

        -- updates go on to the journal
        updates_close : y.calls ≡ x.work.calls → asks_update y.calls ≡ true →
            WorkGood site words (slice_set sides r (side_turned x.standing (block_close_by site.shard r y count true)))
        updates_close calls is =
            let writer : x.standing ≡ Writer = writes_alone holds (ap asks_update (sym calls) ∙ is) in
            side_stays site words sides g r x has (side_turned x.standing (block_close_by site.shard r y count true)) (λ _. reading) same room (
              record { open_call = o; writes = writer; update = is; found = found; same_calls = es_calls; is_next = block_next is; same_seq = refl },
              (let some = o.is_block.some in let e = entries_length site.shard r (batch_in y) y.seq count 0 y.calls y.replies long in omega arith),
              agrees_none words (journal_base site.geom + 6 * length g.journal),
            )

        closes : y.calls ≡ x.work.calls → WorkGood site words (slice_set sides r (side_turned x.standing (block_close site.shard r y count)))
        closes calls =
            elim (asks_update y.calls) as (λ b. asks_update y.calls ≡ b → WorkGood site words
            (slice_set sides r (side_turned x.standing (block_close_by site.shard r y count b)))) [
              | true ↦ λ is. updates_close calls is
              | false ↦ λ is. read_closes is
            ] refl

      -- it reads the next word, or goes on
      next_keeps : (call : Call) (rest : List Call) → HasDecided site g.journal g.before y (call ∷ rest) →
          (length y.calls ≡ 1 → AreNamed site.geom call y.seen.pairs) → (n : Option ℕ) → next_word site.geom call y.seen.pairs ≡ n →
          (on : WorkTurned) →
          (next_word site.geom call y.seen.pairs ≡ None → WorkGood site words (slice_set sides r (side_turned x.standing on))) →
          WorkGood site words (slice_set sides r (side_turned x.standing (read_next y count n on)))
      next_keeps call rest p named (Some word) next on goes =
          side_stays site words sides g r x has (side_turned x.standing (read_next y count (Some word) on)) (λ _. reading) same room
          (record { open_call = o; holds = holds; found = found; call = call; rest = rest; partly = p; next = next; named = named })
      next_keeps call rest p named None next on goes = goes next

    -- it reads on, or decides
    read_keeps : (rest : List Call) (y : TheWork) → HasOpen site r y → y.transcript ≡ x.work.transcript → y.seen.room ≡ x.work.seen.room →
        y.calls ≡ x.work.calls → HasDecided site g.journal g.before y rest → (length y.calls ≡ 1 → IsNamedBy site.geom rest y.seen.pairs) →
        WorkGood site words (slice_set sides r (side_turned x.standing (read_on site.geom site.shard r count rest y)))
    read_keeps [] y o same room calls p named =
        let all : p.first ≡ y.calls = sym (append-nil p.first) ∙ p.split in
        let some : 1 ≤ length y.calls = o.is_block.some in
        let replies : y.replies ≡ (in_turn site.geom met y.calls).1 = p.replies_are ∙ ap (λ cs. (in_turn site.geom met cs).1) all in
        let runs : apply_block site.geom (batch_in y) y.calls met ≡ in_turn site.geom met y.calls =
        block_runs site.geom met y.calls some (λ other. ap any_stops (sym replies) ∙ p.none_stops other) in
        closes y o same room
        (replies ∙ ap (λ z. z.1) (sym runs))
        (subst (λ (z : Table × List Reply). IsVolume site.geom site.shard (words_written g.before y.writes) z.0) (sym runs)
        (subst (λ cs. IsVolume site.geom site.shard (words_written g.before y.writes) (in_turn site.geom met cs).0) all p.makes))
        p.inside
        (ap length replies ∙ turn_length site.geom met y.calls)
        calls
    read_keeps (c ∷ rest) y o same room calls p named =
        next_keeps y o same room c rest p named (next_word site.geom c y.seen.pairs) refl _
        (λ over.
        let m : Table = (in_turn site.geom met p.first).0 in
        let d : List Write × Reply = decision site.geom c (value_or_zero y.seen.pairs) in
        let here : slice_get (p.first ++ c ∷ rest) (length p.first) ≡ Some c = found_at p.first c rest in
        let of_shard : shard_of site.geom c ≡ site.shard = all_at (λ z. shard_of site.geom z ≡ site.shard) y.calls (length p.first) c
        o.of_shard (subst (λ z. slice_get z (length p.first) ≡ Some c) p.split here) in
        let q = decided_as site.geom g.geom_fits c y.seen.pairs (words_written g.before y.writes) m
        (record { volume = subst (λ z. IsVolume site.geom z (words_written g.before y.writes) m) (sym of_shard) p.makes; agrees = p.agrees; over = over }) in
        let volume : IsVolume site.geom site.shard (words_written (words_written g.before y.writes) d.0) (apply site.geom c m).0 =
        subst (λ z. IsVolume site.geom z (words_written (words_written g.before y.writes) d.0) (apply site.geom c m).0) of_shard q.0 in
        let answer : d.1 ≡ (apply site.geom c m).1 = q.1 in
        let inside_d : All (λ w. w.word < volume_words site.geom) d.0 = inside site.geom g.geom_fits c (value_or_zero y.seen.pairs) in
        elim (stops_block (length y.calls) d.1) as (λ b. stops_block (length y.calls) d.1 ≡ b →
        WorkGood site words (slice_set sides r (side_turned x.standing
        (cond b (block_close site.shard r (with_stop y d.1 rest) count) (read_on site.geom site.shard r count rest (with_call y d)))))) [
          | true ↦ λ e.
              let stop = stops_is (length y.calls) d.1 e in
              let other : length (p.first ++ c ∷ rest) ≡ 1 → ⊥ = λ one. stop.0 (ap length (sym p.split) ∙ one) in
              let none : any_stops (in_turn site.geom met p.first).1 ≡ false = ap any_stops (sym p.replies_are) ∙ p.none_stops stop.0 in
              let stopped : apply_block site.geom (batch_in y) y.calls met ≡ (met, undone y.replies ++ d.1 ∷ undone rest) =
              ap (λ cs. apply_block site.geom (batch_number (length cs)) cs met) (sym p.split)
              ∙ block_stops site.geom met p.first c rest other none (ap stops (sym answer) ∙ stop.1)
              ∙ ap (λ z. (met, undone (in_turn site.geom met p.first).1 ++ z ∷ undone rest)) (sym answer)
              ∙ ap (λ z. (met, undone z ++ d.1 ∷ undone rest)) (sym p.replies_are) in
              closes (with_stop y d.1 rest) o same room
              (ap (λ z. z.1) (sym stopped))
              (subst (λ (z : Table × List Reply). IsVolume site.geom site.shard g.before z.0) (sym stopped) g.volume)
              (All-nil (λ w. w.word < volume_words site.geom))
              (omega (
                arith,
                length-append (undone y.replies) (d.1 ∷ undone rest),
                length-map y.replies (λ (z : Reply). Undone),
                length-map rest (λ (z : Call). Undone),
                ap length p.replies_are,
                turn_length site.geom met p.first,
                ap length p.split,
                length-append p.first (c ∷ rest),
              ))
              calls
          | false ↦ λ e.
              read_keeps rest (with_call y d) o same room calls
              (record {
                first = p.first ++ c ∷ [];
                split = append_assoc p.first (c ∷ []) rest ∙ p.split;
                replies_are = ap (λ z. z ++ d.1 ∷ []) p.replies_are ∙ ap (λ z. (in_turn site.geom met p.first).1 ++ z ∷ []) answer
                    ∙ sym (turn_replies site.geom met p.first (c ∷ []));
                none_stops = λ other. any_append y.replies (d.1 ∷ []) ∙ ap (λ b. b || (stops d.1 || false)) (p.none_stops other)
                    ∙ ap (λ b. b || false) (goes_is (length y.calls) d.1 e other);
                makes = subst (λ z. IsVolume site.geom site.shard z (in_turn site.geom met (p.first ++ c ∷ [])).0) (sym (written_append g.before y.writes d.0))
                    (subst (IsVolume site.geom site.shard (words_written (words_written g.before y.writes) d.0))
                    (sym (turn_table site.geom met p.first c)) volume);
                inside = All-append (λ w. w.word < volume_words site.geom) y.writes d.0 p.inside inside_d;
                agrees = subst (AgreesWith (patched y.seen.pairs d.0)) (sym (written_append g.before y.writes d.0))
                    (agrees_below (volume_words site.geom) d.0 y.seen.pairs
                    (words_written g.before y.writes) p.makes.size inside_d p.agrees);
                elsewhere = λ w unseen.
                    let q = patched_none d.0 y.seen.pairs w unseen in
                    ap (λ z. slice_index z w) (written_append g.before y.writes d.0) ∙ q.1 (words_written g.before y.writes) ∙ p.elsewhere w q.0;
              })
              (λ one. was_last rest (omega (arith, ap length p.split, length-append p.first (c ∷ rest))) (patched y.seen.pairs d.0))
        ] refl)
      where
        found_at : (xs : List Call) (c : Call) (ys : List Call) → slice_get (xs ++ c ∷ ys) (length xs) ≡ Some c
        found_at [] c ys = refl
        found_at (x ∷ xs) c ys = found_at xs c ys

        -- behind a call alone there is none
        was_last : (cs : List Call) → length cs ≡ 0 → (pairs : List (ℕ × ℕ)) → IsNamedBy site.geom cs pairs
        was_last [] none pairs = tt
        was_last (b ∷ cs) none pairs = absurd (omega arith)

  -- the load of the count
  pub count_loaded : x.work.stage ≡ Begin → IsHolder x.standing →
      WorkGood site words (slice_set sides r (side_turned x.standing
      (seen_on site.geom site.shard r x.work (slice_index words count_word))))
  count_loaded stage holds =
      let f : FitsAt site words g.journal g.before r x Begin = subst (FitsAt site words g.journal g.before r x) stage (g.fits r x has) in
      let pairs : AgreesWith x.work.seen.pairs (words_written g.before x.work.writes) =
      subst (λ z. AgreesWith z (words_written g.before x.work.writes)) (sym f.2) (λ w. tt) in
      let all : left_of x.work ≡ x.work.calls = ap (λ z. drop (length z) x.work.calls) f.3 in
      let none : HasDecided site g.journal g.before x.work (left_of x.work) =
      record {
        first = [];
        split = all;
        replies_are = f.3;
        none_stops = λ other. ap any_stops f.3;
        makes = subst (λ z. IsVolume site.geom site.shard (words_written g.before z) (table_after site.geom finite.empty g.journal)) (sym f.4) g.volume;
        inside = subst (All (λ w. w.word < volume_words site.geom)) (sym f.4) (All-nil (λ w. w.word < volume_words site.geom));
        agrees = pairs;
        elsewhere = λ w unseen. ap (λ z. slice_index (words_written g.before z) w) f.4;
      } in
      read_keeps holds (ap is_writing stage) (slice_index words count_word) g.count (left_of x.work) x.work f.0 refl refl refl none
      (λ _. none_named site.geom (left_of x.work) x.work.seen.pairs f.2)

  -- the load of a word of the volume
  pub word_loaded : (count word : ℕ) → x.work.stage ≡ Read count word →
      WorkGood site words (slice_set sides r (side_turned x.standing (seen_on site.geom site.shard r (with_seen x.work (x.work.seen.pairs ++ (word, slice_index words (volume_base + word)) ∷ [])) count)))
  word_loaded count word stage =
      let f : IsReading site r g.journal g.before x count word = subst (FitsAt site words g.journal g.before r x) stage (g.fits r x has) in
      let p : HasDecided site g.journal g.before x.work (f.call ∷ f.rest) = f.partly in
      let got : ℕ = slice_index words (volume_base + word) in
      let pairs : List (ℕ × ℕ) = x.work.seen.pairs ++ (word, got) ∷ [] in
      let there : word < volume_words site.geom = next_there site.geom g.geom_fits f.call x.work.seen.pairs word f.next in
      let same : slice_index g.before word ≡ got = ap (λ z. slice_index z word) (sym (unwritten f.holds (ap is_writing stage)))
      ∙ volume_get site.geom words word there in
      let still : slice_index (words_written g.before x.work.writes) word ≡ got =
      p.elsewhere word (next_unseen site.geom f.call x.work.seen.pairs word f.next) ∙ same in
      let left : left_of x.work ≡ f.call ∷ f.rest = left_is p in
      read_keeps f.holds (ap is_writing stage) count f.found (left_of x.work) (with_seen x.work pairs) f.open_call refl refl refl
      (subst (IsPartly site g.journal g.before x.work.calls x.work.replies x.work.writes pairs) (sym left)
      (record {
        first = p.first;
        split = p.split;
        replies_are = p.replies_are;
        none_stops = p.none_stops;
        makes = p.makes;
        inside = p.inside;
        agrees = agrees_with_more x.work.seen.pairs (words_written g.before x.work.writes) word got p.agrees still;
        elsewhere = λ w unseen. p.elsewhere w (none_before x.work.seen.pairs word got w unseen);
      }))
      (λ one. subst (λ cs. IsNamedBy site.geom cs pairs) (sym left) (named_more site.geom f.call x.work.seen.pairs word got (f.named one) f.next))
    where
      left_is : {rest : List Call} → HasDecided site g.journal g.before x.work rest → left_of x.work ≡ rest
      left_is {rest} p = ap (λ n. drop n x.work.calls) (ap length p.replies_are ∙ turn_length site.geom
          (table_after site.geom finite.empty g.journal) p.first) ∙ ap (drop (length p.first)) (sym p.split) ∙ drop_front p.first rest where
            drop_front : (xs ys : List Call) → drop (length xs) (xs ++ ys) ≡ ys
            drop_front [] ys = refl
            drop_front (x ∷ xs) ys = drop_front xs ys

  -- the store of the count
  pub count_stored : (made : ℕ) → x.work.stage ≡ Volume made → slice_get x.work.writes made ≡ None →
      WorkGood site (slice_set words count_word (x.work.at + length x.work.entries))
      (slice_set sides r (record { standing = Leaving; work = (at_rest x.work).work }))
  count_stored made stage last =
      let f : FitsAt site words g.journal g.before r x (Volume made) = subst (FitsAt site words g.journal g.before r x) stage (g.fits r x has) in
      let d : IsDecided site r g.journal g.before x = f.0 in
      let b : List Entry = x.work.entries in
      let n : IsNext site r g.journal g.before b x.work.writes = d.is_next in
      let v : ℕ = x.work.at + length b in
      let vs : List ℕ = slice_set words count_word v in
      let all : take made x.work.writes ≡ x.work.writes = take_all made x.work.writes (none_past x.work.writes made last) in
      let made_all : volume_of site.geom vs ≡ words_written g.before x.work.writes =
      volume_before site.geom words count_word v (omega arith) ∙ f.3 ∙ ap (words_written g.before) all in
      let t : List Entry = x.work.transcript.items in
      let there : slice_get (transcripts sides) r ≡ Some t = the_transcript site words sides g r x has in
      let whole : take (6 * length b) (spelled b) ≡ spelled b = take_all (6 * length b) (spelled b) (omega (arith, length_spelled b)) in
      let kept_place : Agrees words (journal_base site.geom + length (spelled g.journal)) (spelled b) =
      subst (λ z. Agrees words (journal_base site.geom + z) (spelled b)) (sym (length_spelled g.journal))
      (subst (Agrees words (journal_base site.geom + 6 * length g.journal)) whole f.2) in
      let spells : Agrees words (journal_base site.geom) (spelled (g.journal ++ b)) =
      subst (Agrees words (journal_base site.geom)) (sym (spelled_append g.journal b))
      (agrees_append words (journal_base site.geom) (spelled g.journal) (spelled b) g.spells kept_place) in
      let parts : AreParts r n.legal.batch x.work.seq (length g.journal) 0 b =
      subst (λ z. AreParts z n.legal.batch x.work.seq (length g.journal) 0 b) n.mine
      (subst (λ z. AreParts n.legal.rank n.legal.batch z (length g.journal) 0 b) d.same_seq n.legal.is.parts) in
      writer_moves d.writes (record { standing = Leaving; work = (at_rest x.work).work }) vs (g.journal ++ b) (words_written g.before x.work.writes)
      (length-set words count_word v)
      (get_or-set_other words count_word 0 v 0 (λ q. absurd (omega arith)))
      (get_or-set_same words count_word v 0 (count_there count_word (omega arith)) ∙ (let found = d.found in omega (arith, length-append g.journal b)))
      (agrees_elsewhere words (journal_base site.geom) (spelled (g.journal ++ b)) count_word v spells (λ i h q. absurd (omega arith)))
      n.makes
      (λ _. made_all)
      (All-append (λ z. IsOwn site.shard z.rank z) g.journal b g.here
      (All-weaker (IsOwn site.shard r) (λ z. IsOwn site.shard z.rank z)
      (λ z own. subst (λ k. IsOwn site.shard k z) (sym own.rank_is) own) b n.own))
      (legal_update site.geom g.journal (transcripts sides) g.legal r t there b n.legal n.mine (slice_get_within (transcripts sides) r t there))
      refl
      (own_block d.open_call d.update b n.own d.same_calls n.legal.batch parts)
      tt
    where
      none_past : {X : Type 0} (xs : List X) (i : ℕ) → slice_get xs i ≡ None → length xs ≤ i
      none_past [] i h = omega arith
      none_past (x ∷ xs) zero h = absurd (cc)
      none_past (x ∷ xs) (suc i) h = let l : length xs ≤ i = none_past xs i h in omega arith

  -- one of the writes
  pub write_made : (made : ℕ) (w : Write) → x.work.stage ≡ Volume made → slice_get x.work.writes made ≡ Some w →
      WorkGood site (slice_set words (volume_base + w.word) w.value)
      (slice_set sides r (record { standing = x.standing; work = at_stage x.work (Volume (made + 1)) }))
  write_made made w stage next =
      let f : FitsAt site words g.journal g.before r x (Volume made) = subst (FitsAt site words g.journal g.before r x) stage (g.fits r x has) in
      let d : IsDecided site r g.journal g.before x = f.0 in
      let n : IsNext site r g.journal g.before x.work.entries x.work.writes = d.is_next in
      let vs : List ℕ = slice_set words (volume_base + w.word) w.value in
      let inside : w.word < volume_words site.geom = all_at (λ z. z.word < volume_words site.geom) x.work.writes made w n.inside next in
      let there : made < length x.work.writes = slice_get_within x.work.writes made w next in
      let y : WorkSide = record { standing = x.standing; work = at_stage x.work (Volume (made + 1)) } in
      let new : volume_of site.geom vs ≡ words_written g.before (take (made + 1) x.work.writes) =
      volume_set site.geom words w.word w.value inside ∙ ap (λ z. slice_set z w.word w.value) f.3 ∙ sym (written_one g.before x.work.writes made w next) in
      writer_moves d.writes y vs g.journal g.before
      (length-set words (volume_base + w.word) w.value)
      (get_or-set_other words (volume_base + w.word) 0 w.value 0 (λ q. absurd (omega arith)))
      (get_or-set_other words (volume_base + w.word) count_word w.value 0 (λ q. absurd (omega arith)) ∙ g.count)
      (agrees_elsewhere words (journal_base site.geom) (spelled g.journal) (volume_base + w.word) w.value g.spells (λ i h q. absurd (omega arith)))
      g.volume
      (λ no_writes. absurd (cc))
      g.here
      (legal_kept site words sides g r x has x.work.transcript refl)
      refl
      (g.own r x has) (
        decided_on (Volume (made + 1)) d,
        omega arith,
        agrees_elsewhere words (journal_base site.geom + 6 * length g.journal) (take (6 * length x.work.entries) (spelled x.work.entries))
            (volume_base + w.word) w.value f.2 (λ i h q. absurd (omega arith)),
        new,
      )

  -- one word of the journal place: the rank goes on to another stage, which it fits
  journal_moves : (made : ℕ) → x.work.stage ≡ Journal made → (to : Stage) →
      (let vs : List ℕ = slice_set words (journal_base site.geom + (6 * x.work.at + made)) (slice_index (spelled x.work.entries) made) in
      volume_of site.geom vs ≡ g.before → IsSpelled site.geom vs g.journal x.work.entries (made + 1) →
      FitsAt site vs g.journal g.before r (record { standing = x.standing; work = at_stage x.work to }) to) →
      WorkGood site (slice_set words (journal_base site.geom + (6 * x.work.at + made)) (slice_index (spelled x.work.entries) made))
      (slice_set sides r (record { standing = x.standing; work = at_stage x.work to }))
  journal_moves made stage to fits =
      let f : FitsAt site words g.journal g.before r x (Journal made) = subst (FitsAt site words g.journal g.before r x) stage (g.fits r x has) in
      let d : IsDecided site r g.journal g.before x = f.0 in
      let b : List Entry = x.work.entries in
      let at : x.work.at ≡ length g.journal = d.found in
      let long : length b ≡ length x.work.calls = sym (length-map b (λ (e : Entry). e.call)) ∙ ap length d.same_calls in
      let base : ℕ = journal_base site.geom + 6 * length g.journal in
      let value : ℕ = slice_index (spelled b) made in
      let w : ℕ = journal_base site.geom + (6 * x.work.at + made) in
      let here : base + made ≡ w = omega arith in
      let vs : List ℕ = slice_set words w value in
      let below : length g.journal + length x.work.calls ≤ places site = place_left site words sides g r x has d.open_call d.update in
      let there : base + made < length words = let e = g.size in let low = f.1 in omega arith in
      let spelt : Agrees vs base (take (made + 1) (spelled b)) =
      subst (λ z. Agrees (slice_set words z value) base (take (made + 1) (spelled b))) here
      (agrees_more words base (spelled b) made (let low = f.1 in omega (arith, length_spelled b)) there f.2) in
      let y : WorkSide = record { standing = x.standing; work = at_stage x.work to } in
      let volume : volume_of site.geom vs ≡ g.before = volume_behind site.geom words w value (omega arith)
      ∙ unwritten (holder_of x.standing d.writes) (ap is_writing stage) in
      writer_moves d.writes y vs g.journal g.before
      (length-set words w value)
      (get_or-set_other words w 0 value 0 (λ q. absurd (omega arith)))
      (get_or-set_other words w count_word value 0 (λ q. absurd (omega arith)) ∙ g.count)
      (agrees_elsewhere words (journal_base site.geom) (spelled g.journal) w value g.spells (λ i h q. let l = length_spelled g.journal in absurd (omega arith)))
      g.volume
      (λ _. volume)
      g.here
      (legal_kept site words sides g r x has x.work.transcript refl)
      refl
      (g.own r x has)
      (fits volume spelt)

  pub journal_stored : (made : ℕ) → x.work.stage ≡ Journal made →
      WorkGood site (slice_set words (journal_base site.geom + (6 * x.work.at + made)) (slice_index (spelled x.work.entries) made))
      (slice_set sides r (side_turned x.standing (journal_on x.work made)))
  journal_stored made stage =
      let f : FitsAt site words g.journal g.before r x (Journal made) = subst (FitsAt site words g.journal g.before r x) stage (g.fits r x has) in
      let d : IsDecided site r g.journal g.before x = f.0 in
      let vs : List ℕ = slice_set words (journal_base site.geom + (6 * x.work.at + made)) (slice_index (spelled x.work.entries) made) in
      elim (made + 1 == 6 * length x.work.entries) as (λ b. (made + 1 == 6 * length x.work.entries) ≡ b → WorkGood site vs
      (slice_set sides r (side_turned x.standing (cond b (to_stage x.work (Volume 0)) (to_stage x.work (Journal (made + 1))))))) [
        | true ↦ λ e. journal_moves made stage (Volume 0) (λ volume spelt. (
          decided_on (Volume 0) d,
          omega arith,
          (let six : made + 1 ≡ 6 * length x.work.entries = grind (arith, nat_tests) in subst (IsSpelled site.geom vs g.journal x.work.entries) six spelt),
          volume,
        ))
        | false ↦ λ e. journal_moves made stage (Journal (made + 1)) (λ volume spelt. (
          decided_on (Journal (made + 1)) d,
          (let low = f.1 in grind (arith, nat_tests)),
          spelt,
        ))
      ] refl
