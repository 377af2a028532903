-- The journal is read back from its words, exactly.
use Rattle.std.specs.Prelude.{◌≡◌, ℕ, zero, suc, ◌+◌, ◌*◌, ◌/◌, ◌%◌, ◌^◌, ◌<◌, ◌≤◌, ◌==◌, nat_lt, true, false, cond, List, [], ◌∷◌, ◌++◌, All, length, get_or, slice_get, slice_index, Option, Some, None, refl}
use Rattle.std.specs.FinMap as finite
use Rattle.std.proofs.Common.{sym, ◌∙◌, ap, subst, arith, length-append, append_assoc}
use Rattle.std.proofs.lemmas.List.{get_or_append_left, get_or-append-add}
use Rattle.std.proofs.lemmas.Option.{same_Some, slice_get_within, slice_get-get_or}
use Rattle.rl_model.specs.declared.call.Call.{Call}
use Rattle.rl_model.specs.declared.call.Call.TheVariants.{Put, Get, Del, Add, Cas, Hold}
use Rattle.rl_model.specs.declared.entry.Entry.{Entry}
use Rattle.rl_model.specs.declared.entry.Reply.{Reply}
use Rattle.rl_model.specs.declared.entry.Reply.TheVariants.{New, Was, Full, Val, Nothing, Sum, Over, No, Held, Undone}
use Rattle.rl_model.specs.declared.geom.Geom.{Geom}
use Rattle.rl_model.specs.Call.{is_update}
use Rattle.rl_model.specs.Table.{Table, apply, after_put, after_del, after_add, after_cas, has_no_room}
use Rattle.rl_journal.specs.Journal.{spelling, spelled, kind_of, key_of, first_of, second_of, code_of, value_in, call_of, reply_of, entry_of, is_for_update, IsJournaled, Agrees, six_from, entries_from, journal_in}
use Rattle.rl_journal.specs.Blocks.{AreUpdates, in_turn, undone, only_first, any_stops, stops, apply_block, apply_batch, calls_of, replies_of}
use Rattle.rl_journal.specs.Legal.{IsLegalBlock, IsLegalJournal}
use Rattle.rl_journal.specs.Ranks.{IsOwn}
use Rattle.rl_journal.specs.laws.Lists.{all_at}
use Rattle.rl_journal.specs.laws.BlockLaws.{parts_update}
use Rattle.rl_journal.specs.laws.JournalLaws.{length_spelled}
use Rattle.rl_journal.specs.laws.LegalLaws.{IsPlaced, placed, IsIn, in_journal}

call_back : (c : Call) → is_update c ≡ true → (kind : ℕ) → kind ≡ kind_of c → call_of kind (key_of c) (first_of c) (second_of c) ≡ c
call_back (Put key value) is kind e = ap (λ z. call_of z key value 0) e
call_back (Get key) is kind e = absurd (cc)
call_back (Del key) is kind e = ap (λ z. call_of z key 0 0) e
call_back (Add key by) is kind e = ap (λ z. call_of z key by 0) e
call_back (Cas key old new) is kind e = ap (λ z. call_of z key old new) e
call_back (Hold shard) is kind e = absurd (cc)

reply_back : (a : Reply) → is_for_update a ≡ true → (code : ℕ) → code ≡ code_of a → reply_of code (value_in a) ≡ a
reply_back New is code e = ap (λ z. reply_of z 0) e
reply_back (Was v) is code e = ap (λ z. reply_of z v) e
reply_back Full is code e = ap (λ z. reply_of z 0) e
reply_back (Val v) is code e = absurd (cc)
reply_back Nothing is code e = ap (λ z. reply_of z 0) e
reply_back (Sum v) is code e = ap (λ z. reply_of z v) e
reply_back (Over v) is code e = ap (λ z. reply_of z v) e
reply_back (No v) is code e = ap (λ z. reply_of z v) e
reply_back Held is code e = absurd (cc)
reply_back Undone is code e = ap (λ z. reply_of z 0) e

-- the kind is below 8
kind_low : (c : Call) → kind_of c < 8
kind_low (Put key value) = omega arith
kind_low (Get key) = omega arith
kind_low (Del key) = omega arith
kind_low (Add key by) = omega arith
kind_low (Cas key old new) = omega arith
kind_low (Hold shard) = omega arith

-- and the code below 16
code_low : (a : Reply) → code_of a < 16
code_low New = omega arith
code_low (Was v) = omega arith
code_low Full = omega arith
code_low (Val v) = omega arith
code_low Nothing = omega arith
code_low (Sum v) = omega arith
code_low (Over v) = omega arith
code_low (No v) = omega arith
code_low Held = omega arith
code_low Undone = omega arith

-- the six words of an update's entry are read back as the entry
pub read_back : (shard at : ℕ) (e : Entry) → IsJournaled shard at e → entry_of shard at (spelling e) ≡ e
read_back shard at e j =
    let small : e.seq < 2 ^ 32 = j.small in
    let few : e.batch ≤ 8 = j.few in
    let low = kind_low e.call in
    let rank : (e.rank * 2 ^ 32 + e.seq) / 2 ^ 32 ≡ e.rank = omega arith in
    let seq : (e.rank * 2 ^ 32 + e.seq) % 2 ^ 32 ≡ e.seq = omega arith in
    let coded = code_low e.reply in
    let word : ℕ = kind_of e.call + 8 * code_of e.reply + 128 * e.batch + 2048 * e.part in
    let kind : word % 8 ≡ kind_of e.call = omega arith in
    let code : word / 8 % 16 ≡ code_of e.reply = omega arith in
    let batch : word / 128 % 16 ≡ e.batch = omega arith in
    let part : word / 2048 ≡ e.part = omega arith in
    let call : call_of (word % 8) (key_of e.call) (first_of e.call) (second_of e.call) ≡ e.call = call_back e.call j.is_update _ kind in
    let reply : reply_of (word / 8 % 16) (value_in e.reply) ≡ e.reply = reply_back e.reply j.answered _ code in
    parts shard e.shard _ e.rank _ e.seq _ e.call at e.at _ e.reply _ e.batch _ e.part (sym j.shard_is) rank seq call (sym j.place) reply batch part
  where
    parts : (s s' r r' q q' : ℕ) (c c' : Call) (a a' : ℕ) (p p' : Reply) (b b' i i' : ℕ) → s ≡ s' → r ≡ r' → q ≡ q' → c ≡ c' → a ≡ a' →
        p ≡ p' → b ≡ b' → i ≡ i' →
        ◌≡◌ {A = Entry} (record { shard = s; rank = r; seq = q; call = c; at = a; reply = p; batch = b; part = i })
        (record { shard = s'; rank = r'; seq = q'; call = c'; at = a'; reply = p'; batch = b'; part = i' })
    parts s s' r r' q q' c c' a a' p p' b b' i i' e1 e2 e3 e4 e5 e6 e7 e8 = cc

-- an update gets such a reply
module _ (geom : Geom) (t : Table) where
  put_answer : (key value : ℕ) (o : Option ℕ) → is_for_update (after_put geom t key value o).1 ≡ true
  put_answer key value None =
      elim (has_no_room geom t key) as (λ b. is_for_update (cond {A = Table × Reply} b (t, Full) (finite.insert t key value, New)).1 ≡ true)
      [ true ↦ refl | false ↦ refl ]
  put_answer key value (Some was) = refl

  del_answer : (key : ℕ) (o : Option ℕ) → is_for_update (after_del t key o).1 ≡ true
  del_answer key None = refl
  del_answer key (Some was) = refl

  add_answer : (key by : ℕ) (o : Option ℕ) → is_for_update (after_add t key by o).1 ≡ true
  add_answer key by None = refl
  add_answer key by (Some was) =
      elim (nat_lt (was + by) (2 ^ 64)) as (λ b. is_for_update (cond {A = Table × Reply} b (finite.insert t key (was + by), Sum (was + by))
      (t, Over was)).1 ≡ true) [ true ↦ refl | false ↦ refl ]

  cas_answer : (key old new : ℕ) (o : Option ℕ) → is_for_update (after_cas t key old new o).1 ≡ true
  cas_answer key old new None = refl
  cas_answer key old new (Some was) =
      elim (was == old) as (λ b. is_for_update (cond {A = Table × Reply} b (finite.insert t key new, Was was) (t, No was)).1 ≡ true)
      [ true ↦ refl | false ↦ refl ]

  update_answer : (c : Call) → is_update c ≡ true → is_for_update (apply geom c t).1 ≡ true
  update_answer (Put key value) is = put_answer key value (finite.get t key)
  update_answer (Get key) is = absurd (cc)
  update_answer (Del key) is = del_answer key (finite.get t key)
  update_answer (Add key by) is = add_answer key by (finite.get t key)
  update_answer (Cas key old new) is = cas_answer key old new (finite.get t key)
  update_answer (Hold shard) is = absurd (cc)

-- and so does every call of a block
abbrev pub AreForUpdates : List Reply → Type 0
AreForUpdates [] = Unit {0}
AreForUpdates (a ∷ rest) = (is_for_update a ≡ true) × AreForUpdates rest

in_turn_answers : (geom : Geom) (t : Table) (cs : List Call) → AreUpdates cs → AreForUpdates (in_turn geom t cs).1
in_turn_answers geom t [] all = tt
in_turn_answers geom t (c ∷ cs) all = (update_answer geom t c all.0, in_turn_answers geom (apply geom c t).0 cs all.1)

undone_answers : {X : Type 0} (xs : List X) → AreForUpdates (undone xs)
undone_answers [] = tt
undone_answers (x ∷ xs) = (refl, undone_answers xs)

first_answers : (rs : List Reply) → AreForUpdates rs → AreForUpdates (only_first rs)
first_answers [] all = tt
first_answers (a ∷ rest) all = elim (stops a) as (λ b. AreForUpdates (cond b (a ∷ undone rest) (Undone ∷ only_first rest)))
    [ true ↦ (all.0, undone_answers rest) | false ↦ (refl, first_answers rest all.1) ]

batch_answers : (geom : Geom) (t : Table) (cs : List Call) → AreUpdates cs → AreForUpdates (apply_batch geom cs t).1
batch_answers geom t cs all =
    let turn : AreForUpdates (in_turn geom t cs).1 = in_turn_answers geom t cs all in
    elim (any_stops (in_turn geom t cs).1) as (λ b. AreForUpdates (cond b (t, only_first (in_turn geom t cs).1) (in_turn geom t cs)).1)
    [ true ↦ first_answers (in_turn geom t cs).1 turn | false ↦ turn ]

block_answers : (geom : Geom) (t : Table) (batch : ℕ) (cs : List Call) → AreUpdates cs → AreForUpdates (apply_block geom batch cs t).1
block_answers geom t zero cs all = in_turn_answers geom t cs all
block_answers geom t (suc n) cs all = batch_answers geom t cs all

answer_at : (b : List Entry) (rs : List Reply) (i : ℕ) (e : Entry) → replies_of b ≡ rs → AreForUpdates rs → slice_get b i ≡ Some e →
    is_for_update e.reply ≡ true
answer_at b rs i e same all get = by_list b i (subst AreForUpdates (sym same) all) get where
  by_list : (b : List Entry) (i : ℕ) → AreForUpdates (replies_of b) → slice_get b i ≡ Some e → is_for_update e.reply ≡ true
  by_list [] i all get = absurd (cc)
  by_list (f ∷ fs) zero all get = ap (λ z. is_for_update z.reply) (sym (same_Some _ _ get)) ∙ all.0
  by_list (f ∷ fs) (suc i) all get = by_list fs i all.1 get

-- an entry of a legal journal has a reply for an update
entry_answer : (geom : Geom) (p : ℕ) (e : Entry) → IsIn geom p e → is_for_update e.reply ≡ true
entry_answer geom p e q =
    let l : IsLegalBlock geom q.table q.first q.block = q.legal in
    answer_at q.block _ q.behind e l.answered (block_answers geom q.table l.batch (calls_of q.block)
    (parts_update l.rank l.batch l.seq q.first 0 q.block l.is.parts)) q.there

-- the six words at a place among those of several entries
spelled_at : (es : List Entry) (p : ℕ) (e : Entry) → slice_get es p ≡ Some e → (i : ℕ) → i < 6 →
    slice_index (spelled es) (6 * p + i) ≡ slice_index (spelling e) i
spelled_at [] p e get i h = absurd (cc)
spelled_at (x ∷ es) zero e get i h =
    let same : 6 * 0 + i ≡ i = omega arith in
    ap (slice_index (spelled (x ∷ es))) same ∙ get_or_append_left (spelling x) (spelled es) 0 i h ∙ ap (λ z. slice_index (spelling z) i) (same_Some _ _ get)
spelled_at (x ∷ es) (suc p) e get i h =
    let same : 6 * suc p + i ≡ 6 + (6 * p + i) = omega arith in
    ap (slice_index (spelled (x ∷ es))) same ∙ get_or-append-add (spelling x) (spelled es) (6 * p + i) 0 ∙ spelled_at es p e get i h

-- each word among those of several entries is one of an entry's
pub spelled_or : (es : List Entry) (made : ℕ) (d : Entry) → made < 6 * length es →
    slice_index (spelling (get_or es (made / 6) d)) (made % 6) ≡ slice_index (spelled es) made
spelled_or es made d h =
    let p : ℕ = made / 6 in
    let there : p < length es = omega arith in
    sym (spelled_at es p (get_or es p d) (slice_get-get_or es p d there) (made % 6) (omega arith)) ∙ ap (slice_index (spelled es)) (omega arith)

-- an entry of a legal journal, of this shard, may stand there
pub journaled : (geom : Geom) (shard : ℕ) (journal : List Entry) → IsLegalJournal geom journal → All (λ e. IsOwn shard e.rank e) journal →
    (p : ℕ) (e : Entry) → slice_get journal p ≡ Some e → IsJournaled shard p e
journaled geom shard journal legal own p e get =
    let place : IsPlaced p e = placed geom journal legal p e get in
    let mine : IsOwn shard e.rank e = all_at (λ z. IsOwn shard z.rank z) journal p e own get in
    record {
      is_update = place.is_update;
      answered = entry_answer geom p e (in_journal geom journal p e legal get);
      shard_is = mine.shard_is;
      place = place.place;
      small = mine.small;
      few = place.few;
    }

module _ (shard base : ℕ) (words : List ℕ) (journal : List Entry)
    (each : (p : ℕ) (e : Entry) → slice_get journal p ≡ Some e → IsJournaled shard p e) (agrees : Agrees words base (spelled journal)) where
  -- a place of the journal is read back
  place_read : (p : ℕ) (e : Entry) → slice_get journal p ≡ Some e → entry_of shard p (six_from words (base + 6 * p)) ≡ e
  place_read p e get =
      let here : ℕ = base + 6 * p in
      let below : p < length journal = slice_get_within journal p e get in
      let word : (i : ℕ) → i < 6 → slice_index words (here + i) ≡ slice_index (spelling e) i = λ i h.
      let long = length_spelled journal in
      let same : here + i ≡ base + (6 * p + i) = omega arith in
      ap (slice_index words) same ∙ agrees (6 * p + i) (omega arith) ∙ spelled_at journal p e get i h in
      let first : slice_index words here ≡ slice_index (spelling e) 0 = ap (slice_index words) (omega arith) ∙ word 0 (omega arith) in
      six shard p _ _ _ _ _ _ _ _ _ _ _ _ first (word 1 (omega arith)) (word 2 (omega arith)) (word 3 (omega arith)) (word 4 (omega arith))
      (word 5 (omega arith))
      ∙ read_back shard p e (each p e get)
    where
      six : (shard p a b c d e f a' b' c' d' e' f' : ℕ) → a ≡ a' → b ≡ b' → c ≡ c' → d ≡ d' → e ≡ e' → f ≡ f' →
          entry_of shard p (a ∷ b ∷ c ∷ d ∷ e ∷ f ∷ []) ≡ entry_of shard p (a' ∷ b' ∷ c' ∷ d' ∷ e' ∷ f' ∷ [])
      six shard p a b c d e f a' b' c' d' e' f' ea eb ec ed ee ef =
          ap (λ z. entry_of shard p (z ∷ b ∷ c ∷ d ∷ e ∷ f ∷ [])) ea ∙ ap (λ z. entry_of shard p (a' ∷ z ∷ c ∷ d ∷ e ∷ f ∷ [])) eb
          ∙ ap (λ z. entry_of shard p (a' ∷ b' ∷ z ∷ d ∷ e ∷ f ∷ [])) ec
          ∙ ap (λ z. entry_of shard p (a' ∷ b' ∷ c' ∷ z ∷ e ∷ f ∷ [])) ed ∙ ap (λ z. entry_of shard p (a' ∷ b' ∷ c' ∷ d' ∷ z ∷ f ∷ [])) ee
          ∙ ap (λ z. entry_of shard p (a' ∷ b' ∷ c' ∷ d' ∷ e' ∷ z ∷ [])) ef

  read_from : (front rest : List Entry) → front ++ rest ≡ journal → entries_from shard words base (length front) (length rest) ≡ rest
  read_from front [] e = refl
  read_from front (u ∷ rest) e =
      let here : entry_of shard (length front) (six_from words (base + 6 * length front)) ≡ u =
      place_read (length front) u (subst (λ z. slice_get z (length front) ≡ Some u) e (found front)) in
      let on : entries_from shard words base (length (front ++ u ∷ [])) (length rest) ≡ rest =
      read_from (front ++ u ∷ []) rest (append_assoc front (u ∷ []) rest ∙ e) in
      let long : length (front ++ u ∷ []) ≡ length front + 1 = length-append front (u ∷ []) in
      ap (λ z. z ∷ entries_from shard words base (length front + 1) (length rest)) here
      ∙ ap (λ z. u ∷ z) (ap (λ n. entries_from shard words base n (length rest)) (sym long) ∙ on)
    where
      found : (xs : List Entry) → slice_get (xs ++ u ∷ rest) (length xs) ≡ Some u
      found [] = refl
      found (x ∷ xs) = found xs

  -- words that spell the journal are read back as it
  pub journal_read : journal_in shard words base (length journal) ≡ journal
  journal_read = read_from [] journal refl
