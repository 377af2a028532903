-- A line of a calls file that is read is spelled so, and a line that is spelled so is read.
use Rattle.std.proofs.Common.{◌≡◌, ℕ, suc, ◌+◌, ◌-◌, ◌%◌, ◌^◌, ◌<◌, ◌≤◌, Bool, true, false, ◌&&◌, cond, eqb, List, [], ◌∷◌, ◌++◌, length, codes, decimal, slice_get, Option, Some, None, nat_lt, Result, Ok, Err, inl, inr, refl, sym, ap, subst, ◌∙◌, eq-eqb, lit≤, arith}
use Rattle.std.proofs.lemmas.Bool.{ltb-true, lt-ltb, eqb-true}
use Rattle.std.proofs.lemmas.List.{append-nil}
use Rattle.std.proofs.lemmas.Slice.Eq.{bytes_eq-Decides}
use Rattle.rl_text.specs.declared.causes.Refusal.{Refusal}
use Rattle.rl_text.specs.declared.causes.Why.{Why}
use Rattle.rl_text.specs.declared.causes.Why.TheVariants.{Word, Range, Order}
use Rattle.rl_text.specs.Rows.{Row, words, word_at}
use Rattle.rl_text.specs.Reading.{◌>>=◌, refusal_at, needed_at, number_at, below_at, between_at, no_word_at, starts_with_word, begins}
use Rattle.rl_text.proofs.TextLaws.{IsPlain}
use Rattle.rl_text.proofs.WordLaws.{IsNumberAt, ok_is, test_ok, chosen, needed-takes, needed-again, number-again, below-takes, below-again, between-takes, between-again, no_word-takes, no_word-again, words-cons, words-nil, begins-is, decimal-no_word, plain-decimal}
use Rattle.rl_text.proofs.FromLaws.{from_bind, rest_from, rest_from-word, word_at-rest}
use Rattle.rl_model.specs.declared.call.Call.{Call}
use Rattle.rl_model.specs.declared.call.Call.TheVariants.{Put, Get, Del, Add, Cas, Hold}
use Rattle.rl_model.specs.Call.{is_update}
use Rattle.rl_ops.specs.declared.ops.TheConstants.{MOST_CALLS, MOST_IN_BATCH}
use Rattle.rl_ops.specs.declared.calls_line.CallsVersion.{CallsVersion}
use Rattle.rl_ops.specs.declared.calls_line.CallsVersion.TheVariants.{One, Two}
use Rattle.rl_ops.specs.declared.calls_line.CallsLine.{CallsLine}
use Rattle.rl_ops.specs.declared.calls_line.CallsLine.TheVariants.{Batch, Asks}
use Rattle.rl_ops.specs.declared.progress.Expected.{Expected}
use Rattle.rl_ops.specs.declared.progress.Expected.TheVariants.{NewBlock, FirstCall, FurtherCall}
use Rattle.rl_ops.specs.declared.progress.Progress.{Progress}
use Rattle.rl_ops.specs.CallSpelling.{call_words, CallFits}
use Rattle.rl_ops.specs.CallReading.{call_at}
use Rattle.rl_ops.specs.Blocks.{shard_among}
use Rattle.rl_ops.specs.Body.{passed_at}
use Rattle.rl_ops.specs.Ops.{line_words, batch_words}
use Rattle.rl_ops.specs.OpsReading.{own_call_at, size_at, has_batches, block_at, names_update, is_of_shard, part_at, expected_at, one_too_many, line_after, calls_items, IsLineOf}
use Rattle.rl_ops.proofs.CallLaws.{call-takes, call-again, call-plain}
use Rattle.rl_ops.proofs.BodyLaws.{ItemLaws}

-- ---- the lines, and their limits

abbrev pub words_of : CallsLine → List (List ℕ)
words_of (Batch rank size) = batch_words rank size
words_of (Asks rank call size) = line_words rank call

-- a call of a batch
pub record PartFits (ranks shards rank : ℕ) (call : Call) : Type 0 where
  pub there : rank < ranks
  pub fits : CallFits shards call
  pub update : is_update call ≡ true

-- the limits of a line where this is expected
abbrev pub ExpectedFits : CallsVersion → ℕ → ℕ → Expected → CallsLine → Type 0
ExpectedFits version ranks shards NewBlock (Batch rank size) = (version ≡ Two) × (rank < ranks) × (2 ≤ size) × (size ≤ MOST_IN_BATCH)
ExpectedFits version ranks shards NewBlock (Asks rank call size) = (rank < ranks) × CallFits shards call × (size ≡ 1)
ExpectedFits version ranks shards (FirstCall own n) (Batch rank size) = ⊥
ExpectedFits version ranks shards (FirstCall own n) (Asks rank call size) = PartFits ranks shards own call × (rank ≡ own) × (size ≡ n)
ExpectedFits version ranks shards (FurtherCall own left shard) (Batch rank size) = ⊥
ExpectedFits version ranks shards (FurtherCall own left shard) (Asks rank call size) = PartFits ranks shards own call × (shard_among shards call ≡ shard) × (rank ≡ own) × (size ≡ 0)

-- the limits of a line after those that were read
abbrev pub LineFits : CallsVersion → ℕ → ℕ → Progress → CallsLine → Type 0
LineFits version ranks shards progress line = (progress.count < MOST_CALLS) × ExpectedFits version ranks shards progress.expected line

-- ---- single words

refused_ok : {A : Type 0} (d : Refusal) (y : A) → ◌≡◌ {A = Result A Refusal} (Err d) (Ok y) → ⊥
refused_ok d y e = cc

passed-takes : (row : Row) (n : ℕ) (why : Why) (b : Bool) (u : Unit {0}) → passed_at row n why b ≡ Ok u → b ≡ true
passed-takes row n why b u e = (test_ok b (refusal_at row n why) tt u e).0

starts-is : (text : List ℕ) (o : Option (List ℕ)) → starts_with_word text o ≡ true → o ≡ Some text
starts-is text None e = absurd cc
starts-is text (Some w) e = ap (λ (v : List ℕ). Some v) ((bytes_eq-Decides w text).0 e)

both_true : (a b : Bool) → (a && b) ≡ true → (a ≡ true) × (b ≡ true)
both_true true b e = (refl, e)
both_true false b e = absurd cc

word-past : (ws : List (List ℕ)) → slice_get ws (length ws) ≡ None
word-past [] = refl
word-past (w ∷ ws) = word-past ws

-- ---- a call, and nothing after it

own_call-takes : (shards : ℕ) (row : Row) (call : Call) → own_call_at shards row ≡ Ok call → CallFits shards call × (rest_from row 2 ≡ call_words call)
unfolding own_call_at
own_call-takes shards row call e =
    from_bind (call_at shards row 2) (λ call. no_word_at row call.1 >>= λ alone. Ok call.0) call e (λ read d more.
    from_bind (no_word_at row read.1) (λ alone. Ok read.0) call more (λ alone n last.
    let t = call-takes shards row 2 read (omega arith) d in
    let none : rest_from row read.1 ≡ [] = words-nil (words row) (read.1 - 1) (no_word-takes row read.1 alone n) in
    let all : rest_from row 2 ≡ call_words read.0 = t.words_are ∙ ap (λ (ws : List (List ℕ)). call_words read.0 ++ ws) none ∙ append-nil (call_words read.0) in
    subst (λ (c : Call). CallFits shards c × (rest_from row 2 ≡ call_words c)) (ok_is read.0 call last) (t.fits, all)))

own_call-again : (shards rank : ℕ) (row : Row) (call : Call) → shards < 2 ^ 32 → words row ≡ line_words rank call → CallFits shards call → own_call_at shards row ≡ Ok call
unfolding own_call_at
own_call-again shards rank row call small e fits =
    let rest : rest_from row 2 ≡ call_words call ++ [] = rw (e, append-nil (call_words call)) refl in
    let read = call-again shards row 2 call [] (omega arith) small fits rest in
    let place : 2 + length (call_words call) - 1 ≡ suc (length (call_words call)) = omega arith in
    let none : word_at row (2 + length (call_words call)) ≡ None = rw (place, e) (word-past (call_words call)) in
    rw (read, no_word-again row (2 + length (call_words call)) none) refl

-- a rank and its call are all words of the line
all_words : (row : Row) (rank : ℕ) (call : Call) → word_at row 1 ≡ Some (decimal rank) → rest_from row 2 ≡ call_words call → words row ≡ line_words rank call
all_words row rank call w rest = rest_from-word row 1 2 (decimal rank) (omega arith) refl w ∙ ap (λ (ws : List (List ℕ)). decimal rank ∷ ws) rest

-- ---- a call alone, or the line of a batch

size-takes : (row : Row) (size : ℕ) → size_at row ≡ Ok size → IsNumberAt row 3 size × (2 ≤ size) × (size ≤ MOST_IN_BATCH) × (word_at row 4 ≡ None)
unfolding size_at
size-takes row size e =
    from_bind (between_at row 3 2 MOST_IN_BATCH) (λ size. no_word_at row 4 >>= λ alone. Ok size) size e (λ n b more.
    from_bind (no_word_at row 4) (λ alone. Ok n) size more (λ alone a last.
    let t = between-takes row 3 2 MOST_IN_BATCH n b in
    subst (λ (k : ℕ). IsNumberAt row 3 k × (2 ≤ k) × (k ≤ MOST_IN_BATCH) × (word_at row 4 ≡ None)) (ok_is n size last) (t.0, t.1, t.2, no_word-takes row 4 alone a)))

block-takes : (version : CallsVersion) (ranks shards : ℕ) (row : Row) (line : CallsLine) → block_at version ranks shards row ≡ Ok line → (words row ≡ words_of line) × ExpectedFits version ranks shards NewBlock line
unfolding block_at
block-takes version ranks shards row line e =
    let batch : Bool = has_batches version && starts_with_word (codes "batch") (word_at row 2) in
    from_bind (below_at row 1 ranks) (λ rank. cond batch (size_at row >>= λ size. Ok (Batch rank size)) (own_call_at shards row >>= λ call. Ok (Asks rank call 1))) line e (λ rank r rest.
    let rt = below-takes row 1 ranks rank r in
    elim (chosen batch (size_at row >>= λ size. Ok (Batch rank size)) (own_call_at shards row >>= λ call. Ok (Asks rank call 1)) (Ok line) rest) [
      | inl p ↦ from_bind (size_at row) (λ size. Ok (Batch rank size)) line p.1 (λ size s last.
          let both = both_true (has_batches version) (starts_with_word (codes "batch") (word_at row 2)) p.0 in
          let st = size-takes row size s in
          let all : words row ≡ batch_words rank size =
          words-cons (words row) 0 _ _ rt.0.word (words-cons (words row) 1 _ _ (starts-is (codes "batch") (word_at row 2) both.1)
          (words-cons (words row) 2 _ _ st.0.word (words-nil (words row) 3 st.3))) in
          subst (λ (l : CallsLine). (words row ≡ words_of l) × ExpectedFits version ranks shards NewBlock l) (ok_is (Batch rank size) line last)
          (all, (is_two version both.0, rt.1, st.1, st.2)))
      | inr p ↦ from_bind (own_call_at shards row) (λ call. Ok (Asks rank call 1)) line p.1 (λ call c last.
          let ct = own_call-takes shards row call c in
          subst (λ (l : CallsLine). (words row ≡ words_of l) × ExpectedFits version ranks shards NewBlock l) (ok_is (Asks rank call 1) line last)
          (all_words row rank call rt.0.word ct.1, (rt.1, ct.0, refl)))
    ])
  where
    is_two : (version : CallsVersion) → has_batches version ≡ true → version ≡ Two
    is_two One e = absurd cc
    is_two Two e = refl

-- no call is named as a batch
no_batch : (call : Call) → starts_with_word (codes "batch") (slice_get (call_words call) 0) ≡ false
no_batch (Put key value) = refl
no_batch (Get key) = refl
no_batch (Del key) = refl
no_batch (Add key by) = refl
no_batch (Cas key old new) = refl
no_batch (Hold shard) = refl

and_false : (a b : Bool) → b ≡ false → (a && b) ≡ false
and_false true b e = e
and_false false b e = refl

block-again : (version : CallsVersion) (ranks shards : ℕ) (row : Row) (line : CallsLine) → ranks < 2 ^ 32 → shards < 2 ^ 32 → words row ≡ words_of line → ExpectedFits version ranks shards NewBlock line → block_at version ranks shards row ≡ Ok line
unfolding block_at size_at
block-again version ranks shards row (Batch rank size) few small e fits =
    rw (
      below-again row 1 ranks rank (record { word = rw e refl; fits = omega (arith, fits.1) }) fits.1,
      fits.0,
      e,
      between-again row 3 2 MOST_IN_BATCH size (record { word = rw e refl; fits = omega (arith, fits.3) }) fits.2 fits.3,
      no_word-again row 4 (rw e refl),
    ) refl
block-again version ranks shards row (Asks rank call size) few small e fits =
    let second : word_at row 2 ≡ slice_get (call_words call) 0 = rw e refl in
    let alone : (has_batches version && starts_with_word (codes "batch") (word_at row 2)) ≡ false = and_false (has_batches version) _ (rw second (no_batch call)) in
    rw (
      below-again row 1 ranks rank (record { word = rw e refl; fits = omega (arith, fits.0) }) fits.0,
      alone,
      own_call-again shards rank row call small e fits.1,
      fits.2,
    ) refl

-- ---- a call of a batch

key_of : Call → ℕ
key_of (Put key value) = key
key_of (Get key) = key
key_of (Del key) = key
key_of (Add key by) = key
key_of (Cas key old new) = key
key_of (Hold shard) = 0

-- what an update begins with
record BeginsUpdate (shards : ℕ) (call : Call) : Type 0 where
  name : List ℕ
  named : slice_get (call_words call) 0 ≡ Some name
  update : names_update name ≡ true
  keyed : slice_get (call_words call) 1 ≡ Some (decimal (key_of call))
  fits : key_of call < 2 ^ 64
  shard_is : shard_among shards call ≡ key_of call % shards

begins_update : (shards : ℕ) (call : Call) → is_update call ≡ true → CallFits shards call → BeginsUpdate shards call
unfolding key_of
begins_update shards (Put key value) e fits = record { name = codes "put"; named = refl; update = refl; keyed = refl; fits = fits.0; shard_is = refl }
begins_update shards (Get key) e fits = absurd cc
begins_update shards (Del key) e fits = record { name = codes "del"; named = refl; update = refl; keyed = refl; fits = fits; shard_is = refl }
begins_update shards (Add key by) e fits = record { name = codes "add"; named = refl; update = refl; keyed = refl; fits = fits.0; shard_is = refl }
begins_update shards (Cas key old new) e fits = record { name = codes "cas"; named = refl; update = refl; keyed = refl; fits = fits.0; shard_is = refl }
begins_update shards (Hold shard) e fits = absurd cc

named_update : (call : Call) (name : List ℕ) → slice_get (call_words call) 0 ≡ Some name → names_update name ≡ true → is_update call ≡ true
named_update (Put key value) name e n = refl
named_update (Get key) name e n =
    let same : codes "get" ≡ name = cc in
    let no : names_update (codes "get") ≡ true = ap names_update same ∙ n in
    absurd cc
named_update (Del key) name e n = refl
named_update (Add key by) name e n = refl
named_update (Cas key old new) name e n = refl
named_update (Hold shard) name e n =
    let same : codes "hold" ≡ name = cc in
    let no : names_update (codes "hold") ≡ true = ap names_update same ∙ n in
    absurd cc

-- the shard that a call of a batch is of, where the batch has one
abbrev OfShard : ℕ → Option ℕ → Call → Type 0
OfShard shards None call = Unit {0}
OfShard shards (Some shard) call = shard_among shards call ≡ shard

part-takes : (ranks shards rank : ℕ) (shard : Option ℕ) (row : Row) (call : Call) → part_at ranks shards rank shard row ≡ Ok call
    → (words row ≡ line_words rank call) × PartFits ranks shards rank call × OfShard shards shard call
unfolding part_at
part-takes ranks shards rank shard row call e =
    from_bind (below_at row 1 ranks) _ call e (λ there r e1.
    from_bind (passed_at row 1 Order (eqb there rank)) _ call e1 (λ own o e2.
    from_bind (needed_at row 2) _ call e2 (λ name n e3.
    from_bind (passed_at row 2 Word (names_update name)) _ call e3 (λ update u e4.
    from_bind (number_at row 3) _ call e4 (λ key k e5.
    from_bind (passed_at row 3 Range (is_of_shard shards shard key)) _ call e5 (λ here h e6.
    let rt = below-takes row 1 ranks there r in
    let same : there ≡ rank = eqb-true there rank (passed-takes row 1 Order (eqb there rank) own o) in
    let ct = own_call-takes shards row call e6 in
    let first : slice_get (call_words call) 0 ≡ Some name = sym (word_at-rest row 2 2 0 (call_words call) (omega arith) (omega arith) ct.1) ∙ needed-takes row 2 name n in
    let is : is_update call ≡ true = named_update call name first (passed-takes row 2 Word (names_update name) update u) in
    let b = begins_update shards call is ct.0 in
    let read : number_at row 3 ≡ Ok (key_of call) = number-again row 3 (key_of call) (record { word = word_at-rest row 2 3 1 (call_words call) (omega arith) (omega arith) ct.1 ∙ b.keyed; fits = b.fits }) in
    let key_is : key ≡ key_of call = ok_is key (key_of call) (sym k ∙ read) in
    let w : word_at row 1 ≡ Some (decimal rank) = rt.0.word ∙ ap (λ (m : ℕ). Some (decimal m)) same in (
      all_words row rank call w ct.1,
      record { there = rw (← same) rt.1; fits = ct.0; update = is },
      of_shard key shard (b.shard_is ∙ ap (λ (m : ℕ). m % shards) (sym key_is)) (passed-takes row 3 Range (is_of_shard shards shard key) here h),
    )))))))
  where
    of_shard : (m : ℕ) (shard : Option ℕ) → shard_among shards call ≡ m % shards → is_of_shard shards shard m ≡ true → OfShard shards shard call
    of_shard m None e h = tt
    of_shard m (Some s) e h = e ∙ eqb-true _ s h

part-again : (ranks shards rank : ℕ) (shard : Option ℕ) (row : Row) (call : Call) → ranks < 2 ^ 32 → shards < 2 ^ 32 → words row ≡ line_words rank call → PartFits ranks shards rank call → OfShard shards shard call
    → part_at ranks shards rank shard row ≡ Ok call
unfolding part_at
part-again ranks shards rank shard row call few small e fits of =
    let b = begins_update shards call fits.update fits.fits in
    let second : word_at row 2 ≡ Some b.name = rw e b.named in
    let third : word_at row 3 ≡ Some (decimal (key_of call)) = rw e b.keyed in
    rw (
      below-again row 1 ranks rank (record { word = rw e refl; fits = omega (arith, fits.there) }) fits.there,
      eq-eqb rank rank refl,
      needed-again row 2 b.name second,
      b.update,
      number-again row 3 (key_of call) (record { word = third; fits = b.fits }),
      of_shard (key_of call) shard b.shard_is of,
    ) (own_call-again shards rank row call small e fits.fits)
  where
    of_shard : (m : ℕ) (shard : Option ℕ) → shard_among shards call ≡ m % shards → OfShard shards shard call → is_of_shard shards shard m ≡ true
    of_shard m None e h = refl
    of_shard m (Some s) e h = eq-eqb (m % shards) s (sym e ∙ h)

-- ---- a line where something is expected

expected-takes : (version : CallsVersion) (ranks shards : ℕ) (expected : Expected) (row : Row) (line : CallsLine) → expected_at version ranks shards expected row ≡ Ok line → (words row ≡ words_of line) × ExpectedFits version ranks shards expected line
unfolding expected_at
expected-takes version ranks shards NewBlock row line e = block-takes version ranks shards row line e
expected-takes version ranks shards (FirstCall rank size) row line e =
    from_bind (part_at ranks shards rank None row) (λ call. Ok (Asks rank call size)) line e (λ call c last.
    let t = part-takes ranks shards rank None row call c in
    subst (λ (l : CallsLine). (words row ≡ words_of l) × ExpectedFits version ranks shards (FirstCall rank size) l) (ok_is (Asks rank call size) line last) (t.0, (t.1, refl, refl)))
expected-takes version ranks shards (FurtherCall rank left shard) row line e =
    from_bind (part_at ranks shards rank (Some shard) row) (λ call. Ok (Asks rank call 0)) line e (λ call c last.
    let t = part-takes ranks shards rank (Some shard) row call c in
    subst (λ (l : CallsLine). (words row ≡ words_of l) × ExpectedFits version ranks shards (FurtherCall rank left shard) l) (ok_is (Asks rank call 0) line last) (t.0, (t.1, t.2, refl, refl)))

expected-again : (version : CallsVersion) (ranks shards : ℕ) (expected : Expected) (row : Row) (line : CallsLine) → ranks < 2 ^ 32 → shards < 2 ^ 32 → words row ≡ words_of line → ExpectedFits version ranks shards expected line
    → expected_at version ranks shards expected row ≡ Ok line
unfolding expected_at
expected-again version ranks shards NewBlock row line few small e fits = block-again version ranks shards row line few small e fits
expected-again version ranks shards (FirstCall own n) row (Batch rank size) few small e fits = absurd fits
expected-again version ranks shards (FirstCall own n) row (Asks rank call size) few small e fits =
    let w : words row ≡ line_words own call = e ∙ ap (λ (r : ℕ). line_words r call) fits.1 in
    rw (part-again ranks shards own None row call few small w fits.0 tt, fits.1, fits.2) refl
expected-again version ranks shards (FurtherCall own left shard) row (Batch rank size) few small e fits = absurd fits
expected-again version ranks shards (FurtherCall own left shard) row (Asks rank call size) few small e fits =
    let w : words row ≡ line_words own call = e ∙ ap (λ (r : ℕ). line_words r call) fits.2 in
    rw (part-again ranks shards own (Some shard) row call few small w fits.0 fits.1, fits.2, fits.3) refl

-- ---- a line after those that were read

after-takes : (version : CallsVersion) (ranks shards : ℕ) (progress : Progress) (row : Row) (line : CallsLine) → line_after version ranks shards progress row ≡ Ok line → (words row ≡ words_of line) × LineFits version ranks shards progress line
unfolding line_after
after-takes version ranks shards progress row line e =
    elim (chosen (nat_lt progress.count MOST_CALLS) (expected_at version ranks shards progress.expected row) (Err (one_too_many progress.expected row)) (Ok line) e) [
      | inl p ↦ let t = expected-takes version ranks shards progress.expected row line p.1 in (t.0, (ltb-true progress.count MOST_CALLS p.0, t.1))
      | inr p ↦ absurd (refused_ok (one_too_many progress.expected row) line p.1)
    ]

after-again : (version : CallsVersion) (ranks shards : ℕ) (progress : Progress) (row : Row) (line : CallsLine) → ranks < 2 ^ 32 → shards < 2 ^ 32 → words row ≡ words_of line → LineFits version ranks shards progress line
    → line_after version ranks shards progress row ≡ Ok line
unfolding line_after
after-again version ranks shards progress row line few small e fits =
    rw (lt-ltb progress.count MOST_CALLS fits.0) (expected-again version ranks shards progress.expected row line few small e fits.1)

-- a line that fits has a rank that is there, and plain words
record Fits (ranks shards : ℕ) (line : CallsLine) : Type 0 where
  there : IsLineOf ranks line
  plain : shards < 2 ^ 32 → ranks < 2 ^ 32 → IsPlain (words_of line)

line-fits : (version : CallsVersion) (ranks shards : ℕ) (expected : Expected) (line : CallsLine) → ExpectedFits version ranks shards expected line → Fits ranks shards line
line-fits version ranks shards NewBlock (Batch rank size) fits = record {
  there = fits.1;
  plain = λ small few. (omega arith, (plain-decimal rank (omega (arith, fits.1)), (refl, (plain-decimal size (omega (arith, fits.3)), tt))));
}
line-fits version ranks shards NewBlock (Asks rank call size) fits = record {
  there = fits.0;
  plain = λ small few. (omega arith, (plain-decimal rank (omega (arith, fits.0)), call-plain shards call small fits.1));
}
line-fits version ranks shards (FirstCall own n) (Batch rank size) fits = absurd fits
line-fits version ranks shards (FirstCall own n) (Asks rank call size) fits = record {
  there = omega (arith, fits.0.there, fits.1);
  plain = λ small few. (omega arith, (plain-decimal rank (omega (arith, fits.0.there, fits.1)), call-plain shards call small fits.0.fits));
}
line-fits version ranks shards (FurtherCall own left shard) (Batch rank size) fits = absurd fits
line-fits version ranks shards (FurtherCall own left shard) (Asks rank call size) fits = record {
  there = omega (arith, fits.0.there, fits.2);
  plain = λ small few. (omega arith, (plain-decimal rank (omega (arith, fits.0.there, fits.2)), call-plain shards call small fits.0.fits));
}

small_rank : (ranks : ℕ) (line : CallsLine) → ranks < 2 ^ 32 → IsLineOf ranks line → IsLineOf (2 ^ 64) line
small_rank ranks (Batch rank size) few there = omega (arith, there)
small_rank ranks (Asks rank call size) few there = omega (arith, there)

-- a line that begins with a number is not the last
line-no_end : (row : Row) (line : CallsLine) → IsLineOf (2 ^ 64) line → words row ≡ words_of line → begins row (codes "end") ≡ false
line-no_end row (Batch rank size) small e = begins-is row (decimal rank) (codes "end") (rw e refl) ∙ decimal-no_word rank (codes "end") small (lit≤ tt)
line-no_end row (Asks rank call size) small e = begins-is row (decimal rank) (codes "end") (rw e refl) ∙ decimal-no_word rank (codes "end") small (lit≤ tt)

pub line_laws : (version : CallsVersion) (ranks shards : ℕ) → ranks < 2 ^ 32 → shards < 2 ^ 32 → ItemLaws (calls_items version ranks shards) words_of (LineFits version ranks shards)
line_laws version ranks shards few small = record {
  takes = after-takes version ranks shards;
  again = λ progress row line e fits. after-again version ranks shards progress row line few small e fits;
  plain = λ progress line fits. (line-fits version ranks shards progress.expected line fits.1).plain small few;
  no_end = λ progress row line e fits. line-no_end row line (small_rank ranks line few (line-fits version ranks shards progress.expected line fits.1).there) e;
}

-- the rank of a line that was read is there, and there was room for a call
pub read-fits : (version : CallsVersion) (ranks shards : ℕ) (progress : Progress) (row : Row) (line : CallsLine) → line_after version ranks shards progress row ≡ Ok line → IsLineOf ranks line × (progress.count < MOST_CALLS)
read-fits version ranks shards progress row line e =
    let t = after-takes version ranks shards progress row line e in
    ((line-fits version ranks shards progress.expected line t.1.1).there, t.1.0)
