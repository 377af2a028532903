-- The lines of entries: what is read is spelled so, and what is spelled so is read.
use Rattle.std.proofs.Common.{◌≡◌, ℕ, zero, suc, ◌+◌, ◌^◌, ◌<◌, ◌≤◌, List, [], ◌∷◌, ◌++◌, length, map, codes, decimal, Ok, refl, sym, ap, subst, ◌∙◌, arith}
use Rattle.std.specs.List.{AllByRecursion}
use Rattle.rl_text.specs.declared.causes.Why.TheVariants.{Word}
use Rattle.rl_text.specs.Rows.{Row, Left, words}
use Rattle.rl_text.specs.Reading.{fixed_at, below_at, next_left}
use Rattle.rl_text.proofs.FromLaws.{from_bind, rest_from, rest_from-word, word_at-rest}
use Rattle.rl_text.proofs.TextLaws.{IsPlain, AllByRecursion-append}
use Rattle.rl_text.proofs.WordLaws.{ok_is, fixed-takes, fixed-again, below-takes, below-again, plain-decimal}
use Rattle.rl_text.proofs.SectionLaws.{Followed, Followed-head, line-takes, line-again, line_then, left_of}
use Rattle.rl_model.specs.declared.entry.Entry.{Entry}
use Rattle.rl_ops.specs.CallSpelling.{call_words, SpellsCall}
use Rattle.rl_ops.specs.CallReading.{call_at}
use Rattle.rl_ops.proofs.CallLaws.{call-takes, call-again, call-plain}
use Rattle.rl_place.proofs.SettingLaws.{ReadsTo}
use Rattle.rl_report.specs.declared.version.Version.{Version}
use Rattle.rl_report.specs.declared.version.Version.TheVariants.{First}
use Rattle.rl_report.specs.Naming.{TheNaming}
use Rattle.rl_report.specs.Reports.{EntryFits, IsOldEntry}
use Rattle.rl_report.specs.Spelling.{reply_words, part_words, answer_words, entry_words}
use Rattle.rl_report.specs.Reading.{reply_at, part_at, entry_at, entries_next}
use Rattle.rl_report.proofs.WordsLaws.{rest-after}
use Rattle.rl_report.proofs.ReplyLaws.{ReplyTaken, reply-takes, reply-again, reply-plain, PartTaken, part-takes, part-again, part-plain}

-- ---- one line

pub record EntryTaken (naming : TheNaming) (version : Version) (shard : ℕ) (row : Row) (e : Entry) : Type 0 where
  pub are : words row ≡ entry_words e
  pub fits : EntryFits naming shard e
  pub old : version ≡ First → IsOldEntry e

pub entry-takes : (naming : TheNaming) (version : Version) (shard : ℕ) (row : Row) (e : Entry) → entry_at naming version shard row ≡ Ok e → EntryTaken naming version shard row e
unfolding entry_at
entry-takes naming version shard row e read =
    from_bind (fixed_at row 1 (codes "entry") Word) _ e read (λ u1 named e1.
    from_bind (below_at row 2 20001) _ e e1 (λ at at_read e2.
    from_bind (below_at row 3 naming.ranks) _ e e2 (λ rank rank_read e3.
    from_bind (below_at row 4 20000) _ e e3 (λ seq seq_read e4.
    from_bind (call_at naming.shards row 5) _ e e4 (λ call call_read e5.
    from_bind (fixed_at row call.1 (codes "=") Word) _ e e5 (λ u2 equals e6.
    from_bind (reply_at version row (call.1 + 1)) _ e e6 (λ answer answer_read e7.
    from_bind (part_at version row answer.1) _ e e7 (λ part part_read e8.
    let a = below-takes row 2 20001 at at_read in
    let r = below-takes row 3 naming.ranks rank rank_read in
    let s = below-takes row 4 20000 seq seq_read in
    let c : SpellsCall naming.shards row 5 call.0 call.1 = call-takes naming.shards row 5 call (omega arith) call_read in
    let beyond : 1 ≤ call.1 = omega (arith, c.after_is) in
    let t : ReplyTaken version row (call.1 + 1) answer = reply-takes version row (call.1 + 1) (omega arith) answer answer_read in
    let p : PartTaken version row answer.1 part = part-takes row answer.1 (let h = t.after in omega arith) version part part_read in
    let made : Entry = record { shard = shard; rank = rank; seq = seq; call = call.0; at = at; reply = answer.0; batch = part.0; part = part.1 } in
    let answered : rest_from row (call.1 + 1) ≡ reply_words answer.0 ++ part_words part.0 part.1 = t.are ∙ ap (λ (ws : List (List ℕ)). reply_words answer.0 ++ ws) p.are in
    let after_call : rest_from row call.1 ≡ codes "=" ∷ (reply_words answer.0 ++ part_words part.0 part.1) =
    rest_from-word row call.1 (call.1 + 1) (codes "=") beyond refl (fixed-takes row call.1 (codes "=") Word u2 equals) ∙ ap (λ (ws : List (List ℕ)). codes "=" ∷ ws) answered in
    let from_call : rest_from row 5 ≡ answer_words made = c.words_are ∙ ap (λ (ws : List (List ℕ)). call_words call.0 ++ ws) after_call in
    let all : words row ≡ entry_words made =
    rest_from-word row 1 2 (codes "entry") (omega arith) refl (fixed-takes row 1 (codes "entry") Word u1 named)
    ∙ ap (λ (ws : List (List ℕ)). codes "entry" ∷ ws) (rest_from-word row 2 3 (decimal at) (omega arith) refl a.0.word
    ∙ ap (λ (ws : List (List ℕ)). decimal at ∷ ws) (rest_from-word row 3 4 (decimal rank) (omega arith) refl r.0.word
    ∙ ap (λ (ws : List (List ℕ)). decimal rank ∷ ws) (rest_from-word row 4 5 (decimal seq) (omega arith) refl s.0.word
    ∙ ap (λ (ws : List (List ℕ)). decimal seq ∷ ws) from_call))) in
    subst (λ (d : Entry). EntryTaken naming version shard row d) (ok_is made e e8) (record {
      are = all;
      fits = record { shard_is = refl; low_place = omega (arith, a.1); rank_there = r.1; low_number = s.1; call = c.fits; reply = t.fits; part = p.fits };
      old = λ first. record { alone = p.old first; not_undone = t.old first };
    })))))))))

pub entry-again : (naming : TheNaming) (version : Version) (shard : ℕ) (row : Row) (e : Entry) → naming.ranks < 2 ^ 32 → naming.shards < 2 ^ 32 → EntryFits naming shard e → (version ≡ First → IsOldEntry e) → words row ≡ entry_words e
    → entry_at naming version shard row ≡ Ok e
unfolding entry_at
entry-again naming version shard row e ranks shards fits old is =
    let calls : ℕ = length (call_words e.call) in
    let from_call : rest_from row 5 ≡ answer_words e = rw (is) refl in
    let call = call-again naming.shards row 5 e.call (codes "=" ∷ (reply_words e.reply ++ part_words e.batch e.part)) (omega arith) shards fits.call from_call in
    let after_call : rest_from row (5 + calls) ≡ codes "=" ∷ (reply_words e.reply ++ part_words e.batch e.part) = rest-after row 5 (5 + calls) (call_words e.call) _ (omega arith) refl from_call in
    let equals = fixed-again row (5 + calls) (codes "=") Word (word_at-rest row (5 + calls) (5 + calls) 0 _ (omega arith) (omega arith) after_call) in
    let answered : rest_from row (5 + calls + 1) ≡ reply_words e.reply ++ part_words e.batch e.part = rest-after row (5 + calls) (5 + calls + 1) (codes "=" ∷ []) _ (omega arith) refl after_call in
    let answer = reply-again version row (5 + calls + 1) (omega arith) e.reply (part_words e.batch e.part) fits.reply (λ first. (old first).not_undone) answered in
    let ended : rest_from row (5 + calls + 1 + length (reply_words e.reply)) ≡ part_words e.batch e.part = rest-after row (5 + calls + 1) (5 + calls + 1 + length (reply_words e.reply)) (reply_words e.reply) _ (omega arith) refl answered in
    let part = part-again row (5 + calls + 1 + length (reply_words e.reply)) (omega arith) version e.batch e.part fits.part (λ first. (old first).alone) ended in
    rw (
      fixed-again row 1 (codes "entry") Word (rw is refl),
      below-again row 2 20001 e.at (record { word = rw is refl; fits = let h = fits.low_place in omega arith }) (let h = fits.low_place in omega arith),
      below-again row 3 naming.ranks e.rank (record { word = rw is refl; fits = let h = fits.rank_there in omega arith }) fits.rank_there,
      below-again row 4 20000 e.seq (record { word = rw is refl; fits = let h = fits.low_number in omega arith }) fits.low_number,
      call,
      equals,
      answer,
      part,
    ) (ap (λ (d : Entry). Ok d) (same e fits.shard_is))
  where
    same : (e : Entry) → e.shard ≡ shard → ◌≡◌ {A = Entry} (record { shard = shard; rank = e.rank; seq = e.seq; call = e.call; at = e.at; reply = e.reply; batch = e.batch; part = e.part }) e
    same e is = ap (λ s. record { shard = s; rank = e.rank; seq = e.seq; call = e.call; at = e.at; reply = e.reply; batch = e.batch; part = e.part }) (sym is)

pub entry-plain : (naming : TheNaming) (shard : ℕ) (e : Entry) → naming.ranks < 2 ^ 32 → naming.shards < 2 ^ 32 → EntryFits naming shard e → IsPlain (entry_words e)
entry-plain naming shard e ranks shards fits = (
  omega arith,
  (
    refl,
    (
      plain-decimal e.at (let h = fits.low_place in omega arith),
      (
        plain-decimal e.rank (let h = fits.rank_there in omega arith),
        (
          plain-decimal e.seq (let h = fits.low_number in omega arith),
          AllByRecursion-append _ (call_words e.call) _ (call-plain naming.shards e.call shards fits.call) (refl, AllByRecursion-append _ (reply_words e.reply) _ (reply-plain e.reply fits.reply) (part-plain e.batch e.part fits.part)),
        ),
      ),
    ),
  ),
)

-- ---- so many lines

pub record EntriesTaken (naming : TheNaming) (version : Version) (shard n : ℕ) (left : Left) (p : List Entry × Left) : Type 0 where
  pub lines : Followed left.rows (map entry_words p.0) p.1.rows
  pub many : length p.0 ≡ n
  pub fit : AllByRecursion (EntryFits naming shard) p.0
  pub old : version ≡ First → AllByRecursion IsOldEntry p.0

pub entries-take : (naming : TheNaming) (version : Version) (shard n : ℕ) (left : Left) (p : List Entry × Left) → entries_next naming version shard n left ≡ Ok p → EntriesTaken naming version shard n left p
unfolding entries_next
entries-take naming version shard zero left p e = subst (λ (q : List Entry × Left). EntriesTaken naming version shard zero left q) (ok_is ([], left) p e) (record { lines = refl; many = refl; fit = tt; old = λ first. tt })
entries-take naming version shard (suc n) left p e =
    from_bind (next_left left) _ p e (λ line taken e1.
    from_bind (entry_at naming version shard line.0) _ p e1 (λ entry read e2.
    from_bind (entries_next naming version shard n line.1) _ p e2 (λ others more e3.
    let t : EntryTaken naming version shard line.0 entry = entry-takes naming version shard line.0 entry read in
    let m : EntriesTaken naming version shard n line.1 others = entries-take naming version shard n line.1 others more in
    subst (λ (q : List Entry × Left). EntriesTaken naming version shard (suc n) left q) (ok_is (entry ∷ others.0, others.1) p e3) (record {
      lines = line_then left line (entry_words entry) (map entry_words others.0) others.1.rows (line-takes left line taken) t.are m.lines;
      many = ap suc m.many;
      fit = (t.fits, m.fit);
      old = λ first. (t.old first, m.old first);
    }))))

pub entries-again : (naming : TheNaming) (version : Version) (shard n : ℕ) (es : List Entry) (left : Left) (rest : List Row) → naming.ranks < 2 ^ 32 → naming.shards < 2 ^ 32 → length es ≡ n → AllByRecursion (EntryFits naming shard) es
    → (version ≡ First → AllByRecursion IsOldEntry es) → Followed left.rows (map entry_words es) rest → ReadsTo (entries_next naming version shard n left) es rest
unfolding entries_next
entries-again naming version shard zero [] left rest ranks shards many fit old f = (left.read, ap (λ (rows : List Row). Ok ([], left_of rows left.read)) f)
entries-again naming version shard zero (e ∷ es) left rest ranks shards many fit old f = absurd (omega (arith, many))
entries-again naming version shard (suc n) [] left rest ranks shards many fit old f = absurd (omega (arith, many))
entries-again naming version shard (suc n) (e ∷ es) left rest ranks shards many fit old f =
    let h = Followed-head left.rows (entry_words e) (map entry_words es) rest f in
    let good = entry-again naming version shard h.row e ranks shards fit.0 (λ first. (old first).0) h.line.words in
    let more = entries-again naming version shard n es (left_of h.more (left.read + 1)) rest ranks shards (omega (arith, many)) fit.1 (λ first. (old first).1) h.others in
    (more.0, rw (line-again left h.row h.more h.are h.line.ended, good, more.1) refl)

pub entries-plain : (naming : TheNaming) (shard : ℕ) (es : List Entry) → naming.ranks < 2 ^ 32 → naming.shards < 2 ^ 32 → AllByRecursion (EntryFits naming shard) es → AllByRecursion IsPlain (map entry_words es)
entries-plain naming shard [] ranks shards fit = tt
entries-plain naming shard (e ∷ es) ranks shards fit = (entry-plain naming shard e ranks shards fit.0, entries-plain naming shard es ranks shards fit.1)
