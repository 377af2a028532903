-- Words that are appended one after the other, each after a space, are a line.
use Rattle.std.proofs.Common.{◌≡◌, ℕ, zero, suc, ◌+◌, ◌<◌, List, [], ◌∷◌, ◌++◌, length, get_or, take, slice_get, codes, decimal, refl, sym, ap, ◌∙◌, append_assoc, add-one, length-take, arith}
use Rattle.std.specs.List.{join_with_byte}
use Rattle.std.proofs.lemmas.Grind.{flat_map-append}
use Rattle.std.proofs.lemmas.List.{append-nil}
use Rattle.rl_text.specs.Spelling.{line_text, text_of}
use Rattle.rl_model.specs.declared.entry.Entry.{Entry}
use Rattle.rl_report.specs.Printing.{spaced}
use Rattle.std.proofs.Math.Seq.{take-suc}
use Rattle.rl_step.specs.declared.tallies.Tally.{Tally}
use Rattle.rl_report.specs.declared.report.Done.{Done}
use Rattle.rl_report.specs.Naming.{TheNaming, TheQueueName}
use Rattle.rl_report.specs.Reports.{TheShard}
use Rattle.rl_report.specs.Spelling.{answer_words, entry_words, queue_words, queue_line, queue_lines, rank_done_words, rank_done_lines, shard_lines, shards_lines}

-- words after the first one
pub join-spaced : (w : List ℕ) (ws : List (List ℕ)) → join_with_byte 32 (w ∷ ws) ≡ w ++ spaced ws
join-spaced w [] = sym (append-nil w)
join-spaced w (v ∷ ws) = ap (λ z. w ++ 32 ∷ z) (join-spaced v ws)

-- a line of an entry
pub entry_line : (e : Entry) → line_text (entry_words e) ≡ (codes "entry" ++ spaced (decimal e.at ∷ decimal e.rank ∷ decimal e.seq ∷ answer_words e)) ++ 10 ∷ []
entry_line e = ap (λ z. z ++ 10 ∷ []) (join-spaced (codes "entry") (decimal e.at ∷ decimal e.rank ∷ decimal e.seq ∷ answer_words e))

-- ---- one line more

text-append : (xs ys : List (List (List ℕ))) → text_of (xs ++ ys) ≡ text_of xs ++ text_of ys
text-append xs ys = flat_map-append line_text xs ys

one_line : (ws : List (List ℕ)) → text_of (ws ∷ []) ≡ line_text ws
one_line ws = append-nil (line_text ws)

ranks-more : (k : ℕ) (ds : List Done) (d : Done) → rank_done_lines k (ds ++ d ∷ []) ≡ rank_done_lines k ds ++ rank_done_words (k + length ds) d ∷ []
ranks-more k [] d = ap (λ n. rank_done_words n d ∷ []) (omega arith)
ranks-more k (e ∷ ds) d = ap (λ z. rank_done_words k e ∷ z) (ranks-more (k + 1) ds d ∙ ap (λ n. rank_done_lines (k + 1) ds ++ rank_done_words n d ∷ []) (omega arith))

pub next_rank : (ds : List Done) (rank : ℕ) (d : Done) → rank < length ds → text_of (rank_done_lines 0 (take (rank + 1) ds)) ≡ text_of (rank_done_lines 0 (take rank ds)) ++ line_text (rank_done_words rank (get_or ds rank d))
next_rank ds rank d there =
    let n : 0 + length (take rank ds) ≡ rank = omega (arith, length-take rank ds) in
    ap (λ n. text_of (rank_done_lines 0 (take n ds))) (add-one rank) ∙ ap (λ z. text_of (rank_done_lines 0 z)) (take-suc ds rank d there)
    ∙ ap text_of (ranks-more 0 (take rank ds) (get_or ds rank d)) ∙ text-append (rank_done_lines 0 (take rank ds)) _
    ∙ ap (λ z. text_of (rank_done_lines 0 (take rank ds)) ++ z) (one_line (rank_done_words (0 + length (take rank ds)) (get_or ds rank d)) ∙ ap (λ k. line_text (rank_done_words k (get_or ds rank d))) n)

shards-more : (naming : TheNaming) (k : ℕ) (ss : List TheShard) (s : TheShard) → shards_lines naming k (ss ++ s ∷ []) ≡ shards_lines naming k ss ++ shard_lines naming (k + length ss) s
shards-more naming k [] s = append-nil (shard_lines naming k s) ∙ ap (λ n. shard_lines naming n s) (omega arith)
shards-more naming k (z ∷ ss) s =
    ap (λ y. shard_lines naming k z ++ y) (shards-more naming (k + 1) ss s ∙ ap (λ n. shards_lines naming (k + 1) ss ++ shard_lines naming n s) (omega arith))
    ∙ sym (append_assoc (shard_lines naming k z) (shards_lines naming (k + 1) ss) (shard_lines naming (k + length (z ∷ ss)) s))

pub next_shard : (naming : TheNaming) (ss : List TheShard) (number : ℕ) (d : TheShard) → number < length ss
    → text_of (shards_lines naming 0 (take (number + 1) ss)) ≡ text_of (shards_lines naming 0 (take number ss)) ++ text_of (shard_lines naming number (get_or ss number d))
next_shard naming ss number d there =
    let n : 0 + length (take number ss) ≡ number = omega (arith, length-take number ss) in
    ap (λ n. text_of (shards_lines naming 0 (take n ss))) (add-one number) ∙ ap (λ z. text_of (shards_lines naming 0 z)) (take-suc ss number d there)
    ∙ ap text_of (shards-more naming 0 (take number ss) (get_or ss number d)) ∙ text-append (shards_lines naming 0 (take number ss)) _
    ∙ ap (λ k. text_of (shards_lines naming 0 (take number ss)) ++ text_of (shard_lines naming k (get_or ss number d))) n

-- the line of a queue, where it has a tally
queues-at : (qs : List TheQueueName) (ts : List Tally) (p : ℕ) (d : TheQueueName) → p < length qs → queue_lines (take (suc p) qs) ts ≡ queue_lines (take p qs) ts ++ queue_line (get_or qs p d) (slice_get ts p)
queues-at [] ts p d there = absurd (omega arith)
queues-at (q ∷ qs) [] zero d there = refl
queues-at (q ∷ qs) [] (suc p) d there = refl
queues-at (q ∷ qs) (t ∷ ts) zero d there = refl
queues-at (q ∷ qs) (t ∷ ts) (suc p) d there = ap (λ z. queue_words q t ∷ z) (queues-at qs ts p d (omega arith))

pub next_queue : (qs : List TheQueueName) (ts : List Tally) (p : ℕ) (d : TheQueueName) → p < length qs
    → text_of (queue_lines (take (p + 1) qs) ts) ≡ text_of (queue_lines (take p qs) ts) ++ text_of (queue_line (get_or qs p d) (slice_get ts p))
next_queue qs ts p d there =
    ap (λ n. text_of (queue_lines (take n qs) ts)) (add-one p) ∙ ap text_of (queues-at qs ts p d there) ∙ text-append (queue_lines (take p qs) ts) (queue_line (get_or qs p d) (slice_get ts p))

-- what was appended so far, and what is appended now
pub onward : (start so_far more whole out new : List ℕ) → out ≡ start ++ so_far → new ≡ out ++ more → whole ≡ so_far ++ more → new ≡ start ++ whole
onward start so_far more whole out new e f g = f ∙ ap (λ z. z ++ more) e ∙ append_assoc start so_far more ∙ ap (λ z. start ++ z) (sym g)

-- several pieces that were appended
pub appended : (o w a r s t n x1 x2 x3 x4 x5 x6 : List ℕ) → x1 ≡ o ++ w → x2 ≡ x1 ++ a → x3 ≡ x2 ++ r → x4 ≡ x3 ++ s → x5 ≡ x4 ++ t → x6 ≡ x5 ++ n → x6 ≡ o ++ ((w ++ (a ++ (r ++ (s ++ t)))) ++ n)
appended o w a r s t n x1 x2 x3 x4 x5 x6 e1 e2 e3 e4 e5 e6 = rw (e6, e5, e4, e3, e2, e1) (simp append_assoc)
