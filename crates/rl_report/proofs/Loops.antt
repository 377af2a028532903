-- Sections of lines one after the other, as the loops read them.
use Rattle.std.proofs.Common.{◌≡◌, ℕ, suc, ◌+◌, ◌-◌, ◌<◌, ◌≤◌, Bool, true, false, List, [], ◌∷◌, ◌++◌, length, drop, get_or, codes, None, Result, Ok, Err, refl, sym, ◌∙◌, arith}
use Rattle.std.proofs.lemmas.List.{append-nil, drop_all, drop_more}
use Rattle.rl_text.specs.declared.causes.Refusal.{Refusal}
use Rattle.rl_text.specs.Rows.{Row, Left}
use Rattle.rl_text.specs.declared.failing.TextErr.{TextErr}
use Rattle.rl_text.specs.declared.failing.TextErr.TheVariants.{Refused, Memory}
use Rattle.rl_text.specs.Reading.{◌>>=◌, GivesLeaving, whole, next_left, next_row, next_begins}
use Rattle.rl_place.proofs.Fronts.{with_lines, with_lines-one}
use Rattle.rl_model.specs.declared.entry.Entry.{Entry}
use Rattle.rl_step.specs.declared.tallies.Tally.{Tally}
use Rattle.rl_report.specs.declared.report.Done.{Done}
use Rattle.rl_report.specs.declared.version.Version.{Version}
use Rattle.rl_report.specs.Naming.{TheNaming, TheQueueName}
use Rattle.rl_step.specs.declared.events.Event.{Event}
use Rattle.rl_report.specs.Reports.{TheShard, pair_key, step_of}
use Rattle.rl_report.specs.Reading.{entry_at, entries_next, tally_in_row, tallies_next, done_at, dones_next, pair_at, pairs_next, event_at, events_next, shard_next, shards_next, lines_while}

-- ---- a line, and what comes after it

module _ {X : Type 0} (item : Row → Result X Refusal) (rest : X → Left → Result (List X × Left) Refusal) where
  pub from_line : Row × Left → Result (List X × Left) Refusal
  from_line line = item line.0 >>= λ x. rest x line.1 >>= λ others. Ok (x ∷ others.0, others.1)

  pub no_line : (left : Left) (front : List X) (f : Refusal) (now total : Result (List X × Left) Refusal) → with_lines front now ≡ total → now ≡ (next_left left >>= from_line) → next_left left ≡ Err f → total ≡ Err f
  no_line left front f now total so_far step e = sym so_far ∙ rw (step, e) refl

  pub bad_item : (left after : Left) (row : Row) (front : List X) (f : Refusal) (now total : Result (List X × Left) Refusal)
      → with_lines front now ≡ total → now ≡ (next_left left >>= from_line) → next_left left ≡ Ok (row, after) → item row ≡ Err f → total ≡ Err f
  unfolding from_line
  bad_item left after row front f now total so_far step e bad = sym so_far ∙ rw (step, e, bad) refl

  pub goes_on : (left after : Left) (row : Row) (front : List X) (x : X) (now total : Result (List X × Left) Refusal)
      → with_lines front now ≡ total → now ≡ (next_left left >>= from_line) → next_left left ≡ Ok (row, after) → item row ≡ Ok x → with_lines (front ++ x ∷ []) (rest x after) ≡ total
  unfolding from_line
  goes_on left after row front x now total so_far step e good =
      let one : with_lines front now ≡ with_lines (front ++ x ∷ []) (rest x after) = rw (step, e, good) (with_lines-one front x (rest x after)) in
      sym one ∙ so_far

-- ---- so many lines

pub entries_step : (naming : TheNaming) (version : Version) (shard count i : ℕ) (left : Left) → i < count
    → entries_next naming version shard (count - i) left ≡ (next_left left >>= from_line (entry_at naming version shard) (λ x. entries_next naming version shard (count - (i + 1))))
unfolding entries_next from_line
entries_step naming version shard count i left more =
    let left_over : count - i ≡ suc (count - (i + 1)) = omega arith in
    rw left_over refl

pub entries_end : (naming : TheNaming) (version : Version) (shard count i : ℕ) (left : Left) (front : List Entry) (total : Result (List Entry × Left) Refusal)
    → with_lines front (entries_next naming version shard (count - i) left) ≡ total → count ≤ i → total ≡ Ok (front, left)
unfolding entries_next
entries_end naming version shard count i left front total so_far most =
    let none : count - i ≡ 0 = omega arith in
    sym so_far ∙ rw (none, append-nil front) refl

pub tallies_step : (queues : List TheQueueName) (i : ℕ) (queue : TheQueueName) (left : Left) → i < length queues → queue ≡ get_or queues i queue
    → tallies_next (drop i queues) left ≡ (next_left left >>= from_line (tally_in_row queue) (λ x. tallies_next (drop (i + 1) queues)))
unfolding tallies_next from_line
tallies_step queues i queue left more this = rw (drop_more queues i queue more, sym this) refl

pub tallies_end : (queues : List TheQueueName) (i : ℕ) (left : Left) (front : List Tally) (total : Result (List Tally × Left) Refusal)
    → with_lines front (tallies_next (drop i queues) left) ≡ total → length queues ≤ i → total ≡ Ok (front, left)
unfolding tallies_next
tallies_end queues i left front total so_far most = sym so_far ∙ rw (drop_all i queues most, append-nil front) refl

pub dones_step : (ranks rank : ℕ) (left : Left) → rank < ranks → dones_next rank (ranks - rank) left ≡ (next_left left >>= from_line (done_at rank) (λ x. dones_next (rank + 1) (ranks - (rank + 1))))
unfolding dones_next from_line
dones_step ranks rank left more =
    let left_over : ranks - rank ≡ suc (ranks - (rank + 1)) = omega arith in
    rw left_over refl

pub dones_end : (ranks rank : ℕ) (left : Left) (front : List Done) (total : Result (List Done × Left) Refusal)
    → with_lines front (dones_next rank (ranks - rank) left) ≡ total → ranks ≤ rank → total ≡ Ok (front, left)
unfolding dones_next
dones_end ranks rank left front total so_far most =
    let none : ranks - rank ≡ 0 = omega arith in
    sym so_far ∙ rw (none, append-nil front) refl

-- ---- so many shards

shards_step : (naming : TheNaming) (version : Version) (replay : Bool) (shards i : ℕ) (left : Left) → i < shards
    → shards_next naming version replay i (shards - i) left ≡ (shard_next naming version replay i left >>= λ shard. shards_next naming version replay (i + 1) (shards - (i + 1)) shard.1 >>= λ others. Ok (shard.0 ∷ others.0, others.1))
unfolding shards_next
shards_step naming version replay shards i left more =
    let left_over : shards - i ≡ suc (shards - (i + 1)) = omega arith in
    rw left_over refl

bad_shard : (naming : TheNaming) (version : Version) (replay : Bool) (shards i : ℕ) (left : Left) (front : List TheShard) (f : Refusal) (total : Result (List TheShard × Left) Refusal)
    → with_lines front (shards_next naming version replay i (shards - i) left) ≡ total → i < shards → shard_next naming version replay i left ≡ Err f → total ≡ Err f
bad_shard naming version replay shards i left front f total so_far more bad = sym so_far ∙ rw (shards_step naming version replay shards i left more, bad) refl

pub shard_fails : (naming : TheNaming) (version : Version) (replay : Bool) (shards i : ℕ) (left after : Left) (front : List TheShard) (e : TextErr) (total : Result (List TheShard × Left) Refusal)
    → with_lines front (shards_next naming version replay i (shards - i) left) ≡ total → i < shards → GivesLeaving {X = TheShard} (Err e) after (shard_next naming version replay i left) → GivesLeaving {X = List TheShard} (Err e) after total
shard_fails naming version replay shards i left after front (Refused f) total so_far more bad = bad_shard naming version replay shards i left front f total so_far more bad
shard_fails naming version replay shards i left after front Memory total so_far more bad = tt

pub next_shard : (naming : TheNaming) (version : Version) (replay : Bool) (shards i : ℕ) (left after : Left) (front : List TheShard) (s : TheShard) (total : Result (List TheShard × Left) Refusal)
    → with_lines front (shards_next naming version replay i (shards - i) left) ≡ total → i < shards → shard_next naming version replay i left ≡ Ok (s, after)
    → with_lines (front ++ s ∷ []) (shards_next naming version replay (i + 1) (shards - (i + 1)) after) ≡ total
next_shard naming version replay shards i left after front s total so_far more good =
    let rest = shards_next naming version replay (i + 1) (shards - (i + 1)) after in
    let one : with_lines front (shards_next naming version replay i (shards - i) left) ≡ with_lines (front ++ s ∷ []) rest = rw (shards_step naming version replay shards i left more, good) (with_lines-one front s rest) in
    sym one ∙ so_far

pub shards_end : (naming : TheNaming) (version : Version) (replay : Bool) (shards i : ℕ) (left : Left) (front : List TheShard) (total : Result (List TheShard × Left) Refusal)
    → with_lines front (shards_next naming version replay i (shards - i) left) ≡ total → shards ≤ i → total ≡ Ok (front, left)
unfolding shards_next
shards_end naming version replay shards i left front total so_far most =
    let none : shards - i ≡ 0 = omega arith in
    sym so_far ∙ rw (none, append-nil front) refl

-- ---- lines as long as they begin with a word

module _ {X S : Type 0} (name : List ℕ) (item : S → Row → Result X Refusal) (after : X → S) where
  abbrev pub while_left : S → Left → Result (List X × Left) Refusal
  while_left s left = lines_while name item after s left.read left.rows

  abbrev left_of : List Row → ℕ → Left
  left_of rows read = record { rows = rows; read = read }

  abbrev next_of : ℕ → Row × List Row → Result (Row × Left) Refusal
  next_of read p = Ok (p.0, left_of p.1 (read + 1))

  unwrap : (s : S) (rows : List Row) (read : ℕ) (w : Result Row Refusal)
      → (w >>= λ line. from_line (item s) (λ x. while_left (after x)) (line, left_of rows (read + 1))) ≡ (((w >>= λ there. Ok (there, rows)) >>= next_of read) >>= from_line (item s) (λ x. while_left (after x)))
  unfolding from_line
  unwrap s rows read (Ok line) = refl
  unwrap s rows read (Err f) = refl

  begins-step : (s : S) (rows : List Row) (read : ℕ) → next_begins rows name ≡ true → lines_while name item after s read rows ≡ (next_left (left_of rows read) >>= from_line (item s) (λ x. while_left (after x)))
  unfolding lines_while next_left next_row from_line
  begins-step s [] read comes = absurd (cc)
  begins-step s (row ∷ rows) read comes = rw comes (unwrap s rows read (whole row))

  pub while_step : (s : S) (left : Left) → next_begins left.rows name ≡ true → while_left s left ≡ (next_left left >>= from_line (item s) (λ x. while_left (after x)))
  while_step s left comes = begins-step s left.rows left.read comes

  others-end : (s : S) (rows : List Row) (read : ℕ) → next_begins rows name ≡ false → lines_while name item after s read rows ≡ Ok ([], left_of rows read)
  unfolding lines_while
  others-end s [] read none = refl
  others-end s (row ∷ rows) read none = rw none refl

  pub while_end : (s : S) (left : Left) (front : List X) (total : Result (List X × Left) Refusal) → with_lines front (while_left s left) ≡ total → next_begins left.rows name ≡ false → total ≡ Ok (front, left)
  while_end s left front total so_far none = sym so_far ∙ rw (others-end s left.rows left.read none, append-nil front) refl

-- ---- pairs and events, which only one of the modes has

pub replay-pairs : (replay : Bool) (left : Left) (none : List (ℕ × ℕ)) → replay ≡ true → none ≡ [] → pairs_next replay left ≡ Ok (none, left)
unfolding pairs_next
replay-pairs replay left none is empty = rw (is, empty) refl

pub run-pairs : (replay : Bool) (left : Left) → replay ≡ false → pairs_next replay left ≡ lines_while (codes "pair") pair_at pair_key None left.read left.rows
unfolding pairs_next
run-pairs replay left is = rw is refl

pub run-events : (naming : TheNaming) (replay : Bool) (left : Left) (none : List (ℕ × Event)) → replay ≡ false → none ≡ [] → events_next naming replay left ≡ Ok (none, left)
unfolding events_next
run-events naming replay left none is empty = rw (is, empty) refl

pub replay-events : (naming : TheNaming) (replay : Bool) (left : Left) → replay ≡ true → events_next naming replay left ≡ lines_while (codes "event") (event_at naming) step_of 0 left.read left.rows
unfolding events_next
replay-events naming replay left is = rw is refl
