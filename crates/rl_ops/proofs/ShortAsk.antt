-- A line that begins with a rank and a call asks for that call.
use Rattle.std.proofs.Common.{◌≡◌, ℕ, ◌+◌, ◌^◌, ◌<◌, List, ◌∷◌, ◌++◌, length, drop, codes, decimal, Bool, true, false, ◌&&◌, refl, sym, ap, ◌∙◌, append_assoc, arith}
use Rattle.std.specs.List.{join_with_byte}
use Rattle.rl_text.specs.Rows.{Row, Left, rows_from, words}
use Rattle.rl_text.specs.Reading.{begins, next_row}
use Rattle.rl_text.proofs.TextLaws.{row-text}
use Rattle.rl_text.proofs.WordLaws.{words-made, next-again}
use Rattle.rl_model.specs.declared.call.Call.{Call}
use Rattle.rl_model.specs.declared.call.Call.TheVariants.{Put, Get, Del, Add, Cas, Hold}
use Rattle.rl_ops.specs.declared.ops.TheConstants.{MOST_CALLS}
use Rattle.rl_ops.specs.declared.calls_line.CallsVersion.{CallsVersion}
use Rattle.rl_ops.specs.declared.calls_line.CallsVersion.TheVariants.{One}
use Rattle.rl_ops.specs.declared.calls_line.CallsLine.{CallsLine}
use Rattle.rl_ops.specs.declared.calls_line.CallsLine.TheVariants.{Asks}
use Rattle.rl_ops.specs.declared.progress.Progress.{Progress}
use Rattle.rl_ops.specs.declared.progress.Expected.{Expected}
use Rattle.rl_ops.specs.declared.progress.Expected.TheVariants.{NewBlock, FirstCall, FurtherCall}
use Rattle.rl_ops.specs.CallSpelling.{call_words, CallFits}
use Rattle.rl_ops.specs.Ops.{line_words}
use Rattle.rl_ops.specs.OpsReading.{may_end}
use Rattle.rl_ops.specs.NextLine.{IsNextLine}
use Rattle.rl_ops.proofs.LineLaws.{line_laws, LineFits}

-- a rank and a call with a space between them
abbrev pub ask_text : ℕ → Call → List ℕ
ask_text rank call = join_with_byte 32 (line_words rank call)

ask-joined : (rank : ℕ) (call : Call) → ask_text rank call ≡ decimal rank ++ 32 ∷ join_with_byte 32 (call_words call)
ask-joined rank (Put key value) = refl
ask-joined rank (Get key) = refl
ask-joined rank (Del key) = refl
ask-joined rank (Add key by) = refl
ask-joined rank (Cas key old new) = refl
ask-joined rank (Hold shard) = refl

-- the text begins with the line of a rank and a call, after which this is left
pub record BeginsAsk (ranks shards : ℕ) (bytes rest : List ℕ) (rank : ℕ) (call : Call) : Type 0 where
  pub there : rank < ranks
  pub fits : CallFits shards call
  pub text : bytes ≡ ask_text rank call ++ 10 ∷ rest

-- what was found one after the other
pub begins-ask : (ranks shards rank : ℕ) (call : Call) (bytes b c d rest : List ℕ) → rank < ranks → CallFits shards call → bytes ≡ decimal rank ++ b → b ≡ 32 ∷ c → c ≡ join_with_byte 32 (call_words call) ++ d → d ≡ 10 ∷ rest →
    BeginsAsk ranks shards bytes rest rank call
begins-ask ranks shards rank call bytes b c d rest there fits e1 e2 e3 e4 = record {
  there = there;
  fits = fits;
  text = e1 ∙ rw (e2, e3, e4, ask-joined rank call) (sym (append_assoc (decimal rank) (32 ∷ join_with_byte 32 (call_words call)) (10 ∷ rest)));
}

fits-after : (version : CallsVersion) (ranks shards : ℕ) (progress : Progress) (rank : ℕ) (call : Call) → progress.count < MOST_CALLS → progress.expected ≡ NewBlock → rank < ranks → CallFits shards call →
    LineFits version ranks shards progress (Asks rank call 1)
fits-after version ranks shards progress rank call few new there fits = (few, rw new (there, fits, refl))

-- the line as a row
pub ask-rows : (n ranks shards rank : ℕ) (call : Call) (bytes rest : List ℕ) → ranks < 2 ^ 32 → shards < 2 ^ 32 → BeginsAsk ranks shards bytes rest rank call →
    rows_from n bytes ≡ record { number = n; text = ask_text rank call; ended = true } ∷ rows_from (n + 1) rest
ask-rows n ranks shards rank call bytes rest few small h =
    let fits = fits-after One ranks shards (record { count = 0; expected = NewBlock }) rank call (omega arith) refl h.there h.fits in
    ap (rows_from n) h.text ∙ row-text n (line_words rank call) rest ((line_laws One ranks shards few small).plain (record { count = 0; expected = NewBlock }) (Asks rank call 1) fits)

-- the rows after it
pub ask-left : (read ranks shards rank : ℕ) (call : Call) (rows : List Row) (bytes rest : List ℕ) → ranks < 2 ^ 32 → shards < 2 ^ 32 → rows ≡ rows_from (read + 1) bytes → BeginsAsk ranks shards bytes rest rank call →
    drop 1 rows ≡ rows_from (read + 2) rest
ask-left read ranks shards rank call rows bytes rest few small e h =
    let next : read + 1 + 1 ≡ read + 2 = omega arith in
    ap (λ (all : List Row). drop 1 all) (e ∙ ask-rows (read + 1) ranks shards rank call bytes rest few small h) ∙ ap (λ n. rows_from n rest) next

and_false : (a b : Bool) → b ≡ false → (a && b) ≡ false
and_false true b e = e
and_false false b e = refl

-- the line is the next one
pub next-ask : (version : CallsVersion) (ranks shards : ℕ) (progress : Progress) (old new : Left) (rank : ℕ) (call : Call) (bytes rest : List ℕ) → ranks < 2 ^ 32 → shards < 2 ^ 32 → progress.count < MOST_CALLS → progress.expected ≡ NewBlock →
    old.rows ≡ rows_from (old.read + 1) bytes → BeginsAsk ranks shards bytes rest rank call → new.rows ≡ drop 1 old.rows → new.read ≡ old.read + 1 → IsNextLine version ranks shards progress old new (Asks rank call 1)
next-ask version ranks shards progress old new rank call bytes rest few small count expected e h rows read =
    let line : CallsLine = Asks rank call 1 in
    let row : Row = record { number = old.read + 1; text = ask_text rank call; ended = true } in
    let all : old.rows ≡ row ∷ rows_from (old.read + 1 + 1) rest = e ∙ ask-rows (old.read + 1) ranks shards rank call bytes rest few small h in
    let left : new.rows ≡ rows_from (old.read + 1 + 1) rest = rows ∙ ap (λ (all : List Row). drop 1 all) all in
    let whole : old.rows ≡ row ∷ new.rows = all ∙ ap (λ more. row ∷ more) (sym left) in
    let laws = line_laws version ranks shards few small in
    let fits = fits-after version ranks shards progress rank call count expected h.there h.fits in
    let made : words row ≡ line_words rank call = words-made (old.read + 1) (line_words rank call) (laws.plain progress line fits) in
    record {
      row = row;
      next = ap (next_row old.read) whole ∙ next-again old.read row new.rows refl;
      goes_on = and_false (may_end progress.expected) (begins row (codes "end")) (laws.no_end progress row line made fits);
      same = laws.again progress row line made fits;
      read = read;
      fewer = omega (arith, ap (λ (all : List Row). length all) whole);
    }

-- a file may end only where a new block may begin
pub new-block : (expected : Expected) → may_end expected ≡ true → expected ≡ NewBlock
new-block NewBlock e = refl
new-block (FirstCall rank size) e = absurd cc
new-block (FurtherCall rank left shard) e = absurd cc
