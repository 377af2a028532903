use Rattle.std.proofs.Common.{◌≡◌, ◌++◌, [], ◌∷◌, sym, ap, ◌∙◌}
use Rattle.std.proofs.lemmas.Result.{err_from_is_err_and}
use Rattle.rl_text.specs.LineWords.{TheLineWords, stepped}
use Rattle.rl_sketch.specs.SketchReading.{may_of}
use Rattle.rl_sketch.proofs.RankReading.{no_first-end, end-first, end-more, end-done, bad_rank, next_rank, few-named}
use Rattle.rl_sketch.proofs.ranks_reader.ranks_to_end.Goals as goal

pub returns-in_err-first : goal.returns-in_err-first
returns-in_err-first c =
    let p = err_from_is_err_and c.from_residual.result c.from_residual.ensures.1 in
    rw (p.1, p.2) (no_first-end (may_of c.args.may) c.args.words.now.row _ (rw c.requires at (sym c.in_err-first.ensures.value)))

pub ranks-init : goal.ranks-init
ranks-init c =
    let second : c.args.words.now ≡ record { row = c.args.words.now.row; next = 2 } = ap (λ n. let w : TheLineWords = record { row = c.args.words.now.row; next = n } in w) c.requires in
    let place = c.in_ok-first.ensures.steps ∙ ap stepped second in
    let items = c.in_ok-push.ensures.items ∙ ap (λ l. l ++ c.in_ok-first.first ∷ []) c.new-taken.ensures.items in
    let reading = end-first (may_of c.args.may) c.args.words.now.row _ c.in_ok-first.first place (rw c.requires at (sym c.in_ok-first.ensures.value)) in
    record {
      next = rw items reading.next;
      few = rw items (few-named _ _ reading.named);
      reading = rw items reading;
    }

pub returns-in_err-rank : goal.returns-in_err-rank
returns-in_err-rank c =
    let p = err_from_is_err_and c.from_residual-in_err-rank.result c.from_residual-in_err-rank.ensures.1 in
    let so_far = c.ranks.invariant.reading in
    let more = end-more _ _ _ _ _ _ so_far c.is_more.ensures c.ranks-test.true in
    rw (p.1, p.2) (bad_rank _ _ _ _ _ _ _ _ so_far more (rw c.as_slice.ensures.value at (sym c.in_err-rank.ensures.value)))

pub ranks-preserved : goal.ranks-preserved
ranks-preserved c =
    let so_far = c.ranks.invariant.reading in
    let more = end-more _ _ _ _ _ _ so_far c.is_more.ensures c.ranks-test.true in
    let reading = next_rank _ _ _ _ _ _ _ _ _ so_far more (rw c.as_slice.ensures.value at (sym c.in_ok-rank.ensures.value)) c.in_ok-rank.ensures.steps in
    let items = c.in_ok-push-2.ensures.items in
    record {
      next = rw items reading.next;
      few = rw items (few-named _ _ reading.named);
      reading = rw items reading;
    }

pub returns : goal.returns
returns c = rw c.from_vec.ensures (end-done _ _ _ _ _ _ c.ranks.invariant.reading c.is_more.ensures c.ranks-test.false)
