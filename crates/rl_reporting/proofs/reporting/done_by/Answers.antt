-- One shard more.
use Rattle.std.proofs.Common.{◌≡◌, ◌<◌, ◌≤◌, ◌+◌, ℕ, List, [], get_or, length, map, slice_get, take, vec_len, Some, Vec, Global, ap, sym, ◌∙◌, arith, rules}
use Rattle.std.proofs.lemmas.Option.{slice_get-get_or}
use Rattle.rl_model.specs.declared.entry.Entry.{Entry}
use Rattle.rl_core.specs.RankGood.{entries_in}
use Rattle.rl_reporting.specs.Lists.{lists_in}
use Rattle.rl_reporting.specs.laws.ReportLaws.{one_more}
use Rattle.rl_reporting.proofs.reporting.done_by.Goals as goal

abbrev counted : ℕ → List (Vec (Vec Entry Global) Global) → ℕ
counted rank told = entries_in (map (λ t. get_or (lists_in t) rank []) told)

-- with this shard's entries, which are among all
more : (c : goal.After-len) → (counted c.args.rank (take (c.loop-transcripts.transcripts-index + 1) c.args.told.now) ≡ c.loop-transcripts.done + c.len.result)
    × (counted c.args.rank (take (c.loop-transcripts.transcripts-index + 1) c.args.told.now) ≤ counted c.args.rank c.args.told.now)
more c =
    let told = c.args.told.now in
    let i = c.loop-transcripts.transcripts-index in
    let ts = c.transcripts-item.result in
    let get : slice_get told i ≡ Some ts = slice_get-get_or told i ts c.loop-transcripts-test.true ∙ ap Some (sym c.transcripts-item.is) in
    let low : c.args.rank < length ts.items = c.requires.there i ts get in
    let has : slice_get ts.items c.args.rank ≡ Some c.index.result.now = slice_get-get_or ts.items c.args.rank c.index.result.now low ∙ ap Some (sym c.index.ensures) in
    let n : vec_len c.index.result.now ≡ length c.index.result.now.items = search rules in
    let both = one_more c.args.rank told i ts c.index.result.now get has in
    (omega (arith, both.0, c.loop-transcripts.invariant, c.len.ensures, n), both.1)

pub overflow_cast-done : goal.overflow_cast-done
overflow_cast-done c = omega (arith, (more c).0, (more c).1, c.requires.few)

pub overflow_add-done : goal.overflow_add-done
overflow_add-done c = omega (arith, (more c).0, (more c).1, c.requires.few)

pub loop-transcripts-preserved : goal.loop-transcripts-preserved
loop-transcripts-preserved c = sym (more c).0
