use Rattle.std.proofs.Common.{◌≡◌, ◌∙◌, ◌+◌, ◌≤◌, ap, sym, subst, arith, ltb, true, length, List}
use Rattle.std.specs.List.{list_all}
use Rattle.rl_model.specs.declared.entry.Entry.{Entry}
use Rattle.rl_step.specs.declared.events.Standing.TheVariants.{Writer}
use Rattle.table_tests.specs.OneRank.{IsAlone}
use Rattle.table_tests.proofs.AloneLaws.{all_below, begun, may_open}
use Rattle.table_tests.proofs.blocks.begin.Goals as goal

pub returns : goal.returns
returns g c =
    let x = c.args.work.now in
    let items = x.transcript.items in
    let same : c.transcript-entries.result.now ≡ items = c.transcript-entries.ensures in
    let tested : list_all (λ (e : Entry). ltb e.seq c.args.seq) items ≡ true = ap (λ es. list_all (λ (e : Entry). ltb e.seq c.args.seq) es) (sym same) ∙ sym c.are_below.ensures ∙ c.if-not-are_below.false in
    let long = ap (λ (es : List Entry). length es) same in
    let fits : length items + length c.args.calls.now ≤ c.args.room = let some = c.requires.asked.some in omega (arith, c.if-calls-free.false, c.saturating_sub-free.ensures, long) in
    let may = may_open c.args.geom c.args.room c.args.words.now x c.requires.alone c.args.calls.now c.args.seq c.requires.asked c.requires.here (all_below c.args.seq items tested) c.if-seq-gt1000.false fits in
    subst (IsAlone c.args.geom c.args.room c.args.words.now Writer) (sym c.open.ensures) (begun c.args.geom c.args.room c.args.words.now x c.requires.alone c.args.calls.now c.args.seq may)
