use Rattle.std.proofs.Common.{◌∙◌, sym, subst, ℕ, []}
use Rattle.rl_step.specs.Do.{do_got}
use Rattle.rl_step.specs.declared.events.Standing.TheVariants.{Writer}
use Rattle.rl_work.specs.Work.{WorkTurned, CanTurn, work_after}
use Rattle.rl_work.specs.WorkGood.{standing_after}
use Rattle.table_tests.specs.OneRank.{IsAlone}
use Rattle.table_tests.proofs.AloneLaws.{names, can, turns, stepped}
use Rattle.table_tests.proofs.blocks.step.Goals as goal

pub next-requires-clause-can : goal.next-requires-clause-can
next-requires-clause-can c = names c.args.geom c.args.room c.args.words.now c.args.work.now c.requires.alone c.requires.fits c.requires.few

pub made-got-requires-clause-can : goal.made-got-requires-clause-can
made-got-requires-clause-can c = can c.args.geom c.args.room c.args.words.now c.args.work.now c.requires.alone c.in-Some.atom (sym c.next.ensures ∙ c.in-Some.is)

pub turn-requires-clause-can : goal.turn-requires-clause-can
turn-requires-clause-can c =
    subst (λ g. CanTurn c.args.geom c.args.work.now g c.args.work.now.stage) (sym c.made-got.ensures.got)
    (turns c.args.geom c.args.room c.args.words.now c.args.work.now c.requires.alone c.requires.fits c.requires.few c.in-Some.atom (sym c.next.ensures ∙ c.in-Some.is))

pub returns : goal.returns
returns c =
    let x = c.args.work.now in
    let on : ℕ → WorkTurned = λ g. work_after c.args.geom 0 0 x g in
    let good = stepped c.args.geom c.args.room c.args.words.now x c.requires.alone c.in-Some.atom (sym c.next.ensures ∙ c.in-Some.is) in
    let words = subst (λ ws. IsAlone c.args.geom c.args.room ws (standing_after (on (do_got c.in-Some.atom c.args.words.now [])).over Writer) (on (do_got c.in-Some.atom c.args.words.now [])).work) (sym c.made-got.ensures.words) good in
    let got = subst (λ g. IsAlone c.args.geom c.args.room c.made-got.new.words (standing_after (on g).over Writer) (on g).work) (sym c.made-got.ensures.got) words in
    subst (λ b. IsAlone c.args.geom c.args.room c.made-got.new.words (standing_after b Writer) c.turn.new.self) (sym c.turn.ensures.over)
    (subst (λ w. IsAlone c.args.geom c.args.room c.made-got.new.words (standing_after (on c.made-got.result).over Writer) w) (sym c.turn.ensures.work) got)
