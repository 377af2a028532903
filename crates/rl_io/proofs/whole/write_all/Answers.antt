use Rattle.std.proofs.Common.{arith, length, ◌+◌, ◌-◌, ◌∙◌, drop}
use Rattle.std.proofs.lemmas.List.{length-take, length-drop}
use Rattle.rl_io.proofs.OutsideLemmas.{Appends-then, front_more, GoesOn-then, GoesOn-more}
use Rattle.rl_io.proofs.whole.write_all.Goals as goal

pub loop-at-preserved : goal.loop-at-preserved
loop-at-preserved g c =
    let text = c.args.text.now in
    record {
      within = omega (arith, c.in_ok-at.ensures.count, length-take (length text - c.loop-at.at) (drop c.loop-at.at text), length-drop c.loop-at.at text);
      so_far = rw front_more (Appends-then _ _ _ _ _ c.loop-at.invariant.so_far c.in_ok-at.ensures.appends);
      goes_on = GoesOn-then g.K.Sink.tells_on _ _ _ _ _ c.loop-at.invariant.goes_on c.in_ok-at.ensures.goes_on;
      quiet = c.in_ok-at.ensures.quiet ∙ c.loop-at.invariant.quiet;
    }

pub returns-in_err-at-clause-goes_on : goal.returns-in_err-at-clause-goes_on
returns-in_err-at-clause-goes_on g c =
    GoesOn-more g.K.Sink.tells_on g.met.K.Sink.fewer _ _ (c.loop-at.at + 0) _ (omega (arith, c.loop-at.invariant.within)) (GoesOn-then g.K.Sink.tells_on _ _ _ _ _ c.loop-at.invariant.goes_on c.in_err-at.ensures.still)
