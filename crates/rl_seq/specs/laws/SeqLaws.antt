-- The work under a sequence lock keeps the laws of a way of working.
use Rattle.std.specs.Prelude.{ℕ, [], refl}
use Rattle.std.proofs.Common.{sym, arith}
use Rattle.std.proofs.lemmas.List.{append-nil}
use Rattle.rl_step.specs.Do.{do_got}
use Rattle.rl_work.specs.Ways.{WorkLaws}
use Rattle.rl_seq.specs.laws.MakeLaws.{makes_at, plain_at, fronts_at}
use Rattle.rl_site.specs.Site.{WaySite}
use Rattle.rl_seq.specs.SeqGood.{SeqGood}
use Rattle.rl_seq.specs.SeqWork.{seq_table}
use Rattle.rl_seq.specs.laws.StateLaws as state
use Rattle.rl_seq.specs.laws.StepLaws as step

pub seq_laws : (at : WaySite) (home : ℕ) → WorkLaws (seq_table at home) (SeqGood at)
seq_laws at home =
    record {
      few_words = λ few. omega arith;
      begins = λ fits n low all sides ranks first. state.begins at home fits n low all sides ranks first;
      first = λ r room. (refl, refl, refl);
      fits = λ words sides g. (g.locked.geom_fits, state.ranks at home words sides g);
      frame = λ words others sides g laid same. state.frame at home words others sides g same;
      same_look = λ words others sides r x s same. refl;
      opens = λ words sides r x calls seq s out closed is takes. state.opens at home words sides r x s calls seq out closed is;
      opened = λ words sides r x calls seq s out closed is takes. let o = state.opened at home words sides r x s calls seq closed in (o.0, o.0, o.1, o.2, o.3);
      closed = λ words sides r x s closed. (refl, state.all_ended at home words sides r x s closed);
      keeps = λ words sides r x s. ([], sym (append-nil _));
      shifts = λ words sides r x standing events s shift. state.shifts at home words sides r x s standing events shift;
      makes = λ words cards sides r x a m. let laid = m.side.laid in
          makes_at at words laid.low laid.all sides m.side.is_good r x m.side.there
          (step.apart_of at home sides m.apart) m.rests a cards m.planned;
      plain = λ words sides r x a m. let laid = m.side.laid in plain_at at words laid.low laid.all sides m.side.is_good r x m.side.there home a m.planned;
      goes_on = λ words sides r x s. step.goes_on at home words sides r x s;
      follows = λ words cards sides r x a m. step.follows_at at home r x.standing x.work.work (do_got a words cards) x.work.stage;
      touches = λ words sides r x a m. step.touches at home words [] sides r x a m;
      tells = λ words sides r x a m. step.tells at home words [] sides r x a m;
      fronts = λ words sides r x a m told. let laid = m.side.laid in fronts_at at words laid.low laid.all sides m.side.is_good r x m.side.there home a m.planned told;
      answers = λ words cards sides r x a m. step.answers_at at home r x.work.work (do_got a words cards) a x.work.stage m.planned;
      alone = λ words cards sides r x a one m. step.alone at home words cards sides r x a m one;
      legal = λ words sides g laid. state.legal at home words sides g;
      sorted = λ words sides g laid. state.sorted at home words sides g;
      short = λ words sides g laid. state.short at home words sides g;
      own = λ words sides r x s. state.own at home words sides r x s;
      changes = λ words cards sides r x a m k u y was is. step.changes at home words cards sides r x a m k u y was is;
      turns = λ words cards sides r x a m. step.own_work at home words cards sides r x a m;
      tenures = λ words cards sides r x a m shares suits. step.tenures at home words cards sides r x a m shares suits;
      volume = λ words sides g laid closed. state.volume at home words sides g closed;
    }
