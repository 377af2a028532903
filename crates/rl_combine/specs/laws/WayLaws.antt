-- Flat combining is a way of working: each law by its proof.
use Rattle.std.specs.Prelude.{◌≡◌, ℕ, true, false, List, [], ◌∷◌, length, slice_set, refl}
use Rattle.std.proofs.Common.{sym, subst, arith}
use Rattle.rl_word.specs.declared.acts.Atom.{Atom}
use Rattle.rl_model.specs.declared.call.Call.{Call}
use Rattle.rl_step.specs.declared.events.Standing.TheVariants.{Out}
use Rattle.rl_step.specs.declared.events.Stepped.TheVariants.{Moved}
use Rattle.rl_step.specs.Do.{do_got}
use Rattle.rl_site.specs.Opens.{IsOpen}
use Rattle.rl_work.specs.Ways.{WorkTable, WorkLaws, IsSide, Works, AnswersAs, look, own_look, opened_look, opened_mode}
use Rattle.rl_site.specs.Site.{WaySite}
use Rattle.rl_combine.specs.Combine.{TheCombineSide, combine_table, combine_after, early, combine_is_open, combine_with_block}
use Rattle.rl_combine.specs.CombineGood.{RankSide, CombineGood}
use Rattle.rl_combine.specs.laws.CombineLaws.{atom_keeps}
use Rattle.rl_combine.specs.laws.StandLaws.{begins, frame, opens, shifts, goes_on, touches, tells_at}
use Rattle.rl_combine.specs.laws.PlainLaws.{plain, fronts}
use Rattle.rl_combine.specs.laws.LookLaws.{legal, sorted, short, own, volume}
use Rattle.rl_combine.specs.laws.ChangeLaws.{same_look, closed, opened, changes, turns, follows, moved, tenures}

module _ (S : WaySite) (node : ℕ → ℕ) where
  abbrev T : WorkTable TheCombineSide
  T = combine_table S node

  -- a block is a call alone
  opens_block : (words : List ℕ) (sides : List RankSide) (r : ℕ) (x : RankSide) (calls : List Call) (seq : ℕ) →
      IsSide T (CombineGood S) words sides r x → x.standing ≡ Out → combine_is_open x.work.stage ≡ false →
      IsOpen S.site r calls seq x.work.kept → length calls ≡ 1 → CombineGood S words
      (slice_set sides r (record { standing = Out; work = combine_with_block r x.work calls seq }))
  opens_block words sides r x [] seq s out rest is one = absurd (omega arith)
  opens_block words sides r x (c ∷ []) seq s out rest is one = (opens S node words s.laid sides s.is_good r x s.there c seq out rest is).good
  opens_block words sides r x (c ∷ d ∷ calls) seq s out rest is one = absurd (omega arith)

  looks_opened : (words : List ℕ) (sides : List RankSide) (r : ℕ) (x : RankSide) (calls : List Call) (seq : ℕ) →
      IsSide T (CombineGood S) words sides r x → x.standing ≡ Out → combine_is_open x.work.stage ≡ false →
      IsOpen S.site r calls seq x.work.kept → length calls ≡ 1 →
      (look T words r (T.opens r x.work calls seq) ≡ opened_look (look T words r x.work) calls seq) ×
      (own_look T (T.opens r x.work calls seq) ≡ opened_look (own_look T x.work) calls seq)
      × (T.is_open (T.opens r x.work calls seq) ≡ true) × (T.ended (T.opens r x.work calls seq) ≡ T.ended x.work) ×
      (T.mode (T.opens r x.work calls seq) ≡ opened_mode (T.asks calls) (T.mode x.work))
  looks_opened words sides r x [] seq s out rest is one = absurd (omega arith)
  looks_opened words sides r x (c ∷ []) seq s out rest is one =
      (opened S node words s.laid sides s.is_good r x s.there c seq out rest is, refl, refl, refl, refl)
  looks_opened words sides r x (c ∷ d ∷ calls) seq s out rest is one = absurd (omega arith)

  -- it has always moved
  has_moved : (words cards : List ℕ) (sides : List RankSide) (r : ℕ) (x : RankSide) (at : Atom) →
      Works T (CombineGood S) words sides r x at → (combine_after S r x.work (do_got at words cards)).stepped ≡ Moved
  has_moved words cards sides r x at w = moved S node words w.side.laid sides w.side.is_good w.apart r x w.side.there w.rests at cards w.planned

  answers_so : (words cards : List ℕ) (sides : List RankSide) (r : ℕ) (x : RankSide) (at : Atom) → Works T (CombineGood S) words sides r x at →
      AnswersAs at (do_got at words cards) (T.next r (T.after r x.work (do_got at words cards)).work)
      (T.after r x.work (do_got at words cards)).follow (T.after r x.work (do_got at words cards)).stepped
  answers_so words cards sides r x at w =
      subst (AnswersAs at (do_got at words cards) (T.next r (T.after r x.work (do_got at words cards)).work)
      (T.after r x.work (do_got at words cards)).follow) (sym (has_moved words cards sides r x at w)) tt

  pub combine_works : WorkLaws T (CombineGood S)
  combine_works =
      record {
        few_words = λ few. omega arith;
        begins = λ fits n low all sides ranks first. begins S node fits n low all sides ranks first;
        first = λ r room. (refl, refl, refl);
        fits = λ words sides g. (g.work.geom_fits, g.ranks);
        frame = λ words others sides g laid same. frame S node words others sides g laid same;
        same_look = λ words others sides r x s same. same_look S node words others r x.work same;
        opens = λ words sides r x calls seq s out rest is takes. opens_block words sides r x calls seq s out rest is (takes refl);
        opened = λ words sides r x calls seq s out rest is takes. looks_opened words sides r x calls seq s out rest is (takes refl);
        closed = λ words sides r x s rest. (closed S node words s.laid sides s.is_good r x s.there rest, refl);
        keeps = λ words sides r x s. (early S words r x.work, refl);
        shifts = λ words sides r x standing events s shift. shifts S node words s.laid sides s.is_good r x s.there standing events shift;
        makes = λ words cards sides r x at w. (atom_keeps S node words w.side.laid sides w.side.is_good w.apart r x w.side.there w.rests at
            cards w.planned).good;
        plain = λ words sides r x at w. plain S node words w.side.laid sides w.side.is_good w.apart r x w.side.there at w.planned;
        goes_on = λ words sides r x s. goes_on S node words s.laid sides s.is_good r x s.there;
        follows = λ words cards sides r x at w. follows S node words w.side.laid sides w.side.is_good w.apart r x w.side.there w.rests at cards w.planned;
        touches = λ words sides r x at w. touches S node words w.side.laid sides w.side.is_good r x w.side.there;
        tells = λ words sides r x at w. let laid = w.side.laid in tells_at S r x.work at x.standing (x.work.call ∷ []) laid.low x.work.stage w.planned;
        fronts = λ words sides r x at w told. fronts S node words w.side.laid sides w.side.is_good w.apart r x w.side.there at w.planned told;
        answers = λ words cards sides r x at w. answers_so words cards sides r x at w;
        alone = λ words cards sides r x at one w. has_moved words cards sides r x at w;
        legal = λ words sides g laid. legal S node words sides g;
        sorted = λ words sides g laid. sorted S node words sides g;
        short = λ words sides g laid. short S node words sides g;
        own = λ words sides r x s. own S node words sides s.is_good s.laid r x s.there;
        changes = λ words cards sides r x at w k u y was is. changes S node words w.side.laid sides w.side.is_good w.apart r x w.side.there
            w.rests at cards w.planned k u y was is;
        turns = λ words cards sides r x at w. turns S node words w.side.laid sides w.side.is_good w.apart r x w.side.there w.rests at cards w.planned;
        tenures = λ words cards sides r x at w shares s. tenures S node words w.side.laid sides w.side.is_good w.apart r x w.side.there
            w.rests at cards w.planned;
        volume = λ words sides g laid rest. volume S node words sides g laid rest;
      }
