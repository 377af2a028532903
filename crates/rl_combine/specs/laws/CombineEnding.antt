-- Flat combining has no dead end: each atom of each rank leaves less to do.
use Rattle.std.specs.Prelude.{◌≡◌, ℕ, ◌+◌, ◌<◌, ◌≤◌, ◌==◌, List, [], ◌∷◌, ◌++◌, length, slice_get, Some, None, refl}
use Rattle.std.proofs.Common.{sym, ◌∙◌, ap, subst, arith}
use Rattle.rl_volume.specs.Words.{volume_words}
use Rattle.rl_work.specs.Ways.{Works}
use Rattle.rl_work.specs.LockedLeft.{one_unless, words_unseen}
use Rattle.rl_work.specs.laws.UnseenLaws.{appended_stays, appended_seen, words_unseen_falls, few_words_unseen}
use Rattle.rl_combine.specs.declared.stage.CombineStage.{CombineStage}
use Rattle.rl_combine.specs.declared.stage.CombineStage.TheVariants.{Rest, Post, Raise, Look, Count, Sweep, Copy, Read, Journal, Volume, Answer, Mark, Collect, Lower}
use Rattle.rl_combine.specs.Posts.{combine_ranks}
use Rattle.rl_site.specs.Site.{WaySite}
use Rattle.rl_combine.specs.Combine.{TheCombineSide, combine_stage_after, combine_to_stage, to_collect, sweep_on, combine_read_on, combine_with_word, with_copied, with_nothing, with_posted, combine_table, combine_after, combine_stage_atom, combine_with_block}
use Rattle.rl_combine.specs.Numbers.{CanTurn}
use Rattle.rl_combine.specs.CombineLeft.{sweep_left, far_at, far, combine_left, combine_most}
use Rattle.rl_word.specs.laws.Places.{get_map}
use Rattle.rl_word.specs.declared.acts.Atom.{Atom}
use Rattle.rl_model.specs.declared.call.Call.{Call}
use Rattle.rl_step.specs.Do.{do_got}
use Rattle.rl_work.specs.WorkEnding.{works_in, WorkEnds}
use Rattle.rl_combine.specs.CombineGood.{RankSide, CombineGood}
use Rattle.rl_combine.specs.laws.NumberLaws.{may_turn}
use Rattle.rl_ending.specs.laws.Sums.{sum_falls, sum_grows}
use Rattle.rl_combine.specs.laws.CombineSteps.{sweep_more, either, swept, read_far, written, below}

module _ (S : WaySite) (node : ℕ → ℕ) where
  abbrev V : ℕ
  V = volume_words S.site.geom

  abbrev R : ℕ
  R = combine_ranks S

  opened : (r : ℕ) (x : TheCombineSide) (calls : List Call) (seq : ℕ) → length calls ≡ 1 → far S (combine_with_block r x calls seq) ≤ combine_most S
  opened r x [] seq one = cc
  opened r x (c ∷ calls) seq one = omega arith

  pub combine_ends : WorkEnds (combine_table S node) (CombineGood S) (combine_left S) (combine_most S)
  combine_ends =
      record {
        nears = λ words cards sides r x at w may. sum_falls (far S) (works_in sides) r x.work
            (combine_after S r x.work (do_got at words cards)).work (get_map (λ (z : RankSide). z.work) sides r x w.side.there)
            (atom_less words cards sides r x at w);
        frame = λ words others sides g laid same. refl;
        open_adds = λ words sides r x calls seq s shut fits takes.
            sum_grows (far S) (works_in sides) r (combine_most S) x.work (combine_with_block r x.work calls seq)
            (get_map (λ (z : RankSide). z.work) sides r x s.there) (opened r x.work calls seq (takes refl));
      } where
        stage_less : (r : ℕ) (x : TheCombineSide) (got : ℕ) (st : CombineStage) → x.seen.room ≡ V → (st ≡ Rest → ⊥) → CanTurn S r x got st →
            far S (combine_stage_after S r x got st).work < far_at V R x st
        stage_less r x got Rest room busy can = absurd (busy refl)
        stage_less r x got (Post made) room busy can =
            either S (made + 1 == 5) (combine_to_stage x Raise) (combine_to_stage x (Post (made + 1))) _ (λ e. omega arith)
            (λ e. let k = below made 5 can e in omega arith)
        stage_less r x got Raise room busy can = omega arith
        stage_less r x got Look room busy can = either S (got == 2) (to_collect x) (combine_to_stage x Count) _ (λ e. omega arith) (λ e. omega arith)
        stage_less r x got Count room busy can = let k = swept S (record x { count = got }) 0 (sweep_left V R 0) (omega arith) in omega arith
        stage_less r x got (Sweep owner) room busy can =
            let more = sweep_more V R owner can in
            let k = swept S x (owner + 1) (sweep_left V R (owner + 1)) (omega arith) in
            either S (got == 1) (combine_to_stage (with_nothing x) (Copy owner 0)) (sweep_on S x (owner + 1)) _ (λ e. omega arith) (λ e. omega arith)
        stage_less r x got (Copy owner made) room busy can =
            let y : TheCombineSide = with_posted S (with_copied x got) in
            let k = read_far S y owner in
            let few = few_words_unseen V y.seen.pairs in
            either S (made + 1 == 5) (combine_read_on S y owner) (combine_to_stage (with_copied x got) (Copy owner (made + 1))) _
            (λ e. omega arith) (λ e. let b = below made 5 can.0 e in omega arith)
        stage_less r x got (Read owner word) room busy can =
            let y : TheCombineSide = combine_with_word x word got in
            let k = read_far S y owner in
            let low : word < V = subst (λ n. word < n) room can.0 in
            let fall : words_unseen V y.seen.pairs + 1 ≤ words_unseen V x.seen.pairs =
            words_unseen_falls V x.seen.pairs (x.seen.pairs ++ (word, got) ∷ []) word low (ap one_unless can.1)
            (appended_seen x.seen.pairs word got) (appended_stays x.seen.pairs word got) in
            omega arith
        stage_less r x got (Journal owner made) room busy can =
            either S (made + 1 == 6) (combine_to_stage x (Volume owner 0)) (combine_to_stage x (Journal owner (made + 1))) _
            (λ e. omega arith) (λ e. let k = below made 6 can e in omega arith)
        stage_less r x got (Volume owner made) room busy can = written S x owner made (slice_get x.writes made) refl
        stage_less r x got (Answer owner made) room busy can =
            either S (made + 1 == 3) (combine_to_stage x (Mark owner)) (combine_to_stage x (Answer owner (made + 1))) _ (λ e. omega arith)
            (λ e. let k = below made 3 can e in omega arith)
        stage_less r x got (Mark owner) room busy can = let k = swept S x (owner + 1) (sweep_left V R (owner + 1)) (omega arith) in omega arith
        stage_less r x got (Collect made) room busy can =
            either S (made + 1 == 3) (combine_to_stage (with_copied x got) Lower)
            (combine_to_stage (with_copied x got) (Collect (made + 1))) _ (λ e. omega arith)
            (λ e. let k = below made 3 can.0 e in omega arith)
        stage_less r x got Lower room busy can = omega arith

        not_rest : (r : ℕ) (x : TheCombineSide) (at : Atom) (st : CombineStage) → combine_stage_atom S r x st ≡ Some at → st ≡ Rest → ⊥
        not_rest r x at st e q = let bad : None ≡ Some at = sym (ap (combine_stage_atom S r x) q) ∙ e in cc

        atom_less : (words cards : List ℕ) (sides : List RankSide) (r : ℕ) (x : RankSide) (at : Atom) →
            Works (combine_table S node) (CombineGood S) words sides r x at →
            far S (combine_after S r x.work (do_got at words cards)).work < far S x.work
        atom_less words cards sides r x at w =
            let got : ℕ = do_got at words cards in
            let can = may_turn S node r x.work got
            (record { words = words; cards = cards; sides = sides; standing = x.standing; at = at; works = w; gives = refl }) in
            stage_less r x.work got x.work.stage (w.side.is_good.seen_rooms r x w.side.there) (not_rest r x.work at x.work.stage w.planned) can
