-- Every atom keeps the rule; and what the rule says of words, sides and transcripts.
use Rattle.std.specs.Prelude.{◌≡◌, ℕ, ◌+◌, ◌==◌, true, false, cond, List, slice_get, slice_index, slice_set, Option, Some, None, refl}
use Rattle.std.proofs.Common.{subst, arith}
use Rattle.std.proofs.lemmas.Bool.Decides.{nat_tests}
use Rattle.std.proofs.lemmas.Option.{same_Some}
use Rattle.rl_word.specs.declared.acts.Atom.{Atom}
use Rattle.rl_step.specs.Lock.{Rests}
use Rattle.rl_step.specs.Do.{do_words, do_got}
use Rattle.rl_volume.specs.declared.write.Write.{Write}
use Rattle.rl_work.specs.Ways.{IsApart, IsLaid, side_turned}
use Rattle.rl_work.specs.Work.{write_atom}
use Rattle.rl_combine.specs.declared.stage.CombineStage.{CombineStage}
use Rattle.rl_combine.specs.declared.stage.CombineStage.TheVariants.{Rest, Post, Raise, Look, Count, Sweep, Copy, Read, Journal, Volume, Answer, Mark, Collect, Lower}
use Rattle.rl_combine.specs.Posts.{post_word, post_of}
use Rattle.rl_site.specs.Site.{WaySite}
use Rattle.rl_combine.specs.Combine.{combine_table, combine_stage_atom, combine_stage_after, combine_to_stage, with_copied, with_posted, combine_read_on, combine_written_on}
use Rattle.rl_combine.specs.CombineGood.{RankSide, IsSweeping, IsCopying, SweepAt, CombineGood}
use Rattle.rl_combine.specs.laws.MoveLaws.{Keeps}
use Rattle.rl_combine.specs.laws.OwnLaws.{post_stored, raised, looked, counted_on, swept, copied_on, collected, lowered}
use Rattle.rl_combine.specs.laws.SeatLaws.{answer_told, journal_told, write_told, count_told, word_read, post_copied, marked}

module _ (S : WaySite) (node : ℕ → ℕ) (words : List ℕ) (laid : IsLaid (combine_table S node) words) (sides : List RankSide)
    (g : CombineGood S words sides) (apart : IsApart (combine_table S node) sides) (r : ℕ) (x : RankSide)
    (has : slice_get sides r ≡ Some x) where
  -- an atom that finds the rank at this stage keeps the rule
  abbrev Kept : List ℕ → CombineStage → Atom → Type 0
  Kept cards st a = Keeps S words sides g (do_words a words) (slice_set sides r
      (side_turned x.standing (combine_stage_after S r x.work (do_got a words cards) st)))

  -- every atom of the work keeps the rule
  pub atom_keeps : Rests x.standing → (at : Atom) (cards : List ℕ) → combine_stage_atom S r x.work x.work.stage ≡ Some at → Kept cards x.work.stage at
  atom_keeps rests at cards planned = by_stage x.work.stage refl planned where
    by_write : (owner made : ℕ) → x.work.stage ≡ Volume owner made → (o : Option Write) → slice_get x.work.writes made ≡ o →
        Some (write_atom (x.work.count + 1) o) ≡ Some at →
        Keeps S words sides g (do_words at words) (slice_set sides r (side_turned x.standing (combine_written_on x.work owner made o)))
    by_write owner made st (Some w) e p =
        subst (λ a. Keeps S words sides g (do_words a words) (slice_set sides r
        (side_turned x.standing (combine_written_on x.work owner made (Some w))))) (same_Some _ _ p)
        (write_told S node words laid sides g apart r x has owner made w st e)
    by_write owner made st None e p =
        subst (λ a. Keeps S words sides g (do_words a words) (slice_set sides r
        (side_turned x.standing (combine_written_on x.work owner made None)))) (same_Some _ _ p)
        (count_told S node words laid sides g apart r x has owner made st e)

    by_copy : (owner made : ℕ) → x.work.stage ≡ Copy owner made →
        Keeps S words sides g words (slice_set sides r (side_turned x.standing
        (combine_stage_after S r x.work (slice_index words (post_word S owner (1 + made))) (Copy owner made))))
    by_copy owner made st =
        let w : IsSweeping S words r x.work.count owner × IsCopying (post_of S words owner) x.work.copied made =
        subst (SweepAt S words g.seats r x.work) st (g.sweeps r x has) in
        let got : ℕ = slice_index words (post_word S owner (1 + made)) in
        elim (made + 1 == 5) as (λ b. (made + 1 == 5) ≡ b → Keeps S words sides g words
        (slice_set sides r (side_turned x.standing (cond b (combine_read_on S (with_posted S (with_copied x.work got)) owner)
        (combine_to_stage (with_copied x.work got) (Copy owner (made + 1))))))) [
          | true ↦ λ e. post_copied S node words laid sides g apart r x has owner made st (grind (arith, nat_tests))
          | false ↦ λ e. copied_on S node words laid sides g apart r x has owner made st
              (let few = w.1.few in let ne : (made + 1 ≡ 5) → ⊥ = λ h. grind (arith, nat_tests) in omega arith)
        ] refl

    by_stage : (st : CombineStage) → x.work.stage ≡ st → combine_stage_atom S r x.work st ≡ Some at → Kept cards st at
    by_stage Rest e p = absurd (cc)
    by_stage (Post made) e p = subst (Kept cards (Post made)) (same_Some _ _ p) (post_stored S node words laid sides g apart r x has made e 0)
    by_stage Raise e p = subst (Kept cards Raise) (same_Some _ _ p) (raised S node words laid sides g apart r x has e 0)
    by_stage Look e p = subst (Kept cards Look) (same_Some _ _ p) (looked S node words laid sides g apart r x has rests e)
    by_stage Count e p = subst (Kept cards Count) (same_Some _ _ p) (counted_on S node words laid sides g apart r x has e)
    by_stage (Sweep owner) e p = subst (Kept cards (Sweep owner)) (same_Some _ _ p) (swept S node words laid sides g apart r x has owner e)
    by_stage (Copy owner made) e p = subst (Kept cards (Copy owner made)) (same_Some _ _ p) (by_copy owner made e)
    by_stage (Read owner word) e p = subst (Kept cards (Read owner word)) (same_Some _ _ p) (word_read S node words laid sides g apart r x has owner word e)
    by_stage (Journal owner made) e p = subst (Kept cards (Journal owner made)) (same_Some _ _ p)
        (journal_told S node words laid sides g apart r x has owner made e 0)
    by_stage (Volume owner made) e p = by_write owner made e (slice_get x.work.writes made) refl p
    by_stage (Answer owner made) e p = subst (Kept cards (Answer owner made)) (same_Some _ _ p)
        (answer_told S node words laid sides g apart r x has owner made e 0)
    by_stage (Mark owner) e p = subst (Kept cards (Mark owner)) (same_Some _ _ p) (marked S node words laid sides g apart r x has owner e 0)
    by_stage (Collect made) e p = subst (Kept cards (Collect made)) (same_Some _ _ p) (collected S node words laid sides g apart r x has made e)
    by_stage Lower e p = subst (Kept cards Lower) (same_Some _ _ p) (lowered S node words laid sides g apart r x has e 0)
