use Rattle.std.proofs.Common.{◌≡◌, ◌∙◌, sym, subst, List, ℕ, slice_index, refl, None, Option, is_some, false, Some}
use Rattle.rl_volume.specs.Seen.{AgreesWith}
use Rattle.rl_volume.proofs.SeenLaws.{agrees_more}
use Rattle.table_tests.proofs.volumes.read.Goals as goal

pub loop-loads-preserved : goal.loop-loads-preserved
loop-loads-preserved g c =
    let P : List (ℕ × ℕ) → Type 0 = λ ps. AgreesWith ps c.args.words.now in
    record {
      room = c.add.ensures.room ∙ c.loop-loads.invariant.room;
      agrees = subst P (sym c.add.ensures.added) (agrees_more c.loop-loads.seen.pairs c.args.words.now c.in-Some.word (slice_index c.args.words.now c.in-Some.word) c.loop-loads.invariant.agrees refl);
    }

no_more : (o : Option ℕ) → is_some o ≡ false → o ≡ None
no_more None e = refl
no_more (Some v) e = cc

pub returns-clause-over : goal.returns-clause-over
returns-clause-over g c = sym c.next_read-2.ensures.next ∙ no_more c.next_read-2.result (sym c.is_some.ensures ∙ c.if-is_some.false)
