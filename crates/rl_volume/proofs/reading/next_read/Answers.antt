use Rattle.std.proofs.Common.{◌≡◌, ◌<◌, ◌↔◌, refl, sym, subst, ◌∙◌, Option, Some, None, IfSome, ℕ, length}
use Rattle.rl_volume.specs.Words.{volume_words}
use Rattle.rl_volume.specs.Walk.{most_reads}
use Rattle.rl_volume.specs.Seen.{value_of, IsReadingOver}
use Rattle.rl_volume.proofs.NextWord.{next_there, next_unseen, reading_over, few_read}
use Rattle.rl_volume.proofs.reading.next_read.Goals as goal

if_some : (P : ℕ → Type 0) (o : Option ℕ) → ((word : ℕ) → o ≡ Some word → P word) → IfSome o P
if_some P None all = tt
if_some P (Some word) all = all word refl

pub returns-clause-in_volume : goal.returns-clause-in_volume
returns-clause-in_volume c = if_some (λ w. w < volume_words c.args.geom) c.by_call.result (λ w e. next_there c.args.geom c.requires c.args.call c.args.seen.now.pairs w (sym c.by_call.ensures ∙ e))

pub returns-clause-unseen : goal.returns-clause-unseen
returns-clause-unseen c = if_some (λ w. value_of c.args.seen.now.pairs w ≡ None) c.by_call.result (λ w e. next_unseen c.args.geom c.args.call c.args.seen.now.pairs w (sym c.by_call.ensures ∙ e))

pub returns-clause-over : goal.returns-clause-over
returns-clause-over c = subst (λ (o : Option ℕ). (o ≡ None) ↔ IsReadingOver c.args.geom c.args.call c.args.seen.now.pairs) (sym c.by_call.ensures) (reading_over c.args.geom c.args.call c.args.seen.now.pairs)

pub returns-clause-short : goal.returns-clause-short
returns-clause-short c named =
    subst (λ (o : Option ℕ). IfSome o (λ word. length c.args.seen.now.pairs < most_reads c.args.geom c.args.call)) (sym c.by_call.ensures) (few_read c.args.geom c.args.call c.args.seen.now.pairs named)
