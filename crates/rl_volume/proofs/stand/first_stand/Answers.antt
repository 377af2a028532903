use Rattle.std.proofs.Common.{◌≡◌, ◌∙◌, sym, ap, Some}
use Rattle.rl_model.specs.Geom.{bucket_of}
use Rattle.rl_volume.specs.Words.{state_word, key_word}
use Rattle.rl_volume.specs.Seen.{value_of}
use Rattle.rl_volume.proofs.StandLaws.{at_front}
use Rattle.rl_volume.proofs.stand.first_stand.Goals as goal

pub returns-clause-goes_on : goal.returns-clause-goes_on
returns-clause-goes_on c =
    let pairs = c.args.seen.now.pairs in
    let home = bucket_of c.args.geom c.args.key in
    let read : value_of pairs (state_word home) ≡ Some c.in_ok-state.state =
    ap (λ b. value_of pairs (state_word b)) (sym c.bucket-bucket.ensures.bucket) ∙ ap (value_of pairs) (sym c.state_word.ensures) ∙ sym c.value_at.ensures ∙ c.in_ok-state.was in
    let read_own : value_of pairs (key_word home) ≡ Some c.in_ok-own.own =
    ap (λ b. value_of pairs (key_word b)) (sym c.bucket-bucket.ensures.bucket) ∙ ap (value_of pairs) (sym c.key_word.ensures) ∙ sym c.value_at-2.ensures ∙ c.in_ok-own.was in
    at_front c.args.geom c.args.key pairs c.in_ok-state.state c.in_ok-own.own read c.if-state-eq0.false read_own c.if-own-key.false
