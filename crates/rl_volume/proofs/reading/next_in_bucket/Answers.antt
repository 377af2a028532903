use Rattle.std.proofs.Common.{◌≡◌, ◌∙◌, sym, ap, subst, Some}
use Rattle.rl_model.specs.Geom.{bucket_of}
use Rattle.rl_volume.specs.declared.stand.Stand.{Stand}
use Rattle.rl_volume.specs.Words.{state_word, key_word}
use Rattle.rl_volume.specs.Seen.{value_of}
use Rattle.rl_volume.specs.Stand.{GoesOn}
use Rattle.rl_volume.proofs.StandLaws.{now, at_front}
use Rattle.rl_volume.proofs.reading.next_in_bucket.Goals as goal
use Rattle.rl_volume.proofs.reading.next_in_bucket.Goals.{in-Some, in-None+in-Some-value_at+else-state-eq0+in-Some-value_at-2+else-own-key}

pub returns : goal.returns
returns c =
    let pairs = c.args.seen.now.pairs in
    let home = bucket_of c.args.geom c.args.key in
    let from = c.match-stand.from in
    let GoesFrom : Stand → Type 0 = λ s. GoesOn c.args.geom c.args.key s.link s.passed pairs in
    let on : GoesFrom from =
    elim c.match-stand.branch [
      | in-Some w ↦ subst GoesFrom (sym w.from-is) w.in-Some.ensures.goes_on
      | in-None+in-Some-value_at+else-state-eq0+in-Some-value_at-2+else-own-key w ↦
          let read : value_of pairs (state_word home) ≡ Some w.in-Some-value_at.state =
          ap (λ b. value_of pairs (state_word b)) (sym w.bucket-bucket.ensures.bucket) ∙ ap (value_of pairs) (sym w.state_word.ensures) ∙ sym w.in-Some-value_at.ensures in
          let read_own : value_of pairs (key_word home) ≡ Some w.in-Some-value_at-2.own =
          ap (λ b. value_of pairs (key_word b)) (sym w.bucket-bucket.ensures.bucket) ∙ ap (value_of pairs) (sym w.key_word.ensures) ∙ sym w.in-Some-value_at-2.ensures in
          subst GoesFrom (sym w.from-is) (at_front c.args.geom c.args.key pairs w.in-Some-value_at.state w.in-Some-value_at-2.own read w.if-state-eq0.false read_own w.if-own-key.false)
    ] in
    c.next_in_chain.ensures ∙ sym (now c.args.geom c.args.key pairs from.link from.passed on c.args.call)
