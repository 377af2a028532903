-- The place of an answer that stands in a post fits.
use Rattle.std.proofs.Common.{◌≡◌, ◌<◌, ◌^◌, ap, sym, subst, ◌∙◌, slice_index}
use Rattle.rl_combine.specs.Posts.{node_in, post_of}
use Rattle.rl_combine.specs.laws.FlagLaws.{answer_small}
use Rattle.rl_combine.proofs.combine.CombineWorkWork.transcript.Goals as goal

pub answered-requires-clause-small : goal.answered-requires-clause-small
answered-requires-clause-small c =
    let m = c.requires.seen.0 in
    let S = c.args.self.now.here in
    let k = c.args.rank in
    let two = ap (slice_index c.args.words.now.words) (sym c.post_word.ensures) ∙ sym c.value.ensures ∙ c.if-value-eq-DONE.true in
    subst (λ w. (post_of S w k).flag ≡ 2 → slice_index (post_of S w k).answer 0 < 2 ^ 32) c.requires.seen.1
    (answer_small S (node_in c.args.self.now) m.words m.side.laid m.sides m.side.is_good k _ m.side.there) two
