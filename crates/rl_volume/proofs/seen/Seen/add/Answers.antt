use Rattle.std.proofs.Common.{ap, sym, ◌∙◌, subst, ◌≡◌, ◌+◌, ◌<◌, arith, rules, None, List, ℕ, length, length-set, slice_set, vec_len}
use Rattle.rl_model.specs.declared.geom.Geom.{Geom}
use Rattle.rl_model.specs.Geom.{GeomFits}
use Rattle.rl_volume.specs.Seen.{value_of, AreApart, ArePlaced}
use Rattle.rl_volume.specs.Words.{volume_words}
use Rattle.rl_volume.specs.Stand.{GoesOn}
use Rattle.rl_volume.proofs.StandLaws.{more_read}
use Rattle.rl_volume.proofs.SeenLaws.{room_left, apart_more}
use Rattle.rl_volume.proofs.SeenPlaces.{placed_more}
use Rattle.rl_volume.proofs.seen.Seen.add.Goals as goal

few : (geom : Geom) (pairs : List (ℕ × ℕ)) (word : ℕ) → GeomFits geom → AreApart pairs (volume_words geom) → word < volume_words geom → value_of pairs word ≡ None → length pairs < 385
few geom pairs word fits apart below unseen = omega (arith, room_left pairs (volume_words geom) word apart below unseen, fits.buckets, fits.overflow)

pub overflow_cast-len : goal.overflow_cast-len
overflow_cast-len c =
    let s = c.self.inside in
    let below : c.args.word < volume_words s.geom = omega (arith, c.requires.in_volume, ap (λ v. v.room) c.self.view_is) in
    let unseen : value_of s.pairs.items c.args.word ≡ None = ap (λ v. value_of v.pairs c.args.word) c.self.view_is ∙ c.requires.unseen in
    omega (arith, c.len.ensures, few s.geom s.pairs.items c.args.word c.self.invariant.2 c.self.invariant.0 below unseen)

pub overflow_add-len : goal.overflow_add-len
overflow_add-len c =
    let s = c.self.inside in
    let below : c.args.word < volume_words s.geom = omega (arith, c.requires.in_volume, ap (λ v. v.room) c.self.view_is) in
    let unseen : value_of s.pairs.items c.args.word ≡ None = ap (λ v. value_of v.pairs c.args.word) c.self.view_is ∙ c.requires.unseen in
    omega (arith, c.len.ensures, few s.geom s.pairs.items c.args.word c.self.invariant.2 c.self.invariant.0 below unseen)

pub push_reserved-requires : goal.push_reserved-requires
push_reserved-requires c =
    let s = c.self.inside in
    let below : c.args.word < volume_words s.geom = omega (arith, c.requires.in_volume, ap (λ v. v.room) c.self.view_is) in
    let unseen : value_of s.pairs.items c.args.word ≡ None = ap (λ v. value_of v.pairs c.args.word) c.self.view_is ∙ c.requires.unseen in
    omega (arith, room_left s.pairs.items (volume_words s.geom) c.args.word c.self.invariant.0 below unseen)

pub invariant_of-self : goal.invariant_of-self
invariant_of-self c =
    let s = c.self.inside in
    let below : c.args.word < volume_words s.geom = omega (arith, c.requires.in_volume, ap (λ v. v.room) c.self.view_is) in
    let unseen : value_of s.pairs.items c.args.word ≡ None = ap (λ v. value_of v.pairs c.args.word) c.self.view_is ∙ c.requires.unseen in
    let long : vec_len s.pairs ≡ length s.pairs.items = search rules in
    let place : length s.pairs.items + 1 ≡ c.len.result + 1 = omega (arith, long, c.len.ensures) in
    let P : List (ℕ × ℕ) → Type 0 = λ ps. AreApart ps (volume_words s.geom) in
    let Q : List (ℕ × ℕ) → Type 0 = λ ps. ArePlaced ps (slice_set s.places.items c.args.word (c.len.result + 1)) in (
      subst P (sym c.push_reserved.ensures.items) (apart_more s.pairs.items (volume_words s.geom) c.args.word c.args.value c.self.invariant.0 below unseen),
      omega (arith, c.self.invariant.1, c.push_reserved.ensures.capacity),
      c.self.invariant.2,
      c.self.invariant.3,
      λ some. subst (GoesOn s.geom s.key s.link s.passed) (sym c.push_reserved.ensures.items) (more_read s.geom s.key s.pairs.items s.link s.passed (c.args.word, c.args.value) (c.self.invariant.4 some)),
      length-set s.places.items c.args.word (c.len.result + 1) ∙ c.self.invariant.5,
      subst Q (sym c.push_reserved.ensures.items) (placed_more s.pairs.items s.places.items c.args.word c.args.value (c.len.result + 1) c.self.invariant.6 (omega (arith, below, c.self.invariant.5)) unseen (sym place)),
    )
