use Rattle.std.proofs.Common.{◌≡◌, ◌==◌, ◌<◌, ℕ, ap, sym, ◌∙◌, rules, arith, length, map, [], ◌∷◌, refl}
use Rattle.std.specs.FinMap as finite
use Rattle.std.proofs.lemmas.List.{length-map, length-set, map-append}
use Rattle.std.specs.List.{count_by}
use Rattle.std.specs.Map.{keys_of}
use Rattle.std.specs.Map.Iter.{deref}
use Rattle.std.proofs.lemmas.Map.Iter.{iter_turn, iter_end}
use Rattle.std.proofs.lemmas.List.Sums.{count_by-le-length}
use Rattle.rl_model.specs.Geom.{bucket_of}
use Rattle.rl_model.specs.Table.{keys_in}
use Rattle.rl_model.proofs.Counts.{all_zero, count_one_more}
use Rattle.rl_model.proofs.Views.{counted, in_order}
use Rattle.rl_model.proofs.plain.Plain.counts.Goals as goal

pub loop-key-init : goal.loop-key-init
loop-key-init c = record { wide = refl; counted = λ bucket. all_zero 64 bucket }

pub overflow_add-counts : goal.overflow_add-counts
overflow_add-counts c =
    let at = λ (key : ℕ). bucket_of c.self.inside.geom key == c.bucket.result in
    let turn = iter_turn deref (keys_of c.self.inside.entries.entries) c.loop-key.yielded _ _ _ _ (search rules) c.loop-key.yielded_by c.in-Some.key c.in-Some.is c.next.ensures.steps in
    omega (
      arith,
      turn.0,
      c.loop-key.invariant.counted c.bucket.result,
      count_by-le-length at (map deref c.loop-key.yielded),
      length-map c.loop-key.yielded (deref {X = ℕ}),
      length-map c.self.inside.entries.entries (λ (e : ℕ × ℕ). e.0),
      c.keys-key-items.ensures.fits,
    )

pub loop-key-preserved : goal.loop-key-preserved
loop-key-preserved c = record {
  wide = length-set c.loop-key.counts c.bucket.result _ ∙ c.loop-key.invariant.wide;
  counted = λ bucket.
      let place = bucket_of c.self.inside.geom in
      let there : place c.in-Some.key.now < length c.loop-key.counts = omega arith in
      let more = count_one_more place c.loop-key.counts (map deref c.loop-key.yielded) c.in-Some.key.now there c.loop-key.invariant.counted bucket in
      let both = map-append (deref {X = ℕ}) c.loop-key.yielded (c.in-Some.key ∷ []) in
      rw (c.bucket.ensures.bucket, both) more;
}

pub returns-clause-counted : goal.returns-clause-counted
returns-clause-counted c = λ bucket.
    let es = c.self.inside.entries.entries in
    let at = λ (k : ℕ). bucket_of c.self.inside.geom k == bucket in
    let e : map deref c.loop-key.yielded ≡ keys_of es = search (rules, iter_end) in
    c.loop-key.invariant.counted bucket ∙ ap (count_by at) e ∙ sym (counted at es c.keys-key-items.ensures.ordered) ∙ ap (λ t. keys_in t.geom t.table bucket) c.self.view_is

pub returns-clause-few : goal.returns-clause-few
returns-clause-few c =
    let same : length (finite.entries c.args.self.now.table) ≡ length c.self.inside.entries.entries = ap (λ t. length (finite.entries t.table)) (sym c.self.view_is) ∙ ap length (in_order _ c.keys-key-items.ensures.ordered) in
    omega (arith, c.keys-key-items.ensures.fits)
