-- One advance of a flat machine is one atom of the definition of a step.
use Rattle.std.specs.Prelude.{◌≡◌, ℕ, ◌<◌, List, [], ◌++◌, length, slice_get, slice_set, Option, Some, None, refl}
use Rattle.std.proofs.Common.{sym, ◌∙◌, ap}
use Rattle.std.proofs.lemmas.List.{append-nil}
use Rattle.rl_word.specs.laws.Places.{some_at}
use Rattle.rl_word.specs.declared.acts.Atom.{Atom}
use Rattle.rl_model.specs.declared.call.Call.{Call}
use Rattle.rl_step.specs.declared.events.Event.{Event}
use Rattle.rl_step.specs.declared.events.Stepped.{Stepped}
use Rattle.rl_step.specs.declared.events.Stepped.TheVariants.{Finished}
use Rattle.rl_step.specs.Do.{TheWindow, do_atom, do_got}
use Rattle.rl_machine.specs.Running.{ShardRun}
use Rattle.rl_machine.specs.ShardSteps.{opened_at, opened_on, numbered, makes, made_at, atom_on, answer_to, answer_at, answer_on}

-- the shard with its lock as it was, and all else new
abbrev pub shard_by : {V : Type 0} → ShardRun V → TheWindow → List V → List (ℕ × Event) → ShardRun V
shard_by S h vs t = record { table = S.table; held = h; views = vs; trace = t }

same_shard : {V : Type 0} (S : ShardRun V) (h k : TheWindow) (vs us : List V) (t u : List (ℕ × Event)) → h ≡ k → vs ≡ us → t ≡ u → shard_by S h vs t ≡ shard_by S k us u
same_shard S h k vs us t u eh ev et = ap (λ z. shard_by S z vs t) eh ∙ ap (λ z. shard_by S k z t) ev ∙ ap (λ z. shard_by S k us z) et

-- the view with the block open in place of the one before, and all else as it was
pub opened_shard : {V : Type 0} (S : ShardRun V) (k : ℕ) (calls : List Call) (seq : ℕ) (h : TheWindow) (vs : List V) (t : List (ℕ × Event)) → k < length S.views →
    h ≡ S.held → ((x : V) → slice_get S.views k ≡ Some x → vs ≡ slice_set S.views k (S.table.opened calls seq x)) → t ≡ S.trace → shard_by S h vs t ≡ opened_on k calls seq S
opened_shard S k calls seq h vs t there words views events =
    let x = some_at S.views k there in
    same_shard S h S.held vs (slice_set S.views k (S.table.opened calls seq x.0)) t S.trace words (views x.0 x.1) events ∙ sym (ap (opened_at S k calls seq) x.1)

-- what an advance of rank k left, by its clauses: words and cards h, views vs, events es and the answer
pub record Advances {V : Type 0} (S : ShardRun V) (k : ℕ) (h : TheWindow) (vs : List V) (es : List Event) (answer : Stepped) : Type 0 where
  pub there : k < length S.views
  pub finished : (x : V) → slice_get S.views k ≡ Some x → S.table.core.next x ≡ None → (answer ≡ Finished) × (es ≡ []) × (h ≡ S.held) × (vs ≡ S.views)
  pub made : (x : V) (at : Atom) → slice_get S.views k ≡ Some x → S.table.core.next x ≡ Some at →
      (h ≡ do_atom k at S.held) × (vs ≡ slice_set S.views k (S.table.core.after x (do_got at S.held.words S.held.cards)).view) ×
      (es ≡ (S.table.core.after x (do_got at S.held.words S.held.cards)).events) × (answer ≡ (S.table.core.after x (do_got at S.held.words S.held.cards)).stepped)

module _ {V : Type 0} (S : ShardRun V) (k step : ℕ) (h : TheWindow) (vs : List V) (es : List Event) (answer : Stepped) where
  by_next : Advances S k h vs es answer → (x : V) (o : Option Atom) → slice_get S.views k ≡ Some x → S.table.core.next x ≡ o →
      (shard_by S h vs (S.trace ++ numbered step es) ≡ makes S k step x o) × (answer ≡ answer_to S.table S.held x o)
  by_next a x None has e =
      let f = a.finished x has e in (
        same_shard S h S.held vs S.views (S.trace ++ numbered step es) S.trace f.2 f.3 (ap (λ z. S.trace ++ numbered step z) f.1 ∙ append-nil S.trace),
        f.0,
      )
  by_next a x (Some at) has e =
      let m = a.made x at has e in
      let after = S.table.core.after x (do_got at S.held.words S.held.cards) in (
        same_shard S h (do_atom k at S.held) vs (slice_set S.views k after.view) (S.trace ++ numbered step es)
            (S.trace ++ numbered step after.events) m.0 m.1 (ap (λ z. S.trace ++ numbered step z) m.2),
        m.3,
      )

  pub advanced_shard : Advances S k h vs es answer → (shard_by S h vs (S.trace ++ numbered step es) ≡ atom_on k step S) × (answer ≡ answer_on k S)
  advanced_shard a =
      let v = some_at S.views k a.there in
      let n = by_next a v.0 (S.table.core.next v.0) v.1 refl in
      (n.0 ∙ ap (made_at S k step) (sym v.1), n.1 ∙ ap (answer_at S) (sym v.1))
