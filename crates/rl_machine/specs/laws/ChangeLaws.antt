-- On a shard that is sound only a writer's atom changes what the lock guards; and so does only a writer's step.
use Rattle.std.specs.Prelude.{◌≡◌, ◌≢◌, ◌⊎◌, ℕ, Bool, true, false, List, ◌++◌, take, slice_get, slice_index, slice_set, Option, Some, None, refl}
use Rattle.std.proofs.Common.{sym, ◌∙◌, ap, subst, inl, inr, ⊎_elim}
use Rattle.std.proofs.lemmas.Option.{same_Some}
use Rattle.rl_word.specs.laws.Places.{get_set_same, get_set_other, one_at, same_or_not}
use Rattle.rl_word.specs.declared.acts.Atom.{Atom}
use Rattle.rl_model.specs.declared.call.Call.{Call}
use Rattle.rl_model.specs.declared.geom.Geom.{Geom}
use Rattle.rl_step.specs.Answers.{steps_made}
use Rattle.rl_step.specs.Do.{TheWindow, do_got}
use Rattle.rl_step.specs.Exclusion.{writers}
use Rattle.rl_site.specs.Site.{lock_base}
use Rattle.rl_core.specs.Asks.{block_shard}
use Rattle.rl_core.specs.laws.TouchLaws.{only_writers}
use Rattle.rl_core.specs.ShardTables.{ShardTable}
use Rattle.rl_machine.specs.Running.{ShardRun, Running}
use Rattle.rl_machine.specs.ShardSteps.{opened_at, opened_on, makes, made_at, atom_on}
use Rattle.rl_step.specs.Traces.{events_of}
use Rattle.rl_machine.specs.Run.{changed_if, place_of, opens, next_block, opened_if, block_opened, stepped}
use Rattle.rl_machine.specs.laws.MachineLaws.{events-more}
use Rattle.rl_machine.specs.Promises.{IsShardSound}
use Rattle.rl_machine.specs.Changes.{guarded_words, IsWritersStep}

module _ {V : Type 0} where
  -- a shard with one shard changed: it is what was made of it, or as it was
  pub changed_there : (shards : List (ShardRun V)) (p s : ℕ) (f : ShardRun V → ShardRun V) (S : ShardRun V) (o : Option (ShardRun V)) → slice_get shards p ≡ o → slice_get shards s ≡ Some S →
      (N : ShardRun V) × (slice_get (changed_if shards p f o) s ≡ Some N) × ((N ≡ f S) ⊎ (N ≡ S))
  changed_there shards p s f S None at has = (S, has, inr refl)
  changed_there shards p s f S (Some T) at has =
      ⊎_elim
      (λ (e : s ≡ p).
      let same : T ≡ S = same_Some _ _ (sym at ∙ ap (slice_get shards) (sym e) ∙ has) in
      (f T, ap (slice_get (slice_set shards p (f T))) e ∙ get_set_same shards p T (f T) at, inl (ap f same)))
      (λ (ne : s ≢ p). (S, get_set_other shards p s (f T) ne ∙ has, inr refl))
      (same_or_not s p)

  -- a shard on which a block is opened has the same words, and nothing happens on it
  pub record IsAlike (S N : ShardRun V) : Type 0 where
    pub table_is : N.table ≡ S.table
    pub held_is : N.held ≡ S.held
    pub trace_is : N.trace ≡ S.trace

  same_shard : (S : ShardRun V) → IsAlike S S
  same_shard S = record { table_is = refl; held_is = refl; trace_is = refl }

  opened_alike : (S : ShardRun V) (k : ℕ) (block : List Call) (seq : ℕ) (o : Option V) → IsAlike S (opened_at S k block seq o)
  opened_alike S k block seq None = same_shard S
  opened_alike S k block seq (Some x) = record { table_is = refl; held_is = refl; trace_is = refl }

  opened_there : (m : Running V) (k s : ℕ) (S : ShardRun V) → slice_get m.shards s ≡ Some S → (b : Bool) → (N : ShardRun V) × (slice_get (opened_if m k b).shards s ≡ Some N) × IsAlike S N
  opened_there m k s S has false = (S, has, same_shard S)
  opened_there m k s S has true =
      let block : List Call = next_block m k in
      let seq : ℕ = slice_index m.opened k in
      let place : ℕ = block_shard m.geom block in
      let c = changed_there m.shards place s (opened_on k block seq) S (slice_get m.shards place) refl has in
      (c.0, c.1, ⊎_elim (λ q. subst (IsAlike S) (sym q) (opened_alike S k block seq (slice_get S.views k))) (λ q. subst (IsAlike S) (sym q) (same_shard S)) c.2)

  -- what a rank's atom does to a sound shard
  abbrev Comes : ℕ → ShardRun V → ShardRun V → Type 0
  Comes k S N = (guarded_words N ≡ guarded_words S) ⊎ IsWritersStep k S N

  atom_comes : (geom : Geom) (S : ShardRun V) → IsShardSound geom S → (k step : ℕ) (x : V) → slice_get S.views k ≡ Some x → (o : Option Atom) → S.table.core.next x ≡ o → Comes k S (makes S k step x o)
  atom_comes geom S sound k step x has None next = inl refl
  atom_comes geom S sound k step x has (Some at) next =
      let es = (S.table.core.after x (do_got at S.held.words S.held.cards)).events in
      ⊎_elim
      (λ same. inl same)
      (λ stores.
      let stands : writers (events_of S.trace) k = (sound.stands k x has).0.0 stores.0 in
      inr (record { writer = stands; events = es; behind = events-more S.trace step es; touch = stores.1 }))
      (only_writers (lock_base S.table.site) k at (S.table.standing x) (S.table.own x).calls es S.held.words (sound.guarded k x at has next))

  view_comes : (geom : Geom) (S : ShardRun V) → IsShardSound geom S → (k step : ℕ) (o : Option V) → slice_get S.views k ≡ o → Comes k S (made_at S k step o)
  view_comes geom S sound k step None has = inl refl
  view_comes geom S sound k step (Some x) has = atom_comes geom S sound k step x has (S.table.core.next x) refl

  -- the same, from a shard that is alike
  alike_comes : (k : ℕ) (S T N : ShardRun V) → IsAlike S T → Comes k T N → Comes k S N
  alike_comes k S T N is c =
      ⊎_elim
      (λ same.
      inl (same ∙ ap (λ (z : ShardTable V). take (lock_base z.site) T.held.words) is.table_is ∙ ap (λ (z : TheWindow). take (lock_base S.table.site) z.words) is.held_is))
      (λ w.
      inr (record {
        writer = subst (λ z. writers (events_of z) k) is.trace_is w.writer;
        events = w.events;
        behind = w.behind ∙ ap (λ z. events_of z ++ w.events) is.trace_is;
        touch = w.touch;
      }))
      c

  -- a step of rank k, where each shard is sound once its block is opened
  pub step_comes : (m : Running V) (k s : ℕ) (S N : ShardRun V) →
      ((T : ShardRun V) → slice_get (block_opened m k).shards s ≡ Some T → IsShardSound (block_opened m k).geom T) → slice_get m.shards s ≡ Some S →
      slice_get (stepped m k).shards s ≡ Some N → Comes k S N
  step_comes m k s S N sound has there =
      let m1 : Running V = block_opened m k in
      let o = opened_there m k s S has (opens m k) in
      let step : ℕ = steps_made m1.steps in
      let c = changed_there m1.shards (place_of m1 k) s (atom_on k step) o.0 (slice_get m1.shards (place_of m1 k)) refl o.1 in
      let same : c.0 ≡ N = one_at (stepped m k).shards s c.0 N c.1 there in
      alike_comes k S o.0 N o.2
      (subst (Comes k o.0) same
      (⊎_elim (λ q. subst (Comes k o.0) (sym q) (view_comes m1.geom o.0 (sound o.0 o.1) k step (slice_get o.0.views k) refl)) (λ q. inl (ap guarded_words q)) c.2))
