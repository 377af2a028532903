-- Either all ranks are out or some rank isn't; and a lock without a dead end has none where fewer of its states are called good.
use Rattle.std.specs.Prelude.{◌≡◌, ◌⊎◌, ◌<◌, ℕ, zero, suc, List, [], ◌∷◌, slice_get, Some, refl}
use Rattle.std.proofs.Common.{sym, ◌∙◌, ap, inl, inr, ⊎_elim}
use Rattle.std.proofs.lemmas.Option.{same_Some}
use Rattle.rl_step.specs.declared.events.Standing.{Standing}
use Rattle.rl_word.specs.declared.acts.Act.{Act}
use Rattle.rl_step.specs.Lock.{LockTable, LockState, acted}
use Rattle.rl_ending.specs.Ending.{LockEnds, CanGoOn, left_in}
use Rattle.rl_step.specs.declared.events.Standing.TheVariants.{Out, Asking, Writer, Reader, Leaving}

pub out_or_not : (st : Standing) → (st ≡ Out) ⊎ (st ≡ Out → ⊥)
out_or_not Out = inl refl
out_or_not Asking = inr (λ e. cc)
out_or_not Writer = inr (λ e. cc)
out_or_not Reader = inr (λ e. cc)
out_or_not Leaving = inr (λ e. cc)

-- a rank that isn't out
pub record IsBusy {V : Type 0} (standing : V → Standing) (vs : List V) (r : ℕ) : Type 0 where
  pub view : V
  pub has : slice_get vs r ≡ Some view
  pub busy : standing view ≡ Out → ⊥

pub all_out_or_not : {V : Type 0} (standing : V → Standing) (vs : List V) →
    ((r : ℕ) (v : V) → slice_get vs r ≡ Some v → standing v ≡ Out) ⊎ ((r : ℕ) × IsBusy standing vs r)
all_out_or_not standing [] = inl (λ r v h. cc)
all_out_or_not standing (x ∷ xs) =
    ⊎_elim
    (λ out. ⊎_elim
    (λ rest. inl (all_of out rest))
    (λ some. inr (suc some.0, record { view = some.1.view; has = some.1.has; busy = some.1.busy }))
    (all_out_or_not standing xs))
    (λ not. inr (0, record { view = x; has = refl; busy = not }))
    (out_or_not (standing x)) where
      all_of : standing x ≡ Out → ((r : ℕ) (v : _) → slice_get xs r ≡ Some v → standing v ≡ Out) → (r : ℕ) (v : _) →
          slice_get (x ∷ xs) r ≡ Some v → standing v ≡ Out
      all_of out rest zero v h = ap standing (sym (same_Some _ _ h)) ∙ out
      all_of out rest (suc r) v h = rest r v h

pub ends_for : {V : Type 0} (T : LockTable V) (left : List ℕ → List V → ℕ) (good narrow : LockState V → Type 0) (most : ℕ) →
    ((s : LockState V) → narrow s → good s) → LockEnds T left good most → LockEnds T left narrow most
ends_for T left good narrow most wide e =
    record {
      somebody = λ s g. e.somebody s (wide s g);
      ask_adds = λ s r v m g has out. e.ask_adds s r v m (wide s g) has out;
      leave_adds = λ s r v g has holds. e.leave_adds s r v (wide s g) has holds;
    }

-- a rank goes on by the act that its view plans, where that leaves less to do
pub goes_on_by : {V : Type 0} {T : LockTable V} {left : List ℕ → List V → ℕ} {s : LockState V} {r : ℕ} (v : V) (a : Act) →
    slice_get s.views r ≡ Some v → T.plan v ≡ Some a → left_in T left (acted T s r v a) < left_in T left s → CanGoOn T left s r
goes_on_by v a has planned less = record { view = v; has = has; way = inr (record { act = a; planned = planned; less = less }) }
