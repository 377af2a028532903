-- The spin lock has no dead end: while its word names a rank, that one works or releases the lock; and where the word is 0 every rank
-- that tries gets in.
use Rattle.std.specs.Prelude.{◌≡◌, ◌⊎◌, ℕ, zero, suc, ◌+◌, ◌<◌, ◌≤◌, slice_get, slice_index, slice_set, sum_by, Some, refl}
use Rattle.std.proofs.Common.{sym, ◌∙◌, ap, subst, inl, inr, ⊎_elim, arith}
use Rattle.rl_step.specs.declared.events.Standing.TheVariants as standing
use Rattle.rl_step.specs.Lock.{LockState, AllOut}
use Rattle.rl_spin.specs.declared.view.SpinView.{SpinView}
use Rattle.rl_spin.specs.declared.view.SpinPhase.{SpinPhase}
use Rattle.rl_spin.specs.declared.view.SpinPhase.TheVariants.{Out, Trying, Inside, Releasing}
use Rattle.rl_spin.specs.Spin.{SpinGood, spin_table, spin_at_phase, Owns, spin_standing, spin_learn}
use Rattle.rl_spin.specs.SpinLeft.{acts_in, acts_of, spin_left}
use Rattle.rl_ending.specs.Ending.{LockEnds, CanGoOn}
use Rattle.rl_ending.specs.laws.Sums.{sum_falls, sum_grows}
use Rattle.rl_ending.specs.laws.EndingLaws.{all_out_or_not, goes_on_by}

-- who owns the word can go on
pub owner_goes : (n home : ℕ) (s : LockState SpinView) (r k : ℕ) (p : SpinPhase) → slice_get s.views r ≡ Some (spin_at_phase k p) → Owns p →
    CanGoOn (spin_table home) spin_left s r
owner_goes n home s r k Out has o = absurd o
owner_goes n home s r k Trying has o = absurd o
owner_goes n home s r k Inside has o = record { view = spin_at_phase k Inside; has = has; way = inl tt }
owner_goes n home s r k Releasing has o =
    goes_on_by (spin_at_phase k Releasing) _ has refl
    (sum_falls acts_of s.views r (spin_at_phase k Releasing) (spin_at_phase k Out) has (omega arith))

-- and where the word is 0, so can everybody who isn't out
pub free_goes : (n home : ℕ) (s : LockState SpinView) (r k : ℕ) (p : SpinPhase) → slice_index s.words 0 ≡ 0 →
    slice_get s.views r ≡ Some (spin_at_phase k p) → (spin_standing p ≡ standing.Out → ⊥) → CanGoOn (spin_table home) spin_left s r
free_goes n home s r k Out free has busy = absurd (busy refl)
free_goes n home s r k Trying free has busy =
    let enters : (spin_learn k Trying (slice_index s.words 0)).view ≡ spin_at_phase k Inside = ap (λ w. (spin_learn k Trying w).view) free in
    goes_on_by (spin_at_phase k Trying) _ has refl
    (subst (λ v. sum_by acts_of (slice_set s.views r v) < sum_by acts_of s.views)
    (sym enters) (sum_falls acts_of s.views r (spin_at_phase k Trying) (spin_at_phase k Inside) has (omega arith)))
free_goes n home s r k Inside free has busy = owner_goes n home s r k Inside has tt
free_goes n home s r k Releasing free has busy = owner_goes n home s r k Releasing has tt

goes_by : (n home : ℕ) (s : LockState SpinView) (w : ℕ) → SpinGood n s → slice_index s.words 0 ≡ w →
    AllOut (spin_table home) s ⊎ ((r : ℕ) × CanGoOn (spin_table home) spin_left s r)
goes_by n home s zero g e =
    ⊎_elim inl (λ b. inr (b.0, free_goes n home s b.0 b.1.view.rank b.1.view.phase e b.1.has b.1.busy))
    (all_out_or_not (λ (v : SpinView). spin_standing v.phase) s.views)
goes_by n home s (suc w) g e =
    let here : slice_index s.words 0 ≡ w + 1 = e ∙ omega arith in
    let h = g.held w here in inr (w, owner_goes n home s w h.0.rank h.0.phase h.1 h.2)

few : (p : SpinPhase) → acts_in p ≤ 1
few Out = omega arith
few Trying = omega arith
few Inside = omega arith
few Releasing = omega arith

pub spin_ends : (n home : ℕ) → LockEnds (spin_table home) spin_left (SpinGood n) 1
spin_ends n home =
    record {
      somebody = λ s g. goes_by n home s (slice_index s.words 0) g refl;
      ask_adds = λ s r v m g has out. sum_grows acts_of s.views r 1 v (spin_at_phase v.rank Trying) has (few Trying);
      leave_adds = λ s r v g has holds. sum_grows acts_of s.views r 1 v (spin_at_phase v.rank Releasing) has (few Releasing);
    }
