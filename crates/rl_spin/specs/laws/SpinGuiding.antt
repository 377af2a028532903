-- The spin lock says who goes on: nobody but who owns its word while that names a rank, and everybody who isn't out where it is 0.
use Rattle.std.specs.Prelude.{◌≡◌, ℕ, zero, suc, ◌+◌, ◌<◌, slice_get, slice_index, Some, None, refl}
use Rattle.std.proofs.Common.{◌∙◌, subst, ⊎_elim, arith}
use Rattle.std.proofs.Math.Dec.{eqb-suc-zero}
use Rattle.rl_step.specs.declared.events.Standing.TheVariants as standing
use Rattle.rl_step.specs.Lock.{LockState, AllOut}
use Rattle.rl_spin.specs.declared.view.SpinView.{SpinView}
use Rattle.rl_spin.specs.declared.view.SpinPhase.{SpinPhase}
use Rattle.rl_spin.specs.declared.view.SpinPhase.TheVariants.{Out, Trying, Inside, Releasing}
use Rattle.rl_spin.specs.Spin.{SpinGood, spin_table, spin_at_phase, Owns, spin_standing}
use Rattle.rl_spin.specs.SpinLeft.{spin_left}
use Rattle.rl_spin.specs.SpinUrgency.{urgent_in, spin_urgent}
use Rattle.rl_spin.specs.laws.SpinEnding.{owner_goes, free_goes}
use Rattle.rl_ending.specs.Ending.{CanGoOn}
use Rattle.rl_ending.specs.laws.EndingLaws.{all_out_or_not}
use Rattle.rl_ending.specs.Guiding.{LockGuides, NoneUrgent}

-- who tries isn't urgent while the word names a rank
taken : (w n : ℕ) → urgent_in (suc w) Trying ≡ Some n → ⊥
taken w n e = let not = eqb-suc-zero w in cc

few_at : (w n : ℕ) (p : SpinPhase) → urgent_in w p ≡ Some n → n < 8
few_at w n Out e = cc
few_at zero n Trying e = let z : 0 ≡ n = cc in omega arith
few_at (suc w) n Trying e = absurd (taken w n e)
few_at w n Inside e = let z : 0 ≡ n = cc in omega arith
few_at w n Releasing e = let z : 0 ≡ n = cc in omega arith

goes_at : (n home : ℕ) (s : LockState SpinView) (r k u w : ℕ) (p : SpinPhase) → slice_index s.words 0 ≡ w →
    slice_get s.views r ≡ Some (spin_at_phase k p) → urgent_in w p ≡ Some u → CanGoOn (spin_table home) spin_left s r
goes_at n home s r k u w Out is has e = cc
goes_at n home s r k u zero Trying is has e = free_goes n home s r k Trying is has (λ z. cc)
goes_at n home s r k u (suc w) Trying is has e = absurd (taken w u e)
goes_at n home s r k u w Inside is has e = owner_goes n home s r k Inside has tt
goes_at n home s r k u w Releasing is has e = owner_goes n home s r k Releasing has tt

pub spin_guides : (n home : ℕ) → LockGuides (spin_table home) spin_left (SpinGood n) spin_urgent
spin_guides n home =
    record {
      few = λ words v k e. few_at (slice_index words 0) k v.phase e;
      goes = λ s r g c. goes_at n home s r c.view.rank c.urgency (slice_index s.words 0) c.view.phase refl c.has c.is_urgent;
      rest = λ s g none. rests_by s (slice_index s.words 0) g none refl;
    } where
      -- who owns the word is urgent, and where the word is 0 so is everybody who isn't out
      owner_urgent : (w : ℕ) (p : SpinPhase) → Owns p → urgent_in w p ≡ None → ⊥
      owner_urgent w Out o e = absurd o
      owner_urgent w Trying o e = absurd o
      owner_urgent w Inside o e = cc
      owner_urgent w Releasing o e = cc

      free_urgent : (p : SpinPhase) → (spin_standing p ≡ standing.Out → ⊥) → urgent_in 0 p ≡ None → ⊥
      free_urgent Out busy e = busy refl
      free_urgent Trying busy e = cc
      free_urgent Inside busy e = cc
      free_urgent Releasing busy e = cc

      rests_by : (s : LockState SpinView) (w : ℕ) → SpinGood n s → NoneUrgent (spin_urgent s.words) s.views → slice_index s.words 0 ≡ w →
          AllOut (spin_table home) s
      rests_by s zero g none is =
          ⊎_elim (λ out. out) (λ b. absurd (free_urgent b.1.view.phase b.1.busy
          (subst (λ z. urgent_in z b.1.view.phase ≡ None) is (none b.0 b.1.view b.1.has))))
          (all_out_or_not (λ (v : SpinView). spin_standing v.phase) s.views)
      rests_by s (suc w) g none is =
          let here : slice_index s.words 0 ≡ w + 1 = is ∙ omega arith in
          let h = g.held w here in absurd (owner_urgent (slice_index s.words 0) h.0.phase h.2 (none w h.0 h.1))
