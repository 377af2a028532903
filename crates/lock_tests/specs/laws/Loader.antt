-- The laws of the core that the tests use, whose ranks load the one word again and again.
use Rattle.std.specs.Prelude.{◌≡◌, ℕ, ◌<◌, List, length, Some}
use Rattle.std.proofs.Common.{subst, arith}
use Rattle.std.proofs.lemmas.Option.{same_Some}
use Rattle.rl_word.specs.declared.acts.Atom.{Atom}
use Rattle.rl_word.specs.declared.acts.Atom.TheVariants.{Load}
use Rattle.rl_step.specs.declared.events.Stepped.TheVariants.{Moved, Finished}
use Rattle.rl_step.specs.Do.{TheWindow, do_atom, CanDo}
use Rattle.rl_step.specs.Core.{CoreLaws, home_at}
use Rattle.lock_tests.specs.Loader.{loader_table}

-- the load can be made, and leaves one word
can_load : (h : TheWindow) (r : ℕ) (at : Atom) → length h.words ≡ 1 → Some (Load 0) ≡ Some at → CanDo (home_at (λ w. 0) at) r at h.words h.cards
can_load h r at one e =
    let there : 0 < length h.words = omega (arith, one) in
    subst (λ z. CanDo (home_at (λ w. 0) z) r z h.words h.cards) (same_Some _ _ e) there

load_keeps : (h : TheWindow) (r : ℕ) (at : Atom) → length h.words ≡ 1 → Some (Load 0) ≡ Some at → length (do_atom r at h).words ≡ 1
load_keeps h r at one e = subst (λ z. length (do_atom r z h).words ≡ 1) (same_Some _ _ e) one

-- an atom is never answered Finished
goes_on : Moved ≡ Finished → ⊥
goes_on e = cc

pub loader_laws : CoreLaws loader_table (λ h vs. length h.words ≡ 1)
loader_laws =
    record {
      sized = λ h vs e. e;
      can = λ h vs r v at p. can_load h r at p.is_ruled p.planned;
      keeps = λ h vs r v at p low. load_keeps h r at p.is_ruled p.planned;
      goes_on = λ h vs r v at p e. goes_on e;
    }
