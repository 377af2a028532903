-- The core that the tests use: a rank's view is the atom that it makes next, and a round makes each of the seven kinds once.
use Rattle.std.specs.Prelude.{◌≡◌, ◌≢◌, ℕ, zero, suc, ◌+◌, ◌%◌, ◌^◌, ◌<◌, ◌==◌, Bool, true, false, List, [], ◌∷◌, length, if◌then◌else◌, slice_get, slice_set, slice_index, Option, Some, None, refl}
use Rattle.std.proofs.Common.{subst, sym, ap, ◌∙◌, ⊎_elim, arith, length-set}
use Rattle.std.proofs.lemmas.Bool.{eqb-true}
use Rattle.rl_word.specs.laws.Places.{get_set_cases}
use Rattle.rl_word.specs.declared.acts.Atom.{Atom}
use Rattle.rl_word.specs.declared.acts.Atom.TheVariants.{Load, Store, LocalCas, Take, CardLoad, CardStore, Leave}
use Rattle.rl_step.specs.declared.events.Stepped.TheVariants.{Finished}
use Rattle.rl_step.specs.Do.{TheWindow, do_atom, do_got, do_words, do_cards, CanDo}
use Rattle.rl_step.specs.Core.{CoreLaws, home_at}
use Rattle.rl_window.specs.laws.AtomLengths.{as_many_words, as_many_cards}
use Rattle.lock_tests.specs.Rounds.{moved_to, lost_to, turned, after_found, rounds_table, CanGoOn, GoOn}

-- the only home
home_zero : (at : Atom) → home_at (λ w. 0) at ≡ 0
home_zero (Load w) = refl
home_zero (Store w v) = refl
home_zero (LocalCas w old new) = refl
home_zero (Take n) = refl
home_zero (CardLoad w) = refl
home_zero (CardStore w v) = refl
home_zero (Leave n) = refl

-- after a take that found the card free the rank is in it; after another one it tries again
taken : (b : Bool) (r n got : ℕ) (ws cs : List ℕ) → length ws ≡ 3 → length cs ≡ 1 → n < length cs → CanGoOn r (if b then moved_to (Some (CardLoad 0)) else lost_to (Take n) 0 got).view ws (if b then slice_set cs n (r + 1) else cs)
taken false r n got ws cs wide one low = low
taken true r n got ws [] wide one low = absurd (omega arith)
taken true r zero got ws (c ∷ cs) wide one low = (omega arith, omega arith, refl)
taken true r (suc n) got ws (c ∷ cs) wide one low = absurd (omega arith)

compared : (b : Bool) (r w old new got more : ℕ) (ws cs : List ℕ) → length ws ≡ 3 → w < length ws → CanGoOn r (if b then moved_to (Some (Store 2 new)) else lost_to (LocalCas w got more) old got).view (if b then slice_set ws w new else ws) cs
compared true r w old new got more ws cs wide low = let n = length-set ws w new in omega arith
compared false r w old new got more ws cs wide low = low

-- the rank itself goes on
goes_on_itself : (r : ℕ) (at : Atom) (ws cs : List ℕ) → length ws ≡ 3 → length cs ≡ 1 → CanDo 0 r at ws cs → CanGoOn r (turned at (do_got at ws cs)).view (do_words at ws) (do_cards r at cs)
goes_on_itself r (Take n) ws cs wide one can = taken (slice_index cs n == 0) r n (slice_index cs n) ws cs wide one can
goes_on_itself r (CardLoad w) ws cs wide one can = can
goes_on_itself r (CardStore w v) ws cs wide one can = (can.1, can.2)
goes_on_itself r (Leave n) ws cs wide one can = omega arith
goes_on_itself r (Load w) ws cs wide one can = can
goes_on_itself r (LocalCas w old new) ws cs wide one can = compared (slice_index ws w == old) r w old new (slice_index ws w) ((slice_index ws w + 1) % 2 ^ 64) ws cs wide can
goes_on_itself r (Store w v) ws cs wide one can = tt

-- a rank stays in the card that it is in, whatever atom another rank makes
untaken : (b : Bool) (r o c : ℕ) (n : ℕ) (cs : List ℕ) → (slice_index cs n == 0) ≡ b → n < length cs → length cs ≡ 1 → slice_index cs 0 ≡ o + 1 → slice_index (if b then slice_set cs n (r + 1) else cs) 0 ≡ o + 1
untaken false r o c n cs e low one is = is
untaken true r o c n [] e low one is = absurd (omega arith)
untaken true r o c zero (d ∷ cs) e low one is = let z : d ≡ 0 = eqb-true d 0 e in let k : d ≡ o + 1 = is in absurd (omega arith)
untaken true r o c (suc n) (d ∷ cs) e low one is = absurd (omega arith)

left : (r o n : ℕ) (cs : List ℕ) → r ≢ o → n < length cs → length cs ≡ 1 → slice_index cs n ≡ r + 1 → slice_index cs 0 ≡ o + 1 → slice_index (slice_set cs n 0) 0 ≡ o + 1
left r o n [] ne low one mine is = absurd (omega arith)
left r o zero (d ∷ cs) ne low one mine is = let a : d ≡ r + 1 = mine in let b : d ≡ o + 1 = is in absurd (ne (omega arith))
left r o (suc n) (d ∷ cs) ne low one mine is = absurd (omega arith)

stays_in : (r o : ℕ) (at : Atom) (ws cs : List ℕ) → r ≢ o → length cs ≡ 1 → CanDo 0 r at ws cs → slice_index cs 0 ≡ o + 1 → slice_index (do_cards r at cs) 0 ≡ o + 1
stays_in r o (Take n) ws cs ne one can is = untaken (slice_index cs n == 0) r o 0 n cs refl can one is
stays_in r o (Leave n) ws cs ne one can is = left r o n cs ne can.0 one can.1 is
stays_in r o (CardLoad w) ws cs ne one can is = is
stays_in r o (CardStore w v) ws cs ne one can is = is
stays_in r o (Load w) ws cs ne one can is = is
stays_in r o (Store w v) ws cs ne one can is = is
stays_in r o (LocalCas w old new) ws cs ne one can is = is

-- what a rank needs to make its atom
still_can : (o : ℕ) (at : Atom) (ws cs ws' cs' : List ℕ) → length ws' ≡ length ws → length cs' ≡ length cs → length cs ≡ 1 → (slice_index cs 0 ≡ o + 1 → slice_index cs' 0 ≡ o + 1) → CanDo 0 o at ws cs → CanDo 0 o at ws' cs'
still_can o (Load w) ws cs ws' cs' ew ec one card can = omega arith
still_can o (Store w v) ws cs ws' cs' ew ec one card can = omega arith
still_can o (LocalCas w old new) ws cs ws' cs' ew ec one card can = omega arith
still_can o (Take n) ws cs ws' cs' ew ec one card can = omega arith
still_can o (CardLoad w) ws cs ws' cs' ew ec one card can = let low = can.0 in (omega arith, omega arith, card can.2)
still_can o (CardStore w v) ws cs ws' cs' ew ec one card can = let low = can.0 in (omega arith, omega arith, card can.2)
still_can o (Leave zero) ws cs ws' cs' ew ec one card can = (omega arith, card can.1)
still_can o (Leave (suc n)) ws cs ws' cs' ew ec one card can = let low = can.0 in absurd (omega arith)

another_goes_on : (r o : ℕ) (at : Atom) (v : Option Atom) (ws cs : List ℕ) → r ≢ o → length cs ≡ 1 → CanDo 0 r at ws cs → CanGoOn o v ws cs → CanGoOn o v (do_words at ws) (do_cards r at cs)
another_goes_on r o at None ws cs ne one can go = tt
another_goes_on r o at (Some b) ws cs ne one can go = still_can o b ws cs (do_words at ws) (do_cards r at cs) (as_many_words at ws) (as_many_cards r at cs) one (stays_in r o at ws cs ne one can) go

go_on_after : (h : TheWindow) (vs : List (Option Atom)) (r : ℕ) (at : Atom) → GoOn h vs → slice_get vs r ≡ Some (Some at) → GoOn (do_atom r at h) (slice_set vs r (turned at (do_got at h.words h.cards)).view)
go_on_after h vs r at g has =
    let can : CanDo 0 r at h.words h.cards = g.each r (Some at) has in record {
      words = as_many_words at h.words ∙ g.words;
      cards = as_many_cards r at h.cards ∙ g.cards;
      each = λ o v e. ⊎_elim
          (λ (p : (o ≡ r) × (v ≡ (turned at (do_got at h.words h.cards)).view)). subst (λ z. CanGoOn z v (do_words at h.words) (do_cards r at h.cards)) (sym p.0)
          (subst (λ z. CanGoOn r z (do_words at h.words) (do_cards r at h.cards)) (sym p.1) (goes_on_itself r at h.words h.cards g.words g.cards can)))
          (λ (p : (o ≢ r) × (slice_get vs o ≡ Some v)). another_goes_on r o at v h.words h.cards (λ z. p.0 (sym z)) g.cards can (g.each o v p.1))
          (get_set_cases vs r o (turned at (do_got at h.words h.cards)).view v e);
    }

-- an atom is never answered Finished
unfinished : (b : Bool) (v : Option Atom) (a : Atom) (guess seen : ℕ) → (if b then moved_to v else lost_to a guess seen).stepped ≡ Finished → ⊥
unfinished true v a guess seen e = cc
unfinished false v a guess seen e = cc

not_finished : (at : Atom) (got : ℕ) → (turned at got).stepped ≡ Finished → ⊥
not_finished (Take n) got e = unfinished (got == 0) (Some (CardLoad 0)) (Take n) 0 got e
not_finished (LocalCas w old new) got e = unfinished (got == old) (Some (Store 2 new)) (LocalCas w got ((got + 1) % 2 ^ 64)) old got e
not_finished (Load w) got e = cc
not_finished (Store w v) got e = cc
not_finished (CardLoad w) got e = cc
not_finished (CardStore w v) got e = cc
not_finished (Leave n) got e = cc

pub rounds_laws : CoreLaws rounds_table GoOn
rounds_laws =
    record {
      sized = λ h vs g. g.words;
      can = λ h vs r v at p. subst (λ n. CanDo n r at h.words h.cards) (sym (home_zero at)) (p.is_ruled.each r (Some at) (p.has ∙ ap (λ z. Some z) p.planned));
      keeps = λ h vs r v at p low. subst (λ z. GoOn (do_atom r at h) (slice_set vs r (after_found z (do_got at h.words h.cards)).view)) (sym p.planned) (go_on_after h vs r at p.is_ruled (p.has ∙ ap (λ z. Some z) p.planned));
      goes_on = λ h vs r v at p e. not_finished at (do_got at h.words h.cards) (ap (λ z. (after_found z (do_got at h.words h.cards)).stepped) (sym p.planned) ∙ e);
    }
