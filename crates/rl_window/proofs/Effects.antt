-- What each atom does to the table's words, which are the window's words and then the cards, apart.
use Rattle.std.proofs.Common.{◌≡◌, ℕ, ◌+◌, ◌*◌, ◌-◌, ◌<◌, eqb, cond, Bool, true, false, List, ◌++◌, length, get_or, set, refl, ap, ◌∙◌, subst, arith, get_or-append-add}
use Rattle.std.proofs.lemmas.List.{get_or_append_left, set-append_left, set-append_right, set-get_or}
use prog.Atomic.{either}
use Rattle.rl_step.specs.Do.{do_got, do_words, do_cards}
use Rattle.rl_word.specs.declared.acts.Atom.{Atom}
use Rattle.rl_word.specs.declared.acts.Atom.TheVariants.{Load, Store, LocalCas, Take, CardLoad, CardStore, Leave}
use Rattle.rl_window.specs.Rule.{apart}
use Rattle.rl_window.proofs.Apart.{at_apart, set_apart}

behind : (ws cs : List ℕ) (size n : ℕ) → length ws ≡ size → get_or (ws ++ cs) (size + n) 0 ≡ get_or cs n 0
behind ws cs size n e = subst (λ (k : ℕ). get_or (ws ++ cs) (k + n) 0 ≡ get_or cs n 0) e (get_or-append-add ws cs n 0)

set_behind : (ws cs : List ℕ) (size n y : ℕ) → length ws ≡ size → set (ws ++ cs) (size + n) y ≡ ws ++ set cs n y
set_behind ws cs size n y e = let back : (size + n) - size ≡ n = omega arith in set-append_right ws cs size (size + n) y e (omega arith) ∙ ap (λ (k : ℕ). ws ++ set cs k y) back

at_card : (ws cs : List ℕ) (size n : ℕ) → length ws ≡ size → get_or (ws ++ apart cs) (size + (8 * n + 7)) 0 ≡ get_or cs n 0
at_card ws cs size n e = behind ws (apart cs) size (8 * n + 7) e ∙ at_apart cs n

set_card : (ws cs : List ℕ) (size n y : ℕ) → length ws ≡ size → set (ws ++ apart cs) (size + (8 * n + 7)) y ≡ ws ++ apart (set cs n y)
set_card ws cs size n y e = set_behind ws (apart cs) size (8 * n + 7) y e ∙ ap (λ (l : List ℕ). ws ++ l) (set_apart cs n y)

chosen : (l : List ℕ) (i new : ℕ) (b : Bool) → set l i (either b new (get_or l i 0)) ≡ cond b (set l i new) l
chosen l i new true = refl
chosen l i new false = set-get_or l i 0

-- the step on the word i, which becomes f of what it was, is the atom, which gives g of what the word was
abbrev pub IsAtom : ℕ → Atom → ℕ → (ℕ → ℕ) → (ℕ → ℕ) → List ℕ → List ℕ → Type 0
IsAtom r a i f g ws cs = let n = get_or (ws ++ apart cs) i 0 in (set (ws ++ apart cs) i (f n) ≡ do_words a ws ++ apart (do_cards r a cs)) × (g n ≡ do_got a ws cs)

pub loads : (ws cs : List ℕ) (r w : ℕ) → w < length ws → IsAtom r (Load w) w (λ n. n) (λ n. n) ws cs
loads ws cs r w h = (set-get_or (ws ++ apart cs) w 0, get_or_append_left ws (apart cs) 0 w h)

pub card_loads : (ws cs : List ℕ) (r w : ℕ) → w < length ws → IsAtom r (CardLoad w) w (λ n. n) (λ n. n) ws cs
card_loads ws cs r w h = (set-get_or (ws ++ apart cs) w 0, get_or_append_left ws (apart cs) 0 w h)

pub stores : (ws cs : List ℕ) (r w v : ℕ) → w < length ws → IsAtom r (Store w v) w (λ _. v) (λ _. 0) ws cs
stores ws cs r w v h = (set-append_left ws (apart cs) w v h, refl)

pub card_stores : (ws cs : List ℕ) (r w v : ℕ) → w < length ws → IsAtom r (CardStore w v) w (λ _. v) (λ _. 0) ws cs
card_stores ws cs r w v h = (set-append_left ws (apart cs) w v h, refl)

pub exchanges : (ws cs : List ℕ) (r w old new : ℕ) → w < length ws → IsAtom r (LocalCas w old new) w (λ n. either (eqb n old) new n) (λ n. n) ws cs
exchanges ws cs r w old new h =
    let at = get_or_append_left ws (apart cs) 0 w h in
    let one = ap (λ (n : ℕ). set (ws ++ apart cs) w (either (eqb n old) new n)) at in
    let two = set-append_left ws (apart cs) w (either (eqb (get_or ws w 0) old) new (get_or ws w 0)) h in
    let three = ap (λ (l : List ℕ). l ++ apart cs) (chosen ws w new (eqb (get_or ws w 0) old)) in (one ∙ (two ∙ three), at)

pub takes : (ws cs : List ℕ) (size r n : ℕ) → length ws ≡ size → IsAtom r (Take n) (size + (8 * n + 7)) (λ x. either (eqb x 0) (r + 1) x) (λ x. x) ws cs
takes ws cs size r n e =
    let at = at_card ws cs size n e in
    let one = ap (λ (x : ℕ). set (ws ++ apart cs) (size + (8 * n + 7)) (either (eqb x 0) (r + 1) x)) at in
    let two = set_card ws cs size n (either (eqb (get_or cs n 0) 0) (r + 1) (get_or cs n 0)) e in
    let three = ap (λ (l : List ℕ). ws ++ apart l) (chosen cs n (r + 1) (eqb (get_or cs n 0) 0)) in (one ∙ (two ∙ three), at)

pub leaves : (ws cs : List ℕ) (size r n : ℕ) → length ws ≡ size → IsAtom r (Leave n) (size + (8 * n + 7)) (λ _. 0) (λ _. 0) ws cs
leaves ws cs size r n e = (set_card ws cs size n 0 e, refl)
