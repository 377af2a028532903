-- The lock's atoms on the window, whose last words are the lock's.
use Rattle.std.specs.Prelude.{◌≡◌, ℕ, ◌+◌, ◌-◌, ◌<◌, ◌≤◌, ◌==◌, Bool, true, false, List, [], ◌∷◌, zero, suc, length, take, drop, if◌then◌else◌, nat_lt, slice_index, slice_set, refl}
use Rattle.std.proofs.Common.{sym, ◌∙◌, ap, subst, arith, length-drop, length-take, get_or-drop, get_or-set_other}
use Rattle.std.proofs.lemmas.List.{drop-set-add, get_or-take}
use Rattle.std.proofs.lemmas.Bool.Decides.{nat_tests}
use Rattle.rl_word.specs.declared.acts.Atom.{Atom}
use Rattle.rl_word.specs.declared.acts.Atom.TheVariants as atom
use Rattle.rl_step.specs.Do.{do_words, do_cards, do_got, CanDo}
use Rattle.rl_rank.specs.Running.{LockAt}
use Rattle.rl_rank.specs.Split.{home_of}
use Rattle.rl_rank.specs.Whole.{shifted, home_of_word, lock_words}

-- an atom of the lock, shifted, does to the words from base on what the atom does to the lock's words
pub shift_words : (base : ℕ) (at : Atom) (ws : List ℕ) → drop base (do_words (shifted base at) ws) ≡ do_words at (drop base ws)
shift_words base (atom.Load w) ws = refl
shift_words base (atom.Store w v) ws = drop-set-add base ws w v
shift_words base (atom.LocalCas w old new) ws = cas_drops base ws w old new (slice_index ws (base + w)) (slice_index (drop base ws) w)
    (sym (get_or-drop base ws w 0)) where
      cas_drops : (base : ℕ) (ws : List ℕ) (w old new g k : ℕ) → g ≡ k →
          drop base (if g == old then slice_set ws (base + w) new else ws) ≡ (if k == old then slice_set (drop base ws) w new else drop base ws)
      cas_drops base ws w old new g k e =
          subst (λ z. drop base (if g == old then slice_set ws (base + w) new else ws) ≡
          (if z == old then slice_set (drop base ws) w new else drop base ws)) e
          (either (g == old)) where
            either : (b : Bool) → drop base (if b then slice_set ws (base + w) new else ws) ≡ (if b then slice_set (drop base ws) w new else drop base ws)
            either true = drop-set-add base ws w new
            either false = refl
shift_words base (atom.Take n) ws = refl
shift_words base (atom.CardLoad w) ws = refl
shift_words base (atom.CardStore w v) ws = drop-set-add base ws w v
shift_words base (atom.Leave n) ws = refl

pub shift_cards : (base r : ℕ) (at : Atom) (cs : List ℕ) → do_cards r (shifted base at) cs ≡ do_cards r at cs
shift_cards base r (atom.Load w) cs = refl
shift_cards base r (atom.Store w v) cs = refl
shift_cards base r (atom.LocalCas w old new) cs = refl
shift_cards base r (atom.Take n) cs = refl
shift_cards base r (atom.CardLoad w) cs = refl
shift_cards base r (atom.CardStore w v) cs = refl
shift_cards base r (atom.Leave n) cs = refl

pub shift_got : (base : ℕ) (at : Atom) (ws cs : List ℕ) → do_got (shifted base at) ws cs ≡ do_got at (drop base ws) cs
shift_got base (atom.Load w) ws cs = sym (get_or-drop base ws w 0)
shift_got base (atom.Store w v) ws cs = refl
shift_got base (atom.LocalCas w old new) ws cs = sym (get_or-drop base ws w 0)
shift_got base (atom.Take n) ws cs = refl
shift_got base (atom.CardLoad w) ws cs = sym (get_or-drop base ws w 0)
shift_got base (atom.CardStore w v) ws cs = refl
shift_got base (atom.Leave n) ws cs = refl

pub there : (base w : ℕ) (ws : List ℕ) → w < length (drop base ws) → base + w < length ws
there base w ws h = omega (arith, length-drop base ws)

pub shift_home : {V K : Type 0} (L : LockAt V K) (home : ℕ) (w : ℕ) → w < L.table.size → home_of_word L home (L.base + w) ≡ home_of L.table w
shift_home L home w low =
    let e : nat_lt (L.base + w) L.base ≡ false = grind (arith, nat_tests) in
    let d : L.base + w - L.base ≡ w = omega arith in
    let f : nat_lt w L.table.size ≡ true = grind (arith, nat_tests) in
    rw (e, d, f) refl

-- the word of an atom is one of the first so many, if it has one
abbrev pub IsLow : ℕ → Atom → Type 0
IsLow n (atom.Load w) = w < n
IsLow n (atom.Store w v) = w < n
IsLow n (atom.LocalCas w old new) = w < n
IsLow n (atom.Take m) = Unit {0}
IsLow n (atom.CardLoad w) = w < n
IsLow n (atom.CardStore w v) = w < n
IsLow n (atom.Leave m) = Unit {0}

-- it is so of an atom that can be made on them
pub can_low : (n home r : ℕ) (at : Atom) (ws cs : List ℕ) → CanDo home r at (take n ws) cs → IsLow n at
can_low n home r (atom.Load w) ws cs c = let h : w < length (take n ws) = c in omega (arith, length-take n ws)
can_low n home r (atom.Store w v) ws cs c = let h : w < length (take n ws) = c in omega (arith, length-take n ws)
can_low n home r (atom.LocalCas w old new) ws cs c = let h : w < length (take n ws) = c in omega (arith, length-take n ws)
can_low n home r (atom.Take m) ws cs c = tt
can_low n home r (atom.CardLoad w) ws cs c = let h : w < length (take n ws) = c.0 in omega (arith, length-take n ws)
can_low n home r (atom.CardStore w v) ws cs c = let h : w < length (take n ws) = c.0 in omega (arith, length-take n ws)
can_low n home r (atom.Leave m) ws cs c = tt

take_set_in : (n : ℕ) (l : List ℕ) (i v : ℕ) → i < n → take n (slice_set l i v) ≡ slice_set (take n l) i v
take_set_in zero l i v h = absurd (omega arith)
take_set_in (suc n) [] i v h = refl
take_set_in (suc n) (x ∷ xs) zero v h = refl
take_set_in (suc n) (x ∷ xs) (suc i) v h = ap (λ z. x ∷ z) (take_set_in n xs i v (omega arith))

-- such an atom does to the first words what it does to all
pub take_got : (n : ℕ) (at : Atom) (ws cs : List ℕ) → IsLow n at → do_got at ws cs ≡ do_got at (take n ws) cs
take_got n (atom.Load w) ws cs low = sym (get_or-take n ws w 0 low)
take_got n (atom.Store w v) ws cs low = refl
take_got n (atom.LocalCas w old new) ws cs low = sym (get_or-take n ws w 0 low)
take_got n (atom.Take m) ws cs low = refl
take_got n (atom.CardLoad w) ws cs low = sym (get_or-take n ws w 0 low)
take_got n (atom.CardStore w v) ws cs low = refl
take_got n (atom.Leave m) ws cs low = refl

pub take_words : (n : ℕ) (at : Atom) (ws : List ℕ) → IsLow n at → take n (do_words at ws) ≡ do_words at (take n ws)
take_words n (atom.Load w) ws low = refl
take_words n (atom.Store w v) ws low = take_set_in n ws w v low
take_words n (atom.LocalCas w old new) ws low =
    subst (λ z. take n (if slice_index ws w == old then slice_set ws w new else ws) ≡
    (if z == old then slice_set (take n ws) w new else take n ws)) (sym (get_or-take n ws w 0 low))
    (either (slice_index ws w == old)) where
      either : (b : Bool) → take n (if b then slice_set ws w new else ws) ≡ (if b then slice_set (take n ws) w new else take n ws)
      either true = take_set_in n ws w new low
      either false = refl
take_words n (atom.Take m) ws low = refl
take_words n (atom.CardLoad w) ws low = refl
take_words n (atom.CardStore w v) ws low = take_set_in n ws w v low
take_words n (atom.Leave m) ws low = refl

-- so the lock's atoms, shifted, do to the lock's words
pub lock_words_made : {V K : Type 0} (L : LockAt V K) (at : Atom) (ws : List ℕ) → IsLow L.table.size at →
    lock_words L (do_words (shifted L.base at) ws) ≡ do_words at (lock_words L ws)
lock_words_made L at ws low = ap (take L.table.size) (shift_words L.base at ws) ∙ take_words L.table.size at (drop L.base ws) low

pub lock_got : {V K : Type 0} (L : LockAt V K) (at : Atom) (ws cs : List ℕ) → IsLow L.table.size at →
    do_got (shifted L.base at) ws cs ≡ do_got at (lock_words L ws) cs
lock_got L at ws cs low = shift_got L.base at ws cs ∙ take_got L.table.size at (drop L.base ws) cs low

-- and leave the words behind the lock's
above_set : (ws : List ℕ) (i u v n base : ℕ) → i < n → base + n ≤ u → slice_index (slice_set ws (base + i) v) u ≡ slice_index ws u
above_set ws i u v n base low high = get_or-set_other ws (base + i) u v 0 (λ e. absurd (omega arith))

pub above_stays : (base n : ℕ) (at : Atom) (ws : List ℕ) (u : ℕ) → IsLow n at → base + n ≤ u → slice_index (do_words (shifted base at) ws) u ≡ slice_index ws u
above_stays base n (atom.Load w) ws u low h = refl
above_stays base n (atom.Store w v) ws u low h = above_set ws w u v n base low h
above_stays base n (atom.LocalCas w old new) ws u low h = either (slice_index ws (base + w) == old) where
  either : (b : Bool) → slice_index (if b then slice_set ws (base + w) new else ws) u ≡ slice_index ws u
  either true = above_set ws w u new n base low h
  either false = refl
above_stays base n (atom.Take m) ws u low h = refl
above_stays base n (atom.CardLoad w) ws u low h = refl
above_stays base n (atom.CardStore w v) ws u low h = above_set ws w u v n base low h
above_stays base n (atom.Leave m) ws u low h = refl
