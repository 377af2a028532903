-- What single acts and atoms do to words, cards and sides, before any law of a lock.
use Rattle.std.specs.Prelude.{◌≡◌, ◌≢◌, ◌⊎◌, ℕ, zero, suc, ◌+◌, ◌<◌, ◌==◌, Bool, true, false, List, length, replicate, if◌then◌else◌, slice_index, slice_set, not, ◌-◌, Option, Some, None, refl}
use Rattle.std.proofs.Common.{sym, ◌∙◌, ap, inl, inr, ⊎_elim, arith, get_or-set_other}
use Rattle.std.proofs.lemmas.List.{set-get_or, get_or_past}
use Rattle.std.proofs.lemmas.Bool.{cases_lt, true≢false}
use Rattle.rl_word.specs.declared.classes.Spot.{Spot}
use Rattle.rl_step.specs.declared.events.Stepped.TheVariants.{Moved, Busy}
use Rattle.std.proofs.lemmas.Bool.Decides.{eqb_tells}
use Rattle.rl_word.specs.Acts.{word_of, written, told, by_card, IsAllowed}
use Rattle.rl_word.specs.declared.acts.Act.{Act}
use Rattle.rl_word.specs.declared.acts.Act.TheVariants as act
use Rattle.rl_word.specs.declared.classes.Class.TheVariants as class
use Rattle.rl_word.specs.declared.acts.Atom.TheVariants as atom
use Rattle.rl_step.specs.Lock.{LockTable}
use Rattle.rl_step.specs.Do.{do_words, do_cards, do_got}
use Rattle.rl_rank.specs.declared.card_state.CardState.{CardState}
use Rattle.rl_rank.specs.declared.card_state.CardState.TheVariants.{Free, InCard, Loaded, ToLeave}
use Rattle.rl_rank.specs.declared.effect.Effect.TheVariants.{Stay, Learn}
use Rattle.rl_rank.specs.Split.{card_after, StandsStill, skips, home_of, turned_side, first_at, first_atom}

pub plain_not_card : class.Plain ≡ class.Card → ⊥
plain_not_card e = cc

pub local_not_card : class.Local ≡ class.Card → ⊥
local_not_card e = cc

pub bool_cases : (b : Bool) → (b ≡ true) ⊎ (b ≡ false)
bool_cases true = inl refl
bool_cases false = inr refl

-- a number that isn't 0 stands within the list
pub in_range : (cs : List ℕ) (n k : ℕ) → slice_index cs n ≡ k + 1 → n < length cs
in_range cs n k e = ⊎_elim (λ lt. lt) (λ past. let z : slice_index cs n ≡ 0 = get_or_past cs n 0 past in absurd (omega arith)) (cases_lt n (length cs))

-- what was loaded still stands after a write elsewhere
pub still_after_write : (ws : List ℕ) (w x : ℕ) (p : Option Act) (h : CardState) → StandsStill ws p h →
    ((a : Act) (g : ℕ) → p ≡ Some a → h ≡ Loaded g → by_card a ≡ true → word_of a ≢ w) → StandsStill (slice_set ws w x) p h
still_after_write ws w x p Free k ne = tt
still_after_write ws w x p (ToLeave n) k ne = tt
still_after_write ws w x None InCard k ne = k
still_after_write ws w x None (Loaded g) k ne = k
still_after_write ws w x (Some a) InCard k ne = k
still_after_write ws w x (Some a) (Loaded g) k ne =
    (k.0, k.1, get_or-set_other ws w (word_of a) x 0 (ne a g refl refl k.0) ∙ k.2)

-- the local compare-and-swap writes what `written` says
pub cas_writes : (ws : List ℕ) (w old new : ℕ) (b : Bool) →
    (if b then slice_set ws w new else ws) ≡ slice_set ws w (if b then new else slice_index ws w)
cas_writes ws w old new true = refl
cas_writes ws w old new false = sym (set-get_or ws w 0)

pub zeros : (m n : ℕ) → slice_index (replicate m 0) n ≡ 0
zeros zero n = refl
zeros (suc m) zero = refl
zeros (suc m) (suc n) = zeros m n

-- acts by card, and acts of one atom
pub card_cases : (P : Act → Type 0) → ((w old new : ℕ) → P (act.CardCas w old new)) → ((w v : ℕ) → P (act.CardSwap w v)) →
    ((w d : ℕ) → P (act.CardAdd w d)) → (a : Act) → by_card a ≡ true → P a
card_cases P cas swap add (act.Load w) e = cc
card_cases P cas swap add (act.Store w v) e = cc
card_cases P cas swap add (act.LocalCas w old new) e = cc
card_cases P cas swap add (act.CardCas w old new) e = cas w old new
card_cases P cas swap add (act.CardSwap w v) e = swap w v
card_cases P cas swap add (act.CardAdd w d) e = add w d

pub plain_cases : (P : Act → Type 0) → ((w : ℕ) → P (act.Load w)) → ((w v : ℕ) → P (act.Store w v)) →
    ((w old new : ℕ) → P (act.LocalCas w old new)) → (a : Act) → by_card a ≡ false → P a
plain_cases P load store cas (act.Load w) e = load w
plain_cases P load store cas (act.Store w v) e = store w v
plain_cases P load store cas (act.LocalCas w old new) e = cas w old new
plain_cases P load store cas (act.CardCas w old new) e = cc
plain_cases P load store cas (act.CardSwap w v) e = cc
plain_cases P load store cas (act.CardAdd w d) e = cc

-- a card act begins with a take
pub begins_so : (home : ℕ) (a : Act) → by_card a ≡ true → first_at home a ≡ atom.Take home
begins_so home = card_cases (λ a. first_at home a ≡ atom.Take home) (λ w old new. refl) (λ w v. refl) (λ w d. refl)

module _ (V : Type 0) (T : LockTable V) where
  pub first_card : (a : Act) → by_card a ≡ true → first_atom T a ≡ atom.Take (home_of T (word_of a))
  first_card a e = begins_so (home_of T (word_of a)) a e

  -- any other act is one atom
  pub plain_words : (a : Act) (ws : List ℕ) → by_card a ≡ false →
      do_words (first_atom T a) ws ≡ slice_set ws (word_of a) (written a (slice_index ws (word_of a)))
  plain_words a ws e =
      plain_cases (λ b. do_words (first_atom T b) ws ≡ slice_set ws (word_of b) (written b (slice_index ws (word_of b))))
      (λ w. sym (set-get_or ws w 0)) (λ w v. refl) (λ w old new. cas_writes ws w old new (slice_index ws w == old)) a e

  pub plain_cards : (a : Act) (r : ℕ) (cs : List ℕ) → by_card a ≡ false → do_cards r (first_atom T a) cs ≡ cs
  plain_cards a r cs e = plain_cases (λ b. do_cards r (first_atom T b) cs ≡ cs) (λ w. refl) (λ w v. refl) (λ w old new. refl) a e

  pub plain_got : (a : Act) (ws cs : List ℕ) → by_card a ≡ false → do_got (first_atom T a) ws cs ≡ told a (slice_index ws (word_of a))
  plain_got a ws cs e = plain_cases (λ b. do_got (first_atom T b) ws cs ≡ told b (slice_index ws (word_of b))) (λ w. refl) (λ w v. refl) (λ w old new. refl) a e

  -- a card act whose store is skipped writes nothing, and tells what it loads
  pub skipped_words : (a : Act) (g : ℕ) → by_card a ≡ true → skips a g ≡ true → written a g ≡ g
  skipped_words a g c e =
      card_cases (λ b. skips b g ≡ true → written b g ≡ g)
      (λ w old new s. ⊎_elim (λ q. absurd (true≢false (sym s ∙ ap not q.0))) (λ q. rw q.0) (eqb_tells g old)) (λ w v s. cc) (λ w d s. cc) a c e

  pub told_card : (a : Act) (g : ℕ) → by_card a ≡ true → told a g ≡ g
  told_card a g c = card_cases (λ b. told b g ≡ g) (λ w old new. refl) (λ w v. refl) (λ w d. refl) a c

  -- the class of a word that a lawful act writes
  pub card_class : (nodes : List ℕ) (r : ℕ) (spot : Spot) (a : Act) → by_card a ≡ true → IsAllowed nodes r spot a → spot.class ≡ class.Card
  card_class nodes r spot a e l = card_cases (λ b. IsAllowed nodes r spot b → spot.class ≡ class.Card) (λ w old new k. k) (λ w v k. k) (λ w d k. k) a e l

  -- an act of one atom writes nothing, or its word is of no Card class
  pub plain_class : (nodes : List ℕ) (r : ℕ) (spot : Spot) (a : Act) → by_card a ≡ false → IsAllowed nodes r spot a →
      ((g : ℕ) → written a g ≡ g) ⊎ (spot.class ≢ class.Card)
  plain_class nodes r spot a e l =
      plain_cases (λ b. IsAllowed nodes r spot b → ((g : ℕ) → written b g ≡ g) ⊎ (spot.class ≢ class.Card))
      (λ w k. inl (λ g. refl)) (λ w v k. inr (λ c. plain_not_card (sym k ∙ c))) (λ w old new k. inr (λ c. local_not_card (sym k.0 ∙ c))) a e l

  -- what an atom leaves, by cases
  pub after_plain : (r : ℕ) (v : V) (a : Act) (got : ℕ) → by_card a ≡ false →
      card_after T r v (Some a) Free got ≡ turned_side T r v (Some a) (Learn Free got (skips a got))
  after_plain r v a got e = rw e

  pub after_take : (r : ℕ) (v : V) (a : Act) (got : ℕ) → by_card a ≡ true → (got == 0) ≡ true →
      card_after T r v (Some a) Free got ≡ turned_side T r v (Some a) (Stay InCard Moved)
  after_take r v a got e z = rw (e, z)

  pub after_busy : (r : ℕ) (v : V) (a : Act) (got : ℕ) → by_card a ≡ true → (got == 0) ≡ false →
      card_after T r v (Some a) Free got ≡ turned_side T r v (Some a) (Stay Free (Busy (home_of T (word_of a)) (got - 1)))
  after_busy r v a got e z = rw (e, z)

  pub after_load : (r : ℕ) (v : V) (a : Act) (got : ℕ) → skips a got ≡ false →
      card_after T r v (Some a) InCard got ≡ turned_side T r v (Some a) (Stay (Loaded got) Moved)
  after_load r v a got e = rw e

  pub after_skip : (r : ℕ) (v : V) (a : Act) (got : ℕ) → skips a got ≡ true →
      card_after T r v (Some a) InCard got ≡ turned_side T r v (Some a) (Learn (ToLeave (home_of T (word_of a))) got true)
  after_skip r v a got e = rw e
