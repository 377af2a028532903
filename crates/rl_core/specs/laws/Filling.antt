-- The words and views of a shard before its first block, filled in one by one; and a list that is read so.
use Rattle.std.specs.Prelude.{◌≡◌, ℕ, zero, suc, ◌+◌, ◌-◌, ◌*◌, ◌<◌, List, [], ◌∷◌, ◌++◌, length, replicate, take, slice_get, slice_index, slice_set, Some, refl}
use Rattle.std.proofs.Common.{◌∙◌, ap, add-one, append_assoc, arith, sym}
use Rattle.std.proofs.lemmas.List.{take_at}
use Rattle.std.proofs.lemmas.Option.{same_Some}
use Rattle.rl_volume.specs.Volume.{start_words}
use Rattle.rl_volume.proofs.StartLaws.{start_size}
use Rattle.rl_site.specs.Site.{Site, places, journal_base, lock_base}
use Rattle.rl_site.specs.Opens.{opening_words}
use Rattle.rl_site.specs.laws.OpeningLaws.{opening_size}
use Rattle.rl_core.specs.ShardTables.{ShardTable, first_views}

-- one element more of a list
pub take_next : {X : Type 0} (xs : List X) (i : ℕ) (x : X) → slice_get xs i ≡ Some x → take (i + 1) xs ≡ take i xs ++ x ∷ []
take_next xs i x get = rw add-one (more xs i get) where
  more : (xs : List _) (i : ℕ) → slice_get xs i ≡ Some x → take (suc i) xs ≡ take i xs ++ x ∷ []
  more [] i get = absurd (cc)
  more (y ∷ xs) zero get = ap (λ z. z ∷ []) (same_Some _ _ get)
  more (y ∷ xs) (suc i) get = ap (λ z. y ∷ z) (more xs i get)

-- ---- the words

-- the first elements of a list, and zeros
abbrev filled : List ℕ → ℕ → ℕ → List ℕ
filled l i zeros = take i l ++ replicate zeros 0

filled_next : (l : List ℕ) (i zeros : ℕ) → i < length l → slice_set (filled l i (suc zeros)) i (slice_index l i) ≡ filled l (suc i) zeros
filled_next [] i z h = absurd (omega arith)
filled_next (x ∷ l) zero z h = refl
filled_next (x ∷ l) (suc i) z h = ap (λ t. x ∷ t) (filled_next l i z (omega arith))

-- zeros behind zeros
zeros_joined : (a b : ℕ) → replicate {A = ℕ} (a + b) 0 ≡ replicate a 0 ++ replicate b 0
zeros_joined zero b = let none : zero + b ≡ b = omega arith in ap (λ n. replicate n 0) none
zeros_joined (suc a) b = let one : suc a + b ≡ suc (a + b) = omega arith in ap (λ n. replicate n 0) one ∙ ap (λ z. 0 ∷ z) (zeros_joined a b)

module _ (site : Site) (behind : ℕ) where
  -- the words of a shard, of which so many are filled in, and all others are 0
  abbrev pub opened_to : ℕ → List ℕ
  opened_to word = filled (opening_words site) word (lock_base site - word + behind)

  pub opened_none : (n : ℕ) → n ≡ lock_base site + behind → replicate n 0 ≡ opened_to 0
  opened_none n e = let same : n ≡ lock_base site - 0 + behind = omega arith in ap (λ k. replicate k 0) same

  -- one word more
  pub opened_next : (word value : ℕ) → word < lock_base site → value ≡ slice_index (opening_words site) word →
      slice_set (opened_to word) word value ≡ opened_to (word + 1)
  opened_next word value low is =
      let all : length (opening_words site) ≡ lock_base site = opening_size site in
      let less : lock_base site - word + behind ≡ suc (lock_base site - (word + 1) + behind) = omega arith in
      let more : suc word ≡ word + 1 = omega arith in
      ap (slice_set (opened_to word) word) is
      ∙ ap (λ n. slice_set (filled (opening_words site) word n) word (slice_index (opening_words site) word)) less
      ∙ filled_next (opening_words site) word (lock_base site - (word + 1) + behind) (omega arith)
      ∙ ap (λ n. filled (opening_words site) n (lock_base site - (word + 1) + behind)) more

  -- all of them, once the volume's are: those behind it are 0
  pub opened_all : (word : ℕ) → word ≡ journal_base site.geom → opened_to word ≡ opening_words site ++ replicate behind 0
  opened_all word e =
      let front : List ℕ = 1 ∷ 0 ∷ start_words site.geom in
      let journal : ℕ = 6 * places site in
      let zeros : lock_base site - word + behind ≡ journal + behind = omega arith in
      let long : length front ≡ word = omega (arith, start_size site.geom) in
      ap (filled (opening_words site) word) zeros
      ∙ ap (λ t. t ++ replicate (journal + behind) 0) (take_at front (replicate journal 0) word long)
      ∙ ap (λ t. front ++ t) (zeros_joined journal behind)
      ∙ sym (append_assoc front (replicate journal 0) (replicate behind 0))

-- ---- the views

module _ {V : Type 0} (T : ShardTable V) where
  pub first_length : (from : ℕ) (rooms : List ℕ) → length (first_views T from rooms) ≡ length rooms
  first_length from [] = refl
  first_length from (room ∷ rooms) = ap suc (first_length (from + 1) rooms)

  pub first_at : (from : ℕ) (rooms : List ℕ) (r : ℕ) (x : V) → slice_get (first_views T from rooms) r ≡ Some x → x ≡ T.first (slice_index rooms r) (from + r)
  first_at from [] r x e = absurd (cc)
  first_at from (room ∷ rooms) zero x e = sym (same_Some _ _ e) ∙ (let at : from ≡ from + 0 = omega arith in ap (T.first room) at)
  first_at from (room ∷ rooms) (suc r) x e = first_at (from + 1) rooms r x e
      ∙ (let at : (from + 1) + r ≡ from + suc r = omega arith in ap (T.first (slice_index rooms r)) at)

  -- one view more
  pub views_next : (from : ℕ) (rooms : List ℕ) (i : ℕ) → i < length rooms →
      first_views T from (take (suc i) rooms) ≡ first_views T from (take i rooms) ++ T.first (slice_index rooms i) (from + i) ∷ []
  views_next from [] i h = absurd (omega arith)
  views_next from (room ∷ rooms) zero h = let at : from ≡ from + 0 = omega arith in ap (λ n. T.first room n ∷ []) at
  views_next from (room ∷ rooms) (suc i) h =
      let at : (from + 1) + i ≡ from + suc i = omega arith in
      ap (λ t. T.first room from ∷ t) (views_next (from + 1) rooms i (omega arith) ∙ ap
      (λ n. first_views T (from + 1) (take i rooms) ++ T.first (slice_index rooms i) n ∷ []) at)
