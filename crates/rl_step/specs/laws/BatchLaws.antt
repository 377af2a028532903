-- Bounded batches along the acts of a run: that acts that keep the bound one by one keep it, and which acts do; and that the atoms that show
-- such acts keep it by the lock's words.
use Rattle.std.specs.Prelude.{◌≡◌, ◌⊎◌, ℕ, ◌+◌, ◌^◌, ◌%◌, ◌<◌, ◌≤◌, ◌&&◌, ◌==◌, Bool, true, false, List, [], ◌∷◌, ◌++◌, length, nat_lt, if◌then◌else◌, slice_index, slice_set, refl}
use Rattle.std.proofs.Common.{sym, ◌∙◌, ap, subst, inl, inr, ⊎_elim, arith, get_or-set_same, get_or-set_other}
use Rattle.std.proofs.lemmas.List.{append-nil, append_assoc}
use Rattle.std.proofs.lemmas.Bool.Decides.{eqb_tells, nat_tests}
use Rattle.rl_word.specs.declared.acts.Act.{Act}
use Rattle.rl_word.specs.declared.acts.Act.TheVariants.{Load, Store, LocalCas, CardCas, CardSwap, CardAdd}
use Rattle.rl_word.specs.Acts.{word_of, written, told}
use Rattle.rl_step.specs.declared.events.Event.{Event}
use Rattle.rl_step.specs.Lock.{Deed}
use Rattle.rl_step.specs.Queues.{count}
use Rattle.rl_step.specs.Transitions.{Transition, reader_entries, readers_entered, NeverLowered, IsBatchedAtMost}
use Rattle.rl_step.specs.Batches.{readers_in, lowers, lowerings, since_after, since, BatchedFrom, AreActsOf, AreShown, Batched}

-- ---- acts and the atoms that show them

-- one atom more, with its acts
pub shown_next : (ds es : List Deed) (ts : List Transition) (x : Transition) → AreShown ds ts → AreActsOf es x → AreShown (ds ++ es) (ts ++ x ∷ [])
shown_next _ es _ x AreShown.none is = subst (λ z. AreShown z (x ∷ [])) (append-nil es) (AreShown.more es [] x [] is AreShown.none)
shown_next _ es _ x (AreShown.more ds later y ys here rest) is =
    subst (λ z. AreShown z (y ∷ (ys ++ x ∷ []))) (sym (append_assoc ds later es))
    (AreShown.more ds (later ++ es) y (ys ++ x ∷ []) here (shown_next later es ys x rest is))

-- where the atoms fall into two parts, so do the acts that they show
record SplitAt (ds : List Deed) (p s : List Transition) : Type 0 where
  first : List Deed
  later : List Deed
  is : ds ≡ first ++ later
  first_shown : AreShown first p
  later_shown : AreShown later s

split_shown : (ds : List Deed) (p s : List Transition) → AreShown ds (p ++ s) → SplitAt ds p s
split_shown ds [] s shown = record { first = []; later = ds; is = refl; first_shown = AreShown.none; later_shown = shown }
split_shown _ (x ∷ p) s (AreShown.more ds later _ _ here rest) =
    let q : SplitAt later p s = split_shown later p s rest in
    record {
      first = ds ++ q.first;
      later = q.later;
      is = ap (λ z. ds ++ z) q.is ∙ sym (append_assoc ds q.first q.later);
      first_shown = AreShown.more ds q.first x p here q.first_shown;
      later_shown = q.later_shown;
    }

lowerings_append : (w : ℕ) (ds es : List Deed) → lowerings w (ds ++ es) ≡ lowerings w ds + lowerings w es
lowerings_append w [] es = omega arith
lowerings_append w (d ∷ ds) es = let k : lowerings w (ds ++ es) ≡ lowerings w ds + lowerings w es = lowerings_append w ds es in omega arith

readers_append : (mine : ℕ → Bool) (ds es : List Deed) → readers_in mine (ds ++ es) ≡ readers_in mine ds + readers_in mine es
readers_append mine [] es = omega arith
readers_append mine (d ∷ ds) es = let k : readers_in mine (ds ++ es) ≡ readers_in mine ds + readers_in mine es = readers_append mine ds es in omega arith

-- where no atom lowers the word none of the acts does
none_lowers : (w : ℕ) (ds : List Deed) (ts : List Transition) → AreShown ds ts → NeverLowered w ts → lowerings w ds ≡ 0
none_lowers w _ _ AreShown.none never = refl
none_lowers w _ _ (AreShown.more ds later x xs here rest) never =
    let a : lowerings w (ds ++ later) ≡ lowerings w ds + lowerings w later = lowerings_append w ds later in
    let b : lowerings w ds ≡ 0 = here.lowered w never.0 in
    let c : lowerings w later ≡ 0 = none_lowers w later xs rest never.1 in omega arith

-- the readers that enter by the acts are those of the atoms
same_readers : (mine : ℕ → Bool) (ds : List Deed) (ts : List Transition) → AreShown ds ts → readers_in mine ds ≡ readers_entered mine ts
same_readers mine _ _ AreShown.none = refl
same_readers mine _ _ (AreShown.more ds later x xs here rest) =
    let a : readers_in mine (ds ++ later) ≡ readers_in mine ds + readers_in mine later = readers_append mine ds later in
    let b : readers_in mine ds ≡ reader_entries mine x.events = here.entered mine in
    let c : readers_in mine later ≡ readers_entered mine xs = same_readers mine later xs rest in omega arith

-- an act which writes no less than it finds, where it tells what it finds, lowers no word
written_more : (a : Act) (x : ℕ) → x ≤ written a x → nat_lt (written a (told a x)) (told a x) ≡ false
written_more (Load w) x up = grind (arith, nat_tests)
written_more (Store w v) x up = grind (arith, nat_tests)
written_more (LocalCas w old new) x up = grind (arith, nat_tests)
written_more (CardCas w old new) x up = grind (arith, nat_tests)
written_more (CardSwap w v) x up = grind (arith, nat_tests)
written_more (CardAdd w d) x up = grind (arith, nat_tests)

-- the act of an atom that leaves in its word what the act writes there, and that tells the act's events
pub shows_act : (r : ℕ) (a : Act) (x : Transition) → slice_index x.after (word_of a) ≡ written a (slice_index x.before (word_of a)) →
    AreActsOf (record { rank = r; act = a; got = told a (slice_index x.before (word_of a)); events = x.events } ∷ []) x
shows_act r a x wrote = record { lowered = λ w up. at w up; entered = λ mine. omega arith } where
  at : (w : ℕ) → slice_index x.before w ≤ slice_index x.after w →
      count ((word_of a == w) && nat_lt (written a (told a (slice_index x.before (word_of a)))) (told a (slice_index x.before (word_of a))))
      + 0 ≡ 0
  at w up =
      ⊎_elim
      (λ q.
      let here : slice_index x.before (word_of a) ≤ slice_index x.after (word_of a) =
      subst (λ z. slice_index x.before z ≤ slice_index x.after z) (sym q.1) up in
      let more : slice_index x.before (word_of a) ≤ written a (slice_index x.before (word_of a)) =
      subst (λ z. slice_index x.before (word_of a) ≤ z) wrote here in
      ap (λ z. count (z && nat_lt (written a (told a (slice_index x.before (word_of a)))) (told a (slice_index x.before (word_of a)))) + 0) q.0
      ∙ ap (λ z. count z + 0) (written_more a (slice_index x.before (word_of a)) more))
      (λ q. ap (λ z. count (z && nat_lt (written a (told a (slice_index x.before (word_of a)))) (told a (slice_index x.before (word_of a)))) + 0) q.0)
      (eqb_tells (word_of a) w)

-- an atom with no act, by which no reader enters
pub shows_none : (x : Transition) → ((mine : ℕ → Bool) → reader_entries mine x.events ≡ 0) → AreActsOf [] x
shows_none x quiet = record { lowered = λ w up. refl; entered = λ mine. sym (quiet mine) }

-- ---- the bound, along the acts

module _ (mine : ℕ → Bool) (w bound : ℕ) where
  pub since-append : (n : ℕ) (ds es : List Deed) → since mine w n (ds ++ es) ≡ since mine w (since mine w n ds) es
  since-append n [] es = refl
  since-append n (d ∷ ds) es = since-append (since_after mine w n d) ds es

  pub batched-append : (n : ℕ) (ds es : List Deed) → BatchedFrom mine w bound n ds → BatchedFrom mine w bound (since mine w n ds) es →
      BatchedFrom mine w bound n (ds ++ es)
  batched-append n [] es b c = c
  batched-append n (d ∷ ds) es b c = (b.0, batched-append (since_after mine w n d) ds es b.1 c)

  rest_of : (n : ℕ) (p s : List Deed) → BatchedFrom mine w bound n (p ++ s) → BatchedFrom mine w bound (since mine w n p) s
  rest_of n [] s b = b
  rest_of n (d ∷ p) s b = rest_of (since_after mine w n d) p s b.1

  -- along a stretch that doesn't lower the word those who enter add up
  stretch_low : (n : ℕ) (u s : List Deed) → n ≤ bound → BatchedFrom mine w bound n (u ++ s) → lowerings w u ≡ 0 → n + readers_in mine u ≤ bound
  stretch_low n [] s h b z = omega arith
  stretch_low n (d ∷ u) s h b z = by (lowers w d) z b.0 (stretch_low (since_after mine w n d) u s b.0 b.1) where
    by : (x : Bool) → count x + lowerings w u ≡ 0 → (if x then 0 else n + reader_entries mine d.events) ≤ bound →
        (lowerings w u ≡ 0 → (if lowers w d then 0 else n + reader_entries mine d.events) + readers_in mine u ≤ bound) →
        n + (reader_entries mine d.events + readers_in mine u) ≤ bound
    by true y l rec = absurd (omega arith)
    by false y l rec = at (lowers w d) refl where
      at : (x : Bool) → lowers w d ≡ x → n + (reader_entries mine d.events + readers_in mine u) ≤ bound
      at true e = let k : count (lowers w d) ≡ 1 = ap count e in absurd (omega arith)
      at false e =
          let r : (if lowers w d then 0 else n + reader_entries mine d.events) + readers_in mine u ≤ bound = rec (omega arith) in
          let k : (if lowers w d then 0 else n + reader_entries mine d.events) ≡ n + reader_entries mine d.events =
          ap (λ q. if q then 0 else n + reader_entries mine d.events) e in omega arith

  low_since : (n : ℕ) (ds s : List Deed) → n ≤ bound → BatchedFrom mine w bound n (ds ++ s) → since mine w n ds ≤ bound
  low_since n [] s h b = h
  low_since n (d ∷ ds) s h b = low_since (since_after mine w n d) ds s b.0 b.1

  -- acts that keep it one by one keep it over every stretch
  stretch_of : (p u s : List Deed) → BatchedFrom mine w bound 0 (p ++ (u ++ s)) → lowerings w u ≡ 0 → readers_in mine u ≤ bound
  stretch_of p u s b z =
      let low : since mine w 0 p ≤ bound = low_since 0 p (u ++ s) (omega arith) b in
      let k : since mine w 0 p + readers_in mine u ≤ bound = stretch_low (since mine w 0 p) u s low (rest_of 0 p (u ++ s) b) z in omega arith

  -- and so do the atoms that show them, by the words
  pub is_batched : (ds : List Deed) (ts : List Transition) → AreShown ds ts → BatchedFrom mine w bound 0 ds → IsBatchedAtMost mine w bound ts
  is_batched ds ts shown b =
      record {
        stretch = λ p u s e never.
            let q : SplitAt ds p (u ++ s) = split_shown ds p (u ++ s) (subst (AreShown ds) e shown) in
            let r : SplitAt q.later u s = split_shown q.later u s q.later_shown in
            let whole : ds ≡ q.first ++ (r.first ++ r.later) = q.is ∙ ap (λ z. q.first ++ z) r.is in
            let k : readers_in mine r.first ≤ bound = stretch_of q.first r.first r.later (subst (BatchedFrom mine w bound 0) whole b)
            (none_lowers w r.first u r.first_shown never) in
            subst (λ n. n ≤ bound) (same_readers mine r.first u r.first_shown) k;
      }

  -- how an act may let readers of the group enter: not at all, or one by adding 1 to the word where it was below the bound
  abbrev pub MayEnter : Act → ℕ → List Event → Type 0
  MayEnter a g es = (reader_entries mine es ≡ 0) ⊎ ((a ≡ CardAdd w 1) × (g < bound) × (reader_entries mine es ≤ 1))

  lt_tells : (x y : ℕ) → ((nat_lt x y ≡ true) × (x < y)) ⊎ ((nat_lt x y ≡ false) × (y ≤ x))
  lt_tells x y = at (nat_lt x y) refl where
    at : (b : Bool) → nat_lt x y ≡ b → ((nat_lt x y ≡ true) × (x < y)) ⊎ ((nat_lt x y ≡ false) × (y ≤ x))
    at true e = inl (e, grind (arith, nat_tests))
    at false e = inr (e, grind (arith, nat_tests))

  -- Each act keeps it that tells what it finds in the word, and that lets readers enter so.
  pub act_batches : (words : List ℕ) (deeds : List Deed) (r : ℕ) (a : Act) (es : List Event) → w < length words →
      Batched mine w bound words deeds → (word_of a ≡ w → told a (slice_index words (word_of a)) ≡ slice_index words (word_of a)) →
      MayEnter a (slice_index words (word_of a)) es →
      Batched mine w bound (slice_set words (word_of a) (written a (slice_index words (word_of a))))
      (deeds ++ record { rank = r; act = a; got = told a (slice_index words (word_of a)); events = es } ∷ [])
  act_batches words deeds r a es there b tells enter =
      let d : Deed = record { rank = r; act = a; got = told a (slice_index words (word_of a)); events = es } in
      let n : ℕ = since mine w 0 deeds in
      let us : List ℕ = slice_set words (word_of a) (written a (slice_index words (word_of a))) in
      let k : (since_after mine w n d ≤ bound) × (since_after mine w n d ≤ slice_index us w) =
      ⊎_elim
      (λ q.
      let same : told a (slice_index words (word_of a)) ≡ slice_index words (word_of a) = tells q.1 in
      let now : slice_index us w ≡ written a (slice_index words (word_of a)) = ap (slice_index us) (sym q.1)
      ∙ get_or-set_same words (word_of a) (written a (slice_index words (word_of a))) 0
      (subst (λ z. z < length words) (sym q.1) there) in
      let old : n ≤ slice_index words (word_of a) = subst (λ z. n ≤ slice_index words z) (sym q.1) b.counted in
      ⊎_elim
      (λ l.
      let yes : lowers w d ≡ true = ap (λ z. z && nat_lt (written a d.got) d.got) q.0 ∙ l.0 in
      let zero_now : since_after mine w n d ≡ 0 = ap (λ z. if z then 0 else n + reader_entries mine es) yes in
      (omega arith, omega arith))
      (λ l.
      let no : lowers w d ≡ false = ap (λ z. z && nat_lt (written a d.got) d.got) q.0 ∙ l.0 in
      let sum : since_after mine w n d ≡ n + reader_entries mine es = ap (λ z. if z then 0 else n + reader_entries mine es) no in
      let up : slice_index words (word_of a) ≤ written a (slice_index words (word_of a)) = subst (λ z. z ≤ written a z) same l.1 in
      ⊎_elim
      (λ z. (let h : n ≤ bound = low in omega arith, omega arith))
      (λ z.
      let add : written a (slice_index words (word_of a)) ≡ (slice_index words (word_of a) + 1) % 2 ^ 64 =
      ap (λ y. written y (slice_index words (word_of a))) z.0 in
      let m : ℕ = slice_index words (word_of a) in
      (omega arith, omega arith)) enter)
      (lt_tells (written a d.got) d.got))
      (λ q.
      let no : lowers w d ≡ false = ap (λ z. z && nat_lt (written a d.got) d.got) q.0 in
      let sum : since_after mine w n d ≡ n + reader_entries mine es = ap (λ z. if z then 0 else n + reader_entries mine es) no in
      let still : slice_index us w ≡ slice_index words w = get_or-set_other words (word_of a) w (written a (slice_index words (word_of a)))
      0 (λ e. q.1 (sym e)) in
      let old : n ≤ slice_index words w = b.counted in
      ⊎_elim
      (λ z. (let h : n ≤ bound = low in omega arith, omega arith))
      (λ z. absurd (q.1 (ap word_of z.0))) enter)
      (eqb_tells (word_of a) w) in
      record {
        so_far = batched-append 0 deeds (d ∷ []) b.so_far (k.0, tt);
        counted = subst (λ z. z ≤ slice_index us w) (sym (since-append 0 deeds (d ∷ []))) k.1;
      } where
        low : since mine w 0 deeds ≤ bound
        low = low_since 0 deeds [] (omega arith) (subst (BatchedFrom mine w bound 0) (sym (append-nil deeds)) b.so_far)
