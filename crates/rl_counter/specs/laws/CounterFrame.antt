-- Which words an act at the counters is on, and what it leaves alone: the counters of other groups, and those whose words it doesn't write.
use Rattle.std.specs.Prelude.{◌≡◌, ◌≢◌, ◌⊎◌, ℕ, ◌<◌, Bool, true, List, slice_get, slice_index, slice_set, Some, refl}
use Rattle.std.proofs.Common.{sym, ◌∙◌, ap, subst, inl, inr, ⊎_elim, get_or-set_other}
use Rattle.std.proofs.lemmas.List.{set-get_or}
use Rattle.std.proofs.lemmas.Option.{same_Some}
use Rattle.rl_word.specs.laws.Places.{same_or_not}
use Rattle.rl_word.specs.declared.acts.Act.{Act}
use Rattle.rl_word.specs.Acts.{word_of, written}
use Rattle.rl_counter.specs.declared.view.Doing.{Doing}
use Rattle.rl_counter.specs.declared.view.Doing.TheVariants.{Arrive, Refused, SeeTail, Swap, Reset, Round, RoundTail, Depart}
use Rattle.rl_counter.specs.Counter.{TheCounters, arrive_word, depart_word, counter_act}
use Rattle.rl_counter.specs.CounterGood.{IsReader, Mark, inside_of, refused_of, taken_of, GroupGood, AllGood, AreSound}
use Rattle.rl_counter.specs.laws.CounterKeeps.{same_good, group_same, reader_keeps}
use Rattle.rl_counter.specs.CounterStatements.{IsOfGroup, ShareSame, words_after, next_of}

-- a reader's act is on a word of its counter, or it is a load
pub reader_word : (C : TheCounters) (c : ℕ) (p : Doing) (a : Act) → IsReader p → counter_act C c p ≡ Some a →
    ((word_of a ≡ arrive_word C c) ⊎ (word_of a ≡ depart_word C c)) ⊎ ((x : ℕ) → written a x ≡ x)
reader_word C c Arrive a h pl = inl (inl (ap word_of (sym (same_Some _ _ pl))))
reader_word C c (Refused x) a h pl = inl (inl (ap word_of (sym (same_Some _ _ pl))))
reader_word C c (SeeTail x) a h pl = inr (λ y. ap (λ z. written z y) (sym (same_Some _ _ pl)))
reader_word C c Swap a h pl = inl (inr (ap word_of (sym (same_Some _ _ pl))))
reader_word C c (Reset x) a h pl = inl (inl (ap word_of (sym (same_Some _ _ pl))))
reader_word C c Round a h pl = inl (inl (ap word_of (sym (same_Some _ _ pl))))
reader_word C c (RoundTail x) a h pl = inr (λ y. ap (λ z. written z y) (sym (same_Some _ _ pl)))
reader_word C c Depart a h pl = inl (inr (ap word_of (sym (same_Some _ _ pl))))
reader_word C c _ a h pl = absurd h

module _ (C : TheCounters) (n : ℕ) (mine : ℕ → ℕ → Bool) where
  -- a counter stays good where another word is written and a rank of its group keeps its share
  pub other_counter : (g : ℕ) (ws : List ℕ) (ps : List Doing) (m : Mark) (w x r : ℕ) (p q : Doing) → w ≢ arrive_word C g →
      w ≢ depart_word C g → slice_get ps r ≡ Some p → (mine g r ≡ true → ShareSame p q) →
      GroupGood C (mine g) g ws ps m → GroupGood C (mine g) g (slice_set ws w x) (slice_set ps r q) m
  other_counter g ws ps m w x r p q na nd has same good =
      same_good (sym (get_or-set_other ws w (arrive_word C g) x 0 (λ e. na (sym e)))) (sym (get_or-set_other ws w (depart_word C g) x 0 (λ e. nd (sym e))))
      (group_same (mine g) inside_of ps r p q has (λ e. (same e).0)) (group_same (mine g) refused_of ps r p q has (λ e. (same e).1))
      (group_same (mine g) taken_of ps r p q has (λ e. (same e).2)) good

  -- so is it where no word is
  pub same_words_counter : (g : ℕ) (ws : List ℕ) (ps : List Doing) (m : Mark) (r : ℕ) (p q : Doing) → slice_get ps r ≡ Some p →
      (mine g r ≡ true → ShareSame p q) →
      GroupGood C (mine g) g ws ps m → GroupGood C (mine g) g ws (slice_set ps r q) m
  same_words_counter g ws ps m r p q has same good =
      same_good refl refl
      (group_same (mine g) inside_of ps r p q has (λ e. (same e).0)) (group_same (mine g) refused_of ps r p q has (λ e. (same e).1))
      (group_same (mine g) taken_of ps r p q has (λ e. (same e).2)) good

  -- Each act of a reader keeps all counters, whatever the marks are.
  pub readers_keep : (ws : List ℕ) (ps : List Doing) (M : ℕ → Mark) (r c : ℕ) (p : Doing) (a : Act) → AreSound C n ws ps → c < n →
      IsOfGroup mine r c → slice_get ps r ≡ Some p → IsReader p → counter_act C c p ≡ Some a →
      AllGood C n mine ws ps M → AllGood C n mine (words_after ws a) (slice_set ps r (next_of C ws p a)) M
  readers_keep ws ps M r c p a sound lc own has rd pl all g lt =
      let d = sound.counted in
      let q : Doing = next_of C ws p a in
      ⊎_elim
      (λ e.
      let plg : counter_act C g p ≡ Some a = ap (λ z. counter_act C z p) e ∙ pl in
      reader_keeps C n sound.few (mine g) g ws ps (M g) r p a d lt sound.seats (all g lt) has (subst (λ z. mine z r ≡ true) (sym e) own.mine_is) rd plg)
      (λ ne.
      let no : mine g r ≡ true → ShareSame p q = λ h. absurd (ne (own.alone g h)) in
      ⊎_elim
      (λ w.
      let na : word_of a ≢ arrive_word C g = λ e. ⊎_elim (λ x. ne (d.arrive_once g c lt lc (sym e ∙ x))) (λ x. d.apart g c lt lc (sym e ∙ x)) w in
      let nd : word_of a ≢ depart_word C g = λ e. ⊎_elim (λ x. d.apart c g lc lt (sym x ∙ e)) (λ x. ne (d.depart_once g c lt lc (sym e ∙ x))) w in
      other_counter g ws ps (M g) (word_of a) (written a (slice_index ws (word_of a))) r p q na nd has no (all g lt))
      (λ same.
      let e : words_after ws a ≡ ws = ap (slice_set ws (word_of a)) (same (slice_index ws (word_of a))) ∙ set-get_or ws (word_of a) 0 in
      subst (λ z. GroupGood C (mine g) g z (slice_set ps r q) (M g)) (sym e) (same_words_counter g ws ps (M g) r p q has no (all g lt)))
      (reader_word C c p a rd pl))
      (same_or_not g c)
