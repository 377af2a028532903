-- The lines of events: what is read is spelled so, and what is spelled so is read.
use Rattle.std.proofs.Common.{◌≡◌, ℕ, zero, suc, ◌+◌, ◌<◌, ◌≤◌, Bool, true, false, ◌&&◌, cond, eqb, leb, ltb, List, [], ◌∷◌, length, codes, decimal, get_or, Option, Some, None, Ok, ◌⊎◌, inl, inr, refl, sym, ap, subst, ◌∙◌, arith}
use Rattle.std.specs.List.{AllByRecursion, position, position_or_len, slice_get}
use Rattle.std.specs.Str.{bytes_eq}
use Rattle.std.proofs.lemmas.Bool.{lt-ltb, ltb-true, leb-true, le-leb}
use Rattle.std.proofs.lemmas.List.Quantifiers.{position-Some}
use Rattle.std.proofs.lemmas.List.Sums.{position_or_len_is}
use Rattle.std.proofs.lemmas.Option.{slice_get_within, slice_get-get_or, get_or_from_slice_get}
use Rattle.std.proofs.lemmas.Slice.Eq.{bytes_eq-Decides}
use Rattle.rl_text.specs.declared.causes.Why.TheVariants.{Word, Order}
use Rattle.rl_text.specs.Rows.{Row, words, word_at}
use Rattle.rl_text.specs.Reading.{◌>>=◌, refusal_at, needed_at, fixed_at, below_at, no_word_at}
use Rattle.rl_text.proofs.FromLaws.{from_bind, bind_assoc}
use Rattle.rl_text.proofs.TextLaws.{is_plain, IsPlain}
use Rattle.rl_text.proofs.WordLaws.{ok_is, chosen, needed-takes, needed-again, fixed-takes, fixed-again, below-takes, below-again as below_limit-again, no_word-takes, no_word-again, plain-decimal}
use Rattle.rl_step.specs.declared.events.Event.{Event}
use Rattle.rl_step.specs.declared.events.Event.TheVariants.{Join, Announce, Pass, Settle, Touch, EnterW, EnterR, LeaveW, LeaveR}
use Rattle.rl_report.specs.Naming.{TheNaming, TheQueueName, queue_name_word, queue_word, member_in, member_word, cohort_word, parent_is_at, is_below, may_be_in, is_member, EventFits}
use Rattle.rl_report.specs.Reports.{StepFits}
use Rattle.rl_report.specs.Spelling.{event_words, event_line}
use Rattle.rl_report.specs.Reading.{or_refused, or_no_name, queue_at, below_queue_at, member_of, member_in_row, cohort_named, in_queue_at, cohort_at, rank_at, event_named, event_at}
use Rattle.rl_report.proofs.WordsLaws.{test-takes, refused_ok, named, AreAt, all_words}

-- The names are plain words and no two queues have the same, so that a name can be read; and there are few ranks and shards.
pub record IsNaming (naming : TheNaming) : Type 0 where
  pub lock_plain : is_plain naming.lock ≡ true
  pub few_ranks : naming.ranks ≤ 32
  pub few_shards : naming.shards ≤ 16
  pub plain : AllByRecursion (λ queue. is_plain queue.word ≡ true) naming.queues
  pub apart : (i j : ℕ) (a b : TheQueueName) → slice_get naming.queues i ≡ Some a → slice_get naming.queues j ≡ Some b → a.word ≡ b.word → i ≡ j

-- ---- the place of what passes a test

differ : (b : Bool) → (b ≡ true → ⊥) → b ≡ false
differ true never = absurd (never refl)
differ false never = refl

-- what passes first at a place
found-is : (test : TheQueueName → Bool) (qs : List TheQueueName) (i : ℕ) → position test qs ≡ Some i → (queue : TheQueueName) × (slice_get qs i ≡ Some queue) × (test queue ≡ true)
found-is test qs i e =
    let d : TheQueueName = record { word = []; parent = None; of_ranks = false } in
    let p = position-Some test qs i d e in
    (get_or qs i d, slice_get-get_or qs i d p.0, p.1)

-- what alone passes
is-found : (test : TheQueueName → Bool) (qs : List TheQueueName) (i : ℕ) (queue : TheQueueName) → slice_get qs i ≡ Some queue → test queue ≡ true → ((k : ℕ) (other : TheQueueName) → slice_get qs k ≡ Some other → test other ≡ true → k ≡ i) → position test qs ≡ Some i
is-found test qs i queue there passes alone =
    let within : i < length qs = slice_get_within qs i queue there in
    let n : position_or_len test qs ≡ i = position_or_len_is test qs i queue (omega arith)
    (λ k less. differ (test (get_or qs k queue)) (λ yes. let same : k ≡ i = alone k (get_or qs k queue) (slice_get-get_or qs k queue (omega arith)) yes in absurd (omega arith)))
    (λ _. ap test (get_or_from_slice_get qs i queue queue there) ∙ passes) in
    place (position_or_len test qs) n within
  where
    place : (n : ℕ) → n ≡ i → i < length qs → cond (ltb n (length qs)) (Some n) None ≡ Some i
    place n e within = rw (e, lt-ltb i (length qs) within) refl

no_name-is : {X : Type 0} (row : Row) (n : ℕ) (o : Option X) (x : X) → or_no_name row n o ≡ Ok x → o ≡ Some x
no_name-is row n None x e = absurd (cc)
no_name-is row n (Some y) x e = cc

both : (a b : Bool) → (a && b) ≡ true → (a ≡ true) × (b ≡ true)
both true true e = (refl, refl)
both true false e = absurd (cc)
both false b e = absurd (cc)

-- ---- queues and members

module _ (naming : TheNaming) where
  queue-takes : (row : Row) (n q : ℕ) → queue_at naming row n ≡ Ok q → (word_at row n ≡ Some (queue_word naming q)) × ((queue : TheQueueName) × (slice_get naming.queues q ≡ Some queue))
  unfolding queue_at
  queue-takes row n q e =
      from_bind (needed_at row n) _ q e (λ word there e1.
      let f = found-is (λ queue. bytes_eq word queue.word) naming.queues q (no_name-is row n _ q e1) in
      let same : word ≡ f.0.word = (bytes_eq-Decides word f.0.word).0 f.2 in
      (needed-takes row n word there ∙ ap (λ (w : List ℕ). Some w) (same ∙ ap queue_name_word (sym f.1)), (f.0, f.1)))

  queue-again : IsNaming naming → (row : Row) (n q : ℕ) (queue : TheQueueName) → slice_get naming.queues q ≡ Some queue → word_at row n ≡ Some (queue_word naming q) → queue_at naming row n ≡ Ok q
  unfolding queue_at
  queue-again ok row n q queue there e =
      let word : word_at row n ≡ Some queue.word = e ∙ ap (λ (o : Option TheQueueName). Some (queue_name_word o)) there in
      let found : position (λ other. bytes_eq queue.word other.word) naming.queues ≡ Some q = is-found (λ other. bytes_eq queue.word other.word) naming.queues q queue there
      ((bytes_eq-Decides queue.word queue.word).1 refl)
      (λ k other at yes. ok.apart k q other queue at there (sym ((bytes_eq-Decides queue.word other.word).0 yes))) in
      rw (needed-again row n queue.word word, found) refl

  -- a member's word and that it may be named
  record MemberTaken (q : ℕ) (queue : TheQueueName) (row : Row) (n m : ℕ) : Type 0 where
    word : word_at row n ≡ Some (member_in naming m (Some queue))
    fits : may_be_in naming q m (Some queue) ≡ true

  rank_is : (q m : ℕ) (queue : TheQueueName) (row : Row) (n : ℕ) → queue.of_ranks ≡ true → below_at row n naming.ranks ≡ Ok m → MemberTaken q queue row n m
  rank_is q m queue row n ranks e =
      let b = below-takes row n naming.ranks m e in
      record {
        word = b.0.word ∙ ap (λ c. Some (cond c (decimal m) (queue_word naming m))) (sym ranks);
        fits = ap (λ c. cond c (ltb m naming.ranks) (is_below q (slice_get naming.queues m))) ranks ∙ lt-ltb m naming.ranks b.1;
      }

  below_is : (q m : ℕ) (queue : TheQueueName) (row : Row) (n : ℕ) → queue.of_ranks ≡ false → below_queue_at naming q row n ≡ Ok m → MemberTaken q queue row n m
  unfolding below_queue_at
  below_is q m queue row n elements e =
      from_bind (needed_at row n) _ m e (λ word there e1.
      let f = found-is (λ other. parent_is_at q other.parent && bytes_eq word other.word) naming.queues m (no_name-is row n _ m e1) in
      let t = both (parent_is_at q f.0.parent) (bytes_eq word f.0.word) f.2 in
      let same : word ≡ f.0.word = (bytes_eq-Decides word f.0.word).0 t.1 in
      record {
        word = needed-takes row n word there ∙ ap (λ (w : List ℕ). Some w) (same ∙ ap queue_name_word (sym f.1) ∙ ap (λ c. cond c (decimal m) (queue_word naming m)) (sym elements));
        fits = ap (λ c. cond c (ltb m naming.ranks) (is_below q (slice_get naming.queues m))) elements ∙ ap (is_below q) f.1 ∙ t.0;
      })

  member-takes : (q m : ℕ) (queue : TheQueueName) (row : Row) (n : ℕ) → slice_get naming.queues q ≡ Some queue → member_in_row naming q row n ≡ Ok m → (word_at row n ≡ Some (member_word naming q m)) × (is_member naming q m ≡ true)
  unfolding member_in_row
  member-takes q m queue row n there e =
      let read : cond queue.of_ranks (below_at row n naming.ranks) (below_queue_at naming q row n) ≡ Ok m = ap (member_of naming q row n) (sym there) ∙ e in
      let t : MemberTaken q queue row n m = elim (chosen queue.of_ranks _ _ (Ok m) read) [
        | inl p ↦ rank_is q m queue row n p.0 p.1
        | inr p ↦ below_is q m queue row n p.0 p.1
      ] in
      (t.word ∙ ap (λ (o : Option TheQueueName). Some (member_in naming m o)) (sym there), ap (may_be_in naming q m) there ∙ t.fits)

  below-again : IsNaming naming → (q m : ℕ) (row : Row) (n : ℕ) → is_below q (slice_get naming.queues m) ≡ true → word_at row n ≡ Some (queue_word naming m) → below_queue_at naming q row n ≡ Ok m
  unfolding below_queue_at
  below-again ok q m row n fits e = by (slice_get naming.queues m) refl fits where
    by : (o : Option TheQueueName) → slice_get naming.queues m ≡ o → is_below q o ≡ true → below_queue_at naming q row n ≡ Ok m
    by None is under = absurd (cc)
    by (Some queue) is under =
        let word : word_at row n ≡ Some queue.word = e ∙ ap (λ (o : Option TheQueueName). Some (queue_name_word o)) is in
        let same : bytes_eq queue.word queue.word ≡ true = (bytes_eq-Decides queue.word queue.word).1 refl in
        let found : position (λ other. parent_is_at q other.parent && bytes_eq queue.word other.word) naming.queues ≡ Some m = is-found (λ other. parent_is_at q other.parent && bytes_eq queue.word other.word) naming.queues m queue is
        (rw (under, same) refl)
        (λ k other at yes. ok.apart k m other queue at is (sym ((bytes_eq-Decides queue.word other.word).0 (both (parent_is_at q other.parent) (bytes_eq queue.word other.word) yes).1))) in
        rw (needed-again row n queue.word word, found) refl

  member-again : IsNaming naming → (q m : ℕ) (row : Row) (n : ℕ) (queue : TheQueueName) → slice_get naming.queues q ≡ Some queue → is_member naming q m ≡ true → word_at row n ≡ Some (member_word naming q m) → member_in_row naming q row n ≡ Ok m
  unfolding member_in_row
  member-again ok q m row n queue there fits e =
      ap (member_of naming q row n) there
      ∙ by queue.of_ranks refl (ap (may_be_in naming q m) (sym there) ∙ fits) (e ∙ ap (λ (o : Option TheQueueName). Some (member_in naming m o)) there)
    where
      by : (b : Bool) → queue.of_ranks ≡ b → may_be_in naming q m (Some queue) ≡ true → word_at row n ≡ Some (member_in naming m (Some queue)) → cond queue.of_ranks (below_at row n naming.ranks) (below_queue_at naming q row n) ≡ Ok m
      by true is fit word =
          let less : m < naming.ranks = ltb-true m naming.ranks (ap (λ c. cond c (ltb m naming.ranks) (is_below q (slice_get naming.queues m))) (sym is) ∙ fit) in
          let small = ok.few_ranks in
          ap (λ c. cond c (below_at row n naming.ranks) (below_queue_at naming q row n)) is
          ∙ below_limit-again row n naming.ranks m (record { word = word ∙ ap (λ c. Some (cond c (decimal m) (queue_word naming m))) is; fits = omega arith }) less
      by false is fit word =
          ap (λ c. cond c (below_at row n naming.ranks) (below_queue_at naming q row n)) is
          ∙ below-again ok q m row n (ap (λ c. cond c (ltb m naming.ranks) (is_below q (slice_get naming.queues m))) (sym is) ∙ fit) (word ∙ ap (λ c. Some (cond c (decimal m) (queue_word naming m))) is)

  -- a queue that has a member is there
  queue-there : (q m : ℕ) → is_member naming q m ≡ true → (queue : TheQueueName) × (slice_get naming.queues q ≡ Some queue)
  queue-there q m fits = by (slice_get naming.queues q) refl fits where
    by : (o : Option TheQueueName) → slice_get naming.queues q ≡ o → may_be_in naming q m o ≡ true → (queue : TheQueueName) × (slice_get naming.queues q ≡ Some queue)
    by None is fit = absurd (cc)
    by (Some queue) is fit = (queue, is)

  -- ---- what happened

  -- the words of a line of an event, and that the event may be named
  pub record EventTaken (row : Row) (name : List ℕ) (event : Event) : Type 0 where
    pub are : AreAt row 2 (event_words naming event)
    pub fits : EventFits naming event

  in_queue-takes : (make : ℕ → ℕ → Event) (row : Row) (name : List ℕ) (event : Event) → ((q m : ℕ) → event_words naming (make q m) ≡ name ∷ queue_word naming q ∷ member_word naming q m ∷ []) → ((q m : ℕ) → is_member naming q m ≡ true → EventFits naming (make q m))
      → word_at row 3 ≡ Some name → (in_queue_at naming row >>= λ x. Ok (make x.0 x.1)) ≡ Ok event → EventTaken row name event
  unfolding in_queue_at
  in_queue-takes make row name event words fits first e =
      from_bind (in_queue_at naming row) _ event e (λ both read made.
      from_bind (queue_at naming row 4) _ both read (λ q queue_read e1.
      from_bind (member_in_row naming q row 5) _ both e1 (λ m member_read e2.
      from_bind (no_word_at row 6) _ both e2 (λ u alone e3.
      let same = ok_is (q, m) both e3 in
      let a = queue-takes row 4 q queue_read in
      let b = member-takes q m a.1.0 row 5 a.1.1 member_read in
      subst (λ (x : Event). EventTaken row name x) (ap (λ (p : ℕ × ℕ). make p.0 p.1) same ∙ ok_is (make both.0 both.1) event made) (record {
        are = subst (AreAt row 2) (sym (words q m)) (first, (a.0, (b.0, no_word-takes row 6 u alone)));
        fits = fits q m b.1;
      })))))

  in_queue-again : IsNaming naming → (row : Row) (q m : ℕ) → is_member naming q m ≡ true → word_at row 4 ≡ Some (queue_word naming q) → word_at row 5 ≡ Some (member_word naming q m) → word_at row 6 ≡ None → in_queue_at naming row ≡ Ok (q, m)
  unfolding in_queue_at
  in_queue-again ok row q m fits second third none =
      let queue = queue-there q m fits in
      rw (queue-again ok row 4 q queue.0 queue.1 second, member-again ok q m row 5 queue.0 queue.1 fits third, no_word-again row 6 none) refl

  announced-takes : (row : Row) (event : Event) → word_at row 3 ≡ Some (codes "announce") → (cohort_at naming row >>= λ c. Ok (Announce c)) ≡ Ok event → EventTaken row (codes "announce") event
  unfolding cohort_at
  announced-takes row event first e =
      from_bind (cohort_at naming row) _ event e (λ k read made.
      from_bind (needed_at row 4) _ k read (λ word there e1.
      from_bind (cohort_named naming.cohorts row 4 word) _ k e1 (λ c is e2.
      from_bind (no_word_at row 5) _ k e2 (λ u alone e3.
      let w : word_at row 4 ≡ Some word = needed-takes row 4 word there in
      let t = cohort word c w naming.cohorts refl is in
      subst (λ (x : Event). EventTaken row (codes "announce") x) (ap (λ j. Announce j) (ok_is c k e3) ∙ ok_is (Announce k) event made) (record {
        are = (first, (t.0, no_word-takes row 5 u alone));
        fits = (t.1, t.2);
      })))))
    where
      cohort : (word : List ℕ) (c : ℕ) → word_at row 4 ≡ Some word → (b : Bool) → naming.cohorts ≡ b → cohort_named b row 4 word ≡ Ok c → (word_at row 4 ≡ Some (cohort_word c)) × (naming.cohorts ≡ true) × ((c ≡ 1) ⊎ (c ≡ 2))
      cohort word c w false is read = absurd (refused_ok (refusal_at row 4 Word) c read)
      cohort word c w true is read = elim (chosen (bytes_eq word (codes "local")) _ _ (Ok c) read) [
        | inl p ↦ let one : 1 ≡ c = ok_is 1 c p.1 in (named row 4 word (codes "local") w p.0 ∙ ap (λ k. Some (cohort_word k)) one, is, inl (sym one))
        | inr p ↦ elim (chosen (bytes_eq word (codes "remote")) _ _ (Ok c) p.1) [
          | inl q ↦ let two : 2 ≡ c = ok_is 2 c q.1 in (named row 4 word (codes "remote") w q.0 ∙ ap (λ k. Some (cohort_word k)) two, is, inr (sym two))
          | inr q ↦ absurd (refused_ok (refusal_at row 4 Word) c q.1)
        ]
      ]

  announced-again : (row : Row) (c : ℕ) → naming.cohorts ≡ true → (c ≡ 1) ⊎ (c ≡ 2) → word_at row 4 ≡ Some (cohort_word c) → word_at row 5 ≡ None → cohort_at naming row ≡ Ok c
  unfolding cohort_at
  announced-again row c cohorts which second none =
      rw (needed-again row 4 (cohort_word c) second, no_word-again row 5 none)
      (ap (λ b. cohort_named b row 4 (cohort_word c) >>= λ k. Ok k) cohorts ∙ by which)
    where
      by : (c ≡ 1) ⊎ (c ≡ 2) → (cohort_named true row 4 (cohort_word c) >>= λ k. Ok k) ≡ Ok c
      by (inl one) = subst (λ k. (cohort_named true row 4 (cohort_word k) >>= λ j. Ok j) ≡ Ok k) (sym one) refl
      by (inr two) = subst (λ k. (cohort_named true row 4 (cohort_word k) >>= λ j. Ok j) ≡ Ok k) (sym two) refl

  of_rank-takes : (make : ℕ → Event) (row : Row) (name : List ℕ) (event : Event) → ((k : ℕ) → event_words naming (make k) ≡ name ∷ decimal k ∷ []) → ((k : ℕ) → k < naming.ranks → EventFits naming (make k))
      → word_at row 3 ≡ Some name → (rank_at naming row >>= λ k. Ok (make k)) ≡ Ok event → EventTaken row name event
  unfolding rank_at
  of_rank-takes make row name event words fits first e =
      from_bind (rank_at naming row) _ event e (λ j taken made.
      from_bind (below_at row 4 naming.ranks) _ j taken (λ k read e1.
      from_bind (no_word_at row 5) _ j e1 (λ u alone e2.
      let b = below-takes row 4 naming.ranks k read in
      subst (λ (x : Event). EventTaken row name x) (ap make (ok_is k j e2) ∙ ok_is (make j) event made) (record {
        are = subst (AreAt row 2) (sym (words k)) (first, (b.0.word, no_word-takes row 5 u alone));
        fits = fits k b.1;
      }))))

  of_rank-again : IsNaming naming → (row : Row) (k : ℕ) → k < naming.ranks → word_at row 4 ≡ Some (decimal k) → word_at row 5 ≡ None → rank_at naming row ≡ Ok k
  unfolding rank_at
  of_rank-again ok row k less second none = let few = ok.few_ranks in rw (below_limit-again row 4 naming.ranks k (record { word = second; fits = omega arith }) less, no_word-again row 5 none) refl

  named-takes : (row : Row) (name : List ℕ) (event : Event) → word_at row 3 ≡ Some name → event_named naming row name ≡ Ok event → AreAt row 2 (event_words naming event) × EventFits naming event
  unfolding event_named
  named-takes row name event w e =
      elim (chosen (bytes_eq name (codes "join")) _ _ (Ok event) e) [
        | inl p ↦ parts (in_queue-takes (λ q m. Join q m) row (codes "join") event (λ q m. refl) (λ q m h. h) (named row 3 name _ w p.0) p.1)
        | inr p0 ↦ elim (chosen (bytes_eq name (codes "announce")) _ _ (Ok event) p0.1) [
          | inl p ↦ parts (announced-takes row event (named row 3 name _ w p.0) p.1)
          | inr p1 ↦ elim (chosen (bytes_eq name (codes "pass")) _ _ (Ok event) p1.1) [
            | inl p ↦ parts (in_queue-takes (λ q m. Pass q m) row (codes "pass") event (λ q m. refl) (λ q m h. h) (named row 3 name _ w p.0) p.1)
            | inr p2 ↦ elim (chosen (bytes_eq name (codes "settle")) _ _ (Ok event) p2.1) [
              | inl p ↦ parts (in_queue-takes (λ q m. Settle q m) row (codes "settle") event (λ q m. refl) (λ q m h. h) (named row 3 name _ w p.0) p.1)
              | inr p3 ↦ elim (chosen (bytes_eq name (codes "enter-w")) _ _ (Ok event) p3.1) [
                | inl p ↦ parts (of_rank-takes (λ k. EnterW k) row (codes "enter-w") event (λ k. refl) (λ k h. h) (named row 3 name _ w p.0) p.1)
                | inr p4 ↦ elim (chosen (bytes_eq name (codes "enter-r")) _ _ (Ok event) p4.1) [
                  | inl p ↦ parts (of_rank-takes (λ k. EnterR k) row (codes "enter-r") event (λ k. refl) (λ k h. h) (named row 3 name _ w p.0) p.1)
                  | inr p5 ↦ elim (chosen (bytes_eq name (codes "leave-w")) _ _ (Ok event) p5.1) [
                    | inl p ↦ parts (of_rank-takes (λ k. LeaveW k) row (codes "leave-w") event (λ k. refl) (λ k h. h) (named row 3 name _ w p.0) p.1)
                    | inr p6 ↦ elim (chosen (bytes_eq name (codes "leave-r")) _ _ (Ok event) p6.1) [
                      | inl p ↦ parts (of_rank-takes (λ k. LeaveR k) row (codes "leave-r") event (λ k. refl) (λ k h. h) (named row 3 name _ w p.0) p.1)
                      | inr p7 ↦ absurd (refused_ok (refusal_at row 3 Word) event p7.1)
                    ]
                  ]
                ]
              ]
            ]
          ]
        ]
      ]
    where
      parts : {name : List ℕ} → EventTaken row name event → AreAt row 2 (event_words naming event) × EventFits naming event
      parts t = (t.are, t.fits)

  pub event-takes : (least : ℕ) (row : Row) (x : ℕ × Event) → event_at naming least row ≡ Ok x → (words row ≡ event_line naming x) × StepFits naming least x
  unfolding event_at
  event-takes least row x e =
      from_bind (fixed_at row 1 (codes "event") Word) _ x e (λ u1 w1 e1.
      from_bind (below_at row 2 2000000) _ x e1 (λ step w2 e2.
      from_bind (or_refused (leb least step) (refusal_at row 2 Order)) _ x e2 (λ u2 order e3.
      from_bind (needed_at row 3) _ x e3 (λ name there e4.
      from_bind (event_named naming row name) _ x e4 (λ event is e5.
      let b = below-takes row 2 2000000 step w2 in
      let t = named-takes row name event (needed-takes row 3 name there) is in
      subst (λ (y : ℕ × Event). (words row ≡ event_line naming y) × StepFits naming least y) (ok_is (step, event) x e5)
      (all_words row 0 (event_line naming (step, event)) (fixed-takes row 1 (codes "event") Word u1 w1, (b.0.word, t.0)), (leb-true least step (test-takes (leb least step) (refusal_at row 2 Order) u2 order), b.1, t.1)))))))

  -- the event of a name is read again
  named-again : IsNaming naming → (row : Row) (event : Event) → EventFits naming event → AreAt row 2 (event_words naming event) → needed_at row 3 >>= event_named naming row ≡ Ok event
  unfolding event_named
  named-again ok row (Join q m) fits are = rw (needed-again row 3 (codes "join") are.0) (ap (λ r. r >>= λ x. Ok (Join x.0 x.1)) (in_queue-again ok row q m fits are.1.0 are.1.1.0 are.1.1.1))
  named-again ok row (Announce c) fits are = rw (needed-again row 3 (codes "announce") are.0) (ap (λ r. r >>= λ k. Ok (Announce k)) (announced-again row c fits.0 fits.1 are.1.0 are.1.1))
  named-again ok row (Pass q m) fits are = rw (needed-again row 3 (codes "pass") are.0) (ap (λ r. r >>= λ x. Ok (Pass x.0 x.1)) (in_queue-again ok row q m fits are.1.0 are.1.1.0 are.1.1.1))
  named-again ok row (Settle q m) fits are = rw (needed-again row 3 (codes "settle") are.0) (ap (λ r. r >>= λ x. Ok (Settle x.0 x.1)) (in_queue-again ok row q m fits are.1.0 are.1.1.0 are.1.1.1))
  named-again ok row (Touch k w) fits are = absurd fits
  named-again ok row (EnterW k) fits are = rw (needed-again row 3 (codes "enter-w") are.0) (ap (λ r. r >>= λ j. Ok (EnterW j)) (of_rank-again ok row k fits are.1.0 are.1.1))
  named-again ok row (EnterR k) fits are = rw (needed-again row 3 (codes "enter-r") are.0) (ap (λ r. r >>= λ j. Ok (EnterR j)) (of_rank-again ok row k fits are.1.0 are.1.1))
  named-again ok row (LeaveW k) fits are = rw (needed-again row 3 (codes "leave-w") are.0) (ap (λ r. r >>= λ j. Ok (LeaveW j)) (of_rank-again ok row k fits are.1.0 are.1.1))
  named-again ok row (LeaveR k) fits are = rw (needed-again row 3 (codes "leave-r") are.0) (ap (λ r. r >>= λ j. Ok (LeaveR j)) (of_rank-again ok row k fits are.1.0 are.1.1))

  -- words that are all the words of a line stand at their places
  at_places : (row : Row) (a b : List ℕ) (ws : List (List ℕ)) → words row ≡ a ∷ b ∷ ws → AreAt row 2 ws
  at_places row a b ws e = by ws 2 (λ k. let two : 2 + k ≡ suc (suc k) = omega arith in ap (λ (vs : List (List ℕ)). slice_get vs (2 + k)) e ∙ ap (slice_get (a ∷ b ∷ ws)) two) where
    by : (vs : List (List ℕ)) (n : ℕ) → ((k : ℕ) → slice_get (words row) (n + k) ≡ slice_get vs k) → AreAt row n vs
    by [] n at = ap (slice_get (words row)) (omega arith) ∙ at 0
    by (v ∷ vs) n at = (ap (slice_get (words row)) (omega arith) ∙ at 0, by vs (suc n) (λ k. ap (slice_get (words row)) (omega arith) ∙ at (suc k)))

  pub event-again : IsNaming naming → (least : ℕ) (row : Row) (x : ℕ × Event) → words row ≡ event_line naming x → StepFits naming least x → event_at naming least row ≡ Ok x
  unfolding event_at
  event-again ok least row x e fits =
      let named = named-again ok row x.1 fits.2 (at_places row (codes "event") (decimal x.0) (event_words naming x.1) e) in
      rw (
        fixed-again row 1 (codes "event") Word (rw e refl),
        below_limit-again row 2 2000000 x.0 (record { word = rw e refl; fits = omega (arith, fits.1) }) fits.1,
        le-leb least x.0 fits.0,
      ) (sym (bind_assoc (needed_at row 3) (event_named naming row) (λ event. Ok (x.0, event))) ∙ ap (λ r. r >>= λ event. Ok (x.0, event)) named)

  -- ---- plain words

  word-plain : IsNaming naming → (q : ℕ) → is_plain (queue_word naming q) ≡ true
  word-plain ok q = by naming.queues q ok.plain where
    by : (qs : List TheQueueName) (q : ℕ) → AllByRecursion (λ queue. is_plain queue.word ≡ true) qs → is_plain (queue_name_word (slice_get qs q)) ≡ true
    by [] q all = refl
    by (queue ∷ qs) zero all = all.0
    by (queue ∷ qs) (suc q) all = by qs q all.1

  member-plain : IsNaming naming → (q m : ℕ) → is_member naming q m ≡ true → is_plain (member_word naming q m) ≡ true
  member-plain ok q m fits = by (slice_get naming.queues q) fits where
    by : (o : Option TheQueueName) → may_be_in naming q m o ≡ true → is_plain (member_in naming m o) ≡ true
    by None fit = refl
    by (Some queue) fit = elim queue.of_ranks as (λ b. cond b (ltb m naming.ranks) (is_below q (slice_get naming.queues m)) ≡ true → is_plain (cond b (decimal m) (queue_word naming m)) ≡ true) [
      | true ↦ λ less. let low : m < naming.ranks = ltb-true m naming.ranks less in let few = ok.few_ranks in plain-decimal m (omega arith)
      | false ↦ λ under. word-plain ok m
    ] fit

  cohort-plain : (c : ℕ) → is_plain (cohort_word c) ≡ true
  cohort-plain c = elim (eqb c 1) as (λ b. is_plain (cond b (codes "local") (codes "remote")) ≡ true) [ true ↦ refl | false ↦ refl ]

  words-plain : IsNaming naming → (event : Event) → EventFits naming event → AllByRecursion (λ w. is_plain w ≡ true) (event_words naming event)
  words-plain ok (Join q m) fits = (refl, (word-plain ok q, (member-plain ok q m fits, tt)))
  words-plain ok (Announce c) fits = (refl, (cohort-plain c, tt))
  words-plain ok (Pass q m) fits = (refl, (word-plain ok q, (member-plain ok q m fits, tt)))
  words-plain ok (Settle q m) fits = (refl, (word-plain ok q, (member-plain ok q m fits, tt)))
  words-plain ok (Touch k w) fits = absurd fits
  words-plain ok (EnterW k) fits = let few = ok.few_ranks in (refl, (plain-decimal k (omega arith), tt))
  words-plain ok (EnterR k) fits = let few = ok.few_ranks in (refl, (plain-decimal k (omega arith), tt))
  words-plain ok (LeaveW k) fits = let few = ok.few_ranks in (refl, (plain-decimal k (omega arith), tt))
  words-plain ok (LeaveR k) fits = let few = ok.few_ranks in (refl, (plain-decimal k (omega arith), tt))

  pub event-plain : IsNaming naming → (least : ℕ) (x : ℕ × Event) → StepFits naming least x → IsPlain (event_line naming x)
  event-plain ok least x fits = (omega arith, (refl, (plain-decimal x.0 (omega (arith, fits.1)), words-plain ok x.1 fits.2)))
