-- The words of a tree: each queue has its own, and no two queues have one in common; and a tree of two nodes as an example.
use Rattle.std.specs.Prelude.{◌≡◌, ◌≢◌, ◌⊎◌, ℕ, zero, suc, ◌+◌, ◌-◌, ◌*◌, ◌<◌, ◌≤◌, ◌==◌, ◌&&◌, Bool, true, false, List, ◌∷◌, length, nat_lt, if◌then◌else◌, slice_get, slice_index, Option, Some, None, refl}
use Rattle.std.proofs.Common.{sym, ◌∙◌, ap, inl, inr, ⊎_elim, arith}
use Rattle.std.proofs.lemmas.Option.{same_Some, slice_get_within}
use Rattle.std.proofs.lemmas.Bool.Decides.{nat_tests}
use Rattle.rl_word.specs.declared.shapes.Element.{Element}
use Rattle.rl_step.specs.laws.QueueLemmas.{eqb_means}
use Rattle.rl_queue.specs.QueueGood.{IsNaming}
use Rattle.rl_queue.specs.QueuesApart.{AreApart}
use Rattle.rl_queue.specs.Queue.{queue_next_word, status_word}
use Rattle.rl_queue.specs.RankWords.{every_second}
use Rattle.rl_queue.specs.laws.RankWordLaws.{every_second_at}
use Rattle.rl_tree.specs.declared.rooted.Rooted.{Rooted}
use Rattle.rl_tree.specs.Elements.{how_many, ranks_in, leaf_of_rank, is_node, of_elements, names_in}
use Rattle.rl_step.specs.LockQueues.{is_at, parent_of}
use Rattle.rl_tree.specs.TreeGood.{InQueue}

-- the queues' words: each has its own, and no two have one in common
pub record IsWorded (K : Rooted) (size : ℕ) : Type 0 where
  pub naming : (q : ℕ) → q < how_many K → IsNaming (names_in K q) (InQueue K q) size
  pub apart : (q x : ℕ) → q < how_many K → x < how_many K → q ≢ x → AreApart (names_in K q) (names_in K x) (InQueue K q) (InQueue K x)

-- what a member of a queue is: a rank of a node, or an element; and where its words are
pub record OfNode (K : Rooted) (q m : ℕ) : Type 0 where
  pub is : is_node K q ≡ true
  pub there : m < ranks_in K
  pub mine : leaf_of_rank K m ≡ q
  pub next : queue_next_word (names_in K q) m ≡ of_elements K + 2 * m
  pub status : status_word (names_in K q) m ≡ of_elements K + 1 + 2 * m

pub record OfElement (K : Rooted) (q m : ℕ) : Type 0 where
  pub is : is_node K q ≡ false
  pub low : 0 < m
  pub there : m < how_many K
  pub mine : parent_of (slice_get K.shape.elements m) ≡ Some q
  pub next : queue_next_word (names_in K q) m ≡ how_many K + 2 * (m - 1)
  pub status : status_word (names_in K q) m ≡ how_many K + 1 + 2 * (m - 1)

at_is : (o : Option ℕ) (q : ℕ) → is_at o q ≡ true → o ≡ Some q
at_is None q e = cc
at_is (Some p) q e = ap Some (eqb_means p q e)

and_both : (a b : Bool) → (a && b) ≡ true → (a ≡ true) × (b ≡ true)
and_both true b e = (refl, e)
and_both false b e = cc

parent_there : (xs : List Element) (m q : ℕ) → parent_of (slice_get xs m) ≡ Some q → m < length xs
parent_there xs m q e = at (slice_get xs m) refl e where
  at : (o : Option Element) → slice_get xs m ≡ o → parent_of o ≡ Some q → m < length xs
  at None h p = cc
  at (Some x) h p = slice_get_within xs m x h

module _ (K : Rooted) (root_free : parent_of (slice_get K.shape.elements 0) ≡ None) where
  pub member_is : (q m : ℕ) → InQueue K q m → OfNode K q m ⊎ OfElement K q m
  member_is q m i = by (is_node K q) refl where
    by : (b : Bool) → is_node K q ≡ b → OfNode K q m ⊎ OfElement K q m
    by true e =
        let h : (nat_lt m (ranks_in K) && (leaf_of_rank K m == q)) ≡ true =
        ap (λ z. if z then nat_lt m (ranks_in K) && (leaf_of_rank K m == q) else is_at (parent_of (slice_get K.shape.elements m)) q)
        (sym e) ∙ i.is in
        let c = and_both (nat_lt m (ranks_in K)) (leaf_of_rank K m == q) h in
        let lt : m < ranks_in K = let t : nat_lt m (ranks_in K) ≡ true = c.0 in grind (arith, nat_tests) in
        inl (record {
          is = e;
          there = lt;
          mine = eqb_means (leaf_of_rank K m) q c.1;
          next = ap (λ z. slice_index (if z then every_second (of_elements K) (ranks_in K) else 0 ∷ every_second (how_many K)
              (how_many K - 1)) m) e ∙ every_second_at (of_elements K) (ranks_in K) m lt;
          status = ap (λ z. slice_index (if z then every_second (of_elements K + 1) (ranks_in K) else 0 ∷ every_second (how_many K + 1)
              (how_many K - 1)) m) e ∙ every_second_at (of_elements K + 1) (ranks_in K) m lt;
        })
    by false e =
        let h : is_at (parent_of (slice_get K.shape.elements m)) q ≡ true =
        ap (λ z. if z then nat_lt m (ranks_in K) && (leaf_of_rank K m == q) else is_at (parent_of (slice_get K.shape.elements m)) q)
        (sym e) ∙ i.is in
        let p = at_is (parent_of (slice_get K.shape.elements m)) q h in
        inr (element m p e) where
          element : (m : ℕ) → parent_of (slice_get K.shape.elements m) ≡ Some q → is_node K q ≡ false → OfElement K q m
          element zero p e = let k : None ≡ Some q = sym root_free ∙ p in cc
          element (suc j) p e =
              let lt : suc j < how_many K = parent_there K.shape.elements (suc j) q p in
              let lj : j < how_many K - 1 = omega arith in
              let a = every_second_at (how_many K) (how_many K - 1) j lj in
              let b = every_second_at (how_many K + 1) (how_many K - 1) j lj in
              let z : suc j - 1 ≡ j = omega arith in
              record {
                is = e;
                low = omega arith;
                there = lt;
                mine = p;
                next = ap (λ y. slice_index (if y then every_second (of_elements K) (ranks_in K) else 0 ∷ every_second (how_many K)
                    (how_many K - 1)) (suc j)) e ∙ a ∙ ap (λ y. how_many K + 2 * y) (sym z);
                status = ap (λ y. slice_index (if y then every_second (of_elements K + 1) (ranks_in K) else 0 ∷ every_second
                    (how_many K + 1) (how_many K - 1)) (suc j)) e ∙ b ∙ ap (λ y. how_many K + 1 + 2 * y) (sym z);
              }

  -- where a member's words are, of one word or the other
  pub words_at : (q m : ℕ) → InQueue K q m → (how_many K ≤ queue_next_word (names_in K q) m) ×
      (queue_next_word (names_in K q) m < of_elements K + 2 * ranks_in K) ×
      (status_word (names_in K q) m ≡ queue_next_word (names_in K q) m + 1) ×
      (status_word (names_in K q) m < of_elements K + 2 * ranks_in K)
  words_at q m i =
      ⊎_elim
      (λ n. let a = n.next in let b = n.status in let c = n.there in (omega arith, omega arith, omega arith, omega arith))
      (λ n. let a = n.next in let b = n.status in let c = n.there in let d = n.low in (omega arith, omega arith, omega arith, omega arith))
      (member_is q m i)

  -- members of queues whose words are one are one, of one queue
  pub same_words : (q x m k : ℕ) → InQueue K q m → InQueue K x k → queue_next_word (names_in K q) m ≡ queue_next_word (names_in K x) k → (m ≡ k) × (q ≡ x)
  same_words q x m k i j e =
      ⊎_elim
      (λ n. ⊎_elim
      (λ o. let a = n.next in let b = o.next in let s : m ≡ k = omega arith in (s, sym n.mine ∙ ap (leaf_of_rank K) s ∙ o.mine))
      (λ o. let a = n.next in let b = o.next in let c = o.there in let d = o.low in absurd (omega arith)) (member_is x k j))
      (λ n. ⊎_elim
      (λ o. let a = n.next in let b = o.next in let c = n.there in let d = n.low in absurd (omega arith))
      (λ o. let a = n.next in let b = o.next in let c = n.low in let d = o.low in let s : m ≡ k = omega arith in
      (s, same_Some _ _ (sym n.mine ∙ ap (λ z. parent_of (slice_get K.shape.elements z)) s ∙ o.mine))) (member_is x k j))
      (member_is q m i)

  -- next words and status words have other parities behind the tails, so none is both
  pub never_both : (q x m k : ℕ) → InQueue K q m → InQueue K x k → queue_next_word (names_in K q) m ≢ status_word (names_in K x) k
  never_both q x m k i j e =
      ⊎_elim
      (λ n. ⊎_elim (λ o. let a = n.next in let b = o.status in absurd (omega arith))
      (λ o. let a = n.next in let b = o.status in let c = o.there in let d = o.low in absurd (omega arith)) (member_is x k j))
      (λ n. ⊎_elim (λ o. let a = n.next in let b = o.status in let c = n.there in let d = n.low in absurd (omega arith))
      (λ o. let a = n.next in let b = o.status in let c = n.low in let d = o.low in absurd (omega arith)) (member_is x k j))
      (member_is q m i)

  -- so the queues' words are as they should be
  pub is_worded : (size : ℕ) → of_elements K + 2 * ranks_in K ≤ size → IsWorded K size
  is_worded size es =
      record {
        naming = λ q lq. record {
          tail_there = omega arith;
          next_there = λ m i. let w = words_at q m i in let a = w.1 in omega arith;
          status_there = λ m i. let w = words_at q m i in let a = w.3 in omega arith;
          next_tail = λ m i e. let w = words_at q m i in let a = w.0 in absurd (omega arith);
          status_tail = λ m i e. let w = words_at q m i in let a = w.0 in let b = w.2 in absurd (omega arith);
          next_once = λ m k i j e. (same_words q q m k i j e).0;
          status_once = λ m k i j e. let w = words_at q m i in let v = words_at q k j in let a = w.2 in let b = v.2 in (same_words q q m k i j (omega arith)).0;
          next_status = λ m k i j e. absurd (never_both q q m k i j e);
        };
        apart = λ q x lq lx ne. record {
          numbers = ne;
          places = λ w p r.
              ⊎_elim
              (λ e. ⊎_elim (λ f. ne (sym e ∙ f))
              (λ f. ⊎_elim (λ y. let v = words_at x y.0 y.1.0 in let a = v.0 in let b = y.1.1 in absurd (omega arith))
              (λ y. let v = words_at x y.0 y.1.0 in let a = v.0 in let c = v.2 in let b = y.1.1 in absurd (omega arith)) f) r)
              (λ e. ⊎_elim
              (λ z. let u = words_at q z.0 z.1.0 in let a = u.0 in let b = z.1.1 in
              ⊎_elim (λ f. absurd (omega arith))
              (λ f. ⊎_elim (λ y. ne (same_words q x z.0 y.0 z.1.0 y.1.0 (sym z.1.1 ∙ y.1.1)).1)
              (λ y. never_both q x z.0 y.0 z.1.0 y.1.0 (sym z.1.1 ∙ y.1.1)) f) r)
              (λ z. let u = words_at q z.0 z.1.0 in let a = u.0 in let b = z.1.1 in let c = u.2 in
              ⊎_elim (λ f. absurd (omega arith))
              (λ f. ⊎_elim (λ y. never_both x q y.0 z.0 y.1.0 z.1.0 (sym y.1.1 ∙ z.1.1))
              (λ y. let v = words_at x y.0 y.1.0 in let g = v.2 in let h = y.1.1 in ne (same_words q x z.0 y.0 z.1.0 y.1.0 (omega arith)).1) f) r) e) p;
        };
      }
