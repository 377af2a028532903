-- What the code asks of a view and of what its act told, in a good tree.
use Rattle.std.specs.Prelude.{◌≡◌, ℕ, zero, suc, ◌+◌, ◌-◌, ◌*◌, ◌<◌, ◌≤◌, ◌^◌, Bool, true, false, ◌∷◌, length, if◌then◌else◌, slice_index, Option, Some, None, refl}
use Rattle.std.proofs.Common.{sym, ◌∙◌, ap, subst, ⊎_elim, arith}
use Rattle.std.proofs.lemmas.Option.{same_Some}
use Rattle.rl_word.specs.Acts.{word_of, told}
use Rattle.rl_word.specs.declared.acts.Act.{Act}
use Rattle.rl_queue.specs.Queue.{status_word, full_budget, PlanFits}
use Rattle.rl_queue.specs.Lane.{told_left}
use Rattle.rl_queue.specs.laws.QueueFits.{plan_fits, learn_fits, holder_told}
use Rattle.rl_queue.specs.RankWords.{every_second}
use Rattle.rl_queue.specs.laws.RankWordLaws.{length-every_second}
use Rattle.rl_tree.specs.declared.rooted.Rooted.{Rooted}
use Rattle.rl_tree.specs.laws.Cases.{plan_by}
use Rattle.rl_tree.specs.Elements.{how_many, ranks_in, is_node, of_elements, names_in, tree_of}
use Rattle.rl_tree.specs.Fits.{IsPlaced, acting, MayPlan, StatusFits, GotFitsBy, TreeMayLearn}
use Rattle.rl_tree.specs.TreeGood.{Tells, IsGrantedAt, InQueue}
use Rattle.rl_tree.specs.laws.TreePaths.{el_there, el_in}
use Rattle.rl_tree.specs.laws.RanksInTree.{StandsInTree, queue_of, member_of, level_low, queue_there, phase_of}
use Rattle.rl_tree.specs.laws.TreeWords.{member_is}
use Rattle.rl_tree.specs.laws.TreeCalls.{granted_is}
use Rattle.rl_tree.specs.TreeShape.{IsWellShaped}

-- lists of words: as many of one kind as of the other, and one for each member
by_kind : (b : Bool) (n h : ℕ) (c d : ℕ) → length (if b then every_second c n else 0 ∷ every_second d h) ≡ (if b then n else suc h)
by_kind true n h c d = length-every_second c n
by_kind false n h c d = ap suc (length-every_second d h)

-- a status that tells a modest number of passes
status_fits : (B : Option ℕ) (left s : ℕ) → left ≤ full_budget B → left ≡ told_left B s → ((b : ℕ) → B ≡ Some b → b ≤ 1000) → StatusFits B s
status_fits None left s a e f = tt
status_fits (Some b) left zero a e f = omega arith
status_fits (Some b) left (suc zero) a e f = omega arith
status_fits (Some b) left (suc (suc k)) a e f = let c : b ≤ 1000 = f b refl in omega arith

module _ (K : Rooted) (levels : ℕ) (S : IsWellShaped K levels) where
  words_alike : (q : ℕ) → length (names_in K q).status ≡ length (names_in K q).next
  words_alike q = by_kind (is_node K q) (ranks_in K) (how_many K - 1) (of_elements K + 1) (how_many K + 1)
      ∙ sym (by_kind (is_node K q) (ranks_in K) (how_many K - 1) (of_elements K) (how_many K))

  words_for : (q x : ℕ) → InQueue K q x → x < length (names_in K q).next
  words_for q x i =
      let kind = by_kind (is_node K q) (ranks_in K) (how_many K - 1) (of_elements K) (how_many K) in
      ⊎_elim
      (λ n. let l : length (names_in K q).next ≡ ranks_in K = kind ∙ ap (λ z. if z then ranks_in K else suc (how_many K - 1)) n.is in
      let a : x < ranks_in K = n.there in omega arith)
      (λ n. let l : length (names_in K q).next ≡ suc (how_many K - 1) = kind
      ∙ ap (λ z. if z then ranks_in K else suc (how_many K - 1)) n.is in let a : x < how_many K = n.there in omega arith)
      (member_is K S.root_free q x i)

  small : (q x : ℕ) → InQueue K q x → x < 2 ^ 32
  small q x i =
      let few : how_many K ≤ ranks_in K * 4 = S.few in
      let ranks : ranks_in K ≤ 32 = S.ranks in
      ⊎_elim (λ n. let a : x < ranks_in K = n.there in omega arith) (λ n. let a : x < how_many K = n.there in omega arith) (member_is K S.root_free q x i)

module _ {K : Rooted} {levels : ℕ} (s : StandsInTree K levels) where
  open s use {on.{view as v}, good as g}

  abbrev q : ℕ
  q = queue_of s

  pub placed_at : IsPlaced K v
  placed_at =
      let a = level_low s in
      let b : levels ≤ 3 = s.on.well.low in record { low = omega arith; there = λ j le. el_there s.on j (omega arith) }

  pub may_plan : MayPlan K v
  may_plan = record { placed = placed_at; named = by v.query refl } where
    mine : InQueue K q (member_of s)
    mine = el_in s.on v.level (level_low s)

    by : (b : Bool) → v.query ≡ b → PlanFits (names_in K q) (member_of s) (acting b v.phase)
    by true e = record { alike = words_alike K levels s.on.well q; named = words_for K levels s.on.well q (member_of s) mine; phase = tt }
    by false e =
        plan_fits (names_in K q) (InQueue K q) s.words (g.phase q) (g.line q) s.trace (g.ended q) (member_of s) v.phase (g.by.queue q (queue_there s))
        (phase_of s e) mine (words_alike K levels s.on.well q)
        (λ y i. words_for K levels s.on.well q y i)

  pub may_learn : (a : Act) → plan_by (tree_of K) v v.query ≡ Some a → TreeMayLearn K v (told a (slice_index s.words (word_of a)))
  may_learn a planned = by v.query refl planned where
    by : (b : Bool) → v.query ≡ b → plan_by (tree_of K) v b ≡ Some a → GotFitsBy (names_in K q).budget v.phase b (told a (slice_index s.words (word_of a)))
    by true e pl =
        let h : IsGrantedAt (g.phase q (member_of s)) = subst (λ z. Tells v z (g.phase q (member_of s))) e (g.by.here v.rank v s.has) in
        let n = granted_is (g.phase q (member_of s)) h in
        let k = holder_told (names_in K q) (InQueue K q) s.words (g.phase q) (g.line q) s.trace (g.ended q) (member_of s) n.0 (g.by.queue q (queue_there s)) n.1 in
        subst (λ c. StatusFits (names_in K q).budget (told c (slice_index s.words (word_of c)))) (same_Some _ _ pl)
        (status_fits (names_in K q).budget n.0 (slice_index s.words (status_word (names_in K q) (member_of s))) k.0 k.1 (s.on.well.modest q))
    by false e pl =
        learn_fits (names_in K q) (InQueue K q) s.words (g.phase q) (g.line q) s.trace (g.ended q) (member_of s) v.phase a (g.by.queue q (queue_there s))
        (phase_of s e) pl (λ y i. small K levels s.on.well q y i)
        (λ b eb. let c : b ≤ 1000 = s.on.well.modest q b eb in omega arith)
