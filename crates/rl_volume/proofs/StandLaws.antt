-- Where a walk stands on a chain: at its front, behind a cell more, and when more is read.
use Rattle.std.proofs.Common.{◌≡◌, ◌≢◌, ℕ, ◌+◌, ◌-◌, ◌<◌, ◌&&◌, eqb, true, false, cond, List, [], ◌∷◌, ◌++◌, sym, ap, ◌∙◌, subst, arith, Some, append_assoc, append-nil}
use Rattle.std.proofs.lemmas.Bool.{and_parts}
use Rattle.std.proofs.lemmas.Bool.Decides.{nat_tests}
use Rattle.rl_model.specs.declared.call.Call.{Call}
use Rattle.rl_model.specs.declared.geom.Geom.{Geom}
use Rattle.rl_model.specs.Geom.{bucket_of}
use Rattle.rl_volume.specs.Words.{state_word, key_word, link_word, cell_key_word, named}
use Rattle.rl_volume.specs.Walk.{Walk, stop, look, inline_walk, chain_walk, bucket_walk}
use Rattle.rl_volume.specs.Seen.{value_of, next_in}
use Rattle.rl_volume.specs.Stand.{GoesOn}
use Rattle.rl_volume.proofs.Sums.{cond_false}
use Rattle.rl_volume.proofs.WalkLaws.{step_some, key_passed, value_front}

module _ (geom : Geom) (key : ℕ) (pairs : List (ℕ × ℕ)) where
  -- the next word by what was read so far
  pub now : (link passed : ℕ) → GoesOn geom key link passed pairs → (call : Call) → next_in (bucket_walk geom call key (bucket_of geom key)) pairs ≡ next_in (chain_walk geom call key link (geom.overflow - passed)) pairs
  now link passed on call =
      subst (λ ps. next_in (bucket_walk geom call key (bucket_of geom key)) ps ≡ next_in (chain_walk geom call key link (geom.overflow - passed)) ps) (append-nil pairs) (on call [])

  -- one word more is read
  pub more_read : (link passed : ℕ) (p : ℕ × ℕ) → GoesOn geom key link passed pairs → GoesOn geom key link passed (pairs ++ p ∷ [])
  more_read link passed p on = λ call more.
      subst (λ ps. next_in (bucket_walk geom call key (bucket_of geom key)) ps ≡ next_in (chain_walk geom call key link (geom.overflow - passed)) ps) (sym (append_assoc pairs (p ∷ []) more)) (on call (p ∷ more))

  -- behind the bucket's words
  pub at_front : (state own : ℕ) → value_of pairs (state_word (bucket_of geom key)) ≡ Some state → state ≢ 0 → value_of pairs (key_word (bucket_of geom key)) ≡ Some own → own ≢ key → GoesOn geom key (state - 1) 0 pairs
  at_front state own read some read_own other = λ call more.
      let bucket = bucket_of geom key in
      let behind_key : ℕ → ℕ → Walk = λ s. λ k. cond (eqb k key) (inline_walk geom call bucket s) (chain_walk geom call key (s - 1) geom.overflow) in
      let behind_state : ℕ → Walk = λ s. cond (eqb s 0) stop (look (key_word bucket) (behind_key s)) in
      let taken : eqb state 0 ≡ false = grind (arith, nat_tests) in
      let miss : eqb own key ≡ false = grind (arith, nat_tests) in
      let all : geom.overflow - 0 ≡ geom.overflow = omega arith in
      step_some (state_word bucket) behind_state (pairs ++ more) state (value_front pairs more (state_word bucket) state read)
      ∙ ap (λ t. next_in t (pairs ++ more)) (cond_false (eqb state 0) stop (look (key_word bucket) (behind_key state)) taken)
      ∙ step_some (key_word bucket) (behind_key state) (pairs ++ more) own (value_front pairs more (key_word bucket) own read_own)
      ∙ ap (λ t. next_in t (pairs ++ more)) (cond_false (eqb own key) (inline_walk geom call bucket state) (chain_walk geom call key (state - 1) geom.overflow) miss)
      ∙ ap (λ left. next_in (chain_walk geom call key (state - 1) left) (pairs ++ more)) (sym all)

  -- behind one cell more
  pub behind_cell : (link passed cell there next : ℕ) → passed < geom.overflow → named geom link ≡ Some cell → value_of pairs (cell_key_word geom cell) ≡ Some there → there ≢ key
      → value_of pairs (link_word geom cell) ≡ Some next → GoesOn geom key link passed pairs → GoesOn geom key next (passed + 1) pairs
  behind_cell link passed cell there next h is read other read_link on = λ call more.
      on call more
      ∙ key_passed geom call key link passed cell (pairs ++ more) h is there (value_front pairs more (cell_key_word geom cell) there read) other (Some next) (value_front pairs more (link_word geom cell) next read_link)

same_parts : (s b o t c p : ℕ) → s ≡ t → b ≡ c → o ≡ p → ◌≡◌ {A = Geom} (record { shards = s; buckets = b; overflow = o }) (record { shards = t; buckets = c; overflow = p })
same_parts s b o t c p shards buckets overflow = cc

-- sizes that are equal by a test
pub same_geom : (g h : Geom) → true ≡ (eqb g.shards h.shards && (eqb g.buckets h.buckets && eqb g.overflow h.overflow)) → g ≡ h
same_geom g h e =
    let some = and_parts (eqb g.shards h.shards) (eqb g.buckets h.buckets && eqb g.overflow h.overflow) (sym e) in
    let rest = and_parts (eqb g.buckets h.buckets) (eqb g.overflow h.overflow) some.1 in
    let shards : g.shards ≡ h.shards = let t = some.0 in grind (arith, nat_tests) in
    let buckets : g.buckets ≡ h.buckets = let t = rest.0 in grind (arith, nat_tests) in
    let overflow : g.overflow ≡ h.overflow = let t = rest.1 in grind (arith, nat_tests) in
    same_parts g.shards g.buckets g.overflow h.shards h.buckets h.overflow shards buckets overflow

-- the same place, named by equal things
pub same_stand : (g h : Geom) (k l a b m n : ℕ) (ps qs : List (ℕ × ℕ)) → g ≡ h → k ≡ l → a ≡ b → m ≡ n → ps ≡ qs → GoesOn g k a m ps → GoesOn h l b n qs
same_stand g h k l a b m n ps qs geom key link passed pairs on =
    subst (λ x. GoesOn x l b n qs) geom (subst (λ x. GoesOn g x b n qs) key (subst (λ x. GoesOn g k x n qs) link (subst (λ x. GoesOn g k a x qs) passed (subst (GoesOn g k a m) pairs on))))
