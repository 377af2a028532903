-- The walk of a call reads all that the call's decision looks at.
use Rattle.std.proofs.Common.{◌≡◌, ℕ, zero, suc, ◌+◌, ◌-◌, ◌<◌, ◌≤◌, true, false, cond, eqb, List, [], ◌∷◌, length, refl, sym, ap, ◌∙◌, subst, arith, Option, Some, None, slice_index}
use Rattle.std.proofs.lemmas.Bool.Decides.{nat_tests}
use Rattle.rl_model.specs.declared.call.Call.{Call}
use Rattle.rl_model.specs.declared.call.Call.TheVariants.{Put, Get, Del, Add, Cas, Hold}
use Rattle.rl_model.specs.declared.entry.Reply.{Reply}
use Rattle.rl_model.specs.declared.entry.Reply.TheVariants.{New, Was, Val}
use Rattle.rl_model.specs.declared.geom.Geom.{Geom}
use Rattle.rl_model.specs.Geom.{GeomFits, bucket_of}
use Rattle.rl_model.specs.Call.{shard_of}
use Rattle.rl_model.specs.Table.{Table}
use Rattle.rl_volume.specs.declared.place.Place.{Place}
use Rattle.rl_volume.specs.declared.place.Place.TheVariants.{Absent, Inline, InCell}
use Rattle.rl_volume.specs.declared.write.Write.{Write}
use Rattle.rl_volume.specs.Words.{state_word, key_word, value_word, link_word, cell_key_word, cell_value_word, named}
use Rattle.rl_volume.specs.Volume.{Words, IsChain, IsBucket, empty, taken, Holds}
use Rattle.rl_volume.specs.Walk.{Walk, stop, look, free_walk, absent_walk, first_walk, inline_walk, cell_walk, end_walk, chain_walk, bucket_walk, walk}
use Rattle.rl_volume.specs.Seen.{value_or_zero}
use Rattle.rl_volume.specs.Decision.{place_in_chain, place_in, value_word_at, write, put_in_cell, put_by, get_by, add_by, cas_by, del_by, take_inline, take_out, decision, HasRead}
use Rattle.rl_volume.proofs.Sums.{cond_true, cond_false}
use Rattle.rl_volume.proofs.Places.{names, go_on}
use Rattle.rl_volume.proofs.Lookups.{chain_short}
use Rattle.rl_volume.proofs.WalkLaws.{AreSame, same_on_way, walk_on}

module _ (geom : Geom) (at new : Words) (call : Call) (key : ℕ) where
  -- what is read behind the place of the key
  abbrev pub rest : ℕ → Place → Walk
  rest bucket Absent = cond (eqb (at (state_word bucket)) 0) stop (absent_walk geom call)
  rest bucket Inline = inline_walk geom call bucket (at (state_word bucket))
  rest bucket (InCell before cell) = cell_walk geom call cell

  -- the key's place in a chain is the same by the words that were read
  chain_same : (left : ℕ) (before : Option ℕ) (link : ℕ) → AreSame at new (chain_walk geom call key link left) → place_in_chain geom new key before link left ≡ place_in_chain geom at key before link left
  chain_same zero before link k = refl
  chain_same (suc left) before link k =
      elim (named geom link) as (λ o. AreSame at new (walk_on geom call key link left o) → go_on geom new key before left o ≡ go_on geom at key before left o) [
        | None ↦ λ k. refl
        | Some cell ↦ λ k.
            ap (λ (n : ℕ). cond (eqb n key) (InCell before cell) (place_in_chain geom new key (Some cell) (new (link_word geom cell)) left)) k.0
            ∙ (elim (eqb (at (cell_key_word geom cell)) key) as (λ b. AreSame at new (cond b (cell_walk geom call cell) (look (link_word geom cell) (λ next. chain_walk geom call key next left)))
            → cond b (InCell before cell) (place_in_chain geom new key (Some cell) (new (link_word geom cell)) left) ≡ cond b (InCell before cell) (place_in_chain geom at key (Some cell) (at (link_word geom cell)) left)) [
              | true ↦ λ k. refl
              | false ↦ λ k. ap (λ (n : ℕ). place_in_chain geom new key (Some cell) n left) k.0 ∙ chain_same left (Some cell) (at (link_word geom cell)) k.1
            ] k.1)
      ] k

  -- and what is read behind it is the same too, in a chain that ends
  chain_rest : (bucket : ℕ) → eqb (at (state_word bucket)) 0 ≡ false → (left : ℕ) (before : Option ℕ) (link : ℕ) (cells : List ℕ) → IsChain geom at link cells → length cells ≤ left
      → AreSame at new (chain_walk geom call key link left) → AreSame at new (rest bucket (place_in_chain geom at key before link left))
  chain_rest bucket t zero before link [] chain short k =
      let P : Walk → Type 0 = λ w. AreSame at new w in
      subst P (sym (cond_false (eqb (at (state_word bucket)) 0) stop (absent_walk geom call) t)) (subst (λ l. AreSame at new (end_walk geom call l)) chain k)
  chain_rest bucket t zero before link (x ∷ xs) chain short k = absurd (omega arith)
  chain_rest bucket t (suc left) before link [] chain short k =
      let P : Walk → Type 0 = λ w. AreSame at new w in
      subst (λ l. AreSame at new (rest bucket (place_in_chain geom at key before l (suc left)))) (sym chain)
      (subst P (sym (cond_false (eqb (at (state_word bucket)) 0) stop (absent_walk geom call) t)) (subst (λ l. AreSame at new (chain_walk geom call key l (suc left))) chain k))
  chain_rest bucket t (suc left) before link (x ∷ xs) chain short k =
      let is = names geom link x chain.0 chain.1 in
      let k_on : AreSame at new (walk_on geom call key link left (Some x)) = subst (λ o. AreSame at new (walk_on geom call key link left o)) is k in
      subst (λ o. AreSame at new (rest bucket (go_on geom at key before left o))) (sym is)
      (elim (eqb (at (cell_key_word geom x)) key) as (λ b. AreSame at new (cond b (cell_walk geom call x) (look (link_word geom x) (λ next. chain_walk geom call key next left)))
      → AreSame at new (rest bucket (cond b (InCell before x) (place_in_chain geom at key (Some x) (at (link_word geom x)) left)))) [
        | true ↦ λ k. k
        | false ↦ λ k. chain_rest bucket t left (Some x) (at (link_word geom x)) xs chain.2 (omega arith) k.1
      ] k_on.1)

  abbrev behind_state : ℕ → ℕ → Walk
  behind_state bucket state = look (key_word bucket) (λ own. cond (eqb own key) (inline_walk geom call bucket state) (chain_walk geom call key (state - 1) geom.overflow))

  abbrev place_behind : Words → ℕ → ℕ → Place
  place_behind words bucket state = cond (eqb (words (key_word bucket)) key) Inline (place_in_chain geom words key None (state - 1) geom.overflow)

  -- the key's place in its bucket is the same by the words that were read
  pub place_same : (bucket : ℕ) → AreSame at new (bucket_walk geom call key bucket) → place_in geom new bucket key ≡ place_in geom at bucket key
  place_same bucket k =
      let state = at (state_word bucket) in
      ap (λ (s : ℕ). cond (eqb s 0) Absent (place_behind new bucket s)) k.0
      ∙ (elim (eqb state 0) as (λ b. AreSame at new (cond b stop (behind_state bucket state)) → cond b Absent (place_behind new bucket state) ≡ cond b Absent (place_behind at bucket state)) [
        | true ↦ λ k. refl
        | false ↦ λ k.
            ap (λ (n : ℕ). cond (eqb n key) Inline (place_in_chain geom new key None (state - 1) geom.overflow)) k.0
            ∙ (elim (eqb (at (key_word bucket)) key) as (λ b. AreSame at new (cond b (inline_walk geom call bucket state) (chain_walk geom call key (state - 1) geom.overflow))
            → cond b Inline (place_in_chain geom new key None (state - 1) geom.overflow) ≡ cond b Inline (place_in_chain geom at key None (state - 1) geom.overflow)) [
              | true ↦ λ k. refl
              | false ↦ λ k. chain_same geom.overflow None (state - 1) k
            ] k.1)
      ] k.1)

  -- and so is what is read behind it, in a bucket of a well-formed volume
  pub rest_same : (bucket : ℕ) (cells : List ℕ) → IsBucket geom at bucket cells → length cells ≤ geom.overflow → AreSame at new (bucket_walk geom call key bucket)
      → AreSame at new (rest bucket (place_in geom at bucket key))
  rest_same bucket cells (empty state none) short k =
      let is : eqb (at (state_word bucket)) 0 ≡ true = grind (arith, nat_tests) in
      let P : Walk → Type 0 = λ w. AreSame at new w in
      subst (λ p. AreSame at new (rest bucket p)) (sym (cond_true (eqb (at (state_word bucket)) 0) Absent (place_behind at bucket (at (state_word bucket))) is))
      (subst P (sym (cond_true (eqb (at (state_word bucket)) 0) stop (absent_walk geom call) is)) tt)
  rest_same bucket cells (taken link state chain) short k =
      let s = at (state_word bucket) in
      let is : eqb s 0 ≡ false = grind (arith, nat_tests) in
      let back : s - 1 ≡ link = omega arith in
      let start = subst (λ l. IsChain geom at l cells) (sym back) chain in
      let P : Walk → Type 0 = λ w. AreSame at new w in
      let k_on : AreSame at new (behind_state bucket s) = subst P (cond_false (eqb s 0) stop (behind_state bucket s) is) k.1 in
      subst (λ p. AreSame at new (rest bucket p)) (sym (cond_false (eqb s 0) Absent (place_behind at bucket s) is))
      (elim (eqb (at (key_word bucket)) key) as (λ b. AreSame at new (cond b (inline_walk geom call bucket s) (chain_walk geom call key (s - 1) geom.overflow))
      → AreSame at new (rest bucket (cond b Inline (place_in_chain geom at key None (s - 1) geom.overflow)))) [
        | true ↦ λ k. k
        | false ↦ λ k. chain_rest bucket is geom.overflow None (s - 1) cells start short k
      ] k_on.1)

module _ (geom : Geom) (at new : Words) (bucket : ℕ) where
  -- one value alone counts
  get_same : (key : ℕ) (p : Place) → AreSame at new (rest geom at new (Get key) key bucket p) → get_by new (value_word_at geom bucket p) ≡ get_by at (value_word_at geom bucket p)
  get_same key Absent k = refl
  get_same key Inline k = ap Val k.0
  get_same key (InCell before cell) k = ap Val k.0

  add_same : (key by : ℕ) (p : Place) → AreSame at new (rest geom at new (Add key by) key bucket p) → add_by new by (value_word_at geom bucket p) ≡ add_by at by (value_word_at geom bucket p)
  add_same key by Absent k = refl
  add_same key by Inline k = ap (λ (v : ℕ). add_by (λ w. v) by (Some (value_word bucket))) k.0
  add_same key by (InCell before cell) k = ap (λ (v : ℕ). add_by (λ w. v) by (Some (cell_value_word geom cell))) k.0

  cas_same : (key old next : ℕ) (p : Place) → AreSame at new (rest geom at new (Cas key old next) key bucket p) → cas_by new old next (value_word_at geom bucket p) ≡ cas_by at old next (value_word_at geom bucket p)
  cas_same key old next Absent k = refl
  cas_same key old next Inline k = ap (λ (v : ℕ). cas_by (λ w. v) old next (Some (value_word bucket))) k.0
  cas_same key old next (InCell before cell) k = ap (λ (v : ℕ). cas_by (λ w. v) old next (Some (cell_value_word geom cell))) k.0

  module _ (state : new (state_word bucket) ≡ at (state_word bucket)) where
    -- a new key in an overflow cell, by the state, the free head and its link
    abbrev cell_put : ℕ → ℕ → ℕ → ℕ → ℕ → List Write × Reply
    cell_put key value cell s l = (
      write (link_word geom cell) (s - 1) ∷ write (cell_key_word geom cell) key ∷ write (cell_value_word geom cell) value ∷ write 0 l ∷ write (state_word bucket) (cell + 2) ∷ [],
      New,
    )

    free_same : (key value : ℕ) → AreSame at new (free_walk geom) → put_in_cell geom new bucket key value (named geom (new 0)) ≡ put_in_cell geom at bucket key value (named geom (at 0))
    free_same key value k =
        ap (λ h. put_in_cell geom new bucket key value (named geom h)) k.0
        ∙ (elim (named geom (at 0)) as (λ o. AreSame at new (elim o [ None ↦ stop | Some cell ↦ look (link_word geom cell) (λ link. stop) ])
        → put_in_cell geom new bucket key value o ≡ put_in_cell geom at bucket key value o) [
          | None ↦ λ k. refl
          | Some cell ↦ λ k. ap (λ s. cell_put key value cell s (new (link_word geom cell))) state ∙ ap (cell_put key value cell (at (state_word bucket))) k.0
        ] k.1)

    put_same : (key value : ℕ) (p : Place) → AreSame at new (rest geom at new (Put key value) key bucket p)
        → put_by geom new bucket key value (value_word_at geom bucket p) ≡ put_by geom at bucket key value (value_word_at geom bucket p)
    put_same key value Absent k =
        let in_bucket : List Write × Reply = (write (key_word bucket) key ∷ write (value_word bucket) value ∷ write (state_word bucket) 1 ∷ [], New) in
        ap (λ (s : ℕ). cond (eqb s 0) in_bucket (put_in_cell geom new bucket key value (named geom (new 0)))) state
        ∙ (elim (eqb (at (state_word bucket)) 0) as (λ b. AreSame at new (cond b stop (free_walk geom))
        → cond b in_bucket (put_in_cell geom new bucket key value (named geom (new 0))) ≡ cond b in_bucket (put_in_cell geom at bucket key value (named geom (at 0)))) [
          | true ↦ λ k. refl
          | false ↦ λ k. free_same key value k
        ] k)
    put_same key value Inline k = ap (λ (v : ℕ). put_by geom (λ w. v) bucket key value (Some (value_word bucket))) k.0
    put_same key value (InCell before cell) k = ap (λ (v : ℕ). put_by geom (λ w. v) bucket key value (Some (cell_value_word geom cell))) k.0

    inline_same : (o : Option ℕ) → AreSame at new (first_walk geom o) → take_inline geom new bucket o ≡ take_inline geom at bucket o
    inline_same None k = refl
    inline_same (Some cell) k =
        let key = k.0 in
        let value = k.1.0 in
        let link = k.1.1.0 in
        let head = k.1.1.1.0 in
        cc

    out_same : (key : ℕ) (p : Place) → AreSame at new (rest geom at new (Del key) key bucket p) → take_out geom new bucket p ≡ take_out geom at bucket p
    out_same key Absent k = refl
    out_same key Inline k = ap (λ (s : ℕ). take_inline geom new bucket (named geom (s - 1))) state ∙ inline_same (named geom (at (state_word bucket) - 1)) k.1
    out_same key (InCell None cell) k = let link = k.1.0 in let head = k.1.1.0 in cc
    out_same key (InCell (Some before) cell) k = let link = k.1.0 in let head = k.1.1.0 in cc

    del_same : (key : ℕ) (p : Place) → AreSame at new (rest geom at new (Del key) key bucket p) → del_by new (value_word_at geom bucket p) ≡ del_by at (value_word_at geom bucket p)
    del_same key Absent k = refl
    del_same key Inline k = ap Was k.0
    del_same key (InCell before cell) k = ap Was k.0

both_same : {ws us : List Write} {r s : Reply} → ws ≡ us → r ≡ s → ◌≡◌ {A = List Write × Reply} (ws, r) (us, s)
both_same e f = cc

module _ (geom : Geom) (fits : GeomFits geom) (shard : ℕ) (at new : Words) (t : Table) (h : Holds geom shard at t) where
  home_in : (key : ℕ) → bucket_of geom key < geom.buckets
  home_in key = let some = fits.some_buckets in omega arith

  behind : (call : Call) (key : ℕ) → AreSame at new (bucket_walk geom call key (bucket_of geom key)) → AreSame at new (rest geom at new call key (bucket_of geom key) (place_in geom at (bucket_of geom key) key))
  behind call key k =
      let b = bucket_of geom key in
      rest_same geom at new call key b (h.chain b) (h.buckets_are b (home_in key)) (chain_short geom shard at t h b (home_in key)) k

  -- where the words on the way are the same, so is what is decided
  pub decision_same : (call : Call) → AreSame at new (walk geom call) → decision geom call new ≡ decision geom call at
  decision_same (Put key value) k =
      let b = bucket_of geom key in
      ap (λ p. put_by geom new b key value (value_word_at geom b p)) (place_same geom at new (Put key value) key b k) ∙ put_same geom at new b k.0 key value (place_in geom at b key) (behind (Put key value) key k)
  decision_same (Get key) k =
      let b = bucket_of geom key in
      let e : get_by new (value_word_at geom b (place_in geom new b key)) ≡ get_by at (value_word_at geom b (place_in geom at b key)) =
      ap (λ p. get_by new (value_word_at geom b p)) (place_same geom at new (Get key) key b k) ∙ get_same geom at new b key (place_in geom at b key) (behind (Get key) key k) in
      both_same refl e
  decision_same (Del key) k =
      let b = bucket_of geom key in
      let place = place_same geom at new (Del key) key b k in
      let out : take_out geom new b (place_in geom new b key) ≡ take_out geom at b (place_in geom at b key) =
      ap (take_out geom new b) place ∙ out_same geom at new b k.0 key (place_in geom at b key) (behind (Del key) key k) in
      let reply : del_by new (value_word_at geom b (place_in geom new b key)) ≡ del_by at (value_word_at geom b (place_in geom at b key)) =
      ap (λ p. del_by new (value_word_at geom b p)) place ∙ del_same geom at new b k.0 key (place_in geom at b key) (behind (Del key) key k) in
      both_same out reply
  decision_same (Add key by) k =
      let b = bucket_of geom key in
      ap (λ p. add_by new by (value_word_at geom b p)) (place_same geom at new (Add key by) key b k) ∙ add_same geom at new b key by (place_in geom at b key) (behind (Add key by) key k)
  decision_same (Cas key old next) k =
      let b = bucket_of geom key in
      ap (λ p. cas_by new old next (value_word_at geom b p)) (place_same geom at new (Cas key old next) key b k) ∙ cas_same geom at new b key old next (place_in geom at b key) (behind (Cas key old next) key k)
  decision_same (Hold shard) k = refl

-- a call that has read all that it needs decides as from the whole volume
pub same_decision : (geom : Geom) → GeomFits geom → (call : Call) (pairs : List (ℕ × ℕ)) (words : List ℕ) (t : Table) → HasRead geom call pairs words t
    → decision geom call (value_or_zero pairs) ≡ decision geom call (slice_index words)
same_decision geom fits call pairs words t r =
    decision_same geom fits (shard_of geom call) (slice_index words) (value_or_zero pairs) t r.volume.holds call (same_on_way pairs words r.agrees (walk geom call) r.over)
