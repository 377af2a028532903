-- The word that a call reads next: one of the volume, and not read yet.
use Rattle.std.proofs.Common.{◌≡◌, ℕ, zero, suc, ◌+◌, ◌-◌, ◌*◌, ◌<◌, ◌≤◌, ◌↔◌, true, false, cond, eqb, ltb, List, [], length, refl, sym, subst, arith, Option, Some, None, IfSome}
use Rattle.std.proofs.lemmas.Bool.Decides.{nat_tests}
use Rattle.rl_model.specs.declared.call.Call.{Call}
use Rattle.rl_model.specs.declared.call.Call.TheVariants.{Put, Get, Del, Add, Cas, Hold}
use Rattle.rl_model.specs.declared.geom.Geom.{Geom}
use Rattle.rl_model.specs.Geom.{GeomFits, bucket_of}
use Rattle.rl_volume.specs.Words.{volume_words, key_word, link_word, named}
use Rattle.rl_volume.specs.Walk.{Walk, stop, look, free_walk, freed_walk, first_walk, absent_walk, inline_walk, cell_walk, behind_value, behind_cell_value, end_walk, chain_walk, bucket_walk, walk, most_reads}
use Rattle.rl_volume.specs.Seen.{value_of, next_word, IsReadingOver, AreNamed}
use Rattle.rl_volume.proofs.WalkLaws.{Looks, IsShort, longer, walk_on, unseen, looked_at, is_walked, none_next, few}

-- a cell that is named is one of the volume
pub named_below : (geom : Geom) (link cell : ℕ) → named geom link ≡ Some cell → cell < geom.overflow
named_below geom zero cell e = absurd (cc)
named_below geom (suc c) cell e =
    elim (ltb c geom.overflow) as (λ b. ltb c geom.overflow ≡ b → cond b (Some c) None ≡ Some cell → cell < geom.overflow) [
      | true ↦ λ below f. let same : c ≡ cell = cc in let lt : c < geom.overflow = grind (arith, nat_tests) in omega arith
      | false ↦ λ no_cell f. absurd (cc)
    ] refl e

module _ (geom : Geom) where
  abbrev In : Walk → Type 0
  In t = Looks (λ w. w < volume_words geom) t

  abbrev behind_state : Call → ℕ → ℕ → ℕ → Walk
  behind_state call key bucket state = look (key_word bucket) (λ own. cond (eqb own key) (inline_walk geom call bucket state) (chain_walk geom call key (state - 1) geom.overflow))

  freed_in : (cell : ℕ) → cell < geom.overflow → In (freed_walk geom cell)
  freed_in cell below = (omega arith, λ link. (omega arith, λ head. tt))

  free_in : In (free_walk geom)
  free_in = (
    omega arith,
    λ head. elim (named geom head) as (λ o. named geom head ≡ o → In (elim o [ None ↦ stop | Some cell ↦ look (link_word geom cell) (λ link. stop) ])) [
      | None ↦ λ e. tt
      | Some cell ↦ λ e. let below = named_below geom head cell e in (omega arith, λ link. tt)
    ] refl,
  )

  first_in : (o : Option ℕ) → ((cell : ℕ) → o ≡ Some cell → cell < geom.overflow) → In (first_walk geom o)
  first_in None there = tt
  first_in (Some cell) there = let below = there cell refl in (omega arith, λ key. (omega arith, λ value. freed_in cell below))

  absent_in : (call : Call) → In (absent_walk geom call)
  absent_in (Put key value) = free_in
  absent_in _ = tt

  value_in : (call : Call) (state : ℕ) → In (behind_value geom call state)
  value_in (Del key) state = first_in (named geom (state - 1)) (named_below geom (state - 1))
  value_in _ state = tt

  cell_value_in : (call : Call) (cell : ℕ) → cell < geom.overflow → In (behind_cell_value geom call cell)
  cell_value_in (Del key) cell below = freed_in cell below
  cell_value_in _ cell below = tt

  end_in : (call : Call) (link : ℕ) → In (end_walk geom call link)
  end_in call link = elim (eqb link 0) as (λ b. In (cond b (absent_walk geom call) stop)) [ true ↦ absent_in call | false ↦ tt ]

  chain_in : (call : Call) (key left link : ℕ) → In (chain_walk geom call key link left)
  chain_in call key zero link = end_in call link
  chain_in call key (suc left) link =
      elim (named geom link) as (λ o. named geom link ≡ o → In (walk_on geom call key link left o)) [
        | None ↦ λ e. end_in call link
        | Some cell ↦ λ e.
            let below = named_below geom link cell e in (
              omega arith,
              λ there. elim (eqb there key) as (λ b. In (cond b (cell_walk geom call cell) (look (link_word geom cell) (λ next. chain_walk geom call key next left)))) [
                | true ↦ (omega arith, λ value. cell_value_in call cell below)
                | false ↦ (omega arith, λ next. chain_in call key left next)
              ],
            )
      ] refl

  bucket_in : (call : Call) (key bucket : ℕ) → bucket < geom.buckets → In (bucket_walk geom call key bucket)
  bucket_in call key bucket hb = (
    omega arith,
    λ state. elim (eqb state 0) as (λ b. In (cond b stop (behind_state call key bucket state))) [
      | true ↦ tt
      | false ↦ (
        omega arith,
        λ own. elim (eqb own key) as (λ b. In (cond b (inline_walk geom call bucket state) (chain_walk geom call key (state - 1) geom.overflow))) [
          | true ↦ (omega arith, λ value. value_in call state)
          | false ↦ chain_in call key geom.overflow (state - 1)
        ],
      )
    ],
  )

  home : GeomFits geom → (key : ℕ) → bucket_of geom key < geom.buckets
  home fits key = let some = fits.some_buckets in omega arith

  walk_in : GeomFits geom → (call : Call) → In (walk geom call)
  walk_in fits (Put key value) = bucket_in (Put key value) key (bucket_of geom key) (home fits key)
  walk_in fits (Get key) = bucket_in (Get key) key (bucket_of geom key) (home fits key)
  walk_in fits (Del key) = bucket_in (Del key) key (bucket_of geom key) (home fits key)
  walk_in fits (Add key by) = bucket_in (Add key by) key (bucket_of geom key) (home fits key)
  walk_in fits (Cas key old new) = bucket_in (Cas key old new) key (bucket_of geom key) (home fits key)
  walk_in fits (Hold shard) = tt

  -- the next word is one of the volume
  pub next_there : GeomFits geom → (call : Call) (pairs : List (ℕ × ℕ)) (word : ℕ) → next_word geom call pairs ≡ Some word → word < volume_words geom
  next_there fits call pairs word e = looked_at pairs (λ w. w < volume_words geom) (walk geom call) word (walk_in fits call) e

  -- and it wasn't read
  pub next_unseen : (call : Call) (pairs : List (ℕ × ℕ)) (word : ℕ) → next_word geom call pairs ≡ Some word → value_of pairs word ≡ None
  next_unseen call pairs word e = unseen pairs (walk geom call) word e

  -- where there is none, the reading is over
  pub reading_over : (call : Call) (pairs : List (ℕ × ℕ)) → (next_word geom call pairs ≡ None) ↔ IsReadingOver geom call pairs
  reading_over call pairs = (is_walked pairs (walk geom call), none_next pairs (walk geom call))

  -- how short a walk is, by what is behind the chain's end or behind the value in a cell
  module _ (call : Call) (key behind : ℕ) (at_end : IsShort (absent_walk geom call) behind) (in_cell : (cell : ℕ) → IsShort (behind_cell_value geom call cell) behind) where
    end_short : (link : ℕ) → IsShort (end_walk geom call link) behind
    end_short link = elim (eqb link 0) as (λ b. IsShort (cond b (absent_walk geom call) stop) behind) [ true ↦ at_end | false ↦ tt ]

    chain_short : (left link : ℕ) → IsShort (chain_walk geom call key link left) (2 * left + behind)
    chain_short zero link = longer (end_walk geom call link) behind (2 * zero + behind) (omega arith) (end_short link)
    chain_short (suc left) link =
        let m : ℕ = 2 * left + behind in
        let two : 2 * suc left + behind ≡ suc (suc m) = omega arith in
        let more : behind ≤ m = omega arith in
        subst (IsShort (chain_walk geom call key link (suc left))) (sym two)
        (elim (named geom link) as (λ o. IsShort (walk_on geom call key link left o) (suc (suc m))) [
          | None ↦ longer (end_walk geom call link) behind (suc (suc m)) (omega (arith, more)) (end_short link)
          | Some cell ↦ λ there. elim (eqb there key) as (λ b. IsShort (cond b (cell_walk geom call cell) (look (link_word geom cell) (λ next. chain_walk geom call key next left))) (suc m)) [
            | true ↦ λ value. longer (behind_cell_value geom call cell) behind m more (in_cell cell)
            | false ↦ λ next. chain_short left next
          ]
        ])

    bucket_short : (bucket rest : ℕ) → ((state : ℕ) → IsShort (behind_value geom call state) rest) → 2 * geom.overflow + behind ≤ suc rest → IsShort (bucket_walk geom call key bucket) (3 + rest)
    bucket_short bucket rest in_own chain =
        let three : 3 + rest ≡ suc (suc (suc rest)) = omega arith in
        subst (IsShort (bucket_walk geom call key bucket)) (sym three)
        (λ state. elim (eqb state 0) as (λ b. IsShort (cond b stop (behind_state call key bucket state)) (suc (suc rest))) [
          | true ↦ tt
          | false ↦ λ own. elim (eqb own key) as (λ b. IsShort (cond b (inline_walk geom call bucket state) (chain_walk geom call key (state - 1) geom.overflow)) (suc rest)) [
            | true ↦ λ value. in_own state
            | false ↦ longer (chain_walk geom call key (state - 1) geom.overflow) (2 * geom.overflow + behind) (suc rest) chain (chain_short geom.overflow (state - 1))
          ]
        ])

  free_short : IsShort (free_walk geom) 2
  free_short = λ head. elim (named geom head) as (λ o. IsShort (elim o [ None ↦ stop | Some cell ↦ look (link_word geom cell) (λ link. stop) ]) 1) [ None ↦ tt | Some cell ↦ λ link. tt ]

  -- a first cell is there only where there are overflow cells
  first_short : (state : ℕ) → IsShort (behind_value geom (Del 0) state) (2 + 2 * geom.overflow)
  first_short state =
      elim (named geom (state - 1)) as (λ o. named geom (state - 1) ≡ o → IsShort (first_walk geom o) (2 + 2 * geom.overflow)) [
        | None ↦ λ e. tt
        | Some cell ↦ λ e.
            let below = named_below geom (state - 1) cell e in
            longer (first_walk geom (Some cell)) 4 (2 + 2 * geom.overflow) (omega arith) (λ own. λ value. λ link. λ head. tt)
      ] refl

  -- the walk of a call is as short as is promised
  walk_short : (call : Call) → IsShort (walk geom call) (most_reads geom call)
  walk_short (Put key value) =
      let b = bucket_of geom key in
      longer (bucket_walk geom (Put key value) key b) (3 + (1 + 2 * geom.overflow)) (4 + 2 * geom.overflow) (omega arith)
      (bucket_short (Put key value) key 2 free_short (λ cell. tt) b (1 + 2 * geom.overflow) (λ state. tt) (omega arith))
  walk_short (Get key) = bucket_short (Get key) key 0 tt (λ cell. tt) (bucket_of geom key) (2 * geom.overflow) (λ state. tt) (omega arith)
  walk_short (Del key) =
      let b = bucket_of geom key in
      longer (bucket_walk geom (Del key) key b) (3 + (2 + 2 * geom.overflow)) (5 + 2 * geom.overflow) (omega arith)
      (bucket_short (Del key) key 2 tt (λ cell. λ link. λ head. tt) b (2 + 2 * geom.overflow) first_short (omega arith))
  walk_short (Add key by) = bucket_short (Add key by) key 0 tt (λ cell. tt) (bucket_of geom key) (2 * geom.overflow) (λ state. tt) (omega arith)
  walk_short (Cas key old new) = bucket_short (Cas key old new) key 0 tt (λ cell. tt) (bucket_of geom key) (2 * geom.overflow) (λ state. tt) (omega arith)
  walk_short (Hold shard) = tt

  -- a call that has read as its walk named has read fewer words than that where one more is next
  pub few_read : (call : Call) (pairs : List (ℕ × ℕ)) → AreNamed geom call pairs → IfSome (next_word geom call pairs) (λ word. length pairs < most_reads geom call)
  few_read call pairs named =
      elim (next_word geom call pairs) as (λ o. next_word geom call pairs ≡ o → IfSome o (λ word. length pairs < most_reads geom call)) [
        | None ↦ λ e. tt
        | Some word ↦ λ e. few (walk geom call) (most_reads geom call) (walk_short call) [] pairs named word e
      ] refl
