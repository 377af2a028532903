-- What a walk comes to, of whatever call it is.
use Rattle.std.proofs.Common.{◌≡◌, ◌≢◌, ℕ, zero, suc, ◌+◌, ◌-◌, ◌<◌, ◌≤◌, true, false, cond, eqb, List, [], ◌∷◌, ◌++◌, length, take, get_or, refl, sym, ap, ◌∙◌, subst, arith, Option, Some, None, IfSome, slice_index, append_assoc, append-nil}
use Rattle.std.specs.Option.{unwrap_or}
use Rattle.std.proofs.lemmas.Bool.Decides.{nat_tests}
use Rattle.rl_volume.specs.Volume.{Words}
use Rattle.rl_volume.proofs.Sums.{cond_true, cond_false}
use Rattle.rl_volume.specs.Seen.{value_of, value_or_zero, AgreesWith, next_in, IsWalked}
use Rattle.rl_model.specs.declared.call.Call.{Call}
use Rattle.rl_model.specs.declared.geom.Geom.{Geom}
use Rattle.rl_volume.specs.Words.{link_word, cell_key_word, named}
use Rattle.rl_volume.specs.Walk.{Walk, stop, look, cell_walk, end_walk, chain_walk}

-- each word that the walk may look at is such
abbrev pub Looks : (ℕ → Type 0) → Walk → Type 0
Looks P stop = Unit {0}
Looks P (look word go) = P word × ((value : ℕ) → Looks P (go value))

-- the walk looks at so many words at most
abbrev pub IsShort : Walk → ℕ → Type 0
IsShort stop most = Unit {0}
IsShort (look word go) zero = ⊥
IsShort (look word go) (suc most) = (value : ℕ) → IsShort (go value) most

-- a walk of so many words at most is one of more at most
pub longer : (t : Walk) (most more : ℕ) → most ≤ more → IsShort t most → IsShort t more
longer stop most more h short = tt
longer (look w go) zero more h short = absurd short
longer (look w go) (suc most) zero h short = absurd (omega arith)
longer (look w go) (suc most) (suc more) h short = λ v. longer (go v) most more (omega arith) (short v)

-- each word on the way, as a volume leads it, is in another volume the same
abbrev pub AreSame : Words → Words → Walk → Type 0
AreSame at new stop = Unit {0}
AreSame at new (look word go) = (new word ≡ at word) × AreSame at new (go (at word))

-- the way goes on behind a word that was read, by what it gave
abbrev pub by_value : ℕ → (ℕ → Walk) → List (ℕ × ℕ) → Option ℕ → Option ℕ
by_value word go pairs None = Some word
by_value word go pairs (Some value) = next_in (go value) pairs

pub step : (word : ℕ) (go : ℕ → Walk) (pairs : List (ℕ × ℕ)) (o : Option ℕ) → value_of pairs word ≡ o → next_in (look word go) pairs ≡ by_value word go pairs o
step word go pairs o e = ap (by_value word go pairs) e

pub step_none : (word : ℕ) (go : ℕ → Walk) (pairs : List (ℕ × ℕ)) → value_of pairs word ≡ None → next_in (look word go) pairs ≡ Some word
step_none word go pairs e = ap (by_value word go pairs) e

pub step_some : (word : ℕ) (go : ℕ → Walk) (pairs : List (ℕ × ℕ)) (value : ℕ) → value_of pairs word ≡ Some value → next_in (look word go) pairs ≡ next_in (go value) pairs
step_some word go pairs value e = ap (by_value word go pairs) e

-- the walk behind a link, by the cell that it names
abbrev pub walk_on : Geom → Call → ℕ → ℕ → ℕ → Option ℕ → Walk
walk_on geom call key link left None = end_walk geom call link
walk_on geom call key link left (Some cell) =
    look (cell_key_word geom cell) (λ there. cond (eqb there key) (cell_walk geom call cell) (look (link_word geom cell) (λ next. chain_walk geom call key next left)))

-- one cell more is passed
pub chain_step : (geom : Geom) (call : Call) (key link passed : ℕ) → passed < geom.overflow
    → chain_walk geom call key link (geom.overflow - passed) ≡ walk_on geom call key link (geom.overflow - (passed + 1)) (named geom link)
chain_step geom call key link passed h =
    let e : geom.overflow - passed ≡ suc (geom.overflow - (passed + 1)) = omega arith in
    ap (chain_walk geom call key link) e

-- the key of the next cell was read: the walk goes on by it
module _ (geom : Geom) (call : Call) (key link passed cell : ℕ) (pairs : List (ℕ × ℕ)) (h : passed < geom.overflow) (is : named geom link ≡ Some cell) (there : ℕ) (read : value_of pairs (cell_key_word geom cell) ≡ Some there) where
  abbrev behind_key : ℕ → Walk
  behind_key left = cond (eqb there key) (cell_walk geom call cell) (look (link_word geom cell) (λ next. chain_walk geom call key next left))

  at_cell : next_in (chain_walk geom call key link (geom.overflow - passed)) pairs ≡ next_in (behind_key (geom.overflow - (passed + 1))) pairs
  at_cell =
      let left = geom.overflow - (passed + 1) in
      ap (λ t. next_in t pairs) (chain_step geom call key link passed h ∙ ap (walk_on geom call key link left) is)
      ∙ step_some (cell_key_word geom cell) (λ v. cond (eqb v key) (cell_walk geom call cell) (look (link_word geom cell) (λ next. chain_walk geom call key next left))) pairs there read

  pub key_found : there ≡ key → next_in (chain_walk geom call key link (geom.overflow - passed)) pairs ≡ next_in (cell_walk geom call cell) pairs
  key_found same =
      let hit : eqb there key ≡ true = grind (arith, nat_tests) in
      at_cell ∙ ap (λ t. next_in t pairs) (cond_true (eqb there key) (cell_walk geom call cell) _ hit)

  pub key_passed : there ≢ key → (o : Option ℕ) → value_of pairs (link_word geom cell) ≡ o
      → next_in (chain_walk geom call key link (geom.overflow - passed)) pairs ≡ by_value (link_word geom cell) (λ next. chain_walk geom call key next (geom.overflow - (passed + 1))) pairs o
  key_passed other o e =
      let miss : eqb there key ≡ false = grind (arith, nat_tests) in
      let left = geom.overflow - (passed + 1) in
      at_cell ∙ ap (λ t. next_in t pairs) (cond_false (eqb there key) (cell_walk geom call cell) (look (link_word geom cell) (λ next. chain_walk geom call key next left)) miss)
      ∙ step (link_word geom cell) (λ next. chain_walk geom call key next left) pairs o e

module _ (pairs : List (ℕ × ℕ)) where
  -- the word that is next wasn't read
  pub unseen : (t : Walk) (word : ℕ) → next_in t pairs ≡ Some word → value_of pairs word ≡ None
  unseen stop word e = absurd (cc)
  unseen (look w go) word e =
      elim (value_of pairs w) as (λ o. value_of pairs w ≡ o → by_value w go pairs o ≡ Some word → value_of pairs word ≡ None) [
        | None ↦ λ none f. let same : w ≡ word = cc in ap (value_of pairs) (sym same) ∙ none
        | Some v ↦ λ some f. unseen (go v) word f
      ] refl e

  -- it is one that the walk may look at
  pub looked_at : (P : ℕ → Type 0) (t : Walk) (word : ℕ) → Looks P t → next_in t pairs ≡ Some word → P word
  looked_at P stop word all e = absurd (cc)
  looked_at P (look w go) word all e =
      elim (value_of pairs w) as (λ o. by_value w go pairs o ≡ Some word → P word) [
        | None ↦ λ f. let same : w ≡ word = cc in subst P same all.0
        | Some v ↦ λ f. looked_at P (go v) word (all.1 v) f
      ] e

  -- where none is next, all on the way were read
  pub is_walked : (t : Walk) → next_in t pairs ≡ None → IsWalked t pairs
  is_walked stop e = tt
  is_walked (look w go) e =
      elim (value_of pairs w) as (λ o. value_of pairs w ≡ o → by_value w go pairs o ≡ None → IsWalked (look w go) pairs) [
        | None ↦ λ none f. absurd (cc)
        | Some v ↦ λ some f. (v, some, is_walked (go v) f)
      ] refl e

  pub none_next : (t : Walk) → IsWalked t pairs → next_in t pairs ≡ None
  none_next stop h = refl
  none_next (look w go) h = step_some w go pairs h.0 h.1 ∙ none_next (go h.0) h.2

  -- where none is next, the words read say of each on the way what the volume says
  pub same_on_way : (words : List ℕ) → AgreesWith pairs words → (t : Walk) → next_in t pairs ≡ None → AreSame (slice_index words) (value_or_zero pairs) t
  same_on_way words agrees stop e = tt
  same_on_way words agrees (look w go) e =
      elim (value_of pairs w) as (λ o. value_of pairs w ≡ o → IfSome o (λ v. slice_index words w ≡ v) → by_value w go pairs o ≡ None → AreSame (slice_index words) (value_or_zero pairs) (look w go)) [
        | None ↦ λ none is f. absurd (cc)
        | Some v ↦ λ some is f. (
          ap (λ o. unwrap_or o 0) some ∙ sym is,
          subst (λ n. AreSame (slice_index words) (value_or_zero pairs) (go n)) (sym is) (same_on_way words agrees (go v) f),
        )
      ] refl (agrees w) e

-- a word that was read gives the same when more are
pub value_front : (pairs more : List (ℕ × ℕ)) (word value : ℕ) → value_of pairs word ≡ Some value → value_of (pairs ++ more) word ≡ Some value
value_front [] more word value e = absurd (cc)
value_front (p ∷ ps) more word value e =
    elim (eqb p.0 word) as (λ b. cond b (Some p.1) (value_of ps word) ≡ Some value → cond b (Some p.1) (value_of (ps ++ more) word) ≡ Some value) [
      | true ↦ λ f. f
      | false ↦ λ f. value_front ps more word value f
    ] e

value_last : (pairs : List (ℕ × ℕ)) (p : ℕ × ℕ) (word : ℕ) → value_of pairs word ≡ None → p.0 ≡ word → value_of (pairs ++ p ∷ []) word ≡ Some p.1
value_last [] p word none e = let hit : eqb p.0 word ≡ true = grind (arith, nat_tests) in cond_true (eqb p.0 word) (Some p.1) None hit
value_last (q ∷ qs) p word none e =
    elim (eqb q.0 word) as (λ b. cond b (Some q.1) (value_of qs word) ≡ None → cond b (Some q.1) (value_of (qs ++ p ∷ []) word) ≡ Some p.1) [
      | true ↦ λ f. absurd (cc)
      | false ↦ λ f. value_last qs p word f e
    ] none

-- a walk of so many words at most has fewer behind it where a word is next, if each was the next one when it was read
pub few : (t : Walk) (most : ℕ) → IsShort t most → (base pairs : List (ℕ × ℕ)) → ((i : ℕ) → i < length pairs → next_in t (base ++ take i pairs) ≡ Some (get_or pairs i (0, 0)).0)
    → (word : ℕ) → next_in t (base ++ pairs) ≡ Some word → length pairs < most
few stop most short base pairs named word e = absurd (cc)
few (look w go) zero short base pairs named word e = absurd short
few (look w go) (suc most) short base pairs named word e =
    elim (value_of base w) as (λ o. value_of base w ≡ o → length pairs < suc most) [
      | Some v ↦ λ some.
          let on : (more : List (ℕ × ℕ)) → next_in (look w go) (base ++ more) ≡ next_in (go v) (base ++ more) = λ more. step_some w go (base ++ more) v (value_front base more w v some) in
          omega (arith, few (go v) most (short v) base pairs (λ i h. sym (on (take i pairs)) ∙ named i h) word (sym (on pairs) ∙ e))
      | None ↦ λ none.
          elim pairs as (λ ps. ((i : ℕ) → i < length ps → next_in (look w go) (base ++ take i ps) ≡ Some (get_or ps i (0, 0)).0) → next_in (look w go) (base ++ ps) ≡ Some word → length ps < suc most) [
            | [] ↦ λ named e. omega arith
            | p ∷ ps ↦ λ named e.
                let first : next_in (look w go) base ≡ Some p.0 = ap (next_in (look w go)) (sym (append-nil base)) ∙ named 0 (omega arith) in
                let here = step_none w go base none in
                let same : p.0 ≡ w = cc in
                let next : List (ℕ × ℕ) = base ++ p ∷ [] in
                let on : (more : List (ℕ × ℕ)) → next_in (look w go) (base ++ p ∷ more) ≡ next_in (go p.1) (next ++ more) = λ more.
                ap (next_in (look w go)) (sym (append_assoc base (p ∷ []) more)) ∙ step_some w go (next ++ more) p.1 (value_front next more w p.1 (value_last base p w none same)) in
                omega (arith, few (go p.1) most (short p.1) next ps (λ i h. sym (on (take i ps)) ∙ named (suc i) (omega arith)) word (sym (on ps) ∙ e))
          ] named e
    ] refl
