-- Items that are read are spelled so, and items that are spelled so are read.
use Rattle.std.proofs.Common.{◌≡◌, ℕ, ◌+◌, Bool, true, false, ◌&&◌, cond, map, List, [], ◌∷◌, codes, Ok, inl, inr, refl, ap, subst, ◌∙◌, arith}
use Rattle.std.specs.List.{AllByRecursion, join_with_byte}
use Rattle.rl_text.specs.Rows.{Row, words}
use Rattle.rl_text.specs.Reading.{◌>>=◌, begins, whole, end_at}
use Rattle.rl_text.proofs.TextLaws.{AreLines, IsPlain, rows_of_lines}
use Rattle.rl_text.proofs.WordLaws.{bind_ok, ok_is, chosen, whole-takes, whole-again, end-takes, end-again, words-made}
use Rattle.rl_ops.specs.Body.{Items, body_at, body_lines}

-- each item keeps its limits in the state after the items before it, and the file may end after the last one
abbrev pub FitsAfter : {S X : Type 0} → (S → X → Type 0) → Items S X → S → List X → Type 0
FitsAfter Fits items state [] = items.may_end state ≡ true
FitsAfter Fits items state (x ∷ xs) = Fits state x × FitsAfter Fits items (items.next state x) xs

-- what is known of the reader of an item
pub record ItemLaws {S X : Type 0} (items : Items S X) (words_of : X → List (List ℕ)) (Fits : S → X → Type 0) : Type 0 where
  pub takes : (state : S) (row : Row) (x : X) → items.item state row ≡ Ok x → (words row ≡ words_of x) × Fits state x
  pub again : (state : S) (row : Row) (x : X) → words row ≡ words_of x → Fits state x → items.item state row ≡ Ok x
  pub plain : (state : S) (x : X) → Fits state x → IsPlain (words_of x)
  pub no_end : (state : S) (row : Row) (x : X) → words row ≡ words_of x → Fits state x → begins row (codes "end") ≡ false

-- the items are spelled by the rows
pub record ItemsTaken {S X : Type 0} (words_of : X → List (List ℕ)) (Fits : S → X → Type 0) (items : Items S X) (state : S) (rows : List Row) (xs : List X) : Type 0 where
  pub lines : AreLines rows (body_lines (map words_of xs))
  pub fit : FitsAfter Fits items state xs

both_true : (a b : Bool) → (a && b) ≡ true → (a ≡ true) × (b ≡ true)
both_true true b e = (refl, e)
both_true false b e = absurd cc

pub body-takes : {S X : Type 0} {items : Items S X} {words_of : X → List (List ℕ)} {Fits : S → X → Type 0} (laws : ItemLaws items words_of Fits) (state : S) (read : ℕ) (rows : List Row) (xs : List X)
    → body_at items state read rows ≡ Ok xs → ItemsTaken words_of Fits items state rows xs
unfolding body_at
body-takes laws state read [] xs e = absurd cc
body-takes {S} {X} {items} {words_of} {Fits} laws state read (row ∷ rows) xs e =
    let there = bind_ok (whole row) (λ there. cond (items.may_end state && begins there (codes "end"))
    (end_at there rows >>= λ alone. Ok [])
    (items.item state there >>= λ x. (body_at items (items.next state x) (read + 1) rows >>= λ xs. Ok (x ∷ xs)))) xs e in
    let w = whole-takes row there.0 there.1 in
    elim (chosen (items.may_end state && begins there.0 (codes "end")) (end_at there.0 rows >>= λ alone. Ok [])
    (items.item state there.0 >>= λ x. (body_at items (items.next state x) (read + 1) rows >>= λ xs. Ok (x ∷ xs))) (Ok xs) there.2) [
      | inl p ↦
          let a = bind_ok (end_at there.0 rows) (λ alone. Ok []) xs p.1 in
          let two = both_true (items.may_end state) (begins there.0 (codes "end")) p.0 in
          let lines : AreLines (row ∷ rows) (body_lines (map words_of [])) = rw w.0 (end-takes there.0 rows a.0 (rw (← w.0) w.1) two.1 a.1) in
          subst (λ (ys : List X). ItemsTaken words_of Fits items state (row ∷ rows) ys) (ok_is [] xs a.2) (record { lines = lines; fit = two.0 })
      | inr p ↦
          let a = bind_ok (items.item state there.0) (λ x. body_at items (items.next state x) (read + 1) rows >>= λ xs. Ok (x ∷ xs)) xs p.1 in
          let b = bind_ok (body_at items (items.next state a.0) (read + 1) rows) (λ xs. Ok (a.0 ∷ xs)) xs a.2 in
          let one = laws.takes state there.0 a.0 a.1 in
          let others = body-takes laws (items.next state a.0) (read + 1) rows b.0 b.1 in
          subst (λ (ys : List X). ItemsTaken words_of Fits items state (row ∷ rows) ys) {x = a.0 ∷ b.0} (ok_is (a.0 ∷ b.0) xs b.2) (record {
            lines = (record { ended = w.1; words = ap words w.0 ∙ one.0 }, others.lines);
            fit = (one.1, others.fit);
          })
    ]

and_false : (a b : Bool) → b ≡ false → (a && b) ≡ false
and_false true b e = e
and_false false b e = refl

pub body-again : {S X : Type 0} {items : Items S X} {words_of : X → List (List ℕ)} {Fits : S → X → Type 0} (laws : ItemLaws items words_of Fits) (state : S) (read n : ℕ) (xs : List X)
    → FitsAfter Fits items state xs → body_at items state read (rows_of_lines n (body_lines (map words_of xs))) ≡ Ok xs
unfolding body_at
body-again laws state read n [] fit =
    let row : Row = record { number = n; text = codes "end"; ended = true } in
    let e = end-again row (words-made n (codes "end" ∷ []) (omega arith, (refl, tt))) in
    rw (whole-again row refl, fit, e.0, e.1) refl
body-again {S} {X} {items} {words_of} laws state read n (x ∷ xs) fit =
    let row : Row = record { number = n; text = join_with_byte 32 (words_of x); ended = true } in
    let e : words row ≡ words_of x = words-made n (words_of x) (laws.plain state x fit.0) in
    let goes_on : (items.may_end state && begins row (codes "end")) ≡ false = and_false (items.may_end state) (begins row (codes "end")) (laws.no_end state row x e fit.0) in
    rw (
      whole-again row refl,
      goes_on,
      laws.again state row x e fit.0,
      body-again laws (items.next state x) (read + 1) (n + 1) xs fit.1,
    ) refl

-- the lines of items that fit are made of plain words
pub body-plain : {S X : Type 0} {items : Items S X} {words_of : X → List (List ℕ)} {Fits : S → X → Type 0} (laws : ItemLaws items words_of Fits) (state : S) (xs : List X)
    → FitsAfter Fits items state xs → AllByRecursion IsPlain (body_lines (map words_of xs))
body-plain laws state [] fit = ((omega arith, (refl, tt)), tt)
body-plain {S} {X} {items} laws state (x ∷ xs) fit = (laws.plain state x fit.0, body-plain laws (items.next state x) xs fit.1)
