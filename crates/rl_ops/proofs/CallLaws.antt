-- A call that is read is spelled so, and a call that is spelled so is read.
use Rattle.std.proofs.Common.{◌≡◌, ℕ, ◌+◌, ◌^◌, ◌<◌, ◌≤◌, true, List, ◌∷◌, ◌++◌, length, codes, Some, Result, Ok, Err, IfOk, inl, inr, refl, sym, ap, subst, ◌∙◌, arith}
use Rattle.std.specs.List.{AllByRecursion}
use Rattle.std.specs.Str.{bytes_eq}
use Rattle.std.proofs.lemmas.Slice.Eq.{bytes_eq-Decides}
use Rattle.rl_text.specs.declared.causes.Refusal.{Refusal}
use Rattle.rl_text.specs.declared.causes.Why.TheVariants.{Word}
use Rattle.rl_text.specs.Rows.{Row, word_at}
use Rattle.rl_text.specs.Reading.{◌>>=◌, refusal_at, needed_at, number_at, below_at}
use Rattle.rl_text.proofs.TextLaws.{is_plain}
use Rattle.rl_text.proofs.WordLaws.{IsNumberAt, ok_is, chosen, number-takes, number-again, below-takes, below-again, needed-takes, needed-again, plain-decimal}
use Rattle.rl_text.proofs.FromLaws.{from_bind, rest_from, rest_from-word, word_at-rest}
use Rattle.rl_model.specs.declared.call.Call.{Call}
use Rattle.rl_model.specs.declared.call.Call.TheVariants.{Put, Get, Del, Add, Cas, Hold}
use Rattle.rl_ops.specs.CallSpelling.{call_words, CallFits, words_from, SpellsCall}
use Rattle.rl_ops.specs.CallReading.{put_at, get_at, del_at, add_at, cas_at, hold_at, call_named, call_at}

-- the answer of the reader is spelled there
abbrev pub CallTaken : ℕ → Row → ℕ → Call × ℕ → Type 0
CallTaken shards row from x = SpellsCall shards row from x.0 x.1

-- a name and one, two or three numbers
words_two : (row : Row) (from : ℕ) (name one : List ℕ) → 1 ≤ from → word_at row from ≡ Some name → word_at row (from + 1) ≡ Some one
    → rest_from row from ≡ name ∷ one ∷ rest_from row (from + 2)
words_two row from name one first n a =
    rest_from-word row from (from + 1) name first refl n
    ∙ ap (λ (ws : List (List ℕ)). name ∷ ws) (rest_from-word row (from + 1) (from + 2) one (omega arith) (omega arith) a)

words_three : (row : Row) (from : ℕ) (name one two : List ℕ) → 1 ≤ from → word_at row from ≡ Some name → word_at row (from + 1) ≡ Some one → word_at row (from + 2) ≡ Some two
    → rest_from row from ≡ name ∷ one ∷ two ∷ rest_from row (from + 3)
words_three row from name one two first n a b =
    words_two row from name one first n a
    ∙ ap (λ (ws : List (List ℕ)). name ∷ one ∷ ws) (rest_from-word row (from + 2) (from + 3) two (omega arith) (omega arith) b)

words_four : (row : Row) (from : ℕ) (name one two three : List ℕ) → 1 ≤ from → word_at row from ≡ Some name → word_at row (from + 1) ≡ Some one → word_at row (from + 2) ≡ Some two → word_at row (from + 3) ≡ Some three
    → rest_from row from ≡ name ∷ one ∷ two ∷ three ∷ rest_from row (from + 4)
words_four row from name one two three first n a b d =
    words_three row from name one two first n a b
    ∙ ap (λ (ws : List (List ℕ)). name ∷ one ∷ two ∷ ws) (rest_from-word row (from + 3) (from + 4) three (omega arith) (omega arith) d)

-- the call that was made is the one that was answered
taken : (shards : ℕ) (row : Row) (from : ℕ) (made x : Call × ℕ) → CallTaken shards row from made → ◌≡◌ {A = Result (Call × ℕ) Refusal} (Ok made) (Ok x) → CallTaken shards row from x
taken shards row from made x t e = subst (λ (y : Call × ℕ). CallTaken shards row from y) (ok_is made x e) t

-- a call of one number
one-taken : (shards : ℕ) (row : Row) (from : ℕ) (x : Call × ℕ) (call : ℕ → Call) → ((key : ℕ) → IsNumberAt row (from + 1) key → CallTaken shards row from (call key, from + 2))
    → (number_at row (from + 1) >>= λ key. Ok (call key, from + 2)) ≡ Ok x → CallTaken shards row from x
one-taken shards row from x call made e =
    from_bind (number_at row (from + 1)) (λ key. Ok (call key, from + 2)) x e (λ key k last. taken shards row from (call key, from + 2) x (made key (number-takes row (from + 1) key k)) last)

-- and of two
two-taken : (shards : ℕ) (row : Row) (from : ℕ) (x : Call × ℕ) (call : ℕ → ℕ → Call)
    → ((key value : ℕ) → IsNumberAt row (from + 1) key → IsNumberAt row (from + 2) value → CallTaken shards row from (call key value, from + 3))
    → (number_at row (from + 1) >>= λ key. number_at row (from + 2) >>= λ value. Ok (call key value, from + 3)) ≡ Ok x → CallTaken shards row from x
two-taken shards row from x call made e =
    from_bind (number_at row (from + 1)) (λ key. number_at row (from + 2) >>= λ value. Ok (call key value, from + 3)) x e (λ key k rest.
    from_bind (number_at row (from + 2)) (λ value. Ok (call key value, from + 3)) x rest (λ value v last.
    taken shards row from (call key value, from + 3) x (made key value (number-takes row (from + 1) key k) (number-takes row (from + 2) value v)) last))

put-takes : (shards : ℕ) (row : Row) (from : ℕ) (x : Call × ℕ) → 1 ≤ from → word_at row from ≡ Some (codes "put") → put_at row from ≡ Ok x → CallTaken shards row from x
unfolding put_at
put-takes shards row from x one name e =
    two-taken shards row from x Put (λ key value k v. record { fits = (k.fits, v.fits); words_are = words_three row from _ _ _ one name k.word v.word; after_is = refl }) e

get-takes : (shards : ℕ) (row : Row) (from : ℕ) (x : Call × ℕ) → 1 ≤ from → word_at row from ≡ Some (codes "get") → get_at row from ≡ Ok x → CallTaken shards row from x
unfolding get_at
get-takes shards row from x one name e = one-taken shards row from x Get (λ key k. record { fits = k.fits; words_are = words_two row from _ _ one name k.word; after_is = refl }) e

del-takes : (shards : ℕ) (row : Row) (from : ℕ) (x : Call × ℕ) → 1 ≤ from → word_at row from ≡ Some (codes "del") → del_at row from ≡ Ok x → CallTaken shards row from x
unfolding del_at
del-takes shards row from x one name e = one-taken shards row from x Del (λ key k. record { fits = k.fits; words_are = words_two row from _ _ one name k.word; after_is = refl }) e

add-takes : (shards : ℕ) (row : Row) (from : ℕ) (x : Call × ℕ) → 1 ≤ from → word_at row from ≡ Some (codes "add") → add_at row from ≡ Ok x → CallTaken shards row from x
unfolding add_at
add-takes shards row from x one name e =
    two-taken shards row from x Add (λ key by k v. record { fits = (k.fits, v.fits); words_are = words_three row from _ _ _ one name k.word v.word; after_is = refl }) e

cas-takes : (shards : ℕ) (row : Row) (from : ℕ) (x : Call × ℕ) → 1 ≤ from → word_at row from ≡ Some (codes "cas") → cas_at row from ≡ Ok x → CallTaken shards row from x
unfolding cas_at
cas-takes shards row from x one name e =
    from_bind (number_at row (from + 1)) (λ key. number_at row (from + 2) >>= λ old. number_at row (from + 3) >>= λ new. Ok (Cas key old new, from + 4)) x e (λ key k rest.
    from_bind (number_at row (from + 2)) (λ old. number_at row (from + 3) >>= λ new. Ok (Cas key old new, from + 4)) x rest (λ old o more.
    from_bind (number_at row (from + 3)) (λ new. Ok (Cas key old new, from + 4)) x more (λ new n last.
    let kt = number-takes row (from + 1) key k in
    let ot = number-takes row (from + 2) old o in
    let nt = number-takes row (from + 3) new n in
    taken shards row from (Cas key old new, from + 4) x (record { fits = (kt.fits, ot.fits, nt.fits); words_are = words_four row from _ _ _ _ one name kt.word ot.word nt.word; after_is = refl }) last)))

hold-takes : (shards : ℕ) (row : Row) (from : ℕ) (x : Call × ℕ) → 1 ≤ from → word_at row from ≡ Some (codes "hold") → hold_at shards row from ≡ Ok x → CallTaken shards row from x
unfolding hold_at
hold-takes shards row from x one name e =
    from_bind (below_at row (from + 1) shards) (λ shard. Ok (Hold shard, from + 2)) x e (λ shard k last.
    let kt = below-takes row (from + 1) shards shard k in
    taken shards row from (Hold shard, from + 2) x (record { fits = kt.1; words_are = words_two row from _ _ one name kt.0.word; after_is = refl }) last)

-- the word that equals a name is that name
named : (row : Row) (from : ℕ) (word name : List ℕ) → word_at row from ≡ Some word → bytes_eq word name ≡ true → word_at row from ≡ Some name
named row from word name w same = w ∙ ap (λ (v : List ℕ). Some v) ((bytes_eq-Decides word name).0 same)

pub call-takes : (shards : ℕ) (row : Row) (from : ℕ) (x : Call × ℕ) → 1 ≤ from → call_at shards row from ≡ Ok x → CallTaken shards row from x
unfolding call_at call_named
call-takes shards row from x one e =
    from_bind (needed_at row from) (call_named shards row from) x e (λ name n rest.
    let w : word_at row from ≡ Some name = needed-takes row from name n in
    elim (chosen (bytes_eq name (codes "put")) _ _ (Ok x) rest) [
      | inl p ↦ put-takes shards row from x one (named row from name (codes "put") w p.0) p.1
      | inr p ↦ elim (chosen (bytes_eq name (codes "get")) _ _ (Ok x) p.1) [
        | inl q ↦ get-takes shards row from x one (named row from name (codes "get") w q.0) q.1
        | inr q ↦ elim (chosen (bytes_eq name (codes "del")) _ _ (Ok x) q.1) [
          | inl r ↦ del-takes shards row from x one (named row from name (codes "del") w r.0) r.1
          | inr r ↦ elim (chosen (bytes_eq name (codes "add")) _ _ (Ok x) r.1) [
            | inl s ↦ add-takes shards row from x one (named row from name (codes "add") w s.0) s.1
            | inr s ↦ elim (chosen (bytes_eq name (codes "cas")) _ _ (Ok x) s.1) [
              | inl t ↦ cas-takes shards row from x one (named row from name (codes "cas") w t.0) t.1
              | inr t ↦ elim (chosen (bytes_eq name (codes "hold")) _ _ (Ok x) t.1) [
                | inl u ↦ hold-takes shards row from x one (named row from name (codes "hold") w u.0) u.1
                | inr u ↦ absurd (refused_ok (refusal_at row from Word) x u.1)
              ]
            ]
          ]
        ]
      ]
    ])
  where
    refused_ok : (d : Refusal) (y : Call × ℕ) → ◌≡◌ {A = Result (Call × ℕ) Refusal} (Err d) (Ok y) → ⊥
    refused_ok d y e = cc

-- what is spelled from word `from` on, with any words after it, is read
pub call-again : (shards : ℕ) (row : Row) (from : ℕ) (call : Call) (more : List (List ℕ)) → 1 ≤ from → shards < 2 ^ 32 → CallFits shards call → rest_from row from ≡ call_words call ++ more
    → call_at shards row from ≡ Ok (call, from + length (call_words call))
unfolding call_at call_named put_at get_at del_at add_at cas_at hold_at
call-again shards row from (Put key value) more one few fits e =
    let name = needed-again row from (codes "put") (word_at-rest row from from 0 _ one (omega arith) e) in
    let k = number-again row (from + 1) key (record { word = word_at-rest row from (from + 1) 1 _ one refl e; fits = fits.0 }) in
    let v = number-again row (from + 2) value (record { word = word_at-rest row from (from + 2) 2 _ one refl e; fits = fits.1 }) in
    rw (name, k, v) refl
call-again shards row from (Get key) more one few fits e =
    let name = needed-again row from (codes "get") (word_at-rest row from from 0 _ one (omega arith) e) in
    let k = number-again row (from + 1) key (record { word = word_at-rest row from (from + 1) 1 _ one refl e; fits = fits }) in
    rw (name, k) refl
call-again shards row from (Del key) more one few fits e =
    let name = needed-again row from (codes "del") (word_at-rest row from from 0 _ one (omega arith) e) in
    let k = number-again row (from + 1) key (record { word = word_at-rest row from (from + 1) 1 _ one refl e; fits = fits }) in
    rw (name, k) refl
call-again shards row from (Add key by) more one few fits e =
    let name = needed-again row from (codes "add") (word_at-rest row from from 0 _ one (omega arith) e) in
    let k = number-again row (from + 1) key (record { word = word_at-rest row from (from + 1) 1 _ one refl e; fits = fits.0 }) in
    let v = number-again row (from + 2) by (record { word = word_at-rest row from (from + 2) 2 _ one refl e; fits = fits.1 }) in
    rw (name, k, v) refl
call-again shards row from (Cas key old new) more one few fits e =
    let name = needed-again row from (codes "cas") (word_at-rest row from from 0 _ one (omega arith) e) in
    let k = number-again row (from + 1) key (record { word = word_at-rest row from (from + 1) 1 _ one refl e; fits = fits.0 }) in
    let o = number-again row (from + 2) old (record { word = word_at-rest row from (from + 2) 2 _ one refl e; fits = fits.1 }) in
    let n = number-again row (from + 3) new (record { word = word_at-rest row from (from + 3) 3 _ one refl e; fits = fits.2 }) in
    rw (name, k, o, n) refl
call-again shards row from (Hold shard) more one few fits e =
    let name = needed-again row from (codes "hold") (word_at-rest row from from 0 _ one (omega arith) e) in
    let k = below-again row (from + 1) shards shard (record { word = word_at-rest row from (from + 1) 1 _ one refl e; fits = omega arith }) fits in
    rw (name, k) refl

-- the words of a call that fits have no space and no newline
pub call-plain : (shards : ℕ) (call : Call) → shards < 2 ^ 32 → CallFits shards call → AllByRecursion (λ w. is_plain w ≡ true) (call_words call)
call-plain shards (Put key value) few fits = (refl, (plain-decimal key fits.0, (plain-decimal value fits.1, tt)))
call-plain shards (Get key) few fits = (refl, (plain-decimal key fits, tt))
call-plain shards (Del key) few fits = (refl, (plain-decimal key fits, tt))
call-plain shards (Add key by) few fits = (refl, (plain-decimal key fits.0, (plain-decimal by fits.1, tt)))
call-plain shards (Cas key old new) few fits = (refl, (plain-decimal key fits.0, (plain-decimal old fits.1, (plain-decimal new fits.2, tt))))
call-plain shards (Hold shard) few fits = (refl, (plain-decimal shard (omega (arith, fits)), tt))

-- ---- the clauses of the reader

pub is_found : (shards : ℕ) (row : Row) (from : ℕ) (r : Result (Call × ℕ) Refusal) → 1 ≤ from → r ≡ call_at shards row from → IfOk r (λ x. SpellsCall shards row from x.0 x.1)
is_found shards row from (Ok x) one e = call-takes shards row from x one (sym e)
is_found shards row from (Err f) one e = tt

pub is_only : (shards : ℕ) (row : Row) (from : ℕ) (call : Call) (after : ℕ) → 1 ≤ from → shards < 2 ^ 32 → SpellsCall shards row from call after → call_at shards row from ≡ Ok (call, after)
is_only shards row from call after one few spells =
    call-again shards row from call (words_from row after) one few spells.fits spells.words_are ∙ ap (λ (n : ℕ). Ok (call, n)) (sym spells.after_is)
