-- Replies, and the parts of batches, among the words of a line: what is read is spelled so, and what is spelled so is read.
use Rattle.std.proofs.Common.{◌≡◌, ◌≢◌, ℕ, ◌+◌, ◌^◌, ◌<◌, ◌≤◌, true, cond, ltb, List, [], ◌∷◌, ◌++◌, length, codes, decimal, Some, None, Result, Ok, Err, inl, inr, refl, sym, ap, subst, ◌∙◌, ⊎_elim, arith}
use Rattle.std.specs.List.{AllByRecursion}
use Rattle.std.specs.Str.{bytes_eq}
use Rattle.std.proofs.lemmas.Bool.{ne_eqb, lt-ltb, ltb-true}
use Rattle.rl_text.specs.declared.causes.Refusal.{Refusal}
use Rattle.rl_text.specs.declared.causes.Why.TheVariants.{Word, Range, Extra}
use Rattle.rl_text.specs.Rows.{Row, word_at}
use Rattle.rl_text.specs.Reading.{refusal_at, needed_at, fixed_at, number_at, below_at, between_at, no_word_at}
use Rattle.rl_text.proofs.FromLaws.{from_bind, rest_from, rest_from-word, word_at-rest}
use Rattle.rl_text.proofs.TextLaws.{is_plain}
use Rattle.rl_text.proofs.WordLaws.{ok_is, chosen, needed-takes, needed-again, fixed-takes, fixed-again, number-takes, number-again, below-takes, below-again, between-takes, between-again, no_word-takes, no_word-again, plain-decimal}
use Rattle.rl_model.specs.declared.entry.Reply.{Reply}
use Rattle.rl_model.specs.declared.entry.Reply.TheVariants as reply
use Rattle.rl_report.specs.declared.version.Version.{Version}
use Rattle.rl_report.specs.declared.version.Version.TheVariants.{First, Second}
use Rattle.rl_report.specs.Reports.{ReplyFits, PartFits}
use Rattle.rl_report.specs.Spelling.{reply_words, part_words}
use Rattle.rl_report.specs.Reading.{or_refused, plain_reply, reply_with, undone_at, reply_named, reply_at, part_of_at, after_reply, part_at}
use Rattle.rl_report.proofs.WordsLaws.{test-takes, refused_ok, named, no_rest}

-- ---- replies

-- a reply that was read from word n on, and the number of the word after it
pub record ReplyTaken (version : Version) (row : Row) (n : ℕ) (x : Reply × ℕ) : Type 0 where
  pub are : rest_from row n ≡ reply_words x.0 ++ rest_from row x.1
  pub after : n < x.1
  pub fits : ReplyFits x.0
  pub old : version ≡ First → x.0 ≢ reply.Undone

module _ (version : Version) (row : Row) (n : ℕ) (some : 1 ≤ n) where
  plain-takes : (r : Reply) (name : List ℕ) (x : Reply × ℕ) → reply_words r ≡ name ∷ [] → ReplyFits r → (version ≡ First → r ≢ reply.Undone) → word_at row n ≡ Some name → plain_reply n r ≡ Ok x → ReplyTaken version row n x
  plain-takes r name x words fits old there e =
      subst (λ (y : Reply × ℕ). ReplyTaken version row n y) (ok_is (r, n + 1) x e) (record {
        are = rest_from-word row n (n + 1) name some refl there ∙ ap (λ (ws : List (List ℕ)). ws ++ rest_from row (n + 1)) (sym words);
        after = omega arith;
        fits = fits;
        old = old;
      })

  with-takes : (r : ℕ → Reply) (name : List ℕ) (x : Reply × ℕ) → ((v : ℕ) → reply_words (r v) ≡ name ∷ decimal v ∷ []) → ((v : ℕ) → v < 2 ^ 64 → ReplyFits (r v)) → ((v : ℕ) → r v ≢ reply.Undone) → word_at row n ≡ Some name
      → reply_with row n r ≡ Ok x → ReplyTaken version row n x
  with-takes r name x words fits not_undone there e =
      from_bind (number_at row (n + 1)) (λ value. Ok (r value, n + 2)) x e (λ v read last.
      let t = number-takes row (n + 1) v read in
      subst (λ (y : Reply × ℕ). ReplyTaken version row n y) (ok_is (r v, n + 2) x last) (record {
        are = rest_from-word row n (n + 1) name some refl there ∙ ap (λ (ws : List (List ℕ)). name ∷ ws) (rest_from-word row (n + 1) (n + 2) (decimal v) (omega arith) (omega arith) t.word)
            ∙ ap (λ (ws : List (List ℕ)). ws ++ rest_from row (n + 2)) (sym (words v));
        after = omega arith;
        fits = fits v t.fits;
        old = λ first. not_undone v;
      }))

  undone-takes : (x : Reply × ℕ) → word_at row n ≡ Some (codes "undone") → undone_at version row n ≡ Ok x → ReplyTaken version row n x
  undone-takes x there e = by version refl e where
    by : (v : Version) → version ≡ v → undone_at v row n ≡ Ok x → ReplyTaken version row n x
    by First is read = absurd (refused_ok (refusal_at row n Word) x read)
    by Second is read = plain-takes reply.Undone (codes "undone") x refl tt (λ first. absurd (cc)) there read

  pub reply-takes : (x : Reply × ℕ) → reply_at version row n ≡ Ok x → ReplyTaken version row n x
  unfolding reply_at reply_named
  reply-takes x e =
      from_bind (needed_at row n) (reply_named version row n) x e (λ name there e0.
      let w : word_at row n ≡ Some name = needed-takes row n name there in
      elim (chosen (bytes_eq name (codes "new")) _ _ (Ok x) e0) [
        | inl p ↦ plain-takes reply.New (codes "new") x refl tt (λ f. λ d. cc) (named row n name _ w p.0) p.1
        | inr p0 ↦ elim (chosen (bytes_eq name (codes "was")) _ _ (Ok x) p0.1) [
          | inl p ↦ with-takes (λ v. reply.Was v) (codes "was") x (λ v. refl) (λ v h. h) (λ v d. cc) (named row n name _ w p.0) p.1
          | inr p1 ↦ elim (chosen (bytes_eq name (codes "full")) _ _ (Ok x) p1.1) [
            | inl p ↦ plain-takes reply.Full (codes "full") x refl tt (λ f. λ d. cc) (named row n name _ w p.0) p.1
            | inr p2 ↦ elim (chosen (bytes_eq name (codes "val")) _ _ (Ok x) p2.1) [
              | inl p ↦ with-takes (λ v. reply.Val v) (codes "val") x (λ v. refl) (λ v h. h) (λ v d. cc) (named row n name _ w p.0) p.1
              | inr p3 ↦ elim (chosen (bytes_eq name (codes "none")) _ _ (Ok x) p3.1) [
                | inl p ↦ plain-takes reply.Nothing (codes "none") x refl tt (λ f. λ d. cc) (named row n name _ w p.0) p.1
                | inr p4 ↦ elim (chosen (bytes_eq name (codes "sum")) _ _ (Ok x) p4.1) [
                  | inl p ↦ with-takes (λ v. reply.Sum v) (codes "sum") x (λ v. refl) (λ v h. h) (λ v d. cc) (named row n name _ w p.0) p.1
                  | inr p5 ↦ elim (chosen (bytes_eq name (codes "over")) _ _ (Ok x) p5.1) [
                    | inl p ↦ with-takes (λ v. reply.Over v) (codes "over") x (λ v. refl) (λ v h. h) (λ v d. cc) (named row n name _ w p.0) p.1
                    | inr p6 ↦ elim (chosen (bytes_eq name (codes "no")) _ _ (Ok x) p6.1) [
                      | inl p ↦ with-takes (λ v. reply.No v) (codes "no") x (λ v. refl) (λ v h. h) (λ v d. cc) (named row n name _ w p.0) p.1
                      | inr p7 ↦ elim (chosen (bytes_eq name (codes "held")) _ _ (Ok x) p7.1) [
                        | inl p ↦ plain-takes reply.Held (codes "held") x refl tt (λ f. λ d. cc) (named row n name _ w p.0) p.1
                        | inr p8 ↦ elim (chosen (bytes_eq name (codes "undone")) _ _ (Ok x) p8.1) [
                          | inl p ↦ undone-takes x (named row n name _ w p.0) p.1
                          | inr p9 ↦ absurd (refused_ok (refusal_at row n Word) x p9.1)
                        ]
                      ]
                    ]
                  ]
                ]
              ]
            ]
          ]
        ]
      ])

  pub reply-again : (r : Reply) (more : List (List ℕ)) → ReplyFits r → (version ≡ First → r ≢ reply.Undone) → rest_from row n ≡ reply_words r ++ more → reply_at version row n ≡ Ok (r, n + length (reply_words r))
  unfolding reply_at reply_named
  reply-again r more fits old e = by r fits old e where
    first : (name : List ℕ) (ws : List (List ℕ)) → rest_from row n ≡ name ∷ ws → needed_at row n ≡ Ok name
    first name ws e = needed-again row n name (word_at-rest row n n 0 (name ∷ ws) some (omega arith) e)

    value : (name : List ℕ) (v : ℕ) (ws : List (List ℕ)) → v < 2 ^ 64 → rest_from row n ≡ name ∷ decimal v ∷ ws → number_at row (n + 1) ≡ Ok v
    value name v ws fits e = number-again row (n + 1) v (record { word = word_at-rest row n (n + 1) 1 (name ∷ decimal v ∷ ws) some refl e; fits = fits })

    by : (r : Reply) → ReplyFits r → (version ≡ First → r ≢ reply.Undone) → rest_from row n ≡ reply_words r ++ more → reply_at version row n ≡ Ok (r, n + length (reply_words r))
    by reply.New fits old e = rw (first _ _ e) refl
    by (reply.Was v) fits old e = rw (first _ _ e, value _ v _ fits e) refl
    by reply.Full fits old e = rw (first _ _ e) refl
    by (reply.Val v) fits old e = rw (first _ _ e, value _ v _ fits e) refl
    by reply.Nothing fits old e = rw (first _ _ e) refl
    by (reply.Sum v) fits old e = rw (first _ _ e, value _ v _ fits e) refl
    by (reply.Over v) fits old e = rw (first _ _ e, value _ v _ fits e) refl
    by (reply.No v) fits old e = rw (first _ _ e, value _ v _ fits e) refl
    by reply.Held fits old e = rw (first _ _ e) refl
    by reply.Undone fits old e = rw (first _ _ e) (undone version refl) where
      undone : (v : Version) → version ≡ v → undone_at v row n ≡ Ok (reply.Undone, n + 1)
      undone First is = absurd (old is refl)
      undone Second is = refl

-- the words of a reply are plain
pub reply-plain : (r : Reply) → ReplyFits r → AllByRecursion (λ w. is_plain w ≡ true) (reply_words r)
reply-plain reply.New fits = (refl, tt)
reply-plain (reply.Was v) fits = (refl, (plain-decimal v fits, tt))
reply-plain reply.Full fits = (refl, tt)
reply-plain (reply.Val v) fits = (refl, (plain-decimal v fits, tt))
reply-plain reply.Nothing fits = (refl, tt)
reply-plain (reply.Sum v) fits = (refl, (plain-decimal v fits, tt))
reply-plain (reply.Over v) fits = (refl, (plain-decimal v fits, tt))
reply-plain (reply.No v) fits = (refl, (plain-decimal v fits, tt))
reply-plain reply.Held fits = (refl, tt)
reply-plain reply.Undone fits = (refl, tt)

-- ---- parts

-- what follows a reply, with which the line ends
pub record PartTaken (version : Version) (row : Row) (n : ℕ) (x : ℕ × ℕ) : Type 0 where
  pub are : rest_from row n ≡ part_words x.0 x.1
  pub fits : PartFits x.0 x.1
  pub old : version ≡ First → x.0 ≡ 0

-- a part's words, where there is a batch
words-of : (batch part : ℕ) → 2 ≤ batch → part_words batch part ≡ codes "part" ∷ decimal part ∷ codes "of" ∷ decimal batch ∷ []
words-of batch part some = ap (λ b. cond b [] (codes "part" ∷ decimal part ∷ codes "of" ∷ decimal batch ∷ [])) (ne_eqb batch 0 (λ e. omega arith))

module _ (row : Row) (n : ℕ) (some : 1 ≤ n) where
  of-takes : (x : ℕ × ℕ) → part_of_at row n ≡ Ok x → PartTaken Second row n x
  unfolding part_of_at
  of-takes x e =
      from_bind (fixed_at row n (codes "part") Word) _ x e (λ u1 named e1.
      from_bind (below_at row (n + 1) 8) _ x e1 (λ part number e2.
      from_bind (fixed_at row (n + 2) (codes "of") Word) _ x e2 (λ u2 of_there e3.
      from_bind (between_at row (n + 3) 2 8) _ x e3 (λ batch size e4.
      from_bind (or_refused (ltb part batch) (refusal_at row (n + 3) Range)) _ x e4 (λ u3 there e5.
      from_bind (no_word_at row (n + 4)) _ x e5 (λ u4 alone e6.
      let p = below-takes row (n + 1) 8 part number in
      let b = between-takes row (n + 3) 2 8 batch size in
      let less : part < batch = ltb-true part batch (test-takes (ltb part batch) (refusal_at row (n + 3) Range) u3 there) in
      let all : rest_from row n ≡ codes "part" ∷ decimal part ∷ codes "of" ∷ decimal batch ∷ [] =
      rest_from-word row n (n + 1) _ some refl (fixed-takes row n (codes "part") Word u1 named)
      ∙ ap (λ (ws : List (List ℕ)). codes "part" ∷ ws) (rest_from-word row (n + 1) (n + 2) _ (omega arith) (omega arith) p.0.word
      ∙ ap (λ (ws : List (List ℕ)). decimal part ∷ ws) (rest_from-word row (n + 2) (n + 3) _ (omega arith) (omega arith) (fixed-takes row (n + 2) (codes "of") Word u2 of_there)
      ∙ ap (λ (ws : List (List ℕ)). codes "of" ∷ ws) (rest_from-word row (n + 3) (n + 4) _ (omega arith) (omega arith) b.0.word
      ∙ ap (λ (ws : List (List ℕ)). decimal batch ∷ ws) (no_rest row (n + 4) (no_word-takes row (n + 4) u4 alone))))) in
      subst (λ (y : ℕ × ℕ). PartTaken Second row n y) (ok_is (batch, part) x e6) (record {
        are = all ∙ sym (words-of batch part b.1);
        fits = inr (b.1, b.2, less);
        old = λ first. absurd (cc);
      })))))))

  alone-takes : (version : Version) (x : ℕ × ℕ) → word_at row n ≡ None → ◌≡◌ {A = Result (ℕ × ℕ) Refusal} (Ok (0, 0)) (Ok x) → PartTaken version row n x
  alone-takes version x none e = subst (λ (y : ℕ × ℕ). PartTaken version row n y) (ok_is (0, 0) x e) (record { are = no_rest row n none; fits = inl (refl, refl); old = λ first. refl })

  pub part-takes : (version : Version) (x : ℕ × ℕ) → part_at version row n ≡ Ok x → PartTaken version row n x
  unfolding part_at
  part-takes version x e = by version (no_word_at row n) refl e where
    by : (v : Version) (r : Result (Unit {0}) Refusal) → no_word_at row n ≡ r → after_reply v row n r ≡ Ok x → PartTaken v row n x
    by v (Ok u) is read = alone-takes v x (no_word-takes row n u is) read
    by First (Err f) is read = absurd (refused_ok f x read)
    by Second (Err f) is read = of-takes x read

  pub part-again : (version : Version) (batch part : ℕ) → PartFits batch part → (version ≡ First → batch ≡ 0) → rest_from row n ≡ part_words batch part → part_at version row n ≡ Ok (batch, part)
  unfolding part_at part_of_at no_word_at
  part-again version batch part fits old e = ⊎_elim
      (λ z.
      let none : rest_from row n ≡ [] = e ∙ ap (λ b. part_words b part) z.0 in
      let alone = no_word-again row n (word_at-rest row n n 0 [] some (omega arith) none) in
      ap (after_reply version row n) alone ∙ ap (λ (y : ℕ × ℕ). Ok y) (sym (zeros batch part z.0 z.1)))
      (λ b. in_batch version refl b.0 b.1 b.2)
      fits
    where
      zeros : (b p : ℕ) → b ≡ 0 → p ≡ 0 → ◌≡◌ {A = ℕ × ℕ} (b, p) (0, 0)
      zeros b p e f = cc

      extra : (w : List ℕ) → word_at row n ≡ Some w → no_word_at row n ≡ Err (refusal_at row n Extra)
      extra w there = rw there refl

      read : rest_from row n ≡ codes "part" ∷ decimal part ∷ codes "of" ∷ decimal batch ∷ [] → word_at row n ≡ Some (codes "part") → 2 ≤ batch → batch ≤ 8 → part < batch → part_of_at row n ≡ Ok (batch, part)
      read all there least most less =
          rw (
            fixed-again row n (codes "part") Word there,
            below-again row (n + 1) 8 part (record { word = word_at-rest row n (n + 1) 1 _ some refl all; fits = omega arith }) (omega arith),
            fixed-again row (n + 2) (codes "of") Word (word_at-rest row n (n + 2) 2 _ some refl all),
            between-again row (n + 3) 2 8 batch (record { word = word_at-rest row n (n + 3) 3 _ some refl all; fits = omega arith }) least most,
            lt-ltb part batch less,
            no_word-again row (n + 4) (word_at-rest row n (n + 4) 4 _ some refl all),
          ) refl

      in_batch : (v : Version) → version ≡ v → 2 ≤ batch → batch ≤ 8 → part < batch → after_reply version row n (no_word_at row n) ≡ Ok (batch, part)
      in_batch First is least most less = let zero_is = old is in absurd (omega arith)
      in_batch Second is least most less =
          let all : rest_from row n ≡ codes "part" ∷ decimal part ∷ codes "of" ∷ decimal batch ∷ [] = e ∙ words-of batch part least in
          let there : word_at row n ≡ Some (codes "part") = word_at-rest row n n 0 _ some (omega arith) all in
          ap (λ v. after_reply v row n (no_word_at row n)) is ∙ ap (after_reply Second row n) (extra (codes "part") there) ∙ read all there least most less

pub part-plain : (batch part : ℕ) → PartFits batch part → AllByRecursion (λ w. is_plain w ≡ true) (part_words batch part)
part-plain batch part fits = ⊎_elim
    (λ z. subst (λ b. AllByRecursion (λ w. is_plain w ≡ true) (part_words b part)) (sym z.0) tt)
    (λ b. subst (AllByRecursion (λ w. is_plain w ≡ true)) (sym (words-of batch part b.0)) (refl, (plain-decimal part (let h = b.1 in let l = b.2 in omega arith), (refl, (plain-decimal batch (let h = b.1 in omega arith), tt)))))
    fits
