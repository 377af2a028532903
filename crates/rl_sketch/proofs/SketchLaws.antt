-- A sketch that is read is spelled so, and one that is spelled so is read.
use Rattle.std.proofs.Common.{◌≡◌, ℕ, ◌+◌, ◌^◌, ◌<◌, true, false, ◌&&◌, List, [], ◌∷◌, ◌++◌, map, fold, codes, Result, Ok, Err, IfOk, inl, inr, refl, sym, ap, subst, ◌∙◌, append_assoc, arith, None}
use Rattle.std.specs.List.{AllByRecursion, join_with_byte}
use Rattle.std.proofs.lemmas.List.{append-nil}
use Rattle.rl_text.specs.declared.causes.Refusal.{Refusal}
use Rattle.rl_text.specs.declared.failing.TextErr.{TextErr}
use Rattle.rl_text.specs.declared.failing.TextErr.TheVariants.{Refused, Memory}
use Rattle.rl_text.specs.Rows.{Row, rows_from, words}
use Rattle.rl_text.specs.Reading.{◌>>=◌, Gives, begins, whole, end_at, next_row, header_at, fault_of}
use Rattle.rl_text.proofs.TextLaws.{AreLines, IsPlain, rows_of_lines, rows-text, text-lines}
use Rattle.rl_text.proofs.WordLaws.{ok_is, chosen, whole-takes, whole-again, end-takes, end-again, next-takes, next-again, header-takes, header-again, words-made}
use Rattle.rl_text.proofs.FromLaws.{from_bind}
use Rattle.rl_ops.specs.Body.{Items, body_at, body_lines, gathered}
use Rattle.rl_ops.proofs.BodyLoop.{bad_item}
use Rattle.rl_sketch.specs.declared.sketch.SketchLine.{SketchLine}
use Rattle.rl_sketch.specs.declared.sketch.Sketch.{Sketch}
use Rattle.rl_sketch.specs.Sketch.{line_words, sketch_lines, sketch_spelling, stopped_after, is_one_line, LinesFit, SketchFits, SpellsSketch}
use Rattle.rl_sketch.specs.SketchReading.{line_after, lines_at, sketch_at, sketch_fault}
use Rattle.rl_sketch.proofs.PlainWords.{OneLines, rows-one_lines}
use Rattle.rl_sketch.proofs.LineLaws.{line-takes, line-again, line-plain, line-no_end}

-- ---- the lines up to the last

-- the rows spell the lines
pub record LinesTaken (ranks : ℕ) (stopped : List ℕ) (rows : List Row) (lines : List SketchLine) : Type 0 where
  pub spelled : AreLines rows (body_lines (map line_words lines))
  pub fit : LinesFit ranks stopped lines

pub lines-take : (ranks : ℕ) (stopped : List ℕ) (read : ℕ) (rows : List Row) (lines : List SketchLine) → OneLines rows → lines_at ranks stopped read rows ≡ Ok lines → LinesTaken ranks stopped rows lines
unfolding body_at
lines-take ranks stopped read [] lines one e = absurd cc
lines-take ranks stopped read (line ∷ rows) lines one e =
    from_bind (whole line) _ lines e (λ there w rest.
    let w_is = whole-takes line there w in
    let there_one : is_one_line there.text ≡ true = ap (λ (r : Row). is_one_line r.text) (sym w_is.0) ∙ one.0 in
    elim (chosen (begins there (codes "end")) (end_at there rows >>= λ alone. Ok []) (line_after ranks stopped there >>= λ x. lines_at ranks (stopped_after ranks stopped x) (read + 1) rows >>= λ xs. Ok (x ∷ xs)) (Ok lines) rest) [
      | inl p ↦
          from_bind (end_at there rows) (λ alone. Ok []) lines p.1 (λ alone a last.
          let ends : AreLines (line ∷ rows) (body_lines (map line_words [])) = rw w_is.0 (end-takes there rows alone (rw (← w_is.0) w_is.1) p.0 a) in
          subst (λ (ls : List SketchLine). LinesTaken ranks stopped (line ∷ rows) ls) (ok_is [] lines last) (record { spelled = ends; fit = tt }))
      | inr p ↦
          from_bind (line_after ranks stopped there) (λ x. lines_at ranks (stopped_after ranks stopped x) (read + 1) rows >>= λ xs. Ok (x ∷ xs)) lines p.1 (λ x l more.
          from_bind (lines_at ranks (stopped_after ranks stopped x) (read + 1) rows) (λ xs. Ok (x ∷ xs)) lines more (λ xs ls last.
          let one_line = line-takes ranks stopped there x there_one l in
          let others = lines-take ranks (stopped_after ranks stopped x) (read + 1) rows xs one.1 ls in
          subst (λ (all : List SketchLine). LinesTaken ranks stopped (line ∷ rows) all) (ok_is (x ∷ xs) lines last) (record {
            spelled = (record { ended = w_is.1; words = ap words w_is.0 ∙ one_line.0 }, others.spelled);
            fit = (one_line.1, others.fit);
          })))
    ])

pub lines-again : (ranks : ℕ) (stopped : List ℕ) (read n : ℕ) (lines : List SketchLine) → ranks < 2 ^ 32 → LinesFit ranks stopped lines → lines_at ranks stopped read (rows_of_lines n (body_lines (map line_words lines))) ≡ Ok lines
unfolding body_at
lines-again ranks stopped read n [] small fit =
    let line : Row = record { number = n; text = codes "end"; ended = true } in
    let e = end-again line (words-made n (codes "end" ∷ []) (omega arith, (refl, tt))) in
    rw (whole-again line refl, e.0, e.1) refl
lines-again ranks stopped read n (x ∷ xs) small fit =
    let line : Row = record { number = n; text = join_with_byte 32 (line_words x); ended = true } in
    let e : words line ≡ line_words x = words-made n (line_words x) (line-plain ranks stopped x small fit.0) in
    rw (
      whole-again line refl,
      line-no_end ranks stopped line x small e fit.0,
      line-again ranks stopped line x small e fit.0,
      lines-again ranks (stopped_after ranks stopped x) (read + 1) (n + 1) xs small fit.1,
    ) refl

lines-plain : (ranks : ℕ) (stopped : List ℕ) (lines : List SketchLine) → ranks < 2 ^ 32 → LinesFit ranks stopped lines → AllByRecursion IsPlain (body_lines (map line_words lines))
lines-plain ranks stopped [] small fit = ((omega arith, (refl, tt)), tt)
lines-plain ranks stopped (x ∷ xs) small fit = (line-plain ranks stopped x small fit.0, lines-plain ranks (stopped_after ranks stopped x) xs small fit.1)

-- ---- the file

pub sketch-takes : (ranks : ℕ) (text : List ℕ) (sketch : Sketch) → sketch_at ranks text ≡ Ok sketch → SpellsSketch ranks sketch text
unfolding sketch_at
sketch-takes ranks text sketch e =
    from_bind (next_row 0 (rows_from 1 text)) (λ first. header_at first.0 (codes "rmalock-sketch") >>= λ header. lines_at ranks [] 1 first.1 >>= λ lines. Ok (record { lines = lines })) sketch e (λ first f rest.
    from_bind (header_at first.0 (codes "rmalock-sketch")) (λ header. lines_at ranks [] 1 first.1 >>= λ lines. Ok (record { lines = lines })) sketch rest (λ header h more.
    from_bind (lines_at ranks [] 1 first.1) (λ lines. Ok (record { lines = lines })) sketch more (λ lines l last.
    let n = next-takes 0 (rows_from 1 text) first.1 first.0 f in
    let one : OneLines (first.0 ∷ first.1) = subst (λ (rows : List Row). OneLines rows) n.0 (rows-one_lines 1 text) in
    let taken = lines-take ranks [] 1 first.1 lines one.1 l in
    let made : Sketch = record { lines = lines } in
    let spelled : AreLines (rows_from 1 text) (sketch_lines made) =
    subst (λ (rows : List Row). AreLines rows (sketch_lines made)) (sym n.0) (record { ended = n.1; words = header-takes first.0 (codes "rmalock-sketch") header h }, taken.spelled) in
    subst (λ (s : Sketch). SpellsSketch ranks s text) (ok_is made sketch last) (taken.fit, text-lines 1 text (sketch_lines made) spelled))))

pub sketch-again : (ranks : ℕ) (sketch : Sketch) → ranks < 2 ^ 32 → SketchFits ranks sketch → sketch_at ranks (sketch_spelling sketch) ≡ Ok sketch
unfolding sketch_at
sketch-again ranks sketch small fits =
    let header : IsPlain (codes "rmalock-sketch" ∷ codes "1" ∷ []) = (omega arith, (refl, (refl, tt))) in
    let line : Row = record { number = 1; text = join_with_byte 32 (codes "rmalock-sketch" ∷ codes "1" ∷ []); ended = true } in
    rw (
      rows-text 1 (sketch_lines sketch) (header, lines-plain ranks [] sketch.lines small fits),
      next-again 0 line (rows_of_lines 2 (body_lines (map line_words sketch.lines))) refl,
      header-again line (codes "rmalock-sketch") (words-made 1 _ header),
      lines-again ranks [] 1 2 sketch.lines small fits,
    ) refl

-- ---- the loop

-- one more line
abbrev pub with_line : List SketchLine → SketchLine → List SketchLine
with_line lines line = lines ++ line ∷ []

gathered-lines : (front lines : List SketchLine) → fold with_line front lines ≡ front ++ lines
gathered-lines front [] = sym (append-nil front)
gathered-lines front (x ∷ lines) = gathered-lines (front ++ x ∷ []) lines ∙ append_assoc front (x ∷ []) lines

-- gathering lines one by one gives the lines
pub gathered-nil : (read : Result (List SketchLine) Refusal) → gathered with_line [] read ≡ read
gathered-nil (Ok lines) = ap (λ (ls : List SketchLine). Ok ls) (gathered-lines [] lines)
gathered-nil (Err f) = refl

-- the line is none of a sketch, or memory ran out
pub bad_read : {A S X : Type 0} (items : Items S X) (add : A → X → A) (first : A) (state : S) (read : ℕ) (rows more : List Row) (line : Row) (e : TextErr) (total : Result A Refusal)
    → gathered add first (body_at items state read rows) ≡ total → next_row read rows ≡ Ok (line, more) → (items.may_end state && begins line (codes "end")) ≡ false → Gives {X = X} (Err e) (items.item state line) → Gives {X = A} (Err e) total
bad_read items add first state read rows more line (Refused f) total so_far next no_end bad = bad_item items add first state read rows more line f total so_far next no_end bad
bad_read items add first state read rows more line Memory total so_far next no_end bad = tt

-- ---- the clauses of the reader

pub is_found : (ranks : ℕ) (text : List ℕ) (r : Result Sketch TextErr) → Gives r (sketch_at ranks text) → IfOk r (λ sketch. SpellsSketch ranks sketch text)
is_found ranks text (Ok sketch) given = sketch-takes ranks text sketch given
is_found ranks text (Err e) given = tt

no_fault-at : (ranks : ℕ) (text : List ℕ) (r : Result Sketch Refusal) → sketch_at ranks text ≡ r → fault_of r ≡ None → (sketch : Sketch) × SpellsSketch ranks sketch text
no_fault-at ranks text (Ok sketch) e none = (sketch, sketch-takes ranks text sketch e)
no_fault-at ranks text (Err f) e none = absurd cc

pub no_fault-value : (ranks : ℕ) (text : List ℕ) → sketch_fault ranks text ≡ None → (sketch : Sketch) × SpellsSketch ranks sketch text
no_fault-value ranks text none = no_fault-at ranks text (sketch_at ranks text) refl none

pub value-no_fault : (ranks : ℕ) (text : List ℕ) → ranks < 2 ^ 32 → (sketch : Sketch) × SpellsSketch ranks sketch text → sketch_fault ranks text ≡ None
value-no_fault ranks text small v = ap fault_of (ap (sketch_at ranks) v.1.1 ∙ sketch-again ranks v.0 small v.1.0)

-- ---- the clause of the printer

pub is_printed : {V E : Type 0} (items : V → List ℕ) (sketch : Sketch) (r : Result V E) → IfOk r (λ text. items text ≡ sketch_spelling sketch)
    → IfOk r (λ text. (ranks : ℕ) → ranks < 2 ^ 32 → SketchFits ranks sketch → sketch_at ranks (items text) ≡ Ok sketch)
is_printed items sketch (Ok text) e = λ ranks small fits. ap (sketch_at ranks) e ∙ sketch-again ranks sketch small fits
is_printed items sketch (Err e) h = tt
