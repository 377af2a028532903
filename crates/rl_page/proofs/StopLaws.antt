-- The lines of the stops of one turn more.
use Rattle.std.proofs.Common.{add-one, ◌≡◌, ℕ, zero, suc, ◌+◌, List, [], ◌∷◌, ◌++◌, take, slice_get, Some, sym, ap, ◌∙◌, append_assoc, arith}
use Rattle.std.proofs.lemmas.List.{append-nil}
use Rattle.std.proofs.lemmas.Option.{same_Some}
use Rattle.rl_text.specs.Spelling.{text_of}
use Rattle.rl_ops.specs.declared.schedule.Turn.{Turn}
use Rattle.rl_ops.specs.Schedule.{steps_of}
use Rattle.rl_machine.specs.Run.{steps_in}
use Rattle.rl_shown.proofs.ListingLaws.{text-append}
use Rattle.rl_page.specs.PageData.{stop_line, stop_lines}

-- the first turns of a schedule, and the next one
pub stops-more : (made : ℕ) (ts : List Turn) (i : ℕ) (t : Turn) → slice_get ts i ≡ Some t → stop_lines made (take (i + 1) ts) ≡ stop_lines made (take i ts) ++ stop_line (made + steps_in (take i ts)) t
stops-more made ts i t e = rw add-one (more made ts i e) where
  more : (made : ℕ) (ts : List Turn) (i : ℕ) → slice_get ts i ≡ Some t → stop_lines made (take (suc i) ts) ≡ stop_lines made (take i ts) ++ stop_line (made + steps_in (take i ts)) t
  more made [] i e = cc
  more made (x ∷ ts) zero e =
      let same : made ≡ made + 0 = omega arith in
      append-nil (stop_line made x) ∙ ap (stop_line made) (same_Some _ _ e) ∙ ap (λ n. stop_line n t) same
  more made (x ∷ ts) (suc i) e =
      let same : (made + steps_of x) + steps_in (take i ts) ≡ made + (steps_of x + steps_in (take i ts)) = omega arith in
      ap (λ z. stop_line made x ++ z) (more (made + steps_of x) ts i e ∙ ap (λ n. stop_lines (made + steps_of x) (take i ts) ++ stop_line n t) same)
      ∙ sym (append_assoc (stop_line made x) (stop_lines (made + steps_of x) (take i ts)) (stop_line (made + (steps_of x + steps_in (take i ts))) t))

-- the text of one turn more
pub text_more : (out before now : List ℕ) (ts : List Turn) (i : ℕ) (t : Turn) (made : ℕ) → slice_get ts i ≡ Some t → before ≡ out ++ text_of (stop_lines 0 (take i ts)) → made ≡ steps_in (take i ts) → now ≡ before ++ text_of (stop_line made t) → now ≡ out ++ text_of (stop_lines 0 (take (i + 1) ts))
text_more out before now ts i t made at was is_made is =
    let lines = stop_lines 0 (take i ts) in
    let from_none : made ≡ 0 + steps_in (take i ts) = omega (arith, is_made) in
    is ∙ ap (λ z. z ++ text_of (stop_line made t)) was ∙ append_assoc out (text_of lines) (text_of (stop_line made t))
    ∙ ap (λ z. out ++ z) (ap (λ n. text_of lines ++ text_of (stop_line n t)) from_none ∙ sym (text-append lines (stop_line (0 + steps_in (take i ts)) t)) ∙ ap text_of (sym (stops-more 0 ts i t at)))
