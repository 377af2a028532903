-- One reply more of a batch that is undone.
use Rattle.std.proofs.Common.{◌≡◌, ℕ, ◌+◌, ◌<◌, Bool, true, false, cond, List, [], ◌∷◌, ◌++◌, length, drop, get_or, refl, sym, ap, ◌∙◌, append_assoc}
use Rattle.std.proofs.lemmas.List.{at_drop_more}
use Rattle.rl_model.specs.declared.entry.Reply.{Reply}
use Rattle.rl_model.specs.declared.entry.Reply.TheVariants.{Undone}
use Rattle.rl_journal.specs.Blocks.{stops, undone, only_first}
use Rattle.rl_check.specs.Only.{only_after, told_next}

next_is : (s : Bool) (r : Reply) (rs : List Reply) → only_after s (r ∷ rs) ≡ (told_next s r).1 ∷ only_after (told_next s r).0 rs
next_is true r rs = refl
next_is false r rs =
    elim (stops r) as (λ b. cond b (r ∷ undone rs) (Undone ∷ only_first rs) ≡ (cond {A = Bool × Reply} b (true, r) (false, Undone)).1 ∷ only_after (cond {A = Bool × Reply} b (true, r) (false, Undone)).0 rs) [ true ↦ refl | false ↦ refl ]

pub one_told : (rs : List Reply) (i : ℕ) (d : Reply) (told then total : List Reply) (s : Bool) (next : Bool × Reply) → i < length rs → told ++ only_after s (drop i rs) ≡ total → next ≡ told_next s (get_or rs i d) →
    then ≡ told ++ next.1 ∷ [] → then ++ only_after next.0 (drop (i + 1) rs) ≡ total
one_told rs i d told then total s next low so_far is more =
    let at : only_after s (drop i rs) ≡ only_after s (get_or rs i d ∷ drop (i + 1) rs) = at_drop_more (only_after s) rs i d low in
    ap (λ z. z ++ only_after next.0 (drop (i + 1) rs)) more ∙ append_assoc told (next.1 ∷ []) (only_after next.0 (drop (i + 1) rs))
    ∙ ap (λ (z : Bool × Reply). told ++ z.1 ∷ only_after z.0 (drop (i + 1) rs)) is
    ∙ ap (λ z. told ++ z) (sym (at ∙ next_is s (get_or rs i d) (drop (i + 1) rs))) ∙ so_far
