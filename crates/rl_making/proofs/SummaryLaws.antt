-- What the printer of a summary has printed so far, and its sections.
use Rattle.std.proofs.Common.{◌≡◌, ℕ, List, [], ◌∷◌, ◌++◌, codes, Option, sym, ap, ◌∙◌, append_assoc}
use Rattle.std.proofs.lemmas.Grind.{flat_map-append}
use Rattle.rl_text.specs.Spelling.{line_text, text_of}
use Rattle.rl_step.specs.declared.tallies.Steps.{Steps}
use Rattle.rl_report.specs.Spelling.{steps_lines}
use Rattle.rl_making.specs.declared.counts.ShardCounts.{ShardCounts}
use Rattle.rl_making.specs.Summary.{TheCounts, shard_lines, sizes_words, done_words, summary_lines}

-- the first line, the sizes, the shards, what is done, and the last lines
sections : (o1 o2 o3 o4 o5 : List ℕ) (sizes done : List (List ℕ)) (shards last : List (List (List ℕ))) → o1 ≡ codes "rmalock-summary 1\n" → o2 ≡ o1 ++ line_text sizes
    → o3 ≡ o2 ++ text_of shards → o4 ≡ o3 ++ line_text done → o5 ≡ o4 ++ text_of last
    → o5 ≡ text_of ((codes "rmalock-summary" ∷ codes "1" ∷ []) ∷ sizes ∷ (shards ++ done ∷ last))
sections o1 o2 o3 o4 o5 sizes done shards last e1 e2 e3 e4 e5 =
    let apart : text_of (shards ++ done ∷ last) ≡ text_of shards ++ (line_text done ++ text_of last) = flat_map-append line_text shards (done ∷ last) in
    rw (e5, e4, e3, e2, e1)
    (append_assoc ((codes "rmalock-summary 1\n" ++ line_text sizes) ++ text_of shards) (line_text done) (text_of last)
    ∙ append_assoc (codes "rmalock-summary 1\n" ++ line_text sizes) (text_of shards) (line_text done ++ text_of last)
    ∙ append_assoc (codes "rmalock-summary 1\n") (line_text sizes) (text_of shards ++ (line_text done ++ text_of last))
    ∙ ap (λ (t : List ℕ). codes "rmalock-summary 1\n" ++ (line_text sizes ++ t)) (sym apart))

-- the pieces of a summary's text, one after the other
pub summary-printed : (ranks calls done : ℕ) (counts : TheCounts) (shards : List ShardCounts) (steps : Option Steps) (o1 o2 o3 o4 o5 : List ℕ) → shards ≡ counts.shards → done ≡ counts.done → steps ≡ counts.steps
    → o1 ≡ codes "rmalock-summary 1\n" → o2 ≡ o1 ++ line_text (sizes_words ranks calls) → o3 ≡ o2 ++ text_of (shard_lines shards) → o4 ≡ o3 ++ line_text (done_words done calls)
    → o5 ≡ o4 ++ text_of (steps_lines steps ++ (codes "end" ∷ []) ∷ []) → o5 ≡ text_of (summary_lines ranks calls counts)
summary-printed ranks calls done counts shards steps o1 o2 o3 o4 o5 s d t e1 e2 e3 e4 e5 =
    sections o1 o2 o3 o4 o5 (sizes_words ranks calls) (done_words counts.done calls) (shard_lines counts.shards) (steps_lines counts.steps ++ (codes "end" ∷ []) ∷ []) e1 e2
    (e3 ∙ ap (λ (parts : List ShardCounts). o2 ++ text_of (shard_lines parts)) s)
    (e4 ∙ ap (λ (n : ℕ). o3 ++ line_text (done_words n calls)) d)
    (e5 ∙ ap (λ (z : Option Steps). o4 ++ text_of (steps_lines z ++ (codes "end" ∷ []) ∷ [])) t)
