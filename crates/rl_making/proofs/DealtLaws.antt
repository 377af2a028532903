-- Calls that are dealt to the ranks one by one: one more, and that they fit.
use Rattle.std.proofs.Common.{◌≡◌, ℕ, suc, ◌+◌, ◌%◌, ◌<◌, ◌≤◌, ◌^◌, true, false, Bool, cond, nat_lt, nat_eq, List, [], ◌∷◌, ◌++◌, length, map, flat_map, sum_by, refl, sym, ap, ◌∙◌, add-one, arith}
use Rattle.std.specs.List.{AllByRecursion, enumerate_from}
use Rattle.std.proofs.lemmas.List.{length-map, map-append}
use Rattle.std.proofs.lemmas.List.FromFn.{length-enumerate_from}
use Rattle.std.proofs.lemmas.List.Sums.{sum_by-cons}
use Rattle.rl_model.specs.declared.call.Call.{Call}
use Rattle.rl_model.specs.declared.call.Call.TheVariants.{Get, Del}
use Rattle.rl_ops.specs.Blocks.{Block, block_calls, block_sizes, AreOneBlock, BlockFits, shard_among}
use Rattle.rl_ops.specs.ByRank.{by_rank, with_item}
use Rattle.rl_ops.specs.CallSpelling.{CallFits}
use Rattle.rl_ops.specs.Ops.{OpsFit, file_lines, block_lines}
use Rattle.rl_ops.specs.declared.calls_line.CallsVersion.TheVariants.{Two}
use Rattle.rl_ops.proofs.OpsLaws.{spelled-fits}
use Rattle.rl_ops.proofs.RankLemmas.{by_rank-push, length-lists_from}
use Rattle.rl_text.specs.Spelling.{text_of}
use Rattle.rl_chance.specs.Draws.{first_state, next_state, draw}
use Rattle.rl_making.specs.Generate.{made, put_drawn, add_drawn, cas_drawn, call_drawn, call_of_kind, drawn_calls, dealt, sized, made_ops}
use Rattle.rl_making.proofs.DrawLaws.{several-more, length-several, each-of-several}

-- ---- one more

enumerate-push : {X : Type 0} (from : ℕ) (xs : List X) (x : X) → enumerate_from from (xs ++ x ∷ []) ≡ enumerate_from from xs ++ (from + length xs, x) ∷ []
enumerate-push from [] x =
    let same : from + 0 ≡ from = omega arith in
    rw same refl
enumerate-push from (y ∷ xs) x =
    let same : from + suc (length xs) ≡ from + 1 + length xs = omega arith in
    rw (same, enumerate-push (from + 1) xs x) refl

dealt-push : (ranks : ℕ) (calls : List Call) (call : Call) → dealt ranks (calls ++ call ∷ []) ≡ dealt ranks calls ++ (length calls % ranks, call) ∷ []
dealt-push ranks calls call =
    let same : 0 + length calls ≡ length calls = omega arith in
    rw (enumerate-push 0 calls call, same) (map-append _ (enumerate_from 0 calls) _)

-- the state after one call more
pub next-state : (number n old new : ℕ) (call : Call) → old ≡ (drawn_calls number n).1 → (call, new) ≡ call_drawn old → new ≡ (drawn_calls number (n + 1)).1
next-state number n old new call so_far drawn =
    let more = ap (λ (k : ℕ). (drawn_calls number k).1) (add-one n) ∙ ap (λ (d : List Call × ℕ). d.1) (several-more call_drawn n (first_state number)) in
    ap (λ (d : Call × ℕ). d.1) drawn ∙ ap (λ (state : ℕ). (call_drawn state).1) so_far ∙ sym more

-- the calls so far, and the next one
pub next-dealt : (number ranks n old new : ℕ) (call : Call) → old ≡ (drawn_calls number n).1 → (call, new) ≡ call_drawn old
    → dealt ranks (drawn_calls number (n + 1)).0 ≡ dealt ranks (drawn_calls number n).0 ++ (n % ranks, call) ∷ []
next-dealt number ranks n old new call so_far drawn =
    let front = drawn_calls number n in
    let same : (call_drawn front.1).0 ≡ call = ap (λ (state : ℕ). (call_drawn state).0) (sym so_far) ∙ ap (λ (d : Call × ℕ). d.0) (sym drawn) in
    ap (λ (k : ℕ). dealt ranks (drawn_calls number k).0) (add-one n)
    ∙ ap (λ (d : List Call × ℕ). dealt ranks d.0) (several-more call_drawn n (first_state number))
    ∙ dealt-push ranks front.0 (call_drawn front.1).0
    ∙ ap (λ (i : ℕ). dealt ranks front.0 ++ (i % ranks, (call_drawn front.1).0) ∷ []) (length-several call_drawn n (first_state number))
    ∙ ap (λ (c : Call). dealt ranks front.0 ++ (n % ranks, c) ∷ []) same

-- and its size
pub next-sized : (calls more : List (ℕ × Call)) (rank : ℕ) (call : Call) → more ≡ calls ++ (rank, call) ∷ [] → sized more ≡ sized calls ++ (rank, 1) ∷ []
next-sized calls more rank call e = ap sized e ∙ map-append _ calls _

-- the lists after one thing more
pub next-lists : {X : Type 0} (ranks rank : ℕ) (x : X) (xs ys : List (ℕ × X)) (old new : List (List X)) → old ≡ by_rank ranks xs → new ≡ with_item old rank x → ys ≡ xs ++ (rank, x) ∷ [] → new ≡ by_rank ranks ys
next-lists ranks rank x xs ys old new so_far put more = put ∙ ap (λ (lists : List (List _)). with_item lists rank x) so_far ∙ by_rank-push ranks rank x xs ∙ ap (by_rank ranks) (sym more)

-- there is a list for each rank
pub ranks-there : {X : Type 0} (ranks n : ℕ) (xs : List (ℕ × X)) (lists : List (List X)) → 1 ≤ ranks → lists ≡ by_rank ranks xs → n % ranks < length lists
ranks-there ranks n xs lists some are =
    let within : n % ranks < ranks = omega arith in
    omega (arith, within, ap length are, length-lists_from 0 ranks xs)

-- ---- what is drawn fits

value-fits : (n : ℕ) → n % 1000 < 2 ^ 64
value-fits n = omega arith

kind-fits : (kind key state : ℕ) → key < 2 ^ 64 → CallFits 4 (call_of_kind kind key state).0
kind-fits kind key state small = here (nat_lt kind 3) (nat_lt kind 5) (nat_eq kind 5) (nat_eq kind 6)
  where
    here : (a b c d : Bool) → CallFits 4 (cond a (put_drawn key) (cond b (made (Get key)) (cond c (made (Del key)) (cond d (add_drawn key) (cas_drawn key)))) state).0
    here true b c d = (small, value-fits _)
    here false true c d = small
    here false false true d = small
    here false false false true = (small, value-fits _)
    here false false false false = (small, value-fits _, value-fits _)

drawn-fits : (state : ℕ) → CallFits 4 (call_drawn state).0
drawn-fits state =
    let key : ℕ = (draw 100 (next_state state)).0 in
    let small : key < 2 ^ 64 = omega arith in
    kind-fits (draw 8 state).0 key (next_state (next_state state)) small

-- a call that stands alone
abbrev alone : ℕ × Call → Block
alone call = record { rank = call.0; calls = call.1 ∷ [] }

calls-alone : (calls : List (ℕ × Call)) → flat_map block_calls (map alone calls) ≡ calls
calls-alone [] = refl
calls-alone (call ∷ calls) = ap (λ (cs : List (ℕ × Call)). call ∷ cs) (calls-alone calls)

sizes-alone : (calls : List (ℕ × Call)) → flat_map block_sizes (map alone calls) ≡ sized calls
sizes-alone [] = refl
sizes-alone (call ∷ calls) = ap (λ (cs : List (ℕ × ℕ)). (call.0, 1) ∷ cs) (sizes-alone calls)

count-alone : (calls : List (ℕ × Call)) → sum_by (λ block. length block.calls) (map alone calls) ≡ length calls
count-alone [] = refl
count-alone (call ∷ calls) = rw sum_by-cons (omega (arith, count-alone calls))

alone-fits : (call : Call) → CallFits 4 call → AreOneBlock 4 (call ∷ [])
alone-fits call fits = record {
  asked = record { some = omega arith; few = omega arith; all_update = λ e. (e, tt); alone = λ e. refl };
  shard = shard_among 4 call;
  one_shard = (refl, tt);
  fit = (fits, tt);
}

blocks-fit : (ranks from : ℕ) (calls : List Call) → 1 ≤ ranks → AllByRecursion (CallFits 4) calls → AllByRecursion (BlockFits ranks 4) (map alone (map (λ call. (call.0 % ranks, call.1)) (enumerate_from from calls)))
blocks-fit ranks from [] some fit = tt
blocks-fit ranks from (call ∷ calls) some fit =
    let there : from % ranks < ranks = omega arith in
    ((there, alone-fits call fit.0), blocks-fit ranks (from + 1) calls some fit.1)

pub made-fits : (number ranks calls : ℕ) → 1 ≤ ranks → calls ≤ 20000 → OpsFit ranks 4 (made_ops number ranks calls)
made-fits number ranks calls some few =
    let drawn = (drawn_calls number calls).0 in
    let told = dealt ranks drawn in
    let blocks = map alone told in
    let count : length told ≡ calls = length-map (enumerate_from 0 drawn) _ ∙ length-enumerate_from 0 drawn ∙ length-several call_drawn calls (first_state number) in
    spelled-fits ranks 4 (text_of (file_lines Two (flat_map block_lines blocks))) (made_ops number ranks calls) (
      Two,
      blocks,
      record {
        allowed = tt;
        fit = blocks-fit ranks 0 drawn some (each-of-several (CallFits 4) call_drawn drawn-fits calls (first_state number));
        few = omega (arith, count-alone told, count);
        text_is = refl;
        calls_are = ap (by_rank ranks) (sym (calls-alone told));
        sizes_are = ap (by_rank ranks) (sym (sizes-alone told));
      },
    )
