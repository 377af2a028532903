-- What the words say of a rank's entries is what its seat has.
use Rattle.std.specs.Prelude.{◌≡◌, ◌⊎◌, ℕ, ◌<◌, ◌==◌, Bool, true, false, ◌&&◌, cond, List, [], ◌∷◌, ◌++◌, All, filter, slice_get, Some, refl}
use Rattle.std.proofs.Common.{sym, ◌∙◌, ap, inl, inr, ⊎_elim, arith}
use Rattle.std.proofs.lemmas.List.{append-nil}
use Rattle.std.proofs.lemmas.List.Elements.{All-head, All-tail, filter-append}
use Rattle.std.proofs.lemmas.Bool.Decides.{nat_tests}
use Rattle.rl_word.specs.laws.Places.{get_map}
use Rattle.rl_model.specs.declared.entry.Entry.{Entry}
use Rattle.rl_model.specs.Call.{is_update}
use Rattle.rl_journal.specs.Legal.{updates, is_of}
use Rattle.rl_site.specs.Site.{journal_by, WaySite}
use Rattle.rl_site.specs.Transcript.{TheTranscript}
use Rattle.rl_work.specs.Work.{more_entries}
use Rattle.rl_work.specs.WorkGood.{WorkSide as Seat, transcript_of}
use Rattle.rl_work.specs.laws.RuleLaws.{journal_is}
use Rattle.rl_combine.specs.declared.stage.CombineStage.{CombineStage}
use Rattle.rl_combine.specs.declared.stage.CombineStage.TheVariants.{Rest, Post, Raise, Look, Count, Sweep, Copy, Read, Journal, Volume, Answer, Mark, Collect, Lower}
use Rattle.rl_combine.specs.Posts.{post_of, answered_entry}
use Rattle.rl_combine.specs.Combine.{TheCombineSide, opened_of, combine_is_open, is_call, early, transcript}
use Rattle.rl_combine.specs.laws.Cases.{early_open}
use Rattle.rl_combine.specs.laws.Cases.{early_by}
use Rattle.rl_combine.specs.CombineGood.{RankSide, front_of, HasOpen, IsPosting, IsAnswered, Progress, waits, handled, counted, answered, IsPosted, OwnAt, CombineGood}

-- two tests, one after the other
both_pass : (p q : Entry → Bool) (es : List Entry) → filter (λ e. p e && q e) es ≡ filter q (filter p es)
both_pass p q [] = refl
both_pass p q (e ∷ es) =
    elim (p e) as (λ b. cond (b && q e) (e ∷ filter (λ e. p e && q e) es) (filter (λ e. p e && q e) es) ≡ filter q (cond b (e ∷ filter p es) (filter p es))) [
      | true ↦ ap (λ z. cond (q e) (e ∷ z) z) (both_pass p q es)
      | false ↦ both_pass p q es
    ]

-- no earlier entry has the number of a new call
none_numbered : (s : ℕ) (es : List Entry) → All (λ e. e.seq < s) es → filter (λ e. e.seq == s) (filter updates es) ≡ []
none_numbered s [] all = refl
none_numbered s (e ∷ es) all =
    let low : e.seq < s = All-head (λ e. e.seq < s) e es all in
    let miss : (e.seq == s) ≡ false = grind (arith, nat_tests) in
    let rest : filter (λ e. e.seq == s) (filter updates es) ≡ [] = none_numbered s es (All-tail (λ e. e.seq < s) e es all) in
    elim (updates e) as (λ b. filter (λ e. e.seq == s) (cond b (e ∷ filter updates es) (filter updates es)) ≡ []) [
      | true ↦ ap (λ c. cond c (e ∷ filter (λ e. e.seq == s) (filter updates es)) (filter (λ e. e.seq == s) (filter updates es))) miss ∙ rest
      | false ↦ rest
    ]

-- and behind them the call's own entry has
one_numbered : (s : ℕ) (es : List Entry) (f : Entry) → All (λ e. e.seq < s) es → updates f ≡ true → f.seq ≡ s →
    filter (λ e. e.seq == s) (filter updates (es ++ f ∷ [])) ≡ f ∷ []
one_numbered s es f all update same =
    let hit : (f.seq == s) ≡ true = grind (arith, nat_tests) in
    ap (filter (λ e. e.seq == s)) (filter-append updates es (f ∷ []) ∙ ap (λ b. filter updates es ++ cond b (f ∷ []) []) update)
    ∙ filter-append (λ e. e.seq == s) (filter updates es) (f ∷ [])
    ∙ ap (λ z. z ++ filter (λ e. e.seq == s) (f ∷ [])) (none_numbered s es all)
    ∙ ap (λ b. cond b (f ∷ []) []) hit

-- The entries that a rank has by the words: those that it keeps, or one more, which is done early.
pub record HasNone (S : WaySite) (words : List ℕ) (k : ℕ) (x : TheCombineSide) (y : Seat) : Type 0 where
  pub none : early S words k x ≡ []
  pub has : y.work.transcript ≡ x.kept

pub record HasOne (S : WaySite) (words : List ℕ) (k : ℕ) (x : TheCombineSide) (y : Seat) : Type 0 where
  pub entry : Entry
  pub one : early S words k x ≡ entry ∷ []
  pub has : y.work.transcript ≡ more_entries x.kept (entry ∷ [])

module _ (S : WaySite) (words : List ℕ) (sides : List RankSide) (g : CombineGood S words sides) (k : ℕ) (z : RankSide) (y : Seat)
    (seat : slice_get g.seats k ≡ Some y) where
  -- the rank's updates in the journal, of a call by its number
  calls_in : (s : ℕ) → filter (is_call k s) (journal_by S.site words) ≡ filter (λ e. e.seq == s) (filter updates y.work.transcript.items)
  calls_in s =
      ap (filter (is_call k s)) (journal_is S.site (front_of S words) g.seats g.work)
      ∙ both_pass (is_of k) (λ e. e.seq == s) g.work.journal
      ∙ ap (filter (λ e. e.seq == s)) (sym (g.work.legal.updates_are k y.work.transcript.items (get_map transcript_of g.seats k y seat)))

  -- a call that isn't done
  none_by : HasOpen S k (opened_of z.work) → y.work.transcript ≡ z.work.kept → ((post_of S words k).flag ≡ 2 → ⊥) →
      early_by S words k z.work (is_update z.work.call) ≡ []
  none_by o has low =
      elim (is_update z.work.call) as (λ b. early_by S words k z.work b ≡ []) [
        | true ↦ calls_in z.work.seq ∙ ap (λ (t : TheTranscript). filter (λ e. e.seq == z.work.seq) (filter updates t.items)) has
            ∙ none_numbered z.work.seq z.work.kept.items o.fresh
        | false ↦
            let miss : ((post_of S words k).flag == 2) ≡ false = grind (arith, nat_tests) in
            ap (λ b. cond b (answered_entry S.site.shard k z.work.seq z.work.call (post_of S words k).answer ∷ []) []) miss
      ]

  -- and one that is
  one_by : (e : Entry) → HasOpen S k (opened_of z.work) → y.work.transcript ≡ more_entries z.work.kept (e ∷ []) → e.call ≡ z.work.call → e.seq ≡ z.work.seq →
      (is_update z.work.call ≡ false → ((post_of S words k).flag ≡ 2) ×
      (answered_entry S.site.shard k z.work.seq z.work.call (post_of S words k).answer ≡ e)) → early_by S words k z.work
      (is_update z.work.call) ≡ e ∷ []
  one_by e o has same_call same_seq read =
      elim (is_update z.work.call) as (λ b. is_update z.work.call ≡ b → early_by S words k z.work b ≡ e ∷ []) [
        | true ↦ λ is.
            calls_in z.work.seq ∙ ap (λ (t : TheTranscript). filter (λ e. e.seq == z.work.seq) (filter updates t.items)) has
            ∙ one_numbered z.work.seq z.work.kept.items e o.fresh (ap is_update same_call ∙ is) same_seq
        | false ↦ λ is.
            let two : (post_of S words k).flag ≡ 2 = (read is).0 in
            let hit : ((post_of S words k).flag == 2) ≡ true = grind (arith, nat_tests) in
            ap (λ b. cond b (answered_entry S.site.shard k z.work.seq z.work.call (post_of S words k).answer ∷ []) []) hit ∙ ap (λ e. e ∷ []) (read is).1
      ] refl

  -- so it is at each stage
  abbrev Shown : CombineStage → Type 0
  Shown st = ((early_open S words k z.work (combine_is_open st) ≡ []) × (y.work.transcript ≡ z.work.kept)) ⊎
      ((e : Entry) × (early_open S words k z.work (combine_is_open st) ≡ e ∷ []) × (y.work.transcript ≡ more_entries z.work.kept (e ∷ [])))

  posting : (made : ℕ) → IsPosting S (post_of S words k) k (opened_of z.work) y made → Shown (Post 0)
  posting made p = inl (none_by p.open_call p.free.has (λ two. let low = p.flag in omega arith), p.free.has)

  done : HasOpen S k (opened_of z.work) → IsAnswered S (post_of S words k) k (opened_of z.work) y → Shown (Post 0)
  done o a =
      let e : Entry = answered_entry S.site.shard k z.work.seq z.work.call (post_of S words k).answer in
      inr (e, one_by e o a.free.has refl refl (λ _. (a.flag, refl)), a.free.has)

  posted : IsPosted S (post_of S words k) k (opened_of z.work) y → Shown (Post 0)
  posted p = by_case p.progress where
    by_case : Progress S (post_of S words k) k (opened_of z.work) y → Shown (Post 0)
    by_case (waits w) = inl (none_by p.open_call w.free.has (λ two. let low = w.flag in omega arith), w.free.has)
    by_case (handled h) = inl (none_by p.open_call h.has (λ two. let low = h.flag in omega arith), h.has)
    by_case (counted c) = inr (c.entry, one_by c.entry p.open_call c.has c.same_call c.same_seq (λ read. let update = c.update in absurd (cc)), c.has)
    by_case (answered a) = done p.open_call a

  by_stage : (st : CombineStage) → OwnAt S (post_of S words k) k z y st → Shown st
  by_stage Rest o = inl (refl, o.2.has)
  by_stage (Post made) o = posting made o.2
  by_stage Raise o = posting 5 o.1
  by_stage Look o = posted o.1
  by_stage Count o = posted o.1
  by_stage (Sweep owner) o = posted o.1
  by_stage (Copy owner made) o = posted o.1
  by_stage (Read owner word) o = posted o.1
  by_stage (Journal owner made) o = posted o.1
  by_stage (Volume owner made) o = posted o.1
  by_stage (Answer owner made) o = posted o.1
  by_stage (Mark owner) o = posted o.1
  by_stage (Collect made) o = done o.2.open_call o.2.done
  by_stage Lower o = done o.1.open_call o.1.done

  pub shown : slice_get sides k ≡ Some z → HasNone S words k z.work y ⊎ HasOne S words k z.work y
  shown there =
      ⊎_elim
      (λ (q : (early S words k z.work ≡ []) × (y.work.transcript ≡ z.work.kept)). inl (record { none = q.0; has = q.1 }))
      (λ (q : (e : Entry) × (early S words k z.work ≡ e ∷ []) × (y.work.transcript ≡ more_entries z.work.kept (e ∷ []))). inr
      (record { entry = q.0; one = q.1; has = q.2 }))
      (by_stage z.work.stage (g.own k z y there seat))

  -- the rank's entries by the words are its seat's
  pub transcript_is : slice_get sides k ≡ Some z → transcript S words k z.work ≡ y.work.transcript.items
  transcript_is there =
      ⊎_elim
      (λ (n : HasNone S words k z.work y). ap (λ l. z.work.kept.items ++ l) n.none ∙ append-nil z.work.kept.items
      ∙ sym (ap (λ (t : TheTranscript). t.items) n.has))
      (λ (o : HasOne S words k z.work y). ap (λ l. z.work.kept.items ++ l) o.one ∙ sym (ap (λ (t : TheTranscript). t.items) o.has))
      (shown there)
