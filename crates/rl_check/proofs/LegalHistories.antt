-- The tests of a shard say that its entries are the history of its journal and transcripts, which are legal.
use Rattle.std.proofs.Common.{◌≡◌, ◌⊎◌, ℕ, zero, suc, ◌+◌, ◌<◌, ◌≤◌, ◌==◌, Bool, true, false, not, ◌&&◌, cond, List, [], ◌∷◌, ◌++◌, length, take, drop, Option, Some, refl, sym, ap, subst, ◌∙◌, inl, inr, ⊎_elim, arith}
use Rattle.std.specs.Prelude.{slice_get}
use Rattle.std.specs.List.{filter, count_by, AllByRecursion}
use Rattle.std.specs.FinMap as finite
use Rattle.std.proofs.lemmas.Bool.Decides.{nat_tests}
use Rattle.std.proofs.lemmas.List.{take-append-drop, take_at, take_all}
use Rattle.std.proofs.lemmas.List.Elements.{filter-append}
use Rattle.std.proofs.lemmas.List.Sums.{length-filter}
use Rattle.std.proofs.lemmas.Option.{same_Some, slice_get_within}
use Rattle.rl_word.specs.laws.Places.{some_at}
use Rattle.rl_model.proofs.Counts.{count-cons, count-append}
use Rattle.rl_model.specs.declared.entry.Entry.{Entry}
use Rattle.rl_model.specs.Table.{apply}
use Rattle.rl_journal.specs.Legal as legal
use Rattle.rl_journal.specs.Legal.{updates, is_of, table_after, map_at, IsLegalRead, IsLegal}
use Rattle.rl_journal.specs.laws.LegalLaws.{each_part}
use Rattle.rl_journal.specs.History.{looked_at, reads_at, history_from, history, Precedes, IsSorted}
use Rattle.rl_journal.specs.laws.HistorySorted.{history_sorted}
use Rattle.rl_journal.specs.laws.Lists.{get_cases, get_left}
use Rattle.rl_journal.specs.Ranks.{IsInOrder}
use Rattle.rl_place.specs.Places.{ThePlace}
use Rattle.rl_report.specs.Naming.{naming_of}
use Rattle.rl_report.specs.Reports.{TheShard, ShardFits}
use Rattle.rl_report.specs.Lawful.{journal_among, transcript_in, transcripts_in}
use Rattle.rl_check.specs.Entries.{updates_before, table_before}
use Rattle.rl_check.specs.OneThread.{is_begun}
use Rattle.rl_check.specs.Ranks.{Stands}
use Rattle.rl_check.specs.Shards.{shard_tests}
use Rattle.rl_check.specs.LawfulReplays.{TellsHistory}
use Rattle.rl_check.proofs.BatchLaws.{is_the_last}
use Rattle.rl_check.proofs.EntryFacts.{kept_there, was_there, one_of_all, head_or}
use Rattle.rl_check.proofs.LawfulShards.{own_from}
use Rattle.rl_check.proofs.LawfulRanks.{apart}
use Rattle.rl_check.proofs.LegalShards.{up_grows, up_one, up_after, answered, at_is, entry_fits, begins_here, first_part, read_alone, sorted}
use Rattle.rl_check.proofs.LegalJournals.{journal_legal}

-- ---- entries of lists

left : (xs ys : List Entry) (e : Entry) → Stands xs e → Stands (xs ++ ys) e
left xs ys e h = (h.0, get_left xs ys h.0 e h.1)

right : (xs ys : List Entry) (e : Entry) → Stands ys e → Stands (xs ++ ys) e
right [] ys e h = h
right (x ∷ xs) ys e h = let q = right xs ys e h in (suc q.0, q.1)

either : (xs ys : List Entry) (e : Entry) → Stands (xs ++ ys) e → Stands xs e ⊎ Stands ys e
either xs ys e h = ⊎_elim (λ q. inl (h.0, q.1)) (λ q. inr (q.0, q.2)) (get_cases xs ys h.0 e h.1)

kept : (p : Entry → Bool) (xs : List Entry) (e : Entry) → Stands xs e → p e ≡ true → Stands (filter p xs) e
kept p xs e h hit = kept_there p xs h.0 e h.1 hit

was : (p : Entry → Bool) (xs : List Entry) (e : Entry) → Stands (filter p xs) e → (p e ≡ true) × Stands xs e
was p xs e h = let q = was_there p xs h.0 e h.1 in (q.0, (q.1, q.2))

-- ---- sorted lists with the same entries

each_at : (P : Entry → Type 0) (xs : List Entry) → AllByRecursion P xs → (e : Entry) → Stands xs e → P e
each_at P xs each e h = one_of_all P xs h.0 e each h.1

not_both : (d e : Entry) → Precedes d e → Precedes e d → ⊥
not_both d e a b =
    ⊎_elim
    (λ x. ⊎_elim (λ y. absurd (omega arith)) (λ y. let same = y.0 in absurd (omega arith)) b)
    (λ x. let one = x.0 in
    ⊎_elim
    (λ y. absurd (omega arith))
    (λ y.
    ⊎_elim
    (λ u. let bad : true ≡ false = sym u ∙ y.1 in cc)
    (λ u. ⊎_elim (λ v. let bad : true ≡ false = sym v ∙ x.1 in cc) (λ v.
    ⊎_elim
    (λ p. ⊎_elim (λ q. absurd (omega arith)) (λ q. let same = q.0 in absurd (omega arith)) v.1)
    (λ p. let same = p.0 in let low = p.1 in ⊎_elim (λ q. absurd (omega arith)) (λ q. let more = q.1 in absurd (omega arith)) v.1)
    u.1) y.2)
    x.2)
    b)
    a

same_sorted : (xs ys : List Entry) → IsSorted xs → IsSorted ys → ((e : Entry) → Stands xs e → Stands ys e) → ((e : Entry) → Stands ys e → Stands xs e) → xs ≡ ys
same_sorted [] [] sx sy to back = refl
same_sorted [] (y ∷ ys) sx sy to back = absurd (let bad = (back y (0, refl)).1 in cc)
same_sorted (x ∷ xs) [] sx sy to back = absurd (let bad = (to x (0, refl)).1 in cc)
same_sorted (x ∷ xs) (y ∷ ys) sx sy to back =
    let one : x ≡ y =
    ⊎_elim
    (λ e. sym e)
    (λ h. ⊎_elim (λ e. e) (λ g. absurd (not_both x y (each_at (Precedes x) xs sx.0 y g) (each_at (Precedes y) ys sy.0 x h))) (head_or x xs y (back y (0, refl))))
    (head_or y ys x (to x (0, refl))) in
    let on : xs ≡ ys =
    same_sorted xs ys sx.1 sy.1
    (λ e h. ⊎_elim (λ same. let p : Precedes x e = each_at (Precedes x) xs sx.0 e h in let q : e ≡ x = sym (one ∙ same) in absurd (not_both x x (subst (Precedes x) q p) (subst (Precedes x) q p))) (λ g. g) (head_or y ys e (to e (suc h.0, h.1))))
    (λ e h. ⊎_elim (λ same. let p : Precedes y e = each_at (Precedes y) ys sy.0 e h in let q : e ≡ y = sym same ∙ one in absurd (not_both y y (subst (Precedes y) q p) (subst (Precedes y) q p))) (λ g. g) (head_or x xs e (back e (suc h.0, h.1)))) in
    ap (λ z. z ∷ xs) one ∙ ap (λ z. y ∷ z) on

-- ---- entries of a history

update_in : (ts : List (List Entry)) (p : ℕ) (journal : List Entry) (e : Entry) → Stands journal e → Stands (history_from ts p journal) e
update_in ts p [] e h = absurd (let bad = h.1 in cc)
update_in ts p (u ∷ us) e h = right (reads_at p ts) (u ∷ history_from ts (p + 1) us) e (by (head_or u us e h) (λ g. update_in ts (p + 1) us e g)) where
  by : (u ≡ e) ⊎ Stands us e → (Stands us e → Stands (history_from ts (p + 1) us) e) → Stands (u ∷ history_from ts (p + 1) us) e
  by (inl same) later = (0, ap (λ z. Some z) same)
  by (inr g) later = let q = later g in (suc q.0, q.1)

read_in : (ts : List (List Entry)) (m p : ℕ) (journal : List Entry) (e : Entry) → m ≤ length journal → Stands (reads_at (p + m) ts) e → Stands (history_from ts p journal) e
read_in ts zero p [] e low h = let at : p + 0 ≡ p = omega arith in subst (λ z. Stands (reads_at z ts) e) at h
read_in ts (suc m) p [] e low h = absurd (omega arith)
read_in ts zero p (u ∷ us) e low h = let at : p + 0 ≡ p = omega arith in left (reads_at p ts) (u ∷ history_from ts (p + 1) us) e (subst (λ z. Stands (reads_at z ts) e) at h)
read_in ts (suc m) p (u ∷ us) e low h =
    let at : p + suc m ≡ p + 1 + m = omega arith in
    let q = read_in ts m (p + 1) us e (omega arith) (subst (λ z. Stands (reads_at z ts) e) at h) in
    right (reads_at p ts) (u ∷ history_from ts (p + 1) us) e (suc q.0, q.1)

-- an entry that looked at some count
abbrev Read : List (List Entry) → Entry → Type 0
Read ts e = (m : ℕ) × Stands (reads_at m ts) e

out_of : (ts : List (List Entry)) (p : ℕ) (journal : List Entry) (e : Entry) → Stands (history_from ts p journal) e → Stands journal e ⊎ Read ts e
out_of ts p [] e h = inr (p, h)
out_of ts p (u ∷ us) e h =
    ⊎_elim
    (λ q. inr (p, q))
    (λ q. ⊎_elim (λ same. inl (0, ap (λ z. Some z) same)) (λ g. ⊎_elim (λ r. inl (suc r.0, r.1)) (λ r. inr r) (out_of ts (p + 1) us e g)) (head_or u (history_from ts (p + 1) us) e q))
    (either (reads_at p ts) (u ∷ history_from ts (p + 1) us) e h)

-- in the transcripts of some entries
read_there : (es : List Entry) (p : ℕ) (e : Entry) (r n : ℕ) → r ≤ e.rank → e.rank < r + n → Stands es e → looked_at p e ≡ true → Stands (reads_at p (transcripts_in es r n)) e
read_there es p e r zero low high h hit = absurd (omega arith)
read_there es p e r (suc n) low high h hit =
    elim (is_of r e) as (λ b. is_of r e ≡ b → Stands (reads_at p (transcripts_in es r (suc n))) e) [
      | true ↦ λ mine. left (filter (looked_at p) (transcript_in es r)) (reads_at p (transcripts_in es (r + 1) n)) e (kept (looked_at p) (transcript_in es r) e (kept (is_of r) es e h mine) hit)
      | false ↦ λ other.
          let beyond : r + 1 ≤ e.rank = grind (arith, nat_tests) in
          right (filter (looked_at p) (transcript_in es r)) (reads_at p (transcripts_in es (r + 1) n)) e (read_there es p e (r + 1) n beyond (omega arith) h hit)
    ] refl

read_from : (es : List Entry) (p : ℕ) (e : Entry) (r n : ℕ) → Stands (reads_at p (transcripts_in es r n)) e → Stands es e
read_from es p e r zero h = absurd (let bad = h.1 in cc)
read_from es p e r (suc n) h =
    ⊎_elim
    (λ q. (was (is_of r) es e (was (looked_at p) (transcript_in es r) e q).1).1)
    (λ q. read_from es p e (r + 1) n q)
    (either (filter (looked_at p) (transcript_in es r)) (reads_at p (transcripts_in es (r + 1) n)) e h)

-- ---- transcripts

pub transcripts_long : (es : List Entry) (r n : ℕ) → length (transcripts_in es r n) ≡ n
transcripts_long es r zero = refl
transcripts_long es r (suc n) = ap suc (transcripts_long es (r + 1) n)

pub transcript_at : (es : List Entry) (r n k : ℕ) (t : List Entry) → slice_get (transcripts_in es r n) k ≡ Some t → transcript_in es (r + k) ≡ t
transcript_at es r zero k t get = absurd (cc)
transcript_at es r (suc n) zero t get = let at : r + 0 ≡ r = omega arith in ap (transcript_in es) at ∙ same_Some _ _ get
transcript_at es r (suc n) (suc k) t get = let at : r + suc k ≡ r + 1 + k = omega arith in ap (transcript_in es) at ∙ transcript_at es (r + 1) n k t get

twice : (p q : Entry → Bool) (es : List Entry) → filter p (filter q es) ≡ filter q (filter p es)
twice p q [] = refl
twice p q (e ∷ es) = by (p e) (q e) refl refl (twice p q es) where
  by : (a b : Bool) → p e ≡ a → q e ≡ b → filter p (filter q es) ≡ filter q (filter p es) → filter p (filter q (e ∷ es)) ≡ filter q (filter p (e ∷ es))
  by a b x y on =
      ap (λ c. filter p (cond c (e ∷ filter q es) (filter q es))) y ∙ step a b x y on ∙ sym (ap (λ c. filter q (cond c (e ∷ filter p es) (filter p es))) x)
    where
      step : (a b : Bool) → p e ≡ a → q e ≡ b → filter p (filter q es) ≡ filter q (filter p es) → filter p (cond b (e ∷ filter q es) (filter q es)) ≡ filter q (cond a (e ∷ filter p es) (filter p es))
      step true true x y on = ap (λ c. cond c (e ∷ filter p (filter q es)) (filter p (filter q es))) x ∙ ap (λ z. e ∷ z) on ∙ sym (ap (λ c. cond c (e ∷ filter q (filter p es)) (filter q (filter p es))) y)
      step true false x y on = on ∙ sym (ap (λ c. cond c (e ∷ filter q (filter p es)) (filter q (filter p es))) y)
      step false true x y on = ap (λ c. cond c (e ∷ filter p (filter q es)) (filter p (filter q es))) x ∙ on
      step false false x y on = on

-- where an update of a journal stands
update_at : (es : List Entry) (m : ℕ) (f : Entry) → slice_get (journal_among es) m ≡ Some f → (q : ℕ) × (slice_get es q ≡ Some f) × (updates_before es q ≡ m)
update_at [] m f get = absurd (cc)
update_at (e ∷ es) m f get = by (updates e) refl m get (λ k g. update_at es k f g) where
  by : (b : Bool) → updates e ≡ b → (m : ℕ) → slice_get (cond b (e ∷ journal_among es) (journal_among es)) m ≡ Some f → ((k : ℕ) → slice_get (journal_among es) k ≡ Some f → (q : ℕ) × (slice_get es q ≡ Some f) × (updates_before es q ≡ k)) →
      (q : ℕ) × (slice_get (e ∷ es) q ≡ Some f) × (updates_before (e ∷ es) q ≡ m)
  by true hit zero get later = (0, get, refl)
  by true hit (suc m) get later =
      let q = later m get in let h : ◌≡◌ {A = ℕ} (cond (updates e) 1 0) 1 = ap (λ b. cond {A = ℕ} b 1 0) hit in
      let n = q.2 in (suc q.0, q.1, omega (arith, count-cons updates e (take q.0 es)))
  by false miss m get later =
      let q = later m get in let h : ◌≡◌ {A = ℕ} (cond (updates e) 1 0) 0 = ap (λ b. cond {A = ℕ} b 1 0) miss in
      let n = q.2 in (suc q.0, q.1, omega (arith, count-cons updates e (take q.0 es)))

module _ (place : ThePlace) (replay : Bool) (s home : ℕ) (S : TheShard) (fit : ShardFits (naming_of place) replay s S)
    (T : (shard_tests place replay s home S).pass) where
  abbrev es : List Entry
  es = S.entries

  abbrev up : ℕ → ℕ
  up i = updates_before es i

  abbrev journal : List Entry
  journal = journal_among es

  abbrev ts : List (List Entry)
  ts = transcripts_in es 0 (length place.paths)

  -- the journal's beginning is what stands before
  split : (p : ℕ) → journal ≡ journal_among (take p es) ++ journal_among (drop p es)
  split p = ap journal_among (sym (take-append-drop p es)) ∙ filter-append updates (take p es) (drop p es)

  beginning : (p : ℕ) → take (up p) journal ≡ journal_among (take p es)
  beginning p = ap (take (up p)) (split p) ∙ take_at (journal_among (take p es)) (journal_among (drop p es)) (up p) (length-filter updates (take p es))

  low_up : (p : ℕ) → up p ≤ length journal
  low_up p =
      let long : length (filter updates (take p es)) ≡ up p = length-filter updates (take p es) in
      let all : length journal ≡ count_by updates es = length-filter updates es in
      let both : count_by updates es ≡ count_by updates (take p es) + count_by updates (drop p es) = ap (count_by updates) (sym (take-append-drop p es)) ∙ count-append updates (take p es) (drop p es) in
      omega arith

  ended : (o : Option Entry) (d f : Entry) → o ≡ Some d → d.batch ≡ 0 → is_begun o ≡ false
  ended o d f is none = ap is_begun is ∙ ap not (is_the_last d (omega arith))

  -- no update within a batch comes next behind a get or hold
  next_begins : (p : ℕ) (e : Entry) → slice_get es p ≡ Some e → updates e ≡ false → legal.Begins journal (up p)
  next_begins p e get miss f gf =
      let q = update_at es (up p) f gf in
      let hit : updates f ≡ true = (was updates es f (up p, gf)).0 in
      ⊎_elim
      (λ x. behind x.0 f (ap (slice_get es) (sym x.1) ∙ q.1) hit (ap (λ z. up z) (sym x.1) ∙ q.2))
      (λ x. ⊎_elim
      (λ same. absurd (let one : e ≡ f = same_Some _ _ (sym get ∙ ap (slice_get es) same ∙ q.1) in let bad : true ≡ false = sym hit ∙ ap updates (sym one) ∙ miss in cc))
      (λ r. absurd (let far = up_after es q.0 r.0 f q.1 hit in let at : up p ≡ up (suc (q.0 + r.0)) = ap (λ z. up z) r.1 in let here = q.2 in omega arith))
      x)
      (apart p q.0)
    where
      behind : (n : ℕ) (f : Entry) → slice_get es (suc (p + n)) ≡ Some f → updates f ≡ true → up (suc (p + n)) ≡ up p → f.part ≡ 0
      behind n f gf hit here =
          let d = some_at es (p + n) (let h = slice_get_within es (suc (p + n)) f gf in omega arith) in
          let quiet : updates d.0 ≡ false = by d.0 d.1 (updates d.0) refl in
          let none : d.0.batch ≡ 0 = read_alone place replay s home S fit T (p + n) d.0 d.1 quiet in
          first_part place replay s home S fit T f (begins_here place replay s home S fit T (suc (p + n)) f gf (ended (slice_get es (p + n)) d.0 f d.1 none)) (entry_fits place replay s home S fit T (suc (p + n)) f gf).part
        where
          by : (d : Entry) → slice_get es (p + n) ≡ Some d → (b : Bool) → updates d ≡ b → updates d ≡ false
          by d gd true h = absurd (let one = up_one es (p + n) d gd h in let far = up_grows es p n in omega arith)
          by d gd false h = h

  read_legal : (e : Entry) → Stands es e → IsLegalRead place.geom journal e
  read_legal e h miss =
      let p : ℕ = h.0 in
      let at : e.at ≡ up p = at_is place replay s home S fit T p e h.1 in
      let none : e.batch ≡ 0 = read_alone place replay s home S fit T p e h.1 miss in
      let table : map_at place.geom journal e.at ≡ table_before place.geom es p = ap (λ z. table_after place.geom finite.empty (take z journal)) at ∙ ap (table_after place.geom finite.empty) (beginning p) in (
        (let low = low_up p in omega arith),
        (answered place replay s home S fit T p e h.1).alone none ∙ ap (λ u. (apply place.geom e.call u).1) (sym table),
        subst (legal.Begins journal) (sym at) (next_begins p e h.1 miss),
      )

  pub shard_legal : IsLegal place.geom journal ts
  shard_legal =
      record {
        journal_is = journal_legal place replay s home S fit T;
        reads_are = λ k t get. each_part (IsLegalRead place.geom journal) t (λ i e g.
            read_legal e (was (is_of (0 + k)) es e (i, ap (λ z. slice_get z i) (transcript_at es 0 (length place.paths) k t get) ∙ g)).1);
        ranks_are = each_part (λ e. e.rank < length ts) journal (λ i e g.
            let h = (was updates es e (i, g)).1 in
            let low = (entry_fits place replay s home S fit T h.0 e h.1).rank_there in
            let long = transcripts_long es 0 (length place.paths) in
            omega arith);
        updates_are = λ k t get.
            let at : 0 + k ≡ k = omega arith in
            ap (filter updates) (sym (transcript_at es 0 (length place.paths) k t get)) ∙ twice updates (is_of (0 + k)) es ∙ ap (λ z. filter (is_of z) journal) at;
      }

  module _ (order : (k : ℕ) → k < length place.paths → IsInOrder (transcript_in es k)) where
    to : (e : Entry) → Stands es e → Stands (history journal ts) e
    to e h =
        elim (updates e) as (λ b. updates e ≡ b → Stands (history journal ts) e) [
          | true ↦ λ hit. update_in ts 0 journal e (kept updates es e h hit)
          | false ↦ λ miss.
              let low : e.at ≤ length journal = (read_legal e h miss).0 in
              let there = (entry_fits place replay s home S fit T h.0 e h.1).rank_there in
              let look : looked_at (0 + e.at) e ≡ true = ap (λ b. not b && (e.at == 0 + e.at)) miss ∙ (let at : 0 + e.at ≡ e.at = omega arith in grind (arith, nat_tests)) in
              read_in ts e.at 0 journal e low (read_there es (0 + e.at) e 0 (length place.paths) (omega arith) (omega arith) h look)
        ] refl

    back : (e : Entry) → Stands (history journal ts) e → Stands es e
    back e h = ⊎_elim (λ q. (was updates es e q).1) (λ q. read_from es q.0 e 0 (length place.paths) q.1) (out_of ts 0 journal e h)

    pub tells_history : TellsHistory place S
    tells_history =
        record {
          legal = shard_legal;
          in_order = same_sorted es (history journal ts) (sorted place replay s home S fit T) (history_sorted place.geom journal ts shard_legal (own_from es 0 (length place.paths) (λ k low high. order k (omega arith)))) to back;
          told = T.1.0.1 ∙ ap (count_by updates) (take_all (length es) es (omega arith)) ∙ sym (length-filter updates es);
        }
