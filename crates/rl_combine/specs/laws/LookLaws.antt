-- How the ranks' entries look by the words: legal, in order, each rank's own; and how they change.
use Rattle.std.specs.Prelude.{◌≡◌, ◌⊎◌, ℕ, suc, ◌+◌, ◌≤◌, ◌==◌, true, false, ◌&&◌, List, [], ◌∷◌, ◌++◌, length, slice_get, Some, refl}
use Rattle.std.specs.FinMap as finite
use Rattle.std.proofs.Common.{sym, ◌∙◌, ap, subst, inl, inr, ⊎_elim, arith, length-append}
use Rattle.rl_model.specs.declared.entry.Entry.{Entry}
use Rattle.rl_step.specs.declared.events.Standing.TheVariants.{Out, Writer}
use Rattle.rl_volume.specs.Volume.{IsVolume}
use Rattle.rl_journal.specs.Legal.{IsLegal, table_after}
use Rattle.rl_journal.specs.History.{history, IsSorted}
use Rattle.rl_work.specs.declared.stage.Stage.{Stage as BlockStage}
use Rattle.rl_work.specs.declared.stage.Stage.TheVariants as block
use Rattle.rl_site.specs.Site.{places, volume_of, journal_by, WaySite}
use Rattle.rl_site.specs.Transcript.{TheTranscript}
use Rattle.rl_site.specs.Opens.{IsOwnTranscript}
use Rattle.rl_work.specs.Ways.{IsLaid, look, transcripts_from, BlockGoesOn, AtomWork}
use Rattle.rl_work.specs.Work.{more_entries}
use Rattle.rl_work.specs.WorkGood.{WorkSide as Seat, transcripts, is_writing, FitsAt as BlockFits}
use Rattle.rl_work.specs.laws.RuleLaws.{journal_is, always_legal, always_sorted}
use Rattle.rl_work.specs.laws.RoomLaws.{journal_short}
use Rattle.rl_combine.specs.declared.stage.CombineStage.{CombineStage}
use Rattle.rl_combine.specs.declared.stage.CombineStage.TheVariants.{Rest}
use Rattle.rl_combine.specs.Posts.{ThePost, post_of}
use Rattle.rl_combine.specs.Combine.{TheCombineSide, Opened, opened_of, combine_is_open, early, transcript, combine_owes, combine_table}
use Rattle.rl_combine.specs.laws.Cases.{early_open}
use Rattle.rl_combine.specs.CombineGood.{RankSide, front_of, IsInHand, OwnAt, CombineGood}
use Rattle.rl_combine.specs.laws.SideLaws.{posted_at, flag_at}
use Rattle.rl_combine.specs.laws.SeatLaws.{handled_as}
use Rattle.rl_combine.specs.laws.MoveLaws.{Grows, SeatGoesOn, seat_of, side_of}
use Rattle.rl_combine.specs.laws.TranscriptLaws.{HasNone, HasOne, transcript_is}
use Rattle.rl_combine.specs.laws.StandLaws.{at_rest_of}

-- lists that agree one by one
transcripts_are : (S : WaySite) (node : ℕ → ℕ) (words : List ℕ) (r : ℕ) (sides : List RankSide) (seats : List Seat) → length sides ≡ length seats →
    ((k : ℕ) (z : RankSide) (y : Seat) → slice_get sides k ≡ Some z → slice_get seats k ≡ Some y → transcript S words
    (r + k) z.work ≡ y.work.transcript.items) →
    transcripts_from (combine_table S node) words r sides ≡ transcripts seats
transcripts_are S node words r [] [] same each = refl
transcripts_are S node words r [] (y ∷ seats) same each = absurd (omega arith)
transcripts_are S node words r (z ∷ sides) [] same each = absurd (omega arith)
transcripts_are S node words r (z ∷ sides) (y ∷ seats) same each =
    ap (λ t. t ∷ transcripts_from (combine_table S node) words (r + 1) sides)
    (subst (λ n. transcript S words n z.work ≡ y.work.transcript.items) (omega arith) (each 0 z y refl refl))
    ∙ ap (λ ts. y.work.transcript.items ∷ ts) (transcripts_are S node words (r + 1) sides seats (omega arith)
    (λ k a b at bt. subst (λ n. transcript S words n a.work ≡ b.work.transcript.items) (omega arith) (each (suc k) a b at bt)))

module _ (S : WaySite) (node : ℕ → ℕ) (words : List ℕ) (sides : List RankSide) (g : CombineGood S words sides) where
  same_transcripts : transcripts_from (combine_table S node) words 0 sides ≡ transcripts g.seats
  same_transcripts =
      transcripts_are S node words 0 sides g.seats (g.ranks ∙ sym g.work.ranks)
      (λ k z y there seat. subst (λ n. transcript S words n z.work ≡ y.work.transcript.items) (omega arith) (transcript_is S words sides g k z y seat there))

  pub legal : IsLegal S.site.geom (journal_by S.site words) (transcripts_from (combine_table S node) words 0 sides)
  legal = subst (IsLegal S.site.geom (journal_by S.site words)) (sym same_transcripts) (always_legal S.site (front_of S words) g.seats g.work)

  pub sorted : IsSorted (history (journal_by S.site words) (transcripts_from (combine_table S node) words 0 sides))
  sorted = subst (λ t. IsSorted (history (journal_by S.site words) t)) (sym same_transcripts) (always_sorted S.site (front_of S words) g.seats g.work)

  pub short : length (journal_by S.site words) ≤ places S.site
  short = let same = journal_is S.site (front_of S words) g.seats g.work in
      subst (λ j. length j ≤ places S.site) (sym same) (journal_short S.site (front_of S words) g.seats g.work)

  module _ (laid : IsLaid (combine_table S node) words) where
    pub own : (r : ℕ) (x : RankSide) → slice_get sides r ≡ Some x → IsOwnTranscript S.site r (transcript S words r x.work)
    own r x has =
        let s = seat_of S node words laid sides g r x has in
        subst (IsOwnTranscript S.site r) (sym (transcript_is S words sides g r x s.0 s.1 has)) (g.work.own r s.0 s.1)

    -- while no call is open the volume is that of the journal's table
    pub volume : ((r : ℕ) (x : RankSide) → slice_get sides r ≡ Some x → combine_is_open x.work.stage ≡ false) →
        IsVolume S.site.geom S.site.shard (volume_of S.site.geom (front_of S words)) (table_after S.site.geom finite.empty (journal_by S.site words))
    volume closed =
        let still : volume_of S.site.geom (front_of S words) ≡ g.work.before = g.work.still (λ k y seat. quiet k y seat) in
        subst (λ j. IsVolume S.site.geom S.site.shard (volume_of S.site.geom (front_of S words)) (table_after S.site.geom finite.empty j))
        (sym (journal_is S.site (front_of S words) g.seats g.work))
        (subst (λ v. IsVolume S.site.geom S.site.shard v (table_after S.site.geom finite.empty g.work.journal)) (sym still) g.work.volume)
      where
        by_stage : (k : ℕ) (y : Seat) (st : BlockStage) → y.standing ≡ Out →
            BlockFits S.site (front_of S words) g.work.journal g.work.before k y st → is_writing st ≡ false
        by_stage k y block.Rest out f = refl
        by_stage k y block.Begin out f = refl
        by_stage k y (block.Read count word) out f = refl
        by_stage k y (block.Journal made) out f = refl
        by_stage k y (block.Volume made) out f = let writes = f.0.writes in absurd (cc)

        quiet : (k : ℕ) (y : Seat) → slice_get g.seats k ≡ Some y → is_writing y.work.stage ≡ false
        quiet k y seat =
            let z = side_of S node words laid sides g k y seat in
            let rest : z.0.work.stage ≡ Rest = at_rest_of S node words laid sides g k z.0 z.1 (closed k z.0 z.1) in
            let o : OwnAt S (post_of S words k) k z.0 y Rest = subst (OwnAt S (post_of S words k) k z.0 y) rest (g.own k z.0 y z.1 seat) in
            by_stage k y y.work.stage o.2.out (g.work.fits k y seat)

-- a rank's open call and what it keeps are as before
pub record IsSameCall (a b : TheCombineSide) : Type 0 where
  pub same : opened_of b ≡ opened_of a
  pub open_too : combine_is_open b.stage ≡ combine_is_open a.stage

same_kept : (a b : TheCombineSide) → opened_of b ≡ opened_of a → b.kept ≡ a.kept
same_kept a b same = ap (λ (o : Opened). o.kept) same

-- entries of a transcript are not the same with one more
pub no_more_entries : (t : TheTranscript) (e : Entry) → t ≡ more_entries t (e ∷ []) → ⊥
no_more_entries t e same = absurd (let l = ap (λ (z : TheTranscript). length z.items) same in omega (arith, length-append t.items (e ∷ [])))

not_two_more : (t : TheTranscript) (e f h : Entry) → more_entries t (e ∷ []) ≡ more_entries (more_entries t (f ∷ [])) (h ∷ []) → ⊥
not_two_more t e f h same = absurd (let l = ap (λ (z : TheTranscript). length z.items) same in omega
    (arith, length-append t.items (e ∷ []), length-append (t.items ++ f ∷ []) (h ∷ []), length-append t.items (f ∷ [])))

not_two : (t : TheTranscript) (f h : Entry) → t ≡ more_entries (more_entries t (f ∷ [])) (h ∷ []) → ⊥
not_two t f h same = absurd (let l = ap (λ (z : TheTranscript). length z.items) same in
    omega (arith, length-append (t.items ++ f ∷ []) (h ∷ []), length-append t.items (f ∷ [])))

-- an entry that is done early is one of an open call
open_with : (S : WaySite) (words : List ℕ) (k : ℕ) (x : TheCombineSide) (e : Entry) → early S words k x ≡ e ∷ [] → combine_is_open x.stage ≡ true
open_with S words k x e one =
    elim (combine_is_open x.stage) as (λ b. early_open S words k x b ≡ e ∷ [] → b ≡ true) [
      | true ↦ λ _. refl
      | false ↦ λ one. absurd (cc)
    ] one

module _ (S : WaySite) (node : ℕ → ℕ) (words vs : List ℕ) (k : ℕ) (a b : TheCombineSide) (y u : Seat) where
  owes_none : HasNone S words k a y → combine_owes S words k a ≡ (combine_is_open a.stage && true)
  owes_none n = ap (λ (l : List Entry). combine_is_open a.stage && (length l == 0)) n.none

  pub owes_one : HasOne S words k a y → combine_owes S words k a ≡ (combine_is_open a.stage && false)
  owes_one o = ap (λ (l : List Entry). combine_is_open a.stage && (length l == 0)) o.one

  goes_look : IsSameCall a b → transcript S words k a ≡ y.work.transcript.items → transcript S vs k b ≡ u.work.transcript.items →
      u.work.transcript ≡ y.work.transcript → combine_owes S vs k b ≡ combine_owes S words k a →
      BlockGoesOn (look (combine_table S node) words k a) (look (combine_table S node) vs k b)
  goes_look c before after stays owed =
      record {
        same_calls = ap (λ (o : Opened). o.call ∷ []) c.same;
        same_seq = ap (λ (o : Opened). o.seq) c.same;
        same_items = after ∙ ap (λ (t : TheTranscript). t.items) stays ∙ sym before;
        same_room = ap (λ (o : Opened). o.kept.room) c.same;
        owes = ap (λ o. o && combine_owes S vs k b) c.open_too ∙ ap (λ o. combine_is_open a.stage && o) owed;
      }

-- how a rank looks after an atom, where its open call is the same
pub look_goes : (S : WaySite) (node : ℕ → ℕ) (words vs : List ℕ) (k : ℕ) (a b : TheCombineSide) (y u : Seat) → IsSameCall a b →
    transcript S words k a ≡ y.work.transcript.items → transcript S vs k b ≡ u.work.transcript.items →
    HasNone S words k a y ⊎ HasOne S words k a y → HasNone S vs k b u ⊎ HasOne S vs k b u →
    (y.standing ≡ Writer → (y.work.calls ≡ a.call ∷ []) × (y.work.seq ≡ a.seq)) → SeatGoesOn S k y u →
    AtomWork S.site.shard k (look (combine_table S node) words k a) (look (combine_table S node) vs k b)
look_goes S node words vs k a b y u c before after had have handed moves = ⊎_elim stays grows moves where
  kept : b.kept ≡ a.kept
  kept = same_kept a b c.same

  stays : u.work.transcript ≡ y.work.transcript → AtomWork S.site.shard k (look (combine_table S node) words k a) (look (combine_table S node) vs k b)
  stays same =
      ⊎_elim
      (λ (n : HasNone S words k a y). ⊎_elim
      (λ (m : HasNone S vs k b u). inl (goes_look S node words vs k a b y u c before after same
      (owes_none S node vs words k b a u y m ∙ ap (λ o. o && true) c.open_too ∙ sym (owes_none S node words vs k a b y u n))))
      (λ (o : HasOne S vs k b u). absurd (no_more_entries a.kept o.entry (sym n.has ∙ sym same ∙ o.has ∙ ap (λ t. more_entries t (o.entry ∷ [])) kept)))
      have)
      (λ (o : HasOne S words k a y). ⊎_elim
      (λ (n : HasNone S vs k b u). absurd (no_more_entries a.kept o.entry (sym kept ∙ sym n.has ∙ same ∙ o.has)))
      (λ (m : HasOne S vs k b u). inl (goes_look S node words vs k a b y u c before after same
      (owes_one S node vs words k b a u y m ∙ ap (λ o. o && false) c.open_too ∙ sym (owes_one S node words vs k a b y u o))))
      have)
      had

  grows : Grows S k y u → AtomWork S.site.shard k (look (combine_table S node) words k a) (look (combine_table S node) vs k b)
  grows q =
      ⊎_elim
      (λ (n : HasNone S words k a y). ⊎_elim
      (λ (m : HasNone S vs k b u). absurd (no_more_entries a.kept q.entry (sym kept ∙ sym m.has ∙ q.has ∙ ap (λ t. more_entries t (q.entry ∷ [])) n.has)))
      (λ (m : HasOne S vs k b u).
      let is : combine_is_open b.stage ≡ true = open_with S vs k b m.entry m.one in
      let was : combine_is_open a.stage ≡ true = sym c.open_too ∙ is in
      let h = handed q.writes in
      inr (record {
        was = ap (λ o. combine_is_open a.stage && o) (owes_none S node words vs k a b y u n) ∙ ap (λ o. o && (o && true)) was;
        is_over = ap (λ o. combine_is_open b.stage && o) (owes_one S node vs words k b a u y m) ∙ ap (λ o. o && (o && false)) is;
        same_room = ap (λ (o : Opened). o.kept.room) c.same;
        entries = q.entry ∷ [];
        items = after ∙ ap (λ (t : TheTranscript). t.items) q.has ∙ ap (λ l. l ++ q.entry ∷ []) (sym before);
        calls_are = sym q.calls ∙ h.0;
        tells = ((q.shard_is, q.rank_is, q.batch_is, sym q.seq ∙ h.1, q.part_is), tt);
      }))
      have)
      (λ (o : HasOne S words k a y). absurd (⊎_elim
      (λ (m : HasNone S vs k b u). not_two a.kept o.entry q.entry (sym kept ∙ sym m.has ∙ q.has ∙ ap (λ t. more_entries t (q.entry ∷ [])) o.has))
      (λ (m : HasOne S vs k b u). not_two_more a.kept m.entry o.entry q.entry
      (ap (λ t. more_entries t (m.entry ∷ [])) (sym kept) ∙ sym m.has ∙ q.has ∙ ap (λ t. more_entries t (q.entry ∷ [])) o.has))
      have))
      had

-- a rank whose seat writes has its call there
pub handed_at : (S : WaySite) (p : ThePost) (k : ℕ) (z : RankSide) (y : Seat) (st : CombineStage) → OwnAt S p k z y st →
    y.standing ≡ Writer → (y.work.calls ≡ z.work.call ∷ []) × (y.work.seq ≡ z.work.seq)
handed_at S p k z y st o writes =
    let one : p.flag ≡ 1 = flag_at S p k z y st o (λ out. absurd (cc)) in
    let h : IsInHand p (opened_of z.work) y = handled_as S p k (opened_of z.work) y writes (posted_at S p k z y st o one) in
    (h.calls, h.seq)
