-- What is done of a call by the words and by its rank's seat; and so while a writer is late.
use Rattle.std.specs.Prelude.{◌≡◌, ◌⊎◌, ℕ, ◌+◌, true, false, cond, List, [], ◌∷◌, ◌++◌, length, slice_get, slice_index, Option, Some, None, refl}
use Rattle.std.proofs.Common.{sym, ◌∙◌, ap, subst, ⊎_elim}
use Rattle.std.proofs.lemmas.List.{same_from_push}
use Rattle.std.proofs.lemmas.Option.{same_Some}
use Rattle.rl_word.specs.laws.Places.{one_at}
use Rattle.rl_word.specs.declared.acts.Atom.TheVariants as atom
use Rattle.rl_model.specs.declared.call.Call.{Call}
use Rattle.rl_model.specs.declared.entry.Entry.{Entry}
use Rattle.rl_model.specs.declared.entry.Reply.{Reply}
use Rattle.rl_model.specs.declared.geom.Geom.{Geom}
use Rattle.rl_model.specs.Asked.{asks_update}
use Rattle.rl_step.specs.declared.events.Standing.TheVariants.{Writer, Leaving}
use Rattle.rl_volume.specs.declared.write.Write.{Write}
use Rattle.rl_volume.specs.Seen.{next_word}
use Rattle.rl_work.specs.declared.stage.Stage.{Stage as BlockStage}
use Rattle.rl_work.specs.declared.stage.Stage.TheVariants as block
use Rattle.rl_site.specs.Transcript.{TheTranscript}
use Rattle.rl_work.specs.Ways.{IsLaid}
use Rattle.rl_work.specs.Work.{TheWork, WorkTurned, write_atom, stage_atom as block_atom, stage_after as block_after, block_close, decision_of, stops_block, read_next, read_on, left_of, with_call, with_seen, with_stop, more_entries}
use Rattle.rl_work.specs.laws.Cases.{block_close_by}
use Rattle.rl_work.specs.WorkGood.{WorkSide as Seat}
use Rattle.rl_combine.specs.declared.stage.CombineStage.{CombineStage}
use Rattle.rl_combine.specs.declared.stage.CombineStage.TheVariants.{Rest, Post, Raise, Look, Count, Sweep, Copy, Read, Journal, Volume, Answer, Mark, Collect, Lower}
use Rattle.rl_combine.specs.Posts.{post_of}
use Rattle.rl_site.specs.Site.{WaySite}
use Rattle.rl_combine.specs.Combine.{combine_table, opened_of, in_hand, early}
use Rattle.rl_combine.specs.CombineGood.{RankSide, IsCounted, OwnAt, SweepAt, IsLeft, IsToEnd, IsHeld, CombineGood}
use Rattle.rl_combine.specs.Sweep.{IsLateAt, IsLate}
use Rattle.rl_combine.specs.laws.SideLaws.{posted_at, flag_at, hand_writes}
use Rattle.rl_combine.specs.laws.MoveLaws.{seat_of}
use Rattle.rl_combine.specs.laws.SeatLaws.{counted_as}
use Rattle.rl_combine.specs.laws.LookLaws.{no_more_entries, handed_at}
use Rattle.rl_combine.specs.laws.TranscriptLaws.{HasNone, HasOne, shown}

-- a block of updates isn't over with a load: its stores follow
next_more : (x : TheWork) (count : ℕ) (o : Option ℕ) (on : WorkTurned) → on.over ≡ false → (read_next x count o on).over ≡ false
next_more x count (Some word) on e = refl
next_more x count None on e = e

close_more : (shard rank count : ℕ) (x : TheWork) → asks_update x.calls ≡ true → (block_close shard rank x count).over ≡ false
close_more shard rank count x update = ap (λ b. (block_close_by shard rank x count b).over) update

reads_more : (geom : Geom) (shard rank count : ℕ) (rest : List Call) (x : TheWork) → asks_update x.calls ≡ true →
    (read_on geom shard rank count rest x).over ≡ false
reads_more geom shard rank count [] x update = close_more shard rank count x update
reads_more geom shard rank count (c ∷ rest) x update =
    let d : List Write × Reply = decision_of geom x c in
    next_more x count (next_word geom c x.seen.pairs) _
    (elim (stops_block (length x.calls) d.1) as (λ b. (cond b (block_close shard rank (with_stop x d.1 rest) count)
    (read_on geom shard rank count rest (with_call x d))).over ≡ false) [
      | true ↦ close_more shard rank count (with_stop x d.1 rest) update
      | false ↦ reads_more geom shard rank count rest (with_call x d) update
    ])

no_load : (count w : ℕ) (o : Option Write) → Some (write_atom count o) ≡ Some (atom.Load w) → ⊥
no_load count w (Some d) e = absurd (cc)
no_load count w None e = absurd (cc)

loads_more : (geom : Geom) (shard rank got w : ℕ) (x : TheWork) (st : BlockStage) → block_atom geom x st ≡ Some (atom.Load w) →
    asks_update x.calls ≡ true → (block_after geom shard rank x got st).over ≡ false
loads_more geom shard rank got w x block.Rest e update = absurd (cc)
loads_more geom shard rank got w x block.Begin e update = reads_more geom shard rank got (left_of x) x update
loads_more geom shard rank got w x (block.Read count word) e update =
    let y : TheWork = with_seen x (x.seen.pairs ++ (word, got) ∷ []) in
    reads_more geom shard rank count (left_of y) y update
loads_more geom shard rank got w x (block.Journal made) e update = absurd (cc)
loads_more geom shard rank got w x (block.Volume made) e update = absurd (no_load (x.at + length x.entries) w (slice_get x.writes made) e)

module _ (S : WaySite) (node : ℕ → ℕ) (words : List ℕ) (laid : IsLaid (combine_table S node) words) (sides : List RankSide)
    (g : CombineGood S words sides) (k : ℕ) (x : RankSide) (has : slice_get sides k ≡ Some x) where
  -- the entry that is done early, by the seat
  pub none_of : (y : Seat) → slice_get g.seats k ≡ Some y → y.work.transcript ≡ x.work.kept → early S words k x.work ≡ []
  none_of y seat has_none =
      ⊎_elim (λ (n : HasNone S words k x.work y). n.none) (λ (o : HasOne S words k x.work y). absurd
      (no_more_entries x.work.kept o.entry (sym has_none ∙ o.has))) (shown S words sides g k x y seat has)

  pub one_of : (y : Seat) (e : Entry) → slice_get g.seats k ≡ Some y → y.work.transcript ≡ more_entries x.work.kept (e ∷ []) → early S words k x.work ≡ e ∷ []
  one_of y e seat has_one =
      ⊎_elim
      (λ (n : HasNone S words k x.work y). absurd (no_more_entries x.work.kept e (sym n.has ∙ has_one)))
      (λ (o : HasOne S words k x.work y).
      let same : x.work.kept.items ++ o.entry ∷ [] ≡ x.work.kept.items ++ e ∷ [] = ap (λ (t : TheTranscript). t.items) (sym o.has ∙ has_one) in
      o.one ∙ ap (λ e. e ∷ []) (same_from_push x.work.kept.items x.work.kept.items o.entry e same).1)
      (shown S words sides g k x y seat has)

  -- a seat that leaves is that of a late writer
  pub late_by : (y : Seat) → slice_get g.seats k ≡ Some y → IsCounted (post_of S words k) (opened_of x.work) y → IsLate sides k x.work
  late_by y seat c = ⊎_elim (λ out. absurd (let leaves = c.leaves in cc)) held (g.held k y seat) where
    not_writing : (v : Seat) (owner : ℕ) → slice_get g.seats owner ≡ Some v → owner ≡ k → v.standing ≡ Writer → ⊥
    not_writing v owner there same writes =
        let v_is : v ≡ y = one_at g.seats k v y (subst (λ n. slice_get g.seats n ≡ Some v) same there) seat in
        let stands : v.standing ≡ Leaving = ap (λ (u : Seat). u.standing) v_is ∙ c.leaves in
        cc

    by_stage : (q : ℕ) (z : RankSide) (st : CombineStage) → SweepAt S words g.seats q z.work st → in_hand st ≡ Some k → IsLateAt st k
    by_stage q z Rest s e = absurd (cc)
    by_stage q z (Post made) s e = absurd (cc)
    by_stage q z Raise s e = absurd (cc)
    by_stage q z Look s e = absurd (cc)
    by_stage q z Count s e = absurd (cc)
    by_stage q z (Sweep owner) s e = absurd (cc)
    by_stage q z (Copy owner made) s e = absurd (cc)
    by_stage q z (Read owner word) s e = absurd (not_writing _ owner s.1.seat (same_Some owner k e) refl)
    by_stage q z (Journal owner made) s e = absurd (not_writing _ owner s.1.seat (same_Some owner k e) refl)
    by_stage q z (Volume owner made) s e = absurd (not_writing _ owner s.1.seat (same_Some owner k e) refl)
    by_stage q z (Answer owner made) s e = same_Some owner k e
    by_stage q z (Mark owner) s e = same_Some owner k e
    by_stage q z (Collect made) s e = absurd (cc)
    by_stage q z Lower s e = absurd (cc)

    held : IsHeld sides k → IsLate sides k x.work
    held h =
        let u = seat_of S node words laid sides g h.holder h.side h.there in
        record {
          rank = h.holder;
          side = h.side;
          there = h.there;
          writes = hand_writes S (post_of S words h.holder) h.holder h.side u.0 h.side.work.stage (g.own h.holder h.side u.0 h.there u.1) k h.holds;
          late = by_stage h.holder h.side h.side.work.stage (g.sweeps h.holder h.side h.there) h.holds;
          update = c.update;
        }

  -- and where a writer is late the seat leaves: the flag is 1, and the writer has the one entry
  abbrev pub LateSays : RankSide → Type 0
  LateSays z = ((post_of S words k).flag ≡ 1) × (early S words k x.work ≡ z.work.entry ∷ [])

  own_by : (y : Seat) → slice_get g.seats k ≡ Some y → OwnAt S (post_of S words k) k x y x.work.stage
  own_by y seat = g.own k x y has seat

  pub late_says : (l : IsLate sides k x.work) → LateSays l.side
  late_says l = by_stage l.side.work.stage (g.sweeps l.rank l.side l.there) l.late where
    left : IsLeft g.seats l.side.work.entry k → LateSays l.side
    left q =
        let one : (post_of S words k).flag ≡ 1 = flag_at S (post_of S words k) k x q.side x.work.stage (own_by q.side q.seat)
        (λ out. let leaves = q.leaves in absurd (cc)) in
        let c : IsCounted (post_of S words k) (opened_of x.work) q.side =
        counted_as S (post_of S words k) k (opened_of x.work) q.side q.leaves
        (posted_at S (post_of S words k) k x q.side x.work.stage (own_by q.side q.seat) one) in
        let same : c.entry ∷ [] ≡ l.side.work.entry ∷ [] = sym c.entries ∙ q.entries in
        (one, one_of q.side c.entry q.seat c.has ∙ same)

    ends : (posted : Call) (number : ℕ) → IsToEnd S words g.seats posted number l.side.work.entry k → LateSays l.side
    ends posted number q =
        let calls : q.side.work.calls ≡ x.work.call ∷ [] = (handed_at S (post_of S words k) k x q.side x.work.stage (own_by q.side q.seat) q.writes).0 in
        let over : true ≡ false =
        ap (λ (t : WorkTurned). t.over) (sym q.ends) ∙ loads_more S.site.geom S.site.shard k (slice_index words q.loads) q.loads q.side.work
        q.side.work.stage q.atom (ap asks_update calls ∙ l.update) in
        absurd (cc)

    by_end : (owner : ℕ) → IsLeft g.seats l.side.work.entry owner ⊎
        IsToEnd S words g.seats l.side.work.posted l.side.work.posted_number l.side.work.entry owner → owner ≡ k → LateSays l.side
    by_end owner end same =
        ⊎_elim
        (λ (q : IsLeft g.seats l.side.work.entry owner). left (subst (IsLeft g.seats l.side.work.entry) same q))
        (λ (q : IsToEnd S words g.seats l.side.work.posted l.side.work.posted_number l.side.work.entry owner). ends l.side.work.posted
        l.side.work.posted_number (subst (IsToEnd S words g.seats l.side.work.posted l.side.work.posted_number l.side.work.entry) same
        q))
        end

    by_stage : (st : CombineStage) → SweepAt S words g.seats l.rank l.side.work st → IsLateAt st k → LateSays l.side
    by_stage Rest s e = absurd e
    by_stage (Post made) s e = absurd e
    by_stage Raise s e = absurd e
    by_stage Look s e = absurd e
    by_stage Count s e = absurd e
    by_stage (Sweep owner) s e = absurd e
    by_stage (Copy owner made) s e = absurd e
    by_stage (Read owner word) s e = absurd e
    by_stage (Journal owner made) s e = absurd e
    by_stage (Volume owner made) s e = absurd e
    by_stage (Answer owner made) s e = by_end owner s.2.end e
    by_stage (Mark owner) s e = by_end owner s.1.end e
    by_stage (Collect made) s e = absurd e
    by_stage Lower s e = absurd e
