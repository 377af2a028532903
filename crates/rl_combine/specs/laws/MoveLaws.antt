-- How the rule is kept where one rank moves: alone, or with the seat of the rank whose call it has in hand.
use Rattle.std.specs.Prelude.{◌≡◌, ◌≢◌, ◌↔◌, ◌⊎◌, ℕ, ◌<◌, List, [], ◌∷◌, slice_get, slice_set, Some}
use Rattle.std.proofs.Common.{sym, ◌∙◌, ap, subst, inl, inr, ⊎_elim, arith, length-set}
use Rattle.std.proofs.lemmas.Option.{slice_get_within}
use Rattle.rl_word.specs.laws.Places.{same_or_not, one_at, some_at, get_set_same, get_set_other, get_set_cases, each_set}
use Rattle.rl_step.specs.declared.events.Standing.{Standing}
use Rattle.rl_step.specs.declared.events.Standing.TheVariants.{Out, Writer, Reader}
use Rattle.rl_step.specs.Lock.{IsHolder}
use Rattle.rl_model.specs.declared.entry.Entry.{Entry}
use Rattle.rl_volume.specs.Words.{volume_words}
use Rattle.rl_work.specs.Work.{more_entries}
use Rattle.rl_work.specs.Ways.{IsApart, IsLaid}
use Rattle.rl_work.specs.WorkGood.{WorkSide as Seat, WorkGood, IsApart as AreApart}
use Rattle.rl_combine.specs.declared.stage.CombineStage.{CombineStage}
use Rattle.rl_combine.specs.declared.stage.CombineStage.TheVariants.{Rest, Post, Raise, Look, Count, Sweep, Copy, Read, Journal, Volume, Answer, Mark, Collect, Lower}
use Rattle.rl_combine.specs.Posts.{ThePost, combine_ranks, post_of}
use Rattle.rl_site.specs.Site.{WaySite}
use Rattle.rl_combine.specs.Combine.{TheCombineSide, opened_of, in_hand, combine_table}
use Rattle.rl_combine.specs.CombineGood.{RankSide, front_of, IsCombiner, IsPosted, OwnAt, SweepAt, IsHeld, CombineGood}
use Rattle.rl_combine.specs.laws.SideLaws.{posted_at, posted_on, hand_writes, sweep_any}

-- a rank at such a stage goes on with its sweep, or is about to begin it
abbrev pub Combines : CombineStage → Type 0
Combines Rest = ⊥
Combines (Post made) = ⊥
Combines Raise = ⊥
Combines Look = ⊥
Combines Count = Unit {0}
Combines (Sweep owner) = Unit {0}
Combines (Copy owner made) = Unit {0}
Combines (Read owner word) = Unit {0}
Combines (Journal owner made) = Unit {0}
Combines (Volume owner made) = Unit {0}
Combines (Answer owner made) = Unit {0}
Combines (Mark owner) = Unit {0}
Combines (Collect made) = ⊥
Combines Lower = ⊥

-- the call of a seat in hand is done: its entry joins those of the seat
pub record Grows (S : WaySite) (k : ℕ) (y u : Seat) : Type 0 where
  pub writes : y.standing ≡ Writer
  pub entry : Entry
  pub has : u.work.transcript ≡ more_entries y.work.transcript (entry ∷ [])
  pub calls : y.work.calls ≡ entry.call ∷ []
  pub seq : y.work.seq ≡ entry.seq
  pub shard_is : entry.shard ≡ S.site.shard
  pub rank_is : entry.rank ≡ k
  pub batch_is : entry.batch ≡ 0
  pub part_is : entry.part ≡ 0

-- the entries of a seat stay, or its call in hand is done
abbrev pub SeatGoesOn : WaySite → ℕ → Seat → Seat → Type 0
SeatGoesOn S k y u = (u.work.transcript ≡ y.work.transcript) ⊎ Grows S k y u

-- the rule is kept, and the seats go on
pub record Keeps (S : WaySite) (words : List ℕ) (sides : List RankSide) (g : CombineGood S words sides) (vs : List ℕ) (others : List RankSide) : Type 0 where
  pub good : CombineGood S vs others
  pub seats : (k : ℕ) (y u : Seat) → slice_get g.seats k ≡ Some y → slice_get good.seats k ≡ Some u → SeatGoesOn S k y u

module _ (S : WaySite) (p : ThePost) (k : ℕ) (z : RankSide) (y : Seat) where
  own_as : (st : CombineStage) → Combines st → OwnAt S p k z y st ↔ IsCombiner S p k z y
  own_as Rest c = absurd c
  own_as (Post made) c = absurd c
  own_as Raise c = absurd c
  own_as Look c = absurd c
  own_as Count c = (λ o. o, λ o. o)
  own_as (Sweep owner) c = (λ o. o, λ o. o)
  own_as (Copy owner made) c = (λ o. o, λ o. o)
  own_as (Read owner word) c = (λ o. o, λ o. o)
  own_as (Journal owner made) c = (λ o. o, λ o. o)
  own_as (Volume owner made) c = (λ o. o, λ o. o)
  own_as (Answer owner made) c = (λ o. o, λ o. o)
  own_as (Mark owner) c = (λ o. o, λ o. o)
  own_as (Collect made) c = absurd c
  own_as Lower c = absurd c

  pub combiner_of : (st : CombineStage) → Combines st → OwnAt S p k z y st → IsCombiner S p k z y
  combiner_of st c o = (own_as st c).0 o

module _ (S : WaySite) (node : ℕ → ℕ) (words : List ℕ) (laid : IsLaid (combine_table S node) words) (sides : List RankSide)
    (g : CombineGood S words sides) where
  -- each rank has a seat
  pub seat_of : (k : ℕ) (z : RankSide) → slice_get sides k ≡ Some z → (y : Seat) × (slice_get g.seats k ≡ Some y)
  seat_of k z there = some_at g.seats k (let h = slice_get_within sides k z there in let e = g.work.ranks in let f = g.ranks in omega arith)

  pub side_of : (k : ℕ) (y : Seat) → slice_get g.seats k ≡ Some y → (z : RankSide) × (slice_get sides k ≡ Some z)
  side_of k y there = some_at sides k (let h = slice_get_within g.seats k y there in let e = g.work.ranks in let f = g.ranks in omega arith)

  pub is_rank : (k : ℕ) (z : RankSide) → slice_get sides k ≡ Some z → k < combine_ranks S
  is_rank k z there = let h = slice_get_within sides k z there in let f = g.ranks in omega arith

  -- who has a call in hand is a writer, and so it is one rank at most
  holder_writes : (k : ℕ) (h : IsHeld sides k) → h.side.standing ≡ Writer
  holder_writes k h =
      let u = seat_of h.holder h.side h.there in
      hand_writes S (post_of S words h.holder) h.holder h.side u.0 h.side.work.stage (g.own h.holder h.side u.0 h.there u.1) k h.holds

  module _ (r : ℕ) (x : RankSide) (has : slice_get sides r ≡ Some x) where
    -- this rank alone moves
    pub own_moves : (vs : List ℕ) (w : RankSide) → front_of S vs ≡ front_of S words →
        ((k : ℕ) → k ≢ r → post_of S vs k ≡ post_of S words k) → w.work.seen.room ≡ x.work.seen.room →
        ((y : Seat) → slice_get g.seats r ≡ Some y → OwnAt S (post_of S vs r) r w y w.work.stage) →
        SweepAt S vs g.seats r w.work w.work.stage →
        ((q : ℕ) (z : RankSide) → q ≢ r → slice_get sides q ≡ Some z → SweepAt S vs g.seats q z.work z.work.stage) →
        ((k : ℕ) → in_hand x.work.stage ≡ Some k → in_hand w.work.stage ≡ Some k) →
        Keeps S words sides g vs (slice_set sides r w)
    own_moves vs w front posts room own sweep others hand =
        record { good = good; seats = λ k y u a b. inl (ap (λ (v : Seat). v.work.transcript) (one_at g.seats k u y b a)) }
      where
        still : (k : ℕ) → IsHeld sides k → IsHeld (slice_set sides r w) k
        still k h =
            ⊎_elim
            (λ (e : h.holder ≡ r).
            let side : h.side ≡ x = one_at sides r h.side x (subst (λ z. slice_get sides z ≡ Some h.side) e h.there) has in
            record {
              holder = r;
              side = w;
              there = get_set_same sides r x w has;
              holds =
                  hand k (subst (λ (z : RankSide). in_hand z.work.stage ≡ Some k) side h.holds);
            })
            (λ (ne : h.holder ≢ r). record { holder = h.holder; side = h.side; there = get_set_other sides r h.holder w ne ∙ h.there; holds = h.holds })
            (same_or_not h.holder r)

        good : CombineGood S vs (slice_set sides r w)
        good = record {
          seats = g.seats;
          ranks = length-set sides r w ∙ g.ranks;
          work = subst (λ z. WorkGood S.site z g.seats) (sym front) g.work;
          seen_rooms = each_set (λ k z. z.work.seen.room ≡ volume_words S.site.geom) sides r w (room ∙ g.seen_rooms r x has) (λ k z ne at. g.seen_rooms k z at);
          own = λ k z y at there. each_set (λ k z. (y : Seat) → slice_get g.seats k ≡ Some y → OwnAt S (post_of S vs k) k z y z.work.stage) sides r w own
              (λ k z ne at y there. subst (λ p. OwnAt S p k z y z.work.stage) (sym (posts k ne)) (g.own k z y at there)) k z at y there;
          sweeps = each_set (λ k z. SweepAt S vs g.seats k z.work z.work.stage) sides r w sweep others;
          held = λ k y there. ⊎_elim (λ out. inl out) (λ h. inr (still k h)) (g.held k y there);
        }

  module _ (apart : IsApart (combine_table S node) sides) (r : ℕ) (x : RankSide) (has : slice_get sides r ≡ Some x) where
    holds_as : (z : RankSide) → z.standing ≡ Writer → IsHolder z.standing
    holds_as z e = subst IsHolder (sym e) tt

    pub only_writer : x.standing ≡ Writer → (q : ℕ) (z : RankSide) → slice_get sides q ≡ Some z → q ≢ r → z.standing ≡ Writer → ⊥
    only_writer writes q z there ne e = ne (apart.excludes q r z x there has e (holds_as x writes))

    -- the calls that are in hand are this writer's
    pub held_by : x.standing ≡ Writer → (k : ℕ) → IsHeld sides k → in_hand x.work.stage ≡ Some k
    held_by writes k h =
        let same : h.holder ≡ r = apart.excludes h.holder r h.side x h.there has (holder_writes k h) (holds_as x writes) in
        let side : h.side ≡ x = one_at sides r h.side x (subst (λ z. slice_get sides z ≡ Some h.side) same h.there) has in
        subst (λ (z : RankSide). in_hand z.work.stage ≡ Some k) side h.holds

    -- all seats but that of the call in hand are out
    others_out : x.standing ≡ Writer → (j : ℕ) → ((k : ℕ) → in_hand x.work.stage ≡ Some k → k ≡ j) → (k : ℕ) (y : Seat) →
        slice_get g.seats k ≡ Some y → k ≢ j → y.standing ≡ Out
    others_out writes j hand k y there ne = ⊎_elim (λ e. e) (λ h. absurd (ne (hand k (held_by writes k h)))) (g.held k y there)

    -- so nobody is beside it among the seats
    pub seats_apart : x.standing ≡ Writer → (j : ℕ) → ((k : ℕ) → in_hand x.work.stage ≡ Some k → k ≡ j) → (y : Seat) →
        (y.standing ≡ Reader → ⊥) → AreApart (slice_set g.seats j y)
    seats_apart writes j hand y unread =
        record {
          excludes = λ a b u v at bt w h. is_j a u at (subst IsHolder (sym w) tt) ∙ sym (is_j b v bt h);
          reads = λ a u at reader. ⊎_elim
              (λ q. absurd (unread (sym (ap (λ (z : Seat). z.standing) q.1) ∙ reader)))
              (λ q. let out = others_out writes j hand a u q.1 q.0 in absurd (cc))
              (get_set_cases g.seats j a y u at);
        }
      where
        out_not : (st : Standing) → st ≡ Out → IsHolder st → ⊥
        out_not st e h = subst IsHolder e h

        is_j : (a : ℕ) (u : Seat) → slice_get (slice_set g.seats j y) a ≡ Some u → IsHolder u.standing → a ≡ j
        is_j a u at h = ⊎_elim (λ q. q.0) (λ q. absurd (out_not u.standing (others_out writes j hand a u q.1 q.0) h)) (get_set_cases g.seats j a y u at)

    -- a writer moves, and with it one seat
    pub writer_moves : x.standing ≡ Writer → (vs : List ℕ) (w : RankSide) (j : ℕ) (y u : Seat) → slice_get g.seats j ≡ Some y →
        WorkGood S.site (front_of S vs) (slice_set g.seats j u) →
        ((k : ℕ) → k ≢ j → post_of S vs k ≡ post_of S words k) → w.work.seen.room ≡ x.work.seen.room →
        ((v : Seat) → slice_get (slice_set g.seats j u) r ≡ Some v → OwnAt S (post_of S vs r) r w v w.work.stage) →
        (j ≢ r → (z : RankSide) → slice_get sides j ≡ Some z → OwnAt S (post_of S vs j) j z u z.work.stage) →
        SweepAt S vs (slice_set g.seats j u) r w.work w.work.stage →
        ((k : ℕ) → in_hand x.work.stage ≡ Some k → k ≡ j) →
        (u.standing ≡ Out) ⊎ (in_hand w.work.stage ≡ Some j) → SeatGoesOn S j y u →
        Keeps S words sides g vs (slice_set sides r w)
    writer_moves writes vs w j y u seat work posts room own_r own_j sweep hand end grows =
        record {
          good = good;
          seats = λ k a b at bt. each_set (λ k b. (a : Seat) → slice_get g.seats k ≡ Some a → SeatGoesOn S k a b) g.seats j u
              (λ a at. subst (λ z. SeatGoesOn S j z u) (sym (one_at g.seats j a y at seat)) grows)
              (λ k b ne bt a at. inl (ap (λ (v : Seat). v.work.transcript) (one_at g.seats k b a bt at))) k b bt a at;
        }
      where
        other : (k : ℕ) (z : RankSide) → k ≢ r → slice_get sides k ≡ Some z → (v : Seat) → slice_get (slice_set g.seats j u) k ≡ Some v →
            OwnAt S (post_of S vs k) k z v z.work.stage
        other k z ne there v at =
            each_set (λ k v. k ≢ r → slice_get sides k ≡ Some z → OwnAt S (post_of S vs k) k z v z.work.stage) g.seats j u (λ ne there. own_j ne z there)
            (λ k v apart at ne there. subst (λ p. OwnAt S p k z v z.work.stage) (sym (posts k apart)) (g.own k z v there at)) k v at ne there

        good : CombineGood S vs (slice_set sides r w)
        good = record {
          seats = slice_set g.seats j u;
          ranks = length-set sides r w ∙ g.ranks;
          work = work;
          seen_rooms = each_set (λ k z. z.work.seen.room ≡ volume_words S.site.geom) sides r w (room ∙ g.seen_rooms r x has) (λ k z ne at. g.seen_rooms k z at);
          own = λ k z v at there. each_set (λ k z. (v : Seat) → slice_get (slice_set g.seats j u) k ≡ Some v → OwnAt S (post_of S vs k) k z v z.work.stage) sides r w own_r other
              k z at v there;
          sweeps = each_set (λ k z. SweepAt S vs (slice_set g.seats j u) k z.work z.work.stage) sides r w sweep
              (λ k z ne at. let s = seat_of k z at in sweep_any S (post_of S words k) k z s.0 z.work.stage (g.own k z s.0 at s.1)
              (only_writer writes k z at ne) vs (slice_set g.seats j u));
          held = each_set (λ k v. (v.standing ≡ Out) ⊎ IsHeld (slice_set sides r w) k) g.seats j u
              (⊎_elim (λ out. inl out) (λ at. inr (record { holder = r; side = w; there = get_set_same sides r x w has; holds = at })) end)
              (λ k v ne at. inl (others_out writes j hand k v at ne));
        }

    -- a writer goes on with its sweep, and with it the post and seat of one rank
    pub combiner_moves : (vs : List ℕ) (w : TheCombineSide) (j : ℕ) (y u : Seat) → slice_get g.seats j ≡ Some y →
        WorkGood S.site (front_of S vs) (slice_set g.seats j u) →
        ((k : ℕ) → k ≢ j → post_of S vs k ≡ post_of S words k) → w.seen.room ≡ x.work.seen.room → opened_of w ≡ opened_of x.work → Combines
        x.work.stage → Combines w.stage →
        (post_of S words j).flag ≡ 1 →
        ((z : RankSide) → slice_get sides j ≡ Some z → IsPosted S (post_of S words j) j (opened_of z.work) y → IsPosted S (post_of S vs j) j
        (opened_of z.work) u) →
        SweepAt S vs (slice_set g.seats j u) r w w.stage →
        ((k : ℕ) → in_hand x.work.stage ≡ Some k → k ≡ j) →
        (u.standing ≡ Out) ⊎ (in_hand w.stage ≡ Some j) → SeatGoesOn S j y u →
        Keeps S words sides g vs (slice_set sides r (record { standing = x.standing; work = w }))
    combiner_moves vs w j y u seat work posts room same from to flag turn sweep hand end grows =
        let s = seat_of r x has in
        let c : IsCombiner S (post_of S words r) r x s.0 = combiner_of S (post_of S words r) r x s.0 x.work.stage from (g.own r x s.0 has s.1) in
        writer_moves c.0 vs (record { standing = x.standing; work = w }) j y u seat work posts room
        (λ v there. (own_as S (post_of S vs r) r (record { standing = x.standing; work = w }) v w.stage to).1 (
          c.0,
          subst (λ o. IsPosted S (post_of S vs r) r o v) (sym same) (⊎_elim
              (λ (q : (r ≡ j) × (v ≡ u)).
              let y_is : s.0 ≡ y = one_at g.seats j s.0 y (subst (λ n. slice_get g.seats n ≡ Some s.0) q.0 s.1) seat in
              let before : IsPosted S (post_of S words j) j (opened_of x.work) y =
              subst (λ n. IsPosted S (post_of S words n) n (opened_of x.work) y) q.0 (subst (IsPosted S (post_of S words r) r (opened_of x.work)) y_is c.1) in
              subst (λ n. IsPosted S (post_of S vs n) n (opened_of x.work) v) (sym q.0) (subst (IsPosted S (post_of S vs j) j (opened_of x.work)) (sym q.1)
              (turn x (subst (λ n. slice_get sides n ≡ Some x) q.0 has) before)))
              (λ (q : (r ≢ j) × (slice_get g.seats r ≡ Some v)).
              let v_is : s.0 ≡ v = one_at g.seats r s.0 v s.1 q.1 in
              subst (λ p. IsPosted S p r (opened_of x.work) v) (sym (posts r q.0)) (subst (IsPosted S (post_of S words r) r (opened_of x.work)) v_is c.1))
              (get_set_cases g.seats j r u v there)),
        ))
        (λ ne z there.
        let o : OwnAt S (post_of S words j) j z y z.work.stage = g.own j z y there seat in
        posted_on S (post_of S words j) j z y z.work.stage o flag (post_of S vs j) u (turn z there (posted_at S (post_of S words j) j z y z.work.stage o flag)))
        sweep hand end grows
