-- A caller begins, opens its next block, and steps; and at the end its calls are all done.
use Rattle.std.specs.Prelude.{◌≡◌, ℕ, zero, suc, ◌+◌, ◌<◌, ◌≤◌, ◌^◌, true, false, List, [], ◌∷◌, count_by, drop, length, map, slice_get, slice_index, slice_set, Some, refl}
use Rattle.std.proofs.Common.{sym, ◌∙◌, ap, subst, ⊎_elim, arith}
use Rattle.std.proofs.lemmas.List.{length-drop}
use Rattle.std.proofs.lemmas.Option.{same_Some, slice_get_within}
use Rattle.rl_word.specs.laws.Places.{get_set_cases, some_at}
use Rattle.rl_model.specs.declared.call.Call.{Call}
use Rattle.rl_model.specs.declared.geom.Geom.{Geom}
use Rattle.rl_journal.specs.Ranks.{IsRankInOrder}
use Rattle.rl_site.specs.Opens.{IsOpen}
use Rattle.rl_core.specs.Asks.{is_on, place_after, asked_of, block_from, block_shard}
use Rattle.rl_core.specs.laws.AskLaws.{NextBlock, next_of_blocks, size_is, block_is, inside, block_at, stands_at, is_begun}
use Rattle.rl_core.specs.Desks.{Desk, IsDesk, OpensBlock, Turns, desk_entries}
use Rattle.rl_core.specs.RankGood.{RankGood, entries_in}
use Rattle.rl_core.specs.laws.RankLaws.{rank_begins, closed_all, all_done, block_fits, rank_opens, rank_turns}
use Rattle.rl_run.specs.laws.RowLaws.{row_after}
use Rattle.rl_run.specs.Calling.{SeatsSay, RankAsks, CallerAt, desks_of, AllClosedAt, IsMine, IsCallerAt, IsReadyAt}

-- what has to hold of seats: their desks are desks, and no block is open there exactly where they are closed
pub record SeatsHold {W T : Type 0} (Q : SeatsSay W T) : Type 0 where
  pub fine : (w : W) (t : T) → Q.Is w t → IsDesk (Q.desk w t)
  pub shut : (w : W) (t : T) → Q.Is w t → Q.Closed w t → (Q.desk w t).is_open ≡ false
  pub closed_by : (w : W) (t : T) → Q.Is w t → (Q.desk w t).is_open ≡ false → Q.Closed w t

module _ {W T : Type 0} (Q : SeatsSay W T) (hold : SeatsHold Q) where
  -- ---- desks of seats

  abbrev desks : List W → List T → List Desk
  desks ws ts = desks_of Q ws ts

  desk_there : (ws : List W) (ts : List T) (s : ℕ) (w : W) (t : T) → slice_get ws s ≡ Some w → slice_get ts s ≡ Some t → slice_get (desks ws ts) s ≡ Some (Q.desk w t)
  desk_there [] ts s w t gw gt = absurd (cc)
  desk_there (v ∷ ws) [] s w t gw gt = absurd (cc)
  desk_there (v ∷ ws) (u ∷ ts) zero w t gw gt = ap (λ z. Some (Q.desk z u)) (same_Some _ _ gw) ∙ ap (λ z. Some (Q.desk w z)) (same_Some _ _ gt)
  desk_there (v ∷ ws) (u ∷ ts) (suc s) w t gw gt = desk_there ws ts s w t gw gt

  -- whose desk it is
  record Whose (ws : List W) (ts : List T) (s : ℕ) (d : Desk) : Type 0 where
    w : W
    t : T
    has_w : slice_get ws s ≡ Some w
    has_t : slice_get ts s ≡ Some t
    is : Q.desk w t ≡ d

  whose : (ws : List W) (ts : List T) (s : ℕ) (d : Desk) → slice_get (desks ws ts) s ≡ Some d → Whose ws ts s d
  whose [] ts s d e = absurd (cc)
  whose (v ∷ ws) [] s d e = absurd (cc)
  whose (v ∷ ws) (u ∷ ts) zero d e = record { w = v; t = u; has_w = refl; has_t = refl; is = same_Some _ _ e }
  whose (v ∷ ws) (u ∷ ts) (suc s) d e = let q = whose ws ts s d e in record { w = q.w; t = q.t; has_w = q.has_w; has_t = q.has_t; is = q.is }

  desks_set : (ws : List W) (ts : List T) (s : ℕ) (w : W) (u : T) → slice_get ws s ≡ Some w → slice_set (desks ws ts) s (Q.desk w u) ≡ desks ws (slice_set ts s u)
  desks_set [] ts s w u gw = absurd (cc)
  desks_set (v ∷ ws) [] s w u gw = refl
  desks_set (v ∷ ws) (t ∷ ts) zero w u gw = ap (λ z. Q.desk z u ∷ desks ws ts) (sym (same_Some _ _ gw))
  desks_set (v ∷ ws) (t ∷ ts) (suc s) w u gw = ap (λ z. Q.desk v t ∷ z) (desks_set ws ts s w u gw)

  -- a caller is made: no call was opened
  pub caller_begins : (ws : List W) (a : RankAsks) (seats : List T) → IsReadyAt Q ws a seats → IsCallerAt Q ws (record { asks = a; opened = 0; at = 0; seats = seats })
  caller_begins ws a seats r = record {
    about = r.about;
    row = r.row;
    at_is = refl;
    stands = let f = r.about.fits.some_shards in let l = r.about.all in omega arith;
    good = rank_begins a.geom a.calls a.sizes a.rank (desks ws seats) r.blocks
        (λ s d e.
        let q = whose ws seats s d e in
        let is = (r.row.each s q.w q.t q.has_w q.has_t).1 in
        let f = r.fresh s q.w q.t q.has_w q.has_t in
        record {
          shut = ap (λ (z : Desk). z.is_open) (sym q.is) ∙ hold.shut q.w q.t is f.closed;
          owing = subst (λ (z : Desk). z.owes ≡ true → z.is_open ≡ true) q.is (hold.fine q.w q.t is).owing;
          nothing = ap desk_entries (sym q.is) ∙ f.nothing;
          room = subst (λ (z : Desk). count_by (is_on a.geom s) a.calls ≤ z.kept.room) q.is f.room;
        });
  }

  module _ (ws : List W) (x : CallerAt T) (c : IsCallerAt Q ws x) where
    abbrev geom : Geom
    geom = x.asks.geom

    abbrev rank : ℕ
    rank = x.asks.rank

    abbrev calls : List Call
    calls = x.asks.calls

    abbrev sizes : List ℕ
    sizes = x.asks.sizes

    abbrev n : ℕ
    n = x.opened

    abbrev at : ℕ
    at = x.at

    abbrev seats : List T
    seats = x.seats

    pub at_there : at < length ws
    at_there = c.stands

    pub at_seat : at < length seats
    at_seat = let l = c.row.long in let h = at_there in omega arith

    -- the desk where the last block was opened is shut where its seat is closed
    shut_at : ((w : W) (t : T) → slice_get ws at ≡ Some w → slice_get seats at ≡ Some t → Q.Closed w t) →
        (d : Desk) → slice_get (desks ws seats) (place_after geom calls n) ≡ Some d → d.is_open ≡ false
    shut_at closed d e =
        let q = whose ws seats at d (ap (slice_get (desks ws seats)) c.at_is ∙ e) in
        ap (λ (z : Desk). z.is_open) (sym q.is) ∙ hold.shut q.w q.t (c.row.each at q.w q.t q.has_w q.has_t).1 (closed q.w q.t q.has_w q.has_t)

    shut_here : AllClosedAt Q ws seats → (d : Desk) → slice_get (desks ws seats) (place_after geom calls n) ≡ Some d → d.is_open ≡ false
    shut_here closed = shut_at (closed at)

    -- a block is open at most where the last one was opened
    pub all_closed : (w : W) (t : T) → slice_get ws at ≡ Some w → slice_get seats at ≡ Some t → Q.Closed w t → AllClosedAt Q ws seats
    all_closed w t gw gt closed s v u gv gu =
        hold.closed_by v u (c.row.each s v u gv gu).1
        (closed_all geom calls sizes rank n (desks ws seats) c.good
        (shut_at (λ x y gx gy. subst (λ z. Q.Closed z y) (same_Some _ _ (sym gw ∙ gx)) (subst (Q.Closed w) (same_Some _ _ (sym gt ∙ gy)) closed)))
        s (Q.desk v u) (desk_there ws seats s v u gv gu))

    -- a step at the shard where the last block was opened
    pub caller_steps : (w : W) (t u : T) → slice_get ws at ≡ Some w → slice_get seats at ≡ Some t → Q.Is w u → Q.rank_of u ≡ Q.rank_of t →
        Turns (Q.site w).shard (Q.rank_of t) (Q.desk w t) (Q.desk w u) → IsCallerAt Q ws (record x { seats = slice_set seats at u })
    caller_steps w t u gw gt is same turns =
        let M = c.row.each at w t gw gt in
        record {
          about = c.about;
          row = row_after (IsMine Q) ws rank seats at w u c.row gw (same ∙ M.0, is);
          at_is = c.at_is;
          stands = c.stands;
          good = subst (λ z. RankGood geom calls sizes n z rank) (desks_set ws seats at w u gw)
              (rank_turns geom calls sizes rank n (desks ws seats) at (Q.desk w t) (Q.desk w u) c.good (desk_there ws seats at w t gw gt)
              (subst (λ z. Turns z rank (Q.desk w t) (Q.desk w u)) (c.about.sites at w gw).shard_is (subst (λ z. Turns (Q.site w).shard z (Q.desk w t) (Q.desk w u)) M.0 turns))
              (hold.fine w u is) (let f = c.about.few in omega arith));
        }

    -- no block is open: all calls that were opened are done
    done_all : AllClosedAt Q ws seats → c.good.done ≡ n
    done_all closed =
        let w = some_at ws at at_there in
        let t = some_at seats at at_seat in
        all_done geom calls sizes rank n (desks ws seats) c.good (shut_here closed) (Q.desk w.0 t.0) (ap (slice_get (desks ws seats)) (sym c.at_is) ∙ desk_there ws seats at w.0 t.0 w.1 t.1)

    -- all calls were opened, and no block is open: the rank is in order with all its calls
    pub caller_ends : AllClosedAt Q ws seats → n ≡ length calls → IsRankInOrder geom rank (asked_of calls sizes) (length calls) (map desk_entries (desks ws seats))
    caller_ends closed e = subst (λ k. IsRankInOrder geom rank (asked_of calls sizes) k (map desk_entries (desks ws seats))) (done_all closed ∙ e) c.good.order

    pub caller_told : AllClosedAt Q ws seats → n ≡ length calls → entries_in (map desk_entries (desks ws seats)) ≡ length calls
    caller_told closed e = c.good.total ∙ done_all closed ∙ e

    -- a step that found no block open leaves the seats as they are
    pub still_closed : (t u : T) → slice_get seats at ≡ Some t → u ≡ t → AllClosedAt Q ws seats → AllClosedAt Q ws (slice_set seats at u)
    still_closed t u gt same closed s w x gw gx =
        ⊎_elim (λ q. closed s w x gw (ap (slice_get seats) q.0 ∙ gt ∙ ap (λ z. Some z) (sym same ∙ sym q.1))) (λ q. closed s w x gw q.1) (get_set_cases seats at s u x gx)

    -- ---- the next block

    module _ (closed : AllClosedAt Q ws seats) (left : n < length calls) where
      b : NextBlock geom (drop n calls) (drop n sizes)
      b = next_of_blocks geom (drop n calls) (drop n sizes) c.good.rest (omega (arith, length-drop n calls))

      -- its size, and where it stands, as the code looks them up
      pub record IsNextThere : Type 0 where
        pub sized : n < length sizes
        pub some : 0 < slice_index sizes n
        pub within : n + slice_index sizes n ≤ length calls
        pub fits : n + slice_index sizes n < 2 ^ 32
        pub long : length (block_from calls sizes n) ≡ slice_index sizes n
        pub there : block_shard geom (block_from calls sizes n) < length ws

      pub next_there : IsNextThere
      next_there =
          let size = size_is geom calls sizes n b in
          let is = block_is geom calls sizes n b in
          let some : 1 ≤ length b.block = b.is_block.is_asked.some in
          let in_all = inside geom calls sizes n b in
          record {
            sized = is_begun sizes n (omega arith);
            some = omega arith;
            within = omega arith;
            fits = let f = c.about.few in omega arith;
            long = ap length is ∙ sym size;
            there = let at = ap (block_shard geom) is ∙ block_at geom calls sizes n b in let t = b.is_block.there in let a = c.about.all in omega arith;
          }

      -- it may be opened there; and once it is, the caller is in it
      pub record CanOpen (block : List Call) (place : ℕ) (w : W) (t : T) : Type 0 where
        pub fits : IsOpen (Q.site w) (Q.rank_of t) block n (Q.desk w t).kept
        pub takes : Q.batches w ≡ false → length block ≡ 1
        pub opens : (u : T) → Q.Is w u → Q.rank_of u ≡ Q.rank_of t → OpensBlock block n (Q.desk w t) (Q.desk w u) →
            IsCallerAt Q ws (record x { opened = n + length block; at = place; seats = slice_set seats place u }) × (Q.Closed w u → ⊥)

      can_open_there : (w : W) (t : T) → slice_get ws b.is_block.shard ≡ Some w → slice_get seats b.is_block.shard ≡ Some t → CanOpen b.block b.is_block.shard w t
      can_open_there w t gw gt =
          let s : ℕ = b.is_block.shard in
          let M = c.row.each s w t gw gt in
          let about = c.about.sites s w gw in
          let here : slice_get (desks ws seats) s ≡ Some (Q.desk w t) = desk_there ws seats s w t gw gt in
          record {
            fits = subst (λ r. IsOpen (Q.site w) r b.block n (Q.desk w t).kept) (sym M.0)
                (block_fits geom calls sizes rank n (desks ws seats) c.good b (done_all closed) (shut_here closed) (Q.site w) (Q.desk w t) here about.geom_is about.shard_is about.places
                (let f = c.about.few in omega arith));
            takes = λ e. let one = c.about.takes s w gw e n in let size = size_is geom calls sizes n b in let some : 1 ≤ length b.block = b.is_block.is_asked.some in omega arith;
            opens = λ u is same made. (
              record {
                about = c.about;
                row = row_after (IsMine Q) ws rank seats s w u c.row gw (same ∙ M.0, is);
                at_is = sym (stands_at geom calls sizes n b);
                stands = slice_get_within ws s w gw;
                good = subst (λ z. RankGood geom calls sizes (n + length b.block) z rank) (desks_set ws seats s w u gw)
                    (rank_opens geom calls sizes rank n (desks ws seats) c.good b (done_all closed) (shut_here closed) (Q.desk w t) (Q.desk w u) here made);
              },
              λ none. let bad : true ≡ false = sym made.is_open ∙ hold.shut w u is none in cc,
            );
          }

      pub can_open : (block : List Call) (place : ℕ) (w : W) (t : T) → block ≡ block_from calls sizes n → place ≡ block_shard geom block →
          slice_get ws place ≡ Some w → slice_get seats place ≡ Some t → CanOpen block place w t
      can_open block place w t e1 e2 gw gt =
          let same : block ≡ b.block = e1 ∙ block_is geom calls sizes n b in
          let at : place ≡ b.is_block.shard = e2 ∙ ap (block_shard geom) same ∙ block_at geom calls sizes n b in
          subst (λ z. CanOpen z place w t) (sym same) (subst (λ p. CanOpen b.block p w t) (sym at) (can_open_there w t (ap (slice_get ws) (sym at) ∙ gw) (ap (slice_get seats) (sym at) ∙ gt)))
