-- What is true of each rank stays so: where it begins, where it opens a block, and where one of its desks turns.
use Rattle.std.specs.Prelude.{◌≡◌, ◌≢◌, ℕ, zero, suc, ◌+◌, ◌≤◌, ◌<◌, ◌^◌, Bool, true, false, cond, List, [], ◌∷◌, ◌++◌, All, count_by, filter, take, drop, length, map, slice_get, slice_index, slice_set, Some, refl}
use Rattle.std.proofs.Common.{sym, ◌∙◌, ap, subst, ⊎_elim, arith, length-append}
use Rattle.std.proofs.lemmas.List.{length-map, map-append, append-nil}
use Rattle.std.proofs.lemmas.List.Elements.{All-head, All-nil, All-tail, All-weaker, filter-append}
use Rattle.std.proofs.lemmas.Option.{same_Some}
use Rattle.rl_word.specs.laws.Places.{same_or_not, get_map, get_map_back, map_set, get_set_cases, set_same_get}
use Rattle.rl_model.specs.declared.call.Call.{Call}
use Rattle.rl_model.specs.declared.entry.Entry.{Entry}
use Rattle.rl_model.specs.declared.geom.Geom.{Geom}
use Rattle.rl_model.specs.Call.{shard_of, is_update}
use Rattle.rl_model.specs.Asked.{Asked, batch_number}
use Rattle.rl_model.proofs.Counts.{count-cons}
use Rattle.rl_journal.specs.Blocks.{calls_of}
use Rattle.rl_journal.specs.Legal.{updates}
use Rattle.rl_journal.specs.Ranks.{IsInOrder, IsRankInOrder, IsEntryOf, AreAsked}
use Rattle.rl_journal.specs.laws.RankLaws.{block_more}
use Rattle.rl_site.specs.Site.{Site}
use Rattle.rl_site.specs.Transcript.{TheTranscript}
use Rattle.rl_site.specs.Opens.{IsOpen, Tells}
use Rattle.rl_core.specs.Asks.{is_on, AreBlocks, place_after, asked_of, is_update_on}
use Rattle.rl_core.specs.laws.AskLaws.{NextBlock, take_more, stands_at, calls_there, asks_next, inside, rest_behind, all_on, none_on, room_for, updates_room}
use Rattle.rl_core.specs.Desks.{Desk, IsDesk, OpensBlock, KeepsBlock, EndsBlock, Turns, desk_entries}
use Rattle.rl_core.specs.RankGood.{AsksNext, IsAtWork, IsOn, RankGood, IsFreshDesk, entries_in}

-- where no block is open nothing is owed
not_owed : (owes busy : Bool) → (owes ≡ true → busy ≡ true) → busy ≡ false → owes ≡ false
not_owed false busy f e = refl
not_owed true busy f e = let bad : true ≡ false = sym (f refl) ∙ e in cc

pub shut_owes : (d : Desk) → (d.owes ≡ true → d.is_open ≡ true) → d.is_open ≡ false → d.owes ≡ false
shut_owes d owing shut = not_owed d.owes d.is_open owing shut

-- the entries of a block that ended are the calls that were asked for next
asked_entries : (geom : Geom) (rank : ℕ) (asked : List Asked) (s batch part n : ℕ) (es : List Entry) (block : List Call) →
    calls_of es ≡ block → Tells s rank batch n part es → AsksNext batch part asked n block →
    All (λ call. shard_of geom call ≡ s) block → n + length es ≤ 2 ^ 32 → AreAsked geom rank asked s n es
asked_entries geom rank asked s batch part n [] block same tells next on few = tt
asked_entries geom rank asked s batch part n (e ∷ es) [] same tells next on few = absurd (cc)
asked_entries geom rank asked s batch part n (e ∷ es) (c ∷ cs) same tells next on few =
    let call : e.call ≡ c = head_is e.call (calls_of es) c cs same in
    let rest : calls_of es ≡ cs = tail_is e.call (calls_of es) c cs same in
    let low : n < 2 ^ 32 = omega arith in (
      (
        tells.0.3,
        record { shard_is = tells.0.0; rank_is = tells.0.1; small = subst (λ z. z < 2 ^ 32) (sym tells.0.3) low },
        next.0 ∙ ap (λ z. Some (record { call = z; batch = batch; part = part })) (sym call)
            ∙ ap (λ z. Some (record { call = e.call; batch = z; part = part })) (sym tells.0.2)
            ∙ ap (λ z. Some (record { call = e.call; batch = e.batch; part = z })) (sym tells.0.4),
        ap (shard_of geom) call ∙ All-first s c cs on,
      ),
      asked_entries geom rank asked s batch (part + 1) (n + 1) es cs rest tells.1 next.1 (All-rest s c cs on) (omega arith),
    ) where
      head_is : (a : Call) (as' : List Call) (c : Call) (cs : List Call) → a ∷ as' ≡ c ∷ cs → a ≡ c
      head_is a as' c cs e = cc

      tail_is : (a : Call) (as' : List Call) (c : Call) (cs : List Call) → a ∷ as' ≡ c ∷ cs → as' ≡ cs
      tail_is a as' c cs e = cc

      All-first : (s : ℕ) (c : Call) (cs : List Call) → All (λ call. shard_of geom call ≡ s) (c ∷ cs) → shard_of geom c ≡ s
      All-first s c cs all = All-head (λ call. shard_of geom call ≡ s) c cs all

      All-rest : (s : ℕ) (c : Call) (cs : List Call) → All (λ call. shard_of geom call ≡ s) (c ∷ cs) → All (λ call. shard_of geom call ≡ s) cs
      All-rest s c cs all = All-tail (λ call. shard_of geom call ≡ s) c cs all

-- the updates of a transcript are those of its calls
updates_of : (es : List Entry) → count_by updates es ≡ count_by is_update (calls_of es)
updates_of [] = refl
updates_of (e ∷ es) = count-cons updates e es ∙ ap (λ n. cond (is_update e.call) 1 0 + n) (updates_of es) ∙ sym (count-cons is_update e.call (calls_of es))

-- the entries on all shards, where one has more
entries_more : (ts : List (List Entry)) (s : ℕ) (t b : List Entry) → slice_get ts s ≡ Some t → entries_in (slice_set ts s (t ++ b)) ≡ entries_in ts + length b
entries_more [] s t b e = absurd (cc)
entries_more (u ∷ ts) zero t b e = let same : length t ≡ length u = ap length (sym (same_Some _ _ e)) in omega (arith, length-append t b)
entries_more (u ∷ ts) (suc s) t b e = let k = entries_more ts s t b e in omega arith

-- ranks that have made no entry
none_in : (ts : List (List Entry)) → ((s : ℕ) (t : List Entry) → slice_get ts s ≡ Some t → t ≡ []) → entries_in ts ≡ 0
none_in [] none = refl
none_in (t ∷ ts) none = let a = ap length (none 0 t refl) in let b = none_in ts (λ s u g. none (suc s) u g) in omega arith

module _ (geom : Geom) (calls : List Call) (sizes : List ℕ) (k : ℕ) where
  -- ---- the beginning

  pub rank_begins : (desks : List Desk) → AreBlocks geom calls sizes →
      ((s : ℕ) (d : Desk) → slice_get desks s ≡ Some d → IsFreshDesk geom calls s d) → RankGood geom calls sizes 0 desks k
  rank_begins desks blocks fresh =
      let none : (s : ℕ) (t : List Entry) → slice_get (map desk_entries desks) s ≡ Some t → t ≡ [] =
      λ s t e. let q = get_map_back desk_entries desks s t e in sym q.2 ∙ (fresh s q.0 q.1).nothing in
      record {
        done = 0;
        low = omega arith;
        rest = blocks;
        order = record {
          once = λ i h. absurd (omega arith);
          each = λ s t e. subst (All (IsEntryOf geom k (asked_of calls sizes) 0 s)) (sym (none s t e)) (All-nil (IsEntryOf geom k (asked_of calls sizes) 0 s));
          in_order = λ s t e. subst IsInOrder (sym (none s t e)) (λ i a b p q. absurd (cc));
        };
        total = none_in (map desk_entries desks) none;
        on = λ s d e.
            let f = fresh s d e in
            record {
              calls_are = ap (map (λ (z : Entry). z.call)) f.nothing;
              room = f.room;
              elsewhere = λ ne. f.shut;
              owing = f.owing;
              resting = λ at rests. refl;
              working = λ w. let bad : true ≡ false = sym (f.owing w) ∙ f.shut in cc;
            };
      }

  -- ---- where one desk changes

  -- the entries on all shards stay where its own do
  entries_stay : (desks : List Desk) (s : ℕ) (d e : Desk) → slice_get desks s ≡ Some d → e.kept ≡ d.kept →
      map desk_entries (slice_set desks s e) ≡ map desk_entries desks
  entries_stay desks s d e has same =
      map_set desk_entries desks s e ∙ ap (λ (z : TheTranscript). slice_set (map desk_entries desks) s z.items) same ∙ set_same_get
      (map desk_entries desks) s d.kept.items (get_map desk_entries desks s d has)

  -- what holds of it, and of the others, holds of all
  on_all : (done opened : ℕ) (desks : List Desk) (s : ℕ) (e : Desk) → IsOn geom calls (asked_of calls sizes) done opened s e →
      ((i : ℕ) (u : Desk) → i ≢ s → slice_get desks i ≡ Some u → IsOn geom calls (asked_of calls sizes) done opened i u) →
      (i : ℕ) (u : Desk) → slice_get (slice_set desks s e) i ≡ Some u → IsOn geom calls (asked_of calls sizes) done opened i u
  on_all done opened desks s e here away i u get =
      ⊎_elim
      (λ q. subst (λ z. IsOn geom calls (asked_of calls sizes) done opened z u) (sym q.0)
      (subst (IsOn geom calls (asked_of calls sizes) done opened s) (sym q.1) here))
      (λ q. away i u q.0 q.1)
      (get_set_cases desks s i e u get)

  -- ---- the next block

  module _ (n : ℕ) (desks : List Desk) (g : RankGood geom calls sizes n desks k) where
    -- where no block is open at the shard where the rank stands, none is open anywhere
    module _ (closed : (d : Desk) → slice_get desks (place_after geom calls n) ≡ Some d → d.is_open ≡ false) where
      pub closed_all : (s : ℕ) (d : Desk) → slice_get desks s ≡ Some d → d.is_open ≡ false
      closed_all s d has =
          ⊎_elim
          (λ (e : s ≡ place_after geom calls n). closed d (ap (slice_get desks) (sym e) ∙ has))
          (λ (ne : s ≢ place_after geom calls n). (g.on s d has).elsewhere ne)
          (same_or_not s (place_after geom calls n))

      -- and all calls that were opened are done
      pub all_done : (d : Desk) → slice_get desks (place_after geom calls n) ≡ Some d → g.done ≡ n
      all_done d has = let o = g.on (place_after geom calls n) d has in o.resting refl (shut_owes d o.owing (closed d has))

    module _ (b : NextBlock geom (drop n calls) (drop n sizes)) (done : g.done ≡ n)
        (closed : (d : Desk) → slice_get desks (place_after geom calls n) ≡ Some d → d.is_open ≡ false) where
      -- the block fits: it is asked rightly, its numbers are new, and there is room
      pub block_fits : (site : Site) (d : Desk) → slice_get desks b.is_block.shard ≡ Some d → site.geom ≡ geom → site.shard ≡ b.is_block.shard →
          count_by (is_update_on geom b.is_block.shard) calls ≤ slice_index site.rooms k → length calls ≤ 2 ^ 32 → IsOpen site k b.block n d.kept
      block_fits site d has geom_is shard_is room few =
          let s : ℕ = b.is_block.shard in
          let o : IsOn geom calls (asked_of calls sizes) g.done n s d = g.on s d has in
          let there : take (length b.block) (drop n calls) ≡ b.block = calls_there geom calls sizes n b in
          let mine : calls_of d.kept.items ≡ filter (is_on geom s) (take n calls) = o.calls_are ∙ ap (λ z. filter (is_on geom s) (take z calls)) done in
          let kept : slice_get (map desk_entries desks) s ≡ Some d.kept.items = get_map desk_entries desks s d has in
          let in_all : n + length b.block ≤ length calls = inside geom calls sizes n b in
          record {
            is_block = b.is_block.is_asked;
            of_shard = subst (λ z. All (λ c. shard_of z c ≡ site.shard) b.block) (sym geom_is)
                (subst (λ z. All (λ c. shard_of geom c ≡ z) b.block) (sym shard_is) b.is_block.one_shard);
            fresh = subst (λ z. All (λ e. e.seq < z) d.kept.items) done
                (All-weaker (IsEntryOf geom k (asked_of calls sizes) g.done s) (λ e. e.seq < g.done) (λ e is. is.low) d.kept.items
                (g.order.each s d.kept.items kept));
            small = omega arith;
            room = let r = room_for geom s n calls b.block there b.is_block.one_shard in
                omega (arith, r, o.room, ap length mine, length-map d.kept.items (λ (e : Entry). e.call));
            place = let r = updates_room geom s n calls b.block b.is_block.is_asked there b.is_block.one_shard in
                omega (arith, r, room, updates_of d.kept.items, ap (count_by is_update) mine);
          }

      -- and once it is open the rank is in it
      pub rank_opens : (d e : Desk) → slice_get desks b.is_block.shard ≡ Some d → OpensBlock b.block n d e →
          RankGood geom calls sizes (n + length b.block) (slice_set desks b.is_block.shard e) k
      rank_opens d e has opens =
          let s : ℕ = b.is_block.shard in
          let place : place_after geom calls (n + length b.block) ≡ s = stands_at geom calls sizes n b in
          let o : IsOn geom calls (asked_of calls sizes) g.done n s d = g.on s d has in
          let same : map desk_entries (slice_set desks s e) ≡ map desk_entries desks = entries_stay desks s d e has opens.same_kept in
          let works : IsAtWork geom calls (asked_of calls sizes) g.done (n + length b.block) s b.block n =
          record {
            seq_is = sym done;
            ends = ap (λ z. z + length b.block) done;
            calls_are = ap (λ z. take (length b.block) (drop z calls)) done ∙ calls_there geom calls sizes n b;
            next = subst (λ z. AsksNext (batch_number (length b.block)) 0 (asked_of calls sizes) z b.block) (sym done) (asks_next geom calls sizes n b);
            one_shard = b.is_block.one_shard;
          } in
          record {
            done = g.done;
            low = inside geom calls sizes n b;
            rest = rest_behind geom calls sizes n b;
            order = subst (IsRankInOrder geom k (asked_of calls sizes) g.done) (sym same) g.order;
            total = ap entries_in same ∙ g.total;
            on = on_all g.done (n + length b.block) desks s e
                (record {
                  calls_are = ap (λ (z : TheTranscript). calls_of z.items) opens.same_kept ∙ o.calls_are;
                  room = subst (λ (z : TheTranscript). count_by (is_on geom s) calls ≤ z.room) (sym opens.same_kept) o.room;
                  elsewhere = λ ne. absurd (ne (sym place));
                  owing = λ is. opens.is_open;
                  resting = λ at rests. let bad : true ≡ false = sym opens.owed ∙ rests in cc;
                  working = λ is. subst (λ z. IsAtWork geom calls (asked_of calls sizes) g.done (n + length b.block) s z e.seq) (sym opens.calls_are)
                      (subst (IsAtWork geom calls (asked_of calls sizes) g.done (n + length b.block) s b.block) (sym opens.seq_is) works);
                })
                (λ i u ne get.
                let away = g.on i u get in
                let shut : u.is_open ≡ false = closed_all closed i u get in
                record {
                  calls_are = away.calls_are;
                  room = away.room;
                  elsewhere = λ other. shut;
                  owing = away.owing;
                  resting = λ at rests. absurd (ne (at ∙ place));
                  working = λ is. let bad : true ≡ false = sym (away.owing is) ∙ shut in cc;
                });
          }

  -- ---- an atom, of whichever rank, turns the rank's desk on some shard

  module _ (n : ℕ) (desks : List Desk) (g : RankGood geom calls sizes n desks k) (s : ℕ) (d e : Desk) (has : slice_get desks s ≡ Some d)
      (is : IsDesk e) (opens_none : d.is_open ≡ false → e.is_open ≡ false) where
    keeps_block : KeepsBlock d e → RankGood geom calls sizes n (slice_set desks s e) k
    keeps_block w =
        let o : IsOn geom calls (asked_of calls sizes) g.done n s d = g.on s d has in
        let same : map desk_entries (slice_set desks s e) ≡ map desk_entries desks = entries_stay desks s d e has w.same_kept in
        record {
          done = g.done;
          low = g.low;
          rest = g.rest;
          order = subst (IsRankInOrder geom k (asked_of calls sizes) g.done) (sym same) g.order;
          total = ap entries_in same ∙ g.total;
          on = on_all g.done n desks s e
              (record {
                calls_are = ap (λ (z : TheTranscript). calls_of z.items) w.same_kept ∙ o.calls_are;
                room = subst (λ (z : TheTranscript). count_by (is_on geom s) calls ≤ z.room) (sym w.same_kept) o.room;
                elsewhere = λ ne. opens_none (o.elsewhere ne);
                owing = is.owing;
                resting = λ at rests. o.resting at (sym w.same_owes ∙ rests);
                working = λ owes. subst (λ z. IsAtWork geom calls (asked_of calls sizes) g.done n s z e.seq) (sym w.same_calls)
                    (subst (IsAtWork geom calls (asked_of calls sizes) g.done n s d.calls) (sym w.same_seq) (o.working (sym w.same_owes ∙ owes)));
              })
              (λ i u ne get. g.on i u get);
        }

    -- a desk that owes is the one where the rank stands
    stands_here : d.owes ≡ true → s ≡ place_after geom calls n
    stands_here owed =
        let o : IsOn geom calls (asked_of calls sizes) g.done n s d = g.on s d has in
        ⊎_elim
        (λ (q : s ≡ place_after geom calls n). q)
        (λ (ne : s ≢ place_after geom calls n). let bad : true ≡ false = sym (o.owing owed) ∙ o.elsewhere ne in cc)
        (same_or_not s (place_after geom calls n))

    ends_block : length calls ≤ 2 ^ 32 → EndsBlock s k d e → RankGood geom calls sizes n (slice_set desks s e) k
    ends_block few w =
        let o : IsOn geom calls (asked_of calls sizes) g.done n s d = g.on s d has in
        let at : IsAtWork geom calls (asked_of calls sizes) g.done n s d.calls d.seq = o.working w.owed in
        let here : s ≡ place_after geom calls n = stands_here w.owed in
        let many : length w.entries ≡ length d.calls = sym (length-map w.entries (λ (z : Entry). z.call)) ∙ ap length w.calls_are in
        let last : g.done + length w.entries ≡ n = ap (λ m. g.done + m) many ∙ at.ends in
        let kept : slice_get (map desk_entries desks) s ≡ Some d.kept.items = get_map desk_entries desks s d has in
        let lists : map desk_entries (slice_set desks s e) ≡ slice_set (map desk_entries desks) s (d.kept.items ++ w.entries) =
        map_set desk_entries desks s e ∙ ap (slice_set (map desk_entries desks) s) w.items in
        let tells = subst (λ m. Tells s k (batch_number (length d.calls)) m 0 w.entries) at.seq_is w.tells in
        let low = g.low in
        let asked : AreAsked geom k (asked_of calls sizes) s g.done w.entries =
        asked_entries geom k (asked_of calls sizes) s (batch_number (length d.calls)) 0 g.done w.entries d.calls w.calls_are tells
        at.next at.one_shard (omega arith) in
        let ordered : IsRankInOrder geom k (asked_of calls sizes) (g.done + length w.entries)
        (slice_set (map desk_entries desks) s (d.kept.items ++ w.entries)) =
        block_more geom k (asked_of calls sizes) s w.entries g.done (map desk_entries desks) d.kept.items g.order kept asked
        (subst IsInOrder w.items is.in_order) in
        let more : take n calls ≡ take g.done calls ++ d.calls = ap (λ m. take m calls) (sym at.ends)
        ∙ take_more g.done (length d.calls) calls ∙ ap (λ z. take g.done calls ++ z) at.calls_are in
        record {
          done = n;
          low = g.low;
          rest = g.rest;
          total = ap entries_in lists ∙ entries_more (map desk_entries desks) s d.kept.items w.entries kept ∙ ap (λ m. m + length w.entries) g.total ∙ last;
          order = subst (λ m. IsRankInOrder geom k (asked_of calls sizes) m (map desk_entries (slice_set desks s e))) last
              (subst (IsRankInOrder geom k (asked_of calls sizes) (g.done + length w.entries)) (sym lists) ordered);
          on = on_all n n desks s e
              (record {
                calls_are = ap calls_of w.items ∙ map-append (λ (z : Entry). z.call) d.kept.items w.entries
                    ∙ ap (λ z. z ++ calls_of w.entries) o.calls_are
                    ∙ ap (λ z. filter (is_on geom s) (take g.done calls) ++ z) (w.calls_are ∙ sym (all_on geom s d.calls at.one_shard))
                    ∙ sym (filter-append (is_on geom s) (take g.done calls) d.calls) ∙ ap (filter (is_on geom s)) (sym more);
                room = subst (λ n. count_by (is_on geom s) calls ≤ n) (sym w.same_room) o.room;
                elsewhere = λ ne. absurd (ne here);
                owing = is.owing;
                resting = λ q rests. refl;
                working = λ owes. let bad : true ≡ false = sym owes ∙ w.is_over in cc;
              })
              (λ i u ne get.
              let away = g.on i u get in
              let shut : u.is_open ≡ false = away.elsewhere (λ q. ne (q ∙ sym here)) in
              record {
                calls_are = away.calls_are ∙ sym (ap (filter (is_on geom i)) more ∙ filter-append (is_on geom i) (take g.done calls) d.calls
                    ∙ ap (λ z. filter (is_on geom i) (take g.done calls) ++ z) (none_on geom s i d.calls (λ q. ne (sym q)) at.one_shard)
                    ∙ append-nil (filter (is_on geom i) (take g.done calls)));
                room = away.room;
                elsewhere = away.elsewhere;
                owing = away.owing;
                resting = λ q rests. absurd (ne (q ∙ sym here));
                working = λ owes. let bad : true ≡ false = sym (away.owing owes) ∙ shut in cc;
              });
        }

  pub rank_turns : (n : ℕ) (desks : List Desk) (s : ℕ) (d e : Desk) → RankGood geom calls sizes n desks k → slice_get desks s ≡ Some d →
      Turns s k d e → IsDesk e → length calls ≤ 2 ^ 32 → RankGood geom calls sizes n (slice_set desks s e) k
  rank_turns n desks s d e g has turns is few = ⊎_elim (keeps_block n desks g s d e has is turns.opens_none)
      (ends_block n desks g s d e has is turns.opens_none few) turns.way
