-- A run begins: shards are opened one after the other, and callers are made.
use Rattle.std.specs.Prelude.{◌≡◌, ℕ, zero, suc, ◌+◌, ◌<◌, ◌≤◌, ◌^◌, false, List, [], ◌∷◌, ◌++◌, All, count_by, get_or, length, map, replicate, slice_get, slice_index, Some, refl}
use Rattle.std.proofs.Common.{sym, ◌∙◌, ap, subst, ⊎_elim, arith, append_assoc}
use Rattle.std.proofs.lemmas.List.{length-map, length-replicate, map-append}
use Rattle.std.proofs.lemmas.Option.{same_Some, slice_get_within}
use Rattle.rl_word.specs.Shapes.{TheShape}
use Rattle.rl_word.specs.declared.shapes.Knobs.{Knobs}
use Rattle.rl_word.specs.laws.Places.{get_map, get_map_back}
use Rattle.rl_model.specs.declared.call.Call.{Call}
use Rattle.rl_model.specs.declared.geom.Geom.{Geom}
use Rattle.rl_core.specs.ShardTables.{ShardTable, first_views}
use Rattle.rl_core.specs.Moments.{CoreSays}
use Rattle.rl_core.specs.ShardLaws.{IsNewDesk}
use Rattle.rl_core.specs.laws.Filling.{first_at, first_length}
use Rattle.rl_model.specs.Geom.{GeomFits}
use Rattle.rl_journal.specs.laws.Lists.{all_at, get_more_cases}
use Rattle.rl_ops.specs.Room.{calls_on, updates_on}
use Rattle.rl_core.specs.Asks.{is_on, AreBlocks}
use Rattle.rl_site.specs.Site.{Site}
use Rattle.rl_core.specs.Desks.{desk_entries}
use Rattle.rl_shard.specs.declared.shard.Shard.{Shard}
use Rattle.rl_shard.specs.declared.seat.Seat.{Seat}
use Rattle.rl_shard.specs.declared.counting.CountedView.{CountedView}
use Rattle.rl_shard.specs.Counting.{first_counted}
use Rattle.rl_shard.specs.Shards.{AreOf, AreClosed, AreFirst, table_at, counted_at, view_at}
use Rattle.rl_run.specs.Rows.{IsRow, IsColumn, with_column}
use Rattle.rl_run.specs.laws.RowLaws.{grid_more, with_column_long}
use Rattle.rl_run.specs.declared.caller.Caller.{Caller}
use Rattle.rl_run.specs.Callers.{IsReady, who, seats_of}
use Rattle.rl_run.specs.Runs.{TableFor, IsNewSeat, IsNewShard, AreNew, AreCallers, CallerMayWork, made_of, wanted}

index_of_map : {X : Type 0} (f : X → ℕ) (l : List X) (k : ℕ) (d : X) → k < length l → slice_index (map f l) k ≡ f (get_or l k d)
index_of_map f [] k d h = absurd (omega arith)
index_of_map f (x ∷ l) zero d h = refl
index_of_map f (x ∷ l) (suc k) d h = index_of_map f l k d (omega arith)

pub column_long : {C V : Type 0} (L : ShardTable V) (queues : ℕ) (rooms : List ℕ) (column : List (Seat C V)) → map counted_at column ≡ first_counted L queues rooms → length column ≡ length rooms
column_long L queues rooms column e = sym (length-map column counted_at) ∙ ap length e ∙ length-map (first_views L 0 rooms) _ ∙ first_length L 0 rooms

all_none : {X : Type 0} (n r : ℕ) (row : List X) → slice_get (replicate n []) r ≡ Some row → row ≡ []
all_none zero r row e = absurd (cc)
all_none (suc n) zero row e = sym (same_Some _ _ e)
all_none (suc n) (suc r) row e = all_none n r row e

module _ {C V : Type 0} (D : TheShape → ℕ → Knobs → Site → ShardTable V) (says : C → CoreSays V) (K : TableFor) where
  pub new_none : (rows : List (List (Seat C V))) (n : ℕ) → rows ≡ replicate n [] → n ≡ length K.calls → AreNew D says K [] rows
  new_none rows n is e = record {
    each = λ s w h. absurd (cc);
    rows_are = λ r row h.
        let z : row ≡ [] = all_none n r row (ap (λ l. slice_get l r) (sym is) ∙ h) in
        subst (IsRow (IsNewSeat says K) [] r) (sym z) (record { long = refl; each = λ s w t a b. absurd (cc) });
    ranks = ap length is ∙ length-replicate n [] ∙ e;
  }

  module _ (shards : List (Shard C V)) (rows : List (List (Seat C V))) (w : Shard C V) (column : List (Seat C V)) (s queues : ℕ) (old : AreNew D says K shards rows) (all : length shards ≡ s)
      (new : IsNewShard D says K s w) (first_desk : (room rank : ℕ) → IsNewDesk room ((table_at says w).own ((table_at says w).first room rank))) (are : AreOf says w column)
      (views : AreFirst says w column queues (map (calls_on K.geom s) K.calls)) (closed : AreClosed says w column) where
    -- the rooms for the ranks' entries there
    abbrev rooms : List ℕ
    rooms = map (calls_on K.geom s) K.calls

    column_all : length column ≡ length K.calls
    column_all = column_long (table_at says w) queues rooms column views ∙ length-map K.calls (calls_on K.geom s)

    new_seat : IsColumn (IsNewSeat says K) w column
    new_seat r t get =
        let L : ShardTable V = table_at says w in
        let had = ap (λ l. slice_get l r) (sym views) ∙ get_map counted_at column r t get in
        let q = get_map_back (λ (x : V). record { whole = x; tallies = _ }) (first_views L 0 rooms) r (counted_at t) had in
        let first : q.0 ≡ L.first (slice_index rooms r) (0 + r) = first_at L 0 rooms r q.0 q.1 in
        let view : view_at t ≡ L.first (slice_index rooms r) (0 + r) = ap (λ (z : CountedView V). z.whole) (sym q.2) ∙ first in
        let fresh : IsNewDesk (slice_index rooms r) (L.own (L.first (slice_index rooms r) (0 + r))) = first_desk (slice_index rooms r) (0 + r) in
        let low : r < length K.calls = let h = slice_get_within column r t get in let a = column_all in omega arith in
        let number : s ≡ L.site.shard = sym (ap (λ z. z.shard) new.site_is) in
        record {
          rank = (are r t get).0;
          is = (are r t get).1;
          closed = closed r t get;
          nothing = ap (λ z. desk_entries (L.own z)) view ∙ fresh.nothing;
          room = ap (λ z. (L.own z).kept.room) view ∙ fresh.room_is ∙ index_of_map (calls_on K.geom s) K.calls r [] low ∙ ap (λ n. calls_on K.geom n (get_or K.calls r [])) number;
        }

    pub new_more : AreNew D says K (shards ++ w ∷ []) (with_column rows column)
    new_more =
        let long : length column ≡ length rows = column_all ∙ sym old.ranks in
        record {
          each = λ i v get. ⊎_elim
              (λ q. old.each i v q.1)
              (λ q. let at : i ≡ s = q.0 ∙ all in subst (λ z. IsNewShard D says K z v) (sym at) (subst (IsNewShard D says K s) q.1 new))
              (get_more_cases shards w i v get);
          rows_are = grid_more (IsNewSeat says K) shards rows w column old.rows_are new_seat long;
          ranks = with_column_long (IsNewSeat says K) rows column long ∙ old.ranks;
        }

-- what a caller is made of, in one
pub made_is : {C V : Type 0} (c : Caller C V) (rank : ℕ) (calls : List Call) (sizes : List ℕ) (geom : Geom) (seats : List (Seat C V)) →
    who c ≡ (rank, calls, sizes, geom) → seats_of c ≡ seats → made_of c ≡ ((rank, calls, sizes, geom), seats)
made_is c rank calls sizes geom seats e f = ap (λ z. (z, seats_of c)) e ∙ ap (λ z. ((rank, calls, sizes, geom), z)) f

-- one caller more
module _ {C T : Type 0} (f : C → (ℕ × List Call × List ℕ × Geom) × List T) (geom : Geom) where
  pub next_wanted : (r : ℕ) (calls rest_calls : List (List Call)) (sizes rest_sizes : List (List ℕ)) (rows rest_rows : List (List T)) →
      (c : List Call) (s : List ℕ) (row : List T) (done : List C) (caller : C) (all : List ((ℕ × List Call × List ℕ × Geom) × List T)) →
      calls ≡ c ∷ rest_calls → sizes ≡ s ∷ rest_sizes → rows ≡ row ∷ rest_rows → f caller ≡ ((r, c, s, geom), row) → map f done ++ wanted geom r calls sizes rows ≡ all →
      map f (done ++ caller ∷ []) ++ wanted geom (r + 1) rest_calls rest_sizes rest_rows ≡ all
  next_wanted r calls rest_calls sizes rest_sizes rows rest_rows c s row done caller all e1 e2 e3 is so_far =
      ap (λ l. l ++ wanted geom (r + 1) rest_calls rest_sizes rest_rows) (map-append f done (caller ∷ []))
      ∙ append_assoc (map f done) (f caller ∷ []) (wanted geom (r + 1) rest_calls rest_sizes rest_rows)
      ∙ ap (λ z. map f done ++ z ∷ wanted geom (r + 1) rest_calls rest_sizes rest_rows) is
      ∙ ap (λ z. map f done ++ wanted geom r z (s ∷ rest_sizes) (row ∷ rest_rows)) (sym e1) ∙ ap (λ z. map f done ++ wanted geom r calls z (row ∷ rest_rows)) (sym e2)
      ∙ ap (λ z. map f done ++ wanted geom r calls sizes z) (sym e3) ∙ so_far

-- what is wanted of a rank
pub wanted_at : {T : Type 0} (geom : Geom) (from : ℕ) (calls : List (List Call)) (sizes : List (List ℕ)) (rows : List (List T)) (r : ℕ) (x : (ℕ × List Call × List ℕ × Geom) × List T) →
    length sizes ≡ length calls → length rows ≡ length calls →
    slice_get (wanted geom from calls sizes rows) r ≡ Some x → (x.0 ≡ (from + r, get_or calls r [], get_or sizes r [], geom)) × (slice_get rows r ≡ Some x.1)
wanted_at geom from [] sizes rows r x e1 e2 get = absurd (cc)
wanted_at geom from (c ∷ calls) [] rows r x e1 e2 get = absurd (omega arith)
wanted_at geom from (c ∷ calls) (s ∷ sizes) [] r x e1 e2 get = absurd (omega arith)
wanted_at geom from (c ∷ calls) (s ∷ sizes) (row ∷ rows) zero x e1 e2 get =
    let none : from ≡ from + 0 = omega arith in (ap (λ z. z.0) (sym (same_Some _ _ get)) ∙ ap (λ n. (n, c, s, geom)) none, ap (λ z. Some z.1) (same_Some _ _ get))
wanted_at geom from (c ∷ calls) (s ∷ sizes) (row ∷ rows) (suc r) x e1 e2 get =
    let q = wanted_at geom (from + 1) calls sizes rows r x (omega arith) (omega arith) get in
    let next : from + 1 + r ≡ from + suc r = omega arith in (q.0 ∙ ap (λ n. (n, get_or calls r [], get_or sizes r [], geom)) next, q.1)

pub wanted_long : {T : Type 0} (geom : Geom) (from : ℕ) (calls : List (List Call)) (sizes : List (List ℕ)) (rows : List (List T)) → length sizes ≡ length calls → length rows ≡ length calls →
    length (wanted geom from calls sizes rows) ≡ length calls
wanted_long geom from [] sizes rows e1 e2 = refl
wanted_long geom from (c ∷ calls) [] rows e1 e2 = absurd (omega arith)
wanted_long geom from (c ∷ calls) (s ∷ sizes) [] e1 e2 = absurd (omega arith)
wanted_long geom from (c ∷ calls) (s ∷ sizes) (row ∷ rows) e1 e2 = ap suc (wanted_long geom (from + 1) calls sizes rows (omega arith) (omega arith))

pub nothing_wanted : {T : Type 0} (geom : Geom) (from : ℕ) (calls : List (List Call)) (sizes : List (List ℕ)) (rows : List (List T)) → length calls ≡ 0 → wanted geom from calls sizes rows ≡ []
nothing_wanted geom from [] sizes rows e = refl
nothing_wanted geom from (c ∷ calls) sizes rows e = absurd (omega arith)

-- ---- the callers of new shards may work

module _ {C V : Type 0} (D : TheShape → ℕ → Knobs → Site → ShardTable V) (says : C → CoreSays V) (K : TableFor) (sizes : List (List ℕ))
    (shards : List (Shard C V)) (rows : List (List (Seat C V))) (new : AreNew D says K shards rows) (fits : GeomFits K.geom)
    (all : length shards ≡ K.geom.shards) (long : length sizes ≡ length K.calls)
    (few : (k : ℕ) → length (get_or K.calls k []) < 2 ^ 32) (blocks : (k : ℕ) → AreBlocks K.geom (get_or K.calls k []) (get_or sizes k []))
    (takes : (s : ℕ) (w : Shard C V) → slice_get shards s ≡ Some w → (table_at says w).batches ≡ false → (k i : ℕ) → slice_index (get_or sizes k []) i ≤ 1) where
  ready : (r : ℕ) (row : List (Seat C V)) → slice_get rows r ≡ Some row → IsReady says shards K.geom r (get_or K.calls r []) (get_or sizes r []) row
  ready r row get =
      let R = new.rows_are r row get in
      let low : r < length K.calls = let h = slice_get_within rows r row get in let a = new.ranks in omega arith in
      record {
        about = record {
          fits = fits;
          few = few r;
          all = all;
          sites = λ s w gw.
              let n = new.each s w gw in
              record {
                geom_is = ap (λ z. z.geom) n.site_is;
                shard_is = ap (λ z. z.shard) n.site_is;
                places = let many = ap (λ z. slice_index z.rooms r) n.site_is ∙ index_of_map (updates_on K.geom s) K.calls r [] low in omega arith;
              };
          takes = λ s w gw e i. takes s w gw e r i;
        };
        blocks = blocks r;
        row = record { long = R.long; each = λ s w t gw gt. let q = R.each s w t gw gt in (q.rank, q.is) };
        fresh = λ s w t gw gt.
            let q = R.each s w t gw gt in
            let n = new.each s w gw in
            let many = q.room ∙ ap (λ k. count_by (is_on K.geom k) (get_or K.calls r [])) (ap (λ z. z.shard) n.site_is) in
            record { closed = q.closed; nothing = q.nothing; room = omega arith };
      }

  pub are_callers : (cs : List (Caller C V)) → map made_of cs ≡ wanted K.geom 0 K.calls sizes rows → All (CallerMayWork says) cs → AreCallers says shards cs
  are_callers cs made may r c get =
      let w = wanted_at K.geom 0 K.calls sizes rows r (made_of c) long new.ranks (ap (λ l. slice_get l r) (sym made) ∙ get_map made_of cs r c get) in
      let first : 0 + r ≡ r = omega arith in
      let is : who c ≡ (r, get_or K.calls r [], get_or sizes r [], K.geom) = w.0 ∙ ap (λ n. (n, get_or K.calls r [], get_or sizes r [], K.geom)) first in
      let Q : ℕ × List Call × List ℕ × Geom → Type 0 = λ z. IsReady says shards z.3 z.0 z.1 z.2 (seats_of c) in
      let mine : Q (who c) = subst Q (sym is) (ready r (seats_of c) w.1) in (
        ap (λ (z : ℕ × List Call × List ℕ × Geom). z.0) is,
        all_at (CallerMayWork says) cs r c may get shards mine,
      )
