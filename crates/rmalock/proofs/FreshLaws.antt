-- The seats of a new shard can begin one call each, for tests.
use Rattle.std.proofs.Common.{◌≡◌, ◌<◌, ◌≤◌, ℕ, ◌+◌, List, [], ◌∷◌, length, map, slice_get, slice_index, Some, refl, sym, ap, ◌∙◌, subst, arith}
use Rattle.std.specs.Prelude.{All, count_by}
use Rattle.std.proofs.lemmas.List.Elements.{All-cons, All-nil}
use Rattle.rl_word.specs.laws.Places.{get_map, get_map_back}
use Rattle.rl_model.specs.declared.call.Call.{Call}
use Rattle.rl_model.specs.declared.entry.Entry.{Entry}
use Rattle.rl_model.specs.declared.geom.Geom.{Geom}
use Rattle.rl_model.specs.Call.{shard_of, is_update}
use Rattle.rl_journal.specs.Legal.{updates}
use Rattle.rl_site.specs.Opens.{IsOpen, places_needed}
use Rattle.rl_site.specs.Transcript.{TheTranscript}
use Rattle.rl_site.specs.Site.{Site}
use Rattle.rl_core.specs.Desks.{desk_entries}
use Rattle.rl_core.specs.ShardTables.{ShardTable, site_with, first_views}
use Rattle.rl_core.specs.ShardLaws.{IsNewDesk}
use Rattle.rl_core.specs.Moments.{CoreSays}
use Rattle.rl_shard.specs.declared.shard.Shard.{Shard}
use Rattle.rl_shard.specs.declared.seat.Seat.{Seat}
use Rattle.rl_shard.specs.declared.counting.CountedView.{CountedView}
use Rattle.rl_shard.specs.Counting.{first_counted}
use Rattle.rl_shard.specs.Shards.{AreOf, AreClosed, table_at, desk_at, counted_at, view_at, rank_at}
use Rattle.rl_core.specs.laws.Filling.{first_at}
use Rattle.rl_shard.proofs.OpeningLaws.{fresh}
use Rattle.rmalock.specs.Fresh.{IsFresh}

-- such a seat can begin any call of the shard that it has room for
pub fresh_opens : {C V : Type 0} (says : C → CoreSays V) (geom : Geom) (number places : ℕ) (shard : Shard C V) (s : Seat C V) (call : Call) → IsFresh says geom number places shard s → shard_of geom call ≡ number →
    places_needed (is_update call) 1 ≤ places → IsOpen (table_at says shard).site (rank_at s) (call ∷ []) 0 (desk_at says shard s).kept
fresh_opens says geom number places shard s call f is needed =
    let t : TheTranscript = (desk_at says shard s).kept in
    let site : Site = (table_at says shard).site in
    let none : length t.items ≡ 0 = ap length f.nothing in
    let one : 1 ≤ t.room = f.room in
    let here : shard_of site.geom call ≡ site.shard = ap (λ g. shard_of g call) f.geom_is ∙ is ∙ sym f.number_is in
    let some : places ≤ slice_index site.rooms (rank_at s) = f.place in
    let counted : count_by updates t.items ≡ 0 = ap (count_by updates) f.nothing in
    record {
      is_block = record { some = omega arith; few = omega arith; all_update = λ e. (e, tt); alone = λ e. refl };
      of_shard = All-cons (λ c. shard_of site.geom c ≡ site.shard) call [] here (All-nil (λ c. shard_of site.geom c ≡ site.shard));
      fresh = subst (All (λ (e : Entry). e.seq < 0)) (sym f.nothing) (All-nil (λ (e : Entry). e.seq < 0));
      small = omega arith;
      room = omega arith;
      place = omega arith;
    }

module _ {C V : Type 0} (says : C → CoreSays V) (shard : Shard C V) where
  -- each seat of a new shard whose ranks have room for one call each
  pub fresh_at : (seats : List (Seat C V)) (geom : Geom) (number queues : ℕ) (rooms updates : List ℕ) → (table_at says shard).site ≡ site_with geom number updates → ((room rank : ℕ) → IsNewDesk room ((table_at says shard).own ((table_at says shard).first room rank))) →
      AreOf says shard seats → AreClosed says shard seats → map counted_at seats ≡ first_counted (table_at says shard) queues rooms → (r places : ℕ) (s : Seat C V) → slice_index rooms r ≡ 1 → slice_index updates r ≡ places → slice_get seats r ≡ Some s →
      IsFresh says geom number places shard s
  fresh_at seats geom number queues rooms updates site_is first_desk are closed views r places s one many get =
      let T : ShardTable V = table_at says shard in
      let here : slice_get (first_counted T queues rooms) r ≡ Some (counted_at s) = ap (λ l. slice_get l r) (sym views) ∙ get_map counted_at seats r s get in
      let q = get_map_back (fresh queues) (first_views T 0 rooms) r (counted_at s) here in
      let whole : view_at s ≡ T.first (slice_index rooms r) (0 + r) = sym (ap (λ (z : CountedView V). z.whole) q.2) ∙ first_at T 0 rooms r q.0 q.1 in
      let new = first_desk (slice_index rooms r) (0 + r) in
      let mine : rank_at s ≡ r = (are r s get).0 in
      record {
        is_of = (are r s get).1;
        closed = closed r s get;
        geom_is = ap (λ z. z.geom) site_is;
        number_is = ap (λ z. z.shard) site_is;
        nothing = ap (λ z. desk_entries (T.own z)) whole ∙ new.nothing;
        room = let n = ap (λ z. (T.own z).kept.room) whole ∙ new.room_is in omega arith;
        place = let n = ap (λ z. slice_index z.rooms (rank_at s)) site_is ∙ ap (slice_index updates) mine ∙ many in omega arith;
      }
