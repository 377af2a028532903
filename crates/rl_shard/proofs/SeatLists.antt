-- The seats of a shard, as its window has them.
use Rattle.std.proofs.Common.{◌≡◌, ℕ, List, [], ◌∷◌, length, map, slice_get, Some, false, sym, refl, ap, ◌∙◌, subst}
use Rattle.std.proofs.lemmas.List.{length-map}
use Rattle.rl_word.specs.laws.Places.{get_map, get_map_back}
use Rattle.rl_core.specs.Moments.{CoreSays}
use Rattle.rl_window.specs.declared.knows.Knows.TheVariants.{Root}
use Rattle.rl_window.specs.declared.window.WinSeat.{WinSeat}
use Rattle.rl_window.specs.Seats.{IsSeatOf, IsKept, IsAll, AreKept, HasSeats, all_given, view_of}
use Rattle.rl_shard.specs.declared.shard.Shard.{Shard}
use Rattle.rl_shard.specs.declared.seat.Seat.{Seat}
use Rattle.rl_shard.specs.declared.counting.Counting.{Counting}
use Rattle.rl_shard.specs.declared.counting.CountedView.{CountedView}
use Rattle.rl_shard.specs.Counting.{counting_rule}
use Rattle.rl_shard.specs.Shards.{AreOf, AreClosed, table_at, counted_at}
use Rattle.rl_shard.specs.Closing.{inner_of, seated}

module _ {C V : Type 0} where
  pub inner_seated : (inner : List (WinSeat (Counting C V) (CountedView V))) → map inner_of (map seated inner) ≡ inner
  inner_seated [] = refl
  inner_seated (s ∷ inner) = ap (λ z. s ∷ z) (inner_seated inner)

  pub seated_inner : (seats : List (Seat C V)) → map seated (map inner_of seats) ≡ seats
  seated_inner [] = refl
  seated_inner (s ∷ seats) = ap (λ z. s ∷ z) (seated_inner seats)

  pub inner_views : (seats : List (Seat C V)) → map view_of (map inner_of seats) ≡ map counted_at seats
  inner_views [] = refl
  inner_views (s ∷ seats) = ap (λ z. counted_at s ∷ z) (inner_views seats)

  pub seated_views : (inner : List (WinSeat (Counting C V) (CountedView V))) → map counted_at (map seated inner) ≡ map view_of inner
  seated_views [] = refl
  seated_views (s ∷ inner) = ap (λ z. view_of s ∷ z) (seated_views inner)

  module _ (says : C → CoreSays V) (shard : Shard C V) (seats : List (Seat C V)) (inner : List (WinSeat (Counting C V) (CountedView V))) (is : inner ≡ map inner_of seats) where
    -- a shard's seats are its window's
    pub all_inner : AreOf says shard seats → (n : ℕ) → HasSeats shard.window n → n ≡ length seats → IsAll (counting_rule says) shard.window inner
    all_inner are n root e =
        record {
          table = root.0;
          root = root.1 ∙ ap (λ k. (Root (all_given shard.window k), [])) (e ∙ sym (length-map seats inner_of) ∙ ap length (sym is));
          each = λ i s has.
              let q = get_map_back inner_of seats i s (ap (λ l. slice_get l i) (sym is) ∙ has) in
              subst (λ z. (z.rank ≡ i) × IsSeatOf (counting_rule says) shard.window z) q.2 ((are i q.0 q.1).0, (are i q.0 q.1).1.seat);
        }

    pub kept_inner : AreOf says shard seats → AreKept (counting_rule says) shard.window inner
    kept_inner are i s has =
        let q = get_map_back inner_of seats i s (ap (λ l. slice_get l i) (sym is) ∙ has) in
        subst (IsKept (counting_rule says) shard.window) q.2 (are i q.0 q.1).1.kept

    -- and the other way
    pub all_seated : IsAll (counting_rule says) shard.window inner → AreKept (counting_rule says) shard.window inner → HasSeats shard.window (length seats) × AreOf says shard seats
    all_seated all kept = (
      (all.table, all.root ∙ ap (λ k. (Root (all_given shard.window k), [])) (ap length is ∙ length-map seats inner_of)),
      λ r s e.
          let here : slice_get inner r ≡ Some (inner_of s) = ap (λ l. slice_get l r) is ∙ get_map inner_of seats r s e in
          ((all.each r (inner_of s) here).0, record { seat = (all.each r (inner_of s) here).1; kept = kept r (inner_of s) here }),
    )

  -- no seat has an open block where its view has none
  pub seats_closed : (says : C → CoreSays V) (shard : Shard C V) (seats : List (Seat C V)) (vs : List (CountedView V)) → map counted_at seats ≡ vs →
      ((r : ℕ) (x : CountedView V) → slice_get vs r ≡ Some x → ((table_at says shard).own x.whole).is_open ≡ false) → AreClosed says shard seats
  seats_closed says shard seats vs is closed r s e = closed r (counted_at s) (ap (λ l. slice_get l r) (sym is) ∙ get_map counted_at seats r s e)

  pub views_closed : (says : C → CoreSays V) (shard : Shard C V) (seats : List (Seat C V)) (vs : List (CountedView V)) → vs ≡ map counted_at seats →
      AreClosed says shard seats → (r : ℕ) (x : CountedView V) → slice_get vs r ≡ Some x → ((table_at says shard).own x.whole).is_open ≡ false
  views_closed says shard seats vs is closed r x e =
      let q = get_map_back counted_at seats r x (ap (λ l. slice_get l r) (sym is) ∙ e) in
      ap (λ (z : CountedView V). ((table_at says shard).own z.whole).is_open) (sym q.2) ∙ closed r q.0 q.1
