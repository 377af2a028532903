-- The callers of all ranks after their work: their seats as rows, and what the ends of the shards say of each rank.
use Rattle.std.proofs.Common.{◌≡◌, ℕ, ◌<◌, List, map, length, slice_get, get_or, Some, All, ◌++◌, take, drop, [], ◌∷◌, refl, arith, zero, suc, sym, ap, ◌∙◌, subst}
use Rattle.std.specs.Prelude.{Result, Ok, Err, IfOk}
use Rattle.std.proofs.lemmas.List.{length-map}
use Rattle.std.proofs.lemmas.Option.{same_Some, get_or_from_slice_get, slice_get-get_or}
use Rattle.rl_word.specs.laws.Places.{get_map, get_map_back}
use Rattle.rl_model.specs.declared.call.Call.{Call}
use Rattle.rl_model.specs.declared.geom.Geom.{Geom}
use Rattle.rl_journal.specs.laws.Lists.{all_at}
use Rattle.rl_journal.specs.Ranks.{IsRankInOrder}
use Rattle.rl_core.specs.Moments.{CoreSays}
use Rattle.rl_core.specs.Asks.{asked_of}
use Rattle.rl_core.specs.RankGood.{entries_in}
use Rattle.rl_shard.specs.declared.shard.Shard.{Shard}
use Rattle.rl_shard.specs.declared.seat.Seat.{Seat}
use Rattle.rl_shard.specs.declared.closed.Closed.{Closed}
use Rattle.rl_shard.specs.Shards.{entries_at}
use Rattle.rl_shard.specs.Ends.{IsEnd, transcripts_of}
use Rattle.rl_run.specs.declared.caller.Caller.{Caller}
use Rattle.rl_run.specs.Rows.{IsRow, IsGrid, AreEnded, heads, tails}
use Rattle.rl_run.specs.laws.RowLaws.{ended_at}
use Rattle.rl_run.specs.Callers.{IsCaller, IsAtEnd, entries_on, seats_of, who}
use Rattle.rl_run.specs.Runs.{IsShutSeat, AreCallers, HasRun, told_by}

heads_at : {T : Type 0} (rows : List (List T)) → ((r : ℕ) (row : List T) → slice_get rows r ≡ Some row → 0 < length row) → (r : ℕ) (t : T) (row : List T) → slice_get rows r ≡ Some (t ∷ row) → slice_get (heads rows) r ≡ Some t
heads_at [] some r t row g = absurd (cc)
heads_at ([] ∷ rows) some r t row g = absurd (let h = some 0 [] refl in omega arith)
heads_at ((x ∷ xs) ∷ rows) some zero t row g = ap (λ l. slice_get l 0) (same_Some _ _ g)
heads_at ((x ∷ xs) ∷ rows) some (suc r) t row g = heads_at rows (λ i y h. some (suc i) y h) r t row g

tail_is : {T : Type 0} (row : List T) (n : ℕ) → length row ≡ suc n → length (drop 1 row) ≡ n
tail_is [] n e = absurd (omega arith)
tail_is (x ∷ row) n e = omega arith

module _ {C V : Type 0} (says : C → CoreSays V) where
  -- the entries in a rank's row of seats are those that the ends of the shards have of it
  by_ends : (ws : List (Shard C V)) (rows : List (List (Seat C V))) (es : List Closed) → AreEnded (IsEnd says) ws rows es → ((r : ℕ) (row : List (Seat C V)) → slice_get rows r ≡ Some row → length row ≡ length ws) →
      (r : ℕ) (row : List (Seat C V)) → slice_get rows r ≡ Some row → entries_on says ws row ≡ map (told_by r) es
  by_ends [] rows [] a long r row g = refl
  by_ends [] rows (e ∷ es) a long r row g = absurd a
  by_ends (w ∷ ws) rows [] a long r row g = absurd a
  by_ends (w ∷ ws) rows (e ∷ es) a long r [] g = absurd (let l = long r [] g in omega arith)
  by_ends (w ∷ ws) rows (e ∷ es) a long r (t ∷ row) g =
      let top : slice_get (heads rows) r ≡ Some t = heads_at rows (λ i y h. let l = long i y h in omega arith) r t row g in
      let kept : slice_get (transcripts_of e) r ≡ Some (entries_at says w t) = ap (λ l. slice_get l r) a.0.transcripts_are ∙ get_map (entries_at says w) (heads rows) r t top in
      let here : told_by r e ≡ entries_at says w t = get_or_from_slice_get (transcripts_of e) r (entries_at says w t) [] kept in
      let on = by_ends ws (tails rows) es a.1 (λ i y h. let q = get_map_back (drop 1) rows i y h in ap length (sym q.2) ∙ tail_is q.0 (length ws) (long i q.0 q.1)) r row (get_map (drop 1) rows r (t ∷ row) g) in
      ap (λ z. z ∷ entries_on says ws row) (sym here) ∙ ap (λ z. told_by r e ∷ z) on

  module _ (shards : List (Shard C V)) (old new : List (Caller C V)) (are : AreCallers says shards old) (all : All (IsCaller says shards) new) (done : All (IsAtEnd says shards) new) (same : map who new ≡ map who old) where
    rows_grid : IsGrid (IsShutSeat says) shards (map seats_of new)
    rows_grid r row e =
        let q = get_map_back seats_of new r row e in
        let p = get_map_back who old r (who q.0) (ap (λ l. slice_get l r) (sym same) ∙ get_map who new r q.0 q.1) in
        let rank : q.0.rank ≡ r = ap (λ (z : ℕ × List Call × List ℕ × Geom). z.0) (sym p.2) ∙ (are r p.0 p.1).0 in
        let K = all_at (IsCaller says shards) new r q.0 all q.1 in
        let E = all_at (IsAtEnd says shards) new r q.0 done q.1 in
        subst (IsRow (IsShutSeat says) shards r) q.2
        (record { long = K.row.long; each = λ s w t gw gt. let M = K.row.each s w t gw gt in (M.0 ∙ rank, M.1, E.closed s w t gw gt) })

    pub has_run : (rows : List (List (Seat C V))) (ends : List Closed) → rows ≡ map seats_of new → AreEnded (IsEnd says) shards rows ends → HasRun says shards old ends
    has_run rows ends is a =
        let grid : IsGrid (IsShutSeat says) shards rows = subst (IsGrid (IsShutSeat says) shards) (sym is) rows_grid in
        let lists : (r : ℕ) (d : Caller C V) → slice_get new r ≡ Some d → entries_on says shards d.seats.items ≡ map (told_by r) ends =
        λ r d get. by_ends shards rows ends a (λ i y h. (grid i y h).long) r (seats_of d) (ap (λ l. slice_get l r) is ∙ get_map seats_of new r d get) in
        record {
          rows = rows;
          ended = a;
          long = ap length is ∙ length-map new seats_of ∙ (sym (length-map new who) ∙ ap length same ∙ length-map old who);
          order = λ r c e.
              let p = get_map_back who new r (who c) (ap (λ l. slice_get l r) same ∙ get_map who old r c e) in
              let E = all_at (IsAtEnd says shards) new r p.0 done p.1 in
              let O : ℕ × List Call × List ℕ × Geom → Type 0 = λ z. IsRankInOrder z.3 z.0 (asked_of z.1 z.2) (length z.1) (map (told_by r) ends) in
              let mine : O (who c) = subst O p.2 (subst (IsRankInOrder p.0.geom p.0.rank (asked_of p.0.calls.items p.0.sizes.items) (length p.0.calls.items)) (lists r p.0 p.1) E.order) in
              subst (λ k. IsRankInOrder c.geom k (asked_of c.calls.items c.sizes.items) (length c.calls.items) (map (told_by r) ends)) (are r c e).0 mine;
          at = λ s w e gw ge.
              let q = ended_at (IsShutSeat says) (IsEnd says) shards rows ends grid a s w e gw ge in (
                q.0,
                q.1,
                q.2 ∙ ap length is ∙ length-map new seats_of ∙ (sym (length-map new who) ∙ ap length same ∙ length-map old who),
                λ r t gt. (q.3 r t gt).2,
              );
          total = λ r c e.
              let p = get_map_back who new r (who c) (ap (λ l. slice_get l r) same ∙ get_map who old r c e) in
              let E = all_at (IsAtEnd says shards) new r p.0 done p.1 in
              ap entries_in (sym (lists r p.0 p.1)) ∙ E.total ∙ ap (λ (z : ℕ × List Call × List ℕ × Geom). length z.1) p.2;
        }

  pub callers_grid : {X : Type 0} (f : X → List (Seat C V)) (shards : List (Shard C V)) (old new : List (Caller C V)) (rows : List X) → AreCallers says shards old → All (IsCaller says shards) new → All (IsAtEnd says shards) new → map who new ≡ map who old → map f rows ≡ map seats_of new →
      IsGrid (IsShutSeat says) shards (map f rows)
  callers_grid f shards old new rows are all done same is = subst (IsGrid (IsShutSeat says) shards) (sym is) (rows_grid shards old new are all done same)

  pub each_caller : (shards : List (Shard C V)) (cs : List (Caller C V)) → AreCallers says shards cs → All (IsCaller says shards) cs
  each_caller shards cs are k d h = (are k (get_or cs k d) (slice_get-get_or cs k d h)).1

pub ok_more : {X E : Type 0} (P Q : X → Type 0) (r : Result X E) → ((x : X) → P x → Q x) → IfOk r P → IfOk r Q
ok_more P Q (Ok x) f p = f x p
ok_more P Q (Err e) f p = tt

-- a list that was lent whole, and written
pub written_back : {X : Type 0} (old new : List X) (n : ℕ) → n ≡ length new → take n (new ++ drop (length new) old) ≡ new
written_back old [] n e = ap (λ m. take m old) e
written_back old (x ∷ new) zero e = absurd (omega arith)
written_back old (x ∷ new) (suc n) e = ap (λ z. x ∷ z) (shorter old x new n (omega arith)) where
  after : {X : Type 0} (xs ys : List X) → take (length xs) (xs ++ ys) ≡ xs
  after [] ys = refl
  after (x ∷ xs) ys = ap (λ z. x ∷ z) (after xs ys)

  shorter : {X : Type 0} (old : List X) (x : X) (new : List X) (n : ℕ) → n ≡ length new → take n (new ++ drop (length (x ∷ new)) old) ≡ new
  shorter old x new n e = ap (λ m. take m (new ++ drop (length (x ∷ new)) old)) e ∙ after new (drop (length (x ∷ new)) old)
