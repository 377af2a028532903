-- How the ranks' looks change with an atom of one of them, and with the opening of a call.
use Rattle.std.specs.Prelude.{◌≡◌, ◌≢◌, ◌⊎◌, ℕ, ◌+◌, ◌==◌, Bool, true, false, ◌&&◌, List, [], ◌∷◌, ◌++◌, count_by, filter, length, slice_get, slice_set, Some, refl}
use Rattle.std.proofs.Common.{sym, ◌∙◌, ap, subst, inl, inr, ⊎_elim, arith}
use Rattle.std.proofs.lemmas.List.{append-nil}
use Rattle.std.proofs.lemmas.Option.{slice_get_within}
use Rattle.rl_word.specs.laws.Places.{one_at, some_at, get_set_cases, get_set_same}
use Rattle.rl_word.specs.declared.acts.Atom.{Atom}
use Rattle.rl_word.specs.declared.classes.Mode.TheVariants as mode
use Rattle.rl_model.specs.declared.call.Call.{Call}
use Rattle.rl_model.specs.declared.entry.Entry.{Entry}
use Rattle.rl_model.specs.Call.{is_update}
use Rattle.rl_model.proofs.Counts.{count-append}
use Rattle.rl_step.specs.declared.events.Standing.TheVariants.{Out}
use Rattle.rl_step.specs.declared.events.Stepped.TheVariants.{Moved}
use Rattle.rl_step.specs.Lock.{Rests}
use Rattle.rl_step.specs.Do.{do_words, do_got}
use Rattle.rl_journal.specs.Blocks.{is_tenure}
use Rattle.rl_work.specs.declared.follow.Follow.TheVariants.{Over}
use Rattle.rl_site.specs.Transcript.{TheTranscript}
use Rattle.rl_site.specs.Opens.{IsOpen}
use Rattle.rl_site.specs.Site.{journal_of, WaySite}
use Rattle.rl_work.specs.Ways.{IsApart, IsLaid, look, own_look, opened_look, AtomWork, SameWork, side_turned, tenure_of, AsksOut, mode_after}
use Rattle.rl_work.specs.Work.{more_entries}
use Rattle.rl_work.specs.WorkGood.{WorkSide as Seat}
use Rattle.rl_combine.specs.declared.stage.CombineStage.{CombineStage}
use Rattle.rl_combine.specs.declared.stage.CombineStage.TheVariants.{Rest, Post, Raise, Look as LookAt, Count, Sweep, Copy, Read, Journal, Volume, Answer, Mark, Collect, Lower}
use Rattle.rl_combine.specs.Posts.{post_word, post_of, answered_entry}
use Rattle.rl_combine.specs.Combine.{TheCombineSide, Opened, opened_of, combine_is_open, is_call, early, early_read, transcript, combine_owes, combine_stage_atom, combine_stage_after, combine_at_stage, with_own, combine_table, with_open}
use Rattle.rl_combine.specs.laws.Cases.{early_open}
use Rattle.rl_combine.specs.laws.Cases.{early_by}
use Rattle.rl_combine.specs.CombineGood.{RankSide, OwnAt, CombineGood}
use Rattle.rl_combine.specs.laws.PostLaws.{same_post}
use Rattle.rl_combine.specs.laws.MoveLaws.{Grows, SeatGoesOn, Keeps, seat_of}
use Rattle.rl_combine.specs.laws.AfterLaws.{Happens, goes, asks, ends, rests, happens}
use Rattle.rl_combine.specs.laws.TranscriptLaws.{HasNone, HasOne, shown, transcript_is}
use Rattle.rl_combine.specs.laws.StandLaws.{at_rest_of, opens}
use Rattle.rl_combine.specs.laws.LookLaws.{look_goes, handed_at, owes_one, no_more_entries}
use Rattle.rl_combine.specs.laws.CombineLaws.{atom_keeps}

add-zero-right : (n m : ℕ) → m ≡ 0 → n ≡ n + m
add-zero-right n m e = omega arith

-- words of the lock alone change: the looks stay
pub same_look : (S : WaySite) (node : ℕ → ℕ) (words others : List ℕ) (k : ℕ) (x : TheCombineSide) →
    SameWork (combine_table S node) words others → look (combine_table S node) others k x ≡ look (combine_table S node) words k x
same_look S node words others k x same =
    let post : post_of S others k ≡ post_of S words k = same_post S k words others (λ m h. same.behind (post_word S k m) (omega arith)) in
    let early_is : early S others k x ≡ early S words k x = by_open (combine_is_open x.stage) post in
    ap (λ l. record {
      calls = x.call ∷ [];
      seq = x.seq;
      items = x.kept.items ++ l;
      room = x.kept.room;
      owes =
          combine_is_open x.stage && (combine_is_open x.stage && (length l == 0));
    }) early_is
  where
    by_kind : (b : Bool) → post_of S others k ≡ post_of S words k → early_by S others k x b ≡ early_by S words k x b
    by_kind true post = ap (λ l. filter (is_call k x.seq) (journal_of S.site l)) same.before
    by_kind false post = ap (λ p. early_read S p k x) post

    by_open : (b : Bool) → post_of S others k ≡ post_of S words k → early_open S others k x b ≡ early_open S words k x b
    by_open true post = by_kind (is_update x.call) post
    by_open false post = refl

module _ (S : WaySite) (node : ℕ → ℕ) (words : List ℕ) (laid : IsLaid (combine_table S node) words) (sides : List RankSide)
    (g : CombineGood S words sides) where
  module _ (r : ℕ) (x : RankSide) (has : slice_get sides r ≡ Some x) where
    -- where no call is open the rank keeps all its entries itself
    pub closed : combine_is_open x.work.stage ≡ false → transcript S words r x.work ≡ x.work.kept.items
    closed e = ap (λ b. x.work.kept.items ++ early_open S words r x.work b) e ∙ append-nil x.work.kept.items

    -- a call is opened
    pub opened : (call : Call) (seq : ℕ) → x.standing ≡ Out → combine_is_open x.work.stage ≡ false → IsOpen S.site r (call ∷ []) seq x.work.kept →
        look (combine_table S node) words r (with_open x.work call seq) ≡ opened_look (look (combine_table S node) words r x.work) (call ∷ []) seq
    opened call seq out e o =
        let w : RankSide = record { standing = Out; work = with_open x.work call seq } in
        let kept : Keeps S words sides g words (slice_set sides r w) = opens S node words laid sides g r x has call seq out e o in
        let s = seat_of S node words laid sides g r x has in
        let new : slice_get (slice_set sides r w) r ≡ Some w = get_set_same sides r x w has in
        let u = seat_of S node words laid (slice_set sides r w) kept.good r w new in
        let rest : x.work.stage ≡ Rest = at_rest_of S node words laid sides g r x has e in
        let own : OwnAt S (post_of S words r) r x s.0 Rest = subst (OwnAt S (post_of S words r) r x s.0) rest (g.own r x s.0 has s.1) in
        let stays : u.0.work.transcript ≡ x.work.kept = ⊎_elim (λ same. same ∙ own.2.has) (λ (q : Grows S r s.0 u.0). let out = own.2.out in
        let writes = q.writes in absurd (cc)) (kept.seats r s.0 u.0 s.1 u.1) in
        let none : early S words r (with_open x.work call seq) ≡ [] =
        ⊎_elim (λ (n : HasNone S words r (with_open x.work call seq) u.0). n.none)
        (λ (q : HasOne S words r (with_open x.work call seq) u.0). absurd (no_more_entries x.work.kept q.entry (sym stays ∙ q.has)))
        (shown S words (slice_set sides r w) kept.good r w u.0 u.1 new) in
        ◌∙◌ {b = record { calls = call ∷ []; seq = seq; items = x.work.kept.items ++ []; room = x.work.kept.room; owes = true }}
        (ap (λ l. record {
          calls = call ∷ [];
          seq = seq;
          items = x.work.kept.items ++ l;
          room = x.work.kept.room;
          owes =
              true && (true && (length l == 0));
        }) none)
        (ap (λ l. record { calls = call ∷ []; seq = seq; items = l; room = x.work.kept.room; owes = true }) (append-nil x.work.kept.items ∙ sym (closed e)))

  module _ (apart : IsApart (combine_table S node) sides) (r : ℕ) (x : RankSide) (has : slice_get sides r ≡ Some x)
      (resting : Rests x.standing) (at : Atom) (cards : List ℕ) (planned : combine_stage_atom S r x.work x.work.stage ≡ Some at) where
    -- an atom is one of an open call
    open_now : (st : CombineStage) → combine_stage_atom S r x.work st ≡ Some at → combine_is_open st ≡ true
    open_now Rest p = absurd (cc)
    open_now (Post made) p = refl
    open_now Raise p = refl
    open_now LookAt p = refl
    open_now Count p = refl
    open_now (Sweep owner) p = refl
    open_now (Copy owner made) p = refl
    open_now (Read owner word) p = refl
    open_now (Journal owner made) p = refl
    open_now (Volume owner made) p = refl
    open_now (Answer owner made) p = refl
    open_now (Mark owner) p = refl
    open_now (Collect made) p = refl
    open_now Lower p = refl

    -- how the rank itself looks after its atom
    own_changes : (b : TheCombineSide) (y u : Seat) (vs : List ℕ) → slice_get g.seats r ≡ Some y →
        transcript S vs r b ≡ u.work.transcript.items → HasNone S vs r b u ⊎ HasOne S vs r b u → SeatGoesOn S r y u →
        (st : CombineStage) → Happens S r x.work (do_got at words cards) st → x.work.stage ≡ st → b ≡
        (combine_stage_after S r x.work (do_got at words cards) st).work →
        AtomWork S.site.shard r (look (combine_table S node) words r x.work) (look (combine_table S node) vs r b)
    own_changes b y u vs seat after have moves st (goes q) e b_is =
        let is : combine_is_open x.work.stage ≡ true = open_now x.work.stage planned in
        look_goes S node words vs r x.work b y u
        (record { same = ap opened_of b_is ∙ q.stays.same; open_too = ap (λ (z : TheCombineSide). combine_is_open z.stage) b_is ∙ q.stays.open_still ∙ sym is })
        (transcript_is S words sides g r x y seat has) after (shown S words sides g r x y seat has) have
        (handed_at S (post_of S words r) r x y x.work.stage (g.own r x y has seat)) moves
    own_changes b y u vs seat after have moves st (asks at_raise) e b_is =
        let b_at : b ≡ combine_at_stage x.work LookAt = b_is ∙ ap (λ s. (combine_stage_after S r x.work (do_got at words cards) s).work) at_raise in
        look_goes S node words vs r x.work b y u
        (record { same = ap opened_of b_at; open_too = ap (λ (z : TheCombineSide). combine_is_open z.stage) b_at ∙ sym (ap combine_is_open (e ∙ at_raise)) })
        (transcript_is S words sides g r x y seat has) after (shown S words sides g r x y seat has) have
        (handed_at S (post_of S words r) r x y x.work.stage (g.own r x y has seat)) moves
    own_changes b y u vs seat after have moves st (ends at_end) e b_is =
        let b_at : b ≡ with_own S r x.work = b_is ∙ ap (λ s. (combine_stage_after S r x.work (do_got at words cards) s).work) at_end in
        let o : OwnAt S (post_of S words r) r x y Lower = subst (OwnAt S (post_of S words r) r x y) (e ∙ at_end) (g.own r x y has seat) in
        let done : y.work.transcript ≡ more_entries x.work.kept
        (answered_entry S.site.shard r x.work.seq x.work.call (post_of S words r).answer ∷ []) = o.1.done.free.has in
        let stays : u.work.transcript ≡ y.work.transcript = ⊎_elim (λ same. same) (λ (q : Grows S r y u). let out = o.1.done.free.out in
        let writes = q.writes in absurd (cc)) moves in
        let one : HasOne S words r x.work y =
        ⊎_elim (λ (n : HasNone S words r x.work y). absurd (no_more_entries x.work.kept
        (answered_entry S.site.shard r x.work.seq x.work.call (post_of S words r).answer) (sym n.has ∙ done)))
        (λ (q : HasOne S words r x.work y). q)
        (shown S words sides g r x y seat has) in
        let over : (combine_is_open b.stage && combine_owes S vs r b) ≡ false =
        ap (λ (z : TheCombineSide). combine_is_open z.stage && combine_owes S vs r b) b_at in
        let none : (combine_is_open x.work.stage && combine_owes S words r x.work) ≡ false =
        ap (λ o. combine_is_open x.work.stage && o) (owes_one S node words vs r x.work b y u one)
        ∙ ap (λ st. combine_is_open st && (combine_is_open st && false)) (e ∙ at_end) in
        inl (record {
          same_calls = ap (λ (z : TheCombineSide). z.call ∷ []) b_at;
          same_seq = ap (λ (z : TheCombineSide). z.seq) b_at;
          same_items = after ∙ ap (λ (t : TheTranscript). t.items) stays ∙ sym (transcript_is S words sides g r x y seat has);
          same_room = ap (λ (z : TheCombineSide). z.kept.room) b_at;
          owes = over ∙ sym none;
        })
    own_changes b y u vs seat after have moves st (rests at_rest) e b_is =
        absurd (let p = subst (λ s. combine_stage_atom S r x.work s ≡ Some at) (e ∙ at_rest) planned in cc)

    -- each rank's call goes on, or is done
    pub changes : (k : ℕ) (u w : RankSide) → slice_get sides k ≡ Some u →
        slice_get (slice_set sides r (side_turned x.standing (combine_stage_after S r x.work (do_got at words cards) x.work.stage)))
        k ≡ Some w →
        AtomWork S.site.shard k (look (combine_table S node) words k u.work) (look (combine_table S node) (do_words at words) k w.work)
    changes k u w before after =
        let turned : RankSide = side_turned x.standing (combine_stage_after S r x.work (do_got at words cards) x.work.stage) in
        let q : Keeps S words sides g (do_words at words) (slice_set sides r turned) =
        atom_keeps S node words laid sides g apart r x has resting at cards planned in
        let y = seat_of S node words laid sides g k u before in
        let v = some_at q.good.seats k (let h = slice_get_within (slice_set sides r turned) k w after in let e = q.good.work.ranks in
        let f = q.good.ranks in omega arith) in
        let said : transcript S (do_words at words) k w.work ≡ v.0.work.transcript.items =
        transcript_is S (do_words at words) (slice_set sides r turned) q.good k w v.0 v.1 after in
        let have : HasNone S (do_words at words) k w.work v.0 ⊎ HasOne S (do_words at words) k w.work v.0 =
        shown S (do_words at words) (slice_set sides r turned) q.good k w v.0 v.1 after in
        let moves : SeatGoesOn S k y.0 v.0 = q.seats k y.0 v.0 y.1 v.1 in
        ⊎_elim
        (λ (c : (k ≡ r) × (w ≡ turned)).
        let u_is : u ≡ x = one_at sides r u x (subst (λ n. slice_get sides n ≡ Some u) c.0 before) has in
        subst (λ n. AtomWork S.site.shard n (look (combine_table S node) words n u.work) (look (combine_table S node) (do_words at words) n w.work)) (sym c.0)
        (subst (λ (z : RankSide). AtomWork S.site.shard r (look (combine_table S node) words r z.work)
        (look (combine_table S node) (do_words at words) r w.work)) (sym u_is)
        (own_changes w.work y.0 v.0 (do_words at words) (subst (λ n. slice_get g.seats n ≡ Some y.0) c.0 y.1)
        (subst (λ n. transcript S (do_words at words) n w.work ≡ v.0.work.transcript.items) c.0 said)
        (subst (λ n. HasNone S (do_words at words) n w.work v.0 ⊎ HasOne S (do_words at words) n w.work v.0) c.0 have)
        (subst (λ n. SeatGoesOn S n y.0 v.0) c.0 moves)
        x.work.stage (happens S r x.work (do_got at words cards) x.work.stage) refl (ap (λ (z : RankSide). z.work) c.1))))
        (λ (c : (k ≢ r) × (slice_get sides k ≡ Some w)).
        let w_is : w ≡ u = one_at sides k w u c.1 before in
        look_goes S node words (do_words at words) k u.work w.work y.0 v.0
        (record {
          same = ap (λ (z : RankSide). opened_of z.work) w_is;
          open_too =
              ap (λ (z : RankSide). combine_is_open z.work.stage) w_is;
        })
        (transcript_is S words sides g k u y.0 y.1 before) said (shown S words sides g k u y.0 y.1 before) have
        (handed_at S (post_of S words k) k u y.0 u.work.stage (g.own k u y.0 before y.1)) moves)
        (get_set_cases sides r k turned w after)

    -- and so it is by what the rank keeps itself
    own_turns : (st : CombineStage) → Happens S r x.work (do_got at words cards) st → x.work.stage ≡ st →
        AtomWork S.site.shard r (own_look (combine_table S node) x.work)
        (own_look (combine_table S node) (combine_stage_after S r x.work (do_got at words cards) st).work)
    own_turns st (goes q) e =
        let is : combine_is_open x.work.stage ≡ true = open_now x.work.stage planned in
        inl (record {
          same_calls = ap (λ (o : Opened). o.call ∷ []) q.stays.same;
          same_seq = ap (λ (o : Opened). o.seq) q.stays.same;
          same_items = ap (λ (o : Opened). o.kept.items) q.stays.same;
          same_room = ap (λ (o : Opened). o.kept.room) q.stays.same;
          owes = ap (λ b. b && true) (q.stays.open_still ∙ sym is);
        })
    own_turns st (asks at_raise) e =
        subst (λ s. AtomWork S.site.shard r (own_look (combine_table S node) x.work)
        (own_look (combine_table S node) (combine_stage_after S r x.work (do_got at words cards) s).work)) (sym at_raise)
        (inl (record {
          same_calls = refl;
          same_seq = refl;
          same_items = refl;
          same_room = refl;
          owes =
              sym (ap (λ s. combine_is_open s && true) (e ∙ at_raise));
        }))
    own_turns st (ends at_end) e =
        subst (λ s. AtomWork S.site.shard r (own_look (combine_table S node) x.work)
        (own_look (combine_table S node) (combine_stage_after S r x.work (do_got at words cards) s).work)) (sym at_end)
        (inr (record {
          was = ap (λ s. combine_is_open s && true) (e ∙ at_end);
          is_over = refl;
          same_room = refl;
          entries = answered_entry S.site.shard r x.work.seq x.work.call x.work.copied ∷ [];
          items = refl;
          calls_are = refl;
          tells = ((refl, refl, refl, refl, refl), tt);
        }))
    own_turns st (rests at_rest) e = absurd (let p = subst (λ s. combine_stage_atom S r x.work s ≡ Some at) (e ∙ at_rest) planned in cc)

    pub turns : AtomWork S.site.shard r (own_look (combine_table S node) x.work)
        (own_look (combine_table S node) (combine_stage_after S r x.work (do_got at words cards) x.work.stage).work)
    turns = own_turns x.work.stage (happens S r x.work (do_got at words cards) x.work.stage) refl

    -- the lock is asked for by a rank that is out, to write
    asks_at : (y : Seat) → slice_get g.seats r ≡ Some y → (st : CombineStage) → Happens S r x.work (do_got at words cards) st → x.work.stage ≡ st →
        AsksOut (combine_stage_after S r x.work (do_got at words cards) st).follow x.standing ×
        (mode.Write ≡ mode_after (combine_stage_after S r x.work (do_got at words cards) st).follow mode.Write)
    asks_at y seat st (goes q) e = subst (λ f. AsksOut f x.standing × (mode.Write ≡ mode_after f mode.Write)) (sym q.on) (tt, refl)
    asks_at y seat st (asks at_raise) e =
        let o : OwnAt S (post_of S words r) r x y Raise = subst (OwnAt S (post_of S words r) r x y) (e ∙ at_raise) (g.own r x y has seat) in
        subst (λ s. AsksOut (combine_stage_after S r x.work (do_got at words cards) s).follow x.standing ×
        (mode.Write ≡ mode_after (combine_stage_after S r x.work (do_got at words cards) s).follow mode.Write)) (sym at_raise)
        (o.0, refl)
    asks_at y seat st (ends at_end) e =
        subst (λ s. AsksOut (combine_stage_after S r x.work (do_got at words cards) s).follow x.standing ×
        (mode.Write ≡ mode_after (combine_stage_after S r x.work (do_got at words cards) s).follow mode.Write)) (sym at_end) (tt, refl)
    asks_at y seat st (rests at_rest) e = absurd (let p = subst (λ s. combine_stage_atom S r x.work s ≡ Some at) (e ∙ at_rest) planned in cc)

    pub follows : AsksOut (combine_stage_after S r x.work (do_got at words cards) x.work.stage).follow x.standing ×
        (mode.Write ≡ mode_after (combine_stage_after S r x.work (do_got at words cards) x.work.stage).follow mode.Write)
    follows = let s = seat_of S node words laid sides g r x has in asks_at s.0 s.1 x.work.stage (happens S r x.work (do_got at words cards) x.work.stage) refl

    -- it has always moved
    moved_at : (st : CombineStage) → Happens S r x.work (do_got at words cards) st → x.work.stage ≡ st →
        (combine_stage_after S r x.work (do_got at words cards) st).stepped ≡ Moved
    moved_at st (goes q) e = q.stays.moved
    moved_at st (asks at_raise) e = ap (λ s. (combine_stage_after S r x.work (do_got at words cards) s).stepped) at_raise
    moved_at st (ends at_end) e = ap (λ s. (combine_stage_after S r x.work (do_got at words cards) s).stepped) at_end
    moved_at st (rests at_rest) e = absurd (let p = subst (λ s. combine_stage_atom S r x.work s ≡ Some at) (e ∙ at_rest) planned in cc)

    pub moved : (combine_stage_after S r x.work (do_got at words cards) x.work.stage).stepped ≡ Moved
    moved = moved_at x.work.stage (happens S r x.work (do_got at words cards) x.work.stage) refl

    -- the kept entries are one tenure more exactly where the call is over, which was a writer's
    counts : (y : Seat) → slice_get g.seats r ≡ Some y → (st : CombineStage) → Happens S r x.work (do_got at words cards) st → x.work.stage ≡ st →
        count_by (is_tenure false) (combine_stage_after S r x.work (do_got at words cards) st).work.kept.items ≡ count_by
        (is_tenure false) x.work.kept.items + tenure_of (combine_stage_after S r x.work (do_got at words cards) st).follow x.standing
    counts y seat st (goes q) e =
        ap (λ (o : Opened). count_by (is_tenure false) o.kept.items) q.stays.same ∙ add-zero-right
        (count_by (is_tenure false) x.work.kept.items) (tenure_of (combine_stage_after S r x.work (do_got at words cards) st).follow
        x.standing) (ap (λ f. tenure_of f x.standing) q.on)
    counts y seat st (asks at_raise) e =
        subst (λ s. count_by (is_tenure false) (combine_stage_after S r x.work (do_got at words cards) s).work.kept.items ≡ count_by
        (is_tenure false) x.work.kept.items + tenure_of (combine_stage_after S r x.work (do_got at words cards) s).follow x.standing)
        (sym at_raise)
        (add-zero-right (count_by (is_tenure false) x.work.kept.items) 0 refl)
    counts y seat st (ends at_end) e =
        let o : OwnAt S (post_of S words r) r x y Lower = subst (OwnAt S (post_of S words r) r x y) (e ∙ at_end) (g.own r x y has seat) in
        let own : Entry = answered_entry S.site.shard r x.work.seq x.work.call x.work.copied in
        subst (λ s. count_by (is_tenure false) (combine_stage_after S r x.work (do_got at words cards) s).work.kept.items ≡ count_by
        (is_tenure false) x.work.kept.items + tenure_of (combine_stage_after S r x.work (do_got at words cards) s).follow x.standing)
        (sym at_end)
        (count-append (is_tenure false) x.work.kept.items (own ∷ [])
        ∙ ap (λ n. count_by (is_tenure false) x.work.kept.items + n) (sym (ap (tenure_of Over) o.0)))
    counts y seat st (rests at_rest) e = absurd (let p = subst (λ s. combine_stage_atom S r x.work s ≡ Some at) (e ∙ at_rest) planned in cc)

    pub tenures : count_by (is_tenure false) (combine_stage_after S r x.work (do_got at words cards) x.work.stage).work.kept.items
        ≡ count_by (is_tenure false) x.work.kept.items + tenure_of (combine_stage_after S r x.work (do_got at words cards) x.work.stage).follow x.standing
    tenures = let s = seat_of S node words laid sides g r x has in counts s.0 s.1 x.work.stage (happens S r x.work (do_got at words cards) x.work.stage) refl
