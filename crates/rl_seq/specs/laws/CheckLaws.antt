-- A get that has read all that it needs, and found the version again.
use Rattle.std.specs.Prelude.{◌≡◌, ℕ, ◌+◌, ◌%◌, ◌==◌, ◌≤◌, true, false, List, [], ◌∷◌, All, length, map, slice_get, slice_set, Some, None, refl}
use Rattle.std.specs.FinMap as finite
use Rattle.std.proofs.Common.{sym, ◌∙◌, ap, subst, arith}
use Rattle.std.proofs.lemmas.Bool.Decides.{nat_tests}
use Rattle.std.proofs.lemmas.List.Elements.{All-head}
use Rattle.rl_model.specs.declared.call.Call.{Call}
use Rattle.rl_model.specs.declared.call.Call.TheVariants.{Put, Get, Del, Add, Cas, Hold}
use Rattle.rl_model.specs.declared.entry.Entry.{Entry}
use Rattle.rl_model.specs.Asked.{IsAsked}
use Rattle.rl_model.specs.Call.{is_update, reads, shard_of}
use Rattle.rl_model.specs.Table.{Table}
use Rattle.rl_volume.specs.Seen.{next_word}
use Rattle.rl_volume.specs.Volume.{IsVolume}
use Rattle.rl_volume.proofs.Volumes.{decided as decided_as}
use Rattle.rl_journal.specs.Legal.{table_after}
use Rattle.rl_journal.specs.Ranks.{IsOwn}
use Rattle.rl_work.specs.declared.stage.Stage.TheVariants.{Rest}
use Rattle.rl_work.specs.Locked.{first_reads}
use Rattle.rl_site.specs.Site.{lock_base, volume_of, WaySite}
use Rattle.rl_work.specs.Unlocked.{wanted_by}
use Rattle.rl_work.specs.Ways.{side_turned, standing_done}
use Rattle.rl_work.specs.Work.{TheWork, WorkTurned, at_stage as at_work_stage, has_work, stores, seen_on, with_seen}
use Rattle.rl_work.specs.WorkGood.{HasOpen, IsDone}
use Rattle.rl_seq.specs.declared.stage.SeqStage.TheVariants as stage
use Rattle.rl_seq.specs.laws.FitLaws.{fit_at, locked_there, even_calm}
use Rattle.rl_seq.specs.laws.KeepLaws.{stays, getting_on}
use Rattle.rl_seq.specs.laws.OutcomeLaws.{IsReadOff, read_entry, reads_off}
use Rattle.rl_seq.specs.laws.RestLaws.{read_joins}
use Rattle.rl_seq.specs.Site.{front, version_in}
use Rattle.rl_seq.specs.SeqGood.{SeqRank, SeqGood, IsGetting, IsReadingOut, as_locked, is_between}
use Rattle.rl_seq.specs.SeqWork.{seq_at_stage}
use Rattle.rl_seq.specs.laws.Cases.{checked_by}

-- a call that reads is a get
pub get_key : (c : Call) → reads c ≡ true → (key : ℕ) × (c ≡ Get key)
get_key (Put key value) e = absurd (cc)
get_key (Get key) e = (key, refl)
get_key (Del key) e = absurd (cc)
get_key (Add key by) e = absurd (cc)
get_key (Cas key old new) e = absurd (cc)
get_key (Hold shard) e = absurd (cc)

-- it is no update
pub no_update : (c : Call) → reads c ≡ true → is_update c ≡ false
no_update c e = ap is_update (get_key c e).1

-- and its block is that call alone
pub get_alone : (cs : List Call) → IsAsked cs → first_reads cs ≡ true → (c : Call) × (cs ≡ c ∷ []) × (reads c ≡ true)
get_alone [] a e = absurd (cc)
get_alone (c ∷ cs) a e = (c, one cs (a.alone (no_update c e)), e) where
  one : (ds : List Call) → length (c ∷ ds) ≡ 1 → c ∷ ds ≡ c ∷ []
  one [] h = refl
  one (d ∷ ds) h = absurd (omega arith)

module _ (at : WaySite) (words : List ℕ) (low : lock_base at.site ≤ at.behind) (size : length words ≡ at.behind + 1) (sides : List SeqRank)
    (g : SeqGood at words sides) (r : ℕ) (x : SeqRank) (has : slice_get sides r ≡ Some x) where
  module _ (version count : ℕ) (e : x.work.stage ≡ stage.Again version count)
      (f : IsReadingOut at.site (front at words) (version_in at words) r x.standing x.work.work version count None) where
    -- the version is the one found: the get is done
    gets : version_in at words ≡ version →
        SeqGood at words (slice_set sides r
        (record {
          standing = standing_done x.standing;
          work = seq_at_stage (seen_on at.site.geom at.site.shard r x.work.work count).work
              stage.Locked;
        }))
    gets same =
        let w : TheWork = x.work.work in
        let q : IsGetting at.site r x.standing w = f.getting in
        let o : HasOpen at.site r w = q.open_call in
        let a = get_alone w.calls o.is_block q.get in
        let c : Call = a.0 in
        let calls : w.calls ≡ c ∷ [] = a.1 in
        let none : next_word at.site.geom c w.seen.pairs ≡ None = ap (λ cs. wanted_by at.site.geom cs w.seen.pairs) (sym calls) ∙ f.wants in
        let t : WorkTurned = seen_on at.site.geom at.site.shard r w count in
        let off : IsReadOff at.site.geom at.site.shard r count w c t = reads_off at.site.geom at.site.shard r count w c calls q.no_reply a.2 none in
        let even : version_in at words % 2 ≡ 0 = ap (λ n. n % 2) same ∙ f.has.even in
        let m : Table = table_after at.site.geom finite.empty g.locked.journal in
        let of_shard : shard_of at.site.geom c ≡ at.site.shard =
        All-head (λ z. shard_of at.site.geom z ≡ at.site.shard) c []
        (subst (All (λ z. shard_of at.site.geom z ≡ at.site.shard)) calls o.of_shard) in
        let volume : IsVolume at.site.geom at.site.shard (volume_of at.site.geom (front at words)) m =
        subst (λ z. IsVolume at.site.geom at.site.shard z m) (sym (g.locked.still (even_calm at words sides g even))) g.locked.volume in
        let decided = decided_as at.site.geom g.locked.geom_fits c w.seen.pairs (volume_of at.site.geom (front at words)) m
        (record {
          volume = subst (λ z. IsVolume at.site.geom z (volume_of at.site.geom (front at words)) m) (sym of_shard) volume;
          agrees =
              f.still.same_words same;
          over = none;
        }) in
        let found : count ≡ length g.locked.journal = sym (f.still.same_count same) ∙ g.locked.count in
        let entry : Entry = read_entry at.site.geom at.site.shard r count w c in
        let long : length w.calls ≡ 1 = ap length calls in
        let own : IsOwn at.site.shard r entry = record { shard_is = refl; rank_is = refl; small = let few = o.small in omega arith } in
        let done : IsDone (standing_done x.standing) = subst (λ z. IsDone (standing_done z)) (sym q.out) tt in
        stays at words low size sides g r x has (ap is_between e) (record { standing = standing_done x.standing; work = seq_at_stage t.work stage.Locked })
        (read_joins at.site (front at words) (map as_locked sides) g.locked r
        (record { standing = x.standing; work = at_work_stage w Rest })
        (locked_there at words sides g r x has (stage.Again version count) e)
        (record { standing = standing_done x.standing; work = t.work }) entry off.rests done refl off.same_room off.items own
        (no_update c a.2) o.fresh found decided.1)
        (ap stores off.rests, λ b. let no : has_work t.work.stage ≡ false = ap has_work off.rests in absurd (cc))

    -- it is another: the get begins anew
    loses : SeqGood at words (slice_set sides r (record { standing = x.standing; work = seq_at_stage (with_seen x.work.work []) stage.Look }))
    loses =
        let q : IsGetting at.site r x.standing x.work.work = f.getting in
        getting_on at words low size sides g r x has (ap is_between e)
        (locked_there at words sides g r x has (stage.Again version count) e) q.out (with_seen x.work.work []) stage.Look refl refl refl
        (record { open_call = q.open_call; get = q.get; out = q.out; no_reply = q.no_reply }, refl)

  pub checks : (version count : ℕ) → x.work.stage ≡ stage.Again version count
      → SeqGood at words (slice_set sides r (side_turned x.standing
      (checked_by at r x.work.work version count (version_in at words) (version_in at words == version))))
  checks version count e =
      let f : IsReadingOut at.site (front at words) (version_in at words) r x.standing x.work.work version count None =
      fit_at at words sides g r x has (stage.Again version count) e in
      elim (version_in at words == version) as (λ b. (version_in at words == version) ≡ b → SeqGood at words
      (slice_set sides r (side_turned x.standing (checked_by at r x.work.work version count (version_in at words) b)))) [
        | true ↦ λ is. let same : version_in at words ≡ version = grind (arith, nat_tests) in gets version count e f same
        | false ↦ λ is. loses version count e f
      ] refl
