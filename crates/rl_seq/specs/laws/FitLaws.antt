-- What holds of a side while others make atoms, and what a side is in the work inside the lock.
use Rattle.std.specs.Prelude.{◌≡◌, ℕ, ◌%◌, ◌<◌, Bool, true, false, List, length, map, slice_get, Option, Some, None, refl}
use Rattle.std.proofs.Common.{sym, ◌∙◌, ap, subst, ⊎_elim, arith}
use Rattle.std.proofs.lemmas.Bool.{cases_Bool}
use Rattle.rl_word.specs.laws.Places.{get_map, get_map_back}
use Rattle.rl_model.specs.Asked.{asks_update}
use Rattle.rl_step.specs.declared.events.Standing.{Standing}
use Rattle.rl_step.specs.declared.events.Standing.TheVariants.{Out, Asking, Writer, Reader, Leaving}
use Rattle.rl_step.specs.Lock.{IsHolder}
use Rattle.rl_work.specs.declared.stage.Stage.{Stage}
use Rattle.rl_work.specs.declared.stage.Stage.TheVariants.{Rest, Begin, Read, Journal, Volume}
use Rattle.rl_work.specs.laws.AtomLaws.{stores_alone}
use Rattle.rl_site.specs.Site.{Site, WaySite}
use Rattle.rl_work.specs.Work.{TheWork, stores}
use Rattle.rl_work.specs.WorkGood.{WorkSide, IsApart, is_writing}
use Rattle.rl_seq.specs.declared.stage.SeqStage.{SeqStage}
use Rattle.rl_seq.specs.declared.stage.SeqStage.TheVariants as stage
use Rattle.rl_seq.specs.Site.{front, version_in}
use Rattle.rl_seq.specs.SeqGood.{SeqRank, SeqGood, IsSeqApart, IsQuiet, IsOdd, IsReadingOut, HasVersion, SeqFitsAt, as_locked, locked_at, is_between}

-- the stages of a block of updates that is decided
abbrev pub is_decided : SeqStage → Bool
is_decided stage.Locked = false
is_decided stage.Look = false
is_decided (stage.Count version) = false
is_decided (stage.Read version count word) = false
is_decided (stage.Again version count) = false
is_decided stage.Decided = true
is_decided (stage.Open version) = true
is_decided (stage.Write version) = true
is_decided (stage.Close version) = true

pub between_decided : (st : SeqStage) → is_decided st ≡ false → is_between st ≡ false
between_decided stage.Locked e = refl
between_decided stage.Look e = refl
between_decided (stage.Count version) e = refl
between_decided (stage.Read version count word) e = refl
between_decided (stage.Again version count) e = refl
between_decided stage.Decided e = refl
between_decided (stage.Open version) e = refl
between_decided (stage.Write version) e = absurd (cc)
between_decided (stage.Close version) e = absurd (cc)

-- a side that stores nothing makes no writes
pub no_store : (st : Stage) → stores st ≡ false → is_writing st ≡ false
no_store Rest e = refl
no_store Begin e = refl
no_store (Read count word) e = refl
no_store (Journal made) e = absurd (cc)
no_store (Volume made) e = absurd (cc)

module _ (site : Site) (r : ℕ) (at_standing : Standing) (w : TheWork) where
  -- where words and version change, a get that has found a version has found one still, and not the new one
  fits_later : (words vs : List ℕ) (now next : ℕ) → ((version : ℕ) → HasVersion site version now → HasVersion site version next) →
      ((version : ℕ) → HasVersion site version now → next ≡ version → ⊥) →
      (st : SeqStage) → is_decided st ≡ false → SeqFitsAt site words now r at_standing w st → SeqFitsAt site vs next r at_standing w st
  fits_later words vs now next has not_now st e f = by_stage st e f where
    reading : (version count : ℕ) (wanted : Option ℕ) → IsReadingOut site words now r at_standing w version count wanted →
        IsReadingOut site vs next r at_standing w version count wanted
    reading version count wanted f =
        record {
          getting = f.getting;
          has = has version f.has;
          still = record { same_count = λ e. absurd (not_now version f.has e); same_words = λ e. absurd (not_now version f.has e) };
          wants = f.wants;
          named = f.named;
        }

    by_stage : (st : SeqStage) → is_decided st ≡ false → SeqFitsAt site words now r at_standing w st → SeqFitsAt site vs next r at_standing w st
    by_stage stage.Locked e f = f
    by_stage stage.Look e f = f
    by_stage (stage.Count version) e f = (f.0, has version f.1, f.2)
    by_stage (stage.Read version count word) e f = reading version count (Some word) f
    by_stage (stage.Again version count) e f = reading version count None f
    by_stage stage.Decided e f = absurd (cc)
    by_stage (stage.Open version) e f = absurd (cc)
    by_stage (stage.Write version) e f = absurd (cc)
    by_stage (stage.Close version) e f = absurd (cc)

  -- while the version is odd, the words change
  pub fits_odd : (words vs : List ℕ) (now : ℕ) → (now % 2 ≡ 0 → ⊥) → (st : SeqStage) → is_decided st ≡ false →
      SeqFitsAt site words now r at_standing w st → SeqFitsAt site vs now r at_standing w st
  fits_odd words vs now odd = fits_later words vs now now (λ version h. h)
      (λ version h same. odd (let even : version % 2 ≡ 0 = h.even in ap (λ n. n % 2) same ∙ even))

  -- another rank raises the version
  pub fits_raised : (words : List ℕ) (now next : ℕ) → now < next → (length site.rooms ≡ 1 → ⊥) → (st : SeqStage) → is_decided st ≡ false →
      SeqFitsAt site words now r at_standing w st → SeqFitsAt site words next r at_standing w st
  fits_raised words now next up others =
      fits_later words words now next
      (λ version h. record { even = h.even; past = let low = h.past in omega arith; alone = λ one. absurd (others one) })
      (λ version h same. let low = h.past in omega arith)

-- a side stands in the work inside the lock as it stands, or is about to leave
standing_back : (x : SeqRank) (st : Standing) → (st ≡ Leaving → ⊥) → (as_locked x).standing ≡ st → x.standing ≡ st
standing_back x st not_leaving e = by_stage x.work.stage e where
  by_stage : (s : SeqStage) → (locked_at x.standing x.work.work s).standing ≡ st → x.standing ≡ st
  by_stage stage.Locked e = e
  by_stage stage.Look e = e
  by_stage (stage.Count version) e = e
  by_stage (stage.Read version count word) e = e
  by_stage (stage.Again version count) e = e
  by_stage stage.Decided e = e
  by_stage (stage.Open version) e = e
  by_stage (stage.Write version) e = e
  by_stage (stage.Close version) e = absurd (not_leaving (sym e))

holds_back : (x : SeqRank) → IsHolder (as_locked x).standing → IsHolder x.standing
holds_back x h = by_standing (as_locked x).standing refl h where
  by_standing : (st : Standing) → (as_locked x).standing ≡ st → IsHolder st → IsHolder x.standing
  by_standing Out e h = absurd h
  by_standing Asking e h = absurd h
  by_standing Writer e h = subst IsHolder (sym (standing_back x Writer (λ q. cc) e)) tt
  by_standing Reader e h = subst IsHolder (sym (standing_back x Reader (λ q. cc) e)) tt
  by_standing Leaving e h = absurd h

-- so they are apart there too
pub locked_apart : (sides : List SeqRank) → IsSeqApart sides → IsApart (map as_locked sides)
locked_apart sides apart = record { excludes = excludes; reads = reads } where
  excludes : (i j : ℕ) (x y : WorkSide) → slice_get (map as_locked sides) i ≡ Some x → slice_get (map as_locked sides) j ≡ Some y →
      x.standing ≡ Writer → IsHolder y.standing → i ≡ j
  excludes i j x y a b w h =
      let u = get_map_back as_locked sides i x a in
      let v = get_map_back as_locked sides j y b in
      apart.excludes i j u.0 v.0 u.1 v.1 (standing_back u.0 Writer (λ q. cc) (ap (λ (z : WorkSide). z.standing) u.2 ∙ w))
      (holds_back v.0 (subst (λ (z : WorkSide). IsHolder z.standing) (sym v.2) h))

  reads : (r : ℕ) (x : WorkSide) → slice_get (map as_locked sides) r ≡ Some x → x.standing ≡ Reader → asks_update x.work.calls ≡ false
  reads r x a e =
      let u = get_map_back as_locked sides r x a in
      absurd (apart.no_readers r u.0 u.1 (standing_back u.0 Reader (λ q. cc) (ap (λ (z : WorkSide). z.standing) u.2 ∙ e)))

module _ (at : WaySite) (words : List ℕ) (sides : List SeqRank) (g : SeqGood at words sides) where
  -- of a rank, by where it stands
  pub fit_at : (r : ℕ) (x : SeqRank) → slice_get sides r ≡ Some x → (st : SeqStage) → x.work.stage ≡ st →
      SeqFitsAt at.site (front at words) (version_in at words) r x.standing x.work.work st
  fit_at r x has st e = subst (SeqFitsAt at.site (front at words) (version_in at words) r x.standing x.work.work) e (g.fits r x has)

  -- it is there in the work inside the lock
  pub locked_there : (r : ℕ) (x : SeqRank) → slice_get sides r ≡ Some x → (st : SeqStage) → x.work.stage ≡ st →
      slice_get (map as_locked sides) r ≡ Some (locked_at x.standing x.work.work st)
  locked_there r x has st e = get_map as_locked sides r x has ∙ ap (λ s. Some (locked_at x.standing x.work.work s)) e

  -- a block that is decided is a writer's
  pub decided_writes : (r : ℕ) (x : SeqRank) → slice_get sides r ≡ Some x → is_decided x.work.stage ≡ true → x.standing ≡ Writer
  decided_writes r x has d = by_stage x.work.stage refl d where
    plain : (st : SeqStage) → x.work.stage ≡ st → locked_at x.standing x.work.work st ≡ record { standing = x.standing; work = x.work.work }
        → stores x.work.work.stage ≡ true → x.standing ≡ Writer
    plain st e same writes =
        stores_alone at.site (front at words) (map as_locked sides) g.locked r (record { standing = x.standing; work = x.work.work })
        (locked_there r x has st e ∙ ap Some same) writes

    by_stage : (st : SeqStage) → x.work.stage ≡ st → is_decided st ≡ true → x.standing ≡ Writer
    by_stage stage.Locked e d = absurd (cc)
    by_stage stage.Look e d = absurd (cc)
    by_stage (stage.Count version) e d = absurd (cc)
    by_stage (stage.Read version count word) e d = absurd (cc)
    by_stage (stage.Again version count) e d = absurd (cc)
    by_stage stage.Decided e d = plain stage.Decided e refl (ap stores (fit_at r x has stage.Decided e))
    by_stage (stage.Open version) e d = plain (stage.Open version) e refl (ap stores (fit_at r x has (stage.Open version) e).0)
    by_stage (stage.Write version) e d = plain (stage.Write version) e refl (fit_at r x has (stage.Write version) e).0
    by_stage (stage.Close version) e d = (fit_at r x has (stage.Close version) e).1

  -- where a rank is between its stores to the version, that is odd
  pub between_odd : (r : ℕ) (x : SeqRank) → slice_get sides r ≡ Some x → is_between x.work.stage ≡ true → version_in at words % 2 ≡ 0 → ⊥
  between_odd r x has b even = by_stage x.work.stage refl b where
    odd : (version : ℕ) → IsOdd version (version_in at words) → ⊥
    odd version o = let e = o.even in let m = o.one_more in omega arith

    by_stage : (st : SeqStage) → x.work.stage ≡ st → is_between st ≡ true → ⊥
    by_stage stage.Locked e d = absurd (cc)
    by_stage stage.Look e d = absurd (cc)
    by_stage (stage.Count version) e d = absurd (cc)
    by_stage (stage.Read version count word) e d = absurd (cc)
    by_stage (stage.Again version count) e d = absurd (cc)
    by_stage stage.Decided e d = absurd (cc)
    by_stage (stage.Open version) e d = absurd (cc)
    by_stage (stage.Write version) e d = odd version (fit_at r x has (stage.Write version) e).1
    by_stage (stage.Close version) e d = odd version (fit_at r x has (stage.Close version) e).2

  -- so where it is even nobody is, and nobody makes writes
  pub even_quiet : version_in at words % 2 ≡ 0 → IsQuiet sides
  even_quiet even r x has = ⊎_elim (λ b. absurd (between_odd r x has b even)) (λ b. b) (cases_Bool (is_between x.work.stage))

  pub even_calm : version_in at words % 2 ≡ 0 → (r : ℕ) (x : WorkSide) → slice_get (map as_locked sides) r ≡ Some x → is_writing x.work.stage ≡ false
  even_calm even r y get =
      let u = get_map_back as_locked sides r y get in
      ap (λ (z : WorkSide). is_writing z.work.stage) (sym u.2) ∙ by_stage u.0 u.1 u.0.work.stage refl
    where
      by_stage : (x : SeqRank) → slice_get sides r ≡ Some x → (st : SeqStage) → x.work.stage ≡ st →
          is_writing (locked_at x.standing x.work.work st).work.stage ≡ false
      by_stage x has stage.Locked e = no_store x.work.work.stage (fit_at r x has stage.Locked e).0
      by_stage x has stage.Look e = refl
      by_stage x has (stage.Count version) e = refl
      by_stage x has (stage.Read version count word) e = refl
      by_stage x has (stage.Again version count) e = refl
      by_stage x has stage.Decided e = ap is_writing (fit_at r x has stage.Decided e)
      by_stage x has (stage.Open version) e = ap is_writing (fit_at r x has (stage.Open version) e).0
      by_stage x has (stage.Write version) e = absurd (between_odd r x has (ap is_between e) even)
      by_stage x has (stage.Close version) e = ap is_writing (fit_at r x has (stage.Close version) e).0
