-- Between the lock's part and the work's part of the rule: what an atom of the lock does to a standing, and an atom of the work to
-- the words.
use Rattle.std.specs.Prelude.{◌≡◌, ◌⊎◌, ℕ, ◌+◌, ◌-◌, ◌==◌, Bool, true, false, cond, List, [], ◌∷◌, ◌++◌, take, drop, if◌then◌else◌, slice_index, slice_set, Option, Some, None, refl}
use Rattle.std.proofs.Common.{◌∙◌, ap, subst, ⊎_elim, arith}
use Rattle.std.proofs.lemmas.List.{take-set-le, drop-set-lt, drop-set-add}
use Rattle.rl_word.specs.declared.acts.Act.{Act}
use Rattle.rl_word.specs.declared.acts.Atom.{Atom}
use Rattle.rl_word.specs.declared.acts.Atom.TheVariants as atom
use Rattle.rl_word.specs.Acts.{by_card}
use Rattle.rl_step.specs.declared.events.Event.{Event}
use Rattle.rl_step.specs.declared.events.Event.TheVariants.{Join, Announce, Pass, Settle, Touch, EnterW, EnterR, LeaveW, LeaveR}
use Rattle.rl_step.specs.declared.events.Standing.{Standing}
use Rattle.rl_step.specs.declared.events.Standing.TheVariants as standing
use Rattle.rl_step.specs.declared.events.Stepped.TheVariants.{Moved, Busy}
use Rattle.rl_step.specs.Queues.{count}
use Rattle.rl_step.specs.Lock.{Shift, holds_only}
use Rattle.rl_step.specs.laws.CoreLemmas.{length-do_words}
use Rattle.rl_step.specs.Do.{do_words, do_cards}
use Rattle.rl_site.specs.Site.{lock_base}
use Rattle.rl_work.specs.Ways.{SameWork, IsWorkWord, IsWorkAtom}
use Rattle.rl_rank.specs.Running.{LockAt}
use Rattle.rl_rank.specs.laws.ShiftLaws.{IsLow, above_stays}
use Rattle.rl_rank.specs.declared.card_state.CardState.{CardState}
use Rattle.rl_rank.specs.declared.card_state.CardState.TheVariants.{Free, InCard, Loaded, ToLeave}
use Rattle.rl_rank.specs.declared.effect.Effect.{Effect}
use Rattle.rl_rank.specs.declared.effect.Effect.TheVariants.{Work, Stay, Learn}
use Rattle.rl_rank.specs.Split.{skips, effect_at, atom_at}
use Rattle.rl_rank.specs.Whole.{leaves, shifted, lock_words}

-- what an atom of the lock may do to a standing, with its events
abbrev pub Moves : ℕ → Standing → Standing → List Event → Type 0
Moves r old new es = ((new ≡ old) × (es ≡ [])) ⊎ Shift r old new (holds_only es)

-- departures of writers are events of holders
pub leaves_held : (k : ℕ) (es : List Event) → leaves k es ≡ leaves k (holds_only es)
leaves_held k [] = refl
leaves_held k (Join q m ∷ es) = leaves_held k es
leaves_held k (Announce c ∷ es) = leaves_held k es
leaves_held k (Pass q m ∷ es) = leaves_held k es
leaves_held k (Settle q m ∷ es) = leaves_held k es
leaves_held k (Touch j w ∷ es) = leaves_held k es
leaves_held k (EnterW j ∷ es) = leaves_held k es
leaves_held k (EnterR j ∷ es) = leaves_held k es
leaves_held k (LeaveW j ∷ es) = ap (λ z. count (j == k) + z) (leaves_held k es)
leaves_held k (LeaveR j ∷ es) = leaves_held k es

pub leaves_more : (k : ℕ) (es fs : List Event) → leaves k (es ++ fs) ≡ leaves k es + leaves k fs
leaves_more k [] fs = omega arith
leaves_more k (Join q m ∷ es) fs = leaves_more k es fs
leaves_more k (Announce c ∷ es) fs = leaves_more k es fs
leaves_more k (Pass q m ∷ es) fs = leaves_more k es fs
leaves_more k (Settle q m ∷ es) fs = leaves_more k es fs
leaves_more k (Touch j w ∷ es) fs = leaves_more k es fs
leaves_more k (EnterW j ∷ es) fs = leaves_more k es fs
leaves_more k (EnterR j ∷ es) fs = leaves_more k es fs
leaves_more k (LeaveW j ∷ es) fs = omega (arith, leaves_more k es fs)
leaves_more k (LeaveR j ∷ es) fs = leaves_more k es fs

-- an act of the lock has none
shift_leaves : (k r : ℕ) (old new : Standing) (es : List Event) → Shift r old new es → leaves k es ≡ 0
shift_leaves k r standing.Out new es s = absurd s
shift_leaves k r standing.Asking standing.Out es s = absurd s
shift_leaves k r standing.Asking standing.Asking es s = ap (leaves k) s
shift_leaves k r standing.Asking standing.Writer es s = ap (leaves k) s
shift_leaves k r standing.Asking standing.Reader es s = ap (leaves k) s
shift_leaves k r standing.Asking standing.Leaving es s = absurd s
shift_leaves k r standing.Writer new es s = absurd s
shift_leaves k r standing.Reader new es s = absurd s
shift_leaves k r standing.Leaving standing.Out es s = ap (leaves k) s
shift_leaves k r standing.Leaving standing.Asking es s = absurd s
shift_leaves k r standing.Leaving standing.Writer es s = absurd s
shift_leaves k r standing.Leaving standing.Reader es s = absurd s
shift_leaves k r standing.Leaving standing.Leaving es s = ap (leaves k) s

pub moves_leaves : (k r : ℕ) (old new : Standing) (es : List Event) → Moves r old new es → leaves k es ≡ 0
moves_leaves k r old new es m = ⊎_elim (λ q. ap (leaves k) q.1) (λ s. leaves_held k es ∙ shift_leaves k r old new (holds_only es) s) m

-- an atom of the lock is no work
abbrev pub is_work : Effect → Bool
is_work Work = true
is_work (Stay c s) = false
is_work (Learn c t l) = false

first_no_work : (a : Act) (home got : ℕ) (b z : Bool) → is_work
    (cond b (cond z (Stay InCard Moved) (Stay Free (Busy home (got - 1)))) (Learn Free got (skips a got))) ≡ false
first_no_work a home got true true = refl
first_no_work a home got true false = refl
first_no_work a home got false z = refl

load_no_work : (home got : ℕ) (b : Bool) → is_work (cond b (Learn (ToLeave home) got true) (Stay (Loaded got) Moved)) ≡ false
load_no_work home got true = refl
load_no_work home got false = refl

pub no_work : (home : ℕ) (p : Option Act) (c : CardState) (got : ℕ) (at : Atom) → atom_at home p c ≡ Some at → is_work (effect_at home p c got) ≡ false
no_work home p (ToLeave n) got at e = refl
no_work home None Free got at e = absurd (cc)
no_work home None InCard got at e = absurd (cc)
no_work home None (Loaded g) got at e = absurd (cc)
no_work home (Some a) Free got at e = first_no_work a home got (by_card a) (got == 0)
no_work home (Some a) InCard got at e = load_no_work home got (skips a got)
no_work home (Some a) (Loaded g) got at e = refl

-- an atom of the lock leaves the words before the lock's
pub front_stays : (base : ℕ) (at : Atom) (ws : List ℕ) → take base (do_words (shifted base at) ws) ≡ take base ws
front_stays base (atom.Load w) ws = refl
front_stays base (atom.Store w v) ws = take-set-le base ws (base + w) v (omega arith)
front_stays base (atom.LocalCas w old new) ws = either (slice_index ws (base + w) == old) where
  either : (b : Bool) → take base (if b then slice_set ws (base + w) new else ws) ≡ take base ws
  either true = take-set-le base ws (base + w) new (omega arith)
  either false = refl
front_stays base (atom.Take n) ws = refl
front_stays base (atom.CardLoad w) ws = refl
front_stays base (atom.CardStore w v) ws = take-set-le base ws (base + w) v (omega arith)
front_stays base (atom.Leave n) ws = refl

-- an atom of the work leaves the lock's words and the cards
pub record IsOffLock {V K : Type 0} (L : LockAt V K) (r : ℕ) (at : Atom) (ws cs : List ℕ) : Type 0 where
  pub words : lock_words L (do_words at ws) ≡ lock_words L ws
  pub cards : do_cards r at cs ≡ cs

module _ {V K : Type 0} (L : LockAt V K) (base_is : L.base ≡ lock_base L.work.site) (behind_is : L.work.behind ≡ L.base + L.table.size) where
  set_off : (w v : ℕ) (ws : List ℕ) → IsWorkWord L.work w → lock_words L (slice_set ws w v) ≡ lock_words L ws
  set_off w v ws h =
      ⊎_elim
      (λ low. ap (take L.table.size) (drop-set-lt L.base ws w v (omega arith)))
      (λ high.
      let k : ℕ = w - L.base in
      let at : w ≡ L.base + k = omega arith in
      ap (λ n. take L.table.size (drop L.base (slice_set ws n v))) at ∙ ap (take L.table.size) (drop-set-add L.base ws k v)
      ∙ take-set-le L.table.size (drop L.base ws) k v (omega arith))
      h.place

  pub off_lock : (r : ℕ) (at : Atom) (ws cs : List ℕ) → IsWorkAtom L.work at → IsOffLock L r at ws cs
  off_lock r (atom.Load w) ws cs h = record { words = refl; cards = refl }
  off_lock r (atom.Store w v) ws cs h = record { words = set_off w v ws h; cards = refl }
  off_lock r (atom.LocalCas w old new) ws cs h = absurd h
  off_lock r (atom.Take n) ws cs h = absurd h
  off_lock r (atom.CardLoad w) ws cs h = absurd h
  off_lock r (atom.CardStore w v) ws cs h = absurd h
  off_lock r (atom.Leave n) ws cs h = absurd h

  -- and an atom of the lock leaves the words of the work
  pub same_work : (at : Atom) (ws : List ℕ) → IsLow L.table.size at → SameWork L.work ws (do_words (shifted L.base at) ws)
  same_work at ws low =
      record {
        same_length = length-do_words (shifted L.base at) ws;
        before = subst (λ b. take b (do_words (shifted L.base at) ws) ≡ take b ws) base_is (front_stays L.base at ws);
        behind = λ w h. above_stays L.base L.table.size at ws w low (omega arith);
      }
