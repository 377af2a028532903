-- The lock and its settings as a section of lines: what is read is spelled so, and what is spelled so is read.
use Rattle.std.proofs.Common.{◌≡◌, ℕ, ◌+◌, ◌≤◌, List, [], ◌∷◌, codes, Result, Ok, refl, sym, ap, subst, ◌∙◌, arith}
use Rattle.rl_text.specs.declared.causes.Refusal.{Refusal}
use Rattle.rl_text.specs.Rows.{Row, Left, words}
use Rattle.rl_text.specs.Reading.{next_left, ◌>>=◌}
use Rattle.rl_text.proofs.FromLaws.{from_bind}
use Rattle.rl_text.proofs.WordLaws.{ok_is}
use Rattle.rl_text.proofs.SectionLaws.{Followed, Followed-head, Followed-then, Followed-split, line-takes, line-again, one_line, line_then, left_of}
use Rattle.rl_place.specs.declared.limits.TheConstants.{MOST_BUDGET, MOST_RANKS}
use Rattle.rl_place.specs.declared.lock.Lock.{Lock}
use Rattle.rl_place.specs.declared.lock.Lock.TheVariants.{Spin, Dmcs, Alock, Mcs, Rw, Seq, Combine}
use Rattle.rl_word.specs.declared.locks.LockName.{LockName}
use Rattle.rl_word.specs.declared.locks.LockName.TheVariants as named
use Rattle.rl_place.specs.Places.{LockFits, BudgetsFit, RwFits}
use Rattle.rl_place.specs.Reading.{lock_name_at, budgets_at, cohorts_at, cohorts_next, of_cohorts, setting_next, mcs_next, rw_next, settings_next, lock_next}
use Rattle.rl_place.specs.LockWords.{lock_word, name_of}
use Rattle.rl_place.specs.Spelling.{setting_words, budget_words, settings_lines, lock_lines}
use Rattle.rl_place.proofs.SettingLaws.{ReadsTo, setting_next-takes, setting_next-again}
use Rattle.rl_place.proofs.LockLaws.{lock_name-takes, lock_name-again, budget_line-takes, budget_line-again, cohorts-take, cohorts-again}

-- ---- what is read is spelled so

pub record SettingsTaken (levels : ℕ) (name : LockName) (left : Left) (p : Lock × Left) : Type 0 where
  pub is : name_of p.0 ≡ name
  pub fits : LockFits levels p.0
  pub lines : Followed left.rows (settings_lines p.0) p.1.rows

none-take : (levels : ℕ) (name : LockName) (lock : Lock) (left : Left) (p : Lock × Left) → name_of lock ≡ name → LockFits levels lock → settings_lines lock ≡ []
    → ◌≡◌ {A = Result (Lock × Left) Refusal} (Ok (lock, left)) (Ok p) → SettingsTaken levels name left p
none-take levels name lock left p is fits none e =
    subst (λ (q : Lock × Left). SettingsTaken levels name left q) (ok_is (lock, left) p e) (record { is = is; fits = fits; lines = rw none refl })

-- a lock with the budgets of two cohorts and no other setting
pub record IsOfCohorts (levels : ℕ) (name : LockName) (lock : ℕ → ℕ → Lock) : Type 0 where
  pub is : (local remote : ℕ) → name_of (lock local remote) ≡ name
  pub fits : (local remote : ℕ) → local ≤ MOST_BUDGET → remote ≤ MOST_BUDGET → LockFits levels (lock local remote)
  pub lines : (local remote : ℕ) → settings_lines (lock local remote) ≡ budget_words (local ∷ remote ∷ []) ∷ []

pub record CohortsRead (left : Left) (read : (ℕ × ℕ) × Left) : Type 0 where
  pub local : read.0.0 ≤ MOST_BUDGET
  pub remote : read.0.1 ≤ MOST_BUDGET
  pub lines : Followed left.rows (budget_words (read.0.0 ∷ read.0.1 ∷ []) ∷ []) read.1.rows

cohorts-read : (left : Left) (read : (ℕ × ℕ) × Left) → cohorts_next left ≡ Ok read → CohortsRead left read
unfolding cohorts_next
cohorts-read left read e =
    from_bind (next_left left) _ read e (λ line taken e1.
    from_bind (cohorts_at line.0) _ read e1 (λ cohorts budgets e2.
    let t = cohorts-take line.0 cohorts budgets in
    subst (CohortsRead left) (ok_is (cohorts, line.1) read e2) (record {
      local = t.local;
      remote = t.remote;
      lines = one_line left line _ (line-takes left line taken) t.are;
    })))

cohorts-taken : (levels : ℕ) (name : LockName) (lock : ℕ → ℕ → Lock) (left : Left) (p : Lock × Left) → IsOfCohorts levels name lock → (cohorts_next left >>= of_cohorts lock) ≡ Ok p → SettingsTaken levels name left p
cohorts-taken levels name lock left p by e =
    from_bind (cohorts_next left) _ p e (λ read taken e1.
    let t = cohorts-read left read taken in
    subst (SettingsTaken levels name left) (ok_is (lock read.0.0 read.0.1, read.1) p e1) (record {
      is = by.is read.0.0 read.0.1;
      fits = by.fits read.0.0 read.0.1 t.local t.remote;
      lines = subst (λ lines. Followed left.rows lines read.1.rows) (sym (by.lines read.0.0 read.0.1)) t.lines;
    }))

mcs-takes : (levels : ℕ) (left : Left) (p : Lock × Left) → mcs_next levels left ≡ Ok p → SettingsTaken levels named.Mcs left p
unfolding mcs_next
mcs-takes levels left p e =
    from_bind (next_left left) _ p e (λ line taken e1.
    from_bind (budgets_at line.0 levels) _ p e1 (λ budgets numbers e2.
    let t = budget_line-takes line.0 levels budgets numbers in
    subst (λ (q : Lock × Left). SettingsTaken levels named.Mcs left q) (ok_is (Mcs budgets, line.1) p e2) (record {
      is = refl;
      fits = t.fit;
      lines = one_line left line _ (line-takes left line taken) t.are;
    })))

rw-takes : (levels : ℕ) (left : Left) (p : Lock × Left) → rw_next levels left ≡ Ok p → SettingsTaken levels named.Rw left p
unfolding rw_next
rw-takes levels left p e =
    from_bind (next_left left) _ p e (λ line taken e1.
    from_bind (budgets_at line.0 levels) _ p e1 (λ budgets numbers e2.
    from_bind (setting_next (codes "writers") 0 MOST_BUDGET line.1) _ p e2 (λ writers second e3.
    from_bind (setting_next (codes "readers") 1 MOST_BUDGET writers.1) _ p e3 (λ readers third e4.
    from_bind (setting_next (codes "group") 1 MOST_RANKS readers.1) _ p e4 (λ group fourth e5.
    let t = budget_line-takes line.0 levels budgets numbers in
    let a = setting_next-takes (codes "writers") 0 MOST_BUDGET line.1 writers second in
    let b = setting_next-takes (codes "readers") 1 MOST_BUDGET writers.1 readers third in
    let c = setting_next-takes (codes "group") 1 MOST_RANKS readers.1 group fourth in
    let last = setting_words (codes "group") group.0 ∷ [] in
    let two = setting_words (codes "readers") readers.0 ∷ last in
    let three = setting_words (codes "writers") writers.0 ∷ two in
    let bc : Followed writers.1.rows two group.1.rows = Followed-then writers.1.rows readers.1.rows group.1.rows (setting_words (codes "readers") readers.0 ∷ []) last b.lines c.lines in
    let abc : Followed line.1.rows three group.1.rows = Followed-then line.1.rows writers.1.rows group.1.rows (setting_words (codes "writers") writers.0 ∷ []) two a.lines bc in
    subst (λ (q : Lock × Left). SettingsTaken levels named.Rw left q) (ok_is (Rw budgets writers.0 readers.0 group.0, group.1) p e5) (record {
      is = refl;
      fits = record { each = t.fit; most_writers = a.most; some_readers = b.least; most_readers = b.most; some_group = c.least; most_group = c.most };
      lines = line_then left line (budget_words budgets) three group.1.rows (line-takes left line taken) t.are abc;
    }))))))

settings-take : (levels : ℕ) (name : LockName) (left : Left) (p : Lock × Left) → settings_next levels name left ≡ Ok p → SettingsTaken levels name left p
unfolding settings_next
settings-take levels named.Spin left p e = none-take levels named.Spin Spin left p refl tt refl e
settings-take levels named.Dmcs left p e = none-take levels named.Dmcs Dmcs left p refl tt refl e
settings-take levels named.Alock left p e = cohorts-taken levels named.Alock Alock left p (record { is = λ a b. refl; fits = λ a b few small. (few, small); lines = λ a b. refl }) e
settings-take levels named.Seq left p e = cohorts-taken levels named.Seq Seq left p (record { is = λ a b. refl; fits = λ a b few small. (few, small); lines = λ a b. refl }) e
settings-take levels named.Combine left p e = cohorts-taken levels named.Combine Combine left p (record { is = λ a b. refl; fits = λ a b few small. (few, small); lines = λ a b. refl }) e
settings-take levels named.Mcs left p e = mcs-takes levels left p e
settings-take levels named.Rw left p e = rw-takes levels left p e

pub record LockSection (levels : ℕ) (left : Left) (p : Lock × Left) : Type 0 where
  pub fits : LockFits levels p.0
  pub lines : Followed left.rows (lock_lines p.0) p.1.rows

pub lock-takes : (levels : ℕ) (left : Left) (p : Lock × Left) → lock_next levels left ≡ Ok p → LockSection levels left p
unfolding lock_next
lock-takes levels left p e =
    from_bind (next_left left) _ p e (λ line taken e1.
    from_bind (lock_name_at line.0) _ p e1 (λ name is_name settings.
    let t = settings-take levels name line.1 p settings in
    let w : words line.0 ≡ codes "lock" ∷ lock_word (name_of p.0) ∷ [] = lock_name-takes line.0 name is_name ∙ ap (λ (x : LockName). codes "lock" ∷ lock_word x ∷ []) (sym t.is) in
    record {
      fits = t.fits;
      lines = line_then left line _ (settings_lines p.0) p.1.rows (line-takes left line taken) w t.lines;
    }))

-- ---- what is spelled so is read

cohorts-once-more : (lock : ℕ → ℕ → Lock) (local remote : ℕ) (left : Left) (rest : List Row) → local ≤ MOST_BUDGET → remote ≤ MOST_BUDGET → Followed left.rows (budget_words (local ∷ remote ∷ []) ∷ []) rest
    → ReadsTo (cohorts_next left >>= of_cohorts lock) (lock local remote) rest
unfolding cohorts_next
cohorts-once-more lock local remote left rest few small f =
    let h = Followed-head left.rows (budget_words (local ∷ remote ∷ [])) [] rest f in
    let rows : left.rows ≡ h.row ∷ rest = h.are ∙ ap (λ (more : List Row). h.row ∷ more) h.others in
    (left.read + 1, rw (line-again left h.row rest rows h.line.ended, cohorts-again h.row local remote few small h.line.words) refl)

mcs-again : (levels : ℕ) (budgets : List ℕ) (left : Left) (rest : List Row) → BudgetsFit levels budgets → Followed left.rows (budget_words budgets ∷ []) rest → ReadsTo (mcs_next levels left) (Mcs budgets) rest
unfolding mcs_next
mcs-again levels budgets left rest fit f =
    let h = Followed-head left.rows (budget_words budgets) [] rest f in
    let rows : left.rows ≡ h.row ∷ rest = h.are ∙ ap (λ (more : List Row). h.row ∷ more) h.others in
    (left.read + 1, rw (line-again left h.row rest rows h.line.ended, budget_line-again h.row levels budgets fit h.line.words) refl)

rw-again : (levels : ℕ) (budgets : List ℕ) (writers readers group : ℕ) (left : Left) (rest : List Row) → RwFits levels budgets writers readers group
    → Followed left.rows (settings_lines (Rw budgets writers readers group)) rest → ReadsTo (rw_next levels left) (Rw budgets writers readers group) rest
unfolding rw_next
rw-again levels budgets writers readers group left rest fits f =
    let last = setting_words (codes "group") group ∷ [] in
    let two = setting_words (codes "readers") readers ∷ last in
    let h = Followed-head left.rows (budget_words budgets) (setting_words (codes "writers") writers ∷ two) rest f in
    let x = Followed-split h.more rest (setting_words (codes "writers") writers ∷ []) two h.others in
    let y = Followed-split x.0 rest (setting_words (codes "readers") readers ∷ []) last x.2 in
    let a = setting_next-again (codes "writers") 0 MOST_BUDGET (left_of h.more (left.read + 1)) writers x.0 (omega arith) (omega arith) fits.most_writers x.1 in
    let b = setting_next-again (codes "readers") 1 MOST_BUDGET (left_of x.0 a.0) readers y.0 (omega arith) fits.some_readers fits.most_readers y.1 in
    let c = setting_next-again (codes "group") 1 MOST_RANKS (left_of y.0 b.0) group rest (omega arith) fits.some_group fits.most_group y.2 in
    (c.0, rw (line-again left h.row h.more h.are h.line.ended, budget_line-again h.row levels budgets fits.each h.line.words, a.1, b.1, c.1) refl)

settings-again : (levels : ℕ) (lock : Lock) (left : Left) (rest : List Row) → LockFits levels lock → Followed left.rows (settings_lines lock) rest → ReadsTo (settings_next levels (name_of lock) left) lock rest
unfolding settings_next
settings-again levels Spin left rest fits f = (left.read, rw (sym f) refl)
settings-again levels Dmcs left rest fits f = (left.read, rw (sym f) refl)
settings-again levels (Alock local remote) left rest fits f = cohorts-once-more Alock local remote left rest fits.0 fits.1 f
settings-again levels (Seq local remote) left rest fits f = cohorts-once-more Seq local remote left rest fits.0 fits.1 f
settings-again levels (Combine local remote) left rest fits f = cohorts-once-more Combine local remote left rest fits.0 fits.1 f
settings-again levels (Mcs budgets) left rest fits f = mcs-again levels budgets left rest fits f
settings-again levels (Rw budgets writers readers group) left rest fits f = rw-again levels budgets writers readers group left rest fits f

pub lock-again : (levels : ℕ) (lock : Lock) (left : Left) (rest : List Row) → LockFits levels lock → Followed left.rows (lock_lines lock) rest → ReadsTo (lock_next levels left) lock rest
unfolding lock_next
lock-again levels lock left rest fits f =
    let h = Followed-head left.rows (codes "lock" ∷ lock_word (name_of lock) ∷ []) (settings_lines lock) rest f in
    let s = settings-again levels lock (left_of h.more (left.read + 1)) rest fits h.others in
    (s.0, rw (line-again left h.row h.more h.are h.line.ended, lock_name-again h.row (name_of lock) h.line.words, s.1) refl)
