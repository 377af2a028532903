-- Which acts leave a rank at its level, and that they keep the tree good.
use Rattle.std.specs.Prelude.{◌≡◌, ◌⊎◌, ℕ, suc, Bool, true, false, Option, None, refl, is_some}
use Rattle.std.proofs.Common.{sym, ◌∙◌, ap, inl, inr, ⊎_elim}
use Rattle.rl_queue.specs.declared.view.Phase.{Phase}
use Rattle.rl_queue.specs.declared.view.Phase.TheVariants.{Clear, Reset, Swing, Link, Wait, Look, Close, Await, Hand}
use Rattle.rl_queue.specs.Heads.{Head}
use Rattle.rl_queue.specs.laws.QueueHeads.{head, HeadStep}
use Rattle.rl_tree.specs.Tree.{hook_by, at_level}
use Rattle.rl_tree.specs.declared.rooted.Rooted.{Rooted}
use Rattle.rl_tree.specs.TreeGood.{Up, Down, Rest, way_at, Gate, Shut, Asking, Open, Releasing, gate_at, gate_of, granted_in, Matches, Spent}
use Rattle.rl_tree.specs.laws.RanksInTree.{ActsInTree, queue_of, names_of, queue_there, turn_of, phases_after}
use Rattle.rl_tree.specs.laws.TreeActs.{GoodAfter, head_here, stays_at_level}

-- a member goes from phase p to q and stays at its level: what follows for the gate, in a queue with something above it
pub record Stays (B : Option ℕ) (p q : Phase) : Type 0 where
  pub gate : (m s : ℕ) (x y : Option Head) → is_some B ≡ true → HeadStep B m p q s x y → gate_of y ≡ gate_of x
  pub granted : (m s : ℕ) (x y : Option Head) → HeadStep B m p q s x y → granted_in y ≡ granted_in x
  pub way : way_at q ≡ way_at p
  pub moves : way_at q ≡ Rest → ⊥
  pub unhooked : hook_by false q ≡ false
  pub spent : Spent (is_some B) q
  pub matches : (x : Gate) → Matches x p → Matches x q

spent_any : (b : Bool) → Spent b Reset
spent_any true = tt
spent_any false = tt

-- joining
joining : (B : Option ℕ) (p q : Phase) → ((m s : ℕ) (x y : Option Head) → HeadStep B m p q s x y → y ≡ x) → way_at q ≡ Up → way_at p ≡ Up →
    hook_by false q ≡ false → Spent (is_some B) q → ((x : Gate) → Matches x p → Matches x q) → Stays B p q
joining B p q same wq wp un sp ma =
    record {
      gate = λ m s x y h f. ap gate_of (same m s x y f);
      granted = λ m s x y f. ap granted_in (same m s x y f);
      way = wq ∙ sym wp;
      moves = λ e. let k : Up ≡ Rest = sym wq ∙ e in cc;
      unhooked = un;
      spent = sp;
      matches = ma;
    }

pub join_matches : (p q : Phase) → Matches Asking q → (Matches Shut p → ⊥) → (Matches Open p → ⊥) → (Matches Releasing p → ⊥) → (x : Gate) →
    Matches x p → Matches x q
join_matches p q a s o r Shut h = absurd (s h)
join_matches p q a s o r Asking h = a
join_matches p q a s o r Open h = absurd (o h)
join_matches p q a s o r Releasing h = absurd (r h)

pub leave_matches : (p q : Phase) → Matches Releasing q → (Matches Shut p → ⊥) → (Matches Asking p → ⊥) → (Matches Open p → ⊥) →
    (x : Gate) → Matches x p → Matches x q
leave_matches p q r s a o Shut h = absurd (s h)
leave_matches p q r s a o Asking h = absurd (a h)
leave_matches p q r s a o Open h = absurd (o h)
leave_matches p q r s a o Releasing h = r

spent_swing : (b : Bool) (g : ℕ) → Spent b (Swing g)
spent_swing true g = tt
spent_swing false g = tt

spent_link : (b : Bool) (g : ℕ) → Spent b (Link g)
spent_link true g = tt
spent_link false g = tt

spent_wait : (b : Bool) → Spent b Wait
spent_wait true = tt
spent_wait false = tt

spent_hand : (b : Bool) (s left : ℕ) → Spent b (Hand s left)
spent_hand true s left = tt
spent_hand false s left = tt

pub stays_clear : (B : Option ℕ) → Stays B Clear Reset
stays_clear B = joining B Clear Reset (λ m s x y f. f) refl refl refl (spent_any (is_some B)) (join_matches Clear Reset tt (λ h. cc) (λ h. h) (λ h. h))

pub stays_reset : (B : Option ℕ) (g : ℕ) → Stays B Reset (Swing g)
stays_reset B g = joining B Reset (Swing g) (λ m s x y f. f) refl refl refl (spent_swing (is_some B) g)
    (join_matches Reset (Swing g) tt (λ h. cc) (λ h. h) (λ h. h))

pub stays_swing : (B : Option ℕ) (g h : ℕ) → Stays B (Swing g) (Swing h)
stays_swing B g h = joining B (Swing g) (Swing h) (λ m s x y f. f) refl refl refl (spent_swing (is_some B) h)
    (join_matches (Swing g) (Swing h) tt (λ k. cc) (λ k. k) (λ k. k))

pub stays_link : (B : Option ℕ) (g h : ℕ) → Stays B (Swing g) (Link h)
stays_link B g h = joining B (Swing g) (Link h) (λ m s x y f. f) refl refl refl (spent_link (is_some B) h)
    (join_matches (Swing g) (Link h) tt (λ k. cc) (λ k. k) (λ k. k))

pub stays_linked : (B : Option ℕ) (g : ℕ) → Stays B (Link g) Wait
stays_linked B g = joining B (Link g) Wait (λ m s x y f. f) refl refl refl (spent_wait (is_some B)) (join_matches (Link g) Wait tt (λ k. cc) (λ k. k) (λ k. k))

pub stays_wait : (B : Option ℕ) → Stays B Wait Wait
stays_wait B = joining B Wait Wait (λ m s x y f. f) refl refl refl (spent_wait (is_some B)) (λ x h. h)

-- leaving: with something above, a look hands a pass on, or gives up what is above; the rest of a leave has no pass left
leaving : (B : Option ℕ) (p q : Phase) → ((m s : ℕ) (x y : Option Head) → HeadStep B m p q s x y → ((x ≡ head m p s) × (y ≡ head m q s)) ⊎
    (y ≡ x)) → (is_some B ≡ true → (s : ℕ) → gate_at q s ≡ gate_at p s) → granted_in (head 0 p 0) ≡ 0 → granted_in (head 0 q 0) ≡ 0 →
    way_at q ≡ Down → way_at p ≡ Down →
    hook_by false q ≡ false → Spent (is_some B) q → ((x : Gate) → Matches x p → Matches x q) → Stays B p q
leaving B p q step gate gp gq wq wp un sp ma =
    record {
      gate = λ m s x y h f. ⊎_elim (λ e. ap gate_of e.1 ∙ gate h s ∙ sym (ap gate_of e.0)) (λ e. ap gate_of e) (step m s x y f);
      granted = λ m s x y f. ⊎_elim (λ e. ap granted_in e.1 ∙ gq ∙ sym gp ∙ sym (ap granted_in e.0)) (λ e. ap granted_in e) (step m s x y f);
      way = wq ∙ sym wp;
      moves = λ e. let k : Down ≡ Rest = sym wq ∙ e in cc;
      unhooked = un;
      spent = sp;
      matches = ma;
    }

pub stays_pass : (B : Option ℕ) (k s : ℕ) → Stays B (Look (suc k) true) (Hand s (suc k))
stays_pass B k s = leaving B (Look (suc k) true) (Hand s (suc k)) (λ m u x y f. inl f) (λ h u. refl) refl refl refl refl refl
    (spent_hand (is_some B) s (suc k)) (leave_matches (Look (suc k) true) (Hand s (suc k)) tt (λ h. cc) (λ h. h) (λ h. h))

pub stays_flat_hand : (left s : ℕ) → Stays None (Look left false) (Hand s left)
stays_flat_hand left s = leaving None (Look left false) (Hand s left) (λ m u x y f. inl f) (λ h. cc) refl refl refl refl refl tt
    (leave_matches (Look left false) (Hand s left) tt (λ h. cc) (λ h. h) (λ h. h))

pub stays_flat_close : (left : ℕ) → Stays None (Look left false) (Close left)
stays_flat_close left = leaving None (Look left false) (Close left) (λ m u x y f. inl f) (λ h. cc) refl refl refl refl refl tt
    (leave_matches (Look left false) (Close left) tt (λ h. cc) (λ h. h) (λ h. h))

spent_same : (b : Bool) (left : ℕ) → Spent b (Close left) → Spent b (Await left)
spent_same true left h = h
spent_same false left h = tt

pub stays_close : (B : Option ℕ) (left : ℕ) → Spent (is_some B) (Close left) → Stays B (Close left) (Await left)
stays_close B left sp = leaving B (Close left) (Await left) (λ m u x y f. inl f) (λ h u. refl) refl refl refl refl refl
    (spent_same (is_some B) left sp) (leave_matches (Close left) (Await left) tt (λ h. cc) (λ h. h) (λ h. h))

pub stays_await : (B : Option ℕ) (left : ℕ) → Spent (is_some B) (Await left) → Stays B (Await left) (Await left)
stays_await B left sp = leaving B (Await left) (Await left) (λ m u x y f. inr f) (λ h u. refl) refl refl refl refl refl sp (λ x h. h)

await_gate : (b : Bool) (s left u : ℕ) → Spent b (Await left) → b ≡ true → gate_at (Hand s left) u ≡ gate_at (Await left) u
await_gate true s left u sp e = ap (λ z. gate_at (Hand s z) u) sp
await_gate false s left u sp e = cc

pub stays_hand : (B : Option ℕ) (left s : ℕ) → Spent (is_some B) (Await left) → Stays B (Await left) (Hand s left)
stays_hand B left s sp = leaving B (Await left) (Hand s left) (λ m u x y f. inl f)
    (λ h u. await_gate (is_some B) s left u sp h) refl refl refl refl refl (spent_hand (is_some B) s left)
    (leave_matches (Await left) (Hand s left) tt (λ h. cc) (λ h. h) (λ h. h))

-- An act that leaves its rank at its level keeps the tree good.
pub level_keeps : {K : Rooted} {levels : ℕ} (a : ActsInTree K levels) →
    Stays (names_of a.stands).budget a.stands.on.view.phase (turn_of a).phase →
    GoodAfter a (phases_after a) (at_level a.stands.on.view a.stands.on.view.level (turn_of a).phase)
level_keeps a st =
    let s = a.stands in
    stays_at_level a
    (λ p up. st.gate _ _ _ _ (s.on.well.budgeted (queue_of s) p (queue_there s) up) (head_here a)) (st.granted _ _ _ _ (head_here a))
    st.way st.moves st.unhooked st.spent st.matches
