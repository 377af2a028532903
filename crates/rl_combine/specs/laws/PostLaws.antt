-- The post words under a store, and the words before the lock's.
use Rattle.std.specs.Prelude.{◌≡◌, ◌≢◌, ℕ, zero, suc, ◌+◌, ◌*◌, ◌<◌, ◌≤◌, ◌==◌, true, false, if◌then◌else◌, List, [], ◌∷◌, ◌++◌, length, take, slice_index, slice_set, refl}
use Rattle.std.proofs.Common.{sym, ◌∙◌, ap, ⊎_elim, arith, get_or-set_other}
use Rattle.std.proofs.lemmas.List.{take-set-le, get_or-take, take_more, take_more_set}
use Rattle.std.proofs.lemmas.Grind.{get_or-set_at}
use Rattle.std.proofs.lemmas.Bool.Decides.{nat_tests}
use Rattle.std.proofs.Math.Seq.{take-set-lt}
use Rattle.rl_word.specs.laws.Places.{same_or_not}
use Rattle.rl_model.specs.declared.call.Call.{Call}
use Rattle.rl_model.specs.declared.call.Call.TheVariants.{Put, Get, Del, Add, Cas, Hold}
use Rattle.rl_model.specs.declared.entry.Reply.{Reply}
use Rattle.rl_model.specs.declared.entry.Reply.TheVariants.{New, Was, Full, Val, Nothing, Sum, Over, No, Held, Undone}
use Rattle.rl_model.specs.Call.{shard_of}
use Rattle.rl_journal.specs.Journal.{value_in}
use Rattle.rl_site.specs.Site.{lock_base, WaySite}
use Rattle.rl_combine.specs.Posts.{ThePost, combine_ranks, post_word, post_of, post_spelling, posted_call, post_code, combine_reply_of}
use Rattle.rl_combine.specs.CombineGood.{front_of}

-- a post of nine words
abbrev post_by : (ℕ → ℕ) → ThePost
post_by f = record { flag = f 0; call = f 1 ∷ f 2 ∷ f 3 ∷ f 4 ∷ f 5 ∷ []; answer = f 6 ∷ f 7 ∷ f 8 ∷ [] }

same_by : (f h : ℕ → ℕ) → ((m : ℕ) → m < 9 → f m ≡ h m) → post_by f ≡ post_by h
same_by f h same =
    let e0 = same 0 (omega arith) in
    let e1 = same 1 (omega arith) in
    let e2 = same 2 (omega arith) in
    let e3 = same 3 (omega arith) in
    let e4 = same 4 (omega arith) in
    let e5 = same 5 (omega arith) in
    let e6 = same 6 (omega arith) in
    let e7 = same 7 (omega arith) in
    let e8 = same 8 (omega arith) in
    cc

pub same_post : (S : WaySite) (k : ℕ) (words others : List ℕ) →
    ((m : ℕ) → m < 9 → slice_index others (post_word S k m) ≡ slice_index words (post_word S k m)) → post_of S others k ≡ post_of S words k
same_post S k words others same = same_by (λ m. slice_index others (post_word S k m)) (λ m. slice_index words (post_word S k m)) same

module _ (S : WaySite) (words : List ℕ) where
  -- a store before the first word behind the lock's, and one to another rank's post
  pub posts_stay : (w v k : ℕ) → w < S.behind → post_of S (slice_set words w v) k ≡ post_of S words k
  posts_stay w v k low = same_post S k words (slice_set words w v) (λ m h. get_or-set_other words w (post_word S k m) v 0 (λ q. absurd (omega arith)))

  pub others_stay : (r i v k : ℕ) → i < 9 → k ≢ r → post_of S (slice_set words (post_word S r i) v) k ≡ post_of S words k
  others_stay r i v k few ne =
      same_post S k words (slice_set words (post_word S r i) v)
      (λ m h. get_or-set_other words (post_word S r i) (post_word S k m) v 0 (λ q. absurd (ne (omega arith))))

  -- the words of a post, one by one
  pub call_word : (k made : ℕ) → made < 5 → slice_index words (post_word S k (1 + made)) ≡ slice_index (post_of S words k).call made
  call_word k zero h = refl
  call_word k (suc zero) h = refl
  call_word k (suc (suc zero)) h = refl
  call_word k (suc (suc (suc zero))) h = refl
  call_word k (suc (suc (suc (suc zero)))) h = refl
  call_word k (suc (suc (suc (suc (suc n))))) h = absurd (omega arith)

  pub answer_word : (k made : ℕ) → made < 3 → slice_index words (post_word S k (6 + made)) ≡ slice_index (post_of S words k).answer made
  answer_word k zero h = refl
  answer_word k (suc zero) h = refl
  answer_word k (suc (suc zero)) h = refl
  answer_word k (suc (suc (suc n))) h = absurd (omega arith)

  module _ (r v : ℕ) (there : r < combine_ranks S) (size : length words ≡ S.behind + 9 * combine_ranks S) where
    -- a store to one of a rank's nine words
    changed : (i m : ℕ) → i < 9 → m < 9 → slice_index (slice_set words (post_word S r i) v) (post_word S r m) ≡
        (if m == i then v else slice_index words (post_word S r m))
    changed i m few low =
        ⊎_elim
        (λ (e : m ≡ i).
        let hit : (m == i) ≡ true = grind (arith, nat_tests) in
        let in_words : post_word S r i < length words = omega arith in
        get_or-set_at words (post_word S r i) (post_word S r m) v 0 (omega arith) in_words
        ∙ ap (λ b. if b then v else slice_index words (post_word S r m)) (sym hit))
        (λ (ne : m ≢ i).
        let miss : (m == i) ≡ false = grind (arith, nat_tests) in
        get_or-set_other words (post_word S r i) (post_word S r m) v 0 (λ q. absurd (ne (omega arith)))
        ∙ ap (λ b. if b then v else slice_index words (post_word S r m)) (sym miss))
        (same_or_not m i)

    changes : (i : ℕ) → i < 9 → post_of S (slice_set words (post_word S r i) v) r ≡ post_by (λ m. if m == i then v else slice_index words (post_word S r m))
    changes i few = same_by (λ m. slice_index (slice_set words (post_word S r i) v) (post_word S r m))
        (λ m. if m == i then v else slice_index words (post_word S r m)) (λ m low. changed i m few low)

    pub flag_stored : post_of S (slice_set words (post_word S r 0) v) r ≡ record (post_of S words r) { flag = v }
    flag_stored = changes 0 (omega arith)

    pub call_stored : (made : ℕ) → made < 5 → post_of S (slice_set words (post_word S r (1 + made)) v) r ≡ record (post_of S words r)
        { call = slice_set (post_of S words r).call made v }
    call_stored zero h = changes 1 (omega arith)
    call_stored (suc zero) h = changes 2 (omega arith)
    call_stored (suc (suc zero)) h = changes 3 (omega arith)
    call_stored (suc (suc (suc zero))) h = changes 4 (omega arith)
    call_stored (suc (suc (suc (suc zero)))) h = changes 5 (omega arith)
    call_stored (suc (suc (suc (suc (suc n))))) h = absurd (omega arith)

    pub answer_stored : (made : ℕ) → made < 3 → post_of S (slice_set words (post_word S r (6 + made)) v) r ≡ record (post_of S words r)
        { answer = slice_set (post_of S words r).answer made v }
    answer_stored zero h = changes 6 (omega arith)
    answer_stored (suc zero) h = changes 7 (omega arith)
    answer_stored (suc (suc zero)) h = changes 8 (omega arith)
    answer_stored (suc (suc (suc n))) h = absurd (omega arith)

  -- the words before the lock's
  pub front_get : (w : ℕ) → w < lock_base S.site → slice_index (front_of S words) w ≡ slice_index words w
  front_get w h = get_or-take (lock_base S.site) words w 0 h

  pub front_set : (w v : ℕ) → w < lock_base S.site → front_of S (slice_set words w v) ≡ slice_set (front_of S words) w v
  front_set w v h = take-set-lt (lock_base S.site) words w v h

  pub front_behind : (w v : ℕ) → lock_base S.site ≤ w → front_of S (slice_set words w v) ≡ front_of S words
  front_behind w v h = take-set-le (lock_base S.site) words w v h

-- one word more of a list that is copied
pub copies_on : (xs ys : List ℕ) (made got : ℕ) → made < length xs → ys ≡ take made xs → got ≡ slice_index xs made → ys ++ got ∷ [] ≡ take (made + 1) xs
copies_on xs ys made got low e same = ap (λ z. z ++ got ∷ []) e ∙ ap (λ z. take made xs ++ z ∷ []) same ∙ sym (take_more xs made 0 low)

-- one word more of a list that is stored
pub stores_on : (xs ys : List ℕ) (made : ℕ) → made < length xs → made < length ys → take made xs ≡ take made ys →
    take (made + 1) (slice_set xs made (slice_index ys made)) ≡ take (made + 1) ys
stores_on xs ys made low few e = take_more_set xs made (slice_index ys made) low ∙ ap (λ z. z ++ slice_index ys made ∷ []) e ∙ sym (take_more ys made 0 few)

-- a posted call is read back; a hold is one of its shard
pub call_back : (S : WaySite) (call : Call) (seq : ℕ) → shard_of S.site.geom call ≡ S.site.shard → posted_call S.site.shard (post_spelling call seq) ≡ call
call_back S (Put key value) seq h = refl
call_back S (Get key) seq h = refl
call_back S (Del key) seq h = refl
call_back S (Add key by) seq h = refl
call_back S (Cas key old new) seq h = refl
call_back S (Hold shard) seq h = ap (λ z. Hold z) (sym h)

-- and so is a reply
pub reply_back : (reply : Reply) → combine_reply_of (post_code reply) (value_in reply) ≡ reply
reply_back New = refl
reply_back (Was v) = refl
reply_back Full = refl
reply_back (Val v) = refl
reply_back Nothing = refl
reply_back (Sum v) = refl
reply_back (Over v) = refl
reply_back (No v) = refl
reply_back Held = refl
reply_back Undone = refl
