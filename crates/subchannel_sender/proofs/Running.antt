-- Sending group by group.
-- group-long                                    a group's bytes
-- group-state, group-roots, group-depth, group-short, group-wrote   what the call answers and leaves
-- count-are                                     what the count answers
-- group-goes, group-placed                      a call with room writes the next group, and behind it the place is one of the N cells again
-- groups-sent                                   the groups of a stream, call by call, are what is sent
-- sent-long                                     so many groups
-- count-rest                                    behind whole groups the count is that of the rest of the stream
-- group-first                                   a group is made of four messages: what stands behind them in the stream does not count
use Prim.Native.Nat.{ℕ, zero, suc, ◌+◌, ◌-◌, ◌*◌, ◌/◌, ◌%◌, ◌≤◌, ◌<◌, min}
use native.Mathlib.Nat.{suc-mul, mul_assoc, add-mul-div_right, mul-add-mod_self_right}
use native.Mathlib.Omega.{arith}
use mathlib.Core.Path.{◌≡◌, refl, sym, ◌∙◌, ap}
use mathlib.Core.Bool.{true, false}
use mathlib.Core.List.{List, [], ◌∷◌, ◌++◌}
use lib.ListN.{length, take, drop, length-append, length-take}
use lib.Seq.{take_all, take-take}
use borrow.Author.Tests.{lt-ltb, le-ltb}
use Rattle.base.specs.Choice.{pick}
use Rattle.base.specs.Calls.{joined, run}
use Rattle.base.specs.Written.{Outcome, outcome, refused, copied}
use Rattle.base.specs.Written.{Wrote}
use Rattle.base.proofs.Lists.{drop-take}
use Rattle.base.proofs.Tests.{by_le}
use Rattle.base.proofs.Writing.{write-fits, write-short}
use Rattle.parity.specs.Calls.{root_limit}
use Rattle.interleaver_spec.specs.Running.{depth_limit, fresh, push, beyond}
use Rattle.interleaver_spec.specs.declared.Matrix.{Matrix}
use Rattle.channel_spec.specs.Sender.{marker}
use Rattle.subchannel_spec.specs.Sender.{message_bytes, group_words, word_of, missing, closing_words, sent}
use Rattle.subchannel_sender.specs.Sending.{message_of, words_from, group_next, group_stream, group_written, group_sending, groups_by}
use Rattle.subchannel_sender.specs.Sending.{group_count, Groups, counting}
use Rattle.subchannel_sender.specs.Private.{group_length, groups_from, GroupIs}
use Rattle.subchannel_sender.proofs.Laying.{message-full, four-long, push-long}
use Rattle.subchannel_sender.proofs.Storing.{push-placed, groups-next, groups-long, sent_is}

-- ---- the call
pub group-long : (r d : ℕ) → r ≤ root_limit → (m : Matrix) (bs : List ℕ) → length (group_next r d m bs).0 ≡ group_length
group-long r d hr m bs =
    length-append marker (run (push d) m (joined (words_from r 4 bs))).0
    ∙ (let z = push-long d m (joined (words_from r 4 bs)) ∙ four-long r hr bs in omega arith)

module _ (r d : ℕ) (m : Matrix) (bs out : List ℕ) where
  pub group-state : beyond d m.place ≡ true → ◌≡◌ {A = Outcome × ℕ × Matrix} (refused 10 out, 0, m) (group_sending r d m bs out)
  group-state e = rw e refl

  module _ (e : beyond d m.place ≡ false) where
    pub group-roots : root_limit < r → ◌≡◌ {A = Outcome × ℕ × Matrix} (refused 30 out, 0, m) (group_sending r d m bs out)
    group-roots h = rw (e, lt-ltb root_limit r h) refl

    module _ (hr : r ≤ root_limit) where
      pub group-depth : depth_limit < d → ◌≡◌ {A = Outcome × ℕ × Matrix} (refused 32 out, 0, m) (group_sending r d m bs out)
      group-depth h = rw (e, le-ltb root_limit r hr, lt-ltb depth_limit d h) refl

      abbrev x : List ℕ
      x = (group_next r d m bs).0

      long : length x ≡ group_length
      long = group-long r d hr m bs

      module _ (hd : d ≤ depth_limit) where
        way : group_written r m bs (group_next r d m bs) out ≡ group_sending r d m bs out
        way = rw (e, le-ltb root_limit r hr, le-ltb depth_limit d hd) refl

        pub group-short : length out < group_length → ◌≡◌ {A = Outcome × ℕ × Matrix} (refused 23 out, 0, m) (group_sending r d m bs out)
        group-short h =
            let l : length out < length x = omega (arith, long) in
            (λ i. (
              sym (write-short x out l) i,
              pick (sym (lt-ltb (length out) (length x) l) i) 0 (min (group_stream r) (length bs)),
              pick (sym (lt-ltb (length out) (length x) l) i) m (group_next r d m bs).1,
            )) ∙ way

        pub group-wrote : {after : List ℕ} {m' : Matrix} {n : ℕ} → group_length ≤ length out → GroupIs d m (joined (words_from r 4 bs)) out m' after
            → n ≡ min (group_stream r) (length bs) → ◌≡◌ {A = Outcome × ℕ × Matrix} (outcome (Wrote group_length) after, n, m') (group_sending r d m bs out)
        group-wrote h g k =
            let l : length x ≤ length out = omega (arith, long) in
            (λ i. (outcome (Wrote (sym long i)) (g.1 i), k i, g.0 i))
            ∙ (λ i. (
              sym (write-fits x out l) i,
              pick (sym (le-ltb (length out) (length x) l) i) 0 (min (group_stream r) (length bs)),
              pick (sym (le-ltb (length out) (length x) l) i) m (group_next r d m bs).1,
            )) ∙ way

        pub group-goes : group_length ≤ length out
            → group_sending r d m bs out ≡ (outcome (Wrote group_length) (copied x out), min (group_stream r) (length bs), (group_next r d m bs).1)
        group-goes h = sym (group-wrote h (refl, refl) refl)

    pub group-placed : beyond d (group_next r d m bs).1.place ≡ false
    group-placed = push-placed d (joined (words_from r 4 bs)) m e

-- ---- how many
module _ (r d n : ℕ) where
  pub count-are : r ≤ root_limit → d ≤ depth_limit → Groups (group_count r d n) ≡ counting r d n
  count-are hr hd = rw (le-ltb root_limit r hr, le-ltb depth_limit d hd) refl

-- ---- call by call
module _ (r d : ℕ) (hr : r ≤ root_limit) (hd : d ≤ depth_limit) where
  by-groups : (g : ℕ) (m : Matrix) (bs : List ℕ) → groups_by r d g m bs ≡ groups_from r d g m bs
  by-groups zero m bs = refl
  by-groups (suc g) m bs =
      ap (λ l. (group_next r d m bs).0 ++ l) (by-groups g (group_next r d m bs).1 (drop (group_stream r) bs)) ∙ sym (groups-next r d hr g m bs)

  pub groups-sent : (bs : List ℕ) → groups_by r d (group_count r d (length bs)) fresh bs ≡ sent r d bs
  groups-sent bs = by-groups (group_count r d (length bs)) fresh bs ∙ sent_is r d hr hd bs [] refl

  pub sent-long : (bs : List ℕ) → length (sent r d bs) ≡ group_count r d (length bs) * group_length
  sent-long bs = ap length (sym (sent_is r d hr hd bs [] refl)) ∙ groups-long r d hr (group_count r d (length bs)) fresh bs

-- ---- what a running sender stands on
module _ (r d : ℕ) (hr : r ≤ root_limit) where
  abbrev m : ℕ
  m = message_bytes r

  messages-rest : (k n : ℕ) → (k * m + n + missing m (k * m + n)) / m ≡ k + (n + missing m n) / m
  messages-rest k n =
      let e : (k * m + n) % m ≡ n % m = mul-add-mod_self_right k m n in
      ap (λ y. (k * m + n + (m - y) % m) / m) e
      ∙ ap (λ y. y / m) (let z : k * m + n + missing m n ≡ n + missing m n + k * m = omega arith in z)
      ∙ add-mul-div_right (n + missing m n) k (omega arith)
      ∙ (let z : (n + missing m n) / m + k ≡ k + (n + missing m n) / m = omega arith in z)

  -- k groups' streams, and n bytes behind them
  pub count-rest : (k n : ℕ) → group_count r d (k * group_stream r + n) ≡ k + group_count r d n
  count-rest k n =
      let e : k * group_stream r ≡ k * 4 * m = sym (mul_assoc k 4 m) in
      ap (λ y. group_count r d (y + n)) e
      ∙ ap (λ y. (y + closing_words d + 3) / group_words) (messages-rest (k * 4) n)
      ∙ (let q : ℕ = (n + missing m n) / m in let z : (k * 4 + q + closing_words d + 3) / 4 ≡ k + (q + closing_words d + 3) / 4 = omega arith in z)

  words-first : (k : ℕ) (bs : List ℕ) → words_from r k (take (k * m) bs) ≡ words_from r k bs
  words-first zero bs = refl
  words-first (suc k) bs =
      let n : ℕ = suc k * m in
      let s : n ≡ k * m + m = suc-mul k m in
      let a : message_of r (take n bs) ≡ message_of r bs =
      by_le m (length bs)
      (λ h. message-full r (take n bs) (let z = length-take n bs in omega arith) ∙ take-take m n bs (omega arith) ∙ sym (message-full r bs h))
      (λ h. ap (message_of r) (take_all n bs (omega arith))) in
      let b : drop m (take n bs) ≡ take (k * m) (drop m bs) =
      drop-take m n bs ∙ ap (λ y. take y (drop m bs)) (let z : n - m ≡ k * m = omega arith in z) in
      (λ i. word_of r (a i) ∷ words_from r k (b i)) ∙ ap (λ l. word_of r (message_of r bs) ∷ l) (words-first k (drop m bs))

  pub group-first : (c : Matrix) (bs : List ℕ) → group_next r d c (take (group_stream r) bs) ≡ group_next r d c bs
  group-first c bs = ap (λ (ws : List (List ℕ)). (marker ++ (run (push d) c (joined ws)).0, (run (push d) c (joined ws)).1)) (words-first 4 bs)
