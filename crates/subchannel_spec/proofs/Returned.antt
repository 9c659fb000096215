-- Groups of any bytes, in place of those of a sent stream, and no marker altered: the answers are those of the words as they come out of the
-- receiving side of the interleaver. So a law of words, of what repair puts right, is one of the air at every depth.
-- back-length    how many bytes come back
-- back_is        of a sent stream, the words that come back are the answered ones
-- returned       the answers
-- unaltered      of the bytes as sent, the words that come back are those sent
-- flat_back      at depth 0 and 1 they are the words on the air
-- word-place     deeper: where on the air a byte of such a word stands
use Prim.Native.Nat.{ℕ, zero, suc, ◌+◌, ◌*◌, ◌-◌, ◌/◌, ◌%◌, ◌≤◌, ◌<◌}
use native.Mathlib.Omega.{arith}
use mathlib.Core.Path.{◌≡◌, refl, sym, ◌∙◌, ap, subst}
use mathlib.Core.Logic.◌⊎◌.{inl}
use mathlib.Core.List.{List, [], ◌∷◌, ◌++◌, append_assoc, append-nil}
use lib.ListN.{length, take, drop, get_or, length-append, length-replicate}
use lib.Seq.{take_at, drop_at, length-take-le, get_or-take, get_or-drop}
use lib.Dec.{lit<}
use borrow.Author.Tests.{lt-ltb, le-ltb}
use Rattle.base.specs.Bytes.{Each, Bytes}
use Rattle.base.specs.Calls.{joined, run}
use Rattle.base.specs.Choice.{pick}
use Rattle.base.proofs.Tests.{by_le}
use Rattle.parity.specs.Calls.{root_limit}
use Rattle.stream.specs.Meaning.{waiting}
use Rattle.interleaver_spec.specs.Places.{cell}
use Rattle.interleaver_spec.specs.Running.{depth_limit, size, fresh, fresh_back, push, pull, gave}
use Rattle.interleaver_spec.specs.declared.Back.{Back}
use Rattle.interleaver_spec.proofs.Calling.{passes}
use Rattle.interleaver_spec.proofs.Round.{returned-told, returned-length}
use Rattle.channel_spec.specs.Sender.{word_bytes}
use Rattle.channel_spec.specs.Meaning.{Event, IsWord, FirstMarker}
use Rattle.channel_spec.proofs.Messages.{cut-back, cut-lengths}
use Rattle.subchannel_spec.specs.Sender.{group_words, cut_up, flag_word, closing_words, words_of, words_back, grouped, sent}
use Rattle.subchannel_spec.specs.Word.{came_back}
use Rattle.subchannel_spec.specs.Meaning.{Sub, answers, words_give}
use Rattle.subchannel_spec.proofs.Groups.{takes_all}
use Rattle.subchannel_spec.proofs.Received.{words-heard, came-back, groups-heard}
use Rattle.subchannel_spec.proofs.Streaming.{answered, answered-each, closing, closing-each, in-turn, groups}
use Rattle.subchannel_spec.proofs.Altered.{groups-begin}

-- words, put together and cut again
cut_again : (ws : List (List ℕ)) (l : List ℕ) → Each IsWord ws → cut_up word_bytes (length ws) (joined ws ++ l) ≡ ws
cut_again [] l h = refl
cut_again (w ∷ ws) l h =
    let e : (w ++ joined ws) ++ l ≡ w ++ (joined ws ++ l) = append_assoc w (joined ws) l in
    ap (cut_up word_bytes (suc (length ws))) e
    ∙ (λ i. take_at w (joined ws ++ l) word_bytes h.0 i ∷ cut_up word_bytes (length ws) (drop_at w (joined ws ++ l) word_bytes h.0 i))
    ∙ ap (λ x. w ∷ x) (cut_again ws l h.1)

-- at depth 0 and 1 they are the words on the air
pub flat_back : (d : ℕ) → d < 2 → (vs : List (List ℕ)) → Each IsWord vs → came_back d (length vs) (joined vs) ≡ vs
flat_back d h vs w =
    ap (λ (x : List ℕ × Back). cut_up word_bytes (length vs) x.0) (passes d (gave d) h fresh_back (joined vs))
    ∙ ap (cut_up word_bytes (length vs)) (sym (append-nil (joined vs))) ∙ cut_again vs [] w

-- byte i of part j, of those that bytes are cut into
cut-place : (q j i : ℕ) (bs : List ℕ) → j < q → i < word_bytes → get_or (get_or (cut_up word_bytes q bs) j []) i 0 ≡ get_or bs (j * word_bytes + i) 0
cut-place zero j i bs h k = absurd (omega arith)
cut-place (suc q) zero i bs h k = get_or-take word_bytes bs i 0 k ∙ ap (λ n. get_or bs n 0) (let z : i ≡ 0 * word_bytes + i = omega arith in z)
cut-place (suc q) (suc j) i bs h k =
    cut-place q j i (drop word_bytes bs) (omega arith) k ∙ get_or-drop word_bytes bs (j * word_bytes + i) 0
    ∙ ap (λ n. get_or bs n 0) (let z : word_bytes + (j * word_bytes + i) ≡ suc j * word_bytes + i = omega arith in z)

-- deeper: byte i of word j of those that come back is received byte v, the one of the N from byte 255 j + i on that the equations read from its cell
pub word-place : (d : ℕ) → 2 ≤ d → d ≤ depth_limit → (n : ℕ) (rs : List ℕ) → n * word_bytes + size d ≤ length rs + 1 → (j i : ℕ) → j < n → i < word_bytes
    → let t : ℕ = j * word_bytes + i in
    (v : ℕ) × (t ≤ v) × (v < t + size d) × (cell d v ≡ t % size d) × (get_or (get_or (came_back d n rs) j []) i 0 ≡ get_or rs v 0)
word-place d deep h n rs room j i k l =
    let w = returned-told d deep h rs (j * word_bytes + i) (omega arith) in
    (w.0, w.1, w.2, w.3, cut-place n j i (run (pull d) fresh_back rs).0 k l ∙ w.4)

-- of n words' bytes, as many come back as those of n words less the closing push have, and at most one more
pub back-length : (d n : ℕ) → d ≤ depth_limit → closing_words d ≤ n → (rs : List ℕ) → length rs ≡ n * word_bytes
    → let k : ℕ = length (run (pull d) fresh_back rs).0 in ((n - closing_words d) * word_bytes ≤ k) × (k ≤ 1 + (n - closing_words d) * word_bytes)
back-length d n h c rs e =
    by_le 2 d
    (λ i.
    let k : length (run (pull d) fresh_back rs).0 ≡ length rs - (255 * d - 1) = returned-length d i h rs in
    let m : closing_words d ≡ d = ap (λ t. pick t 0 d) (le-ltb d 2 i) in
    (omega arith, omega arith))
    (λ i.
    let k : length (run (pull d) fresh_back rs).0 ≡ length rs = ap (λ (x : List ℕ × Back). length x.0) (passes d (gave d) i fresh_back rs) in
    let m : closing_words d ≡ 0 = ap (λ t. pick t 0 d) (lt-ltb d 2 i) in
    (omega arith, omega arith))

-- ---- in place of what is sent of bytes bs
module _ (r d : ℕ) (hr : r ≤ root_limit) (hd : d ≤ depth_limit) (bs : List ℕ) (b : Bytes bs) where
  closing-length : length (closing r d hr bs b) ≡ closing_words d
  closing-length = length-replicate (closing_words d) (flag_word r)

  words-length : length (words_of r d bs) ≡ length (answered r d hr bs b) + closing_words d
  words-length = ap length (in-turn r d hr bs b) ∙ length-append (answered r d hr bs b) (closing r d hr bs b)
      ∙ ap (λ n. length (answered r d hr bs b) + n) closing-length

  -- the words that come back are the answered ones
  pub back_is : words_back r d bs ≡ answered r d hr bs b
  back_is =
      let n : length (words_of r d bs) - closing_words d ≡ length (answered r d hr bs b) = let z = words-length in omega arith in
      ap (λ m. take m (words_of r d bs)) n ∙ ap (take (length (answered r d hr bs b))) (in-turn r d hr bs b)
      ∙ take_at (answered r d hr bs b) (closing r d hr bs b) (length (answered r d hr bs b)) refl

  -- any bytes rs, as many, in whole groups behind their markers
  module _ (some : 0 < length bs) (stray : List ℕ) (first : FirstMarker stray (sent r d bs)) (rs : List ℕ)
      (many : length rs ≡ length (words_of r d bs) * word_bytes) where
    abbrev vs : List (List ℕ)
    vs = came_back d (length (words_back r d bs)) rs

    pub returned : answers r d (stray ++ grouped (length (words_of r d bs) / group_words) rs) ≡ (words_give r vs waiting).0
    returned =
        let g = groups r d hr bs b some in
        let n : length (words_of r d bs) / group_words ≡ suc g.0 = let z = g.1 in omega arith in
        let out : List ℕ = (run (push d) fresh (joined (words_of r d bs))).0 in
        let back : List ℕ = (run (pull d) fresh_back rs).0 in
        let f : FirstMarker stray (grouped (suc g.0) rs) =
        groups-begin g.0 g.0 out rs stray (subst (λ x. FirstMarker stray (grouped x out)) n first) in
        let w = words-length in
        let l = back-length d (length (words_of r d bs)) hd (omega arith) rs many in
        let m : length (words_back r d bs) ≡ length (words_of r d bs) - closing_words d = length-take-le _ (words_of r d bs) (omega arith) in
        let k : length (words_back r d bs) * word_bytes ≤ length back = let z = l.0 in omega arith in
        let c = cut-back word_bytes (lit< tt) (length (words_back r d bs)) back k in
        ap (λ x. answers r d (stray ++ grouped x rs)) n
        ∙ ap (λ (x : List Event × Sub). x.0) (groups-heard r d stray rs g.0 (let z = g.1 in omega arith) f)
        ∙ ap (λ x. (takes_all r x [] waiting).0) (sym c.1)
        ∙ words-heard r vs c.0 [] waiting (cut-lengths word_bytes (lit< tt) (length (words_back r d bs)) back k) (inl refl)
        (let z = c.2 in let y = l.1 in omega arith)

  -- the words that come back of the bytes as sent
  pub unaltered : came_back d (length (words_back r d bs)) (run (push d) fresh (joined (words_of r d bs))).0 ≡ words_back r d bs
  unaltered =
      let ws : List (List ℕ) = answered r d hr bs b in
      let x = came-back d ws (closing r d hr bs b) hd (closing-each r d hr bs b) closing-length in
      ap (λ l. came_back d (length (words_back r d bs)) (run (push d) fresh (joined l)).0) (in-turn r d hr bs b)
      ∙ ap (λ n. came_back d n (run (push d) fresh (joined (ws ++ closing r d hr bs b))).0) (ap length back_is)
      ∙ ap (cut_up word_bytes (length ws)) x.2 ∙ cut_again ws x.0 (answered-each r d hr bs b) ∙ sym back_is
