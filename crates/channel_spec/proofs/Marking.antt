-- Laws of marked blocks.
-- framed-append      words one behind the other, each with its marker
-- marked-length      259 bytes for each whole message
-- wholes-length, rest-short   the whole messages among bytes, and the rest
-- marked-rest        whole messages may go out first
use Prim.Native.Nat.{ℕ, zero, suc, ◌+◌, ◌*◌, ◌/◌, ◌<◌}
use native.Mathlib.Omega.{arith}
use mathlib.Core.Path.{◌≡◌, refl, sym, ◌∙◌, ap}
use mathlib.Core.List.{List, [], ◌∷◌, ◌++◌, map, append-nil, append_assoc, map-append}
use lib.ListN.{length, take, drop, replicate, length-append, length-drop, take-append-drop}
use lib.Seq.{length-take-le}
use lib.Dec.{lit<}
use Rattle.packet_spec.specs.Escape.{flag}
use Rattle.word_spec.specs.Word.{remainder}
use Rattle.word_spec.proofs.Division.{length-remainder}
use Rattle.channel_spec.specs.Sender.{word_of, framed, fillers, filled, cut_up, marked, whole_bytes, wholes, rest_of, block_bytes}
use Rattle.channel_spec.specs.Sender.{message_bytes, parity_bytes, word_bytes}
use Rattle.channel_spec.proofs.Messages.{cut-append}

pub framed-append : (us vs : List (List ℕ)) → framed (us ++ vs) ≡ framed us ++ framed vs
framed-append [] vs = refl
framed-append (u ∷ us) vs = simp (framed-append us vs, append_assoc)

module _ (q : ℕ) (a : List ℕ) (h : length a ≡ message_bytes * q) where
  filled-append : (b : List ℕ) → filled (a ++ b) ≡ a ++ filled b
  filled-append b =
      let e : length (a ++ b) ≡ message_bytes * q + length b = length-append a b ∙ ap (λ (n : ℕ). n + length b) h in
      let f : fillers (length (a ++ b)) ≡ fillers (length b) = omega arith in
      ap (λ (n : ℕ). (a ++ b) ++ replicate n flag) f ∙ append_assoc a b (replicate (fillers (length b)) flag)

  none_filled : filled a ≡ a
  none_filled =
      let f : fillers (length a) ≡ 0 = omega arith in
      ap (λ (n : ℕ). a ++ replicate n flag) f ∙ append-nil a

  marked-whole : marked a ≡ framed (map word_of (cut_up q a))
  marked-whole =
      let e : length (filled a) / message_bytes ≡ q = ap (λ (l : List ℕ). length l / message_bytes) none_filled ∙ omega arith in
      λ i. framed (map word_of (cut_up (e i) (none_filled i)))

  marked_append : (b : List ℕ) → marked (a ++ b) ≡ marked a ++ marked b
  marked_append b =
      let n : length (a ++ filled b) ≡ message_bytes * q + length (filled b) = length-append a (filled b) ∙ ap (λ (n : ℕ). n + length (filled b)) h in
      let e : length (filled (a ++ b)) / message_bytes ≡ q + length (filled b) / message_bytes =
      ap (λ (l : List ℕ). length l / message_bytes) (filled-append b) ∙ omega arith in
      (λ i. framed (map word_of (cut_up (e i) (filled-append b i))))
      ∙ ap (λ (l : List (List ℕ)). framed (map word_of l)) (cut-append message_bytes (lit< tt) q (length (filled b) / message_bytes) a (filled b) (omega arith))
      ∙ ap framed (map-append word_of (cut_up q a) (cut_up (length (filled b) / message_bytes) (filled b)))
      ∙ framed-append (map word_of (cut_up q a)) (map word_of (cut_up (length (filled b) / message_bytes) (filled b)))
      ∙ ap (λ (l : List ℕ). l ++ marked b) (sym marked-whole)

word-length : (m : List ℕ) → length m ≡ message_bytes → length (word_of m) ≡ word_bytes
word-length m h = omega (arith, length-append m (remainder parity_bytes m), length-remainder parity_bytes m)

framed-length : (q : ℕ) (a : List ℕ) → length a ≡ message_bytes * q → length (framed (map word_of (cut_up q a))) ≡ block_bytes * q
framed-length zero a h = refl
framed-length (suc q) a h =
    let m : List ℕ = take message_bytes a in
    let n : length (drop message_bytes a) ≡ message_bytes * q = length-drop message_bytes a ∙ omega arith in
    let r : List ℕ = framed (map word_of (cut_up q (drop message_bytes a))) in
    omega (arith, length-append (word_of m) r, word-length m (length-take-le message_bytes a (omega arith)), framed-length q (drop message_bytes a) n)

pub marked-length : (q : ℕ) (a : List ℕ) → length a ≡ message_bytes * q → length (marked a) ≡ block_bytes * q
marked-length q a h = ap length (marked-whole q a h) ∙ framed-length q a h

-- ---- whole messages, and the rest
module _ (bs : List ℕ) where
  pub wholes-length : length (wholes bs) ≡ message_bytes * (length bs / message_bytes)
  wholes-length = length-take-le (whole_bytes (length bs)) bs (omega arith) ∙ omega arith

  pub rest-short : length (rest_of bs) < message_bytes
  rest-short = omega (arith, length-drop (whole_bytes (length bs)) bs)

  wholes-rest : wholes bs ++ rest_of bs ≡ bs
  wholes-rest = take-append-drop (whole_bytes (length bs)) bs

  pub marked-rest : (x : List ℕ) → marked (wholes bs) ++ marked (rest_of bs ++ x) ≡ marked (bs ++ x)
  marked-rest x =
      sym (marked_append (length bs / message_bytes) (wholes bs) wholes-length (rest_of bs ++ x))
      ∙ ap marked (sym (append_assoc (wholes bs) (rest_of bs) x) ∙ ap (λ (l : List ℕ). l ++ x) wholes-rest)
