-- Laws of the sender.
-- block-put                       one block, from what its calls leave
-- mark-short, mark-fits, next-put   what the call for one block answers and leaves
-- first_blocks, blocks-next        the blocks passed are written, and the rest is as it was: a turn of the loop
-- blocks-room                     and the output's length stays
-- send-short, send-fits           what the call for a whole stream answers and leaves
-- marking-keeps, sending-keeps    a refused call leaves the output as it was
use mathlib.Core.Path.{◌≡◌, refl, sym, ap, ap₂, ◌∙◌}
use mathlib.Core.List.{List, [], ◌∷◌, ◌++◌, map, append_assoc, append-nil, map-append}
use Prim.Native.Nat.{ℕ, zero, suc, ◌+◌, ◌-◌, ◌*◌, ◌/◌, ◌≤◌, ◌<◌}
use native.Mathlib.Numerals.{add-one}
use native.Mathlib.Omega.{arith}
use lib.Dec.{eqb}
use lib.ListN.{length, take, drop, replicate, length-append, length-drop, length-replicate}
use lib.Seq.{drop-drop, drop-append-le, take-append-le, take_all, length-take-le}
use borrow.Author.Tests.{eq-eqb}
use borrow.Rule.Slice.PartMut.{put_mid}
use Rattle.base.specs.Written.{Outcome, outcome, refused, copied, Keeps}
use Rattle.base.specs.Written.{Written}
use Rattle.base.specs.Written.{Wrote}
use Rattle.base.proofs.Lists.{drop-same}
use Rattle.base.proofs.Parts.{tail-is, lent, back}
use Rattle.base.proofs.Tests.{by_le}
use Rattle.base.proofs.Writing.{copied-fits, copied-over, write-fits, wrote-fits, wrote-short, write_keeps, refused-keeps, pick-keeps}
use Rattle.packet_spec.specs.Escape.{flag}
use Rattle.word_spec.specs.Word.{remainder}
use Rattle.parity.specs.Calls.{made}
use Rattle.word_spec.proofs.Division.{length-remainder}
use Rattle.channel_spec.proofs.Marking.{framed-append}
use Rattle.channel_spec.specs.Sender.{marker, word_of, framed, fillers, filled, cut_up, marked, marking, sending, block_bytes, word_bytes, message_bytes}
use Rattle.channel_spec.specs.Sender.{parity_bytes}

-- ---- one block: the marker, the message and its parity, one behind the other
block-length : (m : List ℕ) → length m ≡ message_bytes → length (marker ++ word_of m) ≡ block_bytes
block-length m h = omega (arith, length-append m (remainder parity_bytes m), length-remainder parity_bytes m)

module _ (m o : List ℕ) (h : length m ≡ message_bytes) (k : block_bytes ≤ length o) where
  pub block-put : {o₁ y z : List ℕ} {w : Written} (o₂ : List ℕ) → o₁ ≡ marker → y ≡ m
      → o₂ ≡ put_mid 4 message_bytes (o₁ ++ drop 4 o) y
      → outcome w z ≡ made parity_bytes m (take (length o₂ - (4 + message_bytes)) (drop (4 + message_bytes) o₂))
      → put_mid (4 + message_bytes) (length o₂ - (4 + message_bytes)) o₂ z ≡ (marker ++ word_of m) ++ drop block_bytes o
  block-put {o₁} {y} {z} o₂ e₁ ey e₂ ez =
      back (marker ++ m) rest o₂ (4 + message_bytes) split long z
      ∙ ap (λ (t : List ℕ). (marker ++ m) ++ t)
      (ap (λ (x : Outcome). x.output) (ez ∙ ap (made parity_bytes m) (lent (marker ++ m) rest o₂ (4 + message_bytes) split long) ∙ makes)
      ∙ copied-fits (remainder parity_bytes m) rest room ∙ ap (λ (t : List ℕ). remainder parity_bytes m ++ t) behind)
      ∙ sym (append_assoc (marker ++ m) (remainder parity_bytes m) (drop block_bytes o))
    where
      rest : List ℕ
      rest = drop message_bytes (drop 4 o)

      split : o₂ ≡ (marker ++ m) ++ rest
      split = e₂ ∙ (λ i. put_mid 4 message_bytes (e₁ i ++ drop 4 o) (ey i))

      long : length (marker ++ m) ≡ (4 + message_bytes)
      long = omega arith

      room : length (remainder parity_bytes m) ≤ length rest
      room = omega (arith, length-remainder parity_bytes m, length-drop message_bytes (drop 4 o), length-drop 4 o)

      makes : made parity_bytes m rest ≡ outcome (Wrote (length (remainder parity_bytes m))) (copied (remainder parity_bytes m) rest)
      makes = simp (eq-eqb (length m) message_bytes h) (write-fits (remainder parity_bytes m) rest room)

      behind : drop (length (remainder parity_bytes m)) rest ≡ drop block_bytes o
      behind = ap (λ (n : ℕ). drop n rest) (length-remainder parity_bytes m) ∙ drop-drop parity_bytes message_bytes (drop 4 o) ∙ drop-drop word_bytes 4 o

module _ (m out : List ℕ) (h : length m ≡ message_bytes) where
  pub mark-short : length out < block_bytes → refused 23 out ≡ marking m out
  mark-short k = simp (eq-eqb (length m) message_bytes h) (wrote-short (marker ++ word_of m) out block_bytes (block-length m h) k)

  pub mark-fits : {after : List ℕ} → block_bytes ≤ length out → after ≡ (marker ++ word_of m) ++ drop block_bytes out
      → outcome (Wrote block_bytes) after ≡ marking m out
  mark-fits k e = simp (eq-eqb (length m) message_bytes h) (wrote-fits (marker ++ word_of m) out block_bytes (block-length m h) k e)

  mark-put : {w : Written} {after : List ℕ} → block_bytes ≤ length out → outcome w after ≡ marking m out
      → after ≡ (marker ++ word_of m) ++ drop block_bytes out
  mark-put k e = ap (λ (o : Outcome). o.output) (e ∙ sym (mark-fits k refl))

-- ---- a message: the next 223 bytes, or those that are left and flags behind them
abbrev message_of : List ℕ → List ℕ
message_of bs = copied bs (replicate message_bytes flag)

-- copying that fills all there is
length-copied : (bs dst : List ℕ) → length (copied bs dst) ≡ length dst
length-copied bs dst =
    by_le (length bs) (length dst)
    (λ h. ap length (copied-fits bs dst h) ∙ length-append bs (drop (length bs) dst) ∙ omega (arith, length-drop (length bs) dst))
    (λ h. let k : length dst ≤ length bs = omega arith in ap length (copied-over bs dst k) ∙ length-take-le (length dst) bs k)

message-length : (bs : List ℕ) → length (message_of bs) ≡ message_bytes
message-length bs = length-copied bs (replicate message_bytes flag) ∙ length-replicate message_bytes flag

-- the block of the next message
pub next-put : (s out : List ℕ) {m : List ℕ} {w : Written} {after : List ℕ} → m ≡ copied s (replicate message_bytes flag) → block_bytes ≤ length out
    → outcome w after ≡ marking m out → after ≡ (marker ++ word_of (copied s (replicate message_bytes flag))) ++ drop block_bytes out
next-put s out e k f =
    mark-put (copied s (replicate message_bytes flag)) out (message-length s) k (f ∙ ap (λ (m : List ℕ). marking m out) e)

-- ---- block after block
abbrev block_of : List ℕ → List ℕ
block_of bs = marker ++ word_of (message_of bs)

abbrev pub first_blocks : List ℕ → ℕ → List ℕ
first_blocks bs zero = []
first_blocks bs (suc i) = first_blocks bs i ++ block_of (drop (message_bytes * i) bs)

length-blocks : (bs : List ℕ) (i : ℕ) → length (first_blocks bs i) ≡ block_bytes * i
length-blocks bs zero = refl
length-blocks bs (suc i) =
    let l : List ℕ = drop (message_bytes * i) bs in
    length-append (first_blocks bs i) (block_of l) ∙ omega (arith, length-blocks bs i, block-length (message_of l) (message-length l))

module _ (bs out₀ out : List ℕ) (i : ℕ) (e : out ≡ first_blocks bs i ++ drop (block_bytes * i) out₀) {y : List ℕ}
    (ey : y ≡ block_of (take (length bs - message_bytes * i) (drop (message_bytes * i) bs))
    ++ drop block_bytes (take (length out - block_bytes * i) (drop (block_bytes * i) out))) where
  pub blocks-next : put_mid (block_bytes * i) (length out - block_bytes * i) out y ≡ first_blocks bs (i + 1) ++ drop (block_bytes * (i + 1)) out₀
  blocks-next =
      let n : block_bytes * i + block_bytes ≡ block_bytes * suc i = omega arith in
      back (first_blocks bs i) (drop (block_bytes * i) out₀) out (block_bytes * i) e (length-blocks bs i) y
      ∙ ap (λ (t : List ℕ). first_blocks bs i ++ t)
      (ey ∙ ap₂ (λ (a b : List ℕ). block_of a ++ drop block_bytes b) (tail-is (message_bytes * i) bs)
      (lent (first_blocks bs i) (drop (block_bytes * i) out₀) out (block_bytes * i) e (length-blocks bs i)))
      ∙ sym (append_assoc (first_blocks bs i) (block_of (drop (message_bytes * i) bs)) (drop block_bytes (drop (block_bytes * i) out₀)))
      ∙ ap (λ (t : List ℕ). first_blocks bs (suc i) ++ t) (drop-drop block_bytes (block_bytes * i) out₀ ∙ ap (λ (m : ℕ). drop m out₀) n)
      ∙ ap (λ (j : ℕ). first_blocks bs j ++ drop (block_bytes * j) out₀) (sym (add-one i))

  pub blocks-room : block_bytes * (i + 1) ≤ length out₀ → length (put_mid (block_bytes * i) (length out - block_bytes * i) out y) ≡ length out₀
  blocks-room h =
      ap length blocks-next ∙ length-append (first_blocks bs (i + 1)) (drop (block_bytes * (i + 1)) out₀)
      ∙ omega (arith, length-blocks bs (i + 1), length-drop (block_bytes * (i + 1)) out₀)

-- ---- and all blocks are the stream as it is sent
length-filled : (bs : List ℕ) → length (filled bs) ≡ length bs + fillers (length bs)
length-filled bs = length-append bs (replicate (fillers (length bs)) flag) ∙ ap (λ (n : ℕ). length bs + n) (length-replicate (fillers (length bs)) flag)

message-is : (bs : List ℕ) (i : ℕ) → message_bytes * suc i ≤ length (filled bs)
    → take message_bytes (drop (message_bytes * i) (filled bs)) ≡ message_of (drop (message_bytes * i) bs)
message-is bs i h =
    let f : ℕ = fillers (length bs) in
    let l : List ℕ = drop (message_bytes * i) bs in
    let nf : length (filled bs) ≡ length bs + f = length-filled bs in
    let nl : length l ≡ length bs - message_bytes * i = length-drop (message_bytes * i) bs in
    let within : message_bytes * i ≤ length bs = omega arith in
    ap (take message_bytes) (drop-append-le (message_bytes * i) bs (replicate f flag) within)
    ∙ by_le message_bytes (length l)
    (λ g.
    take-append-le message_bytes l (replicate f flag) g
    ∙ sym (copied-over l (replicate message_bytes flag) (omega (arith, length-replicate message_bytes flag))
    ∙ ap (λ (n : ℕ). take n l) (length-replicate message_bytes flag)))
    (λ g.
    let e : f ≡ message_bytes - length l = omega arith in
    let a : length (l ++ replicate f flag) ≤ message_bytes = omega (arith, length-append l (replicate f flag), length-replicate f flag) in
    take_all message_bytes (l ++ replicate f flag) a
    ∙ ap (λ (n : ℕ). l ++ replicate n flag) e
    ∙ sym
    (copied-fits l (replicate message_bytes flag) (omega (arith, length-replicate message_bytes flag))
    ∙ ap (λ (t : List ℕ). l ++ t) (drop-same flag (length l) message_bytes)))

cut-last : (q : ℕ) (bs : List ℕ) → cut_up (suc q) bs ≡ cut_up q bs ++ take message_bytes (drop (message_bytes * q) bs) ∷ []
cut-last zero bs = refl
cut-last (suc q) bs =
    let n : message_bytes + message_bytes * q ≡ message_bytes * suc q = omega arith in
    ap (λ (l : List (List ℕ)). take message_bytes bs ∷ l)
    (cut-last q (drop message_bytes bs)
    ∙ ap (λ (x : List ℕ). cut_up q (drop message_bytes bs) ++ take message_bytes x ∷ [])
    (drop-drop (message_bytes * q) message_bytes bs ∙ ap (λ (m : ℕ). drop m bs) n))

framed-last : (us : List (List ℕ)) (m : List ℕ) → framed (map word_of (us ++ m ∷ [])) ≡ framed (map word_of us) ++ (marker ++ word_of m)
framed-last us m =
    ap framed (map-append word_of us (m ∷ []))
    ∙ framed-append (map word_of us) (word_of m ∷ [])
    ∙ ap (λ (l : List ℕ). framed (map word_of us) ++ (marker ++ l)) (append-nil (word_of m))

blocks-marked : (bs : List ℕ) (i : ℕ) → message_bytes * i ≤ length (filled bs) → framed (map word_of (cut_up i (filled bs))) ≡ first_blocks bs i
blocks-marked bs zero h = refl
blocks-marked bs (suc i) h =
    ap (λ (l : List (List ℕ)). framed (map word_of l)) (cut-last i (filled bs))
    ∙ framed-last (cut_up i (filled bs)) (take message_bytes (drop (message_bytes * i) (filled bs)))
    ∙ ap₂ (λ (a m : List ℕ). a ++ (marker ++ word_of m)) (blocks-marked bs i (omega arith)) (message-is bs i h)

module _ (bs out : List ℕ) (q : ℕ) (e : q ≡ (length bs + fillers (length bs)) / message_bytes) where
  sent-all : first_blocks bs q ≡ marked bs
  sent-all =
      let n : q ≡ length (filled bs) / message_bytes = e ∙ ap (λ (m : ℕ). m / message_bytes) (sym (length-filled bs)) in
      sym (blocks-marked bs q (omega arith)) ∙ ap (λ (m : ℕ). framed (map word_of (cut_up m (filled bs)))) n

  sent-length : length (marked bs) ≡ block_bytes * q
  sent-length = ap length (sym sent-all) ∙ length-blocks bs q

  pub send-short : length out < block_bytes * q → refused 23 out ≡ sending bs out
  send-short h = wrote-short (marked bs) out (block_bytes * q) sent-length h

  pub send-fits : (i : ℕ) {after : List ℕ} → block_bytes * q ≤ length out → i ≡ q → after ≡ first_blocks bs i ++ drop (block_bytes * i) out
      → outcome (Wrote (block_bytes * q)) after ≡ sending bs out
  send-fits i h k p =
      wrote-fits (marked bs) out (block_bytes * q) sent-length h
      (p ∙ ap (λ (j : ℕ). first_blocks bs j ++ drop (block_bytes * j) out) k ∙ ap (λ (l : List ℕ). l ++ drop (block_bytes * q) out) sent-all)

-- ---- a refused call
pub marking-keeps : (message out : List ℕ) → Keeps out (marking message out)
marking-keeps message out = pick-keeps (eqb (length message) message_bytes) out (write_keeps (marker ++ word_of message) out) (refused-keeps 31 out)

pub sending-keeps : (bs out : List ℕ) → Keeps out (sending bs out)
sending-keeps bs out = write_keeps (marked bs) out
