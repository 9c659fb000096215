-- Laws of messages, and of the words made of them, with r parity bytes.
-- filled-multiple, filled-long              a stream filled with flags is whole messages
-- cut-joined, cut-back, cut-lengths, cut-append   bytes cut into parts of m bytes
-- m-pos, IsMessage                          a message has bytes, and how many
-- sent_word                                 a word that is sent is 255 bytes
-- words-each, words-messages, words-clean   words that are sent: 255 bytes, their messages, clean
-- IsClean, all-clean                        a word that is found clean
-- messages-each, words-carry                of any bytes: the words' messages are these bytes, filled
-- stream-bytes                              the stream of packets that the sender takes is of bytes
use Prim.Native.Nat.{ℕ, zero, suc, ◌+◌, ◌-◌, ◌*◌, ◌/◌, ◌%◌, ◌≤◌, ◌<◌}
use native.Mathlib.Nat.{suc-add, zero-add, suc-mul, mod-lt, mod_self, mod-eq_of_lt, mod-add-div', mul-div_cancel, sub-zero}
use native.Mathlib.Omega.{arith}
use mathlib.Core.Path.{◌≡◌, refl, sym, ◌∙◌, ap}
use mathlib.Core.List.{List, [], ◌∷◌, ◌++◌, map, append_assoc}
use lib.ListN.{length, take, drop, replicate, length-append, length-replicate, length-drop, take-append-drop}
use lib.Seq.{take_at, take-append-le, drop-append-le, length-take-le}
use lib.Dec.{lit<}
use Rattle.base.specs.Bytes.{Each, IsByte, Bytes}
use Rattle.base.specs.Calls.{joined}
use Rattle.base.proofs.Bytes.{each_append, each_take, each-drop, each-replicate}
use Rattle.base.proofs.Tests.{by-eq}
use Rattle.packet_spec.specs.Contents.{Packet}
use Rattle.packet_spec.specs.Escape.{flag}
use Rattle.packet_spec.specs.Sender.{Accepted}
use Rattle.word_spec.specs.Word.{remainder}
use Rattle.word_spec.proofs.Division.{length-remainder}
use Rattle.word_spec.proofs.Clean.{parity-clean}
use Rattle.parity.specs.Calls.{root_limit, word_bytes}
use Rattle.stream.specs.Sender.{raw_of, frames_of, stream}
use Rattle.stream.proofs.Accepting.{raw-bytes}
use Rattle.channel_spec.specs.Word.{message_bytes, word_of, missing, filled, cut_up, messages_of, condition, mend, carried, IsWord}
use Rattle.channel_spec.specs.declared.Condition.TheVariants.{Clean as clean}
use Rattle.channel_spec.proofs.Words.{condition-clean, mend-clean}

-- ---- parts of m bytes
module _ (m : ℕ) (pos : 0 < m) where
  multiple : (x q : ℕ) → x ≡ q * m → x ≡ x / m * m
  multiple x q e = e ∙ sym (ap (λ y. y / m * m) e ∙ ap (λ y. y * m) (mul-div_cancel q pos))

  -- none where n is a multiple
  none-missing : (n : ℕ) → n % m ≡ 0 → missing m n ≡ 0
  none-missing n z = ap (λ y. (m - y) % m) z ∙ ap (λ y. y % m) (sub-zero m) ∙ mod_self m

  pub filled-multiple : (n : ℕ) → n + missing m n ≡ (n + missing m n) / m * m
  filled-multiple n =
      let l : n % m < m = mod-lt n pos in
      let s : n % m + n / m * m ≡ n = mod-add-div' n m in
      by-eq (n % m) 0
      (λ z.
      let e = none-missing n z in
      multiple (n + missing m n) (n / m) (omega arith))
      (λ z.
      let e : missing m n ≡ m - n % m = mod-eq_of_lt (omega arith) in
      let f : suc (n / m) * m ≡ n / m * m + m = suc-mul (n / m) m in
      multiple (n + missing m n) (suc (n / m)) (omega arith))

  cut-rest : (q : ℕ) (bs : List ℕ) → length bs ≡ suc q * m → (length (drop m bs) ≡ q * m) × (m ≤ length bs)
  cut-rest q bs e = let f : suc q * m ≡ q * m + m = suc-mul q m in (length-drop m bs ∙ omega arith, omega arith)

  pub cut-joined : (q : ℕ) (bs : List ℕ) → length bs ≡ q * m → joined (cut_up m q bs) ≡ bs
  cut-joined zero [] e = refl
  cut-joined zero (b ∷ bs) e = let z : 0 * m ≡ 0 = omega arith in absurd (omega arith)
  cut-joined (suc q) bs e = ap (λ l. take m bs ++ l) (cut-joined q (drop m bs) (cut-rest q bs e).0) ∙ take-append-drop m bs

  -- q parts of bytes, and what is left of these
  pub cut-back : (q : ℕ) (bs : List ℕ) → q * m ≤ length bs → (l : List ℕ) × (joined (cut_up m q bs) ++ l ≡ bs) × (length l + q * m ≡ length bs)
  cut-back zero bs h = (bs, refl, omega arith)
  cut-back (suc q) bs h =
      let f : suc q * m ≡ q * m + m = suc-mul q m in
      let n : length (drop m bs) ≡ length bs - m = length-drop m bs in
      let x = cut-back q (drop m bs) (omega arith) in
      let e = x.2 in (
        x.0,
        append_assoc (take m bs) (joined (cut_up m q (drop m bs))) x.0 ∙ ap (λ l. take m bs ++ l) x.1 ∙ take-append-drop m bs,
        omega arith,
      )

  pub cut-lengths : (q : ℕ) (bs : List ℕ) → q * m ≤ length bs → Each (λ (x : List ℕ). length x ≡ m) (cut_up m q bs)
  cut-lengths zero bs h = tt
  cut-lengths (suc q) bs h =
      let f : suc q * m ≡ q * m + m = suc-mul q m in
      let n : length (drop m bs) ≡ length bs - m = length-drop m bs in
      (length-take-le m bs (omega arith), cut-lengths q (drop m bs) (omega arith))

  abbrev IsPart : List ℕ → Type 0
  IsPart x = (length x ≡ m) × Bytes x

  cut-each : (q : ℕ) (bs : List ℕ) → length bs ≡ q * m → Bytes bs → Each IsPart (cut_up m q bs)
  cut-each zero bs e h = tt
  cut-each (suc q) bs e h = (
    (length-take-le m bs (cut-rest q bs e).1, each_take IsByte m bs h),
    cut-each q (drop m bs) (cut-rest q bs e).0 (each-drop IsByte m bs h),
  )

  pub cut-append : (q p : ℕ) (a b : List ℕ) → length a ≡ q * m → cut_up m (q + p) (a ++ b) ≡ cut_up m q a ++ cut_up m p b
  cut-append zero p [] b h = ap (λ (n : ℕ). cut_up m n b) (zero-add p)
  cut-append zero p (x ∷ a) b h = let z : 0 * m ≡ 0 = omega arith in absurd (omega arith)
  cut-append (suc q) p a b h =
      let n = cut-rest q a h in
      ap (λ (k : ℕ). cut_up m k (a ++ b)) (suc-add q p)
      ∙ (λ i. take-append-le m a b n.1 i ∷ cut_up m (q + p) (drop-append-le m a b n.1 i))
      ∙ ap (λ (l : List (List ℕ)). take m a ∷ l) (cut-append q p (drop m a) b n.0)

-- ---- words that are sent
module _ (r : ℕ) where
  -- a message: so many bytes
  abbrev pub IsMessage : List ℕ → Type 0
  IsMessage x = (length x ≡ message_bytes r) × Bytes x

  -- a word that is found clean
  abbrev pub IsClean : List ℕ → Type 0
  IsClean w = condition r w ≡ clean

  pub all-clean : (ws : List (List ℕ)) → Each IsClean ws → map (condition r) ws ≡ replicate (length ws) clean
  all-clean [] i = refl
  all-clean (w ∷ ws) i = λ j. i.0 j ∷ all-clean ws i.1 j

module _ (r : ℕ) (h : r ≤ root_limit) where
  pub m-pos : 0 < message_bytes r
  m-pos = omega arith

  module _ (x : List ℕ) (i : IsMessage r x) where
    pub sent_word : IsWord (word_of r x)
    sent_word = length-append x _ ∙ ap (λ n. length x + n) (length-remainder r _) ∙ (let y = i.0 in let z : length x + r ≡ word_bytes = omega arith in z)

    sent-condition : condition r (word_of r x) ≡ clean
    sent-condition = condition-clean r h (word_of r x) sent_word (parity-clean r x i.1)

    sent-mend : mend r (word_of r x) ≡ word_of r x
    sent-mend = mend-clean r h (word_of r x) sent_word (parity-clean r x i.1)

  pub words-each : (ms : List (List ℕ)) → Each (IsMessage r) ms → Each IsWord (map (word_of r) ms)
  words-each [] i = tt
  words-each (x ∷ ms) i = (sent_word x i.0, words-each ms i.1)

  pub words-messages : (ms : List (List ℕ)) → Each (IsMessage r) ms → carried r (map (word_of r) ms) ≡ joined ms
  words-messages [] i = refl
  words-messages (x ∷ ms) i =
      λ j. (ap (take (message_bytes r)) (sent-mend x i.0) ∙ take_at x (remainder r x) (message_bytes r) i.0.0) j ++ words-messages ms i.1 j

  pub words-clean : (ms : List (List ℕ)) → Each (IsMessage r) ms → Each (IsClean r) (map (word_of r) ms)
  words-clean [] i = tt
  words-clean (x ∷ ms) i = (sent-condition x i.0, words-clean ms i.1)

  -- ---- what is sent of any bytes: their words carry them, filled with flags
  module _ (bs : List ℕ) where
    pub filled-long : length (filled r bs) ≡ length (filled r bs) / message_bytes r * message_bytes r
    filled-long =
        let n : ℕ = missing (message_bytes r) (length bs) in
        let l : length (filled r bs) ≡ length bs + n = length-append bs _ ∙ ap (λ x. length bs + x) (length-replicate n flag) in
        l ∙ filled-multiple (message_bytes r) m-pos (length bs) ∙ ap (λ x. x / message_bytes r * message_bytes r) (sym l)

    module _ (b : Bytes bs) where
      pub messages-each : Each (IsMessage r) (messages_of r bs)
      messages-each =
          let n : ℕ = missing (message_bytes r) (length bs) in
          cut-each (message_bytes r) m-pos _ (filled r bs) filled-long (each_append IsByte bs _ b (each-replicate IsByte n flag (lit< tt)))

      pub words-carry : carried r (map (word_of r) (messages_of r bs)) ≡ filled r bs
      words-carry = words-messages (messages_of r bs) messages-each ∙ cut-joined (message_bytes r) m-pos _ (filled r bs) filled-long

-- ---- the stream of packets that the sender takes
behind-bytes : (ps : List Packet) → Each Accepted ps → Each IsByte (frames_of ps)
behind-bytes [] a = tt
behind-bytes (p ∷ ps) a = each_append IsByte (raw_of p) (flag ∷ frames_of ps) (raw-bytes p a.0) (lit< tt, behind-bytes ps a.1)

pub stream-bytes : (ps : List Packet) → Each Accepted ps → Bytes (stream ps)
stream-bytes ps a = (lit< tt, behind-bytes ps a)
