-- An export, imported.
-- say, reads_then                an answer before others; bytes read one behind the other
-- past-8, past-12, headed-past, headed-as   a head behind its times
-- head-part, head_read           a record's head, in part and whole
-- part-read, bytes_read          a record's bytes, likewise
-- record-read                    a whole record of any bytes, whatever its times are
-- captured-is                    the exported capture is one of its packets
-- import-any, export-import      every capture of some packets gives them back, the exported one among them
-- seen, times-ignored            a record's times do not matter, whatever stands behind them
-- some_end                       a head cut short ends with 61
use mathlib.Core.Path.{◌≡◌, refl, sym, ap, ◌∙◌}
use mathlib.Core.List.{List, [], ◌∷◌, ◌++◌, map, append_assoc, append-nil}
use mathlib.Core.Option.{Option}
use Prim.Native.Nat.{ℕ, suc, ◌+◌, ◌*◌, ◌<◌}
use native.Mathlib.Omega.{arith}
use borrow.Author.Tests.{eq-eqb, ne_eqb}
use lib.Dec.{eqb}
use lib.ListN.{length, get_or, take, drop, length-append, take-append-drop}
use lib.Seq.{get_or-append-add, length-take-le}
use Rattle.base.specs.Choice.{pick}
use Rattle.base.specs.Bytes.{Each}
use Rattle.base.specs.Calls.{tell, and_then}
use Rattle.base.proofs.Calls.{run-append}
use Rattle.base.proofs.Tests.{by_le}
use Rattle.packet_spec.specs.Contents.{Packet, packed}
use Rattle.packet_spec.specs.Frame.{Told, packet, refusal}
use Rattle.packet_spec.specs.Sender.{Accepted}
use Rattle.capture_spec.specs.File.{four, header, timed, records, captured, Recorded, CaptureOf}
use Rattle.capture_spec.specs.Meaning.{entry, Reading, in_head, in_record, fresh, four_at, says, record_by, headed, read, reads, ends}
use Rattle.capture_spec.specs.Order.{head_of}
use Rattle.capture_spec.proofs.Entry.{entry-packed, entry-most}

-- what one step gives, as a run
abbrev pub say : Option Told × Reading → List Told × Reading
say r = tell r.0 ([], r.1)

-- a run, and what follows it
pub reads_then : (s : Reading) (cs bs : List ℕ) {r : List Told × Reading} → reads s cs ≡ r → reads s (cs ++ bs) ≡ and_then r (λ t. reads t bs)
reads_then s cs bs e = run-append read s cs bs ∙ ap (λ (r : List Told × Reading). and_then r (λ t. reads t bs)) e

header_read : reads fresh header ≡ ([], in_head [])
unfolding read
header_read = refl

-- ---- a record's head
pub head-part : (t h : List ℕ) → length h + length t < 16 → reads (in_head h) t ≡ ([], in_head (h ++ t))
unfolding read
head-part [] h l = ap (λ (x : List ℕ). ([], in_head x)) (sym (append-nil h))
head-part (b ∷ t) h l =
    rw (ne_eqb (length h + 1) 16 (λ q. absurd (omega (arith, l, q))))
    (head-part t (h ++ b ∷ []) (omega (arith, l, length-append h (b ∷ []))) ∙ ap (λ (x : List ℕ). ([], in_head x)) (append_assoc h (b ∷ []) t))

pub head_read : (t h : List ℕ) → length h + length t ≡ 16 → (length t ≡ 0 → ⊥) → reads (in_head h) t ≡ say (headed (h ++ t))
unfolding read
head_read [] h l z = absurd (z refl)
head_read (b ∷ []) h l z = let k : length h + 1 ≡ 16 = omega (arith, l) in rw (eq-eqb _ _ k) refl
head_read (b ∷ c ∷ t) h l z =
    let k : length h + 1 ≡ 16 → ⊥ = λ q. absurd (omega (arith, l, q)) in
    let r = head_read (c ∷ t) (h ++ b ∷ []) (omega (arith, l, length-append h (b ∷ []))) (λ q. absurd (omega (arith, q))) in
    rw (ne_eqb _ _ k) (r ∙ ap (λ (x : List ℕ). say (headed x)) (append_assoc h (b ∷ []) (c ∷ t)))

-- ---- a record's bytes
module _ (n : ℕ) where
  pub part-read : (t bs : List ℕ) → length bs + length t < n → reads (in_record n bs) t ≡ ([], in_record n (bs ++ t))
  unfolding read
  part-read [] bs l = ap (λ (x : List ℕ). ([], in_record n x)) (sym (append-nil bs))
  part-read (b ∷ t) bs l =
      rw (ne_eqb (length bs + 1) n (λ q. absurd (omega (arith, l, q))))
      (part-read t (bs ++ b ∷ []) (omega (arith, l, length-append bs (b ∷ []))) ∙ ap (λ (x : List ℕ). ([], in_record n x)) (append_assoc bs (b ∷ []) t))

  pub bytes_read : (t bs : List ℕ) → length bs + length t ≡ n → (length t ≡ 0 → ⊥) → reads (in_record n bs) t ≡ say (says (entry (bs ++ t)))
  unfolding read
  bytes_read [] bs l z = absurd (z refl)
  bytes_read (b ∷ []) bs l z = let k : length bs + 1 ≡ n = omega (arith, l) in rw (eq-eqb _ _ k) refl
  bytes_read (b ∷ c ∷ t) bs l z =
      let k : length bs + 1 ≡ n → ⊥ = λ q. absurd (omega (arith, l, q)) in
      let r = bytes_read (c ∷ t) (bs ++ b ∷ []) (omega (arith, l, length-append bs (b ∷ []))) (λ q. absurd (omega (arith, q))) in
      rw (ne_eqb _ _ k) (r ∙ ap (λ (x : List ℕ). say (says (entry x))) (append_assoc bs (b ∷ []) (c ∷ t)))

-- ---- a whole record
-- behind its head
record-rest : (bs : List ℕ) → and_then (say (record_by (eqb (length bs) 0) (length bs) [])) (λ t. reads t bs) ≡ say (says (entry bs))
unfolding entry
record-rest [] = refl
record-rest (b ∷ bs) =
    let z : length (b ∷ bs) ≡ 0 → ⊥ = λ e. absurd (omega (arith, e)) in
    rw (ne_eqb (length (b ∷ bs)) 0 z) (bytes_read (length (b ∷ bs)) (b ∷ bs) [] (omega arith) z)

module _ (times : List ℕ) (eight : length times ≡ 8) where
  past : (l : List ℕ) (i : ℕ) → get_or (times ++ l) (8 + i) 0 ≡ get_or l i 0
  past l i = ap (λ (n : ℕ). get_or (times ++ l) (n + i) 0) (sym eight) ∙ get_or-append-add times l i 0

  pub past-8 : (l : List ℕ) → four_at (times ++ l) 8 ≡ four_at l 0
  past-8 l = λ j. past l 0 j + 256 * (past l 1 j + 256 * (past l 2 j + 256 * past l 3 j))

  pub past-12 : (l : List ℕ) → four_at (times ++ l) 12 ≡ four_at l 4
  past-12 l = λ j. past l 4 j + 256 * (past l 5 j + 256 * (past l 6 j + 256 * past l 7 j))

  -- a head's times are not looked at
  pub headed-past : (l : List ℕ) → headed (times ++ l) ≡ pick (eqb (four_at l 0) (four_at l 4)) (record_by (eqb (four_at l 0) 0) (four_at l 0) [])
      (says (refusal 61))
  headed-past l = λ i. pick (eqb (past-8 l i) (past-12 l i)) (record_by (eqb (past-8 l i) 0) (past-8 l i) []) (says (refusal 61))

  module _ (n : ℕ) (l : n < 4294967296) where
    pub headed-as : headed (head_of times n) ≡ record_by (eqb n 0) n []
    headed-as =
        let a : four_at (four n ++ four n) 0 ≡ n = omega arith in
        headed-past (four n ++ four n) ∙ rw (a, eq-eqb n n refl) refl

  pub record-read : (bs : List ℕ) → length bs < 4294967296 → reads (in_head []) (timed times bs) ≡ say (says (entry bs))
  record-read bs l =
      let n = length bs in
      let m = length-append times (four n ++ four n) in
      ap (reads (in_head [])) (sym (append_assoc times (four n ++ four n) bs))
      ∙ reads_then (in_head []) (head_of times n) bs
      (head_read (head_of times n) [] (omega (arith, eight, m)) (λ z. absurd (omega (arith, z, eight, m))) ∙ ap say (headed-as n l)) ∙ record-rest bs

-- ---- a capture of some packets
packet-read : (times : List ℕ) → length times ≡ 8 → (p : Packet) → Accepted p → (rest : List ℕ)
    → reads (in_head []) (timed times (packed p) ++ rest) ≡ and_then (packet p ∷ [], in_head []) (λ t. reads t rest)
packet-read times e p a rest =
    let l : length (packed p) < 4294967296 = omega (arith, entry-most (packed p) p (entry-packed p a)) in
    reads_then (in_head []) (timed times (packed p)) rest (record-read times e (packed p) l ∙ ap (λ (t : Told). say (says t)) (entry-packed p a))

recorded-read : (ps : List Packet) → Each Accepted ps → (bs : List ℕ) → Recorded ps bs → reads (in_head []) bs ≡ (map packet ps, in_head [])
recorded-read [] a bs e = ap (reads (in_head [])) e
recorded-read (p ∷ ps) a bs (times, rest, e, f, r) =
    ap (reads (in_head [])) f ∙ packet-read times e p a.0 rest
    ∙ ap (λ (r : List Told × Reading). and_then (packet p ∷ [], in_head []) (λ t. r)) (recorded-read ps a.1 rest r)

pub import-any : (ps : List Packet) → Each Accepted ps → (bs : List ℕ) → CaptureOf ps bs → reads fresh bs ≡ (map packet ps, in_head [])
import-any ps a bs (rest, e, r) = ap (reads fresh) e ∙ reads_then fresh header rest header_read ∙ recorded-read ps a rest r

records-are : (ps : List Packet) (i : ℕ) → Recorded ps (records i ps)
unfolding records
records-are [] i = refl
records-are (p ∷ ps) i = (four i ++ four 0, records (suc i) ps, refl, refl, records-are ps (suc i))

pub captured-is : (ps : List Packet) → CaptureOf ps (captured ps)
captured-is ps = (_, refl, records-are ps _)

-- the import of an export gives the same packets back, and the file ends well
pub export-import : (ps : List Packet) → Each Accepted ps → reads fresh (captured ps) ≡ (map packet ps, in_head [])
export-import ps a = import-any ps a (captured ps) (captured-is ps)

-- ---- a record's times
-- answers, and what the end of the file says
abbrev pub seen : Reading → List ℕ → List Told × ℕ
seen s bs = ((reads s bs).0, ends (reads s bs).1)

pub some_end : (bs : List ℕ) → 0 < length bs → ends (in_head bs) ≡ 61
some_end [] h = absurd (omega (arith, h))
some_end (b ∷ bs) h = refl

module _ (times others : List ℕ) (e : length times ≡ 8) (f : length others ≡ 8) where
  part-seen : (ts rest : List ℕ) → length ts ≡ 8 → length rest < 8 → seen (in_head []) (ts ++ rest) ≡ ([], 61)
  part-seen ts rest l h =
      let n = length-append ts rest in
      ap (λ (r : List Told × Reading). (r.0, ends r.1)) (head-part (ts ++ rest) [] (omega (arith, n, l, h)))
      ∙ (λ i. ([], some_end (ts ++ rest) (omega (arith, n, l)) i))

  head-times : (q rest : List ℕ) → length q ≡ 8 → reads (in_head []) ((times ++ q) ++ rest) ≡ reads (in_head []) ((others ++ q) ++ rest)
  head-times q rest l =
      let m = length-append times q in
      let n = length-append others q in
      reads_then (in_head []) (times ++ q) rest
      (head_read (times ++ q) [] (omega (arith, m, e, l)) (λ z. absurd (omega (arith, z, m, e))) ∙ ap say (headed-past times e q ∙ sym (headed-past others f q))
      ∙ sym (head_read (others ++ q) [] (omega (arith, n, f, l)) (λ z. absurd (omega (arith, z, n, f)))))
      ∙ sym (reads_then (in_head []) (others ++ q) rest refl)

  -- whatever stands behind them, whole or cut short
  pub times-ignored : (rest : List ℕ) → seen (in_head []) (times ++ rest) ≡ seen (in_head []) (others ++ rest)
  times-ignored rest =
      by_le 8 (length rest)
      (λ h.
      let q = take 8 rest in
      let w : (ts : List ℕ) → ts ++ rest ≡ (ts ++ q) ++ drop 8 rest = λ ts. ap (λ (l : List ℕ). ts ++ l) (sym (take-append-drop 8 rest))
      ∙ sym (append_assoc ts q (drop 8 rest)) in
      ap (λ (r : List Told × Reading). (r.0, ends r.1))
      (ap (reads (in_head [])) (w times) ∙ head-times q (drop 8 rest) (length-take-le 8 rest h) ∙ ap (reads (in_head [])) (sym (w others))))
      (λ h. part-seen times rest e h ∙ sym (part-seen others rest f h))
