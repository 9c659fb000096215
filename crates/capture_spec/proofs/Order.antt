-- A capture in file order.
-- next                               every way a file may go on
-- head-next, unequal-next, bytes_next, whole-next, long-next   what is answered of each: 61 for a record cut short or lengths unequal, and of a whole
--                                    record what its bytes are told to be
-- import-only                        what is imported whole is a capture of those packets, times aside
use mathlib.Core.Path.{◌≡◌, refl, sym, ap, subst, ◌∙◌}
use mathlib.Core.List.{List, [], ◌∷◌, ◌++◌, map, append_assoc, cons≢nil, nil≢cons, head-eq_of_cons-eq, tail-eq_of_cons-eq}
use Prim.Native.Nat.{ℕ, zero, suc, ◌+◌, ◌*◌, ◌/◌, ◌%◌, ◌≤◌, ◌<◌}
use native.Mathlib.Omega.{arith}
use borrow.Author.Tests.{ne_eqb}
use lib.Dec.{eqb}
use lib.ListN.{length, take, drop, length-append, length-drop, take-append-drop}
use lib.Seq.{length-take-le}
use Rattle.base.specs.Bytes.{Each, IsByte, Bytes}
use Rattle.base.specs.Calls.{and_then}
use Rattle.base.specs.Choice.{pick}
use Rattle.base.proofs.Bytes.{each_take, each-drop, each-append-left, each-append-right}
use Rattle.base.proofs.Tests.{by-eq, by_le}
use Rattle.packet_spec.specs.Contents.{Packet, packed}
use Rattle.packet_spec.specs.Frame.{Told, packet, refusal}
use Rattle.packet_spec.specs.Sender.{Accepted}
use Rattle.capture_spec.specs.File.{four, header, timed, Recorded, CaptureOf}
use Rattle.capture_spec.specs.Meaning.{entry, entry_limit, Reading, in_head, in_record, behind, fresh, four_at, says, record_by, reads, ends, imported}
use Rattle.capture_spec.specs.Order.{head_of, Next, ended, cut_head, unequal, in_bytes, whole}
use Rattle.capture_spec.proofs.Entry.{packet-not, same-packet, entry-ways, entry-only, entry-long}
use Rattle.capture_spec.proofs.Export.{say, reads_then, head-part, head_read, part-read, past-8, past-12, headed-as, record-read, some_end}
use Rattle.capture_spec.proofs.Faults.{quiet, Begun, right, wrong, short, first}

-- ---- every way a file may go on
-- four bytes are those of their number
four-back : (a b c d : ℕ) → a < 256 → b < 256 → c < 256 → d < 256 → four (a + 256 * (b + 256 * (c + 256 * d))) ≡ a ∷ b ∷ c ∷ d ∷ []
four-back a b c d ha hb hc hd =
    let n = a + 256 * (b + 256 * (c + 256 * d)) in
    let w : n % 256 ≡ a = omega arith in
    let x : n / 256 ≡ b + 256 * (c + 256 * d) = omega arith in
    let y : n / 65536 ≡ c + 256 * d = omega arith in
    let z : n / 16777216 ≡ d = omega arith in
    let x' : n / 256 % 256 ≡ b = ap (λ (m : ℕ). m % 256) x ∙ omega arith in
    let y' : n / 65536 % 256 ≡ c = ap (λ (m : ℕ). m % 256) y ∙ omega arith in
    λ i. w i ∷ x' i ∷ y' i ∷ z i ∷ []

lengths-back : (q : List ℕ) → Bytes q → length q ≡ 8 → four_at q 0 ≡ four_at q 4 → (q ≡ four (four_at q 0) ++ four (four_at q 0)) × (four_at q 0 < 4294967296)
lengths-back (a ∷ b ∷ c ∷ d ∷ e ∷ f ∷ g ∷ h ∷ []) k l s =
    let m = k.1.1.1.1 in (
      sym (λ i. four-back a b c d k.0 k.1.0 k.1.1.0 k.1.1.1.0 i
          ++ (ap four s ∙ four-back e f g h m.0 m.1.0 m.1.1.0 m.1.1.1.0) i),
      omega (arith, k.0, k.1.0, k.1.1.0, k.1.1.1.0),
    )
lengths-back [] k l s = absurd (omega (arith, l))
lengths-back (a ∷ []) k l s = absurd (omega (arith, l))
lengths-back (a ∷ b ∷ []) k l s = absurd (omega (arith, l))
lengths-back (a ∷ b ∷ c ∷ []) k l s = absurd (omega (arith, l))
lengths-back (a ∷ b ∷ c ∷ d ∷ []) k l s = absurd (omega (arith, l))
lengths-back (a ∷ b ∷ c ∷ d ∷ e ∷ []) k l s = absurd (omega (arith, l))
lengths-back (a ∷ b ∷ c ∷ d ∷ e ∷ f ∷ []) k l s = absurd (omega (arith, l))
lengths-back (a ∷ b ∷ c ∷ d ∷ e ∷ f ∷ g ∷ []) k l s = absurd (omega (arith, l))
lengths-back (a ∷ b ∷ c ∷ d ∷ e ∷ f ∷ g ∷ h ∷ i ∷ q) k l s = absurd (omega (arith, l))

head-back : (h : List ℕ) → Bytes h → length h ≡ 16 → four_at h 8 ≡ four_at h 12 → (h ≡ head_of (take 8 h) (four_at h 8)) × (four_at h 8 < 4294967296)
head-back h k l s =
    let t = take 8 h in
    let q = drop 8 h in
    let e : length t ≡ 8 = length-take-le 8 h (omega arith) in
    let w : t ++ q ≡ h = take-append-drop 8 h in
    let m : four_at h 8 ≡ four_at q 0 = ap (λ (x : List ℕ). four_at x 8) (sym w) ∙ past-8 t e q in
    let n : four_at h 12 ≡ four_at q 4 = ap (λ (x : List ℕ). four_at x 12) (sym w) ∙ past-12 t e q in
    let r = lengths-back q (each-drop IsByte 8 h k) (length-drop 8 h ∙ omega arith) (sym m ∙ s ∙ n) in
    (sym w ∙ ap (λ (x : List ℕ). t ++ x) (r.0 ∙ ap (λ (x : ℕ). four x ++ four x) (sym m)), omega (arith, r.1, m))

few : (bs : List ℕ) → length bs < 16 → Next bs
few [] h = ended
few (b ∷ bs) h = cut_head (b ∷ bs) (omega arith) h

pub next : (bs : List ℕ) → Bytes bs → Next bs
next bs k = by_le 16 (length bs) many (few bs)
  where
    h : List ℕ
    h = take 16 bs

    t : List ℕ
    t = drop 16 bs

    many : 16 ≤ length bs → Next bs
    many l =
        let e : length h ≡ 16 = length-take-le 16 bs l in
        let w : h ++ t ≡ bs = take-append-drop 16 bs in
        by-eq (four_at h 8) (four_at h 12)
        (λ s.
        let n = four_at h 8 in
        let r = head-back h (each_take IsByte 16 bs k) e s in
        let times = take 8 h in
        let f : length times ≡ 8 = length-take-le 8 h (omega (arith, e)) in
        let v : head_of times n ++ t ≡ bs = ap (λ (x : List ℕ). x ++ t) (sym r.0) ∙ w in
        by_le n (length t)
        (λ m.
        let g : length (take n t) ≡ n = length-take-le n t m in
        let u : timed times (take n t) ++ drop n t ≡ head_of times n ++ t =
        ap (λ (x : ℕ). (times ++ (four x ++ (four x ++ take n t))) ++ drop n t) g
        ∙ append_assoc times (four n ++ (four n ++ take n t)) (drop n t)
        ∙ ap (λ (x : List ℕ). times ++ (four n ++ (four n ++ x))) (take-append-drop n t)
        ∙ sym (append_assoc times (four n ++ four n) t) in
        subst Next (u ∙ v) (whole times (take n t) (drop n t) f (omega (arith, g, r.1))))
        (λ m. subst Next v (in_bytes times n t f r.1 m)))
        (λ z. subst Next w (unequal h t e z))

-- ---- what is answered
pub head-next : (h : List ℕ) → 0 < length h → length h < 16 → (reads (in_head []) h ≡ ([], in_head h)) × (ends (in_head h) ≡ 61)
head-next h l m = (head-part h [] (omega arith), some_end h l)

pub unequal-next : (h rest : List ℕ) → length h ≡ 16 → (four_at h 8 ≡ four_at h 12 → ⊥) → reads (in_head []) (h ++ rest) ≡ (refusal 61 ∷ [], behind 61)
unequal-next h rest l z =
    reads_then (in_head []) h rest (head_read h [] (omega arith) (λ q. absurd (omega (arith, q, l)))
    ∙ ap (λ t. say (pick t (record_by (eqb (four_at h 8) 0) (four_at h 8) []) (says (refusal 61)))) (ne_eqb (four_at h 8) (four_at h 12) z))
    ∙ ap (λ (r : List Told × Reading). and_then (refusal 61 ∷ [], behind 61) (λ t. r)) (quiet 61 rest)

pub bytes_next : (times : List ℕ) (n : ℕ) (bs : List ℕ) → length times ≡ 8 → n < 4294967296 → length bs < n
    → reads (in_head []) (head_of times n ++ bs) ≡ ([], in_record n bs)
bytes_next times n bs e l m =
    let k = length-append times (four n ++ four n) in
    reads_then (in_head []) (head_of times n) bs
    (head_read (head_of times n) [] (omega (arith, e, k)) (λ q. absurd (omega (arith, q, e, k)))
    ∙ ap say (headed-as times e n l ∙ ap (λ t. record_by t n []) (ne_eqb n 0 (λ q. absurd (omega (arith, q, m))))))
    ∙ part-read n bs [] (omega (arith, m))

pub whole-next : (times bs rest : List ℕ) → length times ≡ 8 → length bs < 4294967296
    → reads (in_head []) (timed times bs ++ rest) ≡ and_then (say (says (entry bs))) (λ t. reads t rest)
whole-next times bs rest e l = reads_then (in_head []) (timed times bs) rest (record-read times e bs l)

-- longer than any packet's
pub long-next : (times bs rest : List ℕ) → length times ≡ 8 → length bs < 4294967296 → entry_limit < length bs
    → reads (in_head []) (timed times bs ++ rest) ≡ (refusal 62 ∷ [], behind 62)
long-next times bs rest e l m =
    whole-next times bs rest e l ∙ ap (λ (t : Told). and_then (say (says t)) (λ u. reads u rest)) (entry-long bs m)
    ∙ ap (λ (r : List Told × Reading). and_then (refusal 62 ∷ [], behind 62) (λ t. r)) (quiet 62 rest)

-- ---- nothing else is imported whole
-- packets alone, and the file ends well
abbrev Whole : List Packet → List Told × Reading → Type 0
Whole ps r = (r.0 ≡ map packet ps) × (ends r.1 ≡ 0)

-- a fault is no packet
no-fault : (ps : List Packet) {n : ℕ} {ts : List Told} → refusal n ∷ ts ≡ map packet ps → ⊥
no-fault [] e = cons≢nil e
no-fault (p ∷ ps) e = packet-not (head-eq_of_cons-eq e)

-- what is wanted of the bytes behind the header, or behind a record
abbrev Only : List Packet → List ℕ → Type 0
Only ps bs = Recorded ps bs × Each Accepted ps

module _ (times bs rest : List ℕ) (e : length times ≡ 8) (l : length bs < 4294967296) (k : Bytes bs) where
  one_more : (p : Packet) → entry bs ≡ packet p → (ps : List Packet) → Whole ps (and_then (packet p ∷ [], in_head []) (λ t. reads t rest))
      → ((qs : List Packet) → Whole qs (reads (in_head []) rest) → Only qs rest) → Only ps (timed times bs ++ rest)
  one_more p f [] w rec = absurd (cons≢nil w.0)
  one_more p f (q ∷ ps) w rec =
      let s : p ≡ q = same-packet (head-eq_of_cons-eq w.0) in
      let o = entry-only bs k p f in
      let r = rec ps (tail-eq_of_cons-eq w.0, w.1) in (
        (times, rest, e, ap (λ (x : List ℕ). timed times x ++ rest) (sym o.0 ∙ ap packed s), r.0),
        (subst Accepted s o.1, r.1),
      )

  whole-only : (ps : List Packet) → Whole ps (reads (in_head []) (timed times bs ++ rest))
      → ((qs : List Packet) → Whole qs (reads (in_head []) rest) → Only qs rest) → Only ps (timed times bs ++ rest)
  whole-only ps w rec =
      let as_read : (t : Told) → entry bs ≡ t → Whole ps (and_then (say (says t)) (λ u. reads u rest)) =
      λ t f. subst (Whole ps) (whole-next times bs rest e l ∙ ap (λ (t : Told). and_then (say (says t)) (λ u. reads u rest)) f) w in
      entry-ways bs (λ (t : Told). entry bs ≡ t → Only ps (timed times bs ++ rest)) (λ f. absurd (no-fault ps (as_read (refusal 62) f).0))
      (λ p m g f. one_more p f ps (as_read (packet p) f) rec) refl

step : {bs : List ℕ} → Next bs → Bytes bs → (ps : List Packet) → Whole ps (reads (in_head []) bs)
    → ((rest : List ℕ) → length rest < length bs → Bytes rest → (qs : List Packet) → Whole qs (reads (in_head []) rest) → Only qs rest) → Only ps bs
step ended k [] w rec = (refl, tt)
step ended k (p ∷ ps) w rec = absurd (nil≢cons w.0)
step (cut_head h l m) k ps w rec =
    let r = head-next h l m in
    absurd (omega (arith, w.1, ap (λ (x : List Told × Reading). ends x.1) r.0, r.1))
step (unequal h rest l z) k ps w rec = absurd (no-fault ps (subst (Whole ps) (unequal-next h rest l z) w).0)
step (in_bytes times n bs e l m) k ps w rec = absurd (omega (arith, w.1, ap (λ (x : List Told × Reading). ends x.1) (bytes_next times n bs e l m)))
step (whole times bs rest e l) k ps w rec =
    let b = each-append-right IsByte times (four (length bs) ++ (four (length bs) ++ bs)) (each-append-left IsByte (timed times bs) rest k) in
    whole-only times bs rest e l b.1.1.1.1.1.1.1.1 ps w
    (rec rest (omega (arith, e, length-append (timed times bs) rest, length-append times (four (length bs) ++ (four (length bs) ++ bs))))
    (each-append-right IsByte (timed times bs) rest k))

records-only : (n : ℕ) (bs : List ℕ) → length bs ≤ n → Bytes bs → (ps : List Packet) → Whole ps (reads (in_head []) bs) → Only ps bs
records-only zero bs l k ps w = step (next bs k) k ps w (λ rest m. absurd (omega (arith, l, m)))
records-only (suc n) bs l k ps w = step (next bs k) k ps w (λ rest m. records-only n rest (omega (arith, l, m)))

pub import-only : (ps : List Packet) (bs : List ℕ) → Bytes bs → imported bs ≡ (map packet ps, 0) → CaptureOf ps bs × Each Accepted ps
import-only ps bs k e = go (first bs)
  where
    w : Whole ps (reads fresh bs)
    w = (ap (λ (x : List Told × ℕ). x.0) e, ap (λ (x : List Told × ℕ). x.1) e)

    go : Begun 0 header bs → CaptureOf ps bs × Each Accepted ps
    go (right rest f r) =
        let o = records-only (length rest) rest (omega arith) (each-append-right IsByte header rest (subst Bytes f k)) ps (subst (Whole ps) r w) in
        ((rest, f, o.0), o.1)
    go (wrong z r) = absurd (no-fault ps (subst (Whole ps) r w).0)
    go (short z j r) = absurd (omega (arith, (subst (Whole ps) r w).1))
