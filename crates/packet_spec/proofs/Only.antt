-- What is judged to be a packet is what the sender would send: its own bytes, and a packet that it accepts.
-- body-only    of format byte to last payload byte
-- judge-only   of raw bytes
use mathlib.Core.Path.{◌≡◌, refl, sym, ap, subst, ◌∙◌}
use mathlib.Core.Bool.{Bool, true, false}
use mathlib.Core.List.{List, [], ◌∷◌, ◌++◌, append_assoc}
use Prim.Native.Nat.{ℕ, zero, suc, ◌+◌, ◌-◌, ◌/◌, ◌%◌, ◌≤◌, ◌<◌}
use native.Mathlib.Omega.{arith}
use borrow.Author.Tests.{eq-eqb, ne_eqb, le-leb, eqb-true, ltb-false}
use lib.Dec.{eqb, ltb}
use lib.ListN.{length, get_or, take, drop, length-drop, take-append-drop}
use lib.Seq.{length-take-le, take_all}
use Rattle.base.specs.Choice.{pick}
use Rattle.base.specs.Bytes.{IsByte, Bytes}
use Rattle.base.proofs.Bytes.{each_take, each-drop}
use Rattle.base.proofs.Lists.{next, over}
use Rattle.base.proofs.Tests.{by-eq}
use Rattle.fcs.specs.Fcs.{fcs}
use Rattle.packet_spec.specs.Port.{barred}
use Rattle.packet_spec.specs.Contents.{Packet, plain_format, key_format, key_least, key_most, key_at, rest_least, payload_limit, raw_limit, two}
use Rattle.packet_spec.specs.Contents.{pair, pair_at, head, packed, unpacked, plainly, keyed, with_check, contents, body}
use Rattle.packet_spec.specs.Escape.{escape, plain, escaped, scan}
use Rattle.packet_spec.specs.Frame.{Told, packet, refusal, broken, kept, judge_body, judge_contents, closed_by, closed, judge}
use Rattle.packet_spec.specs.Sender.{head_fits, Accepted}
use Rattle.packet_spec.specs.declared.Escapes.{Escapes}
use Rattle.packet_spec.specs.declared.Escapes.TheVariants.{Right, Unfinished, Wrong}
use Rattle.packet_spec.proofs.Judging.{key_fits_lem, body-ways}

-- two bytes are those of their number
two-pair : (x y : ℕ) → x < 256 → y < 256 → two (pair x y) ≡ x ∷ y ∷ []
two-pair x y hx hy =
    let low : pair x y % 256 ≡ x = omega arith in
    let high : pair x y / 256 ≡ y = omega arith in
    λ i. low i ∷ high i ∷ []

-- port, sequence and payload, put together again
rest_back : (bs : List ℕ) → Bytes bs → 4 ≤ length bs → (two (pair_at bs 0) ++ two (pair_at bs 2)) ++ drop 4 bs ≡ bs
rest_back [] h n = absurd (omega (arith, n))
rest_back (a ∷ []) h n = absurd (omega (arith, n))
rest_back (a ∷ b ∷ []) h n = absurd (omega (arith, n))
rest_back (a ∷ b ∷ c ∷ []) h n = absurd (omega (arith, n))
rest_back (a ∷ b ∷ c ∷ d ∷ l) h n =
    λ i. (two-pair a b h.0 h.1.0 i ++ two-pair c d h.1.1.0 h.1.1.1.0 i) ++ l

-- of a packet: the bytes are its own, and the sender accepts it
abbrev Only : Told → List ℕ → Type 0
Only (packet p) bs = (packed p ≡ bs) × Accepted p
Only (refusal n) bs = Unit {0}
Only (broken n) bs = Unit {0}

wide : (bs : List ℕ) (i : ℕ) → Bytes bs → get_or bs i 0 < 256
wide [] i h = omega arith
wide (b ∷ bs) zero h = h.0
wide (b ∷ bs) (suc i) h = wide bs i h.1

-- a packet taken apart behind a head that fits
module _ (format number : ℕ) (key rest bs : List ℕ) (whole : head format number key ++ rest ≡ bs) (fits : head_fits format number (length key) ≡ true)
    (number_fits : number < 256) (key_bytes : Bytes key) (bytes : Bytes rest) (long : 5 ≤ length rest)
    (free : barred (pair_at rest 0) ≡ false) (short : length (escape (drop 4 rest)) ≤ payload_limit) where
  only_of : Only (packet (unpacked format number key rest)) bs
  only_of = (
    append_assoc (head format number key) (two (pair_at rest 0) ++ two (pair_at rest 2)) (drop 4 rest)
        ∙ ap (λ (l : List ℕ). head format number key ++ l) (rest_back rest bytes (omega arith)) ∙ whole,
    record {
      some = λ e. omega (arith, length-drop 4 rest);
      short = short;
      free = free;
      fits = fits;
      number_fits = number_fits;
      key_bytes = key_bytes;
      port_fits = omega (arith, wide rest 0 bytes, wide rest 1 bytes);
      sequence_fits = omega (arith, wide rest 2 bytes, wide rest 3 bytes);
      bytes = each-drop IsByte 4 rest bytes;
    },
  )

only-plain : (bs : List ℕ) → Bytes bs → 6 ≤ length bs → get_or bs 0 0 ≡ plain_format → barred (plainly bs).port ≡ false
    → length (escape (plainly bs).payload) ≤ payload_limit → Only (packet (plainly bs)) bs
only-plain [] h n e f s = absurd (omega (arith, n))
only-plain (b ∷ l) h n e f s = only_of plain_format 0 [] l (b ∷ l) (ap (λ (x : ℕ). x ∷ l) (sym e)) refl (omega arith) tt h.1 (omega arith) f s

-- the key and what stands behind it
key-rest : (b k n : ℕ) (l : List ℕ) → k ≤ length l → take k l ++ drop (key_at + k) (b ∷ k ∷ n ∷ l) ≡ l
key-rest b k n l h =
    let e : key_at + k ≡ suc (suc (suc k)) = omega arith in
    ap (λ (m : ℕ). take k l ++ drop m (b ∷ k ∷ n ∷ l)) e ∙ take-append-drop k l

only-keyed : (bs : List ℕ) → Bytes bs → get_or bs 0 0 ≡ key_format
    → (key_least ≤ get_or bs 1 0) × (get_or bs 1 0 ≤ key_most) × (key_at + get_or bs 1 0 + rest_least ≤ length bs)
    → barred (keyed bs).port ≡ false → length (escape (keyed bs).payload) ≤ payload_limit → Only (packet (keyed bs)) bs
only-keyed [] h e k f s = absurd (omega (arith, k.0))
only-keyed (b ∷ []) h e k f s = absurd (omega (arith, k.0))
only-keyed (b ∷ k ∷ []) h e (low, high, long) f s = absurd (omega (arith, low, long))
only-keyed (b ∷ k ∷ n ∷ l) h e (low, high, long) f s =
    let bs : List ℕ = b ∷ k ∷ n ∷ l in
    let m : length (take k l) ≡ k = length-take-le k l (omega arith) in
    only_of key_format n (take k l) (drop (key_at + k) bs) bs
    (ap (λ (x : ℕ). key_format ∷ x ∷ n ∷ (take k l ++ drop (key_at + k) bs)) m ∙ (λ i. sym e i ∷ k ∷ n ∷ key-rest b k n l (omega arith) i))
    (rw (m, le-leb key_least k low, le-leb k key_most high)) h.1.1.0 (each_take IsByte k l h.1.1.1) (each-drop IsByte (key_at + k) bs h)
    (omega (arith, length-drop (key_at + k) bs)) f s

-- format byte to last payload byte, six bytes at least
pub body-only : (bs : List ℕ) → Bytes bs → 6 ≤ length bs → (p : Packet) → judge_body bs ≡ packet p → (packed p ≡ bs) × Accepted p
body-only bs h n p e =
    subst (λ (t : Told). Only t bs) e
    (body-ways bs (λ (t : Told). Only t bs) tt tt tt tt (only-plain bs h n) (λ f k. only-keyed bs h f (key_fits_lem bs k)))

-- ---- with the check
last-two : (bs : List ℕ) → Bytes bs → 2 ≤ length bs → two (pair_at bs (length bs - 2)) ≡ drop (length bs - 2) bs
last-two bs h n =
    let i = length bs - 2 in
    two-pair (get_or bs i 0) (get_or bs (i + 1) 0) (wide bs i h) (wide bs (i + 1) h)
    ∙ sym (next bs i (omega arith) ∙ ap (λ (l : List ℕ). get_or bs i 0 ∷ l)
    (next bs (i + 1) (omega arith) ∙ ap (λ (l : List ℕ). get_or bs (i + 1) 0 ∷ l) (over bs (i + 1 + 1) (omega arith))))

-- of a packet: the contents are its own, and the sender accepts it
abbrev OnlyIn : Told → List ℕ → Type 0
OnlyIn (packet p) cs = (contents p ≡ cs) × Accepted p
OnlyIn (refusal n) cs = Unit {0}
OnlyIn (broken n) cs = Unit {0}

only-contents : (cs : List ℕ) → Bytes cs → OnlyIn (judge_contents cs) cs
unfolding judge_contents contents with_check
only-contents cs h = go (ltb (length cs) 8) refl (eqb (fcs (body cs)) (pair_at cs (length cs - 2))) refl
  where
    told : (t : Told) → judge_body (body cs) ≡ t → 8 ≤ length cs → fcs (body cs) ≡ pair_at cs (length cs - 2) → OnlyIn t cs
    told (refusal n) e l f = tt
    told (broken n) e l f = tt
    told (packet p) e l f =
        let m : length (body cs) ≡ length cs - 2 = length-take-le (length cs - 2) cs (omega arith) in
        let o = body-only (body cs) (each_take IsByte (length cs - 2) cs h) (omega arith) p e in (
          ap with_check o.0 ∙ ap (λ (n : ℕ). body cs ++ two n) f ∙ ap (λ (l : List ℕ). body cs ++ l) (last-two cs h (omega arith))
              ∙ take-append-drop (length cs - 2) cs,
          o.1,
        )

    go : (t : Bool) → ltb (length cs) 8 ≡ t → (u : Bool) → eqb (fcs (body cs)) (pair_at cs (length cs - 2)) ≡ u
        → OnlyIn (pick t (refusal 4) (pick u (judge_body (body cs)) (refusal 5))) cs
    go true e u f = tt
    go false e false f = tt
    go false e true f = told (judge_body (body cs)) refl (ltb-false _ _ e) (eqb-true _ _ f)

-- ---- of raw bytes
mutual
  unfolding plain escaped

  plain-bytes : (bs : List ℕ) → Bytes bs → Bytes (plain bs)
  plain-bytes [] h = tt
  plain-bytes (b ∷ bs) h =
      by-eq b 0x7D (λ e. rw (eq-eqb _ _ e) (escaped-bytes bs h.1)) (λ n. rw (ne_eqb _ _ n) (h.0, plain-bytes bs h.1))

  escaped-bytes : (bs : List ℕ) → Bytes bs → Bytes (escaped bs)
  escaped-bytes [] h = tt
  escaped-bytes (b ∷ bs) h = (restored-byte (eqb b 0x5E), plain-bytes bs h.1)
    where
      restored-byte : (t : Bool) → pick t 0x7E 0x7D < 256
      restored-byte true = omega arith
      restored-byte false = omega arith

-- raw bytes that are judged to be a packet are its contents, escapes undone
pub judge-only : (raw : List ℕ) → Bytes raw → (p : Packet) → judge raw ≡ packet p → (contents p ≡ plain raw) × Accepted p
unfolding judge closed closed_by
judge-only raw h p e = subst (λ (t : Told). OnlyIn t (plain raw)) e (go (ltb raw_limit (length raw)) (scan (take (length raw) raw)))
  where
    go : (t : Bool) (s : Escapes) → OnlyIn (pick t (kept 1 raw) (closed_by s (take (length raw) raw) raw)).told (plain raw)
    go true s = tt
    go false Unfinished = tt
    go false (Wrong n) = tt
    go false Right = rw (take_all (length raw) raw (omega arith)) (only-contents (plain raw) (plain-bytes raw h))
