-- The round trip: what the sender makes of a packet that it accepts is judged to be that packet.
-- scan-right, wrong-escape, last-escape   the escapes of escaped bytes are right: no byte behind 7D is wrong, and 7D is not the last
-- plain-undoes, escape-least   undoing them gives the bytes back; escaped bytes are no fewer
-- no_flag                    no flag stands in escaped bytes
-- by-format                  a head that fits is that of one format or of the other
-- plain_fits, raw-fits       a packet's raw bytes are within the limit, of format 0x21 and of either
-- packed-length              format byte to last payload byte are six bytes at least
-- judge-contents, round      the round trip
use mathlib.Core.Path.{◌≡◌, refl, sym, ap, subst, ◌∙◌}
use mathlib.Core.Bool.{Bool, true, false, ◌&&◌, false≢true}
use mathlib.Core.Logic.{◌≢◌}
use mathlib.Core.List.{List, [], ◌∷◌, ◌++◌, append_assoc, append-nil}
use Prim.Native.Nat.{ℕ, suc, ◌+◌, ◌-◌, ◌/◌, ◌%◌, ◌≤◌}
use native.Mathlib.Omega.{arith}
use borrow.Author.Tests.{ne_eqb, le-leb, eqb-true, leb-true}
use lib.Dec.{eqb, leb}
use lib.ListN.{length, take, drop, length-append}
use lib.Seq.{take_all, take-append_seam, drop-append_seam, get_or-append_seam, get_or-append-add}
use Rattle.base.specs.Bytes.{Each}
use Rattle.base.specs.Choice.{pick}
use Rattle.base.proofs.Bytes.{each_append}
use Rattle.base.proofs.Tests.{and_parts}
use Rattle.fcs.specs.Fcs.{fcs}
use Rattle.packet_spec.specs.Escape.{escape, escape_byte, plain, wrong_from, scanned_by, scan, last, right, NoFlag}
use Rattle.packet_spec.specs.Contents.{Packet, packet_of, plain_packet, key_packet, plain_format, key_format, key_least, key_most}
use Rattle.packet_spec.specs.Contents.{key_sized, payload_limit, plain_limit, raw_limit, contents, with_check, packed, unpacked}
use Rattle.packet_spec.specs.Contents.{keyed, key_at, rest_least, two, pair_at, body}
use Rattle.packet_spec.specs.Frame.{Closed, packet, judge, judge_packet, key_fits, judge_body, judge_contents, closed_by}
use Rattle.packet_spec.specs.Sender.{head_fits, Accepted}
use Rattle.packet_spec.specs.declared.Escapes.TheVariants.{Right}
use Rattle.packet_spec.proofs.Escaping.Kind.{flag, esc, other}
use Rattle.packet_spec.proofs.Escaping.{Kind, kind, escape-other, escape-append, escape-most, width-most, plain-short}
use Rattle.packet_spec.proofs.Judging.{packet-is, body-plain, body-keyed, judge-body, closed-as}

-- ---- undoing what escaping did
plain_byte : {b : ℕ} → Kind b → (t : List ℕ) → plain (escape_byte b ++ t) ≡ b ∷ plain t
unfolding escape_byte plain
plain_byte flag t = refl
plain_byte esc t = refl
plain_byte (other n m) t = simp (ne_eqb _ _ n, ne_eqb _ _ m)

plain-escape : (bs t : List ℕ) → plain (escape bs ++ t) ≡ bs ++ plain t
unfolding escape
plain-escape [] t = refl
plain-escape (b ∷ bs) t = rw (append_assoc (escape_byte b) (escape bs) t, plain_byte (kind b) (escape bs ++ t), plain-escape bs t)

-- no byte of escaped bytes is wrong
escaped-byte : {b : ℕ} → Kind b → (t : List ℕ) (p at : ℕ) → p ≢ 0x7D
    → ((q n : ℕ) → q ≢ 0x7D → wrong_from q n t ≡ 0) → wrong_from p at (escape_byte b ++ t) ≡ 0
unfolding escape_byte wrong_from right
escaped-byte flag t p at n f = rw (ne_eqb p 0x7D n) (f 0x5E (suc (suc at)) (λ z. absurd (omega (arith, z))))
escaped-byte esc t p at n f = rw (ne_eqb p 0x7D n) (f 0x5D (suc (suc at)) (λ z. absurd (omega (arith, z))))
escaped-byte {b} (other k m) t p at n f = simp (ne_eqb _ _ k, ne_eqb _ _ m, ne_eqb p 0x7D n) (f b (suc at) m)

pub wrong-escape : (bs : List ℕ) (p at : ℕ) → p ≢ 0x7D → wrong_from p at (escape bs) ≡ 0
unfolding escape wrong_from
wrong-escape [] p at n = refl
wrong-escape (b ∷ bs) p at n = escaped-byte (kind b) (escape bs) p at n (wrong-escape bs)

last-append : (d : ℕ) (a b : List ℕ) → last d (a ++ b) ≡ last (last d a) b
unfolding last
last-append d [] b = refl
last-append d (x ∷ a) b = last-append x a b

last_byte : (d : ℕ) {b : ℕ} → Kind b → last d (escape_byte b) ≡ 0x7D → ⊥
unfolding escape_byte last
last_byte d flag h = omega arith
last_byte d esc h = omega arith
last_byte d (other n m) h = m (rw (escape-other _ n m) at h)

pub last-escape : (d : ℕ) (bs : List ℕ) → (d ≡ 0x7D → ⊥) → last d (escape bs) ≡ 0x7D → ⊥
unfolding escape last
last-escape d [] n h = n h
last-escape d (b ∷ bs) n h = last-escape (last d (escape_byte b)) bs (last_byte d (kind b)) (rw (last-append d (escape_byte b) (escape bs)) at h)

pub scan-right : (bs : List ℕ) → scan (escape bs) ≡ Right
unfolding scan
scan-right bs =
    simp (ne_eqb _ _ (last-escape 0 bs (λ z. absurd (omega arith)))) (ap scanned_by (wrong-escape bs 0 0 (λ z. absurd (omega arith))))

pub plain-undoes : (bs : List ℕ) → plain (escape bs) ≡ bs
unfolding plain
plain-undoes bs =
    let e : plain (escape bs) ≡ plain (escape bs ++ []) = rw append-nil in
    e ∙ plain-escape bs [] ∙ append-nil bs

pub escape-least : (bs : List ℕ) → length bs ≤ length (escape bs)
escape-least bs = omega (arith, plain-short (escape bs), ap length (plain-undoes bs))

-- ---- no flag
no-flag-byte : {b : ℕ} → Kind b → NoFlag (escape_byte b)
unfolding escape_byte
no-flag-byte flag = (λ e. omega arith, (λ e. omega arith, tt))
no-flag-byte esc = (λ e. omega arith, (λ e. omega arith, tt))
no-flag-byte (other n m) = rw (escape-other _ n m) (n, tt)

pub no_flag : (bs : List ℕ) → NoFlag (escape bs)
unfolding escape
no_flag [] = tt
no_flag (b ∷ bs) = each_append (λ b. b ≡ 0x7E → ⊥) (escape_byte b) (escape bs) (no-flag-byte (kind b)) (no_flag bs)

-- ---- bytes with a number behind them
module _ (bs : List ℕ) (n : ℕ) where
  behind : length (bs ++ two n) - 2 ≡ length bs
  behind = simp length-append (omega arith)

  take_behind : take (length (bs ++ two n) - 2) (bs ++ two n) ≡ bs
  take_behind = rw behind (take-append_seam bs (two n))

  pair-behind : pair_at (bs ++ two n) (length (bs ++ two n) - 2) ≡ n
  pair-behind = rw (behind, get_or-append_seam bs (n % 256) (n / 256 ∷ []) 0, get_or-append-add bs (two n) 1 0) (omega arith)

-- ---- the two formats
no_bytes : (l : List ℕ) → length l ≡ 0 → l ≡ []
no_bytes [] e = refl
no_bytes (b ∷ l) e = absurd (omega (arith, e))

-- a head that fits is that of one format or of the other
pub by-format : {P : Type 0} (p : Packet) → head_fits p.format p.number (length p.key) ≡ true
    → (p ≡ plain_packet p.port p.sequence p.payload → P)
    → (p ≡ key_packet p.number p.key p.port p.sequence p.payload → key_least ≤ length p.key → length p.key ≤ key_most → P) → P
by-format {P} p h plain key = go (eqb p.format plain_format) refl (eqb p.format key_format) refl h
  where
    k : ℕ
    k = length p.key

    go : (t : Bool) → eqb p.format plain_format ≡ t → (u : Bool) → eqb p.format key_format ≡ u
        → pick t (eqb k 0 && eqb p.number 0) (pick u (key_sized k) false) ≡ true → P
    go true a u b h =
        let q = and_parts (eqb k 0) (eqb p.number 0) h in
        let f = eqb-true _ _ a in
        let n = eqb-true _ _ q.1 in
        let e = no_bytes p.key (eqb-true _ _ q.0) in
        plain (λ i. packet_of (f i) (n i) (e i) p.port p.sequence p.payload)
    go false a true b h =
        let q = and_parts (leb key_least k) (leb k key_most) h in
        let f = eqb-true _ _ b in
        key (λ i. packet_of (f i) p.number p.key p.port p.sequence p.payload) (leb-true _ _ q.0) (leb-true _ _ q.1)
    go false a false b h = absurd (false≢true h)

-- ---- format byte to last payload byte, taken apart
module _ (port sequence : ℕ) (payload : List ℕ) where
  -- port, sequence, payload
  abbrev rest : List ℕ
  rest = (two port ++ two sequence) ++ payload

  apart : (format number : ℕ) (key : List ℕ)
      → unpacked format number key rest ≡ packet_of format number key port sequence payload
  apart format number key =
      let p : pair_at rest 0 ≡ port = omega arith in
      let s : pair_at rest 2 ≡ sequence = omega arith in
      λ i. packet_of format number key (p i) (s i) payload

  packed-key : (number : ℕ) (key : List ℕ) → packed (key_packet number key port sequence payload) ≡ key_format ∷ length key ∷ number ∷ (key ++ rest)
  packed-key number key = ap (λ (l : List ℕ). key_format ∷ length key ∷ number ∷ l) (append_assoc key (two port ++ two sequence) payload)

  keyed-back : (number : ℕ) (key : List ℕ) → keyed (key_format ∷ length key ∷ number ∷ (key ++ rest)) ≡ key_packet number key port sequence payload
  keyed-back number key =
      let e : key_at + length key ≡ suc (suc (suc (length key))) = omega arith in
      let r : drop (key_at + length key) (key_format ∷ length key ∷ number ∷ (key ++ rest)) ≡ rest =
      ap (λ (n : ℕ). drop n (key_format ∷ length key ∷ number ∷ (key ++ rest))) e ∙ drop-append_seam key rest in
      (λ i. unpacked key_format number (take-append_seam key rest i) (r i)) ∙ apart key_format number key

  keyed-fits : (number : ℕ) (key : List ℕ) → (length payload ≡ 0 → ⊥) → key_least ≤ length key → length key ≤ key_most
      → key_fits (key_format ∷ length key ∷ number ∷ (key ++ rest)) ≡ true
  keyed-fits number key some low high =
      let l : key_at + length key + rest_least ≤ length (key_format ∷ length key ∷ number ∷ (key ++ rest)) = omega (arith, length-append key rest, some) in
      rw (le-leb _ _ low, le-leb _ _ high, le-leb _ _ l)

-- ---- a packet that the sender accepts
module _ (p : Packet) (a : Accepted p) where
  judge-packed : judge_body (packed p) ≡ packet p
  judge-packed =
      by-format p a.fits
      (λ e. ap judge_body (ap packed e)
      ∙ body-plain (packed (plain_packet p.port p.sequence p.payload)) refl
      ∙ ap judge_packet (apart p.port p.sequence p.payload plain_format 0 [] ∙ sym e) ∙ packet-is p a.free a.short)
      (λ e low high.
      let bs : List ℕ = key_format ∷ length p.key ∷ p.number ∷ (p.key ++ rest p.port p.sequence p.payload) in
      ap judge_body (ap packed e ∙ packed-key p.port p.sequence p.payload p.number p.key)
      ∙ body-keyed bs refl (keyed-fits p.port p.sequence p.payload p.number p.key a.some low high)
      ∙ ap judge_packet (keyed-back p.port p.sequence p.payload p.number p.key ∙ sym e) ∙ packet-is p a.free a.short)

  pub packed-length : 6 ≤ length (packed p)
  packed-length =
      by-format p a.fits
      (λ e. let l : length (packed p) ≡ suc (suc (suc (suc (suc (length p.payload))))) = ap (λ (q : Packet). length (packed q)) e in omega (arith, a.some))
      (λ e low high.
      let l : length (packed p) ≡ suc (suc (suc (length (p.key ++ rest p.port p.sequence p.payload)))) =
      ap (λ (q : Packet). length (packed q)) e ∙ ap length (packed-key p.port p.sequence p.payload p.number p.key) in
      omega (arith, length-append p.key (rest p.port p.sequence p.payload)))

  body-contents : body (contents p) ≡ packed p
  unfolding contents with_check
  body-contents = take_behind (packed p) (fcs (packed p))

  pub judge-contents : judge_contents (contents p) ≡ packet p
  unfolding contents with_check
  judge-contents =
      let n = fcs (packed p) in
      judge-body (contents p) (omega (arith, length-append (packed p) (two n), packed-length)) (ap fcs body-contents ∙ sym (pair-behind (packed p) n))
      ∙ ap judge_body body-contents ∙ judge-packed

-- ---- the raw bytes of a packet are within the limit
module _ (port sequence : ℕ) (payload : List ℕ) (short : length (escape payload) ≤ payload_limit) where
  -- port, sequence, payload, and a check
  rest-fits : (check : ℕ) → length (escape (rest port sequence payload ++ two check)) ≤ payload_limit + 12
  unfolding escape
  rest-fits check =
      simp (length-append, escape-append)
      (omega (
        arith,
        width-most (port % 256),
        width-most (port / 256),
        width-most (sequence % 256),
        width-most (sequence / 256),
        width-most (check % 256),
        width-most (check / 256),
      ))

  pub plain_fits : length (escape (contents (plain_packet port sequence payload))) ≤ plain_limit
  unfolding contents with_check escape
  plain_fits =
      let tail = rest port sequence payload ++ two (fcs (packed (plain_packet port sequence payload))) in
      let l : length (escape (contents (plain_packet port sequence payload))) ≡ length (escape_byte plain_format) + length (escape tail) =
      length-append (escape_byte plain_format) (escape tail) in
      omega (arith, rest-fits (fcs (packed (plain_packet port sequence payload))), ap length (escape-other plain_format (omega arith) (omega arith)))

  key-raw : (number : ℕ) (key : List ℕ) → length key ≤ key_most → length (escape (contents (key_packet number key port sequence payload))) ≤ raw_limit
  unfolding contents with_check escape
  key-raw number key high =
      let c = fcs (packed (key_packet number key port sequence payload)) in
      let tail = rest port sequence payload ++ two c in
      let e : contents (key_packet number key port sequence payload) ≡ key_format ∷ length key ∷ number ∷ (key ++ tail) =
      ap (λ (l : List ℕ). l ++ two c) (packed-key port sequence payload number key)
      ∙ ap (λ (l : List ℕ). key_format ∷ length key ∷ number ∷ l) (append_assoc key (rest port sequence payload) (two c)) in
      let l : length (escape (key_format ∷ length key ∷ number ∷ (key ++ tail)))
      ≡ length (escape_byte key_format) + (length (escape_byte (length key)) + (length (escape_byte number) + (length (escape key) + length (escape tail)))) =
      simp (length-append, escape-append) in
      omega (
        arith,
        ap (λ (x : List ℕ). length (escape x)) e,
        l,
        rest-fits c,
        ap length (escape-other key_format (omega arith) (omega arith)),
        ap length (escape-other (length key) (λ z. absurd (omega (arith, z))) (λ z. absurd (omega (arith, z)))),
        width-most number,
        escape-most key,
      )

module _ (p : Packet) (a : Accepted p) where
  pub raw-fits : length (escape (contents p)) ≤ raw_limit
  raw-fits =
      by-format p a.fits
      (λ e. subst (λ (q : Packet). length (escape (contents q)) ≤ raw_limit) (sym e) (omega (arith, plain_fits p.port p.sequence p.payload a.short)))
      (λ e low high. subst (λ (q : Packet). length (escape (contents q)) ≤ raw_limit) (sym e)
      (key-raw p.port p.sequence p.payload a.short p.number p.key high))

  -- the round trip
  pub round : judge (escape (contents p)) ≡ packet p
  unfolding judge closed_by
  round =
      let cs = contents p in
      let raw = escape cs in
      let all : take (length raw) raw ≡ raw = take_all (length raw) raw (omega arith) in
      ap (λ (c : Closed). c.told) (closed-as raw (length raw) raw-fits Right (ap scan all ∙ scan-right cs))
      ∙ ap judge_contents (ap plain all ∙ plain-undoes cs) ∙ judge-contents p a
