-- Laws of what the sender says of a line.
-- judged-empty, judged-long, judged-barred, judged-free    the first refusal that applies, or none
-- verdict-none, verdict-bid      by what the line is read as
-- verdict-first                  the first 8,205 bytes of a line decide
-- AcceptedLine, accepted-bid     an accepted line is a bid of which nothing is refused ..
-- accepted-is                    .. and of bytes it is a packet that the sender takes
use Prim.Native.Nat.{ℕ, ◌+◌, ◌-◌, ◌≤◌, ◌<◌}
use native.Mathlib.Omega.{arith}
use mathlib.Core.Path.{◌≡◌, refl, sym, ◌∙◌, ap, subst}
use mathlib.Core.Bool.{Bool, true, false, ◌&&◌}
use mathlib.Core.List.{List}
use lib.Dec.{ltb}
use lib.ListN.{length, take, drop, length-drop}
use lib.Seq.{take_all, length-take-le}
use Rattle.base.specs.Bytes.{IsByte, Bytes}
use Rattle.base.specs.Choice.{pick}
use Rattle.base.proofs.Bytes.{each-drop}
use Rattle.base.specs.UpTo.{up_to}
use Rattle.base.proofs.Lists.{drop-take}
use Rattle.base.proofs.UpTo.{up-to-take, up-to-long}
use Rattle.base.proofs.Tests.{by-eq, by_le, by-test}
use Rattle.packet_spec.specs.Port.{barred}
use Rattle.packet_spec.specs.Contents.{payload_limit, Packet}
use Rattle.packet_spec.specs.Escape.{escape}
use Rattle.packet_spec.proofs.Round.{escape-least}
use Rattle.packet.proofs.Sending.{refusing-empty, refusing-long, refusing-barred, refusing-none}
use Rattle.packet_spec.specs.Sender.{head_fits, Accepted}
use Rattle.bid.specs.Line.{space, past, no_number, number, port, sequence, text, is_bid, line_limit, Verdict, no_bid, refused, accepted, judged}
use Rattle.bid.specs.Line.{bid_of, verdict}
use Rattle.bid.proofs.Decimal.{number-long}
use Rattle.bid.proofs.Reading.{bid-no-port, bid-no-sequence, bid-both}

-- ---- refusals
module _ (p : Packet) where
  pub judged-empty : length p.payload ≡ 0 → judged p ≡ refused 20
  unfolding judged
  judged-empty = refusing-empty p refused (accepted p)

  module _ (some : length p.payload ≡ 0 → ⊥) where
    pub judged-long : payload_limit < length (escape p.payload) → judged p ≡ refused 21
    unfolding judged
    judged-long = refusing-long p refused (accepted p) some

    module _ (short : length (escape p.payload) ≤ payload_limit) where
      pub judged-barred : barred p.port ≡ true → judged p ≡ refused 22
      unfolding judged
      judged-barred = refusing-barred p refused (accepted p) some short

      pub judged-free : barred p.port ≡ false → head_fits p.format p.number (length p.key) ≡ true → judged p ≡ accepted p
      unfolding judged
      judged-free = refusing-none p refused (accepted p) some short

pub verdict-none : (l : List ℕ) → is_bid l ≡ false → verdict l ≡ no_bid
unfolding verdict
verdict-none l e = ap (λ (t : Bool). pick t (judged (bid_of l)) no_bid) e

pub verdict-bid : (l : List ℕ) → is_bid l ≡ true → verdict l ≡ judged (bid_of l)
unfolding verdict
verdict-bid l e = ap (λ (t : Bool). pick t (judged (bid_of l)) no_bid) e

-- ---- the first 8,205 bytes decide
long-text : (p : Packet) → payload_limit < length p.payload → judged p ≡ refused 21
long-text p h = judged-long p (λ e. omega arith) (omega (arith, escape-least p.payload))

-- a word among the first n bytes: the same, or too long for a number
word_first : (n : ℕ) (l : List ℕ) → 5 < n → 5 < length (up_to space l) → number (up_to space (take n l)) ≡ no_number
word_first n l h k =
    by_le n (length (up_to space l))
    (λ g. number-long (up_to space (take n l)) (omega (arith, up-to-long space n l g)))
    (λ g. number-long (up_to space (take n l)) (omega (arith, ap length (up-to-take space n l g))))

module _ (l : List ℕ) (n : ℕ) (h : line_limit ≤ n) (k : n < length l) where
  no-port : 5 < length (up_to space l) → verdict (take n l) ≡ verdict l
  no-port g =
      verdict-none (take n l) (bid-no-port (take n l) (omega (arith, word_first n l (omega arith) g)))
      ∙ sym (verdict-none l (bid-no-port l (omega (arith, number-long (up_to space l) g))))

  module _ (g : length (up_to space l) ≤ 5) where
    same_word : up_to space (take n l) ≡ up_to space l
    same_word = up-to-take space n l (omega arith)

    abbrev rest : List ℕ
    rest = past space l

    abbrev m : ℕ
    m = n - (length (up_to space l) + 1)

    same_rest : past space (take n l) ≡ take m rest
    same_rest = ap (λ (w : List ℕ). drop (length w + 1) (take n l)) same_word ∙ drop-take (length (up_to space l) + 1) n l

    no_second : 5 < length (up_to space rest) → verdict (take n l) ≡ verdict l
    no_second f =
        let e : sequence (take n l) ≡ no_number = ap (λ (x : List ℕ). number (up_to space x)) same_rest ∙ word_first m rest (omega arith) f in
        verdict-none (take n l) (bid-no-sequence (take n l) (omega (arith, e)))
        ∙ sym (verdict-none l (bid-no-sequence l (omega (arith, number-long (up_to space rest) f))))

    module _ (f : length (up_to space rest) ≤ 5) where
      same_second : up_to space (past space (take n l)) ≡ up_to space rest
      same_second = ap (up_to space) same_rest ∙ up-to-take space m rest (omega arith)

      first-text : text (take n l) ≡ take (m - (length (up_to space rest) + 1)) (text l)
      first-text =
          (λ i. drop (length (same_second i) + 1) (same_rest i)) ∙ drop-take (length (up_to space rest) + 1) m rest

      long : payload_limit < length (text l)
      long = omega (arith, length-drop (length (up_to space rest) + 1) rest, length-drop (length (up_to space l) + 1) l)

      long-first : payload_limit < length (text (take n l))
      long-first =
          let a : ℕ = m - (length (up_to space rest) + 1) in
          let r = length-drop (length (up_to space rest) + 1) rest in
          let s = length-drop (length (up_to space l) + 1) l in
          omega (arith, ap length first-text, length-take-le a (text l) (omega (arith, r, s)))

      same-bid : is_bid (take n l) ≡ is_bid l
      same-bid i = ltb (number (same_word i)) no_number && ltb (number (same_second i)) no_number

      too_long : verdict (take n l) ≡ verdict l
      unfolding verdict
      too_long =
          (λ i. pick (same-bid i) (long-text (bid_of (take n l)) long-first i) no_bid)
          ∙ sym (ap (λ (v : Verdict). pick (is_bid l) v no_bid) (long-text (bid_of l) long))

pub verdict-first : (n : ℕ) (l : List ℕ) → line_limit ≤ n → verdict (take n l) ≡ verdict l
verdict-first n l h =
    by_le (length l) n (λ k. ap verdict (take_all n l k))
    (λ k.
    by_le (length (up_to space l)) 5
    (λ g. by_le (length (up_to space (past space l))) 5 (λ f. too_long l n h k g f) (λ f. no_second l n h k g f))
    (λ g. no-port l n h k g))

-- ---- an accepted line is a bid of which nothing is refused
not-accepted : (p : Packet) (n : ℕ) → refused n ≡ accepted p → ⊥
not-accepted p n e = let z : ◌≡◌ {A = ℕ} 0 1 = cc in omega arith

none-accepted : (p : Packet) → no_bid ≡ accepted p → ⊥
none-accepted p e = let z : ◌≡◌ {A = ℕ} 0 1 = cc in omega arith

same-packet : (q p : Packet) → accepted q ≡ accepted p → q ≡ p
same-packet q p e = cc

pub record AcceptedLine (l : List ℕ) (p : Packet) : Type 0 where
  pub is : bid_of l ≡ p
  pub port_fits : port l < no_number
  pub sequence_fits : sequence l < no_number
  pub some : length (text l) ≡ 0 → ⊥
  pub short : length (escape (text l)) ≤ payload_limit
  pub free : barred (port l) ≡ false

judged-bid : (l : List ℕ) (p : Packet) → port l < no_number → sequence l < no_number → judged (bid_of l) ≡ accepted p → AcceptedLine l p
judged-bid l p h k e =
    let q = bid_of l in
    by-eq (length (text l)) 0 (λ z. absurd (not-accepted p 20 (sym (judged-empty q z) ∙ e)))
    (λ z.
    by_le (length (escape (text l))) payload_limit
    (λ s.
    by-test (barred (port l)) (λ t. absurd (not-accepted p 22 (sym (judged-barred q z s t) ∙ e)))
    (λ t. record { is = same-packet q p (sym (judged-free q z s t refl) ∙ e); port_fits = h; sequence_fits = k; some = z; short = s; free = t }))
    (λ s. absurd (not-accepted p 21 (sym (judged-long q z s) ∙ e))))

pub accepted-bid : (l : List ℕ) (p : Packet) → verdict l ≡ accepted p → AcceptedLine l p
accepted-bid l p e =
    by_le no_number (port l) (λ h. absurd (none-accepted p (sym (verdict-none l (bid-no-port l h)) ∙ e)))
    (λ h.
    by_le no_number (sequence l) (λ k. absurd (none-accepted p (sym (verdict-none l (bid-no-sequence l k)) ∙ e)))
    (λ k. judged-bid l p h k (sym (verdict-bid l (bid-both l h k)) ∙ e)))

-- .. and of bytes it is a packet that the sender takes
pub accepted-is : (l : List ℕ) (p : Packet) → Bytes l → verdict l ≡ accepted p → Accepted p
accepted-is l p b e =
    let a = accepted-bid l p e in
    subst Accepted a.is
    (record {
      some = a.some;
      short = a.short;
      free = a.free;
      fits = refl;
      number_fits = omega arith;
      key_bytes = tt;
      port_fits = a.port_fits;
      sequence_fits = a.sequence_fits;
      bytes = each-drop IsByte (length (up_to space (past space l)) + 1) (past space l) (each-drop IsByte (length (up_to space l) + 1) l b);
    })
