-- What the office typed, and what is shown.
-- bids-typed        the packets of the accepted lines, written as bids: those lines as they are shown ..
-- packets-open      those packets are for everybody
-- accepting-each    each of them is one that the sender accepts ..
-- shown_typed       .. and where they were typed plainly, they are shown as they were typed
-- lines-typed       the lines of an input that ends in a line feed, each with its line feed, are that input
-- unnamed           where the sender names no line, it accepts each
-- IsOpen, IsAccepted   a packet as the office sends it, and a line that the sender accepts
-- plain-typed       accepted lines, typed plainly, are shown as they were typed
use Prim.Native.Nat.{ℕ, ◌<◌}
use native.Mathlib.Omega.{arith}
use mathlib.Core.Path.{◌≡◌, refl, sym, ◌∙◌, ap, subst}
use mathlib.Core.List.{List, [], ◌∷◌, ◌++◌, map, append_assoc, append-nil}
use lib.ListN.{length}
use Rattle.base.specs.Bytes.{Each}
use Rattle.base.specs.Choice.{pick}
use Rattle.base.proofs.Tests.{by-eq}
use Rattle.packet_spec.specs.Contents.{Packet, plain_format}
use Rattle.bid.specs.Line.{feed, Verdict, no_bid, refused, accepted, verdict}
use Rattle.bid.specs.Input.{lines_from, lines_of, packets, packets_of, numbered, complaints_from, complaints}
use Rattle.bid.proofs.Lines.{lines-feed, lines_other, lines_none}
use Rattle.bid.proofs.Verdicts.{accepted-bid}
use Rattle.ports_spec.specs.Distance.{around}
use Rattle.board_spec.specs.Meaning.{written, written_all}
use Rattle.board_spec.specs.Typed.{is_accepted, accepting, accepted_lines, typed, as_shown, Plainly, as_bid}
use Rattle.board_spec.proofs.Line.{line_plain}

-- the packets of lines, written as bids, are the accepted lines as they are shown
from-shown : (ls : List (List ℕ)) → written_all (map as_bid (packets (map verdict ls))) ≡ as_shown (accepting ls)
unfolding written_all written packets accepting as_shown
from-shown [] = refl
from-shown (l ∷ ls) = go (verdict l) refl (from-shown ls)
  where
    go : (v : Verdict) → verdict l ≡ v → written_all (map as_bid (packets (map verdict ls))) ≡ as_shown (accepting ls)
        → written_all (map as_bid (packets (v ∷ map verdict ls))) ≡ as_shown (pick (is_accepted v) (l ∷ accepting ls) (accepting ls))
    go no_bid e r = r
    go (refused n) e r = r
    go (accepted p) e r = λ i. written (as_bid (sym (accepted-bid l p e).is i)) ++ r i

pub bids-typed : (input : List ℕ) → written_all (map as_bid (packets_of input)) ≡ as_shown (accepted_lines input)
bids-typed input = from-shown (lines_of input)

-- a packet as the office sends it: for everybody, with a sequence number of 16 bits
pub record IsOpen (p : Packet) : Type 0 where
  pub format : p.format ≡ plain_format
  pub low : p.sequence < around

from-open : (ls : List (List ℕ)) → Each IsOpen (packets (map verdict ls))
unfolding packets
from-open [] = tt
from-open (l ∷ ls) = go (verdict l) refl (from-open ls)
  where
    go : (v : Verdict) → verdict l ≡ v → Each IsOpen (packets (map verdict ls)) → Each IsOpen (packets (v ∷ map verdict ls))
    go no_bid e r = r
    go (refused n) e r = r
    go (accepted p) e r = let a = accepted-bid l p e in (subst IsOpen a.is (record { format = refl; low = a.sequence_fits }), r)

pub packets-open : (input : List ℕ) → Each IsOpen (packets_of input)
packets-open input = from-open (lines_of input)

-- a line that the sender accepts
abbrev pub IsAccepted : List ℕ → Type 0
IsAccepted l = (p : Packet) × (verdict l ≡ accepted p)

from_each : (ls : List (List ℕ)) → Each IsAccepted (accepting ls)
unfolding accepting
from_each [] = tt
from_each (l ∷ ls) = go (verdict l) refl (from_each ls)
  where
    go : (v : Verdict) → verdict l ≡ v → Each IsAccepted (accepting ls) → Each IsAccepted (pick (is_accepted v) (l ∷ accepting ls) (accepting ls))
    go no_bid e r = r
    go (refused n) e r = r
    go (accepted p) e r = ((p, e), r)

pub accepting-each : (input : List ℕ) → Each IsAccepted (accepted_lines input)
accepting-each input = from_each (lines_of input)

-- lines that the sender accepts, typed plainly, are shown as they were typed
pub plain-typed : (ls : List (List ℕ)) → Each IsAccepted ls → Each Plainly ls → as_shown ls ≡ typed ls
unfolding as_shown typed
plain-typed [] a h = refl
plain-typed (l ∷ ls) a h =
    let b = accepted-bid l a.0.0 a.0.1 in
    λ i. (line_plain l b.port_fits b.sequence_fits b.some h.0 i ++ feed ∷ []) ++ plain-typed ls a.1 h.1 i

pub shown_typed : (input : List ℕ) → Each Plainly (accepted_lines input) → as_shown (accepted_lines input) ≡ typed (accepted_lines input)
shown_typed input plain = plain-typed (accepted_lines input) (accepting-each input) plain

-- ---- the lines of an input that ends in a line feed, each with its line feed, are that input
from-typed : (bs l : List ℕ) → typed (lines_from l (bs ++ feed ∷ [])) ≡ l ++ (bs ++ feed ∷ [])
unfolding typed
from-typed [] l =
    ap typed (lines-feed l feed [] refl) ∙ ap (λ (x : List (List ℕ)). (l ++ feed ∷ []) ++ typed x) (lines_none [] refl) ∙ append-nil (l ++ feed ∷ [])
from-typed (b ∷ bs) l =
    by-eq b feed
    (λ e.
    ap typed (lines-feed l b (bs ++ feed ∷ []) e) ∙ ap (λ (x : List ℕ). (l ++ feed ∷ []) ++ x) (from-typed bs [])
    ∙ append_assoc l (feed ∷ []) (bs ++ feed ∷ []) ∙ ap (λ (c : ℕ). l ++ c ∷ (bs ++ feed ∷ [])) (sym e))
    (λ n. ap typed (lines_other l b (bs ++ feed ∷ []) n) ∙ from-typed bs (l ++ b ∷ []) ∙ append_assoc l (b ∷ []) (bs ++ feed ∷ []))

pub lines-typed : (bs : List ℕ) → typed (lines_of (bs ++ feed ∷ [])) ≡ bs ++ feed ∷ []
lines-typed bs = from-typed bs []

-- ---- no line is named: each is accepted
no-pair : (x : ℕ × ℕ) (xs : List (ℕ × ℕ)) → x ∷ xs ≡ [] → ⊥
no-pair x xs e = omega (arith, ap length e)

from-unnamed : (ls : List (List ℕ)) (k : ℕ) → complaints_from k (map verdict ls) ≡ [] → accepting ls ≡ ls
unfolding complaints_from accepting
from-unnamed [] k e = refl
from-unnamed (l ∷ ls) k e = go (verdict l) (from-unnamed ls) e
  where
    go : (v : Verdict) → ((j : ℕ) → complaints_from j (map verdict ls) ≡ [] → accepting ls ≡ ls) → complaints_from k (v ∷ map verdict ls) ≡ []
        → pick (is_accepted v) (l ∷ accepting ls) (accepting ls) ≡ l ∷ ls
    go no_bid r f = absurd (no-pair (numbered k, 0) (complaints_from (numbered k) (map verdict ls)) f)
    go (refused n) r f = absurd (no-pair (numbered k, n) (complaints_from (numbered k) (map verdict ls)) f)
    go (accepted p) r f = ap (λ (x : List (List ℕ)). l ∷ x) (r (numbered k) f)

pub unnamed : (input : List ℕ) → complaints input ≡ [] → accepted_lines input ≡ lines_of input
unnamed input e = from-unnamed (lines_of input) 0 e
