-- Laws of the sender's calls.
-- begins            the first flag
-- appended          a packet written to the part of the output behind the stream
-- appending-keeps   a refused call leaves the output as it was
-- begin-stream      begun, the output begins with the stream of no packets ..
-- append-stream     .. and where it begins with the stream of some packets, it begins with that of one more afterwards
use mathlib.Core.Path.{◌≡◌, refl, sym, ap, ap₂, ◌∙◌}
use mathlib.Core.List.{List, [], ◌∷◌, ◌++◌, append_assoc}
use Prim.Native.Nat.{ℕ, ◌+◌, ◌-◌, ◌≤◌, ◌<◌, min}
use native.Mathlib.Omega.{arith}
use lib.ListN.{length, take, drop, set, length-append, take-append-drop}
use lib.Seq.{take_all, take_at, length-take-le}
use borrow.Rule.Slice.PartMut.{put_mid}
use Rattle.base.specs.Written.{Outcome, outcome, write, Keeps}
use Rattle.base.specs.Written.{Written}
use Rattle.base.specs.Written.{Wrote}
use Rattle.base.proofs.Lists.{over}
use Rattle.base.proofs.Parts.{tail-is, tail-put}
use Rattle.base.proofs.Tests.{by_le}
use Rattle.base.proofs.Writing.{wrote-fits, write-is}
use Rattle.packet_spec.specs.Escape.{flag}
use Rattle.packet_spec.specs.Sender.{frame_of, flagged}
use Rattle.packet.proofs.Sending.{writing-keeps, wrote-is}
use Rattle.stream.specs.Sender.{raw_of, frames_of, stream, appending}
use Rattle.packet_spec.specs.Contents.{Packet}

set_first : (l : List ℕ) (b : ℕ) → 0 < length l → set l 0 b ≡ b ∷ drop 1 l
set_first [] b h = absurd (omega arith)
set_first (x ∷ l) b h = refl

pub begins : (out : List ℕ) → 0 < length out → outcome (Wrote 1) (set out 0 flag) ≡ write (flag ∷ []) out
begins out h = wrote-fits (flag ∷ []) out 1 refl h (set_first out flag h)

-- ---- behind the first `at` bytes
module _ (at from : ℕ) (out : List ℕ) (e : from ≡ min at (length out)) where
  same_drop : drop from out ≡ drop at out
  same_drop =
      by_le at (length out) (λ h. let k : from ≡ at = omega arith in ap (λ (n : ℕ). drop n out) k)
      (λ h. over out from (omega arith) ∙ sym (over out at (omega arith)))

  same-take : take from out ≡ take at out
  same-take =
      by_le at (length out) (λ h. let k : from ≡ at = omega arith in ap (λ (n : ℕ). take n out) k)
      (λ h. take_all from out (omega arith) ∙ sym (take_all at out (omega arith)))

  -- what is lent is the part behind, and it comes back as y
  pub appended : (F : List ℕ → Outcome) {w : Written} {y : List ℕ} → outcome w y ≡ F (take (length out - from) (drop from out))
      → outcome w (put_mid from (length out - from) out y) ≡ outcome (F (drop at out)).answer (take at out ++ (F (drop at out)).output)
  appended F {w} {y} p =
      let q : outcome w y ≡ F (drop at out) = p ∙ ap F (tail-is from out ∙ same_drop) in
      λ i. outcome (q i).answer
      ((tail-put from out y ∙ ap₂ ◌++◌ same-take (ap (λ (o : Outcome). o.output) q)) i)

pub appending-keeps : (at : ℕ) (p : Packet) (out : List ℕ) → Keeps out (appending at p out)
appending-keeps at p out n e =
    ap (λ (x : List ℕ). take at out ++ x) (writing-keeps p (drop at out) n e) ∙ take-append-drop at out

-- ---- the stream
behind-append : (ps : List Packet) (p : Packet) → frames_of (ps ++ p ∷ []) ≡ frames_of ps ++ (raw_of p ++ flag ∷ [])
behind-append [] p = refl
behind-append (q ∷ ps) p = ap (λ (l : List ℕ). raw_of q ++ flag ∷ l) (behind-append ps p)
    ∙ sym (append_assoc (raw_of q) (flag ∷ frames_of ps) (raw_of p ++ flag ∷ []))

pub begin-stream : (out : List ℕ) (n : ℕ) → (write (flag ∷ []) out).answer ≡ Wrote n → take n (write (flag ∷ []) out).output ≡ stream []
begin-stream out n e = write-is (flag ∷ []) out n e

pub append-stream : (ps : List Packet) (p : Packet) (out : List ℕ) (at n : ℕ) → at ≤ length out → take at out ≡ stream ps
    → (appending at p out).answer ≡ Wrote n
    → take (at + n) (appending at p out).output ≡ stream (ps ++ p ∷ [])
unfolding frame_of flagged
append-stream ps p out at n h e a =
    let w = wrote-is p (drop at out) n a in
    let bs : List ℕ = raw_of p ++ flag ∷ [] in
    let l : length (take at out ++ bs) ≡ at + n = length-append (take at out) bs ∙ omega (arith, length-take-le at out h, w.long) in
    ap (λ (x : List ℕ). take (at + n) (take at out ++ x)) w.holds
    ∙ ap (take (at + n)) (sym (append_assoc (take at out) bs (drop (length bs) (drop at out))))
    ∙ take_at (take at out ++ bs) (drop (length bs) (drop at out)) (at + n) l
    ∙ ap (λ (x : List ℕ). x ++ bs) e
    ∙ ap (λ (x : List ℕ). flag ∷ x) (sym (behind-append ps p))
