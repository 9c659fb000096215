-- Laws of a text's first bytes, written.
-- delivered, delivered-short   with room for them, and without
-- delivers                     a text that was put from the start on, with room, is what is written
use Prim.Native.Nat.{ℕ, ◌≤◌, ◌<◌, min}
use native.Mathlib.Omega.{arith}
use mathlib.Core.Path.{◌≡◌, sym, ap, ◌∙◌}
use mathlib.Core.List.{List}
use lib.ListN.{length, take, length-take}
use lib.Seq.{take_all}
use Rattle.base.specs.Written.{Wrote}
use Rattle.base.specs.Written.{Outcome, outcome, refused, write, copied}
use Rattle.base.proofs.Tests.{by_le}
use Rattle.base.proofs.Writing.{write-fits, write-short}
use Rattle.text.specs.Put.{Puts}
use Rattle.text.proofs.Putting.{put-taken}

module _ (n : ℕ) (text out : List ℕ) {k : ℕ} (e : k ≡ min n (length text)) where
  long : length (take n text) ≡ k
  long = length-take n text ∙ sym e

  first : take k text ≡ take n text
  first =
      by_le n (length text) (λ h. let f : k ≡ n = omega arith in ap (λ (m : ℕ). take m text) f) λ h.
      take_all k text (omega arith) ∙ sym (take_all n text (omega arith))

  pub delivered-short : length out < k → refused 23 out ≡ write (take n text) out
  delivered-short h = sym (write-short (take n text) out (omega (arith, long)))

  pub delivered : k ≤ length out → {after : List ℕ} → after ≡ copied (take k text) out → outcome (Wrote k) after ≡ write (take n text) out
  delivered h {after} f =
      ap (λ (x : List ℕ). outcome (Wrote k) x) (f ∙ ap (λ (x : List ℕ). copied x out) first)
      ∙ ap (λ (m : ℕ). outcome (Wrote m) (copied (take n text) out)) (sym long) ∙ sym (write-fits (take n text) out (omega (arith, long)))

pub delivers : {l bs after : List ℕ} {end : ℕ} (out : List ℕ) {o : Outcome} → Puts l 0 bs after end → length bs ≤ length l
    → o ≡ write (take end after) out → o ≡ write bs out
delivers out h room e = e ∙ ap (λ (x : List ℕ). write x out) (put-taken h room)
