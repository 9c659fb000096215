-- Laws of a capture written.
-- part-short, part-long                                 what is fetched behind a delivery
-- told-most                                             a packet has few bytes
-- length-record, record-put                             one record, from what its calls leave
-- enter-short, enter-fits, enter-none                   what the call answers and leaves
use mathlib.Core.Path.{◌≡◌, refl, sym, ap, ap₂, ◌∙◌}
use mathlib.Core.Bool.{Bool}
use mathlib.Core.List.{List, [], ◌++◌}
use Prim.Native.Nat.{ℕ, ◌+◌, ◌-◌, ◌<◌, ◌≤◌}
use native.Mathlib.Nat.{add_comm}
use native.Mathlib.Omega.{arith}
use borrow.Author.Tests.{lt-ltb, le-ltb}
use borrow.Rule.Slice.PartMut.{put_mid}
use lib.ListN.{length, take, drop, length-drop}
use lib.Seq.{drop-drop}
use Rattle.base.specs.Choice.{pick}
use Rattle.base.specs.Written.{outcome, refused, write, copied}
use Rattle.base.specs.Written as written
use Rattle.base.proofs.Parts.{tail-is, tail-put}
use Rattle.base.proofs.Writing.{copied-fits, wrote-fits, wrote-short}
use Rattle.packet_spec.specs.Contents.{Packet, payload_at}
use Rattle.packet_spec.specs.Frame.{Told, packet, refusal, broken, delivery, judged}
use Rattle.packet_spec.specs.declared.Delivery.{Delivery}
use Rattle.packet_spec.specs.declared.Judged.{Judged}
use Rattle.packet_spec.specs.declared.Judged.TheVariants.{Packet as Delivered, Refused, Broken}
use Rattle.capture_spec.specs.File.{record_of}
use Rattle.capture_spec.specs.Meaning.{entry, entry_limit}
use Rattle.capture_spec.proofs.Entry.{entry-ways, entry-most}
use Rattle.capture.specs.Export.{packed_part, entering_by, entering}
use Rattle.capture.specs.Private.{head_of}

-- ---- what is fetched
module _ (d : Delivery) (recv : List ℕ) {at : ℕ} (e : at ≡ payload_at d.key) where
  pub part-short : length recv < at + d.length → [] ≡ packed_part d recv
  part-short h = sym (ap (λ (t : Bool). pick t [] (take (payload_at d.key + d.length) recv))
      (lt-ltb (length recv) (0 + (payload_at d.key + d.length)) (omega (arith, e, h))))

  pub part-long : at + d.length ≤ length recv → take (at + d.length - 0) recv ≡ packed_part d recv
  part-long h =
      let n : at + d.length - 0 ≡ payload_at d.key + d.length = omega (arith, e) in
      ap (λ (m : ℕ). take m recv) n
      ∙ sym (ap (λ (t : Bool). pick t [] (take (payload_at d.key + d.length) recv))
      (le-ltb (length recv) (0 + (payload_at d.key + d.length)) (omega (arith, e, h))))

-- ---- what the bytes are told to be, by the code's answer
told-packet : (t : Told) {j : Judged} {d : Delivery} → j ≡ judged t → j ≡ Delivered d → {P : Type 0} → ((p : Packet) → t ≡ packet p → P) → P
told-packet (packet p) e f k = k p refl
told-packet (refusal n) {j} {d} e f k = absurd (let q : Refused n ≡ Delivered d = sym e ∙ f in let z : ◌≡◌ {A = ℕ} 0 1 = cc in omega arith)
told-packet (broken n) {j} {d} e f k = absurd (let q : Broken n ≡ Delivered d = sym e ∙ f in let z : ◌≡◌ {A = ℕ} 0 1 = cc in omega arith)

module _ (bs : List ℕ) {j : Judged} {d : Delivery} (e : j ≡ judged (entry bs)) (f : j ≡ Delivered d) where
  pub told-most : length bs ≤ entry_limit
  told-most = told-packet (entry bs) e f (λ p g. entry-most bs p g)

-- ---- one record
pub length-record : (i : ℕ) (bs : List ℕ) → length (record_of i bs) ≡ length bs + 16
length-record i bs = omega arith

module _ (i : ℕ) (bs o : List ℕ) (h : length bs + 16 ≤ length o) where
  pub record-put : {head o₁ y : List ℕ} → head ≡ head_of i (length bs) → o₁ ≡ copied head o → y ≡ copied bs (take (length o₁ - 16) (drop 16 o₁))
      → put_mid 16 (length o₁ - 16) o₁ y ≡ record_of i bs ++ drop (length bs + 16) o
  record-put {head} {o₁} {y} eh e₁ ey = tail-put 16 o₁ y ∙ ap₂ (λ (a b : List ℕ). a ++ b) (ap (take 16) first) after
    where
      hd : List ℕ
      hd = head_of i (length bs)

      first : o₁ ≡ hd ++ drop 16 o
      first = e₁ ∙ ap (λ (x : List ℕ). copied x o) eh ∙ copied-fits hd o (omega arith)

      after : y ≡ bs ++ drop (length bs + 16) o
      after =
          ey ∙ ap (copied bs) (tail-is 16 o₁ ∙ ap (drop 16) first) ∙ copied-fits bs (drop 16 o) (omega (arith, length-drop 16 o))
          ∙ ap (λ (x : List ℕ). bs ++ x) (drop-drop (length bs) 16 o ∙ ap (λ (n : ℕ). drop n o) (add_comm 16 (length bs)))

-- ---- the call
module _ (i : ℕ) (bs out : List ℕ) {j : Judged} (e : j ≡ judged (entry bs)) where
  module _ {d : Delivery} (f : j ≡ Delivered d) where
    enter_one : entering i bs out ≡ write (record_of i bs) out
    enter_one = told-packet (entry bs) e f (λ p g. ap (λ (t : Told). entering_by t i bs out) g)

    pub enter-short : length out < length bs + 16 → refused 23 out ≡ entering i bs out
    enter-short h = wrote-short (record_of i bs) out (length bs + 16) (length-record i bs) h ∙ sym enter_one

    pub enter-fits : length bs + 16 ≤ length out → {z : List ℕ} → z ≡ record_of i bs ++ drop (length bs + 16) out
        → outcome (written.Wrote (length bs + 16)) z ≡ entering i bs out
    enter-fits h q = wrote-fits (record_of i bs) out (length bs + 16) (length-record i bs) h q ∙ sym enter_one

  pub enter-none : ((d : Delivery) → j ≡ Delivered d → ⊥) → refused 62 out ≡ entering i bs out
  enter-none f =
      entry-ways bs (λ (t : Told). j ≡ judged t → refused 62 out ≡ entering_by t i bs out) (λ q. refl) (λ p six is q. absurd (f (delivery p) q)) e
