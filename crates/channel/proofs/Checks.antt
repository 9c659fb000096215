-- What the tests of the receiver's functions find.
-- owes-some, owes-none                      message bytes owed
-- told-clean, told-damaged, told-refused    the word check's answer: a word of 255 bytes is never refused
-- told-mended                               repair's answer, and the word it leaves
-- settled-clean, settled-mended             the word at the start of the word buffer
use Prim.Native.Nat.{ℕ, ◌-◌, ◌≤◌}
use native.Mathlib.Omega.{arith}
use mathlib.Core.Path.{◌≡◌, refl, sym, ◌∙◌, ap}
use mathlib.Core.Bool.{Bool, true, false}
use mathlib.Core.List.{List, ◌++◌}
use lib.ListN.{length, take, drop, take-append-drop}
use lib.Seq.{length-take-le}
use borrow.Author.Tests.{eq-eqb, ne_eqb}
use borrow.Rule.Slice.PartMut.{put_mid}
use Rattle.base.specs.Choice.{pick}
use Rattle.base.specs.Bytes.{Bytes}
use Rattle.word_spec.specs.Word.{clean}
use Rattle.parity.specs.Calls.{checked}
use Rattle.parity.specs.Checked.{Checked}
use Rattle.parity.specs.Checked as check
use Rattle.repair.specs.Mended.{Mended}
use Rattle.repair.specs.Promise.{Promised}
use Rattle.repair.proofs.Apart.{checked-is}
use Rattle.channel.specs.declared.receiver.Receiver.{Receiver}
use Rattle.channel_spec.specs.declared.Condition.TheVariants.{Clean}
use Rattle.channel_spec.specs.Sender.{parity_bytes, word_bytes, message_bytes}
use Rattle.channel_spec.specs.Meaning.{condition_by, condition, mend}
use Rattle.channel.specs.Call.{owed_by, owes, mend_in}
use Rattle.channel_spec.proofs.Words.{condition-clean, mend-clean, never-refused, block-determined}

module _ (s : Receiver) (o : s.locked ≡ true) where
  pub owes-some : s.lock.word ≡ word_bytes → message_bytes - s.lock.handed ≡ owes s
  owes-some w = λ i. owed_by (sym o i) (sym (eq-eqb s.lock.word word_bytes w) i) s.lock.handed

  pub owes-none : (s.lock.word ≡ word_bytes → ⊥) → 0 ≡ owes s
  owes-none w = λ i. owed_by (sym o i) (sym (ne_eqb s.lock.word word_bytes w) i) s.lock.handed

true-by : (t : Bool) → pick t check.Clean check.Damaged ≡ check.Clean → true ≡ t
true-by true e = refl
true-by false e = absurd (let z : ◌≡◌ {A = ℕ} 0 1 = cc in omega arith)

false-by : (t : Bool) → pick t check.Clean check.Damaged ≡ check.Damaged → false ≡ t
false-by true e = absurd (let z : ◌≡◌ {A = ℕ} 0 1 = cc in omega arith)
false-by false e = refl

module _ (w : List ℕ) (h : length w ≡ word_bytes) (r : Checked) (e : r ≡ checked parity_bytes w) where
  is-check : r ≡ pick (clean parity_bytes w) check.Clean check.Damaged
  is-check = e ∙ checked-is parity_bytes w (omega arith) h

  pub told-clean : r ≡ check.Clean → true ≡ clean parity_bytes w
  told-clean f = true-by (clean parity_bytes w) (sym is-check ∙ f)

  pub told-damaged : r ≡ check.Damaged → false ≡ clean parity_bytes w
  told-damaged f = false-by (clean parity_bytes w) (sym is-check ∙ f)

  pub told-refused : (n : ℕ) → r ≡ check.Refused n → false ≡ clean parity_bytes w
  told-refused n f = absurd (never-refused n (clean parity_bytes w) (sym is-check ∙ f))

-- what repair finds of the word w, and leaves of it
module _ (w : List ℕ) (h : length w ≡ word_bytes) (b : Bytes w) {a x : Mended} {o : List ℕ} (p : Promised parity_bytes w a o) where
  pub told-mended : a ≡ x → (condition_by x ≡ condition w) × (o ≡ mend w)
  told-mended e =
      let s = block-determined w h b a o p in
      (ap condition_by (sym e) ∙ s.0, s.1)

-- the word at the start of the buffer k: clean ..
module _ (k : List ℕ) (h : word_bytes ≤ length k) where
  pub settled-clean : true ≡ clean parity_bytes (take word_bytes k) → (Clean ≡ condition (take word_bytes k)) × (k ≡ mend_in k)
  settled-clean e =
      let l : length (take word_bytes k) ≡ word_bytes = length-take-le word_bytes k h in (
        sym (condition-clean parity_bytes (omega arith) (take word_bytes k) l (sym e)),
        sym (take-append-drop word_bytes k) ∙ ap (λ x. x ++ drop word_bytes k) (sym (mend-clean parity_bytes (omega arith) (take word_bytes k) l (sym e))),
      )

  -- .. or lent to repair
  pub settled-mended : {y : List ℕ} → y ≡ mend (take word_bytes k) → put_mid 0 word_bytes k y ≡ mend_in k
  settled-mended e = ap (λ x. x ++ drop word_bytes k) e
